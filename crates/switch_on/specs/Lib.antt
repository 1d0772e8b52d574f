pub mod SwitchOn
