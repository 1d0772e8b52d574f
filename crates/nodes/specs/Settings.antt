-- The settings that nodes have given so far (01, "kbdif ring and nodes").
use Rattle.std.specs.Prelude.{ℕ, Bool, true, false, cond, eqb}
use Rattle.node_names.specs.declared.FlagName.{FlagName}
use Rattle.node_names.specs.declared.FlagName.TheVariants.{FeatureDisableKeyboard, FeatureDisablePointer}
use Rattle.node_names.specs.declared.FlagName.TheVariants.{FeatureAbsPointer, FeatureMultiTouch, FeatureRawPointer}
use Rattle.node_names.specs.declared.FlagName.TheVariants.{RequestAbsPointer, RequestMultiTouch, RequestRawPointer}
use Rattle.node_names.specs.declared.NumberName.{NumberName}
use Rattle.node_names.specs.declared.NumberName.TheVariants.{Width, Height, Contacts, TouchWidth, TouchHeight}
use Rattle.node_names.specs.Names.{flag_index, number_index}
use Rattle.nodes.specs.declared.Parameter.{Parameter}
use Rattle.nodes.specs.declared.Settings.{Settings}

-- A number that no node has given.
abbrev pub absent : Parameter
absent = record { given = false; value = 0 }

abbrev pub given : ℕ → Parameter
given value = record { given = true; value = value }

-- Before any node: an absent flag is 0, and no number is given.
abbrev pub fresh_settings : Settings
fresh_settings = record {
  feature_disable_keyboard = false;
  feature_disable_pointer = false;
  feature_abs_pointer = false;
  feature_multi_touch = false;
  feature_raw_pointer = false;
  request_abs_pointer = false;
  request_multi_touch = false;
  request_raw_pointer = false;
  width = absent;
  height = absent;
  contacts = absent;
  touch_width = absent;
  touch_height = absent;
}

-- The settings with one flag replaced.
unfoldable pub with_flag : Settings → FlagName → Bool → Settings
with_flag settings name value =
    let replaced : FlagName → Bool → Bool = λ this before. cond (eqb (flag_index name) (flag_index this)) value before in
    record {
      feature_disable_keyboard = replaced FeatureDisableKeyboard settings.feature_disable_keyboard;
      feature_disable_pointer = replaced FeatureDisablePointer settings.feature_disable_pointer;
      feature_abs_pointer = replaced FeatureAbsPointer settings.feature_abs_pointer;
      feature_multi_touch = replaced FeatureMultiTouch settings.feature_multi_touch;
      feature_raw_pointer = replaced FeatureRawPointer settings.feature_raw_pointer;
      request_abs_pointer = replaced RequestAbsPointer settings.request_abs_pointer;
      request_multi_touch = replaced RequestMultiTouch settings.request_multi_touch;
      request_raw_pointer = replaced RequestRawPointer settings.request_raw_pointer;
      width = settings.width;
      height = settings.height;
      contacts = settings.contacts;
      touch_width = settings.touch_width;
      touch_height = settings.touch_height;
    }

-- The settings with one number replaced.
unfoldable pub with_number : Settings → NumberName → ℕ → Settings
with_number settings name value =
    let replaced : NumberName → Parameter → Parameter =
    λ this before. cond (eqb (number_index name) (number_index this)) (given value) before in
    record {
      feature_disable_keyboard = settings.feature_disable_keyboard;
      feature_disable_pointer = settings.feature_disable_pointer;
      feature_abs_pointer = settings.feature_abs_pointer;
      feature_multi_touch = settings.feature_multi_touch;
      feature_raw_pointer = settings.feature_raw_pointer;
      request_abs_pointer = settings.request_abs_pointer;
      request_multi_touch = settings.request_multi_touch;
      request_raw_pointer = settings.request_raw_pointer;
      width = replaced Width settings.width;
      height = replaced Height settings.height;
      contacts = replaced Contacts settings.contacts;
      touch_width = replaced TouchWidth settings.touch_width;
      touch_height = replaced TouchHeight settings.touch_height;
    }
