-- Types and codes of records (01, "Writing records"), by Linux's names, and the records that the device itself makes.
use Rattle.std.specs.Prelude.{ℕ}
use Rattle.records.specs.declared.Event.{Event}

abbrev pub ev_syn : ℕ
ev_syn = 0

abbrev pub ev_key : ℕ
ev_key = 1

abbrev pub ev_rel : ℕ
ev_rel = 2

abbrev pub ev_abs : ℕ
ev_abs = 3

abbrev pub ev_dev : ℕ
ev_dev = 6

abbrev pub syn_report : ℕ
syn_report = 0

abbrev pub syn_mt_report : ℕ
syn_mt_report = 2

abbrev pub syn_dropped : ℕ
syn_dropped = 3

abbrev pub rel_x : ℕ
rel_x = 0x00

abbrev pub rel_y : ℕ
rel_y = 0x01

abbrev pub rel_wheel : ℕ
rel_wheel = 0x08

abbrev pub abs_x : ℕ
abs_x = 0x00

abbrev pub abs_y : ℕ
abs_y = 0x01

abbrev pub btn_left : ℕ
btn_left = 0x110

abbrev pub btn_right : ℕ
btn_right = 0x111

abbrev pub btn_middle : ℕ
btn_middle = 0x112

abbrev pub dev_set : ℕ
dev_set = 1

abbrev pub dev_conf : ℕ
dev_conf = 2

abbrev pub dev_reset : ℕ
dev_reset = 3

-- The slots that have no entry: none, and unknown source.
abbrev pub no_slot : ℕ
no_slot = 0xFFFFFFFE

abbrev pub unknown_slot : ℕ
unknown_slot = 0xFFFFFFFF

-- DEV_RESET of this value is of all slots.
abbrev pub all_slots : ℕ
all_slots = 0xFFFF

-- SYN records have value 0; DEV records have a slot.
abbrev pub syn_record : ℕ → Event
syn_record code = record { kind = ev_syn; code = code; value = 0 }

abbrev pub dev_record : ℕ → ℕ → Event
dev_record code slot = record { kind = ev_dev; code = code; value = slot }
