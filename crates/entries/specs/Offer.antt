-- Which events an entry offers (01, "Writing records"): the type's evbits bit is set, and the code is one that may be sent of its type.
-- Only ABS and KEY consult a mask of codes.
use Rattle.std.specs.Prelude.{ℕ, ◌-◌, ◌/◌, ◌%◌, Bool, false, ◌&&◌, cond, List, leb, ltb, eqb}
use Rattle.bits.specs.Bits.{bit}
use Rattle.records.specs.declared.Event.{Event}
use Rattle.records.specs.Codes.{ev_syn, ev_key, ev_rel, ev_abs, syn_mt_report}
use Rattle.entries.specs.Entry.{evbits, absbits, btnbits}

-- Bit i of a mask of several words is bit i modulo 32 of word i / 32.
abbrev pub absolute_bit : List ℕ → ℕ → Bool
absolute_bit entry code = bit (absbits entry (code / 32)) (code % 32)

-- The mask of buttons starts at code 0x100.
abbrev pub button_bit : List ℕ → ℕ → Bool
button_bit entry code = bit (btnbits entry ((code - 0x100) / 32)) ((code - 0x100) % 32)

-- SYN with SYN_MT_REPORT; KEY with code 0x100 to 0x15F and its button bit; REL with code below 32; ABS with code below 64 and its bit.
unfoldable pub offers_code : List ℕ → ℕ → ℕ → Bool
offers_code entry kind code =
    cond (eqb kind ev_syn) (eqb code syn_mt_report)
    (cond (eqb kind ev_key) (leb 0x100 code && (leb code 0x15F && button_bit entry code))
    (cond (eqb kind ev_rel) (ltb code 32)
    (cond (eqb kind ev_abs) (ltb code 64 && absolute_bit entry code) false)))

unfoldable pub is_offered : List ℕ → Event → Bool
is_offered entry event = offers_code entry event.kind event.code && bit (evbits entry) event.kind
