-- The quicker offer test (02, E2): for every entry, type and code, one bit of one word answers what going through all codes that the
-- entry offers would answer.
use Rattle.std.specs.Prelude.{ℕ, zero, suc, ◌≡◌, Bool, true, false, ◌||◌, cond, List, [], ◌∷◌, eqb}
use Rattle.bits.specs.Bits.{bit}
use Rattle.records.specs.declared.Event.{Event}
use Rattle.records.specs.Codes.{ev_syn, ev_key, ev_rel, ev_abs, syn_mt_report}
use Rattle.entries.specs.Entry.{evbits}
use Rattle.entries.specs.Offer.{absolute_bit, button_bit, is_offered}

-- Of so many codes from a first one on, those whose bit is set.
unfoldable pub codes_from : (ℕ → Bool) → ℕ → ℕ → List ℕ
codes_from is_set first zero = []
codes_from is_set first (suc count) =
    cond (is_set first) (first ∷ codes_from is_set (suc first) count) (codes_from is_set (suc first) count)

-- All codes of a type that an entry offers (01, "Writing records"). Without the type's evbits bit there are none. SYN has one, KEY those of
-- 0x100 to 0x15F that have a bit, REL all below 32, ABS those below 64 that have a bit, and any other type none.
unfoldable pub offered_codes : List ℕ → ℕ → List ℕ
offered_codes entry kind =
    cond (bit (evbits entry) kind)
    (cond (eqb kind ev_syn) (syn_mt_report ∷ [])
    (cond (eqb kind ev_key) (codes_from (button_bit entry) 0x100 0x60)
    (cond (eqb kind ev_rel) (codes_from (λ _. true) 0 32)
    (cond (eqb kind ev_abs) (codes_from (absolute_bit entry) 0 64) []))))
    []

-- Whether a code is one of them, asked one after the other.
unfoldable pub is_among : ℕ → List ℕ → Bool
is_among code [] = false
is_among code (first ∷ rest) = eqb code first || is_among code rest

abbrev pub QuickerOfferTest : Type 0
QuickerOfferTest = (entry : List ℕ) (event : Event) → is_offered entry event ≡ is_among event.code (offered_codes entry event.kind)
