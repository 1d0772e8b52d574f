-- Events that stand one after the other: how many, each by its number, and one more written behind them.
use Prim.Native.Nat.{ℕ, zero, suc, ◌+◌, ◌*◌, ◌≤◌, ◌<◌}
use mathlib.Core.Path.{◌≡◌, refl, sym, ap, ◌∙◌}
use mathlib.Core.List.{List, [], ◌∷◌, ◌++◌}
use native.Mathlib.Omega.{arith}
use native.Mathlib.Nat.{add-zero}
use lib.ListN.{length, get_or}
use Rattle.copying.specs.Copying.{overwrite}
use Rattle.words.specs.Words.{IsBytes}
use Rattle.copying.proofs.Laws.Overwrite.{overwrite-before}
use Rattle.records.specs.Event.{EventFits, AllFit, event_bytes, event_at, events_from}
use Rattle.records.specs.declared.Event.{Event}
use Rattle.records.proofs.Laws.Event.{agree-event, event-back}

pub events_length : (bytes : List ℕ) (at count : ℕ) → length (events_from bytes at count) ≡ count
unfolding events_from
events_length bytes at zero = refl
events_length bytes at (suc count) = ap suc (events_length bytes (at + 8) count)

pub event-number : (bytes : List ℕ) (at count i : ℕ) (none : Event) → i < count
    → get_or (events_from bytes at count) i none ≡ event_at bytes (at + i * 8)
unfolding events_from
event-number bytes at zero i none low = absurd (omega arith)
event-number bytes at (suc count) zero none low = ap (event_at bytes) (sym (add-zero at))
event-number bytes at (suc count) (suc i) none low =
    let e : at + 8 + i * 8 ≡ at + suc i * 8 = omega arith in
    event-number bytes (at + 8) count i none (omega arith) ∙ ap (event_at bytes) e

pub events_joined : (bytes : List ℕ) (at count : ℕ) (event : Event) → EventFits event → at + count * 8 + 8 ≤ length bytes
    → events_from (overwrite bytes (at + count * 8) (event_bytes event)) at (suc count) ≡ events_from bytes at count ++ (event ∷ [])
unfolding events_from
events_joined bytes at zero event fits room =
    let e : at + 0 ≡ at = add-zero at in
    rw e (ap (λ (x : Event). x ∷ []) (event-back bytes at event fits (omega arith)))
events_joined bytes at (suc count) event fits room =
    let e : at + suc count * 8 ≡ at + 8 + count * 8 = omega arith in
    let first : event_at (overwrite bytes (at + suc count * 8) (event_bytes event)) at ≡ event_at bytes at
    = agree-event _ bytes at (overwrite-before bytes (at + suc count * 8) (event_bytes event) at 8 (omega arith) (omega arith)) in
    let rest = events_joined bytes (at + 8) count event fits (omega arith) in
    cc (first, ap (λ (place : ℕ). events_from (overwrite bytes place (event_bytes event)) (at + 8) (suc count)) e ∙ rest)

-- ---- any bytes are events whose numbers fit

event_fits : (bytes : List ℕ) (at : ℕ) → IsBytes bytes → EventFits (event_at bytes at)
unfolding event_at
event_fits bytes at small =
    record {
      kind_fits = omega (arith, small at, small (at + 1));
      code_fits =
          omega (arith, small (at + 2), small (at + 2 + 1));
      value_fits =
          omega (arith, small (at + 4), small (at + 4 + 1), small (at + 4 + 2), small (at + 4 + 3));
    }

pub events_fit : (bytes : List ℕ) (at count : ℕ) → IsBytes bytes → AllFit (events_from bytes at count)
unfolding events_from
events_fit bytes at zero small = tt
events_fit bytes at (suc count) small = (event_fits bytes at small, events_fit bytes (at + 8) count small)
