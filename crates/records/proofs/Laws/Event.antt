-- Laws of an event's bytes: there are eight, they are read back, and an event depends on them alone.
use Prim.Native.Nat.{ℕ, ◌+◌, ◌≤◌}
use mathlib.Core.Path.{◌≡◌, refl, sym, ap, ◌∙◌}
use mathlib.Core.List.{List}
use native.Mathlib.Omega.{arith}
use native.Mathlib.Nat.{add-zero}
use lib.ListN.{length}
use Rattle.copying.specs.Copying.{overwrite, Agree}
use Rattle.words.specs.Words.{u16_at, u32_at, u16_bytes, u32_bytes}
use Rattle.copying.proofs.Laws.Overwrite.{overwrite_next, overwrite_whole}
use Rattle.words.proofs.Laws.Word.{agree_u16, agree_u32, u16_inside, u32_inside, u16_digits, u32_digits}
use Rattle.records.specs.Event.{EventFits, event_bytes, event_at}
use Rattle.records.specs.declared.Event.{Event}

pub event-length : (event : Event) → length (event_bytes event) ≡ 8
unfolding event_bytes
event-length event = refl

-- the three fields, written one after the other
pub fields_written : (bytes : List ℕ) (event : Event) → length bytes ≡ 8
    → overwrite (overwrite (overwrite bytes 0 (u16_bytes event.kind)) 2 (u16_bytes event.code)) 4 (u32_bytes event.value)
    ≡ event_bytes event
unfolding event_bytes
fields_written bytes event h =
    ap (λ (l : List ℕ). overwrite l 4 (u32_bytes event.value))
    (overwrite_next bytes 0 (u16_bytes event.kind) (u16_bytes event.code) (omega arith))
    ∙ overwrite_next bytes 0 _ (u32_bytes event.value) (omega arith)
    ∙ overwrite_whole bytes (event_bytes event) h

pub agree-event : (left right : List ℕ) (at : ℕ) → Agree left right at 8 → event_at left at ≡ event_at right at
unfolding event_at
agree-event left right at same =
    cc (
      agree_u16 left right at (λ i low high. same i (omega arith) (omega arith)),
      agree_u16 left right (at + 2) (λ i low high. same i (omega arith) (omega arith)),
      agree_u32 left right (at + 4) (λ i low high. same i (omega arith) (omega arith)),
    )

pub event-back : (bytes : List ℕ) (at : ℕ) (event : Event) → EventFits event → at + 8 ≤ length bytes
    → event_at (overwrite bytes at (event_bytes event)) at ≡ event
unfolding event_at event_bytes
event-back bytes at event fits h =
    let written : List ℕ = overwrite bytes at (event_bytes event) in
    let inside : at ≤ length bytes = omega arith in
    let kind : u16_at written at ≡ event.kind
    = ap (u16_at written) (sym (add-zero at)) ∙ u16_inside bytes at (event_bytes event) 0 inside (omega arith)
    ∙ u16_digits event.kind fits.kind_fits in
    let code : u16_at written (at + 2) ≡ event.code
    = u16_inside bytes at (event_bytes event) 2 inside (omega arith) ∙ u16_digits event.code fits.code_fits in
    let value : u32_at written (at + 4) ≡ event.value
    = u32_inside bytes at (event_bytes event) 4 inside (omega arith) ∙ u32_digits event.value fits.value_fits in
    λ i. record { kind = kind i; code = code i; value = value i }
