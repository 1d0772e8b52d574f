-- What reading the oldest record gives: a refusal, or the record at a read pointer that is possible.
use Prim.Native.Nat.{ℕ, ◌<◌}
use mathlib.Core.Path.{◌≡◌, refl, sym}
use mathlib.Core.Bool.{Bool, true, false}
use mathlib.Core.List.{List}
use native.Mathlib.Omega.{arith}
use lib.Dec.{eqb}
use borrow.Author.Tests.{eqb-true, eq-eqb, ne_eqb, lt-leb}
use Rattle.answers.specs.Refusals.{first_refusal}
use Rattle.geometry.specs.declared.Ring.{Ring}
use Rattle.records.specs.declared.Event.{Event}
use Rattle.records.specs.Ring.{read_pointer, write_pointer}
use Rattle.records.specs.Unread.{record_at, SameToDriver}
use Rattle.records.proofs.Laws.Unknown.{same_read_pointer, same_write_pointer, same_record}
use Rattle.reading.specs.Reading.{reading_refusal}
use Rattle.reading.specs.Oldest.{oldest_of}
use Rattle.reading.specs.Oldest.{Record, Refused}
use Rattle.reading.proofs.Laws.Reading.{Possible, possible}

module _ (ring : Ring) (area : List ℕ) where
  -- ---- by the number of the refusal

  pub oldest_refused : {read write number : ℕ} → read ≡ read_pointer area → write ≡ write_pointer area
      → number ≡ reading_refusal ring read write → (number ≡ 0 → ⊥) → Refused number ≡ oldest_of ring area
  unfolding oldest_of
  oldest_refused r w e n = rw (← r, ← w, ← e, ne_eqb _ 0 n)

  pub oldest_read : {read write number : ℕ} {event : Event} → read ≡ read_pointer area → write ≡ write_pointer area
      → number ≡ reading_refusal ring read write → number ≡ 0 → event ≡ record_at ring area read → Record read event ≡ oldest_of ring area
  unfolding oldest_of
  oldest_read r w e none v = rw (v, ← r, ← w, ← e, none)

  -- what is read is read at the read pointer
  pub oldest_index : {index : ℕ} {event : Event} → oldest_of ring area ≡ Record index event
      → (index ≡ read_pointer area) × (index < ring.length)
  unfolding oldest_of
  oldest_index {index} {event} e = go (eqb (reading_refusal ring (read_pointer area) (write_pointer area)) 0) refl
    where
      go : (test : Bool) → eqb (reading_refusal ring (read_pointer area) (write_pointer area)) 0 ≡ test
          → (index ≡ read_pointer area) × (index < ring.length)
      go true t =
          let same : read_pointer area ≡ index = cc (rw t at e) in
          (sym same, rw (← same) (possible ring (read_pointer area) (write_pointer area) (eqb-true _ 0 t)).read_inside)
      go false t =
          let z : ◌≡◌ {A = ℕ} 0 1 = cc (rw t at e) in
          absurd (omega arith)

  -- ---- by the pointers

  pub oldest_none : read_pointer area < ring.length → read_pointer area ≡ write_pointer area → oldest_of ring area ≡ Refused 11
  unfolding oldest_of reading_refusal first_refusal
  oldest_none low e =
      let low-too : write_pointer area < ring.length = rw (← e) low in
      rw (lt-leb ring.length (read_pointer area) low, lt-leb ring.length (write_pointer area) low-too, eq-eqb _ _ e)

  pub oldest_some : Possible ring (read_pointer area) (write_pointer area)
      → oldest_of ring area ≡ Record (read_pointer area) (record_at ring area (read_pointer area))
  unfolding oldest_of reading_refusal first_refusal
  oldest_some p =
      rw (
        lt-leb ring.length (read_pointer area) p.read_inside,
        lt-leb ring.length (write_pointer area) p.write_inside,
        ne_eqb (read_pointer area) (write_pointer area) p.some_unread,
      )

-- areas that are the same to a driver have the same oldest record
pub same_oldest : (ring : Ring) (left right : List ℕ) → 0 < ring.length → SameToDriver ring left right
    → oldest_of ring left ≡ oldest_of ring right
unfolding oldest_of
same_oldest ring left right some same =
    rw (
      same_read_pointer ring left right same,
      same_write_pointer ring left right same,
      same_record ring left right same some (read_pointer right),
    )
