-- What was stored is read back: an entry's known bytes by its own slot, nothing of it by another, and none once it is zeroed.
use Prim.Native.Nat.{ℕ, ◌+◌, ◌*◌, ◌≤◌, ◌<◌}
use mathlib.Core.Path.{◌≡◌, refl, ap, ◌∙◌}
use mathlib.Core.Bool.{true, false}
use mathlib.Core.List.{List}
use mathlib.Core.Logic.{◌≢◌}
use native.Mathlib.Omega.{arith}
use native.Mathlib.Nat.{mul-le-mul_left, mul-add, mul-one}
use native.Mathlib.Decide.{dec_lt}
use lib.Dec.{eqb, ltb}
use lib.ListN.{length, get_or, take, replicate, length-replicate, get_or-replicate}
use lib.Seq.{length-take-le, drop_at, take-append-le, get_or-take}
use borrow.Author.Tests.{eq-eqb, lt-ltb}
use Rattle.bits.specs.Bits.{bit}
use Rattle.copying.specs.Copying.{overwrite}
use Rattle.words.specs.Words.{u32_at}
use Rattle.copying.proofs.Laws.Overwrite.{overwrite-length, overwrite-before, overwrite-after}
use Rattle.copying.proofs.Laws.Agree.{agree_stretch}
use Rattle.words.proofs.Laws.Word.{agree_u32}
use Rattle.answers.specs.Refusals.{first_refusal}
use Rattle.geometry.specs.declared.Geometry.{Geometry}
use Rattle.geometry.specs.Geometry.{allowed, slot_count, entry_place}
use Rattle.geometry.proofs.Laws.Allowed.{sizes}
use Rattle.geometry.proofs.Laws.Slots.{entry_inside}
use Rattle.entries.specs.Entry.{is_present, entry_at, with_entry, without_entry}
use Rattle.entries.specs.Lookup.{lookup_answer, lookup_part}

no_bit : bit 0 0 ≡ false
unfolding bit
no_bit = refl

-- an entry's masks stand in its known bytes
known_present : (entry : List ℕ) → is_present (take 68 entry) ≡ is_present entry
known_present entry = ap (λ (evbits : ℕ). bit evbits 0)
    (agree_u32 (take 68 entry) entry 40 (λ i low high. get_or-take 68 entry i 0 (omega arith)))

module _ (geometry : Geometry) (ok : allowed geometry ≡ true) (page : List ℕ) (size : length page ≡ 4096) (slot : ℕ)
    (inside : slot < slot_count geometry) where
  ends : entry_place geometry slot + geometry.entry_size ≤ 4096
  ends = entry_inside geometry (sizes geometry ok) slot inside

  module _ (entry : List ℕ) (whole : length entry ≡ geometry.entry_size) where
    pub entry-back : entry_at geometry (with_entry geometry slot entry page) slot ≡ take 68 entry
    unfolding overwrite
    entry-back =
        let front : length (take (entry_place geometry slot) page) ≡ entry_place geometry slot =
        length-take-le (entry_place geometry slot) page (omega (arith, ends)) in
        ap (take 68) (drop_at (take (entry_place geometry slot) page) _ (entry_place geometry slot) front)
        ∙ take-append-le 68 entry _ (omega (arith, (sizes geometry ok).entry_low))

    -- another slot's entry stays
    pub entry_other : (other : ℕ) → other < slot_count geometry → other ≢ slot
        → entry_at geometry (with_entry geometry slot entry page) other ≡ entry_at geometry page other
    entry_other other low apart =
        let s = sizes geometry ok in
        let place : ℕ = entry_place geometry slot in
        let there : entry_place geometry other + geometry.entry_size ≤ 4096 = entry_inside geometry s other low in
        let after : length (with_entry geometry slot entry page) ≡ length page = overwrite-length page place entry (omega (arith, ends)) in
        agree_stretch (with_entry geometry slot entry page) page (entry_place geometry other) 68
        (elim (dec_lt other slot) [
          | yes below ↦ overwrite-before page place entry (entry_place geometry other) 68 (omega (arith, ends))
              (omega (arith, before other slot below, s.entry_low))
          | no above ↦ overwrite-after page place entry (entry_place geometry other) 68 (omega (arith, ends))
              (omega (arith, before slot other (further above)))
        ])
        (omega (arith, s.entry_low))
        (omega (arith, s.entry_low))
      where
        -- an entry ends before the next begins
        before : (first second : ℕ) → first < second → entry_place geometry first + geometry.entry_size ≤ entry_place geometry second
        before first second h =
            let k : geometry.entry_size * (first + 1) ≤ geometry.entry_size * second =
            mul-le-mul_left geometry.entry_size (omega arith) in
            omega (arith, mul-add geometry.entry_size first 1, mul-one geometry.entry_size)

        further : (other < slot → ⊥) → slot < other
        further h = elim (dec_lt slot other) [
          | yes k ↦ k
          | no k ↦ absurd (apart (omega arith))
        ]

    -- what was added is looked up
    pub lookup-back : is_present entry ≡ true
        → (lookup_answer geometry (with_entry geometry slot entry page) slot ≡ 0)
        × (lookup_part geometry (with_entry geometry slot entry page) slot ≡ take 68 entry)
    unfolding first_refusal
    lookup-back there =
        let after : length (with_entry geometry slot entry page) ≡ 4096 =
        overwrite-length page (entry_place geometry slot) entry (omega (arith, ends)) ∙ size in
        let found : is_present (entry_at geometry (with_entry geometry slot entry page) slot) ≡ true =
        ap is_present entry-back ∙ known_present entry ∙ there in
        let long : eqb (length (with_entry geometry slot entry page)) 4096 ≡ true =
        eq-eqb (length (with_entry geometry slot entry page)) 4096 after in
        let low : ltb slot (slot_count geometry) ≡ true = lt-ltb slot (slot_count geometry) inside in
        (rw (ok, long, low, found), rw (ok, long, low, found) entry-back)

  -- what was removed is absent
  pub removed_absent : is_present (entry_at geometry (without_entry geometry slot page) slot) ≡ false
  removed_absent =
      let zeros : List ℕ = replicate geometry.entry_size 0 in
      let s = sizes geometry ok in
      ap is_present (entry-back zeros (length-replicate geometry.entry_size 0)) ∙ known_present zeros
      ∙ ap (λ (evbits : ℕ). bit evbits 0) (none zeros (λ i h. get_or-replicate geometry.entry_size i 0 0 (omega (arith, s.entry_low))))
      ∙ no_bit
    where
      none : (bytes : List ℕ) → ((i : ℕ) → i < 68 → get_or bytes i 0 ≡ 0) → u32_at bytes 40 ≡ 0
      none bytes zero = omega (arith, zero 40 (omega arith), zero 41 (omega arith), zero 42 (omega arith), zero 43 (omega arith))
