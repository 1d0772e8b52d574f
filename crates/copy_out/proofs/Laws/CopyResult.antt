-- The ways out of a copy-out, each with what it answers and what stands in the area and in the output.
use Prim.Native.Nat.{ℕ, ◌+◌, ◌/◌, ◌%◌, ◌<◌, min}
use mathlib.Core.Path.{◌≡◌, sym, ◌∙◌}
use mathlib.Core.Bool.{true, false}
use mathlib.Core.List.{List}
use native.Mathlib.Omega.{arith}
use native.Mathlib.Nat.{mod-lt}
use lib.ListN.{length}
use borrow.Author.Tests.{ne_eqb}
use Rattle.copying.specs.Copying.{overwrite}
use Rattle.std.specs.Prelude.{Result, Ok, Err, IfOk}
use Rattle.answers.specs.declared.Refusal.{Refusal}
use Rattle.answers.specs.declared.Refusal.TheVariants.{Invalid}
use Rattle.answers.specs.Refusal.{number_of}
use Rattle.answers.specs.Refusals.{first_refusal}
use Rattle.answers.proofs.Laws.{never_done}
use Rattle.geometry.specs.declared.Geometry.{Geometry}
use Rattle.geometry.specs.Geometry.{ring_of}
use Rattle.records.specs.Ring.{read_pointer, write_pointer, with_read_pointer, unread_count}
use Rattle.records.proofs.Laws.Index.{unread_unique, unread_below}
use Rattle.records.proofs.Laws.Put.{moved-read_pointer}
use Rattle.reading.specs.Reading.{is_valid_area, reading_refusal}
use Rattle.reading.proofs.Laws.Reading.{possible, sized_holds}
use Rattle.copy_out.specs.CopyOut.{bytes_from, copy_answer, copied_of, copy_of}

-- what a copy-out promises of its result, the area and the output afterwards
abbrev pub Promise : Geometry → List ℕ → ℕ → List ℕ → Result ℕ Refusal → List ℕ → List ℕ → Type 0
Promise geometry area limit out result area' out' =
    (copied_of result ≡ (copy_of geometry area limit out).copied)
    × ((area' ≡ (copy_of geometry area limit out).area)
    × ((out' ≡ (copy_of geometry area limit out).out)
    × IfOk result (λ count. count ≡ unread_count (ring_of geometry) (read_pointer area) (read_pointer area'))))

module _ (geometry : Geometry) (area : List ℕ) (limit : ℕ) (out : List ℕ) where
  refused : (refusal : Refusal) → number_of refusal ≡ copy_answer geometry area → Promise geometry area limit out (Err refusal) area out
  unfolding copy_of
  refused refusal e =
      let some = ne_eqb (number_of refusal) 0 (never_done refusal) in
      (rw (← e, some), (rw (← e, some), (rw (← e, some), tt)))

  pub copy_invalid : is_valid_area geometry (length area) ≡ false → Promise geometry area limit out (Err Invalid) area out
  unfolding first_refusal
  copy_invalid h = refused Invalid (rw h)

  module _ (ok : is_valid_area geometry (length area) ≡ true) {read write number : ℕ} (r : read ≡ read_pointer area)
      (w : write ≡ write_pointer area) (judged : number ≡ reading_refusal (ring_of geometry) read write) where
    same_answer : number ≡ copy_answer geometry area
    unfolding first_refusal reading_refusal
    same_answer = judged ∙ rw (ok, r, w)

    pub copy_refused : (refusal : Refusal) → number ≡ number_of refusal → Promise geometry area limit out (Err refusal) area out
    copy_refused refusal e = refused refusal (sym e ∙ same_answer)

    -- as many records as allowed
    module _ (none : number ≡ 0) {some few count : ℕ} (all : some ≡ unread_count (ring_of geometry) read write)
        (fewest : few ≡ min limit (length out / 8)) (least : count ≡ min some few) where
      count_below : count < (ring_of geometry).length
      count_below =
          let p = possible (ring_of geometry) read write (sym judged ∙ none) in
          omega (arith, unread_below (ring_of geometry) read write p.read_inside p.write_inside)

      -- the count is how far the read pointer moves
      movement : {next : ℕ} → next ≡ (read + count) % (ring_of geometry).length
          → count ≡ unread_count (ring_of geometry) (read_pointer area) (read_pointer (with_read_pointer area next))
      movement {next} moved =
          let p = possible (ring_of geometry) read write (sym judged ∙ none) in
          let holds = sized_holds geometry area ok in
          let high : next < (ring_of geometry).length = rw moved (mod-lt (read + count) (omega (arith, p.read_inside))) in
          let there : read_pointer (with_read_pointer area next) ≡ next
          = moved-read_pointer (ring_of geometry) area holds next (omega (arith, holds.small)) in
          rw (there, ← r) (sym (unread_unique (ring_of geometry) read count next p.read_inside count_below (sym moved)))

      pub copy_done : {next : ℕ} {area' out' : List ℕ} → next ≡ (read + count) % (ring_of geometry).length
          → area' ≡ with_read_pointer area next → out' ≡ overwrite out 0 (bytes_from (ring_of geometry) area read count)
          → Promise geometry area limit out (Ok count) area' out'
      unfolding copy_of
      copy_done moved after copied = (
        rw (← same_answer, none, ← r, ← w, ← all, ← fewest, ← least),
        (
          after ∙ rw (← same_answer, none, ← r, ← w, ← all, ← fewest, ← least, moved),
          (
            copied ∙ rw (← same_answer, none, ← r, ← w, ← all, ← fewest, ← least),
            rw after (movement moved),
          ),
        ),
      )
