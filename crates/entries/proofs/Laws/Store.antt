-- An entry's stretch of the page, lent to be filled or zeroed.
use Prim.Native.Nat.{ℕ, ◌+◌, ◌-◌, ◌≤◌}
use mathlib.Core.Path.{◌≡◌, sym, ap, ◌∙◌}
use mathlib.Core.List.{List, ◌++◌}
use native.Mathlib.Omega.{arith}
use lib.ListN.{length, take, drop, replicate, length-drop, length-replicate}
use lib.Seq.{length-take-le}
use Rattle.copying.specs.Copying.{overwrite}
use Rattle.copying.proofs.Laws.Overwrite.{lent_part, overwrite_whole}
use Rattle.geometry.specs.declared.Geometry.{Geometry}
use Rattle.geometry.specs.Geometry.{entry_place}
use Rattle.entries.specs.Entry.{with_entry, without_entry}

module _ (geometry : Geometry) (page : List ℕ) (slot : ℕ) {start : ℕ} (place : start ≡ entry_place geometry slot)
    (inside : start + geometry.entry_size ≤ length page) where
  -- the stretch that is lent
  lent : List ℕ
  lent = take (start + geometry.entry_size - start) (drop start page)

  lent_length : length lent ≡ geometry.entry_size
  unfolding lent
  lent_length =
      let n : start + geometry.entry_size - start ≡ geometry.entry_size = omega arith in
      rw n (length-take-le geometry.entry_size (drop start page) (rw length-drop (omega arith)))

  -- what stands in the page once the stretch is as wanted
  filled : {part stretch : List ℕ} → geometry.entry_size ≡ length stretch → part ≡ stretch
      → take start page ++ (part ++ drop (start + geometry.entry_size - start) (drop start page)) ≡ with_entry geometry slot stretch page
  filled {stretch = stretch} size e =
      lent_part page start geometry.entry_size size e ∙ ap (λ (at : ℕ). overwrite page at stretch) place

  pub entry_stored : (entry : List ℕ) {part : List ℕ} → length entry ≡ geometry.entry_size
      → part ≡ overwrite (take (start + geometry.entry_size - start) (drop start page)) 0 entry
      → take start page ++ (part ++ drop (start + geometry.entry_size - start) (drop start page)) ≡ with_entry geometry slot entry page
  unfolding lent
  entry_stored entry size e = filled (sym size) (e ∙ overwrite_whole lent entry (lent_length ∙ sym size))

  pub entry_cleared : {part : List ℕ} → part ≡ replicate (length (take (start + geometry.entry_size - start) (drop start page))) 0
      → take start page ++ (part ++ drop (start + geometry.entry_size - start) (drop start page)) ≡ without_entry geometry slot page
  unfolding lent
  entry_cleared e =
      filled (sym (length-replicate geometry.entry_size 0)) (e ∙ ap (λ (n : ℕ). replicate n 0) lent_length)
