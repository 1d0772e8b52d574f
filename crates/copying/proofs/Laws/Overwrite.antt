-- Laws of a buffer with a stretch replaced: its length, what stands inside the stretch, and that the rest stays.
use Prim.Native.Nat.{ℕ, ◌+◌, ◌-◌, ◌≤◌, ◌<◌}
use mathlib.Core.Path.{◌≡◌, sym, ap, ◌∙◌}
use mathlib.Core.List.{List, [], ◌∷◌, ◌++◌, append_assoc, append-nil}
use native.Mathlib.Omega.{arith}
use native.Mathlib.Nat.{add_assoc}
use native.Mathlib.Numerals.{add-one}
use lib.ListN.{length, get_or, take, drop, set, length-append, length-take}
use lib.ListN.{length-drop, take-append-drop, drop_of_length-le, get_or-append}
use lib.Seq.{set_split, get_or-append-add, get_or-take, get_or-drop}
use lib.Seq.{length-take-le, take-append-le, take-take, take_at, drop_at, drop-drop}
use Rattle.copying.specs.Copying.{overwrite, Agree}

-- what a part that was lent and filled leaves
pub lent : (bytes : List ℕ) {part stretch : List ℕ} (at : ℕ) → part ≡ stretch
    → take at bytes ++ (part ++ drop (at + length stretch - at) (drop at bytes)) ≡ overwrite bytes at stretch
unfolding overwrite
lent bytes {stretch = stretch} at e =
    let n : at + length stretch - at ≡ length stretch = omega arith in
    rw (e, n)

-- the same, of a part whose length is known by an equation
pub lent_part : (bytes : List ℕ) {part stretch : List ℕ} (at count : ℕ) → count ≡ length stretch → part ≡ stretch
    → take at bytes ++ (part ++ drop (at + count - at) (drop at bytes)) ≡ overwrite bytes at stretch
lent_part bytes at count size e = rw size (lent bytes at e)

module _ (bytes : List ℕ) (at : ℕ) (stretch : List ℕ) where
  pub overwrite-length : at + length stretch ≤ length bytes → length (overwrite bytes at stretch) ≡ length bytes
  unfolding overwrite
  overwrite-length h = simp (length-append, length-take, length-drop) (omega arith)

  pub overwrite_inside : (i : ℕ) → at ≤ length bytes → i < length stretch
      → get_or (overwrite bytes at stretch) (at + i) 0 ≡ get_or stretch i 0
  unfolding overwrite
  overwrite_inside i h k =
      ap (λ (n : ℕ). get_or (overwrite bytes at stretch) (n + i) 0) (sym (length-take-le at bytes h))
      ∙ get_or-append-add (take at bytes) (stretch ++ drop (length stretch) (drop at bytes)) i 0
      ∙ get_or-append stretch (drop (length stretch) (drop at bytes)) 0 i k

  pub overwrite-before : (from count : ℕ) → at ≤ length bytes → from + count ≤ at → Agree (overwrite bytes at stretch) bytes from count
  unfolding overwrite
  overwrite-before from count h k i low high =
      let e : length (take at bytes) ≡ at = length-take-le at bytes h in
      get_or-append (take at bytes) (stretch ++ drop (length stretch) (drop at bytes)) 0 i (omega arith)
      ∙ get_or-take at bytes i 0 (omega arith)

  pub overwrite-after : (from count : ℕ) → at ≤ length bytes → at + length stretch ≤ from
      → Agree (overwrite bytes at stretch) bytes from count
  unfolding overwrite
  overwrite-after from count h k i low high =
      let e : length (take at bytes) ≡ at = length-take-le at bytes h in
      let n : ℕ = i - at - length stretch in
      ap (λ (m : ℕ). get_or (overwrite bytes at stretch) m 0) (omega arith)
      ∙ get_or-append-add (take at bytes) (stretch ++ drop (length stretch) (drop at bytes)) (length stretch + n) 0
      ∙ get_or-append-add stretch (drop (length stretch) (drop at bytes)) n 0
      ∙ get_or-drop (length stretch) (drop at bytes) n 0
      ∙ get_or-drop at bytes (length stretch + n) 0
      ∙ ap (λ (m : ℕ). get_or bytes m 0) (omega arith)

-- a stretch that fills the buffer
pub overwrite_whole : (bytes stretch : List ℕ) → length bytes ≡ length stretch → overwrite bytes 0 stretch ≡ stretch
unfolding overwrite
overwrite_whole bytes stretch h = rw (drop_of_length-le bytes {i = length stretch} (omega arith)) (append-nil stretch)

-- two stretches, one right after the other
pub overwrite_next : (bytes : List ℕ) (at : ℕ) (first second : List ℕ) → at + length first ≤ length bytes
    → overwrite (overwrite bytes at first) (at + length first) second ≡ overwrite bytes at (first ++ second)
unfolding overwrite
overwrite_next bytes at first second h =
    let front : List ℕ = take at bytes ++ first in
    let rest : List ℕ = drop (length first) (drop at bytes) in
    let n : length front ≡ at + length first =
    length-append (take at bytes) first ∙ ap (λ (k : ℕ). k + length first) (length-take-le at bytes (omega arith)) in
    let whole : take at bytes ++ (first ++ rest) ≡ front ++ rest = sym (append_assoc (take at bytes) first rest) in
    let back : drop (length second) rest ≡ drop (length (first ++ second)) (drop at bytes) =
    drop-drop (length second) (length first) (drop at bytes)
    ∙ ap (λ (k : ℕ). drop k (drop at bytes)) (sym (length-append first second)) in
    rw (whole, take_at front rest (at + length first) n, drop_at front rest (at + length first) n, back, append_assoc, append_assoc)

-- an empty stretch
pub overwrite-nothing : (bytes : List ℕ) (at : ℕ) → overwrite bytes at [] ≡ bytes
unfolding overwrite
overwrite-nothing bytes at = take-append-drop at bytes

-- a stretch of one byte is a store
pub overwrite_one : (bytes : List ℕ) (at value : ℕ) → at < length bytes → overwrite bytes at (value ∷ []) ≡ set bytes at value
unfolding overwrite
overwrite_one bytes at value h = rw (set_split bytes at value h, drop-drop 1 at bytes, add-one at)

-- two stretches, the first right before the one that was written already
pub overwrite_previous : (bytes : List ℕ) (at : ℕ) (first second : List ℕ) → at + length first ≤ length bytes
    → overwrite (overwrite bytes (at + length first) second) at first ≡ overwrite bytes at (first ++ second)
unfolding overwrite
overwrite_previous bytes at first second h =
    let middle : ℕ = at + length first in
    let front : List ℕ = take middle bytes in
    let back : List ℕ = second ++ drop (length second) (drop middle bytes) in
    let n : length front ≡ middle = length-take-le middle bytes h in
    let before : take at (front ++ back) ≡ take at bytes =
    take-append-le at front back (omega arith) ∙ take-take at middle bytes (omega arith) in
    let after : drop (length first) (drop at (front ++ back)) ≡ back =
    drop-drop (length first) at (front ++ back) ∙ drop_at front back middle n in
    let rest : drop (length (first ++ second)) (drop at bytes) ≡ drop (length second) (drop middle bytes) =
    rw (length-append, drop-drop (length first + length second) at bytes, drop-drop, add_assoc) in
    rw (before, after, rest, append_assoc)
