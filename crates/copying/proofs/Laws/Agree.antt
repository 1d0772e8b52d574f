-- Buffers that agree hold the same stretch.
use Prim.Native.Nat.{ℕ, ◌+◌, ◌≤◌}
use mathlib.Core.Path.{◌≡◌, sym, ◌∙◌}
use mathlib.Core.List.{List}
use native.Mathlib.Omega.{arith}
use lib.ListN.{length, take, drop, length-drop}
use lib.Seq.{ext_get_or, get_or-take, get_or-drop, length-take-le}
use Rattle.copying.specs.Copying.{Agree}

pub agree_stretch : (left right : List ℕ) (at count : ℕ) → Agree left right at count → at + count ≤ length left → at + count ≤ length right
    → take count (drop at left) ≡ take count (drop at right)
agree_stretch left right at count same l r =
    let n : length (take count (drop at left)) ≡ count = length-take-le count (drop at left) (rw length-drop (omega arith)) in
    let m : length (take count (drop at right)) ≡ count = length-take-le count (drop at right) (rw length-drop (omega arith)) in
    ext_get_or 0 (take count (drop at left)) (take count (drop at right)) (n ∙ sym m)
    (λ i h. rw (
      get_or-take count (drop at left) i 0 (omega arith),
      get_or-take count (drop at right) i 0 (omega arith),
      get_or-drop,
      get_or-drop,
    )
    (same (at + i) (omega arith) (omega arith)))
