-- What holds of both ways of a choice holds of the choice.
use mathlib.Core.Path.{◌≡◌, refl}
use mathlib.Core.Bool.{Bool, true, false, cond}

pub either : {A : Type 0} (P : A → Type 0) (test : Bool) {one other : A} → (test ≡ true → P one) → (test ≡ false → P other)
    → P (cond test one other)
either P true holds fails = holds refl
either P false holds fails = fails refl
