-- Products of two numbers of at most k bits fit in 2k bits.
use Prim.Native.Nat.{ℕ, ◌*◌, ◌^◌, ◌≤◌, ◌<◌}
use native.Mathlib.Omega.{arith}
use native.Mathlib.Nat.{mul-le-mul}

pub product_fits : (a b : ℕ) → a < 2 ^ 32 → b ≤ 2 ^ 32 → a * b < 2 ^ 64
product_fits a b h k =
    let p : a * b ≤ 4294967295 * 4294967296 =
    mul-le-mul {n₁ = a} {m₁ = b} {n₂ = 4294967295} {m₂ = 4294967296} (omega arith) (omega arith) in
    omega arith
