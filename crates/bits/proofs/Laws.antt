-- Laws of masks: a bit that is set or cleared is so afterwards, the others stay, and a mask stays below the power above its bits.
use Prim.Native.Nat.{ℕ, suc, ◌+◌, ◌-◌, ◌*◌, ◌/◌, ◌%◌, ◌^◌, ◌≤◌, ◌<◌}
use mathlib.Core.Path.{◌≡◌, sym, ap, ◌∙◌}
use mathlib.Core.Logic.{◌≢◌}
use mathlib.Core.Bool.{true, false}
use native.Mathlib.Omega.{arith}
use native.Mathlib.Decide.{dec_le, dec_lt}
use native.Mathlib.Nat.{add-div_right, add-mul-div_right, div-eq_of_lt, div-add-mod', mod-lt}
use native.Mathlib.Nat.{pow-suc, div-div-eq-div-mul, mul-le-mul_right, add-mul, div-lt_iff_lt-mul}
use lib.Pow.{pow_pos, pow-add, pow_mono}
use lib.Dec.{leb, ltb}
use borrow.Author.Tests.{eqb-true, eqb-false, eq-eqb, ne_eqb, le-leb, lt-leb, lt-ltb, le-ltb}
use Rattle.bits.specs.Bits.{bit, with_bit, without_bit, IsLength}

-- a clear bit is an even quotient, a set bit an odd one
pub bit_clear : (mask index : ℕ) → bit mask index ≡ false → mask / 2 ^ index % 2 ≡ 0
unfolding bit
bit_clear mask index h = omega (arith, eqb-false (mask / 2 ^ index % 2) 1 h)

pub bit-set : (mask index : ℕ) → bit mask index ≡ true → mask / 2 ^ index % 2 ≡ 1
unfolding bit
bit-set mask index h = eqb-true (mask / 2 ^ index % 2) 1 h

-- no bit at or above an index is set in a number below its power
pub bit_above : (mask limit index : ℕ) → mask < 2 ^ limit → limit ≤ index → bit mask index ≡ false
unfolding bit
bit_above mask limit index h k =
    let small : mask / 2 ^ index ≡ 0 = div-eq_of_lt (omega (arith, pow_mono {i = limit} {j = index} k)) in
    rw small

-- ---- a bit that is set

module _ (mask index : ℕ) where
  quotient : (mask + 2 ^ index) / 2 ^ index ≡ mask / 2 ^ index + 1
  quotient = add-div_right mask (pow_pos index)

  pub set_same : bit mask index ≡ false → bit (with_bit mask index) index ≡ true
  unfolding bit
  set_same h = rw quotient (eq-eqb ((mask / 2 ^ index + 1) % 2) 1 (omega (arith, bit_clear mask index h)))

  -- below, whole multiples of two are added to the quotient
  below : (other : ℕ) → other < index → (mask + 2 ^ index) / 2 ^ other % 2 ≡ mask / 2 ^ other % 2
  below other h =
      let more : ℕ = index - suc other in
      let sum : index ≡ suc more + other = omega arith in
      let power : 2 ^ index ≡ 2 ^ more * 2 * 2 ^ other =
      ap (λ (n : ℕ). 2 ^ n) sum ∙ pow-add 2 (suc more) other ∙ ap (λ (n : ℕ). n * 2 ^ other) (pow-suc 2 more) in
      rw (power, add-mul-div_right mask (2 ^ more * 2) {z = 2 ^ other} (pow_pos other)) (omega arith)

  -- above, the sum carries nothing
  above : (other : ℕ) → index < other → bit mask index ≡ false → (mask + 2 ^ index) / 2 ^ other ≡ mask / 2 ^ other
  above other h clear =
      let more : ℕ = other - suc index in
      let sum : other ≡ suc index + more = omega arith in
      let power : 2 ^ other ≡ 2 ^ index * 2 * 2 ^ more =
      ap (λ (n : ℕ). 2 ^ n) sum ∙ pow-add 2 (suc index) more ∙ ap (λ (n : ℕ). n * 2 ^ more) (pow-suc 2 index) in
      let split : (n : ℕ) → n / (2 ^ index * 2 * 2 ^ more) ≡ n / 2 ^ index / 2 / 2 ^ more
      = λ n. sym (div-div-eq-div-mul n (2 ^ index * 2) (2 ^ more))
      ∙ ap (λ (m : ℕ). m / 2 ^ more) (sym (div-div-eq-div-mul n (2 ^ index) 2)) in
      let half : (mask / 2 ^ index + 1) / 2 ≡ mask / 2 ^ index / 2 = omega (arith, bit_clear mask index clear) in
      rw (power, split (mask + 2 ^ index), split mask, quotient, half)

  pub set_other : bit mask index ≡ false → (other : ℕ) → other ≢ index → bit (with_bit mask index) other ≡ bit mask other
  unfolding bit
  set_other clear other n = elim (dec_lt other index) [
    | yes h ↦ rw (below other h)
    | no h ↦ rw (above other (omega arith) clear)
  ]

  -- a mask below a power stays below it
  pub set_below : (limit : ℕ) → mask < 2 ^ limit → index < limit → bit mask index ≡ false → with_bit mask index < 2 ^ limit
  set_below limit h k clear =
      let more : ℕ = limit - suc index in
      let sum : limit ≡ suc more + index = omega arith in
      let power : 2 ^ limit ≡ 2 ^ more * 2 * 2 ^ index =
      ap (λ (n : ℕ). 2 ^ n) sum ∙ pow-add 2 (suc more) index ∙ ap (λ (n : ℕ). n * 2 ^ index) (pow-suc 2 more) in
      let quotients : mask / 2 ^ index < 2 ^ more * 2 = (div-lt_iff_lt-mul {k = 2 ^ index} (pow_pos index)).1 (rw power at h) in
      let room : (mask / 2 ^ index + 2) * 2 ^ index ≤ 2 ^ more * 2 * 2 ^ index =
      mul-le-mul_right (2 ^ index) (omega (arith, bit_clear mask index clear)) in
      omega (arith, add-mul (mask / 2 ^ index) 2 (2 ^ index), div-add-mod' mask (2 ^ index), mod-lt mask {m = 2 ^ index} (pow_pos index))

-- ---- a bit that is cleared

module _ (mask index : ℕ) (set : bit mask index ≡ true) where
  pub clear_fits : 2 ^ index ≤ mask
  clear_fits = elim (dec_lt mask (2 ^ index)) [
    | yes h ↦ omega (arith, bit-set mask index set, div-eq_of_lt h)
    | no h ↦ omega arith
  ]

  whole : without_bit mask index + 2 ^ index ≡ mask
  whole = omega (arith, clear_fits)

  pub clear_same : bit (without_bit mask index) index ≡ false
  unfolding bit
  clear_same =
      let odd : (without_bit mask index + 2 ^ index) / 2 ^ index % 2 ≡ 1 = rw whole (bit-set mask index set) in
      ne_eqb (without_bit mask index / 2 ^ index % 2) 1 (λ e. omega (arith, odd, quotient (without_bit mask index) index))

  pub clear_other : (other : ℕ) → other ≢ index → bit (without_bit mask index) other ≡ bit mask other
  clear_other other n = sym (set_other (without_bit mask index) index clear_same other n) ∙ ap (λ (m : ℕ). bit m other) whole

  pub clear_below : (limit : ℕ) → mask < 2 ^ limit → without_bit mask index < 2 ^ limit
  clear_below limit h = omega (arith, clear_fits)

-- ---- the length of a mask

-- a length is at most a limit where no bit at or above the limit is set
pub length_limit : (mask length limit : ℕ) → IsLength mask length → leb length limit ≡ ltb mask (2 ^ limit)
length_limit mask length limit is = elim (dec_le length limit) [
  | yes low ↦ rw (le-leb length limit low, lt-ltb mask (2 ^ limit) (omega (arith, is.holds, pow_mono {i = length} {j = limit} low)))
  | no high ↦
      let more : 2 ^ suc limit ≤ 2 ^ length = pow_mono {i = suc limit} {j = length} (omega (arith, high)) in
      rw (lt-leb length limit (omega (arith, high)), le-ltb mask (2 ^ limit) (omega (arith, is.least, more, pow-suc 2 limit)))
]
