-- The taken slots, rising: one more, how many there are, and how they are counted.
use Prim.Native.Nat.{ℕ, zero, suc, ◌+◌, ◌-◌, ◌≤◌, ◌<◌, ◌^◌}
use mathlib.Core.Path.{◌≡◌, refl, sym, ◌∙◌}
use mathlib.Core.Bool.{Bool, true, false, cond}
use mathlib.Core.List.{List, [], ◌∷◌, ◌++◌, map}
use native.Mathlib.Omega.{arith}
use native.Mathlib.Nat.{add-zero, add_assoc}
use native.Mathlib.Numerals.{add-one}
use lib.ListN.{length}
use Rattle.bits.specs.Bits.{bit}
use Rattle.records.specs.declared.Event.{Event}
use Rattle.records.specs.Event.{AllFit}
use Rattle.records.specs.Codes.{dev_conf, dev_record}
use Rattle.bits.specs.Bits.{bit_of}
use Rattle.switch_on.specs.SwitchOn.{taken_from}

-- DEV_CONF of the taken ones of so many slots
abbrev pub slot_records : ℕ → ℕ → ℕ → List Event
slot_records taken slot count = map (dev_record dev_conf) (taken_from taken slot count)

-- DEV_CONF of a slot, if it is taken
abbrev pub slot_record : ℕ → ℕ → List Event
slot_record taken slot = cond (bit taken slot) (dev_record dev_conf slot ∷ []) []

module _ (taken : ℕ) where
  split_length : (test : Bool) (slot : ℕ) (rest : List ℕ) → length (cond test (slot ∷ rest) rest) ≡ bit_of test + length rest
  split_length true slot rest = omega arith
  split_length false slot rest = omega arith

  pub count_more : (slot count : ℕ) → length (taken_from taken slot (suc count))
      ≡ bit_of (bit taken slot) + length (taken_from taken (suc slot) count)
  unfolding taken_from
  count_more slot count = split_length (bit taken slot) slot (taken_from taken (suc slot) count)

  split_records : (test : Bool) (slot : ℕ) (rest : List ℕ) → map (dev_record dev_conf) (cond test (slot ∷ rest) rest)
      ≡ cond test (dev_record dev_conf slot ∷ []) [] ++ map (dev_record dev_conf) rest
  split_records true slot rest = refl
  split_records false slot rest = refl

  pub records_more : (slot count : ℕ) → slot_records taken slot (suc count) ≡ slot_record taken slot ++ slot_records taken (suc slot) count
  unfolding taken_from
  records_more slot count = split_records (bit taken slot) slot (taken_from taken (suc slot) count)

  at_most_one : (test : Bool) → bit_of test ≤ 1
  at_most_one true = omega arith
  at_most_one false = omega arith

  pub few_taken : (slot count : ℕ) → length (taken_from taken slot count) ≤ count
  unfolding taken_from
  few_taken slot zero = omega arith
  few_taken slot (suc count) = omega (arith, count_more slot count, at_most_one (bit taken slot), few_taken (suc slot) count)

  -- ---- the loop that counts: those from `slot` on are left

  pub record Counted (slots count slot : ℕ) : Type 0 where
    pub few : count ≤ slot
    pub sum : count + length (taken_from taken slot (slots - slot)) ≡ length (taken_from taken 0 slots)

  module _ (slots : ℕ) where
    module _ (count slot : ℕ) (counted : Counted slots count slot) where
      pub count_goes_on : slot < slots → {one : ℕ} → one ≡ bit_of (bit taken slot) → Counted slots (count + one) (slot + 1)
      count_goes_on h e =
          let left : slots - slot ≡ suc (slots - suc slot) = omega arith in
          record {
            few = omega (arith, at_most_one (bit taken slot));
            sum = rw (add_assoc, add-one slot, e) (rw (left, count_more) at counted.sum);
          }

      pub count_ends : slots ≤ slot → count ≡ length (taken_from taken 0 slots)
      unfolding taken_from
      count_ends h =
          let over : slots - slot ≡ 0 = omega arith in
          sym (add-zero count) ∙ rw over at counted.sum

  -- ---- their records fit

  split_fits : (test : Bool) (slot : ℕ) (rest : List ℕ) → slot < 2 ^ 32 → AllFit (map (dev_record dev_conf) rest)
      → AllFit (map (dev_record dev_conf) (cond test (slot ∷ rest) rest))
  split_fits true slot rest h fits = (record { kind_fits = omega arith; code_fits = omega arith; value_fits = h }, fits)
  split_fits false slot rest h fits = fits

  pub slots_fit : (slot count : ℕ) → slot + count ≤ 2 ^ 32 → AllFit (slot_records taken slot count)
  unfolding taken_from
  slots_fit slot zero h = tt
  slots_fit slot (suc count) h =
      split_fits (bit taken slot) slot (taken_from taken (suc slot) count) (omega arith) (slots_fit (suc slot) count (omega arith))
