-- Indices round a ring of R places: the next one, and how many lie from the read index to the write index.
use Prim.Native.Nat.{ℕ, zero, suc, ◌+◌, ◌-◌, ◌%◌, ◌≤◌, ◌<◌}
use mathlib.Core.Path.{◌≡◌, sym, ap, ◌∙◌}
use mathlib.Core.Logic.{◌≢◌, ◌⊎◌, inl, inr}
use native.Mathlib.Nat.{mod-lt, mod-eq_of_lt, mod_self, mod-add-mod, add-mod-mod, add-mod_right, mod-eq-sub-mod, suc-mod, add-zero, add-suc}
use native.Mathlib.Numerals.{add-one}
use native.Mathlib.Omega.{arith}
use native.Mathlib.Decide.{dec_lt, dec_le}
use lib.Dec.{leb}
use borrow.Author.Tests.{le-leb, lt-leb}
use Rattle.geometry.specs.declared.Ring.{Ring}
use Rattle.records.specs.Ring.{next_index, unread_count, has_room}

-- a number below twice R, modulo R
mod_cases : (R x : ℕ) → x < R + R → ((x % R ≡ x) × (x < R)) ⊎ (x % R + R ≡ x)
mod_cases R x h = elim (dec_lt x R) [
  | yes low ↦ inl (mod-eq_of_lt low, low)
  | no high ↦ inr
      (let le : R ≤ x = omega arith in
      rw (mod-eq-sub-mod le, mod-eq_of_lt {n = x - R} {m = R} (omega arith)) (omega arith))
]

-- fewer than R places on is another place
pub places_apart : (R i count : ℕ) → zero < count → count < R → (i + count) % R ≢ i % R
places_apart R i count some few e =
    let low : i % R < R = mod-lt i (omega arith) in
    let same : (i % R + count) % R ≡ i % R = mod-add-mod i R count ∙ e in
    elim (mod_cases R (i % R + count) (omega arith)) [ inl v ↦ omega arith | inr v ↦ omega arith ]

module _ (ring : Ring) where
  -- ---- the next index

  pub next_inside : (index : ℕ) → index < ring.length → next_index ring index < ring.length
  next_inside index h = mod-lt (index + 1) (omega arith)

  pub next_turns : (index : ℕ) → index + 1 ≡ ring.length → 0 ≡ next_index ring index
  next_turns index e = rw (e, mod_self)

  pub next_follows : (index : ℕ) → index < ring.length → (index + 1 ≡ ring.length → ⊥) → index + 1 ≡ next_index ring index
  next_follows index h n = sym (mod-eq_of_lt (omega arith))

  -- ---- unread records

  -- the count of unread records is the one number below R that leads from the read index to the write index
  pub unread_unique : (read count write : ℕ) → read < ring.length → count < ring.length → (read + count) % ring.length ≡ write
      → unread_count ring read write ≡ count
  unread_unique read count write r few e =
      let w : write < ring.length = omega (arith, e, mod-lt (read + count) {m = ring.length} (omega arith)) in
      elim (mod_cases ring.length (read + count) (omega arith)) [
        | inl v ↦ elim (mod_cases ring.length (write + ring.length - read) (omega arith)) [ inl u ↦ omega arith | inr u ↦ omega arith ]
        | inr v ↦ elim (mod_cases ring.length (write + ring.length - read) (omega arith)) [ inl u ↦ omega arith | inr u ↦ omega arith ]
      ]

  pub unread_self : (index : ℕ) → index < ring.length → unread_count ring index index ≡ 0
  unread_self index h = unread_unique index 0 index h (omega arith) (rw add-zero (mod-eq_of_lt h))

  module _ (read write : ℕ) (r : read < ring.length) (w : write < ring.length) where
    pub unread_below : unread_count ring read write < ring.length
    unread_below = mod-lt (write + ring.length - read) (omega arith)

    pub unread_end : (read + unread_count ring read write) % ring.length ≡ write
    unread_end =
        let e : read + (write + ring.length - read) ≡ write + ring.length = omega arith in
        rw (add-mod-mod, e, add-mod_right, mod-eq_of_lt {n = write} {m = ring.length} w)

    pub unread_straight : read ≤ write → write - read ≡ unread_count ring read write
    unread_straight h =
        let e : read + (write - read) ≡ write = omega arith in
        sym (unread_unique read (write - read) write r (omega arith) (rw e (mod-eq_of_lt w)))

    pub unread_round : write < read → ring.length - read + write ≡ unread_count ring read write
    unread_round h =
        let e : read + (ring.length - read + write) ≡ write + ring.length = omega arith in
        sym (unread_unique read (ring.length - read + write) write r (omega arith) (rw (e, add-mod_right) (mod-eq_of_lt w)))

    pub unread_none : unread_count ring read write ≡ 0 → read ≡ write
    unread_none e = sym (mod-eq_of_lt r) ∙ ap (λ (n : ℕ). n % ring.length) (sym (add-zero read)) ∙ rw e at unread_end

    pub unread_more : suc (unread_count ring read write) < ring.length
        → unread_count ring read (next_index ring write) ≡ suc (unread_count ring read write)
    unread_more h =
        unread_unique read (suc (unread_count ring read write)) (next_index ring write) r h
        (rw (add-suc, suc-mod, unread_end, add-one) (sym (rw (mod-eq_of_lt w) at (suc-mod write ring.length))))

    pub unread_fewer : (count : ℕ) → unread_count ring read write ≡ suc count → unread_count ring (next_index ring read) write ≡ count
    unread_fewer count e =
        let sum : read + 1 + count ≡ read + suc count = omega arith in
        unread_unique (next_index ring read) count write (next_inside read r) (omega (arith, unread_below))
        (mod-add-mod (read + 1) ring.length count ∙ rw sum (rw e at unread_end))

    -- room, without a sum that could wrap
    pub room : (count : ℕ) → leb count (ring.length - 1 - unread_count ring read write) ≡ has_room ring read write count
    room count =
        elim (dec_le (unread_count ring read write + count) (ring.length - 1)) [
          | yes h ↦ le-leb count _ (omega arith) ∙ sym (le-leb _ (ring.length - 1) h)
          | no h ↦ lt-leb count _ (omega (arith, unread_below)) ∙ sym (lt-leb _ (ring.length - 1) (omega arith))
        ]
