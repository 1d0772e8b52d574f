-- What is known of an allowed geometry, in the form that arithmetic can use.
use Prim.Native.Nat.{ℕ, ◌+◌, ◌-◌, ◌*◌, ◌/◌, ◌^◌, ◌≤◌, ◌<◌}
use mathlib.Core.Path.{◌≡◌, refl, sym, subst}
use mathlib.Core.Bool.{Bool, true, false, ◌&&◌, ◌||◌, false≢true}
use native.Mathlib.Omega.{arith}
use lib.Count.{count_trailing_zeros}
use lib.Dec.{leb, eqb, lit<}
use borrow.Author.Tests.{leb-true, eqb-true}
use Rattle.geometry.specs.Geometry.{is_record_size, is_entry_size, allowed, area_length, ring_length}
use Rattle.geometry.specs.declared.Geometry.{Geometry}

-- a conjunction of tests holds where both hold
pub both : (a b : Bool) → (a && b) ≡ true → (a ≡ true) × (b ≡ true)
both true b h = (refl, h)
both false b h = absurd (false≢true h)

-- what holds of each of the four sizes holds of any record size
pub record_sizes : (P : ℕ → Type 0) (size : ℕ) → is_record_size size ≡ true → P 8 → P 16 → P 32 → P 64 → P size
unfolding is_record_size
record_sizes P size h p8 p16 p32 p64 = go (eqb size 8) (eqb size 16) (eqb size 32) (eqb size 64) refl refl refl refl h
  where
    at : (n : ℕ) → eqb size n ≡ true → P n → P size
    at n e p = subst P (sym (eqb-true size n e)) p

    go : (a b c d : Bool) → eqb size 8 ≡ a → eqb size 16 ≡ b → eqb size 32 ≡ c → eqb size 64 ≡ d → (a || (b || (c || d))) ≡ true → P size
    go true b c d ea eb ec ed k = at 8 ea p8
    go false true c d ea eb ec ed k = at 16 eb p16
    go false false true d ea eb ec ed k = at 32 ec p32
    go false false false true ea eb ec ed k = at 64 ed p64
    go false false false false ea eb ec ed k = absurd (false≢true k)

-- a record size is the power of two that its lowest zeros count
pub record_power : (size : ℕ) → is_record_size size ≡ true → (count_trailing_zeros 32 size < 32) × (2 ^ count_trailing_zeros 32 size ≡ size)
unfolding count_trailing_zeros
record_power size h =
    record_sizes (λ n. (count_trailing_zeros 32 n < 32) × (2 ^ count_trailing_zeros 32 n ≡ n)) size h (lit< tt, refl) (lit< tt, refl)
    (lit< tt, refl) (lit< tt, refl)

-- the ring fills the area behind the place of the pointers
RingShape : ℕ → ℕ → Type 0
RingShape pages size = (8 ≤ size) × (size ≤ 64) × (63 ≤ pages * 4096 / size - 1) × (pages * 4096 / size - 1 < 4096)
    × (size * (pages * 4096 / size - 1 + 1) ≡ pages * 4096)

ring_shape : (pages size : ℕ) → 1 ≤ pages → pages ≤ 8 → is_record_size size ≡ true → RingShape pages size
unfolding RingShape
ring_shape pages size low high h = record_sizes (RingShape pages) size h (omega arith) (omega arith) (omega arith) (omega arith)

-- a record fits the area
pub ring_some : (pages size : ℕ) → 1 ≤ pages → is_record_size size ≡ true → 1 ≤ pages * 4096 / size
ring_some pages size some h = record_sizes (λ n. 1 ≤ pages * 4096 / n) size h (omega arith) (omega arith) (omega arith) (omega arith)

pub record Sizes (geometry : Geometry) : Type 0 where
  pub some_pages : 1 ≤ geometry.pages
  pub few_pages : geometry.pages ≤ 8
  pub record_low : 8 ≤ geometry.record_size
  pub record_high : geometry.record_size ≤ 64
  pub ring_low : 63 ≤ ring_length geometry
  pub ring_high : ring_length geometry < 4096
  pub ring_fills : geometry.record_size * (ring_length geometry + 1) ≡ area_length geometry
  pub entry_low : 68 ≤ geometry.entry_size
  pub entry_high : geometry.entry_size ≤ 256
  pub record_size : is_record_size geometry.record_size ≡ true

pub sizes : (geometry : Geometry) → allowed geometry ≡ true → Sizes geometry
unfolding allowed is_entry_size RingShape
sizes geometry h =
    let n : ℕ = geometry.pages in
    let E : ℕ = geometry.record_size in
    let a = both (leb 1 n) _ h in
    let b = both (leb n 8) _ a.1 in
    let c = both (is_record_size E) _ b.1 in
    let d = both (leb 68 geometry.entry_size) _ c.1 in
    let e = both (leb geometry.entry_size 256) _ d.1 in
    let low : 1 ≤ n = leb-true 1 n a.0 in
    let high : n ≤ 8 = leb-true n 8 b.0 in
    let shape = ring_shape n E low high c.0 in
    record {
      some_pages = low;
      few_pages = high;
      record_low = shape.0;
      record_high = shape.1;
      ring_low = shape.2;
      ring_high = shape.3;
      ring_fills = shape.4;
      entry_low = leb-true 68 _ d.0;
      entry_high = leb-true _ 256 e.0;
      record_size = c.0;
    }
