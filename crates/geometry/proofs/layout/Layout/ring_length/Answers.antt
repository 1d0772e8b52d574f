-- A record size is 2 to the number of its trailing zeros, so the shift is the division; an area holds at least two records.
use native.Mathlib.Omega.{arith}
use Rattle.geometry.proofs.Laws.Allowed.{sizes, record_power, ring_some}
use Rattle.geometry.proofs.layout.Layout.ring_length.Goals as goal

pub overflow_shr-result : goal.overflow_shr-result
overflow_shr-result c = let s = sizes _ c.args.self.is_allowed in (record_power _ s.record_size).0

pub overflow_sub-result : goal.overflow_sub-result
overflow_sub-result c = let s = sizes _ c.args.self.is_allowed in
    rw (record_power _ s.record_size).1 (ring_some _ _ s.some_pages s.record_size)

pub returns : goal.returns
returns c = let s = sizes _ c.args.self.is_allowed in rw (record_power _ s.record_size).1

pub overflow_mul-result : goal.overflow_mul-result
overflow_mul-result c = let s = sizes _ c.args.self.is_allowed in record { fits = omega (arith, s.few_pages) }
