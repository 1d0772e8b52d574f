-- The number of the first records decides (no_room_lem, starts); the ring is large enough for the arithmetic, as every geometry's is.
use mathlib.Core.Path.{◌≡◌, ◌∙◌}
use native.Mathlib.Omega.{arith}
use lib.ListN.{length}
use Rattle.geometry.proofs.Laws.Allowed.{sizes}
use Rattle.geometry.proofs.Laws.Slots.{few_slots}
use Rattle.switch_on.specs.SwitchOn.{start_records}
use Rattle.device.proofs.Laws.Result.{leaves}
use Rattle.switch_on.proofs.Laws.SwitchOn.{no_room_lem, starts}
use Rattle.switch_on.proofs.start.Goals as goal
use Rattle.switch_on.proofs.start.Goals.{After-start_count-count}

-- the number of the first records, as it was counted
counted : (c : After-start_count-count) → c.start_count-count.result ≡ length (start_records c.args.layout.geometry c.args.device.now)
counted c = c.start_count-count.ensures ∙ rw (c.revision-revision.ensures, c.slot_count-slots.ensures)

pub start_count-count-requires : goal.start_count-count-requires
start_count-count-requires c =
    omega (arith, c.slot_count-slots.ensures, few_slots _ (sizes c.args.layout.geometry c.args.layout.is_allowed))

pub overflow_sub-ring : goal.overflow_sub-ring
overflow_sub-ring c = rw c.ring-ring.ensures (omega (arith, sizes c.args.layout.geometry c.args.layout.is_allowed))

pub returns-then-count-ring : goal.returns-then-count-ring
returns-then-count-ring c = leaves (no_room_lem c.args.layout.geometry c.args.device.now c.args.area.now c.args.interrupts
    (counted (goal.at.returns-then-count-ring c).After-start_count-count) (rw c.ring-ring.ensures at c.if-count-ring.true))

pub invariant_of-first : goal.invariant_of-first
invariant_of-first c = record { in_ring = rw c.ring-ring.ensures (omega (arith, sizes c.args.layout.geometry c.args.layout.is_allowed)) }

pub returns : goal.returns
returns c = leaves (starts c.args.layout.geometry c.args.device.now c.args.area.now c.args.interrupts
    (counted (goal.at.returns c).After-start_count-count)
    (rw c.ring-ring.ensures at c.if-count-ring.false) c.clear_pointers.ensures
    (rw (c.ring-ring.ensures, c.revision-revision.ensures, c.slot_count-slots.ensures) at c.put_start-next.ensures.put)
    (rw c.fresh.ensures))
