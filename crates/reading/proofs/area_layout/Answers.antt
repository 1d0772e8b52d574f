-- A layout's geometry is allowed, and the area was found to have its length.
use Rattle.reading.proofs.Laws.Reading.{layout_holds}
use Rattle.reading.proofs.area_layout.Goals as goal

pub returns-then-area_size-area_length-clause-holds : goal.returns-then-area_size-area_length-clause-holds
returns-then-area_size-area_length-clause-holds c =
    layout_holds c.in-Some.layout c.in-Some.ensures.same (rw c.area_length.ensures at c.if-area_size-area_length.true)
