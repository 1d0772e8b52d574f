-- A slot's entry ends within the page exactly if the slot is below the quotient: no division is needed to tell.
use Rattle.geometry.proofs.Laws.Allowed.{sizes}
use Rattle.geometry.proofs.Laws.Slots.{slot_test}
use Rattle.geometry.proofs.layout.Layout.is_slot.Goals as goal

pub returns : goal.returns
returns c = slot_test c.args.self.geometry (sizes _ c.args.self.is_allowed) c.args.slot
