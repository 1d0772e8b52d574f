-- So many entries end within the page exactly if the division gives as many slots; the product of two 32-bit numbers fits.
use Rattle.geometry.proofs.Laws.Allowed.{sizes}
use Rattle.geometry.proofs.Laws.Slots.{slots_test}
use Rattle.geometry.proofs.layout.Layout.has_slots.Goals as goal

pub returns : goal.returns
returns c = slots_test c.args.self.geometry (sizes _ c.args.self.is_allowed) c.args.count
