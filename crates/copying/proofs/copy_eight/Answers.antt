-- As for any source, with a part of eight bytes.
use mathlib.Core.Path.{sym}
use Rattle.copying.proofs.Laws.Overwrite.{lent_part}
use Rattle.copying.proofs.copy_eight.Goals as goal

pub returns : goal.returns
returns c = lent_part c.args.bytes.now c.args.at 8 (sym c.requires.0) c.fill_eight.ensures
