-- A part of the buffer is lent, and filled with the bytes of the word, lowest first.
use mathlib.Core.Path.{refl, ◌∙◌}
use Rattle.words.proofs.Laws.Halves.{both_halves}
use Rattle.copying.proofs.Laws.Overwrite.{lent_part}
use Rattle.words.proofs.write_u64.Goals as goal

pub returns : goal.returns
returns c = lent_part c.args.bytes.now c.args.at 8 refl (c.copy_from_slice.ensures.after ∙ c.to_le_bytes.ensures ∙ both_halves _)
