-- What is told of the form that the bytes are found to be of is what is decoded, as numbers.
use Rattle.std.proofs.Common.{refl}
use Rattle.kbdif_numbers.proofs.Laws.Found.{found_told}
use Rattle.kbdif_numbers.proofs.decode.Goals as goal

pub returns : goal.returns
returns c = found_told c.args.bytes.now c.args.limit.contacts refl (c.event_told.ensures _ c.form_of.ensures)
