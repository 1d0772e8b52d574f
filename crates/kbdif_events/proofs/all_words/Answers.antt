-- The head word has the three bytes, and the other words are stored as they come.
use Rattle.std.proofs.Common.{arith}
use Rattle.kbdif_events.proofs.Laws.{laid_out}
use Rattle.kbdif_events.proofs.all_words.Goals as goal

pub returns : goal.returns
returns c = laid_out c.args.kind c.args.detail c.args.contact _ (omega arith) (omega arith) (omega arith) (omega arith)
