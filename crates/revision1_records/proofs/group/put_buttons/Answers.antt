-- No button gives no record (no_buttons); else each is looked at.
use mathlib.Core.Path.{sym, ◌∙◌}
use Rattle.records.proofs.Laws.PutFrom.{nothing_put}
use Rattle.revision1_records.proofs.Laws.Buttons.{no_buttons}
use Rattle.revision1_records.proofs.group.put_buttons.Goals as goal

pub returns-then-buttons-eq0 : goal.returns-then-buttons-eq0
returns-then-buttons-eq0 c = rw (no_buttons _ (sym c.requires.buttons_value ∙ c.if-buttons-eq0.true)) (nothing_put _ _)
