-- Nothing, or the button's record: the two branches of the definition.
use mathlib.Core.Path.{sym, ◌∙◌}
use Rattle.records.proofs.Laws.PutFrom.{none_given, one_given}
use Rattle.revision1_records.proofs.group.put_button.Goals as goal

pub returns-then-not-is_button : goal.returns-then-not-is_button
returns-then-not-is_button c = none_given c.args.at _ _ _ (sym c.is_button.ensures ∙ c.if-not-is_button.true)

pub returns : goal.returns
returns c = one_given c.args.at _ _ (sym c.is_button.ensures ∙ c.if-not-is_button.false) (rw (← c.button_record.ensures) c.put.ensures)
