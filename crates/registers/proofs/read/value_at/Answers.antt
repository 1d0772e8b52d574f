-- The place decides: one return a place, each the definition's line for it; words of the pages lie within them (area_word, page_word).
use Rattle.access.proofs.Laws.Place.{area_begins, page_begins}
use Rattle.access.proofs.Laws.Access.{granted, pointer_inside, area_word, page_word}
use mathlib.Core.Path.{sym, ◌∙◌}
use Rattle.registers.proofs.read.value_at.Goals as goal

pub read_u32-requires : goal.read_u32-requires
read_u32-requires c = pointer_inside _ _ _ _ _ _ ((granted _ _ _ _ _ _ _ c.requires.granted))

pub overflow_sub-offset : goal.overflow_sub-offset
overflow_sub-offset c = area_begins _ _ (sym c.requires.placed ∙ c.in-EventArea.is)

pub read_u32-requires-in-EventArea : goal.read_u32-requires-in-EventArea
read_u32-requires-in-EventArea c = area_word _ _ _ _ _ _ ((granted _ _ _ _ _ _ _ c.requires.granted))
    (sym c.requires.placed ∙ c.in-EventArea.is)

pub overflow_sub-offset-in-EntryPage : goal.overflow_sub-offset-in-EntryPage
overflow_sub-offset-in-EntryPage c = rw c.area_length.ensures
    (page_begins _ _ (sym c.requires.placed ∙ c.in-EntryPage.is))

pub read_u32-requires-in-EntryPage : goal.read_u32-requires-in-EntryPage
read_u32-requires-in-EntryPage c = rw c.area_length.ensures
    (page_word _ _ _ _ _ _ ((granted _ _ _ _ _ _ _ c.requires.granted))
    (sym c.requires.placed ∙ c.in-EntryPage.is))
