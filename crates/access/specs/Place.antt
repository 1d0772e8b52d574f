-- What stands at each offset of the BAR (01, "Registers"; 000, "Global Registers"), and what a guest may write.
use Rattle.std.specs.Prelude.{ℕ, ◌+◌, Bool, true, false, cond, List, [], ◌∷◌, ltb, eqb}
use Rattle.geometry.specs.declared.Geometry.{Geometry}
use Rattle.geometry.specs.Geometry.{area_length}
use Rattle.access.specs.declared.Place.{Place}
use Rattle.access.specs.declared.Place.TheVariants.{Magic, Rev, Control, EventSize, Npages, Acceleration, Isr}
use Rattle.access.specs.declared.Place.TheVariants.{ConfSize, ClientRev, ReadPtr, EventArea, EntryPage, Nothing}

-- The first page: each register with its offset. Nothing stands elsewhere.
abbrev pub registers : List (ℕ × Place)
registers =
    (0x000, Magic)
    ∷ (0x004, Rev)
    ∷ (0x100, Control)
    ∷ (0x104, EventSize)
    ∷ (0x108, Npages)
    ∷ (0x10C, Acceleration)
    ∷ (0x110, Isr)
    ∷ (0x114, ConfSize)
    ∷ (0x118, ClientRev)
    ∷ []

unfoldable pub place_in : List (ℕ × Place) → ℕ → Place
place_in [] offset = Nothing
place_in ((at, place) ∷ rest) offset = cond (eqb offset at) place (place_in rest offset)

-- Then the event area, which begins with READ_PTR, and the entry page.
unfoldable pub place_of : Geometry → ℕ → Place
place_of geometry offset =
    cond (ltb offset 0x1000) (place_in registers offset)
    (cond (eqb offset 0x1000) ReadPtr
    (cond (ltb offset (0x1000 + area_length geometry)) EventArea EntryPage))

-- Read-only: MAGIC, REV, EVENT_SIZE, NPAGES, CONF_SIZE, the entry page, and the event area but for READ_PTR.
abbrev pub is_read_only : Place → Bool
is_read_only Magic = true
is_read_only Rev = true
is_read_only Control = false
is_read_only EventSize = true
is_read_only Npages = true
is_read_only Acceleration = false
is_read_only Isr = false
is_read_only ConfSize = true
is_read_only ClientRev = false
is_read_only ReadPtr = false
is_read_only EventArea = true
is_read_only EntryPage = true
is_read_only Nothing = false

abbrev pub is_nothing : Place → Bool
is_nothing Magic = false
is_nothing Rev = false
is_nothing Control = false
is_nothing EventSize = false
is_nothing Npages = false
is_nothing Acceleration = false
is_nothing Isr = false
is_nothing ConfSize = false
is_nothing ClientRev = false
is_nothing ReadPtr = false
is_nothing EventArea = false
is_nothing EntryPage = false
is_nothing Nothing = true
