-- Device entries (01, "Writing records"): the fields in the 68 bytes that are known of an entry, and its place in the entry page.
use Rattle.std.specs.Prelude.{ℕ, ◌+◌, ◌*◌, Bool, List, take, drop, replicate}
use Rattle.bits.specs.Bits.{bit}
use Rattle.copying.specs.Copying.{overwrite}
use Rattle.words.specs.Words.{u32_at}
use Rattle.geometry.specs.declared.Geometry.{Geometry}
use Rattle.geometry.specs.Geometry.{entry_place}

abbrev pub known_length : ℕ
known_length = 68

-- The name, 40 bytes of text, and relbits, at 52, are kept with the rest: no rule asks for either.

-- Which event types are used, a bit each.
abbrev pub evbits : List ℕ → ℕ
evbits entry = u32_at entry 40

-- The words of the masks of absolute codes (two) and buttons (three).
abbrev pub absbits : List ℕ → ℕ → ℕ
absbits entry word = u32_at entry (44 + 4 * word)

abbrev pub btnbits : List ℕ → ℕ → ℕ
btnbits entry word = u32_at entry (56 + 4 * word)

-- An entry is there when evbits bit 0 is set.
abbrev pub is_present : List ℕ → Bool
is_present entry = bit (evbits entry) 0

-- The known bytes of a slot's entry in the entry page.
abbrev pub entry_at : Geometry → List ℕ → ℕ → List ℕ
entry_at geometry page slot = take known_length (drop (entry_place geometry slot) page)

-- An add stores all S bytes, a remove zeroes them.
abbrev pub with_entry : Geometry → ℕ → List ℕ → List ℕ → List ℕ
with_entry geometry slot entry page = overwrite page (entry_place geometry slot) entry

abbrev pub without_entry : Geometry → ℕ → List ℕ → List ℕ
without_entry geometry slot page = with_entry geometry slot (replicate geometry.entry_size 0) page
