-- The listing of a captured event page (01, "The listing"), as the bytes of its text.
use Rattle.std.specs.Prelude.{ℕ, Bool, not, cond, List, [], ◌∷◌, ◌++◌, leb, eqb, length, ◌≡◌, ◌<◌}
use Rattle.answers.specs.Answers.{done, invalid, bad_index}
use Rattle.answers.specs.Refusals.{first_refusal}
use Rattle.geometry.specs.declared.Geometry.{Geometry}
use Rattle.geometry.specs.Geometry.{area_length, ring_length, ring_of}
use Rattle.records.specs.declared.Event.{Event}
use Rattle.records.specs.Ring.{read_pointer, write_pointer, unread_count}
use Rattle.records.specs.declared.index.RingIndex.{RingIndex}
use Rattle.records.specs.Unread.{unread}
use Rattle.text.specs.Ascii.{ascii}
use Rattle.text.specs.Text.{decimal}

-- A capture is the event area of n = 1 and E = 8. Entries don't matter here.
abbrev pub one_page : Geometry
one_page = record { pages = 1; record_size = 8; entry_size = 68 }

-- A record: type, code and value, unsigned decimals.
unfoldable pub record_line : Event → List ℕ
record_line event =
    decimal event.kind ++ (ascii " " ++ (decimal event.code ++ (ascii " " ++ (decimal event.value ++ ascii "\n"))))

unfoldable pub record_lines : List Event → List ℕ
record_lines [] = []
record_lines (event ∷ rest) = record_line event ++ record_lines rest

-- A line of a word and a number.
unfoldable pub number_line : List ℕ → ℕ → List ℕ
number_line word number = word ++ (decimal number ++ ascii "\n")

-- Input of another length is refused with 1, impossible pointers with 10.
abbrev pub refusals : ℕ → List ℕ → List (Bool × ℕ)
refusals input_length area =
    (not (eqb input_length (area_length one_page)), invalid)
    ∷ (leb (ring_length one_page) (read_pointer area), bad_index)
    ∷ (leb (ring_length one_page) (write_pointer area), bad_index)
    ∷ []

-- So many records are unread from this index on, of at most 510.
pub record IsUnread (first : RingIndex) (count : ℕ) (area : List ℕ) : Type 0 where
  pub ring : first.ring ≡ ring_of one_page
  pub oldest : first.index ≡ read_pointer area
  pub counted : count ≡ unread_count (ring_of one_page) (read_pointer area) (write_pointer area)
  pub few : count < 511

-- The unread records, the oldest first.
abbrev pub listed : List ℕ → List Event
listed area = unread (ring_of one_page) area (read_pointer area) (write_pointer area)

-- The last line counts the records listed.
abbrev pub listing_lines : ℕ → List ℕ → List ℕ
listing_lines refusal area =
    cond (eqb refusal done)
    (record_lines (listed area) ++ number_line (ascii "end ") (length (listed area)))
    (number_line (ascii "refused ") refusal)

abbrev pub listing : ℕ → List ℕ → List ℕ
listing input_length area = ascii "type code value\n" ++ listing_lines (first_refusal (refusals input_length area)) area
