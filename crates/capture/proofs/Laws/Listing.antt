-- The two ways a listing ends: a refusal, or the records and their count.
use Prim.Native.Nat.{ℕ, ◌+◌, ◌*◌, ◌≤◌}
use mathlib.Core.Path.{◌≡◌}
use mathlib.Core.List.{List, ◌++◌}
use native.Mathlib.Omega.{arith}
use lib.ListN.{length, length-append}
use borrow.Author.Tests.{ne_eqb}
use Rattle.answers.specs.Answers.{done}
use Rattle.answers.specs.declared.Refusal.{Refusal}
use Rattle.answers.specs.Refusal.{number_of}
use Rattle.answers.specs.Refusals.{first_refusal}
use Rattle.records.specs.declared.Event.{Event}
use Rattle.records.specs.declared.index.RingIndex.{RingIndex}
use Rattle.records.specs.Unread.{records_from}
use Rattle.records.proofs.Laws.Unread.{records_length}
use Rattle.text.specs.Ascii.{ascii}
use Rattle.text.specs.Text.{decimal, Written}
use Rattle.text.proofs.Laws.Digits.{decimal-length}
use Rattle.text.proofs.Laws.Written.{written-length, written_next}
use Rattle.capture.specs.Listing.{record_lines, number_line, refusals, IsUnread, listing}
use Rattle.capture.proofs.Laws.Lines.{lines_length}

-- a line of a word and a number takes at most eleven bytes after the word
line_end : (word : List ℕ) (number : ℕ) {before after : List ℕ} {at end : ℕ} → Written before at (number_line word number) after end
    → end ≤ at + length word + 11
unfolding number_line
line_end word number wrote =
    omega (
      arith,
      wrote.ends,
      length-append word (decimal number ++ ascii "\n"),
      length-append (decimal number) (ascii "\n"),
      decimal-length number,
    )

-- no refusal has the number of what isn't refused
numbered : (refusal : Refusal) → number_of refusal ≡ 0 → ⊥
numbered Refusal.Invalid h = omega arith
numbered Refusal.BadAccess h = omega arith
numbered Refusal.ReadOnly h = omega arith
numbered Refusal.NoRegister h = omega arith
numbered Refusal.DeviceOff h = omega arith
numbered Refusal.BadSlot h = omega arith
numbered Refusal.NoRoom h = omega arith
numbered Refusal.NotOffered h = omega arith
numbered Refusal.Malformed h = omega arith
numbered Refusal.BadIndex h = omega arith
numbered Refusal.NothingToRead h = omega arith
numbered Refusal.BadSetting h = omega arith

-- a page that is not refused has at most 510 unread records
module _ {first : RingIndex} {count : ℕ} {area : List ℕ} (found : IsUnread first count area) where
  pub records_end : {before after : List ℕ} {at end : ℕ}
      → Written before at (record_lines (records_from first.ring area first.index count)) after end → end ≤ at + 510 * 33
  records_end wrote =
      let lines : List Event = records_from first.ring area first.index count in
      omega (arith, found.few, wrote.ends, lines_length lines, records_length first.ring area first.index count)

module _ (input_length : ℕ) (area : List ℕ) {before titled : List ℕ} {at : ℕ} (size : length before ≡ 20480)
    (title : Written before 0 (ascii "type code value\n") titled at) where
  pub refused_listing : (refusal : Refusal) {after : List ℕ} {end : ℕ} → number_of refusal ≡ first_refusal (refusals input_length area)
      → Written titled at (number_line (ascii "refused ") (number_of refusal)) after end
      → Written before 0 (listing input_length area) after end × (end ≤ length after)
  refused_listing refusal judged line =
      let whole = written_next title (omega arith) line in
      let short = line_end (ascii "refused ") (number_of refusal) line in (
        rw (← judged, ne_eqb (number_of refusal) 0 (numbered refusal)) whole,
        omega (arith, whole.ends, title.ends, written-length whole (omega (arith, whole.ends, title.ends))),
      )

  pub whole_listing : {first : RingIndex} {count : ℕ} {lines after : List ℕ} {line_at end : ℕ}
      → done ≡ first_refusal (refusals input_length area) → IsUnread first count area
      → Written titled at (record_lines (records_from first.ring area first.index count)) lines line_at
      → Written lines line_at (number_line (ascii "end ") count) after end
      → Written before 0 (listing input_length area) after end × (end ≤ length after)
  whole_listing {first} {count} none found records last =
      let many = records_end found records in
      let body = written_next records (omega (arith, written-length title (omega arith), title.ends, records.ends, many)) last in
      let whole = written_next title (omega arith) body in
      let short = line_end (ascii "end ") count last in (
        rw (← none, records_length, ← found.counted, ← found.oldest, ← found.ring) whole,
        omega (arith, whole.ends, title.ends, written-length whole (omega (arith, whole.ends, title.ends))),
      )
