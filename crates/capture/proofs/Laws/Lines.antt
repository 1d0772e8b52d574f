-- Lines of a listing: how long they get, and how a loop puts one after the other.
use Prim.Native.Nat.{ℕ, suc, ◌+◌, ◌*◌, ◌%◌, ◌≤◌, ◌<◌}
use mathlib.Core.Path.{◌≡◌, refl, ap, ◌∙◌}
use mathlib.Core.List.{List, [], ◌∷◌, ◌++◌, append_assoc}
use native.Mathlib.Omega.{arith}
use native.Mathlib.Nat.{mod-mod}
use native.Mathlib.Numerals.{add-one}
use lib.ListN.{length, length-append}
use Rattle.copying.proofs.Laws.Remains.{Remains, begin, done, stretch_stored}
use Rattle.geometry.specs.declared.Ring.{Ring}
use Rattle.records.specs.declared.Event.{Event}
use Rattle.records.specs.Ring.{next_index}
use Rattle.records.specs.Unread.{record_at, records_from}
use Rattle.records.proofs.Laws.Index.{next_inside}
use Rattle.records.proofs.Laws.Unread.{records_modulo}
use Rattle.text.specs.declared.Writer.{Writer}
use Rattle.text.specs.Writer.{Adds}
use Rattle.text.specs.Text.{decimal, Written}
use Rattle.text.specs.Ascii.{ascii}
use Rattle.text.proofs.Laws.Digits.{decimal-length}
use Rattle.text.proofs.Laws.Written.{adds_next}
use Rattle.capture.specs.Listing.{record_line, record_lines}

-- a number and one byte after it
pub number-length : (number byte : ℕ) {before after : List ℕ} {at end : ℕ} → Written before at (decimal number ++ (byte ∷ [])) after end
    → end ≤ at + 11
number-length number byte wrote = omega (arith, wrote.ends, length-append (decimal number) (byte ∷ []), decimal-length number)

pub line_length : (event : Event) → length (record_line event) ≤ 33
unfolding record_line
line_length event =
    simp length-append (omega (arith, decimal-length event.kind, decimal-length event.code, decimal-length event.value))

-- a record's three numbers, put one after the other
pub record_added : (event : Event) {before first second after : Writer} → before.end + 33 ≤ length before.out.now
    → Adds before first (decimal event.kind ++ ascii " ")
    → Adds first second (decimal event.code ++ ascii " ")
    → Adds second after (decimal event.value ++ ascii "\n")
    → Adds before after (record_line event)
unfolding record_line
record_added event {before} {first} h kind code value =
    let short : length (decimal event.kind ++ ascii " ") ≤ 11 = simp length-append (omega (arith, decimal-length event.kind)) in
    let next : length (decimal event.code ++ ascii " ") ≤ 11 = simp length-append (omega (arith, decimal-length event.code)) in
    rw (append_assoc, append_assoc) at
    (adds_next kind (omega arith) (adds_next code (omega (arith, kind.written.ends, kind.size)) value))

pub lines_length : (events : List Event) → length (record_lines events) ≤ length events * 33
unfolding record_lines
lines_length [] = omega arith
lines_length (event ∷ rest) =
    omega (arith, length-append (record_line event) (record_lines rest), line_length event, lines_length rest)

-- the records from an index on, the first one apart
lines_first : (ring : Ring) (area : List ℕ) (index more : ℕ)
    → record_lines (records_from ring area index (suc more)) ≡ record_line (record_at ring area index)
    ++ record_lines (records_from ring area (next_index ring index) more)
unfolding record_lines records_from
lines_first ring area index more =
    let same : next_index ring index % ring.length ≡ suc index % ring.length = rw add-one (mod-mod (suc index) ring.length) in
    rw (← records_modulo ring area more (next_index ring index) (suc index) same)

-- ---- the loop that puts the lines of `count` records from `first` on: `left` of them remain, from `index` on

pub record Turn (ring : Ring) (area : List ℕ) (first count : ℕ) (start now : Writer) (index left : ℕ) : Type 0 where
  pub same : now.out.ghost_name ≡ start.out.ghost_name
  pub remains :
      Remains start.out.now start.end (record_lines (records_from ring area first count)) now.out.now now.end
      (record_lines (records_from ring area index left))
  pub ends :
      now.end + length (record_lines (records_from ring area index left))
      ≡ start.end + length (record_lines (records_from ring area first count))
  pub inside : index < ring.length
  pub room : now.end + left * 33 ≤ length now.out.now

module _ (ring : Ring) (area : List ℕ) (first count : ℕ) (start : Writer) where
  pub turn_begins : {left : ℕ} → left ≡ count → first < ring.length → start.end + count * 33 ≤ length start.out.now
      → Turn ring area first count start start first left
  turn_begins all h k = rw all (record { same = refl; remains = begin start.out.now start.end _; ends = refl; inside = h; room = k })

  pub turn_goes_on : {now : Writer} {index left : ℕ} → Turn ring area first count start now index left → {fewer : ℕ} → left ≡ suc fewer
      → {event : Event} {next : Writer} {place : ℕ} → event ≡ record_at ring area index
      → Adds now next (record_line event)
      → place ≡ next_index ring index
      → Turn ring area first count start next place fewer
  turn_goes_on {now} {index} {left} turn {fewer} one_more {event} {next} {place} read added moved =
      let wrote = added.written in
      let more : List ℕ = record_lines (records_from ring area (next_index ring index) fewer) in
      let lines : record_lines (records_from ring area index left) ≡ record_line event ++ more
      = ap (λ (n : ℕ). record_lines (records_from ring area index n)) one_more ∙ lines_first ring area index fewer ∙ rw read in
      let fits : now.end + length (record_line event) ≤ length now.out.now = omega (arith, turn.room, line_length event) in
      let stored = stretch_stored start.out.now start.end _ now.out.now now.end (record_line event) more fits (rw lines at turn.remains) in
      record {
        same = added.same ∙ turn.same;
        remains = rw (moved, wrote.holds, wrote.ends) stored;
        ends = rw moved (omega (arith, rw (lines, length-append) at turn.ends, wrote.ends));
        inside = rw moved (next_inside ring index turn.inside);
        room = omega (arith, turn.room, line_length event, wrote.ends, added.size);
      }

  pub turn_ends : {now : Writer} {index left : ℕ} → Turn ring area first count start now index left → left ≡ 0
      → Adds start now (record_lines (records_from ring area first count))
  unfolding record_lines records_from
  turn_ends {now} {index} turn none = record {
    same = turn.same;
    size = turn.remains.size;
    written = record {
      ends = omega (arith, rw none at turn.ends);
      holds = done start.out.now start.end _ now.out.now now.end (rw none at turn.remains);
    };
  }
