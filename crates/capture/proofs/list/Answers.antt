-- Each text begins where the last one ended; at most 510 lines of 33 bytes, a title and a last line fit into 20,480 bytes.
use Prim.Native.Nat.{◌≤◌}
use lib.ListN.{length}
use mathlib.Core.Path.{◌≡◌}
use native.Mathlib.Omega.{arith}
use borrow.Author.Rules.{rules}
use Rattle.text.specs.Text.{Written}
use Rattle.capture.specs.Listing.{listing}
use Rattle.capture.proofs.Laws.Listing.{records_end, refused_listing, whole_listing}
use Rattle.capture.proofs.list.Goals as goal
use Rattle.capture.proofs.list.Goals.{Joined-unread, in-Ok, in-Err}

pub write_line-requires : goal.write_line-requires
write_line-requires c =
    omega (
      arith,
      records_end c.in-Ok.ensures.ok c.write_records.ensures.written,
      c.write_records.ensures.size,
      c.write_text.ensures.size,
      c.write_text.ensures.written.ends,
    )

-- both ways out have listed the page
listed : (c : Joined-unread)
    → Written c.args.out.now 0 (listing c.args.input_length c.args.area.now) c.match-unread.writer.out.now c.match-unread.writer.end
    × (c.match-unread.writer.end ≤ length c.match-unread.writer.out.now)
listed c =
    let size : length c.args.out.now ≡ 20480 = search rules in
    elim c.match-unread.branch [
      | in-Ok w ↦
          rw w.writer-is
          (whole_listing c.args.input_length c.args.area.now size c.write_text.ensures.written w.in-Ok.ensures.answer w.in-Ok.ensures.ok
          w.write_records.ensures.written w.write_line.ensures.written)
      | in-Err w ↦
          rw w.writer-is
          (refused_listing c.args.input_length c.args.area.now size c.write_text.ensures.written w.in-Err.refusal w.in-Err.ensures.answer
          (rw w.number.ensures at w.write_line-in-Err.ensures.written))
    ]

pub returns-clause-written : goal.returns-clause-written
returns-clause-written c = (listed c).0

pub returns-clause-upper_bound : goal.returns-clause-upper_bound
returns-clause-upper_bound c = (listed c).1
