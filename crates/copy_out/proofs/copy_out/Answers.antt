-- A law for each way out: invalid, refused, copied. At most the unread records are copied, and they are fewer than the ring's.
use mathlib.Core.Path.{◌≡◌, refl, sym, ◌∙◌}
use Rattle.std.proofs.lemmas.Result.{err_from_is_err_and}
use Rattle.geometry.specs.Geometry.{ring_of}
use Rattle.copy_out.proofs.Laws.CopyResult.{copy_invalid, copy_refused, copy_done}
use Rattle.copy_out.proofs.copy_out.Goals as goal
use Rattle.copy_out.proofs.copy_out.Goals.{After-ring}

ring_is : (c : After-ring) → c.ring.result ≡ ring_of c.args.geometry
ring_is c = rw c.in_ok-layout.ensures.same at c.ring.ensures

pub returns-in_err-layout : goal.returns-in_err-layout
returns-in_err-layout c =
    let p = err_from_is_err_and c.from_residual.result c.from_residual.ensures.1 in
    rw (p.1, p.2, c.in_err-layout.ensures.refused)
    (copy_invalid c.args.geometry c.args.area.now c.args.limit c.args.out.now (sym c.in_err-layout.ensures.tested))

pub returns-in_err-read : goal.returns-in_err-read
returns-in_err-read c =
    let p = err_from_is_err_and c.from_residual-in_err-read.result c.from_residual-in_err-read.ensures.1 in
    rw (p.1, p.2)
    (copy_refused c.args.geometry c.args.area.now c.args.limit c.args.out.now (sym c.in_ok-layout.ensures.tested)
    c.read_pointer.ensures c.write_pointer-write.ensures
    (rw (ring_is (goal.at.returns-in_err-read c).After-ring) at c.in_err-read.ensures.answered) c.in_err-read.field-0.0 refl)

pub returns : goal.returns
returns c =
    let ring = ring_is (goal.at.returns c).After-ring in
    let same : c.in_ok-read.read.ring ≡ ring_of c.args.geometry = c.in_ok-read.ensures.same.0 ∙ ring in
    copy_done c.args.geometry c.args.area.now c.args.limit c.args.out.now (sym c.in_ok-layout.ensures.tested)
    (c.in_ok-read.ensures.same.1 ∙ c.read_pointer.ensures) c.write_pointer-write.ensures
    (rw (ring, ← c.in_ok-read.ensures.same.1) at c.in_ok-read.ensures.answered) refl
    (rw same at c.unread_count-unread.ensures)
    c.min-most.ensures c.min-count.ensures
    (rw same at c.copy_records-next.ensures.0) c.set_read_pointer.ensures (rw same at c.copy_records-next.ensures.1)
