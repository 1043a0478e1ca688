-- The keeper serves, a write or a read, and its cell is the answer.
use Rattle.std.proofs.Common.{◌≡◌, eq-eqb, ne_eqb}
use Rattle.table.specs.InPlace.{served_in, take_count, take_in}
use Rattle.table.specs.Table.{slot_of}
use Rattle.table_step.proofs.take.Goals as goal
use Rattle.table_step.proofs.take.Goals.{then-slot, else-slot}

pub returns : goal.returns
unfolding served_in take_count take_in
returns c =
    let t = c.args.t.now in
    let d = c.args.d in
    let served : (c.if-slot.t ≡ served_in t d) × (c.if-slot.count ≡ take_count t d) =
    elim c.if-slot.branch [
      | then-slot w ↦ (
        rw (w.t-is, w.take_write-count.ensures.1, eq-eqb (slot_of t d).kind 2 w.if-slot.true),
        rw (w.count-is, w.take_write-count.ensures.0, eq-eqb (slot_of t d).kind 2 w.if-slot.true),
      )
      | else-slot w ↦ (
        rw (w.t-is, ne_eqb (slot_of t d).kind 2 w.if-slot.false),
        rw (w.count-is, ne_eqb (slot_of t d).kind 2 w.if-slot.false),
      )
    ] in (
      rw (c.dropped.ensures, served.1),
      rw (c.answering.ensures, c.at.ensures, served.0),
    )
