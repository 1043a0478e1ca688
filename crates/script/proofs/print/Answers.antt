-- Too long, or what was followed and the words at its end.
-- Assumes nothing.
use Rattle.std.proofs.Common.{◌+◌, ◌≤◌, [], ◌∷◌, length, arith, append-nil}
use Rattle.theory_refusals.specs.Numbers.{number_of}
use Rattle.text.specs.Line.{too_long, line_of}
use Rattle.text.specs.Walk.{answer-long, answer-begun}
use Rattle.text_print.specs.Page.{prints_both}
use Rattle.script.specs.Rules.{set_up, event}
use Rattle.script.specs.Stops.{said, ending}
use Rattle.script.proofs.Ends.{length-kept}
use Rattle.script.proofs.print.Goals as goal

pub put_too_long-requires : goal.put_too_long-requires
unfolding too_long
put_too_long-requires c = omega (arith, c.requires.empty, c.requires.large)

pub returns-then-s-gt-LONGEST-clause-prints : goal.returns-then-s-gt-LONGEST-clause-prints
returns-then-s-gt-LONGEST-clause-prints c = rw (answer-long set_up event c.args.s.now (omega arith)) c.put_too_long.ensures

pub returns-then-s-gt-LONGEST-clause-upper_bound : goal.returns-then-s-gt-LONGEST-clause-upper_bound
unfolding too_long
returns-then-s-gt-LONGEST-clause-upper_bound c = omega (arith, c.requires.empty, c.put_too_long.ensures.put.after)

pub put_bad_line-requires : goal.put_bad_line-requires
unfolding ending said
put_bad_line-requires c =
    let l = rw c.in-Err-BadLine.field-0-is at c.in-Err-BadLine.ensures in omega (arith, l.room, length-kept l.prints, c.requires.large)

pub returns-in-Err-BadLine-clause-prints : goal.returns-in-Err-BadLine-clause-prints
unfolding ending said
returns-in-Err-BadLine-clause-prints c =
    let l = rw c.in-Err-BadLine.field-0-is at c.in-Err-BadLine.ensures in
    rw (answer-begun set_up event c.args.s.now (omega arith), l.answers) (prints_both l.prints c.put_bad_line.ensures)

pub returns-in-Err-BadLine-clause-upper_bound : goal.returns-in-Err-BadLine-clause-upper_bound
unfolding ending said
returns-in-Err-BadLine-clause-upper_bound c =
    let l = rw c.in-Err-BadLine.field-0-is at c.in-Err-BadLine.ensures in omega (arith, l.room, c.put_bad_line.ensures.put.after)

pub put_line-requires : goal.put_line-requires
unfolding ending said
put_line-requires c =
    let l = rw c.in-Err-Refused.field-0-is at c.in-Err-Refused.ensures in
    rw c.number.ensures (omega (arith, l.room, length-kept l.prints, c.requires.large))

pub returns-in-Err-Refused-clause-prints : goal.returns-in-Err-Refused-clause-prints
unfolding ending said
returns-in-Err-Refused-clause-prints c =
    let l = rw c.in-Err-Refused.field-0-is at c.in-Err-Refused.ensures in
    rw (answer-begun set_up event c.args.s.now (omega arith), l.answers, ← c.number.ensures) (prints_both l.prints c.put_line.ensures)

pub returns-in-Err-Refused-clause-upper_bound : goal.returns-in-Err-Refused-clause-upper_bound
unfolding ending said
returns-in-Err-Refused-clause-upper_bound c =
    let l = rw c.in-Err-Refused.field-0-is at c.in-Err-Refused.ensures in
    let room : c.follow.new.page.at + length (line_of (number_of c.in-Err-Refused.r ∷ [])) ≤ 270400 = l.room in
    omega (arith, rw (← c.number.ensures) at room, c.put_line.ensures.put.after)

pub returns-in-Ok-clause-prints : goal.returns-in-Ok-clause-prints
unfolding ending
returns-in-Ok-clause-prints c =
    let l = c.in-Ok.ensures in rw (answer-begun set_up event c.args.s.now (omega arith), l.answers, append-nil l.done) l.prints
