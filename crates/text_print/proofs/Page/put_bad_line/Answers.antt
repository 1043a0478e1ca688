-- The words, and a number with LF behind it.
-- Assumes nothing.
use Rattle.std.proofs.Common.{arith}
use Rattle.text.specs.Line.{bad_line}
use Rattle.text.specs.Printing.{ended}
use Rattle.text_print.specs.Page.{prints_both, room_left}
use Rattle.text_print.proofs.Page.put_bad_line.Goals as goal

pub put_bytes-requires : goal.put_bytes-requires
unfolding bad_line
put_bytes-requires c = omega (arith, c.requires)

pub put_ended-requires : goal.put_ended-requires
unfolding bad_line ended
put_ended-requires c = room_left (ended c.args.n 10) c.put_bytes.ensures c.requires

pub returns : goal.returns
unfolding bad_line ended
returns c = prints_both c.put_bytes.ensures c.put_ended.ensures
