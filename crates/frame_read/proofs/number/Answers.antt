-- Four bytes of the frame, or nothing past its end.
use Rattle.std.proofs.Common.{◌+◌, ◌*◌, sym, ap, ◌∙◌, arith}
use Rattle.spelling.specs.Bytes.{numeral}
use Rattle.spelling.specs.Places.{part-take}
use Rattle.frame_read.proofs.number.Goals as goal

pub returns : goal.returns
returns c =
    let a = c.args in
    c.at.ensures ∙ sym (ap numeral (part-take (7 + 4 * a.k) 4 (7 + 4 * a.c) a.s.now (omega arith)))
