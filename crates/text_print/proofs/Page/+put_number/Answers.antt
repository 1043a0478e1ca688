-- Assumes nothing.
use Rattle.std.proofs.Common.{◌+◌, ◌%◌, [], ◌∷◌, arith}
use Rattle.text.specs.Digits.{decimal-more}
use Rattle.text_print.specs.Page.{prints_both, room_left}
use Rattle.text_print.proofs.Page.+put_number.Goals as goal

pub put_byte-requires-2 : goal.put_byte-requires-2
put_byte-requires-2 t c =
    let n = c.args.n in
    let room = rw (decimal-more n (omega arith)) at c.requires in
    room_left ((48 + n % 10) ∷ []) c.put_number.ensures room

pub returns : goal.returns
returns t c = rw (decimal-more c.args.n (omega arith)) (prints_both c.put_number.ensures c.put_byte-2.ensures)
