-- The digits, and the byte behind them.
-- Assumes nothing.
use Rattle.std.proofs.Common.{[], ◌∷◌}
use Rattle.text.specs.Number.{decimal}
use Rattle.text.specs.Printing.{ended, room-front}
use Rattle.text_print.specs.Page.{prints_both, room_left}
use Rattle.text_print.proofs.Page.put_ended.Goals as goal

pub put_number-requires : goal.put_number-requires
unfolding ended
put_number-requires c = let a = c.args in room-front (decimal a.n) (a.end ∷ []) a.self.now.out.now a.self.now.at c.requires

pub put_byte-requires : goal.put_byte-requires
unfolding ended
put_byte-requires c = room_left (c.args.end ∷ []) c.put_number.ensures c.requires

pub returns : goal.returns
unfolding ended
returns c = prints_both c.put_number.ensures c.put_byte.ensures
