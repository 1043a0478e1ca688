use Rattle.std.proofs.Common.{sym, arith}
use Rattle.frame.specs.Laws.{carried-le}
use Rattle.frame_read.proofs.Told.{told, cut, right_size}
use Rattle.frame_read.proofs.framed.Goals as goal

-- the check finds these two alone; answered, a wrong test is refused by the numbers for which it is wrong
pub returns-then-s-size-clause-code : goal.returns-then-s-size-clause-code
returns-then-s-size-clause-code c = sym (cut c.args.s.now c.if-s-lt2.false (omega arith))

pub returns-clause-code : goal.returns-clause-code
returns-clause-code c =
    sym (right_size c.args.s.now c.if-s-lt2.false (omega arith) (omega arith) (omega arith) c.in_ok-fault.ensures _ c.carries-c.ensures (omega arith))

pub overflow_mul-c : goal.overflow_mul-c
overflow_mul-c c = omega (arith, carried-le, c.type_inv.s 4)

pub overflow_add-c : goal.overflow_add-c
overflow_add-c c = omega (arith, carried-le, c.type_inv.s 4)

pub returns-clause-ends : goal.returns-clause-ends
returns-clause-ends c = (omega arith, omega (arith, told c.args.s.now))
