use Rattle.std.proofs.Common.{◌≡◌, Err, sym, arith, rules}
use Rattle.frame.specs.Laws.{some-number}
use Rattle.frame_write.proofs.Writes.{faulted}
use Rattle.frame_write.proofs.framed.Goals as goal

pub returns-in_err-fault : goal.returns-in_err-fault
returns-in_err-fault c =
    let refusal = c.in_err-fault.field-0.0 in
    let is : c.from_residual.result ≡ Err refusal = search rules in
    rw is (faulted c.args.m.now c.args.out.now _ c.in_err-fault.ensures (some-number refusal))

pub returns-in_err-fault-2 : goal.returns-in_err-fault-2
returns-in_err-fault-2 c =
    let refusal = c.in_err-fault-2.field-0.0 in
    let is : c.from_residual-in_err-fault-2.result ≡ Err refusal = search rules in
    rw is (faulted c.args.m.now c.args.out.now _ c.in_err-fault-2.ensures (some-number refusal))

-- the check finds this alone; answered, a wrong test is refused by the kind for which it is wrong
pub bare-requires : goal.bare-requires
bare-requires c = (sym c.in_ok-fault.ensures, omega arith)
