-- A refusal, or what is done.
use Rattle.std.proofs.Common.{◌∙◌, ap, eqb}
use Rattle.std.specs.Prelude.{T, not}
use Rattle.desk.specs.Rules.{refused_reply}
use Rattle.table.specs.Rules.{refusal}
use Rattle.table.specs.Turn.{step-refused, step-done}
use Rattle.table_step.proofs.Codes.{some}
use Rattle.table_step.proofs.step.Goals as goal

pub returns-in-Ok : goal.returns-in-Ok
returns-in-Ok c =
    let none : T (not (not (eqb (refusal c.args.t.now c.args.e) 0))) = rw (← c.in-Ok.ensures.code) tt in
    let same = step-done c.args.t.now c.args.e none in
    (c.done.ensures.0 ∙ same.1, c.done.ensures.1 ∙ same.2)

pub returns-in-Err : goal.returns-in-Err
returns-in-Err c =
    let code : T (not (eqb (refusal c.args.t.now c.args.e) 0)) = rw (← c.in-Err.ensures.code) (some c.in-Err.r) in
    let same = step-refused c.args.t.now c.args.e code in
    (c.refused.ensures ∙ ap refused_reply (c.number.ensures ∙ c.in-Err.ensures.code) ∙ same.0, same.1)
