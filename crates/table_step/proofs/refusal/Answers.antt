-- 8 and 10 first, then the lines that look at a seat.
use Rattle.std.proofs.Common.{◌≡◌, ◌∙◌, Err, eqb, rules, arith}
use Rattle.std.specs.Prelude.{T, not}
use Rattle.table.specs.SoundLaws.{sound-tray}
use Rattle.table.specs.Turn.{unplaced_of, unplaced-some, unplaced-none, placed}
use Rattle.table_step.proofs.Codes.{some}
use Rattle.table_step.proofs.refusal.Goals as goal

pub returns-in_err-unplaced-clause-code : goal.returns-in_err-unplaced-clause-code
returns-in_err-unplaced-clause-code c =
    let t = c.args.t.now in
    let e = c.args.e in
    let is : c.from_residual.result ≡ Err c.in_err-unplaced.field-0.0 = search rules in
    let none : T (not (eqb (unplaced_of t e) 0)) = rw (← c.in_err-unplaced.ensures) (some c.in_err-unplaced.field-0.0) in
    rw is (c.in_err-unplaced.ensures ∙ unplaced-some t e c.requires none)

pub overflow_cast-e : goal.overflow_cast-e
overflow_cast-e c =
    let none : T (not (not (eqb (unplaced_of c.args.t.now c.args.e) 0))) = rw (← c.in_ok-unplaced.ensures) tt in
    record { fits = omega (arith, placed c.args.t.now c.args.e c.requires none) }

pub bounds-t-e : goal.bounds-t-e
bounds-t-e c =
    let none : T (not (not (eqb (unplaced_of c.args.t.now c.args.e) 0))) = rw (← c.in_ok-unplaced.ensures) tt in
    placed c.args.t.now c.args.e c.requires none

pub seat_refusal-requires : goal.seat_refusal-requires
seat_refusal-requires c =
    let none : T (not (not (eqb (unplaced_of c.args.t.now c.args.e) 0))) = rw (← c.in_ok-unplaced.ensures) tt in
    (placed c.args.t.now c.args.e c.requires none, (sound-tray c.args.t.now c.requires).cells-most)

pub returns-clause-code : goal.returns-clause-code
returns-clause-code c =
    let none : T (not (not (eqb (unplaced_of c.args.t.now c.args.e) 0))) = rw (← c.in_ok-unplaced.ensures) tt in
    c.seat_refusal.ensures ∙ unplaced-none c.args.t.now c.args.e c.requires none
