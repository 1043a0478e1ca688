-- With no refusal the record is made fresh.
use Rattle.std.proofs.Common.{sym, ap, ◌∙◌, arith}
use Rattle.desk.specs.declared.Started.{Started}
use Rattle.desk.specs.Start.{fresh_record, not_started, start_refusal, start_rule}
use Rattle.desk.specs.StartInPlace.{few-cells, start-refused}
use Rattle.desk.specs.StartLaws.{settled, start-passed}
use Rattle.theory_refusals.specs.Refusals.{unless-done}
use Rattle.desk_start.proofs.start.Goals as goal

pub tray-requires : goal.tray-requires
tray-requires c = (start-passed c.args.plan c.args.desk (sym c.in-Ok.ensures)).0

pub overflow_cast-desk : goal.overflow_cast-desk
overflow_cast-desk c =
    let passed = start-passed c.args.plan c.args.desk (sym c.in-Ok.ensures) in
    record { fits = omega (arith, passed.1, (settled c.args.plan passed.0).desks-most) }

pub fresh-requires : goal.fresh-requires
fresh-requires c = rw c.tray.ensures (few-cells c.args.plan (start-passed c.args.plan c.args.desk (sym c.in-Ok.ensures)).0)

pub returns-in-Ok : goal.returns-in-Ok
unfolding start_rule
returns-in-Ok c =
    let same = sym (unless-done (start_refusal c.args.plan c.args.desk) not_started _ (sym c.in-Ok.ensures)) in
    (ap (λ (s : Started). s.code) same, c.fresh.ensures ∙ ap (λ t. fresh_record t c.args.desk) c.tray.ensures ∙ ap (λ (s : Started). s.«record») same)

pub returns-in-Err : goal.returns-in-Err
returns-in-Err c =
    let told = c.number.ensures ∙ c.in-Err.ensures in
    let same = sym (start-refused c.args.plan c.args.desk (λ none. grind arith)) in
    (told ∙ ap (λ (s : Started). s.code) same, c.clear.ensures ∙ ap (λ (s : Started). s.«record») same)
