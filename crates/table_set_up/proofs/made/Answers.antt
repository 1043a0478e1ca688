-- What `set_up` says, of a table of its own.
use Rattle.std.proofs.Common.{◌≡◌, sym, length, rules}
use Rattle.table.specs.SetUpInPlace.{housed}
use Rattle.table_set_up.proofs.Told.{done, refused}
use Rattle.table_set_up.proofs.made.Goals as goal

pub fresh-requires : goal.fresh-requires
fresh-requires c =
    let long : length c.args.plan.keepers ≡ 32 = search rules in
    rw c.tray.ensures (housed c.args.plan long (sym c.in_ok-check_plan.ensures))

pub returns-in_err-check_plan-clause-code : goal.returns-in_err-check_plan-clause-code
returns-in_err-check_plan-clause-code c =
    let told = (refused c.args.plan c.in_err-check_plan.field-0.0 c.in_err-check_plan.ensures).0 in
    search rules

pub returns-clause-code : goal.returns-clause-code
returns-clause-code c = (done c.args.plan c.tray.result c.fresh.new.t c.in_ok-check_plan.ensures c.tray.ensures c.fresh.ensures).0

pub returns-clause-table : goal.returns-clause-table
returns-clause-table c = (done c.args.plan c.tray.result c.fresh.new.t c.in_ok-check_plan.ensures c.tray.ensures c.fresh.ensures).1
