-- With no refusal the table is made fresh.
use Rattle.std.proofs.Common.{◌≡◌, sym, length, rules, arith}
use Rattle.desk.specs.Start.{no_tray}
use Rattle.table.specs.SetUp.{no_table}
use Rattle.table.specs.SetUpInPlace.{housed}
use Rattle.table_set_up.proofs.Told.{done, refused}
use Rattle.table_set_up.proofs.set_up.Goals as goal

pub fresh-requires : goal.fresh-requires
fresh-requires c =
    let long : length c.args.plan.keepers ≡ 32 = search rules in
    rw c.tray.ensures (housed c.args.plan long (sym c.in-Ok.ensures))

pub returns-in-Ok : goal.returns-in-Ok
returns-in-Ok c = done c.args.plan c.tray.result c.fresh.new.t c.in-Ok.ensures c.tray.ensures c.fresh.ensures

pub returns-in-Err : goal.returns-in-Err
unfolding no_table no_tray
returns-in-Err c =
    let none = refused c.args.plan c.in-Err.r c.in-Err.ensures in
    (omega (arith, c.number.ensures, none.0), none.1)
