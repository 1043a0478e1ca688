-- A turn of the loop gives one cell to its keeper.
use Rattle.std.proofs.Common.{◌≡◌, ap, ◌∙◌, sym, ◌<◌, length, length-take, rules, arith}
use Rattle.std.proofs.lemmas.List.{get_or-take}
use Rattle.theory_lists.specs.Each.{length-mapped}
use Rattle.desk.specs.Desk.{no_place}
use Rattle.desk.specs.Start.{blank_cell}
use Rattle.table.specs.declared.Table.{Table}
use Rattle.table.specs.Changes.{with_cell}
use Rattle.table.specs.SetUp.{no_table}
use Rattle.table.specs.SetUpInPlace.{home, kept_to, kept-none, kept-one, kept_fresh}
use Rattle.table_set_up.proofs.Cleared.{cleared, few}
use Rattle.table_set_up.proofs.fresh.Goals as goal

pub loop-c-init : goal.loop-c-init
unfolding no_table
loop-c-init c = sym (kept-none (cleared c.args.x))

pub loop-c-preserved : goal.loop-c-preserved
loop-c-preserved c =
    let x = c.args.x in
    let k = c.loop-c.c in
    let below : k < x.counts.cells = omega (arith, length-take x.counts.cells x.places) in
    rw (get_or-take x.counts.cells x.places k no_place below)
    (ap (λ (u : Table). with_cell u (home x k) blank_cell) c.loop-c.invariant ∙ kept-one (cleared x) k)

pub returns : goal.returns
returns c =
    let x = c.args.x in
    let long : length x.places ≡ 32 = search (rules, length-mapped) in
    let end : c.loop-c.c ≡ x.counts.cells = omega (arith, length-take x.counts.cells x.places, few x c.requires) in
    c.loop-c.invariant ∙ ap (kept_to (cleared x)) end ∙ kept_fresh x c.requires
