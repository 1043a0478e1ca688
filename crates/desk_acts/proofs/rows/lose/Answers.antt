-- A turn of the loop looks at one cell, which is lost, or stays.
use Rattle.std.proofs.Common.{◌≤◌, refl, ◌∙◌, arith}
use Rattle.theory_lists.specs.Swept.{swept, swept_count}
use Rattle.desk_acts.proofs.Losing.{small, turn-lost, turn-stays}
use Rattle.desk_acts.proofs.rows.lose.Goals as goal
use Rattle.desk_acts.proofs.rows.lose.Goals.{then-is_lost, else-is_lost}

pub loop-c-init : goal.loop-c-init
unfolding swept swept_count
loop-c-init c = record { left = refl; count = refl }

pub overflow_add-lost : goal.overflow_add-lost
overflow_add-lost c =
    let few = small c.args.t.now c.args.d c.args.learnt c.args.cells.now c.loop-c.c in
    let most : c.loop-c.lost ≤ c.loop-c.c = omega (arith, few, c.loop-c.invariant.count) in
    record { fits = omega (arith, most, c.requires.0, c.requires.1, c.loop-c-test.true) }

pub loop-c-preserved : goal.loop-c-preserved
loop-c-preserved c =
    let i = c.loop-c.invariant in
    elim c.if-is_lost.branch [
      | then-is_lost w ↦ (let turn = turn-lost c.args.t.now c.args.d c.args.learnt c.args.cells.now c.loop-c.c (omega arith) c.loop-c.cells c.loop-c.lost
          i.left i.count c.kept_by.result c.kept_by.ensures c.is_lost.result c.is_lost.ensures w.if-is_lost.true in
          record { left = w.cells-is ∙ turn.0; count = w.lost-is ∙ turn.1 })
      | else-is_lost w ↦ (let turn = turn-stays c.args.t.now c.args.d c.args.learnt c.args.cells.now c.loop-c.c (omega arith) c.loop-c.cells c.loop-c.lost
          i.left i.count c.kept_by.result c.kept_by.ensures c.is_lost.result c.is_lost.ensures
          (omega (arith, c.loop-c.auto.cells)) w.if-is_lost.false in
          record { left = w.cells-is ∙ turn.0; count = w.lost-is ∙ turn.1 })
    ]
