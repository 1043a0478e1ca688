-- One row more is what `cells-next` says.
use Rattle.std.proofs.Common.{◌≡◌, ◌+◌, ◌-◌, ◌*◌, ◌≤◌, ℕ, ◌∙◌, sym, take, drop, get_or-take, get_or-drop, ltb, arith}
use Rattle.desk.specs.Desk.{past_cell, cell_at, place_at}
use Rattle.desk_sums.proofs.Parts.{row_same}
use Rattle.desk_sums.specs.Rows.{row_of, cells_sum, cells-none, cells-next}
use Rattle.theory_lists.specs.Test.{whichever}
use Rattle.table_sound.proofs.cells_sum.Goals as goal

pub loop-d-init : goal.loop-d-init
loop-d-init c = sym (cells-none c.args.t.now (cell_at c.args.cells.now))

pub loop-d-preserved : goal.loop-d-preserved
loop-d-preserved c =
    let t = c.args.t.now in
    let cells = c.args.cells.now in
    let d = c.loop-d.d in
    let most = whichever (λ (n : ℕ). n ≤ 32) (ltb d t.counts.desks) t.counts.cells 0 c.requires.1 (omega arith) in
    let same = row_same (place_at t) (cell_at (take (d * 32 + 32 - d * 32) (drop (d * 32) cells))) (row_of (cell_at cells) d) d c.used_by-n.result c.loop-d.sum
    (rw c.used_by-n.ensures most)
    (λ k h. get_or-take (d * 32 + 32 - d * 32) (drop (d * 32) cells) k past_cell (omega arith) ∙ get_or-drop (d * 32) cells k past_cell) in
    let so-far : c.loop-d.sum ≡ cells_sum t (cell_at cells) d = c.loop-d.invariant in
    c.row_sum-sum.ensures ∙ same ∙ rw (c.used_by-n.ensures, so-far) (sym (cells-next t (cell_at cells) d))
