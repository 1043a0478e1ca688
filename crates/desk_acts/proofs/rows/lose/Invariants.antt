-- The cells passed are looked at: those lost are gone, and counted.
use Rattle.std.proofs.Common.{◌≡◌}
use Rattle.theory_lists.specs.Swept.{swept, swept_count}
use Rattle.desk.specs.Desk.{is_lost, no_cell, past_cell}
use Rattle.desk_acts.proofs.rows.lose.Given as goal

abbrev pub invariant-loop-c : goal.invariant-loop-c
invariant-loop-c l = record {
  left : l.cells ≡ swept (is_lost l.t l.d l.learnt) no_cell past_cell 0 l.c l.fn.cells;
  count : l.lost ≡ swept_count (is_lost l.t l.d l.learnt) no_cell past_cell 0 l.c l.fn.cells;
}
