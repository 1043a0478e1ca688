-- The loop's invariant: what was printed, and the run over the rest, are the whole answer. A reply has at most 33 bytes, and the line of an
-- event at least 8, so there is room.
-- Assumes nothing.
use Rattle.std.proofs.Common.{◌≡◌, ℕ, List, ◌+◌, ◌*◌, ◌≤◌, ◌++◌, true, length}
use Rattle.text.specs.Line.{lines_of}
use Rattle.text.specs.Script.{run}
use Rattle.text_print.specs.Page.{Prints}
use Rattle.table.specs.Room.{Room}
use Rattle.table.specs.Sound.{table_sound}
use Rattle.script.specs.Rules.{set_up, event}
use Rattle.script.proofs.run.Given as goal

abbrev pub invariant-loop-rest : goal.invariant-loop-rest
invariant-loop-rest l = record {
  done : List ℕ;
  prints : Prints done l.fn.page l.page;
  answers : run set_up event l.fn.fresh 3 (lines_of l.fn.text) ≡ done ++ run set_up event l.table l.n (lines_of l.rest);
  room : 8 * l.page.at + 33 * length l.rest ≤ 33 * 65536;
  count : l.n + length l.rest ≤ 3 + 65536;
  sound : table_sound l.table ≡ true;
  sized : Room l.table;
}

abbrev pub decreases-loop-rest : goal.decreases-loop-rest
decreases-loop-rest l = length l.rest
