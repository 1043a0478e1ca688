-- The loop's invariant: what was printed, and the line of the numbers that are left, are the whole line.
-- Assumes nothing.
use Rattle.std.proofs.Common.{◌≡◌, ℕ, List, ◌++◌, drop}
use Rattle.text.specs.Line.{line_of}
use Rattle.text_print.specs.Page.{Prints}
use Rattle.text_print.proofs.Page.put_line.Given as goal

abbrev pub invariant-loop-n : goal.invariant-loop-n
invariant-loop-n l = record {
  done : List ℕ;
  prints : Prints done l.fn.self l.self;
  whole : line_of l.numbers ≡ done ++ line_of (drop l.n-index l.numbers);
}
