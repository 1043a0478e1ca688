-- The loop's invariant: the line's numbers are those so far, and then those of the words that are left.
-- Assumes nothing.
use Rattle.std.proofs.Common.{◌≡◌, ◌≤◌, length, drop}
use Rattle.text.specs.Line.{all_numbers, numbers_of}
use Rattle.text.specs.Row.{behind}
use Rattle.text.specs.WordTurns.{words}
use Rattle.text.proofs.read_numbers.Given as goal

abbrev pub invariant-loop-word : goal.invariant-loop-word
invariant-loop-word l = record {
  room : length l.numbers ≤ 32;
  so_far : numbers_of l.line ≡ behind l.numbers (all_numbers (drop (length l.yielded) (words l.line)));
}
