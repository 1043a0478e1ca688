-- The loop's invariant: the number is what the value so far makes of the digits that are left.
-- Assumes nothing.
use Rattle.std.proofs.Common.{◌≡◌, ◌≤◌, drop}
use Rattle.text.specs.Number.{largest, number_of}
use Rattle.text.specs.Front.{number_from}
use Rattle.text.proofs.read_number.Given as goal

abbrev pub invariant-loop-b : goal.invariant-loop-b
invariant-loop-b l = record {
  within : l.value ≤ largest;
  so_far : number_of l.word ≡ number_from l.value (drop l.b-index l.word);
}
