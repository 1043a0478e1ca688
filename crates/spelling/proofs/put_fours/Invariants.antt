-- k numbers stand at the place, and the rest is as it was.
use Rattle.std.proofs.Common.{◌≡◌, ◌*◌, length, take, replicate}
use Rattle.spelling.specs.Bytes.{spell, put}
use Rattle.spelling.proofs.put_fours.Given as goal

abbrev pub invariant-loop-k : goal.invariant-loop-k
invariant-loop-k l = l.out ≡ put l.at (spell (take l.k (replicate (length l.fn.ns) 4)) l.fn.ns) (4 * l.k) l.initial.out
