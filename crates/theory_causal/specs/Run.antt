-- The ghost beside a run of the machine, and where it stands at the run's end.
-- Assumes nothing.
use Rattle.std.specs.Prelude.{List, ℕ, length}
use Rattle.theory_causal.specs.Changed.{changed}
use Rattle.theory_causal.specs.History.{Words, Step, listed}
use Rattle.theory_causal.specs.Facts.{Clock, zeros}
use Rattle.theory_causal.specs.Machine.{State, Run, start, next}
use Rattle.theory_causal.specs.Invariants.{Moment}
use Rattle.theory_causal.specs.Invariants.Passing.{taught}
pub mod Sources

-- ---- the ghost: what each desk's own operations know, and the clock of each operation
unfoldable pub own : {W : Words} {h : List (Step W)} {S : State W} → Run h S → ℕ → Clock
own (start s) = λ p. zeros
own (next {o = o} {a = a} r m) = taught (own r) o.desk a

unfoldable pub know : {W : Words} {h : List (Step W)} {S : State W} → Run h S → ℕ → Clock
know (start s) = λ x. zeros
know (next {h = h} {o = o} {a = a} r m) = changed (know r) (length h) (taught (own r) o.desk a o.desk)

module _ {W : Words} {h : List (Step W)} {S : State W} (r : Run h S) where
  abbrev pub now : Moment W
  now = record { history = listed h; know = know r; now = length h; own = own r }
