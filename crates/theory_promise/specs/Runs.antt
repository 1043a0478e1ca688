-- What holds of every run of the table's rules: it is a run of the machine, and its replies give what its history says.
-- Assumes nothing.
use Rattle.std.specs.Prelude.{◌≡◌, ℕ, length}
use Rattle.theory_causal.specs.History.{listed}
use Rattle.theory_causal.specs.Machine as machine
use Rattle.table.specs.Room.{Room}
use Rattle.theory_promise.specs.Link.{Tied}
use Rattle.theory_promise.specs.Operations.{Account, replied_at}
use Rattle.theory_promise.specs.State.{state}

-- what holds of a run so far
pub record Runs (a : Account) : Type 0 where
  pub room : Room a.table
  pub runs : machine.Run a.history (state a.table a.trails)
  pub long : length a.replies ≡ length a.history
  pub tied : (x : ℕ) → Tied (listed a.history x) (replied_at a x)
