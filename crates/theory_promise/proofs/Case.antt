-- 01's whole case has for each desk its order.
-- Assumes nothing.
use Rattle.std.specs.Prelude.{refl, ℕ}
use Rattle.theory_promise.specs.Case.{case_plan, script, case}
use Rattle.theory_promise.specs.Promise.{Explained}
use Rattle.theory_promise.proofs.Promise.{demand-3}

-- each desk has its order
pub case-explained : (p : ℕ) → Explained case p
unfolding case
case-explained = demand-3 case_plan refl refl script
