-- A refusal is told by a number that is not 0.
-- Assumes nothing.
use Rattle.std.proofs.Common.{eqb, ne_eqb, arith}
use Rattle.std.specs.Prelude.{T, not}
use Rattle.theory_refusals.specs.declared.Refusal.{Refusal}
use Rattle.theory_refusals.specs.Numbers.{number_of}

pub some : (r : Refusal) → T (not (eqb (number_of r) 0))
some r = rw (ne_eqb (number_of r) 0 (λ e. grind arith)) tt
