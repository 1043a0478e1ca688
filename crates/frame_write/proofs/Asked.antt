-- A read asked, which carries no number: what the code tests, and what it comes to.
-- Assumes nothing.
use Rattle.std.proofs.Common.{◌≡◌, ℕ, Bool, ◌&&◌, ◌∷◌, refl, sym, ap, ◌∙◌, eqb}
use Rattle.theory_lists.specs.Each.{map_at}
use Rattle.theory_lists.specs.Test.{every}
use Rattle.clock.specs.declared.Clock.{Clock}
use Rattle.clock.specs.Clock.{is_within}
use Rattle.frame.specs.Frame.{carried, carried_or_zero}
use Rattle.frame_write.proofs.Writes.{none-carried, carried_within}

pub none : (kind desks : ℕ) → kind ≡ 1 → 0 ≡ carried kind desks
unfolding carried
none kind desks e = rw e refl

-- what the code tests is whether the word and the clock's numbers are 0
pub tested : (word : ℕ) (clock : Clock) (zero : Bool) → zero ≡ is_within 0 clock
    → every (map_at (carried_or_zero 0) (word ∷ clock.n)) ≡ (eqb word 0 && zero)
tested word clock zero e =
    none-carried word clock.n ∙ ap (λ (b : Bool). eqb word 0 && b) (carried_within 0 clock ∙ sym e)
