-- A run of the machine, step by step: desk 0 keeps the cells; desk 1 asks to write 27 in cell 0, desk 0 takes it, desk 1 brings the answer
-- and reads its copy.
-- Assumes nothing.
use Rattle.std.specs.Prelude.{List, [], ◌∷◌}
use Rattle.theory_causal.specs.Accident.{numbers}
use Rattle.theory_causal.specs.History.{from, Step, nothing, wrote, showed}

unfoldable pub steps : List (Step numbers)
steps = nothing ∷ wrote 1 0 27 0 ∷ nothing ∷ showed 1 0 27 (from 1) 3 ∷ []
