-- Corners of the script, computed over a stand-in for the table: setting up refuses as 01 says, and an event is replied to by its first
-- three numbers.
-- Assumes nothing.
use Rattle.std.specs.Prelude.{◌≡◌, refl, cond, ◌&&◌, List, [], ◌∷◌, ◌++◌, map, ℕ, leb, ltb, take}
use Rattle.std.proofs.Math.Option.{Option-elim}
use Rattle.theory_lists.specs.Test.{every}
use Rattle.text.specs.Number.{given, is_digit, value_from, starts_well, number_of, digits_within, decimal}
use Rattle.text.specs.Line.{on_first, pieces, with_first, all_numbers, numbers_of, line_numbers, ended_lines, lines_of, joined, spaced, line_of, bad_line}
use Rattle.text.specs.Script.{first, others, having, run, started, sized, begun, answer}

set_up : ℕ → ℕ → List ℕ → ℕ × Unit {0}
set_up desks cells keepers = (
  cond (leb 1 desks && leb desks 8)
      (cond (leb 1 cells && leb cells 32) (cond (every (map (λ k. ltb k desks) (take cells keepers))) 0 22) 21) 20,
  tt,
)

event : Unit {0} → List ℕ → List ℕ × Unit {0}
event t ns = (take 3 ns, t)

Says : List ℕ → List ℕ → Type 0
Says text out = answer set_up event text ≡ out

corners :
    Says [] (bad_line 1)
    -- `1 1` with no LF
    × Says (49 ∷ 32 ∷ 49 ∷ []) (bad_line 1)
    -- line 2 missing
    × Says (49 ∷ 32 ∷ 49 ∷ 10 ∷ []) (bad_line 2)
    -- 9 desks and no cells: line 2 is not looked at
    × Says (57 ∷ 32 ∷ 48 ∷ 10 ∷ 120 ∷ []) (line_of (20 ∷ []))
    -- 9 desks, 1 cell, line 2 empty
    × Says (57 ∷ 32 ∷ 49 ∷ 10 ∷ 10 ∷ []) (bad_line 2)
    -- 1 desk, 1 cell, keeper 1
    × Says (49 ∷ 32 ∷ 49 ∷ 10 ∷ 49 ∷ 10 ∷ 120 ∷ []) (line_of (22 ∷ []))
    -- no event
    × Says (49 ∷ 32 ∷ 49 ∷ 10 ∷ 48 ∷ 10 ∷ []) []
    -- an event, a line of one number with a leading zero, and an event that is not looked at
    × Says (49 ∷ 32 ∷ 49 ∷ 10 ∷ 48 ∷ 10 ∷ 49 ∷ 32 ∷ 48 ∷ 32 ∷ 48 ∷ 32 ∷ 48 ∷ 10 ∷ 48 ∷ 49 ∷ 10 ∷ 49 ∷ 32 ∷ 48 ∷ 32 ∷ 48 ∷ 32 ∷ 48 ∷ 10 ∷ [])
    (line_of (1 ∷ 0 ∷ 0 ∷ []) ++ bad_line 4)
unfolding set_up event Says answer begun sized started run having others first lines_of ended_lines line_numbers numbers_of all_numbers with_first
    pieces on_first number_of starts_well value_from is_digit given every line_of spaced joined bad_line decimal digits_within Option-elim
corners = (refl, refl, refl, refl, refl, refl, refl, refl)
