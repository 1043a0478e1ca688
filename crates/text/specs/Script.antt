-- What a whole input must answer, in the words of 01: the text out as a function of the text in. The table is abstract here.
-- Assumes nothing.
use Rattle.std.specs.Prelude.{cond, ◌&&◌, List, [], ◌∷◌, ◌++◌, ℕ, suc, ◌-◌, leb, ltb, eqb, length, get_or, replicate}
use Rattle.std.proofs.Math.Option.{Option, none, some, Option-elim}
use Rattle.text.specs.Number.{given}
use Rattle.text.specs.Line.{lines_of, line_of, bad_line, too_long}

-- "malformed or missing": the first line, and a line's numbers if there are k of them
unfoldable pub first : List (Option (List ℕ)) → Option (List ℕ)
first [] = none
first (m ∷ ms) = m

unfoldable pub others : List (Option (List ℕ)) → List (Option (List ℕ))
others [] = []
others (m ∷ ms) = ms

unfoldable pub having : ℕ → Option (List ℕ) → Option (List ℕ)
having k none = none
having k (some ns) = given (eqb (length ns) k) ns

-- ---- the answer, given what setting up makes of the counts and 32 keepers (a code and a table),
-- and what an event's four numbers make of a table (a reply's three numbers and a table)
module _ {Table : Type 0} (set_up : ℕ → ℕ → List ℕ → ℕ × Table) (event : Table → List ℕ → List ℕ × Table) where
  -- "For each event it writes one line." The next line is the nth.
  unfoldable pub run : Table → ℕ → List (Option (List ℕ)) → List ℕ
  run t n [] = []
  run t n (m ∷ ms) = Option-elim (having 4 m) (bad_line n) (λ ns. line_of (event t ns).0 ++ run (event t ns).1 (suc n) ms)

  -- "Setting up refused: it writes that number on one line and stops."
  unfoldable pub started : ℕ × Table → List (Option (List ℕ)) → List ℕ
  started (code, t) lines = cond (eqb code 0) (run t 3 lines) (line_of (code ∷ []))

  -- "If line 1 gives 0 cells or more than 32, set-up is refused without looking at line 2."
  unfoldable pub sized : ℕ → ℕ → List (Option (List ℕ)) → List ℕ
  sized desks cells lines =
      cond (ltb 0 cells && leb cells 32)
      (Option-elim (having cells (first lines)) (bad_line 2)
      (λ keepers. started (set_up desks cells (keepers ++ replicate (32 - cells) 0)) (others lines)))
      (line_of ((set_up desks cells (replicate 32 0)).0 ∷ []))

  unfoldable pub begun : List (Option (List ℕ)) → List ℕ
  begun lines = Option-elim (having 2 (first lines)) (bad_line 1) (λ ns. sized (get_or ns 0 0) (get_or ns 1 0) (others lines))

  -- "Input above 65,536 bytes: only `too long`."
  unfoldable pub answer : List ℕ → List ℕ
  answer text = cond (ltb 65536 (length text)) too_long (begun (lines_of text))
