-- Lines of decimal numbers, in the words of 01: how a text falls into lines, a line into numbers, and how a line is printed.
-- Assumes nothing.
use Rattle.std.specs.Prelude.{cond, List, [], ◌∷◌, ◌++◌, map, ℕ, leb, ltb, eqb, length}
use Rattle.std.proofs.Math.Option.{Option, none, some}
use Rattle.text.specs.Number.{given, number_of, decimal}

abbrev pub space : ℕ
space = 32

abbrev pub lf : ℕ
lf = 10

-- ---- reading
-- what stands before the first b
unfoldable pub before : ℕ → List ℕ → List ℕ
before b [] = []
before b (x ∷ xs) = cond (eqb x b) [] (x ∷ before b xs)

unfoldable pub on_first : ℕ → List (List ℕ) → List (List ℕ)
on_first x [] = []
on_first x (p ∷ ps) = (x ∷ p) ∷ ps

-- the pieces between the b's: always one more than there are b's
unfoldable pub pieces : ℕ → List ℕ → List (List ℕ)
pieces b [] = [] ∷ []
pieces b (x ∷ xs) = cond (eqb x b) ([] ∷ pieces b xs) (on_first x (pieces b xs))

unfoldable pub with_first : Option ℕ → Option (List ℕ) → Option (List ℕ)
with_first (some n) (some ns) = some (n ∷ ns)
with_first (some n) none = none
with_first none ns = none

unfoldable pub all_numbers : List (List ℕ) → Option (List ℕ)
all_numbers [] = some []
all_numbers (w ∷ ws) = with_first (number_of w) (all_numbers ws)

-- "decimal numbers, one space between"
unfoldable pub numbers_of : List ℕ → Option (List ℕ)
numbers_of l = all_numbers (pieces space l)

-- "none longer than 400 bytes before LF"
unfoldable pub line_numbers : List ℕ → Option (List ℕ)
line_numbers l = cond (leb (length l) 400) (numbers_of l) none

-- "each ended by LF": a text's first line, without its LF
unfoldable pub first_line : List ℕ → Option (List ℕ)
first_line text = given (ltb (length (before lf text)) (length text)) (before lf text)

-- what stands behind the last LF is no line, and malformed unless it is empty
unfoldable pub ended_lines : List (List ℕ) → List (Option (List ℕ))
ended_lines [] = []
ended_lines (l ∷ []) = cond (eqb (length l) 0) [] (none ∷ [])
ended_lines (l ∷ m ∷ ms) = line_numbers l ∷ ended_lines (m ∷ ms)

-- the lines of a text: each one's numbers, or none where it is malformed
unfoldable pub lines_of : List ℕ → List (Option (List ℕ))
lines_of text = ended_lines (pieces lf text)

-- ---- printing
-- the pieces with one b between
unfoldable pub joined : ℕ → List (List ℕ) → List ℕ
joined b [] = []
joined b (w ∷ []) = w
joined b (w ∷ v ∷ ws) = w ++ b ∷ joined b (v ∷ ws)

unfoldable pub spaced : List ℕ → List ℕ
spaced ns = joined space (map decimal ns)

unfoldable pub line_of : List ℕ → List ℕ
line_of ns = spaced ns ++ lf ∷ []

-- `bad line n`
unfoldable pub bad_line : ℕ → List ℕ
bad_line n = (98 ∷ 97 ∷ 100 ∷ 32 ∷ 108 ∷ 105 ∷ 110 ∷ 101 ∷ 32 ∷ []) ++ (decimal n ++ lf ∷ [])

-- `too long`
unfoldable pub too_long : List ℕ
too_long = 116 ∷ 111 ∷ 111 ∷ 32 ∷ 108 ∷ 111 ∷ 110 ∷ 103 ∷ lf ∷ []
