-- What the functions that read answer, in the words of Number and Line: the line at a text's front.
-- Assumes nothing.
use Rattle.std.specs.Prelude.{◌&&◌, List, map, ℕ, ◌+◌, leb, length, drop, Some, None}
use Rattle.std.specs.Prelude.{Option as Found}
use Rattle.std.proofs.Math.Option.{Option, none, some}
use Rattle.theory_lists.specs.Test.{every}
use Rattle.text.specs.Number.{given, largest, is_digit, value_from}
use Rattle.text.specs.Line.{first_line, line_numbers}

-- an option as the code has it
unfoldable pub as_option : {A : Type 0} → Option A → Found A
as_option none = None
as_option (some a) = Some a

-- the number that a value is with the digits w behind it
unfoldable pub number_from : ℕ → List ℕ → Option ℕ
number_from v w = given (every (map is_digit w) && leb (value_from v w) largest) (value_from v w)

-- no more numbers than 32
unfoldable pub few : Option (List ℕ) → Option (List ℕ)
few none = none
few (some ns) = given (leb (length ns) 32) ns

unfoldable pub front_found : List ℕ → Option (List ℕ) → Option (Found (List ℕ) × List ℕ)
front_found text none = none
front_found text (some l) = some (as_option (few (line_numbers l)), drop (length l + 1) text)

-- the numbers of a text's first line, if it is not malformed and has no more than 32, and the text behind its LF; none if no LF ends it
unfoldable pub front_line : List ℕ → Option (Found (List ℕ) × List ℕ)
front_line text = front_found text (first_line text)
