-- What a line at a place of a text is told as: the definitions of Number and Line in the shapes of Shapes. FrontAt says how what is read today tells it.
-- Assumes nothing.
use Rattle.std.specs.Prelude.{cond, List, ◌++◌, map, ℕ, ◌+◌, ◌-◌, ◌*◌, min, leb, length, drop, replicate}
use Rattle.std.proofs.Math.Option.{Option, none, some}
use Rattle.theory_lists.specs.Test.{every}
use Rattle.text.specs.Number.{given, largest, is_digit, value_from}
use Rattle.text.specs.Line.{first_line, line_numbers}
use Rattle.text.specs.Shapes.{Number, Is, No, Numbers, Line}

unfoldable pub as_number : Option ℕ → Number
as_number none = No
as_number (some n) = Is n

unfoldable pub no_numbers : Numbers
no_numbers = record { count = 0; n = replicate 32 0 }

unfoldable pub as_numbers : Option (List ℕ) → Numbers
as_numbers none = no_numbers
as_numbers (some ns) = cond (leb (length ns) 32) (record { count = length ns; n = ns ++ replicate (32 - length ns) 0 }) no_numbers

unfoldable pub followed : Numbers → ℕ → Line
followed all next = record { count = all.count; n = all.n; next = next }

unfoldable pub line_found : ℕ → Option (List ℕ) → Line
line_found at none = followed no_numbers 0
line_found at (some l) = followed (as_numbers (line_numbers l)) (at + length l + 1)

-- the line at a place of a text, and the place of the next
unfoldable pub line_at : List ℕ → ℕ → Line
line_at text at = line_found at (first_line (drop at text))

-- ---- a value that stays at one past the largest number, where it is larger or some byte is no digit
abbrev pub past : ℕ
past = 4294967296

unfoldable pub grown_by : ℕ → ℕ → ℕ
grown_by v b = cond (is_digit b) (min (v * 10 + (b - 48)) past) past

unfoldable pub capped : ℕ → List ℕ → ℕ
capped v w = cond (every (map is_digit w)) (min (value_from v w) past) past

unfoldable pub within : ℕ → Option ℕ
within v = given (leb v largest) v
