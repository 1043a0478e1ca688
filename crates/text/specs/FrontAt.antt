-- The line at a place, as Reading tells it, is what is read at the front of the text from there on: nothing of it is lost.
-- Assumes nothing.
use Rattle.std.specs.Prelude.{◌≡◌, List, ℕ, ◌+◌, ◌-◌, leb, length, drop, Some, None, Bool, true, false}
use Rattle.std.specs.Prelude.{Option as Found}
use Rattle.std.proofs.Common.{◌∙◌, refl, arith, length-drop}
use Rattle.std.proofs.Math.Option.{Option, none, some}
use Rattle.std.proofs.Math.Decide.{dec_lt}
use Rattle.text.specs.Number.{given}
use Rattle.text.specs.Line.{lf, before, line_numbers}
use Rattle.text.specs.Shapes.{Numbers, Line}
use Rattle.text.specs.Reading.{as_numbers, no_numbers, followed, line_at}
use Rattle.text.specs.Row.{line-open, line-here}
use Rattle.text.specs.Front.{as_option, few, front_line}
use Rattle.text.specs.Lines.Front.{front-ended, front-open}

unfoldable pub numbers_told : Found (List ℕ) → Numbers
numbers_told None = no_numbers
numbers_told (Some ns) = as_numbers (some ns)

-- in a text that ends at `end`
unfoldable pub line_told : ℕ → Option (Found (List ℕ) × List ℕ) → Line
line_told end none = followed no_numbers 0
line_told end (some (numbers, rest)) = followed (numbers_told numbers) (end - length rest)

numbers-told : (o : Option (List ℕ)) → as_numbers o ≡ numbers_told (as_option (few o))
unfolding as_numbers numbers_told as_option few given
numbers-told none = refl
numbers-told (some ns) = go (leb (length ns) 32) refl
  where
    go : (d : Bool) → leb (length ns) 32 ≡ d → as_numbers (some ns) ≡ numbers_told (as_option (given d ns))
    go true e = refl
    go false e = rw e

pub line-told : (s : List ℕ) (at : ℕ) → line_at s at ≡ line_told (length s) (front_line (drop at s))
unfolding line_told
line-told s at =
    let line = before lf (drop at s) in
    let here = length-drop at s in
    elim (dec_lt (at + length line) (length s)) [
      | yes ends ↦
          (let behind = drop (length line + 1) (drop at s) in
          let next : at + length line + 1 ≡ length s - length behind = omega (arith, here, length-drop (length line + 1) (drop at s)) in
          rw (front-ended (drop at s) (omega (arith, here))) (line-here s at ends ∙ rw (numbers-told (line_numbers line), next)))
      | no endless ↦ rw (front-open (drop at s) (omega (arith, here))) (line-open s at (omega arith))
    ]
