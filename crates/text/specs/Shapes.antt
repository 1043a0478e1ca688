-- What a number, a line's numbers and a line were told as, where a count and zeros stood for what is not there: the laws of Reading, Row, Lines,
-- OneLine and Walk speak of them. Today's code tells them as options; FrontAt says that the two tell the same.
-- Assumes nothing.
use Rattle.std.specs.Prelude.{List, ℕ}

pub data Number : Type 0 where
  Is : ℕ → Number
  No : Number

-- zeros stand behind the numbers; a line that is malformed or has more than 32 has count 0
pub record Numbers : Type 0 where
  pub count : ℕ
  pub n : List ℕ

-- the same, with the place where the next line starts; all is 0 where no LF ends the line
pub record Line : Type 0 where
  pub count : ℕ
  pub n : List ℕ
  pub next : ℕ
