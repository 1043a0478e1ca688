-- The laws on digits that `put_number` needs, by no name of its tests: an edit of a test is then refused by what it promises.
-- Assumes nothing.
use Rattle.text.specs.Digits.{decimal-one, length-one, length_more}

pub ruleset digits = (decimal-one, length-one, length_more)
