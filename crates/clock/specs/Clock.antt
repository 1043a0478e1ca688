-- Clocks, in the words of 01. A clock is a list of numbers, one per desk; a number past the list's end counts as 0.
-- Assumes nothing.
use Rattle.std.specs.Prelude.{Bool, ◌&&◌, ◌||◌, List, [], ◌∷◌, ℕ, ◌+◌, max, leb, ltb, eqb, get_or, set, replicate}
use Rattle.theory_lists.specs.Each.{map_at}
use Rattle.theory_lists.specs.Test.{every, some}
use Rattle.clock.specs.declared.Clock.{Clock}

-- the clock's number for desk k
abbrev pub number : Clock → ℕ → ℕ
number c k = get_or c.n k 0

-- "The clock of a fresh desk is all zeros."
abbrev pub zero_clock : Clock
zero_clock = record { n = replicate 8 0 }

-- what f makes of each pair of numbers
unfoldable pub paired : {A : Type 0} → (ℕ → ℕ → A) → List ℕ → List ℕ → List A
paired f [] [] = []
paired f [] (y ∷ ys) = f 0 y ∷ paired f [] ys
paired f (x ∷ xs) [] = f x 0 ∷ paired f xs []
paired f (x ∷ xs) (y ∷ ys) = f x y ∷ paired f xs ys

-- "The merge of two clocks is the larger of each pair of numbers."
unfoldable pub merged : Clock → Clock → Clock
merged a b = record { n = paired max a.n b.n }

-- "Clock A is strictly before B if no number of A is larger than B's and at least one is smaller."
unfoldable pub is_before : Clock → Clock → Bool
is_before a b = every (paired leb a.n b.n) && some (paired ltb a.n b.n)

-- "numbers past the desk count are 0": that of desk k, and all of a clock
abbrev pub zero_past : ℕ → ℕ → ℕ → Bool
zero_past d k x = ltb k d || eqb x 0

unfoldable pub is_within : ℕ → Clock → Bool
is_within d c = every (map_at (zero_past d) c.n)

-- the clock with desk k's number one higher
unfoldable pub raised : Clock → ℕ → Clock
raised c k = record { n = set c.n k (number c k + 1) }
