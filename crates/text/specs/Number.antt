-- Decimal numbers as bytes, in the words of 01: which bytes a number is read from, and which it is printed as.
-- Assumes nothing.
use Rattle.std.specs.Prelude.{Bool, true, false, not, cond, ◌&&◌, List, [], ◌∷◌, ◌++◌, map, ℕ, zero, suc, ◌+◌, ◌-◌, ◌*◌, ◌/◌, ◌%◌, leb, ltb, eqb}
use Rattle.std.proofs.Math.Option.{Option, none, some}
use Rattle.theory_lists.specs.Test.{every}

-- what is there only if a test says so
unfoldable pub given : {A : Type 0} → Bool → A → Option A
given true a = some a
given false a = none

abbrev pub largest : ℕ
largest = 4294967295

-- ---- reading
unfoldable pub is_digit : ℕ → Bool
is_digit b = leb 48 b && leb b 57

-- the value v with the digits behind it
unfoldable pub value_from : ℕ → List ℕ → ℕ
value_from v [] = v
value_from v (b ∷ bs) = value_from (v * 10 + (b - 48)) bs

-- it has a digit, and is "0 or has no leading zero"
unfoldable pub starts_well : List ℕ → Bool
starts_well [] = false
starts_well (b ∷ []) = true
starts_well (b ∷ c ∷ bs) = not (eqb b 48)

-- "A number is 0 or has no leading zero, and is at most 4294967295."
unfoldable pub number_of : List ℕ → Option ℕ
number_of w = given (starts_well w && every (map is_digit w) && leb (value_from 0 w) largest) (value_from 0 w)

-- ---- printing
-- the last digit, behind those of the tenth where that is not 0; in at most k digits
unfoldable pub digits_within : ℕ → ℕ → List ℕ
digits_within zero n = []
digits_within (suc k) n = cond (ltb n 10) [] (digits_within k (n / 10)) ++ (48 + n % 10) ∷ []

-- a number has no more digits than this
unfoldable pub decimal : ℕ → List ℕ
decimal n = digits_within (suc n) n
