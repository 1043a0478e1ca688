-- Laws on a number that is read digit by digit, and refused at the first that makes it too large.
-- Assumes nothing.
use Rattle.std.specs.Prelude.{◌≡◌, refl, Some, None, Bool, true, false, ◌&&◌, List, map, ℕ, suc, ◌+◌, ◌-◌, ◌*◌, ◌≤◌, ◌<◌, length, get_or, drop}
use Rattle.std.proofs.Common.{add-one, arith, drop_of_length-le, drop-cons, le-leb}
use Rattle.std.proofs.Math.Option.{none, some}
use Rattle.std.proofs.lemmas.Bool.{lt-leb}
use Rattle.theory_lists.specs.Test.{every}
use Rattle.text.specs.Number.{given, largest, is_digit, value_from, starts_well, number_of}
use Rattle.text.specs.Value.{value_grows, starts_none, starts-one}
use Rattle.text.specs.Front.{as_option, number_from}

-- ---- a digit, as the code has it
pub digit-some : (d : Bool) (x v : ℕ) → as_option (given d x) ≡ Some v → (d ≡ true) × (x ≡ v)
unfolding as_option given
digit-some true x v e = (refl, cc)
digit-some false x v e = cc

pub digit-none : (d : Bool) (x : ℕ) → as_option (given d x) ≡ None → d ≡ false
unfolding as_option given
digit-none true x e = cc
digit-none false x e = refl

-- ---- as a loop finds it
module _ (v : ℕ) (w : List ℕ) (i : ℕ) (inside : i < length w) where
  pub number-turn : is_digit (get_or w i 0) ≡ true → number_from v (drop i w) ≡ number_from (v * 10 + (get_or w i 0 - 48)) (drop (i + 1) w)
  unfolding number_from value_from every
  number-turn e = rw (add-one, drop-cons w i 0 inside, e)

  pub number-no_digit : is_digit (get_or w i 0) ≡ false → number_from v (drop i w) ≡ none
  unfolding number_from every given
  number-no_digit e = rw (drop-cons w i 0 inside, e)

  pub number-large : largest < v * 10 + (get_or w i 0 - 48) → number_from v (drop i w) ≡ none
  unfolding number_from value_from every given
  number-large h =
      let x = value_from (v * 10 + (get_or w i 0 - 48)) (drop (suc i) w) in
      rw (drop-cons w i 0 inside, lt-leb x largest (omega (arith, value_grows (v * 10 + (get_or w i 0 - 48)) (drop (suc i) w))))
      (no (is_digit (get_or w i 0) && every (map is_digit (drop (suc i) w))) x)
    where
      no : (d : Bool) (x : ℕ) → given (d && false) x ≡ none
      no true x = refl
      no false x = refl

pub number-end : (v : ℕ) (w : List ℕ) (i : ℕ) → length w ≤ i → v ≤ largest → number_from v (drop i w) ≡ some v
unfolding number_from value_from every given
number-end v w i h k = rw (drop_of_length-le w h, le-leb v largest k)

pub number-begun : (w : List ℕ) → starts_well w ≡ true → number_of w ≡ number_from 0 w
unfolding number_of number_from
number-begun w e = rw e

-- ---- as a match on a slice has it: no byte, or one
pub empty_starts : (w : List ℕ) → length w < 1 → starts_well w ≡ false
empty_starts w h = starts_none w (omega arith)

pub single_starts : (w : List ℕ) → 1 ≤ length w → length w < 2 → starts_well w ≡ true
single_starts w h k = starts-one w (omega arith)
