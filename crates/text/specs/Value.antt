-- Laws on a value that grows digit by digit and stays at one past the largest number.
-- Assumes nothing.
use Rattle.std.specs.Prelude.{◌≡◌, refl, Bool, true, false, not, cond, ◌&&◌, List, [], ◌∷◌, map, ℕ, suc, ◌+◌, ◌-◌, ◌*◌, ◌≤◌, ◌<◌, min, leb, eqb, length, get_or, drop}
use Rattle.std.proofs.Common.{sym, add-one, arith, drop_of_length-le, drop-cons}
use Rattle.std.proofs.Math.Option.{none}
use Rattle.std.proofs.Math.Decide.{dec_le}
use Rattle.std.proofs.lemmas.Bool.{lt-leb}
use Rattle.theory_lists.specs.Test.{every}
use Rattle.text.specs.Number.{given, largest, is_digit, value_from, starts_well, number_of}
use Rattle.text.specs.Reading.{past, grown_by, capped, within}

pub value_grows : (v : ℕ) (w : List ℕ) → v ≤ value_from v w
unfolding value_from
value_grows v [] = omega arith
value_grows v (b ∷ bs) = omega (arith, value_grows (v * 10 + (b - 48)) bs)

-- a value that was cut off at the limit ends at the limit all the same
cut_off : (x : ℕ) (w : List ℕ) → min (value_from x w) past ≡ min (value_from (min x past) w) past
cut_off x w =
    elim (dec_le x past) [
      | yes h ↦ (let e : min x past ≡ x = omega arith in rw e)
      | no h ↦ omega (arith, value_grows x w, value_grows (min x past) w)
    ]

capped-cons : (v b : ℕ) (bs : List ℕ) → capped v (b ∷ bs) ≡ capped (grown_by v b) bs
unfolding capped grown_by value_from every
capped-cons v b bs = go (is_digit b) (every (map is_digit bs))
  where
    go : (d e : Bool) → cond (d && e) (min (value_from (v * 10 + (b - 48)) bs) past) past
        ≡ cond e (min (value_from (cond d (min (v * 10 + (b - 48)) past) past) bs) past) past
    go true true = cut_off (v * 10 + (b - 48)) bs
    go true false = refl
    go false true = omega (arith, value_grows past bs)
    go false false = refl

-- as a loop finds it
pub capped-turn : (v : ℕ) (w : List ℕ) (i : ℕ) → i < length w → capped v (drop i w) ≡ capped (grown_by v (get_or w i 0)) (drop (i + 1) w)
capped-turn v w i h = rw (add-one, drop-cons w i 0 h) (capped-cons v (get_or w i 0) (drop (suc i) w))

pub capped-end : (v : ℕ) (w : List ℕ) (i : ℕ) → length w ≤ i → v ≤ past → capped v (drop i w) ≡ v
unfolding capped value_from every
capped-end v w i h k = rw (drop_of_length-le w h) (omega arith)

pub grown-le : (v b : ℕ) → grown_by v b ≤ past
unfolding grown_by
grown-le v b = go (is_digit b)
  where
    go : (d : Bool) → cond d (min (v * 10 + (b - 48)) past) past ≤ past
    go true = omega arith
    go false = omega arith

-- ---- what a number is, by its capped value
within-capped : (w : List ℕ) → within (capped 0 w) ≡ given (every (map is_digit w) && leb (value_from 0 w) largest) (value_from 0 w)
unfolding within capped given
within-capped w = go (every (map is_digit w)) (value_from 0 w)
  where
    go : (d : Bool) (x : ℕ) → within (cond d (min x past) past) ≡ given (d && leb x largest) x
    go false x = refl
    go true x =
        elim (dec_le x largest) [
          | yes h ↦ (let e : min x past ≡ x = omega arith in rw e)
          | no h ↦ (let e : min x past ≡ past = omega arith in rw (e, lt-leb x largest (omega arith)))
        ]

pub number-well : (w : List ℕ) → starts_well w ≡ true → number_of w ≡ within (capped 0 w)
unfolding number_of
number-well w e = rw e (sym (within-capped w))

pub number-not : (w : List ℕ) → starts_well w ≡ false → number_of w ≡ none
unfolding number_of given
number-not w e = rw e

pub starts_none : (w : List ℕ) → length w ≡ 0 → starts_well w ≡ false
unfolding starts_well
starts_none [] e = refl
starts_none (b ∷ bs) e = absurd (omega arith)

pub starts-one : (w : List ℕ) → length w ≡ 1 → starts_well w ≡ true
unfolding starts_well
starts-one [] e = absurd (omega arith)
starts-one (b ∷ []) e = refl
starts-one (b ∷ c ∷ bs) e = absurd (omega arith)

pub starts_more : (w : List ℕ) → 1 < length w → starts_well w ≡ not (eqb (get_or w 0 0) 48)
unfolding starts_well
starts_more [] h = absurd (omega arith)
starts_more (b ∷ []) h = absurd (omega arith)
starts_more (b ∷ c ∷ bs) h = refl
