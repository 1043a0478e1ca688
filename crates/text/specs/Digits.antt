-- Laws on the digits of a number: they do not depend on the bound that the definition counts down, and how many there are.
-- Assumes nothing.
use Rattle.std.specs.Prelude.{◌≡◌, List, [], ◌∷◌, ◌++◌, ℕ, zero, suc, ◌+◌, ◌/◌, ◌%◌, ◌^◌, ◌≤◌, ◌<◌, length}
use Rattle.std.proofs.Common.{ap, ◌∙◌, arith, length-append, lt-ltb, le-ltb}
use Rattle.std.proofs.Math.Decide.{dec_lt}
use Rattle.text.specs.Number.{largest, digits_within, decimal}

digits-enough : (j k n : ℕ) → n < j → n < k → digits_within j n ≡ digits_within k n
unfolding digits_within
digits-enough zero k n h i = absurd (omega arith)
digits-enough (suc j) zero n h i = absurd (omega arith)
digits-enough (suc j) (suc k) n h i =
    elim (dec_lt n 10) [
      | yes s ↦ rw (lt-ltb n 10 s)
      | no s ↦
          rw (le-ltb n 10 (omega arith))
          (ap (λ (l : List ℕ). l ++ (48 + n % 10) ∷ []) (digits-enough j k (n / 10) (omega arith) (omega arith)))
    ]

pub decimal-one : (n : ℕ) → n < 10 → decimal n ≡ (48 + n) ∷ []
unfolding decimal digits_within
decimal-one n h = let e : n % 10 ≡ n = omega arith in rw (lt-ltb n 10 h, e)

pub decimal-more : (n : ℕ) → 10 ≤ n → decimal n ≡ decimal (n / 10) ++ (48 + n % 10) ∷ []
unfolding decimal digits_within
decimal-more n h =
    rw (le-ltb n 10 h) (ap (λ (l : List ℕ). l ++ (48 + n % 10) ∷ []) (digits-enough n (suc (n / 10)) (n / 10) (omega arith) (omega arith)))

-- ---- how many digits
pub length-one : (n : ℕ) → n < 10 → length (decimal n) ≡ 1
length-one n h = ap length (decimal-one n h)

pub length_more : (n : ℕ) → 10 ≤ n → length (decimal n) ≡ length (decimal (n / 10)) + 1
length_more n h = ap length (decimal-more n h) ∙ length-append (decimal (n / 10)) ((48 + n % 10) ∷ [])

length-within : (k n : ℕ) → n < 10 ^ suc k → length (decimal n) ≤ suc k
length-within zero n h = omega (arith, length-one n (omega arith))
length-within (suc k) n h =
    elim (dec_lt n 10) [
      | yes s ↦ omega (arith, length-one n s)
      | no s ↦ omega (arith, length_more n (omega arith), length-within k (n / 10) (omega arith))
    ]

-- a number of 32 bits has at most ten digits
pub length-decimal : (n : ℕ) → n ≤ largest → length (decimal n) ≤ 10
length-decimal n h = length-within 9 n (omega arith)
