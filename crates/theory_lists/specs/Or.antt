-- The bitwise or of a list of numbers, and a list written out place by place.
-- Assumes nothing.
use Rattle.std.specs.Prelude.{◌≡◌, refl, get_or, drop}
use Rattle.std.proofs.Math.Path.{sym, ap₂}
use Rattle.std.proofs.Common.{◌∙◌, add-one, drop_of_length-le, drop-cons}
use mathlib.Core.List.{List, [], ◌∷◌}
use Prim.Native.Nat.{ℕ, zero, suc, ◌+◌, ◌≤◌, ◌<◌}
use native.Mathlib.Omega.{arith}
use Rattle.std.specs.Int.Bits.{bit_or, or_add_and}
use Rattle.std.proofs.lemmas.Nat.{and_le_l, and_le_r}
use Rattle.std.proofs.Math.ListN.{length}

-- ---- the or of what there is so far and of a list
unfoldable pub ored : ℕ → List ℕ → ℕ
ored so_far [] = so_far
ored so_far (x ∷ xs) = ored (bit_or so_far x) xs

pub or_left : (a b : ℕ) → bit_or a b ≡ 0 → a ≡ 0
or_left a b e = omega (arith, e, or_add_and a b, and_le_r a b)

pub or_right : (a b : ℕ) → bit_or a b ≡ 0 → b ≡ 0
or_right a b e = omega (arith, e, or_add_and a b, and_le_l a b)

pub or-none : (a b : ℕ) → a ≡ 0 → b ≡ 0 → bit_or a b ≡ 0
or-none a b p q = omega (arith, p, q, or_add_and a b)

-- it is 0 exactly if each is
pub ored-so-far : (a : ℕ) (l : List ℕ) → ored a l ≡ 0 → a ≡ 0
unfolding ored
ored-so-far a [] e = e
ored-so-far a (x ∷ xs) e = or_left a x (ored-so-far (bit_or a x) xs e)

pub ored-at : (a : ℕ) (l : List ℕ) → ored a l ≡ 0 → (k : ℕ) → get_or l k 0 ≡ 0
unfolding ored
ored-at a [] e k = refl
ored-at a (x ∷ xs) e zero = or_right a x (ored-so-far (bit_or a x) xs e)
ored-at a (x ∷ xs) e (suc k) = ored-at (bit_or a x) xs e k

pub ored-none : (a : ℕ) (l : List ℕ) → a ≡ 0 → ((k : ℕ) → get_or l k 0 ≡ 0) → ored a l ≡ 0
unfolding ored
ored-none a [] p q = p
ored-none a (x ∷ xs) p q = ored-none (bit_or a x) xs (or-none a x p (q 0)) (λ k. q (suc k))

-- as a loop finds it: the or of the whole is that of what it has so far and of what is left
pub ored-turn : {whole : ℕ} (l : List ℕ) (i so_far : ℕ) → i < length l → whole ≡ ored so_far (drop i l)
    → whole ≡ ored (bit_or so_far (get_or l i 0)) (drop (i + 1) l)
unfolding ored
ored-turn l i so_far h e = e ∙ rw (add-one, drop-cons l i 0 h)

pub ored-end : {whole : ℕ} (l : List ℕ) (i so_far : ℕ) → length l ≤ i → whole ≡ ored so_far (drop i l) → whole ≡ so_far
unfolding ored
ored-end l i so_far h e = e ∙ rw (drop_of_length-le l h)

-- ---- a list written out: what f says of n places, from k on
module _ {A : Type 0} (f : ℕ → A) where
  unfoldable pub listed : ℕ → ℕ → List A
  listed k zero = []
  listed k (suc n) = f k ∷ listed (suc k) n

  module _ (l : List A) (d : A) (same : (k : ℕ) → get_or l k d ≡ f k) where
    from : (k n : ℕ) → k + n ≡ length l → listed k n ≡ drop k l
    unfolding listed
    from k zero e = let past : length l ≤ k = omega arith in sym (drop_of_length-le l past)
    from k (suc n) e = ap₂ ◌∷◌ (sym (same k)) (from (suc k) n (omega arith)) ∙ sym (drop-cons l k d (omega arith))

    pub listed-all : (n : ℕ) → length l ≡ n → listed 0 n ≡ l
    listed-all n e = from 0 n (omega arith)
