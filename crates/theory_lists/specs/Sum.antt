-- A sum over all places, as a loop finds it.
-- Assumes nothing.
use Rattle.std.specs.Prelude.{◌≡◌, List, [], ◌∷◌, ℕ, suc, ◌+◌, ◌*◌, ◌<◌, ◌≤◌, length, get_or, drop}
use Rattle.std.proofs.Common.{◌∙◌, add_assoc, add-zero, mul-suc, add-one, arith, drop_of_length-le, drop-cons}
use Rattle.theory_lists.specs.Each.{map_at, length-map_at, get_or-map_at}

unfoldable pub sum : List ℕ → ℕ
sum [] = 0
sum (x ∷ xs) = x + sum xs

-- as a loop finds it: what it has so far, and what is left
pub sum-turn : (l : List ℕ) (i so_far : ℕ) → i < length l → sum l ≡ so_far + sum (drop i l)
    → sum l ≡ so_far + get_or l i 0 + sum (drop (i + 1) l)
unfolding sum
sum-turn l i so_far h e = e ∙ rw (add-one, drop-cons l i 0 h, add_assoc so_far (get_or l i 0) (sum (drop (suc i) l)))

pub sum-end : (l : List ℕ) (i so_far : ℕ) → length l ≤ i → sum l ≡ so_far + sum (drop i l) → sum l ≡ so_far
unfolding sum
sum-end l i so_far h e = e ∙ rw (drop_of_length-le l h, add-zero so_far)

-- numbers that are at most m each
pub sum-le : (m : ℕ) (l : List ℕ) → ((k : ℕ) → get_or l k 0 ≤ m) → sum l ≤ m * length l
unfolding sum
sum-le m [] p = omega arith
sum-le m (x ∷ xs) p = omega (arith, p 0, sum-le m xs (λ k. p (suc k)), mul-suc m (length xs))

-- ---- the same of what f counts at each place of a list
module _ {A : Type 0} (f : ℕ → A → ℕ) (l : List A) (d : A) where
  pub count_turn : (i so_far : ℕ) → i < length l → sum (map_at f l) ≡ so_far + sum (drop i (map_at f l))
      → sum (map_at f l) ≡ so_far + f i (get_or l i d) + sum (drop (i + 1) (map_at f l))
  count_turn i so_far h e = rw (← get_or-map_at f l i d 0 h) (sum-turn (map_at f l) i so_far (omega (arith, length-map_at f l)) e)

  pub count-end : (i so_far : ℕ) → length l ≤ i → sum (map_at f l) ≡ so_far + sum (drop i (map_at f l)) → sum (map_at f l) ≡ so_far
  count-end i so_far h e = sum-end (map_at f l) i so_far (omega (arith, length-map_at f l)) e
