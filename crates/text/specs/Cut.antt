-- Laws on a list that is cut at a byte: what stands before the first one, and the pieces between.
-- Assumes nothing.
use Rattle.std.specs.Prelude.{◌≡◌, refl, Bool, true, false, cond, List, [], ◌∷◌, ℕ, suc, ◌+◌, ◌-◌, ◌≤◌, ◌<◌, ltb, eqb, length, get_or, take, drop}
use Rattle.std.proofs.Common.{ap, add-one, arith, length-drop, drop_of_length-le, drop-cons, lt-ltb, eq-eqb, ne_eqb}
use Rattle.std.proofs.Math.Dec.{leb-suc-suc}
use Rattle.text.specs.Line.{before, pieces, on_first}

-- ---- the first b, as a loop finds it
pub before_here : (b : ℕ) (l : List ℕ) (i : ℕ) → i < length l → get_or l i 0 ≡ b → length (before b (drop i l)) ≡ 0
unfolding before
before_here b l i h e = rw (drop-cons l i 0 h, eq-eqb _ _ e)

pub before-turn : (b : ℕ) (l : List ℕ) (i : ℕ) → i < length l → (get_or l i 0 ≡ b → ⊥)
    → length (before b (drop i l)) ≡ suc (length (before b (drop (i + 1) l)))
unfolding before
before-turn b l i h ne = rw (add-one, drop-cons l i 0 h, ne_eqb _ _ ne)

pub before-end : (b : ℕ) (l : List ℕ) (i : ℕ) → length l ≤ i → length (before b (drop i l)) ≡ 0
unfolding before
before-end b l i h = rw (drop_of_length-le l h)

-- ---- what stands before it is a part
pub before-le : (b : ℕ) (l : List ℕ) → length (before b l) ≤ length l
unfolding before
before-le b [] = omega arith
before-le b (x ∷ xs) = go (eqb x b) (before-le b xs)
  where
    go : (d : Bool) → length (before b xs) ≤ length xs → length (cond d [] (x ∷ before b xs)) ≤ suc (length xs)
    go true h = omega arith
    go false h = omega arith

pub take-before : (b : ℕ) (l : List ℕ) → take (length (before b l)) l ≡ before b l
unfolding before
take-before b [] = refl
take-before b (x ∷ xs) = go (eqb x b) (take-before b xs)
  where
    go : (d : Bool) → take (length (before b xs)) xs ≡ before b xs
        → take (length (cond d [] (x ∷ before b xs))) (x ∷ xs) ≡ cond d [] (x ∷ before b xs)
    go true e = refl
    go false e = ap (λ (l : List ℕ). x ∷ l) e

-- the part of a list from a place up to the first b
pub part-before : (b : ℕ) (l : List ℕ) (from end : ℕ) → end ≡ from + length (before b (drop from l))
    → take (end - from) (drop from l) ≡ before b (drop from l)
part-before b l from end e = let h : end - from ≡ length (before b (drop from l)) = omega arith in rw h (take-before b (drop from l))

pub part-within : (b : ℕ) (l : List ℕ) (from end : ℕ) → end ≡ from + length (before b (drop from l)) → from ≤ length l → end ≤ length l
part-within b l from end e h = omega (arith, before-le b (drop from l), length-drop from l)

-- ---- the first piece, and the rest
-- what is cut behind a first piece w of l
abbrev rest : ℕ → List ℕ → List ℕ → List (List ℕ)
rest b w l = cond (ltb (length w) (length l)) (pieces b (drop (suc (length w)) l)) []

pub pieces-first : (b : ℕ) (l : List ℕ)
    → pieces b l ≡ before b l ∷ cond (ltb (length (before b l)) (length l)) (pieces b (drop (suc (length (before b l))) l)) []
unfolding before pieces on_first
pieces-first b [] = refl
pieces-first b (x ∷ xs) = go (eqb x b) (ap (on_first x) (pieces-first b xs))
  where
    go : (d : Bool) → on_first x (pieces b xs) ≡ (x ∷ before b xs) ∷ rest b (before b xs) xs
        → cond d ([] ∷ pieces b xs) (on_first x (pieces b xs)) ≡ cond d [] (x ∷ before b xs) ∷ rest b (cond d [] (x ∷ before b xs)) (x ∷ xs)
    go true e = rw (lt-ltb 0 (suc (length xs)) (omega arith))
    go false e = rw (leb-suc-suc (suc (length (before b xs))) (length xs)) e
