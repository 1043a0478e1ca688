-- Bytes at their places: the numbers that one byte and some bytes of a row are, and numbers of four bytes each.
-- Assumes nothing.
use Rattle.std.specs.Prelude.{◌≡◌, refl, List, [], ◌∷◌, ℕ, zero, suc, ◌+◌, ◌*◌, ◌<◌, ◌≤◌, length, get_or, take, drop, replicate}
use Rattle.std.proofs.Common.{ap, ◌∙◌, add-one, arith, drop-cons, take-take}
use Rattle.theory_lists.specs.Sum.{sum}
use Rattle.spelling.specs.Bytes.{numeral, followed, numbers}

next-byte : (w p q : ℕ) (s : List ℕ) → q ≡ p + 1 → p < length s → take (suc w) (drop p s) ≡ get_or s p 0 ∷ take w (drop q s)
next-byte w p q s e h = rw (drop-cons s p 0 h, e, add-one p)

-- one byte, two and four
pub byte-in : (p : ℕ) (s : List ℕ) → p < length s → numeral (take 1 (drop p s)) ≡ get_or s p 0
unfolding followed
byte-in p s h = rw (next-byte 0 p (p + 1) s refl h) (omega arith)

pub two_in : (p : ℕ) (s : List ℕ) → p + 2 ≤ length s → take 2 (drop p s) ≡ get_or s p 0 ∷ get_or s (p + 1) 0 ∷ []
two_in p s h = rw (next-byte 1 p (p + 1) s refl (omega arith), next-byte 0 (p + 1) (p + 2) s (omega arith) (omega arith))

pub four-in : (p : ℕ) (s : List ℕ) → p + 4 ≤ length s
    → take 4 (drop p s) ≡ get_or s p 0 ∷ get_or s (p + 1) 0 ∷ get_or s (p + 2) 0 ∷ get_or s (p + 3) 0 ∷ []
four-in p s h =
    rw (
      next-byte 3 p (p + 1) s refl (omega arith),
      next-byte 2 (p + 1) (p + 2) s (omega arith) (omega arith),
      next-byte 1 (p + 2) (p + 3) s (omega arith) (omega arith),
      next-byte 0 (p + 3) (p + 4) s (omega arith) (omega arith),
    )

-- a part of the first u bytes is a part of all
pub part-take : (p w u : ℕ) (s : List ℕ) → p + w ≤ u → take w (drop p (take u s)) ≡ take w (drop p s)
part-take zero w u s h = take-take w u s (omega arith)
part-take (suc p) w zero s h = absurd (omega arith)
part-take (suc p) w (suc u) [] h = refl
part-take (suc p) w (suc u) (x ∷ s) h = part-take p w u s (omega arith)

-- ---- numbers of four bytes each: how many bytes they are, and the one at place k
pub sum-fours : (c n : ℕ) → c ≤ n → sum (take c (replicate n 4)) ≡ 4 * c
unfolding sum
sum-fours zero n h = refl
sum-fours (suc c) zero h = absurd (omega arith)
sum-fours (suc c) (suc n) h = omega (arith, sum-fours c n (omega arith))

pub four-at : (n p k : ℕ) (s : List ℕ) → k < n → get_or (numbers (replicate n 4) p s) k 0 ≡ numeral (take 4 (drop (p + 4 * k) s))
unfolding numbers
four-at zero p k s h = absurd (omega arith)
four-at (suc n) p zero s h = let here : p ≡ p + 4 * 0 = omega arith in ap (λ (q : ℕ). numeral (take 4 (drop q s))) here
four-at (suc n) p (suc k) s h =
    let later : p + 4 + 4 * k ≡ p + 4 * suc k = omega arith in
    four-at n (p + 4) k s (omega arith) ∙ ap (λ (q : ℕ). numeral (take 4 (drop q s))) later
