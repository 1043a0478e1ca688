-- Strictly before, found in one go: a pair of numbers gives the first bit for smaller and all bits for larger, and the or of all is the first bit alone. (No code
-- finds it so today: Causal has the code's form.)
-- Assumes nothing.
use Rattle.std.specs.Prelude.{◌≡◌, refl, Bool, true, not, ◌&&◌, ◌||◌, cond, ℕ, length}
use Rattle.std.proofs.Math.Path.{ap}
use Rattle.std.proofs.Common.{ap₂, ◌∙◌, arith}
use Rattle.std.proofs.Math.Bool.{false, or_assoc, or-false}
use mathlib.Core.List.{List, [], ◌∷◌}
use Rattle.std.specs.Int.Bits.{bit_or}
use Rattle.std.proofs.Math.Dec.{leb, ltb, eqb}
use Rattle.theory_lists.specs.Or.{ored, listed, listed-all}
use Rattle.theory_lists.specs.Test.{every, some, gt_not_le}
use Rattle.clock.specs.declared.Clock.{Clock}
use Rattle.clock.specs.Clock.{number, paired, is_before}
use Rattle.clock.specs.Laws.{paired_at, length-paired}

abbrev bit : Bool → ℕ
bit b = cond b 1 0

abbrev pub flags : Bool → Bool → ℕ
flags smaller larger = cond larger 4294967295 (bit smaller)

-- how two numbers stand: 0 equal, 1 smaller, all bits larger
unfoldable pub order_of : ℕ → ℕ → ℕ
order_of a b = flags (ltb a b) (ltb b a)

or_flags : (s l p q : Bool) → bit_or (flags s l) (flags p q) ≡ flags (s || p) (l || q)
or_flags s true p true = refl
or_flags s true true false = refl
or_flags s true false false = refl
or_flags true false p true = refl
or_flags false false p true = refl
or_flags true false true false = refl
or_flags true false false false = refl
or_flags false false true false = refl
or_flags false false false false = refl

-- one more pair
turn : (s l : Bool) (x y : ℕ) (rest : List ℕ) (one all : Bool)
    → ((p q : Bool) → ored (flags p q) rest ≡ flags (p || one) (q || not all))
    → ored (bit_or (flags s l) (order_of x y)) rest ≡ flags (s || (ltb x y || one)) (l || not (leb x y && all))
unfolding order_of
turn s l x y rest one all more =
    ap (λ (r : ℕ). ored r rest) (or_flags s l (ltb x y) (ltb y x))
    ∙ more (s || ltb x y) (l || ltb y x)
    ∙ ap₂ flags (or_assoc s (ltb x y) one) (or_assoc l (ltb y x) (not all) ∙ ap (◌||◌ l) (rw (gt_not_le x y) (neither (leb x y) all)))
  where
    neither : (a b : Bool) → (not a || not b) ≡ not (a && b)
    neither true b = refl
    neither false b = refl

all-flags : (s l : Bool) (a b : List ℕ)
    → ored (flags s l) (paired order_of a b) ≡ flags (s || some (paired ltb a b)) (l || not (every (paired leb a b)))
unfolding ored paired every some
all-flags s l [] [] = rw (or-false s, or-false l)
all-flags s l [] (y ∷ ys) =
    turn s l 0 y (paired order_of [] ys) (some (paired ltb [] ys)) (every (paired leb [] ys)) (λ p q. all-flags p q [] ys)
all-flags s l (x ∷ xs) [] =
    turn s l x 0 (paired order_of xs []) (some (paired ltb xs [])) (every (paired leb xs [])) (λ p q. all-flags p q xs [])
all-flags s l (x ∷ xs) (y ∷ ys) =
    turn s l x y (paired order_of xs ys) (some (paired ltb xs ys)) (every (paired leb xs ys)) (λ p q. all-flags p q xs ys)

abbrev pub OrderAt : Clock → Clock → ℕ → ℕ → Type 0
OrderAt a b k x = x ≡ order_of (number a k) (number b k)

alone : (one all : Bool) → eqb (flags one (not all)) 1 ≡ (all && one)
alone true true = refl
alone true false = refl
alone false true = refl
alone false false = refl

module _ (a b : Clock) (la : length a.n ≡ 8) (lb : length b.n ≡ 8) where
  before-ored : eqb (ored 0 (listed (λ k. order_of (number a k) (number b k)) 0 8)) 1 ≡ is_before a b
  unfolding is_before order_of
  before-ored =
      ap (λ (l : List ℕ). eqb (ored 0 l) 1)
      (listed-all (λ k. order_of (number a k) (number b k)) (paired order_of a.n b.n) 0 (paired_at order_of a.n b.n) 8
      (omega (arith, length-paired order_of a.n b.n)))
      ∙ ap (λ (x : ℕ). eqb x 1) (all-flags false false a.n b.n)
      ∙ alone (some (paired ltb a.n b.n)) (every (paired leb a.n b.n))

  -- as the code before the design pass had it
  pub before-eight : (p q r s t u v w : ℕ) → OrderAt a b 0 p → OrderAt a b 1 q → OrderAt a b 2 r → OrderAt a b 3 s → OrderAt a b 4 t
      → OrderAt a b 5 u → OrderAt a b 6 v → OrderAt a b 7 w
      → eqb (bit_or (bit_or (bit_or (bit_or (bit_or (bit_or (bit_or p q) r) s) t) u) v) w) 1 ≡ is_before a b
  unfolding ored listed
  before-eight p q r s t u v w e f g h i j k l = rw (e, f, g, h, i, j, k, l) before-ored
