-- Strictly before, as a partial order in Rust's sense: two clocks are the same, or one is before the other, or they stand beside each other.
-- Assumes nothing.
use Rattle.std.specs.Prelude.{◌≡◌, refl, Bool, true, false, not, ◌&&◌, ◌||◌, cond, List, [], ◌∷◌, ℕ, Option, Some, None, ◌==◌, leb, ltb, length, zip}
use Rattle.std.proofs.Common.{sym, ap, ap₂, subst, ◌∙◌, arith, leb-true, le-leb, rules, tests}
use Rattle.std.specs.List.{list_all}
use Rattle.std.specs.Option.{option_map}
use Rattle.std.specs.Ordering.{ordering_reverse, is_some_and, is_lt, partial_lt}
use Rattle.std.specs.Cmp.{IsPartialOrder, nat_eq_equiv}
use Rattle.std.specs.declared.cmp.Ordering.{Ordering}
use Rattle.std.specs.declared.cmp.Ordering.TheVariants.{Less, Equal, Greater}
use lib.Pointwise.{pointwise}
use Rattle.theory_lists.specs.Test.{every, some, both, both_left, both_right, same_test, every-at, gt_not_le}
use Rattle.clock.specs.declared.Clock.{Clock}
use Rattle.clock.specs.Clock.{number, paired, is_before}
use Rattle.clock.specs.Laws.{NoLater, same, paired_at, before-irrefl, before-trans, before-asym}

-- the same numbers
abbrev pub equals : Clock → Clock → Bool
equals a b = pointwise ◌==◌ a.n b.n

abbrev by_tests : Bool → Bool → Bool → Option Ordering
by_tests before after equal = cond before (Some Less) (cond after (Some Greater) (cond equal (Some Equal) None))

unfoldable pub causal_cmp : Clock → Clock → Option Ordering
causal_cmp a b = cond (is_before a b) (Some Less) (cond (is_before b a) (Some Greater) (cond (equals a b) (Some Equal) None))

-- ---- the laws
numbers-are : (xs ys : List ℕ) → pointwise ◌==◌ xs ys ≡ true → xs ≡ ys
numbers-are [] [] e = refl
numbers-are [] (y ∷ ys) e = cc
numbers-are (x ∷ xs) [] e = cc
numbers-are (x ∷ xs) (y ∷ ys) e =
    ap₂ ◌∷◌ (let h = both_left (x == y) (pointwise ◌==◌ xs ys) e in search (rules, tests)) (numbers-are xs ys (both_right (x == y) (pointwise ◌==◌ xs ys) e))

numbers-same : (xs : List ℕ) → pointwise ◌==◌ xs xs ≡ true
numbers-same [] = refl
numbers-same (x ∷ xs) = both (nat_eq_equiv.refl x) (numbers-same xs)

pub equals-are : (a b : Clock) → equals a b ≡ true → a ≡ b
equals-are a b e = λ i. record { n = numbers-are a.n b.n e i }

equals-turned : (a b : Clock) → equals a b ≡ equals b a
equals-turned a b =
    same_test (equals a b) (equals b a) (λ e. rw (numbers-are a.n b.n e) (numbers-same b.n)) (λ e. rw (numbers-are b.n a.n e) (numbers-same a.n))

turned : (l g e : Bool) → (l ≡ true → g ≡ false) → by_tests l g e ≡ option_map ordering_reverse (by_tests g l e)
turned true true e f = let no_way = f refl in cc
turned true false e f = refl
turned false true e f = refl
turned false false true f = refl
turned false false false f = refl

less-is : (l g e : Bool) → by_tests l g e ≡ Some Less → l ≡ true
less-is true g e p = refl
less-is false true e p = cc
less-is false false true p = cc
less-is false false false p = cc

equal-is : (l g e : Bool) → by_tests l g e ≡ Some Equal → e ≡ true
equal-is true g e p = cc
equal-is false true e p = cc
equal-is false false true p = refl
equal-is false false false p = cc

itself : (a : Clock) → causal_cmp a a ≡ Some Equal
unfolding causal_cmp
itself a = rw (before-irrefl a, numbers-same a.n)

pub causal-laws : IsPartialOrder equals causal_cmp
unfolding causal_cmp
causal-laws = record {
  antisymm = λ a b.
      rw (equals-turned a b) (turned (is_before a b) (is_before b a) (equals b a) (before-asym a b));
  trans = λ a b c p q.
      rw (before-trans a b c (less-is (is_before a b) (is_before b a) (equals a b) p) (less-is (is_before b c) (is_before c b) (equals b c) q));
  matches_eq = λ a b.
      (λ e. subst (λ c. causal_cmp a c ≡ Some Equal) (equals-are a b e) (itself a), λ e. equal-is (is_before a b) (is_before b a) (equals a b) e);
  congr = λ a b c e. ap (λ x. causal_cmp x c) (equals-are a b e);
}

-- ---- as the code has it: two tests, each that no number is larger
abbrev pub all_no_larger : List ℕ → List ℕ → Bool
all_no_larger xs ys = list_all (λ p. leb p.0 p.1) (zip xs ys)

every-is : (xs ys : List ℕ) → length xs ≡ length ys → every (paired leb xs ys) ≡ all_no_larger xs ys
unfolding every paired
every-is [] [] e = refl
every-is [] (y ∷ ys) e = absurd (omega (arith, e))
every-is (x ∷ xs) [] e = absurd (omega (arith, e))
every-is (x ∷ xs) (y ∷ ys) e = ap (◌&&◌ (leb x y)) (every-is xs ys (omega arith))

some-is : (xs ys : List ℕ) → length xs ≡ length ys → some (paired ltb xs ys) ≡ not (all_no_larger ys xs)
unfolding some paired
some-is [] [] e = refl
some-is [] (y ∷ ys) e = absurd (omega (arith, e))
some-is (x ∷ xs) [] e = absurd (omega (arith, e))
some-is (x ∷ xs) (y ∷ ys) e = ap₂ ◌||◌ (gt_not_le y x) (some-is xs ys (omega arith)) ∙ neither (leb y x) (all_no_larger ys xs)
  where
    neither : (p q : Bool) → (not p || not q) ≡ not (p && q)
    neither true q = refl
    neither false q = refl

no-later : (a b : Clock) → length a.n ≡ length b.n → all_no_larger a.n b.n ≡ true → NoLater a b
no-later a b long e k =
    leb-true (number a k) (number b k)
    (sym (paired_at leb a.n b.n k) ∙ every-at (paired leb a.n b.n) (every-is a.n b.n long ∙ e) k)

not-larger : (xs : List ℕ) → all_no_larger xs xs ≡ true
not-larger [] = refl
not-larger (x ∷ xs) = both (le-leb x x (omega arith)) (not-larger xs)

abbrev by_both : Bool → Bool → Option Ordering
by_both earlier later = cond earlier (cond later (Some Equal) (Some Less)) (cond later (Some Greater) None)

combined : (r s : Bool) → by_both r s ≡ by_tests (r && not s) (s && not r) (r && s)
combined true true = refl
combined true false = refl
combined false true = refl
combined false false = refl

before-tests : (a b : Clock) → length a.n ≡ length b.n → is_before a b ≡ (all_no_larger a.n b.n && not (all_no_larger b.n a.n))
unfolding is_before
before-tests a b long = ap₂ ◌&&◌ (every-is a.n b.n long) (some-is a.n b.n long)

equals-tests : (a b : Clock) → length a.n ≡ length b.n → equals a b ≡ (all_no_larger a.n b.n && all_no_larger b.n a.n)
equals-tests a b long =
    same_test (equals a b) (all_no_larger a.n b.n && all_no_larger b.n a.n)
    (λ e. subst (λ l. (all_no_larger a.n l && all_no_larger l a.n) ≡ true) (numbers-are a.n b.n e) (both (not-larger a.n) (not-larger a.n)))
    (λ e.
    let later = no-later a b long (both_left (all_no_larger a.n b.n) (all_no_larger b.n a.n) e) in
    let earlier = no-later b a (sym long) (both_right (all_no_larger a.n b.n) (all_no_larger b.n a.n) e) in
    subst (λ c. equals a c ≡ true) (same a b long (λ k. omega (arith, later k, earlier k))) (numbers-same a.n))

pub stands : (a b : Clock) (r s : Bool) → length a.n ≡ length b.n → r ≡ all_no_larger a.n b.n → s ≡ all_no_larger b.n a.n → by_both r s ≡ causal_cmp a b
unfolding causal_cmp
stands a b r s long p q =
    rw (before-tests a b long, before-tests b a (sym long), equals-tests a b long, p, q) (combined (all_no_larger a.n b.n) (all_no_larger b.n a.n))

pub lt_before : (a b : Clock) → partial_lt causal_cmp a b ≡ is_before a b
unfolding causal_cmp
lt_before a b = tested (is_before a b) (is_before b a) (equals a b)
  where
    tested : (l g e : Bool) → is_some_and is_lt (by_tests l g e) ≡ l
    tested true g e = refl
    tested false true e = refl
    tested false false true = refl
    tested false false false = refl
