-- Laws on clocks, for clocks of any length. Callers use these and not the definitions' text.
-- Assumes nothing.
use Rattle.std.specs.Prelude.{◌≡◌, refl, Bool, true, false, List, [], ◌∷◌, ℕ, zero, suc, ◌+◌, ◌≤◌, ◌<◌, max, leb, ltb, length, get_or, replicate}
use Rattle.std.proofs.Common.{sym, ◌∙◌, zero-le, arith, ext_get_or, get_or-set_same, get_or-set_other, ltb-true, leb-true, eqb-true, lt-ltb, le-leb, le-ltb, eq-eqb}
use Rattle.std.proofs.Math.Decide.{ℕ_discrete, dec_lt}
use Rattle.std.proofs.lemmas.List.{get_or-replicate}
use Rattle.std.proofs.Math.ListN.{get_or-eq_default}
use Rattle.theory_lists.specs.Test.{every, some, fails, both, both_left, both_right, either, either_left, every-at, every_of, every-map_at, map_at-every, some_at, some_of}
use Rattle.clock.specs.declared.Clock.{Clock}
use Rattle.clock.specs.Clock.{number, zero_clock, paired, merged, is_before, zero_past, is_within, raised}

-- ---- pairs of numbers
pub paired_at : {A : Type 0} (f : ℕ → ℕ → A) (a b : List ℕ) (k : ℕ) → get_or (paired f a b) k (f 0 0) ≡ f (get_or a k 0) (get_or b k 0)
unfolding paired
paired_at f [] [] k = refl
paired_at f [] (y ∷ ys) zero = refl
paired_at f [] (y ∷ ys) (suc k) = paired_at f [] ys k
paired_at f (x ∷ xs) [] zero = refl
paired_at f (x ∷ xs) [] (suc k) = paired_at f xs [] k
paired_at f (x ∷ xs) (y ∷ ys) zero = refl
paired_at f (x ∷ xs) (y ∷ ys) (suc k) = paired_at f xs ys k

pub length-paired : {A : Type 0} (f : ℕ → ℕ → A) (a b : List ℕ) → length (paired f a b) ≡ max (length a) (length b)
unfolding paired
length-paired f [] [] = refl
length-paired f [] (y ∷ ys) = omega (arith, length-paired f [] ys)
length-paired f (x ∷ xs) [] = omega (arith, length-paired f xs [])
length-paired f (x ∷ xs) (y ∷ ys) = omega (arith, length-paired f xs ys)

-- clocks of one length with the same numbers are the same
pub same : (a b : Clock) → length a.n ≡ length b.n → ((k : ℕ) → number a k ≡ number b k) → a ≡ b
same a b e p = λ i. record { n = ext_get_or 0 a.n b.n e (λ k _. p k) i }

-- ---- no later: no number is larger
abbrev pub NoLater : Clock → Clock → Type 0
NoLater a b = (k : ℕ) → number a k ≤ number b k

-- "numbers past the desk count are 0"
abbrev pub ZeroPast : ℕ → Clock → Type 0
ZeroPast d c = (k : ℕ) → d ≤ k → number c k ≡ 0

-- the test of it, as that rule and back
pub within-past : (d : ℕ) (c : Clock) → is_within d c ≡ true → ZeroPast d c
unfolding is_within
within-past d c e k h =
    elim (dec_lt k (length c.n)) [
      | yes i ↦ eqb-true (number c k) 0 (either_left (le-ltb k d h) (every-map_at (zero_past d) c.n 0 e k i))
      | no i ↦ get_or-eq_default c.n 0 (omega arith)
    ]

pub past-within : (d : ℕ) (c : Clock) → ZeroPast d c → is_within d c ≡ true
unfolding is_within
past-within d c p =
    map_at-every (zero_past d) c.n 0
    (λ k i. elim (dec_lt k d) [ yes h ↦ rw (lt-ltb k d h) | no h ↦ either (ltb k d) (eq-eqb (number c k) 0 (p k (omega arith))) ])

pub zero-past : (d : ℕ) → ZeroPast d zero_clock
zero-past d k h =
    elim (dec_lt k 8) [ yes i ↦ get_or-replicate 8 k 0 0 i | no i ↦ (let past : 8 ≤ k = omega arith in get_or-eq_default (replicate 8 0) 0 past) ]

-- ---- merge
pub merge-at : (a b : Clock) (k : ℕ) → number (merged a b) k ≡ max (number a k) (number b k)
unfolding merged
merge-at a b k = paired_at max a.n b.n k

pub merge-length : (a b : Clock) → length (merged a b).n ≡ max (length a.n) (length b.n)
unfolding merged
merge-length a b = length-paired max a.n b.n

pub merge-comm : (a b : Clock) → merged a b ≡ merged b a
merge-comm a b =
    same (merged a b) (merged b a) (omega (arith, merge-length a b, merge-length b a)) (λ k. omega (arith, merge-at a b k, merge-at b a k))

pub merge-assoc : (a b c : Clock) → merged (merged a b) c ≡ merged a (merged b c)
merge-assoc a b c =
    same (merged (merged a b) c) (merged a (merged b c))
    (omega (arith, merge-length (merged a b) c, merge-length a b, merge-length a (merged b c), merge-length b c))
    (λ k. omega (arith, merge-at (merged a b) c k, merge-at a b k, merge-at a (merged b c) k, merge-at b c k))

pub merge-self : (a : Clock) → merged a a ≡ a
merge-self a = same (merged a a) a (omega (arith, merge-length a a)) (λ k. omega (arith, merge-at a a k))

pub merge-left : (a b : Clock) → NoLater a (merged a b)
merge-left a b k = omega (arith, merge-at a b k)

pub merge-right : (a b : Clock) → NoLater b (merged a b)
merge-right a b k = omega (arith, merge-at a b k)

pub merge-least : (a b c : Clock) → NoLater a c → NoLater b c → NoLater (merged a b) c
merge-least a b c p q k = omega (arith, merge-at a b k, p k, q k)

-- what merges are made of: numbers past a desk count are 0 in it as in both
pub merge-past : (d : ℕ) (a b : Clock) → ZeroPast d a → ZeroPast d b → ZeroPast d (merged a b)
merge-past d a b p q k h = omega (arith, merge-at a b k, p k h, q k h)

-- ---- strictly before: as a rule, and back
pub before-no-later : (a b : Clock) → is_before a b ≡ true → NoLater a b
unfolding is_before
before-no-later a b e k =
    leb-true (number a k) (number b k)
    (sym (paired_at leb a.n b.n k) ∙ every-at (paired leb a.n b.n) (both_left (every (paired leb a.n b.n)) (some (paired ltb a.n b.n)) e) k)

pub before-smaller : (a b : Clock) → is_before a b ≡ true → (k : ℕ) × (number a k < number b k)
unfolding is_before
before-smaller a b e =
    let found = some_of (paired ltb a.n b.n) (both_right (every (paired leb a.n b.n)) (some (paired ltb a.n b.n)) e) in
    (found.0, ltb-true (number a found.0) (number b found.0) (sym (paired_at ltb a.n b.n found.0) ∙ found.1))

pub is-before : (a b : Clock) (k : ℕ) → NoLater a b → number a k < number b k → is_before a b ≡ true
unfolding is_before
is-before a b k p h =
    both
    (every_of (paired leb a.n b.n) (λ j _. paired_at leb a.n b.n j ∙ le-leb (number a j) (number b j) (p j)))
    (some_at (paired ltb a.n b.n) k (paired_at ltb a.n b.n k ∙ lt-ltb (number a k) (number b k) h))

pub before-irrefl : (a : Clock) → is_before a a ≡ false
before-irrefl a = fails (is_before a a) (λ e. omega (arith, (before-smaller a a e).1))

pub before-trans : (a b c : Clock) → is_before a b ≡ true → is_before b c ≡ true → is_before a c ≡ true
before-trans a b c p q =
    let smaller = before-smaller a b p in
    is-before a c smaller.0 (λ k. omega (arith, before-no-later a b p k, before-no-later b c q k))
    (omega (arith, smaller.1, before-no-later b c q smaller.0))

pub before-asym : (a b : Clock) → is_before a b ≡ true → is_before b a ≡ false
before-asym a b p =
    fails (is_before b a) (λ q. let smaller = before-smaller a b p in omega (arith, smaller.1, before-no-later b a q smaller.0))

-- no later, and not the same
pub no-later-before : (a b : Clock) → length a.n ≡ length b.n → NoLater a b → (a ≡ b → ⊥) → is_before a b ≡ true
no-later-before a b e p differ = go (is_before a b) refl
  where
    go : (t : Bool) → is_before a b ≡ t → is_before a b ≡ true
    go true q = q
    go false q = absurd (differ (same a b e equal))
      where
        -- a smaller number would make a strictly before b
        equal : (k : ℕ) → number a k ≡ number b k
        equal k =
            elim (dec_lt (number a k) (number b k)) [
              | yes h ↦ (let z : ◌≡◌ {A = ℕ} 0 1 = cc (is-before a b k p h) in omega arith)
              | no h ↦ omega (arith, p k)
            ]

-- ---- one number raised
pub raised_at : (c : Clock) (k : ℕ) → k < length c.n → number (raised c k) k ≡ number c k + 1
unfolding raised
raised_at c k h = get_or-set_same c.n k (number c k + 1) 0 h

pub raised-other : (c : Clock) (k j : ℕ) → (j ≡ k → ⊥) → number (raised c k) j ≡ number c j
unfolding raised
raised-other c k j ne = get_or-set_other c.n k j (number c k + 1) 0 ne

pub raised-later : (c : Clock) (k : ℕ) → k < length c.n → is_before c (raised c k) ≡ true
raised-later c k h =
    is-before c (raised c k) k
    (λ j. elim (ℕ_discrete j k) [ yes e ↦ rw e (omega (arith, raised_at c k h)) | no ne ↦ omega (arith, raised-other c k j ne) ])
    (omega (arith, raised_at c k h))

pub raised-past : (d : ℕ) (c : Clock) (k : ℕ) → k < d → ZeroPast d c → ZeroPast d (raised c k)
raised-past d c k h p j i = raised-other c k j (omega arith) ∙ p j i

-- ---- all zeros
-- a raised clock is not, and a merge is only if both are
pub raised-some : (c : Clock) (k : ℕ) → k < length c.n → ZeroPast 0 (raised c k) → ⊥
raised-some c k h z = omega (arith, raised_at c k h, z k zero-le)

pub merge-zero : (a b : Clock) → ZeroPast 0 (merged a b) → ZeroPast 0 b
merge-zero a b z k h = omega (arith, merge-at a b k, z k h)
