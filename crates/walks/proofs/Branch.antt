-- What a test chooses, where the code has branched on it.
-- Assumes nothing.
use mathlib.Core.Path.{◌≡◌, refl, sym, subst, ◌∙◌}
use mathlib.Core.Bool.{Bool, true, false, not, cond}
use Prim.Native.Nat.{ℕ}
use borrow.Author.Tests.{eqb-true, eq-eqb}
use lib.Dec.{T, eqb}

pub if_yes : {A : Type 0} (b : Bool) (x y : A) → T b → cond b x y ≡ x
if_yes true x y h = refl
if_yes false x y h = absurd h

pub if_no : {A : Type 0} (b : Bool) (x y : A) → T (not b) → cond b x y ≡ y
if_no true x y h = absurd h
if_no false x y h = refl

pub is_true : (b : Bool) → T b → b ≡ true
is_true true h = refl
is_true false h = absurd h

pub is_false : (b : Bool) → T (not b) → b ≡ false
is_false true h = absurd h
is_false false h = refl

-- the other arm of `if !b`, and of `if n != m`
pub un_not : (b : Bool) → T (not (not b)) → b ≡ true
un_not true h = refl
un_not false h = absurd h

-- `if n != 0`, and its other arm
pub not-zero : (n : ℕ) → T (not (eqb n 0)) → n ≡ 0 → ⊥
not-zero n h e = let z : ◌≡◌ {A = Bool} true false = sym (eq-eqb n 0 e) ∙ is_false (eqb n 0) h in subst (λ b. T b) z tt

pub is_zero : (n : ℕ) → T (not (not (eqb n 0))) → n ≡ 0
is_zero n h = eqb-true n 0 (un_not (eqb n 0) h)
