-- Refusals: lines of a number and a test, in the order of 01's table. The first line that applies refuses; where none does, it is done.
-- Assumes nothing.
use Rattle.std.specs.Prelude.{◌≡◌, Bool, true, false, ◌&&◌, cond, List, [], ◌∷◌, ◌++◌, ◌⊎◌, leb, eqb}
use Rattle.std.proofs.Math.Path.{refl}
use Rattle.std.proofs.Common.{sym, ◌∙◌, inl, inr, arith, leb-true}
use Prim.Native.Nat.{ℕ, zero, suc, ◌≤◌}
use Rattle.theory_lists.specs.Test.{both_left, both_right, whichever}

-- "Given exactly when no earlier line applies and": its number, and its test
abbrev pub Line : Type 0
Line = ℕ × Bool

-- the number of the first line that applies; 0 where none does
unfoldable pub first_of : List Line → ℕ
first_of [] = 0
first_of ((number, test) ∷ ls) = cond test number (first_of ls)

-- a refusal gives its number; 0 is no refusal
unfoldable pub unless : {A : Type 0} → ℕ → (ℕ → A) → A → A
unless zero refused done = done
unless (suc n) refused done = refused (suc n)

-- ---- the first that applies
-- no number is below k: not 0, so that 0 is none; not 1 or 2, which are codes of what is done
unfoldable pub numbers_from : ℕ → List Line → Bool
numbers_from k [] = true
numbers_from k ((number, test) ∷ ls) = leb k number && numbers_from k ls

-- the test of the line with this number
unfoldable pub test_of : ℕ → List Line → Bool
test_of n [] = false
test_of n ((number, test) ∷ ls) = cond (eqb n number) test (test_of n ls)

-- none applies: so no line's test did
pub none-applies : (ls : List Line) → numbers_from 1 ls ≡ true → first_of ls ≡ 0 → (n : ℕ) → test_of n ls ≡ false
unfolding first_of numbers_from test_of
none-applies [] from e n = refl
none-applies ((number, true) ∷ ls) from e n = absurd (omega (arith, leb-true 1 number (both_left (leb 1 number) (numbers_from 1 ls) from)))
none-applies ((number, false) ∷ ls) from e n =
    whichever (λ (b : Bool). b ≡ false) (eqb n number) false (test_of n ls) refl
    (none-applies ls (both_right (leb 1 number) (numbers_from 1 ls) from) e n)

-- and none of those after the first does
pub none_after : (l : Line) (ls : List Line) → numbers_from 1 (l ∷ ls) ≡ true → first_of (l ∷ ls) ≡ 0 → first_of ls ≡ 0
unfolding first_of numbers_from
none_after (number, true) ls from e = absurd (omega (arith, leb-true 1 number (both_left (leb 1 number) (numbers_from 1 ls) from)))
none_after (number, false) ls from e = e

-- a refusal is none of the codes of what is done
pub first-from : (k : ℕ) (ls : List Line) → numbers_from k ls ≡ true → (first_of ls ≡ 0) ⊎ (k ≤ first_of ls)
unfolding first_of numbers_from
first-from k [] from = inl refl
first-from k ((number, true) ∷ ls) from = inr (leb-true k number (both_left (leb k number) (numbers_from k ls) from))
first-from k ((number, false) ∷ ls) from = first-from k ls (both_right (leb k number) (numbers_from k ls) from)

-- more lines after these
pub first_some : (ls more : List Line) → (first_of ls ≡ 0 → ⊥) → first_of (ls ++ more) ≡ first_of ls
unfolding first_of
first_some [] more some = absurd (some refl)
first_some ((number, true) ∷ ls) more some = refl
first_some ((number, false) ∷ ls) more some = first_some ls more some

pub first_more : (ls more : List Line) → numbers_from 1 ls ≡ true → first_of ls ≡ 0 → first_of (ls ++ more) ≡ first_of more
unfolding first_of numbers_from
first_more [] more from none = refl
first_more ((number, true) ∷ ls) more from none = absurd (omega (arith, leb-true 1 number (both_left (leb 1 number) (numbers_from 1 ls) from)))
first_more ((number, false) ∷ ls) more from none = first_more ls more (both_right (leb 1 number) (numbers_from 1 ls) from) none

pub first-none : (ls more : List Line) → numbers_from 1 ls ≡ true → first_of (ls ++ more) ≡ 0 → (first_of ls ≡ 0) × (first_of more ≡ 0)
unfolding first_of numbers_from
first-none [] more from e = (refl, e)
first-none ((number, true) ∷ ls) more from e = absurd (omega (arith, leb-true 1 number (both_left (leb 1 number) (numbers_from 1 ls) from)))
first-none ((number, false) ∷ ls) more from e = first-none ls more (both_right (leb 1 number) (numbers_from 1 ls) from) e

-- ---- refused, or done
module _ {A : Type 0} (n : ℕ) (refused : ℕ → A) (done : A) where
  pub unless-refused : (n ≡ 0 → ⊥) → unless n refused done ≡ refused n
  unfolding unless
  unless-refused = go n
    where
      go : (k : ℕ) → (k ≡ 0 → ⊥) → unless k refused done ≡ refused k
      go zero some = absurd (some refl)
      go (suc k) some = refl

  pub unless-done : n ≡ 0 → unless n refused done ≡ done
  unfolding unless
  unless-done none = rw none

  -- what holds of a refusal and of what is done holds of the one that it is
  pub unless-either : (P : A → Type 0) → ((n ≡ 0 → ⊥) → P (refused n)) → (n ≡ 0 → P done) → P (unless n refused done)
  unfolding unless
  unless-either P = go n
    where
      go : (k : ℕ) → ((k ≡ 0 → ⊥) → P (refused k)) → (k ≡ 0 → P done) → P (unless k refused done)
      go zero r d = d refl
      go (suc k) r d = r (λ e. omega arith)

  -- a reply that tells a refusal's number: where it tells 0, there was none
  pub unless-none : (told : A → ℕ) → told (refused n) ≡ n → told (unless n refused done) ≡ 0 → n ≡ 0
  unless-none told tells = unless-either (λ (a : A). told a ≡ 0 → n ≡ 0) (λ some e. sym tells ∙ e) (λ none e. none)
