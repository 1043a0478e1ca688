-- A loop's turns: what a step makes of a value at each place from 0 up, and a test at each of those places.
-- Assumes nothing.
use Rattle.std.specs.Prelude.{◌≡◌, refl, Bool, true, ◌&&◌, List, length, get_or}
use Rattle.std.proofs.Common.{sym, ap, ap₂, ◌∙◌}
use Rattle.std.proofs.Math.Bool.{and_assoc, and-true}
use Prim.Native.Nat.{ℕ, zero, suc, ◌+◌, ◌-◌, ◌*◌, ◌≤◌, ◌<◌}
use Rattle.std.proofs.Math.Decide.{dec_lt}
use Rattle.std.proofs.Math.Numerals.{add-one}
use native.Mathlib.Omega.{arith}
use Rattle.theory_lists.specs.Each.{map_at}
use Rattle.theory_lists.specs.Test.{every, both, both_left, both_right, same_test, every-map_at, map_at-every}

-- ---- n turns, and turns from place a up to place b
unfoldable pub turns : {S : Type 0} → (S → ℕ → S) → S → ℕ → S
turns step s zero = s
turns step s (suc n) = step (turns step s n) n

unfoldable pub between : {S : Type 0} → (S → ℕ → S) → ℕ → S → ℕ → S
between step a s b = turns (λ t k. step t (a + k)) s (b - a)

module _ {S : Type 0} (step : S → ℕ → S) (s : S) where
  pub turns_next : (n : ℕ) → turns step s (n + 1) ≡ step (turns step s n) n
  unfolding turns
  turns_next n = rw add-one

  pub between_none : (a : ℕ) → between step a s a ≡ s
  unfolding between turns
  between_none a = let none : a - a ≡ 0 = omega arith in rw none

  pub between_next : (a b : ℕ) → a ≤ b → between step a s (b + 1) ≡ step (between step a s b) b
  unfolding between turns
  between_next a b h =
      let more : b + 1 - a ≡ suc (b - a) = omega arith in
      let place : a + (b - a) ≡ b = omega arith in
      rw more (ap (step (turns (λ t k. step t (a + k)) s (b - a))) place)

-- ---- a test at each of the first n places
unfoldable pub all_below : (ℕ → Bool) → ℕ → Bool
all_below test zero = true
all_below test (suc n) = all_below test n && test n

pub all-at : (test : ℕ → Bool) (n : ℕ) → all_below test n ≡ true → (k : ℕ) → k < n → test k ≡ true
unfolding all_below
all-at test zero e k h = absurd (omega arith)
all-at test (suc n) e k h =
    elim (dec_lt k n) [
      | yes l ↦ all-at test n (both_left (all_below test n) (test n) e) k l
      | no l ↦ (let last : k ≡ n = omega arith in rw last (both_right (all_below test n) (test n) e))
    ]

pub all_of : (test : ℕ → Bool) (n : ℕ) → ((k : ℕ) → k < n → test k ≡ true) → all_below test n ≡ true
unfolding all_below
all_of test zero p = refl
all_of test (suc n) p = both (all_of test n (λ k h. p k (omega arith))) (p n (omega arith))

-- two tests that agree at each place
pub all_same : (f g : ℕ → Bool) (n : ℕ) → ((k : ℕ) → k < n → f k ≡ g k) → all_below f n ≡ all_below g n
unfolding all_below
all_same f g zero p = refl
all_same f g (suc n) p = ap₂ ◌&&◌ (all_same f g n (λ k h. p k (omega arith))) (p n (omega arith))

-- the test of a list's places
pub every-all : {A : Type 0} (test : ℕ → A → Bool) (l : List A) (d : A) → every (map_at test l) ≡ all_below (λ k. test k (get_or l k d)) (length l)
every-all test l d =
    same_test (every (map_at test l)) (all_below (λ k. test k (get_or l k d)) (length l))
    (λ e. all_of (λ k. test k (get_or l k d)) (length l) (every-map_at test l d e))
    (λ e. map_at-every test l d (all-at (λ k. test k (get_or l k d)) (length l) e))

-- a places, and then b more; and m rows of n places
pub all_more : (test : ℕ → Bool) (a b : ℕ) → (all_below test a && all_below (λ k. test (a + k)) b) ≡ all_below test (a + b)
unfolding all_below
all_more test a zero = let none : a + 0 ≡ a = omega arith in rw (none, and-true (all_below test a))
all_more test a (suc b) =
    let more : a + suc b ≡ suc (a + b) = omega arith in
    rw more
    (sym (and_assoc (all_below test a) (all_below (λ k. test (a + k)) b) (test (a + b)))
    ∙ ap (λ (x : Bool). x && test (a + b)) (all_more test a b))

pub all-rows : (test : ℕ → Bool) (m n : ℕ) → all_below (λ r. all_below (λ k. test (r * n + k)) n) m ≡ all_below test (m * n)
unfolding all_below
all-rows test zero n = let none : 0 * n ≡ 0 = omega arith in rw none
all-rows test (suc m) n =
    let more : suc m * n ≡ m * n + n = omega arith in
    rw more (ap (λ (x : Bool). x && all_below (λ k. test (m * n + k)) n) (all-rows test m n) ∙ all_more test (m * n) n)

-- ---- if each turn adds a test, all turns add all of them
pub turns-add : {S : Type 0} (fits : S → Bool) (step : S → ℕ → S) (test : ℕ → Bool) (s : S) (n : ℕ)
    → ((t : S) (k : ℕ) → k < n → fits (step t k) ≡ (fits t && test k)) → fits (turns step s n) ≡ (fits s && all_below test n)
unfolding turns all_below
turns-add fits step test s zero p = sym (and-true (fits s))
turns-add fits step test s (suc n) p =
    p (turns step s n) n (omega arith)
    ∙ ap (λ (x : Bool). x && test n) (turns-add fits step test s n (λ t k h. p t k (omega arith)))
    ∙ and_assoc (fits s) (all_below test n) (test n)
