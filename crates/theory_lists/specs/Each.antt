-- A list mapped at each place: what stands at place k becomes f k of it.
-- Assumes nothing.
use Rattle.std.specs.Prelude.{◌≡◌, length, get_or, set}
use Rattle.std.proofs.Math.Path.{refl, ap, ap₂}
use Rattle.std.proofs.Common.{sym, ◌∙◌, le_of_suc-le-suc, not-suc-le-zero, arith, length-set, get_or-set_same, get_or-set_other}
use mathlib.Core.List.{List, [], ◌∷◌, map}
use Prim.Native.Nat.{ℕ, zero, suc, ◌<◌}
use Rattle.std.proofs.Math.Decide.{ℕ_discrete}
use Rattle.std.proofs.lemmas.List.{length-map}

module _ {A B : Type 0} where
  -- what owning an array of structs tells of its length
  pub length-mapped : (f : A → B) (l : List A) (n : ℕ) → length (map f l) ≡ n → length l ≡ n
  length-mapped f l n e = sym (length-map l f) ∙ e

  unfoldable pub map_at : (ℕ → A → B) → List A → List B
  map_at f [] = []
  map_at f (x ∷ xs) = f 0 x ∷ map_at (λ k. f (suc k)) xs

  pub length-map_at : (f : ℕ → A → B) (l : List A) → length (map_at f l) ≡ length l
  unfolding map_at
  length-map_at f [] = refl
  length-map_at f (x ∷ xs) = ap suc (length-map_at (λ k. f (suc k)) xs)

  pub get_or-map_at : (f : ℕ → A → B) (l : List A) (k : ℕ) (d : A) (e : B) → k < length l → get_or (map_at f l) k e ≡ f k (get_or l k d)
  unfolding map_at
  get_or-map_at f [] k d e h = absurd (not-suc-le-zero h)
  get_or-map_at f (x ∷ xs) zero d e h = refl
  get_or-map_at f (x ∷ xs) (suc k) d e h = get_or-map_at (λ j. f (suc j)) xs k d e (le_of_suc-le-suc h)

  -- two functions that agree at each place
  pub map_at-same : (f g : ℕ → A → B) (l : List A) (d : A) → ((k : ℕ) → k < length l → f k (get_or l k d) ≡ g k (get_or l k d))
      → map_at f l ≡ map_at g l
  unfolding map_at
  map_at-same f g [] d p = refl
  map_at-same f g (x ∷ xs) d p = ap₂ ◌∷◌ (p 0 (omega arith)) (map_at-same (λ k. f (suc k)) (λ k. g (suc k)) xs d (λ k h. p (suc k) (omega arith)))

-- ---- what holds at each place
module _ {A : Type 0} (P : ℕ → A → Type 0) (d : A) where
  abbrev pub Places : List A → Type 0
  Places l = (k : ℕ) → k < length l → P k (get_or l k d)

  -- after one place is replaced
  pub places-set : (l : List A) (i : ℕ) (x : A) → P i x → Places l → Places (set l i x)
  places-set l i x new old k h =
      elim (ℕ_discrete k i) [
        | yes e ↦ rw (e, get_or-set_same l i x d (omega (arith, length-set l i x))) new
        | no ne ↦ rw (get_or-set_other l i k x d ne) (old k (omega (arith, length-set l i x)))
      ]

  -- after every place is mapped
  pub places-map_at : (f : ℕ → A → A) (l : List A) → ((k : ℕ) (x : A) → P k x → P k (f k x)) → Places l → Places (map_at f l)
  places-map_at f l step old k h =
      let i : k < length l = omega (arith, length-map_at f l) in
      rw (get_or-map_at f l k d d i) (step k (get_or l k d) (old k i))
