-- A function changed at one place.
-- Assumes nothing.
use Rattle.std.specs.Prelude.{◌≡◌, ◌≢◌, ℕ}
use Rattle.std.proofs.Math.Path.{refl}
use Rattle.std.proofs.Math.Decide.{ℕ_discrete}

-- the one or the other, by a test
unfoldable pub either : {P A : Type 0} → Dec P → A → A → A
either (yes _) a b = a
either (no _) a b = b

module _ {A : Type 0} (f : ℕ → A) (k : ℕ) (v : A) where
  unfoldable pub changed : ℕ → A
  changed j = either (ℕ_discrete j k) v (f j)

  pub changed-here : changed k ≡ v
  unfolding changed either
  changed-here = go (ℕ_discrete k k)
    where
      go : (d : Dec (k ≡ k)) → either d v (f k) ≡ v
      go (yes _) = refl
      go (no ne) = absurd (ne refl)

  pub changed-elsewhere : (j : ℕ) → j ≢ k → changed j ≡ f j
  unfolding changed either
  changed-elsewhere j ne = go (ℕ_discrete j k)
    where
      go : (d : Dec (j ≡ k)) → either d v (f j) ≡ f j
      go (yes e) = absurd (ne e)
      go (no _) = refl
