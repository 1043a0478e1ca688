-- A value marked at places, as a loop does it: after n turns x stands at `place c` for each c below n that passes the test.
-- Assumes nothing.
use Rattle.std.proofs.Math.Path.{◌≡◌, refl, sym, ap}
use Rattle.std.proofs.Common.{subst, ◌∙◌, add-one, length-set, get_or-set_same, ext_get_or}
use Rattle.std.specs.Prelude.{Bool, cond, ◌⊎◌, get_or, set}
use Rattle.std.proofs.Math.Bool.{true, false}
use mathlib.Core.List.{List}
use Rattle.std.proofs.Math.Logic.{inl, inr, ⊎_elim}
use Prim.Native.Nat.{ℕ, zero, suc, ◌+◌, ◌<◌}
use Rattle.std.proofs.Math.Decide.{ℕ_discrete}
use native.Mathlib.Omega.{arith}
use Rattle.std.proofs.Math.ListN.{length}
use Rattle.std.proofs.Math.Seq.{get_or-set_other}
use Rattle.theory_lists.specs.Test.{whichever}

module _ {A : Type 0} (test : ℕ → Bool) (place : ℕ → ℕ) (x : A) where
  unfoldable pub marked : ℕ → List A → List A
  marked zero l = l
  marked (suc n) l = cond (test n) (set (marked n l) (place n) x) (marked n l)

  -- a turn of the loop marks its place, or does not
  pub marked-yes : (n : ℕ) (l : List A) → test n ≡ true → set (marked n l) (place n) x ≡ marked (n + 1) l
  unfolding marked
  marked-yes n l e = rw (add-one, e)

  pub marked-no : (n : ℕ) (l : List A) → test n ≡ false → marked n l ≡ marked (n + 1) l
  unfolding marked
  marked-no n l e = rw (add-one, e)

  pub length_marked : (n : ℕ) (l : List A) → length (marked n l) ≡ length l
  unfolding marked
  length_marked zero l = refl
  length_marked (suc n) l =
      whichever (λ (m : List A). length m ≡ length l) (test n) (set (marked n l) (place n) x) (marked n l)
      (length-set (marked n l) (place n) x ∙ length_marked n l) (length_marked n l)

  -- place i was marked by c; by none
  abbrev pub By : ℕ → ℕ → ℕ → Type 0
  By n i c = (c < n) × (test c ≡ true) × (place c ≡ i)

  abbrev pub ByNone : ℕ → ℕ → Type 0
  ByNone n i = (c : ℕ) → By n i c → ⊥

  abbrev Either : ℕ → ℕ → A → A → Type 0
  Either n i now was = (((c : ℕ) × By n i c) × (now ≡ x)) ⊎ (ByNone n i × (now ≡ was))

  marked-at : (n : ℕ) (l : List A) (i : ℕ) (d : A) → i < length l → Either n i (get_or (marked n l) i d) (get_or l i d)
  unfolding marked
  marked-at zero l i d h = inr ((λ c b. omega (arith, b.0)), refl)
  marked-at (suc n) l i d h = go (test n) refl (marked-at n l i d h)
    where
      go : (b : Bool) → test n ≡ b → Either n i (get_or (marked n l) i d) (get_or l i d)
          → Either (suc n) i (get_or (cond b (set (marked n l) (place n) x) (marked n l)) i d) (get_or l i d)
      go true e before =
          elim (ℕ_discrete (place n) i) [
            | yes p ↦ inl ((n, (omega arith, e, p)), rw (← p) (get_or-set_same (marked n l) (place n) x d (omega (arith, length_marked n l))))
            | no ne ↦
                let other = get_or-set_other (marked n l) (place n) i x d (λ q. ne (sym q)) in
                ⊎_elim
                (λ b. inl ((b.0.0, (omega (arith, b.0.1.0), b.0.1.1, b.0.1.2)), other ∙ b.1))
                (λ o. inr (
                  (λ c b. elim (ℕ_discrete c n) [
                    | yes q ↦ ne (rw (← q) b.2)
                    | no q ↦ o.0 c (omega (arith, b.0), b.1, b.2)
                  ]),
                  other ∙ o.1,
                )) before
          ]
      go false e before =
          ⊎_elim
          (λ b. inl ((b.0.0, (omega (arith, b.0.1.0), b.0.1.1, b.0.1.2)), b.1))
          (λ o. inr (
            (λ c b. elim (ℕ_discrete c n) [
              | yes q ↦ let z : ◌≡◌ {A = Bool} true false = sym b.1 ∙ ap test q ∙ e in let o : ◌≡◌ {A = ℕ} 0 1 = cc in omega arith
              | no q ↦ o.0 c (omega (arith, b.0), b.1, b.2)
            ]),
            o.1,
          )) before

  -- the list that has x where it was marked, and elsewhere what was there
  pub marked_all : (n : ℕ) (l m : List A) (d : A) → length m ≡ length l → ((c : ℕ) → c < n → test c ≡ true → get_or m (place c) d ≡ x)
      → ((i : ℕ) → i < length l → ByNone n i → get_or m i d ≡ get_or l i d) → marked n l ≡ m
  marked_all n l m d same hit miss =
      ext_get_or d (marked n l) m (length_marked n l ∙ sym same)
      (λ i h.
      let in-l : i < length l = omega (arith, length_marked n l) in
      ⊎_elim
      (λ b. b.1 ∙ sym (subst (λ (j : ℕ). get_or m j d ≡ x) b.0.1.2 (hit b.0.0 b.0.1.0 b.0.1.1)))
      (λ o. o.1 ∙ sym (miss i in-l o.0)) (marked-at n l i d in-l))
