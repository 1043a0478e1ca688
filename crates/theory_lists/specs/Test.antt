-- Tests, one at each place: whether all pass, whether one does. Each as a loop finds it, and as a rule at each place, both ways.
-- A place past the end passes where all must, and fails where one must.
-- Assumes nothing.
use Rattle.std.specs.Prelude.{◌≡◌, refl, Bool, true, false, not, ◌&&◌, ◌||◌, cond, List, [], ◌∷◌, ℕ, zero, suc, ◌+◌, ◌<◌, ◌≤◌, leb, ltb, length, get_or, drop}
use Rattle.std.proofs.Common.{sym, ap, ◌∙◌, add-one, arith, drop_of_length-le, drop-cons, lt-ltb, le-ltb, le-leb}
use Rattle.std.proofs.Math.Bool.{and_assoc, or_assoc, and-true, or-true, or-false, not-not}
use Rattle.std.proofs.Math.Decide.{dec_le}
use Rattle.std.proofs.lemmas.Bool.{lt-leb}
use Rattle.theory_lists.specs.Each.{map_at, length-map_at, get_or-map_at}

unfoldable pub every : List Bool → Bool
every [] = true
every (b ∷ bs) = b && every bs

unfoldable pub some : List Bool → Bool
some [] = false
some (b ∷ bs) = b || some bs

-- ---- one test, and two
pub fails : (b : Bool) → (b ≡ true → ⊥) → b ≡ false
fails true no_way = absurd (no_way refl)
fails false no_way = refl

-- two tests that pass together are the same
pub same_test : (a b : Bool) → (a ≡ true → b ≡ true) → (b ≡ true → a ≡ true) → a ≡ b
same_test true b p q = sym (p refl)
same_test false true p q = q refl
same_test false false p q = refl

pub both : {a b : Bool} → a ≡ true → b ≡ true → (a && b) ≡ true
both p q = rw (p, q)

pub both_left : (a b : Bool) → (a && b) ≡ true → a ≡ true
both_left true b e = refl
both_left false b e = e

pub both_right : (a b : Bool) → (a && b) ≡ true → b ≡ true
both_right true b e = e
both_right false b e = cc

-- a comparison and its contrary
pub gt_not_le : (a b : ℕ) → ltb b a ≡ not (leb a b)
gt_not_le a b = elim (dec_le a b) [ yes h ↦ rw (le-leb a b h, le-ltb b a h) | no h ↦ rw (lt-leb a b (omega arith), lt-ltb b a (omega arith)) ]

pub ge-not-lt : (a b : ℕ) → leb b a ≡ not (ltb a b)
ge-not-lt a b = sym (ap not (gt_not_le b a) ∙ not-not (leb b a))

-- what holds of both holds of the one that a test chooses
pub whichever : {A : Type 0} (P : A → Type 0) (b : Bool) (x y : A) → P x → P y → P (cond b x y)
whichever P true x y p q = p
whichever P false x y p q = q

pub either : (a : Bool) {b : Bool} → b ≡ true → (a || b) ≡ true
either a p = rw (p, or-true a)

pub either_left : {a b : Bool} → a ≡ false → (a || b) ≡ true → b ≡ true
either_left p q = rw p at q

-- ---- as a loop finds it: what it has so far, and what is left
pub every-turn : {whole : Bool} (l : List Bool) (i : ℕ) (so_far : Bool) → i < length l → whole ≡ (so_far && every (drop i l))
    → whole ≡ (so_far && get_or l i true && every (drop (i + 1) l))
unfolding every
every-turn l i so_far h e = e ∙ rw (add-one, drop-cons l i true h, and_assoc so_far (get_or l i true) (every (drop (suc i) l)))

pub every-end : {whole : Bool} (l : List Bool) (i : ℕ) (so_far : Bool) → length l ≤ i → whole ≡ (so_far && every (drop i l)) → whole ≡ so_far
unfolding every
every-end l i so_far h e = e ∙ rw (drop_of_length-le l h, and-true so_far)

pub some_turn : {whole : Bool} (l : List Bool) (i : ℕ) (so_far : Bool) → i < length l → whole ≡ (so_far || some (drop i l))
    → whole ≡ (so_far || get_or l i false || some (drop (i + 1) l))
unfolding some
some_turn l i so_far h e = e ∙ rw (add-one, drop-cons l i false h, or_assoc so_far (get_or l i false) (some (drop (suc i) l)))

pub some_end : {whole : Bool} (l : List Bool) (i : ℕ) (so_far : Bool) → length l ≤ i → whole ≡ (so_far || some (drop i l)) → whole ≡ so_far
unfolding some
some_end l i so_far h e = e ∙ rw (drop_of_length-le l h, or-false so_far)

-- ---- the rule at each place, and back
pub every-at : (l : List Bool) → every l ≡ true → (k : ℕ) → get_or l k true ≡ true
unfolding every
every-at [] e k = refl
every-at (b ∷ bs) e zero = both_left b (every bs) e
every-at (b ∷ bs) e (suc k) = every-at bs (both_right b (every bs) e) k

pub every_of : (l : List Bool) → ((k : ℕ) → k < length l → get_or l k true ≡ true) → every l ≡ true
unfolding every
every_of [] p = refl
every_of (b ∷ bs) p = both (p 0 (omega arith)) (every_of bs (λ k h. p (suc k) (omega arith)))

pub some_at : (l : List Bool) (k : ℕ) → get_or l k false ≡ true → some l ≡ true
unfolding some
some_at [] k e = e
some_at (true ∷ bs) k e = refl
some_at (false ∷ bs) zero e = cc
some_at (false ∷ bs) (suc k) e = some_at bs k e

pub some_of : (l : List Bool) → some l ≡ true → (k : ℕ) × (get_or l k false ≡ true)
unfolding some
some_of [] e = (0, e)
some_of (true ∷ bs) e = (0, refl)
some_of (false ∷ bs) e = let found = some_of bs e in (suc found.0, found.1)

-- ---- the same of a test at each place of a list
module _ {A : Type 0} (test : ℕ → A → Bool) (l : List A) (d : A) where
  pub every-map_at : every (map_at test l) ≡ true → (k : ℕ) → k < length l → test k (get_or l k d) ≡ true
  every-map_at e k h = sym (get_or-map_at test l k d true h) ∙ every-at (map_at test l) e k

  pub map_at-turn : {whole : Bool} (i : ℕ) (so_far : Bool) → i < length l → whole ≡ (so_far && every (drop i (map_at test l)))
      → whole ≡ (so_far && test i (get_or l i d) && every (drop (i + 1) (map_at test l)))
  map_at-turn i so_far h e = rw (← get_or-map_at test l i d true h) (every-turn (map_at test l) i so_far (omega (arith, length-map_at test l)) e)

  pub map_at-end : {whole : Bool} (i : ℕ) (so_far : Bool) → length l ≤ i → whole ≡ (so_far && every (drop i (map_at test l))) → whole ≡ so_far
  map_at-end i so_far h e = every-end (map_at test l) i so_far (omega (arith, length-map_at test l)) e

  pub map_at-every : ((k : ℕ) → k < length l → test k (get_or l k d) ≡ true) → every (map_at test l) ≡ true
  map_at-every p =
      every_of (map_at test l) (λ k h. let i : k < length l = omega (arith, length-map_at test l) in get_or-map_at test l k d true i ∙ p k i)
