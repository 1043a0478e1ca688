-- A list replaced place by place, as a loop does it: after n turns each place k below n has f k.
-- Assumes nothing.
use Rattle.std.specs.Prelude.{◌≡◌, List, length, get_or, set, replicate}
use Rattle.std.proofs.Math.Path.{refl}
use Rattle.std.proofs.Common.{sym, ◌∙◌, eq-or-lt_of_le, le_of_suc-le-suc, not-suc-le-zero, arith, ext_get_or}
use Rattle.std.proofs.Math.Logic.{⊎_elim}
use Prim.Native.Nat.{ℕ, zero, suc, ◌+◌, ◌<◌, ◌≤◌}
use Rattle.std.proofs.Math.Numerals.{add-one}
use Rattle.std.proofs.Math.ListN.{length-set}
use Rattle.std.proofs.lemmas.List.{length-replicate, get_or-replicate}
use Rattle.std.proofs.Math.Seq.{get_or-set_same, get_or-set_other}
use Rattle.theory_lists.specs.Each.{map_at, length-map_at, get_or-map_at}

module _ {A : Type 0} where
  unfoldable pub up_to : (ℕ → A) → ℕ → List A → List A
  up_to f zero l = l
  up_to f (suc n) l = set (up_to f n l) n (f n)

  -- a turn of the loop: it stores f n at n
  pub up_to-step : (f : ℕ → A) (n : ℕ) (l : List A) → set (up_to f n l) n (f n) ≡ up_to f (n + 1) l
  unfolding up_to
  up_to-step f n l = rw add-one

  pub length-up_to : (f : ℕ → A) (n : ℕ) (l : List A) → length (up_to f n l) ≡ length l
  unfolding up_to
  length-up_to f zero l = refl
  length-up_to f (suc n) l = length-set (up_to f n l) n (f n) ∙ length-up_to f n l

  -- a place that was passed has what was stored there
  pub up_to-passed : (f : ℕ → A) (n : ℕ) (l : List A) (k : ℕ) (d : A) → k < n → k < length l → get_or (up_to f n l) k d ≡ f k
  unfolding up_to
  up_to-passed f zero l k d h i = absurd (not-suc-le-zero h)
  up_to-passed f (suc n) l k d h i =
      ⊎_elim
      (λ e. rw (e, get_or-set_same (up_to f n l) n (f n) d (omega (arith, length-up_to f n l))))
      (λ lt. get_or-set_other (up_to f n l) n k (f n) d (omega arith) ∙ up_to-passed f n l k d lt i)
      (eq-or-lt_of_le (le_of_suc-le-suc h))

  -- a place that was not is as it was
  pub up_to-ahead : (f : ℕ → A) (n : ℕ) (l : List A) (k : ℕ) (d : A) → n ≤ k → get_or (up_to f n l) k d ≡ get_or l k d
  unfolding up_to
  up_to-ahead f zero l k d h = refl
  up_to-ahead f (suc n) l k d h = get_or-set_other (up_to f n l) n k (f n) d (omega arith) ∙ up_to-ahead f n l k d (omega arith)

  -- all n places replaced: the list is the one that has f k at each place
  pub up_to-all : (f : ℕ → A) (n : ℕ) (l m : List A) (d : A) → length l ≡ n → length m ≡ n → ((k : ℕ) → k < n → get_or m k d ≡ f k)
      → up_to f n l ≡ m
  up_to-all f n l m d el em p =
      ext_get_or d (up_to f n l) m (omega (arith, length-up_to f n l))
      (λ k h.
      let i : k < n = omega (arith, length-up_to f n l) in
      up_to-passed f n l k d i (omega arith) ∙ sym (p k i))

  -- the loop that replaces each place by what f makes of it has mapped the list
  pub up_to-map_at : (f : ℕ → A → A) (n : ℕ) (l : List A) (d : A) → length l ≡ n → up_to (λ k. f k (get_or l k d)) n l ≡ map_at f l
  up_to-map_at f n l d e =
      up_to-all (λ k. f k (get_or l k d)) n l (map_at f l) d e (length-map_at f l ∙ e) (λ k h. get_or-map_at f l k d d (omega arith))

  -- all n places replaced by one value
  pub up_to-same : (x : A) (n : ℕ) (l : List A) → length l ≡ n → up_to (λ _. x) n l ≡ replicate n x
  up_to-same x n l e = up_to-all (λ _. x) n l (replicate n x) x e (length-replicate n x) (λ k h. get_or-replicate n k x x h)
