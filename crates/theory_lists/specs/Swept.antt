-- A list swept from a place on, as a loop does it: place base + c becomes `none` where its test passes, for each c below n; and how many did.
-- Assumes nothing.
use Rattle.std.specs.Prelude.{◌≡◌, Bool, ◌⊎◌, drop}
use Rattle.std.proofs.Math.Path.{refl, sym, ap}
use Rattle.std.proofs.Common.{◌∙◌, add-zero, zero-add, add-one, length-set, get_or-set_other, get_or-drop, take_all, ext_get_or}
use Rattle.std.proofs.Math.Bool.{true, false, cond}
use mathlib.Core.List.{List}
use Rattle.std.proofs.Math.Logic.{inl, inr, ⊎_elim}
use Prim.Native.Nat.{ℕ, zero, suc, ◌+◌, ◌-◌, ◌<◌, ◌≤◌}
use Rattle.std.proofs.Math.Decide.{dec_lt, ℕ_discrete}
use native.Mathlib.Omega.{arith}
use Rattle.std.proofs.Math.ListN.{length, get_or, set, get_or-eq_default}
use Rattle.std.proofs.Math.Seq.{slice, paste, set_comm, get_or-set_same, length-slice}
use Rattle.std.proofs.lemmas.List.Edits.{length-paste}
use Rattle.theory_lists.specs.Each.{map_at, length-map_at, get_or-map_at}
use Rattle.theory_lists.specs.Part.{get_or-slice, paste-in, paste-out}
use Rattle.theory_lists.specs.Sum.{sum, sum-turn, sum-le}
use Rattle.theory_lists.specs.Test.{whichever}

module _ {A : Type 0} (test : ℕ → A → Bool) (none d : A) (base : ℕ) where
  unfoldable pub swept : ℕ → List A → List A
  swept zero l = l
  swept (suc n) l = cond (test n (get_or (swept n l) (base + n) d)) (set (swept n l) (base + n) none) (swept n l)

  unfoldable pub swept_count : ℕ → List A → ℕ
  swept_count zero l = 0
  swept_count (suc n) l = swept_count n l + cond (test n (get_or (swept n l) (base + n) d)) 1 0

  pub length-swept : (n : ℕ) (l : List A) → length (swept n l) ≡ length l
  unfolding swept
  length-swept zero l = refl
  length-swept (suc n) l =
      whichever (λ (m : List A). length m ≡ length l) (test n (get_or (swept n l) (base + n) d)) (set (swept n l) (base + n) none) (swept n l)
      (length-set (swept n l) (base + n) none ∙ length-swept n l) (length-swept n l)

  -- at most one for each place
  pub count_small : (n : ℕ) (l : List A) → swept_count n l ≤ n
  unfolding swept_count
  count_small zero l = omega arith
  count_small (suc n) l =
      whichever (λ (k : ℕ). swept_count n l + k ≤ suc n) (test n (get_or (swept n l) (base + n) d)) 1 0
      (omega (arith, count_small n l)) (omega (arith, count_small n l))

  -- a place before the part, or one that was not passed yet, is as it was
  pub swept-out : (n : ℕ) (l : List A) (k : ℕ) → (k < base) ⊎ (base + n ≤ k) → get_or (swept n l) k d ≡ get_or l k d
  unfolding swept
  swept-out zero l k out = refl
  swept-out (suc n) l k out =
      let ne : k ≡ base + n → ⊥ = λ e. ⊎_elim (λ b. omega arith) (λ a. omega arith) out in
      let before = swept-out n l k (⊎_elim (λ b. inl b) (λ a. inr (omega arith)) out) in
      whichever (λ (m : List A). get_or m k d ≡ get_or l k d) (test n (get_or (swept n l) (base + n) d)) (set (swept n l) (base + n) none) (swept n l)
      (get_or-set_other (swept n l) (base + n) k none d ne ∙ before) before

  -- a place that was passed has what its test chose
  pub swept_at : (n : ℕ) (l : List A) (c : ℕ) → c < n → base + n ≤ length l
      → get_or (swept n l) (base + c) d ≡ cond (test c (get_or l (base + c) d)) none (get_or l (base + c) d)
  unfolding swept
  swept_at zero l c h room = absurd (omega arith)
  swept_at (suc n) l c h room =
      elim (ℕ_discrete c n) [
        | yes e ↦ rw e (here (test n (get_or (swept n l) (base + n) d)) refl)
        | no ne ↦ there ne (swept_at n l c (omega arith) (omega arith))
      ]
    where
      here : (b : Bool) → test n (get_or (swept n l) (base + n) d) ≡ b
          → get_or (cond b (set (swept n l) (base + n) none) (swept n l)) (base + n) d ≡ cond (test n (get_or l (base + n) d)) none (get_or l (base + n) d)
      here true e =
          get_or-set_same (swept n l) (base + n) none d (omega (arith, length-swept n l))
          ∙ rw (ap (test n) (sym (swept-out n l (base + n) (inr (omega arith)))) ∙ e)
      here false e =
          swept-out n l (base + n) (inr (omega arith)) ∙ rw (ap (test n) (sym (swept-out n l (base + n) (inr (omega arith)))) ∙ e)

      there : (c ≡ n → ⊥) → get_or (swept n l) (base + c) d ≡ cond (test c (get_or l (base + c) d)) none (get_or l (base + c) d)
          → get_or (cond (test n (get_or (swept n l) (base + n) d)) (set (swept n l) (base + n) none) (swept n l)) (base + c) d
          ≡ cond (test c (get_or l (base + c) d)) none (get_or l (base + c) d)
      there ne before =
          whichever (λ (m : List A). get_or m (base + c) d ≡ cond (test c (get_or l (base + c) d)) none (get_or l (base + c) d))
          (test n (get_or (swept n l) (base + n) d)) (set (swept n l) (base + n) none) (swept n l)
          (get_or-set_other (swept n l) (base + n) (base + c) none d (λ e. ne (omega arith)) ∙ before) before

  -- ---- a place that loses nothing: it may be stored to before the sweep as well as after it
  module _ (l : List A) (k : ℕ) (x : A) (stays : (y : A) → test k y ≡ false) where
    abbrev stored : List A
    stored = set l (base + k) x

    there : (n : ℕ) → (n ≡ k → ⊥) → swept n stored ≡ set (swept n l) (base + k) x
        → get_or (swept n stored) (base + n) d ≡ get_or (swept n l) (base + n) d
    there n ne before =
        ap (λ (m : List A). get_or m (base + n) d) before
        ∙ get_or-set_other (swept n l) (base + k) (base + n) x d (λ e. ne (omega arith))

    pub swept-stored : (n : ℕ) → swept n stored ≡ set (swept n l) (base + k) x
    unfolding swept
    swept-stored zero = refl
    swept-stored (suc n) =
        elim (ℕ_discrete n k) [
          | yes e ↦ let none-lost : (y : A) → test n y ≡ false = λ y. rw e (stays y) in
              rw (none-lost (get_or (swept n stored) (base + n) d), none-lost (get_or (swept n l) (base + n) d)) (swept-stored n)
          | no ne ↦ rw (there n ne (swept-stored n)) (turn ne (swept-stored n) (test n (get_or (swept n l) (base + n) d)))
        ]
      where
        turn : (n ≡ k → ⊥) → swept n stored ≡ set (swept n l) (base + k) x → (b : Bool)
            → cond b (set (swept n stored) (base + n) none) (swept n stored) ≡ set (cond b (set (swept n l) (base + n) none) (swept n l)) (base + k) x
        turn ne before true =
            ap (λ (m : List A). set m (base + n) none) before
            ∙ set_comm (swept n l) (base + k) (base + n) x none (λ e. ne (omega arith))
        turn ne before false = before

    pub count-stored : (n : ℕ) → swept_count n stored ≡ swept_count n l
    unfolding swept_count
    count-stored zero = refl
    count-stored (suc n) =
        elim (ℕ_discrete n k) [
          | yes e ↦ let none-lost : (y : A) → test n y ≡ false = λ y. rw e (stays y) in
              rw (none-lost (get_or (swept n stored) (base + n) d), none-lost (get_or (swept n l) (base + n) d), count-stored n)
          | no ne ↦ rw (there n ne (swept-stored n), count-stored n)
        ]

  -- ---- a row of w places, of which those past n have nothing to lose
  module _ (n w : ℕ) (l : List A) (few : n ≤ w) (room : base + w ≤ length l)
      (past : (c : ℕ) → n ≤ c → c < w → test c (get_or l (base + c) d) ≡ false) where
    abbrev row : List A
    row = slice base (base + w) l

    long : length row ≡ w
    long = length-slice base (base + w) l room ∙ omega arith

    abbrev left : ℕ → A → A
    left c x = cond (test c x) none x

    as_long : length (map_at left row) ≡ w
    as_long = length-map_at left row ∙ long

    at_row : (c : ℕ) → c < w → get_or (map_at left row) c d ≡ left c (get_or l (base + c) d)
    at_row c h = get_or-map_at left row c d d (omega (arith, long)) ∙ ap (left c) (get_or-slice base (base + w) l c d (omega arith))

    swept-in : (c : ℕ) → c < w → get_or (swept n l) (base + c) d ≡ left c (get_or l (base + c) d)
    swept-in c h =
        elim (dec_lt c n) [
          | yes i ↦ swept_at n l c i (omega arith)
          | no i ↦ swept-out n l (base + c) (inr (omega arith)) ∙ rw (past c (omega arith) h)
        ]

    pub swept-row : swept n l ≡ paste l base (map_at left row) w
    swept-row =
        let pasted = length-paste l base (map_at left row) w room (omega (arith, as_long)) in
        ext_get_or d (swept n l) (paste l base (map_at left row) w) (length-swept n l ∙ sym pasted)
        (λ k h.
        elim (dec_lt k base) [
          | yes b ↦ outside k (inl b)
          | no b ↦ elim (dec_lt k (base + w)) [
            | yes i ↦ inside (k - base) (omega arith) (omega arith)
            | no i ↦ outside k (inr (omega arith))
          ]
        ])
      where
        outside : (k : ℕ) → (k < base) ⊎ (base + w ≤ k) → get_or (swept n l) k d ≡ get_or (paste l base (map_at left row) w) k d
        outside k out =
            swept-out n l k (⊎_elim (λ b. inl b) (λ a. inr (omega arith)) out)
            ∙ sym (paste-out l base (map_at left row) w room (omega (arith, as_long)) k d out)

        inside : {k : ℕ} (c : ℕ) → base + c ≡ k → c < w → get_or (swept n l) k d ≡ get_or (paste l base (map_at left row) w) k d
        inside c e h =
            rw (← e) (swept-in c h ∙ sym (paste-in l base (map_at left row) w room (omega (arith, as_long)) c d h ∙ at_row c h))

    abbrev one : ℕ → A → ℕ
    one c x = cond (test c x) 1 0

    counts : length (map_at one row) ≡ w
    counts = length-map_at one row ∙ long

    at_count : (c : ℕ) → c < w → get_or (map_at one row) c 0 ≡ one c (get_or l (base + c) d)
    at_count c h = get_or-map_at one row c d 0 (omega (arith, long)) ∙ ap (one c) (get_or-slice base (base + w) l c d (omega arith))

    so_far : (k : ℕ) → k ≤ w → sum (map_at one row) ≡ swept_count k l + sum (drop k (map_at one row))
    unfolding swept_count
    so_far zero h = sym (zero-add (sum (map_at one row)))
    so_far (suc k) h =
        let turn = sum-turn (map_at one row) k (swept_count k l) (omega (arith, counts)) (so_far k (omega arith)) in
        rw (add-one, at_count k (omega arith), ← swept-out k l (base + k) (inr (omega arith))) at turn

    none_left : sum (drop n (map_at one row)) ≡ 0
    none_left =
        omega (arith, sum-le 0 (drop n (map_at one row)) (λ k. rw (get_or-drop n (map_at one row) k 0) (zero-there (n + k) (omega arith))))
      where
        zero-there : (c : ℕ) → n ≤ c → get_or (map_at one row) c 0 ≤ 0
        zero-there c h =
            elim (dec_lt c w) [
              | yes i ↦ rw (at_count c i, past c h i) (omega arith)
              | no i ↦ rw (get_or-eq_default (map_at one row) 0 {n = c} (omega (arith, counts))) (omega arith)
            ]

    pub swept-count : swept_count n l ≡ sum (map_at one row)
    swept-count = sym (so_far n few ∙ ap (λ (k : ℕ). swept_count n l + k) none_left ∙ add-zero (swept_count n l))

-- ---- a list swept from its start, of which the places past n have nothing to lose
module _ {A : Type 0} (test : ℕ → A → Bool) (none d : A) (n : ℕ) (l : List A) (few : n ≤ length l)
    (past : (c : ℕ) → n ≤ c → c < length l → test c (get_or l c d) ≡ false) where
  past-at : (c : ℕ) → n ≤ c → c < length l → test c (get_or l (0 + c) d) ≡ false
  past-at c h i = rw (zero-add c) (past c h i)

  all : slice 0 (0 + length l) l ≡ l
  all = take_all (0 + length l) l (omega arith)

  pub swept_all : swept test none d 0 n l ≡ map_at (λ c x. cond (test c x) none x) l
  swept_all =
      let left : ℕ → A → A = λ c x. cond (test c x) none x in
      ext_get_or d (swept test none d 0 n l) (map_at left l) (length-swept test none d 0 n l ∙ sym (length-map_at left l))
      (λ k h. at k (omega (arith, length-swept test none d 0 n l)))
    where
      at : (k : ℕ) → k < length l → get_or (swept test none d 0 n l) k d ≡ get_or (map_at (λ c x. cond (test c x) none x) l) k d
      at k h =
          ap (λ (j : ℕ). get_or (swept test none d 0 n l) j d) (sym (zero-add k))
          ∙ swept-in test none d 0 n (length l) l few (omega arith) past-at k h
          ∙ ap (λ (j : ℕ). cond (test k (get_or l j d)) none (get_or l j d)) (zero-add k)
          ∙ sym (get_or-map_at (λ c x. cond (test c x) none x) l k d d h)

  pub swept-all-count : swept_count test none d 0 n l ≡ sum (map_at (λ c x. cond (test c x) 1 0) l)
  swept-all-count =
      swept-count test none d 0 n (length l) l few (omega arith) past-at ∙ ap (λ (m : List A). sum (map_at (λ c x. cond (test c x) 1 0) m)) all
