-- A part of a list: `slice f t l` takes the places from f up to t out, and `paste l at s n` puts n places of s in at `at` (both of lib.Seq).
-- What stands at each place afterwards, and that the one undoes the other.
-- Assumes nothing.
use Rattle.std.specs.Prelude.{◌≡◌, ◌⊎◌, List, ◌++◌, ℕ, ◌+◌, ◌-◌, ◌<◌, ◌≤◌, length, get_or, set, take, drop}
use Rattle.std.proofs.Common.{sym, ap, subst, ◌∙◌, inl, inr, ⊎_elim, arith, length-set, take-append-drop, get_or-set_same, get_or-set_other, get_or-take, get_or-drop, get_or-append-add, drop_at, length-take-le, take_all, take-take, ext_get_or}
use Rattle.std.proofs.Math.Decide.{dec_lt, ℕ_discrete}
use Rattle.std.proofs.Math.ListN.{get_or-append}
use Rattle.std.proofs.Math.Seq.{slice, paste, length-slice, length_paste_head}
use Rattle.std.proofs.lemmas.List.Edits.{length-paste, take-paste}

module _ {A : Type 0} where
  pub get_or-slice : (f t : ℕ) (l : List A) (k : ℕ) (d : A) → f + k < t → get_or (slice f t l) k d ≡ get_or l (f + k) d
  get_or-slice f t l k d h = rw (get_or-drop f (take t l) k d, get_or-take t l (f + k) d h)

  -- a place of the second list, past a first one of n places
  past : (p q : List A) (n k : ℕ) (d : A) → length p ≡ n → get_or (p ++ q) (n + k) d ≡ get_or q k d
  past p q n k d e = rw (← e) (get_or-append-add p q k d)

  module _ (l : List A) (at : ℕ) (s : List A) (n : ℕ) (room : at + n ≤ length l) (have : n ≤ length s) where
    head : length (take at l ++ take n s) ≡ at + n
    head = length_paste_head l at s n (omega arith) have

    front : length (take at l) ≡ at
    front = length-take-le at l (omega arith)

    -- a place in the part, and one outside it
    pub paste-in : (k : ℕ) (d : A) → k < n → get_or (paste l at s n) (at + k) d ≡ get_or s k d
    paste-in k d h =
        get_or-append (take at l ++ take n s) (drop (at + n) l) d (at + k) (omega (arith, head))
        ∙ past (take at l) (take n s) at k d front
        ∙ get_or-take n s k d h

    pub paste-out : (k : ℕ) (d : A) → (k < at) ⊎ (at + n ≤ k) → get_or (paste l at s n) k d ≡ get_or l k d
    paste-out k d =
        ⊎_elim
        (λ h.
        get_or-append (take at l ++ take n s) (drop (at + n) l) d k (omega (arith, head))
        ∙ get_or-append (take at l) (take n s) d k (omega (arith, front))
        ∙ get_or-take at l k d h)
        (λ h.
        let e : at + n + (k - (at + n)) ≡ k = omega arith in
        subst (λ (j : ℕ). get_or (paste l at s n) j d ≡ get_or l j d) e
        (past (take at l ++ take n s) (drop (at + n) l) (at + n) (k - (at + n)) d head ∙ get_or-drop (at + n) l (k - (at + n)) d))

    -- what was put in is taken out again
    pub slice-paste : slice at (at + n) (paste l at s n) ≡ take n s
    slice-paste = ap (drop at) (take-paste l at s n (omega arith) have) ∙ drop_at (take at l) (take n s) at front

    -- and a part that does not meet it is as it was
    pub slice-apart : (f t : ℕ) (d : A) → t ≤ length l → (t ≤ at) ⊎ (at + n ≤ f) → slice f t (paste l at s n) ≡ slice f t l
    slice-apart f t d h apart =
        ext_get_or d (slice f t (paste l at s n)) (slice f t l) (long ∙ sym (length-slice f t l h))
        (λ k i.
        let j : f + k < t = omega (arith, long) in
        get_or-slice f t (paste l at s n) k d j
        ∙ paste-out (f + k) d (⊎_elim (λ b. inl (omega arith)) (λ a. inr (omega arith)) apart)
        ∙ sym (get_or-slice f t l k d j))
      where
        long : length (slice f t (paste l at s n)) ≡ t - f
        long = length-slice f t (paste l at s n) (omega (arith, length-paste l at s n room have))

  -- a part that is put back where it was taken out
  pub paste-slice : (l : List A) (at n : ℕ) → at + n ≤ length l → paste l at (slice at (at + n) l) n ≡ l
  paste-slice l at n room =
      ap (λ (x : List A). take at l ++ x ++ drop (at + n) l) (take_all n (slice at (at + n) l) (omega (arith, length-slice at (at + n) l room)))
      ∙ ap (λ (x : List A). x ++ slice at (at + n) l ++ drop (at + n) l) (sym (take-take at (at + n) l (omega arith)))
      ∙ ap (λ (x : List A). x ++ drop (at + n) l) (take-append-drop at (take (at + n) l))
      ∙ take-append-drop (at + n) l

  -- a part put in over another at the same place
  pub paste-paste : (l : List A) (at : ℕ) (s r : List A) (n : ℕ) (d : A) → at + n ≤ length l → n ≤ length s → n ≤ length r
      → paste (paste l at s n) at r n ≡ paste l at r n
  paste-paste l at s r n d room have-s have-r =
      ext_get_or d (paste (paste l at s n) at r n) (paste l at r n) (twice ∙ sym (length-paste l at r n room have-r))
      (λ k h.
      elim (dec_lt k at) [
        | yes b ↦ outside k (inl b)
        | no b ↦ elim (dec_lt k (at + n)) [
          | yes i ↦ inside (k - at) (omega arith) (omega arith)
          | no i ↦ outside k (inr (omega arith))
        ]
      ])
    where
      once : length (paste l at s n) ≡ length l
      once = length-paste l at s n room have-s

      twice : length (paste (paste l at s n) at r n) ≡ length l
      twice = length-paste (paste l at s n) at r n (omega (arith, once)) have-r ∙ once

      outside : (k : ℕ) → (k < at) ⊎ (at + n ≤ k) → get_or (paste (paste l at s n) at r n) k d ≡ get_or (paste l at r n) k d
      outside k out =
          paste-out (paste l at s n) at r n (omega (arith, once)) have-r k d out
          ∙ paste-out l at s n room have-s k d out
          ∙ sym (paste-out l at r n room have-r k d out)

      inside : {k : ℕ} (c : ℕ) → at + c ≡ k → c < n → get_or (paste (paste l at s n) at r n) k d ≡ get_or (paste l at r n) k d
      inside c e h =
          rw (← e) (paste-in (paste l at s n) at r n (omega (arith, once)) have-r c d h ∙ sym (paste-in l at r n room have-r c d h))

  -- one place of a part is replaced where it lies
  pub set-in-part : (l : List A) (at n c : ℕ) (x d : A) → at + n ≤ length l → c < n
      → set l (at + c) x ≡ paste l at (set (slice at (at + n) l) c x) n
  set-in-part l at n c x d room h =
      ext_get_or d (set l (at + c) x) (paste l at part n)
      (length-set l (at + c) x ∙ sym (length-paste l at part n room (omega (arith, long))))
      (λ k i.
      elim (dec_lt k at) [
        | yes b ↦ outside k (inl b)
        | no b ↦ elim (dec_lt k (at + n)) [
          | yes j ↦ inside (k - at) (omega arith) (omega arith)
          | no j ↦ outside k (inr (omega arith))
        ]
      ])
    where
      part : List A
      part = set (slice at (at + n) l) c x

      long : length part ≡ n
      long = length-set (slice at (at + n) l) c x ∙ length-slice at (at + n) l room ∙ omega arith

      outside : (k : ℕ) → (k < at) ⊎ (at + n ≤ k) → get_or (set l (at + c) x) k d ≡ get_or (paste l at part n) k d
      outside k out =
          get_or-set_other l (at + c) k x d (λ e. ⊎_elim (λ b. omega arith) (λ a. omega arith) out)
          ∙ sym (paste-out l at part n room (omega (arith, long)) k d out)

      inside : {k : ℕ} (j : ℕ) → at + j ≡ k → j < n → get_or (set l (at + c) x) k d ≡ get_or (paste l at part n) k d
      inside j e i = rw (← e) (same j i ∙ sym (paste-in l at part n room (omega (arith, long)) j d i))
        where
          same : (j : ℕ) → j < n → get_or (set l (at + c) x) (at + j) d ≡ get_or part j d
          same j i =
              elim (ℕ_discrete j c) [
                | yes q ↦ rw (q, get_or-set_same l (at + c) x d (omega arith))
                    (sym (get_or-set_same (slice at (at + n) l) c x d (omega (arith, length-set (slice at (at + n) l) c x, long))))
                | no q ↦ get_or-set_other l (at + c) (at + j) x d (λ e. q (omega arith))
                    ∙ sym (get_or-set_other (slice at (at + n) l) c j x d q ∙ get_or-slice at (at + n) l j d (omega arith))
              ]

-- what stands at a place put there again; and put there twice
pub set_same : {A : Type 0} (l : List A) (k : ℕ) (d : A) → k < length l → set l k (get_or l k d) ≡ l
set_same l k d h =
    ext_get_or d (set l k (get_or l k d)) l (length-set l k (get_or l k d))
    (λ j i.
    elim (ℕ_discrete j k) [
      | yes e ↦ rw (e, get_or-set_same l k (get_or l k d) d h)
      | no ne ↦ get_or-set_other l k j (get_or l k d) d ne
    ])

pub set_twice : {A : Type 0} (l : List A) (k : ℕ) (x y d : A) → k < length l → set (set l k x) k y ≡ set l k y
set_twice l k x y d h =
    ext_get_or d (set (set l k x) k y) (set l k y) (length-set (set l k x) k y ∙ length-set l k x ∙ sym (length-set l k y))
    (λ j i.
    elim (ℕ_discrete j k) [
      | yes e ↦ rw (e, get_or-set_same (set l k x) k y d (omega (arith, length-set l k x)), get_or-set_same l k y d h)
      | no ne ↦ get_or-set_other (set l k x) k j y d ne ∙ get_or-set_other l k j x d ne ∙ sym (get_or-set_other l k j y d ne)
    ])
