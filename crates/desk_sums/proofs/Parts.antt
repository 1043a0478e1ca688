-- A row's sum in two parts, as the code walks over it: each part is a list of its own.
-- Assumes nothing.
use Rattle.std.proofs.Common.{◌≡◌, refl, ap, ◌∙◌, List, ℕ, suc, zero, ◌+◌, ◌-◌, ◌≤◌, ◌<◌, length, take, drop, get_or-take, get_or-drop, length-drop, length-take-le, zero-add, arith}
use Rattle.desk.specs.declared.Cell.{Cell}
use Rattle.desk.specs.declared.Place.{Place}
use Rattle.desk.specs.Desk.{past_cell, cell_at, kept_by}
use Rattle.theory_lists.specs.Turns.{turns, between}
use Rattle.desk_sums.specs.declared.Sum.{Sum}
use Rattle.desk_sums.specs.Rows.{used_sum, past_sum, row_sum}
use Rattle.desk_sums.specs.Sums.{add_kept, rest_of}

-- steps that agree at each place passed
pub turns_same : {S : Type 0} (f g : S → ℕ → S) (s : S) (n : ℕ) → ((t : S) (k : ℕ) → k < n → f t k ≡ g t k) → turns f s n ≡ turns g s n
unfolding turns
turns_same f g s zero p = refl
turns_same f g s (suc n) p = ap (λ t. f t n) (turns_same f g s n (λ t k h. p t k (omega arith))) ∙ p (turns g s n) n (omega arith)

-- cells that agree
pub row_same : (place : ℕ → Place) (a b : ℕ → Cell) (d n : ℕ) (s : Sum) → n ≤ 32 → ((c : ℕ) → c < 32 → a c ≡ b c)
    → row_sum place a d n s ≡ row_sum place b d n s
unfolding used_sum past_sum between
row_same place a b d n s most same =
    turns_same (λ u k. rest_of u (a (n + k))) (λ u k. rest_of u (b (n + k))) _ (32 - n) (λ u k h. ap (rest_of u) (same (n + k) (omega arith)))
    ∙ ap (λ v. turns (λ u k. rest_of u (b (n + k))) v (32 - n))
    (turns_same (λ u k. add_kept u (kept_by (place k) d) (a k)) (λ u k. add_kept u (kept_by (place k) d) (b k)) s n
    (λ u k h. ap (add_kept u (kept_by (place k) d)) (same k (omega arith))))

module _ (place : ℕ → Place) (row front back : List Cell) (d n : ℕ) (s : Sum) (most : n ≤ 32) (long : length row ≡ 32)
    (is-front : front ≡ take n row) (is-back : back ≡ drop n row) where
  front-long : length front ≡ n
  front-long = ap length is-front ∙ length-take-le n row (omega (arith, long))

  back-long : length back ≡ 32 - n
  back-long = ap length is-back ∙ length-drop n row ∙ ap (λ k. k - n) long

  whole : past_sum (cell_at back) 0 (used_sum place (cell_at front) d s (length front)) (length back) ≡ row_sum place (cell_at row) d n s
  unfolding used_sum past_sum between
  whole =
      let all : 32 - n - 0 ≡ 32 - n = omega arith in
      rw (front-long, back-long, all)
      (turns_same (λ u k. rest_of u (cell_at back (0 + k))) (λ u k. rest_of u (cell_at row (n + k))) _ (32 - n)
      (λ u k h. ap (rest_of u) (rw (zero-add k, is-back) (get_or-drop n row k past_cell)))
      ∙ ap (λ v. turns (λ u k. rest_of u (cell_at row (n + k))) v (32 - n))
      (turns_same (λ u k. add_kept u (kept_by (place k) d) (cell_at front k)) (λ u k. add_kept u (kept_by (place k) d) (cell_at row k)) s n
      (λ u k h. ap (add_kept u (kept_by (place k) d)) (rw is-front (get_or-take n row k past_cell h)))))

  pub parts : (u v : Sum) → u ≡ used_sum place (cell_at front) d s (length front) → v ≡ past_sum (cell_at back) 0 u (length back)
      → v ≡ row_sum place (cell_at row) d n s
  parts u v is-u is-v = is-v ∙ rw is-u whole
