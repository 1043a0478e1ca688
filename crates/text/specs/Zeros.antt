-- An array of numbers of which the first stand: zeros stand behind them, so that the numbers give the array back.
-- Assumes nothing.
use Rattle.std.specs.Prelude.{◌≡◌, List, ℕ, ◌+◌, ◌-◌, ◌≤◌, ◌<◌, ◌++◌, length, take, drop, replicate, set}
use Rattle.std.proofs.Common.{sym, ap, ◌∙◌, arith, length-take-le, drop-drop}
use Rattle.std.proofs.lemmas.List.{take-append-drop, length-set, drop-set-lt, drop-replicate}

pub record Behind (count : ℕ) (n : List ℕ) : Type 0 where
  pub most : count ≤ 32
  pub long : length n ≡ 32
  pub zeros : drop count n ≡ replicate (32 - count) 0

abbrev pub padded : List ℕ → List ℕ
padded ns = ns ++ replicate (32 - length ns) 0

pub taken : (count : ℕ) (n : List ℕ) → Behind count n → length (take count n) ≡ count
taken count n b = length-take-le count n (omega (arith, b.most, b.long))

pub padded-back : (count : ℕ) (n : List ℕ) → Behind count n → padded (take count n) ≡ n
padded-back count n b =
    ap (λ k. take count n ++ replicate (32 - k) 0) (taken count n b) ∙ ap (λ z. take count n ++ z) (sym b.zeros) ∙ take-append-drop count n

pub one-more : (count : ℕ) (n : List ℕ) (x : ℕ) → count < 32 → Behind count n → Behind (count + 1) (set n count x)
one-more count n x room b = record {
  most = omega arith;
  long = length-set n count x ∙ b.long;
  zeros =
      drop-set-lt (count + 1) n count x (omega arith) ∙ sym (drop-drop 1 count n) ∙ ap (drop 1) b.zeros ∙ drop-replicate 1 (32 - count) 0
      ∙ ap (λ k. replicate k 0) (omega arith);
}
