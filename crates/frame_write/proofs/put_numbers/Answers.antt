-- The word, and after it the clock.
use Rattle.std.proofs.Common.{rules, refl, zero, [], replicate, ◌≡◌, ℕ, suc, List, ◌∷◌, ◌++◌, ◌+◌, ◌*◌, ◌≤◌, length, take, drop, ap, ap₂, ◌∙◌, append_assoc, arith, length-append}
use Rattle.std.proofs.Math.Seq.{length-take-le}
use Rattle.spelling.specs.Bytes.{bytes, spell, length-bytes, put, put_next}
use Rattle.frame.specs.Frame.{widths}
use Rattle.frame_write.proofs.put_numbers.Goals as goal

-- the word put in, and d numbers after it: suc d numbers put in
joined : (l n : List ℕ) (word c d : ℕ) → suc d ≡ c → 11 ≤ length l
    → put 11 (spell (take d (drop 7 widths)) n) (4 * d) (put 7 (bytes 4 word) 4 l) ≡ put 7 (spell (take c (drop 6 widths))
    (word ∷ n)) (4 * c) l
unfolding spell
joined l n word c d e room =
    put_next l (take 7 l ++ bytes 4 word) (spell (take d (drop 7 widths)) n) 11 (4 * d)
    (length-append (take 7 l) (bytes 4 word) ∙ omega (arith, length-take-le 7 l (omega arith), length-bytes 4 word))
    ∙ ap (λ (x : List ℕ). x ++ drop (11 + 4 * d) l) (append_assoc (take 7 l) (bytes 4 word) (spell (take d (drop 7 widths)) n))
    ∙ ap₂ (λ (x y : ℕ). take 7 l ++ spell (take x (drop 6 widths)) (word ∷ n) ++ drop y l) e end
  where
    end : 11 + 4 * d ≡ 7 + 4 * c
    end = omega arith

-- the first n of k numbers, four bytes each
first : (n k : ℕ) (ns : List ℕ) → n ≤ k → n ≤ length ns → spell (replicate (length (take n ns)) 4) (take n ns) ≡ spell (take n (replicate k 4)) ns
unfolding spell
first zero k ns h i = refl
first (suc n) zero ns h i = absurd (omega arith)
first (suc n) (suc k) [] h i = absurd (omega arith)
first (suc n) (suc k) (x ∷ ns) h i = ap (λ (l : List ℕ). bytes 4 x ++ l) (first n k ns (omega arith) (omega arith))

pub returns : goal.returns
returns c =
    let a = c.args in
    let ns = a.clock.now.n in
    let long : length ns ≡ 8 = search rules in
    let room : 11 ≤ length a.out.now = omega arith in
    c.put_fours.ensures
    ∙ ap₂ (λ (bs : List ℕ) (k : ℕ). put 11 bs (4 * k) c.put.new.out) (first _ 8 ns (omega arith) (omega arith))
    (length-take-le _ ns (omega arith))
    ∙ ap (put 11 (spell (take _ (drop 7 widths)) ns) (4 * _)) c.put.ensures
    ∙ joined a.out.now ns a.word (1 + a.n) _ (omega arith) room
