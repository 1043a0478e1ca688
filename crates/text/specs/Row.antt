-- Laws on a line's numbers, one behind another as a loop reads them.
-- Assumes nothing.
use Rattle.std.specs.Prelude.{◌≡◌, length, drop}
use Rattle.std.proofs.Math.Path.{refl}
use Rattle.std.proofs.Common.{sym, ap, ◌∙◌, add-one, arith, drop-cons, drop-drop, drop-set-lt, take-suc-set}
use mathlib.Core.List.{List, [], ◌∷◌, ◌++◌, append_assoc}
use Rattle.std.proofs.Math.Option.{Option, none, some}
use Prim.Native.Nat.{ℕ, suc, ◌+◌, ◌-◌, ◌≤◌, ◌<◌}
use Rattle.std.proofs.Math.ListN.{take, set, replicate, length-append, length-drop}
use Rattle.std.proofs.Math.Seq.{set_split, length-take-le, append_snoc}
use borrow.Author.Tests.{lt-ltb, le-ltb, le-leb, lt-leb}
use Rattle.text.specs.Number.{given, number_of}
use Rattle.text.specs.Line.{space, lf, before, with_first, all_numbers, numbers_of, line_numbers, first_line}
use Rattle.text.specs.Cut.{pieces-first}
use Rattle.text.specs.Reading.{as_number, as_numbers, no_numbers, followed, line_found, line_at}
use Rattle.text.specs.Shapes.{Is, No}

unfoldable pub behind : List ℕ → Option (List ℕ) → Option (List ℕ)
behind front none = none
behind front (some ns) = some (front ++ ns)

pub behind-nothing : (o : Option (List ℕ)) → o ≡ behind [] o
unfolding behind
behind-nothing none = refl
behind-nothing (some ns) = refl

behind-behind : (f g : List ℕ) (o : Option (List ℕ)) → behind f (behind g o) ≡ behind (f ++ g) o
unfolding behind
behind-behind f g none = refl
behind-behind f g (some ns) = ap some (sym (append_assoc f g ns))

-- ---- what a number that was found says of it
pub found-is : (o : Option ℕ) (v : ℕ) → as_number o ≡ Is v → o ≡ some v
unfolding as_number
found-is none v e = cc
found-is (some n) v e = cc

pub found-no : (o : Option ℕ) → as_number o ≡ No → o ≡ none
unfolding as_number
found-no none e = refl
found-no (some n) e = cc

-- ---- the first number, and the rest
pub numbers-none : (m : List ℕ) → number_of (before space m) ≡ none → numbers_of m ≡ none
unfolding numbers_of all_numbers with_first
numbers-none m e = rw (pieces-first space m, e)

numbers-last : (m : List ℕ) (v : ℕ) → number_of (before space m) ≡ some v → length m ≤ length (before space m) → numbers_of m ≡ some (v ∷ [])
unfolding numbers_of all_numbers with_first
numbers-last m v e h = rw (pieces-first space m, e, le-ltb _ _ h)

numbers_more : (m : List ℕ) (v : ℕ) → number_of (before space m) ≡ some v → length (before space m) < length m
    → numbers_of m ≡ behind (v ∷ []) (numbers_of (drop (suc (length (before space m))) m))
unfolding numbers_of all_numbers with_first behind
numbers_more m v e h = rw (pieces-first space m, e, lt-ltb _ _ h) (joined (numbers_of (drop (suc (length (before space m))) m)))
  where
    joined : (o : Option (List ℕ)) → with_first (some v) o ≡ behind (v ∷ []) o
    joined none = refl
    joined (some ns) = refl

numbers-some : (m ns : List ℕ) → numbers_of m ≡ some ns → 0 < length ns
unfolding numbers_of all_numbers with_first
numbers-some m ns e = go (number_of (before space m)) _ ns (rw (pieces-first space m) at e)
  where
    go : (o : Option ℕ) (os : Option (List ℕ)) (ns : List ℕ) → with_first o os ≡ some ns → 0 < length ns
    go none os ns e = let z : ◌≡◌ {A = ℕ} 0 1 = cc in omega arith
    go (some n) none ns e = let z : ◌≡◌ {A = ℕ} 0 1 = cc in omega arith
    go (some n) (some os) ns e = let f : (n ∷ os) ≡ ns = cc in omega (arith, ap length f)

-- ---- a line of 400 bytes, and a longer one
pub line-short : (l : List ℕ) → length l ≤ 400 → line_numbers l ≡ numbers_of l
unfolding line_numbers
line-short l h = rw (le-leb (length l) 400 h)

pub line-far : (l : List ℕ) → 400 < length l → line_numbers l ≡ none
unfolding line_numbers
line-far l h = rw (lt-leb (length l) 400 h)

-- ---- as a loop over places finds them: k numbers stand at the start of n, zeros behind them, and the rest of the line from `from` on
module _ (l n : List ℕ) (from k : ℕ) (full : length n ≡ 32) (so_far : numbers_of l ≡ behind (take k n) (numbers_of (drop from l))) where
  abbrev here : List ℕ
  here = drop from l

  pub row-none : number_of (before space here) ≡ none → numbers_of l ≡ none
  unfolding behind
  row-none e = so_far ∙ rw (numbers-none here e)

  module _ (v : ℕ) (inside : k < 32) (is : number_of (before space here) ≡ some v) where
    pub row-turn : from + length (before space here) < length l
        → numbers_of l ≡ behind (take (k + 1) (set n k v)) (numbers_of (drop (from + length (before space here) + 1) l))
    row-turn h =
        so_far
        ∙ ap (behind (take k n)) (numbers_more here v is (omega (arith, length-drop from l)))
        ∙ behind-behind (take k n) (v ∷ []) (numbers_of (drop (suc (length (before space here))) here))
        ∙ (let e : from + length (before space here) + 1 ≡ from + suc (length (before space here)) = omega arith in
        rw (e, add-one k, take-suc-set n k v (omega arith), drop-drop (suc (length (before space here))) from l))

    module _ (zeros : drop k n ≡ replicate (32 - k) 0) where
      zeros-behind : drop (suc k) n ≡ replicate (32 - suc k) 0
      zeros-behind = let e : 32 - k ≡ suc (32 - suc k) = omega arith in cc (drop-cons n k 0 (omega arith), rw e at zeros)

      pub row-zeros : drop (k + 1) (set n k v) ≡ replicate (32 - (k + 1)) 0
      row-zeros = rw (add-one k) (drop-set-lt (suc k) n k v (omega arith) ∙ zeros-behind)

      long : length (take k n ++ v ∷ []) ≡ k + 1
      long = length-append (take k n) (v ∷ []) ∙ ap (λ (x : ℕ). x + 1) (length-take-le k n (omega arith))

      pub row_last : length l ≤ from + length (before space here) → record { count = k + 1; n = set n k v } ≡ as_numbers (numbers_of l)
      unfolding behind as_numbers
      row_last h =
          rw (so_far, numbers-last here v is (omega (arith, length-drop from l)), long, le-leb (k + 1) 32 (omega arith))
          (λ i. record { count = k + 1; n = row i })
        where
          row : set n k v ≡ take k n ++ v ∷ [] ++ replicate (32 - (k + 1)) 0
          row = set_split n k v (omega arith) ∙ rw (add-one k, zeros-behind, append_snoc (take k n) v (replicate (32 - suc k) 0))

  pub row-over : 32 ≤ k → k ≤ 32 → no_numbers ≡ as_numbers (numbers_of l)
  unfolding behind as_numbers
  row-over h h' = rw so_far (go (numbers_of here) refl)
    where
      go : (o : Option (List ℕ)) → numbers_of here ≡ o → no_numbers ≡ as_numbers (behind (take k n) o)
      go none e = refl
      go (some ns) e =
          rw
          (lt-leb (length (take k n ++ ns)) 32
          (omega (arith, length-append (take k n) ns, length-take-le k n (omega arith), numbers-some here ns e)))

-- ---- the line at a place
module _ (s : List ℕ) (at : ℕ) where
  abbrev line : List ℕ
  line = before lf (drop at s)

  -- no LF ends it
  pub line-open : length s ≤ at + length line → line_at s at ≡ followed no_numbers 0
  unfolding line_at line_found first_line given
  line-open h = rw (le-ltb (length line) (length (drop at s)) (omega (arith, length-drop at s)))

  pub line-here : at + length line < length s → line_at s at ≡ followed (as_numbers (line_numbers line)) (at + length line + 1)
  unfolding line_at line_found first_line given
  line-here h = rw (lt-ltb (length line) (length (drop at s)) (omega (arith, length-drop at s)))
