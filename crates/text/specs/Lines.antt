-- Laws on the lines of a text, as a program reads them: what the line at a place says of the lines from there on.
-- Assumes nothing.
use Rattle.std.specs.Prelude.{◌≡◌, refl, Bool, true, false, cond, List, [], ◌∷◌, ◌++◌, ℕ, suc, ◌+◌, ◌-◌, ◌*◌, ◌≤◌, ◌<◌, leb, take, drop, replicate}
use Rattle.std.proofs.Common.{sym, ap₂, ◌∙◌, arith, length-append, drop-drop, take_at, lt-ltb, le-ltb, le-leb, eq-eqb, ne_eqb}
use Rattle.std.proofs.Math.Path.{ap}
use Rattle.std.proofs.Math.Option.{Option, none, some}
use Rattle.std.proofs.Math.Decide.{dec_le, dec_lt}
use Rattle.std.proofs.Math.ListN.{length, length-drop}
use Rattle.std.proofs.lemmas.Bool.{lt-leb}
use Rattle.text.specs.Number.{given, decimal}
use Rattle.text.specs.Line.{lf, space, before, pieces, numbers_of, line_numbers, ended_lines, lines_of, joined, spaced}
use Rattle.text.specs.Cut.{pieces-first}
use Rattle.text.specs.OneText.{decimal-long}
use Rattle.text.specs.OneLine.{read-line}
use Rattle.text.specs.Reading.{as_numbers, no_numbers, followed, line_at}
use Rattle.text.specs.Row.{line-open, line-here}
use Rattle.text.specs.Script.{first, others, having}
pub mod Front

-- ---- the lines of a text, by its first LF
lines_none : (m : List ℕ) → length m ≡ 0 → lines_of m ≡ []
unfolding lines_of ended_lines pieces
lines_none [] e = refl
lines_none (x ∷ xs) e = absurd (omega arith)

lines-open : (m : List ℕ) → 0 < length m → length m ≤ length (before lf m) → lines_of m ≡ none ∷ []
unfolding lines_of ended_lines
lines-open m h k = rw (pieces-first lf m, le-ltb (length (before lf m)) (length m) k, ne_eqb (length (before lf m)) 0 (λ e. omega arith))

lines_more : (m : List ℕ) → length (before lf m) < length m
    → lines_of m ≡ line_numbers (before lf m) ∷ lines_of (drop (suc (length (before lf m))) m)
unfolding lines_of ended_lines
lines_more m h =
    rw (pieces-first lf m, lt-ltb (length (before lf m)) (length m) h, pieces-first lf (drop (suc (length (before lf m))) m))

-- ---- how long a line of k numbers is at least: a digit and a byte behind it for each
spaced-long : (n : ℕ) (ns : List ℕ) → 2 * length (n ∷ ns) ≤ length (spaced (n ∷ ns)) + 1
unfolding spaced joined
spaced-long n [] = omega (arith, decimal-long n)
spaced-long n (m ∷ ms) = omega (arith, decimal-long n, spaced-long m ms, length-append (decimal n) (space ∷ spaced (m ∷ ms)))

short : (l ns : List ℕ) → line_numbers l ≡ some ns → numbers_of l ≡ some ns
unfolding line_numbers
short l ns = go (leb (length l) 400)
  where
    go : (d : Bool) → cond d (numbers_of l) none ≡ some ns → numbers_of l ≡ some ns
    go true e = e
    go false e = cc

long : (l ns : List ℕ) → line_numbers l ≡ some ns → 2 * length ns ≤ length l + 1
long l [] e = omega arith
long l (n ∷ ns) e = omega (arith, spaced-long n ns, ap length (read-line l (n ∷ ns) (short l (n ∷ ns) e)).0)

-- ---- what a count of numbers says of the numbers
read_some : (o : Option (List ℕ)) (k : ℕ) → 0 < k → (as_numbers o).count ≡ k
    → (o ≡ some (take k (as_numbers o).n))
    × (length (take k (as_numbers o).n) ≡ k)
    × (take k (as_numbers o).n ++ replicate (32 - k) 0 ≡ (as_numbers o).n)
unfolding as_numbers no_numbers
read_some none k h e = absurd (omega arith)
read_some (some ns) k h e =
    elim (dec_le (length ns) 32) [
      | yes few ↦
          (let t = le-leb (length ns) 32 few in
          let f : length ns ≡ k = rw t at e in
          let front = take_at ns (replicate (32 - length ns) 0) k f in
          rw t (ap some (sym front), ap length front ∙ f, ap₂ (λ (l : List ℕ) (j : ℕ). l ++ replicate (32 - j) 0) front (sym f)))
      | no many ↦ (let z : 0 ≡ k = rw (lt-leb (length ns) 32 (omega arith)) at e in absurd (omega arith))
    ]

read-other : (o : Option (List ℕ)) (k : ℕ) → k ≤ 32 → ((as_numbers o).count ≡ k → ⊥) → having k o ≡ none
unfolding as_numbers having given
read-other none k h ne = refl
read-other (some ns) k h ne = rw (ne_eqb (length ns) k (λ e. ne (rw (le-leb (length ns) 32 (omega arith)) e)))

-- ---- the line at a place
module _ (s : List ℕ) (at : ℕ) where
  abbrev line : List ℕ
  line = before lf (drop at s)

  -- what it has if an LF ends it
  lines-here : at + length line < length s → lines_of (drop at s) ≡ line_numbers line ∷ lines_of (drop (at + length line + 1) s)
  lines-here h =
      lines_more (drop at s) (omega (arith, length-drop at s))
      ∙ (let e : at + length line + 1 ≡ at + suc (length line) = omega arith in rw (e, drop-drop (suc (length line)) at s))

  pub lines_end : length s ≤ at → lines_of (drop at s) ≡ []
  lines_end h = lines_none (drop at s) (omega (arith, length-drop at s))

  pub lines-some : at < length s → lines_of (drop at s) ≡ first (lines_of (drop at s)) ∷ others (lines_of (drop at s))
  unfolding first others
  lines-some h =
      elim (dec_lt (at + length line) (length s)) [
        | yes ends ↦ rw (lines-here ends)
        | no endless ↦ rw (lines-open (drop at s) (omega (arith, length-drop at s)) (omega (arith, length-drop at s)))
      ]

  -- as many numbers as are wanted: the lines are this one and those from the next place on
  pub record Read (k : ℕ) : Type 0 where
    pub lines : lines_of (drop at s) ≡ some (take k (line_at s at).n) ∷ lines_of (drop (line_at s at).next s)
    pub many : length (take k (line_at s at).n) ≡ k
    pub padded : take k (line_at s at).n ++ replicate (32 - k) 0 ≡ (line_at s at).n
    pub after : at + 2 * k ≤ (line_at s at).next
    pub inside : (line_at s at).next ≤ length s

  read_here : (k : ℕ) → 0 < k → (line_at s at).count ≡ k → at + length line < length s → Read k
  unfolding followed
  read_here k h e ends =
      let q = line-here s at ends in
      let r = read_some (line_numbers line) k h (rw q at e) in
      record {
        lines = rw q (lines-here ends ∙ ap (λ (m : Option (List ℕ)). m ∷ lines_of (drop (at + length line + 1) s)) r.0);
        many = rw q r.1;
        padded = rw q r.2;
        after = rw q (omega (arith, long line (take k (as_numbers (line_numbers line)).n) r.0, r.1));
        inside = rw q (omega arith);
      }

  pub line_read : (k : ℕ) → 0 < k → (line_at s at).count ≡ k → Read k
  unfolding followed no_numbers
  line_read k h e =
      elim (dec_lt (at + length line) (length s)) [
        | yes ends ↦ read_here k h e ends
        | no endless ↦ (let z : 0 ≡ k = rw (line-open s at (omega arith)) at e in absurd (omega arith))
      ]

  module _ {k : ℕ} (r : Read k) where
    pub read_has : having k (some (take k (line_at s at).n)) ≡ some (take k (line_at s at).n)
    unfolding having given
    read_has = rw (eq-eqb (length (take k (line_at s at).n)) k r.many)

    pub read_first : having k (first (lines_of (drop at s))) ≡ some (take k (line_at s at).n)
    unfolding first
    read_first = rw r.lines read_has

    pub read-others : others (lines_of (drop at s)) ≡ lines_of (drop (line_at s at).next s)
    unfolding others
    read-others = rw r.lines

  -- another count, or no line: it is malformed where k numbers are wanted
  pub line_other : (k : ℕ) → k ≤ 32 → ((line_at s at).count ≡ k → ⊥) → having k (first (lines_of (drop at s))) ≡ none
  unfolding followed first having
  line_other k h ne =
      elim (dec_lt (at + length line) (length s)) [
        | yes ends ↦ rw (lines-here ends) (read-other (line_numbers line) k h (λ e. ne (rw (line-here s at ends) e)))
        | no endless ↦ elim (dec_lt at (length s)) [
          | yes more ↦ rw (lines-open (drop at s) (omega (arith, length-drop at s)) (omega (arith, length-drop at s)))
          | no end ↦ rw (lines_end (omega arith))
        ]
      ]
