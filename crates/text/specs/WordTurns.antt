-- Laws on a line's numbers, word by word as a loop reads them.
-- Assumes nothing.
use Rattle.std.specs.Prelude.{◌≡◌, refl, Bool, true, false, cond, List, [], ◌∷◌, ◌++◌, ℕ, suc, ◌+◌, ◌≤◌, ◌<◌, eqb, length, get_or, drop}
use Rattle.std.proofs.Common.{Some, None, sym, ap, ◌∙◌, append_assoc, append-nil, add-one, drop-cons, arith, length-append, le-leb}
use Rattle.std.specs.Prelude.{Option as Found}
use Rattle.std.proofs.Math.Option.{Option, none, some}
use Rattle.std.proofs.lemmas.Bool.{lt-leb}
use Rattle.std.specs.List.{slice_split, onto_first}
use Rattle.text.specs.Number.{given, number_of}
use Rattle.text.specs.Line.{space, on_first, pieces, before, with_first, all_numbers, numbers_of}
use Rattle.text.specs.Cut.{pieces-first}
use Rattle.text.specs.Row.{behind, behind-nothing}
use Rattle.text.specs.Front.{as_option, few}

-- ---- an option as the code has it
pub option-some : {A : Type 0} (o : Option A) (a : A) → as_option o ≡ Some a → o ≡ some a
unfolding as_option
option-some none a e = cc
option-some (some b) a e = cc

pub option-none : {A : Type 0} (o : Option A) → as_option o ≡ None → o ≡ none
unfolding as_option
option-none none e = refl
option-none (some b) e = cc

pub is-none : {A : Type 0} {o : Option A} {r : Found A} → o ≡ none → r ≡ None → r ≡ as_option o
unfolding as_option
is-none e f = rw (e, f) refl

pub is-some : {A : Type 0} {o : Option A} (a : A) → o ≡ some a → Some a ≡ as_option o
unfolding as_option
is-some a e = rw e refl

-- ---- the words of a line
pieces-split : (b : ℕ) (l : List ℕ) → pieces b l ≡ slice_split (λ x. eqb x b) l
unfolding pieces on_first
pieces-split b [] = refl
pieces-split b (x ∷ xs) = go (eqb x b) (before b xs) _ (pieces b xs) (slice_split (λ y. eqb y b) xs) (pieces-first b xs) (pieces-split b xs)
  where
    go : (d : Bool) (w : List ℕ) (ws ps qs : List (List ℕ)) → ps ≡ w ∷ ws → ps ≡ qs
        → cond d ([] ∷ ps) (on_first x ps) ≡ cond d ([] ∷ qs) (onto_first x qs)
    go true w ws ps qs e f = ap (λ (l : List (List ℕ)). [] ∷ l) f
    go false w ws ps qs e f = rw (sym f, e) refl

abbrev pub words : List ℕ → List (List ℕ)
words l = slice_split (λ x. eqb x space) l

numbers-words : (l : List ℕ) → numbers_of l ≡ all_numbers (words l)
unfolding numbers_of
numbers-words l = ap all_numbers (pieces-split space l)

-- ---- as the loop finds them: the numbers so far, and the words that are left
pub words-start : (l : List ℕ) → numbers_of l ≡ behind [] (all_numbers (words l))
words-start l = numbers-words l ∙ behind-nothing (all_numbers (words l))

-- the word at a place, and those behind it
pub word-here : (ws : List (List ℕ)) (i : ℕ) (w : List ℕ) → (i < length ws) × (w ≡ get_or ws i w) → drop i ws ≡ w ∷ drop (i + 1) ws
word-here ws i w h = rw add-one (drop-cons ws i w h.0 ∙ ap (λ (x : List ℕ). x ∷ drop (suc i) ws) (sym h.1))

module _ (l ns : List ℕ) (ws : List (List ℕ)) (so_far : numbers_of l ≡ behind ns (all_numbers ws)) where
  module _ (w : List ℕ) (left : List (List ℕ)) (word : ws ≡ w ∷ left) where
    pub word-none : number_of w ≡ none → numbers_of l ≡ none
    unfolding behind all_numbers with_first
    word-none e = so_far ∙ rw (word, e)

    pub word-turn : (v : ℕ) → number_of w ≡ some v → numbers_of l ≡ behind (ns ++ v ∷ []) (all_numbers left)
    unfolding behind all_numbers with_first
    word-turn v e = so_far ∙ rw (word, e) (go (all_numbers left))
      where
        go : (o : Option (List ℕ)) → behind ns (with_first (some v) o) ≡ behind (ns ++ v ∷ []) o
        go none = refl
        go (some ms) = ap some (sym (append_assoc ns (v ∷ []) ms))

    pub word-over : (v : ℕ) → number_of w ≡ some v → 32 ≤ length ns → few (numbers_of l) ≡ none
    unfolding behind few given
    word-over v e h = rw (word-turn v e) (go (all_numbers left))
      where
        go : (o : Option (List ℕ)) → few (behind (ns ++ v ∷ []) o) ≡ none
        go none = refl
        go (some ms) =
            rw (lt-leb (length (ns ++ v ∷ [] ++ ms)) 32 (omega (arith, length-append (ns ++ v ∷ []) ms, length-append ns (v ∷ []))))

  pub words-end : ws ≡ [] → length ns ≤ 32 → few (numbers_of l) ≡ some ns
  unfolding behind all_numbers few given
  words-end e h = rw (so_far, e, append-nil ns, le-leb (length ns) 32 h)
