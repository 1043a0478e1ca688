-- Laws on a text's first line, by the place of its first LF.
-- Assumes nothing.
use Rattle.std.specs.Prelude.{◌≡◌, refl, Bool, true, false, cond, List, [], ◌∷◌, ℕ, ◌+◌, ◌<◌, ltb, eqb, length, take, position, Some, None}
use Rattle.std.proofs.Common.{ap, sym, ◌∙◌, arith}
use Rattle.std.specs.List.{position_or_len}
use Rattle.std.proofs.lemmas.List.Recursion.{is_position_or_len}
use Rattle.std.proofs.Math.Option.{none, some}
use borrow.Author.Tests.{ltb-true}
use Rattle.text.specs.Number.{given}
use Rattle.text.specs.Line.{lf, before, first_line}
use Rattle.text.specs.Cut.{take-before}

length-before : (b : ℕ) (l : List ℕ) → length (before b l) ≡ position_or_len (λ x. eqb x b) l
unfolding before
length-before b l = is_position_or_len (λ m. length (before b m)) (λ x. eqb x b) refl (λ x xs. go (eqb x b) x (before b xs)) l
  where
    go : (d : Bool) (x : ℕ) (w : List ℕ) → length (cond d [] (x ∷ w)) ≡ cond d 0 (1 + length w)
    go true x w = refl
    go false x w = omega arith

pub first-none : (text : List ℕ) → position (λ x. eqb x lf) text ≡ None → first_line text ≡ none
unfolding first_line given
first-none text e = rw (length-before lf text) (go (ltb (position_or_len (λ x. eqb x lf) text) (length text)) _ e)
  where
    go : (d : Bool) (n : ℕ) → cond d (Some n) None ≡ None → given d (before lf text) ≡ none
    go true n e = cc
    go false n e = refl

pub first-some : (text : List ℕ) (end : ℕ) → position (λ x. eqb x lf) text ≡ Some end → (first_line text ≡ some (take end text)) × (end < length text)
unfolding first_line given
first-some text end e =
    rw (length-before lf text) (go (ltb (position_or_len (λ x. eqb x lf) text) (length text)) _ refl refl e)
  where
    go : (d : Bool) (n : ℕ) → n ≡ position_or_len (λ x. eqb x lf) text → ltb n (length text) ≡ d → cond d (Some n) None ≡ Some end
        → (given d (before lf text) ≡ some (take end text)) × (end < length text)
    go true n f g e =
        let same : n ≡ end = cc in
        let long : length (before lf text) ≡ end = length-before lf text ∙ sym f ∙ same in
        (ap some (sym (take-before lf text) ∙ ap (λ (m : ℕ). take m text) long), rw same at (ltb-true n (length text) g))
    go false n f g e = cc
