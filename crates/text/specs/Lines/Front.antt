-- Laws on what is read at a text's front: what it says of the text's lines.
-- Assumes nothing.
use Rattle.std.specs.Prelude.{◌≡◌, Bool, true, false, List, ◌∷◌, ℕ, suc, ◌+◌, ◌*◌, ◌≤◌, ◌<◌, leb, drop, Some, None}
use Rattle.std.proofs.Common.{sym, ◌∙◌, add-one, arith, lt-ltb, le-ltb, le-leb, eq-eqb, ne_eqb}
use Rattle.std.proofs.Math.Path.{ap, refl}
use Rattle.std.specs.Prelude.{Option as Found}
use Rattle.std.proofs.Math.Option.{Option, none, some, some-injective, none-ne-some}
use Rattle.std.proofs.Math.Decide.{dec_le, dec_lt}
use Rattle.std.proofs.Math.ListN.{length, length-drop}
use Rattle.text.specs.Number.{given}
use Rattle.text.specs.Line.{lf, before, first_line, line_numbers, lines_of}
use Rattle.text.specs.Lines.{lines_end, lines_more, lines-open, long}
use Rattle.text.specs.Front.{as_option, few, front_found, front_line}
use Rattle.text.specs.Script.{first, others, having}

-- ---- what is found says what was there
few-some : (o : Option (List ℕ)) (ns : List ℕ) → as_option (few o) ≡ Some ns → o ≡ some ns
unfolding few given as_option
few-some none ns e = cc
few-some (some ms) ns e = go (leb (length ms) 32) e
  where
    go : (d : Bool) → as_option (given d ms) ≡ Some ns → some ms ≡ some ns
    go true e = cc
    go false e = cc

few-none : (o : Option (List ℕ)) (k : ℕ) → k ≤ 32 → as_option (few o) ≡ None → having k o ≡ none
unfolding few having given as_option
few-none none k h e = refl
few-none (some ms) k h e =
    elim (dec_le (length ms) 32) [
      | yes small ↦ (let z : Some ms ≡ None = rw (le-leb (length ms) 32 small) at e in cc)
      | no large ↦ rw (ne_eqb (length ms) k (λ e. omega arith))
    ]

pub counted : (k : ℕ) (ns : List ℕ) → length ns ≡ k → having k (some ns) ≡ some ns
unfolding having given
counted k ns e = rw (eq-eqb (length ns) k e)

-- ---- the line at the front
module _ (text : List ℕ) where
  abbrev front : List ℕ
  front = before lf text

  -- an LF ends it, or none does
  pub front-ended : length front < length text → front_line text ≡ some (as_option (few (line_numbers front)), drop (length front + 1) text)
  unfolding front_line front_found first_line given
  front-ended h = rw (lt-ltb (length front) (length text) h)

  pub front-open : length text ≤ length front → front_line text ≡ none
  unfolding front_line front_found first_line given
  front-open h = rw (le-ltb (length front) (length text) h)

  -- its numbers were read: the lines are this one and those of the rest
  pub record Known (ns rest : List ℕ) : Type 0 where
    pub lines : lines_of text ≡ some ns ∷ lines_of rest
    pub after : 2 * length ns + length rest ≤ length text

  pub front-known : (ns rest : List ℕ) → front_line text ≡ some (Some ns, rest) → Known ns rest
  front-known ns rest e =
      elim (dec_lt (length front) (length text)) [
        | yes ends ↦
            (let p = some-injective _ _ (sym (front-ended ends) ∙ e) in
            let numbers = few-some (line_numbers front) ns (ap (λ (x : Found (List ℕ) × List ℕ). x.0) p) in
            let behind : drop (suc (length front)) text ≡ rest = rw (add-one (length front)) at (ap (λ (x : Found (List ℕ) × List ℕ). x.1) p) in
            record {
              lines = rw (lines_more text ends, numbers, behind);
              after = omega (arith, long front ns numbers, ap length behind, length-drop (suc (length front)) text);
            })
        | no endless ↦ absurd (none-ne-some _ (sym (front-open (omega arith)) ∙ e))
      ]

  -- no LF ends it, or its numbers were not read, or are not as many: it is malformed where k numbers are wanted
  pub front-none : (k : ℕ) → front_line text ≡ none → having k (first (lines_of text)) ≡ none
  unfolding first having
  front-none k e =
      elim (dec_lt (length front) (length text)) [
        | yes ends ↦ absurd (none-ne-some _ (sym e ∙ front-ended ends))
        | no endless ↦ elim (dec_lt 0 (length text)) [
          | yes more ↦ rw (lines-open text more (omega arith))
          | no end ↦ rw (lines_end text 0 (omega arith))
        ]
      ]

  pub front-malformed : (k : ℕ) (rest : List ℕ) → k ≤ 32 → front_line text ≡ some (None, rest) → having k (first (lines_of text)) ≡ none
  unfolding first
  front-malformed k rest h e =
      elim (dec_lt (length front) (length text)) [
        | yes ends ↦
            (let p = some-injective _ _ (sym (front-ended ends) ∙ e) in
            rw (lines_more text ends) (few-none (line_numbers front) k h (ap (λ (x : Found (List ℕ) × List ℕ). x.0) p)))
        | no endless ↦ absurd (none-ne-some _ (sym (front-open (omega arith)) ∙ e))
      ]

  module _ {ns rest : List ℕ} (read : front_line text ≡ some (Some ns, rest)) (k : ℕ) where
    pub front-other : (length ns ≡ k → ⊥) → having k (first (lines_of text)) ≡ none
    unfolding first having given
    front-other ne = rw ((front-known ns rest read).lines, ne_eqb (length ns) k ne)

    pub front-counted : length ns ≡ k → having k (first (lines_of text)) ≡ some ns
    unfolding first
    front-counted e = rw ((front-known ns rest read).lines) (counted k ns e)

    pub front-others : others (lines_of text) ≡ lines_of rest
    unfolding others
    front-others = rw (front-known ns rest read).lines
