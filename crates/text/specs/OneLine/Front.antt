-- Where a line was printed it is read, and what is left is what stands behind it.
-- Assumes nothing.
use Rattle.std.specs.Prelude.{◌≡◌, true, length, take, drop, Some}
use Rattle.std.proofs.Common.{sym, ap, ◌∙◌, arith, length-take-le, drop-drop, lt-ltb, le-leb}
use mathlib.Core.List.{List, [], ◌∷◌, ◌++◌, append_assoc}
use Rattle.std.proofs.Math.Option.{some}
use Prim.Native.Nat.{ℕ, ◌+◌, ◌<◌}
use Rattle.std.proofs.Math.ListN.{length-append}
use Rattle.std.proofs.Math.Seq.{drop-append_seam}
use Rattle.std.proofs.lemmas.List.Edits.{sets-eq}
use Rattle.text.specs.Number.{given}
use Rattle.text.specs.Line.{lf, line_numbers, first_line, spaced, line_of}
use Rattle.text.specs.Front.{as_option, few, front_found, front_line}
use Rattle.text.specs.Printing.{Room, Put}
use Rattle.text.specs.OneLine.{Small, lacks, before-lacks, lacks-spaced, numbers}

front-first : (w r : List ℕ) → lacks lf w ≡ true → front_line (w ++ lf ∷ r) ≡ some (as_option (few (line_numbers w)), r)
unfolding front_line front_found first_line given
front-first w r e =
    let front = before-lacks lf w r e in
    let behind : drop (length w + 1) (w ++ lf ∷ r) ≡ r = rw (← drop-drop 1 (length w) (w ++ lf ∷ r)) (ap (drop 1) (drop-append_seam w (lf ∷ r))) in
    rw (front, lt-ltb (length w) (length (w ++ lf ∷ r)) (omega (arith, length-append w (lf ∷ r))))
    (ap (λ (l : List ℕ). some (as_option (few (line_numbers w)), l)) behind)

module _ (n : ℕ) (ns : List ℕ) (small : Small (n ∷ ns)) (short : length ns < 32) where
  pub front-printed : (rest : List ℕ) → front_line (line_of (n ∷ ns) ++ rest) ≡ some (Some (n ∷ ns), rest)
  unfolding line_of few given as_option
  front-printed rest =
      rw (
        append_assoc (spaced (n ∷ ns)) (lf ∷ []) rest,
        front-first (spaced (n ∷ ns)) rest (lacks-spaced n ns),
        numbers n ns small short,
        le-leb (length (n ∷ ns)) 32 (omega arith),
      )

  pub front-put : {old new : List ℕ} {at next : ℕ} → Room (line_of (n ∷ ns)) old at → Put (line_of (n ∷ ns)) old at new next
      → front_line (drop at new) ≡ some (Some (n ∷ ns), drop next new)
  front-put {old} {new} {at} {next} room p =
      let l = line_of (n ∷ ns) in
      let behind = drop (at + length l) old in
      let front : length (take at old) ≡ at = length-take-le at old (omega arith) in
      let here : drop at new ≡ l ++ behind =
      rw (p.bytes, sets-eq l old at room, append_assoc (take at old) l behind)
      (ap (λ (i : ℕ). drop i (take at old ++ (l ++ behind))) (sym front) ∙ drop-append_seam (take at old) (l ++ behind)) in
      let there : drop next new ≡ behind =
      ap (λ (i : ℕ). drop i new) p.after ∙ sym (drop-drop (length l) at new) ∙ ap (drop (length l)) here ∙ drop-append_seam l behind in
      rw (here, there) (front-printed behind)

-- a reply that was printed is read as a line of three numbers: code, value, count
pub front-reply : (code value count : ℕ) {old new : List ℕ} {at next : ℕ} → Small (code ∷ value ∷ count ∷ [])
    → Room (line_of (code ∷ value ∷ count ∷ [])) old at → Put (line_of (code ∷ value ∷ count ∷ [])) old at new next
    → front_line (drop at new) ≡ some (Some (code ∷ value ∷ count ∷ []), drop next new)
front-reply code value count small room p = front-put code (value ∷ count ∷ []) small (omega arith) room p
