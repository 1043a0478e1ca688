-- What is read of an input is enough for its answer, and what is written of the buffer is the answer.
-- Assumes nothing.
use Rattle.std.proofs.Common.{◌≡◌, ℕ, ◌+◌, ◌≤◌, ◌<◌, List, [], ◌∷◌, ◌++◌, Option, Some, None, Result, Ok, Err, IfSome, OnOk, MatchResult, is_ok, sym, ap, ◌∙◌, arith, length, take, drop, append-nil, length-append, replicate, length-take-le}
use Rattle.std.proofs.Math.Seq.{take-append_seam}
use Rattle.std.proofs.Math.Decide.{dec_le}
use Rattle.std.proofs.lemmas.List.{length-replicate}
use Rattle.std.proofs.lemmas.Result.{on_ok_weaker}
use Rattle.std.proofs.lemmas.List.Edits.{sets-eq}
use Rattle.std.specs.Io.KnownBytes.{Appends, Consumes, IsAtEnd}
use Rattle.text.specs.Printing.{Put}
use Rattle.text.specs.Script.{answer}
use Rattle.text.specs.Walk.{answer-long}

-- what was put at the start of a list
pub put-taken : {text old new : List ℕ} {n : ℕ} → Put text old 0 new n → n ≤ length old → take n new ≡ text
put-taken {text} {old} {new} {n} put h =
    let long : length text ≡ n = omega (arith, put.after) in
    rw (put.bytes, sets-eq text old 0 (omega arith), ← long) (take-append_seam text (drop (0 + length text) old))

abbrev zeros : ℕ → List ℕ
zeros size = replicate size 0

-- a buffer of zeros that was filled up to n
pub front-whole : (size n : ℕ) (new : List ℕ) (P : Type 0) → n ≤ length (zeros size) → length new ≡ length (zeros size)
    → (n < length (zeros size) → P) → length (take n new) < size → P
front-whole size n new P within same h short =
    let size-is = length-replicate {A = ℕ} size 0 in
    let long : length (take n new) ≡ n = length-take-le n new (omega arith) in
    h (omega arith)

pub fits-zeros : (size n : ℕ) → n ≤ size → n ≤ length (zeros size)
fits-zeros size n h = rw (length-replicate {A = ℕ} size 0) h

-- ---- a result whose error became another
module _ {T E D : Type 0} where
  pub on_ok_across : (r : Result T E) (r' : Result T D) (P : Type 0) → is_ok r' ≡ is_ok r → OnOk r P → OnOk r' P
  on_ok_across (Ok x) (Ok y) P e p = p
  on_ok_across (Ok x) (Err d) P e p = tt
  on_ok_across (Err x) (Ok y) P e p = absurd cc
  on_ok_across (Err x) (Err d) P e p = tt

  pub ok-across : (r : Result T E) (r' : Result T D) (x : T) (Q : E → Type 0) → MatchResult r (λ y. r' ≡ Ok y) Q → is_ok r' ≡ is_ok r → r' ≡ Ok x
      → r ≡ Ok x
  ok-across (Ok y) r' x Q c e h = cc
  ok-across (Err d) r' x Q c e h = absurd cc

module _ {Table : Type 0} (set_up : ℕ → ℕ → List ℕ → ℕ × Table) (event : Table → List ℕ → List ℕ × Table) where
  abbrev answered : List ℕ → List ℕ
  answered = answer set_up event

  -- 65537 bytes of an input are answered as all of it
  pub answered-front : (front rest : List ℕ) → (length front < 65537 → rest ≡ []) → answered (front ++ rest) ≡ answered front
  answered-front front [] h = ap answered (append-nil front)
  answered-front front (x ∷ xs) h =
      let long : 65536 < length front = elim (dec_le 65537 (length front)) [ yes m ↦ omega arith | no m ↦ (let e : x ∷ xs ≡ [] = h (omega arith) in absurd cc) ] in
      answer-long set_up event (front ++ x ∷ xs) (omega (arith, length-append front (x ∷ xs))) ∙ sym (answer-long set_up event front long)

  pub answered-read : (a b : Option (List ℕ)) (front : List ℕ) → Consumes a b front → (length front < 65537 → IsAtEnd b)
      → IfSome a (λ text. answered text ≡ answered front)
  answered-read None b front p h = tt
  answered-read (Some text) None front p h = absurd p
  answered-read (Some text) (Some rest) front p h = ap answered p ∙ answered-front front rest h

  -- a buffer's start that was written is the answer of the input whose front was read
  pub answered-written : {E : Type 0} (r : Result (Unit {0}) E) (a a' b b' : Option (List ℕ)) (front old new : List ℕ) (n : ℕ)
      → Consumes a a' front → (length front < 65537 → IsAtEnd a') → Put (answered front) old 0 new n → n ≤ length old
      → OnOk r (Appends b b' (take n new)) → OnOk r (IfSome a (λ text. Appends b b' (answered text)))
  answered-written r a a' b b' front old new n read whole put fits =
      on_ok_weaker r (λ w. go a (answered-read a a' front read whole) (rw (put-taken put fits) at w))
    where
      go : (o : Option (List ℕ)) → IfSome o (λ text. answered text ≡ answered front) → Appends b b' (answered front)
          → IfSome o (λ text. Appends b b' (answered text))
      go None e w = tt
      go (Some text) e w = rw e w
