-- What printing leaves: a text put into a list at a place, and the place after it. Of a page text_print's Page says the same.
-- Assumes nothing.
use Rattle.std.specs.Prelude.{◌≡◌, List, [], ◌∷◌, ◌++◌, ℕ, suc, ◌+◌, ◌≤◌, ◌<◌, length, get_or, take, set}
use Rattle.std.proofs.Common.{sym, ap, ◌∙◌, append_assoc, add-one, arith, length-append, take-suc, length-take-le}
use Rattle.std.proofs.lemmas.List.Edits.{sets}
use Rattle.std.proofs.Math.Seq.{length-sets}
use Rattle.text.specs.Number.{decimal}
use Rattle.text.specs.Line.{joined, spaced, line_of}

abbrev pub Room : List ℕ → List ℕ → ℕ → Type 0
Room text out at = at + length text ≤ length out

-- only the text's places are changed; `next` is the place after it
pub record Put (text old : List ℕ) (at : ℕ) (new : List ℕ) (next : ℕ) : Type 0 where
  pub bytes : new ≡ sets old at text
  pub after : next ≡ at + length text

-- it leaves no choice
pub no-choice : {text old new new' : List ℕ} {at next next' : ℕ} → Put text old at new next → Put text old at new' next'
    → (new ≡ new') × (next ≡ next')
no-choice p q = (p.bytes ∙ sym q.bytes, p.after ∙ sym q.after)

unfoldable pub ended : ℕ → ℕ → List ℕ
ended n end = decimal n ++ end ∷ []

pub line-of-three : (a b c : ℕ) → line_of (a ∷ b ∷ c ∷ []) ≡ ended a 32 ++ ended b 32 ++ ended c 10
unfolding line_of spaced joined ended
line-of-three a b c = simp append_assoc

-- one text behind another
sets-append : (l : List ℕ) (at : ℕ) (u v : List ℕ) → sets l at (u ++ v) ≡ sets (sets l at u) (at + length u) v
sets-append l at [] v = let e : at + 0 ≡ at = omega arith in rw e
sets-append l at (a ∷ u) v = let e : at + suc (length u) ≡ suc at + length u = omega arith in rw e (sets-append (set l at a) (suc at) u v)

pub put-put : {u v old mid new : List ℕ} {at i j : ℕ} → Put u old at mid i → Put v mid i new j → Put (u ++ v) old at new j
put-put {u} {v} {old} {mid} {new} {at} {i} {j} p q =
    record {
      bytes = rw (sets-append old at u v, ← p.bytes, ← p.after) q.bytes;
      after = omega (arith, p.after, q.after, length-append u v);
    }

-- room for both is room for the one, and then for the other
pub room-front : (u v out : List ℕ) (at : ℕ) → Room (u ++ v) out at → Room u out at
room-front u v out at h = omega (arith, length-append u v)

pub room_back : {u old mid : List ℕ} {at i : ℕ} (v : List ℕ) → Put u old at mid i → Room (u ++ v) old at → Room v mid i
room_back {u} {old} {mid} {at} {i} v p h = omega (arith, p.after, ap length p.bytes, length-sets old at u, length-append u v)

-- a turn of the loop that puts a text byte by byte
pub sets-turn : (l : List ℕ) (at : ℕ) (w : List ℕ) (i : ℕ) → i < length w
    → set (sets l at (take i w)) (at + i) (get_or w i 0) ≡ sets l at (take (i + 1) w)
sets-turn l at w i h = rw (add-one, take-suc w i 0 h, sets-append l at (take i w) (get_or w i 0 ∷ []), length-take-le i w (omega arith))
