-- What is printed on a page: a text, behind what stands there.
-- Assumes nothing.
use Rattle.std.specs.Prelude.{◌≡◌, refl, List, [], ◌∷◌, ◌++◌, ℕ, suc, ◌+◌, ◌≤◌, ◌<◌, length, get_or, drop}
use Rattle.std.proofs.Common.{◌∙◌, ap, arith, add-one, append_assoc, drop-cons, length-append}
use Rattle.std.proofs.Math.ListN.{get_or-append}
use Rattle.std.proofs.Math.Seq.{drop-append_seam}
use Rattle.text.specs.Line.{joined, spaced, line_of}
use Rattle.text.specs.Printing.{Room, Put, ended, put-put, room_back}
use Rattle.text_print.specs.declared.Page.{Page}

-- there is room for the text
abbrev pub HasRoom : List ℕ → Page → Type 0
HasRoom text p = Room text p.out.now p.at

-- only the text's places are changed, of the same buffer
pub record Prints (text : List ℕ) (old new : Page) : Type 0 where
  pub same : new.out.ghost_name ≡ old.out.ghost_name
  pub put : Put text old.out.now old.at new.out.now new.at

pub prints_none : (p : Page) → Prints [] p p
prints_none p = record { same = refl; put = record { bytes = refl; after = omega arith } }

pub prints_both : {u v : List ℕ} {p q r : Page} → Prints u p q → Prints v q r → Prints (u ++ v) p r
prints_both a b = record { same = b.same ∙ a.same; put = put-put a.put b.put }

pub room_left : {u : List ℕ} {p q : Page} (v : List ℕ) → Prints u p q → HasRoom (u ++ v) p → HasRoom v q
room_left v a h = room_back v a.put h

-- ---- a line of numbers: each one but the last is ended by a space, and the last by LF
line-last : (n : ℕ) → line_of (n ∷ []) ≡ ended n 10
unfolding line_of spaced joined ended
line-last n = refl

line-more : (n m : ℕ) (ns : List ℕ) → line_of (n ∷ m ∷ ns) ≡ ended n 32 ++ line_of (m ∷ ns)
unfolding line_of spaced joined ended
line-more n m ns = simp append_assoc

-- as a loop finds it: a number of those before the last, and the last
pub line-turn : (whole others : List ℕ) (last i : ℕ) → whole ≡ others ++ last ∷ [] → i < length others
    → line_of (drop i whole) ≡ ended (get_or others i 0) 32 ++ line_of (drop (i + 1) whole)
line-turn whole others last i e h =
    let long : length whole ≡ length others + 1 = ap length e ∙ length-append others (last ∷ []) in
    let same : get_or whole i 0 ≡ get_or others i 0 = rw e (get_or-append others (last ∷ []) 0 i h) in
    rw (add-one, drop-cons whole i 0 (omega arith), drop-cons whole (suc i) 0 (omega arith), same)
    (line-more (get_or others i 0) (get_or whole (suc i) 0) (drop (suc (suc i)) whole))

pub line-end : (whole others : List ℕ) (last i : ℕ) → whole ≡ others ++ last ∷ [] → length others ≤ i → i ≤ length others
    → line_of (drop i whole) ≡ ended last 10
line-end whole others last i e h k =
    let end : i ≡ length others = omega arith in
    rw (e, end, drop-append_seam others (last ∷ [])) (line-last last)
