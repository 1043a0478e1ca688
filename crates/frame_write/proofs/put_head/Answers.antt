-- The length and five bytes more, which are the head's.
use Rattle.std.proofs.Common.{◌≡◌, ℕ, List, [], ◌∷◌, ◌++◌, ◌/◌, ◌%◌, ◌<◌, get_or, ap, ap₂, ◌∙◌, arith, drop-drop}
use borrow.Rule.Slice.PartMut.{put_mid}
use Rattle.spelling.specs.Bytes.{bytes, spell}
use Rattle.frame_write.proofs.put_head.Goals as goal

byte : (x : ℕ) → x < 256 → x % 256 ≡ x
byte x h = omega arith

byte_in : (l k : List ℕ) (i : ℕ) → l ≡ k → get_or l i 0 < 256 → get_or k i 0 < 256
byte_in l k i e h = rw e at h

pub returns : goal.returns
unfolding bytes spell
returns c =
    let m = c.args.m.now in
    let size = c.args.size in
    let out = c.args.out.now in
    let rest : List ℕ = 1 ∷ m.kind ∷ m.desks ∷ m.desk ∷ m.cell ∷ [] in
    let stored = ap₂ (λ (l k : List ℕ). put_mid 2 5 l k) c.put.ensures c.copy_from_slice.ensures.after
    ∙ ap (λ (l : List ℕ). size / 256 % 256 ∷ size % 256 ∷ rest ++ l) (drop-drop 5 2 out) in
    let fits = λ (i : ℕ). byte_in _ _ i stored (omega (arith, c.type_inv.out i)) in
    stored ∙ rw (byte m.kind (fits 3), byte m.desks (fits 4), byte m.desk (fits 5), byte m.cell (fits 6))
