-- Each field is the number at its place.
use Rattle.std.proofs.Common.{◌≡◌, ℕ, [], ◌∷◌, ◌+◌, ◌*◌, ◌<◌, get_or, take, drop, sym, arith}
use Rattle.spelling.specs.Bytes.{numeral, numbers}
use Rattle.frame.specs.Frame.{message_of}
use Rattle.frame.specs.Laws.{framed-byte}
use Rattle.frame_read.proofs.message_in.Goals as goal

pub returns : goal.returns
unfolding numbers message_of
returns c =
    let s = c.args.s.now in
    let u = 7 + 4 * c.args.c in
    let byte : (p : ℕ) → p < 7 → get_or s p 0 ≡ numeral (take 1 (drop p (take u s))) = λ p h. sym (framed-byte p u s (omega arith)
    (omega arith)) in
    λ i.
    record {
      kind = byte 3 (omega arith) i;
      desks = byte 4 (omega arith) i;
      desk = byte 5 (omega arith) i;
      cell = byte 6 (omega arith) i;
      word = c.number.ensures i;
      clock = record {
        n =
            c.number-2.ensures i
            ∷ c.number-3.ensures i
            ∷ c.number-4.ensures i
            ∷ c.number-5.ensures i
            ∷ c.number-6.ensures i
            ∷ c.number-7.ensures i
            ∷ c.number-8.ensures i
            ∷ c.number-9.ensures i
            ∷ [];
      };
    }
