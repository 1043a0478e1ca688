-- Laws for a program that walks through its input: what the answer is from a place on, by the line that stands there.
-- Assumes nothing.
use Rattle.std.specs.Prelude.{◌≡◌, refl, false, ◌&&◌, List, [], ◌∷◌, ◌++◌, ℕ, suc, ◌+◌, ◌*◌, ◌≤◌, ◌<◌, ltb, leb, length, get_or, take, drop, replicate}
use Rattle.std.proofs.Common.{sym, ◌∙◌, append_assoc, append-nil, add-one, arith}
use Rattle.std.proofs.Math.Path.{ap}
use Rattle.std.proofs.Math.Option.{Option, Option-elim}
use Rattle.std.proofs.Math.Seq.{get_or-take, length-sets}
use borrow.Author.Tests.{lt-ltb, le-ltb, le-leb, eq-eqb, ne_eqb}
use Rattle.text.specs.Line.{lines_of, line_of, bad_line, too_long}
use Rattle.text.specs.Reading.{line_at}
use Rattle.text.specs.Printing.{Put, put-put}
use Rattle.text.specs.Script.{run, started, sized, begun, answer}
use Rattle.text.specs.Lines.{lines_end, lines-some, line_read, read_has, read_first, read-others, line_other}

module _ {Table : Type 0} (set_up : ℕ → ℕ → List ℕ → ℕ × Table) (event : Table → List ℕ → List ℕ × Table) (s : List ℕ) (at : ℕ) where
  abbrev lines : List (Option (List ℕ))
  lines = lines_of (drop at s)

  abbrev next : List (Option (List ℕ))
  next = lines_of (drop (line_at s at).next s)

  -- ---- line 1
  pub first-bad : ((line_at s at).count ≡ 2 → ⊥) → begun set_up event lines ≡ bad_line 1
  unfolding begun Option-elim
  first-bad ne = rw (line_other s at 2 (omega arith) ne)

  pub first_read : (line_at s at).count ≡ 2
      → begun set_up event lines ≡ sized set_up event (get_or (line_at s at).n 0 0) (get_or (line_at s at).n 1 0) next
  unfolding begun Option-elim
  first_read e =
      let r = line_read s at 2 (omega arith) e in
      rw
      (read_first s at r, read-others s at r, get_or-take 2 (line_at s at).n 0 0 (omega arith), get_or-take 2 (line_at s at).n 1 0 (omega arith))

  -- ---- line 2
  pub cells-refused : (desks cells : ℕ) → (ltb 0 cells && leb cells 32) ≡ false
      → sized set_up event desks cells lines ≡ line_of ((set_up desks cells (replicate 32 0)).0 ∷ [])
  unfolding sized
  cells-refused desks cells e = rw e

  module _ (desks cells : ℕ) (some-cell : 0 < cells) (few : cells ≤ 32) where
    pub second-bad : ((line_at s at).count ≡ cells → ⊥) → sized set_up event desks cells lines ≡ bad_line 2
    unfolding sized Option-elim
    second-bad ne = rw (lt-ltb 0 cells some-cell, le-leb cells 32 few, line_other s at cells few ne)

    pub second-read : (line_at s at).count ≡ cells
        → sized set_up event desks cells lines ≡ started set_up event (set_up desks cells (line_at s at).n) next
    unfolding sized Option-elim
    second-read e =
        let r = line_read s at cells some-cell e in
        rw (lt-ltb 0 cells some-cell, le-leb cells 32 few, read_first s at r, read-others s at r, r.padded)

  pub started-refused : (code : ℕ) (t : Table) → (code ≡ 0 → ⊥) → started set_up event (code, t) lines ≡ line_of (code ∷ [])
  unfolding started
  started-refused code t ne = rw (ne_eqb code 0 ne)

  pub started-run : (code : ℕ) (t : Table) → code ≡ 0 → started set_up event (code, t) lines ≡ run set_up event t 3 lines
  unfolding started
  started-run code t e = rw (eq-eqb code 0 e)

  -- ---- each further line
  module _ (t : Table) (n : ℕ) where
    pub run_end : length s ≤ at → run set_up event t n lines ≡ []
    unfolding run
    run_end h = ap (run set_up event t n) (lines_end s at h)

    pub run-bad : at < length s → ((line_at s at).count ≡ 4 → ⊥) → run set_up event t n lines ≡ bad_line n
    unfolding run Option-elim
    run-bad h ne = ap (run set_up event t n) (lines-some s at h) ∙ rw (line_other s at 4 (omega arith) ne)

    pub run-event : (line_at s at).count ≡ 4
        → run set_up event t n lines
        ≡ line_of (event t (take 4 (line_at s at).n)).0 ++ run set_up event (event t (take 4 (line_at s at).n)).1 (suc n) next
    unfolding run Option-elim
    run-event e = let r = line_read s at 4 (omega arith) e in ap (run set_up event t n) r.lines ∙ rw (read_has s at r)

-- ---- a walk that has come to a place: what it has put so far, and what is left to answer
module _ {Table : Type 0} (set_up : ℕ → ℕ → List ℕ → ℕ × Table) (event : Table → List ℕ → List ℕ × Table) (s : List ℕ) where
  -- `room`: a reply has at most 33 bytes, and the line of an event at least 8
  pub record Walked (whole old : List ℕ) (t : Table) (n at : ℕ) (new : List ℕ) (o : ℕ) : Type 0 where
    pub done : List ℕ
    pub put : Put done old 0 new o
    pub answers : whole ≡ done ++ run set_up event t n (lines_of (drop at s))
    pub room : 8 * o ≤ 33 * at
    pub count : n ≤ 3 + at

  pub walked_start : (old : List ℕ) (t : Table) (at : ℕ) → Walked (run set_up event t 3 (lines_of (drop at s))) old t 3 at old 0
  walked_start old t at =
      record {
        done = [];
        put = record { bytes = refl; after = refl };
        answers = refl;
        room = omega arith;
        count = omega arith;
      }

  module _ {whole old mid : List ℕ} {t : Table} {n at o : ℕ} (w : Walked whole old t n at mid o) where
    pub walked-length : length mid ≡ length old
    walked-length = ap length w.put.bytes ∙ length-sets old 0 w.done

    pub walked-turn : {reply new : List ℕ} {t' : Table} {o' : ℕ} → (line_at s at).count ≡ 4 → event t (take 4 (line_at s at).n) ≡ (reply, t')
        → length (line_of reply) ≤ 33 → Put (line_of reply) mid o new o' → Walked whole old t' (n + 1) (line_at s at).next new o'
    walked-turn {reply} {new} {t'} {o'} e next short p =
        let r = line_read s at 4 (omega arith) e in
        record {
          done = w.done ++ line_of reply;
          put = put-put w.put p;
          answers =
              rw (add-one n)
              (w.answers
              ∙ ap (λ (l : List ℕ). w.done ++ l)
              (run-event set_up event s at t n e
              ∙ ap (λ (x : List ℕ × Table). line_of x.0 ++ run set_up event x.1 (suc n) (lines_of (drop (line_at s at).next s))) next)
              ∙ sym (append_assoc w.done (line_of reply) (run set_up event t' (suc n) (lines_of (drop (line_at s at).next s)))));
          room = omega (arith, w.room, p.after, r.after);
          count = omega (arith, w.count, r.after);
        }

    pub walked-bad : {new : List ℕ} {o' : ℕ} → at < length s → ((line_at s at).count ≡ 4 → ⊥)
        → Put (bad_line n) mid o new o' → Put whole old 0 new o'
    walked-bad h ne p = rw (w.answers, run-bad set_up event s at t n h ne) (put-put w.put p)

    pub walked_end : length s ≤ at → Put whole old 0 mid o
    walked_end h = rw (w.answers, run_end set_up event s at t n h, append-nil) w.put

-- ---- the whole
module _ {Table : Type 0} (set_up : ℕ → ℕ → List ℕ → ℕ × Table) (event : Table → List ℕ → List ℕ × Table) (s : List ℕ) where
  pub answer-long : 65536 < length s → answer set_up event s ≡ too_long
  unfolding answer
  answer-long h = rw (lt-ltb 65536 (length s) h)

  pub answer-begun : length s ≤ 65536 → answer set_up event s ≡ begun set_up event (lines_of s)
  unfolding answer
  answer-begun h = rw (le-ltb 65536 (length s) h)
