-- No number, or each but the last with a space, and the last with LF.
-- Assumes nothing.
use Rattle.std.proofs.Common.{◌≡◌, ℕ, List, [], ◌∷◌, ◌++◌, length, get_or, drop, refl, sym, ◌∙◌, arith, append_assoc}
use Rattle.text.specs.Line.{joined, spaced, line_of}
use Rattle.text.specs.Printing.{ended, room-front}
use Rattle.text_print.specs.Page.{prints_both, room_left, line-turn, line-end}
use Rattle.text_print.proofs.Page.put_line.Goals as goal

line_none : (ns : List ℕ) → length ns ≡ 0 → line_of ns ≡ 10 ∷ []
unfolding line_of spaced joined
line_none [] e = refl
line_none (n ∷ ns) e = absurd (omega arith)

pub put_byte-requires : goal.put_byte-requires
put_byte-requires c = rw (line_none c.args.numbers.now c.in_default.ensures.cases) at c.requires

pub returns-in_default : goal.returns-in_default
returns-in_default c = rw (line_none c.args.numbers.now c.in_default.ensures.cases) c.put_byte.ensures

pub put_ended-requires : goal.put_ended-requires
put_ended-requires c =
    let i = c.loop-n.n-index in
    let others = c.in-Some.others.now in
    let left = room_left (line_of (drop i c.args.numbers.now)) c.loop-n.invariant.prints (rw c.loop-n.invariant.whole at c.requires) in
    let turn = line-turn c.args.numbers.now others c.in-Some.last.now i c.in-Some.ensures.cases.0 (omega arith) in
    room-front (ended (get_or others i 0) 32) _ _ _ (rw turn at left)

pub loop-n-preserved : goal.loop-n-preserved
loop-n-preserved c =
    let i = c.loop-n.n-index in
    let others = c.in-Some.others.now in
    let turn = line-turn c.args.numbers.now others c.in-Some.last.now i c.in-Some.ensures.cases.0 (omega arith) in
    record {
      done = c.loop-n.invariant.done ++ ended (get_or others i 0) 32;
      prints = prints_both c.loop-n.invariant.prints c.put_ended.ensures;
      whole = c.loop-n.invariant.whole ∙ rw turn (sym (append_assoc c.loop-n.invariant.done (ended (get_or others i 0) 32) _));
    }

pub put_ended-requires-2 : goal.put_ended-requires-2
put_ended-requires-2 c =
    let end = line-end c.args.numbers.now c.in-Some.others.now c.in-Some.last.now c.loop-n.n-index c.in-Some.ensures.cases.0 (omega arith) (omega arith) in
    room_left (ended c.in-Some.last.now 10) c.loop-n.invariant.prints (rw (c.loop-n.invariant.whole, end) at c.requires)

pub returns : goal.returns
returns c =
    let end = line-end c.args.numbers.now c.in-Some.others.now c.in-Some.last.now c.loop-n.n-index c.in-Some.ensures.cases.0 (omega arith) (omega arith) in
    rw (c.loop-n.invariant.whole, end) (prints_both c.loop-n.invariant.prints c.put_ended-2.ensures)
