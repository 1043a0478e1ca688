-- Assumes nothing.
use Rattle.std.proofs.Common.{◌≡◌, ◌≤◌, ℕ, suc, List, [], ◌∷◌, ◌++◌, length, refl, sym, ap, ◌∙◌, Fits, w32, rules, arith, add-one, append_assoc}
use Rattle.text.specs.Line.{line_of}
use Rattle.text.specs.OneLine.{length-line}
use Rattle.text.specs.Lines.Front.{front-known}
use Rattle.text.specs.Walk.{run_end}
use Rattle.text.specs.FrontWalk.{ran-bad, ran-front}
use Rattle.text_print.specs.Page.{prints_none, prints_both}
use Rattle.table.proofs.Kept.{event-sound}
use Rattle.table.specs.Room.{event-room}
use Rattle.script.specs.Rules.{set_up, event}
use Rattle.script.specs.Stops.{said, ending}
use Rattle.std.proofs.lemmas.Result.{err_from_is_err_and}
use Rattle.desk.specs.declared.Reply.{Reply}
use Rattle.table.specs.declared.Table.{Table}
use Rattle.text.specs.Line.{lines_of}
use Rattle.text.specs.Script.{run}
use Rattle.script.proofs.Ends.{short-bad, outcome-is, length-kept, some-left, none-left}
use Rattle.script.proofs.run.Goals as goal

pub loop-rest-init : goal.loop-rest-init
loop-rest-init c =
    record {
      done = [];
      prints = prints_none c.args.page.now;
      answers = refl;
      room = omega (arith, c.requires.blank.empty);
      count = omega arith;
      sound = c.requires.table.0;
      sized = c.requires.table.1;
    }

pub returns-in_err-e : goal.returns-in_err-e
unfolding ending said
returns-in_err-e c =
    let i = c.loop-rest.invariant in
    let rest = c.loop-rest.rest.now in
    let n = c.loop-rest.n in
    let bad = c.in_err-e.ensures in
    let p = err_from_is_err_and c.from_residual.result c.from_residual.ensures.1 in
    let more = some-left rest c.is_empty.result c.is_empty.ensures c.loop-rest-test.true in
    let short = short-bad n (omega (arith, i.count)) in
    rw (p.1, p.2, bad.1)
    (record {
      done = i.done;
      prints = i.prints;
      answers = i.answers ∙ ap (λ (l : List ℕ). i.done ++ l) (ran-bad set_up event rest c.loop-rest.table n more bad.0);
      room = omega (arith, i.room, short);
    })

-- the three numbers are of 32 bits, so their line is short
short : (x : Reply) → Fits w32 x.code → Fits w32 x.value → Fits w32 x.count → length (line_of (x.code ∷ x.value ∷ x.count ∷ [])) ≤ 33
short x code value count = length-line x.code (x.value ∷ x.count ∷ []) (omega arith, (omega arith, (omega arith, tt)))

pub put_line-requires : goal.put_line-requires
put_line-requires c =
    let i = c.loop-rest.invariant in
    let x = c.step-reply.result in
    let line = short x (search rules) (search rules) (search rules) in
    omega (arith, i.room, line, length-kept i.prints, c.requires.blank.large)

pub loop-rest-smaller : goal.loop-rest-smaller
loop-rest-smaller c =
    let read = c.in_ok-e.ensures in
    omega (arith, (front-known c.loop-rest.rest.now read.0 c.in_ok-e.behind.now read.1).after, read.2)

pub loop-rest-preserved : goal.loop-rest-preserved
loop-rest-preserved c =
    let i = c.loop-rest.invariant in
    let rest = c.loop-rest.rest.now in
    let table = c.loop-rest.table in
    let n = c.loop-rest.n in
    let x = c.step-reply.result in
    let after = c.step-reply.new.t in
    let text = line_of (x.code ∷ x.value ∷ x.count ∷ []) in
    let read = c.in_ok-e.ensures in
    let known = (front-known rest read.0 c.in_ok-e.behind.now read.1).after in
    let line = short x (search rules) (search rules) (search rules) in
    let left : List ℕ = run set_up event after (suc n) (lines_of c.in_ok-e.behind.now) in
    let turn : run set_up event table n (lines_of rest) ≡ text ++ left =
    ran-front set_up event rest read.1 table n read.2
    ∙ ap (λ (y : List ℕ × Table). line_of y.0 ++ run set_up event y.1 (suc n) (lines_of c.in_ok-e.behind.now))
    (outcome-is table read.0 c.in_ok-e.e x after read.3 c.step-reply.ensures.0 c.step-reply.ensures.1) in
    record {
      done = i.done ++ text;
      prints = prints_both i.prints c.put_line.ensures;
      answers = rw (add-one n) (i.answers ∙ ap (λ (l : List ℕ). i.done ++ l) turn ∙ sym (append_assoc i.done text left));
      room = omega (arith, i.room, c.put_line.ensures.put.after, line, known, read.2);
      count = omega (arith, i.count, known, read.2);
      sound = rw c.step-reply.ensures.1 (event-sound table _ i.sized i.sound);
      sized = rw c.step-reply.ensures.1 (event-room table _ i.sized);
    }

pub returns : goal.returns
unfolding ending
returns c =
    let i = c.loop-rest.invariant in
    let rest = c.loop-rest.rest.now in
    let end =
    run_end set_up event rest 0 c.loop-rest.table c.loop-rest.n
    (omega (arith, none-left rest c.is_empty.result c.is_empty.ensures c.loop-rest-test.false)) in
    record { done = i.done; prints = i.prints; answers = i.answers ∙ ap (λ (l : List ℕ). i.done ++ l) end; room = omega (arith, i.room) }
