-- The words are the pieces of the line; each is a number for which there is room.
-- Assumes nothing.
use Rattle.std.proofs.Common.{◌∙◌, eqb, length, refl, sym, ap, rules, tests, arith, drop_of_length-le}
use Rattle.std.proofs.lemmas.Iterator.Consumers.{YieldsList-turn, YieldsList-end}
use Rattle.std.proofs.lemmas.Iterator.Splits.{YieldsList-from_slice_split}
use Rattle.std.proofs.lemmas.List.{length_push}
use Rattle.text.specs.Front.{few}
use Rattle.text.specs.Row.{line-short, line-far}
use Rattle.text.specs.WordTurns.{option-some, option-none, is-none, is-some, words, word-here, words-start, word-none, word-turn, word-over, words-end}
use Rattle.text.proofs.read_numbers.Goals as goal

pub returns-then-line-gt400 : goal.returns-then-line-gt400
unfolding few
returns-then-line-gt400 c = is-none (ap few (line-far c.args.line.now c.if-line-gt400.true)) refl

pub loop-word-init : goal.loop-word-init
loop-word-init c = record { room = omega (arith, ap length c.new-numbers.ensures); so_far = rw c.new-numbers.ensures (words-start c.args.line.now) }

pub returns-in_err-read_number : goal.returns-in_err-read_number
unfolding few
returns-in_err-read_number c =
    let l = c.args.line.now in
    let t = YieldsList-turn (YieldsList-from_slice_split _ (λ b. eqb b 32) c.args.line.now (cc) (cc) (cc) (λ x b q k. search (rules, tests)))
    c.loop-word.yielded _ c.loop-word.yielded_by _ _ c.in-Some.word c.in-Some.is c.next.ensures.steps in
    let none = option-none _ (sym c.read_number.ensures ∙ c.in_err-read_number.was) in
    is-none
    (ap few (line-short l c.if-line-gt400.false ∙ word-none l _ _ c.loop-word.invariant.so_far _ _ (word-here _ _ _ t) none))
    c.from_residual.ensures

pub returns-in_err-push : goal.returns-in_err-push
returns-in_err-push c =
    let l = c.args.line.now in
    let t = YieldsList-turn (YieldsList-from_slice_split _ (λ b. eqb b 32) c.args.line.now (cc) (cc) (cc) (λ x b q k. search (rules, tests)))
    c.loop-word.yielded _ c.loop-word.yielded_by _ _ c.in-Some.word c.in-Some.is c.next.ensures.steps in
    let some = option-some _ _ (sym c.read_number.ensures ∙ c.in_ok-read_number.was) in
    is-none
    (ap few (line-short l c.if-line-gt400.false) ∙ word-over l _ _ c.loop-word.invariant.so_far _ _ (word-here _ _ _ t) _ some c.in_err-push.ensures)
    c.from_residual-in_err-push.ensures

pub loop-word-preserved : goal.loop-word-preserved
loop-word-preserved c =
    let l = c.args.line.now in
    let t = YieldsList-turn (YieldsList-from_slice_split _ (λ b. eqb b 32) c.args.line.now (cc) (cc) (cc) (λ x b q k. search (rules, tests)))
    c.loop-word.yielded _ c.loop-word.yielded_by _ _ c.in-Some.word c.in-Some.is c.next.ensures.steps in
    let some = option-some _ _ (sym c.read_number.ensures ∙ c.in_ok-read_number.was) in
    record {
      room = c.in_ok-push.ensures.1;
      so_far = rw (c.in_ok-push.ensures.0, length_push c.loop-word.yielded c.in-Some.word)
          (word-turn l _ _ c.loop-word.invariant.so_far _ _ (word-here _ _ _ t) _ some);
    }

pub returns : goal.returns
returns c =
    let l = c.args.line.now in
    let e = YieldsList-end (YieldsList-from_slice_split _ (λ b. eqb b 32) l (cc) (cc) (cc) (λ x b q k. search (rules, tests)))
    c.loop-word.yielded _ c.loop-word.yielded_by _ _ c.in-None.is c.next.ensures.steps in
    is-some _
    (ap few (line-short l c.if-line-gt400.false)
    ∙ words-end l _ _ c.loop-word.invariant.so_far (drop_of_length-le (words l) (omega (arith, e.1))) c.loop-word.invariant.room)
