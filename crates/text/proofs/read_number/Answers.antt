-- A number starts well; then each digit is one, and the value stays within the bound.
-- Assumes nothing.
use Rattle.std.proofs.Common.{◌≡◌, ◌∙◌, ◌+◌, ◌-◌, ◌*◌, refl, sym, arith, get_or}
use Rattle.text.specs.Value.{number-not}
use Rattle.text.specs.DigitTurns.{digit-some, digit-none, number-turn, number-no_digit, number-large, number-end, number-begun}
use Rattle.text.specs.WordTurns.{is-none, is-some}
use Rattle.text.proofs.read_number.Goals as goal

pub returns-then-not-starts_well : goal.returns-then-not-starts_well
returns-then-not-starts_well c = is-none (number-not c.args.word.now (cc)) refl

pub loop-b-init : goal.loop-b-init
loop-b-init c = record { within = omega arith; so_far = number-begun c.args.word.now (cc) }

pub returns-in_err-last : goal.returns-in_err-last
returns-in_err-last c =
    is-none
    (c.loop-b.invariant.so_far
    ∙ number-no_digit c.loop-b.value c.args.word.now c.loop-b.b-index (omega arith)
    (digit-none _ _ (sym c.digit.ensures ∙ c.in_err-last.was)))
    c.from_residual.ensures

pub returns-in_err-value : goal.returns-in_err-value
returns-in_err-value c =
    let digit = digit-some _ _ _ (sym c.digit.ensures ∙ c.in_ok-last.was) in
    is-none
    (c.loop-b.invariant.so_far
    ∙ number-large c.loop-b.value c.args.word.now c.loop-b.b-index (omega arith) (omega (arith, digit.1, c.in_err-value.ensures)))
    c.from_residual-in_err-value.ensures

pub loop-b-preserved : goal.loop-b-preserved
loop-b-preserved c =
    let digit = digit-some _ _ _ (sym c.digit.ensures ∙ c.in_ok-last.was) in
    let grown : c.loop-b.value * 10 + (get_or c.args.word.now c.loop-b.b-index 0 - 48) ≡ c.in_ok-value.value =
    omega (arith, digit.1, c.in_ok-value.ensures) in
    record {
      within = omega (arith, c.in_ok-value.ensures);
      so_far = c.loop-b.invariant.so_far ∙ rw (← grown) (number-turn c.loop-b.value c.args.word.now c.loop-b.b-index (omega arith) digit.0);
    }

pub returns : goal.returns
returns c =
    is-some c.loop-b.value (c.loop-b.invariant.so_far ∙ number-end c.loop-b.value c.args.word.now c.loop-b.b-index (omega arith) (omega arith))
