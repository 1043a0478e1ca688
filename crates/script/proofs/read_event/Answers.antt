-- Another count, or four numbers.
-- Assumes nothing.
use Rattle.std.proofs.Common.{◌≡◌, length, refl, ap, arith}
use borrow.Author.Tests.{ltb-true, ltb-false}
use Rattle.text.specs.Lines.Front.{front-other}
use Rattle.script.specs.Rules.{event_of}
use Rattle.script.proofs.read_event.Goals.{in_default-as_slice-via-then-as_slice-lt4, in_default-as_slice-via-else-as_slice-lt4+else-this-lt5}
use Rattle.script.proofs.read_event.Goals as goal

pub returns-in_default-as_slice : goal.returns-in_default-as_slice
returns-in_default-as_slice c =
    let another : length c.in-Ok.read.0 ≡ 4 → ⊥ =
    elim c.in_default-as_slice.branch [
      | in_default-as_slice-via-then-as_slice-lt4 w ↦ (λ e. omega (arith, ltb-true, ap length c.as_slice.ensures))
      | in_default-as_slice-via-else-as_slice-lt4+else-this-lt5 w ↦ (λ e. omega (arith, ltb-true, ltb-false, ap length c.as_slice.ensures))
    ] in
    (front-other c.args.text.now c.in-Ok.ensures 4 another, refl)

pub returns : goal.returns
unfolding event_of
returns c =
    (c.in-Ok.read.0, c.in-Ok.ensures, omega (arith, ap length c.as_slice.ensures), rw c.as_slice.ensures refl)
