use Rattle.std.proofs.Common.{ℕ, take, sym, ap, ◌∙◌}
use Rattle.frame.specs.Frame.{message_in}
use Rattle.frame.specs.Laws.{some-number, read-refused, read-accepted}
use Rattle.frame_read.proofs.read.Goals as goal

pub returns-in-Err : goal.returns-in-Err
returns-in-Err c =
    let told = c.number.ensures in
    read-refused c.args.s.now c.number.result (told ∙ c.in-Err.ensures.code) (λ e. some-number _ (sym told ∙ e))

-- with no refusal the numbers that the frame carries are all there, and it ends after them
pub returns-in-Ok : goal.returns-in-Ok
returns-in-Ok c =
    let ends = c.in-Ok.ensures.ends.1 in
    let message = ap (λ (u : ℕ). message_in (take u c.args.s.now)) (sym ends) ∙ sym c.message_in.ensures in
    sym (read-accepted c.args.s.now (sym c.in-Ok.ensures.code) ∙ (λ i. record { code = 0; message = message i; used = sym ends i }))
