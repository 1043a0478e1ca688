-- No LF ends the line, or it is malformed.
-- Assumes nothing.
use Rattle.std.proofs.Common.{refl}
use Rattle.text.specs.Lines.Front.{front-none, front-malformed}
use Rattle.script.proofs.line.Goals as goal

pub returns-in-Some-None-default : goal.returns-in-Some-None-default
returns-in-Some-None-default c =
    let read = c.in-Some-None-default in
    (λ k h. front-malformed c.args.text.now k read.field-0-1.now h (rw read.field-0-0-is at read.ensures), refl)

pub returns-in-None : goal.returns-in-None
returns-in-None c = (λ k h. front-none c.args.text.now k c.in-None.ensures, refl)
