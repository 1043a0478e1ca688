-- The message that is given part by part, as writing took it before the design pass.
-- Assumes nothing.
use Rattle.std.specs.Prelude.{ℕ}
use Rattle.clock.specs.declared.Clock.{Clock}
use Rattle.desk.specs.declared.Message.{Message}

abbrev pub given : ℕ → ℕ → ℕ → ℕ → ℕ → Clock → Message
given kind desks desk cell word clock =
    record { kind = kind; desks = desks; desk = desk; cell = cell; word = word; clock = clock }
