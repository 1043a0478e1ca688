-- What an own event makes of the desk's seat and of the cell that it names, once for record and table.
-- Assumes nothing.
use Rattle.std.specs.Prelude.{◌≡◌, Bool, cond, ℕ, eqb}
use Rattle.clock.specs.declared.Clock.{Clock}
use Rattle.clock.specs.Clock.{number, raised}
use Rattle.desk.specs.declared.Cell.{Cell}
use Rattle.desk.specs.declared.Event.{Event}
use Rattle.desk.specs.declared.Seat.{Seat}
use Rattle.desk.specs.Desk.{no_cell, held_cell}
use Rattle.desk.specs.Parts.{change_of, asking_seat, raised_seat}

-- a write has a number left to raise
abbrev pub HasNumber : Event → Clock → ℕ → Type 0
HasNumber e c desk = e.kind ≡ 2 → number c desk ≡ 4294967295 → ⊥

unfoldable pub own_seat : Bool → Cell → Event → ℕ → Seat → Seat
own_seat kept x e desk s =
    cond (eqb (change_of kept x e) 1) (asking_seat s desk e) (cond (eqb (change_of kept x e) 2) (raised_seat s desk) s)

unfoldable pub own_cell : Bool → Cell → Event → ℕ → Seat → Cell
own_cell kept x e desk s =
    cond (eqb (change_of kept x e) 2) (held_cell e.word (raised s.clock desk)) (cond (eqb (change_of kept x e) 3) no_cell x)
