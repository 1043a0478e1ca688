-- Whatever a desk does, its record stays the record of the same desk: the tray, the desk's number and the length of its row; and its clock
-- loses no number. And an answer names its request.
-- Assumes nothing.
use Rattle.std.specs.Prelude.{◌≡◌, refl, ℕ, ◌+◌, ◌≤◌, eqb, length}
use Rattle.std.proofs.Common.{◌∙◌, arith}
use Rattle.std.proofs.Math.ListN.{length-set}
use Rattle.clock.specs.declared.Clock.{Clock}
use Rattle.clock.specs.Clock.{number, raised}
use Rattle.clock.specs.Laws.{merge-length}
use Rattle.theory_lists.specs.Each.{length-map_at}
use Rattle.theory_lists.specs.Test.{whichever}
use Rattle.desk.specs.declared.Event.{Event}
use Rattle.desk.specs.declared.Message.{Message}
use Rattle.desk.specs.declared.Record.{Record}
use Rattle.desk.specs.declared.Seat.{Seat}
use Rattle.desk.specs.declared.Step.{Step}
use Rattle.desk.specs.Desk.{Word, no_cell, cell_at, keeps, left_at, left_of, answer_kind}
use Rattle.desk.specs.Rules.{with_seat, learns, holds, read_rule, write_rule, drop_rule, event_done, read_served, takes, write_served, serve_done}
use Rattle.desk.specs.Rules.{brings, bring_done}

pub record SameDesk (v u : Record) : Type 0 where
  pub same-tray : u.tray ≡ v.tray
  pub same_number : u.desk ≡ v.desk
  pub same_length : length u.row ≡ length v.row

-- another seat in the record
pub seat-same : (v : Record) (s : Seat) → SameDesk v (with_seat v s)
seat-same v s = record { same-tray = refl; same_number = refl; same_length = refl }

left-length : (v : Record) (x : Clock) → length (learns v x).row ≡ length v.row
unfolding left_of
left-length v x = length-map_at (left_at v.tray v.desk x) v.row

module _ (v : Record) where
  abbrev Stays : Step → Type 0
  Stays s = SameDesk v s.after

  read_same : (c : ℕ) → Stays (read_rule v c)
  unfolding read_rule
  read_same c = whichever Stays (cell_at v.row c).held _ _ (seat-same v v.seat) (seat-same v _)

  write_same : (c : ℕ) (w : Word) → Stays (write_rule v c w)
  unfolding write_rule
  write_same c w =
      whichever Stays (keeps v.tray v.desk c) _ _
      (record { same-tray = refl; same_number = refl; same_length = length-set v.row c _ })
      (seat-same v _)

  drop-same : (c : ℕ) → Stays (drop_rule v c)
  unfolding drop_rule
  drop-same c = record { same-tray = refl; same_number = refl; same_length = length-set v.row c no_cell }

  pub event-same : (e : Event) → SameDesk v (event_done v e).after
  unfolding event_done
  event-same e =
      whichever Stays (eqb e.kind 1) (read_rule v e.cell) _ (read_same e.cell)
      (whichever Stays (eqb e.kind 2) (write_rule v e.cell e.word) (drop_rule v e.cell)
      (write_same e.cell e.word) (drop-same e.cell))

  pub takes_same : (m : Message) → SameDesk v (takes v m)
  unfolding takes
  takes_same m =
      record {
        same-tray = refl;
        same_number = refl;
        same_length = length-set (learns v m.clock).row m.cell _ ∙ left-length v m.clock;
      }

  pub serve-same : (m : Message) → SameDesk v (serve_done v m).after
  unfolding serve_done read_served write_served
  serve-same m = whichever Stays (eqb m.kind 1) (read_served v m) (write_served v m) (seat-same v v.seat) (takes_same m)

  pub brings-same : (m : Message) → SameDesk v (brings v m)
  unfolding brings
  brings-same m =
      record {
        same-tray = refl;
        same_number = refl;
        same_length =
            length-set (learns (holds v m.cell no_cell) m.clock).row m.cell _
            ∙ left-length (holds v m.cell no_cell) m.clock
            ∙ length-set v.row m.cell no_cell;
      }

  pub bring-same : (m : Message) → SameDesk v (bring_done v m).after
  unfolding bring_done
  bring-same m = brings-same m

-- ---- its clock
abbrev numbers : Record → ℕ
numbers v = length v.seat.clock.n

module _ (v : Record) where
  abbrev Longer : Step → Type 0
  Longer s = numbers v ≤ numbers s.after

  pub event-longer : (e : Event) → Longer (event_done v e)
  unfolding event_done read_rule write_rule drop_rule raised
  event-longer e =
      whichever Longer (eqb e.kind 1) (read_rule v e.cell) _
      (whichever Longer (cell_at v.row e.cell).held _ _ (omega arith) (omega arith))
      (whichever Longer (eqb e.kind 2) (write_rule v e.cell e.word) (drop_rule v e.cell)
      (whichever Longer (keeps v.tray v.desk e.cell) _ _
      (omega (arith, length-set v.seat.clock.n v.desk (number v.seat.clock v.desk + 1))) (omega arith))
      (omega arith))

  pub serve-longer : (m : Message) → Longer (serve_done v m)
  unfolding serve_done read_served write_served takes
  serve-longer m =
      whichever Longer (eqb m.kind 1) (read_served v m) (write_served v m) (omega arith) (omega (arith, merge-length v.seat.clock m.clock))

  pub bring-longer : (m : Message) → Longer (bring_done v m)
  unfolding bring_done brings
  bring-longer m = omega (arith, merge-length v.seat.clock m.clock)

-- ---- an answer
pub record Answers (v : Record) (m : Message) (s : Step) : Type 0 where
  pub answer-kind : s.message.kind ≡ answer_kind m.kind
  pub answer-desks : s.message.desks ≡ m.desks
  pub answer-desk : s.message.desk ≡ m.desk
  pub answer-cell : s.message.cell ≡ m.cell
  pub slot-stays : s.after.seat.slot ≡ v.seat.slot

pub serve-answers : (v : Record) (m : Message) → Answers v m (serve_done v m)
unfolding serve_done read_served write_served takes
serve-answers v m =
    whichever (Answers v m) (eqb m.kind 1) (read_served v m) (write_served v m)
    (record { answer-kind = refl; answer-desks = refl; answer-desk = refl; answer-cell = refl; slot-stays = refl })
    (record { answer-kind = refl; answer-desks = refl; answer-desk = refl; answer-cell = refl; slot-stays = refl })
