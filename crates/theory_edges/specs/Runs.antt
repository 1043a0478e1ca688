-- Runs, event by event with their replies, as 01's whole case is. Above each stands which wrong rules it rules out. The program and the independent twin
-- give the same replies.
-- Assumes nothing.
use Rattle.std.specs.Prelude.{◌≡◌, refl, List, [], ◌∷◌, map, ℕ, replicate, take as first}
use Rattle.clock.specs.declared.Clock.{Clock}
use Rattle.desk.specs.declared.Cell.{Cell}
use Rattle.desk.specs.declared.Event.{Event}
use Rattle.desk.specs.declared.Plan.{Plan}
use Rattle.desk.specs.declared.Reply.{Reply}
use Rattle.desk.specs.Desk.{Word, no_cell, held_cell}
use Rattle.table.specs.Rules.{event_rule}
use Rattle.table.specs.Table.{seat_of, record_of}
use Rattle.theory_promise.specs.Operations.{Account}
use Rattle.theory_promise.specs.Played.{event, reply, plan, played}
use Rattle.theory_edges.specs.Edges.{clock}

-- the five events
abbrev read : (desk cell : ℕ) → Event
read p c = event 1 p c 0

abbrev write : (desk cell : ℕ) → Word → Event
write p c w = event 2 p c w

abbrev take : (desk : ℕ) → Event
take p = event 3 p 0 0

abbrev bring : (desk : ℕ) → Event
bring p = event 4 p 0 0

abbrev drop : (desk cell : ℕ) → Event
drop p c = event 5 p c 0

-- a run: what it starts from, and each event with its reply
pub record Run : Type 0 where
  pub start : Plan
  pub turns : List (Event × Reply)

unfoldable pub ran : Run → Account
unfolding played
ran r = played event_rule r.start (map (λ (x : Event × Reply). x.0) r.turns)

-- the rules reply so
abbrev Replied : Run → Type 0
Replied r = (ran r).replies ≡ map (λ (x : Event × Reply). x.1) r.turns

-- after the run, desk p's cells and its clock
abbrev cells_after : Run → (desk : ℕ) → List Cell
cells_after r p = first r.start.cells (record_of (ran r).table p).row

abbrev clock_after : Run → (desk : ℕ) → Clock
clock_after r p = (seat_of (ran r).table p).clock

-- A copy that is only beside the stamp of a bring, or beside the sent clock of a take, stays; the one strictly before it goes.
-- Rules out: dropping what is beside; dropping every copy at a bring or a take.
unfoldable pub beside : Run
beside =
    record {
      start = plan 3 3 (0 ∷ 1 ∷ 2 ∷ replicate 29 0);
      turns =
          (write 0 0 1, reply 0 1 0)
          ∷ (write 1 1 2, reply 0 2 0)
          ∷ (read 2 0, reply 1 0 0)
          ∷ (take 2, reply 0 0 0)
          ∷ (bring 2, reply 0 1 0)
          ∷ (read 2 1, reply 1 0 0)
          ∷ (take 2, reply 0 0 0)
          ∷ (bring 2, reply 0 2 0)
          ∷ (read 2 0, reply 0 1 0)
          ∷ (read 2 1, reply 0 2 0)
          ∷ (write 0 2 3, reply 1 0 0)
          ∷ (take 0, reply 0 0 1)
          ∷ (bring 0, reply 0 3 0)
          ∷ (read 2 1, reply 0 2 0)
          ∷ (read 2 0, reply 1 0 0)
          ∷ [];
    }

pub beside-run : Replied beside
    × (cells_after beside 2 ≡ no_cell ∷ held_cell 2 (clock (0 ∷ 1 ∷ [])) ∷ held_cell 3 (clock (2 ∷ 1 ∷ [])) ∷ [])
unfolding ran beside
beside-run = (refl, refl)

-- Two blanks have equal stamps, so the first copy stays when the second is brought. Then desk 1 writes a cell of which it has a copy: at the bring the
-- copy of the other cell is dropped and counted, the old one of this cell is not counted. The answer, without *served*, is held and read with code 0.
-- Rules out: dropping what is equal; counting the named cell's old copy; not holding the answer to an own write.
unfoldable pub equal : Run
equal =
    record {
      start = plan 2 2 (0 ∷ 0 ∷ replicate 30 0);
      turns =
          (read 1 0, reply 1 0 0)
          ∷ (take 1, reply 0 0 0)
          ∷ (bring 1, reply 2 0 0)
          ∷ (read 1 1, reply 1 0 0)
          ∷ (take 1, reply 0 0 0)
          ∷ (bring 1, reply 2 0 0)
          ∷ (read 1 0, reply 2 0 0)
          ∷ (read 1 1, reply 2 0 0)
          ∷ (write 1 0 31, reply 1 0 0)
          ∷ (take 1, reply 0 0 0)
          ∷ (bring 1, reply 0 31 1)
          ∷ (read 1 0, reply 0 31 0)
          ∷ (write 1 0 42, reply 1 0 0)
          ∷ (take 1, reply 0 0 0)
          ∷ (bring 1, reply 0 42 0)
          ∷ (read 1 0, reply 0 42 0)
          ∷ (drop 1 0, reply 0 0 1)
          ∷ (drop 1 0, reply 0 0 0)
          ∷ (read 1 1, reply 1 0 0)
          ∷ [];
    }

pub equal-run : Replied equal
unfolding ran equal
equal-run = refl

-- Desk 0 keeps cells 0 and 2 and has a copy of cell 1. It writes cell 0 itself, which drops nothing. Then it takes desk 2's write of cell 2: its copy,
-- of stamp (0,1,0), is strictly before the merged clock (1,1,1) and not before the sent one, (0,0,1), and stays. The answer has the merged clock.
-- Rules out: dropping at a take what is before the merged clock; dropping at the keeper's own write; answering a write with the sent clock.
unfoldable pub sent : Run
sent =
    record {
      start = plan 3 3 (0 ∷ 1 ∷ 0 ∷ replicate 29 0);
      turns =
          (write 1 1 5, reply 0 5 0)
          ∷ (read 0 1, reply 1 0 0)
          ∷ (take 0, reply 0 0 0)
          ∷ (bring 0, reply 0 5 0)
          ∷ (write 0 0 7, reply 0 7 0)
          ∷ (write 2 2 8, reply 1 0 0)
          ∷ (take 2, reply 0 0 0)
          ∷ (read 0 1, reply 0 5 0)
          ∷ (bring 2, reply 0 8 0)
          ∷ [];
    }

pub sent-run : Replied sent
    × (cells_after sent 0 ≡ held_cell 7 (clock (1 ∷ 1 ∷ [])) ∷ held_cell 5 (clock (0 ∷ 1 ∷ [])) ∷ held_cell 8 (clock (1 ∷ 1 ∷ 1 ∷ [])) ∷ [])
    × (cells_after sent 2 ≡ no_cell ∷ no_cell ∷ held_cell 8 (clock (1 ∷ 1 ∷ 1 ∷ [])) ∷ [])
unfolding ran sent
sent-run = (refl, refl, refl)

-- Desk 1 reads cell 1, of stamp (1,0,0), when its keeper's clock is (3,0,0). Its copy of cell 0, of stamp (2,0,0), is before that clock and not before
-- that stamp, and stays; its clock is merged with the stamp. What its keeper writes after the take does not show.
-- Rules out: answering a read with the keeper's clock; answering it with the word at the bring.
unfoldable pub stamped : Run
stamped =
    record {
      start = plan 3 3 (0 ∷ 0 ∷ 1 ∷ replicate 29 0);
      turns =
          (write 0 1 6, reply 0 6 0)
          ∷ (write 0 0 5, reply 0 5 0)
          ∷ (write 1 2 4, reply 0 4 0)
          ∷ (read 1 0, reply 1 0 0)
          ∷ (take 1, reply 0 0 0)
          ∷ (bring 1, reply 0 5 0)
          ∷ (write 0 0 7, reply 0 7 0)
          ∷ (read 1 1, reply 1 0 0)
          ∷ (take 1, reply 0 0 0)
          ∷ (write 0 1 8, reply 0 8 0)
          ∷ (bring 1, reply 0 6 0)
          ∷ (read 1 0, reply 0 5 0)
          ∷ (read 1 1, reply 0 6 0)
          ∷ [];
    }

pub stamped-run : Replied stamped
    × (cells_after stamped 1 ≡ held_cell 5 (clock (2 ∷ [])) ∷ held_cell 6 (clock (1 ∷ [])) ∷ held_cell 4 (clock (0 ∷ 1 ∷ [])) ∷ [])
    × (clock_after stamped 1 ≡ clock (2 ∷ 1 ∷ []))
unfolding ran stamped
stamped-run = (refl, refl, refl)

-- Both desks serve a write while they wait, desk 0 asked and desk 1 answered. Desk 1 has written cell 0 again; its old copy is beside the clock sent to
-- it, so it goes at the bring, not counted, and the answer is not held. The next answers are held: *served* was cleared, and a read served does not set it.
-- Rules out: keeping the answer or the old copy where *served* is on; counting the old copy; *served* at a read, or left at the bring;
-- raising the writer's own clock when it asks: the stamp of cell 1 would be (1,2).
unfoldable pub served : Run
served =
    record {
      start = plan 2 2 (0 ∷ 1 ∷ replicate 30 0);
      turns =
          (write 1 0 31, reply 1 0 0)
          ∷ (write 0 1 33, reply 1 0 0)
          ∷ (take 1, reply 0 0 0)
          ∷ (bring 1, reply 0 31 0)
          ∷ (write 1 0 42, reply 1 0 0)
          ∷ (take 1, reply 0 0 0)
          ∷ (take 0, reply 0 0 0)
          ∷ (bring 1, reply 0 42 0)
          ∷ (read 1 0, reply 1 0 0)
          ∷ (take 1, reply 0 0 0)
          ∷ (bring 0, reply 0 33 0)
          ∷ (read 0 1, reply 1 0 0)
          ∷ (take 0, reply 0 0 0)
          ∷ (bring 1, reply 0 42 0)
          ∷ (read 1 0, reply 0 42 0)
          ∷ (bring 0, reply 0 33 0)
          ∷ (read 0 1, reply 0 33 0)
          ∷ [];
    }

pub served-run : Replied served
    × (cells_after served 1 ≡ held_cell 42 (clock (0 ∷ 2 ∷ [])) ∷ held_cell 33 (clock (1 ∷ 1 ∷ [])) ∷ [])
unfolding ran served
served-run = (refl, refl)

-- An equator sheet: cell 0 is the latitude, which is 0, cell 1 the longitude. Before it is written the latitude is blank at its keeper and in desk 1's
-- copy; then a 0 is read, by its keeper, by an answer and from a copy, with code 0; and so is a 0 that another desk wrote. The writer is told code 0.
-- Rules out: blank by the word at a read or at a bring; code 2 for a write; code 0 for a blank.
unfoldable pub equator : Run
equator =
    record {
      start = plan 2 2 (0 ∷ 0 ∷ replicate 30 0);
      turns =
          (read 0 0, reply 2 0 0)
          ∷ (read 1 0, reply 1 0 0)
          ∷ (take 1, reply 0 0 0)
          ∷ (bring 1, reply 2 0 0)
          ∷ (write 0 0 0, reply 0 0 0)
          ∷ (read 0 0, reply 0 0 0)
          ∷ (read 0 1, reply 2 0 0)
          ∷ (read 1 0, reply 2 0 0)
          ∷ (drop 1 0, reply 0 0 1)
          ∷ (read 1 0, reply 1 0 0)
          ∷ (take 1, reply 0 0 0)
          ∷ (bring 1, reply 0 0 0)
          ∷ (read 1 0, reply 0 0 0)
          ∷ (write 1 1 0, reply 1 0 0)
          ∷ (take 1, reply 0 0 0)
          ∷ (read 0 1, reply 0 0 0)
          ∷ (bring 1, reply 0 0 1)
          ∷ (read 1 1, reply 0 0 0)
          ∷ [];
    }

pub equator-run : Replied equator
unfolding ran equator
equator-run = refl

-- What is refused changes nothing, and the run goes on; where two lines apply, the earlier one decides.
-- Rules out: a refusal that fills or clears a slot; 8, 10, 11, 12 and 14 in another order.
unfoldable pub refused : Run
refused =
    record {
      start = plan 2 2 (0 ∷ 1 ∷ replicate 30 0);
      turns =
          (bring 1, reply 13 0 0)
          ∷ (take 1, reply 13 0 0)
          ∷ (read 1 0, reply 1 0 0)
          ∷ (read 1 1, reply 12 0 0)
          ∷ (read 1 2, reply 11 0 0)
          ∷ (bring 1, reply 13 0 0)
          ∷ (take 1, reply 0 0 0)
          ∷ (take 1, reply 13 0 0)
          ∷ (drop 1 1, reply 12 0 0)
          ∷ (bring 1, reply 2 0 0)
          ∷ (drop 1 1, reply 14 0 0)
          ∷ (write 0 0 5, reply 0 5 0)
          ∷ (write 2 2 9, reply 10 0 0)
          ∷ (event 6 2 0 0, reply 8 0 0)
          ∷ (event 0 0 0 0, reply 8 0 0)
          ∷ (read 0 0, reply 0 5 0)
          ∷ (drop 1 0, reply 0 0 1)
          ∷ (write 1 0 6, reply 1 0 0)
          ∷ (take 1, reply 0 0 0)
          ∷ (bring 1, reply 0 6 0)
          ∷ (read 1 0, reply 0 6 0)
          ∷ (drop 0 0, reply 14 0 0)
          ∷ (drop 0 1, reply 0 0 0)
          ∷ (drop 1 0, reply 0 0 1)
          ∷ [];
    }

pub refused-run : Replied refused
unfolding ran refused
refused-run = refl
