-- A desk's steps by what they make of a seat and of a cell. Record and table are changed through these, where they lie.
-- Assumes nothing.
use Rattle.std.specs.Prelude.{Bool, false, not, ◌&&◌, cond, ◌≡◌, ℕ, eqb}
use Rattle.std.proofs.Math.Decide.{ℕ_discrete}
use Rattle.std.proofs.Common.{arith, eq-eqb, ne_eqb}
use Rattle.clock.specs.declared.Clock.{Clock}
use Rattle.clock.specs.Clock.{merged, is_before, raised}
use Rattle.theory_lists.specs.Test.{whichever}
use Rattle.desk.specs.declared.Answer.{Answer}
use Rattle.desk.specs.declared.Cell.{Cell}
use Rattle.desk.specs.declared.Counts.{Counts}
use Rattle.desk.specs.declared.Event.{Event}
use Rattle.desk.specs.declared.Message.{Message}
use Rattle.desk.specs.declared.Reply.{Reply}
use Rattle.desk.specs.declared.Seat.{Seat}
use Rattle.desk.specs.declared.Slot.{Slot}
use Rattle.desk.specs.Desk.{Word, no_word, is_blank, no_cell, no_slot, no_message, one_if, held_cell, answer_kind}
use Rattle.desk.specs.Rules.{with_clock, with_slot, shown_code, refused_reply, read_asked, write_asked, answer_to, marked_served}

-- ---- an own event
-- what it changes: 0 nothing, 1 the desk asks, 2 it stores, 3 it gives up
unfoldable pub change_of : Bool → Cell → Event → ℕ
change_of kept x e = cond (eqb e.kind 1) (cond x.held 0 1) (cond (eqb e.kind 2) (cond kept 2 1) 3)

-- the request, and the seat that it stands in
unfoldable pub asked_for : Seat → ℕ → Event → Slot
asked_for s desk e = cond (eqb e.kind 1) (read_asked e.cell) (write_asked e.cell e.word (raised s.clock desk))

abbrev pub asking_seat : Seat → ℕ → Event → Seat
asking_seat s desk e = with_slot s (asked_for s desk e) false

-- the keeper's seat at its own write
abbrev pub raised_seat : Seat → ℕ → Seat
raised_seat s desk = with_clock s (raised s.clock desk)

abbrev pub reply_of : ℕ → Word → ℕ → Reply
reply_of code value count = record { code = code; value = value; count = count }

unfoldable pub read_reply : Cell → Reply
read_reply x = cond x.held (reply_of (shown_code (is_blank x.stamp)) x.word 0) (reply_of 1 no_word 0)

unfoldable pub write_reply : Bool → Word → Reply
write_reply kept w = cond kept (reply_of 0 w 0) (reply_of 1 no_word 0)

unfoldable pub own_reply : Bool → Cell → Event → Reply
own_reply kept x e =
    cond (eqb e.kind 1) (read_reply x)
    (cond (eqb e.kind 2) (write_reply kept e.word)
    (reply_of 0 no_word (one_if (x.held && not kept))))

-- a desk asks only at a read or a write, and stores only at a write
pub change-asks : (kept : Bool) (x : Cell) (e : Event) → change_of kept x e ≡ 1 → (e.kind ≡ 1 → ⊥) → e.kind ≡ 2
unfolding change_of
change-asks kept x e q ne =
    elim (ℕ_discrete e.kind 2) [
      | yes k ↦ k
      | no k ↦ absurd (omega (arith, rw (ne_eqb e.kind 1 ne, ne_eqb e.kind 2 k) at q))
    ]

pub change-stores : (kept : Bool) (x : Cell) (e : Event) → change_of kept x e ≡ 2 → e.kind ≡ 2
unfolding change_of
change-stores kept x e q =
    elim (ℕ_discrete e.kind 1) [
      | yes k ↦ absurd (whichever (λ (n : ℕ). n ≡ 2 → ⊥) x.held 0 1 (omega arith) (omega arith) (rw (eq-eqb e.kind 1 k) at q))
      | no k ↦ elim (ℕ_discrete e.kind 2) [
        | yes l ↦ l
        | no l ↦ absurd (omega (arith, rw (ne_eqb e.kind 1 k, ne_eqb e.kind 2 l) at q))
      ]
    ]

-- ---- serving, and bringing
-- the keeper's seat once it has taken a write
abbrev pub took_seat : Seat → Clock → Seat
took_seat s sent = with_clock (marked_served s) (merged s.clock sent)

-- the asker's seat with what its keeper's cell answers
abbrev pub answered_seat : Seat → Cell → Seat
answered_seat s x = with_slot s (record { kind = answer_kind s.slot.kind; cell = s.slot.cell; word = x.word; clock = x.stamp }) s.served

-- a seat that has its answer, and the cell that the answer names
abbrev pub home_seat : Seat → Clock → Seat
home_seat s stamp = with_slot (with_clock s (merged s.clock stamp)) no_slot false

abbrev pub brought_cell : Bool → Word → Clock → Cell
brought_cell served word stamp = cond served no_cell (held_cell word stamp)

abbrev pub brought_reply : ℕ → Word → Clock → ℕ → Reply
brought_reply kind word stamp count = reply_of (shown_code (eqb kind 3 && is_blank stamp)) word count

-- a copy's fate, told whether its desk keeps the cell
abbrev pub loses_if : Bool → Clock → Cell → Bool
loses_if kept learnt x = x.held && not kept && is_before x.stamp learnt

-- ---- a record's steps: what they answer
abbrev pub refused_answer : ℕ → Answer
refused_answer n = record { reply = refused_reply n; message = no_message }

-- a desk that asks (change 1) sends what stands in its slot
unfoldable pub asked_message : ℕ → Counts → ℕ → Slot → Message
asked_message change n desk s =
    cond (eqb change 1) (record { kind = s.kind; desks = n.desks; desk = desk; cell = s.cell; word = s.word; clock = s.clock }) no_message

unfoldable pub own_answer : Bool → Cell → Event → Counts → ℕ → Slot → Answer
own_answer kept x e n desk s = record { reply = own_reply kept x e; message = asked_message (change_of kept x e) n desk s }

-- a keeper answers with what its cell now has
abbrev pub served_answer : ℕ → Message → Cell → Answer
served_answer count m x = record { reply = reply_of 0 no_word count; message = answer_to m x.word x.stamp }

abbrev pub brought_answer : ℕ → Message → Answer
brought_answer count m = record { reply = brought_reply m.kind m.word m.clock count; message = no_message }
