-- The owner rules as the code does them where the table lies: cell by cell and seat by seat. Each is the rule, for an event that is not refused.
-- Assumes nothing.
use Rattle.std.specs.Prelude.{◌≡◌, Bool, cond, ℕ, ◌+◌, ◌*◌, ◌<◌, eqb}
use Rattle.std.proofs.Math.Path.{refl, sym, ap}
use Rattle.std.proofs.Common.{◌∙◌, arith}
use Rattle.std.proofs.Math.Bool.{true, false}
use Rattle.std.proofs.Math.Logic.{⊎_elim}
use borrow.Author.Tests.{eqb-true, eqb-false, eq-eqb, ne_eqb, lt-ltb}
use Rattle.std.proofs.Math.ListN.{length-set}
use Rattle.std.proofs.Math.Seq.{get_or-set_same}
use Rattle.clock.specs.Clock.{raised}
use Rattle.desk.specs.declared.Cell.{Cell}
use Rattle.desk.specs.declared.Event.{Event}
use Rattle.desk.specs.declared.Message.{Message}
use Rattle.desk.specs.declared.Record.{Record}
use Rattle.desk.specs.declared.Reply.{Reply}
use Rattle.desk.specs.declared.Seat.{Seat}
use Rattle.desk.specs.declared.Step.{Step}
use Rattle.desk.specs.Parts.{change_of, asked_for, asking_seat, raised_seat, read_reply, write_reply, own_reply, took_seat, answered_seat, home_seat, brought_cell, brought_reply}
use Rattle.desk.specs.Desk.{Word, no_word, no_cell, past_cell, cell_at, place_at, kept_by, keeps, held_cell, is_copy, left_at, left_of, loss_of, is_own}
use Rattle.desk.specs.Kept.{holds_row, no-cell-rule}
use Rattle.desk.specs.RuleLaws.{own_is, asked-kind}
use Rattle.desk.specs.Rules.{with_slot, with_seat, with_row, holds, takes, read_served, write_served, serve_done, brings, bring_done}
use Rattle.desk.specs.Rules.{read_asked, write_asked, read_rule, write_rule, drop_rule, event_done}
use Rattle.desk.specs.SameDesk.{SameDesk, seat-same, takes_same, serve-same}
use Rattle.desk.specs.SoundLaws.{RowRule}
use Rattle.theory_lists.specs.Each.{length-map_at}
use Rattle.table.specs.declared.Table.{Table}
use Rattle.table.specs.Changes.{with_cell, with_seat_of, lost_of, lost_count, put-none, cell-put, seat-put, lost-put, lost-count, put-put}
use Rattle.table.specs.Rows.{Sized, row-length, put-sized, put_same, put_other}
use Rattle.table.specs.RuleLaws.{Passed, pass, own-kind, here, take-asks, bring-asks, take-there, bring-there, own-there}
use Rattle.table.specs.Rules.{message_of, outcome, answer_slot, put_answer, keeper_step, take_rule, bring_rule, own_rule, refusal, done}
use Rattle.table.specs.SoundLaws.{entry-is}
use Rattle.table.specs.Table.{seat_of, slot_of, keeper_for, record_of, put_back}

-- ---- one change after others of the same desk
module _ (t : Table) (d : ℕ) (z : Sized t) (h : d < 8) (u : Record) (same : SameDesk (record_of t d) u) where
  then-sized : Sized (put_back t u)
  then-sized = put-sized t d u z h same

  then_is : record_of (put_back t u) d ≡ u
  then_is = put_same t d u z h same

  seat-then : (s : Seat) → with_seat_of (put_back t u) d s ≡ put_back t (with_seat u s)
  seat-then s =
      seat-put (put_back t u) d then-sized h s
      ∙ ap (λ (w : Record). put_back (put_back t u) (with_seat w s)) then_is
      ∙ put-put t d z h u (with_seat u s) same
      (record { same-tray = same.same-tray; same_number = same.same_number; same_length = same.same_length })

  cell-then : (c : ℕ) (x : Cell) → c < 32 → with_cell (put_back t u) (d * 32 + c) x ≡ put_back t (holds u c x)
  cell-then c x i =
      cell-put (put_back t u) d then-sized h c x i
      ∙ ap (λ (w : Record). put_back (put_back t u) (holds w c x)) then_is
      ∙ put-put t d z h u (holds u c x) same
      (record { same-tray = same.same-tray; same_number = same.same_number; same_length = length-set u.row c x ∙ same.same_length })

-- ---- a write stored
unfoldable pub store_in : Table → ℕ → ℕ → Seat → Word → Table
store_in t d c s w = with_cell (with_seat_of t d s) (d * 32 + c) (held_cell w s.clock)

pub store_in_lem : (t : Table) (d c : ℕ) (s : Seat) (w : Word) → Sized t → d < 8 → c < 32
    → store_in t d c s w ≡ put_back t (holds (with_seat (record_of t d) s) c (held_cell w s.clock))
unfolding store_in
store_in_lem t d c s w z h i =
    ap (λ (u : Table). with_cell u (d * 32 + c) (held_cell w s.clock)) (seat-put t d z h s)
    ∙ cell-then t d z h (with_seat (record_of t d) s) (seat-same (record_of t d) s) c (held_cell w s.clock) i

unfoldable pub take_write_in : Table → ℕ → ℕ → Seat → Table
take_write_in t k c s = store_in (lost_of t k s.slot.clock) k c (took_seat (seat_of t k) s.slot.clock) s.slot.word

-- the table once the keeper has served
unfoldable pub served_in : Table → ℕ → Table
served_in t d = cond (eqb (slot_of t d).kind 2) (take_write_in t (keeper_for t d) (slot_of t d).cell (seat_of t d)) t

unfoldable pub take_in : Table → ℕ → Table
take_in t d =
    with_seat_of (served_in t d) d (answered_seat (seat_of t d) (cell_at (served_in t d).cells (keeper_for t d * 32 + (slot_of t d).cell)))

unfoldable pub take_count : Table → ℕ → ℕ
take_count t d = cond (eqb (slot_of t d).kind 2) (lost_count t (keeper_for t d) (slot_of t d).clock) 0

abbrev pub take_reply : Table → ℕ → Reply
take_reply t d = record { code = 0; value = no_word; count = take_count t d }

module _ (t : Table) (e : Event) (a : Passed t e) (k : e.kind ≡ 3) where
  abbrev d : ℕ
  d = e.desk

  abbrev by : ℕ
  by = keeper_for t d

  abbrev keeper : Record
  keeper = record_of t by

  abbrev m : Message
  m = message_of t d

  abbrev z : Sized t
  z = a.sound.sized

  d-below : d < 8
  d-below = here t e a

  by-below : by < 8
  by-below = (take-there t e a k).3

  cell_below : (slot_of t d).cell < 32
  cell_below = (take-there t e a k).1

  apart : d ≡ by → ⊥
  apart q = (take-asks t e a k).another (sym q)

  -- the keeper's step by a write
  write-in : take_write_in t by (slot_of t d).cell (seat_of t d) ≡ put_back t (takes keeper m)
  unfolding take_write_in takes message_of record_of store_in left_of
  write-in =
      let sent = (slot_of t d).clock in
      let left = with_row keeper (left_of t.tray by sent keeper.row) in
      let s = took_seat (seat_of t by) sent in
      let same : SameDesk keeper left = record { same-tray = refl; same_number = refl; same_length = length-map_at (left_at t.tray by sent) keeper.row } in
      let stored = held_cell (slot_of t d).word s.clock in
      ap (λ (u : Table). with_cell (with_seat_of u by s) (by * 32 + (slot_of t d).cell) stored)
      (lost-put t by z by-below a.sound.tray-is.cells-most (a.sound.row_is by by-below) sent)
      ∙ ap (λ (u : Table). with_cell u (by * 32 + (slot_of t d).cell) stored) (seat-then t by z by-below left same s)
      ∙ cell-then t by z by-below (with_seat left s)
      (record { same-tray = refl; same_number = refl; same_length = same.same_length }) (slot_of t d).cell stored cell_below

  -- the keeper has served: its record is put back, and what it holds is what it answers with
  pub record Serves (u : Table) (step : Step) : Type 0 where
    pub put : u ≡ put_back t step.after
    pub shows : answered_seat (seat_of t d) (cell_at u.cells (by * 32 + (slot_of t d).cell))
        ≡ with_slot (seat_of t d) (answer_slot step.message) (seat_of t d).served

  -- the answer stands in the asker's slot
  pub answer-in : (u : Table) → Serves u (keeper_step t d)
      → with_seat_of u d (answered_seat (seat_of t d) (cell_at u.cells (by * 32 + (slot_of t d).cell))) ≡ (take_rule t d).after
  unfolding take_rule put_answer keeper_step record_of
  answer-in u s =
      let after = (keeper_step t d).after in
      let same = serve-same keeper m in
      let put = put-sized t by after z by-below same in
      let asker = put_other t by after z by-below same d apart in
      ap (with_seat_of u d) s.shows
      ∙ ap (λ (x : Table). with_seat_of x d (with_slot (seat_of t d) (answer_slot (keeper_step t d).message) (seat_of t d).served)) s.put
      ∙ seat-put (put_back t after) d put d-below (with_slot (seat_of t d) (answer_slot (keeper_step t d).message) (seat_of t d).served)
      ∙ ap (λ (w : Record). put_back (put_back t after) (with_seat (record_of (put_back t after) d) (with_slot w.seat (answer_slot (keeper_step t d).message) w.seat.served)))
      (sym asker)

  -- what a cell of the table shows once the keeper's record is put back
  cell-shown : (w : Record) → SameDesk keeper w → cell_at (put_back t w).cells (by * 32 + (slot_of t d).cell) ≡ cell_at w.row (slot_of t d).cell
  cell-shown w same =
      sym (entry-is (put_back t w) by (slot_of t d).cell cell_below)
      ∙ ap (λ (x : Record). cell_at x.row (slot_of t d).cell) (put_same t by w z by-below same)

  pub write-serves : (slot_of t d).kind ≡ 2 → Serves (served_in t d) (keeper_step t d)
  unfolding served_in keeper_step serve_done write_served message_of record_of takes left_of
  write-serves q =
      let w = takes keeper m in
      let shown =
      cell-shown w (takes_same keeper m)
      ∙ get_or-set_same (left_of t.tray by (slot_of t d).clock keeper.row) (slot_of t d).cell (held_cell (slot_of t d).word w.seat.clock) past_cell
      (omega (arith, length-map_at (left_at t.tray by (slot_of t d).clock) keeper.row, row-length t by z by-below, cell_below)) in
      rw (eq-eqb (slot_of t d).kind 2 q, ne_eqb (slot_of t d).kind 1 (omega arith))
      (record {
        put = write-in;
        shows = ap (λ (u : Table). answered_seat (seat_of t d) (cell_at u.cells (by * 32 + (slot_of t d).cell))) write-in ∙ ap (answered_seat (seat_of t d)) shown;
      })

  pub read-serves : (slot_of t d).kind ≡ 1 → Serves (served_in t d) (keeper_step t d)
  unfolding served_in keeper_step serve_done read_served message_of record_of
  read-serves q =
      rw (ne_eqb (slot_of t d).kind 2 (omega arith), eq-eqb (slot_of t d).kind 1 q)
      (record {
        put = sym (put-none t by z by-below);
        shows = ap (answered_seat (seat_of t d)) (sym (entry-is t by (slot_of t d).cell cell_below));
      })

  pub take-reply : take_reply t d ≡ (take_rule t d).reply
  unfolding take_count take_rule keeper_step serve_done read_served write_served message_of record_of
  take-reply =
      ⊎_elim
      (λ q. rw (ne_eqb (slot_of t d).kind 2 (omega arith), eq-eqb (slot_of t d).kind 1 q))
      (λ q.
      rw (
        eq-eqb (slot_of t d).kind 2 q,
        ne_eqb (slot_of t d).kind 1 (omega arith),
        lost-count t by z by-below a.sound.tray-is.cells-most (a.sound.row_is by by-below) (slot_of t d).clock,
      ))
      (asked-kind (slot_of t d) (a.seat.asked k))

-- the table without the named cell
abbrev pub without : Table → ℕ → Table
without t d = with_cell t (d * 32 + (slot_of t d).cell) no_cell

unfoldable pub bring_in : Table → ℕ → Table
bring_in t d =
    let s = seat_of t d in
    with_seat_of
    (with_cell (lost_of (without t d) d s.slot.clock) (d * 32 + s.slot.cell) (brought_cell s.served s.slot.word s.slot.clock))
    d (home_seat s s.slot.clock)

unfoldable pub bring_count : Table → ℕ → ℕ
bring_count t d = lost_count (without t d) d (slot_of t d).clock

abbrev pub bring_reply : Table → ℕ → Reply
bring_reply t d =
    let s = slot_of t d in
    brought_reply s.kind s.word s.clock (bring_count t d)

module _ (t : Table) (e : Event) (a : Passed t e) (k : e.kind ≡ 4) where
  abbrev own : Record
  own = record_of t e.desk

  abbrev answer : Message
  answer = message_of t e.desk

  abbrev bare : Record
  bare = holds own (slot_of t e.desk).cell no_cell

  bare-same : SameDesk own bare
  bare-same = record { same-tray = refl; same_number = refl; same_length = length-set own.row (slot_of t e.desk).cell no_cell }

  bare-put : without t e.desk ≡ put_back t bare
  bare-put = cell-put t e.desk a.sound.sized (here t e a) (slot_of t e.desk).cell no_cell (bring-there t e a k).1

  bare-sized : Sized (put_back t bare)
  bare-sized = put-sized t e.desk bare a.sound.sized (here t e a) bare-same

  bare-is : record_of (put_back t bare) e.desk ≡ bare
  bare-is = put_same t e.desk bare a.sound.sized (here t e a) bare-same

  bare-row : RowRule (record_of (put_back t bare) e.desk)
  unfolding record_of
  bare-row =
      rw bare-is
      (holds_row own (slot_of t e.desk).cell no_cell (a.sound.row_is e.desk (here t e a))
      (no-cell-rule t.tray e.desk (slot_of t e.desk).cell (bring-asks t e a k).not-kept))

  pub bring-in : bring_in t e.desk ≡ (bring_rule t e.desk).after
  unfolding bring_in bring_rule outcome bring_done brings message_of record_of put_back left_of
  bring-in =
      let z = a.sound.sized in
      let d = e.desk in
      let s = seat_of t d in
      let c = s.slot.cell in
      let stamp = s.slot.clock in
      let x = brought_cell s.served s.slot.word stamp in
      let left = with_row bare (left_of t.tray d stamp bare.row) in
      let same : SameDesk own left =
      record {
        same-tray = refl;
        same_number = refl;
        same_length = length-map_at (left_at t.tray d stamp) bare.row ∙ bare-same.same_length;
      } in
      let lost : lost_of (without t d) d stamp ≡ put_back t left =
      ap (λ (u : Table). lost_of u d stamp) bare-put
      ∙ lost-put (put_back t bare) d bare-sized (here t e a) a.sound.tray-is.cells-most bare-row stamp
      ∙ ap (λ (w : Record). put_back (put_back t bare) (with_row w (left_of t.tray d stamp w.row))) bare-is
      ∙ put-put t d z (here t e a) bare left bare-same same in
      ap (λ (u : Table). with_seat_of (with_cell u (d * 32 + c) x) d (home_seat s stamp)) lost
      ∙ ap (λ (u : Table). with_seat_of u d (home_seat s stamp)) (cell-then t d z (here t e a) left same c x (bring-there t e a k).1)
      ∙ seat-then t d z (here t e a) (holds left c x)
      (record { same-tray = refl; same_number = refl; same_length = length-set left.row c x ∙ same.same_length }) (home_seat s stamp)

  pub bring-reply : bring_reply t e.desk ≡ (bring_rule t e.desk).reply
  unfolding bring_count bring_rule outcome bring_done message_of record_of put_back
  bring-reply =
      let d = e.desk in
      let stamp = (slot_of t d).clock in
      let count =
      ap (λ (u : Table). lost_count u d stamp) bare-put
      ∙ lost-count (put_back t bare) d bare-sized (here t e a) a.sound.tray-is.cells-most bare-row stamp
      ∙ ap (λ (w : Record). loss_of t.tray d stamp w.row) bare-is in
      λ i. record { code = (bring_reply t d).code; value = (slot_of t d).word; count = count i }

-- ---- 1 Read, 2 Write, 5 Drop
-- the cell of desk d that an event names, and whether the desk keeps it
abbrev pub cell_in : Table → ℕ → ℕ → Cell
cell_in t d c = cell_at t.cells (d * 32 + c)

abbrev pub kept_in : Table → ℕ → ℕ → Bool
kept_in t d c = kept_by (place_at t.tray c) d

abbrev pub change_in : Table → ℕ → ℕ → Event → ℕ
change_in t d c e = change_of (kept_in t d c) (cell_in t d c) e

abbrev pub asked_in : Table → ℕ → ℕ → Event → Table
asked_in t d c e = cond (eqb (change_in t d c e) 1) (with_seat_of t d (asking_seat (seat_of t d) d e)) t

abbrev pub stored_in : Table → ℕ → ℕ → Event → Table
stored_in t d c e = cond (eqb (change_in t d c e) 2) (store_in (asked_in t d c e) d c (raised_seat (seat_of t d) d) e.word) (asked_in t d c e)

unfoldable pub own_in : Table → ℕ → ℕ → Event → Table
own_in t d c e = cond (eqb (change_in t d c e) 3) (with_cell (stored_in t d c e) (d * 32 + c) no_cell) (stored_in t d c e)

unfoldable pub own_reply_in : Table → ℕ → ℕ → Event → Reply
own_reply_in t d c e = own_reply (kept_in t d c) (cell_in t d c) e

module _ (t : Table) (e : Event) (a : Passed t e) (o : is_own e ≡ true) where
  abbrev mine : Record
  mine = record_of t e.desk

  abbrev x : Cell
  x = cell_in t e.desk e.cell

  abbrev kept : Bool
  kept = kept_in t e.desk e.cell

  abbrev sized : Sized t
  sized = a.sound.sized

  below : e.cell < 32
  below = (own-there t e a o).1

  named-is : cell_at mine.row e.cell ≡ x
  named-is = entry-is t e.desk e.cell below

  kept-is : keeps t.tray e.desk e.cell ≡ kept
  unfolding keeps
  kept-is = rw (lt-ltb e.cell t.tray.counts.cells (a.seat.in-range o))

  -- what the code makes is what the rule says
  abbrev Is : Type 0
  Is = (own_in t e.desk e.cell e ≡ (own_rule t e).after) × (own_reply_in t e.desk e.cell e ≡ (own_rule t e).reply)

  read_is : e.kind ≡ 1 → Is
  unfolding own_in own_reply_in own_reply read_reply own_rule outcome event_done read_rule change_of asked_for record_of
  read_is k = go x.held refl
    where
      go : (b : Bool) → x.held ≡ b → Is
      go true q = rw (eq-eqb e.kind 1 k, named-is, q) (sym (put-none t e.desk sized (here t e a)), refl)
      go false q =
          rw (eq-eqb e.kind 1 k, named-is, q)
          (seat-put t e.desk sized (here t e a) (with_slot (seat_of t e.desk) (read_asked e.cell) false), refl)

  write-is : e.kind ≡ 2 → Is
  unfolding own_in own_reply_in own_reply write_reply own_rule outcome event_done write_rule change_of asked_for record_of
  write-is k = go kept refl
    where
      go : (b : Bool) → kept ≡ b → Is
      go true q =
          rw (ne_eqb e.kind 1 (omega arith), eq-eqb e.kind 2 k, kept-is, q)
          (store_in_lem t e.desk e.cell (raised_seat (seat_of t e.desk) e.desk) e.word sized (here t e a) below, refl)
      go false q =
          rw (ne_eqb e.kind 1 (omega arith), eq-eqb e.kind 2 k, kept-is, q) (
            seat-put t e.desk sized (here t e a)
                (with_slot (seat_of t e.desk) (write_asked e.cell e.word (raised (seat_of t e.desk).clock e.desk)) false),
            refl,
          )

  drop-is : e.kind ≡ 5 → Is
  unfolding own_in own_reply_in own_reply own_rule outcome event_done drop_rule change_of is_copy record_of
  drop-is k =
      rw (ne_eqb e.kind 1 (omega arith), ne_eqb e.kind 2 (omega arith), kept-is, named-is)
      (cell-put t e.desk sized (here t e a) e.cell no_cell below, refl)

  pub own_in_lem : (own_in t e.desk e.cell e ≡ (own_rule t e).after) × (own_reply_in t e.desk e.cell e ≡ (own_rule t e).reply)
  own_in_lem = ⊎_elim read_is (⊎_elim write-is drop-is) (own_is e o)

-- ---- an event that is not refused, by the tests that the code makes
module _ (t : Table) (e : Event) (z : Sized t) (none : refusal t e ≡ 0) where
  abbrev passed : Passed t e
  passed = pass t e z none

  module _ (p : eqb e.kind 3 ≡ false) where
    pub done-bring : eqb e.kind 4 ≡ true → (bring_reply t e.desk ≡ (done t e).reply) × (bring_in t e.desk ≡ (done t e).after)
    unfolding done
    done-bring q = let k = eqb-true e.kind 4 q in rw (p, q) (bring-reply t e passed k, bring-in t e passed k)

    module _ (q : eqb e.kind 4 ≡ false) where
      pub is-own-kind : is_own e ≡ true
      is-own-kind = own-kind e passed.kind.0 passed.kind.1 (eqb-false e.kind 3 p) (eqb-false e.kind 4 q)

      pub done-own : (own_reply_in t e.desk e.cell e ≡ (done t e).reply) × (own_in t e.desk e.cell e ≡ (done t e).after)
      unfolding done
      done-own = let o = own_in_lem t e passed is-own-kind in rw (p, q) (o.1, o.0)
