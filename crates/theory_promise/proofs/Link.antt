-- Every event of the table's rules, refused or not, is a move of the machine, and its reply gives what the history says.
-- Assumes nothing.
use Rattle.std.specs.Prelude.{◌≡◌, Bool, List, ℕ, zero, suc, ◌≤◌, ◌<◌, length}
use Rattle.std.proofs.Math.Path.{refl}
use Rattle.std.proofs.Common.{sym, arith, ne_eqb}
use Rattle.std.proofs.Math.Bool.{true, false, and-false}
use Rattle.std.proofs.Math.Logic.{⊎_elim}
use Rattle.theory_causal.specs.Facts.{zeros}
use Rattle.theory_causal.specs.History.{Step, nothing}
use Rattle.theory_causal.specs.Machine as machine
use Rattle.theory_causal.proofs.Run.Sources.{held-sourced, read-sourced}
use Rattle.desk.specs.declared.Event.{Event}
use Rattle.desk.specs.declared.Message.{Message}
use Rattle.desk.specs.declared.Record.{Record}
use Rattle.desk.specs.declared.Reply.{Reply}
use Rattle.desk.specs.declared.Slot.{Slot}
use Rattle.desk.specs.Desk.{Word, is_blank, cell_at, keeps, is_own}
use Rattle.desk.specs.RuleLaws.{asked-kind, answered-kind}
use Rattle.desk.specs.Rules.{shown_code, read_rule, write_rule, drop_rule, seat_lines, event_done, read_served, write_served, serve_done, bring_done}
use Rattle.desk.specs.SoundLaws.{keeps-in, is-keeper, no-keeper}
use Rattle.table.specs.declared.Outcome.{Outcome}
use Rattle.table.specs.declared.Table.{Table}
use Rattle.table.specs.Room.{Room}
use Rattle.table.specs.Rows.{row-length}
use Rattle.table.specs.RuleLaws.{Passed, pass, Asks, here, take-asks, bring-asks}
use Rattle.table.specs.Rules.{lines, refusal, outcome, message_of, own_rule, put_answer, keeper_step, take_rule, bring_rule, done, refused_with, event_rule}
use Rattle.table.specs.SoundLaws.{TableRule, desk-below}
use Rattle.table.specs.Table.{slot_of, keeper_for, record_of}
use Rattle.theory_refusals.specs.Refusals.{numbers_from, first-from, unless-either}
use Rattle.theory_promise.specs.Link.{Tied, Linked}
use Rattle.theory_promise.specs.Moves.{Moved}
use Rattle.theory_promise.specs.Moves.Alone.{drop-moved, read-moved, read-asked-moved, write-asked-moved, write-moved}
use Rattle.theory_promise.specs.Moves.Bring.{bring-read-moved, bring-write-moved}
use Rattle.theory_promise.specs.Moves.Take.{Two, answer-moved, take-moved}
use Rattle.theory_promise.specs.Operations.{words, Trails, is_finished, entry}
use Rattle.theory_promise.specs.State.{clash, held_of, slot_for, rows, state, slot-kind, held-cell, blank-from}

-- a read that shows a word is finished, blank or not
finished : (blank : Bool) → is_finished (shown_code blank) ≡ true
unfolding is_finished
finished true = refl
finished false = refl

-- a refusal is no code 0, 1 or 2, so the event is no operation
refused-entry : (n : ℕ) (g : Trails) (t : Table) (e : Event) (r : Reply) → 3 ≤ r.code → entry n g t e r ≡ (nothing, g)
unfolding entry is_finished
refused-entry n g t e r h =
    simp (ne_eqb r.code 0 (omega arith), ne_eqb r.code 1 (omega arith), ne_eqb r.code 2 (omega arith), and-false)

-- a desk holds what it keeps
holds_kept : (t : Table) → TableRule t → (q c : ℕ) → q < 8 → keeps t.tray q c ≡ true
    → (cell_at (record_of t q).row c).held ≡ true
unfolding record_of
holds_kept t r q c h k =
    ((r.row_is q h).cell-is c (omega (arith, keeps-in t.tray q c k, r.tray-is.cells-most, row-length t q r.sized h))).keeper-holds k

module _ {h : List (Step words)} (t : Table) (g : Trails) (z : Room t) (r : machine.Run h (state t g)) where
  abbrev n : ℕ
  n = length h

  linked-by : {e : Event} {o : Outcome} {m : Step words} {g' : Trails} → Moved n t g o.after g' m → entry n g t e o.reply ≡ (m, g')
      → Tied m o.reply → Linked t g z r e o
  linked-by moved i tied = record { moved = rw i moved; tied = rw i tied }

  refused-linked : (e : Event) (c : ℕ) → 3 ≤ c → Linked t g z r e (refused_with t c)
  refused-linked e c h =
      linked-by (record { learned = zeros; move = machine.refused n (state t g) })
      (refused-entry n g t e (refused_with t c).reply h) (λ k. clash (cc))

  abbrev event : (kind desk cell : ℕ) → Word → Event
  event k p c w = record { kind = k; desk = p; cell = c; word = w }

  -- what it is to be of an event that is not refused
  abbrev Done : (kind desk cell : ℕ) → Word → Type 0
  Done k p c w = Linked t g z r (event k p c w) (done t (event k p c w))

  module _ (p c : ℕ) (w : Word) where
    abbrev v : Record
    v = record_of t p

    -- ---- 1 Read, 2 Write, 5 Drop
    place : TableRule t → c < t.tray.counts.cells → c < 32
    place r i = omega (arith, r.tray-is.cells-most)

    read-linked : Passed t (event 1 p c w) → Done 1 p c w
    unfolding done own_rule outcome event_done read_rule entry is_finished is_own record_of
    read-linked a = go (cell_at v.row c).held refl
      where
        go : (b : Bool) → (cell_at v.row c).held ≡ b → Done 1 p c w
        go true i =
            let x = cell_at v.row c in
            rw i
            (linked-by (read-moved n t g z p (here t _ a) c (a.seat.idle refl) i) (rw (finished (is_blank x.stamp)))
            (λ k.
            record {
              value = refl;
              code = blank-from x.stamp ((g p).source c) (held-sourced r p c (held_of ((g p).source c) x.word x.stamp) (held-cell x ((g p).source c) i)).none;
            }))
        go false i = rw i (linked-by (read-asked-moved n t g z p (here t _ a) c (a.seat.idle refl)) refl (λ k. clash (cc)))

    write-linked : Passed t (event 2 p c w) → Done 2 p c w
    unfolding done own_rule outcome event_done write_rule entry is_own record_of
    write-linked a = go (keeps t.tray p c) refl
      where
        go : (b : Bool) → keeps t.tray p c ≡ b → Done 2 p c w
        go true i =
            rw i
            (linked-by
            (write-moved n t g z p (here t _ a) c (a.seat.idle refl) w (place a.sound (a.seat.in-range refl))
            (is-keeper t.tray p c i) (holds_kept t a.sound p c (here t _ a) i))
            refl (λ k. clash (cc)))
        go false i = rw i (linked-by (write-asked-moved n t g z p (here t _ a) c (a.seat.idle refl) w) refl (λ k. clash (cc)))

    drop-linked : Passed t (event 5 p c w) → Done 5 p c w
    unfolding done own_rule outcome event_done drop_rule entry is_own record_of
    drop-linked a =
        linked-by
        (drop-moved n t g z p (here t _ a) c (place a.sound (a.seat.in-range refl))
        (no-keeper t.tray p c (a.seat.not-kept refl) (a.seat.in-range refl)))
        refl (λ k. clash (cc))

    -- ---- 3 Take, 4 Bring: the slot is the message
    abbrev s : Slot
    s = slot_of t p

    abbrev sent : (kind : ℕ) → Message
    sent kind = record { kind = kind; desks = t.tray.counts.desks; desk = p; cell = s.cell; word = s.word; clock = s.clock }

    full : (kind : ℕ) → s.kind ≡ kind → (rows t g p).slot ≡ slot_for kind s (g p).answer
    unfolding record_of
    full = slot-kind s (g p).answer

    named : TableRule t → Asks t p → s.cell < 32
    named r q = omega (arith, q.cell-is, r.tray-is.cells-most)

    take-linked : Passed t (event 3 p c w) → Done 3 p c w
    unfolding done take_rule put_answer keeper_step serve_done read_served write_served message_of record_of entry slot_for
    take-linked a = ⊎_elim of-read of-write (asked-kind s (a.seat.asked refl))
      where
        q : Asks t p
        q = take-asks t _ a refl

        two : Two (keeper_for t p) p
        two = record {
          keeper = desk-below t a.sound (keeper_for t p) q.keeper-is;
          asker = here t _ a;
          apart = λ e. q.another (sym e);
        }

        had : (cell_at (record_of t (keeper_for t p)).row s.cell).held ≡ true
        had = holds_kept t a.sound (keeper_for t p) s.cell two.keeper q.keeps-it

        of-read : s.kind ≡ 1 → Done 3 p c w
        of-read i =
            rw i
            (linked-by (answer-moved n t g z (keeper_for t p) p two (sent 1) refl (named a.sound q) had (full 1 i)) (rw i) (λ k. clash (cc)))

        of-write : s.kind ≡ 2 → Done 3 p c w
        of-write i =
            rw i
            (linked-by
            (take-moved n t g z (keeper_for t p) p two (sent 2) refl (named a.sound q) had
            (a.sound.row_is (keeper_for t p) two.keeper) (full 2 i))
            (rw i) (λ k. clash (cc)))

    bring-linked : Passed t (event 4 p c w) → Done 4 p c w
    unfolding done bring_rule outcome bring_done message_of record_of entry is_finished slot_for
    bring-linked a = ⊎_elim of-read of-write (answered-kind s (a.seat.answered refl))
      where
        q : Asks t p
        q = bring-asks t _ a refl

        of-read : s.kind ≡ 3 → Done 4 p c w
        of-read i =
            rw i
            (linked-by
            (bring-read-moved n t g z p (here t _ a) (a.sound.row_is p (here t _ a)) (sent 3) (named a.sound q) q.another (full 3 i))
            (rw (i, finished (is_blank s.clock)))
            (λ k.
            record {
              value = refl;
              code = blank-from s.clock (g p).answer (read-sourced r p s.cell (held_of (g p).answer s.word s.clock) (full 3 i)).none;
            }))

        of-write : s.kind ≡ 4 → Done 4 p c w
        of-write i =
            rw i
            (linked-by
            (bring-write-moved n t g z p (here t _ a) (a.sound.row_is p (here t _ a)) (sent 4) (named a.sound q) q.another (full 4 i))
            (rw i) (λ k. clash (cc)))

  -- ---- every event
  by_kind : (k p c : ℕ) (w : Word) → Passed t (event k p c w) → Done k p c w
  by_kind zero p c w a = absurd (omega (arith, a.kind.0))
  by_kind (suc zero) p c w a = read-linked p c w a
  by_kind (suc (suc zero)) p c w a = write-linked p c w a
  by_kind (suc (suc (suc zero))) p c w a = take-linked p c w a
  by_kind (suc (suc (suc (suc zero)))) p c w a = bring-linked p c w a
  by_kind (suc (suc (suc (suc (suc zero))))) p c w a = drop-linked p c w a
  by_kind (suc (suc (suc (suc (suc (suc k)))))) p c w a = absurd (omega (arith, a.kind.1))

  pub linked : (e : Event) → Linked t g z r e (event_rule t e)
  unfolding event_rule refusal lines seat_lines numbers_from
  linked e =
      unless-either (refusal t e) (refused_with t) (done t e) (Linked t g z r e)
      (λ some. refused-linked e (refusal t e) (⊎_elim (λ none. absurd (some none)) (λ large. large) (first-from 3 (lines t e) refl)))
      (λ none. by_kind e.kind e.desk e.cell e.word (pass t e z.sized none))
