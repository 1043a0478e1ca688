-- A desk's steps that nothing refuses: what they may rely on, and that what the code does is what the rules say.
-- Assumes nothing.
use Rattle.std.specs.Prelude.{◌≡◌, ◌≤◌, ◌<◌, length, set}
use Rattle.std.proofs.Common.{length-set, ap, ◌∙◌, arith}
use Rattle.std.proofs.Math.Logic.{⊎_elim}
use Rattle.std.proofs.lemmas.Bool.Decides.{nat_tests}
use Rattle.clock.specs.Clock.{number}
use Rattle.theory_lists.specs.Part.{set_same}
use Rattle.theory_lists.specs.Swept.{length-swept}
use Rattle.desk.specs.declared.Event.{Event}
use Rattle.desk.specs.declared.Message.{Message}
use Rattle.desk.specs.declared.Record.{Record}
use Rattle.desk.specs.declared.Seat.{Seat}
use Rattle.desk.specs.Desk.{is_lost, no_cell, past_cell, cell_at, held_cell}
use Rattle.desk.specs.InPlace.{lost_to, lost_in, loss_in, store_in, named_by, kept_here, change_in, own_in, answer_in, take-stored}
use Rattle.desk.specs.Parts.{took_seat, asked_message, own_answer, own_reply, served_answer}
use Rattle.desk.specs.RuleLaws.{allowed, desk-below, event-place, served, serve-place, brought, bring-place}
use Rattle.desk.specs.Rules.{answer_of, with_seat, with_row, event_refusal, event_done, serve_refusal, serve_done, bring_refusal}
use Rattle.desk.specs.SoundLaws.{sound-rule}
use Rattle.desk.proofs.InPlace.{own_in_lem, take-serves, read-serves}
use Rattle.desk_acts.specs.Own.{own_seat, own_cell}

-- ---- an own event
module _ (v : Record) (e : Event) (none : event_refusal v e ≡ 0) where
  pub event_room : (v.desk < 8) × (e.cell < 32) × (e.kind ≡ 2 → number v.seat.clock v.desk ≡ 4294967295 → ⊥)
  event_room = let ok = allowed v e none in (desk-below v ok.sound, event-place v e none, ok.seat.below)

  module _ (i : e.cell < length v.row) where
    abbrev s : Seat
    s = own_seat (kept_here v e) (named_by v e) e v.desk v.seat

    -- what stands in the cell is put back where nothing of it changes
    own-is : with_row (with_seat v s) (set v.row e.cell (own_cell (kept_here v e) (named_by v e) e v.desk v.seat)) ≡ own_in v e
    unfolding own_in own_seat own_cell
    own-is = let same = set_same v.row e.cell past_cell i in grind (arith, nat_tests)

    pub own-does :
        (record { reply = own_reply (kept_here v e) (named_by v e) e; message = asked_message (change_in v e) v.tray.counts v.desk s.slot }
        ≡ answer_of (event_done v e))
        × (with_row (with_seat v s) (set v.row e.cell (own_cell (kept_here v e) (named_by v e) e v.desk v.seat)) ≡ (event_done v e).after)
    unfolding answer_in own_answer
    own-does =
        let same = own_in_lem v e none in
        let answer = ap (λ (u : Record). own_answer (kept_here v e) (named_by v e) e u.tray.counts v.desk u.seat.slot) own-is in
        (answer ∙ same.0, own-is ∙ same.1)

-- ---- a request
module _ (v : Record) (m : Message) (none : serve_refusal v m ≡ 0) where
  pub serve_room : (m.cell < 32) × (m.kind < 3) × (v.tray.counts.cells ≤ 32)
  serve_room = let place = serve-place v m none in (place.0, place.1, (sound-rule v (served v m none).sound).tray-is.cells-most)

  pub read-does : length v.row ≡ 32 → m.kind ≡ 1
      → (served_answer 0 m (cell_at v.row m.cell) ≡ answer_of (serve_done v m)) × (v ≡ (serve_done v m).after)
  read-does long k = read-serves v long m none (λ e. omega arith)

  abbrev stored : Record
  stored = store_in v m.cell (took_seat v.seat m.clock) m.word

  -- u is what the code has after the sweep
  pub take-does : (u : Record) → u ≡ lost_in stored m.clock → length u.row ≡ 32 → (m.kind ≡ 1 → ⊥)
      → (served_answer (loss_in stored m.clock) m (cell_at u.row m.cell) ≡ answer_of (serve_done v m)) × (u ≡ (serve_done v m).after)
  unfolding lost_to
  take-does u is long ne =
      let write = ⊎_elim (λ k. absurd (ne k)) (λ k. k) (served v m none).kind in
      let swept = ap (λ (r : Record). length r.row) is ∙ length-swept (is_lost v.tray v.desk m.clock) no_cell past_cell 0 v.tray.counts.cells stored.row in
      let same = length-set v.row m.cell (held_cell m.word (took_seat v.seat m.clock).clock) in
      let before : length v.row ≡ 32 = omega (arith, swept, same, long) in
      let taken = take-stored v before m none in
      let done = take-serves v before m none write in
      rw is (taken.0 ∙ done.0, taken.1 ∙ done.1)

-- ---- an answer
module _ (v : Record) (m : Message) (none : bring_refusal v m ≡ 0) where
  pub bring_room : (m.cell < 32) × (v.tray.counts.cells ≤ 32)
  bring_room = (bring-place v m none, (sound-rule v (brought v m none).sound).tray-is.cells-most)
