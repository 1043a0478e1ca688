-- What the desk's steps do where its record lies is what the rules say, for what is not refused.
-- Assumes nothing.
use Rattle.std.specs.Prelude.{◌≡◌, Bool, ℕ, T, eqb, length}
use Rattle.std.proofs.Math.Path.{refl}
use Rattle.std.proofs.Common.{◌∙◌, arith, length-set}
use Rattle.std.proofs.Math.Bool.{true, false, not}
use Rattle.std.proofs.Math.Logic.{⊎_elim}
use borrow.Author.Tests.{eqb-true, eqb-false, eq-eqb, ne_eqb, lt-ltb}
use Rattle.theory_refusals.specs.Refusals.{unless, unless-refused, unless-done}
use Rattle.desk.specs.declared.Event.{Event}
use Rattle.desk.specs.declared.Message.{Message}
use Rattle.desk.specs.declared.Record.{Record}
use Rattle.desk.specs.declared.Step.{Step}
use Rattle.desk.specs.Desk.{no_cell, keeps, is_copy}
use Rattle.desk.specs.Kept.{holds_row, no-cell-rule}
use Rattle.desk.specs.Parts.{change_of, asked_for, read_reply, write_reply, own_reply}
use Rattle.desk.specs.Parts.{refused_answer, asked_message, own_answer}
use Rattle.desk.specs.RuleLaws.{Allowed, allowed, Served, served, Brought, brought, own_is}
use Rattle.desk.specs.Rules.{answer_of, refused}
use Rattle.desk.specs.Rules.{read_rule, write_rule, drop_rule, event_refusal, event_done, event_rule}
use Rattle.desk.specs.Rules.{serve_refusal, read_served, takes, write_served, serve_done, serve_rule}
use Rattle.desk.specs.Rules.{bring_refusal, brings, bring_done, bring_rule}
use Rattle.desk.specs.SoundLaws.{RowRule, SoundRule, sound-rule}
use Rattle.desk.specs.InPlace.{lost-is, loss-is, named_by, kept_here, own_in, answer_in, take_in, take_answer, read_answer, take-is, without, bring_in, bring_answer}

-- ---- 1 Read, 2 Write, 5 Drop
module _ (v : Record) (e : Event) (none : event_refusal v e ≡ 0) where
  abbrev a : Allowed v e
  a = allowed v e none

  kept-is : keeps v.tray v.desk e.cell ≡ kept_here v e
  unfolding keeps
  kept-is = rw (lt-ltb e.cell v.tray.counts.cells (a.seat.in-range a.own))

  -- what the code makes is what the rule says
  abbrev Is : Type 0
  Is = (answer_in v e ≡ answer_of (event_done v e)) × (own_in v e ≡ (event_done v e).after)

  read_is : e.kind ≡ 1 → Is
  unfolding own_in answer_in own_answer asked_message own_reply read_reply event_done read_rule change_of asked_for
  read_is k = go (named_by v e).held refl
    where
      go : (b : Bool) → (named_by v e).held ≡ b → Is
      go true q = rw (eq-eqb e.kind 1 k, q) (refl, refl)
      go false q = rw (eq-eqb e.kind 1 k, q) (refl, refl)

  write-is : e.kind ≡ 2 → Is
  unfolding own_in answer_in own_answer asked_message own_reply write_reply event_done write_rule change_of asked_for
  write-is k = go (kept_here v e) refl
    where
      go : (b : Bool) → kept_here v e ≡ b → Is
      go true q = rw (ne_eqb e.kind 1 (omega arith), eq-eqb e.kind 2 k, kept-is, q) (refl, refl)
      go false q = rw (ne_eqb e.kind 1 (omega arith), eq-eqb e.kind 2 k, kept-is, q) (refl, refl)

  drop-is : e.kind ≡ 5 → Is
  unfolding own_in answer_in own_answer asked_message own_reply event_done drop_rule change_of is_copy
  drop-is k = rw (ne_eqb e.kind 1 (omega arith), ne_eqb e.kind 2 (omega arith), kept-is) (refl, refl)

  pub own_in_lem : (answer_in v e ≡ answer_of (event_done v e)) × (own_in v e ≡ (event_done v e).after)
  own_in_lem = ⊎_elim read_is (⊎_elim write-is drop-is) (own_is e a.own)

-- ---- serving
module _ (v : Record) (long : length v.row ≡ 32) (m : Message) (none : serve_refusal v m ≡ 0) where
  abbrev s : Served v m
  s = served v m none

  abbrev serves : SoundRule v
  serves = sound-rule v s.sound

  pub take-serves : m.kind ≡ 2 → (take_answer v m ≡ answer_of (serve_done v m)) × (take_in v m ≡ (serve_done v m).after)
  unfolding takes serve_done write_served
  take-serves k =
      rw (ne_eqb m.kind 1 (omega arith), take-is v long m none, loss-is v long serves.tray-is.cells-most serves.row_is m.clock) (refl, refl)

  pub read-serves : (m.kind ≡ 2 → ⊥) → (read_answer v m ≡ answer_of (serve_done v m)) × (v ≡ (serve_done v m).after)
  unfolding serve_done read_served
  read-serves ne = ⊎_elim (λ k. rw (eq-eqb m.kind 1 k) (refl, refl)) (λ k. absurd (ne k)) s.kind

-- ---- bringing
module _ (v : Record) (long : length v.row ≡ 32) (m : Message) (none : bring_refusal v m ≡ 0) where
  abbrev b : Brought v m
  b = brought v m none

  abbrev rule : SoundRule v
  rule = sound-rule v b.sound

  bare-long : length (without v m).row ≡ 32
  bare-long = length-set v.row m.cell no_cell ∙ long

  bare-row : RowRule (without v m)
  bare-row =
      holds_row v m.cell no_cell rule.row_is
      (no-cell-rule v.tray v.desk m.cell (rw b.cell (rule.row_is.seat-is.slot_is.not-kept b.waiting)))

  pub bring-in : (bring_answer v m ≡ answer_of (bring_done v m)) × (bring_in v m ≡ (bring_done v m).after)
  unfolding bring_in bring_done brings
  bring-in =
      rw (
        lost-is (without v m) bare-long rule.tray-is.cells-most bare-row m.clock,
        loss-is (without v m) bare-long rule.tray-is.cells-most bare-row m.clock,
      )
      (refl, refl)

-- ---- a step by the code that was found for it: it is refused, or it is done
pub record Turns (v : Record) (code : ℕ) (done rule : Step) : Type 0 where
  pub refuses : T (not (eqb code 0)) → (refused_answer code ≡ answer_of rule) × (v ≡ rule.after)
  pub none : T (not (not (eqb code 0))) → code ≡ 0
  pub does : T (not (not (eqb code 0))) → (answer_of done ≡ answer_of rule) × (done.after ≡ rule.after)

turns : (v : Record) (code : ℕ) (done : Step) → Turns v code done (unless code (refused v) done)
turns v code done = go (eqb code 0) refl
  where
    go : (b : Bool) → eqb code 0 ≡ b → Turns v code done (unless code (refused v) done)
    go true e =
        record {
          refuses = λ h. absurd (rw e at h);
          none = λ _. eqb-true code 0 e;
          does = λ _. rw (unless-done code (refused v) done (eqb-true code 0 e)) (refl, refl);
        }
    go false e =
        record {
          refuses = λ _. rw (unless-refused code (refused v) done (eqb-false code 0 e)) (refl, refl);
          none = λ h. absurd (rw e at h);
          does = λ h. absurd (rw e at h);
        }

pub event-turns : (v : Record) (e : Event) → Turns v (event_refusal v e) (event_done v e) (event_rule v e)
unfolding event_rule
event-turns v e = turns v (event_refusal v e) (event_done v e)

pub serve-turns : (v : Record) (m : Message) → Turns v (serve_refusal v m) (serve_done v m) (serve_rule v m)
unfolding serve_rule
serve-turns v m = turns v (serve_refusal v m) (serve_done v m)

pub bring-turns : (v : Record) (m : Message) → Turns v (bring_refusal v m) (bring_done v m) (bring_rule v m)
unfolding bring_rule
bring-turns v m = turns v (bring_refusal v m) (bring_done v m)
