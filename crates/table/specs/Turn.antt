-- The refusals of a sound table as the code looks for them: 8 and 10, then the lines that look at a seat; and what an event comes to then.
-- Assumes nothing.
use Rattle.std.specs.Prelude.{◌≡◌, Bool, true, false, not, List, ◌++◌, ℕ, ◌<◌, T, eqb, ltb}
use Rattle.std.proofs.Math.Path.{refl, sym}
use Rattle.std.proofs.Common.{ap, ◌∙◌, arith}
use borrow.Author.Tests.{ltb-true, eqb-true, eq-eqb, not-false}
use Rattle.desk.specs.declared.Event.{Event}
use Rattle.desk.specs.Rules.{refused_reply, place_lines, seat_lines}
use Rattle.theory_refusals.specs.Refusals.{Line, first_of, numbers_from, test_of, none-applies, first_some, first_more}
use Rattle.table.specs.declared.Outcome.{Outcome}
use Rattle.table.specs.declared.Table.{Table}
use Rattle.table.specs.Rules.{lines, refusal, refused_with, done, event_rule}
use Rattle.table.specs.RuleLaws.{event-refused, is-done}
use Rattle.table.specs.Sound.{table_sound}
use Rattle.table.specs.SoundLaws.{sound-tray}
use Rattle.table.specs.Table.{seat_of}

-- what `unplaced` finds
abbrev pub unplaced_of : Table → Event → ℕ
unplaced_of t e = first_of (place_lines t.tray.counts e)

-- a code that the code has tested for 0
some_of : (n : ℕ) → T (not (eqb n 0)) → n ≡ 0 → ⊥
some_of n h e = rw (eq-eqb n 0 e) at h

none_of : (n : ℕ) → T (not (not (eqb n 0))) → n ≡ 0
none_of n = go (eqb n 0) refl
  where
    go : (b : Bool) → eqb n 0 ≡ b → T (not (not b)) → n ≡ 0
    go true e h = eqb-true n 0 e
    go false e h = absurd h

module _ (t : Table) (e : Event) (ok : table_sound t ≡ true) where
  abbrev rest : List Line
  rest = seat_lines t.tray e.desk (seat_of t e.desk) e

  refusal_is : refusal t e ≡ first_of (place_lines t.tray.counts e ++ rest)
  unfolding refusal lines first_of
  refusal_is = rw ok

  pub unplaced-some : T (not (eqb (unplaced_of t e) 0)) → unplaced_of t e ≡ refusal t e
  unplaced-some h = sym (refusal_is ∙ first_some (place_lines t.tray.counts e) rest (some_of (unplaced_of t e) h))

  module _ (h : T (not (not (eqb (unplaced_of t e) 0)))) where
    pub unplaced-none : first_of rest ≡ refusal t e
    unfolding numbers_from
    unplaced-none = sym (refusal_is ∙ first_more (place_lines t.tray.counts e) rest refl (none_of (unplaced_of t e) h))

    pub placed : e.desk < 8
    unfolding numbers_from test_of
    placed =
        let there = none-applies (place_lines t.tray.counts e) refl (none_of (unplaced_of t e) h) 10 in
        let below = ltb-true e.desk t.tray.counts.desks (not-false (ltb e.desk t.tray.counts.desks) there) in
        omega (arith, below, (sound-tray t ok).desks-most)

-- ---- the event
pub step-refused : (t : Table) (e : Event) → T (not (eqb (refusal t e) 0))
    → (refused_reply (refusal t e) ≡ (event_rule t e).reply) × (t ≡ (event_rule t e).after)
step-refused t e h =
    let same = sym (event-refused t e (some_of (refusal t e) h)) in
    (ap (λ (o : Outcome). o.reply) same, ap (λ (o : Outcome). o.after) same)

pub step-done : (t : Table) (e : Event) → T (not (not (eqb (refusal t e) 0)))
    → (refusal t e ≡ 0) × ((done t e).reply ≡ (event_rule t e).reply) × ((done t e).after ≡ (event_rule t e).after)
step-done t e h =
    let none = none_of (refusal t e) h in
    let same = sym (is-done t e none) in
    (none, ap (λ (o : Outcome). o.reply) same, ap (λ (o : Outcome). o.after) same)

-- an unsound table
pub not_sound : (t : Table) (e : Event) → table_sound t ≡ false → event_rule t e ≡ refused_with t 9
unfolding refusal lines first_of
not_sound t e bad =
    let nine : refusal t e ≡ 9 = rw bad in
    event-refused t e (λ q. omega (arith, nine)) ∙ ap (refused_with t) nine
