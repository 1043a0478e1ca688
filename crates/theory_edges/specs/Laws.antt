-- Laws of all records and tables that a wrong rule would break: what a count counts, and which copies go. A count is "the number of copies held before
-- and given up by the stated rule", refused or not; at a bring the named cell is taken out before, so it cannot be counted.
-- Assumes nothing.
use Rattle.std.specs.Prelude.{◌≡◌, Bool, ◌&&◌, cond, eqb, get_or, set}
use Rattle.std.proofs.Math.Path.{refl, sym, ap}
use Rattle.std.proofs.Common.{◌∙◌, arith}
use Rattle.std.proofs.Math.Bool.{true, false, and-not_self, and-true, and-false}
use mathlib.Core.List.{List, [], ◌∷◌}
use Rattle.std.proofs.Math.Logic.{⊎_elim}
use Prim.Native.Nat.{ℕ, zero, suc}
use Rattle.std.proofs.Math.Decide.{ℕ_discrete}
use borrow.Author.Tests.{eq-eqb, ne_eqb}
use Rattle.std.proofs.Math.Seq.{get_or-set_other}
use Rattle.clock.specs.declared.Clock.{Clock}
use Rattle.clock.specs.Clock.{merged, is_before}
use Rattle.clock.specs.Laws.{before-irrefl}
use Rattle.desk.specs.declared.Cell.{Cell}
use Rattle.desk.specs.declared.Event.{Event}
use Rattle.desk.specs.declared.Message.{Message}
use Rattle.desk.specs.declared.Record.{Record}
use Rattle.desk.specs.declared.Step.{Step}
use Rattle.desk.specs.declared.Tray.{Tray}
use Rattle.desk.specs.Desk.{Word, is_blank, no_cell, no_message, past_cell, cell_at, one_if, keeps, held_cell, is_copy, is_lost, left_at, left_of, is_own}
use Rattle.desk.specs.RuleLaws.{own_is, allowed, served}
use Rattle.desk.specs.Rules.{with_clock, with_seat, stores, replied, refused, shown_code, asks, read_asked, write_asked, next_clock}
use Rattle.desk.specs.Rules.{read_rule, write_rule, drop_rule, event_refusal, event_done, event_rule}
use Rattle.desk.specs.Rules.{read_served, takes, write_served, serve_done, serve_refusal, serve_rule, brings, brought, bring_done, bring_refusal, bring_rule}
use Rattle.desk.specs.SameDesk.{event-same, bring-same}
use Rattle.desk.specs.StepLaws.{given_up_at, given_up, losses-counted}
use Rattle.table.specs.declared.Outcome.{Outcome}
use Rattle.table.specs.declared.Table.{Table}
use Rattle.table.specs.Rows.{Sized, put_same}
use Rattle.table.specs.RuleLaws.{own-else, each-event, here, take-asks}
use Rattle.table.specs.Rules.{outcome, message_of, own_rule, keeper_step, take_rule, bring_rule as bring_of, event_rule as table_rule}
use Rattle.table.specs.Table.{keeper_for, record_of}
use Rattle.table.specs.Touch.{keeper-after}
use Rattle.theory_lists.specs.Each.{map_at, map_at-same}
use Rattle.theory_lists.specs.Sum.{sum}
use Rattle.theory_lists.specs.Test.{whichever}
use Rattle.theory_refusals.specs.Refusals.{unless-done, unless-either}
use Rattle.theory_promise.specs.State.{left-at}

-- ---- lists: a sum with one place that counts
module _ {A : Type 0} (d : A) where
  sum_one : (f : ℕ → A → ℕ) (l : List A) (c : ℕ) → ((k : ℕ) → f k d ≡ 0) → ((k : ℕ) → (k ≡ c → ⊥) → f k (get_or l k d) ≡ 0)
      → sum (map_at f l) ≡ f c (get_or l c d)
  unfolding sum map_at
  sum_one f [] c past else = sym (past c)
  sum_one f (x ∷ xs) zero past else =
      let rest = sum_one (λ k. f (suc k)) xs 0 (λ k. past (suc k)) (λ k ne. else (suc k) (λ e. omega arith)) in
      omega (arith, rest, else 1 (λ e. omega arith))
  sum_one f (x ∷ xs) (suc c) past else =
      let rest = sum_one (λ k. f (suc k)) xs c (λ k. past (suc k)) (λ k ne. else (suc k) (λ e. ne (omega arith))) in
      omega (arith, rest, else 0 (λ e. omega arith))

taken_out : (row : List Cell) (c : ℕ) → (cell_at (set row c no_cell) c).held ≡ false
taken_out [] c = refl
taken_out (x ∷ xs) zero = refl
taken_out (x ∷ xs) (suc c) = taken_out xs c

-- ---- counts
module _ (t : Tray) (desk : ℕ) where
  not-held : (c : ℕ) (x : Cell) → x.held ≡ false → is_copy t desk c x ≡ false
  unfolding is_copy
  not-held c x e = rw e

  not-copy : (c : ℕ) (x : Cell) → keeps t desk c ≡ true → is_copy t desk c x ≡ false
  unfolding is_copy
  not-copy c x e = rw (e, and-false x.held)

  -- what had no copy before may be anything after
  elsewhere : (before after : List Cell) (c : ℕ) (x : Cell) → is_copy t desk c (cell_at before c) ≡ false
      → given_up t desk before (set after c x) ≡ given_up t desk before after
  unfolding given_up
  elsewhere before after c x empty =
      ap sum
      (map_at-same (given_up_at t desk (set after c x)) (given_up_at t desk after) before past_cell
      (λ k h. elim (ℕ_discrete k c) [ yes e ↦ rw (e, empty) | no ne ↦ rw (get_or-set_other after c k x past_cell ne) ]))

  -- one cell is given up, if it was a copy
  given-one : (row : List Cell) (c : ℕ) → given_up t desk row (set row c no_cell) ≡ one_if (is_copy t desk c (cell_at row c))
  unfolding given_up is_copy
  given-one row c =
      sum_one past_cell (given_up_at t desk (set row c no_cell)) row c (λ k. refl)
      (λ k ne. rw (get_or-set_other row c k no_cell past_cell ne, and-not_self (is_copy t desk k (cell_at row k))))
      ∙ rw (taken_out row c, and-true (is_copy t desk c (cell_at row c)))

  given-none : (row : List Cell) → given_up t desk row row ≡ 0
  unfolding given_up is_copy
  given-none row =
      sum_one past_cell (given_up_at t desk row) row 0 (λ k. refl) (λ k ne. rw (and-not_self (is_copy t desk k (cell_at row k))))
      ∙ rw (and-not_self (is_copy t desk 0 (cell_at row 0)))

-- the row with the cell that a message names taken out
abbrev pub others : Record → Message → List Cell
others v m = set v.row m.cell no_cell

module _ (v : Record) where
  -- how many copies are given up, of these cells before; and that a step's count is just that
  abbrev pub gone : (before after : List Cell) → ℕ
  gone before after = given_up v.tray v.desk before after

  abbrev pub GivesUp : List Cell → Step → Type 0
  GivesUp before s = s.reply.count ≡ gone before s.after.row

  abbrev left : Clock → List Cell → List Cell
  left x row = left_of v.tray v.desk x row

  -- ---- a step that is not refused
  unchanged : 0 ≡ gone v.row v.row
  unchanged = sym (given-none v.tray v.desk v.row)

  -- a kept cell is no copy, whatever stands there after
  besides-kept : (c : ℕ) (after : List Cell) (x : Cell) → keeps v.tray v.desk c ≡ true → gone v.row after ≡ gone v.row (set after c x)
  besides-kept c after x kept =
      sym (elsewhere v.tray v.desk v.row after c x (not-copy v.tray v.desk c (cell_at v.row c) kept))

  -- nor is the named one, taken out
  besides-named : (m : Message) (after : List Cell) (x : Cell) → gone (others v m) (set after m.cell x) ≡ gone (others v m) after
  besides-named m after x =
      elsewhere v.tray v.desk (others v m) after m.cell x
      (not-held v.tray v.desk m.cell (cell_at (others v m) m.cell) (taken_out v.row m.cell))

  others-unchanged : (m : Message) → 0 ≡ gone (others v m) v.row
  others-unchanged m = sym (given-none v.tray v.desk (others v m)) ∙ besides-named m v.row no_cell

  abbrev shown : ℕ → Step
  shown c =
      let x = cell_at v.row c in
      replied (shown_code (is_blank x.stamp)) x.word 0 no_message v

  abbrev stored : ℕ → Word → Step
  stored c w = replied 0 w 0 no_message (stores (with_seat v (with_clock v.seat (next_clock v))) c w)

  -- a desk's own event: a held cell is shown, a read is asked, the keeper stores, a write is asked, or a copy is given up
  each-own : (P : Step → Type 0) (e : Event) → P (shown e.cell) → P (asks v (read_asked e.cell))
      → (keeps v.tray v.desk e.cell ≡ true → P (stored e.cell e.word))
      → P (asks v (write_asked e.cell e.word (next_clock v)))
      → ((e.kind ≡ 1 → ⊥) → (e.kind ≡ 2 → ⊥) → P (drop_rule v e.cell))
      → P (event_done v e)
  unfolding event_done read_rule write_rule
  each-own P e show ask-read store ask-write give =
      elim (ℕ_discrete e.kind 1) [
        | yes one ↦ rw (eq-eqb e.kind 1 one)
            (whichever P (cell_at v.row e.cell).held (shown e.cell) (asks v (read_asked e.cell)) show ask-read)
        | no ne ↦ rw (ne_eqb e.kind 1 ne)
            (elim (ℕ_discrete e.kind 2) [
              | yes two ↦ rw (eq-eqb e.kind 2 two) (go (keeps v.tray v.desk e.cell) refl)
              | no nor ↦ rw (ne_eqb e.kind 2 nor) (give ne nor)
            ])
      ]
    where
      go : (b : Bool) → keeps v.tray v.desk e.cell ≡ b
          → P (cond b (stored e.cell e.word) (asks v (write_asked e.cell e.word (next_clock v))))
      go true kept = store kept
      go false other = ask-write

  event-gives : (e : Event) → GivesUp v.row (event_done v e)
  unfolding drop_rule
  event-gives e =
      each-own (GivesUp v.row) e unchanged unchanged
      (λ kept. unchanged ∙ besides-kept e.cell v.row (held_cell e.word (next_clock v)) kept)
      unchanged
      (λ _ _. sym (given-one v.tray v.desk v.row e.cell))

  serve-gives : (m : Message) → keeps v.tray v.desk m.cell ≡ true → GivesUp v.row (serve_done v m)
  unfolding serve_done read_served write_served takes
  serve-gives m kept =
      whichever (GivesUp v.row) (eqb m.kind 1) (read_served v m) (write_served v m) unchanged
      (losses-counted v.tray v.desk m.clock v.row
      ∙ besides-kept m.cell (left m.clock v.row) (held_cell m.word (merged v.seat.clock m.clock)) kept)

  bring-gives : (m : Message) → GivesUp (others v m) (bring_done v m)
  unfolding bring_done brings
  bring-gives m =
      losses-counted v.tray v.desk m.clock (others v m)
      ∙ sym (besides-named m (left m.clock (others v m)) (brought v.seat.served m))

  -- ---- the count of each of the three rules, refused or not
  pub event-count : (e : Event) → GivesUp v.row (event_rule v e)
  unfolding event_rule
  event-count e =
      unless-either (event_refusal v e) (refused v) (event_done v e) (GivesUp v.row) (λ some. unchanged) (λ none. event-gives e)

  pub serve-count : (m : Message) → GivesUp v.row (serve_rule v m)
  unfolding serve_rule
  serve-count m =
      unless-either (serve_refusal v m) (refused v) (serve_done v m) (GivesUp v.row) (λ some. unchanged)
      (λ none. serve-gives m (served v m none).kept)

  pub bring-count : (m : Message) → GivesUp (others v m) (bring_rule v m)
  unfolding bring_rule
  bring-count m =
      unless-either (bring_refusal v m) (refused v) (bring_done v m) (GivesUp (others v m)) (λ some. others-unchanged m) (λ none. bring-gives m)

  -- ---- which copies go, and what stays
  -- a read served: "the keeper's record is unchanged"
  pub serve-read : (m : Message) → m.kind ≡ 1 → (serve_rule v m).after ≡ v
  unfolding serve_rule serve_done read_served
  serve-read m k =
      unless-either (serve_refusal v m) (refused v) (serve_done v m) (λ (s : Step). s.after ≡ v) (λ some. refl) (λ none. rw (eq-eqb m.kind 1 k))

  -- a copy strictly before the clock that its desk learns is dropped; any other cell is as it was
  abbrev pub learnt : Clock → ℕ → Cell
  learnt x k = let y = cell_at v.row k in cond (is_copy v.tray v.desk k y && is_before y.stamp x) no_cell y

  -- at a take: strictly before the *sent* clock
  pub serve-others : (m : Message) → serve_refusal v m ≡ 0 → m.kind ≡ 2 → (k : ℕ) → (k ≡ m.cell → ⊥)
      → cell_at (serve_rule v m).after.row k ≡ learnt m.clock k
  unfolding serve_rule serve_done write_served takes is_lost
  serve-others m none two k ne =
      let x = held_cell m.word (merged v.seat.clock m.clock) in
      ap (λ (s : Step). cell_at s.after.row k) (unless-done (serve_refusal v m) (refused v) (serve_done v m) none)
      ∙ rw (ne_eqb m.kind 1 (omega arith), get_or-set_other (left m.clock v.row) m.cell k x past_cell ne)
      (left-at v.tray v.desk m.clock v.row k)

  -- at a bring: strictly before the stamp
  pub bring-others : (m : Message) → bring_refusal v m ≡ 0 → (k : ℕ) → (k ≡ m.cell → ⊥)
      → cell_at (bring_rule v m).after.row k ≡ learnt m.clock k
  unfolding bring_rule bring_done brings is_lost
  bring-others m none k ne =
      ap (λ (s : Step). cell_at s.after.row k) (unless-done (bring_refusal v m) (refused v) (bring_done v m) none)
      ∙ get_or-set_other (left m.clock (others v m)) m.cell k (brought v.seat.served m) past_cell ne
      ∙ left-at v.tray v.desk m.clock (others v m) k
      ∙ ap (left_at v.tray v.desk m.clock k) (get_or-set_other v.row m.cell k no_cell past_cell ne)

  -- an own event touches no other cell
  pub event-others : (e : Event) (k : ℕ) → (k ≡ e.cell → ⊥) → cell_at (event_rule v e).after.row k ≡ cell_at v.row k
  unfolding event_rule drop_rule
  event-others e k ne =
      unless-either (event_refusal v e) (refused v) (event_done v e) Stays (λ some. refl)
      (λ none. each-own Stays e refl refl (λ kept. put (held_cell e.word (next_clock v))) refl (λ _ _. put no_cell))
    where
      Stays : Step → Type 0
      Stays s = cell_at s.after.row k ≡ cell_at v.row k

      put : (x : Cell) → cell_at (set v.row e.cell x) k ≡ cell_at v.row k
      put x = get_or-set_other v.row e.cell k x past_cell ne

  -- a read, a write and a refusal count nothing; a drop counts one if there was a copy
  pub ask-count : (e : Event) → (e.kind ≡ 5 → ⊥) → (event_rule v e).reply.count ≡ 0
  unfolding event_rule
  ask-count e ne =
      unless-either (event_refusal v e) (refused v) (event_done v e) None (λ some. refl)
      (λ none.
      each-own None e refl refl (λ kept. refl) refl
      (λ not-read not-write.
      absurd (⊎_elim not-read (λ k. ⊎_elim not-write ne k) (own_is e (allowed v e none).own))))
    where
      None : Step → Type 0
      None s = s.reply.count ≡ 0

  pub drop-count : (e : Event) → event_refusal v e ≡ 0 → e.kind ≡ 5
      → (event_rule v e).reply.count ≡ one_if (is_copy v.tray v.desk e.cell (cell_at v.row e.cell))
  unfolding event_rule event_done drop_rule
  drop-count e none five =
      ap (λ (s : Step). s.reply.count) (unless-done (event_refusal v e) (refused v) (event_done v e) none)
      ∙ rw (ne_eqb e.kind 1 (omega arith), ne_eqb e.kind 2 (omega arith))

-- a copy whose stamp is just the clock that its desk learns stays (at a take no run shows this: a sent clock has a new number)
pub equal-stays : (t : Tray) (desk c : ℕ) (x : Cell) → is_lost t desk x.stamp c x ≡ false
unfolding is_lost
equal-stays t desk c x = rw (before-irrefl x.stamp, and-false (is_copy t desk c x))

-- ---- the same of the table: a take's count is of the keeper's copies, every other event's of its desk's
module _ (t : Table) (e : Event) (z : Sized t) where
  -- how many copies desk p gives up, of these cells before, where u is its record after; and that an outcome's count is just that
  abbrev pub given : ℕ → List Cell → Record → ℕ
  given p before u = gone (record_of t p) before u.row

  abbrev pub Counted : ℕ → List Cell → Outcome → Type 0
  Counted p before o = o.reply.count ≡ given p before (record_of o.after p)

  pub own-counted : is_own e ≡ true → Counted e.desk (record_of t e.desk).row (table_rule t e)
  unfolding own_rule outcome record_of
  own-counted own =
      let v = record_of t e.desk in
      each-event (Counted e.desk v.row) t e z (unchanged v) (λ a k. absurd ((own-else e own).0 k)) (λ a k. absurd ((own-else e own).1 k))
      (λ a o.
      event-gives v e
      ∙ ap (given e.desk v.row) (sym (put_same t e.desk (event_done v e).after z (here t e a) (event-same v e))))

  pub take_counted : e.kind ≡ 3 → Counted (keeper_for t e.desk) (record_of t (keeper_for t e.desk)).row (table_rule t e)
  unfolding take_rule keeper_step message_of record_of
  take_counted three =
      let p = keeper_for t e.desk in
      let v = record_of t p in
      each-event (Counted p v.row) t e z (unchanged v)
      (λ a k.
      serve-gives v (message_of t e.desk) (take-asks t e a k).keeps-it
      ∙ ap (given p v.row) (sym (keeper-after t e z a k)))
      (λ a k. absurd (omega arith)) (λ a o. absurd ((own-else e o).0 three))

  pub bring-counted : e.kind ≡ 4 → Counted e.desk (others (record_of t e.desk) (message_of t e.desk)) (table_rule t e)
  unfolding bring_of outcome record_of
  bring-counted four =
      let v = record_of t e.desk in
      let m = message_of t e.desk in
      each-event (Counted e.desk (others v m)) t e z (others-unchanged v m) (λ a k. absurd (omega arith))
      (λ a k.
      bring-gives v m
      ∙ ap (given e.desk (others v m)) (sym (put_same t e.desk (bring_done v m).after z (here t e a) (bring-same v m))))
      (λ a o. absurd ((own-else e o).1 four))
