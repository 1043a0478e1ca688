-- What a reader may want to know of the three rules beyond their text: a refusal changes nothing, a count is a count of copies, and a full
-- slot and its message say the same.
-- Assumes nothing.
use Rattle.std.specs.Prelude.{◌≡◌, refl, Bool, true, false, not, ◌&&◌, cond, List, ℕ, eqb}
use Rattle.std.proofs.Common.{ap, ⊎_elim, arith}
use Rattle.std.proofs.Math.Bool.{and-not_self}
use Rattle.clock.specs.declared.Clock.{Clock}
use Rattle.theory_lists.specs.Each.{map_at, map_at-same, get_or-map_at}
use Rattle.theory_lists.specs.Sum.{sum}
use Rattle.theory_lists.specs.Test.{both_left, whichever}
use Rattle.theory_refusals.specs.Refusals.{numbers_from, first-from, unless-refused, unless-either}
use Rattle.desk.specs.declared.Cell.{Cell}
use Rattle.desk.specs.declared.Event.{Event}
use Rattle.desk.specs.declared.Message.{Message}
use Rattle.desk.specs.declared.Record.{Record}
use Rattle.desk.specs.declared.Slot.{Slot}
use Rattle.desk.specs.declared.Step.{Step}
use Rattle.desk.specs.declared.Tray.{Tray}
use Rattle.desk.specs.Desk.{is_blank, no_cell, no_message, past_cell, cell_at, one_if, keeps, is_copy, is_lost, left_at, loss_at, left_of, loss_of}
use Rattle.desk.specs.Rules.{slot_message, holds, with_clock, with_seat, stores, read_asked, write_asked, replied, refused, shown_code, asks}
use Rattle.desk.specs.Rules.{read_rule, next_clock, write_rule, drop_rule, seat_lines, event_lines, event_refusal, event_done, event_rule}
use Rattle.desk.specs.Rules.{serve_refusal, serve_rule, serve_done, bring_refusal, bring_rule, bring_done}
use Rattle.desk.specs.Sound.{is_sound}

-- ---- a refusal gives its number and changes nothing
pub event-refused : (v : Record) (e : Event) → (event_refusal v e ≡ 0 → ⊥) → event_rule v e ≡ refused v (event_refusal v e)
unfolding event_rule
event-refused v e = unless-refused (event_refusal v e) (refused v) (event_done v e)

pub serve-refused : (v : Record) (m : Message) → (serve_refusal v m ≡ 0 → ⊥) → serve_rule v m ≡ refused v (serve_refusal v m)
unfolding serve_rule
serve-refused v m = unless-refused (serve_refusal v m) (refused v) (serve_done v m)

pub bring-refused : (v : Record) (m : Message) → (bring_refusal v m ≡ 0 → ⊥) → bring_rule v m ≡ refused v (bring_refusal v m)
unfolding bring_rule
bring-refused v m = unless-refused (bring_refusal v m) (refused v) (bring_done v m)

-- ---- the count of drops
-- a copy before and none after, at cell c
abbrev pub given_up_at : Tray → ℕ → List Cell → ℕ → Cell → ℕ
given_up_at t desk after c x = one_if (is_copy t desk c x && not (is_copy t desk c (cell_at after c)))

unfoldable pub given_up : Tray → ℕ → List Cell → List Cell → ℕ
given_up t desk before after = sum (map_at (given_up_at t desk after) before)

lost-copy : (t : Tray) (desk : ℕ) (x : Clock) (c : ℕ) (y : Cell) → is_lost t desk x c y ≡ true → is_copy t desk c y ≡ true
unfolding is_lost
lost-copy t desk x c y e = search both_left

-- it is the number of copies held before and not after
pub losses-counted : (t : Tray) (desk : ℕ) (x : Clock) (row : List Cell) → loss_of t desk x row ≡ given_up t desk row (left_of t desk x row)
unfolding loss_of given_up left_of is_copy
losses-counted t desk x row =
    ap sum
    (map_at-same (loss_at t desk x) (given_up_at t desk (map_at (left_at t desk x) row)) row past_cell
    (λ c h. rw (get_or-map_at (left_at t desk x) row c past_cell past_cell h) (at c (cell_at row c))))
  where
    at : (c : ℕ) (y : Cell) → loss_at t desk x c y ≡ one_if (is_copy t desk c y && not (is_copy t desk c (left_at t desk x c y)))
    at c y = go (is_lost t desk x c y) refl
      where
        go : (b : Bool) → is_lost t desk x c y ≡ b → one_if b ≡ one_if (is_copy t desk c y && not (is_copy t desk c (cond b no_cell y)))
        go true e = rw (lost-copy t desk x c y e)
        go false e = rw (and-not_self (is_copy t desk c y))

-- ---- a full slot and its message
-- code 1 comes with the request that the slot says; every other code with the all-zero message
pub record Told (s : Step) : Type 0 where
  pub asked : s.reply.code ≡ 1 → s.message ≡ slot_message s.after s.after.seat.slot
  pub quiet : (s.reply.code ≡ 1 → ⊥) → s.message ≡ no_message

quiet_told : (code value count : ℕ) (v : Record) → (code ≡ 1 → ⊥) → Told (replied code value count no_message v)
quiet_told code value count v ne = record { asked = λ e. absurd (ne e); quiet = λ _. refl }

asks-told : (v : Record) (s : Slot) → Told (asks v s)
asks-told v s = record { asked = λ _. refl; quiet = λ ne. absurd (ne refl) }

neither : (b : Bool) (n m : ℕ) → (n ≡ 1 → ⊥) → (m ≡ 1 → ⊥) → cond b n m ≡ 1 → ⊥
neither true n m p q = p
neither false n m p q = q

read_told : (v : Record) (c : ℕ) → Told (read_rule v c)
unfolding read_rule
read_told v c =
    let x = cell_at v.row c in
    let blank = is_blank x.stamp in
    whichever Told x.held (replied (shown_code blank) x.word 0 no_message v) (asks v (read_asked c))
    (quiet_told (shown_code blank) x.word 0 v (neither blank 2 0 (omega arith) (omega arith)))
    (asks-told v (read_asked c))

write-told : (v : Record) (c w : ℕ) → Told (write_rule v c w)
unfolding write_rule
write-told v c w =
    let stored = stores (with_seat v (with_clock v.seat (next_clock v))) c w in
    whichever Told (keeps v.tray v.desk c) (replied 0 w 0 no_message stored) (asks v (write_asked c w (next_clock v)))
    (quiet_told 0 w 0 stored (omega arith))
    (asks-told v (write_asked c w (next_clock v)))

drop-told : (v : Record) (c : ℕ) → Told (drop_rule v c)
unfolding drop_rule
drop-told v c = quiet_told 0 0 (one_if (is_copy v.tray v.desk c (cell_at v.row c))) (holds v c no_cell) (omega arith)

pub event-told : (v : Record) (e : Event) → Told (event_rule v e)
unfolding event_rule event_lines seat_lines event_done numbers_from
event-told v e =
    unless-either (event_refusal v e) (refused v) (event_done v e) Told
    (λ some. quiet_told (event_refusal v e) 0 0 v (λ one. ⊎_elim (λ none. some none) (λ large. omega arith) (first-from 3 (event_lines (is_sound v) v.tray v.desk v.seat e) refl)))
    (λ none.
    whichever Told (eqb e.kind 1) (read_rule v e.cell) (cond (eqb e.kind 2) (write_rule v e.cell e.word) (drop_rule v e.cell))
    (read_told v e.cell)
    (whichever Told (eqb e.kind 2) (write_rule v e.cell e.word) (drop_rule v e.cell) (write-told v e.cell e.word) (drop-told v e.cell)))
