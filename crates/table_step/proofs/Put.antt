-- A seat and a cell put in place after an own event are the table after it.
-- Assumes nothing.
use Rattle.std.proofs.Common.{◌≡◌, Bool, ℕ, ◌+◌, ◌*◌, ◌<◌, length, set, ne_eqb}
use Rattle.std.proofs.Math.Decide.{ℕ_discrete}
use Rattle.desk.specs.declared.Cell.{Cell}
use Rattle.desk.specs.declared.Event.{Event}
use Rattle.desk.specs.declared.Reply.{Reply}
use Rattle.desk.specs.declared.Seat.{Seat}
use Rattle.desk.specs.Desk.{past_cell, past_seat, cell_at}
use Rattle.desk.specs.Parts.{own_reply}
use Rattle.desk_acts.specs.Own.{own_seat, own_cell}
use Rattle.theory_lists.specs.Part.{set_same}
use Rattle.table.specs.declared.Table.{Table}
use Rattle.table.specs.InPlace.{cell_in, kept_in, change_in, store_in, own_in, own_reply_in}
use Rattle.table.specs.Table.{seat_of}

module _ (t : Table) (d c : ℕ) (e : Event) (seat-there : d < length t.seats) (cell-there : d * 32 + c < length t.cells) where
  abbrev put : Seat → Cell → Table
  put s x = record { cells = set t.cells (d * 32 + c) x; tray = t.tray; seats = set t.seats d s }

  in-place : put (own_seat (kept_in t d c) (cell_in t d c) e d (seat_of t d)) (own_cell (kept_in t d c) (cell_in t d c) e d (seat_of t d)) ≡ own_in t d c e
  unfolding own_in store_in own_seat own_cell
  in-place =
      elim (ℕ_discrete (change_in t d c e) 1) [
        | yes q ↦ rw (q, set_same t.cells (d * 32 + c) past_cell cell-there)
        | no p ↦ elim (ℕ_discrete (change_in t d c e) 2) [
          | yes q ↦ rw q
          | no q ↦ elim (ℕ_discrete (change_in t d c e) 3) [
            | yes r ↦ rw (r, set_same t.seats d past_seat seat-there)
            | no r ↦ rw (
              ne_eqb (change_in t d c e) 1 p,
              ne_eqb (change_in t d c e) 2 q,
              ne_eqb (change_in t d c e) 3 r,
              set_same t.cells (d * 32 + c) past_cell cell-there,
              set_same t.seats d past_seat seat-there,
            )
          ]
        ]
      ]

  pub own-told : (i : ℕ) (kept : Bool) (r : Reply) (s : Seat) (x : Cell) → i ≡ d * 32 + c → kept ≡ kept_in t d c
      → r ≡ own_reply kept (cell_at t.cells i) e → s ≡ own_seat kept (cell_at t.cells i) e d (seat_of t d)
      → x ≡ own_cell kept (cell_at t.cells i) e d (seat_of t d)
      → (r ≡ own_reply_in t d c e) × (◌≡◌ {A = Table} (record { cells = set t.cells i x; tray = t.tray; seats = set t.seats d s }) (own_in t d c e))
  unfolding own_reply_in
  own-told i kept r s x is-i is-kept is-r is-s is-x = (rw (is-r, is-kept, is-i), rw (is-s, is-x, is-kept, is-i) in-place)
