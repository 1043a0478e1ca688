-- The sums that loops make, over any function that gives the cell at a place: a desk's row, and all seats. Each is soundness of what was walked over.
-- Assumes nothing.
use Rattle.std.specs.Prelude.{◌≡◌, Bool, ◌&&◌, leb, length}
use Rattle.std.proofs.Math.Path.{refl, ap}
use Rattle.std.proofs.Common.{sym, ◌∙◌, arith}
use Rattle.std.proofs.Math.Bool.{true, false, and_assoc, and_comm, and-false}
use Prim.Native.Nat.{ℕ, ◌+◌, ◌-◌, ◌*◌, ◌/◌, ◌%◌, ◌≤◌, ◌<◌}
use Rattle.std.proofs.Math.Decide.{dec_lt}
use Rattle.std.proofs.Math.Dec.{ltb}
use borrow.Author.Tests.{ltb-true, eqb-true, lt-ltb, le-ltb}
use Rattle.theory_lists.specs.Test.{both_left, both_right, fails}
use Rattle.theory_lists.specs.Turns.{turns, turns_next, between, between_none, between_next, turns-add}
use Rattle.theory_lists.specs.Turns.{all_below, all_same, all_more, all-rows, every-all}
use Rattle.desk.specs.declared.Cell.{Cell}
use Rattle.desk.specs.declared.Place.{Place}
use Rattle.desk.specs.declared.Record.{Record}
use Rattle.desk.specs.declared.Seat.{Seat}
use Rattle.desk.specs.declared.Tray.{Tray}
use Rattle.desk.specs.Desk.{past_cell, cell_at, place_at, keeper_of, keeps_at, kept_by}
use Rattle.desk.specs.Sound.{tray_sound, cell_sound, seat_sound, cells_sound, is_sound}
use Rattle.desk.specs.SoundLaws.{TrayRule, tray-rule, keeper-desk, Used, is-used}
use Rattle.desk_sums.specs.declared.Sum.{Sum}
use Rattle.desk_sums.specs.Laws.{none-fits, rest-adds, kept-adds, fits-used, fits-past}
use Rattle.desk_sums.specs.Seats.{seat-adds}
use Rattle.desk_sums.specs.Sums.{no_sum, rest_of, add_kept, add_seat_of, slot_cell, used_by, sum_fits, rest_fits, kept_fits}
use Rattle.desk_sums.specs.Sums.{add_seat, row_count, record_fits}

-- ---- what the loops make: cells below the count, up to c; cells past it, from n up to c; a row; all rows; seats
unfoldable pub used_sum : (ℕ → Place) → (ℕ → Cell) → ℕ → Sum → ℕ → Sum
used_sum place cell desk s c = turns (λ u k. add_kept u (kept_by (place k) desk) (cell k)) s c

unfoldable pub past_sum : (ℕ → Cell) → ℕ → Sum → ℕ → Sum
past_sum cell n s c = between (λ u k. rest_of u (cell k)) n s c

abbrev pub row_sum : (ℕ → Place) → (ℕ → Cell) → ℕ → ℕ → Sum → Sum
row_sum place cell desk n s = past_sum cell n (used_sum place cell desk s n) 32

-- desk k's row of the entries: its cell c is entry k * 32 + c
abbrev pub row_of : (ℕ → Cell) → ℕ → ℕ → Cell
row_of entry k c = entry (k * 32 + c)

unfoldable pub cells_sum : Tray → (ℕ → Cell) → ℕ → Sum
cells_sum t entry d = turns (λ s k. row_sum (place_at t) (row_of entry k) k (used_by t.counts k) s) no_sum d

unfoldable pub seats_sum : Tray → (ℕ → Seat) → ℕ → Sum
seats_sum t seat d = turns (λ s k. add_seat_of s t.counts k (place_at t (slot_cell (seat k))) (seat k)) no_sum d

-- ---- their turns
module _ (place : ℕ → Place) (cell : ℕ → Cell) (desk : ℕ) (s : Sum) where
  pub used-none : used_sum place cell desk s 0 ≡ s
  unfolding used_sum turns
  used-none = refl

  pub used-next : (c : ℕ) → used_sum place cell desk s (c + 1) ≡ add_kept (used_sum place cell desk s c) (kept_by (place c) desk) (cell c)
  unfolding used_sum
  used-next c = turns_next (λ u k. add_kept u (kept_by (place k) desk) (cell k)) s c

module _ (cell : ℕ → Cell) (s : Sum) (n : ℕ) where
  pub past-none : past_sum cell n s n ≡ s
  unfolding past_sum
  past-none = between_none (λ u k. rest_of u (cell k)) s n

  pub past_next : (c : ℕ) → n ≤ c → past_sum cell n s (c + 1) ≡ rest_of (past_sum cell n s c) (cell c)
  unfolding past_sum
  past_next c h = between_next (λ u k. rest_of u (cell k)) s n c h

module _ (t : Tray) (entry : ℕ → Cell) where
  pub cells-none : cells_sum t entry 0 ≡ no_sum
  unfolding cells_sum turns
  cells-none = refl

  pub cells-next : (d : ℕ) → cells_sum t entry (d + 1) ≡ row_sum (place_at t) (row_of entry d) d (used_by t.counts d) (cells_sum t entry d)
  unfolding cells_sum
  cells-next d = turns_next (λ s k. row_sum (place_at t) (row_of entry k) k (used_by t.counts k) s) no_sum d

module _ (t : Tray) (seat : ℕ → Seat) where
  pub seats-none : seats_sum t seat 0 ≡ no_sum
  unfolding seats_sum turns
  seats-none = refl

  pub seats-next : (d : ℕ) → seats_sum t seat (d + 1) ≡ add_seat_of (seats_sum t seat d) t.counts d (place_at t (slot_cell (seat d))) (seat d)
  unfolding seats_sum
  seats-next d = turns_next (λ s k. add_seat_of s t.counts k (place_at t (slot_cell (seat k))) (seat k)) no_sum d

-- ---- a row of a sound tray
module _ (t : Tray) (r : TrayRule t) (long : length t.places ≡ 32) (cell : ℕ → Cell) (desk : ℕ) where
  -- the place where its entries stop to be used
  n : ℕ
  n = used_by t.counts desk

  n-most : n ≤ 32
  unfolding n
  n-most =
      elim (dec_lt desk t.counts.desks) [
        | yes h ↦ rw (lt-ltb desk t.counts.desks h) r.cells-most
        | no h ↦ rw (le-ltb desk t.counts.desks (omega arith)) (omega arith)
      ]

  used-at : (c : ℕ) → c < n → Used t.counts desk c
  unfolding n
  used-at c h =
      elim (dec_lt desk t.counts.desks) [
        | yes there ↦ (there, rw (lt-ltb desk t.counts.desks there) at h)
        | no past ↦ absurd (omega (arith, rw (le-ltb desk t.counts.desks (omega arith)) at h))
      ]

  -- what each entry adds is its soundness
  used-fits : (c : ℕ) → c < n → cell_sound t desk c (cell c) ≡ kept_fits t.counts.desks (kept_by (place_at t c) desk) (cell c)
  unfolding cell_sound
  used-fits c h =
      let u = used-at c h in
      fits-used t.counts (place_at t c) desk c (cell c) (is-used t.counts desk c u) (rw (lt-ltb c t.counts.cells u.1))

  past_fits : (c : ℕ) → n ≤ c → cell_sound t desk c (cell c) ≡ rest_fits (cell c)
  unfolding cell_sound n
  past_fits c h =
      elim (dec_lt desk t.counts.desks) [
        | yes there ↦ (let past : ltb c t.counts.cells ≡ false = le-ltb c t.counts.cells (rw (lt-ltb desk t.counts.desks there) at h) in
            fits-past t.counts (place_at t c) desk c (cell c) (rw (past, and-false (ltb desk t.counts.desks))) (rw past))
        | no absent ↦ fits-past t.counts (place_at t c) desk c (cell c) (rw (le-ltb desk t.counts.desks (omega arith)))
            (fails (keeps_at t.counts (place_at t c) desk c) (λ e. kept (omega arith) e))
      ]
    where
      -- an absent desk keeps nothing
      kept : t.counts.desks ≤ desk → keeps_at t.counts (place_at t c) desk c ≡ true → ⊥
      kept absent e =
          let below : c < t.counts.cells = ltb-true c t.counts.cells (both_left (ltb c t.counts.cells) (kept_by (place_at t c) desk) e) in
          let is : keeper_of t c ≡ desk = eqb-true (keeper_of t c) desk (both_right (ltb c t.counts.cells) (kept_by (place_at t c) desk) e) in
          omega (arith, keeper-desk t c r long below)

  pub row-adds : (s : Sum) → sum_fits (row_sum (place_at t) cell desk (used_by t.counts desk) s) t.counts.desks
      ≡ (sum_fits s t.counts.desks && all_below (λ c. cell_sound t desk c (cell c)) 32)
  unfolding used_sum past_sum between n
  row-adds s =
      turns-add fits (λ u k. rest_of u (cell (n + k))) (λ k. test (n + k)) used (32 - n)
      (λ u k h. rest-adds u (cell (n + k)) desks ∙ ap (◌&&◌ (fits u)) (sym (past_fits (n + k) (omega arith))))
      ∙ ap (λ (x : Bool). x && all_below (λ k. test (n + k)) (32 - n))
      (turns-add fits (λ u k. add_kept u (kept_by (place_at t k) desk) (cell k)) test s n
      (λ u k h. kept-adds u (kept_by (place_at t k) desk) (cell k) desks ∙ ap (◌&&◌ (fits u)) (sym (used-fits k h))))
      ∙ and_assoc (fits s) (all_below test n) (all_below (λ k. test (n + k)) (32 - n))
      ∙ ap (◌&&◌ (fits s)) (all_more test n (32 - n) ∙ ap (all_below test) whole)
    where
      desks : ℕ
      desks = t.counts.desks

      fits : Sum → Bool
      fits u = sum_fits u desks

      test : ℕ → Bool
      test c = cell_sound t desk c (cell c)

      used : Sum
      used = used_sum (place_at t) cell desk s n

      whole : n + (32 - n) ≡ 32
      whole = omega (arith, n-most)

-- ---- a desk's record, all rows, all seats
pub record-fits : (v : Record) → TrayRule v.tray → length v.tray.places ≡ 32 → length v.row ≡ 32
    → sum_fits (row_sum (place_at v.tray) (cell_at v.row) v.desk (used_by v.tray.counts v.desk) no_sum) v.tray.counts.desks
    ≡ cells_sound v
unfolding cells_sound
record-fits v r long row =
    row-adds v.tray r long (cell_at v.row) v.desk no_sum
    ∙ rw (none-fits v.tray.counts.desks, every-all (cell_sound v.tray v.desk) v.row past_cell, row)

-- the whole test of a record
pub record-sound : (v : Record) → length v.tray.places ≡ 32 → length v.row ≡ 32
    → record_fits v.tray v.desk v.seat (row_sum (place_at v.tray) (cell_at v.row) v.desk (row_count v.tray.counts) no_sum) ≡ is_sound v
unfolding is_sound record_fits
record-sound v long row = go (tray_sound t) (ltb desk desks) refl refl
  where
    t : Tray
    t = v.tray

    desk : ℕ
    desk = v.desk

    desks : ℕ
    desks = t.counts.desks

    turn : (a b c : Bool) → (a && (b && c)) ≡ (c && b && a)
    turn a b c = and_comm a (b && c) ∙ ap (λ (x : Bool). x && a) (and_comm b c)

    beside : TrayRule t → ltb desk desks ≡ true
        → sum_fits (add_seat no_sum true t.counts.cells (kept_by (place_at t (slot_cell v.seat)) desk) v.seat) desks ≡ seat_sound t desk v.seat
    beside r q = rw (q, none-fits desks) at (seat-adds t desk v.seat r.cells-most no_sum)

    go : (a b : Bool) → tray_sound t ≡ a → ltb desk desks ≡ b
        → record_fits t desk v.seat (row_sum (place_at t) (cell_at v.row) desk (row_count t.counts) no_sum) ≡ is_sound v
    go false b p q = rw p
    go true false p q = rw (p, q)
    go true true p q =
        let r = tray-rule t p in
        let all : used_by t.counts desk ≡ row_count t.counts = rw q (omega (arith, r.cells-most)) in
        rw (p, q, beside r q, rw all at (record-fits v r long row))
        (turn (leb v.seat.slot.kind 2) (seat_sound t desk v.seat) (cells_sound v))

pub cells_fit : (t : Tray) (entry : ℕ → Cell) (d : ℕ) → TrayRule t → length t.places ≡ 32
    → sum_fits (cells_sum t entry d) t.counts.desks ≡ all_below (λ i. cell_sound t (i / 32) (i % 32) (entry i)) (d * 32)
unfolding cells_sum
cells_fit t entry d r long =
    turns-add (λ s. sum_fits s t.counts.desks) (λ s k. row_sum (place_at t) (row_of entry k) k (used_by t.counts k) s)
    (λ k. all_below (λ c. cell_sound t k c (row_of entry k c)) 32) no_sum d (λ s k _. row-adds t r long (row_of entry k) k s)
    ∙ rw (none-fits t.counts.desks)
    (all_same (λ k. all_below (λ c. cell_sound t k c (row_of entry k c)) 32) (λ k. all_below (λ c. test (k * 32 + c)) 32) d
    (λ k _. all_same (λ c. cell_sound t k c (row_of entry k c)) (λ c. test (k * 32 + c)) 32 (same k)))
    ∙ all-rows test d 32
  where
    test : ℕ → Bool
    test i = cell_sound t (i / 32) (i % 32) (entry i)

    same : (k c : ℕ) → c < 32 → cell_sound t k c (row_of entry k c) ≡ test (k * 32 + c)
    same k c h =
        let desk : (k * 32 + c) / 32 ≡ k = omega arith in
        let place : (k * 32 + c) % 32 ≡ c = omega arith in
        rw (desk, place)

pub seats-fit : (t : Tray) (seat : ℕ → Seat) (d : ℕ) → t.counts.cells ≤ 32
    → sum_fits (seats_sum t seat d) t.counts.desks ≡ all_below (λ k. seat_sound t k (seat k)) d
unfolding seats_sum
seats-fit t seat d h =
    turns-add (λ s. sum_fits s t.counts.desks) (λ s k. add_seat_of s t.counts k (place_at t (slot_cell (seat k))) (seat k))
    (λ k. seat_sound t k (seat k)) no_sum d (λ s k _. seat-adds t k (seat k) h s)
    ∙ rw (none-fits t.counts.desks)
