-- The sums, with a sound tray, are soundness.
use Rattle.std.proofs.Common.{◌≡◌, Bool, true, false, ◌&&◌, ◌∙◌, sym, ap, length, rules}
use Rattle.std.proofs.Math.Bool.{and-true, and-false}
use Rattle.desk.specs.Desk.{past_seat, cell_at}
use Rattle.desk.specs.Sound.{tray_sound, seat_sound}
use Rattle.desk.specs.SoundLaws.{tray-rule}
use Rattle.desk_sums.specs.Rows.{cells_sum, seats_sum, seats-fit}
use Rattle.desk_sums.specs.Sums.{sum_fits}
use Rattle.table.specs.Rows.{Sized}
use Rattle.table.specs.Sound.{cells_sound, seats_sound, table_sound}
use Rattle.table.specs.Table.{seat_of}
use Rattle.table_sums.specs.Sums.{table_fits}
use Rattle.theory_lists.specs.Turns.{every-all}
use Rattle.table_sound.proofs.sound.Goals as goal

pub returns-then-not-tray_sound : goal.returns-then-not-tray_sound
unfolding table_sound
returns-then-not-tray_sound c = rw (← c.tray_sound.ensures, c.if-not-tray_sound.true)

-- The seats do not fit, whatever the cells are.
pub returns-then-not-fits : goal.returns-then-not-fits
unfolding table_sound seats_sound
returns-then-not-fits c =
    let t = c.args.t.now in
    let long : length t.seats ≡ 8 = search rules in
    let ok : tray_sound t.tray ≡ true = sym c.tray_sound.ensures ∙ c.if-not-tray_sound.false in
    let bad : sum_fits (seats_sum t.tray (seat_of t) 8) t.tray.counts.desks ≡ false =
    rw (← long, ← c.seats_sum.ensures) (sym c.fits.ensures ∙ c.if-not-fits.true) in
    let seats : sum_fits (seats_sum t.tray (seat_of t) 8) t.tray.counts.desks ≡ seats_sound t.tray t.seats =
    seats-fit t.tray (seat_of t) 8 (tray-rule t.tray ok).cells-most ∙ sym (rw (every-all (seat_sound t.tray) t.seats past_seat, long)) in
    sym (ap (λ (b : Bool). tray_sound t.tray && cells_sound t && b) (sym seats ∙ bad) ∙ and-false (tray_sound t.tray && cells_sound t))

pub cells_sum-requires : goal.cells_sum-requires
cells_sum-requires c =
    let long : length c.args.t.now.cells ≡ 256 = search rules in
    (long, (tray-rule c.args.t.now.tray (sym c.tray_sound.ensures ∙ c.if-not-tray_sound.false)).cells-most)

pub returns : goal.returns
returns c =
    let t = c.args.t.now in
    let z : Sized t = record { all-cells = search rules; all-places = search rules; all-seats = search rules } in
    let ok : tray_sound t.tray ≡ true = sym c.tray_sound.ensures ∙ c.if-not-tray_sound.false in
    let seats : sum_fits (seats_sum t.tray (seat_of t) 8) t.tray.counts.desks ≡ true =
    rw (← z.all-seats, ← c.seats_sum.ensures) (sym c.fits.ensures ∙ c.if-not-fits.false) in
    rw (c.fits-2.ensures, c.cells_sum.ensures, table_fits t z, ok, seats) (sym (and-true (sum_fits (cells_sum t.tray (cell_at t.cells) 8) t.tray.counts.desks)))
