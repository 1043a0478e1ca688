-- A record and its parts for the walks (crate `walks`), and what each function of the crate `desk_parts` of before the design pass does, as its callers cite it.
-- Assumes nothing.
use mathlib.Core.Path.{refl}
use mir.Syntax.{w8}
use Rattle.desk.specs.contracts.Cell as C
use Rattle.desk.proofs.Cell.TheLaws as C'
use Rattle.desk.specs.contracts.Counts as N
use Rattle.desk.proofs.Counts.TheLaws as N'
use Rattle.desk.specs.contracts.Place as P
use Rattle.desk.proofs.Place.TheLaws as P'
use Rattle.desk.specs.contracts.Record as R
use Rattle.desk.proofs.Record.TheLaws as R'
use Rattle.desk.specs.contracts.Seat as S
use Rattle.desk.proofs.Seat.TheLaws as S'
use Rattle.desk.specs.contracts.Tray as T
use Rattle.desk.proofs.Tray.TheLaws as T'
use Rattle.desk.specs.Desk.{no_cell, no_place, no_seat, past_cell}
use Rattle.desk.specs.Start.{blank_cell}
use Rattle.walks.proofs.Access.{getter, setter, clearer, getter-at, setter-at, clearer-at}
use Rattle.walks.proofs.Lent.{LentFn}
use Rattle.walks.proofs.Parts.{Part, Row, of, field_of, array_as}
use Rattle.walks.proofs.Plain.{Plain, Form, form, number, struct, array}

-- ---- the types
abbrev pub cell-form : Form
cell-form = form C.struct C.the_propositions C'.the_laws C'.lowers C'.the_plain C'.the_copy (λ d. refl) (λ v. tt)

abbrev pub place-form : Form
place-form = form P.struct P.the_propositions P'.the_laws P'.lowers P'.the_plain P'.the_copy (λ d. refl) (λ v. tt)

abbrev pub counts-form : Form
counts-form = form N.struct N.the_propositions N'.the_laws N'.lowers N'.the_plain N'.the_copy (λ d. refl) (λ v. tt)

abbrev pub tray-form : Form
tray-form = form T.struct T.the_propositions T'.the_laws T'.lowers T'.the_plain T'.the_copy (λ d. refl) (λ v. tt)

abbrev pub seat-form : Form
seat-form = form S.struct S.the_propositions S'.the_laws S'.lowers S'.the_plain S'.the_copy (λ d. refl) (λ v. tt)

abbrev pub record-form : Form
record-form = form R.struct R.the_propositions R'.the_laws R'.lowers R'.the_plain R'.the_copy (λ d. refl) (λ v. tt)

abbrev pub cell : Plain
cell = struct cell-form

abbrev pub spot : Plain
spot = struct place-form

abbrev pub counts : Plain
counts = struct counts-form

abbrev pub tray : Plain
tray = struct tray-form

abbrev pub seat : Plain
seat = struct seat-form

abbrev pub desk-record : Plain
desk-record = struct record-form

-- ---- the parts
abbrev pub counts-of-tray : Part tray counts
counts-of-tray = field_of tray-form 0 refl refl

abbrev pub places-of-tray : Part tray (array spot 32)
places-of-tray = array_as spot 32 (field_of tray-form 1 refl refl) (λ x. x) (λ x. x) (λ x h. h) (λ x h. h) refl (λ x. refl) (λ x. refl)

abbrev pub tray-in : Part desk-record tray
tray-in = field_of record-form 0 refl refl

abbrev pub counts-in : Part desk-record counts
counts-in = of tray-in counts-of-tray

abbrev pub desk-in : Part desk-record (number w8)
desk-in = field_of record-form 1 refl refl

abbrev pub seat-in : Part desk-record seat
seat-in = field_of record-form 2 refl refl

abbrev pub places-in : Row desk-record spot 32
places-in = record { part = of tray-in places-of-tray; past = no_place; fits = tt }

abbrev pub row_in : Row desk-record cell 32
row_in = record {
  part = array_as cell 32 (field_of record-form 3 refl refl) (λ x. x) (λ x. x) (λ x h. h) (λ x h. h) refl (λ x. refl) (λ x. refl);
  past = past_cell;
  fits = tt;
}

-- ---- the functions
abbrev pub own-tray : LentFn desk-record
own-tray = getter tray-in

abbrev pub put-own-tray : LentFn desk-record
put-own-tray = setter tray-in

abbrev pub own-counts : LentFn desk-record
own-counts = getter counts-in

abbrev pub own-place : LentFn desk-record
own-place = getter-at places-in

abbrev pub own-desk : LentFn desk-record
own-desk = getter desk-in

abbrev pub put-own-desk : LentFn desk-record
put-own-desk = setter desk-in

abbrev pub own-seat : LentFn desk-record
own-seat = getter seat-in

abbrev pub put-own-seat : LentFn desk-record
put-own-seat = setter seat-in

abbrev pub clear-own-seat : LentFn desk-record
clear-own-seat = clearer seat-in no_seat

abbrev pub own-cell : LentFn desk-record
own-cell = getter-at row_in

abbrev pub put-own : LentFn desk-record
put-own = setter-at row_in

abbrev pub clear-own : LentFn desk-record
clear-own = clearer-at row_in no_cell

abbrev pub keep-own : LentFn desk-record
keep-own = clearer-at row_in blank_cell
