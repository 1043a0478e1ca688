-- The functions that store a constant cell, `v.row[c] = Cell::NONE` or `Cell::BLANK`, done once for any lent value with an array of cells: the
-- constant's statements stand in the function's own code. `stores` is all that such a function's own proof cites. And that constants are ones.
-- Assumes nothing.
use mathlib.Core.Path.{refl}
use mathlib.Core.Bool.{Bool, true, false}
use mathlib.Core.List.{[], ◌∷◌}
use Prim.Native.Nat.{ℕ}
use seplogic.Ra.Ura.{Ura}
use lib.Dec.{lit<}
use lib.ListN.{replicate}
use mir.Syntax.{Callee as Name, Fn, Ty, Local, unsigned, w32, w64, ty_int, ty_ptr, ty_unit, local, value_local}
use mir.Syntax.{Opd, place, deref, copy, int, opd_unit, opd_true, opd_false, rv_opd, op2, mul, offset, addr_of, aggregate, repeat, seq, assign, return}
use prog.Memory.{size}
use prog.Model.{Model}
use prog.Routine.{Env as Routines}
use prog.Wp.{Tables, Closed}
use types.Logic.{Logic}
use contract.Running.{Running, tables}
use types.Kit.{ ! }
use types.Run.{look, stop, hop, from, addr}
use denote.Triple.Statement.{Triple}
use Rattle.clock.specs.contracts.Clock as K
use Rattle.clock.proofs.Clock.TheLaws as K'
use Rattle.clock.specs.Clock.{zero_clock}
use Rattle.desk.specs.contracts.Slot as L
use Rattle.desk.proofs.Slot.TheLaws as L'
use Rattle.desk.specs.declared.Cell.{Cell}
use Rattle.desk.specs.Desk.{no_word, no_slot, no_seat}
use Rattle.walks.proofs.Access.{clearer-at, lent_ty, place_in, writes_at}
use Rattle.walks.proofs.Lent.{LentFn, OpenOk, reading, LentMet, W, 𝓣}
use Rattle.walks.proofs.Parts.{Row, with_at, with-is, place-fits, size_fits, struct_is, same-are}
use Rattle.walks.proofs.Plain.{Plain, Form, form, ty, IsOf, has-type, number, struct, array}
use Rattle.walks.proofs.Walk.{◌⨟◌}
use Rattle.desk_walks.proofs.Parts.{cell-form, cell, seat-form, seat}

abbrev pub clock-form : Form
clock-form = form K.struct K.the_propositions K'.the_laws K'.lowers K'.the_plain K'.the_copy (λ d. refl) (λ v. tt)

abbrev pub slot-form : Form
slot-form = form L.struct L.the_propositions L'.the_laws L'.lowers L'.the_plain L'.the_copy (λ d. refl) (λ v. tt)

abbrev pub numbers : Plain
numbers = array (number w32) 8

pub zeros-are : IsOf numbers (replicate 8 0)
zeros-are = same-are (number w32) 8 0 (refl, lit< tt)

pub no-clock-is : IsOf (struct clock-form) zero_clock
no-clock-is = struct_is clock-form zero_clock (zeros-are, tt)

pub no-slot-is : IsOf (struct slot-form) no_slot
no-slot-is = struct_is slot-form no_slot ((refl, lit< tt), ((refl, lit< tt), ((refl, lit< tt), (no-clock-is, tt))))

pub no-seat-is : IsOf seat no_seat
no-seat-is = struct_is seat-form no_seat (no-clock-is, (no-slot-is, (refl, tt)))

-- a blank cell, held or not
abbrev pub blank : Bool → Cell
blank held = record { held = held; word = no_word; stamp = zero_clock }

pub blank-is : (held : Bool) → IsOf cell (blank held)
blank-is held = struct_is cell-form (blank held) (refl, ((refl, lit< tt), (no-clock-is, tt)))

abbrev flag : Bool → Opd
flag true = opd_true
flag false = opd_false

abbrev value : Ty → Local
value τ = local τ value_local

module _ {R : Plain} {n : ℕ} (r : Row R cell n) where
  abbrev storer : Bool → LentFn R
  storer held = clearer-at r (blank held)

  abbrev store_fn : Bool → Fn
  store_fn held = record {
    lifetimes = 1;
    outlives = [];
    ty_params = [];
    givens = 0;
    params = 2;
    locals = value ty_unit ∷ value (lent_ty R) ∷ value (ty_int w64) ∷ value (ty numbers) ∷ value (ty (struct clock-form)) ∷ value (ty cell) ∷
        value (ty_int w64) ∷ value ty_ptr ∷ value ty_ptr ∷ [];
    body =
        seq (assign (place 3 []) (repeat (int w32 0) 8))
        (seq (assign (place 4 []) (aggregate (copy (place 3 []) ∷ [])))
        (seq (assign (place 5 []) (aggregate (flag held ∷ int w32 0 ∷ copy (place 4 []) ∷ [])))
        (seq (assign (place 6 []) (op2 (mul unsigned) (copy (place 2 [])) (int w64 (size (ty cell)))))
        (seq (assign (place 7 []) (addr_of (place_in r.part)))
        (seq (assign (place 8 []) (op2 offset (copy (place 7 [])) (copy (place 6 []))))
        (seq (assign (place 8 (deref (ty cell) ∷ [])) (rv_opd (copy (place 5 []))))
        (seq (assign (place 0 []) (rv_opd opd_unit))
        return)))))));
  }

  -- the two clauses have the same facts: the code is known only where the flag is
  store_ok : (held : Bool) {M : Type 1} {𝓤 : Ura M} (𝓛 : Logic 𝓤) (Ts : Tables 𝓤 𝓛.H)
      → OpenOk 𝓛 R (storer held) Ts (store_fn held)
      (ty numbers ∷ ty (struct clock-form) ∷ ty cell ∷ ty_int w64 ∷ ty_ptr ∷ ty_ptr ∷ [])
  store_ok true 𝓛 Ts κ q b o γ t a is-a is h =
      let i = a.0 in
      let x = blank true in
      let fits = place-fits r t is i h in
      tt ⨟ has-type 𝓛 numbers (replicate 8 0) zeros-are ⨟ has-type 𝓛 (struct clock-form) zero_clock no-clock-is
      ⨟ tt ⨟ has-type 𝓛 cell x (blank-is true) ⨟ size_fits r t is i h ⨟ fits ⨟ (tt, fits)
      ⨟ _ ⨟ (λ bs. addr ! (from ! (hop ! (look ! 2 refl) (r.part.goes b o (stop !))))) ⨟ (tt, tt) ⨟ tt ⨟ (tt, tt)
      ⨟ with_at r t i x ⨟ (λ bs. (_, from ! (hop ! (look ! 9 refl) (stop !)), writes_at 𝓛 R b o r t is i h refl x (blank-is true)))
      ⨟ (tt, tt) ⨟ _ ⨟ refl ⨟ with-is r t is i x (blank-is true) ⨟ (refl, refl, refl, tt)
  store_ok false 𝓛 Ts κ q b o γ t a is-a is h =
      let i = a.0 in
      let x = blank false in
      let fits = place-fits r t is i h in
      tt ⨟ has-type 𝓛 numbers (replicate 8 0) zeros-are ⨟ has-type 𝓛 (struct clock-form) zero_clock no-clock-is
      ⨟ tt ⨟ has-type 𝓛 cell x (blank-is false) ⨟ size_fits r t is i h ⨟ fits ⨟ (tt, fits)
      ⨟ _ ⨟ (λ bs. addr ! (from ! (hop ! (look ! 2 refl) (r.part.goes b o (stop !))))) ⨟ (tt, tt) ⨟ tt ⨟ (tt, tt)
      ⨟ with_at r t i x ⨟ (λ bs. (_, from ! (hop ! (look ! 9 refl) (stop !)), writes_at 𝓛 R b o r t is i h refl x (blank-is false)))
      ⨟ (tt, tt) ⨟ _ ⨟ refl ⨟ with-is r t is i x (blank-is false) ⨟ (refl, refl, refl, tt)

  pub stores : (held : Bool) {M : Type 1} {𝓤 : Ura M} (𝓛 : Logic 𝓤) (𝓜 : Model 𝓤 𝓛.H) (𝓡 : Running 𝓤 𝓛.H 𝓜) (ε : Routines)
      (name : Name) → Closed 𝓤 𝓛.H (tables 𝓤 𝓛.H 𝓜 𝓡 ε).C (tables 𝓤 𝓛.H 𝓜 𝓡 ε).Λ name (store_fn held)
      → Triple 𝓤 (𝓡.run (ε name)) (LentMet R (storer held) 𝓛)
  stores held 𝓛 𝓜 𝓡 ε name is =
      reading 𝓛 𝓜 𝓡 ε R (storer held) name (store_fn held) is refl (store_ok held (W 𝓛 𝓜 𝓡 ε) (𝓣 𝓛 𝓜 𝓡 ε))
