-- The functions that read and write one part of the lent value, done once for any part (`Parts`): `t.x.y` and `t.x.y = v` (`gets`, `sets`),
-- `t.x.y[i]` and `t.x.y[i] = v` (`gets-at`, `sets-at`, and for elements of one byte, whose code has no multiplication, `gets-byte`,
-- `sets-byte`). Such a function's own proof is one line that cites one of these.
-- Assumes nothing.
use mathlib.Core.Path.{◌≡◌, refl, sym, ap, subst, ◌∙◌}
use mathlib.Core.List.{List, [], ◌∷◌, map}
use native.Mathlib.Omega.{arith}
use Prim.Native.Nat.{ℕ, ◌+◌, ◌*◌, ◌<◌}
use seplogic.Ra.Ura.{Ura}
use base.Fraction.{full_share}
use lib.ListN.{get_or, set}
use mir.Syntax.{Callee as Name, Fn, Ty, Local, Place, named, mut, unsigned, w64, ty_int, ty_ptr, ty_unit, ty_ref, local, value_local}
use mir.Syntax.{place, deref, copy, int, opd_unit, rv_opd, op2, mul, offset, addr_of, seq, assign, return}
use mir.Raw.{raw as raw_ty}
use mir.Val.{Val, vstruct, of_list}
use base.Fml.{fat}
use prog.Memory.{size}
use prog.Model.{Model}
use prog.Routine.{Env as Routines}
use prog.Wp.{Tables, Closed}
use types.Logic.{Logic}
use contract.Running.{Running, tables}
use types.Kit.{Item, ‵, Go, ! }
use types.Part.{Part as Within, whole, look_in, store_in}
use types.Run.{Reads, Writes, look, stop, hop, from, load, of_opd, addr}
use denote.Memory.{pointee}
use denote.Triple.Statement.{Triple}
use Rattle.walks.proofs.Element.{cooked, element, set-mapped}
use Rattle.walks.proofs.Lent.{LentFn, always, where-holds, gives, changes, OpenOk, reading, LentMet, W, 𝓣}
use Rattle.walks.proofs.Parts.{Part, long, Row, at, with_at, at-is, with-is, place-fits, size_fits}
use Rattle.walks.proofs.Plain.{Plain, Of, ty, val, IsOf, has-type, number, array}
use Rattle.walks.proofs.Walk.{◌⨟◌}

-- ---- what these functions do
module _ {R X : Plain} (p : Part R X) where
  abbrev pub getter : LentFn R
  getter = gives R [] X always (λ t a. p.get t) (λ t a. t)

  abbrev pub setter : LentFn R
  setter = changes R (X ∷ []) always (λ t a. p.put t a.0)

  -- one that stores a constant x
  abbrev pub clearer : Of X → LentFn R
  clearer x = changes R [] always (λ t a. p.put t x)

module _ {R E : Plain} {n : ℕ} (r : Row R E n) where
  abbrev pub getter-at : LentFn R
  getter-at = gives R (number w64 ∷ []) E (where-holds (λ x. x.1.0 < n)) (λ t a. at r t a.0) (λ t a. t)

  abbrev pub setter-at : LentFn R
  setter-at = changes R (number w64 ∷ E ∷ []) (where-holds (λ x. x.1.0 < n)) (λ t a. with_at r t a.0 a.1.0)

  -- one that stores a constant x
  abbrev pub clearer-at : Of E → LentFn R
  clearer-at x = changes R (number w64 ∷ []) (where-holds (λ x. x.1.0 < n)) (λ t a. with_at r t a.0 x)

-- ---- their code
abbrev value : Ty → Local
value τ = local τ value_local

abbrev pub lent_ty : Plain → Ty
lent_ty R = ty_ref (named 0) mut (pointee R.F.row.written)

abbrev pub place_in : {R X : Plain} → Part R X → Place
place_in {R} p = place 1 (deref (ty R) ∷ p.step ∷ p.steps [])

module _ {R X : Plain} (p : Part R X) where
  abbrev get_fn : Fn
  get_fn = record {
    lifetimes = 1;
    outlives = [];
    ty_params = [];
    givens = 0;
    params = 1;
    locals = value (ty X) ∷ value (lent_ty R) ∷ [];
    body = seq (assign (place 0 []) (rv_opd (copy (place_in p)))) return;
  }

  abbrev set_fn : Fn
  set_fn = record {
    lifetimes = 1;
    outlives = [];
    ty_params = [];
    givens = 0;
    params = 2;
    locals = value ty_unit ∷ value (lent_ty R) ∷ value (ty X) ∷ [];
    body = seq (assign (place_in p) (rv_opd (copy (place 2 [])))) (seq (assign (place 0 []) (rv_opd opd_unit)) return);
  }

module _ {R E : Plain} {n : ℕ} (r : Row R E n) where
  abbrev get_at_fn : Fn
  get_at_fn = record {
    lifetimes = 1;
    outlives = [];
    ty_params = [];
    givens = 0;
    params = 2;
    locals = value (ty E) ∷ value (lent_ty R) ∷ value (ty_int w64) ∷ value (ty_int w64) ∷ value ty_ptr ∷ value ty_ptr ∷ value (ty E) ∷ [];
    body =
        seq (assign (place 3 []) (op2 (mul unsigned) (copy (place 2 [])) (int w64 (size (ty E)))))
        (seq (assign (place 4 []) (addr_of (place_in r.part)))
        (seq (assign (place 5 []) (op2 offset (copy (place 4 [])) (copy (place 3 []))))
        (seq (assign (place 6 []) (rv_opd (copy (place 5 (deref (ty E) ∷ [])))))
        (seq (assign (place 0 []) (rv_opd (copy (place 6 []))))
        return))));
  }

  abbrev get_byte_fn : Fn
  get_byte_fn = record {
    lifetimes = 1;
    outlives = [];
    ty_params = [];
    givens = 0;
    params = 2;
    locals = value (ty E) ∷ value (lent_ty R) ∷ value (ty_int w64) ∷ value ty_ptr ∷ value ty_ptr ∷ value (ty E) ∷ [];
    body =
        seq (assign (place 3 []) (addr_of (place_in r.part)))
        (seq (assign (place 4 []) (op2 offset (copy (place 3 [])) (copy (place 2 []))))
        (seq (assign (place 5 []) (rv_opd (copy (place 4 (deref (ty E) ∷ [])))))
        (seq (assign (place 0 []) (rv_opd (copy (place 5 []))))
        return)));
  }

  abbrev set_at_fn : Fn
  set_at_fn = record {
    lifetimes = 1;
    outlives = [];
    ty_params = [];
    givens = 0;
    params = 3;
    locals = value ty_unit ∷ value (lent_ty R) ∷ value (ty_int w64) ∷ value (ty E) ∷ value (ty_int w64) ∷ value ty_ptr ∷ value ty_ptr ∷ [];
    body =
        seq (assign (place 4 []) (op2 (mul unsigned) (copy (place 2 [])) (int w64 (size (ty E)))))
        (seq (assign (place 5 []) (addr_of (place_in r.part)))
        (seq (assign (place 6 []) (op2 offset (copy (place 5 [])) (copy (place 4 []))))
        (seq (assign (place 6 (deref (ty E) ∷ [])) (rv_opd (copy (place 3 []))))
        (seq (assign (place 0 []) (rv_opd opd_unit))
        return))));
  }

  abbrev set_byte_fn : Fn
  set_byte_fn = record {
    lifetimes = 1;
    outlives = [];
    ty_params = [];
    givens = 0;
    params = 3;
    locals = value ty_unit ∷ value (lent_ty R) ∷ value (ty_int w64) ∷ value (ty E) ∷ value ty_ptr ∷ value ty_ptr ∷ [];
    body =
        seq (assign (place 4 []) (addr_of (place_in r.part)))
        (seq (assign (place 5 []) (op2 offset (copy (place 4 [])) (copy (place 2 []))))
        (seq (assign (place 5 (deref (ty E) ∷ [])) (rv_opd (copy (place 3 []))))
        (seq (assign (place 0 []) (rv_opd opd_unit))
        return)));
  }

-- ---- reading and writing the memory behind the reference, which stands at the head of the context
module _ {M : Type 1} {𝓤 : Ura M} (𝓛 : Logic 𝓤) (R : Plain) (b o : ℕ) where
  abbrev laid_as : Val → Item 𝓤
  laid_as v = ‵ (fat full_share (raw_ty (ty R)) b o v)

  abbrev memory : Of R → Item 𝓤
  memory t = laid_as (val R t)

  module _ {X : Plain} (p : Part R X) (t : Of R) where
    inside : Within (Go {0}) 𝓛 (memory t) full_share (ty X) b (p.off o) (val X (p.get t)) (λ u. laid_as (p.lay t u))
    inside = p.lies t (cooked ! (ty R) (whole !))

    pub reads : {Γ : List (Item 𝓤)} → Reads (Go {0}) 𝓛 (memory t ∷ Γ) (ty X) b (p.off o) (val X (p.get t))
    reads = look_in ! 0 inside

    pub writes : {Γ : List (Item 𝓤)} (x : Of X) → IsOf X x
        → Writes (Go {0}) 𝓛 (memory t ∷ Γ) (ty X) b (p.off o) (val X x) (memory (p.put t x) ∷ Γ)
    writes {Γ} x is =
        subst (λ (v : Val). Writes (Go {0}) 𝓛 (memory t ∷ Γ) (ty X) b (p.off o) (val X x) (laid_as v ∷ Γ)) (p.lays t x)
        (store_in ! 0 inside (has-type 𝓛 X x is))

  module _ {E : Plain} {n : ℕ} (r : Row R E n) (t : Of R) (is : IsOf R t) (i : ℕ) (h : i < n) {a : ℕ}
      (there : i * size (ty E) + r.part.off o ≡ a) where
    abbrev p : Part R (array E n)
    p = r.part

    one : (d : Of E) → Within (Go {0}) 𝓛 (memory t) full_share (ty E) b a (val E (get_or (p.get t) i d))
        (λ u. laid_as (p.lay t (vstruct (of_list (set (map (val E) (p.get t)) i u)))))
    one d = element ! (val E) (p.get t) i d (long E n (p.get t) (p.get-is t is)) h there (inside p t)

    pub reads_at : {Γ : List (Item 𝓤)} → Reads (Go {0}) 𝓛 (memory t ∷ Γ) (ty E) b a (val E (at r t i))
    reads_at = look_in ! 0 (one r.past)

    pub writes_at : {Γ : List (Item 𝓤)} (x : Of E) → IsOf E x
        → Writes (Go {0}) 𝓛 (memory t ∷ Γ) (ty E) b a (val E x) (memory (with_at r t i x) ∷ Γ)
    writes_at {Γ} x is_x =
        subst (λ (v : Val). Writes (Go {0}) 𝓛 (memory t ∷ Γ) (ty E) b a (val E x) (laid_as v ∷ Γ))
        (ap (λ (us : List Val). p.lay t (vstruct (of_list us))) (set-mapped (val E) (p.get t) i x) ∙ p.lays t (set (p.get t) i x))
        (store_in ! 0 (one x) (has-type 𝓛 E x is_x))

-- ---- the walks
module _ {M : Type 1} {𝓤 : Ura M} (𝓛 : Logic 𝓤) (Ts : Tables 𝓤 𝓛.H) where
  module _ {R X : Plain} (p : Part R X) where
    get-ok : OpenOk 𝓛 R (getter p) Ts (get_fn p) []
    get-ok κ q b o γ t a is-a is need =
        let is_x = p.get-is t is in
        _ ⨟ (λ bs. of_opd ! (load ! (from ! (hop ! (look ! 2 refl) (p.goes b o (stop !)))) (reads 𝓛 R b o p t)))
        ⨟ has-type 𝓛 X (p.get t) is_x ⨟ _ ⨟ refl ⨟ is ⨟ (refl, is_x, refl, tt)

    set-ok : OpenOk 𝓛 R (setter p) Ts (set_fn p) []
    set-ok κ q b o γ t a is-a is need =
        let x = a.0 in
        p.put t x ⨟ (λ bs. (_, from ! (hop ! (look ! 2 refl) (p.goes b o (stop !))), writes 𝓛 R b o p t x is-a.0))
        ⨟ (tt, tt) ⨟ _ ⨟ refl ⨟ p.put_is t is x is-a.0 ⨟ (refl, refl, refl, tt)

  module _ {R E : Plain} {n : ℕ} (r : Row R E n) where
    get-at-ok : OpenOk 𝓛 R (getter-at r) Ts (get_at_fn r) (ty_int w64 ∷ ty_ptr ∷ ty_ptr ∷ ty E ∷ [])
    get-at-ok κ q b o γ t a is-a is h =
        let i = a.0 in
        let is_one = at-is r t is i h in
        let typed = has-type 𝓛 E (at r t i) is_one in
        let fits = place-fits r t is i h in
        size_fits r t is i h ⨟ fits ⨟ (tt, fits)
        ⨟ _ ⨟ (λ bs. addr ! (from ! (hop ! (look ! 2 refl) (r.part.goes b o (stop !))))) ⨟ (tt, tt) ⨟ tt ⨟ (tt, tt)
        ⨟ _ ⨟ (λ bs. of_opd ! (load ! (from ! (hop ! (look ! 6 refl) (stop !))) (reads_at 𝓛 R b o r t is i h refl)))
        ⨟ typed ⨟ typed ⨟ _ ⨟ refl ⨟ is ⨟ (refl, is_one, refl, tt)

    set-at-ok : OpenOk 𝓛 R (setter-at r) Ts (set_at_fn r) (ty_int w64 ∷ ty_ptr ∷ ty_ptr ∷ [])
    set-at-ok κ q b o γ t a is-a is h =
        let i = a.0 in
        let x = a.1.0 in
        let fits = place-fits r t is i h in
        size_fits r t is i h ⨟ fits ⨟ (tt, fits)
        ⨟ _ ⨟ (λ bs. addr ! (from ! (hop ! (look ! 2 refl) (r.part.goes b o (stop !))))) ⨟ (tt, tt) ⨟ tt ⨟ (tt, tt)
        ⨟ with_at r t i x ⨟ (λ bs. (_, from ! (hop ! (look ! 7 refl) (stop !)), writes_at 𝓛 R b o r t is i h refl x is-a.1.0))
        ⨟ (tt, tt) ⨟ _ ⨟ refl ⨟ with-is r t is i x is-a.1.0 ⨟ (refl, refl, refl, tt)

    -- of one byte
    module _ (byte : size (ty E) ≡ 1) where
      same_place : (i o : ℕ) → i * size (ty E) + o ≡ i + o
      same_place i o = subst (λ (m : ℕ). i * m + o ≡ i + o) (sym byte) (omega arith)

      get-byte-ok : OpenOk 𝓛 R (getter-at r) Ts (get_byte_fn r) (ty_ptr ∷ ty_ptr ∷ ty E ∷ [])
      get-byte-ok κ q b o γ t a is-a is h =
          let i = a.0 in
          let is_one = at-is r t is i h in
          let typed = has-type 𝓛 E (at r t i) is_one in
          _ ⨟ (λ bs. addr ! (from ! (hop ! (look ! 2 refl) (r.part.goes b o (stop !))))) ⨟ (tt, tt) ⨟ tt ⨟ (tt, tt)
          ⨟ _
          ⨟ (λ bs. of_opd ! (load ! (from ! (hop ! (look ! 5 refl) (stop !))) (reads_at 𝓛 R b o r t is i h (same_place i (r.part.off o)))))
          ⨟ typed ⨟ typed ⨟ _ ⨟ refl ⨟ is ⨟ (refl, is_one, refl, tt)

      set-byte-ok : OpenOk 𝓛 R (setter-at r) Ts (set_byte_fn r) (ty_ptr ∷ ty_ptr ∷ [])
      set-byte-ok κ q b o γ t a is-a is h =
          let i = a.0 in
          let x = a.1.0 in
          let there = same_place i (r.part.off o) in
          _ ⨟ (λ bs. addr ! (from ! (hop ! (look ! 2 refl) (r.part.goes b o (stop !))))) ⨟ (tt, tt) ⨟ tt ⨟ (tt, tt)
          ⨟ with_at r t i x ⨟ (λ bs. (_, from ! (hop ! (look ! 6 refl) (stop !)), writes_at 𝓛 R b o r t is i h there x is-a.1.0))
          ⨟ (tt, tt) ⨟ _ ⨟ refl ⨟ with-is r t is i x is-a.1.0 ⨟ (refl, refl, refl, tt)

-- ---- what a function's own proof cites
module _ {M : Type 1} {𝓤 : Ura M} (𝓛 : Logic 𝓤) (𝓜 : Model 𝓤 𝓛.H) (𝓡 : Running 𝓤 𝓛.H 𝓜) (ε : Routines) (name : Name) where
  open 𝓛 use {H}

  abbrev Ts : Tables 𝓤 H
  Ts = 𝓣 𝓛 𝓜 𝓡 ε

  abbrev IsCode : Fn → Type 2
  IsCode f = Closed 𝓤 H (tables 𝓤 H 𝓜 𝓡 ε).C (tables 𝓤 H 𝓜 𝓡 ε).Λ name f

  abbrev Meets : (R : Plain) → LentFn R → Type 1
  Meets R F = Triple 𝓤 (𝓡.run (ε name)) (LentMet R F 𝓛)

  module _ {R X : Plain} (p : Part R X) where
    pub gets : IsCode (get_fn p) → Meets R (getter p)
    gets is = reading 𝓛 𝓜 𝓡 ε R (getter p) name (get_fn p) is refl (get-ok (W 𝓛 𝓜 𝓡 ε) Ts p)

    pub sets : IsCode (set_fn p) → Meets R (setter p)
    sets is = reading 𝓛 𝓜 𝓡 ε R (setter p) name (set_fn p) is refl (set-ok (W 𝓛 𝓜 𝓡 ε) Ts p)

  -- `byte`, that an element has one byte, is `refl`
  module _ {R E : Plain} {n : ℕ} (r : Row R E n) where
    pub gets-at : IsCode (get_at_fn r) → Meets R (getter-at r)
    gets-at is = reading 𝓛 𝓜 𝓡 ε R (getter-at r) name (get_at_fn r) is refl (get-at-ok (W 𝓛 𝓜 𝓡 ε) Ts r)

    pub sets-at : IsCode (set_at_fn r) → Meets R (setter-at r)
    sets-at is = reading 𝓛 𝓜 𝓡 ε R (setter-at r) name (set_at_fn r) is refl (set-at-ok (W 𝓛 𝓜 𝓡 ε) Ts r)

    pub gets-byte : size (ty E) ≡ 1 → IsCode (get_byte_fn r) → Meets R (getter-at r)
    gets-byte byte is = reading 𝓛 𝓜 𝓡 ε R (getter-at r) name (get_byte_fn r) is refl (get-byte-ok (W 𝓛 𝓜 𝓡 ε) Ts r byte)

    pub sets-byte : size (ty E) ≡ 1 → IsCode (set_byte_fn r) → Meets R (setter-at r)
    sets-byte byte is = reading 𝓛 𝓜 𝓡 ε R (setter-at r) name (set_byte_fn r) is refl (set-byte-ok (W 𝓛 𝓜 𝓡 ε) Ts r byte)
