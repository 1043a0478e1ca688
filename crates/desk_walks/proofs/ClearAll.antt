-- A loop that clears an array of the lent value, `while i < n { g(t, i); i = i + 1; }`, done once for any array and any g that stores a constant x.
-- `clears-all` is all that such a function's own proof cites.
-- Assumes nothing.
use mathlib.Core.List.{List, [], ◌∷◌}
use mathlib.Core.Option.{none, some}
use mathlib.Core.Path.{◌≡◌, refl, sym, ap, ◌∙◌}
use mathlib.Core.WellFounded.InvImage
use Prim.Native.Nat.{ℕ, ◌+◌, ◌-◌, ◌<◌, ◌≤◌, ◌^◌, zero-le}
use native.Mathlib.Omega.{arith}
use seplogic.Ra.Ura.{Ura}
use lib.Dec.{T, ltb, ltb→lt, nltb→le, lit<}
use lib.ListN.{set, replicate}
use lib.WfN.{lt-wf_rel}
use mir.Syntax.{Callee as Name, Fn, Ty, Local, unsigned, w64, ty_int, ty_bool, ty_unit, ty_ref, erased, mut, local, value_local, place, deref, copy, int, opd_unit}
use mir.Syntax.{rv_opd, op2, lt, add, addr_of, skip, seq, assign, block, loop, cond, exit, call, return}
use mir.Val.{vint, vptr}
use prog.Model.{Model}
use prog.Routine.{Routine, Env as Routines}
use prog.Wp.{Closed}
use types.Logic.{Logic}
use contract.Running.{Running, tables}
use denote.Memory.{pointee}
use denote.Triple.Statement.{Triple}
use Rattle.theory_lists.specs.Replaced.{up_to, up_to-step, up_to-same}
use Rattle.walks.proofs.Access.{clearer-at, lent_ty}
use Rattle.walks.proofs.Callees.{lent}
use Rattle.walks.proofs.Lent.{LentFn, always, changes, calling, LentMet}
use Rattle.walks.proofs.Parts.{Row, long}
use Rattle.walks.proofs.Plain.{Plain, Of, ty}
use Rattle.walks.proofs.Walk.{◌⨟◌, apart}

abbrev value : Ty → Local
value τ = local τ value_local

abbrev Count : ℕ → Type 0
Count n = (c : ℕ) × (c ≤ n)

abbrev left : (n : ℕ) → Count n → ℕ
left n x = n - x.0

module _ {R E : Plain} {n : ℕ} (r : Row R E n) (x : Of E) where
  abbrev loop_fn : Name → Fn
  loop_fn g = record {
    lifetimes = 1;
    outlives = [];
    ty_params = [];
    givens = 0;
    params = 1;
    locals = value ty_unit ∷ value (lent_ty R) ∷ value (ty_int w64) ∷ value ty_bool ∷ value ty_unit
        ∷ value (ty_ref erased mut (pointee R.F.row.written)) ∷ [];
    body =
        seq (assign (place 2 []) (rv_opd (int w64 0)))
        (seq (block (loop
        (seq (assign (place 3 []) (op2 (lt unsigned) (copy (place 2 [])) (int w64 n)))
        (seq (cond (copy (place 3 [])) skip (exit 1))
        (seq (assign (place 5 []) (addr_of (place 1 (deref (ty R) ∷ []))))
        (seq (call g (copy (place 5 []) ∷ copy (place 2 []) ∷ []) (place 4 []))
        (assign (place 2 []) (op2 (add unsigned) (copy (place 2 [])) (int w64 1)))))))))
        (seq (assign (place 0 []) (rv_opd opd_unit))
        return));
  }

  abbrev get : Of R → List (Of E)
  get t = r.part.get t

  abbrev put : Of R → List (Of E) → Of R
  put t l = r.part.put t l

  abbrev pub cleared : LentFn R
  cleared = changes R [] always (λ t a. put t (replicate n x))

  -- n is a number of the machine: by `tt`. What is put is there, and nothing else changes: by `refl`
  module _ (small : T (ltb n (2 ^ 64))) (got : (t : Of R) (l : List (Of E)) → get (put t l) ≡ l)
      (again : (t : Of R) (l m : List (Of E)) → put (put t l) m ≡ put t m) (back : (t : Of R) → put t (get t) ≡ t) where
    abbrev to : Of R → ℕ → Of R
    to t c = put t (up_to (λ _. x) c (get t))

    to_none : (t : Of R) → t ≡ to t 0
    unfolding up_to
    to_none t = sym (back t)

    to_one : (t : Of R) (c : ℕ) → put (to t c) (set (get (to t c)) c x) ≡ to t (c + 1)
    to_one t c =
        let l = up_to (λ _. x) c (get t) in
        again t l _ ∙ ap (λ (m : List (Of E)). put t (set m c x)) (got t l) ∙ ap (put t) (up_to-step (λ _. x) c (get t))

    pub clears-all : {M : Type 1} {𝓤 : Ura M} (𝓛 : Logic 𝓤) (𝓜 : Model 𝓤 𝓛.H) (𝓡 : Running 𝓤 𝓛.H 𝓜) (ε : Routines) (f g : Name)
        → Closed 𝓤 𝓛.H (tables 𝓤 𝓛.H 𝓜 𝓡 ε).C (tables 𝓤 𝓛.H 𝓜 𝓡 ε).Λ f (loop_fn g)
        → (ρ : Routine) → ε g ≡ ρ → Triple 𝓤 (𝓡.run ρ) (LentMet R (clearer-at r x) 𝓛) → Triple 𝓤 (𝓡.run (ε f)) (LentMet R cleared 𝓛)
    clears-all 𝓛 𝓜 𝓡 ε f g is ρ e met =
        let in-machine = ltb→lt n (2 ^ 64) small in
        calling 𝓛 𝓜 𝓡 ε R cleared f (loop_fn g) is refl
        (λ κ q b o γ t a is-a is-t need.
        tt ⨟ (tt, record { fits = lit< tt })
        ⨟ Count n ⨟ (λ x y. left n x < left n y) ⨟ InvImage.wf (left n) lt-wf_rel.wf
        ⨟ (λ y. (to t y.0, none ∷ some (vptr b o) ∷ some (vint w64 y.0) ∷ []))
        ⨟ (0, zero-le) ⨟ to_none t ⨟ (refl, (refl, tt))
        ⨟ (λ y. let c : ℕ = y.0 in
        (small ⨟ tt ⨟ (tt, tt) ⨟ apart ((λ yes. let below : y.0 < n = ltb→lt y.0 n yes in
        ((tt, tt) ⨟ _ ⨟ lent 𝓛 𝓜 𝓡 ε R (clearer-at r x) g ρ e met κ q b o γ ⨟ (c, tt) ⨟ (((refl, omega (arith, below, in-machine)), tt), below)
        ⨟ refl ⨟ refl ⨟ λ _.
        tt ⨟ record { fits = omega (arith, below, in-machine) } ⨟ (tt, record { fits = omega (arith, below, in-machine) })
        ⨟ ((c + 1, omega (arith, below)), omega (arith, below), to_one t c, (refl, (refl, tt)), tt)))
        ⨟ (λ no. let end : y.0 ≡ n = omega (arith, nltb→le y.0 n no, y.1) in
        ((tt, tt) ⨟ _ ⨟ refl
        ⨟ (refl, refl, ap (to t) end ∙ ap (put t) (up_to-same x n (get t) (long E n (get t) (r.part.get-is t is-t))), tt)))))))
