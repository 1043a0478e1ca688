-- A function that only hands on what it was lent, with one plain value beside it: `fn f(v: &mut T, x: P) -> R { g(v, x) }`. `passes` is all that
-- its own proof cites.
-- Assumes nothing.
use mathlib.Core.Path.{◌≡◌, refl}
use mathlib.Core.List.{[], ◌∷◌}
use seplogic.Ra.Ura.{Ura}
use mir.Syntax.{Callee as Name, Fn, Ty, Local, ty_ref, erased, mut, local, value_local, place, deref, copy, addr_of, seq, assign, call, return}
use prog.Model.{Model}
use prog.Routine.{Routine, Env as Routines}
use prog.Wp.{Closed}
use types.Logic.{Logic}
use contract.Running.{Running, tables}
use denote.Memory.{pointee}
use denote.Triple.Statement.{Triple}
use Rattle.walks.proofs.Access.{lent_ty}
use Rattle.walks.proofs.Callees.{lent}
use Rattle.walks.proofs.Lent.{LentFn, always, gives, calling, LentMet}
use Rattle.walks.proofs.Plain.{Plain, Of, Args, ty}
use Rattle.walks.proofs.Walk.{◌⨟◌}

abbrev value : Ty → Local
value τ = local τ value_local

module _ (T P R : Plain) where
  abbrev pass_fn : Name → Fn
  pass_fn g = record {
    lifetimes = 1;
    outlives = [];
    ty_params = [];
    givens = 0;
    params = 2;
    locals = value (ty R) ∷ value (lent_ty T) ∷ value (ty P) ∷ value (ty_ref erased mut (pointee T.F.row.written)) ∷ [];
    body =
        seq (assign (place 3 []) (addr_of (place 1 (deref (ty T) ∷ []))))
        (seq (call g (copy (place 3 []) ∷ copy (place 2 []) ∷ []) (place 0 []))
        return);
  }

  module _ (res : Of T → Args (P ∷ []) → Of R) (after : Of T → Args (P ∷ []) → Of T) where
    abbrev F : LentFn T
    F = gives T (P ∷ []) R always res after

    pub passes : {M : Type 1} {𝓤 : Ura M} (𝓛 : Logic 𝓤) (𝓜 : Model 𝓤 𝓛.H) (𝓡 : Running 𝓤 𝓛.H 𝓜) (ε : Routines) (f g : Name)
        → Closed 𝓤 𝓛.H (tables 𝓤 𝓛.H 𝓜 𝓡 ε).C (tables 𝓤 𝓛.H 𝓜 𝓡 ε).Λ f (pass_fn g)
        → (r : Routine) → ε g ≡ r → Triple 𝓤 (𝓡.run r) (LentMet T F 𝓛) → Triple 𝓤 (𝓡.run (ε f)) (LentMet T F 𝓛)
    passes 𝓛 𝓜 𝓡 ε f g is r e met =
        calling 𝓛 𝓜 𝓡 ε T F f (pass_fn g) is refl
        (λ κ q b o γ t a is-a is-t need.
        (tt, tt) ⨟ _ ⨟ lent 𝓛 𝓜 𝓡 ε T F g r e met κ q b o γ ⨟ a ⨟ (is-a, tt) ⨟ refl ⨟ refl ⨟ λ is-r. _ ⨟ refl ⨟ (refl, is-r, refl, tt))
