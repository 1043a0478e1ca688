-- A function that takes a `&mut T` and a `&U`, and hands both on, the second by value: `fn f(v: &mut T, x: &U) -> R { g(v, *x) }`. `passes-read` is
-- all that its own proof cites.
-- Assumes nothing.
use mathlib.Core.Path.{◌≡◌, refl, sym, subst}
use mathlib.Core.List.{List, [], ◌∷◌}
use Prim.Native.Nat.{ℕ}
use seplogic.Ra.Ura.{Ura}
use mir.Syntax.{Callee as Name, Fn, Ty, Local, named, erased, imm, mut, ty_ref, local, value_local, place, deref, copy, addr_of, rv_opd, seq, assign, call, return}
use mir.Raw.{raw as raw_ty}
use mir.Val.{Val, vptr}
use base.Logic.{SProp, ent, sep, ex, emp, guard, via, fst∗}
use base.Fml.{GName, Lft, Share, Fml, fat, flft, ftrue}
use prog.Model.{Model}
use prog.Routine.{Routine, Env as Routines}
use prog.Wp.{Tables, WpFn, Closed}
use types.Logic.{Logic}
use sound.WpLaws.{WpFn-mono}
use contract.Lifetimes.{Lfts}
use contract.Monad.{fact, fact_i}
use contract.Running.{Running, tables, tables_of}
use types.Kit.{Item, ‵, mean, ⋆, nth, ◌⊛◌, Go, !, ◌$◌, ◌∵◌, qed, by, use0, move, keep, drop, split, join, done, frame, suffices, show, check}
use types.Kit.{updating, fsplit, fjoin, feq_i, now as at_once}
use types.Part.{Part as Within, whole, look_in}
use types.Run.{Reads, look, stop, hop, from, load, of_opd}
use denote.Builtin.{RefOf, RefMutOf}
use denote.Exit.{yes}
use denote.Laws.{Is, shows}
use denote.Memory.{pointee, hidden_shr}
use denote.Ref.{Bor, ShrRef, shr_vals, mut_vals, mut_Tells, shr_Tells}
use denote.Shadow.{makes_shadow}
use denote.Signature.{plain}
use denote.Steps.{looks, shuts, peeks, nothing}
use denote.Struct.Steps.{spelt}
use denote.Triple.Clauses.{Clauses, Ended, closing}
use denote.Triple.Entry.{Args as Arguments, on_entry}
use denote.Triple.Spec.{Meets, triple_of}
use denote.Triple.Statement.{Contract, Triple}
use denote.Triple.Table.{entered, cited}
use denote.Triple.Walked.{Stays, stay_ref, stay_none_ref, walk_of, Goes-ref, Goes-none_ref, Walks, ends_at, walked, walk_Meets}
use Rattle.walks.proofs.Access.{lent_ty}
use Rattle.walks.proofs.Callees.{lent-does}
use Rattle.walks.proofs.Element.{cooked}
use Rattle.walks.proofs.Frame.{runs-opened}
use Rattle.walks.proofs.Lent.{LentFn, LentMet, always, gives, W, 𝓣, ref, own-at, closed, beside}
use Rattle.walks.proofs.Plain.{Plain, Of, ty, val, own, row_of, IsOf, has-type}
use Rattle.walks.proofs.Shared.{shares, copied}
use Rattle.walks.proofs.Walk.{◌⨟◌}

module _ (T U R : Plain) (res : Of T → Of U → Of R) (after : Of T → Of U → Of T) where
  -- ---- the contract: `ensures { (result ≡ res) × (v.new ≡ after) }`, of the T at entry and of the U
  abbrev both_ended : Ended
  both_ended = record {
    signature = record {
      lifetimes = 2;
      outlives = [];
      params = RefMutOf (0 ∷ []) tt (plain (λ κs. row_of T)) (λ κs. tt) ∷ RefOf (1 ∷ []) tt (plain (λ κs. row_of U)) (λ κs. tt) ∷ [];
      result = plain (λ κs. row_of R);
    };
    kept = (yes, (yes, tt));
  }

  abbrev both_clauses : {M : Type 1} (𝓤 : Ura M) → Clauses 𝓤 both_ended
  both_clauses 𝓤 κs a = record {
    ghost = Unit {0};
    requires = λ g. emp 𝓤;
    ensures = λ g r end. fact 𝓤 ((r ≡ res a.0.now a.1.0.now) × (end.0.now ≡ after a.0.now a.1.0.now));
  }

  abbrev pub BothMet : {M : Type 1} {𝓤 : Ura M} (𝓛 : Logic 𝓤) → Contract 𝓤
  BothMet {𝓤 = 𝓤} 𝓛 = triple_of 𝓛 both_ended.signature (closing 𝓛 both_ended (both_clauses 𝓤))

  -- ---- the function
  abbrev value : Ty → Local
  value τ = local τ value_local

  abbrev shared_ty : Ty
  shared_ty = ty_ref (named 1) imm (pointee U.F.row.written)

  abbrev again_ty : Ty
  again_ty = ty_ref erased mut (pointee T.F.row.written)

  abbrev pass_fn : Name → Fn
  pass_fn g = record {
    lifetimes = 2;
    outlives = [];
    ty_params = [];
    givens = 0;
    params = 2;
    locals = value (ty R) ∷ value (lent_ty T) ∷ value shared_ty ∷ value again_ty ∷ value (ty U) ∷ [];
    body =
        seq (assign (place 3 []) (addr_of (place 1 (deref (ty T) ∷ []))))
        (seq (assign (place 4 []) (rv_opd (copy (place 2 (deref (ty U) ∷ [])))))
        (seq (call g (copy (place 3 []) ∷ copy (place 4 []) ∷ []) (place 0 []))
        return));
  }

  -- what the function that it calls does
  abbrev F : LentFn T
  F = gives T (U ∷ []) R always (λ t a. res t a.0) (λ t a. after t a.0)

  module _ {M : Type 1} {𝓤 : Ura M} (𝓛 : Logic 𝓤) where
    open 𝓛 use {H}

    abbrev Cl : Clauses 𝓤 both_ended
    Cl = both_clauses 𝓤

    abbrev hs : Stays both_ended.signature.params both_ended.kept
    hs = (stay_ref (0 ∷ []) tt (plain (λ κs. row_of T)), (stay_none_ref (1 ∷ []) tt (plain (λ κs. row_of U)) yes, tt))

    -- what is lent: of the T lifetime, share, place, name and value, and the same but the name of the U
    module _ (κ : Lft) (q : Share) (b o : ℕ) (γ : GName) (t : Of T) (κ₁ : Lft) (q₁ : Share) (b₁ o₁ : ℕ) (u : Of U) where
      abbrev lfts : Lfts 2
      lfts = (κ, (κ₁, tt))

      abbrev shared : Bor (Of U)
      shared = record { ref_ptr = (b₁, o₁); now = u }

      abbrev args : Arguments both_ended.signature lfts
      args = (ref 𝓛 T κ q b o γ t, (shared, tt))

      abbrev bound : (walk_of 𝓛 both_ended hs Cl).Ghost
      bound = ((lfts, (q, (q₁, tt)), tt, args, (vptr b o ∷ [], (vptr b₁ o₁ ∷ [], tt))), tt)

      abbrev Post : Val → SProp 𝓤
      Post = (walk_of 𝓛 both_ended hs Cl).post bound

      abbrev shr-own : Fml
      shr-own = (ShrRef (named 1) κ₁ (row_of U)).own_val shared (vptr b₁ o₁ ∷ [])

      abbrev opened : Share → List (Item 𝓤)
      opened = shares 𝓛 U κ₁ q₁ b₁ o₁ u

      abbrev HeldAt : Share → Of T → SProp 𝓤
      HeldAt s t' = sep 𝓤 (mean 𝓛 (closed 𝓛 T κ q b o γ t')) (⋆ 𝓛 (opened s))

      abbrev Entry : SProp 𝓤
      Entry = on_entry 𝓛 both_ended.signature lfts (q, (q₁, tt)) args (vptr b o ∷ [], (vptr b₁ o₁ ∷ [], tt))

      opens-it : ent 𝓤 Entry (H.⇛ (ex 𝓤 (λ (s : Share). guard 𝓤 (IsOf U u) (HeldAt s t))))
      opens-it =
          qed 𝓛 ((‵ (flft κ q) ⊛ (‵ (flft κ₁ q₁) ⊛ ‵ ftrue)) ∷ (‵ (own-at 𝓛 T κ q b o γ t) ⊛ (‵ shr-own ⊛ ‵ ftrue)) ∷ []) ∵ updating ! $
          split ! $ move ! (2 ∷ []) $ split ! $ move ! (1 ∷ []) $ split ! $ move ! (4 ∷ []) $ split ! $ move ! (2 ∷ []) $ fsplit ! $ drop ! $
          -- [the shared borrow; token 1; true; true; the reference; token 0]
          looks ! tt (row_of U) (copied 𝓛 U).opens u b₁ o₁ (λ s vs.
          spelt ! (row_of U) (Is (row_of U)) (shows 𝓛 (row_of U)) (λ x. val U x ∷ []) U.L.low-is s u vs b₁ o₁ $ move ! (1 ∷ []) $
          peeks ! (row_of U) (Is (row_of U)) (shows 𝓛 (row_of U)) u (val U u ∷ []) (λ is. at_once ! $
          show ! (λ (s' : Share). guard 𝓤 (IsOf U u) (HeldAt s' t)) s $ check ! is $
          -- [what a U owns; the cell; what closes it; the shared borrow; true; true; the reference; token 0]
          move ! (6 ∷ 7 ∷ []) $ join ! $ keep ! (0 ∷ 2 ∷ 1 ∷ 3 ∷ 4 ∷ []) $ done !))

      -- how the body ends
      abbrev Returns : Val → Of T → Type 2
      Returns v t' = (v ≡ val R (res t u)) × IsOf R (res t u) × (t' ≡ after t u) × Unit {2}

      exits-at : IsOf R (res t u) → (s : Share) → ent 𝓤 (HeldAt s (after t u)) (Post (val R (res t u)))
      exits-at is s =
          qed 𝓛 (closed 𝓛 T κ q b o γ (after t u) ∷ opened s) ∵ updating ! $ move ! (1 ∷ 2 ∷ 3 ∷ []) $
          shuts ! tt (row_of U) s u (val U u ∷ []) b₁ o₁ $
          by ! (
          qed 𝓛 (‵ (flft κ₁ q₁) ∷ closed 𝓛 T κ q b o γ (after t u) ∷ ‵ (hidden_shr (row_of U) κ₁ u b₁ o₁) ∷ []) ∵
          suffices ! _ (ends_at 𝓛 both_ended hs Cl bound (val R (res t u)) (res t u) (after t u, (tt, tt)) (tt, (tt, tt))) $
          suffices ! _ (beside 𝓤 _ (fact_i 𝓤 _ (emp 𝓤) (refl, refl))) $
          move ! (1 ∷ []) $ split ! $ nothing ! $ move ! (3 ∷ 0 ∷ []) $ join ! $ move ! (2 ∷ 0 ∷ []) $ join ! $ frame ! $
          -- [the reference; the shared borrow]
          feq_i ! (List Val) (vptr b₁ o₁ ∷ []) (vptr b₁ o₁ ∷ []) refl $ move ! (0 ∷ 2 ∷ []) $ fjoin ! $
          nothing ! $ move ! (1 ∷ 0 ∷ []) $ fjoin ! $ move ! (1 ∷ 0 ∷ []) $ fjoin ! $
          use0 𝓛 (‵ (own R (res t u) (val R (res t u) ∷ [])))
          (makes_shadow 𝓛 (own R (res t u) _) (R.facts (R.F.into (res t u)) _) is) $ move ! (1 ∷ 0 ∷ []) $ done !)

      ends : (s : Share) (v : Val) (t' : Of T) → Returns v t' → ent 𝓤 (HeldAt s t') (Post v)
      ends s v t' k =
          subst (λ (x : Val). ent 𝓤 (HeldAt s t') (Post x)) (sym k.0)
          (subst (λ (x : Of T). ent 𝓤 (HeldAt s x) (Post (val R (res t u)))) (sym k.2) (exits-at k.1 s))

      -- the U is read whole
      reads-it : {Γ : List (Item 𝓤)} {s : Share} (n : ℕ) → nth 𝓛 n Γ ≡ ‵ (fat s (raw_ty (ty U)) b₁ o₁ (val U u))
          → Reads (Go {0}) 𝓛 Γ (ty U) b₁ o₁ (val U u)
      reads-it {s = s} n e =
          look_in ! n
          (subst (λ (i : Item 𝓤). Within (Go {0}) 𝓛 i s (ty U) b₁ o₁ (val U u) (λ x. ‵ (fat s (raw_ty (ty U)) b₁ o₁ x))) (sym e)
          (cooked ! (ty U) (whole !)))

      module _ (Ts : Tables 𝓤 H) (g : Name) (met : Triple 𝓤 (Ts.C g) (LentMet T F 𝓛)) where
        walk : ent 𝓤 Entry (WpFn 𝓤 H Ts.C Ts.Λ (pass_fn g) (vptr b o ∷ vptr b₁ o₁ ∷ []) Post)
        walk =
            runs-opened 𝓛 Ts (Of T) Share (λ _. closed 𝓛 T κ q b o γ) opened (pass_fn g) (ty R) (lent_ty T ∷ shared_ty ∷ again_ty ∷ ty U ∷ []) refl
            (vptr b o ∷ vptr b₁ o₁ ∷ []) ((tt, tt), ((tt, tt), tt)) Entry (IsOf U u) t opens-it Returns Post ends
            (λ s is.
            (tt, tt)
            ⨟ _ ⨟ (λ bs. of_opd ! (load ! (from ! (hop ! (look ! 3 refl) (stop !))) (reads-it 11 refl))) ⨟ has-type 𝓛 U u is
            ⨟ _ ⨟ lent-does 𝓛 Ts T F κ q b o γ g met (opened s) ⨟ (u, tt) ⨟ ((is, tt), tt) ⨟ refl ⨟ refl ⨟ λ is-r.
            _ ⨟ refl ⨟ (refl, is-r, refl, tt))

    module _ (Ts : Tables 𝓤 H) (g : Name) (met : Triple 𝓤 (Ts.C g) (LentMet T F 𝓛)) where
      abbrev Run : List Val → (Val → SProp 𝓤) → SProp 𝓤
      Run = WpFn 𝓤 H Ts.C Ts.Λ (pass_fn g)

      walks-it : Walks 𝓛 both_ended hs Run Cl
      walks-it =
          walked 𝓛 both_ended hs Cl Run (λ κs. (mut_vals, (shr_vals, tt)))
          (λ κs. (mut_Tells (named 0) κs.0 (row_of T), (shr_Tells (named 1) κs.1.0 (row_of U), tt)))
          (λ κs qs bounds a g' are. via 𝓤 _ (fst∗ 𝓤 _ (emp 𝓤))
          (walk κs.0 qs.0 a.0.ref_ptr.0 a.0.ref_ptr.1 a.0.ghost_name a.0.now
          κs.1.0 qs.1.0 a.1.0.ref_ptr.0 a.1.0.ref_ptr.1 a.1.0.now Ts g met))

      meets-it : Meets 𝓛 both_ended.signature Run (closing 𝓛 both_ended Cl)
      meets-it =
          walk_Meets 𝓛 both_ended hs (
            Goes-ref 𝓛 2 0 tt (plain (λ κs. row_of T)),
            (Goes-none_ref 𝓛 2 (1 ∷ []) tt (plain (λ κs. row_of U)) yes, tt),
          ) Cl Run (WpFn-mono 𝓤 H 𝓛.laws Ts (pass_fn g)) walks-it

  -- ---- what the function's own proof cites
  pub passes-read : {M : Type 1} {𝓤 : Ura M} (𝓛 : Logic 𝓤) (𝓜 : Model 𝓤 𝓛.H) (𝓡 : Running 𝓤 𝓛.H 𝓜) (ε : Routines) (f g : Name)
      → Closed 𝓤 𝓛.H (tables 𝓤 𝓛.H 𝓜 𝓡 ε).C (tables 𝓤 𝓛.H 𝓜 𝓡 ε).Λ f (pass_fn g)
      → (r : Routine) → ε g ≡ r → Triple 𝓤 (𝓡.run r) (LentMet T F 𝓛) → Triple 𝓤 (𝓡.run (ε f)) (BothMet 𝓛)
  unfolding tables_of
  passes-read {𝓤 = 𝓤} 𝓛 𝓜 𝓡 ε f g is r e met =
      entered 𝓤 𝓛.H (BothMet 𝓛) (tables 𝓤 𝓛.H 𝓜 𝓡 ε).C (tables 𝓤 𝓛.H 𝓜 𝓡 ε).Λ f (pass_fn g) is
      (meets-it (W 𝓛 𝓜 𝓡 ε) (𝓣 𝓛 𝓜 𝓡 ε) g (cited 𝓤 𝓛.H (LentMet T F 𝓛) 𝓜 𝓡 ε g r e met))
