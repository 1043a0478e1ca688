-- A function that takes a `&T` and a `&mut [E]`, reads what lies behind the first, and hands the slice on to a function, which takes it
-- first and then plain values: `fn write(m: &T, out: &mut [E]) -> R { covered(out, m.x, m.y, ..) }`. It may branch before. `sharing` is what its own proof cites,
-- `handed` what it cites of the function that it calls, and `part-read` how a part of the T is read.
-- Assumes nothing.
use mathlib.Core.Path.{◌≡◌, refl, sym, ap, subst}
use mathlib.Core.List.{List, [], ◌∷◌}
use mathlib.Core.Option.{Option, none}
use mathlib.Core.Option as Opt
use Prim.Native.Nat.{ℕ}
use seplogic.Ra.Ura.{Ura}
use lib.ListN.{length}
use mir.Syntax.{Callee as Name, Fn, Ty, named, imm, mut, ty_ref, place, deref, copy, rv_opd}
use mir.Raw.{raw as raw_ty}
use mir.Val.{Val, vptr}
use base.Logic.{SProp, ent, sep, ex, emp, guard, via, id⊢, fst∗, ex_e, guard_i}
use base.Fml.{GName, Lft, Share, Fml, fat, fsep, feq, flft, ftrue, fbor}
use prog.Model.{Model}
use prog.Routine.{Routine, Env as Routines}
use prog.Wp.{Env, Tables, WpFn, Closed, spot_of}
use types.Logic.{Logic, sem}
use sound.WpLaws.{WpFn-mono, fm_of}
use contract.Lifetimes.{Lfts}
use contract.Monad.{fact, fact_i}
use contract.Running.{Running, tables, tables_of}
use types.Kit.{Item, ‵, raw, some, later, given, mean, ⋆, nth, ◌⊛◌, Go, !, ◌$◌, ◌∵◌, qed, by, use0, use1, await, pick, learn, move, keep, drop}
use types.Kit.{split, join, done, frame, suffices, show, check, updating, fsplit, fjoin, feq_i, feq_l, now as at_once}
use types.Part.{Part as Within, whole, look_in}
use types.Hole.{Holey}
use types.Run.{Reads, Rv, stop, hop, from, load, of_opd}
use types.SemTy.{Body, Arr}
use denote.Builtin.{RefOf, SliceRefMutOf}
use denote.Copied.{Copied, Copied-at, Recorded-Copied}
use denote.Exit.{yes, unchanged}
use denote.Laws.{Is, Copy, shows}
use denote.Memory.{part_at, pointee, mem, raw_all, hidden_shr}
use denote.Opens.{Shut}
use denote.RattleType.{owns}
use denote.Ref.{Bor, MutBor, ShrRef, shr_vals, shr_Tells}
use denote.Shadow.{makes_shadow, pure_l, pure_i}
use denote.Signature.{plain, types_at}
use denote.Slice.{MutSlice, Room, finally, slice_ty, slice_val, mut_slice_vals, mut_slice_Tells}
use denote.Steps.{looks, shuts, peeks, facts, heard, nothing}
use denote.Struct.Steps.{spelt}
use denote.Triple.Clauses.{Clauses, Ended, closing, ensured}
use denote.Triple.End.{lasts_of}
use denote.Triple.Entry.{Args as Arguments, on_entry}
use denote.Triple.Spec.{Meets, triple_of}
use denote.Triple.Statement.{Contract, Triple}
use denote.Triple.Table.{entered, cited}
use denote.Triple.Walked.{Stays, stay_none_ref, gave_slice, walk_of, Goes-none_ref, Goes-gave_slice, Walks, ends_at, walked, walk_Meets}
use Rattle.walks.proofs.Callees.{value-is, is_one}
use Rattle.walks.proofs.Element.{cooked}
use Rattle.walks.proofs.Frame.{tys_of, Done, runs-opened}
use Rattle.walks.proofs.Lent.{W, 𝓣, beside}
use Rattle.walks.proofs.Locals.{HasType}
use Rattle.walks.proofs.Parts.{Part}
use Rattle.walks.proofs.Plain.{Plain, Of, ty, val, own, row_of, IsOf, has-type, Args, AreOf, vals, slots, kepts, to, fro}
use Rattle.walks.proofs.Plain.{fro-to, vss, flat-is, owns-all}
use Rattle.walks.proofs.Walk.{Then, one, two, Stuck, Callee, Does, Ok}

-- ---- what the two functions do. Neither asks anything
-- over a `&T` and a `&mut [E]`: `ensures { ens }`, of the T, the list at entry, the result and the list at exit
pub record SharedFn (T E : Plain) : Type 2 where
  pub R : Plain
  pub ens : Of T → List (Of E) → Of R → List (Of E) → Type 0

-- the function that is handed the slice: the same, and that this is one result and one list left
pub record SliceFn (E : Plain) : Type 2 where
  pub Ps : List Plain
  pub R : Plain
  pub ens : List (Of E) → Args Ps → Of R → List (Of E) → Type 0
  pub res : List (Of E) → Args Ps → Of R
  pub after : List (Of E) → Args Ps → List (Of E)
  pub says : (xs : List (Of E)) (a : Args Ps) (r : Of R) (ys : List (Of E)) → ens xs a r ys → (r ≡ res xs a) × (ys ≡ after xs a)

-- ---- their contracts
module _ {T E : Plain} (F : SharedFn T E) where
  abbrev pub shared_ended : Ended
  shared_ended = record {
    signature = record {
      lifetimes = 2;
      outlives = [];
      params = RefOf (0 ∷ []) tt (plain (λ κs. row_of T)) (λ κs. tt) ∷ SliceRefMutOf (1 ∷ []) tt (plain (λ κs. row_of E)) (λ κs. tt) ∷ [];
      result = plain (λ κs. row_of F.R);
    };
    kept = (yes, (yes, tt));
  }

  abbrev pub shared_clauses : {M : Type 1} (𝓤 : Ura M) → Clauses 𝓤 shared_ended
  shared_clauses 𝓤 κs a = record {
    ghost = Unit {0};
    requires = λ g. emp 𝓤;
    ensures = λ g r end. fact 𝓤 (F.ens a.0.now a.1.0.now r end.1.0.now);
  }

  abbrev pub SharedMet : {M : Type 1} {𝓤 : Ura M} (𝓛 : Logic 𝓤) → Contract 𝓤
  SharedMet {𝓤 = 𝓤} 𝓛 = triple_of 𝓛 shared_ended.signature (closing 𝓛 shared_ended (shared_clauses 𝓤))

module _ {E : Plain} (F : SliceFn E) where
  abbrev pub slice_ended : Ended
  slice_ended = record {
    signature = record {
      lifetimes = 1;
      outlives = [];
      params = SliceRefMutOf (0 ∷ []) tt (plain (λ κs. row_of E)) (λ κs. tt) ∷ slots 1 F.Ps;
      result = plain (λ κs. row_of F.R);
    };
    kept = (yes, kepts 1 F.Ps);
  }

  abbrev pub slice_clauses : {M : Type 1} (𝓤 : Ura M) → Clauses 𝓤 slice_ended
  slice_clauses 𝓤 κs a = record {
    ghost = Unit {0};
    requires = λ g. emp 𝓤;
    ensures = λ g r end. fact 𝓤 (F.ens a.0.now (fro 1 κs F.Ps a.1) r end.0.now);
  }

  abbrev pub SliceMet : {M : Type 1} {𝓤 : Ura M} (𝓛 : Logic 𝓤) → Contract 𝓤
  SliceMet {𝓤 = 𝓤} 𝓛 = triple_of 𝓛 slice_ended.signature (closing 𝓛 slice_ended (slice_clauses 𝓤))

-- ---- what is lent: lifetime, share, place and value of each reference, and the name of the slice
pub record Lending (T E : Plain) : Type 0 where
  pub κ₀ : Lft
  pub q₀ : Share
  pub b₀ : ℕ
  pub o₀ : ℕ
  pub t : Of T
  pub κ₁ : Lft
  pub q₁ : Share
  pub b₁ : ℕ
  pub o₁ : ℕ
  pub γ₁ : GName
  pub xs : List (Of E)

-- a share of the memory behind a `&`, with what closes it again, and what is had of the `&` at the end
abbrev pub shares : {M : Type 1} {𝓤 : Ura M} (𝓛 : Logic 𝓤) (T : Plain) (κ : Lft) (q₀ : Share) (b o : ℕ) → Of T → Share
    → List (Item 𝓤)
shares 𝓛 T κ q₀ b o t q =
    ‵ (fat q (raw_ty (ty T)) b o (val T t)) ∷ ‵ (own T t (val T t ∷ [])) ∷ Shut 𝓛 κ q₀ (part_at (row_of T) q t b o) ∷
    ‵ (hidden_shr (row_of T) κ t b o) ∷ []

-- what is plain can be had twice
pub twice : {M : Type 1} {𝓤 : Ura M} (𝓛 : Logic 𝓤) (T : Plain) → Copy 𝓛 (row_of T)
twice 𝓛 T = record {
  twice = λ x vs. qed 𝓛 (‵ (own T x vs) ∷ []) ∵ pure_l ! (own T x vs) (λ p. pure_i ! (own T x vs) (T.facts (T.F.into x) vs) p $ frame ! $
      pure_i ! (own T x vs) (T.facts (T.F.into x) vs) p $ done !);
}

-- so what a `&` to it has is opened, and gives a share of its memory
pub copied : {M : Type 1} {𝓤 : Ura M} (𝓛 : Logic 𝓤) (T : Plain) → Copied 𝓛 (row_of T)
copied {M} {𝓤} 𝓛 T =
    let R = T.F.row in
    Recorded-Copied 𝓛 (record {
      Denot = R.Denot;
      mir = ty T ∷ [];
      written = R.written;
      reaches = R.reaches;
      lives = R.lives;
      own_val = R.own_val;
      exit = λ k. unchanged;
      coded = R.coded;
      shr_at = R.shr_at;
    }) (Of T) T.F.into T.F.into_one
    (Copied-at 𝓛 R (ty T ∷ []) R.written R.reaches R.lives (λ k. unchanged) (ap raw_all T.one) (T.copy.copied M 𝓤 𝓛))

module _ {M : Type 1} {𝓤 : Ura M} (𝓛 : Logic 𝓤) {T E : Plain} (ℓ : Lending T E) where
  abbrev shared : Bor (Of T)
  shared = record { ref_ptr = (ℓ.b₀, ℓ.o₀); now = ℓ.t }

  abbrev out : MutBor (List (Of E))
  out = record { ref_ptr = (ℓ.b₁, ℓ.o₁); ghost_name = ℓ.γ₁; now = ℓ.xs }

  abbrev slice_of : Val
  slice_of = slice_val (ℓ.b₁, ℓ.o₁) (length ℓ.xs)

  -- what is left of the slice once it has been handed on: what says its last list, and its borrow
  abbrev pub final : List (Of E) → Fml
  final ys = fsep (finally (row_of E) ℓ.γ₁ ys) (fbor ℓ.κ₁ (Body (Arr (Holey (mem (row_of E))) (length ℓ.xs)) ℓ.b₁ ℓ.o₁ ℓ.γ₁))

  -- the slice, until it is handed on; and then what says its last list
  abbrev pub Kept : Type 0
  Kept = Option (List (Of E))

  abbrev pub kept : Kept → Item 𝓤
  kept none = ‵ ((MutSlice (named 1) ℓ.κ₁ (row_of E)).own_val out (slice_of ∷ [])) ⊛ ‵ (flft ℓ.κ₁ ℓ.q₁)
  kept (Opt.some ys) = ‵ (final ys) ⊛ ‵ (flft ℓ.κ₁ ℓ.q₁)

  abbrev pub opened : Share → List (Item 𝓤)
  opened = shares 𝓛 T ℓ.κ₀ ℓ.q₀ ℓ.b₀ ℓ.o₀ ℓ.t

-- a part of the T, which lies at the n-th place of the context: with m locals it is 2 * m + 1
reads-shared : {M : Type 1} {𝓤 : Ura M} (𝓛 : Logic 𝓤) {T X : Plain} (p : Part T X) (t : Of T) {q : Share} {b o : ℕ}
    {Γ : List (Item 𝓤)} (n : ℕ) → nth 𝓛 n Γ ≡ ‵ (fat q (raw_ty (ty T)) b o (val T t)) → Reads (Go {0}) 𝓛 Γ (ty X) b (p.off o) (val X (p.get t))
reads-shared {𝓤 = 𝓤} 𝓛 {T} {X} p t {q} {b} {o} {Γ} n e =
    look_in ! n
    (subst (λ (i : Item 𝓤). Within (Go {0}) 𝓛 i q (ty X) b (p.off o) (val X (p.get t)) (λ u. ‵ (fat q (raw_ty (ty T)) b o (p.lay t u))))
    (sym e) (p.lies t (cooked ! (ty T) (whole !))))

-- `i := m.x`, of that part: where the local that has the `&` is read, and where the T lies
pub part-read : {M : Type 1} {𝓤 : Ura M} (𝓛 : Logic 𝓤) {T X : Plain} (p : Part T X) (t : Of T) {q : Share} {b o : ℕ}
    {Γ : List (Item 𝓤)} {N : Env 𝓤 𝓛.H} {i : ℕ} → Reads (Go {0}) 𝓛 Γ (spot_of 𝓤 𝓛.H N i).0 (spot_of 𝓤 𝓛.H N i).1 (spot_of 𝓤 𝓛.H N i).2 (vptr b o)
    → (n : ℕ) → nth 𝓛 n Γ ≡ ‵ (fat q (raw_ty (ty T)) b o (val T t))
    → Rv (Go {0}) 𝓛 Γ N (rv_opd (copy (place i (deref (ty T) ∷ p.step ∷ p.steps [])))) (val X (p.get t))
part-read 𝓛 p t {b = b} {o = o} here n e = of_opd ! (load ! (from ! (hop ! here (p.goes b o (stop !)))) (reads-shared 𝓛 p t n e))

pub typed-part : {M : Type 1} {𝓤 : Ura M} (𝓛 : Logic 𝓤) {T X : Plain} (p : Part T X) (t : Of T) → IsOf T t
    → HasType (ty X) (val X (p.get t))
typed-part {𝓤 = 𝓤} 𝓛 {X = X} p t is = has-type 𝓛 X (p.get t) (p.get-is t is)

-- ---- the function that is handed the slice
-- what its caller sees: it is called but once, and the list left is as long as it was
abbrev pub handing : {T E : Plain} (F : SliceFn E) → Lending T E → Callee (Option (List (Of E)))
handing {T} {E} F ℓ = record {
  Arg = Args F.Ps;
  Ask = λ s a. (s ≡ none) × AreOf F.Ps a;
  vals = λ a. slice_val (ℓ.b₁, ℓ.o₁) (length ℓ.xs) ∷ vals F.Ps a;
  res = λ s a. val F.R (F.res ℓ.xs a);
  after = λ s a. Opt.some (F.after ℓ.xs a);
  know = λ s a. IsOf F.R (F.res ℓ.xs a) × F.ens ℓ.xs a (F.res ℓ.xs a) (F.after ℓ.xs a)
      × (length (F.after ℓ.xs a) ≡ length ℓ.xs);
  ty = ty F.R;
}

module _ {M : Type 1} {𝓤 : Ura M} (𝓛 : Logic 𝓤) (Ts : Tables 𝓤 𝓛.H) {T E : Plain} (F : SliceFn E) (ℓ : Lending T E)
    (fr : List (Item 𝓤)) (f : Name) (met : Triple 𝓤 (Ts.C f) (SliceMet F 𝓛)) where
  open 𝓛 use {H}

  abbrev Met : Contract 𝓤
  Met = SliceMet F 𝓛

  abbrev κs : Lfts 1
  κs = (ℓ.κ₁, tt)

  module _ (a : Args F.Ps) (is-a : AreOf F.Ps a) where
    abbrev here : Met.Ghost
    here = (
      (κs, (ℓ.q₁, tt), tt, (out 𝓛 ℓ, to 1 κs F.Ps a), (slice_of 𝓛 ℓ ∷ [], vss 1 κs F.Ps a)),
      tt,
    )

    goes_in : ent 𝓤 (mean 𝓛 (kept 𝓛 ℓ none)) (Met.pre here)
    goes_in =
        qed 𝓛 (‵ ((MutSlice (named 0) ℓ.κ₁ (row_of E)).own_val (out 𝓛 ℓ) (slice_of 𝓛 ℓ ∷ [])) ∷ ‵ (flft ℓ.κ₁ ℓ.q₁) ∷ []) ∵
        nothing ! $ move ! (2 ∷ 0 ∷ []) $ join ! $
        use0 𝓛 (‵ (owns (types_at (slots 1 F.Ps) κs) (to 1 κs F.Ps a) (vss 1 κs F.Ps a))) (owns-all 1 κs 𝓛 F.Ps a is-a) $
        move ! (2 ∷ 0 ∷ []) $ fjoin ! $ move ! (1 ∷ 0 ∷ []) $ join ! $
        use0 𝓛 (raw (emp 𝓤)) (id⊢ 𝓤 (emp 𝓤)) $ move ! (1 ∷ 0 ∷ []) $ done !

    abbrev Final : List (Of E) → Fml
    Final ys = final 𝓛 ℓ ys

    abbrev end : List (Of E)
    end = F.after ℓ.xs a

    abbrev Known : Of F.R → Type 0
    Known r = (r ≡ F.res ℓ.xs a) × F.ens ℓ.xs a (F.res ℓ.xs a) end × (length end ≡ length ℓ.xs)

    -- a result and a list of which the contract holds are the contract's
    ends_as : (r : Of F.R) (ys : List (Of E)) → F.ens ℓ.xs a r ys → length ys ≡ length ℓ.xs
        → ent 𝓤 (sem 𝓛 (Final ys)) (guard 𝓤 (Known r) (sem 𝓛 (Final end)))
    ends_as r ys e l =
        let s = F.says ℓ.xs a r ys e in
        let at-end =
        subst (λ (u : List (Of E)). F.ens ℓ.xs a (F.res ℓ.xs a) u) s.1
        (subst (λ (v : Of F.R). F.ens ℓ.xs a v ys) s.0 e) in
        subst (λ (u : List (Of E)). ent 𝓤 (sem 𝓛 (Final ys)) (guard 𝓤 (Known r) (sem 𝓛 (Final u)))) s.1
        (guard_i 𝓤 (Known r) (sem 𝓛 (Final ys)) (s.0, at-end, subst (λ (u : List (Of E)). length u ≡ length ℓ.xs) s.1 l))

    abbrev Said : Of F.R → SProp 𝓤
    Said r = ensured 𝓛 (slice_ended F) (slice_clauses F 𝓤) κs (out 𝓛 ℓ, to 1 κs F.Ps a) tt r

    told : (r : Of F.R) → ent 𝓤 (Said r) (guard 𝓤 (Known r) (sem 𝓛 (Final end)))
    told r = ex_e 𝓤 _ (λ ws.
        let ys : List (Of E) = ws.0 in
        let φ : Type 0 = F.ens ℓ.xs (fro 1 κs F.Ps (to 1 κs F.Ps a)) r ys in
        let Says : Fml = finally (row_of E) ℓ.γ₁ ys in
        let Back : Fml = fbor ℓ.κ₁ (Body (Arr (Holey (mem (row_of E))) (length ℓ.xs)) ℓ.b₁ ℓ.o₁ ℓ.γ₁) in
        let N : Fml = lasts_of {n = 1} κs (slots 1 F.Ps) _ (to 1 κs F.Ps a) ws.1 in
        qed 𝓛 (‵ (fsep (fsep (fsep Says (feq ℕ (length ys) (length ℓ.xs))) Back) N) ∷ raw (fact 𝓤 φ) ∷ []) ∵ move ! (1 ∷ []) $ heard ! φ (λ e.
        fsplit ! $ fsplit ! $ fsplit ! $ move ! (1 ∷ []) $ feq_l ! (λ l. keep ! (0 ∷ 1 ∷ []) $ fjoin ! $
        by ! (ends_as r ys (subst (λ (x : Args F.Ps). F.ens ℓ.xs x r ys) (fro-to 1 κs F.Ps a) e) l))))

    abbrev After : Val → SProp 𝓤
    After r = guard 𝓤 ((r ≡ val F.R (F.res ℓ.xs a)) × (handing F ℓ).know none a) (mean 𝓛 (kept 𝓛 ℓ (Opt.some end)))

    comes-out : (r : Val) → ent 𝓤 (sep 𝓤 (Met.post here r) (emp 𝓤)) (H.⇛ (After r))
    comes-out r =
        qed 𝓛 (raw (Met.post here r) ∷ raw (emp 𝓤) ∷ []) ∵ updating ! $
        use1 𝓛 (later (some (λ (x : Of F.R). ((‵ (flft ℓ.κ₁ ℓ.q₁) ⊛ ‵ ftrue) ⊛ ‵ (own F.R x (r ∷ []))) ⊛ raw (Said x)))) (id⊢ 𝓤 _) $
        await ! tt $ pick ! (λ x. split ! $ move ! (1 ∷ []) $ use1 𝓛 (given (Known x) (‵ (Final end))) (told x) $ learn ! (λ φ.
        move ! (1 ∷ []) $ split ! $ move ! (1 ∷ []) $
        facts ! (row_of F.R) (Is (row_of F.R)) (shows 𝓛 (row_of F.R)) x (r ∷ []) (λ is. split ! $ at_once ! $
        check ! (
          value-is F.R x (F.res ℓ.xs a) r is φ.0,
          (is_one F.R x (F.res ℓ.xs a) r is φ.0, φ.1, φ.2),
        ) $
        -- [the token; true; the last list]
        keep ! (2 ∷ 0 ∷ []) $ done !)))

    slice-met : ent 𝓤 (mean 𝓛 (kept 𝓛 ℓ none)) (H.⇛ (Ts.C f ((handing F ℓ).vals a) (λ r. H.⇛ (After r))))
    slice-met =
        let Call : SProp 𝓤 = Ts.C f (Met.args here) (Met.post here) in
        qed 𝓛 (kept 𝓛 ℓ none ∷ []) ∵ updating ! $ at_once ! $ use1 𝓛 (raw (Met.pre here)) goes_in $ use1 𝓛 (raw Call) (met here) $
        use0 𝓛 (raw (emp 𝓤)) (id⊢ 𝓤 (emp 𝓤)) $ move ! (1 ∷ 0 ∷ []) $
        by ! (subst (λ (vs : List Val). ent 𝓤 (sep 𝓤 Call (emp 𝓤)) (Ts.C f (slice_of 𝓛 ℓ ∷ vs) (λ r. H.⇛ (After r)))) (flat-is 1 κs F.Ps a)
        (fm_of 𝓤 H 𝓛.laws Ts f (Met.args here) (Met.post here) (λ r. H.⇛ (After r)) (emp 𝓤) comes-out))

  slice-does : Does 𝓛 Ts (Option (List (Of E))) (kept 𝓛 ℓ) fr f (handing F ℓ)
  slice-does = record {
    typed = λ s a is. has-type 𝓛 F.R (F.res ℓ.xs a) is.0;
    met = λ s a ask. subst (λ (s' : Option (List (Of E))). ent 𝓤 (mean 𝓛 (kept 𝓛 ℓ s')) (H.⇛ (Ts.C f ((handing F ℓ).vals a)
        (λ r. H.⇛ (After a ask.1 r))))) (sym ask.0) (slice-met a ask.1);
  }

-- ---- the function over the `&T` and the slice
module _ {M : Type 1} {𝓤 : Ura M} (𝓛 : Logic 𝓤) {T E : Plain} (F : SharedFn T E) where
  open 𝓛 use {H}

  abbrev Cl : Clauses 𝓤 (shared_ended F)
  Cl = shared_clauses F 𝓤

  abbrev hs : Stays (shared_ended F).signature.params (shared_ended F).kept
  hs = (stay_none_ref (0 ∷ []) tt (plain (λ κs. row_of T)) yes, (gave_slice (1 ∷ []) tt (plain (λ κs. row_of E)), tt))

  module _ (ℓ : Lending T E) where
    abbrev lfts : Lfts 2
    lfts = (ℓ.κ₀, (ℓ.κ₁, tt))

    abbrev args : Arguments (shared_ended F).signature lfts
    args = (shared 𝓛 ℓ, (out 𝓛 ℓ, tt))

    abbrev bound : (walk_of 𝓛 (shared_ended F) hs Cl).Ghost
    bound = ((lfts, (ℓ.q₀, (ℓ.q₁, tt)), tt, args, (vptr ℓ.b₀ ℓ.o₀ ∷ [], (slice_of 𝓛 ℓ ∷ [], tt))), tt)

    abbrev Post : Val → SProp 𝓤
    Post = (walk_of 𝓛 (shared_ended F) hs Cl).post bound

    abbrev shr-own : Fml
    shr-own = (ShrRef (named 0) ℓ.κ₀ (row_of T)).own_val (shared 𝓛 ℓ) (vptr ℓ.b₀ ℓ.o₀ ∷ [])

    abbrev slice-own : Fml
    slice-own = (MutSlice (named 1) ℓ.κ₁ (row_of E)).own_val (out 𝓛 ℓ) (slice_of 𝓛 ℓ ∷ [])

    abbrev HeldAt : Share → Option (List (Of E)) → SProp 𝓤
    HeldAt q s = sep 𝓤 (mean 𝓛 (kept 𝓛 ℓ s)) (⋆ 𝓛 (opened 𝓛 ℓ q))

    abbrev Entry : SProp 𝓤
    Entry = on_entry 𝓛 (shared_ended F).signature lfts (ℓ.q₀, (ℓ.q₁, tt)) args (vptr ℓ.b₀ ℓ.o₀ ∷ [], (slice_of 𝓛 ℓ ∷ [], tt))

    opens-it : ent 𝓤 Entry (H.⇛ (ex 𝓤 (λ (q : Share). guard 𝓤 (IsOf T ℓ.t) (HeldAt q none))))
    opens-it =
        qed 𝓛 ((‵ (flft ℓ.κ₀ ℓ.q₀) ⊛ (‵ (flft ℓ.κ₁ ℓ.q₁) ⊛ ‵ ftrue)) ∷ (‵ shr-own ⊛ (‵ slice-own ⊛ ‵ ftrue)) ∷ []) ∵ updating ! $
        split ! $ move ! (2 ∷ []) $ split ! $ move ! (1 ∷ []) $ split ! $ move ! (4 ∷ []) $ split ! $ move ! (4 ∷ []) $ fsplit ! $ drop ! $
        -- [the shared borrow; token 1; true; the slice; true; token 0]
        move ! (0 ∷ 5 ∷ []) $
        looks ! tt (row_of T) (copied 𝓛 T).opens ℓ.t ℓ.b₀ ℓ.o₀ (λ q vs.
        spelt ! (row_of T) (Is (row_of T)) (shows 𝓛 (row_of T)) (λ x. val T x ∷ []) T.L.low-is q ℓ.t vs ℓ.b₀ ℓ.o₀ $ move ! (1 ∷ []) $
        peeks ! (row_of T) (Is (row_of T)) (shows 𝓛 (row_of T)) ℓ.t (val T ℓ.t ∷ []) (λ is. at_once ! $
        show ! (λ (q' : Share). guard 𝓤 (IsOf T ℓ.t) (HeldAt q' none)) q $ check ! is $
        -- [what a T owns; the cell; what closes it; the shared borrow; token 1; true; the slice; true]
        move ! (6 ∷ 4 ∷ []) $ join ! $ keep ! (0 ∷ 2 ∷ 1 ∷ 3 ∷ 4 ∷ []) $ done !))

    -- how the body must end: after the call
    abbrev pub Shared-ends : Val → Option (List (Of E)) → Type 2
    Shared-ends v none = Stuck
    Shared-ends v (Opt.some ys) =
        Then (Of F.R) (λ r. (v ≡ val F.R r) × IsOf F.R r × F.ens ℓ.t ℓ.xs r ys × (length ys ≡ length ℓ.xs) × Unit {2})

    exits-at : (ys : List (Of E)) (r : Of F.R) → IsOf F.R r → F.ens ℓ.t ℓ.xs r ys → length ys ≡ length ℓ.xs → (q : Share)
        → ent 𝓤 (HeldAt q (Opt.some ys)) (Post (val F.R r))
    exits-at ys r is e l q =
        qed 𝓛 (kept 𝓛 ℓ (Opt.some ys) ∷ opened 𝓛 ℓ q) ∵ updating ! $ move ! (1 ∷ 2 ∷ 3 ∷ []) $
        shuts ! tt (row_of T) q ℓ.t (val T ℓ.t ∷ []) ℓ.b₀ ℓ.o₀ $
        by ! (
        qed 𝓛 (‵ (flft ℓ.κ₀ ℓ.q₀) ∷ kept 𝓛 ℓ (Opt.some ys) ∷ ‵ (hidden_shr (row_of T) ℓ.κ₀ ℓ.t ℓ.b₀ ℓ.o₀) ∷ []) ∵
        suffices ! _ (ends_at 𝓛 (shared_ended F) hs Cl bound (val F.R r) r (tt, (ys, tt)) (tt, (l, tt))) $
        suffices ! _ (beside 𝓤 _ (fact_i 𝓤 _ (emp 𝓤) e)) $
        move ! (1 ∷ []) $ split ! $ nothing ! $ move ! (2 ∷ 0 ∷ []) $ join ! $ move ! (2 ∷ 0 ∷ []) $ join ! $ frame ! $
        -- [the last list; the shared borrow]
        feq_i ! (List Val) (vptr ℓ.b₀ ℓ.o₀ ∷ []) (vptr ℓ.b₀ ℓ.o₀ ∷ []) refl $ move ! (0 ∷ 2 ∷ []) $ fjoin ! $
        nothing ! $ move ! (2 ∷ 0 ∷ []) $ fjoin ! $ move ! (1 ∷ 0 ∷ []) $ fjoin ! $
        use0 𝓛 (‵ (own F.R r (val F.R r ∷ []))) (makes_shadow 𝓛 (own F.R r _) (F.R.facts (F.R.F.into r) _) is) $
        move ! (1 ∷ 0 ∷ []) $ done !)

    ends : (q : Share) (v : Val) (s : Option (List (Of E))) → Shared-ends v s → ent 𝓤 (HeldAt q s) (Post v)
    ends q v none k = elim k [ ]
    ends q v (Opt.some ys) k =
        let r = one k in
        subst (λ (u : Val). ent 𝓤 (HeldAt q (Opt.some ys)) (Post u)) (sym (two k).0) (exits-at ys r (two k).1 (two k).2 (two k).3 q)

  -- the types of the locals: the result, the two references, and the rest
  abbrev ref_ty : Ty
  ref_ty = ty_ref (named 0) imm (pointee T.F.row.written)

  abbrev out_ty : Ty
  out_ty = slice_ty (ty_ref (named 1) mut (pointee E.F.row.written))

  abbrev pub shared_tys : List Ty → List Ty
  shared_tys ρs = ty F.R ∷ ref_ty ∷ out_ty ∷ ρs

  module _ (Ts : Tables 𝓤 H) (f : Fn) (ρs : List Ty) where
    -- the facts of the body, for whatever is lent, and whatever share of the T is at hand
    abbrev pub SharedOk : Type 2
    SharedOk =
        (ℓ : Lending T E) (q : Share) → IsOf T ℓ.t → Room (row_of E) (length ℓ.xs)
        → Ok 𝓛 Ts (Option (List (Of E))) (kept 𝓛 ℓ) (opened 𝓛 ℓ q) (shared_tys ρs) f.body
        (Done 𝓛 Ts (Option (List (Of E))) (kept 𝓛 ℓ) (opened 𝓛 ℓ q) (shared_tys ρs) (Shared-ends ℓ))
        (none, none ∷ Opt.some (vptr ℓ.b₀ ℓ.o₀) ∷ Opt.some (slice_of 𝓛 ℓ) ∷ [])

    module _ (Shape-is : tys_of f.locals ≡ shared_tys ρs) (ok : SharedOk) where
      abbrev Run : List Val → (Val → SProp 𝓤) → SProp 𝓤
      Run = WpFn 𝓤 H Ts.C Ts.Λ f

      walk : (ℓ : Lending T E) → Room (row_of E) (length ℓ.xs) → ent 𝓤 (Entry ℓ) (Run (vptr ℓ.b₀ ℓ.o₀ ∷ slice_of 𝓛 ℓ ∷ []) (Post ℓ))
      walk ℓ room =
          runs-opened 𝓛 Ts (Option (List (Of E))) Share (λ q. kept 𝓛 ℓ) (opened 𝓛 ℓ) f (ty F.R) (ref_ty ∷ out_ty ∷ ρs) Shape-is
          (vptr ℓ.b₀ ℓ.o₀ ∷ slice_of 𝓛 ℓ ∷ []) ((tt, tt), ((tt, (tt, (record { fits = room.0 }, tt))), tt)) (Entry ℓ) (IsOf T ℓ.t) none
          (opens-it ℓ) (Shared-ends ℓ) (Post ℓ) (ends ℓ) (λ q is. ok ℓ q is room)

      walks-it : Walks 𝓛 (shared_ended F) hs Run Cl
      walks-it =
          walked 𝓛 (shared_ended F) hs Cl Run (λ κs. (shr_vals, (mut_slice_vals, tt)))
          (λ κs. (shr_Tells (named 0) κs.0 (row_of T), (mut_slice_Tells (named 1) κs.1.0 (row_of E), tt)))
          (λ κs qs bounds a g are. via 𝓤 _ (fst∗ 𝓤 _ (emp 𝓤)) (walk (record {
            κ₀ = κs.0;
            q₀ = qs.0;
            b₀ = a.0.ref_ptr.0;
            o₀ = a.0.ref_ptr.1;
            t = a.0.now;
            κ₁ = κs.1.0;
            q₁ = qs.1.0;
            b₁ = a.1.0.ref_ptr.0;
            o₁ = a.1.0.ref_ptr.1;
            γ₁ = a.1.0.ghost_name;
            xs = a.1.0.now;
          }) are.1.0.0.1))

      meets-it : Meets 𝓛 (shared_ended F).signature Run (closing 𝓛 (shared_ended F) Cl)
      meets-it =
          walk_Meets 𝓛 (shared_ended F) hs (
            Goes-none_ref 𝓛 2 (0 ∷ []) tt (plain (λ κs. row_of T)) yes,
            (Goes-gave_slice 𝓛 2 1 tt (plain (λ κs. row_of E)), tt),
          ) Cl Run (WpFn-mono 𝓤 H 𝓛.laws Ts f) walks-it

-- the types of the locals past the two references
abbrev past : List Ty → List Ty
past [] = []
past (τ ∷ τs) = τs

abbrev pub beyond : Fn → List Ty
beyond f = past (past (past (tys_of f.locals)))

-- ---- what the function's own proof cites
module _ {M : Type 1} {𝓤 : Ura M} (𝓛 : Logic 𝓤) (𝓜 : Model 𝓤 𝓛.H) (𝓡 : Running 𝓤 𝓛.H 𝓜) (ε : Routines) where
  open 𝓛 use {H}

  abbrev Ts : Tables 𝓤 H
  Ts = 𝓣 𝓛 𝓜 𝓡 ε

  pub sharing : {T E : Plain} (F : SharedFn T E) (name : Name) (f : Fn) → Closed 𝓤 H (tables 𝓤 H 𝓜 𝓡 ε).C (tables 𝓤 H 𝓜 𝓡 ε).Λ name f
      → tys_of f.locals ≡ shared_tys (W 𝓛 𝓜 𝓡 ε) F (beyond f) → SharedOk (W 𝓛 𝓜 𝓡 ε) F Ts f (beyond f)
      → Triple 𝓤 (𝓡.run (ε name)) (SharedMet F 𝓛)
  unfolding tables_of
  sharing F name f closes Shape-is ok =
      entered 𝓤 H (SharedMet F 𝓛) (tables 𝓤 H 𝓜 𝓡 ε).C (tables 𝓤 H 𝓜 𝓡 ε).Λ name f closes
      (meets-it (W 𝓛 𝓜 𝓡 ε) F Ts f (beyond f) Shape-is ok)

  pub handed : {T E : Plain} (F : SliceFn E) (f : Name) (r : Routine) → ε f ≡ r → Triple 𝓤 (𝓡.run r) (SliceMet F 𝓛)
      → (ℓ : Lending T E) (q : Share) → Does (W 𝓛 𝓜 𝓡 ε) Ts (Option (List (Of E))) (kept 𝓛 ℓ) (opened 𝓛 ℓ q) f (handing F ℓ)
  unfolding tables_of
  handed F f r p met ℓ q =
      slice-does (W 𝓛 𝓜 𝓡 ε) Ts F ℓ (opened 𝓛 ℓ q) f (cited 𝓤 H (SliceMet F 𝓛) 𝓜 𝓡 ε f r p met)
