-- The contract of a function that takes one `&mut` of a plain type and then plain values, and of one that takes plain values only; and from
-- the facts of a body (`Walk.Ok`) to the former. `reading`, for a body that reads and writes behind the reference, and `calling`, for one that
-- calls, are what a function's own proof cites.
-- Assumes nothing.
use mathlib.Core.Path.{◌≡◌, refl, sym, subst}
use mathlib.Core.Option.{none}
use mathlib.Core.Option as Opt
use mathlib.Core.List.{List, [], ◌∷◌, ◌++◌}
use Prim.Native.Nat.{ℕ}
use seplogic.Ra.Ura.{Ura}
use base.Fraction.{full_share}
use mir.Syntax.{Callee as Name, Fn, Ty, named, mut, ty_ref}
use mir.Raw.{raw as raw_ty}
use mir.Val.{Val, vptr}
use base.Logic.{SProp, ent, sep, emp, guard, via, id⊢, comm∗, mono_l, emp∗, fst∗}
use base.Fml.{GName, Lft, Share, Fml, fat, flft, ftrue, fobs, fauth, fobor}
use prog.Wp.{Tables, WpFn, Closed}
use prog.Model.{Model}
use prog.Routine.{Env as Routines}
use types.Logic.{Logic}
use sound.WpLaws.{WpFn-mono}
use contract.Lifetimes.{Lfts}
use contract.Monad.{fact, fact_i}
use contract.Running.{Running, tables, tables_of}
use types.Kit.{Item, ‵, raw, later, given, mean, ⋆, ◌⊛◌, !, ◌$◌, ◌∵◌, qed, by, use0, use1, await, learn, move, keep, drop, split, join}
use types.Kit.{done, frame, suffices, check, updating, fsplit3, fjoin, fjoin3, feq_i, now as at_once}
use types.SemTy.{Body}
use denote.Builtin.{RefMutOf}
use denote.Exit.{yes}
use denote.Laws.{Is, Ises, Are, Spells, valss, shows}
use denote.Memory.{mem, pointee}
use denote.RattleType.{RattleType, Denots, owns, flat}
use denote.Ref.{MutBor, MutRef, mut_vals, mut_Tells}
use denote.Shadow.{makes_shadow}
use denote.Signature.{plain, types_at}
use denote.Steps.{opens, closes, facts, nothing}
use denote.Struct.Steps.{spelt}
use denote.Triple.Clauses.{Clauses, Ended, closing}
use denote.Triple.Entry.{Args as Arguments, on_entry}
use denote.Triple.Spec.{Meets, triple_of}
use denote.Triple.Statement.{Contract, Triple}
use denote.Triple.Table.{entered}
use denote.Triple.Walked.{Stays, stay_ref, walk_of, Goes-ref, Walks, has_of, ends_at, walked, walk_Meets, needs}
use Rattle.walks.proofs.Locals.{somes}
use Rattle.walks.proofs.Walk.{Then, one, two, Ok}
use Rattle.walks.proofs.Frame.{tys_of, Done, runs-fn}
use Rattle.walks.proofs.Plain.{Plain, Of, ty, val, own, coded, row_of, IsOf, unit, Args, AreOf, vals, tys, slots, kepts, stays, to, fro}
use Rattle.walks.proofs.Plain.{fro-to, to-fro, spells, tellss, vss, flat-is, are-of, no_lasts, fits, has_all, have-types, go_all}

-- ---- what a function asks
pub data Pre (X : Type 0) : Type 1 where
  always : Pre X
  where-holds : (X → Type 0) → Pre X

abbrev pub Asked : {X : Type 0} → Pre X → X → Type 0
Asked always x = Unit {0}
Asked (where-holds φ) x = φ x

abbrev pub asked : {M : Type 1} (𝓤 : Ura M) {X : Type 0} → Pre X → X → SProp 𝓤
asked 𝓤 always x = emp 𝓤
asked 𝓤 (where-holds φ) x = fact 𝓤 (φ x)

pub asked-out : {M : Type 1} (𝓤 : Ura M) {X : Type 0} (p : Pre X) (x : X) (P : SProp 𝓤) {Q : SProp 𝓤} → (Asked p x → ent 𝓤 P Q)
    → ent 𝓤 (sep 𝓤 P (asked 𝓤 p x)) Q
asked-out 𝓤 always x P h = via 𝓤 P (fst∗ 𝓤 P (emp 𝓤)) (h tt)
asked-out 𝓤 (where-holds φ) x P h = needs 𝓤 (φ x) P h

pub asked_in : {M : Type 1} (𝓤 : Ura M) {X : Type 0} (p : Pre X) (x : X) → Asked p x → ent 𝓤 (emp 𝓤) (asked 𝓤 p x)
asked_in 𝓤 always x h = id⊢ 𝓤 (emp 𝓤)
asked_in 𝓤 (where-holds φ) x h = fact_i 𝓤 (φ x) (emp 𝓤) h

-- ---- what a function does
-- over a lent T: the other parameters, the result, what it asks, what its `ensures` says (`ens`), and that this is one result (`res`) and one
-- value left (`after`). The contract in the source must be, word for word, `requires { pre }` or none, and one `ensures { ens }`
pub record LentFn (T : Plain) : Type 2 where
  pub Ps : List Plain
  pub R : Plain
  pub pre : Pre (Of T × Args Ps)
  pub ens : Of T → Args Ps → Of R → Of T → Type 0
  pub res : Of T → Args Ps → Of R
  pub after : Of T → Args Ps → Of T
  pub says : (t : Of T) (a : Args Ps) (r : Of R) (t' : Of T) → ens t a r t' → (r ≡ res t a) × (t' ≡ after t a)
  pub keeps : (t : Of T) (a : Args Ps) → ens t a (res t a) (after t a)

-- by value: `ensures { result ≡ res }`
pub record PlainFn : Type 2 where
  pub Ps : List Plain
  pub R : Plain
  pub pre : Pre (Args Ps)
  pub res : Args Ps → Of R

-- the two usual forms: `ensures { (result ≡ res) × (t.new ≡ after) }`, and with no result `ensures { t.new ≡ after }`
abbrev pub gives : (T : Plain) (Ps : List Plain) (R : Plain) → Pre (Of T × Args Ps) → (Of T → Args Ps → Of R) → (Of T → Args Ps → Of T) → LentFn T
gives T Ps R pre res after = record {
  Ps = Ps;
  R = R;
  pre = pre;
  ens = λ t a r t'. (r ≡ res t a) × (t' ≡ after t a);
  res = res;
  after = after;
  says = λ t a r t' e. e;
  keeps = λ t a. (refl, refl);
}

abbrev pub changes : (T : Plain) (Ps : List Plain) → Pre (Of T × Args Ps) → (Of T → Args Ps → Of T) → LentFn T
changes T Ps pre after = record {
  Ps = Ps;
  R = unit;
  pre = pre;
  ens = λ t a r t'. t' ≡ after t a;
  res = λ t a. tt;
  after = after;
  says = λ t a r t' e. (refl, e);
  keeps = λ t a. refl;
}

-- ---- the contract
module _ (T : Plain) (F : LentFn T) where
  abbrev pub ended : Ended
  ended = record {
    signature = record {
      lifetimes = 1;
      outlives = [];
      params = RefMutOf (0 ∷ []) tt (plain (λ κs. row_of T)) (λ κs. tt) ∷ slots 1 F.Ps;
      result = plain (λ κs. row_of F.R);
    };
    kept = (yes, kepts 1 F.Ps);
  }

  abbrev pub clauses : {M : Type 1} (𝓤 : Ura M) → Clauses 𝓤 ended
  clauses 𝓤 κs a = record {
    ghost = Unit {0};
    requires = λ g. asked 𝓤 F.pre (a.0.now, fro 1 κs F.Ps a.1);
    ensures = λ g r end. fact 𝓤 (F.ens a.0.now (fro 1 κs F.Ps a.1) r end.0.now);
  }

  abbrev pub LentMet : {M : Type 1} {𝓤 : Ura M} (𝓛 : Logic 𝓤) → Contract 𝓤
  LentMet {𝓤 = 𝓤} 𝓛 = triple_of 𝓛 ended.signature (closing 𝓛 ended (clauses 𝓤))

abbrev pub plain_ended : PlainFn → Ended
plain_ended F = record {
  signature = record { lifetimes = 0; outlives = []; params = slots 0 F.Ps; result = plain (λ κs. row_of F.R) };
  kept = kepts 0 F.Ps;
}

abbrev pub plain_clauses : (F : PlainFn) {M : Type 1} (𝓤 : Ura M) → Clauses 𝓤 (plain_ended F)
plain_clauses F 𝓤 κs a = record {
  ghost = Unit {0};
  requires = λ g. asked 𝓤 F.pre (fro 0 κs F.Ps a);
  ensures = λ g r end. fact 𝓤 (r ≡ F.res (fro 0 κs F.Ps a));
}

abbrev pub PlainMet : (F : PlainFn) {M : Type 1} {𝓤 : Ura M} (𝓛 : Logic 𝓤) → Contract 𝓤
PlainMet F {𝓤 = 𝓤} 𝓛 = triple_of 𝓛 (plain_ended F).signature (closing 𝓛 (plain_ended F) (plain_clauses F 𝓤))

-- ---- what is had of the reference: closed, as it is passed, and opened, as its memory with what closes it again
module _ {M : Type 1} {𝓤 : Ura M} (𝓛 : Logic 𝓤) (T : Plain) (κ : Lft) (q : Share) (b o : ℕ) (γ : GName) where
  open 𝓛 use {H}

  abbrev pub ref : Of T → MutBor (Of T)
  ref t = record { ref_ptr = (b, o); ghost_name = γ; now = t }

  abbrev pub own-at : Of T → Fml
  own-at t = (MutRef (named 0) κ (row_of T)).own_val (ref t) (vptr b o ∷ [])

  abbrev pub closed : Of T → Item 𝓤
  closed t = ‵ (own-at t) ⊛ ‵ (flft κ q)

  abbrev pub opened : Of T → Item 𝓤
  opened t = ‵ (fat full_share (raw_ty (ty T)) b o (val T t))

  abbrev pub kept-open : Of T → List (Item 𝓤)
  kept-open t = ‵ (fobor κ q (Body (mem (row_of T)) b o γ)) ∷ ‵ (fobs γ ((coded T).code t)) ∷ ‵ (fauth γ ((coded T).code t)) ∷ []

  module _ where
    abbrev Open : Of T → Of T → SProp 𝓤
    Open t t' = sep 𝓤 (mean 𝓛 (opened t')) (⋆ 𝓛 (kept-open t))

    abbrev Shut : Of T → SProp 𝓤
    Shut t = mean 𝓛 (closed t)

    opens-it : (t : Of T) → ent 𝓤 (Shut t) (H.⇛ (guard 𝓤 (IsOf T t) (Open t t)))
    opens-it t =
        qed 𝓛 (‵ (own-at t) ∷ ‵ (flft κ q) ∷ []) ∵ updating ! $ fsplit3 ! $ drop ! $ opens ! tt (row_of T) {h = t} b o (λ vs.
        spelt ! (row_of T) (Is (row_of T)) (shows 𝓛 (row_of T)) (λ x. val T x ∷ []) T.L.low-is full_share t vs b o $ move ! (1 ∷ []) $
        facts ! (row_of T) (Is (row_of T)) (shows 𝓛 (row_of T)) t (val T t ∷ []) (λ is. at_once ! $ check ! is $ done !))

    closes-it : (t t' : Of T) → IsOf T t' → ent 𝓤 (Open t t') (H.⇛ (Shut t'))
    closes-it t t' is =
        qed 𝓛 (opened t' ∷ kept-open t) ∵ updating ! $
        use0 𝓛 (‵ (own T t' (val T t' ∷ []))) (makes_shadow 𝓛 (own T t' _) (T.facts (T.F.into t') _) is) $ move ! (1 ∷ 0 ∷ []) $
        closes ! tt (row_of T) t' (val T t' ∷ []) b o $ at_once ! $
        feq_i ! (List Val) (vptr b o ∷ []) (vptr b o ∷ []) refl $ fjoin3 ! $ done !

    -- what lies behind the reference is one of its type
    looks-at : (t : Of T) → ent 𝓤 (Shut t) (H.⇛ (guard 𝓤 (IsOf T t) (sep 𝓤 (Shut t) (emp 𝓤))))
    looks-at t =
        qed 𝓛 (closed t ∷ []) ∵ updating ! $
        use1 𝓛 (later (given (IsOf T t) (opened t ⊛ raw (⋆ 𝓛 (kept-open t))))) (opens-it t) $ await ! tt $ learn ! (λ is.
        use1 𝓛 (later (closed t)) (closes-it t t is) $ await ! tt $ at_once ! $ check ! is $ nothing ! $ move ! (1 ∷ 0 ∷ []) $ done !)

-- ---- from the body's facts to the contract
-- how a body ends: it returns the contract's result, and leaves the contract's value
abbrev pub Returns : (T : Plain) (F : LentFn T) → Of T → Args F.Ps → Val → Of T → Type 2
Returns T F t a v t' = (v ≡ val F.R (F.res t a)) × IsOf F.R (F.res t a) × (t' ≡ F.after t a) × Unit {2}

pub beside : {M : Type 1} (𝓤 : Ura M) (P : SProp 𝓤) {Q : SProp 𝓤} → ent 𝓤 (emp 𝓤) Q → ent 𝓤 P (sep 𝓤 P Q)
beside 𝓤 P {Q} free = via 𝓤 (sep 𝓤 (emp 𝓤) P) (emp∗ 𝓤 P) (via 𝓤 (sep 𝓤 Q P) (mono_l 𝓤 P free) (comm∗ 𝓤 Q P))

module _ {M : Type 1} {𝓤 : Ura M} (𝓛 : Logic 𝓤) (T : Plain) (F : LentFn T) where
  open 𝓛 use {H}

  abbrev Cl : Clauses 𝓤 (ended T F)
  Cl = clauses T F 𝓤

  abbrev hs : Stays (ended T F).signature.params (ended T F).kept
  hs = (stay_ref (0 ∷ []) tt (plain (λ κs. row_of T)), stays 1 F.Ps)

  module _ (κ : Lft) (q : Share) (b o : ℕ) (γ : GName) (t : Of T) (a : Args F.Ps) (is-a : AreOf F.Ps a) where
    abbrev args : Arguments (ended T F).signature (κ, tt)
    args = (ref 𝓛 T κ q b o γ t, to 1 (κ, tt) F.Ps a)

    abbrev Post : Val → SProp 𝓤
    Post = (walk_of 𝓛 (ended T F) hs Cl).post (((κ, tt), (q, tt), tt, args, (vptr b o ∷ [], vss 1 (κ, tt) F.Ps a)), tt)

    abbrev Closed-at : Of T → SProp 𝓤
    Closed-at u = mean 𝓛 (closed 𝓛 T κ q b o γ u)

    abbrev Open-at : Of T → SProp 𝓤
    Open-at u = sep 𝓤 (mean 𝓛 (opened 𝓛 T κ q b o γ u)) (⋆ 𝓛 (kept-open 𝓛 T κ q b o γ t))

    exits-at : IsOf F.R (F.res t a) → ent 𝓤 (Closed-at (F.after t a)) (Post (val F.R (F.res t a)))
    exits-at is =
        qed 𝓛 (‵ (own-at 𝓛 T κ q b o γ (F.after t a)) ∷ ‵ (flft κ q) ∷ []) ∵
        suffices ! _ (ends_at 𝓛 (ended T F) hs Cl (((κ, tt), (q, tt), tt, args, (vptr b o ∷ [], vss 1 (κ, tt) F.Ps a)), tt)
        (val F.R (F.res t a)) (F.res t a) (F.after t a, no_lasts 1 (κ, tt) F.Ps a) (tt, fits 1 (κ, tt) F.Ps a)) $
        suffices ! _ (beside 𝓤 _ (fact_i 𝓤 _ (emp 𝓤)
        (subst (λ (x : Args F.Ps). F.ens t x (F.res t a) (F.after t a)) (sym (fro-to 1 (κ, tt) F.Ps a)) (F.keeps t a)))) $
        nothing ! $ move ! (2 ∷ 0 ∷ []) $ join ! $ frame ! $
        use0 𝓛 (‵ (has_of {n = 1} (κ, tt) (slots 1 F.Ps) (kepts 1 F.Ps) (stays 1 F.Ps) (to 1 (κ, tt) F.Ps a)
        (no_lasts 1 (κ, tt) F.Ps a) (vss 1 (κ, tt) F.Ps a))) (has_all 1 (κ, tt) 𝓛 F.Ps a is-a) $ move ! (1 ∷ 0 ∷ []) $ fjoin ! $
        use0 𝓛 (‵ (own F.R (F.res t a) (val F.R (F.res t a) ∷ [])))
        (makes_shadow 𝓛 (own F.R (F.res t a) _) (F.R.facts (F.R.F.into (F.res t a)) _) is) $ move ! (1 ∷ 0 ∷ []) $ done !

    closed-ends : (v : Val) (t' : Of T) → Returns T F t a v t' → ent 𝓤 (sep 𝓤 (Closed-at t') (emp 𝓤)) (Post v)
    closed-ends v t' k =
        via 𝓤 (Closed-at t') (fst∗ 𝓤 _ (emp 𝓤)) (subst (λ (u : Val). ent 𝓤 (Closed-at t') (Post u)) (sym k.0)
        (subst (λ (u : Of T). ent 𝓤 (Closed-at u) (Post (val F.R (F.res t a)))) (sym k.2) (exits-at k.1)))

    open-ends : (v : Val) (t' : Of T) → Then (IsOf T t') (λ _. Returns T F t a v t') → ent 𝓤 (Open-at t') (Post v)
    open-ends v t' k =
        qed 𝓛 (raw (Open-at t') ∷ []) ∵ updating ! $
        use1 𝓛 (later (closed 𝓛 T κ q b o γ t')) (closes-it 𝓛 T κ q b o γ t t' (one k)) $ await ! tt $ nothing ! $ move ! (1 ∷ 0 ∷ []) $
        by ! (closed-ends v t' (two k))

    entry : ent 𝓤 (on_entry 𝓛 (ended T F).signature (κ, tt) (q, tt) args (vptr b o ∷ [], vss 1 (κ, tt) F.Ps a)) (Closed-at t)
    entry =
        qed 𝓛 ((‵ (flft κ q) ⊛ ‵ ftrue) ∷ (‵ (own-at 𝓛 T κ q b o γ t)
        ⊛ ‵ (owns (types_at (slots 1 F.Ps) (κ, tt)) (to 1 (κ, tt) F.Ps a) (vss 1 (κ, tt) F.Ps a))) ∷ []) ∵
        split ! $ move ! (2 ∷ []) $ split ! $ keep ! (0 ∷ 2 ∷ []) $ done !

  -- the types of the locals: the result, the reference, the other parameters and the rest
  abbrev ref_ty : Ty
  ref_ty = ty_ref (named 0) mut (pointee T.F.row.written)

  abbrev pub local_tys : List Ty → List Ty
  local_tys ρs = ty F.R ∷ ref_ty ∷ (tys F.Ps ++ ρs)

  abbrev pub Shape : Fn → List Ty → Type 0
  Shape f ρs = tys_of f.locals ≡ local_tys ρs

  module _ (𝓣 : Tables 𝓤 H) (f : Fn) (ρs : List Ty) where
    abbrev Run : List Val → (Val → SProp 𝓤) → SProp 𝓤
    Run = WpFn 𝓤 H 𝓣.C 𝓣.Λ f

    -- a body that calls, with the borrow closed
    abbrev pub ClosedOk : Type 2
    ClosedOk =
        (κ : Lft) (q : Share) (b o : ℕ) (γ : GName) (t : Of T) (a : Args F.Ps) → AreOf F.Ps a → IsOf T t → Asked F.pre (t, a)
        → Ok 𝓛 𝓣 (Of T) (closed 𝓛 T κ q b o γ) [] (local_tys ρs) f.body
        (Done 𝓛 𝓣 (Of T) (closed 𝓛 T κ q b o γ) [] (local_tys ρs) (Returns T F t a)) (t, none ∷ Opt.some (vptr b o) ∷ somes (vals F.Ps a))

    -- a body that reads and writes, with the borrow open
    abbrev pub OpenOk : Type 2
    OpenOk =
        (κ : Lft) (q : Share) (b o : ℕ) (γ : GName) (t : Of T) (a : Args F.Ps) → AreOf F.Ps a → IsOf T t → Asked F.pre (t, a)
        → Ok 𝓛 𝓣 (Of T) (opened 𝓛 T κ q b o γ) (kept-open 𝓛 T κ q b o γ t) (local_tys ρs) f.body
        (Done 𝓛 𝓣 (Of T) (opened 𝓛 T κ q b o γ) (kept-open 𝓛 T κ q b o γ t) (local_tys ρs)
        (λ v t'. Then (IsOf T t') (λ _. Returns T F t a v t'))) (t, none ∷ Opt.some (vptr b o) ∷ somes (vals F.Ps a))

    module _ (Shape-is : Shape f ρs) where
      abbrev Walked : Type 1
      Walked =
          (κ : Lft) (q : Share) (b o : ℕ) (γ : GName) (t : Of T) (a : Args F.Ps) (is-a : AreOf F.Ps a) → Asked F.pre (t, a)
          → ent 𝓤 (Closed-at κ q b o γ t a is-a t) (Run (vptr b o ∷ vals F.Ps a) (Post κ q b o γ t a is-a))

      closed-walked : ClosedOk → Walked
      closed-walked ok κ q b o γ t a is-a need =
          runs-fn 𝓛 𝓣 (Of T) (closed 𝓛 T κ q b o γ) [] f (ty F.R) (ref_ty ∷ (tys F.Ps ++ ρs)) Shape-is
          (vptr b o ∷ vals F.Ps a) ((tt, tt), have-types 𝓛 F.Ps ρs a is-a) (Closed-at κ q b o γ t a is-a t) (IsOf T t) t
          (looks-at 𝓛 T κ q b o γ t) (Returns T F t a) (Post κ q b o γ t a is-a) (closed-ends κ q b o γ t a is-a)
          (λ is. ok κ q b o γ t a is-a is need)

      open-walked : OpenOk → Walked
      open-walked ok κ q b o γ t a is-a need =
          runs-fn 𝓛 𝓣 (Of T) (opened 𝓛 T κ q b o γ) (kept-open 𝓛 T κ q b o γ t) f (ty F.R) (ref_ty ∷ (tys F.Ps ++ ρs)) Shape-is
          (vptr b o ∷ vals F.Ps a) ((tt, tt), have-types 𝓛 F.Ps ρs a is-a) (Closed-at κ q b o γ t a is-a t) (IsOf T t) t
          (opens-it 𝓛 T κ q b o γ t) (λ v t'. Then (IsOf T t') (λ _. Returns T F t a v t')) (Post κ q b o γ t a is-a)
          (open-ends κ q b o γ t a is-a) (λ is. ok κ q b o γ t a is-a is need)

      module _ (κs : Lfts 1) where
        abbrev Ts : List RattleType
        Ts = types_at (ended T F).signature.params κs

        abbrev sp : Spells Ts
        sp = (mut_vals, spells 1 κs F.Ps)

        abbrev At : MutBor (Of T) → Share → Denots (types_at (slots 1 F.Ps) κs) → Type 1
        At x q y =
            Are Ts (Ises Ts) (x, y) (valss Ts sp (x, y))
            → ent 𝓤 (sep 𝓤 (on_entry 𝓛 (ended T F).signature κs (q, tt) (x, y) (valss Ts sp (x, y))) ((Cl κs (x, y)).requires tt))
            (Run (flat Ts (valss Ts sp (x, y))) ((walk_of 𝓛 (ended T F) hs Cl).post ((κs, (q, tt), tt, (x, y), valss Ts sp (x, y)), tt)))

        at-it : Walked → (x : MutBor (Of T)) (q : Share) (a : Args F.Ps) → At x q (to 1 κs F.Ps a)
        at-it walk x q a are =
            let is-a = are-of 1 κs F.Ps a are.1 in
            let b = x.ref_ptr.0 in
            let o = x.ref_ptr.1 in
            let Start = Closed-at κs.0 q b o x.ghost_name x.now a is-a x.now in
            asked-out 𝓤 F.pre (x.now, fro 1 κs F.Ps (to 1 κs F.Ps a)) _ (λ need.
            via 𝓤 Start (entry κs.0 q b o x.ghost_name x.now a is-a)
            (subst (λ (vs : List Val). ent 𝓤 Start (Run (vptr b o ∷ vs) (Post κs.0 q b o x.ghost_name x.now a is-a)))
            (sym (flat-is 1 κs F.Ps a))
            (walk κs.0 q b o x.ghost_name x.now a is-a
            (subst (λ (y : Args F.Ps). Asked F.pre (x.now, y)) (fro-to 1 κs F.Ps a) need))))

      walks-it : Walked → Walks 𝓛 (ended T F) hs Run Cl
      walks-it walk =
          walked 𝓛 (ended T F) hs Cl Run sp (λ κs. (mut_Tells (named 0) κs.0 (row_of T), tellss 1 κs F.Ps))
          (λ κs qs bounds a g are.
          subst (At κs a.0 qs.0) (to-fro 1 κs F.Ps a.1) (at-it κs walk a.0 qs.0 (fro 1 κs F.Ps a.1)) are)

      meets-it : Walked → Meets 𝓛 (ended T F).signature Run (closing 𝓛 (ended T F) Cl)
      meets-it walk =
          walk_Meets 𝓛 (ended T F) hs (Goes-ref 𝓛 1 0 tt (plain (λ κs. row_of T)), go_all 𝓛 1 F.Ps) Cl Run
          (WpFn-mono 𝓤 H 𝓛.laws 𝓣 f) (walks-it walk)

-- the types of the locals past the parameters
abbrev pub past : List Ty → List Ty
past [] = []
past (τ ∷ τs) = τs

abbrev pub skip : List Plain → List Ty → List Ty
skip [] τs = τs
skip (P ∷ Ps) τs = skip Ps (past τs)

abbrev pub others : List Plain → Fn → List Ty
others Ps f = skip Ps (past (past (tys_of f.locals)))

-- ---- what a function's own proof cites
module _ {M : Type 1} {𝓤 : Ura M} (𝓛 : Logic 𝓤) (𝓜 : Model 𝓤 𝓛.H) (𝓡 : Running 𝓤 𝓛.H 𝓜) (ε : Routines) where
  open 𝓛 use {H}

  abbrev pub W : Logic 𝓤
  W = 𝓛

  abbrev pub 𝓣 : Tables 𝓤 H
  𝓣 = tables_of 𝓤 H 𝓜 (tables 𝓤 H 𝓜 𝓡 ε)

  module _ (T : Plain) (F : LentFn T) (name : Name) (f : Fn) (closes : Closed 𝓤 H (tables 𝓤 H 𝓜 𝓡 ε).C (tables 𝓤 H 𝓜 𝓡 ε).Λ name f)
      (Shape-is : Shape W T F f (others F.Ps f)) where
    abbrev ρs : List Ty
    ρs = others F.Ps f

    pub calling : ClosedOk W T F 𝓣 f (others F.Ps f) → Triple 𝓤 (𝓡.run (ε name)) (LentMet T F 𝓛)
    unfolding tables_of
    calling ok =
        entered 𝓤 H (LentMet T F 𝓛) (tables 𝓤 H 𝓜 𝓡 ε).C (tables 𝓤 H 𝓜 𝓡 ε).Λ name f closes
        (meets-it W T F 𝓣 f ρs Shape-is (closed-walked W T F 𝓣 f ρs Shape-is ok))

    pub reading : OpenOk W T F 𝓣 f (others F.Ps f) → Triple 𝓤 (𝓡.run (ε name)) (LentMet T F 𝓛)
    unfolding tables_of
    reading ok =
        entered 𝓤 H (LentMet T F 𝓛) (tables 𝓤 H 𝓜 𝓡 ε).C (tables 𝓤 H 𝓜 𝓡 ε).Λ name f closes
        (meets-it W T F 𝓣 f ρs Shape-is (open-walked W T F 𝓣 f ρs Shape-is ok))
