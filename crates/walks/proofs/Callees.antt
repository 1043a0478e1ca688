-- A function that meets its contract, as the body that calls it has it (`Walk.Callee`, `Walk.Does`). A function over the lent value: the
-- reference is lent again for the call, and comes back. A function by value: what is held stays as it is. `lends` and `values`, or with
-- more written out `lent` and `valued`, are what the caller's proof cites.
-- Assumes nothing.
use mathlib.Core.Path.{◌≡◌, sym, ap, subst, ◌∙◌}
use mathlib.Core.List.{List, [], ◌∷◌}
use Prim.Native.Nat.{ℕ}
use seplogic.Ra.Ura.{Ura}
use base.Fraction.{full_share}
use mir.Syntax.{Callee as Name, named}
use mir.Val.{Val, vptr}
use base.Logic.{SProp, ent, sep, emp, guard, via, id⊢, ex_e, fst∗, snd∗, guard_i}
use base.Fml.{GName, Lft, Share, Fml, flft, ftrue, fres, fbor}
use prog.Wp.{Tables}
use prog.Model.{Model}
use prog.Routine.{Routine, Env as Routines}
use types.Logic.{Logic, sem}
use sound.WpLaws.{fm_of}
use contract.Monad.{fact, fact_use}
use contract.Running.{Running, tables_of}
use types.Kit.{Item, ‵, raw, some, later, given, mean, ◌⊛◌, !, ◌$◌, ◌∵◌, qed, by, use0, use1, use2, use3, await, learn, move, keep}
use types.Kit.{drop, split, join, pick, done, check, updating, fjoin, now as at_once}
use types.SemTy.{Body}
use types.Tokens.{lft_new, lft_end}
use denote.Laws.{Is, shows}
use denote.Lend.{LentAgain, lends_again, comes_back}
use denote.Memory.{mem}
use denote.RattleType.{owns}
use denote.Signature.{types_at}
use denote.Steps.{only, facts, nothing, heard}
use denote.Triple.Clauses.{ensured, lasts}
use denote.Triple.End.{lasts_of}
use denote.Triple.Statement.{Contract, Triple}
use denote.Triple.Table.{cited}
use Rattle.walks.proofs.Walk.{Callee, Does}
use Rattle.walks.proofs.Plain.{Plain, Of, ty, val, own, coded, row_of, IsOf, has-type, at-val, Args, AreOf, vals, slots, to, fro, fro-to}
use Rattle.walks.proofs.Plain.{vss, flat-is, owns-all}
use Rattle.walks.proofs.Lent.{LentFn, PlainFn, Asked, asked, asked_in, ended, clauses, LentMet, plain_ended, plain_clauses, PlainMet}
use Rattle.walks.proofs.Lent.{ref, own-at, closed, W, 𝓣}

-- ---- what a caller sees
-- of a function over the lent value at (b, o)
abbrev pub on : (T : Plain) (F : LentFn T) (b o : ℕ) → Callee (Of T)
on T F b o = record {
  Arg = Args F.Ps;
  Ask = λ t a. AreOf F.Ps a × Asked F.pre (t, a);
  vals = λ a. vptr b o ∷ vals F.Ps a;
  res = λ t a. val F.R (F.res t a);
  after = F.after;
  know = λ t a. IsOf F.R (F.res t a);
  ty = ty F.R;
}

-- of a function by value
abbrev pub by_value : (D : Type 0) → PlainFn → Callee D
by_value D F = record {
  Arg = Args F.Ps;
  Ask = λ t a. AreOf F.Ps a × Asked F.pre a;
  vals = vals F.Ps;
  res = λ t a. val F.R (F.res a);
  after = λ t a. t;
  know = λ t a. IsOf F.R (F.res a);
  ty = ty F.R;
}

-- ---- a result x that is known to be y: its machine value, and that y is one
module _ (R : Plain) (x y : Of R) (r : Val) (is : Is (row_of R) x (r ∷ [])) (e : x ≡ y) where
  pub value-is : r ≡ val R y
  value-is = ap only (R.L.low-is x (r ∷ []) is) ∙ ap (val R) e

  pub is_one : IsOf R y
  is_one = subst (IsOf R) e (at-val R x (r ∷ []) is)

module _ {M : Type 1} {𝓤 : Ura M} (𝓛 : Logic 𝓤) (Ts : Tables 𝓤 𝓛.H) where
  -- ---- over a lent value
  open 𝓛 use {H, A}

  module _ (T : Plain) (F : LentFn T) (κ : Lft) (q : Share) (b o : ℕ) (γ : GName) (f : Name) (met : Triple 𝓤 (Ts.C f) (LentMet T F 𝓛)) where
    abbrev Met : Contract 𝓤
    Met = LentMet T F 𝓛

    module _ (t : Of T) (a : Args F.Ps) (is-a : AreOf F.Ps a) (need : Asked F.pre (t, a)) where
      -- for the call there are a lifetime α and a name δ of its own
      abbrev own-for : ℕ → GName → Fml
      own-for α δ = own-at 𝓛 T (α ∷ []) full_share b o δ t

      abbrev at : ℕ → GName → Met.Ghost
      at α δ = (
        (
          (α ∷ [], tt),
          (full_share, tt),
          tt,
          (ref 𝓛 T (α ∷ []) full_share b o δ t, to 1 (α ∷ [], tt) F.Ps a),
          (vptr b o ∷ [], vss 1 (α ∷ [], tt) F.Ps a),
        ),
        tt,
      )

      abbrev kept : ℕ → GName → Fml
      kept α δ = LentAgain (row_of T) κ (α ∷ []) q γ b o δ t

      goes_in : (α : ℕ) (δ : GName) → ent 𝓤 (sep 𝓤 (A.lft (α ∷ []) full_share) (sem 𝓛 (own-for α δ))) (Met.pre (at α δ))
      goes_in α δ =
          qed 𝓛 (‵ (flft (α ∷ []) full_share) ∷ ‵ (own-for α δ) ∷ []) ∵ nothing ! $ move ! (1 ∷ 0 ∷ []) $ join ! $
          use0 𝓛 (‵ (owns (types_at (slots 1 F.Ps) (α ∷ [], tt)) (to 1 (α ∷ [], tt) F.Ps a) (vss 1 (α ∷ [], tt) F.Ps a)))
          (owns-all 1 (α ∷ [], tt) 𝓛 F.Ps a is-a) $ move ! (2 ∷ 0 ∷ []) $ fjoin ! $ move ! (1 ∷ 0 ∷ []) $ join ! $
          use0 𝓛 (raw (asked 𝓤 F.pre (t, fro 1 (α ∷ [], tt) F.Ps (to 1 (α ∷ [], tt) F.Ps a)))) (asked_in 𝓤 F.pre _
          (subst (λ (x : Args F.Ps). Asked F.pre (t, x)) (sym (fro-to 1 (α ∷ [], tt) F.Ps a)) need)) $ move ! (1 ∷ 0 ∷ []) $ done !

      abbrev Said : ℕ → GName → Of F.R → SProp 𝓤
      Said α δ r =
          ensured 𝓛 (ended T F) (clauses T F 𝓤) (α ∷ [], tt) (ref 𝓛 T (α ∷ []) full_share b o δ t, to 1 (α ∷ [], tt) F.Ps a) tt r

      told : (α : ℕ) (δ : GName) (r : Of F.R) → ent 𝓤 (Said α δ r) (guard 𝓤 (r ≡ F.res t a) (A.res δ ((coded T).code (F.after t a))))
      told α δ r = ex_e 𝓤 _ (λ ws.
          let P : SProp 𝓤 = A.res δ ((coded T).code ws.0) in
          let N : SProp 𝓤 = sem 𝓛 (lasts_of {n = 1} (α ∷ [], tt) (slots 1 F.Ps) _ (to 1 (α ∷ [], tt) F.Ps a) ws.1) in
          -- what is left of the reference: the contract speaks of the first alone
          let B : SProp 𝓤 = sem 𝓛 (fbor (α ∷ []) (Body (mem (row_of T)) b o δ)) in
          let L : SProp 𝓤 = sep 𝓤 (sep 𝓤 P B) N in
          let φ : Type 0 = F.ens t (fro 1 (α ∷ [], tt) F.Ps (to 1 (α ∷ [], tt) F.Ps a)) r ws.0 in
          fact_use 𝓤 φ (snd∗ 𝓤 L (fact 𝓤 φ)) (λ e.
          let s = F.says t a r ws.0 (subst (λ (x : Args F.Ps). F.ens t x r ws.0) (fro-to 1 (α ∷ [], tt) F.Ps a) e) in
          subst (λ (u : Of T). ent 𝓤 (sep 𝓤 L (fact 𝓤 φ)) (guard 𝓤 (r ≡ F.res t a) (A.res δ ((coded T).code u)))) s.1
          (via 𝓤 L (fst∗ 𝓤 L (fact 𝓤 φ)) (via 𝓤 (sep 𝓤 P B) (fst∗ 𝓤 (sep 𝓤 P B) N)
          (via 𝓤 P (fst∗ 𝓤 P B) (guard_i 𝓤 (r ≡ F.res t a) P s.0))))))

      abbrev After : Val → SProp 𝓤
      After r = guard 𝓤 ((r ≡ val F.R (F.res t a)) × IsOf F.R (F.res t a)) (mean 𝓛 (closed 𝓛 T κ q b o γ (F.after t a)))

      comes-out : (α : ℕ) (δ : GName) (r : Val) → ent 𝓤 (sep 𝓤 (Met.post (at α δ) r) (sem 𝓛 (kept α δ))) (H.⇛ (After r))
      comes-out α δ r =
          qed 𝓛 (raw (Met.post (at α δ) r) ∷ ‵ (kept α δ) ∷ []) ∵ updating ! $
          use1 𝓛 (later (some (λ (x : Of F.R). ((‵ (flft (α ∷ []) full_share) ⊛ ‵ ftrue) ⊛ ‵ (own F.R x (r ∷ []))) ⊛ raw (Said α δ x))))
          (id⊢ 𝓤 _) $ await ! tt $ pick ! (λ x. split ! $ move ! (1 ∷ []) $
          use1 𝓛 (given (x ≡ F.res t a) (‵ (fres δ ((coded T).code (F.after t a))))) (told α δ x) $ learn ! (λ e.
          move ! (1 ∷ []) $ split ! $ move ! (1 ∷ []) $
          facts ! (row_of F.R) (Is (row_of F.R)) (shows 𝓛 (row_of F.R)) x (r ∷ []) (λ is. split ! $
          -- [the token; true; the last value; what is kept]
          lft_end ! tt $ move ! (0 ∷ 3 ∷ 2 ∷ []) $
          use3 𝓛 (later (‵ (own-at 𝓛 T κ q b o γ (F.after t a)) ⊛ ‵ (flft κ q)))
          (comes_back 𝓛 (row_of T) (named 0) κ (α ∷ []) q γ b o δ t (F.after t a)) $ await ! tt $ at_once ! $
          check ! (value-is F.R x (F.res t a) r is e, is_one F.R x (F.res t a) r is e) $ keep ! (0 ∷ []) $ done !)))

      abbrev CallAt : ℕ → GName → SProp 𝓤
      CallAt α δ = Ts.C f (Met.args (at α δ)) (Met.post (at α δ))

      lent_met : ent 𝓤 (mean 𝓛 (closed 𝓛 T κ q b o γ t)) (H.⇛ (Ts.C f (vptr b o ∷ vals F.Ps a) (λ r. H.⇛ (After r))))
      lent_met =
          qed 𝓛 (‵ (own-at 𝓛 T κ q b o γ t) ∷ ‵ (flft κ q) ∷ []) ∵ updating ! $ lft_new ! tt (λ α. move ! (1 ∷ 2 ∷ []) $
          use2 𝓛 (later (some (λ (δ : GName). ‵ (own-for α δ) ⊛ ‵ (kept α δ))))
          (lends_again 𝓛 (row_of T) (named 0) κ (α ∷ []) q γ b o (named 0) t) $ await ! tt $ pick ! (λ δ. split ! $ move ! (2 ∷ 0 ∷ []) $
          use2 𝓛 (raw (Met.pre (at α δ))) (goes_in α δ) $ use1 𝓛 (raw (CallAt α δ)) (met (at α δ)) $ at_once ! $
          by ! (subst (λ (vs : List Val). ent 𝓤 (sep 𝓤 (CallAt α δ) (sem 𝓛 (kept α δ))) (Ts.C f (vptr b o ∷ vs) (λ r. H.⇛ (After r))))
          (flat-is 1 (α ∷ [], tt) F.Ps a)
          (fm_of 𝓤 H 𝓛.laws Ts f (Met.args (at α δ)) (Met.post (at α δ)) (λ r. H.⇛ (After r)) (sem 𝓛 (kept α δ)) (comes-out α δ)))))

    -- whatever else the caller has
    pub lent-does : (fr : List (Item 𝓤)) → Does 𝓛 Ts (Of T) (closed 𝓛 T κ q b o γ) fr f (on T F b o)
    lent-does fr = record { typed = λ t a is. has-type 𝓛 F.R (F.res t a) is; met = λ t a ask. lent_met t a ask.0 ask.1 }

  -- ---- by value
  module _ (F : PlainFn) (D : Type 0) (item : D → Item 𝓤) (f : Name) (met : Triple 𝓤 (Ts.C f) (PlainMet F 𝓛)) where
    abbrev Known : Contract 𝓤
    Known = PlainMet F 𝓛

    module _ (t : D) (a : Args F.Ps) (is-a : AreOf F.Ps a) (need : Asked F.pre a) where
      abbrev here : Known.Ghost
      here = ((tt, tt, tt, to 0 tt F.Ps a, vss 0 tt F.Ps a), tt)

      asks : ent 𝓤 (emp 𝓤) (Known.pre here)
      asks =
          qed 𝓛 [] ∵ use0 𝓛 (‵ (owns (types_at (slots 0 F.Ps) tt) (to 0 tt F.Ps a) (vss 0 tt F.Ps a)))
          (owns-all 0 tt 𝓛 F.Ps a is-a) $ nothing ! $ join ! $
          use0 𝓛 (raw (asked 𝓤 F.pre (fro 0 tt F.Ps (to 0 tt F.Ps a)))) (asked_in 𝓤 F.pre _
          (subst (λ (x : Args F.Ps). Asked F.pre x) (sym (fro-to 0 tt F.Ps a)) need)) $ move ! (1 ∷ 0 ∷ []) $ done !

      abbrev Told : Of F.R → SProp 𝓤
      Told r = ensured 𝓛 (plain_ended F) (plain_clauses F 𝓤) tt (to 0 tt F.Ps a) tt r

      tells : (r : Of F.R) → ent 𝓤 (Told r) (fact 𝓤 (r ≡ F.res a))
      tells r = ex_e 𝓤 _ (λ ws.
          let N : SProp 𝓤 = sem 𝓛 (lasts (plain_ended F) tt (to 0 tt F.Ps a) ws) in
          subst (λ (x : Args F.Ps). ent 𝓤 (sep 𝓤 N (fact 𝓤 (r ≡ F.res x))) (fact 𝓤 (r ≡ F.res a))) (sym (fro-to 0 tt F.Ps a))
          (snd∗ 𝓤 N (fact 𝓤 (r ≡ F.res a))))

      abbrev Afterwards : Val → SProp 𝓤
      Afterwards r = guard 𝓤 ((r ≡ val F.R (F.res a)) × IsOf F.R (F.res a)) (mean 𝓛 (item t))

      returned : (r : Val) → ent 𝓤 (sep 𝓤 (Known.post here r) (mean 𝓛 (item t))) (H.⇛ (Afterwards r))
      returned r =
          qed 𝓛 (raw (Known.post here r) ∷ item t ∷ []) ∵ updating ! $
          use1 𝓛 (later (some (λ (x : Of F.R). (‵ ftrue ⊛ ‵ (own F.R x (r ∷ []))) ⊛ raw (Told x)))) (id⊢ 𝓤 _) $ await ! tt $
          pick ! (λ x. split ! $ move ! (1 ∷ []) $ use1 𝓛 (raw (fact 𝓤 (x ≡ F.res a))) (tells x) $ heard ! (x ≡ F.res a) (λ e.
          split ! $ drop ! $ facts ! (row_of F.R) (Is (row_of F.R)) (shows 𝓛 (row_of F.R)) x (r ∷ []) (λ is. at_once ! $
          check ! (value-is F.R x (F.res a) r is e, is_one F.R x (F.res a) r is e) $ done !)))

      plain-met : ent 𝓤 (mean 𝓛 (item t)) (H.⇛ (Ts.C f (vals F.Ps a) (λ r. H.⇛ (Afterwards r))))
      plain-met =
          let Call : SProp 𝓤 = Ts.C f (Known.args here) (Known.post here) in
          qed 𝓛 (item t ∷ []) ∵ updating ! $ at_once ! $ use0 𝓛 (raw (Known.pre here)) asks $ use1 𝓛 (raw Call) (met here) $
          by ! (subst (λ (vs : List Val). ent 𝓤 (sep 𝓤 Call (mean 𝓛 (item t))) (Ts.C f vs (λ r. H.⇛ (Afterwards r))))
          (flat-is 0 tt F.Ps a)
          (fm_of 𝓤 H 𝓛.laws Ts f (Known.args here) (Known.post here) (λ r. H.⇛ (Afterwards r)) (mean 𝓛 (item t)) returned))

    plain-does : Does 𝓛 Ts D item [] f (by_value D F)
    plain-does = record { typed = λ t a is. has-type 𝓛 F.R (F.res a) is; met = λ t a ask. plain-met t a ask.0 ask.1 }

-- ---- what a caller's own proof cites
module _ {M : Type 1} {𝓤 : Ura M} (𝓛 : Logic 𝓤) (𝓜 : Model 𝓤 𝓛.H) (𝓡 : Running 𝓤 𝓛.H 𝓜) (ε : Routines) (T : Plain) where
  open 𝓛 use {H}

  abbrev Ts : Tables 𝓤 H
  Ts = 𝓣 𝓛 𝓜 𝓡 ε

  at_key : (c : Contract 𝓤) (f : Name) (r : Routine) → ε f ≡ r → Triple 𝓤 (𝓡.run r) c → Triple 𝓤 (Ts.C f) c
  unfolding tables_of
  at_key c f r p met = cited 𝓤 H c 𝓜 𝓡 ε f r p met

  -- what a callee is known to do, in a body over the lent T at (b, o)
  abbrev Knows : Name → ((ℕ → ℕ → Callee (Of T))) → Type 1
  Knows f F = (κ : Lft) (q : Share) (b o : ℕ) (γ : GName) → Does (W 𝓛 𝓜 𝓡 ε) Ts (Of T) (closed 𝓛 T κ q b o γ) [] f (F b o)

  pub lent : (F : LentFn T) (f : Name) (r : Routine) → ε f ≡ r → Triple 𝓤 (𝓡.run r) (LentMet T F 𝓛) → Knows f (on T F)
  lent F f r p met κ q b o γ = lent-does (W 𝓛 𝓜 𝓡 ε) Ts T F κ q b o γ f (at_key (LentMet T F 𝓛) f r p met) []

  pub valued : (F : PlainFn) (f : Name) (r : Routine) → ε f ≡ r → Triple 𝓤 (𝓡.run r) (PlainMet F 𝓛) → Knows f (λ b o. by_value (Of T) F)
  valued F f r p met κ q b o γ =
      plain-does (W 𝓛 𝓜 𝓡 ε) Ts F (Of T) (closed 𝓛 T κ q b o γ) f (at_key (PlainMet F 𝓛) f r p met)

  -- the same; the name and the routine are read off the path, so that the callee's `Symbol` need not be named
  pub lends : (F : LentFn T) {f : Name} {r : Routine} → ε f ≡ r → Triple 𝓤 (𝓡.run r) (LentMet T F 𝓛) → Knows f (on T F)
  lends F {f} {r} p met = lent F f r p met

  pub values : (F : PlainFn) {f : Name} {r : Routine} → ε f ≡ r → Triple 𝓤 (𝓡.run r) (PlainMet F 𝓛) → Knows f (λ b o. by_value (Of T) F)
  values F {f} {r} p met = valued F f r p met
