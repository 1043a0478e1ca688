-- A function by value that lends a local: it takes the local's address, and calls a function over that `&mut`. The local's memory is lent
-- for the call, and comes back with the value that the function leaves. `owning` is what the function's own proof cites; `does`, `address` and
-- `lends` are the statements of its body.
-- Assumes nothing.
use mathlib.Core.Path.{◌≡◌, refl, sym, ap, subst, ◌∙◌}
use mathlib.Core.Bool.{true, false}
use mathlib.Core.Option.{Option, none}
use mathlib.Core.Option as Opt
use mathlib.Core.List.{List, [], ◌∷◌, ◌++◌}
use Prim.Native.Nat.{ℕ, zero, suc, ◌^◌}
use seplogic.Ra.Ura.{Ura}
use base.Fraction.{full_share}
use lib.Dec.{T, ltb}
use lib.ListN.{get_or}
use mir.Syntax.{Callee as Name, Fn, Ty, named, place, addr_of, Body, seq, assign, call}
use mir.Syntax.{Opd as Operand, copy, int, int_neg, int_big, float, opd_true, opd_false, opd_unit, ptr_const, size_of, align_of, num_of, fn_addr, vtable}
use mir.Raw.{raw as raw_ty}
use mir.Val.{Val, vunit, vbool, vint, vptr, bits}
use base.Logic.{SProp, ent, sep, emp, guard, via, id⊢, mono_r, emp∗, snd∗, guard_i}
use base.Fml.{GName, Lft, Share, fat, flent, fres, fsep, ftrue}
use prog.Wp.{Closed, Out, next, exits, returns, Tables, Wp, WpFn, after_seq, at_return}
use prog.Model.{Model}
use prog.Routine.{Env as Routines}
use types.Logic.{Logic}
use sound.WpLaws.{fm_of, WpFn-mono}
use contract.Lifetimes.{Lfts, Shares}
use contract.Monad.{top, fact_i}
use contract.Running.{Running, tables, tables_of}
use types.Kit.{Item, ‵, raw, some, later, given, mean, nth, put, del, pull, fill, push, pop, ⋆, ◌⊛◌, any_q, runs, lands, Seq, Goal}
use types.Kit.{Go, !, ◌$◌, ◌∵◌, qed, by, use0, use1, use3, await, learn, move, keep, drop, frame, suffices, split, join, pick, done}
use types.Kit.{check, updating, fjoin, fsplit, fsplit3, fpick, fpack, now as at_once}
use types.Run.{Opd, Opds, Writes, init, store, stop, from, look, load, lit, unit_lit, true_lit, false_lit, no_more, and_then}
use types.Run.{addr, assigns, land, first}
use types.SemTy.{Body as InBorrow}
use types.Tokens.{lft_new, lft_end}
use denote.Laws.{Is, Ises, Are, Spells, valss, shows}
use denote.Lend.{lends_ref, ref_back}
use denote.Memory.{mem, part_of, cell_raw, raw_all}
use denote.RattleType.{RattleType, Denots, flat}
use denote.Shadow.{makes_shadow}
use denote.Signature.{types_at}
use denote.Steps.{facts}
use denote.Struct.Steps.{spelt}
use denote.Triple.Call.{calls_from}
use denote.Triple.Clauses.{Clauses, closing}
use denote.Triple.Entry.{on_entry}
use denote.Triple.Spec.{Meets}
use denote.Triple.Statement.{Triple}
use denote.Triple.Table.{entered}
use denote.Triple.Walked.{Stays, walk_of, Walks, has_of, ends_at, walked, walk_Meets}
use Rattle.walks.proofs.Callees.{on}
use Rattle.walks.proofs.Frame.{tys_of, Done, ends, runs-body}
use Rattle.walks.proofs.Lent.{LentFn, PlainFn, Asked, asked-out, beside, own-at, closed, plain_ended, plain_clauses, PlainMet, past, skip}
use Rattle.walks.proofs.Lent as L
use Rattle.walks.proofs.Locals.{Locals, Blocks, HasType, IsIn, somes, val_at, put_at, no_ty, none-some, at_in, env, cells, dies, ty_of}
use Rattle.walks.proofs.Locals.{block_of, cell_of, cell_at, ty-is, nth-is, put_is, cell-at}
use Rattle.walks.proofs.Plain.{Plain, Of, ty, val, own, coded, row_of, IsOf, has-type, Args, AreOf, vals, tys, slots, kepts, stays}
use Rattle.walks.proofs.Plain.{to, fro, fro-to, to-fro, spells, tellss, vss, flat-is, are-of, no_lasts, fits, has_all, have-types, go_all}
use Rattle.walks.proofs.Walk.{Then, one, two, Stuck, if_known, if_local, if-local, Does, Ok, ok-runs, Context, Ends}

-- ---- a function over a lent value, called with a value that lies in memory of one's own
module _ {M : Type 1} {𝓤 : Ura M} (𝓛 : Logic 𝓤) (𝓣 : Tables 𝓤 𝓛.H) (T : Plain) where
  open 𝓛 use {H}

  abbrev pub KnownTo : Name → LentFn T → Type 1
  KnownTo f F = (κ : Lft) (q : Share) (b o : ℕ) (γ : GName) → Does 𝓛 𝓣 (Of T) (closed 𝓛 T κ q b o γ) [] f (on T F b o)

  abbrev lying : ℕ → Of T → Item 𝓤
  lying b t = ‵ (fat full_share (ty T) b zero (val T t))

  module _ (F : LentFn T) (f : Name) (does : KnownTo f F) (b : ℕ) (t : Of T) (a : Args F.Ps) (is : IsOf T t) (is-a : AreOf F.Ps a)
      (need : Asked F.pre (t, a)) where
    abbrev u : Of T
    u = F.after t a

    abbrev pub Left : Val → Type 0
    Left r = (r ≡ val F.R (F.res t a)) × IsOf F.R (F.res t a) × IsOf T (F.after t a)

    abbrev pub After : Val → SProp 𝓤
    After r = H.⇛ (guard 𝓤 (Left r) (mean 𝓛 (lying b u)))

    abbrev loan : ℕ → GName → Item 𝓤
    loan α γ = ‵ (flent (α ∷ []) (InBorrow (mem (row_of T)) b zero γ))

    abbrev Returned : ℕ → GName → Val → SProp 𝓤
    Returned α γ r =
        H.⇛ (guard 𝓤 ((r ≡ val F.R (F.res t a)) × IsOf F.R (F.res t a)) (mean 𝓛 (closed 𝓛 T (α ∷ []) full_share b zero γ u)))

    comes-out : (α : ℕ) (γ : GName) (r : Val) → ent 𝓤 (sep 𝓤 (Returned α γ r) (mean 𝓛 (loan α γ))) (After r)
    unfolding part_of
    comes-out α γ r =
        qed 𝓛 (later (given ((r ≡ val F.R (F.res t a)) × IsOf F.R (F.res t a)) (closed 𝓛 T (α ∷ []) full_share b zero γ u))
        ∷ loan α γ ∷ []) ∵ updating ! $ await ! tt $ learn ! (λ φ. split ! $ fsplit3 ! $ keep ! (1 ∷ 3 ∷ 4 ∷ []) $
        use1 𝓛 (‵ (fres γ ((coded T).code u))) (𝓛.names.obs-res γ ((coded T).code u)) $ move ! (1 ∷ 2 ∷ 0 ∷ []) $ lft_end ! tt $
        use3 𝓛 (later (‵ ((mem (row_of T)).own_at u b zero))) (ref_back 𝓛 (row_of T) (α ∷ []) γ u b zero) $ await ! tt $
        fpick ! (λ vs. fsplit ! $
        spelt ! (row_of T) (Is (row_of T)) (shows 𝓛 (row_of T)) (λ x. val T x ∷ []) T.L.low-is full_share u vs b zero $ move ! (1 ∷ []) $
        facts ! (row_of T) (Is (row_of T)) (shows 𝓛 (row_of T)) u (val T u ∷ []) (λ is-u.
        use1 𝓛 (lying b u) (𝓛.laws.raw_at full_share (ty T) b zero (val T u)) $ at_once ! $ check ! (φ.0, φ.1, is-u) $ done !)))

    pub lends-it : ent 𝓤 (mean 𝓛 (lying b t)) (H.⇛ (𝓣.C f (vptr b zero ∷ vals F.Ps a) After))
    unfolding part_of
    lends-it =
        let vs : List Val = vptr b zero ∷ vals F.Ps a in
        qed 𝓛 (lying b t ∷ []) ∵ updating ! $
        use1 𝓛 (‵ (fat full_share (raw_ty (ty T)) b zero (val T t))) (𝓛.laws.at_raw full_share (ty T) b zero (val T t)) $
        use0 𝓛 (‵ (own T t (val T t ∷ []))) (makes_shadow 𝓛 (own T t _) (T.facts (T.F.into t) _) is) $ move ! (1 ∷ 0 ∷ []) $ fjoin ! $
        fpack ! (List Val) (λ us. fsep (cell_raw full_share (raw_all (ty T ∷ [])) us b zero) (own T t us)) (val T t ∷ []) $
        lft_new ! tt (λ α. move ! (1 ∷ []) $
        use1 𝓛 (later (some (λ (γ : GName). ‵ (own-at 𝓛 T (α ∷ []) full_share b zero γ t) ⊛ loan α γ)))
        (lends_ref 𝓛 (row_of T) (named 0) (α ∷ []) t b zero) $ await ! tt $ pick ! (λ γ. split ! $ move ! (0 ∷ 2 ∷ []) $ join ! $
        use1 𝓛 (later (raw (𝓣.C f vs (Returned α γ)))) ((does (α ∷ []) full_share b zero γ).met t a (is-a, need)) $ await ! tt $ at_once ! $
        by ! (fm_of 𝓤 H 𝓛.laws 𝓣 f vs (Returned α γ) After (mean 𝓛 (loan α γ)) (comes-out α γ))))

-- ---- code over locals only
abbrev no_item : {M : Type 1} {𝓤 : Ura M} → Unit {0} → Item 𝓤
no_item x = ‵ ftrue

-- the locals that can be read while local j is lent
abbrev pub hide : Locals → ℕ → Locals
hide [] j = []
hide (x ∷ ls) zero = none ∷ ls
hide (x ∷ ls) (suc j) = x ∷ hide ls j

module _ {M : Type 1} {𝓤 : Ura M} (𝓛 : Logic 𝓤) where
  cell-away : (σs : List Ty) (cs : Blocks σs) (ls : Locals) (X : List (Item 𝓤)) (j k : ℕ) (v : Val) → val_at σs (hide ls j) k ≡ Opt.some v
      → nth 𝓛 k (put 𝓛 j (‵ ftrue) (cells 𝓛 σs cs ls ++ X)) ≡ cell_at 𝓛 σs cs k (Opt.some v)
  cell-away [] cs ls X j k v e = absurd (none-some e)
  cell-away (σ ∷ σs) cs [] X j k v e = absurd (none-some e)
  cell-away (σ ∷ σs) cs (x ∷ ls) X zero zero v e = absurd (none-some e)
  cell-away (σ ∷ σs) cs (x ∷ ls) X zero (suc k) v e = cell-at 𝓛 σs cs.1 ls X k v e
  cell-away (σ ∷ σs) cs (x ∷ ls) X (suc j) zero v e = ap (cell_of 𝓛 σ cs.0) e
  cell-away (σ ∷ σs) cs (x ∷ ls) X (suc j) (suc k) v e = cell-away σs cs.1 ls X j k v e

  del-put : (n : ℕ) (k : Item 𝓤) (Γ : List (Item 𝓤)) → del 𝓛 n (put 𝓛 n k Γ) ≡ del 𝓛 n Γ
  del-put n k [] = refl
  del-put zero k (i ∷ Γ) = refl
  del-put (suc n) k (i ∷ Γ) = ap (λ (Δ : List (Item 𝓤)). i ∷ Δ) (del-put n k Γ)

  -- an entry is taken out of a context, and another is put there
  takes : (n : ℕ) (Γ : List (Item 𝓤)) → ent 𝓤 (⋆ 𝓛 Γ) (⋆ 𝓛 (nth 𝓛 n Γ ∷ put 𝓛 n (‵ ftrue) Γ))
  takes n Γ =
      via 𝓤 (sep 𝓤 (mean 𝓛 (nth 𝓛 n Γ)) (⋆ 𝓛 (put 𝓛 n (‵ ftrue) Γ)))
      (via 𝓤 (sep 𝓤 (mean 𝓛 (nth 𝓛 n Γ)) (⋆ 𝓛 (del 𝓛 n Γ))) (pull 𝓛 n Γ) (mono_r 𝓤 (mean 𝓛 (nth 𝓛 n Γ))
      (via 𝓤 {P = ⋆ 𝓛 (del 𝓛 n Γ)} (sep 𝓤 (emp 𝓤) (⋆ 𝓛 (del 𝓛 n Γ))) (emp∗ 𝓤 (⋆ 𝓛 (del 𝓛 n Γ)))
      (fill 𝓛 n (‵ ftrue) Γ))))
      (push 𝓛 (nth 𝓛 n Γ) (put 𝓛 n (‵ ftrue) Γ))

  puts : (n : ℕ) (k : Item 𝓤) (Γ : List (Item 𝓤)) → ent 𝓤 (⋆ 𝓛 (k ∷ put 𝓛 n (‵ ftrue) Γ)) (⋆ 𝓛 (put 𝓛 n k Γ))
  puts n k Γ =
      let Δ : List (Item 𝓤) = put 𝓛 n (‵ ftrue) Γ in
      via 𝓤 (sep 𝓤 (mean 𝓛 k) (⋆ 𝓛 Δ)) (pop 𝓛 k Δ) (via 𝓤 (sep 𝓤 (mean 𝓛 k) (⋆ 𝓛 (del 𝓛 n Γ)))
      (mono_r 𝓤 (mean 𝓛 k) (subst (λ (X : List (Item 𝓤)). ent 𝓤 (⋆ 𝓛 Δ) (⋆ 𝓛 X)) (del-put n (‵ ftrue) Γ)
      (via 𝓤 _ (pull 𝓛 n Δ) (snd∗ 𝓤 (mean 𝓛 (nth 𝓛 n Δ)) (⋆ 𝓛 (del 𝓛 n Δ)))))) (fill 𝓛 n k Γ))

module _ {M : Type 1} {𝓤 : Ura M} (𝓛 : Logic 𝓤) (𝓣 : Tables 𝓤 𝓛.H) (τs : List Ty) where
  -- what the operands of a call need while a local is lent: they are other locals and constants
  open 𝓛 use {H}

  abbrev OpdOk : Locals → Operand → (Val → Type 2) → Type 2
  OpdOk ls (copy (place i [])) K = if_known (val_at τs ls i) K
  OpdOk ls (copy (place i (x ∷ st))) K = Stuck
  OpdOk ls (int w n) K = Then (T (ltb n (2 ^ bits w))) (λ _. K (vint w n))
  OpdOk ls (int_neg w n) K = Stuck
  OpdOk ls (int_big w n) K = Stuck
  OpdOk ls (float w n) K = Stuck
  OpdOk ls opd_true K = K (vbool true)
  OpdOk ls opd_false K = K (vbool false)
  OpdOk ls opd_unit K = K vunit
  OpdOk ls (ptr_const n) K = Stuck
  OpdOk ls (size_of τ) K = Stuck
  OpdOk ls (align_of τ) K = Stuck
  OpdOk ls (num_of w τ) K = Stuck
  OpdOk ls (fn_addr c ς) K = Stuck
  OpdOk ls (vtable τ ss) K = Stuck

  abbrev pub OpdsOk : Locals → List Operand → (List Val → Type 2) → Type 2
  OpdsOk ls [] K = K []
  OpdsOk ls (x ∷ xs) K = OpdOk ls x (λ v. OpdsOk ls xs (λ vs. K (v ∷ vs)))

  module _ (bs : Blocks τs) where
    abbrev rest : List (Item 𝓤)
    rest = dies 𝓛 τs bs ++ []

    -- the memory of the locals, and the same while local j is lent, beside I
    abbrev Memory : Locals → List (Item 𝓤)
    Memory ls = Context 𝓛 𝓣 (Unit {0}) no_item [] τs bs (tt, ls)

    abbrev Away : ℕ → Locals → Item 𝓤 → List (Item 𝓤)
    Away j ls I = I ∷ no_item tt ∷ put 𝓛 j (‵ ftrue) (cells 𝓛 τs bs ls ++ rest)

    -- with these values the code runs to q. A record, so that its parts are read off a goal
    pub record Runs (b : Body) (q : Out → SProp 𝓤) (ls : Locals) : Type 2 where
      pub run : Seq (Go {0}) 𝓛 (Memory ls) (runs 𝓣.C 𝓣.Λ (env 𝓛 τs bs) b (any_q q))

    -- the address of local j
    abbrev pub pointer : ℕ → Val
    pointer j = vptr (block_of 𝓛 τs bs j) zero

    -- ---- operands are read
    module _ (j : ℕ) (ls : Locals) where
      abbrev HasOpd : Operand → Val → Type 2
      HasOpd x v = (I : Item 𝓤) → Opd (Go {0}) 𝓛 (Away j ls I) (env 𝓛 τs bs) x v

      known : (i : ℕ) (o : Option Val) → val_at τs (hide ls j) i ≡ o → (K : Val → Type 2) → if_known o K
          → (v : Val) × HasOpd (copy (place i [])) v × K v
      known i none e K k = elim k [ ]
      known i (Opt.some v) e K k = (v, (λ I. load ! (from ! (stop !)) (look ! (suc (suc i)) (cell-away 𝓛 τs bs ls rest j i v e))), k)

      opd-of : (x : Operand) (K : Val → Type 2) → OpdOk (hide ls j) x K → (v : Val) × HasOpd x v × K v
      opd-of (copy (place i [])) K k = known i (val_at τs (hide ls j) i) refl K k
      opd-of (copy (place i (x ∷ st))) K k = elim k [ ]
      opd-of (int w n) K k = (vint w n, (λ I. lit ! (one k)), two k)
      opd-of (int_neg w n) K k = elim k [ ]
      opd-of (int_big w n) K k = elim k [ ]
      opd-of (float w n) K k = elim k [ ]
      opd-of opd_true K k = (vbool true, (λ I. true_lit !), k)
      opd-of opd_false K k = (vbool false, (λ I. false_lit !), k)
      opd-of opd_unit K k = (vunit, (λ I. unit_lit !), k)
      opd-of (ptr_const n) K k = elim k [ ]
      opd-of (size_of τ) K k = elim k [ ]
      opd-of (align_of τ) K k = elim k [ ]
      opd-of (num_of w τ) K k = elim k [ ]
      opd-of (fn_addr c ς) K k = elim k [ ]
      opd-of (vtable τ ss) K k = elim k [ ]

      opds-of : (xs : List Operand) (K : List Val → Type 2) → OpdsOk (hide ls j) xs K
          → (vs : List Val) × ((I : Item 𝓤) → Opds (Go {0}) 𝓛 (Away j ls I) (env 𝓛 τs bs) xs vs) × K vs
      opds-of [] K k = ([], (λ I. no_more !), k)
      opds-of (x ∷ xs) K k =
          let x₁ = opd-of x (λ v. OpdsOk (hide ls j) xs (λ vs. K (v ∷ vs))) k in
          let more = opds-of xs (λ vs. K (x₁.0 ∷ vs)) x₁.2 in
          (x₁.0 ∷ more.0, (λ I. and_then ! (x₁.1 I) (more.1 I)), more.2)

    -- ---- a local is written
    abbrev Written : Locals → ℕ → Val → List (Item 𝓤) → Type 2
    Written ls i v Γ = Writes (Go {0}) 𝓛 (Memory ls) (ty_of 𝓛 τs bs i) (block_of 𝓛 τs bs i) zero v (no_item tt ∷ Γ)

    over : (ls : Locals) (i : ℕ) (v : Val) (x : Option Val) → nth 𝓛 i (cells 𝓛 τs bs ls ++ rest) ≡ cell_at 𝓛 τs bs i x
        → HasType (ty_of 𝓛 τs bs i) v → Written ls i v (put 𝓛 i (cell_at 𝓛 τs bs i (Opt.some v)) (cells 𝓛 τs bs ls ++ rest))
    over ls i v none e wt = init ! (suc i) e wt
    over ls i v (Opt.some y) e wt = store ! (suc i) e wt

    written : (ls : Locals) (i : ℕ) (v : Val) → IsIn τs i → HasType (get_or τs i no_ty) v → Written ls i v (cells 𝓛 τs bs (put_at τs ls i v) ++ rest)
    written ls i v h wt =
        subst (Written ls i v) (put_is 𝓛 τs bs ls rest i v h) (over ls i v (val_at τs ls i) (nth-is 𝓛 τs bs ls rest i h)
        (subst (λ (τ : Ty). HasType τ v) (sym (ty-is 𝓛 τs bs i)) wt))

    -- a statement that `Ok` covers, and then the others
    module _ (q : Out → SProp 𝓤) (b : Body) where
      abbrev pub Onward : Ends 𝓛 𝓣 (Unit {0}) no_item [] τs
      Onward next s = Runs b q s.1
      Onward (exits n) s = Stuck
      Onward returns s = Stuck

      abbrev Then-b : Out → SProp 𝓤
      Then-b = after_seq 𝓤 H (Wp 𝓤 H 𝓣.C 𝓣.Λ (env 𝓛 τs bs) b q) q

      onward : (o : Out) (s : Unit {0} × Locals) → Onward o s → ent 𝓤 (⋆ 𝓛 (Memory s.1)) (Then-b o)
      onward next s k = k.run.prf
      onward (exits n) s k = elim k [ ]
      onward returns s k = elim k [ ]

    -- ---- local j, in which t lies, is lent to a function
    module _ (T : Plain) (F : LentFn T) (f : Name) (does : KnownTo 𝓛 𝓣 T f F) (j : ℕ) (ls : Locals) (t : Of T) (a : Args F.Ps)
        (here : val_at τs ls j ≡ Opt.some (val T t)) (fit : get_or τs j no_ty ≡ ty T) (is : IsOf T t) (is-a : AreOf F.Ps a)
        (need : Asked F.pre (t, a)) where
      abbrev t' : Of T
      t' = F.after t a

      abbrev back : Locals
      back = put_at τs ls j (val T t')

      abbrev blk : ℕ
      blk = block_of 𝓛 τs bs j

      abbrev vs : List Val
      vs = pointer j ∷ vals F.Ps a

      abbrev Then-left : Val → SProp 𝓤
      Then-left r = After 𝓛 𝓣 T F f does blk t a is is-a need r

      fits-it : ty_of 𝓛 τs bs j ≡ ty T
      fits-it = ty-is 𝓛 τs bs j ∙ fit

      out : ent 𝓤 (⋆ 𝓛 (Memory ls)) (⋆ 𝓛 (Away j ls (lying 𝓛 𝓣 T blk t)))
      out =
          subst (λ (i : Item 𝓤). ent 𝓤 (⋆ 𝓛 (Memory ls)) (⋆ 𝓛 (Away j ls i)))
          (subst (λ (τ : Ty). nth 𝓛 j (cells 𝓛 τs bs ls ++ rest) ≡ ‵ (fat full_share τ blk zero (val T t))) fits-it
          (cell-at 𝓛 τs bs ls rest j (val T t) here)) (takes 𝓛 (suc j) (Memory ls))

      home : ent 𝓤 (⋆ 𝓛 (Away j ls (lying 𝓛 𝓣 T blk t'))) (⋆ 𝓛 (Memory back))
      home =
          let k : Item 𝓤 = cell_at 𝓛 τs bs j (Opt.some (val T t')) in
          subst (λ (Γ : List (Item 𝓤)). ent 𝓤 (⋆ 𝓛 (Away j ls (lying 𝓛 𝓣 T blk t'))) (⋆ 𝓛 (no_item tt ∷ Γ)))
          (put_is 𝓛 τs bs ls rest j (val T t') (at_in τs ls j (val T t) here))
          (subst (λ (τ : Ty). ent 𝓤 (⋆ 𝓛 (Away j ls (‵ (fat full_share τ blk zero (val T t'))))) (⋆ 𝓛 (put 𝓛 (suc j) k (Memory ls))))
          fits-it (puts 𝓛 (suc j) k (Memory ls)))

      module _ (q : Out → SProp 𝓤) (b : Body) (xs : List Operand) (i : ℕ)
          (os : (I : Item 𝓤) → Opds (Go {0}) 𝓛 (Away j ls I) (env 𝓛 τs bs) xs vs) (h : IsIn τs i) (e : get_or τs i no_ty ≡ ty F.R)
          (go : IsOf F.R (F.res t a) → IsOf T t' → Runs b q (put_at τs back i (val F.R (F.res t a)))) where
        abbrev r : Val
        r = val F.R (F.res t a)

        abbrev Lands : Val → Goal 𝓤 H
        Lands v = lands 𝓣.C 𝓣.Λ (env 𝓛 τs bs) (place i []) v b (any_q q)

        lands_it : Left 𝓛 𝓣 T F f does blk t a is is-a need r → Seq (Go {0}) 𝓛 (Memory back) (Lands r)
        lands_it φ =
            land ! (from ! (stop !)) (written back i r h (subst (λ (τ : Ty). HasType τ r) (sym e)
            (has-type 𝓛 F.R (F.res t a) φ.1))) $ (go φ.1 φ.2).run

        lent : Seq (Go {0}) 𝓛 (Away j ls (lying 𝓛 𝓣 T blk t)) (runs 𝓣.C 𝓣.Λ (env 𝓛 τs bs) (seq (call f xs (place i [])) b) (any_q q))
        lent =
            let Call : SProp 𝓤 = 𝓣.C f vs Then-left in
            use1 𝓛 (later (raw Call)) (lends-it 𝓛 𝓣 T F f does blk t a is is-a need) $ await ! tt $
            calls_from ! (fm_of 𝓤 H 𝓛.laws 𝓣) (raw Call) vs Then-left (id⊢ 𝓤 Call) (os (raw Call)) (λ v.
            use1 𝓛 (later (given (Left 𝓛 𝓣 T F f does blk t a is is-a need v) (lying 𝓛 𝓣 T blk t'))) (id⊢ 𝓤 _) $ await ! tt $
            learn ! (λ φ. subst (λ (z : Val). Seq (Go {0}) 𝓛 (Away j ls (lying 𝓛 𝓣 T blk t')) (Lands z)) (sym φ.0)
            (record { prf = via 𝓤 (⋆ 𝓛 (Memory back)) home (lands_it (refl, φ.1, φ.2)).prf })))

        lends-at : Runs (seq (call f xs (place i [])) b) q ls
        lends-at = record { run = record { prf = via 𝓤 (⋆ 𝓛 (Away j ls (lying 𝓛 𝓣 T blk t))) out lent.prf } }

-- ---- the statements of a body. Each says what its statement needs, and then what the others need
module _ {M : Type 1} {𝓤 : Ura M} {𝓛 : Logic 𝓤} {𝓣 : Tables 𝓤 𝓛.H} {τs : List Ty} {bs : Blocks τs}
    {q : Out → SProp 𝓤} {b : Body} {ls : Locals} where
  -- one that `Ok` covers: its facts
  pub does : {a : Body} → Ok 𝓛 𝓣 (Unit {0}) no_item [] τs a (Onward 𝓛 𝓣 τs bs q b) (tt, ls) → Runs 𝓛 𝓣 τs bs (seq a b) q ls
  does {a} ok = record {
    run = first ! $ ok-runs 𝓛 𝓣 (Unit {0}) no_item [] τs bs a (Onward 𝓛 𝓣 τs bs q b) (Then-b 𝓛 𝓣 τs bs q b) (onward 𝓛 𝓣 τs bs q b) (tt, ls) ok;
  }

  -- `i := &mut j`: that an address is of i's type
  pub address : {i j : ℕ}
      → if_local τs i (λ τ. Then (HasType τ (pointer 𝓛 𝓣 τs bs j)) (λ _. Runs 𝓛 𝓣 τs bs b q (put_at τs ls i (pointer 𝓛 𝓣 τs bs j))))
      → Runs 𝓛 𝓣 τs bs (seq (assign (place i []) (addr_of (place j []))) b) q ls
  address {i} {j} k =
      let v = pointer 𝓛 𝓣 τs bs j in
      let a = if-local τs i (λ τ. Then (HasType τ v) (λ _. Runs 𝓛 𝓣 τs bs b q (put_at τs ls i v))) k in
      record { run = assigns ! (addr ! (from ! (stop !))) (from ! (stop !)) (written 𝓛 𝓣 τs bs ls i v a.0 (one a.1)) $ (two a.1).run }

  -- `i := f(the address of j, ..)`, for a function f over the lent local j: its arguments, and what it needs of them
  pub lends : {f : Name} {xs : List Operand} {i : ℕ} (T : Plain) (F : LentFn T) → KnownTo 𝓛 𝓣 T f F → (j : ℕ) (t : Of T) (a : Args F.Ps)
      → (val_at τs ls j ≡ Opt.some (val T t)) → get_or τs j no_ty ≡ ty T → IsOf T t → AreOf F.Ps a → Asked F.pre (t, a)
      → OpdsOk 𝓛 𝓣 τs (hide ls j) xs (λ vs. Then (vs ≡ pointer 𝓛 𝓣 τs bs j ∷ vals F.Ps a) (λ _. if_local τs i (λ τ. Then (τ ≡ ty F.R) (λ _.
      IsOf F.R (F.res t a) → IsOf T (F.after t a)
      → Runs 𝓛 𝓣 τs bs b q (put_at τs (put_at τs ls j (val T (F.after t a))) i (val F.R (F.res t a)))))))
      → Runs 𝓛 𝓣 τs bs (seq (call f xs (place i [])) b) q ls
  lends {f} {xs} {i} T F met j t a here fit is is-a need k =
      let Go-on : Type 2 =
      IsOf F.R (F.res t a) → IsOf T (F.after t a)
      → Runs 𝓛 𝓣 τs bs b q (put_at τs (put_at τs ls j (val T (F.after t a))) i (val F.R (F.res t a))) in
      let Lands : Type 2 = if_local τs i (λ τ. Then (τ ≡ ty F.R) (λ _. Go-on)) in
      let os = opds-of 𝓛 𝓣 τs bs j ls xs (λ us. Then (us ≡ pointer 𝓛 𝓣 τs bs j ∷ vals F.Ps a) (λ _. Lands)) k in
      let l = if-local τs i (λ τ. Then (τ ≡ ty F.R) (λ _. Go-on)) (two os.2) in
      lends-at 𝓛 𝓣 τs bs T F f met j ls t a here fit is is-a need q b xs i
      (λ I. subst (λ (us : List Val). Opds (Go {0}) 𝓛 (Away 𝓛 𝓣 τs bs j ls I) (env 𝓛 τs bs) xs us) (one os.2) (os.1 I))
      l.0 (one l.1) (two l.1)

-- ---- a function by value, from its body to its contract
abbrev pub Gives : (F : PlainFn) → Args F.Ps → Val → Unit {0} → Type 2
Gives F a v x = (v ≡ val F.R (F.res a)) × IsOf F.R (F.res a) × Unit {2}

module _ {M : Type 1} {𝓤 : Ura M} (𝓛 : Logic 𝓤) (F : PlainFn) where
  open 𝓛 use {H}

  abbrev Cl : Clauses 𝓤 (plain_ended F)
  Cl = plain_clauses F 𝓤

  abbrev hs : Stays (plain_ended F).signature.params (plain_ended F).kept
  hs = stays 0 F.Ps

  module _ (a : Args F.Ps) (is-a : AreOf F.Ps a) where
    abbrev Post : Val → SProp 𝓤
    Post = (walk_of 𝓛 (plain_ended F) hs Cl).post ((tt, tt, tt, to 0 tt F.Ps a, vss 0 tt F.Ps a), tt)

    exits-at : IsOf F.R (F.res a) → ent 𝓤 (sep 𝓤 (emp 𝓤) (emp 𝓤)) (Post (val F.R (F.res a)))
    exits-at is =
        qed 𝓛 (‵ ftrue ∷ ‵ ftrue ∷ []) ∵
        suffices ! _ (ends_at 𝓛 (plain_ended F) hs Cl ((tt, tt, tt, to 0 tt F.Ps a, vss 0 tt F.Ps a), tt)
        (val F.R (F.res a)) (F.res a) (no_lasts 0 tt F.Ps a) (fits 0 tt F.Ps a)) $
        suffices ! _ (beside 𝓤 _ (fact_i 𝓤 _ (emp 𝓤)
        (subst (λ (x : Args F.Ps). F.res a ≡ F.res x) (sym (fro-to 0 tt F.Ps a)) refl))) $ frame ! $ drop ! $
        use0 𝓛 (‵ (own F.R (F.res a) (val F.R (F.res a) ∷ [])))
        (makes_shadow 𝓛 (own F.R (F.res a) _) (F.R.facts (F.R.F.into (F.res a)) _) is) $
        use0 𝓛 (‵ (has_of {n = 0} tt (slots 0 F.Ps) (kepts 0 F.Ps) (stays 0 F.Ps) (to 0 tt F.Ps a) (no_lasts 0 tt F.Ps a)
        (vss 0 tt F.Ps a))) (has_all 0 tt 𝓛 F.Ps a is-a) $ done !

    gives-it : (v : Val) (x : Unit {0}) → Gives F a v x → ent 𝓤 (sep 𝓤 (emp 𝓤) (emp 𝓤)) (Post v)
    gives-it v x k = subst (λ (u : Val). ent 𝓤 (sep 𝓤 (emp 𝓤) (emp 𝓤)) (Post u)) (sym k.0) (exits-at k.1)

  module _ (𝓣 : Tables 𝓤 H) (f : Fn) (ρs : List Ty) where
    abbrev Run : List Val → (Val → SProp 𝓤) → SProp 𝓤
    Run = WpFn 𝓤 H 𝓣.C 𝓣.Λ f

    abbrev pub local_tys : List Ty
    local_tys = ty F.R ∷ (tys F.Ps ++ ρs)

    abbrev End : (a : Args F.Ps) (is-a : AreOf F.Ps a) → Blocks local_tys → Out → SProp 𝓤
    End a is-a bs = at_return 𝓤 H (env 𝓛 local_tys bs) (Post a is-a)

    -- the rest of a body, where `Ok` covers it and it returns the contract's result
    abbrev pub Ending : (a : Args F.Ps) (bs : Blocks local_tys) → (Out → SProp 𝓤) → Type 2
    Ending a bs q =
        (b : Body) (ls : Locals) → Ok 𝓛 𝓣 (Unit {0}) no_item [] local_tys b (Done 𝓛 𝓣 (Unit {0}) no_item [] local_tys (Gives F a)) (tt, ls)
        → Runs 𝓛 𝓣 local_tys bs b q ls

    finish : (a : Args F.Ps) (is-a : AreOf F.Ps a) (bs : Blocks local_tys) → Ending a bs (End a is-a bs)
    finish a is-a bs b ls ok = record {
      run =
          ok-runs 𝓛 𝓣 (Unit {0}) no_item [] local_tys bs b (Done 𝓛 𝓣 (Unit {0}) no_item [] local_tys (Gives F a)) (End a is-a bs)
          (ends 𝓛 𝓣 (Unit {0}) no_item [] local_tys bs (Gives F a) (Post a is-a) (gives-it a is-a)) (tt, ls) ok;
    }

    abbrev pub BodyRuns : Type 2
    BodyRuns =
        (a : Args F.Ps) → AreOf F.Ps a → Asked F.pre a → (bs : Blocks local_tys) (q : Out → SProp 𝓤) → Ending a bs q
        → Runs 𝓛 𝓣 local_tys bs f.body q (none ∷ somes (vals F.Ps a))

    module _ (Shape-is : tys_of f.locals ≡ local_tys) (ok : BodyRuns) where
      opening : ent 𝓤 (emp 𝓤) (H.⇛ (guard 𝓤 (Unit {0}) (sep 𝓤 (emp 𝓤) (emp 𝓤))))
      opening =
          let P : SProp 𝓤 = sep 𝓤 (emp 𝓤) (emp 𝓤) in
          via 𝓤 P (emp∗ 𝓤 (emp 𝓤)) (via 𝓤 (guard 𝓤 (Unit {0}) P) (guard_i 𝓤 (Unit {0}) P tt) (𝓛.laws.⇛_intro _))

      walk : (a : Args F.Ps) (is-a : AreOf F.Ps a) → Asked F.pre a → ent 𝓤 (emp 𝓤) (Run (vals F.Ps a) (Post a is-a))
      walk a is-a need =
          runs-body 𝓛 𝓣 (Unit {0}) no_item [] f (ty F.R) (tys F.Ps ++ ρs) Shape-is (vals F.Ps a)
          (have-types 𝓛 F.Ps ρs a is-a) (emp 𝓤) (Unit {0}) tt opening (Post a is-a)
          (λ x bs. (ok a is-a need bs (End a is-a bs) (finish a is-a bs)).run.prf)

      module _ (κs : Lfts 0) where
        abbrev Ts : List RattleType
        Ts = types_at (plain_ended F).signature.params κs

        abbrev sp : Spells Ts
        sp = spells 0 κs F.Ps

        abbrev At : Shares 0 → Denots (types_at (slots 0 F.Ps) κs) → Type 1
        At qs y =
            Are Ts (Ises Ts) y (valss Ts sp y)
            → ent 𝓤 (sep 𝓤 (on_entry 𝓛 (plain_ended F).signature κs qs y (valss Ts sp y)) ((Cl κs y).requires tt))
            (Run (flat Ts (valss Ts sp y)) ((walk_of 𝓛 (plain_ended F) hs Cl).post ((κs, qs, tt, y, valss Ts sp y), tt)))

        at-it : (qs : Shares 0) (a : Args F.Ps) → At qs (to 0 κs F.Ps a)
        at-it qs a are =
            let is-a = are-of 0 κs F.Ps a are in
            let y = to 0 κs F.Ps a in
            let Start : SProp 𝓤 = on_entry 𝓛 (plain_ended F).signature κs qs y (valss Ts sp y) in
            asked-out 𝓤 F.pre (fro 0 κs F.Ps y) Start (λ need.
            via 𝓤 (emp 𝓤) (top 𝓤 Start) (subst (λ (vs : List Val). ent 𝓤 (emp 𝓤) (Run vs (Post a is-a))) (sym (flat-is 0 κs F.Ps a))
            (walk a is-a (subst (λ (x : Args F.Ps). Asked F.pre x) (fro-to 0 κs F.Ps a) need))))

      walks-it : Walks 𝓛 (plain_ended F) hs Run Cl
      walks-it =
          walked 𝓛 (plain_ended F) hs Cl Run sp (λ κs. tellss 0 κs F.Ps)
          (λ κs qs bounds a g are. subst (At κs qs) (to-fro 0 κs F.Ps a) (at-it κs qs (fro 0 κs F.Ps a)) are)

      meets-it : Meets 𝓛 (plain_ended F).signature Run (closing 𝓛 (plain_ended F) Cl)
      meets-it = walk_Meets 𝓛 (plain_ended F) hs (go_all 𝓛 0 F.Ps) Cl Run (WpFn-mono 𝓤 H 𝓛.laws 𝓣 f) walks-it

-- ---- what a function's own proof cites
module _ {M : Type 1} {𝓤 : Ura M} (𝓛 : Logic 𝓤) (𝓜 : Model 𝓤 𝓛.H) (𝓡 : Running 𝓤 𝓛.H 𝓜) (ε : Routines) where
  open 𝓛 use {H}

  abbrev pub G : Logic 𝓤
  G = L.W 𝓛 𝓜 𝓡 ε

  abbrev pub 𝓣 : Tables 𝓤 H
  𝓣 = L.𝓣 𝓛 𝓜 𝓡 ε

  module _ (F : PlainFn) (name : Name) (f : Fn) (closes : Closed 𝓤 H (tables 𝓤 H 𝓜 𝓡 ε).C (tables 𝓤 H 𝓜 𝓡 ε).Λ name f)
      (Shape-is : tys_of f.locals ≡ local_tys G F 𝓣 f (skip F.Ps (past (tys_of f.locals)))) where
    pub owning : BodyRuns G F 𝓣 f (skip F.Ps (past (tys_of f.locals))) → Triple 𝓤 (𝓡.run (ε name)) (PlainMet F 𝓛)
    unfolding tables_of
    owning ok =
        entered 𝓤 H (PlainMet F 𝓛) (tables 𝓤 H 𝓜 𝓡 ε).C (tables 𝓤 H 𝓜 𝓡 ε).Λ name f closes
        (meets-it G F 𝓣 f (skip F.Ps (past (tys_of f.locals))) Shape-is ok)
