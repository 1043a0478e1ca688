-- A whole function, from the facts of its body (`Walk.Ok`): its locals get memory, its parameters are stored, the body runs, the result is
-- read, and the locals are freed. All by recursion on the list of locals.
-- Assumes nothing.
use mathlib.Core.Path.{◌≡◌, sym, subst}
use mathlib.Core.Option.{Option, none}
use mathlib.Core.Option as Opt
use mathlib.Core.List.{List, [], ◌∷◌, ◌++◌}
use Prim.Native.Nat.{ℕ, zero}
use seplogic.Ra.Ura.{Ura}
use base.Fraction.{full_share}
use mir.Syntax.{Fn, Ty, Local, local}
use mir.Val.{Val}
use base.Logic.{SProp, ent, sep, wand, ex, emp, guard, via, assoc∗, mono_l, mono_r, all_i, ex_i, wand_i, guard_i, emp∗, snd∗}
use base.Fml.{fat, fdies}
use prog.Wp.{Env, Out, next, exits, returns, alloc, pass, params, release, at_return, WpFn, Wp, Tables}
use types.Logic.{Logic}
use types.Kit.{Item, ‵, raw, some, later, given, mean, push, pop, ++⊢, ⊢++, ◌⊛◌, any_q, Go, !, ◌$◌, ◌∵◌, qed, by, use1, use2, await}
use types.Kit.{pick, learn, move, split, join, done, frame}
use types.Run.{look, exec}
use Rattle.walks.proofs.Locals.{Locals, Blocks, HasType, HaveTypes, somes, val_at, Stars, env, room_of, cell_of, cells, dies, cell-at, room_of_lem}
use Rattle.walks.proofs.Walk.{Then, one, two, Stuck, Ok, ok-runs, Context, Ends}

abbrev pub tys_of : List Local → List Ty
tys_of [] = []
tys_of (local τ h ∷ ls) = τ ∷ tys_of ls

module _ {M : Type 1} {𝓤 : Ura M} (𝓛 : Logic 𝓤) where
  -- all locals' memory, beside P
  open 𝓛 use {H}

  abbrev Framed : (τs : List Ty) → Blocks τs → Locals → SProp 𝓤 → SProp 𝓤
  Framed τs bs ls P = sep 𝓤 (sep 𝓤 (Stars 𝓛 (cells 𝓛 τs bs ls)) (Stars 𝓛 (dies 𝓛 τs bs))) P

  abbrev dying : Ty → ℕ → Item 𝓤
  dying τ b = ‵ (fdies τ b)

  -- ---- the locals get memory
  allocs-all : (ls : List Local) (P : SProp 𝓤) (K : Env 𝓤 H → SProp 𝓤)
      → ((bs : Blocks (tys_of ls)) → ent 𝓤 (Framed (tys_of ls) bs [] P) (K (env 𝓛 (tys_of ls) bs))) → ent 𝓤 P (alloc 𝓤 H ls K)
  allocs-all [] P K h =
      via 𝓤 (sep 𝓤 (sep 𝓤 (emp 𝓤) (emp 𝓤)) P) (via 𝓤 (sep 𝓤 (emp 𝓤) P) (emp∗ 𝓤 P) (mono_l 𝓤 P (emp∗ 𝓤 (emp 𝓤)))) (h tt)
  allocs-all (local τ m ∷ ls) P K h =
      let New : ℕ → SProp 𝓤 = λ b. sep 𝓤 (H.room τ b zero) (H.dies τ b) in
      let Rest : ℕ → SProp 𝓤 = λ b. alloc 𝓤 H ls (λ E. K ((τ, b) ∷ E)) in
      all_i 𝓤 (λ (b : ℕ). wand 𝓤 (New b) (Rest b)) (λ b. wand_i 𝓤 P (New b) (Rest b)
      (allocs-all ls (sep 𝓤 P (New b)) (λ E. K ((τ, b) ∷ E)) (λ bs.
      let R : List (Item 𝓤) = cells 𝓛 (tys_of ls) bs [] in
      let D : List (Item 𝓤) = dies 𝓛 (tys_of ls) bs in
      via 𝓤 (sep 𝓤 (sep 𝓤 (Stars 𝓛 (room_of 𝓛 τ b ∷ R)) (Stars 𝓛 (dying τ b ∷ D))) P)
      (qed 𝓛 ((raw (Stars 𝓛 R) ⊛ raw (Stars 𝓛 D)) ∷ (raw P ⊛ room_of 𝓛 τ b ⊛ dying τ b) ∷ []) ∵ split ! $ move ! (2 ∷ []) $ split ! $
      move ! (1 ∷ []) $ split ! $
      -- [room; dies; P; the rooms; the others die]
      move ! (0 ∷ 3 ∷ []) $ use2 𝓛 (raw (Stars 𝓛 (room_of 𝓛 τ b ∷ R))) (push 𝓛 (room_of 𝓛 τ b) R) $
      move ! (1 ∷ 3 ∷ []) $ use2 𝓛 (raw (Stars 𝓛 (dying τ b ∷ D))) (push 𝓛 (dying τ b) D) $ move ! (1 ∷ 0 ∷ []) $ join ! $ done !)
      (h (b, bs)))))

  -- ---- the parameters are stored
  passes-all : (σs : List Ty) (cs : Blocks σs) (vs : List Val) (P K : SProp 𝓤) → HaveTypes σs vs
      → ent 𝓤 (sep 𝓤 (Stars 𝓛 (cells 𝓛 σs cs (somes vs))) P) K
      → ent 𝓤 (sep 𝓤 (Stars 𝓛 (cells 𝓛 σs cs [])) P) (pass 𝓤 H (env 𝓛 σs cs) vs K)
  passes-all σs cs [] P K w h = h
  passes-all [] cs (v ∷ vs) P K w h = absurd w
  passes-all (σ ∷ σs) cs (v ∷ vs) P K w h =
      let R : List (Item 𝓤) = cells 𝓛 σs cs.1 [] in
      let N : List (Item 𝓤) = cells 𝓛 σs cs.1 (somes vs) in
      let at : Item 𝓤 = ‵ (fat full_share σ cs.0 zero v) in
      let At : SProp 𝓤 = mean 𝓛 at in
      let Room : SProp 𝓤 = H.room σ cs.0 zero in
      let G : SProp 𝓤 = pass 𝓤 H (env 𝓛 σs cs.1) vs K in
      via 𝓤 (sep 𝓤 Room (wand 𝓤 At G))
      (via 𝓤 (sep 𝓤 Room (sep 𝓤 (Stars 𝓛 R) P))
      (via 𝓤 (sep 𝓤 (sep 𝓤 Room (Stars 𝓛 R)) P) (mono_l 𝓤 P (pop 𝓛 (room_of 𝓛 σ cs.0) R)) (assoc∗ 𝓤 Room (Stars 𝓛 R) P))
      (mono_r 𝓤 Room (wand_i 𝓤 (sep 𝓤 (Stars 𝓛 R) P) At G
      (via 𝓤 (sep 𝓤 (Stars 𝓛 R) (sep 𝓤 P At)) (assoc∗ 𝓤 (Stars 𝓛 R) P At)
      (passes-all σs cs.1 vs (sep 𝓤 P At) K w.1
      (via 𝓤 (sep 𝓤 (Stars 𝓛 (at ∷ N)) P)
      (qed 𝓛 (raw (Stars 𝓛 N) ∷ (raw P ⊛ at) ∷ []) ∵ move ! (1 ∷ []) $ split ! $ move ! (1 ∷ 2 ∷ []) $
      use2 𝓛 (raw (Stars 𝓛 (at ∷ N))) (push 𝓛 at N) $ done !) h))))))
      (guard_i 𝓤 (HasType σ v) (sep 𝓤 Room (wand 𝓤 At G)) w.0)

  -- ---- the locals are freed
  frees-one : (σ : Ty) (b : ℕ) (x : Option Val) (R D : List (Item 𝓤)) (P G : SProp 𝓤) → ent 𝓤 (sep 𝓤 (sep 𝓤 (Stars 𝓛 R) (Stars 𝓛 D)) P) G
      → ent 𝓤 (sep 𝓤 (sep 𝓤 (Stars 𝓛 (cell_of 𝓛 σ b x ∷ R)) (Stars 𝓛 (dying σ b ∷ D))) P) (sep 𝓤 (sep 𝓤 (H.room σ b zero) (H.dies σ b)) G)
  frees-one σ b x R D P G h =
      let c : Item 𝓤 = cell_of 𝓛 σ b x in
      qed 𝓛 ((raw (Stars 𝓛 (c ∷ R)) ⊛ raw (Stars 𝓛 (dying σ b ∷ D))) ∷ raw P ∷ []) ∵ split ! $
      use1 𝓛 (c ⊛ raw (Stars 𝓛 R)) (pop 𝓛 c R) $ split ! $ use1 𝓛 (room_of 𝓛 σ b) (room_of_lem 𝓛 σ b x) $ move ! (2 ∷ []) $
      use1 𝓛 (dying σ b ⊛ raw (Stars 𝓛 D)) (pop 𝓛 (dying σ b) D) $ split ! $
      -- [dies; the others die; room; the other rooms; P]
      move ! (2 ∷ 0 ∷ []) $ join ! $ frame ! $ move ! (1 ∷ 0 ∷ []) $ join ! $ by ! h

  frees_all : (σs : List Ty) (cs : Blocks σs) (ls : Locals) (P : SProp 𝓤) → ent 𝓤 (Framed σs cs ls P) (release 𝓤 H (env 𝓛 σs cs) P)
  frees_all [] cs ls P = snd∗ 𝓤 (sep 𝓤 (emp 𝓤) (emp 𝓤)) P
  frees_all (σ ∷ σs) cs [] P =
      frees-one σ cs.0 none (cells 𝓛 σs cs.1 []) (dies 𝓛 σs cs.1) P (release 𝓤 H (env 𝓛 σs cs.1) P) (frees_all σs cs.1 [] P)
  frees_all (σ ∷ σs) cs (x ∷ ls) P =
      frees-one σ cs.0 x (cells 𝓛 σs cs.1 ls) (dies 𝓛 σs cs.1) P (release 𝓤 H (env 𝓛 σs cs.1) P) (frees_all σs cs.1 ls P)

  -- ---- the whole function
  module _ (𝓣 : Tables 𝓤 H) (D : Type 0) (item : D → Item 𝓤) (fr : List (Item 𝓤)) where
    -- how the body must end: it returns a value v, with t behind the reference, such that `Fin v t`
    abbrev pub Done : (τs : List Ty) → (Val → D → Type 2) → Ends 𝓛 𝓣 D item fr τs
    Done τs Fin next s = Stuck
    Done τs Fin (exits n) s = Stuck
    Done τs Fin returns s = Then Val (λ v. Then (val_at τs s.1 zero ≡ Opt.some v) (λ _. Fin v s.0))

    -- what is held beside the locals
    abbrev pub Held : D → SProp 𝓤
    Held t = sep 𝓤 (mean 𝓛 (item t)) (Stars 𝓛 fr)

    module _ (τs : List Ty) (bs : Blocks τs) where
      abbrev pub Whole : D → Locals → SProp 𝓤
      Whole t ls = Stars 𝓛 (Context 𝓛 𝓣 D item fr τs bs (t, ls))

      puts-in : (t : D) (ls : Locals) → ent 𝓤 (Framed τs bs ls (Held t)) (Whole t ls)
      puts-in t ls =
          let N : List (Item 𝓤) = cells 𝓛 τs bs ls in
          let Y : List (Item 𝓤) = dies 𝓛 τs bs in
          qed 𝓛 ((raw (Stars 𝓛 N) ⊛ raw (Stars 𝓛 Y)) ∷ (item t ⊛ raw (Stars 𝓛 fr)) ∷ []) ∵ split ! $ move ! (2 ∷ []) $ split ! $
          move ! (3 ∷ 1 ∷ []) $ use2 𝓛 (raw (Stars 𝓛 (Y ++ fr))) (++⊢ 𝓛 Y fr) $
          move ! (2 ∷ 0 ∷ []) $ use2 𝓛 (raw (Stars 𝓛 (N ++ (Y ++ fr)))) (++⊢ 𝓛 N (Y ++ fr)) $
          move ! (1 ∷ 0 ∷ []) $ by ! (push 𝓛 (item t) (N ++ (Y ++ fr)))

      takes_out : (t : D) (ls : Locals) → ent 𝓤 (Whole t ls) (Framed τs bs ls (Held t))
      takes_out t ls =
          let N : List (Item 𝓤) = cells 𝓛 τs bs ls in
          let Y : List (Item 𝓤) = dies 𝓛 τs bs in
          qed 𝓛 (raw (Whole t ls) ∷ []) ∵ use1 𝓛 (item t ⊛ raw (Stars 𝓛 (N ++ (Y ++ fr)))) (pop 𝓛 (item t) (N ++ (Y ++ fr))) $ split ! $
          move ! (1 ∷ []) $ use1 𝓛 (raw (Stars 𝓛 N) ⊛ raw (Stars 𝓛 (Y ++ fr))) (⊢++ 𝓛 N (Y ++ fr)) $ split ! $
          move ! (1 ∷ []) $ use1 𝓛 (raw (Stars 𝓛 Y) ⊛ raw (Stars 𝓛 fr)) (⊢++ 𝓛 Y fr) $ split ! $
          -- [they die; fr; the cells; item t]
          move ! (2 ∷ 0 ∷ []) $ join ! $ move ! (0 ∷ 2 ∷ 1 ∷ []) $ done !

      -- the result is read, and the locals are freed
      pub ends : (Fin : Val → D → Type 2) (Kf : Val → SProp 𝓤) → ((v : Val) (t : D) → Fin v t → ent 𝓤 (Held t) (Kf v))
          → (o : Out) (s : D × Locals) → Done τs Fin o s → ent 𝓤 (Whole s.0 s.1) (at_return 𝓤 H (env 𝓛 τs bs) Kf o)
      ends Fin Kf fin next s k = elim k [ ]
      ends Fin Kf fin (exits n) s k = elim k [ ]
      ends Fin Kf fin returns s k =
          let L : SProp 𝓤 = sep 𝓤 (Stars 𝓛 (cells 𝓛 τs bs s.1)) (Stars 𝓛 (dies 𝓛 τs bs)) in
          (look {𝓛 = 𝓛} {K = Go {0}} {Γ = Context 𝓛 𝓣 D item fr τs bs s} ! 1
          (cell-at 𝓛 τs bs s.1 (dies 𝓛 τs bs ++ fr) zero (one k) (one (two k)))).go
          (λ r. release 𝓤 H (env 𝓛 τs bs) (Kf r))
          (via 𝓤 (sep 𝓤 L (Held s.0)) (takes_out s.0 s.1)
          (via 𝓤 (sep 𝓤 L (Kf (one k))) (mono_r 𝓤 L (fin (one k) s.0 (two (two k)))) (frees_all τs bs s.1 (Kf (one k)))))

  abbrev pub Runs : Tables 𝓤 H → Fn → (Val → SProp 𝓤) → (τs : List Ty) → Blocks τs → SProp 𝓤
  Runs 𝓣 f Kf τs bs = Wp 𝓤 H 𝓣.C 𝓣.Λ (env 𝓛 τs bs) f.body (at_return 𝓤 H (env 𝓛 τs bs) Kf)

  -- from P, which opens, for some x, to what is held and to a fact φ, the function f runs to Kf
  module _ (𝓣 : Tables 𝓤 H) (D X : Type 0) (item : X → D → Item 𝓤) (fr : X → List (Item 𝓤)) where
    abbrev HeldAt : X → D → SProp 𝓤
    HeldAt x t = Held 𝓣 D (item x) (fr x) t

    -- where its body does
    pub body-opened : (f : Fn) (τ : Ty) (σs : List Ty) → tys_of f.locals ≡ τ ∷ σs → (vs : List Val) → HaveTypes σs vs
        → (P : SProp 𝓤) (φ : Type 0) (t : D) → ent 𝓤 P (H.⇛ (ex 𝓤 (λ (x : X). guard 𝓤 φ (HeldAt x t)))) → (Kf : Val → SProp 𝓤)
        → ((x : X) → φ → (bs : Blocks (τ ∷ σs))
        → ent 𝓤 (Whole 𝓣 D (item x) (fr x) (τ ∷ σs) bs t (none ∷ somes vs)) (Runs 𝓣 f Kf (τ ∷ σs) bs))
        → ent 𝓤 P (WpFn 𝓤 H 𝓣.C 𝓣.Λ f vs Kf)
    unfolding WpFn
    body-opened f τ σs shape vs typed P φ t opening Kf runs =
        allocs-all f.locals P (λ E. params 𝓤 H E vs (Wp 𝓤 H 𝓣.C 𝓣.Λ E f.body (at_return 𝓤 H E Kf)))
        (subst (λ (τs : List Ty). (bs : Blocks τs) → ent 𝓤 (Framed τs bs [] P) (params 𝓤 H (env 𝓛 τs bs) vs (Runs 𝓣 f Kf τs bs))) (sym shape) enters)
      where
        enters : (bs : Blocks (τ ∷ σs)) → ent 𝓤 (Framed (τ ∷ σs) bs [] P) (pass 𝓤 H (env 𝓛 σs bs.1) vs (Runs 𝓣 f Kf (τ ∷ σs) bs))
        enters bs =
            let R : List (Item 𝓤) = cells 𝓛 σs bs.1 [] in
            let N : List (Item 𝓤) = cells 𝓛 σs bs.1 (somes vs) in
            let room : Item 𝓤 = room_of 𝓛 τ bs.0 in
            let Y : SProp 𝓤 = Stars 𝓛 (dies 𝓛 (τ ∷ σs) bs) in
            let start : Locals = none ∷ somes vs in
            via 𝓤 (sep 𝓤 (Stars 𝓛 R) (sep 𝓤 (mean 𝓛 room) (sep 𝓤 Y P)))
            (qed 𝓛 ((raw (Stars 𝓛 (room ∷ R)) ⊛ raw Y) ∷ raw P ∷ []) ∵ split ! $
            use1 𝓛 (room ⊛ raw (Stars 𝓛 R)) (pop 𝓛 room R) $ split ! $ move ! (1 ∷ []) $ done !)
            (passes-all σs bs.1 vs (sep 𝓤 (mean 𝓛 room) (sep 𝓤 Y P)) _ typed
            (qed 𝓛 (raw (Stars 𝓛 N) ∷ (room ⊛ (raw Y ⊛ raw P)) ∷ []) ∵ move ! (1 ∷ []) $ split ! $ move ! (0 ∷ 2 ∷ []) $
            use2 𝓛 (raw (Stars 𝓛 (room ∷ N))) (push 𝓛 room N) $ move ! (1 ∷ []) $ split ! $ move ! (1 ∷ []) $
            -- [P; they die; the locals]
            exec ! 𝓣.C 𝓣.Λ (env 𝓛 (τ ∷ σs) bs) f.body (any_q (at_return 𝓤 H (env 𝓛 (τ ∷ σs) bs) Kf)) $
            use1 𝓛 (later (some (λ (x : X). given φ (raw (HeldAt x t))))) opening $ await ! tt $ pick ! (λ x. learn ! (λ h.
            move ! (2 ∷ 1 ∷ []) $ join ! $
            use2 𝓛 (raw (Whole 𝓣 D (item x) (fr x) (τ ∷ σs) bs t start)) (puts-in 𝓣 D (item x) (fr x) (τ ∷ σs) bs t start) $
            by ! (runs x h bs)))))

    pub runs-opened : (f : Fn) (τ : Ty) (σs : List Ty) → tys_of f.locals ≡ τ ∷ σs → (vs : List Val) → HaveTypes σs vs
        → (P : SProp 𝓤) (φ : Type 0) (t : D) → ent 𝓤 P (H.⇛ (ex 𝓤 (λ (x : X). guard 𝓤 φ (HeldAt x t))))
        → (Fin : Val → D → Type 2) (Kf : Val → SProp 𝓤) → ((x : X) (v : Val) (t' : D) → Fin v t' → ent 𝓤 (HeldAt x t') (Kf v))
        → ((x : X) → φ → Ok 𝓛 𝓣 D (item x) (fr x) (τ ∷ σs) f.body (Done 𝓣 D (item x) (fr x) (τ ∷ σs) Fin) (t, none ∷ somes vs))
        → ent 𝓤 P (WpFn 𝓤 H 𝓣.C 𝓣.Λ f vs Kf)
    runs-opened f τ σs shape vs typed P φ t opening Fin Kf fin ok =
        body-opened f τ σs shape vs typed P φ t opening Kf (λ x h bs.
        (ok-runs 𝓛 𝓣 D (item x) (fr x) (τ ∷ σs) bs f.body (Done 𝓣 D (item x) (fr x) (τ ∷ σs) Fin) (at_return 𝓤 H (env 𝓛 (τ ∷ σs) bs) Kf)
        (ends 𝓣 D (item x) (fr x) (τ ∷ σs) bs Fin Kf (fin x)) (t, none ∷ somes vs) (ok x h)).prf)

  -- the same, where there is but one way to open P
  module _ (𝓣 : Tables 𝓤 H) (D : Type 0) (item : D → Item 𝓤) (fr : List (Item 𝓤)) where
    pub runs-body : (f : Fn) (τ : Ty) (σs : List Ty) → tys_of f.locals ≡ τ ∷ σs → (vs : List Val) → HaveTypes σs vs
        → (P : SProp 𝓤) (φ : Type 0) (t : D) → ent 𝓤 P (H.⇛ (guard 𝓤 φ (Held 𝓣 D item fr t))) → (Kf : Val → SProp 𝓤)
        → (φ → (bs : Blocks (τ ∷ σs)) → ent 𝓤 (Whole 𝓣 D item fr (τ ∷ σs) bs t (none ∷ somes vs)) (Runs 𝓣 f Kf (τ ∷ σs) bs))
        → ent 𝓤 P (WpFn 𝓤 H 𝓣.C 𝓣.Λ f vs Kf)
    runs-body f τ σs shape vs typed P φ t opening Kf runs =
        let One : SProp 𝓤 = guard 𝓤 φ (Held 𝓣 D item fr t) in
        body-opened 𝓣 D (Unit {0}) (λ _. item) (λ _. fr) f τ σs shape vs typed P φ t
        (via 𝓤 (H.⇛ One) opening (𝓛.laws.⇛_mono _ _ (ex_i 𝓤 (λ (x : Unit {0}). One) tt))) Kf (λ _. runs)

    pub runs-fn : (f : Fn) (τ : Ty) (σs : List Ty) → tys_of f.locals ≡ τ ∷ σs → (vs : List Val) → HaveTypes σs vs
        → (P : SProp 𝓤) (φ : Type 0) (t : D) → ent 𝓤 P (H.⇛ (guard 𝓤 φ (Held 𝓣 D item fr t)))
        → (Fin : Val → D → Type 2) (Kf : Val → SProp 𝓤) → ((v : Val) (t' : D) → Fin v t' → ent 𝓤 (Held 𝓣 D item fr t') (Kf v))
        → (φ → Ok 𝓛 𝓣 D item fr (τ ∷ σs) f.body (Done 𝓣 D item fr (τ ∷ σs) Fin) (t, none ∷ somes vs))
        → ent 𝓤 P (WpFn 𝓤 H 𝓣.C 𝓣.Λ f vs Kf)
    runs-fn f τ σs shape vs typed P φ t opening Fin Kf fin ok =
        runs-body f τ σs shape vs typed P φ t opening Kf (λ x bs.
        (ok-runs 𝓛 𝓣 D item fr (τ ∷ σs) bs f.body (Done 𝓣 D item fr (τ ∷ σs) Fin) (at_return 𝓤 H (env 𝓛 (τ ∷ σs) bs) Kf)
        (ends 𝓣 D item fr (τ ∷ σs) bs Fin Kf fin) (t, none ∷ somes vs) (ok x)).prf)
