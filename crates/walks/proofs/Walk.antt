-- Code over a value that lies behind a reference, as plain facts. `Ok` computes from the code what its statements need of the locals' values
-- and of the value behind the reference; no memory stands in it. `ok-runs` shows, once for all code, that this is enough.
-- Assumes nothing.
use mathlib.Core.Path.{◌≡◌, refl, sym, subst}
use mathlib.Core.Bool.{Bool, true, false, not}
use mathlib.Core.Option.{Option, none}
use mathlib.Core.Option as Opt
use mathlib.Core.List.{List, [], ◌∷◌, ◌++◌}
use mathlib.Core.WellFounded.{WellFounded}
use Prim.Native.Nat.{ℕ, zero, suc, ◌^◌}
use seplogic.Ra.Ura.{Ura}
use lib.Dec.{T, ltb}
use lib.ListN.{get_or, replicate}
use mir.Syntax.{Callee as Name, Ty, deref, field, variant, Place, place}
use mir.Syntax.{Opd as Operand, copy, int, int_neg, int_big, float, opd_true, opd_false, opd_unit, ptr_const, size_of, align_of, num_of, fn_addr, vtable}
use mir.Syntax.{Rv as RValue, rv_opd, op1, op2, addr_of, aggregate, repeat, repeat_p, select}
use mir.Syntax.{Body, skip, seq, assign, block, loop, cond, switch, exit, return, call, unreachable, call_v, lend_static}
use mir.Val.{Val, vunit, vbool, vint, vfloat, vptr, vstruct, vcode, of_list, bits, Dom, op1_chk, op1_val, op2_chk, op2_val}
use base.Logic.{SProp, ent, sep, guard, via, id⊢, mono∗, ex_i, guard_i}
use prog.Wp.{Env, Out, next, exits, returns, Tables, after_seq, after_block, after_turn, Wp, Spot}
use types.Logic.{Logic}
use sound.WpLaws.{fm_of}
use types.Kit.{Item, raw, later, given, mean, nth, put, any_q, runs, settles, Seq, Go, !, ◌$◌, by, use1, await, learn, push, pop}
use types.Run.{Opd, Opds, Rv, Writes, Finds, look, init, store, stop, hop, from, load, lit, unit_lit, true_lit, false_lit, no_more, and_then}
use types.Run.{of_opd, bin, un, addr, assigns_last, land_last, first, skips, jumps, blocks, branches, loops, Below}
use types.Part.{agg, rep}
use denote.Triple.Call.{calls_from_last}
use Rattle.walks.proofs.Locals.{Locals, Blocks, HasType, IsIn, Weaker, val_at, put_at, no_ty, env, room_of, cell_of, cells, dies, ty_of}
use Rattle.walks.proofs.Locals.{block_of, cell_at, ty-is, nth-is, put_is, cell-at, room_of_lem, Stars}

-- ---- what facts are made of
-- one fact, and then the others. It is a constructor, so that its parts are read off the goal, and no goal is written out twice
infixr 1 ◌⨟◌
pub data Then {ℓ κ} (X : Type ℓ) (Y : X → Type κ) : Type (ℓ ⊔ κ) where
  ◌⨟◌ : (x : X) → Y x → Then X Y

abbrev pub one {ℓ κ} : {X : Type ℓ} {Y : X → Type κ} → Then X Y → X
one (x ⨟ y) = x

abbrev pub two {ℓ κ} : {X : Type ℓ} {Y : X → Type κ} (p : Then X Y) → Y (one p)
two (x ⨟ y) = y

-- there is no way on: code that is not covered, or a local that has no value yet
pub data Stuck : Type 2 where

abbrev pub if_known : Option Val → (Val → Type 2) → Type 2
if_known none K = Stuck
if_known (Opt.some v) K = K v

abbrev pub if_pointer : Val → (Val → Type 2) → Type 2
if_pointer (vptr b o) K = K (vptr b o)
if_pointer vunit K = Stuck
if_pointer (vbool y) K = Stuck
if_pointer (vint w n) K = Stuck
if_pointer (vfloat f x) K = Stuck
if_pointer (vstruct vs) K = Stuck
if_pointer (vcode c) K = Stuck

abbrev pub if_bool : Val → (Bool → Type 2) → Type 2
if_bool (vbool y) K = K y
if_bool vunit K = Stuck
if_bool (vptr b o) K = Stuck
if_bool (vint w n) K = Stuck
if_bool (vfloat f x) K = Stuck
if_bool (vstruct vs) K = Stuck
if_bool (vcode c) K = Stuck

abbrev pub if_local : List Ty → ℕ → (Ty → Type 2) → Type 2
if_local [] i K = Stuck
if_local (τ ∷ τs) zero K = K τ
if_local (τ ∷ τs) (suc i) K = if_local τs i K

pub if-local : (τs : List Ty) (i : ℕ) (K : Ty → Type 2) → if_local τs i K → IsIn τs i × K (get_or τs i no_ty)
if-local [] i K k = elim k [ ]
if-local (τ ∷ τs) zero K k = (tt, k)
if-local (τ ∷ τs) (suc i) K k = if-local τs i K k

-- after a branch: each arm goes on for itself, or both come to one family of states
pub data Either (X Z : Type 2) : Type 2 where
  apart : X → Either X Z
  joined : Z → Either X Z

-- a function that is called, as its caller sees it, over the value behind the reference (D): what it asks, what it is passed, what it
-- returns, what it leaves behind the reference, and what is known of the result then
pub record Callee (D : Type 0) : Type 1 where
  pub Arg : Type 0
  pub Ask : D → Arg → Type 0
  pub vals : Arg → List Val
  pub res : D → Arg → Val
  pub after : D → Arg → D
  pub know : D → Arg → Type 0
  pub ty : Ty

-- `item t` is the memory in which t lies behind the reference, `fr` whatever else is held while the body runs
module _ {M : Type 1} {𝓤 : Ura M} (𝓛 : Logic 𝓤) (𝓣 : Tables 𝓤 𝓛.H) (D : Type 0) (item : D → Item 𝓤)
    (fr : List (Item 𝓤)) where
  open 𝓛 use {H}

  abbrev Is : Item 𝓤 → SProp 𝓤
  Is i = mean 𝓛 i

  -- the function f does what F says
  pub record Does (f : Name) (F : Callee D) : Type 1 where
    pub typed : (t : D) (a : F.Arg) → F.know t a → HasType F.ty (F.res t a)
    pub met : (t : D) (a : F.Arg) → F.Ask t a
        → ent 𝓤 (Is (item t)) (H.⇛ (𝓣.C f (F.vals a) (λ r. H.⇛ (guard 𝓤 ((r ≡ F.res t a) × F.know t a) (Is (item (F.after t a)))))))

  module _ (τs : List Ty) where
    abbrev pub State : Type 0
    State = D × Locals

    abbrev pub rest : Blocks τs → Locals → List (Item 𝓤)
    rest bs ls = cells 𝓛 τs bs ls ++ (dies 𝓛 τs bs ++ fr)

    -- the memory of a state
    abbrev pub Context : Blocks τs → State → List (Item 𝓤)
    Context bs s = item s.0 ∷ rest bs s.1

    abbrev pub env_of : Blocks τs → Env 𝓤 H
    env_of bs = env 𝓛 τs bs

    -- ---- what operands and right sides need
    -- a place of more than a local is given by hand: its value, and how it is read
    abbrev pub HasOpd : Locals → Operand → Val → Type 2
    HasOpd ls x v = (bs : Blocks τs) (I : Item 𝓤) → Opd (Go {0}) 𝓛 (I ∷ rest bs ls) (env_of bs) x v

    abbrev pub HasOpds : Locals → List Operand → List Val → Type 2
    HasOpds ls xs vs = (bs : Blocks τs) (I : Item 𝓤) → Opds (Go {0}) 𝓛 (I ∷ rest bs ls) (env_of bs) xs vs

    abbrev pub HasRv : State → RValue → Val → Type 2
    HasRv s rv v = (bs : Blocks τs) → Rv (Go {0}) 𝓛 (Context bs s) (env_of bs) rv v

    abbrev pub OpdOk : Locals → Operand → (Val → Type 2) → Type 2
    OpdOk ls (copy (place i [])) K = if_known (val_at τs ls i) K
    OpdOk ls (copy (place i (x ∷ st))) K = Then Val (λ v. Then (HasOpd ls (copy (place i (x ∷ st))) v) (λ _. K v))
    OpdOk ls (int w n) K = Then (T (ltb n (2 ^ bits w))) (λ _. K (vint w n))
    OpdOk ls (int_neg w k) K = Stuck
    OpdOk ls (int_big w n) K = Stuck
    OpdOk ls (float f n) K = Stuck
    OpdOk ls opd_true K = K (vbool true)
    OpdOk ls opd_false K = K (vbool false)
    OpdOk ls opd_unit K = K vunit
    OpdOk ls (ptr_const n) K = Stuck
    OpdOk ls (size_of τ) K = Stuck
    OpdOk ls (align_of τ) K = Stuck
    OpdOk ls (num_of w τ) K = Stuck
    OpdOk ls (fn_addr c ς) K = Stuck
    OpdOk ls (vtable τ ss) K = Stuck

    abbrev pub OpdsOk : Locals → List Operand → (List Val → Type 2) → Type 2
    OpdsOk ls [] K = K []
    OpdsOk ls (x ∷ xs) K = OpdOk ls x (λ v. OpdsOk ls xs (λ vs. K (v ∷ vs)))

    abbrev pub RvOk : State → RValue → (Val → Type 2) → Type 2
    RvOk s (rv_opd (copy (place i []))) K = if_known (val_at τs s.1 i) K
    RvOk s (rv_opd (copy (place i (x ∷ st)))) K = Then Val (λ v. Then (HasRv s (rv_opd (copy (place i (x ∷ st)))) v) (λ _. K v))
    RvOk s (rv_opd (int w n)) K = OpdOk s.1 (int w n) K
    RvOk s (rv_opd (int_neg w n)) K = Stuck
    RvOk s (rv_opd (int_big w n)) K = Stuck
    RvOk s (rv_opd (float w n)) K = Stuck
    RvOk s (rv_opd opd_true) K = K (vbool true)
    RvOk s (rv_opd opd_false) K = K (vbool false)
    RvOk s (rv_opd opd_unit) K = K vunit
    RvOk s (rv_opd (ptr_const n)) K = Stuck
    RvOk s (rv_opd (size_of τ)) K = Stuck
    RvOk s (rv_opd (align_of τ)) K = Stuck
    RvOk s (rv_opd (num_of w τ)) K = Stuck
    RvOk s (rv_opd (fn_addr c ς)) K = Stuck
    RvOk s (rv_opd (vtable τ ss)) K = Stuck
    RvOk s (op2 o x y) K = OpdOk s.1 x (λ a. OpdOk s.1 y (λ b. Then (Dom (op2_chk o a b)) (λ _. K (op2_val o a b))))
    RvOk s (op1 o x) K = OpdOk s.1 x (λ a. Then (Dom (op1_chk o a)) (λ _. K (op1_val o a)))
    RvOk s (addr_of (place i [])) K = Stuck
    RvOk s (addr_of (place i (deref τ ∷ []))) K = if_known (val_at τs s.1 i) (λ v. if_pointer v K)
    RvOk s (addr_of (place i (deref τ ∷ x ∷ st))) K = Then Val (λ v. Then (HasRv s (addr_of (place i (deref τ ∷ x ∷ st))) v) (λ _. K v))
    RvOk s (addr_of (place i (field k ∷ st))) K = Then Val (λ v. Then (HasRv s (addr_of (place i (field k ∷ st))) v) (λ _. K v))
    RvOk s (addr_of (place i (variant k ∷ st))) K = Stuck
    RvOk s (aggregate xs) K = OpdsOk s.1 xs (λ vs. K (vstruct (of_list vs)))
    RvOk s (repeat x n) K = OpdOk s.1 x (λ v. K (vstruct (of_list (replicate n v))))
    RvOk s (repeat_p x i) K = Stuck
    RvOk s (select m x y) K = Stuck

    -- ---- what statements need
    -- a store behind the reference is given by hand: the value there after it, and how it is written
    abbrev pub Stores : State → Place → Val → D → Type 2
    Stores s p v t =
        (bs : Blocks τs) → (sp : Spot 𝓤 H) × Finds (Go {0}) 𝓛 (Context bs s) (env_of bs) p sp
        × Writes (Go {0}) 𝓛 (Context bs s) sp.0 sp.1 sp.2 v (Context bs (t, s.1))

    -- what must hold where the code ends, for each way of ending
    abbrev pub Ends : Type 3
    Ends = Out → State → Type 2

    abbrev pub then_ok : (State → Type 2) → Ends → Ends
    then_ok go Q next s = go s
    then_ok go Q (exits n) s = Q (exits n) s
    then_ok go Q returns s = Q returns s

    abbrev pub block_ok : Ends → Ends
    block_ok Q next s = Q next s
    block_ok Q (exits zero) s = Q next s
    block_ok Q (exits (suc n)) s = Q (exits n) s
    block_ok Q returns s = Q returns s

    abbrev pub turn_ok : (State → Type 2) → Ends → Ends
    turn_ok again Q next s = again s
    turn_ok again Q (exits zero) s = again s
    turn_ok again Q (exits (suc n)) s = Q (exits n) s
    turn_ok again Q returns s = Q returns s

    abbrev pub join_ok : {Y : Type 0} → (Y → State) → Ends → Ends
    join_ok {Y} J Q next s = (y : Y) × (s.0 ≡ (J y).0) × Weaker s.1 (J y).1 × Unit {2}
    join_ok J Q (exits n) s = Q (exits n) s
    join_ok J Q returns s = Q returns s

    -- the states at a loop's head are `at x`, for x in an order that every turn goes down in
    abbrev pub Again : {X : Type 0} → (X → X → Type 0) → (X → State) → X → State → Type 2
    Again {X} ≺ at x s = (x' : X) × ≺ x' x × (s.0 ≡ (at x').0) × Weaker s.1 (at x').1 × Unit {2}

    abbrev pub Ok : Body → Ends → State → Type 2
    Ok skip Q s = Q next s
    Ok (seq a b) Q s = Ok a (then_ok (λ s'. Ok b Q s') Q) s
    Ok (assign (place i []) rv) Q s =
        RvOk s rv (λ v. if_local τs i (λ τ. Then (HasType τ v) (λ _. Q next (s.0, put_at τs s.1 i v))))
    Ok (assign (place i (x ∷ st)) rv) Q s =
        RvOk s rv (λ v. Then D (λ t. Then (Stores s (place i (x ∷ st)) v t) (λ _. Q next (t, s.1))))
    Ok (block b) Q s = Ok b (block_ok Q) s
    Ok (loop b) Q s =
        Then (Type 0) (λ X. Then (X → X → Type 0) (λ ≺. Then (WellFounded ≺) (λ _. Then (X → State) (λ at. Then X (λ x.
        Then (s.0 ≡ (at x).0) (λ _. Then (Weaker s.1 (at x).1) (λ _. (y : X) → Ok b (turn_ok (Again ≺ at y) Q) (at y))))))))
    Ok (cond c a b) Q s = OpdOk s.1 c (λ v. if_bool v (λ y. Either (Then (T y → Ok a Q s) (λ _. T (not y) → Ok b Q s))
        (Then (Type 0) (λ Y. Then (Y → State) (λ J. Then (T y → Ok a (join_ok J Q) s) (λ _.
        Then (T (not y) → Ok b (join_ok J Q) s) (λ _. (z : Y) → Q next (J z))))))))
    Ok (switch c arms) Q s = Stuck
    Ok (exit n) Q s = Q (exits n) s
    Ok return Q s = Q returns s
    Ok (call f xs (place i [])) Q s =
        Then (Callee D) (λ F. Then (Does f F) (λ _. Then F.Arg (λ a. Then (F.Ask s.0 a) (λ _.
        OpdsOk s.1 xs (λ vs. Then (vs ≡ F.vals a) (λ _.
        if_local τs i (λ τ. Then (τ ≡ F.ty) (λ _. F.know s.0 a → Q next (F.after s.0 a, put_at τs s.1 i (F.res s.0 a))))))))))
    Ok (call f xs (place i (x ∷ st))) Q s = Stuck
    Ok unreachable Q s = Stuck
    Ok (call_v c ς xs p) Q s = Stuck
    Ok (lend_static p τ c) Q s = Stuck

    -- ---- from these facts to the logic: operands and right sides
    local-opd : (ls : Locals) (i : ℕ) (o : Option Val) → val_at τs ls i ≡ o → (K : Val → Type 2) → if_known o K
        → (v : Val) × HasOpd ls (copy (place i [])) v × K v
    local-opd ls i none e K k = elim k [ ]
    local-opd ls i (Opt.some v) e K k =
        (v, (λ bs I. load ! (from ! (stop !)) (look ! (suc i) (cell-at 𝓛 τs bs ls (dies 𝓛 τs bs ++ fr) i v e))), k)

    opd-of : (ls : Locals) (x : Operand) (K : Val → Type 2) → OpdOk ls x K → (v : Val) × HasOpd ls x v × K v
    opd-of ls (copy (place i [])) K k = local-opd ls i (val_at τs ls i) refl K k
    opd-of ls (copy (place i (x ∷ st))) K (v ⨟ has ⨟ k) = (v, has, k)
    opd-of ls (int w n) K (small ⨟ k) = (vint w n, (λ bs I. lit ! small), k)
    opd-of ls (int_neg w n) K k = elim k [ ]
    opd-of ls (int_big w n) K k = elim k [ ]
    opd-of ls (float f n) K k = elim k [ ]
    opd-of ls opd_true K k = (vbool true, (λ bs I. true_lit !), k)
    opd-of ls opd_false K k = (vbool false, (λ bs I. false_lit !), k)
    opd-of ls opd_unit K k = (vunit, (λ bs I. unit_lit !), k)
    opd-of ls (ptr_const n) K k = elim k [ ]
    opd-of ls (size_of τ) K k = elim k [ ]
    opd-of ls (align_of τ) K k = elim k [ ]
    opd-of ls (num_of w τ) K k = elim k [ ]
    opd-of ls (fn_addr c ς) K k = elim k [ ]
    opd-of ls (vtable τ ss) K k = elim k [ ]

    opds-of : (ls : Locals) (xs : List Operand) (K : List Val → Type 2) → OpdsOk ls xs K → (vs : List Val) × HasOpds ls xs vs × K vs
    opds-of ls [] K k = ([], (λ bs I. no_more !), k)
    opds-of ls (x ∷ xs) K k =
        let x₁ = opd-of ls x (λ v. OpdsOk ls xs (λ vs. K (v ∷ vs))) k in
        let more = opds-of ls xs (λ vs. K (x₁.0 ∷ vs)) x₁.2 in
        (x₁.0 ∷ more.0, (λ bs I. and_then ! (x₁.1 bs I) (more.1 bs I)), more.2)

    addr-of : (s : State) (i : ℕ) (τ : Ty) (o : Option Val) → val_at τs s.1 i ≡ o → (K : Val → Type 2) → if_known o (λ v. if_pointer v K)
        → (v : Val) × HasRv s (addr_of (place i (deref τ ∷ []))) v × K v
    addr-of s i τ none e K k = elim k [ ]
    addr-of s i τ (Opt.some (vptr b o)) e K k = (
      vptr b o,
      (λ bs. addr ! (from ! (hop ! (look ! (suc i) (cell-at 𝓛 τs bs s.1 (dies 𝓛 τs bs ++ fr) i (vptr b o) e)) (stop !)))),
      k,
    )
    addr-of s i τ (Opt.some vunit) e K k = elim k [ ]
    addr-of s i τ (Opt.some (vbool y)) e K k = elim k [ ]
    addr-of s i τ (Opt.some (vint w n)) e K k = elim k [ ]
    addr-of s i τ (Opt.some (vfloat f x)) e K k = elim k [ ]
    addr-of s i τ (Opt.some (vstruct vs)) e K k = elim k [ ]
    addr-of s i τ (Opt.some (vcode c)) e K k = elim k [ ]

    as-rv : (s : State) (x : Operand) (K : Val → Type 2) → (v : Val) × HasOpd s.1 x v × K v → (v : Val) × HasRv s (rv_opd x) v × K v
    as-rv s x K k = (k.0, (λ bs. of_opd ! (k.1 bs (item s.0))), k.2)

    rv-of : (s : State) (rv : RValue) (K : Val → Type 2) → RvOk s rv K → (v : Val) × HasRv s rv v × K v
    rv-of s (rv_opd (copy (place i []))) K k = as-rv s (copy (place i [])) K (local-opd s.1 i (val_at τs s.1 i) refl K k)
    rv-of s (rv_opd (copy (place i (x ∷ st)))) K (v ⨟ has ⨟ k) = (v, has, k)
    rv-of s (rv_opd (int w n)) K k = as-rv s (int w n) K (opd-of s.1 (int w n) K k)
    rv-of s (rv_opd (int_neg w n)) K k = elim k [ ]
    rv-of s (rv_opd (int_big w n)) K k = elim k [ ]
    rv-of s (rv_opd (float w n)) K k = elim k [ ]
    rv-of s (rv_opd opd_true) K k = as-rv s opd_true K (opd-of s.1 opd_true K k)
    rv-of s (rv_opd opd_false) K k = as-rv s opd_false K (opd-of s.1 opd_false K k)
    rv-of s (rv_opd opd_unit) K k = as-rv s opd_unit K (opd-of s.1 opd_unit K k)
    rv-of s (rv_opd (ptr_const n)) K k = elim k [ ]
    rv-of s (rv_opd (size_of τ)) K k = elim k [ ]
    rv-of s (rv_opd (align_of τ)) K k = elim k [ ]
    rv-of s (rv_opd (num_of w τ)) K k = elim k [ ]
    rv-of s (rv_opd (fn_addr c ς)) K k = elim k [ ]
    rv-of s (rv_opd (vtable τ ss)) K k = elim k [ ]
    rv-of s (op2 o x y) K k =
        let x₁ = opd-of s.1 x (λ a. OpdOk s.1 y (λ b. Then (Dom (op2_chk o a b)) (λ _. K (op2_val o a b)))) k in
        let x₂ = opd-of s.1 y (λ b. Then (Dom (op2_chk o x₁.0 b)) (λ _. K (op2_val o x₁.0 b))) x₁.2 in
        (op2_val o x₁.0 x₂.0, (λ bs. bin ! (x₁.1 bs (item s.0)) (x₂.1 bs (item s.0)) (one x₂.2)), two x₂.2)
    rv-of s (op1 o x) K k =
        let x₁ = opd-of s.1 x (λ a. Then (Dom (op1_chk o a)) (λ _. K (op1_val o a))) k in
        (op1_val o x₁.0, (λ bs. un ! (x₁.1 bs (item s.0)) (one x₁.2)), two x₁.2)
    rv-of s (addr_of (place i [])) K k = elim k [ ]
    rv-of s (addr_of (place i (deref τ ∷ []))) K k = addr-of s i τ (val_at τs s.1 i) refl K k
    rv-of s (addr_of (place i (deref τ ∷ x ∷ st))) K (v ⨟ has ⨟ k) = (v, has, k)
    rv-of s (addr_of (place i (field j ∷ st))) K (v ⨟ has ⨟ k) = (v, has, k)
    rv-of s (addr_of (place i (variant j ∷ st))) K k = elim k [ ]
    rv-of s (aggregate xs) K k =
        let all = opds-of s.1 xs (λ vs. K (vstruct (of_list vs))) k in
        (vstruct (of_list all.0), (λ bs. agg ! (all.1 bs (item s.0))), all.2)
    rv-of s (repeat x n) K k =
        let x₁ = opd-of s.1 x (λ v. K (vstruct (of_list (replicate n v)))) k in
        (vstruct (of_list (replicate n x₁.0)), (λ bs. rep ! n (x₁.1 bs (item s.0))), x₁.2)
    rv-of s (repeat_p x i) K k = elim k [ ]
    rv-of s (select m x y) K k = elim k [ ]

    -- ---- a local is written
    abbrev WritesLocal : Blocks τs → Locals → ℕ → Val → Item 𝓤 → List (Item 𝓤) → Type 2
    WritesLocal bs ls i v I Γ = Writes (Go {0}) 𝓛 (I ∷ rest bs ls) (ty_of 𝓛 τs bs i) (block_of 𝓛 τs bs i) zero v (I ∷ Γ)

    writes-over : (bs : Blocks τs) (ls : Locals) (i : ℕ) (v : Val) (I : Item 𝓤) (x : Option Val) → nth 𝓛 i (rest bs ls) ≡ cell_at 𝓛 τs bs i x
        → HasType (ty_of 𝓛 τs bs i) v → WritesLocal bs ls i v I (put 𝓛 i (cell_at 𝓛 τs bs i (Opt.some v)) (rest bs ls))
    writes-over bs ls i v I none e wt = init ! (suc i) e wt
    writes-over bs ls i v I (Opt.some u) e wt = store ! (suc i) e wt

    written : (bs : Blocks τs) (ls : Locals) (i : ℕ) (v : Val) (I : Item 𝓤) → IsIn τs i → HasType (get_or τs i no_ty) v
        → WritesLocal bs ls i v I (rest bs (put_at τs ls i v))
    written bs ls i v I h wt =
        subst (WritesLocal bs ls i v I) (put_is 𝓛 τs bs ls (dies 𝓛 τs bs ++ fr) i v h)
        (writes-over bs ls i v I (val_at τs ls i) (nth-is 𝓛 τs bs ls (dies 𝓛 τs bs ++ fr) i h)
        (subst (λ (τ : Ty). HasType τ v) (sym (ty-is 𝓛 τs bs i)) wt))

    -- ---- values are forgotten
    infix 26 ◌⊢◌
    abbrev ◌⊢◌ : List (Item 𝓤) → List (Item 𝓤) → Type 1
    Γ ⊢ Δ = ent 𝓤 (Stars 𝓛 Γ) (Stars 𝓛 Δ)

    both : (i j : Item 𝓤) (Γ Δ : List (Item 𝓤)) → ent 𝓤 (Is i) (Is j) → Γ ⊢ Δ → (i ∷ Γ) ⊢ (j ∷ Δ)
    both i j Γ Δ h k =
        via 𝓤 (sep 𝓤 (Is i) (Stars 𝓛 Γ)) (pop 𝓛 i Γ) (via 𝓤 (sep 𝓤 (Is j) (Stars 𝓛 Δ)) (mono∗ 𝓤 h k) (push 𝓛 j Δ))

    forgets : (σs : List Ty) (cs : Blocks σs) (ls ks : Locals) (X : List (Item 𝓤)) → Weaker ls ks → (cells 𝓛 σs cs ls ++ X) ⊢ (cells 𝓛 σs cs ks ++ X)
    forgets [] cs ls ks X w = id⊢ 𝓤 (Stars 𝓛 X)
    forgets (σ ∷ σs) cs [] [] X w = id⊢ 𝓤 _
    forgets (σ ∷ σs) cs (x ∷ ls) [] X w =
        both (cell_of 𝓛 σ cs.0 x) (room_of 𝓛 σ cs.0) (cells 𝓛 σs cs.1 ls ++ X) (cells 𝓛 σs cs.1 [] ++ X)
        (room_of_lem 𝓛 σ cs.0 x) (forgets σs cs.1 ls [] X tt)
    forgets (σ ∷ σs) cs [] (none ∷ ks) X w =
        both (room_of 𝓛 σ cs.0) (room_of 𝓛 σ cs.0) (cells 𝓛 σs cs.1 [] ++ X) (cells 𝓛 σs cs.1 ks ++ X)
        (id⊢ 𝓤 (H.room σ cs.0 zero)) (forgets σs cs.1 [] ks X w)
    forgets (σ ∷ σs) cs [] (Opt.some v ∷ ks) X w = absurd w
    forgets (σ ∷ σs) cs (x ∷ ls) (none ∷ ks) X w =
        both (cell_of 𝓛 σ cs.0 x) (room_of 𝓛 σ cs.0) (cells 𝓛 σs cs.1 ls ++ X) (cells 𝓛 σs cs.1 ks ++ X)
        (room_of_lem 𝓛 σ cs.0 x) (forgets σs cs.1 ls ks X w)
    forgets (σ ∷ σs) cs (x ∷ ls) (Opt.some v ∷ ks) X w =
        both (cell_of 𝓛 σ cs.0 x) (cell_of 𝓛 σ cs.0 (Opt.some v)) (cells 𝓛 σs cs.1 ls ++ X) (cells 𝓛 σs cs.1 ks ++ X)
        (subst (λ (y : Option Val). ent 𝓤 (Is (cell_of 𝓛 σ cs.0 x)) (Is (cell_of 𝓛 σ cs.0 y))) w.0 (id⊢ 𝓤 _))
        (forgets σs cs.1 ls ks X w.1)

    -- ---- from these facts to the logic: statements
    module _ (bs : Blocks τs) where
      becomes : (s s' : State) → s.0 ≡ s'.0 → Weaker s.1 s'.1 → Context bs s ⊢ Context bs s'
      becomes s s' e w =
          both (item s.0) (item s'.0) (rest bs s.1) (rest bs s'.1)
          (subst (λ (t : D). ent 𝓤 (Is (item s.0)) (Is (item t))) e (id⊢ 𝓤 _)) (forgets τs bs s.1 s'.1 (dies 𝓛 τs bs ++ fr) w)

      abbrev Runs : Body → (Out → SProp 𝓤) → State → Type 1
      Runs b q s = Seq (Go {0}) 𝓛 (Context bs s) (runs 𝓣.C 𝓣.Λ (env_of bs) b (any_q q))

      -- what the facts at an end say, the logic's q needs
      abbrev Holds : Ends → (Out → SProp 𝓤) → Type 2
      Holds Q q = (o : Out) (s : State) → Q o s → ent 𝓤 (Stars 𝓛 (Context bs s)) (q o)

      then-holds : (b : Body) (Q : Ends) (q : Out → SProp 𝓤) → Holds Q q
          → ((s : State) → Ok b Q s → ent 𝓤 (Stars 𝓛 (Context bs s)) (Wp 𝓤 H 𝓣.C 𝓣.Λ (env_of bs) b q))
          → Holds (then_ok (λ s. Ok b Q s) Q) (after_seq 𝓤 H (Wp 𝓤 H 𝓣.C 𝓣.Λ (env_of bs) b q) q)
      then-holds b Q q h go next s k = go s k
      then-holds b Q q h go (exits n) s k = h (exits n) s k
      then-holds b Q q h go returns s k = h returns s k

      block-holds : (Q : Ends) (q : Out → SProp 𝓤) → Holds Q q → Holds (block_ok Q) (after_block 𝓤 H q)
      block-holds Q q h next s k = h next s k
      block-holds Q q h (exits zero) s k = h next s k
      block-holds Q q h (exits (suc n)) s k = h (exits n) s k
      block-holds Q q h returns s k = h returns s k

      module _ {X : Type 0} (≺ : X → X → Type 0) (at : X → State) (x : X) where
        abbrev Head : X → SProp 𝓤
        Head y = Stars 𝓛 (Context bs (at y))

        below : (s : State) → Again ≺ at x s → ent 𝓤 (Stars 𝓛 (Context bs s)) (Below 𝓛 ≺ (λ y. Context bs (at y)) x)
        below s k =
            via 𝓤 (Head k.0) (becomes s (at k.0) k.2 k.3)
            (via 𝓤 (guard 𝓤 (≺ k.0 x) (Head k.0)) (guard_i 𝓤 (≺ k.0 x) (Head k.0) k.1)
            (ex_i 𝓤 (λ (y : X). guard 𝓤 (≺ y x) (Head y)) k.0))

        turn_holds : (Q : Ends) (q : Out → SProp 𝓤) → Holds Q q
            → Holds (turn_ok (Again ≺ at x) Q) (after_turn 𝓤 H (Below 𝓛 ≺ (λ y. Context bs (at y)) x) q)
        unfolding after_turn
        turn_holds Q q h next s k = below s k
        turn_holds Q q h (exits zero) s k = below s k
        turn_holds Q q h (exits (suc n)) s k = h (exits n) s k
        turn_holds Q q h returns s k = h returns s k

      join-holds : {Y : Type 0} (J : Y → State) (Q : Ends) (q : Out → SProp 𝓤) → Holds Q q → ((y : Y) → Q next (J y)) → Holds (join_ok J Q) q
      join-holds J Q q h go next s k =
          via 𝓤 (Stars 𝓛 (Context bs (J k.0))) (becomes s (J k.0) k.1 k.2) (h next (J k.0) (go k.0))
      join-holds J Q q h go (exits n) s k = h (exits n) s k
      join-holds J Q q h go returns s k = h returns s k

      abbrev Tested : Body → Body → Ends → State → Bool → Type 2
      Tested a b Q s y =
          Either (Then (T y → Ok a Q s) (λ _. T (not y) → Ok b Q s))
          (Then (Type 0) (λ Y. Then (Y → State) (λ J. Then (T y → Ok a (join_ok J Q) s) (λ _.
          Then (T (not y) → Ok b (join_ok J Q) s) (λ _. (z : Y) → Q next (J z))))))

      -- a branch, from its arms
      module _ (c : Operand) (a b : Body) (Q : Ends) (q : Out → SProp 𝓤) (s : State) (h : Holds Q q)
          (f : (P : Ends) → Holds P q → Ok a P s → Runs a q s) (g : (P : Ends) → Holds P q → Ok b P s → Runs b q s) where
        both-arms : (y : Bool) → Opd (Go {0}) 𝓛 (Context bs s) (env_of bs) c (vbool y) → Tested a b Q s y → Runs (cond c a b) q s
        both-arms y o (apart (if-so ⨟ if-not)) = branches ! o (λ z. f Q h (if-so z)) (λ z. g Q h (if-not z))
        both-arms y o (joined (Y ⨟ meet ⨟ if-so ⨟ if-not ⨟ after)) =
            let to-rest = join-holds meet Q q h after in
            branches ! o (λ z. f (join_ok meet Q) to-rest (if-so z)) (λ z. g (join_ok meet Q) to-rest (if-not z))

        on_test : (v : Val) → Opd (Go {0}) 𝓛 (Context bs s) (env_of bs) c v → if_bool v (Tested a b Q s) → Runs (cond c a b) q s
        on_test (vbool y) o k = both-arms y o k
        on_test vunit o k = elim k [ ]
        on_test (vptr l d) o k = elim k [ ]
        on_test (vint w n) o k = elim k [ ]
        on_test (vfloat w x) o k = elim k [ ]
        on_test (vstruct vs) o k = elim k [ ]
        on_test (vcode t) o k = elim k [ ]

      calls-it : (f : Name) (xs : List Operand) (i : ℕ) (Q : Ends) (q : Out → SProp 𝓤) → Holds Q q → (s : State)
          → Ok (call f xs (place i [])) Q s → Runs (call f xs (place i [])) q s
      calls-it f xs i Q q h s (F ⨟ does ⨟ a ⨟ ask ⨟ k) =
          let vs : List Val = F.vals a in
          let r : Val = F.res s.0 a in
          let t : D = F.after s.0 a in
          let Go-on : Ty → Type 2 = λ τ. Then (τ ≡ F.ty) (λ _. F.know s.0 a → Q next (t, put_at τs s.1 i r)) in
          let os = opds-of s.1 xs (λ us. Then (us ≡ vs) (λ _. if_local τs i Go-on)) k in
          let l = if-local τs i Go-on (two os.2) in
          let R : Val → SProp 𝓤 = λ u. H.⇛ (guard 𝓤 ((u ≡ r) × F.know s.0 a) (Is (item t))) in
          let P : SProp 𝓤 = 𝓣.C f vs R in
          use1 𝓛 (later (raw P)) (does.met s.0 a ask) $ await ! tt $
          calls_from_last ! (fm_of 𝓤 H 𝓛.laws 𝓣) (raw P) vs R (id⊢ 𝓤 P)
          (subst (λ (us : List Val). Opds (Go {0}) 𝓛 (raw P ∷ rest bs s.1) (env_of bs) xs us) (one os.2) (os.1 bs (raw P))) (λ u.
          use1 𝓛 (later (given ((u ≡ r) × F.know s.0 a) (item t))) (id⊢ 𝓤 _) $ await ! tt $ learn ! (λ φ.
          subst (λ (z : Val). Seq (Go {0}) 𝓛 (item t ∷ rest bs s.1) (settles (env_of bs) (place i []) z (any_q q))) (sym φ.0)
          (land_last ! (from ! (stop !))
          (written bs s.1 i r (item t) l.0 (subst (λ (τ : Ty). HasType τ r) (sym (one l.1)) (does.typed s.0 a φ.1))) $
          by ! (h next (t, put_at τs s.1 i r) (two l.1 φ.1)))))

      pub ok-runs : (b : Body) (Q : Ends) (q : Out → SProp 𝓤) → Holds Q q → (s : State) → Ok b Q s → Runs b q s
      ok-runs skip Q q h s k = skips ! $ by ! (h next s k)
      ok-runs (seq a b) Q q h s k =
          first ! $ ok-runs a (then_ok (λ s'. Ok b Q s') Q) (after_seq 𝓤 H (Wp 𝓤 H 𝓣.C 𝓣.Λ (env_of bs) b q) q)
          (then-holds b Q q h (λ s' k'. (ok-runs b Q q h s' k').prf)) s k
      ok-runs (assign (place i []) rv) Q q h s k =
          let r = rv-of s rv (λ v. if_local τs i (λ τ. Then (HasType τ v) (λ _. Q next (s.0, put_at τs s.1 i v)))) k in
          let a = if-local τs i (λ τ. Then (HasType τ r.0) (λ _. Q next (s.0, put_at τs s.1 i r.0))) r.2 in
          assigns_last ! (r.1 bs) (from ! (stop !)) (written bs s.1 i r.0 (item s.0) a.0 (one a.1)) $
          by ! (h next (s.0, put_at τs s.1 i r.0) (two a.1))
      ok-runs (assign (place i (x ∷ st)) rv) Q q h s k =
          let r = rv-of s rv (λ v. Then D (λ t. Then (Stores s (place i (x ∷ st)) v t) (λ _. Q next (t, s.1)))) k in
          assigns_last ! (r.1 bs) (one (two r.2) bs).1 (one (two r.2) bs).2 $ by ! (h next (one r.2, s.1) (two (two r.2)))
      ok-runs (block b) Q q h s k = blocks ! $ ok-runs b (block_ok Q) (after_block 𝓤 H q) (block-holds Q q h) s k
      ok-runs (loop b) Q q h s (X ⨟ ≺ ⨟ wf ⨟ at ⨟ x ⨟ e ⨟ w ⨟ turn) =
          record {
            prf =
                via 𝓤 (Stars 𝓛 (Context bs (at x))) (becomes s (at x) e w)
                (loops ! 𝓣 ≺ wf (λ y. Context bs (at y)) {q = any_q q} (λ y. ok-runs b (turn_ok (Again ≺ at y) Q)
                (after_turn 𝓤 H (Below 𝓛 ≺ (λ z. Context bs (at z)) y) q) (turn_holds ≺ at y Q q h) (at y) (turn y)) x).prf;
          }
      ok-runs (cond c a b) Q q h s k =
          let o = opd-of s.1 c (λ v. if_bool v (Tested a b Q s)) k in
          on_test c a b Q q s h (λ P h' k'. ok-runs a P q h' s k') (λ P h' k'. ok-runs b P q h' s k') o.0 (o.1 bs (item s.0)) o.2
      ok-runs (switch c arms) Q q h s k = elim k [ ]
      ok-runs (exit n) Q q h s k = jumps ! $ by ! (h (exits n) s k)
      ok-runs return Q q h s k = record { prf = via 𝓤 (q returns) (h returns s k) (𝓛.laws.⇛_intro _) }
      ok-runs (call f xs (place i [])) Q q h s k = calls-it f xs i Q q h s k
      ok-runs (call f xs (place i (x ∷ st))) Q q h s k = elim k [ ]
      ok-runs unreachable Q q h s k = elim k [ ]
      ok-runs (call_v c ς xs p) Q q h s k = elim k [ ]
      ok-runs (lend_static p τ c) Q q h s k = elim k [ ]
