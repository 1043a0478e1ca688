-- A function's locals while its body runs: for each one its value, or none yet. Here is how such a list is looked up and changed, and the
-- memory that it stands for.
-- Assumes nothing.
use mathlib.Core.Path.{◌≡◌, refl, ap, subst, ◌∙◌}
use mathlib.Core.Option.{Option, none}
use mathlib.Core.Option as Opt
use mathlib.Core.List.{List, [], ◌∷◌, ◌++◌}
use Prim.Native.Nat.{ℕ, zero, suc}
use seplogic.Ra.Ura.{Ura}
use base.Fraction.{full_share}
use lib.Dec.{T}
use lib.ListN.{get_or}
use mir.Syntax.{Ty, ty_enum, ttnil}
use mir.Val.{Val, WT, has_ty}
use base.Logic.{SProp, ent, id⊢}
use base.Fml.{fat, froom, fdies}
use prog.Wp.{Env, no_local}
use types.Logic.{Logic}
use types.Kit.{Item, ‵, mean, ⋆, nth, put}

-- ---- values
-- local i's value stands at i; what stands past the end has none
abbrev pub Locals : Type 0
Locals = List (Option Val)

abbrev pub val_at : List Ty → Locals → ℕ → Option Val
val_at [] ls i = none
val_at (τ ∷ τs) [] i = none
val_at (τ ∷ τs) (x ∷ ls) zero = x
val_at (τ ∷ τs) (x ∷ ls) (suc i) = val_at τs ls i

abbrev pub put_at : List Ty → Locals → ℕ → Val → Locals
put_at [] ls i v = ls
put_at (τ ∷ τs) [] zero v = Opt.some v ∷ []
put_at (τ ∷ τs) [] (suc i) v = none ∷ put_at τs [] i v
put_at (τ ∷ τs) (x ∷ ls) zero v = Opt.some v ∷ ls
put_at (τ ∷ τs) (x ∷ ls) (suc i) v = x ∷ put_at τs ls i v

-- the second list is the first with some values forgotten
abbrev pub Weaker : Locals → Locals → Type 0
Weaker ls [] = Unit {0}
Weaker [] (none ∷ ks) = Weaker [] ks
Weaker [] (Opt.some v ∷ ks) = ⊥
Weaker (x ∷ ls) (none ∷ ks) = Weaker ls ks
Weaker (x ∷ ls) (Opt.some v ∷ ks) = (x ≡ Opt.some v) × Weaker ls ks

-- parameters as locals
abbrev pub somes : List Val → Locals
somes [] = []
somes (v ∷ vs) = Opt.some v ∷ somes vs

-- ---- types
abbrev pub HasType : Ty → Val → Type 0
HasType τ v = T (has_ty τ v) × WT v

-- the values passed are of the locals' types
abbrev pub HaveTypes : List Ty → List Val → Type 0
HaveTypes τs [] = Unit {0}
HaveTypes [] (v ∷ vs) = ⊥
HaveTypes (τ ∷ τs) (v ∷ vs) = HasType τ v × HaveTypes τs vs

abbrev pub no_ty : Ty
no_ty = ty_enum [] ttnil

-- there is a local i
abbrev pub IsIn : List Ty → ℕ → Type 0
IsIn [] i = ⊥
IsIn (τ ∷ τs) zero = Unit {0}
IsIn (τ ∷ τs) (suc i) = IsIn τs i

abbrev IsNone : Option Val → Type 0
IsNone none = Unit {0}
IsNone (Opt.some v) = ⊥

pub none-some : {v : Val} → none ≡ Opt.some v → ⊥
none-some e = subst IsNone e tt

pub at_in : (τs : List Ty) (ls : Locals) (i : ℕ) (v : Val) → val_at τs ls i ≡ Opt.some v → IsIn τs i
at_in [] ls i v e = absurd (none-some e)
at_in (τ ∷ τs) [] i v e = absurd (none-some e)
at_in (τ ∷ τs) (x ∷ ls) zero v e = tt
at_in (τ ∷ τs) (x ∷ ls) (suc i) v e = at_in τs ls i v e

-- ---- memory
-- each local's block
abbrev pub Blocks : List Ty → Type 0
Blocks [] = Unit {0}
Blocks (τ ∷ τs) = ℕ × Blocks τs

module _ {M : Type 1} {𝓤 : Ura M} (𝓛 : Logic 𝓤) where
  open 𝓛 use {H}

  abbrev pub Stars : List (Item 𝓤) → SProp 𝓤
  Stars Γ = ⋆ 𝓛 Γ

  abbrev pub env : (τs : List Ty) → Blocks τs → Env 𝓤 H
  env [] bs = []
  env (τ ∷ τs) bs = (τ, bs.0) ∷ env τs bs.1

  abbrev pub room_of : Ty → ℕ → Item 𝓤
  room_of τ b = ‵ (froom τ b zero)

  abbrev pub cell_of : Ty → ℕ → Option Val → Item 𝓤
  cell_of τ b none = room_of τ b
  cell_of τ b (Opt.some v) = ‵ (fat full_share τ b zero v)

  -- all locals' cells, and what frees them
  abbrev pub cells : (τs : List Ty) → Blocks τs → Locals → List (Item 𝓤)
  cells [] bs ls = []
  cells (τ ∷ τs) bs [] = room_of τ bs.0 ∷ cells τs bs.1 []
  cells (τ ∷ τs) bs (x ∷ ls) = cell_of τ bs.0 x ∷ cells τs bs.1 ls

  abbrev pub dies : (τs : List Ty) → Blocks τs → List (Item 𝓤)
  dies [] bs = []
  dies (τ ∷ τs) bs = ‵ (fdies τ bs.0) ∷ dies τs bs.1

  abbrev pub ty_of : (τs : List Ty) → Blocks τs → ℕ → Ty
  ty_of τs bs i = (get_or (env τs bs) i (no_local 𝓤 H)).0

  abbrev pub block_of : (τs : List Ty) → Blocks τs → ℕ → ℕ
  block_of τs bs i = (get_or (env τs bs) i (no_local 𝓤 H)).1

  abbrev pub cell_at : (τs : List Ty) → Blocks τs → ℕ → Option Val → Item 𝓤
  cell_at τs bs i x = cell_of (ty_of τs bs i) (block_of τs bs i) x

  pub ty-is : (τs : List Ty) (bs : Blocks τs) (i : ℕ) → ty_of τs bs i ≡ get_or τs i no_ty
  ty-is [] bs i = refl
  ty-is (τ ∷ τs) bs zero = refl
  ty-is (τ ∷ τs) bs (suc i) = ty-is τs bs.1 i

  -- local i's cell stands at i, and stays there when it is written
  pub nth-is : (τs : List Ty) (bs : Blocks τs) (ls : Locals) (X : List (Item 𝓤)) (i : ℕ) → IsIn τs i
      → nth 𝓛 i (cells τs bs ls ++ X) ≡ cell_at τs bs i (val_at τs ls i)
  nth-is [] bs ls X i h = absurd h
  nth-is (τ ∷ τs) bs [] X zero h = refl
  nth-is (τ ∷ τs) bs (x ∷ ls) X zero h = refl
  nth-is (τ ∷ τs) bs [] X (suc i) h = nth-none τs bs.1 i h
    where
      nth-none : (σs : List Ty) (cs : Blocks σs) (j : ℕ) → IsIn σs j → nth 𝓛 j (cells σs cs [] ++ X) ≡ cell_at σs cs j none
      nth-none [] cs j k = absurd k
      nth-none (σ ∷ σs) cs zero k = refl
      nth-none (σ ∷ σs) cs (suc j) k = nth-none σs cs.1 j k
  nth-is (τ ∷ τs) bs (x ∷ ls) X (suc i) h = nth-is τs bs.1 ls X i h

  pub put_is : (τs : List Ty) (bs : Blocks τs) (ls : Locals) (X : List (Item 𝓤)) (i : ℕ) (v : Val) → IsIn τs i
      → put 𝓛 i (cell_at τs bs i (Opt.some v)) (cells τs bs ls ++ X) ≡ cells τs bs (put_at τs ls i v) ++ X
  put_is [] bs ls X i v h = absurd h
  put_is (τ ∷ τs) bs [] X zero v h = refl
  put_is (τ ∷ τs) bs (x ∷ ls) X zero v h = refl
  put_is (τ ∷ τs) bs [] X (suc i) v h = ap (λ (Γ : List (Item 𝓤)). room_of τ bs.0 ∷ Γ) (put_is τs bs.1 [] X i v h)
  put_is (τ ∷ τs) bs (x ∷ ls) X (suc i) v h = ap (λ (Γ : List (Item 𝓤)). cell_of τ bs.0 x ∷ Γ) (put_is τs bs.1 ls X i v h)

  pub cell-at : (τs : List Ty) (bs : Blocks τs) (ls : Locals) (X : List (Item 𝓤)) (i : ℕ) (v : Val) → val_at τs ls i ≡ Opt.some v
      → nth 𝓛 i (cells τs bs ls ++ X) ≡ cell_at τs bs i (Opt.some v)
  cell-at τs bs ls X i v e = nth-is τs bs ls X i (at_in τs ls i v e) ∙ ap (cell_at τs bs i) e

  -- a cell, whatever it holds, is room
  pub room_of_lem : (τ : Ty) (b : ℕ) (x : Option Val) → ent 𝓤 (mean 𝓛 (cell_of τ b x)) (H.room τ b zero)
  room_of_lem τ b none = id⊢ 𝓤 (H.room τ b zero)
  room_of_lem τ b (Opt.some v) = 𝓛.laws.at_room τ b zero v
