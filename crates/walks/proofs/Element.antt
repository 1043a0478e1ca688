-- One element of an array that lies in memory, for a walk (`types.Part`): it is read and overwritten where it lies, and the rest of the memory
-- stays as it is.
-- Assumes nothing.
use mathlib.Core.Path.{◌≡◌, refl, sym, ap, ◌∙◌, subst}
use mathlib.Core.List.{List, [], ◌∷◌, map}
use Prim.Native.Nat.{ℕ, zero, suc, ◌+◌, ◌*◌, ◌<◌}
use native.Mathlib.Nat.{not-suc-le-zero, le_of_suc-le-suc}
use lib.ListN.{length, get_or, set, length-set, length-map}
use lib.Seq.{set-get_or}
use seplogic.Ra.Ura.{Ura}
use mir.Syntax.{Ty, ty_array}
use mir.Raw.{raw as raw_ty}
use mir.Val.{Val, vunit, vstruct, of_list}
use base.Logic.{SProp, ent, sep, wand, all, all_e, apply∗}
use base.Fml.{Share, fat}
use prog.Memory.{size}
use prog.Model.{elems}
use types.Logic.{Logic}
use types.Kit.{Item, ‵, raw, ◌⊛◌, mean, ◌$◌, ◌∵◌, !, qed, move, use1, use2, split, assume, frame, each, done}
use types.Part.{Part as Within}
use denote.Index.{place, place_is}

-- with any value u in the cell again, the entry is whole, as `back u`
abbrev Whence : {M : Type 1} {𝓤 : Ura M} (𝓛 : Logic 𝓤) → Share → Ty → ℕ → ℕ → (Val → Item 𝓤) → SProp 𝓤
Whence {𝓤 = 𝓤} 𝓛 q τ b o back = all 𝓤 (λ (u : Val). wand 𝓤 (𝓛.H.at q τ b o u) (mean 𝓛 (back u)))

-- ---- in cells side by side
module _ {M : Type 1} {𝓤 : Ura M} (𝓛 : Logic 𝓤) (q : Share) (τ : Ty) (b : ℕ) where
  open 𝓛 use {H}

  abbrev Back : List Val → ℕ → ℕ → Val → SProp 𝓤
  Back us j o u = wand 𝓤 (H.at q τ b (place (size τ) o j) u) (elems 𝓤 H q τ b o (set us j u))

  one_of : (us : List Val) (j o : ℕ) → j < length us
      → ent 𝓤 (elems 𝓤 H q τ b o us) (sep 𝓤 (H.at q τ b (place (size τ) o j) (get_or us j vunit)) (all 𝓤 (Back us j o)))
  one_of [] j o h = absurd (not-suc-le-zero h)
  one_of (v ∷ us) zero o h =
      qed 𝓛 (‵ (fat q τ b o v) ∷ raw (elems 𝓤 H q τ b (o + size τ) us) ∷ []) ∵ frame ! $
      each ! (Back (v ∷ us) zero o) (λ u. assume {P = elems 𝓤 H q τ b o (u ∷ us)} ! (‵ (fat q τ b o u)) $ done !)
  one_of (v ∷ us) (suc j) o h =
      let o' : ℕ = o + size τ in
      let at : ℕ = place (size τ) o' j in
      qed 𝓛 (‵ (fat q τ b o v) ∷ raw (elems 𝓤 H q τ b o' us) ∷ []) ∵ move ! (1 ∷ []) $
      use1 𝓛 (‵ (fat q τ b at (get_or us j vunit)) ⊛ raw (all 𝓤 (Back us j o'))) (one_of us j o' (le_of_suc-le-suc h)) $ split ! $ frame ! $
      each ! (Back (v ∷ us) (suc j) o) (λ u.
      assume {P = elems 𝓤 H q τ b o (v ∷ set us j u)} ! (‵ (fat q τ b at u)) $ move ! (1 ∷ []) $
      use1 𝓛 (raw (Back us j o' u)) (all_e 𝓤 (Back us j o') u) $ move ! (1 ∷ 0 ∷ []) $
      use2 𝓛 (raw (elems 𝓤 H q τ b o' (set us j u))) (apply∗ 𝓤 (H.at q τ b at u) (elems 𝓤 H q τ b o' (set us j u))) $ move ! (1 ∷ 0 ∷ []) $ done !)

module _ {M : Type 1} {𝓤 : Ura M} {𝓛 : Logic 𝓤} {K : Type 0} where
  -- the cell behind a reference stands at the raw form of its type
  open 𝓛 use {H}

  pub cooked : K → (τ : Ty) {i : Item 𝓤} {q : Share} {b o : ℕ} {v : Val} {back : Val → Item 𝓤}
      → Within K 𝓛 i q (raw_ty τ) b o v back → Within K 𝓛 i q τ b o v back
  cooked t τ {i} {q} {b} {o} {v} {back} p =
      record {
        out =
            qed 𝓛 (i ∷ []) ∵ use1 𝓛 (‵ (fat q (raw_ty τ) b o v) ⊛ raw (Whence 𝓛 q (raw_ty τ) b o back)) p.out $ split ! $
            use1 𝓛 (‵ (fat q τ b o v)) (𝓛.laws.raw_at q τ b o v) $ frame ! $
            each ! (λ (u : Val). wand 𝓤 (H.at q τ b o u) (mean 𝓛 (back u))) (λ u. assume {P = mean 𝓛 (back u)} ! (‵ (fat q τ b o u)) $
            use1 𝓛 (‵ (fat q (raw_ty τ) b o u)) (𝓛.laws.at_raw q τ b o u) $ move ! (1 ∷ []) $
            use1 𝓛 (raw (wand 𝓤 (H.at q (raw_ty τ) b o u) (mean 𝓛 (back u))))
            (all_e 𝓤 (λ (w : Val). wand 𝓤 (H.at q (raw_ty τ) b o w) (mean 𝓛 (back w))) u) $ move ! (1 ∷ 0 ∷ []) $
            use2 𝓛 (back u) (apply∗ 𝓤 (H.at q (raw_ty τ) b o u) (mean 𝓛 (back u))) $ done !);
        same = p.same;
      }

  -- element j of an array's cell, by the elements' machine values
  item : K → {i : Item 𝓤} {q : Share} {τ : Ty} {n b o : ℕ} {back : Val → Item 𝓤} (us : List Val) (j : ℕ) → length us ≡ n → j < n
      → Within K 𝓛 i q (ty_array τ n) b o (vstruct (of_list us)) back
      → Within K 𝓛 i q τ b (j * size τ + o) (get_or us j vunit) (λ u. back (vstruct (of_list (set us j u))))
  item t {i} {q} {τ} {n} {b} {o} {back} us j l h p =
      record {
        out =
            subst Goal-at (place_is (size τ) o j) (qed 𝓛 (i ∷ []) ∵
            use1 𝓛 (‵ (fat q (ty_array τ n) b o (vstruct (of_list us))) ⊛ raw (Whence 𝓛 q (ty_array τ n) b o back)) p.out $ split ! $
            use1 𝓛 (raw (elems 𝓤 H q τ b o us)) (𝓛.laws.at_elems q τ n b o us) $
            use1 𝓛 (‵ (fat q τ b at (get_or us j vunit)) ⊛ raw (all 𝓤 (Back 𝓛 q τ b us j o)))
            (one_of 𝓛 q τ b us j o (subst (λ (m : ℕ). j < m) (sym l) h)) $ split ! $ frame ! $
            each ! (λ (u : Val). wand 𝓤 (H.at q τ b at u) (mean 𝓛 (new u))) (λ u. assume {P = mean 𝓛 (new u)} ! (‵ (fat q τ b at u)) $
            move ! (1 ∷ []) $ use1 𝓛 (raw (Back 𝓛 q τ b us j o u)) (all_e 𝓤 (Back 𝓛 q τ b us j o) u) $ move ! (1 ∷ 0 ∷ []) $
            use2 𝓛 (raw (elems 𝓤 H q τ b o (set us j u))) (apply∗ 𝓤 (H.at q τ b at u) (elems 𝓤 H q τ b o (set us j u))) $
            use1 𝓛 (‵ (fat q (ty_array τ n) b o (vstruct (of_list (set us j u)))))
            (subst (λ (m : ℕ). ent 𝓤 (elems 𝓤 H q τ b o (set us j u)) (H.at q (ty_array τ m) b o (vstruct (of_list (set us j u)))))
            (length-set us j u ∙ l) (𝓛.laws.elems_at q τ b o (set us j u))) $ move ! (1 ∷ []) $
            use1 𝓛 (raw (Whole (vstruct (of_list (set us j u))))) (all_e 𝓤 Whole (vstruct (of_list (set us j u)))) $ move ! (1 ∷ 0 ∷ []) $
            use2 𝓛 (new u) (apply∗ 𝓤 (H.at q (ty_array τ n) b o (vstruct (of_list (set us j u)))) (mean 𝓛 (new u))) $ done !));
        same = ap (λ (ws : List Val). back (vstruct (of_list ws))) (set-get_or us j vunit) ∙ p.same;
      }
    where
      at : ℕ
      at = place (size τ) o j

      new : Val → Item 𝓤
      new u = back (vstruct (of_list (set us j u)))

      Goal-at : ℕ → Type 1
      Goal-at a = ent 𝓤 (mean 𝓛 i) (sep 𝓤 (H.at q τ b a (get_or us j vunit)) (Whence 𝓛 q τ b a new))

      Whole : Val → SProp 𝓤
      Whole w = wand 𝓤 (H.at q (ty_array τ n) b o w) (mean 𝓛 (back w))

get_or-mapped : {X Y : Type 0} (f : X → Y) (xs : List X) (j : ℕ) (d : X) (e : Y) → j < length xs → get_or (map f xs) j e ≡ f (get_or xs j d)
get_or-mapped f [] j d e h = absurd (not-suc-le-zero h)
get_or-mapped f (x ∷ xs) zero d e h = refl
get_or-mapped f (x ∷ xs) (suc j) d e h = get_or-mapped f xs j d e (le_of_suc-le-suc h)

pub set-mapped : {X Y : Type 0} (f : X → Y) (xs : List X) (j : ℕ) (x : X) → set (map f xs) j (f x) ≡ map f (set xs j x)
set-mapped f [] j x = refl
set-mapped f (y ∷ xs) zero x = refl
set-mapped f (y ∷ xs) (suc j) x = ap (λ (ys : List _). f y ∷ ys) (set-mapped f xs j x)

-- element j of an array's cell, by the elements x, which lie there as `low x`
pub element : {M : Type 1} {𝓤 : Ura M} {𝓛 : Logic 𝓤} {K : Type 0} {X : Type 0} → K
    → (low : X → Val) (xs : List X) (j : ℕ) (d : X) {i : Item 𝓤} {q : Share} {τ : Ty} {n b o : ℕ} {back : Val → Item 𝓤} → length xs ≡ n → j < n
    → {a : ℕ} → j * size τ + o ≡ a → Within K 𝓛 i q (ty_array τ n) b o (vstruct (of_list (map low xs))) back
    → Within K 𝓛 i q τ b a (low (get_or xs j d)) (λ u. back (vstruct (of_list (set (map low xs) j u))))
element {𝓛 = 𝓛} {K = K} t low xs j d {i} {q} {τ} {n} {b} {o} {back} long h {a} there p =
    subst (λ (v : Val). Within K 𝓛 i q τ b a v (λ u. back (vstruct (of_list (set (map low xs) j u)))))
    (get_or-mapped low xs j d vunit (subst (λ (m : ℕ). j < m) (sym long) h))
    (subst (λ (c : ℕ). Within K 𝓛 i q τ b c (get_or (map low xs) j vunit) (λ u. back (vstruct (of_list (set (map low xs) j u))))) there
    (item t (map low xs) j (length-map xs low ∙ long) h p))
