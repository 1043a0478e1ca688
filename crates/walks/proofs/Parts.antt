-- The parts of a plain value: a field of a struct, a field of a field, to any depth, and the elements of an array. Of each: how it is got out
-- of the value and put in, that the value stays one of its type, and where it lies in memory. `field_of` and `of` are all that is needed to
-- name one: field 1 of the table's, then field 0 of that, is `of (field_of table-form 1 refl refl) (field_of tray-form 0 refl refl)`.
-- Assumes nothing.
use mathlib.Core.Path.{◌≡◌, refl, sym, ap, subst, ◌∙◌}
use mathlib.Core.List.{List, [], ◌∷◌, map}
use mathlib.Core.Option.{some}
use Prim.Native.Nat.{ℕ, zero, suc, ◌+◌, ◌*◌, ◌<◌, ◌^◌}
use native.Mathlib.Nat.{not-suc-le-zero, le_of_suc-le-suc, mul-le-mul_right}
use native.Mathlib.Omega.{arith}
use seplogic.Ra.Ura.{Ura}
use lib.Dec.{T, ltb, ltb→lt, lt→ltb}
use lib.ListN.{length, get_or, set, replicate, length-map, length-set, length-replicate}
use mir.Fields.{get_v, set_v}
use mir.Syntax.{Step as Way, Ty, ty_array, w64, field as to-field}
use mir.Val.{Val, Vals, Fits, vunit, vcons, vstruct, of_list}
use base.Fml.{Share}
use prog.Memory.{size, field_at}
use prog.Wp.{Env, Spot}
use types.Logic.{Logic}
use types.Kit.{Item, Go, ! }
use types.Part.{Part as Within, sub}
use types.Run.{Walks, fld}
use denote.Array as A
use denote.Laws.{Is}
use denote.Memory.{lone}
use denote.RattleType.{Valss, mirs, flat}
use denote.Shadow.{shadow}
use denote.Struct.Field.{Field, rows, unit-field}
use denote.Struct.Laws as LL
use denote.Struct.Struct.{AreAll, Plains, to_tys}
use denote.Struct.Values.{Values, intos}
use Rattle.walks.proofs.Plain.{Plain, Of, ty, val, own, row_of, IsOf, at-val, Form, struct, array}

-- a part of R's values that is an X. A way of fields leads to it (`step`, then `steps`), `off o` is its place in an R at place o, and `lay t v`
-- is t's machine value with v in its place
pub record Part (R X : Plain) : Type 2 where
  pub get : Of R → Of X
  pub put : Of R → Of X → Of R
  pub get-is : (t : Of R) → IsOf R t → IsOf X (get t)
  pub put_is : (t : Of R) → IsOf R t → (x : Of X) → IsOf X x → IsOf R (put t x)
  pub step : Way
  pub steps : List Way → List Way
  pub off : ℕ → ℕ
  pub goes : {M : Type 1} {𝓤 : Ura M} {𝓛 : Logic 𝓤} {Γ : List (Item 𝓤)} {N : Env 𝓤 𝓛.H} (b o : ℕ) {st : List Way}
      {sp : Spot 𝓤 𝓛.H} → Walks (Go {0}) 𝓛 Γ N (ty X, b, off o) st sp → Walks (Go {0}) 𝓛 Γ N (ty R, b, o) (step ∷ steps st) sp
  pub lay : Of R → Val → Val
  pub lies : {M : Type 1} {𝓤 : Ura M} {𝓛 : Logic 𝓤} (t : Of R) {i : Item 𝓤} {q : Share} {b o : ℕ}
      {back : Val → Item 𝓤} → Within (Go {0}) 𝓛 i q (ty R) b o (val R t) back
      → Within (Go {0}) 𝓛 i q (ty X) b (off o) (val X (get t)) (λ u. back (lay t u))
  pub lays : (t : Of R) (x : Of X) → lay t (val X x) ≡ val R (put t x)

-- ---- a part of a part
abbrev pub of : {R X Y : Plain} → Part R X → Part X Y → Part R Y
of {R} {X} {Y} p q = record {
  get = λ t. q.get (p.get t);
  put = λ t y. p.put t (q.put (p.get t) y);
  get-is = λ t is. q.get-is (p.get t) (p.get-is t is);
  put_is = λ t is y is_y. p.put_is t is (q.put (p.get t) y) (q.put_is (p.get t) (p.get-is t is) y is_y);
  step = p.step;
  steps = λ st. p.steps (q.step ∷ q.steps st);
  off = λ o. q.off (p.off o);
  goes = λ b o w. p.goes b o (q.goes b (p.off o) w);
  lay = λ t v. p.lay t (q.lay (p.get t) v);
  lies = λ t w. q.lies (p.get t) (p.lies t w);
  lays = λ t y. ap (p.lay t) (q.lays (p.get t) y) ∙ p.lays t (q.put (p.get t) y);
}

-- the same part, as one of a plain type that is written otherwise and has the same machine type and values. The way there and back is mostly
-- `λ x. x`, and each of the facts a `λ x h. h` or a `λ x. refl`
abbrev pub part_as : {R Y X : Plain} (p : Part R Y) (to : Of X → Of Y) (fro : Of Y → Of X) → ((x : Of X) → IsOf X x → IsOf Y (to x))
    → ((y : Of Y) → IsOf Y y → IsOf X (fro y)) → ty X ≡ ty Y → ((x : Of X) → val X x ≡ val Y (to x))
    → ((y : Of Y) → val Y y ≡ val X (fro y)) → Part R X
part_as {R} {Y} {X} p to fro is-to is-fro same-ty low-to low-fro = record {
  get = λ t. fro (p.get t);
  put = λ t x. p.put t (to x);
  get-is = λ t is. is-fro (p.get t) (p.get-is t is);
  put_is = λ t is x is_x. p.put_is t is (to x) (is-to x is_x);
  step = p.step;
  steps = p.steps;
  off = p.off;
  goes = λ {𝓛 = W} {Γ} {N} b o {st} {sp} w.
      p.goes b o (subst (λ (τ : Ty). Walks (Go {0}) W Γ N (τ, b, p.off o) st sp) same-ty w);
  lay = p.lay;
  lies = λ {𝓛 = W} t {i} {q} {b} {o} {back} w.
      subst (λ (v : Val). Within (Go {0}) W i q (ty X) b (p.off o) v (λ u. back (p.lay t u))) (low-fro (p.get t))
      (subst (λ (τ : Ty). Within (Go {0}) W i q τ b (p.off o) (val Y (p.get t)) (λ u. back (p.lay t u))) (sym same-ty) (p.lies t w));
  lays = λ t x. ap (p.lay t) (low-to x) ∙ p.lays t (to x);
}

-- ---- field k of a list of fields. Past the end stands a field of type `()`
abbrev field_k : List Field → ℕ → Field
field_k [] k = unit-field
field_k (F ∷ Fs) zero = F
field_k (F ∷ Fs) (suc k) = field_k Fs k

abbrev laws_k : (Fs : List Field) → LL.Lawss Fs → (k : ℕ) → LL.FLaws (field_k Fs k)
laws_k [] ls k = LL.unit-laws
laws_k (F ∷ Fs) ls zero = ls.0
laws_k (F ∷ Fs) ls (suc k) = laws_k Fs ls.1 k

abbrev plain_k : (Fs : List Field) → Plains (rows Fs) → (k : ℕ) → LL.Plain (field_k Fs k)
plain_k [] ps k = LL.unit-plain
plain_k (F ∷ Fs) ps zero = ps.0
plain_k (F ∷ Fs) ps (suc k) = plain_k Fs ps.1 k

abbrev copy_k : (Fs : List Field) → LL.Copyables Fs → (k : ℕ) → LL.Copyable (field_k Fs k)
copy_k [] cs k = LL.unit-copy
copy_k (F ∷ Fs) cs zero = cs.0
copy_k (F ∷ Fs) cs (suc k) = copy_k Fs cs.1 k

abbrev get_k : (Fs : List Field) → Values Fs → (k : ℕ) → (field_k Fs k).Value
get_k [] xs k = tt
get_k (F ∷ Fs) xs zero = xs.0
get_k (F ∷ Fs) xs (suc k) = get_k Fs xs.1 k

abbrev put_k : (Fs : List Field) → Values Fs → (k : ℕ) → (field_k Fs k).Value → Values Fs
put_k [] xs k x = tt
put_k (F ∷ Fs) xs zero x = (x, xs.1)
put_k (F ∷ Fs) xs (suc k) x = (xs.0, put_k Fs xs.1 k x)

abbrev vals_k : (Fs : List Field) → Valss (rows Fs) → ℕ → List Val
vals_k [] vss k = vunit ∷ []
vals_k (F ∷ Fs) vss zero = vss.0
vals_k (F ∷ Fs) vss (suc k) = vals_k Fs vss.1 k

abbrev put_vals : (Fs : List Field) → Valss (rows Fs) → ℕ → List Val → Valss (rows Fs)
put_vals [] vss k vs = tt
put_vals (F ∷ Fs) vss zero vs = (vs, vss.1)
put_vals (F ∷ Fs) vss (suc k) vs = (vss.0, put_vals Fs vss.1 k vs)

one-is : (Fs : List Field) (xs : Values Fs) (vss : Valss (rows Fs)) (k : ℕ) → AreAll (rows Fs) (intos Fs xs) vss
    → Is (field_k Fs k).row ((field_k Fs k).into (get_k Fs xs k)) (vals_k Fs vss k)
one-is [] xs vss k h = refl
one-is (F ∷ Fs) xs vss zero h = h.0
one-is (F ∷ Fs) xs vss (suc k) h = one-is Fs xs.1 vss.1 k h.1

all_are : (Fs : List Field) (xs : Values Fs) (vss : Valss (rows Fs)) (k : ℕ) (x : (field_k Fs k).Value) (vs : List Val)
    → AreAll (rows Fs) (intos Fs xs) vss → Is (field_k Fs k).row ((field_k Fs k).into x) vs
    → AreAll (rows Fs) (intos Fs (put_k Fs xs k x)) (put_vals Fs vss k vs)
all_are [] xs vss k x vs h is = tt
all_are (F ∷ Fs) xs vss zero x vs h is = (is, h.1)
all_are (F ∷ Fs) xs vss (suc k) x vs h is = (h.0, all_are Fs xs.1 vss.1 k x vs h.1 is)

pub got : (Fs : List Field) (ls : LL.Lawss Fs) (xs : Values Fs) (k : ℕ) → get_v (of_list (LL.lows Fs ls xs)) k ≡ (laws_k Fs ls k).low (get_k Fs xs k)
got [] ls xs k = refl
got (F ∷ Fs) ls xs zero = refl
got (F ∷ Fs) ls xs (suc k) = got Fs ls.1 xs.1 k

was-put : (Fs : List Field) (ls : LL.Lawss Fs) (xs : Values Fs) (k : ℕ) (x : (field_k Fs k).Value)
    → set_v (of_list (LL.lows Fs ls xs)) k ((laws_k Fs ls k).low x) ≡ of_list (LL.lows Fs ls (put_k Fs xs k x))
was-put [] ls xs k x = refl
was-put (F ∷ Fs) ls xs zero x = refl
was-put (F ∷ Fs) ls xs (suc k) x = ap (vcons (ls.0.low xs.0)) (was-put Fs ls.1 xs.1 k x)

-- ---- field k of a struct
module _ (S : Form) (k : ℕ) where
  abbrev Fs : List Field
  Fs = S.N.parts

  abbrev field_one : Type 0
  field_one = (field_k Fs k).row.mir ≡ lone (field_k Fs k).row.mir ∷ []

  abbrev pub field_plain : field_one → Plain
  field_plain one = record { F = field_k Fs k; L = laws_k Fs S.laws k; facts = plain_k Fs S.facts k; copy = copy_k Fs S.copies k; one = one }

  abbrev values : S.N.D → Values Fs
  values t = S.N.as_values t

  abbrev got_of : S.N.D → (field_k Fs k).Value
  got_of t = get_k Fs (values t) k

  abbrev put_in : S.N.D → (field_k Fs k).Value → S.N.D
  put_in t x = S.N.make (put_k Fs (values t) k x) (S.free _)

  put-values : (t : S.N.D) (x : (field_k Fs k).Value) → values (put_in t x) ≡ put_k Fs (values t) k x
  put-values t x = S.N.beta (put_k Fs (values t) k x) (S.free _)

  abbrev machine : Values Fs → Vals
  machine xs = of_list (LL.lows Fs S.laws xs)

  module _ (one : field_one) where
    pub is-got : (t : S.N.D) → IsOf (struct S) t → IsOf (field_plain one) (got_of t)
    is-got t is = at-val (field_plain one) (got_of t) _ (one-is Fs (values t) is.0 k is.1.1)

    pub is-put : (t : S.N.D) → IsOf (struct S) t → (x : (field_k Fs k).Value) → IsOf (field_plain one) x → IsOf (struct S) (put_in t x)
    is-put t is x is_x =
        let vs : List Val = (laws_k Fs S.laws k).low x ∷ [] in
        let vss : Valss (rows Fs) = put_vals Fs is.0 k vs in
        at-val (struct S) (put_in t x) (vstruct (of_list (flat (rows Fs) vss)) ∷ []) (
          vss,
          (
            refl,
            subst (λ (xs : Values Fs). AreAll (rows Fs) (intos Fs xs) vss) (sym (put-values t x))
                (all_are Fs (values t) is.0 k x vs is.1.1 is_x),
          ),
        )

    pub laid : (t : S.N.D) (x : (field_k Fs k).Value)
        → vstruct (set_v (machine (values t)) k ((laws_k Fs S.laws k).low x)) ≡ S.lowers.lowered (put_in t x)
    laid t x =
        ap vstruct (was-put Fs S.laws (values t) k x) ∙ ap (λ (xs : Values Fs). vstruct (machine xs)) (sym (put-values t x))
        ∙ sym (S.same (put_in t x))

  -- the field has one machine type, and is at place d of the struct: both by `refl`
  abbrev pub field_of : {d : ℕ} (one : field_one) → field_at zero (to_tys (mirs (rows Fs))) k ≡ some (lone (field_k Fs k).row.mir, d)
      → Part (struct S) (field_plain one)
  field_of {d} one at = record {
    get = got_of;
    put = put_in;
    get-is = is-got one;
    put_is = is-put one;
    step = to-field k;
    steps = λ st. st;
    off = λ o. o + d;
    goes = λ b o w. fld ! at w;
    lay = λ t u. vstruct (set_v (machine (values t)) k u);
    lies = λ {𝓛 = W} t {i} {q} {b} {o} {back} w.
        subst (λ (v : Val). Within (Go {0}) W i q (ty (field_plain one)) b (o + d) v (λ u. back (vstruct (set_v (machine (values t)) k u))))
        (got Fs S.laws (values t) k) (sub ! k at (subst (λ (v : Val). Within (Go {0}) W i q (ty (struct S)) b o v back) (S.same t) w));
    lays = laid one;
  }

-- ---- the elements of an array
each_at : (E : Plain) (xs : List (Of E)) (us : List Val) (j : ℕ) (d : Of E) → j < length xs
    → shadow (A.each E.F.row.Denot E.F.row.own_val (map E.F.into xs) us) → IsOf E (get_or xs j d)
each_at E [] us j d h s = absurd (not-suc-le-zero h)
each_at E (x ∷ xs) [] j d h s = absurd s
each_at E (x ∷ xs) (u ∷ us) zero d h s = at-val E x (u ∷ []) s.0
each_at E (x ∷ xs) (u ∷ us) (suc j) d h s = each_at E xs us j d (le_of_suc-le-suc h) s.1

each_set : (E : Plain) (xs : List (Of E)) (us : List Val) (j : ℕ) (x : Of E) → IsOf E x
    → shadow (A.each E.F.row.Denot E.F.row.own_val (map E.F.into xs) us)
    → shadow (A.each E.F.row.Denot E.F.row.own_val (map E.F.into (set xs j x)) (set us j (val E x)))
each_set E [] [] j x is s = tt
each_set E [] (u ∷ us) j x is s = absurd s
each_set E (y ∷ xs) [] j x is s = absurd s
each_set E (y ∷ xs) (u ∷ us) zero x is s = (is, s.1)
each_set E (y ∷ xs) (u ∷ us) (suc j) x is s = (s.0, each_set E xs us j x is s.1)

module _ (E : Plain) (n : ℕ) (xs : List (Of E)) (is : IsOf (array E n) xs) where
  pub long : length xs ≡ n
  long = sym (length-map xs E.F.into) ∙ is.1.0.1

  one_of : (j : ℕ) (d : Of E) → j < n → IsOf E (get_or xs j d)
  one_of j d h = each_at E xs is.0 j d (subst (λ (m : ℕ). j < m) (sym long) h) is.1.1

  set_is : (j : ℕ) (x : Of E) → IsOf E x → IsOf (array E n) (set xs j x)
  set_is j x is_x =
      at-val (array E n) (set xs j x) _
      (set is.0 j (val E x), ((refl, length-map (set xs j x) E.F.into ∙ length-set xs j x ∙ long), each_set E xs is.0 j x is_x is.1.1))

-- ---- an array as a generated struct has it in a field: its row is that of `[E; n]`, over E's own row
abbrev pub IsRow : (E : Plain) (n : ℕ) → List (Of E) → Type 0
IsRow E n xs = Is (A.Array (row_of E) n) xs (A.array_val (map (val E) xs) ∷ [])

to_rows : (E : Plain) (xs : List (Of E)) (us : List Val) → shadow (A.each E.F.row.Denot E.F.row.own_val (map E.F.into xs) us)
    → shadow (A.each (Of E) (own E) xs us)
to_rows E [] [] s = tt
to_rows E [] (u ∷ us) s = s
to_rows E (x ∷ xs) [] s = s
to_rows E (x ∷ xs) (u ∷ us) s = (s.0, to_rows E xs us s.1)

of_rows : (E : Plain) (xs : List (Of E)) (us : List Val) → shadow (A.each (Of E) (own E) xs us)
    → shadow (A.each E.F.row.Denot E.F.row.own_val (map E.F.into xs) us)
of_rows E [] [] s = tt
of_rows E [] (u ∷ us) s = s
of_rows E (x ∷ xs) [] s = s
of_rows E (x ∷ xs) (u ∷ us) s = (s.0, of_rows E xs us s.1)

module _ (E : Plain) (n : ℕ) (xs : List (Of E)) where
  pub is-row : IsOf (array E n) xs → IsRow E n xs
  is-row is = (is.0, ((is.1.0.0, sym (length-map xs E.F.into) ∙ is.1.0.1), to_rows E xs is.0 is.1.1))

  pub row-is : IsRow E n xs → IsOf (array E n) xs
  row-is is = (is.0, ((is.1.0.0, length-map xs E.F.into ∙ is.1.0.1), of_rows E xs is.0 is.1.1))

-- a field that is an array: `array_as E n (field_of S k refl refl) (λ x. x) (λ x. x) (λ x h. h) (λ x h. h) refl (λ x. refl) (λ x. refl)`
abbrev pub array_as : (E : Plain) (n : ℕ) {R Y : Plain} (p : Part R Y) (to : List (Of E) → Of Y) (fro : Of Y → List (Of E))
    → ((xs : List (Of E)) → IsRow E n xs → IsOf Y (to xs)) → ((y : Of Y) → IsOf Y y → IsRow E n (fro y)) → ty_array (ty E) n ≡ ty Y
    → ((xs : List (Of E)) → A.array_val (map (val E) xs) ≡ val Y (to xs)) → ((y : Of Y) → val Y y ≡ A.array_val (map (val E) (fro y)))
    → Part R (array E n)
array_as E n p to fro is-to is-fro =
    part_as p to fro (λ xs is. is-to xs (is-row E n xs is)) (λ y is. row-is E n (fro y) (is-fro y is))

-- ---- a struct and an array are ones of their type where their parts are: for constants, and for what code builds
abbrev AllOf : (Fs : List Field) → LL.Lawss Fs → Values Fs → Type 0
AllOf [] ls xs = Unit {0}
AllOf (F ∷ Fs) ls xs = Is F.row (F.into xs.0) (ls.0.low xs.0 ∷ []) × AllOf Fs ls.1 xs.1

abbrev all_vals : (Fs : List Field) → LL.Lawss Fs → Values Fs → Valss (rows Fs)
all_vals [] ls xs = tt
all_vals (F ∷ Fs) ls xs = (ls.0.low xs.0 ∷ [], all_vals Fs ls.1 xs.1)

all_of : (Fs : List Field) (ls : LL.Lawss Fs) (xs : Values Fs) → AllOf Fs ls xs → AreAll (rows Fs) (intos Fs xs) (all_vals Fs ls xs)
all_of [] ls xs h = tt
all_of (F ∷ Fs) ls xs h = (h.0, all_of Fs ls.1 xs.1 h.1)

pub struct_is : (S : Form) (t : S.N.D) → AllOf S.N.parts S.laws (S.N.as_values t) → IsOf (struct S) t
struct_is S t h =
    at-val (struct S) t _ (all_vals S.N.parts S.laws (S.N.as_values t), (refl, all_of S.N.parts S.laws (S.N.as_values t) h))

each_same : (E : Plain) (n : ℕ) (x : Of E) → IsOf E x
    → shadow (A.each E.F.row.Denot E.F.row.own_val (map E.F.into (replicate n x)) (replicate n (val E x)))
each_same E zero x is = tt
each_same E (suc n) x is = (is, each_same E n x is)

pub same-are : (E : Plain) (n : ℕ) (x : Of E) → IsOf E x → IsOf (array E n) (replicate n x)
same-are E n x is =
    at-val (array E n) (replicate n x) _
    (replicate n (val E x), ((refl, length-map (replicate n x) E.F.into ∙ length-replicate n x), each_same E n x is))

-- an array of n in the lent value. `past`: what a contract says of an index past the end, which no caller gives; `fits`: that the array fits in
-- memory, by `tt`
pub record Row (R E : Plain) (n : ℕ) : Type 2 where
  pub part : Part R (array E n)
  pub past : Of E
  pub fits : T (ltb (n * size (ty E)) (2 ^ 64))

module _ {R E : Plain} {n : ℕ} (r : Row R E n) where
  abbrev pub at : Of R → ℕ → Of E
  at t i = get_or (r.part.get t) i r.past

  -- with x as element i
  abbrev pub with_at : Of R → ℕ → Of E → Of R
  with_at t i x = r.part.put t (set (r.part.get t) i x)

  module _ (t : Of R) (is : IsOf R t) (i : ℕ) where
    pub at-is : i < n → IsOf E (at t i)
    at-is h = one_of E n (r.part.get t) (r.part.get-is t is) i r.past h

    pub with-is : (x : Of E) → IsOf E x → IsOf R (with_at t i x)
    with-is x is_x = r.part.put_is t is (set (r.part.get t) i x) (set_is E n (r.part.get t) (r.part.get-is t is) i x is_x)

    in_memory : i < n → (i * size (ty E) < 2 ^ 64) × (size (ty E) < 2 ^ 64)
    in_memory h =
        let all = ltb→lt (n * size (ty E)) (2 ^ 64) r.fits in
        let Some-of = mul-le-mul_right (size (ty E)) h in
        (omega (arith, all, Some-of), omega (arith, all, Some-of))

    -- the place of element i, and its size, fit in a number
    pub place-fits : i < n → Fits w64 (i * size (ty E))
    place-fits h = record { fits = (in_memory h).0 }

    pub size_fits : i < n → T (ltb (size (ty E)) (2 ^ 64))
    size_fits h = lt→ltb (size (ty E)) (2 ^ 64) (in_memory h).1
