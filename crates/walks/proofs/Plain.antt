-- Plain types, of which what is owned are facts only: numbers, bools, `()`, structs, and arrays as parts of structs. A plain type is a field
-- of the logic (`denote.Struct.Field`) with its laws, those of a `&` to it among them (`copy`), so that a struct's parts are plain types of the
-- same kind as the struct. Then lists of plain parameters, as a signature and a call have them.
-- Assumes nothing.
use mathlib.Core.Path.{◌≡◌, refl, ap, subst}
use mathlib.Core.List.{List, [], ◌∷◌, ◌++◌}
use Prim.Native.Nat.{ℕ}
use seplogic.Ra.Ura.{Ura}
use mir.Syntax.{Ty, Width}
use mir.Val.{Val, vint, vstruct, of_list}
use base.Logic.{ent, sep, emp, via, id⊢, mono∗, emp∗}
use base.Fml.{Fml}
use base.Stored.{Coded, coded_via}
use types.Logic.{Logic, sem}
use contract.Lifetimes.{Lfts}
use denote.Exit.{yes, unchanged}
use denote.Laws.{Typed, Is, Ises, Are, Tellss, Spells, valss}
use denote.Memory.{lone}
use denote.Param.Drops.{still_Drops}
use denote.Copied.{uint_Copied}
use denote.Plain.{uint_Tells, uint_Lawful, uint_copy, uint_row_laws}
use denote.RattleType.{RattleType, Denots, Valss, owns, flat}
use denote.Shadow.{makes_shadow}
use denote.Signature.{Slot, plain, types_at}
use denote.Struct.Declared.{field, fields}
use denote.Struct.Field.{Field, uint_field, bool-field, unit-field, array_field}
use denote.Struct.Laws as LL
use denote.Struct.Record.{Record, Propositions, declared}
use denote.Struct.Struct.{Plains}
use denote.Struct.Values.{Values}
use denote.Triple.End.{Kepts, Fins}
use denote.Triple.Walked.{Stays, stay_none, AllGo, Goes-none, fits_of, has_of}
use Rattle.walks.proofs.Locals.{HasType, HaveTypes}

pub record Plain : Type 2 where
  pub F : Field
  pub L : LL.FLaws F
  pub facts : LL.Plain F
  pub copy : LL.Copyable F
  pub one : F.row.mir ≡ lone F.row.mir ∷ []

-- its values, their machine type, a value's machine value, and that a value is one that the type can have
abbrev pub Of : Plain → Type 0
Of P = P.F.Value

abbrev pub ty : Plain → Ty
ty P = lone P.F.row.mir

abbrev pub val : (P : Plain) → Of P → Val
val P x = P.L.low x

abbrev pub own : (P : Plain) → Of P → List Val → Fml
own P x vs = P.F.row.own_val (P.F.into x) vs

abbrev pub IsOf : (P : Plain) → Of P → Type 0
IsOf P x = Is P.F.row (P.F.into x) (val P x ∷ [])

abbrev pub coded : (P : Plain) → Coded (Of P)
coded P = coded_via P.F.row.coded P.F.into P.F.into_one

-- as the type of a parameter or a result
abbrev pub row_of : Plain → RattleType
row_of P = record {
  Denot = Of P;
  mir = ty P ∷ [];
  written = P.F.row.written;
  reaches = P.F.row.reaches;
  lives = P.F.row.lives;
  own_val = own P;
  exit = λ k. unchanged;
  coded = coded P;
  shr_at = λ x. P.F.row.shr_at (P.F.into x);
}

pub has-type : {M : Type 1} {𝓤 : Ura M} (𝓛 : Logic 𝓤) (P : Plain) (x : Of P) → IsOf P x → HasType (ty P) (val P x)
has-type 𝓛 P x is = (subst (λ (τs : List Ty). Typed τs (val P x ∷ [])) P.one ((P.L.lawful 𝓛).typed (P.F.into x) _ is)).0

-- a fact on a value's machine values, at the one machine value
pub at-val : (P : Plain) (x : Of P) (vs : List Val) → Is P.F.row (P.F.into x) vs → IsOf P x
at-val P x vs is = subst (Is P.F.row (P.F.into x)) (P.L.low-is x vs is) is

-- ---- the plain types
abbrev pub number : Width → Plain
number w = record {
  F = uint_field w;
  L = record {
    val = vint w;
    tells = uint_Tells w;
    low = vint w;
    low-is = uint_Tells w;
    lawful = λ 𝓛. uint_Lawful 𝓛 w;
    drops = λ 𝓛. still_Drops 𝓛 (uint_field w).row (λ k. refl);
  };
  facts = λ n vs. (tt, tt);
  copy = record {
    val = vint w;
    tells = uint_Tells w;
    copies = λ M 𝓤 𝓛. uint_copy 𝓛 w;
    still = λ k. refl;
    alone = refl;
    copied = λ M 𝓤 𝓛. uint_Copied 𝓛 w;
    shr_laws = uint_row_laws w;
  };
  one = refl;
}

abbrev pub boolean : Plain
boolean = record { F = bool-field; L = LL.bool-laws; facts = LL.bool-plain; copy = LL.bool-copy; one = refl }

abbrev pub unit : Plain
unit = record { F = unit-field; L = LL.unit-laws; facts = LL.unit-plain; copy = LL.unit-copy; one = refl }

-- a declared struct as its generated modules have it, and that its ghost fields ask nothing
pub record Form : Type 2 where
  pub N : Record
  pub props : Propositions N
  pub laws : LL.Laws (declared N props)
  pub lowers : LL.Lowered (declared N props)
  pub facts : Plains (fields (declared N props))
  pub copies : LL.Copyables N.parts
  pub same : (d : N.D) → lowers.lowered d ≡ vstruct (of_list (LL.lows N.parts laws (N.as_values d)))
  pub free : (v : Values N.parts) → N.Ghost v

-- of T: `form T.struct T.the_propositions T'.the_laws T'.lowers T'.the_plain T'.the_copy (λ d. refl) (λ v. tt)`, with T' its module `TheLaws`
abbrev pub form : (N : Record) (props : Propositions N) (laws : LL.Laws (declared N props)) (lowers : LL.Lowered (declared N props))
    → Plains (fields (declared N props)) → LL.Copyables N.parts
    → ((d : N.D) → lowers.lowered d ≡ vstruct (of_list (LL.lows N.parts laws (N.as_values d)))) → ((v : Values N.parts) → N.Ghost v) → Form
form N props laws lowers facts copies same free =
    record { N = N; props = props; laws = laws; lowers = lowers; facts = facts; copies = copies; same = same; free = free }

abbrev pub struct : Form → Plain
struct S = record {
  F = field (declared S.N S.props);
  L = LL.field_laws (declared S.N S.props) S.laws S.lowers;
  facts = LL.field_plain (declared S.N S.props) S.facts;
  copy = LL.field_copy (declared S.N S.props) S.copies;
  one = refl;
}

-- only as a part of a struct: an array that is a parameter itself is spelled otherwise in its signature
abbrev pub array : Plain → ℕ → Plain
array E n = record {
  F = array_field E.F n;
  L = LL.array_laws E.F E.L n;
  facts = LL.array_plain E.F E.facts n;
  copy = LL.array_copy E.F E.copy n;
  one = refl;
}

-- ---- a list of plain parameters
abbrev pub Args : List Plain → Type 0
Args [] = Unit {0}
Args (P ∷ Ps) = Of P × Args Ps

abbrev pub AreOf : (Ps : List Plain) → Args Ps → Type 0
AreOf [] a = Unit {0}
AreOf (P ∷ Ps) a = IsOf P a.0 × AreOf Ps a.1

abbrev pub vals : (Ps : List Plain) → Args Ps → List Val
vals [] a = []
vals (P ∷ Ps) a = val P a.0 ∷ vals Ps a.1

abbrev pub tys : List Plain → List Ty
tys [] = []
tys (P ∷ Ps) = ty P ∷ tys Ps

-- the same in a signature of n lifetimes
module _ (n : ℕ) where
  abbrev pub slots : List Plain → List (Slot n)
  slots [] = []
  slots (P ∷ Ps) = plain (λ κs. row_of P) ∷ slots Ps

  abbrev pub kepts : (Ps : List Plain) → Kepts (slots Ps)
  kepts [] = tt
  kepts (P ∷ Ps) = (yes, kepts Ps)

  abbrev pub stays : (Ps : List Plain) → Stays (slots Ps) (kepts Ps)
  stays [] = tt
  stays (P ∷ Ps) = (stay_none (λ κs. row_of P) yes, stays Ps)

  module _ (κs : Lfts n) where
    abbrev Types : List Plain → List RattleType
    Types Ps = types_at (slots Ps) κs

    abbrev pub to : (Ps : List Plain) → Args Ps → Denots (Types Ps)
    to [] a = tt
    to (P ∷ Ps) a = (a.0, to Ps a.1)

    abbrev pub fro : (Ps : List Plain) → Denots (Types Ps) → Args Ps
    fro [] a = tt
    fro (P ∷ Ps) a = (a.0, fro Ps a.1)

    pub fro-to : (Ps : List Plain) (a : Args Ps) → fro Ps (to Ps a) ≡ a
    fro-to [] a = refl
    fro-to (P ∷ Ps) a = λ i. (a.0, fro-to Ps a.1 i)

    pub to-fro : (Ps : List Plain) (a : Denots (Types Ps)) → to Ps (fro Ps a) ≡ a
    to-fro [] a = refl
    to-fro (P ∷ Ps) a = λ i. (a.0, to-fro Ps a.1 i)

    abbrev pub spells : (Ps : List Plain) → Spells (Types Ps)
    spells [] = tt
    spells (P ∷ Ps) = ((λ x. val P x ∷ []), spells Ps)

    pub tellss : (Ps : List Plain) → Tellss (Types Ps) (Ises (Types Ps)) (spells Ps)
    tellss [] = tt
    tellss (P ∷ Ps) = (P.L.low-is, tellss Ps)

    abbrev pub vss : (Ps : List Plain) → Args Ps → Valss (Types Ps)
    vss Ps a = valss (Types Ps) (spells Ps) (to Ps a)

    pub flat-is : (Ps : List Plain) (a : Args Ps) → flat (Types Ps) (vss Ps a) ≡ vals Ps a
    flat-is [] a = refl
    flat-is (P ∷ Ps) a = ap (λ (vs : List Val). val P a.0 ∷ vs) (flat-is Ps a.1)

    pub are-of : (Ps : List Plain) (a : Args Ps) → Are (Types Ps) (Ises (Types Ps)) (to Ps a) (vss Ps a) → AreOf Ps a
    are-of [] a h = tt
    are-of (P ∷ Ps) a h = (h.0, are-of Ps a.1 h.1)

    abbrev pub no_lasts : (Ps : List Plain) (a : Args Ps) → Fins κs (slots Ps) (kepts Ps) (to Ps a)
    no_lasts [] a = tt
    no_lasts (P ∷ Ps) a = (tt, no_lasts Ps a.1)

    pub fits : (Ps : List Plain) (a : Args Ps) → fits_of κs (slots Ps) (kepts Ps) (stays Ps) (to Ps a) (no_lasts Ps a)
    fits [] a = tt
    fits (P ∷ Ps) a = (tt, fits Ps a.1)

    -- what the parameters own is had for nothing, at entry and at exit
    module _ {M : Type 1} {𝓤 : Ura M} (𝓛 : Logic 𝓤) where
      owns-one : (P : Plain) (x : Of P) → IsOf P x → ent 𝓤 (emp 𝓤) (sem 𝓛 (own P x (val P x ∷ [])))
      owns-one P x is = makes_shadow 𝓛 (own P x _) (P.facts (P.F.into x) _) is

      pub owns-all : (Ps : List Plain) (a : Args Ps) → AreOf Ps a → ent 𝓤 (emp 𝓤) (sem 𝓛 (owns (Types Ps) (to Ps a) (vss Ps a)))
      owns-all [] a h = id⊢ 𝓤 (emp 𝓤)
      owns-all (P ∷ Ps) a h = via 𝓤 (sep 𝓤 (emp 𝓤) (emp 𝓤)) (emp∗ 𝓤 (emp 𝓤)) (mono∗ 𝓤 (owns-one P a.0 h.0) (owns-all Ps a.1 h.1))

      pub has_all : (Ps : List Plain) (a : Args Ps) → AreOf Ps a
          → ent 𝓤 (emp 𝓤) (sem 𝓛 (has_of κs (slots Ps) (kepts Ps) (stays Ps) (to Ps a) (no_lasts Ps a) (vss Ps a)))
      has_all [] a h = id⊢ 𝓤 (emp 𝓤)
      has_all (P ∷ Ps) a h = via 𝓤 (sep 𝓤 (emp 𝓤) (emp 𝓤)) (emp∗ 𝓤 (emp 𝓤)) (mono∗ 𝓤 (owns-one P a.0 h.0) (has_all Ps a.1 h.1))

module _ {M : Type 1} {𝓤 : Ura M} (𝓛 : Logic 𝓤) where
  pub have-types : (Ps : List Plain) (ρs : List Ty) (a : Args Ps) → AreOf Ps a → HaveTypes (tys Ps ++ ρs) (vals Ps a)
  have-types [] ρs a h = tt
  have-types (P ∷ Ps) ρs a h = (has-type 𝓛 P a.0 h.0, have-types Ps ρs a.1 h.1)

  pub go_all : (n : ℕ) (Ps : List Plain) → AllGo 𝓛 n (slots n Ps) (kepts n Ps) (stays n Ps)
  go_all n [] = tt
  go_all n (P ∷ Ps) = (Goes-none 𝓛 n (λ κs. row_of P) yes (λ κs x f. refl), go_all n Ps)
