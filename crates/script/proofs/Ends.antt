-- What is said at an end is short; and no cells, or too many, are refused.
-- Assumes nothing.
use Rattle.std.proofs.Common.{◌≡◌, Option, Some, None, Err, Bool, true, false, not, cond, ◌&&◌, ◌⊎◌, inl, inr, ◌<◌, ◌≤◌, ◌-◌, [], ◌∷◌, ◌++◌, ℕ, List, length, drop, replicate, eqb, ltb, leb, refl, sym, ap, ◌∙◌, arith}
use Rattle.std.specs.Option.{ok_or}
use Rattle.std.proofs.lemmas.Bool.{lt-leb}
use Rattle.std.proofs.lemmas.List.{drop-replicate}
use borrow.Author.Tests.{lt-ltb, le-ltb, eqb-true, eqb-false}
use Rattle.std.proofs.Math.Seq.{length-sets}
use Rattle.theory_refusals.specs.declared.Refusal.{Refusal}
use Rattle.theory_refusals.specs.Numbers.{number_of}
use Rattle.theory_refusals.specs.Refusals.{first_of}
use Rattle.desk.specs.Start.{set_up_refusal, set_up_lines}
use Rattle.desk.specs.declared.Plan.{Plan}
use Rattle.table.specs.declared.SetUp.{SetUp}
use Rattle.table.specs.SetUpInPlace.{set-up-refused}
use Rattle.text.specs.Number.{largest}
use Rattle.text.specs.OneLine.{length-line, length-bad-line}
use Rattle.desk.specs.declared.Event.{Event}
use Rattle.table.specs.declared.Table.{Table}
use Rattle.desk.specs.declared.Reply.{Reply}
use Rattle.table.specs.Rules.{event_rule}
use Rattle.table.specs.SetUp.{set_up_rule}
use Rattle.text_print.specs.declared.Page.{Page}
use Rattle.text_print.specs.Page.{Prints}
use Rattle.script.specs.Rules.{event_of, set_up, event}
use Rattle.script.specs.Stops.{said}
use Rattle.script.specs.declared.Stop.TheVariants.{BadLine, Refused}

-- an error that was made of an option says that nothing was there
pub nothing-there : {T E : Type 0} (o : Option T) (e f : E) → ok_or o e ≡ Err f → (o ≡ None) × (f ≡ e)
nothing-there None e f p = (refl, cc)
nothing-there (Some x) e f p = (cc, cc)

pub short-bad : (n : ℕ) → n ≤ largest → length (said (BadLine n)) ≤ 33
unfolding said
short-bad n h = omega (arith, length-bad-line n h)

pub short-refused : (r : Refusal) → length (said (Refused r)) ≤ 33
unfolding said
short-refused r = let small : number_of r ≤ largest = grind arith in omega (arith, length-line (number_of r) [] (small, tt))

pub some-number : (r : Refusal) → number_of r ≡ 0 → ⊥
some-number r e = grind arith

refused : (p : Plan) → (leb 1 p.cells && leb p.cells 32) ≡ false → set_up_refusal p ≡ 0 → ⊥
unfolding set_up_refusal set_up_lines first_of
refused p e = rw e (go (not (leb 1 p.desks && leb p.desks 8)))
  where
    go : (a : Bool) → ◌≡◌ {A = ℕ} (cond a 20 21) 0 → ⊥
    go true z = omega (arith, z)
    go false z = omega (arith, z)

pub cells-wrong : (desks cells : ℕ) (keepers : List ℕ) → (ltb 0 cells && leb cells 32) ≡ false → (set_up desks cells keepers).0 ≡ 0 → ⊥
unfolding set_up
cells-wrong desks cells keepers e z =
    let p : Plan = record { desks = desks; cells = cells; keepers = keepers } in
    let some : set_up_refusal p ≡ 0 → ⊥ = refused p e in
    some (sym (ap (λ (m : SetUp). m.code) (set-up-refused p some)) ∙ z)

pub out_of_range : (cells : ℕ) → ((0 < cells) × (32 < cells)) ⊎ (cells ≤ 0) → (ltb 0 cells && leb cells 32) ≡ false
out_of_range cells (inl h) = rw (lt-ltb 0 cells h.0, lt-leb cells 32 h.1)
out_of_range cells (inr h) = rw (le-ltb 0 cells h)

-- the numbers, and zeros behind them
pub padded : (ns ms : List ℕ) (k : ℕ) → ms ≡ ns → length ns ≡ k → ms ++ drop (length ms) (replicate 32 0) ≡ ns ++ replicate (32 - k) 0
padded ns ms k e f = rw (e, f) (ap (λ (l : List ℕ). ns ++ l) (drop-replicate k 32 0))

-- ---- what the rules make of what was read
pub made-is : (desks cells : ℕ) (keepers : List ℕ) (code : ℕ) (t : Table)
    → code ≡ (set_up_rule (record { desks = desks; cells = cells; keepers = keepers })).code
    → t ≡ (set_up_rule (record { desks = desks; cells = cells; keepers = keepers })).table → set_up desks cells keepers ≡ (code, t)
unfolding set_up
made-is desks cells keepers code t e f = rw (e, f) refl

pub outcome-is : (t : Table) (ns : List ℕ) (e : Event) (reply : Reply) (after : Table) → e ≡ event_of ns
    → reply ≡ (event_rule t e).reply → after ≡ (event_rule t e).after → event t ns ≡ (reply.code ∷ reply.value ∷ reply.count ∷ [], after)
unfolding event
outcome-is t ns e reply after same f g = rw (f, g, same) refl

-- ---- printing keeps a page's length
pub length-kept : {text : List ℕ} {p q : Page} → Prints text p q → length q.out.now ≡ length p.out.now
length-kept {text} {p} {q} w = ap length w.put.bytes ∙ length-sets p.out.now p.at text

pub some-left : (l : List ℕ) (b : Bool) → b ≡ eqb (length l) 0 → b ≡ false → 0 < length l
some-left l b e f = let ne = eqb-false (length l) 0 (sym e ∙ f) in omega arith

pub none-left : (l : List ℕ) (b : Bool) → b ≡ eqb (length l) 0 → b ≡ true → length l ≡ 0
none-left l b e f = eqb-true (length l) 0 (sym e ∙ f)
