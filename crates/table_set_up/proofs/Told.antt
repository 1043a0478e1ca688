-- What setting up comes to, by what the check of the plan told.
-- Assumes nothing.
use Rattle.std.proofs.Common.{◌≡◌, ap, ◌∙◌, sym, arith}
use Rattle.theory_refusals.specs.declared.Refusal.{Refusal}
use Rattle.theory_refusals.specs.Numbers.{number_of}
use Rattle.theory_refusals.specs.Refusals.{unless-done}
use Rattle.desk.specs.declared.Plan.{Plan}
use Rattle.desk.specs.declared.Tray.{Tray}
use Rattle.desk.specs.Start.{fresh_tray, set_up_refusal}
use Rattle.table.specs.declared.SetUp.{SetUp}
use Rattle.table.specs.declared.Table.{Table}
use Rattle.table.specs.SetUp.{fresh_table, no_table, not_set_up, set_up_rule}
use Rattle.table.specs.SetUpInPlace.{set-up-refused}

pub done : (p : Plan) (x : Tray) (t : Table) → 0 ≡ set_up_refusal p → x ≡ fresh_tray p → t ≡ fresh_table x
    → (0 ≡ (set_up_rule p).code) × (t ≡ (set_up_rule p).table)
unfolding set_up_rule
done p x t none is-tray is-table =
    let same = sym (unless-done (set_up_refusal p) not_set_up _ (sym none)) in
    (ap (λ (s : SetUp). s.code) same, is-table ∙ ap fresh_table is-tray ∙ ap (λ (s : SetUp). s.table) same)

pub refused : (p : Plan) (r : Refusal) → number_of r ≡ set_up_refusal p → (number_of r ≡ (set_up_rule p).code) × (no_table ≡ (set_up_rule p).table)
refused p r told =
    let same = sym (set-up-refused p (λ none. grind arith)) in
    (told ∙ ap (λ (s : SetUp). s.code) same, ap (λ (s : SetUp). s.table) same)
