-- What the promise of a lent function comes to: a refusal leaves what is lent as it was, and no choice is left.
-- Assumes nothing.
use Rattle.std.specs.Prelude.{◌≡◌, ℕ}
use Rattle.std.proofs.Common.{sym, ◌∙◌, ap}
use Rattle.desk.specs.declared.Answer.{Answer}
use Rattle.desk.specs.declared.Event.{Event}
use Rattle.desk.specs.declared.Message.{Message}
use Rattle.desk.specs.declared.Record.{Record}
use Rattle.desk.specs.declared.Step.{Step}
use Rattle.desk.specs.Desk.{no_message}
use Rattle.desk.specs.Rules.{answer_of, refused, event_refusal, event_rule, serve_refusal, serve_rule, bring_refusal, bring_rule}
use Rattle.desk.specs.StepLaws.{event-refused, serve-refused, bring-refused}
use Rattle.table.specs.declared.Table.{Table}
use Rattle.table.specs.Rules as table
use Rattle.table.specs.RuleLaws as laws

-- any two answers, and any two lent values, that meet a promise are equal
pub no-choice : {A B : Type 0} {a r r' : A} {b v v' : B} → (r ≡ a) × (v ≡ b) → (r' ≡ a) × (v' ≡ b) → (r ≡ r') × (v ≡ v')
no-choice p q = (p.0 ∙ sym q.0, p.1 ∙ sym q.1)

-- ---- "A refusal changes nothing in the record and gives an all-zero message."
abbrev pub refusal : ℕ → Answer
refusal n = record { reply = record { code = n; value = 0; count = 0 }; message = no_message }

-- step s refuses with the number n
abbrev pub Refuses : ℕ → Record → Step → Type 0
Refuses n v s = (answer_of s ≡ refusal n) × (s.after ≡ v)

refuses : (n : ℕ) (v : Record) (s : Step) → s ≡ refused v n → Refuses n v s
refuses n v s e = (ap answer_of e, ap (λ (t : Step). t.after) e)

pub event-refuses : (v : Record) (e : Event) → (event_refusal v e ≡ 0 → ⊥) → Refuses (event_refusal v e) v (event_rule v e)
event-refuses v e some = refuses (event_refusal v e) v (event_rule v e) (event-refused v e some)

pub serve-refuses : (v : Record) (m : Message) → (serve_refusal v m ≡ 0 → ⊥) → Refuses (serve_refusal v m) v (serve_rule v m)
serve-refuses v m some = refuses (serve_refusal v m) v (serve_rule v m) (serve-refused v m some)

pub bring-refuses : (v : Record) (m : Message) → (bring_refusal v m ≡ 0 → ⊥) → Refuses (bring_refusal v m) v (bring_rule v m)
bring-refuses v m some = refuses (bring_refusal v m) v (bring_rule v m) (bring-refused v m some)

-- ---- "The reply is the number, value 0, count 0; the table stays as given."
pub table-refuses : (t : Table) (e : Event) → (table.refusal t e ≡ 0 → ⊥)
    → ((table.event_rule t e).reply ≡ (refusal (table.refusal t e)).reply) × ((table.event_rule t e).after ≡ t)
table-refuses t e some = (ap (λ o. o.reply) (laws.event-refused t e some), ap (λ o. o.after) (laws.event-refused t e some))
