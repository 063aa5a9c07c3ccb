use Rattle.std.proofs.Common.{◌↔◌, true, false, IsTrue, refl, sym, subst}
use Rattle.g4_source.specs.Elements.{atom}
use Rattle.g4_grammar.specs.LeftCalls.{Nullable}
use Rattle.g4_recursion.specs.declared.lead.Lead.{Lead}
use Rattle.g4_recursion.specs.Leads.{ReadsLead, CallsLead}
use Rattle.g4_recursion.proofs.Parts.{empty_lead_null, symbol_not_null, call_parts}
use Rattle.g4_recursion.proofs.lead.is_nullable.Goals as goal

pub returns-in-Empty : goal.returns-in-Empty
returns-in-Empty c = λ rules told. subst (λ (a : Lead). IsTrue true ↔ Nullable ReadsLead CallsLead rules (atom a)) (sym c.in-Empty.is)
    (λ h. empty_lead_null rules, λ h. refl)

pub returns-in-Symbol : goal.returns-in-Symbol
returns-in-Symbol c = λ rules told. subst (λ (a : Lead). IsTrue false ↔ Nullable ReadsLead CallsLead rules (atom a))
    (sym c.in-Symbol.is) (λ h. absurd (cc), λ h. absurd (symbol_not_null rules h))

pub returns-in-Call : goal.returns-in-Call
returns-in-Call c =
    λ rules told. subst (λ (a : Lead). IsTrue c.says.result ↔ Nullable ReadsLead CallsLead rules (atom a)) (sym c.in-Call.is)
    (let tells = told c.in-Call.rule in let parts = call_parts rules c.in-Call.rule in
    (λ h. parts.0 (tells.0 (c.says.ensures.0 h)), λ n. c.says.ensures.1 (tells.1 (parts.1 n))))
