use Rattle.std.proofs.Common.{◌↔◌, true, IsTrue, refl, sym, subst}
use Rattle.g4_source.specs.declared.element.Repeat.{Repeat}
use Rattle.g4_source.specs.Elements.{block}
use Rattle.g4_grammar.specs.LeftCalls.{Nullable, an_optional, a_star}
use Rattle.g4_recursion.specs.Leads.{ReadsLead, CallsLead}
use Rattle.g4_recursion.proofs.Parts.{once_parts, plus_parts}
use Rattle.g4_recursion.proofs.calls.is_nullable_block.Goals as goal

pub returns-in-Once : goal.returns-in-Once
returns-in-Once c = λ rules label xs one. subst
    (λ (r : Repeat). IsTrue c.args.body ↔ Nullable ReadsLead CallsLead rules (block label r xs)) (sym c.in-Once.is)
    (let both = once_parts rules label xs in (λ h. both.0 (one.0 h), λ h. one.1 (both.1 h)))

pub returns-in-Optional : goal.returns-in-Optional
returns-in-Optional c = λ rules label xs one.
    subst (λ (r : Repeat). IsTrue true ↔ Nullable ReadsLead CallsLead rules (block label r xs)) (sym c.in-Optional.is)
    (λ h. an_optional label c.in-Optional.field-0 xs, λ h. refl)

pub returns-in-Star : goal.returns-in-Star
returns-in-Star c = λ rules label xs one. subst (λ (r : Repeat). IsTrue true ↔ Nullable ReadsLead CallsLead rules (block label r xs))
    (sym c.in-Star.is) (λ h. a_star label c.in-Star.field-0 xs, λ h. refl)

pub returns-in-Plus : goal.returns-in-Plus
returns-in-Plus c = λ rules label xs one. subst
    (λ (r : Repeat). IsTrue c.args.body ↔ Nullable ReadsLead CallsLead rules (block label r xs)) (sym c.in-Plus.is)
    (let both = plus_parts rules label c.in-Plus.field-0 xs in (λ h. both.0 (one.0 h), λ h. one.1 (both.1 h)))
