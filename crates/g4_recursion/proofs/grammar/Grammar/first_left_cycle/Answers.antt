use Rattle.std.proofs.Common.{◌∙◌, sym}
use Rattle.std.specs.Option.{option_map}
use Rattle.g4_recursion.specs.Grammars.{rules_in}
use Rattle.g4_recursion.proofs.Read.{answer_within, cycle_found}
use Rattle.g4_recursion.proofs.grammar.Grammar.first_left_cycle.Goals as goal

pub returns-clause-first : goal.returns-clause-first
returns-clause-first c =
    cycle_found c.args.self.now c.requires c.as_slice-2.result.now c.as_slice-3.result.now c.in_ok-calls.calls.items
    (option_map (λ cycle. cycle.items) c.in_ok-found.found)
    c.as_slice-2.ensures.value c.as_slice-3.ensures.value (sym c.in_ok-calls.calls.ok.0 ∙ c.in_ok-calls.ensures.count)
    c.in_ok-calls.ensures.calls c.in_ok-found.ensures

pub returns-clause-within : goal.returns-clause-within
returns-clause-within c = answer_within (rules_in c.args.self.now) c.in_ok-found.found (returns-clause-first c)
