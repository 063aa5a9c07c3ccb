use Rattle.std.proofs.Common.{◌≡◌, ◌++◌, List, ℕ, ap, sym, ◌∙◌}
use Rattle.g4_grammar.specs.StepRules.{StepRule}
use Rattle.g4_trees.specs.declared.events.Event.{Event}
use Rattle.g4_trees.specs.Events.{event_lines, events_of, tree_events}
use Rattle.g4_trees.proofs.Decoded.{events_of_items}
use Rattle.g4_outcome.specs.declared.line.Line.TheVariants.{ToOut}
use Rattle.g4_outcome.proofs.outcome_lines.events_line.Goals as goal

pub returns : goal.returns
returns c =
    let t = c.requires.0 in
    let events : events_of t ≡ tree_events c.args.tree.now = sym (events_of_items t) ∙ ap tree_events (sym c.requires.1) in
    ap ToOut (c.new.ensures ∙ c.in_ok-print_events.ensures t c.requires.1
    ∙ ap (λ (xs : List ℕ). xs ++ event_lines c.as_slice-rules.result.now c.args.tokens.now c.args.name.now (events_of t))
    c.new-lines.ensures.items
    ∙ ap (λ (rs : List StepRule). event_lines rs c.args.tokens.now c.args.name.now (events_of t)) c.as_slice-rules.ensures.rules
    ∙ ap (λ (es : List Event). event_lines c.args.grammar.now.rules c.args.tokens.now c.args.name.now es) events)
