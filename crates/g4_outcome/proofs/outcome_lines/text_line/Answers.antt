use Rattle.std.proofs.Common.{◌≡◌, ◌++◌, List, ℕ, ap, sym, ◌∙◌, rules}
use Rattle.std.specs.Prelude.{codes}
use Rattle.g4_grammar.specs.StepRules.{StepRule}
use Rattle.g4_trees.specs.declared.tree.Item.{Item}
use Rattle.g4_trees.specs.TreeText.{text_of, tree_text}
use Rattle.g4_trees.proofs.Decoded.{text_of_items}
use Rattle.g4_outcome.specs.declared.line.Line.TheVariants.{ToOut}
use Rattle.g4_outcome.proofs.outcome_lines.text_line.Goals as goal

pub returns : goal.returns
returns c =
    let t = c.requires.0 in
    let tokens = c.args.tokens.now in
    let rules_of : List StepRule = c.args.grammar.now.rules in
    let named : List ℕ = c.extend_from_slice-2.new.self.items in
    let text : text_of rules_of tokens t ≡ tree_text rules_of tokens c.args.tree.now =
    sym (text_of_items rules_of tokens t) ∙ ap (λ (xs : List Item). tree_text rules_of tokens xs) (sym c.requires.1) in
    let printed : c.print.new.out.items ≡ named ++ tree_text rules_of tokens c.args.tree.now =
    c.in_ok-print.ensures t c.requires.1 ∙ ap (λ (rs : List StepRule). named ++ text_of rs tokens t) c.as_slice.ensures.rules
    ∙ ap (λ (xs : List ℕ). named ++ xs) text in
    let name : named ≡ c.args.name.now ++ codes ": " = search rules in
    ap ToOut (c.new.ensures ∙ c.in_ok-extend_from_slice-3.ensures.items
    ∙ ap (λ (xs : List ℕ). xs ++ codes "\n") (printed ∙ ap (λ (xs : List ℕ). xs ++ tree_text rules_of tokens c.args.tree.now) name))
