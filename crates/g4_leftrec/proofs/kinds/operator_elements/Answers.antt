use Rattle.std.proofs.Common.{ℕ, map, set, ap, ◌∙◌}
use Rattle.g4_source.specs.declared.element.Element.TheVariants as nodes
use Rattle.g4_source.specs.Trees.{element_of, in_order}
use Rattle.g4_grammar.specs.declared.step.Step.TheVariants.{Level}
use Rattle.g4_leftrec.specs.Rewriting.{operand_level, with_last_at}
use Rattle.g4_leftrec.proofs.Levels.{level_first}
use Rattle.g4_leftrec.proofs.kinds.operator_elements.Goals as goal

pub returns : goal.returns
returns c = λ rest begins.
    let p : ℕ = c.args.precedence in
    let tree = in_order (map element_of (set c.args.elements.items 0 (nodes.Atom (Level p)))) in
    c.with_last_at.ensures ∙ (ap (λ (level : ℕ). with_last_at c.args.rule level tree) c.operand_level-level.ensures
    ∙ level_first c.args.rule (operand_level p c.args.right) p c.args.elements.items rest begins)
