use Rattle.std.proofs.Common.{◌++◌, List, map, ap, ◌∙◌}
use Rattle.g4_source.specs.declared.rule.LexerAlternative.{LexerAlternative}
use Rattle.g4_source.specs.Elements.{atoms_in_order}
use Rattle.g4_source.specs.declared.kind.RuleKind.TheVariants.{Lexer}
use Rattle.g4_source.specs.Atoms.{AtomIn}
use Rattle.g4_checks.specs.Views.{use_view}
use Rattle.g4_source.proofs.Lists.{parts_all}
use Rattle.g4_checks.proofs.Nodes.{in_rule, lexer_atoms}
use Rattle.g4_checks.proofs.atoms.push_lexer.Goals as goal

pub returns : goal.returns
returns c =
    parts_all (λ (a : LexerAlternative). in_rule Lexer (atoms_in_order a.elements)) c.as_slice-alternative-items.result.now
    c.loop-alternative.alternative-index _ _ c.loop-alternative-test.false c.loop-alternative.invariant
    ∙ ap (λ (xs : List AtomIn). map use_view c.args.found.now.items ++ xs)
    (lexer_atoms Lexer c.args.rule.now c.as_slice-alternative-items.result.now c.as_slice-alternative-items.ensures)
