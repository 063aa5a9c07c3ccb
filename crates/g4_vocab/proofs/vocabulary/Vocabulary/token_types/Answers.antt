use Rattle.std.proofs.Common.{◌≤◌, List, map, All, sym, ap, ◌∙◌, subst}
use Rattle.g4_grammar.specs.declared.token_types.TokenLiteral.{TokenLiteral}
use Rattle.g4_grammar.specs.declared.token_types.TokenName.{TokenName}
use Rattle.g4_tokens.specs.declared.symbol.TheConstants.{MOST_TYPES}
use Rattle.g4_vocab.specs.Shown.{names_of}
use Rattle.g4_vocab.specs.Vocabularies.{types_in}
use Rattle.g4_vocab.proofs.Laws.{literals_low, names_low}
use Rattle.g4_vocab.proofs.vocabulary.Vocabulary.token_types.Goals as goal

pub returns-clause-names : goal.returns-clause-names
returns-clause-names c =
    subst (λ (ns : List TokenName). All (λ name. name.symbol ≤ MOST_TYPES) ns)
    (sym (c.in_ok-names.ensures ∙ ap names_of c.entries.ensures)) (names_low (types_in c.args.self.now) c.args.self.now.few)

pub returns-clause-literals : goal.returns-clause-literals
returns-clause-literals c =
    subst (λ (ls : List TokenLiteral). All (λ literal. literal.symbol ≤ MOST_TYPES) ls) (sym c.in_ok-literals.ensures)
    (literals_low (map (λ l. l.now) c.as_slice-own.result.now) (types_in c.args.self.now) c.args.self.now.few)
