-- Where no parser rule has a predicate, no rule over steps has one.
use Rattle.std.proofs.Common.{List}
use Rattle.g4_source.specs.Rules.{parser_rules}
use Rattle.g4_source.specs.declared.source.Source.{Source}
use Rattle.g4_grammar.specs.StepRules.{AreUnpredicated}
use Rattle.g4_grammar.specs.Written.{ParserRuleIsUntested, predicate_texts}
use Rattle.g4_token_file.specs.declared.entry.TokenEntry.{TokenEntry}
use Rattle.g4_vocab.specs.Numbering.{token_lexers}
use Rattle.g4_resolve.specs.Resolving.{RulesAreUntested, parser_names, resolved}
use Rattle.g4_resolve.proofs.Carrying.{each_parser_rule, unpredicated_rules}

pub resolved_unpredicated : (types : List TokenEntry) (source : Source) → RulesAreUntested source.rules
    → AreUnpredicated (resolved types source)
resolved_unpredicated types source untested =
    unpredicated_rules (parser_names source.rules) (predicate_texts source.rules) (token_lexers source.rules) types
    (parser_rules source.rules) (each_parser_rule ParserRuleIsUntested source.rules untested)
