use Rattle.std.proofs.Common.{◌≡◌, List, sym, ◌∙◌, ap}
use Rattle.g4_syntax.specs.Notation.{Spelled}
use Rattle.g4_syntax.proofs.Unique.{one_reading}
use Rattle.g4_source.specs.declared.source.Source.{Source}
use Rattle.g4_productions.specs.Grammars.{source_of, IsGrammarText}
use Rattle.g4_productions.proofs.law.one_grammar.Goals as goal

-- the trees are one, and so are what they say
same : (tokens : List Spelled) (a b : Source) → IsGrammarText tokens a → IsGrammarText tokens b → a ≡ b
same tokens a b (x, has, is) (y, also, too) = is ∙ ap source_of (one_reading x y tokens _ _ has also).0 ∙ sym too

pub returns : goal.returns
returns c = same
