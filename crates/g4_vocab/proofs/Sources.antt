-- The vocabulary of a grammar, from that of its parser rules, its lexer rules and the tokens that it names.
use Rattle.std.proofs.Common.{◌≡◌, ◌≤◌, List, length, Ok, Err, refl, sym, ◌∙◌}
use Rattle.g4_source.specs.declared.atom.Atom.{Atom}
use Rattle.g4_source.specs.declared.atom.Literal.{Literal}
use Rattle.g4_source.specs.declared.atom.TokenReference.{TokenReference}
use Rattle.g4_source.specs.declared.rule.ParserRule.{ParserRule}
use Rattle.g4_source.specs.declared.rule.LexerRule.{LexerRule}
use Rattle.g4_source.specs.declared.source.Source.{Source}
use Rattle.g4_token_file.specs.declared.entry.TokenEntry.{TokenEntry}
use Rattle.g4_vocab.specs.declared.fault.TheConstants.{MOST_RULES}
use Rattle.g4_vocab.specs.declared.fault.NumberFault.{NumberFault}
use Rattle.g4_vocab.specs.declared.fault.NumberFault.TheVariants.{Rules, Types, NoMemory}
use Rattle.g4_vocab.specs.declared.named.Named.{Named}
use Rattle.g4_vocab.specs.declared.vocabulary.Vocabulary.{Vocabulary}
use Rattle.g4_vocab.specs.Tables.{Adds, AreNamed, own_by, wanted_by}
use Rattle.g4_vocab.specs.Halves.{AreHalves}
use Rattle.g4_vocab.specs.Numbering.{all_atoms, all_references, own_literals, own_of, wanted_of}
use Rattle.g4_vocab.specs.Answers.{CausesNumberFault, GivesTypes, GivesVocabulary}

-- what is answered where the tokens have no types
pub types_err : (table : List TokenEntry) (lexers : List LexerRule) (named : Named) (fault : NumberFault)
    → Adds table (wanted_by lexers named) (Err fault) → GivesTypes table lexers named (Err fault)
types_err table lexers named Rules h = h
types_err table lexers named Types h = h
types_err table lexers named NoMemory h = tt

-- the literals of their own of the tokens that parser rules name
pub own_are : (source : Source) (parsers : List (ParserRule Atom)) (lexers : List LexerRule) (tokens : List TokenReference)
    (own : List Literal) → AreHalves source.rules parsers lexers → tokens ≡ all_references (all_atoms parsers)
    → own ≡ own_literals lexers tokens → own ≡ own_of source
own_are source parsers lexers tokens own halves named is = is ∙ rw (named, halves.lexers_are, halves.parsers_are) refl

module _ (table : List TokenEntry) (source : Source) (parsers : List (ParserRule Atom)) (lexers : List LexerRule) (named : Named)
    (halves : AreHalves source.rules parsers lexers) (are : AreNamed source parsers named) (few : length source.rules ≤ MOST_RULES) where
  -- the literals of their own are those of the grammar
  own : own_by lexers named ≡ own_of source
  own = rw (are.tokens, halves.lexers_are, halves.parsers_are) refl

  -- what is wanted of the halves is what is wanted of the grammar
  same : wanted_by lexers named ≡ wanted_of source
  same = rw (are.declared, are.tokens, are.commanded, halves.lexers_are, halves.parsers_are) refl

  -- the vocabulary of the grammar
  pub rules_ok : (vocabulary : Vocabulary) → GivesTypes table lexers named (Ok vocabulary) → GivesVocabulary table source (Ok vocabulary)
  rules_ok vocabulary h = record {
    fits = record { few_rules = few; few_types = h.few; lexers = h.lexers_are ∙ halves.lexers_are };
    own = h.own_are ∙ own;
    types = h.types_are ∙ rw same refl;
  }

  -- or a fault
  pub rules_err : (fault : NumberFault) → GivesTypes table lexers named (Err fault) → CausesNumberFault table source fault
  rules_err Rules h = absurd h
  rules_err Types h = (few, rw (sym same) h)
  rules_err NoMemory h = tt
