-- A grammar is built: it is loaded, and its networks are laid.
use Rattle.std.specs.Prelude.{◌≡◌, ℕ, List, [], map, Option, Result, Ok}
use Rattle.g4_lexer.specs.declared.lexer.Lexer.{Lexer}
use Rattle.g4_grammar.specs.StepRules.{StepRule}
use Rattle.g4_net.specs.Network.{ParserNetwork}
use Rattle.g4_leftrec.specs.Rewriting.{rewritten, numberings}
use Rattle.g4_build.specs.Answers.{GivesNetwork}
use Rattle.g4_build.specs.declared.builder.BuildFault.{BuildFault}
use Rattle.g4_load.specs.Faults.{of_build, of_lexer}
use Rattle.g4_fetch.specs.Files.{Files}
use Rattle.g4_load.specs.Loading.{Loads}
use Rattle.g4_load.specs.Stages.{Gives, Then, OfFile}
use Rattle.g4_lexer_rules.specs.Lexers.{GivesLexer}
use Rattle.g4_load.specs.declared.interpreter.Interpreter.{Interpreter}
use Rattle.g4_load.specs.declared.loading.Loaded.{Loaded}
use Rattle.g4_load.specs.declared.fault.GrammarFault.{GrammarFault}
use Rattle.g4_load.specs.declared.stop.Stop.{Stop}

-- the names of rules
abbrev pub names_of : List StepRule → List (List ℕ)
names_of rules = map (λ rule. rule.name) rules

-- a grammar with its network and its lexer, no flags being given
abbrev pub interpreter_of : Loaded → ParserNetwork → Lexer → Interpreter
interpreter_of grammar net lexer = record {
  names = names_of grammar.rules;
  rules = grammar.rules;
  predicates = grammar.predicates;
  flags = [];
  shown = grammar.shown;
  lexer = lexer;
  net = net;
}

-- the network of rewritten rules from the start rule, or why they have none
abbrev pub GivesRewritten : List ℕ → List StepRule → Result ParserNetwork BuildFault → Type 0
GivesRewritten start rules = GivesNetwork (rewritten rules) (numberings rules) start

-- the network of the rules from the start rule, or the first fault of that
abbrev pub Lays : List ℕ → List StepRule → Result ParserNetwork GrammarFault → Type 0
Lays start rules = Gives (GivesRewritten start rules) (of_build start)

-- the grammar with this network and its lexer, whose network has no more than 65,536 states, or that it would have more
abbrev pub HasLexer : Loaded → ParserNetwork → Result Interpreter GrammarFault → Type 0
HasLexer grammar net = Then (Gives (GivesLexer grammar.lexer.0 grammar.lexer.1) of_lexer)
    (λ lexer result. result ≡ Ok (interpreter_of grammar net lexer))

-- a grammar with both networks, the parser's from the start rule, or the first fault of them
abbrev pub FromGrammar : List ℕ → Loaded → Result Interpreter GrammarFault → Type 0
FromGrammar start grammar = Then (Lays start grammar.rules) (HasLexer grammar)

-- what files are parsed with from the start rule, or the first fault of loading and building
abbrev pub Builds : Files → Option (List ℕ) → List ℕ → List ℕ → List (List ℕ) → Result Interpreter Stop → Type 0
Builds files library name start fetched = Then (Loads files library name fetched) (λ grammar. OfFile name (FromGrammar start grammar))
