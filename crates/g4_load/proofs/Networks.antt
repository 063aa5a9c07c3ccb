-- The network of what is built for parsing is that of the grammar's rules, as they are run, from the start rule.
use Rattle.std.proofs.Common.{◌≡◌, ℕ, List, [], ◌∷◌, Option, Ok, sym, subst}
use Rattle.g4_tokens.specs.Symbols.{eof}
use Rattle.g4_layout.specs.Built.{IsBuilt}
use Rattle.g4_leftrec.specs.Rewriting.{numberings, rewritten}
use Rattle.g4_lexer_rules.specs.Lexers.{GivesLexer}
use Rattle.g4_load.specs.Building.{Builds, FromGrammar, HasLexer, Lays, interpreter_of}
use Rattle.g4_load.specs.Faults.{of_lexer}
use Rattle.g4_fetch.specs.Files.{Files}
use Rattle.g4_load.specs.Loading.{Loads}
use Rattle.g4_load.specs.Stages.{Gives, OfFile}
use Rattle.g4_load.specs.Usable.{IsNetworkFrom}
use Rattle.g4_load.specs.declared.interpreter.Interpreter.{Interpreter}
use Rattle.g4_load.proofs.Stages.{both_give, file_gives}

-- what is built has the network that is laid
pub network_from : (files : Files) (library : Option (List ℕ)) (name start : List ℕ) (fetched : List (List ℕ))
    (interpreter : Interpreter) → Builds files library name start fetched (Ok interpreter) → IsNetworkFrom interpreter start
network_from files library name start fetched interpreter builds =
    let a = both_give (Loads files library name fetched) (λ grammar. OfFile name (FromGrammar start grammar)) interpreter builds in
    let b = both_give (Lays start a.0.rules) (HasLexer a.0) interpreter (file_gives name (FromGrammar start a.0) interpreter a.2) in
    let c = both_give (Gives (GivesLexer a.0.lexer.0 a.0.lexer.1) of_lexer) (λ lexer result. result ≡ Ok (interpreter_of a.0 b.0 lexer))
    interpreter b.2 in
    let same : interpreter ≡ interpreter_of a.0 b.0 c.0 = (let e = c.2 in cc) in
    subst (λ (i : Interpreter). IsBuilt (eof ∷ []) (rewritten i.rules) (numberings i.rules) start i.net) (sym same) b.1
