-- Matches that `clap` gives: the words have no fault, and the matches have the subcommand that the words name.
use Rattle.std.proofs.Common.{◌≡◌, List, [], subst, true, refl}
use Rattle.clap.specs.Words.{App, HasMatchesOf, Text, fault_of, is_simple_and_free, subcommand_of, subcommand_rows_of}
use Rattle.clap.specs.declared.parser.matches.ArgMatches.{ArgMatches}
use Rattle.g4_words.specs.App.{g4_app}

-- the words have no fault for the command line that the app is
pub no_fault : (app : App) (words : List Text) → app ≡ g4_app → (is_simple_and_free app ≡ true → fault_of app words ≡ [])
    → fault_of g4_app words ≡ []
no_fault app words is kinds = subst (λ (a : App). is_simple_and_free a ≡ true → fault_of a words ≡ []) is kinds refl

-- the matches have the subcommand that the words name
pub same_subcommand : (app : App) (words : List Text) (matches : ArgMatches) → app ≡ g4_app → HasMatchesOf app words matches
    → subcommand_rows_of matches ≡ subcommand_of g4_app words
same_subcommand app words matches is has = (subst (λ (a : App). HasMatchesOf a words matches) is has refl).1
