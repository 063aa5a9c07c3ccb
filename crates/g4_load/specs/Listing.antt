-- The states of a rule of a grammar are listed.
use Rattle.std.specs.Prelude.{◌≡◌, ℕ, List, Option, Some, Result, Ok, Err}
use Rattle.g4_net.specs.declared.network.State.TheVariants.{Call}
use Rattle.g4_net.specs.Network.{ParserNetwork, state_at}
use Rattle.g4_netlist.specs.Listing.{IsListing}
use Rattle.g4_load.specs.Building.{Lays, names_of}
use Rattle.g4_fetch.specs.Files.{Files}
use Rattle.g4_load.specs.Loading.{Loads}
use Rattle.g4_load.specs.Stages.{Then, OfFile}
use Rattle.g4_load.specs.declared.loading.Loaded.{Loaded}
use Rattle.g4_load.specs.declared.fault.GrammarFault.{GrammarFault}
use Rattle.g4_load.specs.declared.stop.Stop.{Stop}

-- the start rule of a network: the one that the added rule calls
abbrev pub IsStartRule : ParserNetwork → ℕ → Type 0
IsStartRule net rule = (back : ℕ) × (state_at net 0 ≡ Some (Call rule 0 back))

-- the bytes are the listing of the start rule, where rules have these names and these are shown of the token types
abbrev pub IsStartListing : List (List ℕ) → List (List ℕ) → ParserNetwork → List ℕ → Type 0
IsStartListing names shown net bytes = (rule : ℕ) × IsStartRule net rule × IsListing names shown net rule bytes

-- the listing of the start rule of a network, which has no fault
abbrev pub ListsStart : List (List ℕ) → List (List ℕ) → ParserNetwork → Result (List ℕ) GrammarFault → Type 0
ListsStart names shown net (Ok bytes) = IsStartListing names shown net bytes
ListsStart names shown net (Err fault) = ⊥

-- the listing of a rule of a grammar, whose network has it as its start rule, or the first fault of that
abbrev pub FromRule : List ℕ → Loaded → Result (List ℕ) GrammarFault → Type 0
FromRule rule grammar = Then (Lays rule grammar.rules) (ListsStart (names_of grammar.rules) grammar.shown)

-- the listing of a rule of the grammar in a file, or the first fault of loading it and of its network
abbrev pub Lists : Files → Option (List ℕ) → List ℕ → List ℕ → List (List ℕ) → Result (List ℕ) Stop → Type 0
Lists files library name rule fetched = Then (Loads files library name fetched) (λ grammar. OfFile name (FromRule rule grammar))
