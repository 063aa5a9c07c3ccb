-- An expansion that is under way.
use Rattle.std.specs.Prelude.{◌≡◌, List, [], ◌∷◌, ◌++◌, Bool}
use Rattle.g4_ordered.specs.Network.{LexerNetwork}
use Rattle.g4_ordered.specs.Configurations.{LexerConfig}
use Rattle.g4_ordered.specs.Leads.{leads, Expands}
use Rattle.g4_ordered.specs.Lists.{Appends, late_in}
use Rattle.g4_matching.specs.declared.entry.Entry.{Entry}
use Rattle.g4_matching.specs.declared.waiting.Waiting.{Waiting}
use Rattle.g4_matching.specs.declared.expanding.Expanding.{Expanding}
use Rattle.g4_matching.specs.Entries.{AreKnown, config_of, configs_of, stacked}
use Rattle.g4_matching.specs.Ends.{AreEnds}
use Rattle.g4_matching.specs.Returns.{Grows}

-- the configurations that wait, the next first
abbrev pub waiting_of : Waiting → List LexerConfig
waiting_of w = stacked w.returns w.entries.items

-- those that were appended
abbrev pub all_of : Expanding → List LexerConfig
all_of x = configs_of x.waiting.returns x.all

-- the return states are in the store, and the ends in the list are noted
pub record IsSound (net : LexerNetwork) (x : Expanding) : Type 0 where
  pub waiting : AreKnown x.waiting.returns x.waiting.entries.items
  pub listed : AreKnown x.waiting.returns x.all
  pub ends : AreEnds net x.all x.ends

-- the entry is appended, and what it leads to put on top
pub record TakesIn (net : LexerNetwork) (last : Bool) (entry : Entry) (old new : Expanding) : Type 0 where
  pub sound : IsSound net new
  pub grows : Grows old.waiting.returns new.waiting.returns
  pub appended : all_of new ≡ all_of old ++ config_of old.waiting.returns entry ∷ []
  pub leading : waiting_of new.waiting ≡ leads net last (config_of old.waiting.returns entry) ++ waiting_of old.waiting

-- the list has what the starts expand to, appended in its order
pub record IsExpansion (net : LexerNetwork) (last in_step : Bool) (starts list : List LexerConfig) : Type 0 where
  pub expansion : List LexerConfig
  pub expands : Expands net last starts expansion
  pub appends : Appends (late_in net in_step) list expansion []
