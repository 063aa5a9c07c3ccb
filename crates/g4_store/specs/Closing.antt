-- What is left when the store is closed.
use Rattle.std.specs.Prelude.{◌≡◌, ℕ, List}
use mathlib.Core.Option.{some}
use lib.ListN.{get_elem?}
use Rattle.g4_store.specs.declared.automaton.Led.{Led}
use Rattle.g4_store.specs.declared.automaton.Fact.{Fact}
use Rattle.g4_store.specs.declared.automaton.Plan.{Plan}
use Rattle.g4_store.specs.declared.view.View.{View}
use Rattle.g4_store.specs.Numbers.{Among}
use Rattle.g4_store.specs.Words.{Stands, Shows}
use Rattle.g4_store.specs.Views.{IsWhole, IsNamed}

module _ {N C : Type 0} (starts : N → ℕ → C → Type 0) (leads : N → C → ℕ → Led C → Type 0) where
  -- The words are sound, and have all that the pass has seen. Of a whole pass they have exactly what it has taught.
  pub record Closes (p : Plan N) (pass : View C) (words : List ℕ) (rows : List C) : Type 0 where
    pub shows : Shows starts leads p words rows
    pub seen : (f : Fact C) → Among f pass.seen → Stands p words rows f
    pub taught : (f : Fact C) → Among f pass.taught → Among f pass.seen
    pub known : (t : ℕ) (y : C) → Among (t, y) pass.known → get_elem? rows t ≡ some y
    pub named : (t : ℕ) (y : C) → get_elem? rows t ≡ some y → IsNamed p words rows y
    pub whole : IsWhole pass → (f : Fact C) → Stands p words rows f → Among f pass.taught
