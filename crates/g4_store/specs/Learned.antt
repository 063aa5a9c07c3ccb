-- What a pass has after it learned some facts.
use Rattle.std.specs.Prelude.{◌≡◌, ℕ, List, Bool, true}
use Rattle.g4_store.specs.declared.automaton.Fact.{Fact}
use Rattle.g4_store.specs.declared.book.Learned.{Learned}
use Rattle.g4_store.specs.declared.book.Learned.TheVariants.{All, Full}
use Rattle.g4_store.specs.declared.view.View.{View}
use Rattle.g4_store.specs.Paths.{LearnsAll, LearnsPart}

-- what was learned, and whether the pass has met with a want of room
abbrev pub IsLearned : {C : Type 0} → ℕ → List (Fact C) → View C × Bool → View C × Bool → Learned → Type 0
IsLearned most facts old new All = LearnsAll facts old.0 new.0 × (new.1 ≡ old.1)
IsLearned most facts old new Full = LearnsPart most facts old.0 new.0 × (new.1 ≡ true)
