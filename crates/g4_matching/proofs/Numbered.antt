-- Lists under their numbers, from one state of an automaton to the next.
use Rattle.std.proofs.Common.{◌≡◌, ℕ, ◌<◌, List, [], Option, length, slice_get, sym, ap, subst, ◌∙◌}
use Rattle.std.proofs.lemmas.Option.{slice_get_within}
use Rattle.g4_ordered.specs.declared.start.Start.{Start}
use Rattle.g4_ordered.specs.Network.{LexerNetwork}
use Rattle.g4_ordered.specs.Configurations.{LexerConfig}
use Rattle.g4_matching.specs.declared.automaton.Automaton.{Automaton}
use Rattle.g4_matching.specs.declared.learned.Learned.{Learned}
use Rattle.g4_matching.specs.declared.listing.Listing.{Listing}
use Rattle.g4_matching.specs.Automaton.{AreLearned, Has, HasEntries, HasList, KeepsLists}
use Rattle.g4_matching.specs.declared.rule_end.RuleEnd.{RuleEnd}
use Rattle.g4_matching.specs.Ends.{TellsEnd}
use Rattle.g4_matching.proofs.Lookups.{same_some}
use Rattle.g4_matching.specs.Entries.{configs_of}
use Rattle.g4_matching.specs.Partitions.{Classing}
use Rattle.g4_matching.specs.Listing.{returns_of, listed}

-- the list that was made last is the one under a number that has its entries
pub has_listed : (a : Automaton) (m : Listing) (n : ℕ) → a.listing ≡ m → HasEntries a n m.list.items → Has a n (listed m)
has_listed a m n same h = (
  h.0,
  h.1,
  ap (configs_of (returns_of a.listing)) h.2
      ∙ ap (λ (x : Listing). configs_of (returns_of x) m.list.items) same,
)

-- a list stays where the others do
pub kept_list : (old new : Automaton) (n : ℕ) (list : List LexerConfig) → new.listing ≡ old.listing → KeepsLists old new
    → Has old n list → Has new n list
kept_list old new n list same keeps h = (h.0, keeps n h.0 h.1, ap (λ (x : Listing). configs_of (returns_of x) h.0.entries.items) same ∙ h.2)

-- a number has one list
pub one_under : (returns : List (List ℕ)) (lists : List Learned) (n : ℕ) (list other : List LexerConfig)
    → HasList returns lists n list → HasList returns lists n other → list ≡ other
one_under returns lists n list other h k = sym h.2
    ∙ ap (λ (l : Learned). configs_of returns l.entries.items) (same_some h.0 k.0 (sym h.1 ∙ k.1)) ∙ k.2

-- what is kept with a list is the end that it gives
pub tells_at : (net : LexerNetwork) (modes : List (List Start)) (classes : Classing) (returns : List (List ℕ)) (lists : List Learned)
    (next firsts : List (Option ℕ)) (n : ℕ) (list : List LexerConfig) (end : Option RuleEnd)
    → AreLearned net modes classes returns lists next firsts
    → (h : HasList returns lists n list) → end ≡ h.0.end → TellsEnd net list end
tells_at net modes classes returns lists next firsts n list end sound h is =
    subst (TellsEnd net list) (sym is) (subst (λ (l : List LexerConfig). TellsEnd net l h.0.end) h.2 (sound.ends n h.0 h.1))

-- a list without entries has no configurations
pub empty_under : (returns : List (List ℕ)) (lists : List Learned) (n : ℕ) (list : List LexerConfig)
    → (h : HasList returns lists n list) → h.0.entries.items ≡ [] → list ≡ []
empty_under returns lists n list h none = sym h.2 ∙ ap (configs_of returns) none

-- a list with a number is one of the lists
pub under_within : (returns : List (List ℕ)) (lists : List Learned) (n : ℕ) (list : List LexerConfig) → HasList returns lists n list
    → n < length lists
under_within returns lists n list h = slice_get_within lists n h.0 h.1

-- a list stays where all are the same
pub same_lists : (old new : Automaton) (n : ℕ) (list : List LexerConfig) → new.listing ≡ old.listing → new.lists ≡ old.lists
    → Has old n list → Has new n list
same_lists old new n list listing lists h = kept_list old new n list listing (λ k l is. ap (λ (v : _). slice_get v.items k) lists ∙ is) h
