-- Paths, and what learning one does.
use Rattle.std.specs.Prelude.{◌≡◌, ◌⊎◌, ◌↔◌, ℕ, ◌<◌, List, [], ◌∷◌, ◌++◌, length, Bool, true, false, Option, Some, None}
use mathlib.Core.Option as maybe
use lib.ListN.{get_elem?}
use Rattle.g4_store.specs.declared.automaton.Led.{Led}
use Rattle.g4_store.specs.declared.automaton.Led.TheVariants.{Row, End}
use Rattle.g4_store.specs.declared.automaton.Fact.{Fact}
use Rattle.g4_store.specs.declared.automaton.Fact.TheVariants.{Start, Cell}
use Rattle.g4_store.specs.declared.automaton.Plan.{Plan}
use Rattle.g4_store.specs.declared.path.Looked.{Looked}
use Rattle.g4_store.specs.declared.path.Origin.{Origin}
use Rattle.g4_store.specs.declared.path.Origin.TheVariants.{AtStart, AtRow}
use Rattle.g4_store.specs.declared.path.Path.{Path}
use Rattle.g4_store.specs.declared.view.View.{View}
use Rattle.g4_store.specs.Known.{HasAllRows}
use Rattle.g4_store.specs.Numbers.{Among}
use Rattle.g4_store.specs.Views.{guest_of, told_guest}

module _ {C : Type 0} where
  -- the row that is led to is in P
  abbrev pub Onward : Led C → (C → Type 0) → Type 0
  Onward (Row y mark) P = P y
  Onward (End code) P = Unit {0}

  -- the contents of a fact are in P
  abbrev pub Within : (C → Type 0) → Fact C → Type 0
  Within P (Start i y) = P y
  Within P (Cell x s led) = P x × Onward led P

  -- the list of rows has the content
  abbrev pub InRows : List C → C → Type 0
  InRows rows y = (t : ℕ) × (get_elem? rows t ≡ maybe.some y)

  -- a row of this content is known by its number
  abbrev pub InKnown : List (ℕ × C) → C → Type 0
  InKnown known y = (t : ℕ) × Among (t, y) known

  -- the content is named by one of the facts
  abbrev pub IsIn : C → Fact C → Type 0
  IsIn y (Start i z) = z ≡ y
  IsIn y (Cell x s (Row z mark)) = (x ≡ y) ⊎ (z ≡ y)
  IsIn y (Cell x s (End code)) = x ≡ y

  abbrev pub HasRow : List (Fact C) → C → Type 0
  HasRow fs y = (f : Fact C) × Among f fs × IsIn y f

  -- the cells from a content on
  abbrev pub next_facts : Led C → (C → List (Fact C)) → List (Fact C)
  next_facts (Row y mark) f = f y
  next_facts (End code) f = []

  abbrev pub cells_of : C → List (Looked C) → List (Fact C)
  cells_of x [] = []
  cells_of x (l ∷ ls) = Cell x l.column l.led ∷ next_facts l.led (λ y. cells_of y ls)

  -- the start and the cells of a path
  abbrev pub facts_of : Path C → List (Fact C)
  facts_of path = Start path.start path.content ∷ cells_of path.content path.looked.items

  -- the facts where learning begins
  abbrev pub first_facts : Origin C → C → List (Fact C)
  first_facts (AtStart i y) x = Start i x ∷ []
  first_facts (AtRow r) x = []

  -- whether a fact that was taken in was stored now: then it was in none of the facts before, and else it was among them
  abbrev pub Stores : Fact C → List (Fact C) → List (Fact C) → Type 0
  Stores f facts stored = ((stored ≡ []) × Among f facts) ⊎ ((stored ≡ f ∷ []) × (Among f facts → ⊥))

  -- the bench after it took in a fact
  abbrev pub took : Fact C → List (ℕ × C) → List (Fact C) → List C → View C → View C
  took f told stored rows v =
      record v {
        rows = rows;
        loose = [];
        facts = stored ++ v.facts;
        seen = f ∷ v.seen;
        taught = stored ++ v.taught;
        known = told ++ v.known;
      }

  -- The fact f with the row y was taken in: its row has number t.
  pub record Takes (most : ℕ) (f : Fact C) (y : C) (t : ℕ) (old new : View C) : Type 0 where
    pub told : List (ℕ × C)
    pub tells : (u : ℕ) (z : C) → Among (u, z) told → z ≡ y
    pub known : (u : ℕ) × Among (u, y) told
    pub row : get_elem? new.rows t ≡ maybe.some y
    pub stored : List (Fact C)
    pub stores : Stores f old.facts stored
    pub is : new ≡ took f told stored new.rows old
    pub rows : (new.rows ≡ old.rows) ⊎ ((new.rows ≡ old.rows ++ y ∷ []) × (length old.rows < most))

  -- there was no room for the row y
  pub record Refuses (most : ℕ) (y : C) (old new : View C) : Type 0 where
    pub same : new ≡ old
    pub all : length old.rows ≡ most
    pub missing : InRows old.rows y → ⊥

  abbrev pub TakesOr : ℕ → Fact C → C → View C → View C → Option ℕ → Type 0
  TakesOr most f y old new None = Refuses most y old new
  TakesOr most f y old new (Some t) = Takes most f y t old new

  -- the number is that of a row with this content, which is known
  abbrev pub HasKnownRow : View C → ℕ → C → Type 0
  HasKnownRow v r x = (get_elem? v.rows r ≡ maybe.some x) × InKnown v.known x

  -- the pass knows the row of this number, which has this content
  abbrev pub IsKnownRow : View C → ℕ → C → Type 0
  IsKnownRow v r x = Among (r, x) v.known

  -- where learning is in the path: at the row of x, or past rows for which there was no room
  abbrev pub IsAt : View C → Bool → C → Option ℕ → Type 0
  IsAt v full x (Some r) = (get_elem? v.rows r ≡ maybe.some x) × (full ≡ false → InKnown v.known x)
  IsAt v full x None = (full ≡ true) × (InRows v.rows x → ⊥)

  -- A fact without a row was taken in.
  pub record TakesEnd (f : Fact C) (old new : View C) : Type 0 where
    pub stored : List (Fact C)
    pub stores : Stores f old.facts stored
    pub is : new ≡ took f [] stored old.rows old

  -- The facts were learned as far as there was room. Those that are stored are the ones that were in no word before.
  pub record Followed (most : ℕ) (done : List (Fact C)) (old new : View C) (full : Bool) : Type 0 where
    pub loose : new.loose ≡ []
    pub holds : new.holds ≡ old.holds
    pub count : new.count ≡ old.count
    pub looks : new.looks ≡ old.looks
    pub stored : List (Fact C)
    pub facts : new.facts ≡ stored ++ old.facts
    pub taught : new.taught ≡ stored ++ old.taught
    pub stores : (f : Fact C) → Among f stored → Among f done × Within (InRows new.rows) f × (Among f old.facts → ⊥)
    pub seen_kept : (f : Fact C) → Among f old.seen → Among f new.seen
    pub known_kept : (t : ℕ) (y : C) → Among (t, y) old.known → Among (t, y) new.known
    pub seen_new : (f : Fact C) → Among f new.seen → Among f old.seen ⊎ (Among f done × Within (InRows new.rows) f)
    pub known_new : (t : ℕ) (y : C) → Among (t, y) new.known → Among (t, y) old.known ⊎ HasRow done y
    pub whole : full ≡ false → (f : Fact C) → Among f done → Among f new.seen × Within (InKnown new.known) f
    pub all : full ≡ true → length new.rows ≡ most
    pub missing : full ≡ true → (y : C) × HasRow done y × (InRows new.rows y → ⊥)
    pub part : full ≡ true → (f : Fact C) → Among f done → Within (InRows new.rows) f → Among f new.seen

module _ {N C : Type 0} (starts : N → ℕ → C → Type 0) where
  -- learning begins at this content: that of a start, or of a row as HasContent tells
  abbrev pub BeginsAt : Plan N → (ℕ → C → Type 0) → Origin C → C → Type 0
  BeginsAt p HasContent (AtStart i y) x = (i < p.starts) × starts p.net i y × (y ≡ x)
  BeginsAt p HasContent (AtRow r) x = HasContent r x

module _ {N C : Type 0} (starts : N → ℕ → C → Type 0) (leads : N → C → ℕ → Led C → Type 0) where
  abbrev pub Next : Led C → (C → Type 0) → Type 0 → Type 0
  Next (Row y mark) P Q = P y
  Next (End code) P Q = Q

  -- each step leads on, and an end is last
  abbrev pub LeadsOn : Plan N → C → List (Looked C) → Type 0
  LeadsOn p x [] = Unit {0}
  LeadsOn p x (l ∷ ls) = (l.column < p.columns) × leads p.net x l.column l.led × Next l.led (λ y. LeadsOn p y ls) (ls ≡ [])

  abbrev pub IsPath : Plan N → Path C → Type 0
  IsPath p path = (path.start < p.starts) × starts p.net path.start path.content × LeadsOn p path.content path.looked.items

module _ {C : Type 0} where
  -- What learning some facts does in any case: exactly those of them are seen then whose rows are known then. Those that were stored
  -- are taught, and had not been seen.
  pub record Learns (facts : List (Fact C)) (old new : View C) : Type 0 where
    pub holds : new.holds ≡ old.holds
    pub count : new.count ≡ old.count
    pub looks : new.looks ≡ old.looks
    pub stored : List (Fact C)
    pub taught : new.taught ≡ stored ++ old.taught
    pub stores : (f : Fact C) → Among f stored → Among f facts × Within (InKnown new.known) f × (Among f old.seen → ⊥)
    pub seen : (f : Fact C) → Among f new.seen ↔ (Among f old.seen ⊎ (Among f facts × Within (InKnown new.known) f))
    pub known_kept : (t : ℕ) (y : C) → Among (t, y) old.known → Among (t, y) new.known

  -- all of them were learned
  pub record LearnsAll (facts : List (Fact C)) (old new : View C) : Type 0 where
    pub learns : Learns facts old new
    pub whole : (f : Fact C) → Among f facts → Within (InKnown new.known) f
    pub known_new : (t : ℕ) (y : C) → Among (t, y) new.known → Among (t, y) old.known ⊎ HasRow facts y

  -- there is no room: as many rows are known as there may be, and one of the facts has another
  pub record LearnsPart (most : ℕ) (facts : List (Fact C)) (old new : View C) : Type 0 where
    pub learns : Learns facts old new
    pub full : HasAllRows most new.known
    pub missing : (y : C) × HasRow facts y × (InKnown new.known y → ⊥)

  -- what the book fills is what the pass has taught then: exactly those of the facts that have rows and were in no word before
  pub record Fills (facts : List (Fact C)) (old new book book' : View C) : Type 0 where
    pub stored : List (Fact C)
    pub taught : new.taught ≡ stored ++ old.taught
    pub stand : book'.facts ≡ stored ++ book.facts
    pub stores : (f : Fact C) → Among f stored → Among f facts × Within (InRows book'.rows) f × (Among f book.facts → ⊥)
    pub filled : (f : Fact C) → Among f facts → Within (InRows book'.rows) f → Among f book'.facts

  abbrev pub LearnedBy : ℕ → List (Fact C) → View C → View C → Bool → Type 0
  LearnedBy most facts old new true = LearnsPart most facts old new
  LearnedBy most facts old new false = LearnsAll facts old new

  -- how the guest goes
  abbrev pub Sent : Bool → View C → View C → Type 0
  Sent true b v = v ≡ told_guest b
  Sent false b v = v ≡ guest_of b

  -- where learning some facts is, once what was looked at so far is done
  pub data Going (most : ℕ) (facts : List (Fact C)) (old new : View C) (full : Bool) (at : Option ℕ)
      (rest : List (Looked C)) (LeadsOn : C → Type 0) : Type 0 where
    goes : (x : C) (done : List (Fact C)) → Followed most done old new full → IsAt new full x at → LeadsOn x
        → facts ≡ done ++ cells_of x rest → Going most facts old new full at rest LeadsOn
    ended : Followed most facts old new full → rest ≡ [] → Going most facts old new full at rest LeadsOn
