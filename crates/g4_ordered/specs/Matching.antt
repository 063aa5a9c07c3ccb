-- The match at the front of a text.
use Rattle.std.specs.Prelude.{◌≡◌, ℕ, ◌≤◌, ◌<◌, List, [], ◌∷◌, false, length, drop}
use Rattle.g4_ordered.specs.Network.{LexerNetwork}
use Rattle.g4_ordered.specs.Configurations.{LexerConfig, In}
use Rattle.g4_ordered.specs.Greedy.{IsGreedy}
use Rattle.g4_ordered.specs.Spelling.{SpellsText}
use Rattle.g4_ordered.specs.Single.{OfRule}
use Rattle.g4_ordered.specs.Lists.{IsAtEnd, HasEnd, ListAt}

-- c is the first member of the list that has the property
pub data IsFirst (P : LexerConfig → Type 0) : List LexerConfig → LexerConfig → Type 0 where
  here : (c : LexerConfig) (cs : List LexerConfig) → P c → IsFirst P (c ∷ cs) c
  later : (c d : LexerConfig) (cs : List LexerConfig) → (P d → ⊥) → IsFirst P cs c → IsFirst P (d ∷ cs) c

-- at the end of this rule
abbrev pub EndsRule : LexerNetwork → ℕ → LexerConfig → Type 0
EndsRule net rule c = (c.rule ≡ rule) × IsAtEnd net c

-- the list after the first n characters
abbrev pub ListAfter : LexerNetwork → List LexerConfig → List ℕ → ℕ → List LexerConfig → Type 0
ListAfter net starts text n list = (n ≤ length text) × ListAt net starts text (drop n text) list

-- The end that a list gives: of the least rule that ends there, the first.
pub record IsLeastEnd (net : LexerNetwork) (list : List LexerConfig) (rule alternative : ℕ) : Type 0 where
  pub first : (c : LexerConfig) × IsFirst (EndsRule net rule) list c × (c.alternative ≡ alternative)
  pub least : (r : ℕ) → HasEnd net list r → rule ≤ r

-- The match has n characters, one or more, of this rule and this outer alternative of it: after them the list has a rule's
-- end, and gives this one; after no longer prefix has it a rule's end.
pub record IsMatch (net : LexerNetwork) (starts : List LexerConfig) (text : List ℕ) (n rule alternative : ℕ) : Type 0 where
  pub some : 1 ≤ n
  pub list : List LexerConfig
  pub after : ListAfter net starts text n list
  pub longest : (m r : ℕ) (other : List LexerConfig) → n < m → ListAfter net starts text m other → HasEnd net other r → ⊥
  pub tells : IsLeastEnd net list rule alternative

-- no prefix of one character or more has a match
abbrev pub NoMatch : LexerNetwork → List LexerConfig → List ℕ → Type 0
NoMatch net starts text = (m r : ℕ) (list : List LexerConfig) → 1 ≤ m → ListAfter net starts text m list → HasEnd net list r → ⊥

-- the list has the end of this rule's alternative
abbrev pub HasEndOf : LexerNetwork → List LexerConfig → ℕ → ℕ → Type 0
HasEndOf net list rule alternative = (e : LexerConfig) × In e list × (e.rule ≡ rule) × (e.alternative ≡ alternative) × IsAtEnd net e

-- this rule's alternative spells what is in w before v
abbrev pub Spelled : LexerNetwork → List LexerConfig → ℕ → ℕ → List ℕ → List ℕ → Type 0
Spelled net starts rule alternative w v = (s : LexerConfig) × In s starts × (s.rule ≡ rule) × (s.alternative ≡ alternative)
    × SpellsText net s.state w v

-- this rule's alternative spells the first n characters
abbrev pub SpellsFront : LexerNetwork → List LexerConfig → List ℕ → ℕ → ℕ → ℕ → Type 0
SpellsFront net starts text rule alternative n = (n ≤ length text) × Spelled net starts rule alternative text (drop n text)

-- the list of this rule alone has the end of this alternative after the first n characters
pub record MatchesAlone (net : LexerNetwork) (starts : List LexerConfig) (text : List ℕ) (rule alternative n : ℕ) : Type 0 where
  pub own : List LexerConfig
  pub list : List LexerConfig
  pub of_rule : OfRule rule starts own
  pub after : ListAfter net own text n list
  pub end : HasEndOf net list rule alternative

-- configurations that a match may begin with
abbrev pub AreFresh : List LexerConfig → Type 0
AreFresh starts = (s : LexerConfig) → In s starts → (s.returns ≡ []) × (s.passed ≡ false)

-- the rule has no non-greedy part, the rules that it calls included
abbrev pub IsGreedyRule : LexerNetwork → List LexerConfig → ℕ → Type 0
IsGreedyRule net starts rule = (s : LexerConfig) → In s starts → s.rule ≡ rule → IsGreedy net s.state

-- of two configurations of one rule, the first has the lesser alternative, or the same
pub data InOrder : List LexerConfig → Type 0 where
  no_more : InOrder []
  more : (c : LexerConfig) (cs : List LexerConfig) → ((d : LexerConfig) → In d cs → d.rule ≡ c.rule → c.alternative ≤ d.alternative)
      → InOrder cs → InOrder (c ∷ cs)

-- By what rules' alternatives match: none matches more characters; of the rules that match as many it is the least; of
-- its alternatives that do, the first.
pub record IsBest (Matches : ℕ → ℕ → ℕ → Type 0) (n rule alternative : ℕ) : Type 0 where
  pub some : 1 ≤ n
  pub matches : Matches rule alternative n
  pub longest : (m r i : ℕ) → Matches r i m → m ≤ n
  pub first_rule : (r i : ℕ) → Matches r i n → rule ≤ r
  pub first_alternative : (i : ℕ) → Matches rule i n → alternative ≤ i
