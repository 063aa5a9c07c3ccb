-- The events of a tree: each node's beginning, its children in order, and its end.
use Rattle.std.specs.Prelude.{ℕ, ◌-◌, List, [], ◌∷◌, ◌++◌, Option, Some, None, codes, slice_get}
use Rattle.std.specs.List.{flat_map}
use Rattle.std.specs.Fmt.{decimal}
use Rattle.g4_tokens.specs.declared.token.Tokens.{Tokens}
use Rattle.g4_source.specs.declared.rule.ParserRule.{ParserRule}
use Rattle.g4_source.specs.declared.rule.RuleAlternative.{RuleAlternative}
use Rattle.g4_trees.specs.declared.tree.Item.{Item}
use Rattle.g4_trees.specs.declared.events.Event.{Event}
use Rattle.g4_trees.specs.declared.events.Event.TheVariants as events
use Rattle.g4_trees.specs.Trees.{Tree, leaf, node, Forest, no_tree, a_tree, tree_of}
use Rattle.g4_trees.specs.TreeText.{text_at}

abbrev mutual
  -- the events of a tree
  pub events_of : Tree → List Event
  events_of (leaf at) = events.Token at ∷ []
  events_of (node rule alt at children) = events.Enter rule alt ∷ (events_of_all children ++ events.Exit rule alt ∷ [])

  -- the events of trees one after another
  pub events_of_all : Forest → List Event
  events_of_all no_tree = []
  events_of_all (a_tree t ts) = events_of t ++ events_of_all ts

-- the events of a tree, where there is one
abbrev pub events_of_some : Option Tree → List Event
events_of_some None = []
events_of_some (Some t) = events_of t

-- the events of the tree whose items these are
abbrev pub tree_events : List Item → List Event
tree_events xs = events_of_some (tree_of xs)

-- a label's name, or else this one
abbrev pub label_or : List ℕ → Option (List ℕ) → List ℕ
label_or name None = name
label_or name (Some label) = label

-- what an alternative that was looked up is called, in a rule of this name: its label, if it has one
abbrev pub called_by : {A : Type 0} → List ℕ → Option (RuleAlternative A) → List ℕ
called_by name None = name
called_by name (Some alternative) = label_or name alternative.label

-- what an alternative of a rule that was looked up is called; alternatives count from 1
abbrev pub called_in : {A : Type 0} → Option (ParserRule A) → ℕ → List ℕ
called_in None alt = []
called_in (Some rule) alt = called_by rule.name (slice_get rule.alternatives (alt - 1))

-- what a node of this rule and alternative is called in events: the alternative's label, if it has one, else the rule's name
abbrev pub called : {A : Type 0} → List (ParserRule A) → ℕ → ℕ → List ℕ
called rules rule alt = called_in (slice_get rules (rule - 1)) alt

module _ {A : Type 0} (rules : List (ParserRule A)) (tokens : Tokens) where
  -- `enter R ALT`, `token TEXT`, `exit R ALT`
  abbrev pub event_text : Event → List ℕ
  event_text (events.Enter rule alt) = codes "enter " ++ (called rules rule alt ++ (codes " " ++ decimal alt))
  event_text (events.Token at) = codes "token " ++ text_at tokens at
  event_text (events.Exit rule alt) = codes "exit " ++ (called rules rule alt ++ (codes " " ++ decimal alt))

  -- `NAME: enter R ALT`
  abbrev pub event_line : List ℕ → Event → List ℕ
  event_line name event = name ++ (codes ": " ++ (event_text event ++ codes "\n"))

  -- the lines of events, in order
  abbrev pub event_lines : List ℕ → List Event → List ℕ
  event_lines name all = flat_map (event_line name) all
