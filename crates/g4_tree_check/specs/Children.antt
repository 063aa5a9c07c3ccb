-- Which children of a node a step reads.
use Rattle.std.specs.Prelude.{ℕ, List, Bool, true, false, ◌==◌, Option, Some, None, slice_get}
use Rattle.std.specs.List.{list_any}
use Rattle.g4_grammar.specs.declared.step.Step.{Step}
use Rattle.g4_grammar.specs.declared.step.Step.TheVariants.{Edge, Call, Predicate, Level, Action, Empty}
use Rattle.g4_trees.specs.declared.tree.Item.{Item}
use Rattle.g4_trees.specs.declared.tree.Item.TheVariants as items
use Rattle.g4_tree_check.specs.declared.child.Child.{Child}
use Rattle.g4_tree_check.specs.declared.child.Child.TheVariants as children

-- a token of this symbol, if there is one
abbrev pub symbol_child : Option ℕ → Child
symbol_child None = children.Nothing
symbol_child (Some symbol) = children.Symbol symbol

-- the child that begins with this item, over this word
abbrev pub child_of : List ℕ → Item → Child
child_of word (items.Enter rule alt at) = children.Node rule
child_of word (items.Token at) = symbol_child (slice_get word at)
child_of word items.Exit = children.Nothing

-- whether a step reads the child
abbrev pub takes : Child → Step (List ℕ) → Bool
takes (children.Symbol symbol) (Edge set) = list_any (λ a. symbol == a) set
takes (children.Node rule) (Call called level) = called == rule
takes child step = false

-- whether a step reads nothing
abbrev pub is_quiet : Step (List ℕ) → Bool
is_quiet (Edge set) = false
is_quiet (Call rule level) = false
is_quiet (Predicate k) = true
is_quiet (Level q) = true
is_quiet Action = true
is_quiet Empty = true
