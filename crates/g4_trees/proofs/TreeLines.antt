-- Events and their lines.
use Rattle.std.proofs.Common.{◌≡◌, [], ◌∷◌, ◌++◌, ℕ, List, codes, refl, sym, ◌∙◌, ap, append_assoc, append-nil, ◌+◌, ◌<◌, length, get_or, drop}
use Rattle.std.proofs.lemmas.List.{drop_more}
use Rattle.std.specs.Prelude.{Option, Some, None, option_to_list}
use Rattle.g4_tokens.specs.declared.token.Tokens.{Tokens}
use Rattle.g4_source.specs.declared.rule.ParserRule.{ParserRule}
use Rattle.g4_trees.specs.declared.tree.Item.{Item}
use Rattle.g4_trees.specs.declared.tree.Item.TheVariants as items
use Rattle.g4_trees.specs.declared.events.Event.{Event}
use Rattle.g4_trees.specs.declared.events.Event.TheVariants as events
use Rattle.g4_trees.specs.Appending.{AddsFront}
use Rattle.g4_trees.proofs.Appended.{Leaves, front_of_next, leaves_less, leaves_same}
use Rattle.g4_trees.specs.Events.{events_of, events_of_all, event_line, event_lines}
use Rattle.g4_trees.specs.Steps.{events_from}
use Rattle.g4_trees.specs.Trees.{Tree, leaf, node, Forest, no_tree, a_tree, items_of, items_of_all}

mutual
  -- a tree before other items
  pub tree_events_first : (ends : List Event) (t : Tree) (rest : List Item)
      → events_from ends (items_of t ++ rest) ≡ events_of t ++ events_from ends rest
  tree_events_first ends (leaf at) rest = refl
  tree_events_first ends (node rule alt at children) rest =
      ap (λ (es : List Event). events.Enter rule alt ∷ es)
      (ap (events_from (events.Exit rule alt ∷ ends)) (append_assoc (items_of_all children) (items.Exit ∷ []) rest)
      ∙ trees_events_first (events.Exit rule alt ∷ ends) children (items.Exit ∷ rest)
      ∙ sym (append_assoc (events_of_all children) (events.Exit rule alt ∷ []) (events_from ends rest)))

  -- trees before other items
  pub trees_events_first : (ends : List Event) (ts : Forest) (rest : List Item)
      → events_from ends (items_of_all ts ++ rest) ≡ events_of_all ts ++ events_from ends rest
  trees_events_first ends no_tree rest = refl
  trees_events_first ends (a_tree t ts) rest =
      ap (events_from ends) (append_assoc (items_of t) (items_of_all ts) rest)
      ∙ tree_events_first ends t (items_of_all ts ++ rest)
      ∙ ap (λ (es : List Event). events_of t ++ es) (trees_events_first ends ts rest)
      ∙ sym (append_assoc (events_of t) (events_of_all ts) (events_from ends rest))

-- the items of a tree have its events
pub events_from_tree : (t : Tree) → events_from [] (items_of t) ≡ events_of t
events_from_tree t = ap (events_from []) (sym (append-nil (items_of t))) ∙ tree_events_first [] t [] ∙ append-nil (events_of t)

-- the parts of a line
pub line_parts : (name word rest : List ℕ) → (name ++ (codes ": " ++ word)) ++ (rest ++ codes "\n")
    ≡ name ++ (codes ": " ++ ((word ++ rest) ++ codes "\n"))
line_parts name word rest = simp append_assoc

module _ {A : Type 0} (rules : List (ParserRule A)) (tokens : Tokens) (name : List ℕ) where
  -- the line of an event, if there is one
  abbrev pub line_of : Option Event → List ℕ
  line_of None = []
  line_of (Some event) = event_line rules tokens name event

  -- it comes before the lines of later events
  pub lines_next : (event : Option Event) (more : List Event)
      → event_lines rules tokens name (option_to_list event ++ more) ≡ line_of event ++ event_lines rules tokens name more
  lines_next None more = refl
  lines_next (Some event) more = refl

  -- what is between two items of a list: `ends` are the events at which the nodes end that are open before the item at a place,
  -- and `later` those after it, the innermost first
  module _ (ends later : List Event) (xs : List Item) (i : ℕ) (d : Item) (event : Option Event) (within : i < length xs)
      (next : (rest : List Item) → events_from ends (get_or xs i d ∷ rest) ≡ option_to_list event ++ events_from later rest) where
    -- the line of the item's event comes before those of later items
    lines_left : event_lines rules tokens name (events_from ends (drop i xs))
        ≡ line_of event ++ event_lines rules tokens name (events_from later (drop (i + 1) xs))
    lines_left = ap (event_lines rules tokens name) (ap (events_from ends) (drop_more xs i d within) ∙ next (drop (i + 1) xs))
        ∙ lines_next event (events_from later (drop (i + 1) xs))

    -- it is added
    pub line_added : (all old mid now : List ℕ) → Leaves all (event_lines rules tokens name (events_from ends (drop i xs))) old mid
        → now ≡ mid ++ line_of event →
        Leaves all (event_lines rules tokens name (events_from later (drop (i + 1) xs))) old now
    line_added all old mid now so_far is = leaves_less all (line_of event)
        (event_lines rules tokens name (events_from later (drop (i + 1) xs))) old mid now (leaves_same all _ _ old mid lines_left so_far) is

    -- a front part of it is added
    pub line_begun : (all old mid now : List ℕ) → Leaves all (event_lines rules tokens name (events_from ends (drop i xs))) old mid
        → AddsFront (line_of event) mid now → AddsFront all old now
    line_begun all old mid now so_far front = front_of_next all (line_of event)
        (event_lines rules tokens name (events_from later (drop (i + 1) xs))) old mid now
        (leaves_same all _ _ old mid lines_left so_far) front
