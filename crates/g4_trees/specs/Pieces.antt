-- What each item adds to the text of its tree, by what comes before and after it.
use Rattle.std.specs.Prelude.{ℕ, List, [], ◌∷◌, ◌++◌, Bool, true, false, cond, codes}
use Rattle.g4_tokens.specs.declared.token.Tokens.{Tokens}
use Rattle.g4_source.specs.declared.rule.ParserRule.{ParserRule}
use Rattle.g4_trees.specs.declared.tree.Item.{Item}
use Rattle.g4_trees.specs.declared.tree.Item.TheVariants as items
use Rattle.g4_trees.specs.TreeText.{name_of, text_at}

-- whether a node begins here
abbrev pub is_enter : Item → Bool
is_enter (items.Enter rule alt at) = true
is_enter (items.Token at) = false
is_enter items.Exit = false

-- the bracket before the name of a node, by what follows its beginning: none where it has no children
abbrev pub opening : List Item → List ℕ
opening [] = codes "("
opening (items.Enter rule alt at ∷ more) = codes "("
opening (items.Token at ∷ more) = codes "("
opening (items.Exit ∷ more) = []

-- the bracket at the end of a node, which is none where the node has just begun
abbrev pub closing : Bool → List ℕ
closing entered = cond entered [] (codes ")")

-- a space, where a child follows
abbrev pub gap : List Item → List ℕ
gap [] = []
gap (items.Enter rule alt at ∷ more) = codes " "
gap (items.Token at ∷ more) = codes " "
gap (items.Exit ∷ more) = []

module _ {A : Type 0} (rules : List (ParserRule A)) (tokens : Tokens) where
  -- what an item adds, where a node has just begun or not, and these items follow
  abbrev pub item_text : Bool → Item → List Item → List ℕ
  item_text entered (items.Enter rule alt at) more = opening more ++ (name_of rules rule ++ gap more)
  item_text entered (items.Token at) more = text_at tokens at ++ gap more
  item_text entered items.Exit more = closing entered ++ gap more

  -- what items add, where a node has just begun or not
  abbrev pub items_text : Bool → List Item → List ℕ
  items_text entered [] = []
  items_text entered (item ∷ more) = item_text entered item more ++ items_text (is_enter item) more
