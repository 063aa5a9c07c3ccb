-- The items of a pattern are compared one after another with those of a tree.
use Rattle.std.specs.Prelude.{ℕ, suc, List, [], ◌∷◌, ◌++◌, Bool, true, false, Option, Some, None, slice_get, cond, ◌==◌, ◌&&◌}
use Rattle.std.specs.Str.{bytes_eq}
use Rattle.g4_tokens.specs.declared.token.Token.{Token}
use Rattle.g4_tokens.specs.declared.token.Tokens.{Tokens}
use Rattle.g4_trees.specs.declared.tree.Item.{Item}
use Rattle.g4_trees.specs.declared.tree.Item.TheVariants as items
use Rattle.g4_patterns.specs.declared.token.PatternToken.{PatternToken}
use Rattle.g4_patterns.specs.declared.token.PatternToken.TheVariants as patterns
use Rattle.g4_patterns.specs.declared.binding.Binding.{Binding}
use Rattle.g4_patterns.specs.declared.stand.Opened.{Opened}
use Rattle.g4_patterns.specs.declared.stand.Stand.{Stand}
use Rattle.g4_patterns.specs.declared.stand.Step.{Step}
use Rattle.g4_patterns.specs.Matching.{text_in}

-- the node before the next item is of this rule, where there is one
abbrev pub node_of_rule : ℕ → Option Opened → Option ℕ
node_of_rule rule None = None
node_of_rule rule (Some opened) = cond (opened.rule == rule) (Some opened.node) None

-- the item after this one is next, and nothing or this place is bound
abbrev pub past : ℕ → Option ℕ → Step
past at bound = record { next = record { at = suc at; opened = None }; bound = bound }

-- a node of the rule begins here
abbrev pub enter_at : ℕ → ℕ → Option Item → Option Step
enter_at at rule None = None
enter_at at rule (Some (items.Enter other alt place)) = cond (other == rule)
    (Some (record { next = record { at = suc at; opened = Some (record { rule = rule; node = at }) }; bound = None })) None
enter_at at rule (Some (items.Token place)) = None
enter_at at rule (Some items.Exit) = None

-- a node ends here
abbrev pub exit_at : ℕ → Option Item → Option Step
exit_at at None = None
exit_at at (Some (items.Enter rule alt place)) = None
exit_at at (Some (items.Token place)) = None
exit_at at (Some items.Exit) = Some (past at None)

-- the token of an item that was looked up
abbrev pub token_by : List Token → Option Item → Option Token
token_by list None = None
token_by list (Some (items.Enter rule alt place)) = None
token_by list (Some (items.Token place)) = slice_get list place
token_by list (Some items.Exit) = None

-- whether a token that was looked up has this type
abbrev pub is_type : ℕ → Option Token → Bool
is_type symbol None = false
is_type symbol (Some token) = token.symbol == symbol

-- whether a token that was looked up has this type and this text
abbrev pub is_token : List ℕ → ℕ → List ℕ → Option Token → Bool
is_token bytes symbol text None = false
is_token bytes symbol text (Some token) = (token.symbol == symbol) && bytes_eq (text_in bytes token) text

-- the node of the rule's tag was found, and its last item
abbrev pub tag_at : Option ℕ → Option ℕ → Option Step
tag_at None last = None
tag_at (Some node) None = None
tag_at (Some node) (Some last) = Some (record { next = record { at = last; opened = None }; bound = Some node })

-- the last item of the tree at a place
abbrev pub last_by : List ℕ → Option ℕ → Option ℕ
last_by lasts None = None
last_by lasts (Some node) = slice_get lasts node

-- the name of a token that was looked up
abbrev pub name_by : Option PatternToken → List ℕ
name_by None = []
name_by (Some (patterns.Plain symbol text)) = []
name_by (Some (patterns.TokenTag symbol name)) = name
name_by (Some (patterns.RuleTag rule name)) = name

-- the name of the tag that an item of the pattern is
abbrev pub name_of : List PatternToken → Item → List ℕ
name_of pattern (items.Enter rule alt place) = []
name_of pattern (items.Token place) = name_by (slice_get pattern place)
name_of pattern items.Exit = []

-- what an item of the pattern is bound to
abbrev pub bindings_of : List PatternToken → Item → Option ℕ → List Binding
bindings_of pattern x None = []
bindings_of pattern x (Some node) = record { name = name_of pattern x; node = node } ∷ []

-- nothing has been found yet, and the first item is looked for at this place
abbrev pub starting : ℕ → Stand
starting k = record { at = k; opened = None }

-- whether an item that was looked up begins a node
abbrev pub begins_node : Option Item → Bool
begins_node None = false
begins_node (Some (items.Enter rule alt place)) = true
begins_node (Some (items.Token place)) = false
begins_node (Some items.Exit) = false

-- whether an item that was looked up begins a tree, which may be a token
abbrev pub begins_tree : Option Item → Bool
begins_tree None = false
begins_tree (Some (items.Enter rule alt place)) = true
begins_tree (Some (items.Token place)) = true
begins_tree (Some items.Exit) = false

-- whether all items of a pattern are found
abbrev pub all_found : Option (List Binding) → Bool
all_found None = false
all_found (Some bs) = true

-- bindings before others, where there are these
abbrev pub before : List Binding → Option (List Binding) → Option (List Binding)
before bs None = None
before bs (Some cs) = Some (bs ++ cs)

-- The items of the tree, the places of the last items of its trees, and its tokens.
module _ (xs : List Item) (lasts : List ℕ) (tokens : Tokens) where
  -- a token of the pattern that was looked up
  abbrev pub leaf_at : Stand → Option PatternToken → Option Step
  leaf_at s None = None
  leaf_at s (Some (patterns.Plain symbol text)) =
      cond (is_token tokens.bytes symbol text (token_by tokens.list (slice_get xs s.at))) (Some (past s.at None)) None
  leaf_at s (Some (patterns.TokenTag symbol name)) =
      cond (is_type symbol (token_by tokens.list (slice_get xs s.at))) (Some (past s.at (Some s.at))) None
  leaf_at s (Some (patterns.RuleTag rule name)) = tag_at (node_of_rule rule s.opened) (last_by lasts (node_of_rule rule s.opened))

  -- an item of a pattern with these tokens
  abbrev pub step : List PatternToken → Stand → Item → Option Step
  step pattern s (items.Enter rule alt place) = enter_at s.at rule (slice_get xs s.at)
  step pattern s (items.Token place) = leaf_at s (slice_get pattern place)
  step pattern s items.Exit = exit_at s.at (slice_get xs s.at)

  -- an item of a pattern with these tokens was read, and others come after it
  abbrev pub joined : List PatternToken → Item → Option Step → (Stand → Option (List Binding)) → Option (List Binding)
  joined pattern x None more = None
  joined pattern x (Some s) more = before (bindings_of pattern x s.bound) (more s.next)

  -- the bindings of items of a pattern with these tokens, where each of them finds what it looks for
  abbrev pub walk : List PatternToken → Stand → List Item → Option (List Binding)
  walk pattern s [] = Some []
  walk pattern s (x ∷ more) = joined pattern x (step pattern s x) (λ next. walk pattern next more)
