-- What the parser answers with.
use Rattle.std.specs.Prelude.{◌≡◌, List}
use Rattle.g4_preds.specs.declared.node.Node.{Node}
use Rattle.g4_preds.specs.declared.token.Token.{Token}
use Rattle.g4_preds.specs.Grammar.{IsOr}
use Rattle.g4_preds.specs.Postfix.{postfix}
use Rattle.g4_preds.specs.Trees.{Tree}

-- the nodes are the postfix form of the predicate that the tokens are
pub record AreNodesOf (tokens : List Token) (nodes : List Node) : Type 0 where
  pub tree : Tree
  pub reads : IsOr tokens tree
  pub are : nodes ≡ postfix tree
