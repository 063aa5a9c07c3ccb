-- From tokens and nodes to the predicate of a text.
use Rattle.std.proofs.Common.{◌≡◌, ◌≤◌, ◌<◌, ℕ, List, Err, refl, ap, sym, ◌∙◌, subst, arith}
use Rattle.g4_preds.specs.declared.nesting.TheConstants.{MOST_NESTED}
use Rattle.g4_preds.specs.declared.fault.Fault.{Fault}
use Rattle.g4_preds.specs.declared.fault.Fault.TheVariants.{Unknown, NoMemory}
use Rattle.g4_preds.specs.declared.node.Node.{Node}
use Rattle.g4_preds.specs.declared.token.Token.{Token}
use Rattle.g4_preds.specs.Answers.{Answers}
use Rattle.g4_preds.specs.Grammar.{IsOr}
use Rattle.g4_preds.specs.Nesting.{depth_of_or}
use Rattle.g4_preds.specs.Trees.{Tree}
use Rattle.g4_preds.specs.Parsing.{AreNodesOf}
use Rattle.g4_preds.specs.Postfix.{postfix, tree_of}
use Rattle.g4_preds.specs.Readings.{IsPredicate}
use Rattle.g4_preds.specs.Tokens.{AreTokens}
use Rattle.g4_preds.proofs.OneReading.{one_cut}
use Rattle.g4_preds.specs.TreeCode.{tree_of-postfix}

tree_is : (tokens : List Token) (nodes : List Node) → (are : AreNodesOf tokens nodes) → tree_of nodes ≡ are.tree
tree_is tokens nodes are = ap tree_of are.are ∙ tree_of-postfix are.tree

-- the nodes that are read are a postfix form
pub are_postfix : (tokens : List Token) (nodes : List Node) → AreNodesOf tokens nodes → nodes ≡ postfix (tree_of nodes)
are_postfix tokens nodes are = are.are ∙ ap postfix (sym (tree_is tokens nodes are))

-- the tokens as a predicate are nested so deep
abbrev pub HasDepth : List Token → ℕ → Type 0
HasDepth tokens deep = (tree : Tree) (reads : IsOr tokens tree) → deep ≡ depth_of_or reads

-- the predicate that is read
pub predicate_is : (text : List ℕ) (tokens : List Token) (nodes : List Node) (deep : ℕ) → AreTokens text tokens → AreNodesOf tokens nodes
    → HasDepth tokens deep → deep ≤ MOST_NESTED → IsPredicate text (tree_of nodes)
predicate_is text tokens nodes deep cut are depth few =
    let reads : IsOr tokens (tree_of nodes) = subst (IsOr tokens) (sym (tree_is tokens nodes are)) are.reads in
    record { tokens = tokens; cut = cut; reads = reads; within = subst (λ (n : ℕ). n ≤ MOST_NESTED) (depth (tree_of nodes) reads) few }

-- tokens that are nested too deep
pub too_deep : (text : List ℕ) (tokens : List Token) (deep : ℕ) → AreTokens text tokens → HasDepth tokens deep → MOST_NESTED < deep
    → (tree : Tree) → IsPredicate text tree → ⊥
too_deep text tokens deep cut depth many tree is =
    let same : deep ≡ depth_of_or is.reads = subst (λ (ts : List Token). HasDepth ts deep)
    (sym (one_cut text is.tokens tokens is.cut cut)) depth tree is.reads in
    omega (arith, many, is.within, same)

-- a text that has no tokens
pub not_cut : (text : List ℕ) (e : Fault) → Answers (AreTokens text) (Err e) → Answers (IsPredicate text) (Err e)
not_cut text Unknown none = λ tree is. none is.tokens is.cut
not_cut text NoMemory none = tt

-- tokens that are no predicate
pub not_parsed : (text : List ℕ) (tokens : List Token) (e : Fault) → AreTokens text tokens → Answers (AreNodesOf tokens) (Err e)
    → Answers (IsPredicate text) (Err e)
not_parsed text tokens Unknown cut none = λ tree is.
    let reads : IsOr tokens tree = subst (λ (ts : List Token). IsOr ts tree) (one_cut text is.tokens tokens is.cut cut) is.reads in
    none (postfix tree) (record { tree = tree; reads = reads; are = refl })
not_parsed text tokens NoMemory cut none = tt
