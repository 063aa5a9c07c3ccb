-- The tree of the parse call keeps precedence.
use Rattle.std.proofs.Common.{ℕ, List, Result, Ok, Err, IfOk}
use Rattle.g4_grammar.specs.StepRules.{CanBeRewritten, StepRule}
use Rattle.g4_layout.specs.Built.{IsBuilt}
use Rattle.g4_leftrec.specs.Rewriting.{numberings, rewritten}
use Rattle.g4_net.specs.Network.{ParserNetwork}
use Rattle.g4_parse.specs.Parsing.{IsParse, KeepPrecedence}
use Rattle.g4_parse.specs.declared.parser.ParseFault.{ParseFault}
use Rattle.g4_run.specs.Running.{Values}
use Rattle.g4_trees.specs.declared.tree.Item.{Item}
use Rattle.g4_written.proofs.Precedence.{tree_keeps}

-- what the parse call answers is the items of a tree that keeps precedence
pub answer_keeps : (net : ParserNetwork) (values : Values) (word : List ℕ) (x : Result (List Item) ParseFault) → IsParse net values word x
    → (set : List ℕ) (rules : List StepRule) (start : List ℕ) → CanBeRewritten rules →
    IsBuilt set (rewritten rules) (numberings rules) start net → IfOk x (KeepPrecedence rules)
answer_keeps net values word (Ok xs) (t, runs, is) set rules start can built =
    (t, is, tree_keeps rules set start net can built values word t runs)
answer_keeps net values word (Err fault) fails set rules start can built = tt
