-- What the parse call answers.
use Rattle.g4_net.specs.Network.{ParserNetwork}
use Rattle.std.specs.Prelude.{◌≡◌, ◌⊎◌, ℕ, List, Result, Ok, Err, Contains, drop, length}
use Rattle.g4_grammar.specs.StepRules.{StepRule}
use Rattle.g4_tokens.specs.Symbols.{end_of_list}
use Rattle.g4_trees.specs.declared.tree.Item.{Item}
use Rattle.g4_trees.specs.Trees.{Tree, items_of, tokens_of}
use Rattle.g4_parse.specs.declared.parser.ParseFault.{ParseFault}
use Rattle.g4_parse.specs.declared.parser.ParseFault.TheVariants.{NoViable, Mismatch, FailedPredicate, TooDeep, NoMemory}
use Rattle.g4_run.specs.Running.{parsed, not_viable, mismatch, failed_predicate, too_deep, Ends, Values}
use Rattle.g4_written.specs.Precedence.{KeepsPrecedence}

-- what a fault says of the run
abbrev pub IsParseFault : ParserNetwork → Values → List ℕ → ParseFault → Type 0
IsParseFault net values word (NoViable at) = Ends net values word (not_viable at)
IsParseFault net values word (Mismatch at state) = Ends net values word (mismatch at state)
IsParseFault net values word (FailedPredicate at rule) = Ends net values word (failed_predicate at rule)
IsParseFault net values word (TooDeep at) = Ends net values word (too_deep at)
IsParseFault net values word NoMemory = Unit {0}

-- the call answers with the run's tree or its fault, unless memory runs out
abbrev pub IsParse : ParserNetwork → Values → List ℕ → Result (List Item) ParseFault → Type 0
IsParse net values word (Ok xs) = (t : Tree) × Ends net values word (parsed t) × (xs ≡ items_of t)
IsParse net values word (Err fault) = IsParseFault net values word fault

-- A list is accepted only where it is derived, and exactly there where no rule has a predicate: with a tree it is derived, and with a fault
-- it is not, unless too many rules were open or memory ran out.
abbrev pub IsAcceptance : (Unpredicated Derived : Type 0) → Result (List Item) ParseFault → Type 0
IsAcceptance Unpredicated Derived (Ok xs) = Derived
IsAcceptance Unpredicated Derived (Err (NoViable at)) = Unpredicated → Derived → ⊥
IsAcceptance Unpredicated Derived (Err (Mismatch at state)) = Unpredicated → Derived → ⊥
IsAcceptance Unpredicated Derived (Err (FailedPredicate at rule)) = Unpredicated → Derived → ⊥
IsAcceptance Unpredicated Derived (Err (TooDeep at)) = Unit {0}
IsAcceptance Unpredicated Derived (Err NoMemory) = Unit {0}

-- the items are those of a tree that keeps precedence
abbrev pub KeepPrecedence : List StepRule → List Item → Type 0
KeepPrecedence rules xs = (t : Tree) × (xs ≡ items_of t) × KeepsPrecedence rules t

-- after as many tokens as the tree has, only symbols of the set and END are left in the list
abbrev pub LeavesClosing : List ℕ → List ℕ → List Item → Type 0
LeavesClosing set word xs = (t : Tree) × (xs ≡ items_of t) ×
    ((a : ℕ) → Contains (drop (length (tokens_of t)) word) a → Contains set a ⊎ (a ≡ end_of_list))
