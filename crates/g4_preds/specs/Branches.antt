-- Where the evaluation of a predicate goes on after each node of its postfix form.
use Rattle.std.specs.Prelude.{ℕ, ◌+◌, List, [], ◌∷◌, ◌++◌, length, Option, Some, None, unwrap_or}
use Rattle.g4_preds.specs.declared.branching.Branch.{Branch}
use Rattle.g4_preds.specs.declared.branching.Exit.{Exit}
use Rattle.g4_preds.specs.declared.node.Node.{Node}
use Rattle.g4_preds.specs.declared.node.Node.TheVariants.{Operand, Not, And, Or}
use Rattle.g4_preds.specs.Postfix.{postfix}
use Rattle.g4_preds.specs.Trees.{Tree, test, negation, conjunction, disjunction}

-- the index that follows a predicate whose postfix form begins at this one
abbrev pub end_of : ℕ → Tree → ℕ
end_of at t = at + length (postfix t)

abbrev pub branch : ℕ → ℕ → Branch
branch then_to else_to = record { if_true = then_to; if_false = else_to }

-- The branches of a predicate whose postfix form begins at an index. Where it is true, evaluation goes on at `then_to`, else at `else_to`.
abbrev pub branches_from : ℕ → Tree → ℕ → ℕ → List Branch
branches_from at (test t) then_to else_to = branch then_to else_to ∷ []
branches_from at (negation a) then_to else_to = branches_from at a else_to then_to ++ branch then_to else_to ∷ []
branches_from at (conjunction a b) then_to else_to =
    (branches_from at a (end_of at a) else_to ++ branches_from (end_of at a) b then_to else_to) ++ branch then_to else_to ∷ []
branches_from at (disjunction a b) then_to else_to =
    (branches_from at a then_to (end_of at a) ++ branches_from (end_of at a) b then_to else_to) ++ branch then_to else_to ∷ []

-- the branches of a whole predicate: behind its last node it is true, and one further it is false
abbrev pub branches_of : Tree → List Branch
branches_of t = branches_from 0 t (length (postfix t)) (length (postfix t) + 1)

-- the branch of a predicate that ends before this index
abbrev pub branch_at : ℕ → Exit → Branch
branch_at end e = branch (unwrap_or e.if_true end) (unwrap_or e.if_false end)

abbrev pub exit : Option ℕ → Option ℕ → Exit
exit then_to else_to = record { if_true = then_to; if_false = else_to }

-- the exits of what an operator takes, the last first, by the operator's own branch
abbrev pub operand_exits : Node → Branch → List Exit
operand_exits (Operand t) b = []
operand_exits Not b = exit (Some b.if_false) (Some b.if_true) ∷ []
operand_exits And b = exit (Some b.if_true) (Some b.if_false) ∷ exit None (Some b.if_false) ∷ []
operand_exits Or b = exit (Some b.if_true) (Some b.if_false) ∷ exit (Some b.if_true) None ∷ []
