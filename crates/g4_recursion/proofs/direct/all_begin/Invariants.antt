use Rattle.std.proofs.Common.{◌≡◌, ◌<◌, ℕ, Some}
use Rattle.std.specs.List.{slice_get}
use Rattle.g4_source.specs.Elements.{Elements}
use Rattle.g4_recursion.specs.declared.lead.Lead.{Lead}
use Rattle.g4_recursion.specs.Leads.{FollowsCall}
use Rattle.g4_recursion.proofs.direct.all_begin.Given as goal

abbrev pub invariant-loop-elements : goal.invariant-loop-elements
invariant-loop-elements l = (place : ℕ) (elements : Elements Lead) → place < l.elements-index
    → slice_get l.alternatives place ≡ Some elements → (rest : Elements Lead) × FollowsCall l.number elements rest
