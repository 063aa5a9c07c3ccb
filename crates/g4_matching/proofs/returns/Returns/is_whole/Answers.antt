use Rattle.std.proofs.Common.{subst}
use Rattle.g4_matching.specs.Returns.{IsDistinct, IsEmptyFirst}
use Rattle.g4_matching.proofs.Stores.{distinct, empty_first}
use Rattle.g4_matching.proofs.returns.Returns.is_whole.Goals as goal

pub returns-clause-distinct : goal.returns-clause-distinct
returns-clause-distinct c = subst IsDistinct c.self.view_is (distinct _ _ c.self.invariant)

pub returns-clause-empty : goal.returns-clause-empty
returns-clause-empty c = subst IsEmptyFirst c.self.view_is (empty_first _)
