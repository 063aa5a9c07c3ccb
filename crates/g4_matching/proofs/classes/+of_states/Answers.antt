use Rattle.std.proofs.Common.{◌≡◌, ◌++◌, List, IfOk, sym, subst}
use Rattle.g4_net.specs.declared.network.State.{State}
use Rattle.g4_ordered.specs.declared.network.Reads.{Reads}
use Rattle.g4_matching.specs.Classes.{TellsStates}
use Rattle.g4_matching.specs.Partitions.{classing}
use Rattle.g4_matching.proofs.Alike.{length_one, length_zero, one_by, tells_halves, whole_by}
use Rattle.g4_matching.proofs.classes.+of_states.Goals as goal

pub returns-in-empty-clause-tells : goal.returns-in-empty-clause-tells
returns-in-empty-clause-tells t c =
    subst (λ (l : List (State Reads)). IfOk c.whole.result (λ p. TellsStates l (classing p)))
    (sym (length_zero c.args.states.now c.in-empty.len_below))
    (whole_by c.whole.result c.whole.ensures.partition c.whole.ensures.whole)

pub returns-in-len1-clause-tells : goal.returns-in-len1-clause-tells
returns-in-len1-clause-tells t c =
    subst (λ (l : List (State Reads)). IfOk c.of_state.result (λ p. TellsStates l (classing p)))
    (sym (length_one c.args.states.now c.state-item.result c.in-len1.len_at_least c.in-len1.len_below c.state-item.is))
    (one_by c.state-item.result c.of_state.result c.of_state.ensures.tells)

pub returns-in_ok-partition-in_default-clause-tells : goal.returns-in_ok-partition-in_default-clause-tells
returns-in_ok-partition-in_default-clause-tells t c =
    let states = c.args.states.now in
    let all : states ≡ c.split_at.result.0.now ++ c.split_at.result.1.now = c.split_at.ensures.by_index.0 in
    tells_halves c.split_at.result.0.now c.split_at.result.1.now states (classing c.in_ok-front-in_default.front)
    (classing c.in_ok-back-in_default.back) (classing c.in_ok-partition-in_default.partition) all c.in_ok-front-in_default.ensures.tells
    c.in_ok-back-in_default.ensures.tells c.in_ok-partition-in_default.ensures.tells
