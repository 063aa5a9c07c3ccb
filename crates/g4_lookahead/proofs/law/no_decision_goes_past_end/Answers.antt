use Rattle.std.proofs.Common.{[], ◌∷◌, ◌++◌, refl, true, false}
use Rattle.g4_tokens.specs.Symbols.{end_of_list}
use Rattle.g4_net.specs.Allowed.{Allows}
use Rattle.g4_net.specs.Configurations.{wildcard, above_bottom}
use Rattle.g4_net.specs.Lookahead.{Start}
use Rattle.g4_lookahead.specs.EndOfList.{After}
use Rattle.g4_lookahead.proofs.Apart.{stands_start, after_end}
use Rattle.g4_lookahead.proofs.Proper.{stands_apart}
use Rattle.g4_lookahead.proofs.Settling.{settled_sll, settled_full}
use Rattle.g4_lookahead.proofs.law.no_decision_goes_past_end.Goals as goal

pub returns-clause-sll : goal.returns-clause-sll
returns-clause-sll c = λ net d allowed w (rule, loop, set, runnable).
    settled_sll 1 wildcard (After net (Start net d (Allows allowed) wildcard) (w ++ end_of_list ∷ []))
    (after_end net rule loop true (Start net d (Allows allowed) wildcard) runnable.apart
    (stands_start net rule loop d (Allows allowed) wildcard runnable.apart (record { alone = λ i. refl; apart = tt })) w)

pub returns-clause-full : goal.returns-clause-full
returns-clause-full c = λ net d allowed returns w (rule, loop, set, runnable) proper.
    settled_full 1 (above_bottom []) (After net (Start net d (Allows allowed) (above_bottom returns)) (w ++ end_of_list ∷ []))
    (after_end net rule loop false (Start net d (Allows allowed) (above_bottom returns)) runnable.apart
    (stands_start net rule loop d (Allows allowed) (above_bottom returns) runnable.apart
    (stands_apart net rule loop runnable.apart d returns proper)) w)
