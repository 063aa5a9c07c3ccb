use Rattle.std.proofs.Common.{subst, sym}
use Rattle.g4_matching.specs.declared.listing.Listing.{Listing}
use Rattle.g4_matching.specs.Automaton.{HasEntries}
use Rattle.g4_matching.specs.Listing.{IsReady}
use Rattle.g4_matching.proofs.automaton.Automaton.learn_alone.Goals as goal

pub add-requires-clause-ready : goal.add-requires-clause-ready
add-requires-clause-ready c = subst IsReady (sym c.forget.ensures.listing) c.requires.ready

pub returns-clause-learned : goal.returns-clause-learned
returns-clause-learned c = subst (λ (m : Listing). HasEntries c.add.new.self c.in_ok-number.number m.list.items)
    c.forget.ensures.listing c.in_ok-number.ensures.added
