use Rattle.std.proofs.Common.{subst, sym}
use Rattle.g4_matching.specs.declared.listing.Listing.{Listing}
use Rattle.g4_matching.specs.Automaton.{HasEntries}
use Rattle.g4_matching.specs.Listing.{IsReady}
use Rattle.g4_matching.proofs.automaton.Automaton.learn.Goals as goal

pub learn_alone-requires-clause-ready : goal.learn_alone-requires-clause-ready
learn_alone-requires-clause-ready c = subst IsReady (sym c.in_ok-number.ensures.listing) c.requires.ready

pub returns-clause-learned : goal.returns-clause-learned
returns-clause-learned c = subst (λ (m : Listing). HasEntries c.learn_alone.new.self c.in_ok-number-2.number m.list.items)
    c.in_ok-number.ensures.listing c.in_ok-number-2.ensures.learned
