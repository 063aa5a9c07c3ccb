use Rattle.std.proofs.Common.{◌≡◌, Option, Some, None, subst, sym}
use Rattle.g4_net.specs.declared.network.State.{State}
use Rattle.g4_net.specs.Network.{state_at}
use Rattle.g4_ordered.specs.declared.network.Reads.{Reads}
use Rattle.g4_ordered.specs.Leads.{leads_by}
use Rattle.g4_matching.specs.Entries.{config_of}
use Rattle.g4_matching.specs.Waiting.{Adds}
use Rattle.g4_matching.proofs.Lookups.{got, got_none}
use Rattle.g4_matching.proofs.Known.{adds_nothing}
use Rattle.g4_matching.proofs.waiting.Waiting.push_leads.Goals as goal

pub returns-in-None : goal.returns-in-None
returns-in-None c =
    let past : state_at c.args.net.now c.args.from.state ≡ None = got_none _ _ _ c.as_slice.ensures c.in-None.ensures.lookup.3 in
    subst (λ (o : Option (State Reads)). Adds c.args.self.now c.args.self.now
    (leads_by c.args.last o (config_of c.args.self.now.returns c.args.from))) (sym past)
    (adds_nothing c.args.self.now c.requires.waiting)

pub returns-in_ok-push_by-in-Some : goal.returns-in_ok-push_by-in-Some
returns-in_ok-push_by-in-Some c =
    let there : state_at c.args.net.now c.args.from.state ≡ Some c.in-Some.state.now =
    got _ _ _ _ c.as_slice.ensures c.in-Some.ensures.lookup.3.0 c.in-Some.ensures.lookup.1 in
    subst (λ (o : Option (State Reads)). Adds c.args.self.now c.push_by.new.self
    (leads_by c.args.last o (config_of c.args.self.now.returns c.args.from))) (sym there) c.in_ok-push_by-in-Some.ensures
