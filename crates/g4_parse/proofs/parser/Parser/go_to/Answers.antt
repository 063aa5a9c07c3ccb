use Rattle.std.proofs.Common.{◌≡◌, ℕ, ◌-◌, get_or, ap, subst}
use Rattle.std.specs.Prelude.{Some}
use Rattle.g4_net.specs.declared.network.State.TheVariants.{Decision}
use Rattle.g4_net.specs.Network.{state_at}
use Rattle.g4_run.specs.Running.{begun, with_begun}
use Rattle.g4_parse.specs.Foresight.{at_target}
use Rattle.g4_parse.specs.Standing.{StandsFor}
use Rattle.g4_parse.proofs.Turns.{first_of, moved_to, state_within}
use Rattle.g4_parse.proofs.parser.Parser.go_to.Goals as goal

pub bounds-targets-alternative : goal.bounds-targets-alternative
bounds-targets-alternative c =
    let f = c.requires.first in
    (first_of c.args.net.now c.args.self.now.state c.args.alternative f.0 c.args.targets.now c.requires.decides f.1).0

pub begun-requires-clause-within : goal.begun-requires-clause-within
begun-requires-clause-within c =
    let f = c.requires.first in
    let at = first_of c.args.net.now c.args.self.now.state c.args.alternative f.0 c.args.targets.now c.requires.decides f.1 in
    state_within c.args.net.now c.args.self.now.state c.args.targets.now (c.args.alternative - 1) c.requires.ready.3.well_formed
    c.requires.decides at.0

pub returns : goal.returns
returns c = λ r t h first.
    let net = c.args.net.now in
    let i : ℕ = c.args.alternative in
    let u : ℕ = get_or c.args.targets.now (i - 1) 0 in
    let decides : state_at net r.state ≡ Some (Decision c.args.targets.now) =
    subst (λ (d : ℕ). state_at net d ≡ Some (Decision c.args.targets.now)) h.state c.requires.decides in
    let at = first_of net r.state i t c.args.targets.now decides first in
    subst (λ (x : ℕ). StandsFor (record c.begin_alternative.new.self { state = u }) (at_target net r x)) at.1
    (moved_to c.begin_alternative.new.self (with_begun c.begun.result r) (with_begun (begun net u (state_at net u)) r) u
    (ap (λ (n : ℕ). with_begun n r) c.begun.ensures) (c.begin_alternative.ensures r h))
