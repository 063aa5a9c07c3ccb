use Rattle.std.proofs.Common.{◌≡◌, ℕ, List, drop, length, reverse, subst}
use Rattle.std.specs.Prelude.{Some}
use Rattle.g4_decide.specs.Deciding.{AllowedFirsts, IsChosenOver}
use Rattle.g4_net.specs.Network.{state_at}
use Rattle.g4_net.specs.declared.allowed.Allowed.TheVariants.{Listed}
use Rattle.g4_net.specs.declared.network.State.TheVariants.{Decision}
use Rattle.g4_tokens.specs.TokenList.{word_of}
use Rattle.g4_parse.proofs.Passing.{first_states_within, listed_allows}
use Rattle.g4_parse.proofs.Turns.{listed_here, more_here, predicted_by, proper_stack}
use Rattle.g4_parse.proofs.parser.Parser.chosen_by_stack.Goals as goal

pub allowed-requires-clause-within : goal.allowed-requires-clause-within
allowed-requires-clause-within g c =
    first_states_within c.args.net.now c.args.self.now.state c.args.targets.now c.requires.deciding.2.ready.3.well_formed c.requires.decides

pub decide_by_stack-requires-clause-proper : goal.decide_by_stack-requires-clause-proper
decide_by_stack-requires-clause-proper g c =
    proper_stack c.args.net.now (length c.args.tokens.now) c.args.self.now c.as_slice-returns.result.now c.as_slice-returns.ensures.value
    c.requires.deciding

pub decide_by_stack-requires-clause-more : goal.decide_by_stack-requires-clause-more
decide_by_stack-requires-clause-more g c = more_here c.args.net.now (length c.args.tokens.now) c.args.self.now c.requires.deciding

pub returns : goal.returns
returns g c = λ r h.
    let net = c.args.net.now in
    let p = c.args.self.now in
    let word : List ℕ = word_of c.args.tokens.now in
    let values = g.P.Predicates.values c.args.predicates.now in
    let found : List ℕ = c.in_ok-found.found.items in
    let x = c.decide_by_stack.result in
    let decides : state_at net r.state ≡ Some (Decision c.args.targets.now) =
    subst (λ (d : ℕ). state_at net d ≡ Some (Decision c.args.targets.now)) h.state c.requires.decides in
    let are = listed_allows net values word r c.args.targets.now found decides (c.in_ok-found.ensures word r h) in
    let said : IsChosenOver net p.state (AllowedFirsts net p.state (Listed found)) (reverse p.returns.items) (drop p.place word) p.place x =
    subst (λ (xs : List ℕ). IsChosenOver net p.state (AllowedFirsts net p.state (Listed xs)) (reverse p.returns.items)
    (drop p.place word) p.place x) c.new.ensures
    (subst (λ (rs : List ℕ). IsChosenOver net p.state (AllowedFirsts net p.state (Listed c.new.result)) (reverse rs)
    (drop p.place word) p.place x) c.as_slice-returns.ensures.value c.decide_by_stack.ensures) in
    predicted_by net values word r p (AllowedFirsts net p.state (Listed found)) x (listed_here net values word r p found h are) h said
