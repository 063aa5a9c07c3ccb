use Rattle.std.proofs.Common.{rules, tests, ◌≡◌, ◌∙◌, ℕ, MatchOption, min, sym, subst}
use Rattle.std.specs.HashMap.{keys}
use Rattle.std.specs.List.{reduce}
use Rattle.std.proofs.lemmas.Iterator.{YieldsList-from_map}
use Rattle.std.proofs.lemmas.Iterator.Adapters.{option_map_id}
use Rattle.std.proofs.lemmas.Iterator.Consumers.{YieldsList-at, YieldsList-from_rest, min_from_yields_List}
use Rattle.g4_net.specs.Lookahead.{IsEmpty, IsLeast}
use Rattle.g4_configs.specs.Configs.{Holds, View}
use Rattle.g4_configs.proofs.Alternatives.{alternatives, least_exact}
use Rattle.g4_configs.proofs.configs.Configs.least_alternative.Goals as goal

pub returns : goal.returns
returns c =
    let is : c.min.result ≡ reduce min (alternatives (keys c.self.inside.nodes)) =
    sym (option_map_id c.min.result) ∙ min_from_yields_List c.map.result c.min.result c.min.ensures.ran
    (YieldsList-from_map _ (λ (q : ℕ × ℕ). q.1)
    (YieldsList-at c.map.ensures.source (YieldsList-from_rest (keys c.self.inside.nodes) c.keys.ensures.rest))
    c.map.ensures.closure (λ x r q k. search (rules, tests))) in
    subst (λ (v : View). MatchOption c.min.result (IsEmpty (Holds v)) (IsLeast (Holds v))) c.self.view_is
    (least_exact c.self.inside.graph c.self.inside.nodes.entries c.is_canonical.ensures c.self.invariant c.min.result is)
