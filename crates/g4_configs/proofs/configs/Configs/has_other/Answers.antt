use Rattle.std.proofs.Common.{rules, tests, ◌≡◌, ◌≢◌, ◌↔◌, ℕ, IsTrue, subst}
use Rattle.std.specs.HashMap.{keys}
use Rattle.std.proofs.lemmas.Iterator.{cases_from_any}
use Rattle.std.proofs.lemmas.Iterator.Consumers.{YieldsList-from_rest}
use Rattle.g4_net.specs.Configurations.{Config}
use Rattle.g4_configs.specs.Configs.{Holds, View}
use Rattle.g4_configs.proofs.Alternatives.{other_exact}
use Rattle.g4_configs.proofs.configs.Configs.has_other.Goals as goal

pub returns : goal.returns
returns c =
    let cases = cases_from_any _ _ c.any.result (λ (q : ℕ × ℕ). q.1 ≢ c.args.alternative) (λ (q : ℕ × ℕ). q.1 ≡ c.args.alternative)
    c.any.ensures.ran (YieldsList-from_rest (keys c.self.inside.nodes) c.keys.ensures.rest) (λ y b k. search (rules, tests))
    (λ y b k. search (rules, tests)) in
    subst (λ (v : View). IsTrue c.any.result ↔ ((x : Config) × Holds v x × (x.alt ≢ c.args.alternative))) c.self.view_is
    (other_exact c.self.inside.graph c.self.inside.nodes.entries c.is_canonical.ensures c.self.invariant c.args.alternative
    c.any.result cases)
