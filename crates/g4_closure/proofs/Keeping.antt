-- What is kept of all that is reached is the rest.
use Rattle.std.proofs.Common.{◌↔◌}
use Rattle.g4_net.specs.Configurations.{Config, IsWithin}
use Rattle.g4_net.specs.Network.{ParserNetwork}
use Rattle.g4_net.specs.Leads.{WellFormed}
use Rattle.g4_net.specs.Lookahead.{IsKept, Rest}
use Rattle.g4_net.proofs.Finite.{reached_within}
use Rattle.g4_configs.specs.Configs.{Holds, View}
use Rattle.g4_configs.specs.Groups.{Same}
use Rattle.g4_closure.specs.Steps.{ReachedFrom}

-- what is kept of all that is reached is the rest
pub kept_rest : (net : ParserNetwork) (C : Config → Type 0) (u v : View) → Same (Holds u) (ReachedFrom net C)
    → ((c : Config) → Holds v c ↔ (Holds u c × IsKept net c)) → Same (Holds v) (Rest net C)
kept_rest net C u v reached kept d = (
  (λ i. let k = (kept d).0 i in let r = (reached d).0 k.0 in (r.0, r.1, r.2, k.1)),
  λ (c, in_c, r, k). (kept d).1 ((reached d).1 (c, in_c, r), k),
)

pub rest_within : (net : ParserNetwork) (C : Config → Type 0) (v : View) → WellFormed net → ((c : Config) → C c → IsWithin net c)
    → Same (Holds v) (Rest net C) → (d : Config) → Holds v d → IsWithin net d
rest_within net C v well within rest d h = let r = (rest d).0 h in reached_within net r.0 d well (within r.0 r.1) r.2

-- the rest of equal sets
pub rest_of : (net : ParserNetwork) (C D E : Config → Type 0) → Same C D → Same E (Rest net C) → Same E (Rest net D)
rest_of net C D E same rest d = (
  (λ i. let r = (rest d).0 i in (r.0, (same r.0).0 r.1, r.2, r.3)),
  (λ r. (rest d).1 (r.0, (same r.0).1 r.1, r.2, r.3)),
)
