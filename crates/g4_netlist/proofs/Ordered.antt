-- The orders of a network's predicates.
use Rattle.std.proofs.Common.{◌≡◌, ℕ, ◌+◌, List, [], ◌∷◌, ◌++◌, ap, ◌∙◌, append-nil}
use Rattle.std.specs.List.{flat_map, range_with_len}
use Rattle.std.proofs.lemmas.List.Concat.{flat_map-append}
use Rattle.g4_net.specs.Network.{ParserNetwork, state_at}
use Rattle.g4_netlist.specs.Making.{predicate_order_by, predicate_orders_below}
use Rattle.g4_netlist.proofs.Contained.{range_more}

-- one more state
pub orders_more : (net : ParserNetwork) (n : ℕ)
    → predicate_orders_below net (n + 1) ≡ predicate_orders_below net n ++ predicate_order_by net n (state_at net n)
orders_more net n =
    let here : ℕ → List ℕ = λ p. predicate_order_by net p (state_at net p) in
    ap (λ (ps : List ℕ). flat_map here ps) (range_more n)
    ∙ flat_map-append here (range_with_len 0 n) (n ∷ [])
    ∙ ap (λ (xs : List ℕ). predicate_orders_below net n ++ xs) (append-nil (here n))
