-- The callers that a network lists.
use Rattle.std.specs.Prelude.{◌≡◌, ◌<◌, ◌↔◌, ℕ, List, Some, slice_get, Contains}
use Rattle.g4_net.specs.declared.network.Network.{Network}
use Rattle.g4_net.specs.declared.network.State.{State}
use Rattle.g4_net.specs.declared.network.State.TheVariants.{Call}
use Rattle.g4_net.specs.Network.{IsReturn}

-- the rules called by the states are below the number
abbrev pub CallsFit : {L : Type 0} → ℕ → List (State L) → Type 0
CallsFit rules states = (p rule level back : ℕ) → slice_get states p ≡ Some (Call rule level back) → rule < rules

-- one of the states calls the rule and returns to t
abbrev pub HasReturn : {L : Type 0} → List (State L) → ℕ → ℕ → Type 0
HasReturn states rule t = (p level : ℕ) × (slice_get states p ≡ Some (Call rule level t))

-- the callers listed of each rule are the return states of its calls
abbrev pub CallersFit : {L : Type 0} → Network L → Type 0
CallersFit net = (rule t : ℕ) (listed : List ℕ) → slice_get net.callers rule ≡ Some listed → Contains listed t ↔ IsReturn net rule t
