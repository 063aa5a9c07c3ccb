use Rattle.std.proofs.Common.{◌≡◌, ◌<◌, ◌↔◌, ℕ, List, Some, slice_get, Contains}
use Rattle.g4_net.specs.Network.{IsReturn}
use Rattle.g4_net_check.proofs.callers.callers_fit.Given as goal

abbrev pub invariant-loop-rule : goal.invariant-loop-rule
invariant-loop-rule g l = (rule t : ℕ) (listed : List ℕ) → rule < l.rule → slice_get l.net.callers rule ≡ Some listed
    → Contains listed t ↔ IsReturn l.net rule t
