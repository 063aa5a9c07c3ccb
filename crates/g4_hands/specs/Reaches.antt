-- What a hand has of one deque.
use Rattle.std.specs.Prelude.{ℕ, Bool, ◌∷◌, [], ◌++◌}
use Rattle.std.specs.declared.alloc.Global.{Global}
use Rattle.g4_hands.specs.declared.share.Share.{Share}
use Rattle.g4_hands.specs.Shares.{share}

-- which deque it is
abbrev pub DequeId : Type 0
DequeId = (ℕ × ℕ) × Global

-- whether it is the deque's own end, which deque it is, and what is known of it
pub record Reach : Type 0 where
  pub own : Bool
  pub deque : DequeId
  pub share : Share

abbrev pub reach : Bool → DequeId → Share → Reach
reach own deque share = record { own = own; deque = deque; share = share }

-- once this number is taken
abbrev pub having : Reach → ℕ → Reach
having r k = reach r.own r.deque (share r.share.parts r.share.dealt (r.share.taken ++ k ∷ []))
