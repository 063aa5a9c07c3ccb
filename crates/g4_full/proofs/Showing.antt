-- What a set shows, and what looking ahead comes to there.
use Rattle.std.proofs.Common.{◌≡◌, inl, inr, ℕ, Bool, true, false, Some, None, refl, subst, arith}
use Rattle.g4_lookahead.specs.EndOfList.{GoesOnFull}
use Rattle.g4_lookahead.proofs.Judging.{AreSame, Within, alike_same, empty_same, least_same, only_same}
use Rattle.g4_net.specs.Configurations.{Config}
use Rattle.g4_net.specs.Lookahead.{IsLeast, IsOnly}
use Rattle.g4_full.specs.Ahead.{ahead_by}
use Rattle.g4_full.specs.declared.full.Ahead.{Ahead}
use Rattle.g4_full.specs.declared.full.Ahead.TheVariants as aheads
use Rattle.g4_full.specs.declared.full.Settled.TheVariants as settleds
use Rattle.g4_full.specs.declared.shown.Shown.{Shown}
use Rattle.g4_full.specs.declared.shown.Shown.TheVariants.{Nothing, Chosen, Open}
use Rattle.g4_full.specs.Settled.{SettlesWith, Shows}

-- one value is not another's, and nothing is none
same_some : (a b : Ahead) → Some a ≡ Some b → a ≡ b
same_some a b h = cc

no_some : (a : Ahead) → None ≡ Some a → ⊥
no_some a h = cc

-- what the set after symbol k says where looking ahead ends with this
abbrev pub EndsWith : (Config → Type 0) → ℕ → Bool → Ahead → Type 0
EndsWith D k last (aheads.Settled (settleds.Chosen i)) = SettlesWith D k (settleds.Chosen i) × IsLeast D i
EndsWith D k last (aheads.Settled (settleds.NoViable j)) = SettlesWith D k (settleds.NoViable j)
EndsWith D k last (aheads.Open i) = (last ≡ true) × IsLeast D i

-- the only alternative is the least
only_least : (D : Config → Type 0) (i : ℕ) → IsOnly D i → IsLeast D i
only_least D i only = record {
  some = (only.some.0, only.some.1, only.all only.some.0 only.some.1);
  least = λ c in_c. let is = only.all c in_c in omega (arith, is);
}

-- where looking ahead ends, the set says so
pub shows_ends : (D : Config → Type 0) (k : ℕ) (last : Bool) (shown : Shown) (a : Ahead) → ahead_by k last shown ≡ Some a → Shows D shown
    → EndsWith D k last a
shows_ends D k last Nothing a is shows =
    subst (EndsWith D k last) (same_some (aheads.Settled (settleds.NoViable k)) a is) (refl, shows)
shows_ends D k last (Chosen i) a is (inl only) =
    subst (EndsWith D k last) (same_some (aheads.Settled (settleds.Chosen i)) a is) (inl only, only_least D i only)
shows_ends D k last (Chosen i) a is (inr (alike, least)) =
    subst (EndsWith D k last) (same_some (aheads.Settled (settleds.Chosen i)) a is) (inr (alike, least), least)
shows_ends D k true (Open i) a is shows = subst (EndsWith D k true) (same_some (aheads.Open i) a is) (refl, shows.1)
shows_ends D k false (Open i) a is shows = absurd (no_some a is)

-- and where it does not, full stacks go on
pub shows_goes : (D : Config → Type 0) (k : ℕ) (last : Bool) (shown : Shown) → ahead_by k last shown ≡ None → Shows D shown
    → GoesOnFull D
shows_goes D k last Nothing is shows = absurd (cc)
shows_goes D k last (Chosen i) is shows = absurd (cc)
shows_goes D k last (Open i) is shows = shows.0

-- sets with the same members show the same
pub shows_same : (D E : Config → Type 0) → AreSame D E → (shown : Shown) → Shows D shown → Shows E shown
shows_same D E same Nothing shows = empty_same D E (λ c. (same c).0) (λ c. (same c).1) shows
shows_same D E same (Chosen i) (inl only) = inl (only_same D E (λ c. (same c).0) (λ c. (same c).1) i only)
shows_same D E same (Chosen i) (inr (alike, least)) =
    let to : Within D E = λ c. (same c).0 in
    let from : Within E D = λ c. (same c).1 in inr (alike_same D E to from alike, least_same D E to from i least)
shows_same D E same (Open i) (goes, least) =
    let to : Within E D = λ c. (same c).1 in
    let from : Within D E = λ c. (same c).0 in (
      record {
        some = λ h. goes.some (empty_same E D to from h);
        several = λ j h. goes.several j (only_same E D to from j h);
        unlike = λ h. goes.unlike (alike_same E D to from h);
      },
      least_same D E from to i least,
    )
