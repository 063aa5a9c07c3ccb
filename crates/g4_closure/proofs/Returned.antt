-- Groups, and where the ends of their rules lead.
use Rattle.std.proofs.Common.{◌≡◌, ◌<◌, ◌⊎◌, inl, inr, ℕ, zero, suc, List, [], ◌∷◌, ◌++◌, length, get_or, sym, subst, arith}
use Rattle.g4_stacks.specs.Graph.{Content}
use Rattle.g4_net.specs.Configurations.{Config}
use Rattle.g4_net.specs.Leads.{Reaches, here, further}
use Rattle.g4_net.specs.Network.{ParserNetwork}
use Rattle.g4_configs.specs.declared.group.Group.{Group}
use Rattle.g4_configs.specs.Configs.{IsOfGroup, View}
use Rattle.g4_configs.specs.Groups.{InGroup, InSome, AreKnown, Same}
use Rattle.g4_closure.specs.Ahead.{LeadsToEnd}
use Rattle.g4_closure.specs.Returns.{AreFollowed, AreMore, AreReached}
use Rattle.g4_closure.specs.Steps.{ReachedFrom, ReturnedFrom}
use Rattle.g4_closure.proofs.Following.{end_reached}
use Rattle.g4_closure.proofs.Joining.{known_append, known_at, some_append}

-- what is in a group of the list is in the list
pub in_some_at : (g : List Content) (xs : List Group) (k : ℕ) (d : Group) (c : Config) → k < length xs → InGroup g (get_or xs k d) c
    → InSome g xs c
in_some_at g [] k d c less i = absurd (omega (arith, less))
in_some_at g (x ∷ xs) zero d c less i = inl i
in_some_at g (x ∷ xs) (suc k) d c less i = inr (in_some_at g xs k d c (omega (arith, less)) i)

-- nothing is added yet
pub more_none : (xs found : List Group) → AreMore xs found found
more_none xs found = record { known = λ g a b. b; has = λ g c i. i; only = λ g c i. inl i }

-- the group at a place is added
pub more_next : (xs first found more : List Group) (k : ℕ) (d : Group) → k < length xs → more ≡ found ++ get_or xs k d ∷ []
    → AreMore xs first found → AreMore xs first more
more_next xs first found more k d less is h = subst (AreMore xs first) (sym is) (record {
  known = λ g a b. known_append g found (get_or xs k d ∷ []) (h.known g a b) (known_at g xs k d a less, tt);
  has = λ g c i. (some_append g found (get_or xs k d ∷ []) c).1 (inl (h.has g c i));
  only = λ g c i. elim (let f : InSome g found c ⊎ InSome g (get_or xs k d ∷ []) c =
      (some_append g found (get_or xs k d ∷ []) c).0 i in f) [
        | inl a ↦ h.only g c a
        | inr a ↦ elim a [ inl b ↦ inr (in_some_at g xs k d c less b) | inr b ↦ absurd b ]
      ];
})

-- nothing is added where the group's state leads to no end
pub followed_none : (net : ParserNetwork) (v : View) (x : Group) (found : List Group) → AreKnown v.graph found
    → AreFollowed net v x found found
followed_none net v x found known = record { known = known; has = λ c i. i; led = λ c i. inl i }

-- where it leads to an end, what that leads to is reached
pub followed_end : (net : ParserNetwork) (v : View) (x : Group) (rule : ℕ) (led found more : List Group) → LeadsToEnd net x.state rule
    → AreKnown v.graph led → Same (InSome v.graph led) (ReturnedFrom net rule (IsOfGroup v x)) → AreKnown v.graph found
    → AreMore led found more → AreFollowed net v x found more
followed_end net v x rule led found more way led_known means known h = record {
  known = h.known v.graph led_known known;
  has = λ c i. h.has v.graph c i;
  led = λ c i. elim (let f : InSome v.graph found c ⊎ InSome v.graph led c = h.only v.graph c i in f) [
    | inl a ↦ inl a
    | inr a ↦ (let r = (means c).0 a in
        inr (r.0, r.1, end_reached net rule r.0 c (subst (λ (p : ℕ). LeadsToEnd net p rule) (sym r.1.state) way) r.2))
  ];
}

-- the starts alone
pub reached_first : (net : ParserNetwork) (g : List Content) (starts found : List Group) → found ≡ starts → AreKnown g starts
    → AreReached net g starts found
reached_first net g starts found is known = subst (AreReached net g starts) (sym is)
    (record { known = known; has = λ c i. i; reached = λ c i. (c, i, here) })

-- what is reached from what is reached
pub reaches_then : (net : ParserNetwork) (c d e : Config) → Reaches net c d → Reaches net d e → Reaches net c e
reaches_then net c d e r here = r
reaches_then net c d e r (further f _ s l) = further f e (reaches_then net c d f r s) l

-- one of the list is followed
pub reached_next : (net : ParserNetwork) (v : View) (starts found more : List Group) (k : ℕ) (d : Group) → k < length found
    → AreFollowed net v (get_or found k d) found more → AreReached net v.graph starts found → AreReached net v.graph starts more
reached_next net v starts found more k d less followed h = record {
  known = followed.known;
  has = λ c i. followed.has c (h.has c i);
  reached = λ c i. elim (let f : InSome v.graph found c ⊎ ReachedFrom net (IsOfGroup v (get_or found k d)) c = followed.led c i in f) [
    | inl a ↦ h.reached c a
    | inr a ↦ (let r = h.reached a.0 (in_some_at v.graph found k d a.0 less a.1) in (r.0, r.1, reaches_then net r.0 a.0 c r.2 a.2))
  ];
}
