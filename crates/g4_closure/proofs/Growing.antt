-- Sets that grow while groups of them are followed.
use Rattle.std.proofs.Common.{◌⊎◌, inl, inr, ℕ, List, [], ◌∷◌, ◌<◌, ◌↔◌, length, get_or, refl, sym, ◌∙◌, subst}
use Rattle.g4_stacks.specs.Graph.{HasOf, IsNode, Keeps}
use Rattle.g4_net.specs.Network.{ParserNetwork}
use Rattle.g4_net.specs.Configurations.{Config, config}
use Rattle.g4_net.specs.Leads.{here, further}
use Rattle.g4_configs.specs.declared.group.Group.{Group}
use Rattle.g4_configs.specs.Configs.{Holds, IsOfGroup, View}
use Rattle.g4_configs.specs.Groups.{AreKnown, InGroup, InSome, Same}
use Rattle.g4_configs.proofs.Adding.{keeps_then, group_kept}
use Rattle.g4_closure.specs.Filling.{HasAfter, IsAfter, IsGrown}
use Rattle.g4_closure.specs.Returns.{AreReached}
use Rattle.g4_closure.specs.Steps.{LedFrom, ReachedFrom}
use Rattle.g4_closure.proofs.Joining.{known_append, known_at, some_append}
use Rattle.g4_closure.proofs.Returned.{in_some_at, reaches_then}

-- nothing is added
pub grown_none : (v : View) (C : Config → Type 0) → IsGrown v C v
grown_none v C = record { keeps = λ n lt. (lt, (λ s. ((λ x. x), (λ x. x)))); only = λ c h. inl h }

-- a group is added
pub grown_by : (v v' : View) (x : Group) → Keeps v.graph v'.graph
    → ((c : Config) → Holds v' c ↔ (Holds v c ⊎ IsOfGroup v x c)) → IsGrown v (IsOfGroup v x) v'
grown_by v v' x kept members = record { keeps = kept; only = λ c h. (members c).0 h }

-- a set grows again
pub grown_then : (v u v' : View) (C D : Config → Type 0) → IsGrown v C u → IsGrown u D v'
    → ((c : Config) → D c → Holds v c ⊎ C c) → IsGrown v C v'
grown_then v u v' C D a b into = record {
  keeps = keeps_then v.graph u.graph v'.graph a.keeps b.keeps;
  only = λ c h. elim (let f : Holds u c ⊎ D c = b.only c h in f) [ inl x ↦ a.only c x | inr y ↦ into c y ];
}

-- one group more of a list
pub grown_each : (v u v' : View) (xs : List Group) (k : ℕ) (d : Group) → k < length xs → AreKnown v.graph xs
    → IsGrown v (InSome v.graph xs) u → IsGrown u (IsOfGroup u (get_or xs k d)) v' → IsGrown v (InSome v.graph xs) v'
grown_each v u v' xs k d less known a b = grown_then v u v' (InSome v.graph xs) (IsOfGroup u (get_or xs k d)) a b
    (λ c i. inr (in_some_at v.graph xs k d c less
    ((group_kept v.graph u.graph (get_or xs k d) a.keeps (known_at v.graph xs k d known less) c).1 i)))

-- What a group leads to was found, in the set u: it may have stacks more.
module _ (net : ParserNetwork) (v u : View) (x : Group) (kept : Keeps v.graph u.graph) (in' : IsNode v.graph x.stacks) where
  -- what is after its call is reached
  after_reached : (y : Group) → IsAfter net x y → (c : Config) → InGroup u.graph y c → ReachedFrom net (IsOfGroup v x) c
  after_reached y after c i = (
    b,
    record { state = refl; alt = i.alt ∙ after.alternative; stack = own },
    after.reaches b c refl i.state refl refl,
  )
    where
      b : Config
      b = config x.state c.alt c.stack

      there : HasOf u.graph x.stacks c.stack.returns c.stack.wild
      there = subst (λ (n : ℕ). HasOf u.graph n c.stack.returns c.stack.wild) after.stacks i.stack

      own : HasOf v.graph x.stacks c.stack.returns c.stack.wild
      own = ((kept x.stacks in').1 c.stack).1 there

  led_reached : (found : List Group) → Same (InSome u.graph found) (LedFrom net (IsOfGroup v x)) → (c : Config)
      → InSome u.graph found c → ReachedFrom net (IsOfGroup v x) c
  led_reached found means c i = let l = (means c).0 i in (l.0, l.1, further l.0 c here l.2)

  -- all that was found is reached
  pub found_reached : (found more : List Group) → Same (InSome u.graph found) (LedFrom net (IsOfGroup v x)) → HasAfter net x found more
      → (c : Config) → InSome u.graph more c → ReachedFrom net (IsOfGroup v x) c
  found_reached found more means (inl e) c i =
      led_reached found means c (subst (λ (w : List Group). InSome u.graph w c) e i)
  found_reached found more means (inr h) c i =
      elim (let f : InSome u.graph found c ⊎ InSome u.graph (h.0 ∷ []) c =
      (some_append u.graph found (h.0 ∷ []) c).0 (subst (λ (w : List Group). InSome u.graph w c) h.1 i) in f) [
        | inl a ↦ led_reached found means c a
        | inr a ↦ elim a [ inl b ↦ after_reached h.0 h.2 c b | inr b ↦ absurd b ]
      ]

  -- and its numbers are those of sets of stacks
  pub found_known : (found more : List Group) → AreKnown u.graph found → HasAfter net x found more → AreKnown u.graph more
  found_known found more known (inl e) = subst (AreKnown u.graph) (sym e) known
  found_known found more known (inr h) = subst (AreKnown u.graph) (sym h.1) (known_append u.graph found (h.0 ∷ []) known
      (subst (IsNode u.graph) (sym h.2.stacks) (kept x.stacks in').0, tt))

  -- so the set grows by what is reached
  pub followed : (v' : View) (found more : List Group) → Same (Holds u) (Holds v)
      → Same (InSome u.graph found) (LedFrom net (IsOfGroup v x)) → HasAfter net x found more
      → IsGrown u (InSome u.graph more) v' → IsGrown v (ReachedFrom net (IsOfGroup v x)) v'
  followed v' found more same means after grown = record {
    keeps = keeps_then v.graph u.graph v'.graph kept grown.keeps;
    only = λ c h. elim (let f : Holds u c ⊎ InSome u.graph more c = grown.only c h in f)
        [ inl a ↦ inl ((same c).0 a) | inr a ↦ inr (found_reached found more means after c a) ];
  }

-- a group of the set was followed
pub followed_on : (net : ParserNetwork) (v u v' : View) (x : Group) → ((c : Config) → IsOfGroup u x c → Holds u c)
    → IsGrown v (ReachedFrom net (Holds v)) u → IsGrown u (ReachedFrom net (IsOfGroup u x)) v' → IsGrown v (ReachedFrom net (Holds v)) v'
followed_on net v u v' x held a b = grown_then v u v' (ReachedFrom net (Holds v)) (ReachedFrom net (IsOfGroup u x)) a b on
  where
    on : (c : Config) → ReachedFrom net (IsOfGroup u x) c → Holds v c ⊎ ReachedFrom net (Holds v) c
    on c (e, i, r) = elim (let f : Holds v e ⊎ ReachedFrom net (Holds v) e = a.only e (held e i) in f) [
      | inl h ↦ inr (e, h, r)
      | inr h ↦ inr (h.0, h.1, reaches_then net h.0 e c h.2 r)
    ]

-- an empty set has got groups that are reached, and was followed on
pub filled : (net : ParserNetwork) (v u v' : View) (starts first : List Group) → ((c : Config) → Holds v c → ⊥)
    → AreReached net v.graph starts first → IsGrown v (InSome v.graph first) u → IsGrown u (ReachedFrom net (Holds u)) v'
    → (c : Config) → Holds v' c → ReachedFrom net (InSome v.graph starts) c
filled net v u v' starts first empty reached a b c h =
    elim (let f : Holds u c ⊎ ReachedFrom net (Holds u) c = b.only c h in f) [
      | inl x ↦ added c x
      | inr x ↦ (let r = added x.0 x.1 in (r.0, r.1, reaches_then net r.0 x.0 c r.2 x.2))
    ]
  where
    added : (e : Config) → Holds u e → ReachedFrom net (InSome v.graph starts) e
    added e i = elim (let f : Holds v e ⊎ InSome v.graph first e = a.only e i in f)
        [ inl x ↦ absurd (empty e x) | inr x ↦ reached.reached e x ]
