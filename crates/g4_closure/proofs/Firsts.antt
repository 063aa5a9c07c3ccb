-- The first groups of a decision.
use Rattle.std.proofs.Common.{◌≡◌, ℕ, ◌+◌, ◌<◌, ◌↔◌, ◌⊎◌, inl, inr, List, [], ◌∷◌, ◌++◌, Bool, Option, Some, None, Contains, All, length, slice_get, refl, sym, ◌∙◌, ap, subst, arith}
use Rattle.std.proofs.lemmas.Option.{slice_get_within, get_or_from_slice_get}
use Rattle.std.proofs.lemmas.List.Elements.{Contains-push, Contains-push_cases, Contains-append_left}
use Rattle.g4_stacks.specs.Graph.{Content, Has, HasOf, IsNode}
use Rattle.g4_net.specs.declared.network.State.{State}
use Rattle.g4_net.specs.declared.network.State.TheVariants.{Decision, End, Edge, Call, Predicate, Level, Action, Empty}
use Rattle.g4_net.specs.Configurations.{Stack, Config, IsWithin}
use Rattle.g4_net.specs.Network.{ParserNetwork, state_at}
use Rattle.g4_net.specs.Leads.{WellFormed}
use Rattle.g4_net.specs.Lookahead.{Firsts}
use Rattle.g4_net.proofs.Pigeons.{In-from, In-to}
use Rattle.g4_configs.specs.declared.group.Group.{Group}
use Rattle.g4_configs.specs.Groups.{AreKnown, InSome, Same}
use Rattle.g4_configs.proofs.Listing.{some_at, at_some}
use Rattle.g4_closure.specs.Steps.{AreExactly, FirstsBelow, alternatives_by, placed}

-- one more in a list
in_push : (xs : List Group) (e d : Group) → Contains (xs ++ e ∷ []) d ↔ (Contains xs d ⊎ (d ≡ e))
in_push xs e d = (
  (λ i. elim (Contains-push_cases xs e d i) [ inl j ↦ inl j | inr is ↦ inr (sym is) ]),
  λ h. elim h [ inl j ↦ Contains-append_left xs (e ∷ []) d j | inr is ↦ subst (Contains (xs ++ e ∷ [])) (sym is) (Contains-push xs e) ],
)

-- a configuration by its parts
made_of : (c : Group) (j z : ℕ) → c.alternative ≡ j → c.stacks ≡ z → c ≡ placed j z c.state
made_of c j z a s = rw (← a, ← s) refl

-- no alternative is among the first none
pub firsts_none : (A : ℕ → Type 0) (z : ℕ) (ts : List ℕ) → AreExactly [] (FirstsBelow A z ts 0)
firsts_none A z ts c = ((λ i. absurd (omega (arith, i.1))), λ f. absurd (omega (arith, f.1.1)))

-- one more alternative, which is allowed
pub firsts_push : (A : ℕ → Type 0) (z : ℕ) (ts : List ℕ) (n t : ℕ) (found : List Group) → slice_get ts n ≡ Some t → A (n + 1)
    → AreExactly found (FirstsBelow A z ts n) → AreExactly (found ++ placed (n + 1) z t ∷ []) (FirstsBelow A z ts (n + 1))
firsts_push A z ts n t found at_n allowed has c = (to, from)
  where
    to : Contains (found ++ placed (n + 1) z t ∷ []) c → FirstsBelow A z ts (n + 1) c
    to i = elim ((in_push found (placed (n + 1) z t) c).0 i) [
      | inl j ↦ (let f = (has c).0 j in (f.0, (f.1.0, omega (arith, f.1.1), f.1.2, f.1.3), f.2))
      | inr is ↦ (
        subst A (sym (ap (λ (x : Group). x.alternative) is)) allowed,
        (n, omega arith, at_n ∙ ap (λ (x : Group). Some x.state) (sym is), ap (λ (x : Group). x.alternative) is),
        ap (λ (x : Group). x.stacks) is,
      )
    ]

    last : (k : ℕ) → k ≡ n → slice_get ts k ≡ Some c.state → c.alternative ≡ k + 1 → c.stacks ≡ z → c ≡ placed (n + 1) z t
    last k is at_k alt stack =
        let same : t ≡ c.state = cc in
        let number : c.alternative ≡ n + 1 = omega arith in
        made_of c (n + 1) z number stack ∙ ap (λ (p : ℕ). placed (n + 1) z p) (sym same)

    split : (k : ℕ) → k < n + 1 → (k < n) ⊎ (k ≡ n)
    split k less = grind arith

    from : FirstsBelow A z ts (n + 1) c → Contains (found ++ placed (n + 1) z t ∷ []) c
    from (allows, (k, less, at_k, alt), stack) = (in_push found (placed (n + 1) z t) c).1 (elim (split k less) [
      | inl before ↦ inl ((has c).1 (allows, (k, before, at_k, alt), stack))
      | inr is ↦ inr (last k is at_k alt stack)
    ])

-- one more alternative, which is not allowed
pub firsts_skip : (A : ℕ → Type 0) (z : ℕ) (ts : List ℕ) (n : ℕ) (found : List Group) → (A (n + 1) → ⊥)
    → AreExactly found (FirstsBelow A z ts n) → AreExactly found (FirstsBelow A z ts (n + 1))
firsts_skip A z ts n found refused has c = (to, from)
  where
    to : Contains found c → FirstsBelow A z ts (n + 1) c
    to i = let f = (has c).0 i in (f.0, (f.1.0, omega (arith, f.1.1), f.1.2, f.1.3), f.2)

    split : (k : ℕ) → k < n + 1 → (k < n) ⊎ (k ≡ n)
    split k less = grind arith

    from : FirstsBelow A z ts (n + 1) c → Contains found c
    from (allows, (k, less, at_k, alt), stack) = elim (split k less) [
      | inl before ↦ (has c).1 (allows, (k, before, at_k, alt), stack)
      | inr is ↦ absurd (refused (subst A (alt ∙ ap (λ (m : ℕ). m + 1) is) allows))
    ]

-- The first groups of a decision have its first configurations.
module _ (net : ParserNetwork) (d : ℕ) (A : ℕ → Type 0) (z : Stack) (g : List Content) (node : ℕ)
    (means : (s : Stack) → Has g node s ↔ (s ≡ z)) where
  at_group : (ts : List ℕ) (found : List Group) (c : Config) → AreExactly found (FirstsBelow A node ts (length ts)) → InSome g found c
      → (k : ℕ) × A c.alt × (slice_get ts k ≡ Some c.state) × (c.alt ≡ k + 1) × (c.stack ≡ z)
  at_group ts found c has i =
      let x = some_at g found c i in
      let f = (has x.0).0 (In-to found x.0 x.1) in
      let stack : HasOf g node c.stack.returns c.stack.wild = subst (λ (n : ℕ). HasOf g n c.stack.returns c.stack.wild) f.2 x.2.stack in
      (f.1.0, subst A (sym x.2.alt) f.0, f.1.2 ∙ ap (λ (p : ℕ). Some p) (sym x.2.state), x.2.alt ∙ f.1.3, (means c.stack).0 stack)

  at_config : (ts : List ℕ) (found : List Group) (c : Config) (k : ℕ) → AreExactly found (FirstsBelow A node ts (length ts)) → A c.alt
      → slice_get ts k ≡ Some c.state → c.alt ≡ k + 1 → c.stack ≡ z → InSome g found c
  at_config ts found c k has allows at_k alt stack =
      let x : Group = placed c.alt node c.state in
      let i = (has x).1 (allows, (k, slice_get_within ts k c.state at_k, at_k, alt), refl) in
      at_some g found c x (In-from found x i.0 i.1 i.2) (record { state = refl; alt = refl; stack = (means c.stack).1 stack })

  none : (found : List Group) (c : Config) → AreExactly found (FirstsBelow A node [] 0)
      → ((ts : List ℕ) → state_at net d ≡ Some (Decision ts) → ⊥) → InSome g found c ↔ Firsts net d A z c
  none found c has none_at = (
    (λ i. let x = some_at g found c i in let f = (has x.0).0 (In-to found x.0 x.1) in absurd (omega (arith, f.1.1))),
    λ f. let first = f.1 in absurd (none_at first.0 first.2),
  )

  -- by the decision's state
  firsts_by : (found : List Group) (c : Config) (o : Option (State (List ℕ))) → state_at net d ≡ o
      → AreExactly found (FirstsBelow A node (alternatives_by o) (length (alternatives_by o))) → InSome g found c ↔ Firsts net d A z c
  firsts_by found c (Some (Decision ts)) is has = (
    (λ i. let r = at_group ts found c has i in (r.1, (ts, r.0, is, r.2, r.3), r.4)),
    λ (allows, (us, k, at_us, at_k, alt), stack).
        let same : us ≡ ts = cc in
        at_config ts found c k has allows (subst (λ (xs : List ℕ). slice_get xs k ≡ Some c.state) same at_k) alt stack,
  )
  firsts_by found c (Some (End rule)) is has = none found c has (λ ts at_d. cc)
  firsts_by found c (Some (Edge set t)) is has = none found c has (λ ts at_d. cc)
  firsts_by found c (Some (Call rule level back)) is has = none found c has (λ ts at_d. cc)
  firsts_by found c (Some (Predicate k t)) is has = none found c has (λ ts at_d. cc)
  firsts_by found c (Some (Level q t)) is has = none found c has (λ ts at_d. cc)
  firsts_by found c (Some (Action t)) is has = none found c has (λ ts at_d. cc)
  firsts_by found c (Some (Empty t)) is has = none found c has (λ ts at_d. cc)
  firsts_by found c None is has = none found c has (λ ts at_d. cc)

  pub firsts_exact : (ts : List ℕ) (found : List Group) → ts ≡ alternatives_by (state_at net d)
      → AreExactly found (FirstsBelow A node ts (length ts)) → Same (InSome g found) (Firsts net d A z)
  firsts_exact ts found is has c = firsts_by found c (state_at net d) refl
      (subst (λ (us : List ℕ). AreExactly found (FirstsBelow A node us (length us))) is has)

-- a list of first groups has numbers of sets of stacks
pub firsts_known : (g : List Content) (A : ℕ → Type 0) (node : ℕ) (ts : List ℕ) (n : ℕ) (found : List Group) → IsNode g node
    → AreExactly found (FirstsBelow A node ts n) → AreKnown g found
firsts_known g A node ts n found known has = all found (λ x i. subst (IsNode g) (sym ((has x).0 i).2) known)
  where
    all : (xs : List Group) → ((x : Group) → Contains xs x → IsNode g x.stacks) → AreKnown g xs
    all [] each = tt
    all (x ∷ xs) each = (each x (In-to (x ∷ xs) x (inl refl)), all xs (λ y i. each y (In-to (x ∷ xs) y (inr (In-from xs y i.0 i.1 i.2)))))

-- the first configurations are of the network
pub firsts_within : (net : ParserNetwork) (d : ℕ) (A : ℕ → Type 0) (returns : List ℕ) (wild : Bool) → WellFormed net
    → All (λ t. t < length net.states) returns → (c : Config) → Firsts net d A (record { returns = returns; wild = wild }) c
    → IsWithin net c
firsts_within net d A returns wild well all c f =
    let first = f.1 in
    let at_d : state_at net d ≡ Some (Decision first.0) = first.2 in (
      well.targets d c.state (Decision first.0) at_d (listed first.0 first.1 c.state first.3),
      subst (λ (rs : List ℕ). All (λ t. t < length net.states) rs) (sym (ap (λ (z : Stack). z.returns) f.2)) all,
    )
  where
    listed : (ts : List ℕ) (k t : ℕ) → slice_get ts k ≡ Some t → Contains ts t
    listed ts k t is = (k, slice_get_within ts k t is, get_or_from_slice_get ts k t t is)
