-- Finitely many configurations are reached from groups.
use Rattle.std.proofs.Common.{◌≡◌, ℕ, ◌+◌, ◌<◌, ◌≤◌, inl, inr, List, [], ◌∷◌, ◌++◌, Bool, true, false, Option, Some, None, length, slice_get, refl, sym, ◌∙◌, subst, arith}
use Rattle.g4_stacks.specs.Graph.{Content, HasOf, LeadsTo}
use Rattle.g4_stacks.specs.Canonical.{IsCanonical}
use Rattle.g4_stacks.proofs.Ordered.{lead_below}
use Rattle.g4_net.specs.Network.{ParserNetwork}
use Rattle.g4_net.specs.Configurations.{Config, IsWithin}
use Rattle.g4_net.specs.Leads.{Reaches, WellFormed}
use Rattle.g4_net.proofs.Pigeons.{In}
use Rattle.g4_net.proofs.Finite.{AllBelow-from, below, lists, everywhere, In-below, In-lists, In-everywhere, reached_keeps, reached_within}
use Rattle.g4_net.proofs.Frames.{grows_little}
use Rattle.g4_configs.specs.declared.group.Group.{Group}
use Rattle.g4_configs.specs.Groups.{InSome}

-- a node's number bounds the length of its stacks
depth : (g : List Content) → IsCanonical g → (returns : List ℕ) (wild : Bool) (n : ℕ) → HasOf g n returns wild → length returns ≤ n
depth g canon [] wild n h = omega arith
depth g canon (t ∷ rest) wild n (m, leads, more) =
    let lt = lower (slice_get g n) refl leads in
    let d = depth g canon rest wild m more in
    omega (arith, lt, d)
  where
    lower : (o : Option Content) → slice_get g n ≡ o → LeadsTo o t m → m < n
    lower None is h = absurd h
    lower (Some c) is h = (lead_below n t m c.tops (canon.plain n c is).lower h).1

In-left : (x : Config) (xs ys : List Config) → In x xs → In x (xs ++ ys)
In-left x [] ys h = absurd h
In-left x (y ∷ xs) ys (inl e) = inl e
In-left x (y ∷ xs) ys (inr i) = inr (In-left x xs ys i)

In-right : (x : Config) (xs ys : List Config) → In x ys → In x (xs ++ ys)
In-right x [] ys h = h
In-right x (y ∷ xs) ys h = inr (In-right x xs ys h)

-- all configurations of the network whose stacks are not much higher than those of a group
abbrev pub universe_of : ℕ → List Group → List Config
universe_of n [] = []
universe_of n (x ∷ xs) = everywhere (below n) x.alternative true (lists n (n + x.stacks))
    ++ (everywhere (below n) x.alternative false (lists n (n + x.stacks)) ++ universe_of n xs)

in_both : (n alt : ℕ) (d : Config) (ls : List (List ℕ)) (rest : List Config) → d.alt ≡ alt → In d.state (below n)
    → In d.stack.returns ls → (b : Bool) → d.stack.wild ≡ b
    → In d (everywhere (below n) alt true ls ++ (everywhere (below n) alt false ls ++ rest))
in_both n alt d ls rest e s r true w = In-left d (everywhere (below n) alt true ls) _
    (subst (λ (a : ℕ). In d (everywhere (below n) a true ls)) e
    (subst (λ (b : Bool). In d (everywhere (below n) d.alt b ls)) w (In-everywhere d (below n) ls s r)))
in_both n alt d ls rest e s r false w = In-right d (everywhere (below n) alt true ls) _
    (In-left d (everywhere (below n) alt false ls) rest
    (subst (λ (a : ℕ). In d (everywhere (below n) a false ls)) e
    (subst (λ (b : Bool). In d (everywhere (below n) d.alt b ls)) w (In-everywhere d (below n) ls s r))))

module _ (net : ParserNetwork) (well : WellFormed net) (g : List Content) (canon : IsCanonical g) where
  -- all that the groups lead to is in the list
  pub bounded_by : (starts : List Group) (c d : Config) → InSome g starts c → IsWithin net c → Reaches net c d
      → In d (universe_of (length net.states) starts)
  bounded_by [] c d i within r = absurd i
  bounded_by (x ∷ xs) c d (inl i) within r =
      let n : ℕ = length net.states in
      let there = reached_within net c d well within r in
      let alt : d.alt ≡ x.alternative = sym (reached_keeps net c d r).0 ∙ i.alt in
      let grows = grows_little net c d well.never_again r in
      let high = depth g canon c.stack.returns c.stack.wild x.stacks i.stack in
      let fits : length d.stack.returns ≤ n + x.stacks = omega (arith, grows, high) in
      in_both n x.alternative d (lists n (n + x.stacks)) (universe_of n xs) alt (In-below n d.state there.0)
      (In-lists n (n + x.stacks) d.stack.returns fits (AllBelow-from n d.stack.returns there.1)) d.stack.wild refl
  bounded_by (x ∷ xs) c d (inr i) within r =
      let n : ℕ = length net.states in
      In-right d (everywhere (below n) x.alternative true (lists n (n + x.stacks))) _
      (In-right d (everywhere (below n) x.alternative false (lists n (n + x.stacks))) (universe_of n xs) (bounded_by xs c d i within r))
