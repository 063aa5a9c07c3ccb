-- What is kept of a set.
use Rattle.std.proofs.Common.{◌≡◌, ℕ, ◌<◌, ◌↔◌, List, Bool, true, false, true≢false, cond, Option, Some, None, filter, refl, sym, ◌∙◌, subst, arith}
use Rattle.std.proofs.lemmas.Bool.Decides.{nat_tests}
use Rattle.std.proofs.lemmas.Map.Entries.{lookup-filter-keys}
use Rattle.g4_stacks.specs.Graph.{Content, IsNode}
use Rattle.g4_stacks.specs.Table.{pair_eq}
use Rattle.g4_net.specs.declared.network.State.{State}
use Rattle.g4_net.specs.declared.network.State.TheVariants.{Decision, End, Edge, Call, Predicate, Level, Action, Empty}
use Rattle.g4_net.specs.Configurations.{Config}
use Rattle.g4_net.specs.Lookahead.{IsKept, IsKeptBy}
use Rattle.g4_net.specs.Network.{ParserNetwork, state_at}
use Rattle.g4_configs.specs.Configs.{Holds, View}
use Rattle.g4_configs.specs.Groups.{AreNodes, Entries, HasAt, Within, node_at}
use Rattle.g4_configs.specs.Kept.{keeps_by, keeps_pair}
use Rattle.g4_configs.proofs.Keys.{pair_exact}

keeps_true : (o : Option (State (List ℕ))) → keeps_by o ≡ true → IsKeptBy o
keeps_true (Some (Edge set t)) h = tt
keeps_true (Some (End rule)) h = grind (arith, nat_tests)
keeps_true (Some (Decision targets)) h = absurd (true≢false (sym h))
keeps_true (Some (Call rule level back)) h = absurd (true≢false (sym h))
keeps_true (Some (Predicate k t)) h = absurd (true≢false (sym h))
keeps_true (Some (Level q t)) h = absurd (true≢false (sym h))
keeps_true (Some (Action t)) h = absurd (true≢false (sym h))
keeps_true (Some (Empty t)) h = absurd (true≢false (sym h))
keeps_true None h = absurd (true≢false (sym h))

true_keeps : (o : Option (State (List ℕ))) → IsKeptBy o → keeps_by o ≡ true
true_keeps (Some (Edge set t)) h = refl
true_keeps (Some (End rule)) h = grind (arith, nat_tests)
true_keeps (Some (Decision targets)) h = absurd h
true_keeps (Some (Call rule level back)) h = absurd h
true_keeps (Some (Predicate k t)) h = absurd h
true_keeps (Some (Level q t)) h = absurd h
true_keeps (Some (Action t)) h = absurd h
true_keeps (Some (Empty t)) h = absurd h
true_keeps None h = absurd h

module _ (net : ParserNetwork) (g : List Content) (m : Entries) where
  -- the nodes of the states that are kept
  abbrev kept : Entries
  kept = filter (λ e. keeps_pair net e.0) m

  found_kept : (q : ℕ × ℕ) (b : Bool) → keeps_pair net q ≡ b → node_at kept q ≡ cond b (node_at m q) None
  found_kept q b is = lookup-filter-keys (pair_eq q) (keeps_pair net) b at_key m
    where
      at_key : (k : ℕ × ℕ) → pair_eq q k ≡ true → keeps_pair net k ≡ b
      at_key k h = subst (λ (r : ℕ × ℕ). keeps_pair net r ≡ b) (pair_exact q k h) is

  pub kept_nodes : (m' : Entries) → m' ≡ kept → AreNodes g m → AreNodes g m'
  kept_nodes m' at nodes q n is = by (keeps_pair net q) refl
    where
      here : node_at kept q ≡ Some n
      here = subst (λ (es : Entries). node_at es q ≡ Some n) at is

      by : (b : Bool) → keeps_pair net q ≡ b → IsNode g n × (0 < n)
      by true e = nodes q n (sym (found_kept q true e) ∙ here)
      by false e = let no : None ≡ Some n = sym (found_kept q false e) ∙ here in absurd cc

  pub kept_members : (v w : View) (m' : Entries) → m' ≡ kept → Path View (record { graph = g; nodes = m }) v
      → Path View (record { graph = g; nodes = m' }) w → (c : Config) → Holds w c ↔ (Holds v c × IsKept net c)
  kept_members v w m' at old new c = subst (λ (u : View). Holds u c ↔ (Holds v c × IsKept net c)) new
      (subst (λ (u : View). Within g m' c ↔ (Holds u c × IsKept net c)) old
      (subst (λ (es : Entries). Within g es c ↔ (Within g m c × IsKept net c)) (sym at) (by (keeps_pair net (c.state, c.alt)) refl)))
    where
      by : (b : Bool) → keeps_pair net (c.state, c.alt) ≡ b → Within g kept c ↔ (Within g m c × IsKept net c)
      by true e =
          let is = found_kept (c.state, c.alt) true e in
          let held : IsKept net c = keeps_true (state_at net c.state) e in (
            (λ h. (subst (λ (o : Option ℕ). HasAt g o c.stack.returns c.stack.wild) is h, held)),
            λ h. subst (λ (o : Option ℕ). HasAt g o c.stack.returns c.stack.wild) (sym is) h.0,
          )
      by false e =
          let is = found_kept (c.state, c.alt) false e in (
            (λ h. absurd (let no : ⊥ = subst (λ (o : Option ℕ). HasAt g o c.stack.returns c.stack.wild) is h in no)),
            λ h. absurd (true≢false (sym (true_keeps (state_at net c.state) h.1) ∙ e)),
          )
