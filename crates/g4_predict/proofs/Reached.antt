-- SLL comes to the configurations of each start set, and of each set after one to which it comes. All of them are within the network,
-- and apart from the added rule.
use Rattle.std.proofs.Common.{◌≡◌, ◌<◌, ℕ, List, [], ◌∷◌, ◌++◌, All, Bool, true, Contains, Option, Some, None, length, refl, sym, ◌∙◌, ap, subst, arith}
use Rattle.g4_tokens.specs.declared.token.Token.{Token}
use Rattle.g4_tokens.specs.Symbols.{end_of_list}
use Rattle.g4_tokens.specs.TokenList.{word_of}
use Rattle.g4_net.specs.declared.network.State.{State}
use Rattle.g4_net.specs.declared.network.State.TheVariants.{Decision, End, Edge, Call, Predicate, Level, Action, Empty}
use Rattle.g4_net.specs.AddedRule.{IsApart, IsReady}
use Rattle.g4_net.specs.Allowed.{Allows}
use Rattle.g4_net.specs.declared.allowed.Allowed.TheVariants.{Every}
use Rattle.g4_net.specs.Configurations.{Config, IsRow, IsWithin, Stack, at, wildcard}
use Rattle.g4_net.specs.Leads.{WellFormed}
use Rattle.g4_net.specs.Lookahead.{Next, Start, TakesBy}
use Rattle.g4_net.specs.Network.{ParserNetwork, state_at}
use Rattle.g4_net.proofs.Finite.{reached_within, target_within}
use Rattle.g4_lookahead.specs.EndOfList.{After}
use Rattle.g4_lookahead.proofs.Apart.{Stands, stands_next, stands_start, taken}
use Rattle.g4_lookahead.proofs.Looking.{IsLooking}
use Rattle.g4_predict.specs.Reached.{IsReached}

module _ (net : ParserNetwork) where
  -- all of the set is reached
  abbrev pub AreReached : (Config → Type 0) → Type 0
  AreReached C = (c : Config) → C c → IsReached net c

  -- the start set of a decision, over any alternatives
  pub reached_start : (d : ℕ) (A : ℕ → Type 0) → AreReached (Start net d A wildcard)
  reached_start d A c (first, (may, is, stack), leads, kept) = (d, [], (first, (tt, is, stack), leads, kept))

  -- the set after a word and a symbol
  after_more : (C : Config → Type 0) (w : List ℕ) (a : ℕ) (c : Config) → Next net (After net C w) a c → After net C (w ++ a ∷ []) c
  after_more C [] a c h = h
  after_more C (b ∷ w) a c h = after_more (Next net C b) w a c h

  -- the next set
  pub reached_next : (C : Config → Type 0) (a : ℕ) → AreReached C → AreReached (Next net C a)
  reached_next C a all c (e, (b, in_b, takes, is), leads, kept) =
      let (d, w, h) = all b in_b in
      (d, w ++ a ∷ [], after_more (Start net d (Allows Every) wildcard) w a c (e, (b, h, takes, is), leads, kept))

  -- so it is with rows
  pub reached_row : (row : List Config) (C : Config → Type 0) → IsRow row C → AreReached C → AreReached (Contains row)
  reached_row row C is all c i = all c ((is.exactly c).0 i)

  -- the target of an edge that takes a symbol is within the network
  taken_within : (a : ℕ) (c d : Config) → WellFormed net → (o : Option (State (List ℕ))) → state_at net c.state ≡ o
      → TakesBy o a d.state → d ≡ at c d.state → IsWithin net c → IsWithin net d
  taken_within a c d well (Some (Edge set t)) is (has, to) e w =
      subst (IsWithin net) (sym (e ∙ ap (λ (p : ℕ). at c p) to)) (target_within net c set t well is w)
  taken_within a c d well (Some (Decision targets)) is h e w = absurd h
  taken_within a c d well (Some (End rule)) is h e w = absurd h
  taken_within a c d well (Some (Call rule level back)) is h e w = absurd h
  taken_within a c d well (Some (Predicate k t)) is h e w = absurd h
  taken_within a c d well (Some (Level q t)) is h e w = absurd h
  taken_within a c d well (Some (Action t)) is h e w = absurd h
  taken_within a c d well (Some (Empty t)) is h e w = absurd h
  taken_within a c d well None is h e w = absurd h

  -- all of the set is within the network
  abbrev AreWithin : (Config → Type 0) → Type 0
  AreWithin C = (c : Config) → C c → IsWithin net c

  start_within : (d : ℕ) (A : ℕ → Type 0) → WellFormed net → AreWithin (Start net d A wildcard)
  start_within d A well c (first, (may, (targets, k, is, at_k, alt), stack), leads, kept) =
      let none : All (λ (t : ℕ). t < length net.states) [] = λ j e less. absurd (omega (arith, less)) in
      let here : IsWithin net first = (
        well.targets d first.state (Decision targets) is (taken targets k first.state at_k),
        subst (λ (s : Stack). All (λ (t : ℕ). t < length net.states) s.returns) (sym stack) none,
      ) in
      reached_within net first c well here leads

  after_within : (C : Config → Type 0) (w : List ℕ) → WellFormed net → AreWithin C → AreWithin (After net C w)
  after_within C [] well all = all
  after_within C (a ∷ w) well all = after_within (Next net C a) w well (λ c (e, (b, in_b, takes, is), leads, kept).
      reached_within net e c well (taken_within a b e well (state_at net b.state) refl takes is (all b in_b)) leads)

  -- what is reached is within the network
  pub reached_is_within : WellFormed net → (c : Config) → IsReached net c → IsWithin net c
  reached_is_within well c (d, w, h) =
      after_within (Start net d (Allows Every) wildcard) w well (start_within d (Allows Every) well) c h

  after_stands : {looped : List ℕ} → (rule loop : ℕ) (mark : Bool) (C : Config → Type 0) (w : List ℕ) → IsApart net rule loop looped
      → Stands loop mark C → Stands loop mark (After net C w)
  after_stands rule loop mark C [] apart stands = stands
  after_stands rule loop mark C (a ∷ w) apart stands =
      after_stands rule loop mark (Next net C a) w apart (stands_next net rule loop a mark C apart stands)

  -- a set of which all is reached is one that SLL can look ahead from
  pub looking_from : (tokens : List Token) (C : Config → Type 0) → IsReady net → AreReached C
      → Contains (word_of tokens) end_of_list → IsLooking net wildcard tokens 0 C
  looking_from tokens C (rule, loop, set, runnable) all ends = record {
    rule = rule;
    loop = loop;
    set = set;
    runnable = runnable;
    stands = λ c i. let (d, w, h) = all c i in
        after_stands rule loop true (Start net d (Allows Every) wildcard) w runnable.apart
        (stands_start net rule loop d (Allows Every) wildcard runnable.apart (record { alone = λ j. refl; apart = tt })) c h;
    within = λ c i. reached_is_within runnable.well_formed c (all c i);
    ahead = ends;
  }
