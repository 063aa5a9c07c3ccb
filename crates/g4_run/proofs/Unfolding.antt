-- What a state spells, by what the state is.
use Rattle.std.proofs.Common.{◌≡◌, ℕ, List, Option, Some, None, refl, sym, subst, Contains}
use Rattle.g4_net.specs.Spelling.{PassesBy, TakesFirst, SpellsWord, ends, takes, calls, passes}
use Rattle.g4_net.specs.Network.{ParserNetwork, state_at, start_of}
use Rattle.g4_net.specs.declared.network.State.{State}
use Rattle.g4_net.specs.declared.network.State.TheVariants.{Decision, End, Edge, Call, Predicate, Level, Action, Empty}

module _ (net : ParserNetwork) where
  -- what such a state spells of w before z
  abbrev pub SpelledBy : Option (State (List ℕ)) → List ℕ → List ℕ → Type 0
  SpelledBy None w z = ⊥
  SpelledBy (Some (Decision targets)) w z = (t : ℕ) × Contains targets t × SpellsWord net t w z
  SpelledBy (Some (End rule)) w z = w ≡ z
  SpelledBy (Some (Edge set t)) w z = (v : List ℕ) × TakesFirst set w v × SpellsWord net t v z
  SpelledBy (Some (Call rule level back)) w z = (v : List ℕ) × SpellsWord net (start_of rule) w v × SpellsWord net back v z
  SpelledBy (Some (Predicate k t)) w z = SpellsWord net t w z
  SpelledBy (Some (Level q t)) w z = SpellsWord net t w z
  SpelledBy (Some (Action t)) w z = SpellsWord net t w z
  SpelledBy (Some (Empty t)) w z = SpellsWord net t w z

  -- by an edge that passes
  passed : (o : Option (State (List ℕ))) (t : ℕ) (w z : List ℕ) → PassesBy o t → SpellsWord net t w z → SpelledBy o w z
  passed (Some (Decision targets)) t w z m h = (t, m, h)
  passed (Some (Predicate k u)) t w z m h = subst (λ (p : ℕ). SpellsWord net p w z) m h
  passed (Some (Level q u)) t w z m h = subst (λ (p : ℕ). SpellsWord net p w z) m h
  passed (Some (Action u)) t w z m h = subst (λ (p : ℕ). SpellsWord net p w z) m h
  passed (Some (Empty u)) t w z m h = subst (λ (p : ℕ). SpellsWord net p w z) m h
  passed _ t w z m h = absurd m

  -- what a state spells is spelled so
  pub unfold_spells : (p : ℕ) (w z : List ℕ) → SpellsWord net p w z → SpelledBy (state_at net p) w z
  unfold_spells p w _ (ends _ rule _ is) = subst (λ (o : Option (State (List ℕ))). SpelledBy o w w) (sym is) refl
  unfold_spells p w z (takes _ t label _ v _ is m h) = subst (λ (o : Option (State (List ℕ))). SpelledBy o w z) (sym is) (v, m, h)
  unfold_spells p w z (calls _ rule level back _ v _ is h j) = subst (λ (o : Option (State (List ℕ))). SpelledBy o w z) (sym is) (v, h, j)
  unfold_spells p w z (passes _ t _ _ m h) = passed (state_at net p) t w z m h

  -- the same where the state is known
  pub unfold_at : (p : ℕ) (o : Option (State (List ℕ))) (w z : List ℕ) → state_at net p ≡ o → SpellsWord net p w z → SpelledBy o w z
  unfold_at p o w z is h = subst (λ (x : Option (State (List ℕ))). SpelledBy x w z) is (unfold_spells p w z h)
