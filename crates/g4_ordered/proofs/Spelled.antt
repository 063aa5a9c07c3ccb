-- A walk from a rule's start to its end spells what it reads, and what is spelled has a walk.
use Rattle.std.proofs.Common.{◌≡◌, ℕ, inl, List, [], ◌∷◌, Bool, true, false, Option, Some, None, refl, sym, ◌∙◌, ap, subst}
use Rattle.std.proofs.lemmas.Bool.{false≢true}
use Rattle.g4_net.specs.declared.network.State.{State}
use Rattle.g4_net.specs.declared.network.State.TheVariants.{Decision, End, Edge, Call, Predicate, Level, Action, Empty}
use Rattle.g4_net.specs.Network.{state_at, start_of}
use Rattle.g4_net.specs.Leads.{IsTarget}
use Rattle.g4_ordered.specs.declared.network.Reads.{Reads}
use Rattle.g4_ordered.specs.declared.network.Reads.TheVariants.{Characters, EndOfText}
use Rattle.g4_ordered.specs.Network.{LexerNetwork, is_reluctant, IsReluctant}
use Rattle.g4_ordered.specs.Configurations.{LexerConfig, In, at, through, at_with}
use Rattle.g4_ordered.specs.Leads.{leads_by, leads_past, returned, only_if, ReadsTo}
use Rattle.g4_ordered.specs.Lists.{is_last, IsEndBy, IsAtEnd}
use Rattle.g4_ordered.specs.Walks.{Walks, here, leading, reading}
use Rattle.g4_net.specs.Spelling.{ends, takes, calls, passes, PassesBy}
use Rattle.g4_ordered.specs.Spelling.{TakesText, SpellsText}
use Rattle.g4_ordered.specs.Greedy.{Within, start, onward, called, IsGreedy}
use Rattle.g4_ordered.proofs.Lists.{In-map, map-In, In-from, In-to, only}
use Rattle.g4_ordered.proofs.Steps.{only_where}

-- where no character is left, the text is empty
last_is : (v : List ℕ) → is_last v ≡ true → v ≡ []
last_is [] e = refl
last_is (a ∷ v) e = absurd (false≢true e)

-- the end of a rule is one by its number
end_is : (o : Option (State Reads)) → IsEndBy o → (rule : ℕ) × (o ≡ Some (End rule))
end_is (Some (End rule)) h = (rule, refl)
end_is _ h = absurd h

-- an edge that passes goes to a target of the state
pass_is : (o : Option (State Reads)) (t : ℕ) → PassesBy o t → (s : State Reads) × (o ≡ Some s) × IsTarget s t
pass_is (Some (Decision ts)) t h = (Decision ts, refl, h)
pass_is (Some (Predicate k u)) t h = (Predicate k u, refl, h)
pass_is (Some (Level q u)) t h = (Level q u, refl, h)
pass_is (Some (Action u)) t h = (Action u, refl, h)
pass_is (Some (Empty u)) t h = (Empty u, refl, h)
pass_is _ t h = absurd h

-- on a condition that holds the configuration is in the list
where_true : (b : Bool) (c : LexerConfig) → b ≡ true → In c (only_if b c)
where_true true c e = inl refl
where_true false c e = absurd (false≢true e)

-- a test that fails is false
untrue : (b : Bool) → (b ≡ true → ⊥) → b ≡ false
untrue true h = absurd (h refl)
untrue false h = refl

module _ (net : LexerNetwork) where
  -- each of these states in turn spells a part of what is in w before z
  abbrev SpellsThrough : List ℕ → List ℕ → List ℕ → Type 0
  SpellsThrough [] w z = w ≡ z
  SpellsThrough (p ∷ ps) w z = (v : List ℕ) × SpellsText net p w v × SpellsThrough ps v z

  -- a configuration's state and its return states do
  abbrev Onward : LexerConfig → List ℕ → List ℕ → Type 0
  Onward c w z = SpellsThrough (c.state ∷ c.returns) w z

  -- an edge that passes spells what its target does
  passed : (p t : ℕ) (ts w z : List ℕ) → PassesBy (state_at net p) t → SpellsThrough (t ∷ ts) w z → SpellsThrough (p ∷ ts) w z
  passed p t ts w z m h = (h.0, passes p t w h.0 m h.1, h.2)

  -- an edge with a label spells what it takes, and then what its target does
  took : (p t : ℕ) (label : Reads) (ts w v z : List ℕ) → state_at net p ≡ Some (Edge label t) → TakesText label w v
      → SpellsThrough (t ∷ ts) v z → SpellsThrough (p ∷ ts) w z
  took p t label ts w v z is m h = (h.0, takes p t label w v h.0 is m h.1, h.2)

  -- what is spelled after a return is spelled before it
  back_returned : (rule : ℕ) (c e : LexerConfig) (ts w z : List ℕ) → c.returns ≡ ts → state_at net c.state ≡ Some (End rule)
      → In e (returned c ts) → Onward e w z → Onward c w z
  back_returned rule c e [] w z is end i h = absurd i
  back_returned rule c e (t ∷ rest) w z is end i h =
      subst (λ ts. SpellsThrough (c.state ∷ ts) w z) (sym is) (w, ends c.state rule w end, subst (λ x. Onward x w z) (only _ e i) h)

  -- what is spelled after a pass to a state is spelled before it
  back_passed : (o : Option (State Reads)) (c e : LexerConfig) (t : ℕ) (w z : List ℕ) → state_at net c.state ≡ o → PassesBy o t
      → e.state ≡ t → e.returns ≡ c.returns → Onward e w z → Onward c w z
  back_passed o c e t w z is m there same h =
      passed c.state t c.returns w z (subst (λ o. PassesBy o t) (sym is) m)
      (subst (λ (ts : List ℕ). SpellsThrough (t ∷ ts) w z) same (subst (λ (p : ℕ). SpellsThrough (p ∷ e.returns) w z) there h))

  -- and so it is where the step is to the configuration at that state
  back_at : (o : Option (State Reads)) (c e : LexerConfig) (t : ℕ) (w z : List ℕ) → state_at net c.state ≡ o → PassesBy o t
      → e ≡ at c t → Onward e w z → Onward c w z
  back_at o c e t w z is m there h = back_passed o c e t w z is m (ap (λ (x : LexerConfig). x.state) there)
      (ap (λ (x : LexerConfig). x.returns) there) h

  -- what is spelled after an edge that asks that no character is left is spelled before it
  back_past : (label : Reads) (c e : LexerConfig) (t : ℕ) (w z : List ℕ) → state_at net c.state ≡ Some (Edge label t)
      → In e (leads_past (is_last w) label c t) → Onward e w z → Onward c w z
  back_past (Characters set) c e t w z is i h = absurd i
  back_past EndOfText c e t w z is i h =
      let r = only_where (is_last w) (at c t) e i in
      took c.state t EndOfText c.returns w w z is (last_is w r.0, last_is w r.0) (subst (λ x. Onward x w z) r.1 h)

  -- what is spelled after a step is spelled before it
  back_by : (o : Option (State Reads)) (c e : LexerConfig) (w z : List ℕ) → state_at net c.state ≡ o → In e (leads_by (is_last w) o c)
      → Onward e w z → Onward c w z
  back_by None c e w z is i h = absurd i
  back_by (Some (Decision ts)) c e w z is i h =
      let r = In-map (through (is_reluctant ts) c) ts e i in
      back_passed (Some (Decision ts)) c e r.0 w z is (In-to ts r.0 r.1) (ap (λ (x : LexerConfig). x.state) r.2)
      (ap (λ (x : LexerConfig). x.returns) r.2) h
  back_by (Some (End rule)) c e w z is i h = back_returned rule c e c.returns w z refl is i h
  back_by (Some (Edge label t)) c e w z is i h = back_past label c e t w z is i h
  back_by (Some (Call rule level back)) c e w z is i h =
      let k : Onward (at_with c (start_of rule) (back ∷ c.returns)) w z = subst (λ x. Onward x w z) (only _ e i) h in
      (k.2.0, calls c.state rule level back w k.0 k.2.0 is k.1 k.2.1, k.2.2)
  back_by (Some (Predicate k t)) c e w z is i h = back_at (Some (Predicate k t)) c e t w z is refl (only _ e i) h
  back_by (Some (Level q t)) c e w z is i h = back_at (Some (Level q t)) c e t w z is refl (only _ e i) h
  back_by (Some (Action t)) c e w z is i h = back_at (Some (Action t)) c e t w z is refl (only _ e i) h
  back_by (Some (Empty t)) c e w z is i h = back_at (Some (Empty t)) c e t w z is refl (only _ e i) h

  -- what is spelled after a character is spelled before it, with the character in front
  back_read : (a : ℕ) (c e : LexerConfig) (w z : List ℕ) → ReadsTo net a c e → Onward e w z → Onward c (a ∷ w) z
  back_read a c e w z (set, t, is, has, there) h =
      took c.state t (Characters set) c.returns (a ∷ w) w z is (a, refl, has) (subst (λ x. Onward x w z) there h)

  -- what is spelled where a walk arrives is spelled where it sets out, with what it reads in front
  walk_back : (c : LexerConfig) (w : List ℕ) (d : LexerConfig) (v z : List ℕ) → Walks net c w d v → Onward d v z → Onward c w z
  walk_back c w d v z here h = h
  walk_back c w d v z (leading e _ _ k i) h = walk_back c w e v z k (back_by (state_at net e.state) e d v z refl i h)
  walk_back c w d v z (reading a e _ _ k i) h = walk_back c w e (a ∷ v) z k (back_read a e d v z i h)

  -- a walk from a start to the rule's end spells what it reads
  pub walk_spells : (c : LexerConfig) (w : List ℕ) (d : LexerConfig) (v : List ℕ) → c.returns ≡ [] → IsAtEnd net d → Walks net c w d v
      → SpellsText net c.state w v
  walk_spells c w d v unopened end k =
      let r = end_is (state_at net d.state) end.0 in
      let there : Onward d v v = (v, ends d.state r.0 v r.1, subst (λ ts. SpellsThrough ts v v) (sym end.1) refl) in
      let h : SpellsThrough (c.state ∷ []) w v = subst (λ ts. SpellsThrough (c.state ∷ ts) w v) unopened (walk_back c w d v v k there) in
      subst (SpellsText net c.state w) h.2 h.1

  -- a walk and then a walk are a walk
  walks_on : (c : LexerConfig) (w : List ℕ) (d : LexerConfig) (v : List ℕ) (e : LexerConfig) (u : List ℕ) → Walks net c w d v
      → Walks net d v e u → Walks net c w e u
  walks_on c w d v e u k here = k
  walks_on c w d v e u k (leading f _ _ h i) = leading f e u (walks_on c w d v f u k h) i
  walks_on c w d v e u k (reading a f _ _ h i) = reading a f e u (walks_on c w d v f (a ∷ u) k h) i

  -- a state of a rule within is within
  within_then : (p t q : ℕ) → Within net p t → Within net t q → Within net p q
  within_then p t q h start = h
  within_then p t q h (onward r _ s k is target) = onward r q s (within_then p t r h k) is target
  within_then p t q h (called r rule level back k is) = called r rule level back (within_then p t r h k) is

  -- what is within a greedy part is greedy
  greedy_on : (p t : ℕ) → IsGreedy net p → Within net p t → IsGreedy net t
  greedy_on p t g h q targets k is reluctant = g q targets (within_then p t q h k) is reluctant

  -- where the walk of what is spelled ends: the end of a rule, all else as at the start
  pub record Arrives (c : LexerConfig) (w v : List ℕ) : Type 0 where
    pub d : LexerConfig
    pub walk : Walks net c w d v
    pub ended : ℕ
    pub end : state_at net d.state ≡ Some (End ended)
    pub returns : d.returns ≡ c.returns
    pub rule : d.rule ≡ c.rule
    pub alternative : d.alternative ≡ c.alternative
    pub passed : d.passed ≡ c.passed

  -- a walk to the same but the state, and then one that arrives
  then_arrives : (c e : LexerConfig) (w u v : List ℕ) → Walks net c w e u → e.returns ≡ c.returns → e.rule ≡ c.rule
      → e.alternative ≡ c.alternative → e.passed ≡ c.passed → Arrives e u v → Arrives c w v
  then_arrives c e w u v k r rule alt p h = record {
    d = h.d;
    walk = walks_on c w e u h.d v k h.walk;
    ended = h.ended;
    end = h.end;
    returns = h.returns ∙ r;
    rule = h.rule ∙ rule;
    alternative = h.alternative ∙ alt;
    passed = h.passed ∙ p;
  }

  -- one step is a walk
  one : (c e : LexerConfig) (w : List ℕ) (o : Option (State Reads)) → state_at net c.state ≡ o → In e (leads_by (is_last w) o c)
      → Walks net c w e w
  one c e w o is i = leading c e w here (subst (λ x. In e (leads_by (is_last w) x c)) (sym is) i)

  -- a return is a walk
  return_walks : (d : LexerConfig) (rule t : ℕ) (ts w : List ℕ) → state_at net d.state ≡ Some (End rule) → d.returns ≡ t ∷ ts
      → Walks net d w (at_with d t ts) w
  return_walks d rule t ts w is top = one d (at_with d t ts) w (Some (End rule)) is
      (subst (λ rs. In (at_with d t ts) (returned d rs)) (sym top) (inl refl))

  -- what a label takes is walked
  take_walks : (label : Reads) (c : LexerConfig) (t : ℕ) (w v : List ℕ) → state_at net c.state ≡ Some (Edge label t)
      → TakesText label w v → Walks net c w (at c t) v
  take_walks (Characters set) c t w v is (a, begins, has) =
      reading a c (at c t) v (subst (Walks net c w c) begins here) (set, t, is, has, refl)
  take_walks EndOfText c t w v is (empty, rest) =
      subst (Walks net c w (at c t)) (empty ∙ sym rest) (one c (at c t) w _ is (where_true (is_last w) (at c t) (ap is_last empty)))

  -- a pass that is not reluctant is walked
  pass_walks : (o : Option (State Reads)) (c : LexerConfig) (t : ℕ) (w : List ℕ) → state_at net c.state ≡ o
      → ((targets : List ℕ) → o ≡ Some (Decision targets) → IsReluctant targets → ⊥) → PassesBy o t → Walks net c w (at c t) w
  pass_walks (Some (Decision ts)) c t w is g m =
      let greedy : is_reluctant ts ≡ false = untrue (is_reluctant ts) (g ts refl) in
      subst (λ (b : Bool). Walks net c w (through b c t) w) greedy
      (one c (through (is_reluctant ts) c t) w _ is (map-In (through (is_reluctant ts) c) ts t (In-from ts t m)))
  pass_walks (Some (Predicate k u)) c t w is g m = one c (at c t) w _ is (inl (ap (at c) m))
  pass_walks (Some (Level q u)) c t w is g m = one c (at c t) w _ is (inl (ap (at c) m))
  pass_walks (Some (Action u)) c t w is g m = one c (at c t) w _ is (inl (ap (at c) m))
  pass_walks (Some (Empty u)) c t w is g m = one c (at c t) w _ is (inl (ap (at c) m))
  pass_walks _ c t w is g m = absurd m

  -- what is spelled without non-greedy parts has a walk, above any stack
  pub spells_walk : (p : ℕ) (w v : List ℕ) → SpellsText net p w v → IsGreedy net p → (c : LexerConfig) → c.state ≡ p → Arrives c w v
  spells_walk p w v (ends _ rule _ end) g c is = record {
    d = c;
    walk = here;
    ended = rule;
    end = ap (state_at net) is ∙ end;
    returns = refl;
    rule = refl;
    alternative = refl;
    passed = refl;
  }
  spells_walk p w v (takes _ t label _ u _ k m h) g c is =
      let rest = spells_walk t u v h (greedy_on p t g (onward p t (Edge label t) start k refl)) (at c t) refl in
      then_arrives c (at c t) w u v (take_walks label c t w u (ap (state_at net) is ∙ k) m) refl refl refl refl rest
  spells_walk p w v (calls _ rule level back _ u _ k h j) g c is =
      let begin = at_with c (start_of rule) (back ∷ c.returns) in
      let inner = spells_walk (start_of rule) w u h (greedy_on p (start_of rule) g (called p rule level back start k)) begin refl in
      let after = at_with inner.d back c.returns in
      let outer = spells_walk back u v j (greedy_on p back g (onward p back (Call rule level back) start k refl)) after refl in
      let entered = one c begin w (Some (Call rule level back)) (ap (state_at net) is ∙ k) (inl refl) in
      let left = return_walks inner.d inner.ended back c.returns u inner.end inner.returns in
      let through_it = walks_on c w inner.d u after u (walks_on c w begin w inner.d u entered inner.walk) left in
      then_arrives c after w u v through_it refl inner.rule inner.alternative inner.passed outer
  spells_walk p w v (passes _ t _ _ m h) g c is =
      let s = pass_is (state_at net p) t m in
      let same : state_at net c.state ≡ state_at net p = ap (state_at net) is in
      let rest = spells_walk t w v h (greedy_on p t g (onward p t s.0 start s.1 s.2)) (at c t) refl in
      then_arrives c (at c t) w w v (pass_walks (state_at net p) c t w same (λ targets k. g p targets start k) m) refl refl refl refl rest
