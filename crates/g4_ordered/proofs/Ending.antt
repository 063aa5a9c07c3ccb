-- In a network that can be lexed with, steps without a character end.
use Rattle.std.proofs.Common.{◌≡◌, ℕ, zero, suc, ◌+◌, ◌<◌, ◌≤◌, ◌⊎◌, inl, inr, List, [], ◌∷◌, ◌++◌, Bool, false, cond, nat_lt, All, Option, Some, None, option_map, length, refl, sym, ◌∙◌, ap, subst, arith}
use Rattle.std.proofs.lemmas.Bool.{lt-ltb, le-ltb}
use Rattle.std.proofs.lemmas.List.{length-map}
use Rattle.std.proofs.lemmas.List.Elements.{All-nil, All-cons}
use Rattle.std.proofs.lemmas.Option.{slice_get-map, slice_get_past}
use Rattle.g4_net.specs.declared.network.State.{State}
use Rattle.g4_net.specs.declared.network.State.TheVariants.{Decision, End, Edge, Call, Predicate, Level, Action, Empty}
use Rattle.g4_net.specs.Configurations.{Config, config, above_bottom, IsWithin}
use Rattle.g4_net.specs.Network.{state_at, start_of}
use Rattle.g4_net.specs.Leads.{Returns, LeadsBy, Leads, Reaches, here, further}
use Rattle.g4_net.proofs.Finite.{reached_keeps, reached_within}
use Rattle.g4_net.proofs.Frames.{grows_little}
use Rattle.g4_net.proofs.Ranks.{IsShort, size, rank, rank_small, rank_falls}
use Rattle.g4_ordered.specs.declared.network.Reads.{Reads}
use Rattle.g4_ordered.specs.declared.network.Reads.TheVariants.{Characters, EndOfText}
use Rattle.g4_ordered.specs.Network.{LexerNetwork, is_reluctant, emptied, all_emptied, IsLexable}
use Rattle.g4_ordered.specs.Configurations.{LexerConfig, In, at, through, at_with}
use Rattle.g4_ordered.specs.Leads.{leads, leads_by, leads_past, returned, Expands, nothing, each}
use Rattle.g4_ordered.proofs.Lists.{In-map, In-to, only}
use Rattle.g4_ordered.proofs.Steps.{only_where}

-- fewer than n steps follow one another from c
abbrev pub EndsWithin : LexerNetwork → Bool → ℕ → LexerConfig → Type 0
EndsWithin net last zero c = ⊥
EndsWithin net last (suc n) c = (d : LexerConfig) → In d (leads net last c) → EndsWithin net last n d

-- and so it is from each of these
abbrev pub EndWithin : LexerNetwork → Bool → ℕ → List LexerConfig → Type 0
EndWithin net last n cs = (c : LexerConfig) → In c cs → EndsWithin net last n c

-- a number is below another or not
below_or_not : (a b : ℕ) → (a < b) ⊎ (b ≤ a)
below_or_not a b = grind arith

-- return states down to the first that is no state
inner : ℕ → List ℕ → List ℕ
inner n [] = []
inner n (t ∷ ts) = cond (nat_lt t n) (t ∷ inner n ts) []

-- a state on top stays
inner_more : (n t : ℕ) (ts : List ℕ) → t < n → inner n (t ∷ ts) ≡ t ∷ inner n ts
unfolding inner
inner_more n t ts less = ap (λ (b : Bool). cond b (t ∷ inner n ts) []) (lt-ltb t n less)

-- what is no state ends them
inner_out : (n t : ℕ) (ts : List ℕ) → n ≤ t → inner n (t ∷ ts) ≡ []
unfolding inner
inner_out n t ts out = ap (λ (b : Bool). cond b (t ∷ inner n ts) []) (le-ltb t n out)

-- they are states
inner_below : (n : ℕ) (ts : List ℕ) → All (λ t. t < n) (inner n ts)
unfolding inner
inner_below n [] = All-nil (λ t. t < n)
inner_below n (t ∷ ts) = go (inner_below n ts) (below_or_not t n)
  where
    go : All (λ t. t < n) (inner n ts) → (t < n) ⊎ (n ≤ t) → All (λ t. t < n) (inner n (t ∷ ts))
    go more (inl less) = subst (All (λ t. t < n)) (sym (inner_more n t ts less)) (All-cons (λ t. t < n) t (inner n ts) less more)
    go more (inr out) = subst (All (λ t. t < n)) (sym (inner_out n t ts out)) (All-nil (λ t. t < n))

-- a lexer's configuration as one of prediction: above the bottom, with the return states down to the first that is no state
abbrev as_config : LexerNetwork → LexerConfig → Config
as_config net c = config c.state 0 (above_bottom (inner (length net.states) c.returns))

-- the state of this number in the network with its edges emptied
emptied_at : (net : LexerNetwork) (p : ℕ) (o : Option (State Reads)) → state_at net p ≡ o
    → state_at (all_emptied net) p ≡ option_map emptied o
emptied_at net p o is = slice_get-map emptied net.states p ∙ ap (option_map emptied) is

-- that network has as many states
as_many : (net : LexerNetwork) → length (all_emptied net).states ≡ length net.states
as_many net = length-map net.states emptied

-- outside the network nothing leads on
leads_nowhere : (net : LexerNetwork) (last : Bool) (c d : LexerConfig) → length net.states ≤ c.state → In d (leads net last c) → ⊥
leads_nowhere net last c d out i = subst (λ (o : Option (State Reads)). In d (leads_by last o c)) (slice_get_past net.states c.state out) i

module _ (net : LexerNetwork) where
  -- the most return states of what s leads to
  deepest : Config → ℕ
  deepest s = length (all_emptied net).states + length s.stack.returns

  -- more than the steps that follow one another from a configuration
  pub steps_from : LexerConfig → ℕ
  steps_from c = suc (size (all_emptied net) (deepest (as_config net c)))

  -- more than the steps that follow one another from one of these
  unfoldable pub steps_of : List LexerConfig → ℕ
  steps_of [] = 0
  steps_of (c ∷ cs) = steps_from c + steps_of cs

module _ (net : LexerNetwork) (well : IsLexable net) where
  -- a step is one of prediction, or leads out of the network
  abbrev Goes : LexerConfig → LexerConfig → Type 0
  Goes c d = Leads (all_emptied net) (as_config net c) (as_config net d) ⊎ (length net.states ≤ d.state)

  -- a step along an edge is one
  goes_at : (o : Option (State Reads)) (c d : LexerConfig) (t : ℕ) → state_at net c.state ≡ o
      → LeadsBy (all_emptied net) (option_map emptied o) (as_config net c)
      (config t 0 (above_bottom (inner (length net.states) c.returns))) → d.state ≡ t → d.returns ≡ c.returns → Goes c d
  goes_at o c d t is l there same =
      inl (subst (λ (x : Option (State Reads)). LeadsBy (all_emptied net) x (as_config net c) (as_config net d))
      (sym (emptied_at net c.state o is))
      (subst (λ (rs : List ℕ). LeadsBy (all_emptied net) (option_map emptied o) (as_config net c)
      (config d.state 0 (above_bottom (inner (length net.states) rs)))) (sym same)
      (subst (λ (p : ℕ). LeadsBy (all_emptied net) (option_map emptied o) (as_config net c)
      (config p 0 (above_bottom (inner (length net.states) c.returns)))) (sym there) l)))

  -- and so it is where the step is to the configuration at that state
  goes_to : (o : Option (State Reads)) (c d : LexerConfig) (t : ℕ) → state_at net c.state ≡ o
      → LeadsBy (all_emptied net) (option_map emptied o) (as_config net c)
      (config t 0 (above_bottom (inner (length net.states) c.returns))) → d ≡ at c t → Goes c d
  goes_to o c d t is l there = goes_at o c d t is l (ap (λ (x : LexerConfig). x.state) there) (ap (λ (x : LexerConfig). x.returns) there)

  -- a return to a state is one, and a return to no state leads out
  goes_back : (rule : ℕ) (c d : LexerConfig) (ts : List ℕ) → state_at net c.state ≡ Some (End rule) → c.returns ≡ ts
      → In d (returned c ts) → Goes c d
  goes_back rule c d [] is top i = absurd i
  goes_back rule c d (t ∷ rest) is top i = subst (Goes c) (sym (only (at_with c t rest) d i)) (go (below_or_not t (length net.states)))
    where
      go : (t < length net.states) ⊎ (length net.states ≤ t) → Goes c (at_with c t rest)
      go (inr out) = inr out
      go (inl less) =
          let split : inner (length net.states) c.returns ≡ t ∷ inner (length net.states) rest =
          ap (inner (length net.states)) top ∙ inner_more (length net.states) t rest less in
          inl (subst (λ (o : Option (State Reads)). LeadsBy (all_emptied net) o (as_config net c) (as_config net (at_with c t rest)))
          (sym (emptied_at net c.state (Some (End rule)) is))
          (subst (λ (rs : List ℕ). Returns (all_emptied net) rule (config c.state 0 (above_bottom rs)) rs false
          (as_config net (at_with c t rest))) (sym split) refl))

  -- a call is one
  goes_in : (rule level back : ℕ) (c d : LexerConfig) → state_at net c.state ≡ Some (Call rule level back)
      → d ≡ at_with c (start_of rule) (back ∷ c.returns) → Goes c d
  goes_in rule level back c d is there = subst (Goes c) (sym there) (inl
      (subst (λ (o : Option (State Reads)). LeadsBy (all_emptied net) o (as_config net c)
      (as_config net (at_with c (start_of rule) (back ∷ c.returns)))) (sym called)
      (ap (λ (rs : List ℕ). config (start_of rule) 0 (above_bottom rs)) (inner_more (length net.states) back c.returns less))))
    where
      called : state_at (all_emptied net) c.state ≡ Some (Call rule level back)
      called = emptied_at net c.state (Some (Call rule level back)) is

      less : back < length net.states
      less = let within = well.targets c.state back (Call rule level back) called refl in let n = as_many net in omega arith

  -- an edge that asks that no character is left is one
  goes_past : (last : Bool) (label : Reads) (c d : LexerConfig) (t : ℕ) → state_at net c.state ≡ Some (Edge label t)
      → In d (leads_past last label c t) → Goes c d
  goes_past last (Characters set) c d t is i = absurd i
  goes_past last EndOfText c d t is i = goes_to (Some (Edge EndOfText t)) c d t is refl (only_where last (at c t) d i).1

  -- each step is one, or leads out
  goes_by : (last : Bool) (o : Option (State Reads)) (c d : LexerConfig) → state_at net c.state ≡ o → In d (leads_by last o c) → Goes c d
  goes_by last None c d is i = absurd i
  goes_by last (Some (Decision ts)) c d is i =
      let r = In-map (through (is_reluctant ts) c) ts d i in
      goes_at (Some (Decision ts)) c d r.0 is (r.0, In-to ts r.0 r.1, refl) (ap (λ (x : LexerConfig). x.state) r.2)
      (ap (λ (x : LexerConfig). x.returns) r.2)
  goes_by last (Some (End rule)) c d is i = goes_back rule c d c.returns is refl i
  goes_by last (Some (Edge label t)) c d is i = goes_past last label c d t is i
  goes_by last (Some (Call rule level back)) c d is i = goes_in rule level back c d is (only _ d i)
  goes_by last (Some (Predicate k t)) c d is i = goes_to (Some (Predicate k t)) c d t is refl (only _ d i)
  goes_by last (Some (Level q t)) c d is i = goes_to (Some (Level q t)) c d t is refl (only _ d i)
  goes_by last (Some (Action t)) c d is i = goes_to (Some (Action t)) c d t is refl (only _ d i)
  goes_by last (Some (Empty t)) c d is i = goes_to (Some (Empty t)) c d t is refl (only _ d i)

  -- what s leads to is short
  reached_short : (s e : Config) → IsWithin (all_emptied net) s → s.alt ≡ 0 → s.stack.wild ≡ false → Reaches (all_emptied net) s e
      → IsShort (all_emptied net) (deepest net s) e
  unfolding deepest
  reached_short s e within first bottomed r =
      let k = reached_keeps (all_emptied net) s e r in record {
        within = reached_within (all_emptied net) s e well within r;
        first = sym k.0 ∙ first;
        bottomed = sym k.1 ∙ bottomed;
        short = grows_little (all_emptied net) s e well.never_again r;
      }

  -- a step ends, where what is of less rank does
  step_ends : (last : Bool) (s : Config) (n : ℕ) (c d : LexerConfig) → IsWithin (all_emptied net) s → s.alt ≡ 0 → s.stack.wild ≡ false
      → Reaches (all_emptied net) s (as_config net c) → rank (all_emptied net) (deepest net s) (as_config net c) < suc n
      → ((e : LexerConfig) → Reaches (all_emptied net) s (as_config net e)
      → rank (all_emptied net) (deepest net s) (as_config net e) < n → EndsWithin net last (suc n) e)
      → Goes c d → EndsWithin net last (suc n) d
  step_ends last s n c d within first bottomed r less ends (inr out) = λ e j. absurd (leads_nowhere net last d e out j)
  step_ends last s n c d within first bottomed r less ends (inl l) =
      let falls = rank_falls (all_emptied net) (deepest net s) (as_config net c) (as_config net d) well
      (reached_short s (as_config net c) within first bottomed r) l in
      ends d (further (as_config net c) (as_config net d) r l) (omega arith)

  -- as its rank falls with each step, what s leads to ends
  reached_ends : (last : Bool) (s : Config) (n : ℕ) (c : LexerConfig) → IsWithin (all_emptied net) s → s.alt ≡ 0
      → s.stack.wild ≡ false → Reaches (all_emptied net) s (as_config net c)
      → rank (all_emptied net) (deepest net s) (as_config net c) < n → EndsWithin net last (suc n) c
  reached_ends last s zero c within first bottomed r less = absurd (omega arith)
  reached_ends last s (suc n) c within first bottomed r less =
      λ d i. step_ends last s n c d within first bottomed r less
      (λ e reached below. reached_ends last s n e within first bottomed reached below) (goes_by last (state_at net c.state) c d refl i)

  -- and so each configuration ends
  ends_within : (last : Bool) (c : LexerConfig) → EndsWithin net last (steps_from net c) c
  unfolding steps_from
  ends_within last c = go (below_or_not c.state (length net.states))
    where
      go : (c.state < length net.states) ⊎ (length net.states ≤ c.state)
          → EndsWithin net last (suc (size (all_emptied net) (deepest net (as_config net c)))) c
      go (inr out) = λ d i. absurd (leads_nowhere net last c d out i)
      go (inl less) =
          let n = as_many net in
          let within : IsWithin (all_emptied net) (as_config net c) = (
            omega arith,
            subst (λ (k : ℕ). All (λ t. t < k) (inner (length net.states) c.returns)) (sym n)
                (inner_below (length net.states) c.returns),
          ) in
          reached_ends last (as_config net c) (size (all_emptied net) (deepest net (as_config net c))) c within refl refl here
          (rank_small (all_emptied net) (deepest net (as_config net c)) (as_config net c) well
          (reached_short (as_config net c) (as_config net c) within refl refl here))

-- what ends within some steps ends within more
longer : (net : LexerNetwork) (last : Bool) (m n : ℕ) (c : LexerConfig) → m ≤ n → EndsWithin net last m c → EndsWithin net last n c
longer net last zero n c le h = absurd h
longer net last (suc m) zero c le h = absurd (omega arith)
longer net last (suc m) (suc n) c le h = λ d i. longer net last m n d (omega arith) (h d i)

-- each of some configurations ends
pub end_within : (net : LexerNetwork) (last : Bool) → IsLexable net → (cs : List LexerConfig) → EndWithin net last (steps_of net cs) cs
unfolding steps_of
end_within net last well [] c i = absurd i
end_within net last well (b ∷ cs) c (inl is) =
    subst (EndsWithin net last (steps_from net b + steps_of net cs)) (sym is)
    (longer net last (steps_from net b) _ b (omega arith) (ends_within net well last b))
end_within net last well (b ∷ cs) c (inr i) = longer net last (steps_of net cs) _ c (omega arith) (end_within net last well cs c i)

-- what each of some configurations leads to has an expansion, so they have one
all_expanded : (net : LexerNetwork) (last : Bool) (P : LexerConfig → Type 0)
    → ((c : LexerConfig) → P c → (xs : List LexerConfig) × Expands net last (leads net last c) xs) → (cs : List LexerConfig)
    → ((c : LexerConfig) → In c cs → P c)
    → (zs : List LexerConfig) × Expands net last cs zs
all_expanded net last P one [] h = ([], nothing)
all_expanded net last P one (c ∷ cs) h =
    let x = one c (h c (inl refl)) in
    let y = all_expanded net last P one cs (λ d i. h d (inr i)) in
    (c ∷ x.0 ++ y.0, each c cs x.0 y.0 x.1 y.1)

-- what ends leads to what has an expansion
expanded : (net : LexerNetwork) (last : Bool) (n : ℕ) (c : LexerConfig) → EndsWithin net last n c
    → (xs : List LexerConfig) × Expands net last (leads net last c) xs
expanded net last zero c h = absurd h
expanded net last (suc n) c h = all_expanded net last (EndsWithin net last n) (expanded net last n) (leads net last c) h

-- configurations have an expansion
pub expansion : (net : LexerNetwork) (last : Bool) → IsLexable net → (cs : List LexerConfig)
    → (zs : List LexerConfig) × Expands net last cs zs
expansion net last well cs = let n = steps_of net cs in
    all_expanded net last (EndsWithin net last n) (expanded net last n) cs (end_within net last well cs)
