-- What a network spells from a state is read by a walk from there, where a call is one letter. Letters are lists: TakesLetter says which
-- an edge reads, Names which name a rule, and Covers which part of a word the joined letters are.
use Rattle.std.proofs.Common.{◌≡◌, ℕ, List, [], ◌∷◌, ◌++◌, Option, Some, None, refl, sym, ◌∙◌, ap, subst, append-nil, Contains, slice_get}
use Rattle.g4_source.specs.Elements.{Alternatives, none}
use Rattle.g4_grammar.specs.declared.step.Step.{Step}
use Rattle.g4_grammar.specs.Derives.{NoCalls, DerivesAll, DerivesOne, this}
use Rattle.g4_net.specs.declared.network.Network.{Network}
use Rattle.g4_net.specs.declared.network.State.{State}
use Rattle.g4_net.specs.declared.network.State.TheVariants.{Decision, End, Edge, Call, Predicate, Level, Action, Empty}
use Rattle.g4_net.specs.Network.{state_at, start_of, end_of}
use Rattle.g4_net.specs.Spelling.{PassesBy, Spells, ends, takes, calls, passes}
use Rattle.g4_layout.specs.Layout.{LiesAsRule, of_one, of_several, IsNetworkOf}
use Rattle.g4_derivation.specs.Walks.{AnyLevel, MovesBy, ReadsLetter, Walk, stays, goes, WalksTo}
use Rattle.g4_derivation.proofs.Beginnings.{laid_as, ends_at}
use Rattle.g4_derivation.proofs.Joined.{joined, joined-append}
use Rattle.g4_derivation.proofs.Joining.{and_on, no_step, one_step}
use Rattle.g4_derivation.proofs.Through.{Passed, bodies_through, finish, in_order_through}

module _ {L C W : Type 0} (net : Network L) (Takes : L → List W → List W → Type 0) (TakesLetter : L → List C → Type 0)
    (Names : ℕ → List C → Type 0)
    (Covers : List C → List W → List W → Type 0) (covers_none : (w : List W) → Covers [] w w)
    (nothing_covered : (w z : List W) → Covers [] w z → w ≡ z)
    (covers_both : (c d : List C) (w v z : List W) → Covers c w v → Covers d v z → Covers (c ++ d) w z)
    (covers_apart : (c d : List C) (w z : List W) → Covers (c ++ d) w z → (v : List W) × Covers c w v × Covers d v z)
    (taken_letter : (label : L) (w v : List W) → Takes label w v → (c : List C) × TakesLetter label c × Covers c w v)
    (taken_text : (label : L) (c : List C) (w v : List W) → TakesLetter label c → Covers c w v → Takes label w v) where
  -- a walk of any number of steps, and one of this many
  abbrev Comes : ℕ → ℕ → List (List C) → Type 0
  Comes = WalksTo TakesLetter Names AnyLevel net

  abbrev Goes : ℕ → ℕ → ℕ → List (List C) → Type 0
  Goes = Walk TakesLetter Names AnyLevel net

  -- what a state's edges read
  abbrev Moves : Option (State L) → ℕ → List (List C) → Type 0
  Moves = MovesBy TakesLetter Names AnyLevel

  -- a walk to the end of a rule reads letters that cover what is in w before z
  pub record Spelt (p : ℕ) (w z : List W) : Type 0 where
    pub end : ℕ
    pub ended : ℕ
    pub is : state_at net end ≡ Some (End ended)
    pub letters : List (List C)
    pub walk : Comes p end letters
    pub covers : Covers (joined letters) w z

  -- an edge that passes reads nothing
  pass_moves : (o : Option (State L)) (t : ℕ) → PassesBy o t → Moves o t []
  pass_moves (Some (Decision targets)) t h = (h, refl)
  pass_moves (Some (Predicate k u)) t h = (h, refl)
  pass_moves (Some (Level q u)) t h = (h, (tt, refl))
  pass_moves (Some (Action u)) t h = (h, refl)
  pass_moves (Some (Empty u)) t h = (h, refl)
  pass_moves _ t h = absurd h

  -- one step more at the front
  step_spelt : (p t : ℕ) (c : List (List C)) (w v z : List W) → Moves (state_at net p) t c → Covers (joined c) w v → Spelt t v z →
      Spelt p w z
  step_spelt p t c w v z moves covers s = record {
    end = s.end;
    ended = s.ended;
    is = s.is;
    letters = c ++ s.letters;
    walk = and_on TakesLetter Names AnyLevel net (one_step TakesLetter Names AnyLevel net (state_at net p) refl moves) s.walk refl;
    covers = subst (λ (cs : List C). Covers cs w z) (sym (joined-append c s.letters))
        (covers_both (joined c) (joined s.letters) w v z covers s.covers);
  }

  -- one letter alone
  alone : (c : List C) (w v : List W) → Covers c w v → Covers (joined (c ∷ [])) w v
  alone c w v h = subst (λ (cs : List C). Covers cs w v) (sym (append-nil c)) h

  -- what is spelled is read by a walk, if a rule has the names that walks from its start read
  pub spelt : ((p rule level back : ℕ) → state_at net p ≡ Some (Call rule level back) → (e ended : ℕ) (us : List (List C)) →
      state_at net e ≡ Some (End ended) → Comes (start_of rule) e us → Names rule (joined us)) →
      (p : ℕ) (w z : List W) → Spells net Takes p w z → Spelt p w z
  spelt named p w _ (ends _ rule _ is) = record {
    end = p;
    ended = rule;
    is = is;
    letters = [];
    walk = no_step TakesLetter Names AnyLevel
        net p;
    covers = covers_none w;
  }
  spelt named p w z (takes _ t label _ v _ is m h) =
      let c = taken_letter label w v m in
      step_spelt p t (c.0 ∷ []) w v z (subst (λ (o : Option (State L)). Moves o t (c.0 ∷ [])) (sym is) (refl, (c.0, c.1, refl)))
      (alone c.0 w v c.2) (spelt named t v z h)
  spelt named p w z (calls _ rule level back _ v _ is h k) =
      let i = spelt named (start_of rule) w v h in
      let name = named p rule level back is i.end i.ended i.letters i.is i.walk in
      let c = joined i.letters in
      step_spelt p back (c ∷ []) w v z (subst (λ (o : Option (State L)). Moves o back (c ∷ [])) (sym is) (refl, (c, name, refl)))
      (alone c w v i.covers) (spelt named back v z k)
  spelt named p w z (passes _ t _ _ m h) = step_spelt p t [] w w z (pass_moves (state_at net p) t m) (covers_none w) (spelt named t w z h)

  module _ (named : (k : ℕ) (c : List C) → Names k c → (w z : List W) → Covers c w z → Spells net Takes (start_of k) w z) where
    -- an edge that passes
    silent : (o : Option (State L)) (p t : ℕ) (c : List (List C)) (w v z : List W) → state_at net p ≡ o → PassesBy o t → c ≡ [] →
        Covers (joined c) w v → Spells net Takes t v z → Spells net Takes p w z
    silent o p t c w v z is m none_read h s =
        let same : w ≡ v = nothing_covered w v (subst (λ (u : List (List C)). Covers (joined u) w v) none_read h) in
        passes p t w z (subst (λ (x : Option (State L)). PassesBy x t) (sym is) m)
        (subst (λ (x : List W). Spells net Takes t x z) (sym same) s)

    -- one letter that is read
    lone : (l : List C) (c : List (List C)) (w v : List W) → c ≡ l ∷ [] → Covers (joined c) w v → Covers l w v
    lone l c w v one h = subst (λ (cs : List C). Covers cs w v) (ap joined one ∙ append-nil l) h

    -- the first step of a walk whose rest is spelled
    move_spells : (o : Option (State L)) (p t : ℕ) (c : List (List C)) (w v z : List W) → state_at net p ≡ o → Moves o t c →
        Covers (joined c) w v → Spells net Takes t v z → Spells net Takes p w z
    move_spells None p t c w v z is m h s = absurd m
    move_spells (Some (Decision targets)) p t c w v z is m h s = silent (Some (Decision targets)) p t c w v z is m.0 m.1 h s
    move_spells (Some (End rule)) p t c w v z is m h s = absurd m
    move_spells (Some (Edge label u)) p t c w v z is (same, (l, takes_it, one)) h s =
        takes p u label w v z is (taken_text label l w v takes_it (lone l c w v one h)) (subst (λ (q : ℕ). Spells net Takes q v z) same s)
    move_spells (Some (Call rule level back)) p t c w v z is (same, (l, name, one)) h s =
        calls p rule level back w v z is (named rule l name w v (lone l c w v one h)) (subst (λ (q : ℕ). Spells net Takes q v z) same s)
    move_spells (Some (Predicate k u)) p t c w v z is m h s = silent (Some (Predicate k u)) p t c w v z is m.0 m.1 h s
    move_spells (Some (Level q u)) p t c w v z is m h s = silent (Some (Level q u)) p t c w v z is m.0 m.1.1 h s
    move_spells (Some (Action u)) p t c w v z is m h s = silent (Some (Action u)) p t c w v z is m.0 m.1 h s
    move_spells (Some (Empty u)) p t c w v z is m h s = silent (Some (Empty u)) p t c w v z is m.0 m.1 h s

    -- what a walk to a rule's end reads, is spelled
    pub walk_spells : (n p e ended : ℕ) (us : List (List C)) → state_at net e ≡ Some (End ended) → Goes n p e us → (w z : List W) →
        Covers (joined us) w z → Spells net Takes p w z
    walk_spells _ p _ ended _ is (stays _) w z covers = subst (λ (x : List W). Spells net Takes p w x) (nothing_covered w z covers)
        (ends p ended w is)
    walk_spells _ p e ended us is (goes n _ t _ u v _ moves walk parts) w z covers =
        let h = covers_apart (joined u) (joined v) w z (subst (λ (cs : List C). Covers cs w z)
        (ap joined parts ∙ joined-append u v) covers) in
        move_spells (state_at net p) p t u w h.0 z refl moves h.1 (walk_spells n t e ended v is walk h.0 z h.2)

  module _ (trees : List (Alternatives (Step L))) (network : IsNetworkOf trees net) (k : ℕ) (ys : Alternatives (Step L))
      (at : slice_get trees k ≡ Some ys) where
    -- a walk that is at the end of a rule is over
    over : (rule n p e : ℕ) (us : List (List C)) → state_at net p ≡ Some (End rule) → Goes n p e us → us ≡ []
    over rule _ p _ _ is (stays _) = refl
    over rule _ p e us is (goes n _ t _ u v _ moves walk parts) = absurd (subst (λ (o : Option (State L)). Moves o t u) is moves)

    -- what is passed is all
    whole : {P : List (List C) → Type 0} (e n : ℕ) (us : List (List C)) → Passed TakesLetter Names AnyLevel net P (end_of k) e n us → P us
    whole {P} e n us p =
        let none_left = over k p.steps (end_of k) e p.rest (ends_at trees net network k ys at) p.walk in
        subst P (sym (p.parts ∙ (ap (λ (x : List (List C)). p.front ++ x) none_left ∙ append-nil p.front))) p.derived

    -- the first step from a decision
    decided : (targets : List ℕ) (p n e ended : ℕ) (us : List (List C)) → state_at net p ≡ Some (Decision targets) →
        state_at net e ≡ Some (End ended) → Goes n p e us → (t m : ℕ) × Contains targets t × Goes m t e us
    decided targets p _ _ ended _ is end (stays _) = absurd (let both : Some (Decision targets) ≡ Some (End ended) = sym is ∙ end in
        let x : ⊥ = cc in x)
    decided targets p _ e ended us is end (goes n _ t _ u v _ moves walk parts) =
        let m = subst (λ (o : Option (State L)). Moves o t u) is moves in
        (t, n, m.0, subst (Goes n t e) (sym (parts ∙ ap (λ (x : List (List C)). x ++ v) m.1)) walk)

    -- a walk from a rule's start to the end of a rule reads what one of its alternatives derives
    start_derives_by : {zs : Alternatives (Step L)} {n m : ℕ} → LiesAsRule net k zs n m → (e ended j : ℕ) (us : List (List C)) →
        state_at net e ≡ Some (End ended) → Goes j (start_of k) e us → DerivesOne (ReadsLetter TakesLetter Names AnyLevel) NoCalls [] zs us
    start_derives_by (of_one _ last n m x l leads) e ended j us is walk =
        let P : List (List C) → Type 0 = DerivesAll (ReadsLetter TakesLetter Names AnyLevel) NoCalls [] x in
        this x none us (whole {P = P} e j us (finish TakesLetter Names AnyLevel net e ended is {P = P} leads
        (in_order_through TakesLetter Names AnyLevel net e ended is l j us walk)))
    start_derives_by {zs} (of_several _ n m _ firsts lasts two at_start l leads) e ended j us is walk =
        let d = decided firsts (start_of k) j e ended us at_start is walk in
        whole {P = DerivesOne (ReadsLetter TakesLetter Names AnyLevel) NoCalls [] zs} e d.1 us
        (bodies_through TakesLetter Names AnyLevel net e ended is l (end_of k) leads d.0 d.1 us d.2 d.3)

    pub start_derives : (e ended : ℕ) (us : List (List C)) → state_at net e ≡ Some (End ended) → Comes (start_of k) e us →
        DerivesOne (ReadsLetter TakesLetter Names AnyLevel) NoCalls [] ys us
    start_derives e ended us is walk = start_derives_by (laid_as trees net network k ys at).2 e ended walk.0 us is walk.1
