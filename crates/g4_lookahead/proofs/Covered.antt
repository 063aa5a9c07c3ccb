-- What is covered stays covered, so full stacks choose the covering alternative where it is the least, or none is viable.
use Rattle.std.proofs.Common.{◌≡◌, ◌≤◌, ℕ, suc, ◌⊎◌, inl, inr, List, [], ◌∷◌, ◌++◌, Bool, true, false, true≢false, Option, Some, None, refl, sym, ◌∙◌, ap, subst, arith, All}
use Rattle.std.proofs.lemmas.List.Elements.{All-nil, All-head, All-tail}
use Rattle.g4_net.specs.Configurations.{Stack, Config, config, at, at_with, above_bottom}
use Rattle.g4_net.specs.declared.network.State.{State}
use Rattle.g4_net.specs.declared.network.State.TheVariants.{Decision, End, Edge, Call, Predicate, Level, Action, Empty}
use Rattle.g4_net.specs.Leads.{Returns, LeadsBy, Leads, Reaches, here, further}
use Rattle.g4_net.specs.Lookahead.{Start, Next, IsOnly, IsLeast}
use Rattle.g4_net.specs.Network.{ParserNetwork, state_at, start_of}
use Rattle.g4_net.specs.Prediction.{Choice, chosen, no_viable, Settles, FullFrom}
use Rattle.g4_net.specs.Prediction as prediction
use Rattle.g4_net.proofs.Finite.{reached_keeps}
use Rattle.g4_lookahead.specs.Ways.{EndsAtOnce}
use Rattle.g4_lookahead.proofs.Ends.{marked, ReachesEnd, pop, reaches_end}
use Rattle.g4_lookahead.specs.Covering.{Extends, Covers, Takers}

-- each configuration of the set is above the bottom of the parser's stack
abbrev pub AreAboveBottom : (Config → Type 0) → Type 0
AreAboveBottom C = (c : Config) → C c → c.stack.wild ≡ false

-- from a rule's end, return states at which the rules end at once are popped one after the other
pops_more : (net : ParserNetwork) (b : Config) (i : ℕ) (below : List ℕ) (wild : Bool) (more : List ℕ) → All (EndsAtOnce net) more
    → ReachesEnd net b i (marked (more ++ below) wild) → ReachesEnd net b i (marked below wild)
pops_more net b i below wild [] ends r = r
pops_more net b i below wild (t ∷ more) ends (p, rule, is, r) =
    let next = further (config p i (marked (t ∷ (more ++ below)) wild)) (config t i (marked (more ++ below) wild)) r
    (pop net i p rule t (more ++ below) wild is) in
    pops_more net b i below wild more (All-tail (EndsAtOnce net) t more ends)
    (reaches_end net b i t (marked (more ++ below) wild) (All-head (EndsAtOnce net) t more ends) next)

-- the configuration reaches the same state, for the alternative and with the same return states or more at which the rules end at once
abbrev Follows : ParserNetwork → Config → ℕ → Config → Type 0
Follows net b i c = (longest : List ℕ) × Extends net longest c.stack.returns
    × Reaches net b (config c.state i (marked longest c.stack.wild))

-- a step that keeps the return states
follows_along : (net : ParserNetwork) (b : Config) (i t : ℕ) (d e : Config) (o : Option (State (List ℕ))) → state_at net d.state ≡ o
    → ((z : Stack) → LeadsBy net o (config d.state i z) (config t i z)) → e ≡ at d t → Follows net b i d → Follows net b i e
follows_along net b i t d e o at_d step is (longer, extends, r) =
    let leads : Leads net (config d.state i (marked longer d.stack.wild)) (config t i (marked longer d.stack.wild)) =
    subst (λ (s : Option (State (List ℕ))). LeadsBy net s (config d.state i (marked longer d.stack.wild))
    (config t i (marked longer d.stack.wild))) (sym at_d) (step (marked longer d.stack.wild)) in
    subst (Follows net b i) (sym is) (
      longer,
      extends,
      further (config d.state i (marked longer d.stack.wild)) (config t i (marked longer d.stack.wild)) r leads,
    )

-- one return state more on top of both
extends_push : (net : ParserNetwork) (t : ℕ) (longer shorter : List ℕ) → Extends net longer shorter → Extends net (t ∷ longer) (t ∷ shorter)
extends_push net t longer shorter h = record {
  above = t ∷ h.above;
  more = h.more;
  below = h.below;
  longer_is = ap (λ (rs : List ℕ). t ∷ rs) h.longer_is;
  shorter_is = ap (λ (rs : List ℕ). t ∷ rs) h.shorter_is;
  ends = h.ends;
}

-- a call
follows_call : (net : ParserNetwork) (b : Config) (i rule level back : ℕ) (d e : Config)
    → state_at net d.state ≡ Some (Call rule level back) → e ≡ at_with d (start_of rule) (back ∷ d.stack.returns) → Follows net b i d
    → Follows net b i e
follows_call net b i rule level back d e at_d is (longer, extends, r) =
    let from : Config = config d.state i (marked longer d.stack.wild) in
    let to : Config = config (start_of rule) i (marked (back ∷ longer) d.stack.wild) in
    let leads : Leads net from to = subst (λ (o : Option (State (List ℕ))). LeadsBy net o from to) (sym at_d) refl in
    subst (Follows net b i) (sym is) (back ∷ longer, extends_push net back longer d.stack.returns extends, further from to r leads)

-- a rule's end with a return state on top: the longer stack pops it too, after those that it has more if it is below them
follows_pop : (net : ParserNetwork) (b : Config) (i p rule t : ℕ) (rest above more below : List ℕ) (wild : Bool)
    → state_at net p ≡ Some (End rule) → All (EndsAtOnce net) more → t ∷ rest ≡ above ++ below
    → Reaches net b (config p i (marked (above ++ more ++ below) wild))
    → (longest : List ℕ) × Extends net longest rest × Reaches net b (config t i (marked longest wild))
follows_pop net b i p rule t rest (u ∷ above) more below wild is ends same r =
    let top : u ≡ t = cc in
    let others : rest ≡ above ++ below = cc in
    let left : List ℕ = above ++ more ++ below in
    let next : Reaches net b (config u i (marked left wild)) =
    further (config p i (marked (u ∷ left) wild)) (config u i (marked left wild)) r (pop net i p rule u left wild is) in (
      left,
      record { above = above; more = more; below = below; longer_is = refl; shorter_is = others; ends = ends },
      subst (λ (q : ℕ). Reaches net b (config q i (marked left wild))) top next,
    )
follows_pop net b i p rule t rest [] more below wild is ends same r =
    let (q, other, at_q, down) = pops_more net b i below wild more ends (p, rule, is, r) in
    let down' : Reaches net b (config q i (marked (t ∷ rest) wild)) =
    subst (λ (rs : List ℕ). Reaches net b (config q i (marked rs wild))) (sym same) down in (
      rest,
      record { above = []; more = []; below = rest; longer_is = refl; shorter_is = refl; ends = All-nil (EndsAtOnce net) },
      further (config q i (marked (t ∷ rest) wild)) (config t i (marked rest wild)) down' (pop net i q other t rest wild at_q),
    )

-- a rule's end
follows_end : (net : ParserNetwork) (b : Config) (i rule : ℕ) (d e : Config) → state_at net d.state ≡ Some (End rule)
    → (returns : List ℕ) (wild : Bool) → d.stack.returns ≡ returns → wild ≡ false → Returns net rule d returns wild e
    → Follows net b i d → Follows net b i e
follows_end net b i rule d e at_d [] true same bottom l follows = absurd (true≢false bottom)
follows_end net b i rule d e at_d [] false same bottom l follows = absurd l
follows_end net b i rule d e at_d (t ∷ rest) wild same bottom l (longer, extends, r) =
    let whole : Reaches net b (config d.state i (marked (extends.above ++ extends.more ++ extends.below) d.stack.wild)) =
    subst (λ (rs : List ℕ). Reaches net b (config d.state i (marked rs d.stack.wild))) extends.longer_is r in
    subst (Follows net b i) (sym l) (follows_pop net b i d.state rule t rest extends.above extends.more extends.below d.stack.wild
    at_d extends.ends (sym same ∙ extends.shorter_is) whole)

-- a step
follows_step : (net : ParserNetwork) (b : Config) (i : ℕ) (d e : Config) (o : Option (State (List ℕ))) → state_at net d.state ≡ o
    → d.stack.wild ≡ false → LeadsBy net o d e → Follows net b i d → Follows net b i e
follows_step net b i d e None is bottom l follows = absurd l
follows_step net b i d e (Some (Decision targets)) is bottom (t, has, same) follows =
    follows_along net b i t d e (Some (Decision targets)) is (λ z. (t, has, refl)) same follows
follows_step net b i d e (Some (End rule)) is bottom l follows =
    follows_end net b i rule d e is d.stack.returns d.stack.wild refl bottom l follows
follows_step net b i d e (Some (Edge set t)) is bottom l follows = absurd l
follows_step net b i d e (Some (Call rule level back)) is bottom l follows = follows_call net b i rule level back d e is l follows
follows_step net b i d e (Some (Predicate k t)) is bottom l follows =
    follows_along net b i t d e (Some (Predicate k t)) is (λ z. refl) l follows
follows_step net b i d e (Some (Level q t)) is bottom l follows = follows_along net b i t d e (Some (Level q t)) is (λ z. refl) l follows
follows_step net b i d e (Some (Action t)) is bottom l follows = follows_along net b i t d e (Some (Action t)) is (λ z. refl) l follows
follows_step net b i d e (Some (Empty t)) is bottom l follows = follows_along net b i t d e (Some (Empty t)) is (λ z. refl) l follows

-- what the longer stacks of a covered set's alternative lead to covers what the shorter lead to
reaches_extended : (net : ParserNetwork) (b c : Config) (i : ℕ) (longer : List ℕ) → b.stack.wild ≡ false
    → Extends net longer b.stack.returns → Reaches net b c
    → (longest : List ℕ) × Extends net longest c.stack.returns
    × Reaches net (config b.state i (record { returns = longer; wild = b.stack.wild }))
    (config c.state i (record { returns = longest; wild = c.stack.wild }))
reaches_extended net b _ i longer bottom extends here = (longer, extends, here)
reaches_extended net b c i longer bottom extends (further d _ r l) =
    let bottom_d : d.stack.wild ≡ false = sym (reached_keeps net b d r).1 ∙ bottom in
    follows_step net (config b.state i (marked longer b.stack.wild)) i d c (state_at net d.state) refl bottom_d l
    (reaches_extended net b d i longer bottom extends r)

-- a set's next set is above the bottom if the set is
next_above_bottom : (net : ParserNetwork) (C : Config → Type 0) (a : ℕ) → AreAboveBottom C → AreAboveBottom (Next net C a)
next_above_bottom net C a bottom d (e, (c, i, t, is), r, k) =
    sym (reached_keeps net e d r).1 ∙ (ap (λ (x : Config). x.stack.wild) is ∙ bottom c i)

-- a covered set's next set is covered by the same alternative
pub covered_next : (net : ParserNetwork) (C : Config → Type 0) (a i : ℕ) → AreAboveBottom C → Covers net (Takers net C a) i
    → Covers net (Next net C a) i
covered_next net C a i bottom covers d (e, (c, in_c, takes, is), r, k) =
    let (longer, (in_longer, _), extends) = covers c (in_c, (e.state, takes)) in
    let stack : c.stack ≡ e.stack = ap (λ (x : Config). x.stack) (sym is) in
    let start : Config = config e.state i (marked longer e.stack.wild) in
    let extends' : Extends net longer e.stack.returns = subst (λ (z : Stack). Extends net longer z.returns) stack extends in
    let in_longer' : C (config c.state i (marked longer e.stack.wild)) =
    subst (λ (z : Stack). C (config c.state i (marked longer z.wild))) stack in_longer in
    let bottom' : e.stack.wild ≡ false = subst (λ (z : Stack). z.wild ≡ false) stack (bottom c in_c) in
    let (longest, extends'', r') = reaches_extended net e d i longer bottom' extends' r in
    (longest, (start, (config c.state i (marked longer e.stack.wild), in_longer', takes, refl), r', k), extends'')

-- no alternative of the set is less
abbrev pub AreFrom : (Config → Type 0) → ℕ → Type 0
AreFrom C i = (c : Config) → C c → i ≤ c.alt

-- no alternative of a set's next set is less, if none of its takers is
next_from : (net : ParserNetwork) (C : Config → Type 0) (a i : ℕ) → AreFrom (Takers net C a) i → AreFrom (Next net C a) i
next_from net C a i from d (e, (c, in_c, takes, is), r, k) =
    let keeps = reached_keeps net e d r in
    subst (λ (j : ℕ). i ≤ j) (sym (ap (λ (x : Config). x.alt) is) ∙ keeps.0) (from c (in_c, (e.state, takes)))

-- the least alternative of a covered set is the covering one, if none is less than that
least_is : (net : ParserNetwork) (D : Config → Type 0) (i j : ℕ) → Covers net D i → AreFrom D i → IsLeast D j → j ≡ i
least_is net D i j covers from h =
    let (c, in_c, is) = h.some in
    let low : i ≤ c.alt = from c in_c in
    let (longer, in_longer, _) = covers c in_c in
    let high : j ≤ i = h.least (config c.state i (marked longer c.stack.wild)) in_longer in
    omega (arith, low, high, is)

-- an alternative alone in a covered set is the one that covers
only_is : (net : ParserNetwork) (D : Config → Type 0) (i j : ℕ) → Covers net D i → IsOnly D j → j ≡ i
only_is net D i j covers h =
    let (c, in_c) = h.some in
    let (longer, in_longer, _) = covers c in_c in
    sym (h.all (config c.state i (marked longer c.stack.wild)) in_longer)

-- the takers of a covered set are covered
takers_covered : (net : ParserNetwork) (D : Config → Type 0) (a i : ℕ) → Covers net D i → Covers net (Takers net D a) i
takers_covered net D a i covers c (in_c, takes) =
    let (longer, in_longer, extends) = covers c in_c in
    (longer, (in_longer, takes), extends)

-- the answer is the alternative, or none is viable
abbrev IsChosen : ℕ → Choice → Type 0
IsChosen i c = (c ≡ chosen i) ⊎ ((m : ℕ) × (c ≡ no_viable m))

-- the answer on a covered set with no alternative less than the covering one, if the answers said later are of that kind too
settles_covered : (net : ParserNetwork) (D : Config → Type 0) (i k : ℕ) (Later : Choice → Type 0) → Covers net D i → AreFrom D i
    → ((c : Choice) → Later c → IsChosen i c) → (c : Choice) → Settles D k Later c → IsChosen i c
settles_covered net D i k Later covers from later _ (prediction.none_left e) = inr (k, refl)
settles_covered net D i k Later covers from later _ (prediction.one_left j h) = inl (ap chosen (only_is net D i j covers h))
settles_covered net D i k Later covers from later _ (prediction.least j alike h) = inl (ap chosen (least_is net D i j covers from h))
settles_covered net D i k Later covers from later _ (prediction.goes_on c e n s l) = later c l

-- full stacks choose the covering alternative of such takers, or none is viable
pub chooses : (net : ParserNetwork) (C : Config → Type 0) (a i : ℕ) (w : List ℕ) (k : ℕ) (c : Choice) → AreAboveBottom C
    → Covers net (Takers net C a) i → AreFrom (Takers net C a) i → FullFrom net C (a ∷ w) k c → IsChosen i c
chooses net C a i [] k c bottom covers from full =
    settles_covered net (Next net C a) i k (FullFrom net (Next net C a) [] (suc k)) (covered_next net C a i bottom covers)
    (next_from net C a i from) (λ d l. absurd l) c full
chooses net C a i (b ∷ w) k c bottom covers from full =
    let D : Config → Type 0 = Next net C a in
    let covers' : Covers net D i = covered_next net C a i bottom covers in
    let from' : AreFrom D i = next_from net C a i from in
    let later = chooses net D b i w (suc k) in
    settles_covered net D i k (FullFrom net D (b ∷ w) (suc k)) covers' from'
    (λ d l. later d (next_above_bottom net C a bottom) (takers_covered net D b i covers') (λ x h. from' x h.0) l) c full

-- full stacks choose the least alternative if it covers the others, or none is viable
pub covering_chooses : (net : ParserNetwork) (C : Config → Type 0) (a i : ℕ) (w : List ℕ) (k : ℕ) (c : Choice) → AreAboveBottom C
    → Covers net (Takers net C a) i → IsLeast (Takers net C a) i → FullFrom net C (a ∷ w) k c
    → (c ≡ chosen i) ⊎ ((m : ℕ) × (c ≡ no_viable m))
covering_chooses net C a i w k c bottom covers least full = chooses net C a i w k c bottom covers least.least full

-- a start set with the parser's stack is above its bottom
pub start_above_bottom : (net : ParserNetwork) (d : ℕ) (A : ℕ → Type 0) (returns : List ℕ)
    → AreAboveBottom (Start net d A (above_bottom returns))
start_above_bottom net d A returns c (e, (allowed, first, stack), r, k) = sym (reached_keeps net e c r).1 ∙ ap (λ (z : Stack). z.wild) stack
