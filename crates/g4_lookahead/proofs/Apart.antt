-- No configuration of a decision comes from the added rule with return states, so after END each is at the added
-- rule's end.
use Rattle.std.proofs.Common.{◌≡◌, ℕ, ◌+◌, ◌≤◌, ◌⊎◌, inl, inr, List, [], ◌∷◌, ◌++◌, slice_get, Bool, true, false, Option, Some, None, refl, sym, ◌∙◌, ap, subst, arith, Contains}
use Rattle.std.proofs.lemmas.Option.{slice_get_within, get_or_from_slice_get}
use Rattle.g4_tokens.specs.Symbols.{end_of_list}
use Rattle.g4_net.specs.declared.network.State.{State}
use Rattle.g4_net.specs.declared.network.State.TheVariants.{Decision, End, Edge, Call, Predicate, Level, Action, Empty}
use Rattle.g4_net.specs.AddedRule.{IsApart, IsInside, IsOutside}
use Rattle.g4_net.specs.Configurations.{Stack, Config, at}
use Rattle.g4_net.specs.Leads.{Returns, LeadsBy, Leads, Reaches, here, further}
use Rattle.g4_net.specs.Lookahead.{IsKeptBy, IsKept, Rest, Firsts, Start, TakesBy, Targets, Next}
use Rattle.g4_net.specs.Network.{ParserNetwork, state_at, start_of}
use Rattle.g4_net.proofs.Finite.{reached_keeps}
use Rattle.g4_lookahead.specs.EndOfList.{After}

-- of these return states, newest first, only the oldest may be of the added rule
abbrev pub AreApart : ℕ → List ℕ → Type 0
AreApart loop [] = Unit {0}
AreApart loop (t ∷ []) = Unit {0}
AreApart loop (t ∷ u ∷ more) = IsOutside loop t × AreApart loop (u ∷ more)

-- a state with these return states: one of the added rule, which no rule calls, has none
pub record StandsApart (loop p : ℕ) (returns : List ℕ) : Type 0 where
  pub alone : IsInside loop p → returns ≡ []
  pub apart : AreApart loop returns

-- a configuration above this mark, apart from the added rule
pub record IsStanding (loop : ℕ) (mark : Bool) (c : Config) : Type 0 where
  pub at : StandsApart loop c.state c.stack.returns
  pub marked : c.stack.wild ≡ mark

-- each configuration of the set is such a one
abbrev pub Stands : ℕ → Bool → (Config → Type 0) → Type 0
Stands loop mark C = (c : Config) → C c → IsStanding loop mark c

-- a state is one of the added rule's, or not
pub split : (loop p : ℕ) → 2 ≤ loop → IsInside loop p ⊎ IsOutside loop p
split loop p from = grind arith

-- and not both
pub not_both : (loop p : ℕ) → 2 ≤ loop → IsInside loop p → IsOutside loop p → ⊥
not_both loop p from i o = grind arith

-- one of five numbers
five : (loop p : ℕ) → loop ≤ p → p ≤ loop + 4 → (p ≡ loop) ⊎ (p ≡ loop + 1) ⊎ (p ≡ loop + 2) ⊎ (p ≡ loop + 3) ⊎ (p ≡ loop + 4)
five loop p low high = grind arith

-- what holds of each state of the added rule
each_inside : (loop : ℕ) (P : ℕ → Type 0) → P 0 → P 1 → P loop → P (loop + 1) → P (loop + 2) → P (loop + 3) → P (loop + 4) → (p : ℕ)
    → IsInside loop p → P p
each_inside loop P a b c d e f g p (inl is) = subst P (sym is) a
each_inside loop P a b c d e f g p (inr (inl is)) = subst P (sym is) b
each_inside loop P a b c d e f g p (inr (inr (low, high))) = elim (five loop p low high) [
  | inl is ↦ subst P (sym is) c
  | inr (inl is) ↦ subst P (sym is) d
  | inr (inr (inl is)) ↦ subst P (sym is) e
  | inr (inr (inr (inl is))) ↦ subst P (sym is) f
  | inr (inr (inr (inr is))) ↦ subst P (sym is) g
]

-- with no return state any state is apart
bare : (loop p : ℕ) (rs : List ℕ) → rs ≡ [] → StandsApart loop p rs
bare loop p rs is = record { alone = λ i. is; apart = subst (AreApart loop) (sym is) tt }

-- and outside the added rule with return states that do
outside : (loop p : ℕ) (rs : List ℕ) → 2 ≤ loop → IsOutside loop p → AreApart loop rs → StandsApart loop p rs
outside loop p rs from o h = record { alone = λ i. absurd (not_both loop p from i o); apart = h }

-- one return state more
pushed : (loop back : ℕ) (rs : List ℕ) → (rs ≡ []) ⊎ IsOutside loop back → AreApart loop rs → AreApart loop (back ∷ rs)
pushed loop back [] h a = tt
pushed loop back (u ∷ more) (inl is) a = absurd (let no : ⊥ = cc in no)
pushed loop back (u ∷ more) (inr o) a = (o, a)

-- a call calls a rule outside the added rule
pub calls_outside : {looped : List ℕ} → (net : ParserNetwork) (rule loop p r level back : ℕ) → IsApart net rule loop looped
    → IsInside loop p ⊎ IsOutside loop p → state_at net p ≡ Some (Call r level back) → IsOutside loop (start_of r)
calls_outside net rule loop p r level back a (inr o) is = a.calls p r level back o is
calls_outside net rule loop p r level back a (inl i) is =
    each_inside loop (λ (q : ℕ). state_at net q ≡ Some (Call r level back) → IsOutside loop (start_of r))
    (λ e. let s : rule ≡ r = cc (a.added.call, e) in subst (λ (q : ℕ). IsOutside loop (start_of q)) s a.start)
    (λ e. let no : ⊥ = cc (a.added.end, e) in absurd no)
    (λ e. let no : ⊥ = cc (a.added.turn_or_leave, e) in absurd no)
    (λ e. let no : ⊥ = cc (a.added.turn, e) in absurd no)
    (λ e. let no : ⊥ = cc (a.added.again, e) in absurd no)
    (λ e. let no : ⊥ = cc (a.added.leave, e) in absurd no)
    (λ e. let no : ⊥ = cc (a.added.last, e) in absurd no)
    p i is

-- no state calls the added rule
no_call : {looped : List ℕ} → (net : ParserNetwork) (rule loop q level t : ℕ) → IsApart net rule loop looped
    → state_at net q ≡ Some (Call 0 level t) → ⊥
no_call net rule loop q level t a is =
    let o = calls_outside net rule loop q 0 level t a (split loop q a.loop_from) is in
    omega (arith, o.0)

-- an edge to a state outside keeps the distance
moved : (loop t : ℕ) (c d : Config) → 2 ≤ loop → (IsOutside loop c.state → IsOutside loop t)
    → StandsApart loop c.state c.stack.returns → d ≡ at c t → StandsApart loop d.state d.stack.returns
moved loop t c d from to s is = subst (λ (x : Config). StandsApart loop x.state x.stack.returns) (sym is) (elim (split loop c.state from) [
  | inl i ↦ bare loop t c.stack.returns (s.alone i)
  | inr o ↦ outside loop t c.stack.returns from (to o) s.apart
])

-- popping keeps it
popped : (net : ParserNetwork) (loop rule : ℕ) (c d : Config) → 2 ≤ loop → (rs : List ℕ) (wild : Bool) → c.stack.returns ≡ rs
    → AreApart loop rs → Returns net rule c rs wild d → StandsApart loop d.state d.stack.returns
popped net loop rule c d from (t ∷ []) wild e a l =
    subst (λ (x : Config). StandsApart loop x.state x.stack.returns) (sym l) (bare loop t [] refl)
popped net loop rule c d from (t ∷ u ∷ more) wild e a l =
    subst (λ (x : Config). StandsApart loop x.state x.stack.returns) (sym l) (outside loop t (u ∷ more) from a.0 a.1)
popped net loop rule c d from [] true e a l =
    subst (λ (x : Config). StandsApart loop x.state x.stack.returns) (sym l.2) (bare loop l.0 c.stack.returns e)
popped net loop rule c d from [] false e a l = absurd l

-- a step keeps it
stepped : {looped : List ℕ} → (net : ParserNetwork) (rule loop : ℕ) (c d : Config) → IsApart net rule loop looped
    → (o : Option (State (List ℕ))) → state_at net c.state ≡ o → LeadsBy net o c d → StandsApart loop c.state c.stack.returns
    → StandsApart loop d.state d.stack.returns
stepped net rule loop c d a None is l s = absurd l
stepped net rule loop c d a (Some (Decision ts)) is l s =
    moved loop l.0 c d a.loop_from (λ o. a.targets c.state l.0 (Decision ts) o is l.1) s l.2
stepped net rule loop c d a (Some (End r)) is l s = popped net loop r c d a.loop_from c.stack.returns c.stack.wild refl s.apart l
stepped net rule loop c d a (Some (Edge set t)) is l s = absurd l
stepped net rule loop c d a (Some (Call r level back)) is l s =
    let side = split loop c.state a.loop_from in
    let back_apart : (c.stack.returns ≡ []) ⊎ IsOutside loop back =
    elim side [ inl i ↦ inl (s.alone i) | inr o ↦ inr (a.targets c.state back (Call r level back) o is refl) ] in
    subst (λ (x : Config). StandsApart loop x.state x.stack.returns) (sym l)
    (outside loop (start_of r) (back ∷ c.stack.returns) a.loop_from (calls_outside net rule loop c.state r level back a side is)
    (pushed loop back c.stack.returns back_apart s.apart))
stepped net rule loop c d a (Some (Predicate k t)) is l s =
    moved loop t c d a.loop_from (λ o. a.targets c.state t (Predicate k t) o is refl) s l
stepped net rule loop c d a (Some (Level q t)) is l s = moved loop t c d a.loop_from (λ o. a.targets c.state t (Level q t) o is refl) s l
stepped net rule loop c d a (Some (Action t)) is l s = moved loop t c d a.loop_from (λ o. a.targets c.state t (Action t) o is refl) s l
stepped net rule loop c d a (Some (Empty t)) is l s = moved loop t c d a.loop_from (λ o. a.targets c.state t (Empty t) o is refl) s l

-- and so do any number of steps
reached : {looped : List ℕ} → (net : ParserNetwork) (rule loop : ℕ) (c d : Config) → IsApart net rule loop looped → Reaches net c d
    → StandsApart loop c.state c.stack.returns → StandsApart loop d.state d.stack.returns
reached net rule loop c d a here s = s
reached net rule loop c d a (further e _ r l) s =
    stepped net rule loop e d a (state_at net e.state) refl l (reached net rule loop c e a r s)

-- what is kept of all that such a set leads to is such a set
rest : {looped : List ℕ} → (net : ParserNetwork) (rule loop : ℕ) (mark : Bool) (C : Config → Type 0) → IsApart net rule loop looped
    → Stands loop mark C → Stands loop mark (Rest net C)
rest net rule loop mark C a s d (c, i, r, k) =
    let h = s c i in
    record { at = reached net rule loop c d a r h.at; marked = sym (reached_keeps net c d r).1 ∙ h.marked }

-- an element that is read is contained
pub taken : (xs : List ℕ) (k x : ℕ) → slice_get xs k ≡ Some x → Contains xs x
taken xs k x is = (k, slice_get_within xs k x is, get_or_from_slice_get xs k x x is)

-- the start set is one
pub stands_start : {looped : List ℕ} → (net : ParserNetwork) (rule loop d : ℕ) (A : ℕ → Type 0) (z : Stack)
    → IsApart net rule loop looped → StandsApart loop d z.returns → Stands loop z.wild (Start net d A z)
stands_start net rule loop d A z a s = rest net rule loop z.wild (Firsts net d A z) a first
  where
    first : Stands loop z.wild (Firsts net d A z)
    first c (_, (targets, k, is, at, _), stack) = record {
      at = subst (λ (y : Stack). StandsApart loop c.state y.returns) (sym stack) (elim (split loop d a.loop_from) [
        | inl i ↦ bare loop c.state z.returns (s.alone i)
        | inr o ↦ outside loop c.state z.returns a.loop_from
            (a.targets d c.state (Decision targets) o is (taken targets k c.state at)) s.apart
      ]);
      marked = ap (λ (y : Stack). y.wild) stack;
    }

-- the target of an edge that takes a symbol
took : {looped : List ℕ} → (net : ParserNetwork) (rule loop symbol : ℕ) (c d : Config) → IsApart net rule loop looped
    → (o : Option (State (List ℕ))) → state_at net c.state ≡ o → TakesBy o symbol d.state → d ≡ at c d.state
    → StandsApart loop c.state c.stack.returns → StandsApart loop d.state d.stack.returns
took net rule loop symbol c d a None is t e s = absurd t
took net rule loop symbol c d a (Some (Edge set u)) is t e s =
    moved loop d.state c d a.loop_from (λ o. a.targets c.state d.state (Edge set u) o is t.1) s e
took net rule loop symbol c d a (Some (End r)) is t e s = absurd t
took net rule loop symbol c d a (Some (Decision ts)) is t e s = absurd t
took net rule loop symbol c d a (Some (Call r level back)) is t e s = absurd t
took net rule loop symbol c d a (Some (Predicate k u)) is t e s = absurd t
took net rule loop symbol c d a (Some (Level q u)) is t e s = absurd t
took net rule loop symbol c d a (Some (Action u)) is t e s = absurd t
took net rule loop symbol c d a (Some (Empty u)) is t e s = absurd t

-- the targets on a symbol are one
stands_targets : {looped : List ℕ} → (net : ParserNetwork) (rule loop symbol : ℕ) (mark : Bool) (C : Config → Type 0)
    → IsApart net rule loop looped → Stands loop mark C → Stands loop mark (Targets net C symbol)
stands_targets net rule loop symbol mark C a s d (c, i, t, e) =
    let h = s c i in
    record {
      at = took net rule loop symbol c d a (state_at net c.state) refl t e h.at;
      marked = ap (λ (x : Config). x.stack.wild) e ∙ h.marked;
    }

-- and so is the next set
pub stands_next : {looped : List ℕ} → (net : ParserNetwork) (rule loop symbol : ℕ) (mark : Bool) (C : Config → Type 0)
    → IsApart net rule loop looped → Stands loop mark C → Stands loop mark (Next net C symbol)
stands_next net rule loop symbol mark C a s =
    rest net rule loop mark (Targets net C symbol) a (stands_targets net rule loop symbol mark C a s)

-- only the added rule takes END
takes_end : {looped : List ℕ} → (net : ParserNetwork) (rule loop p t : ℕ) (set : List ℕ) → IsApart net rule loop looped
    → state_at net p ≡ Some (Edge set t) → Contains set end_of_list → IsInside loop p × (t ≡ loop + 4)
takes_end {looped} net rule loop p t set a is has = elim (split loop p a.loop_from) [
  | inr o ↦ absurd (a.leaves_end p t set o is has)
  | inl i ↦ (i, target i)
]
  where
    target : IsInside loop p → t ≡ loop + 4
    target i =
        each_inside loop (λ (q : ℕ). state_at net q ≡ Some (Edge set t) → t ≡ loop + 4)
        (λ e. let no : ⊥ = cc (a.added.call, e) in absurd no)
        (λ e. let no : ⊥ = cc (a.added.end, e) in absurd no)
        (λ e. let no : ⊥ = cc (a.added.turn_or_leave, e) in absurd no)
        (λ e. let s : set ≡ looped = cc (a.added.turn, e) in
        absurd (a.loops_without_end (subst (λ (xs : List ℕ). Contains xs end_of_list) s has)))
        (λ e. let no : ⊥ = cc (a.added.again, e) in absurd no)
        (λ e. cc (a.added.leave, e))
        (λ e. let no : ⊥ = cc (a.added.last, e) in absurd no)
        p i is

-- at the added rule's end
abbrev pub IsLast : Bool → Config → Type 0
IsLast mark c = (c.state ≡ 1) × (c.stack ≡ record { returns = []; wild = mark })

-- where the edge of END leads
at_end : {looped : List ℕ} → (net : ParserNetwork) (rule loop : ℕ) (c d : Config) → IsApart net rule loop looped
    → (o : Option (State (List ℕ))) → state_at net c.state ≡ o → TakesBy o end_of_list d.state → d ≡ at c d.state
    → StandsApart loop c.state c.stack.returns → (d.state ≡ loop + 4) × (d.stack.returns ≡ [])
at_end net rule loop c d a None is t e s = absurd t
at_end net rule loop c d a (Some (Edge set u)) is t e s =
    let h = takes_end net rule loop c.state u set a is t.0 in
    (t.1 ∙ h.1, ap (λ (x : Config). x.stack.returns) e ∙ s.alone h.0)
at_end net rule loop c d a (Some (End r)) is t e s = absurd t
at_end net rule loop c d a (Some (Decision ts)) is t e s = absurd t
at_end net rule loop c d a (Some (Call r level back)) is t e s = absurd t
at_end net rule loop c d a (Some (Predicate k u)) is t e s = absurd t
at_end net rule loop c d a (Some (Level q u)) is t e s = absurd t
at_end net rule loop c d a (Some (Action u)) is t e s = absurd t
at_end net rule loop c d a (Some (Empty u)) is t e s = absurd t

-- the added rule's end leads nowhere
stuck : {looped : List ℕ} → (net : ParserNetwork) (rule loop : ℕ) (c d : Config) → IsApart net rule loop looped
    → (rs : List ℕ) (wild : Bool) → rs ≡ [] → Returns net 0 c rs wild d → ⊥
stuck net rule loop c d a (t ∷ rs) wild none l = let no : ⊥ = cc in no
stuck net rule loop c d a [] true none (t, (q, level, called), is) = no_call net rule loop q level t a called
stuck net rule loop c d a [] false none l = l

-- from after END there is the added rule's end alone
from_end : {looped : List ℕ} → (net : ParserNetwork) (rule loop : ℕ) (c d : Config) → IsApart net rule loop looped
    → c.state ≡ loop + 4 → c.stack.returns ≡ [] → Reaches net c d → (d ≡ c) ⊎ (d ≡ at c 1)
from_end net rule loop c d a p none here = inl refl
from_end net rule loop c d a p none (further e _ r l) = elim (from_end net rule loop c e a p none r) [
  | inl is ↦ inr (first is)
  | inr is ↦ absurd (second is)
]
  where
    first : e ≡ c → d ≡ at c 1
    first is =
        let l' : LeadsBy net (state_at net c.state) c d = subst (λ (x : Config). Leads net x d) is l in
        let last : state_at net c.state ≡ Some (Empty 1) = ap (state_at net) p ∙ a.added.last in
        subst (λ (o : Option (State (List ℕ))). LeadsBy net o c d) last l'

    second : e ≡ at c 1 → ⊥
    second is =
        let l' : LeadsBy net (state_at net 1) (at c 1) d = subst (λ (x : Config). Leads net x d) is l in
        stuck net rule loop (at c 1) d a c.stack.returns c.stack.wild none
        (subst (λ (o : Option (State (List ℕ))). LeadsBy net o (at c 1) d) a.added.end l')

-- after END each configuration is at the added rule's end
pub last : {looped : List ℕ} → (net : ParserNetwork) (rule loop : ℕ) (mark : Bool) (C : Config → Type 0)
    → IsApart net rule loop looped → Stands loop mark C → (d : Config) → Next net C end_of_list d → IsLast mark d
last net rule loop mark C a s d (e, (c, i, t, is), r, k) = elim (from_end net rule loop e d a at.0 at.1 r) [
  | inl same ↦ absurd (lost same)
  | inr moved' ↦ (ap (λ (x : Config). x.state) moved', ap (λ (x : Config). x.stack) moved' ∙ stack)
]
  where
    h : IsStanding loop mark c
    h = s c i

    at : (e.state ≡ loop + 4) × (e.stack.returns ≡ [])
    at = at_end net rule loop c e a (state_at net c.state) refl t is h.at

    marked : e.stack.wild ≡ mark
    marked = ap (λ (x : Config). x.stack.wild) is ∙ h.marked

    stack : e.stack ≡ record { returns = []; wild = mark }
    stack = ap (λ (rs : List ℕ). record { returns = rs; wild = e.stack.wild }) at.1
        ∙ ap (λ (w : Bool). record { returns = []; wild = w }) marked

    lost : d ≡ e → ⊥
    lost same =
        let k' : IsKeptBy (state_at net e.state) = subst (IsKept net) same k in
        subst IsKeptBy (ap (state_at net) at.0 ∙ a.added.last) k'

-- and so it is after any word that ends in END
pub after_end : {looped : List ℕ} → (net : ParserNetwork) (rule loop : ℕ) (mark : Bool) (C : Config → Type 0)
    → IsApart net rule loop looped → Stands loop mark C → (w : List ℕ) (d : Config) → After net C (w ++ end_of_list ∷ []) d → IsLast mark d
after_end net rule loop mark C a s [] d h = last net rule loop mark C a s d h
after_end net rule loop mark C a s (b ∷ w) d h =
    after_end net rule loop mark (Next net C b) a (stands_next net rule loop b mark C a s) w d h
