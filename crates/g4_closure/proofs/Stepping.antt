-- Where groups lead.
use Rattle.std.proofs.Common.{◌≡◌, ℕ, ◌<◌, ◌↔◌, ◌⊎◌, inl, inr, List, [], ◌∷◌, ◌++◌, Bool, true, false, Option, Some, None, map, Contains, length, get_or, slice_get, refl, sym, ◌∙◌, ap, subst, arith}
use Rattle.std.proofs.lemmas.Option.{slice_get-get_or}
use Rattle.g4_net.specs.Configurations as stacks
use Rattle.g4_stacks.specs.Graph as graphs
use Rattle.g4_stacks.specs.Graph.{Content, Has, HasOf, IsNode, HasTops, IsPushed}
use Rattle.g4_net.specs.Network.{ParserNetwork}
use Rattle.g4_net.specs.declared.network.State.{State}
use Rattle.g4_net.specs.Network.{state_at, start_of, IsReturn}
use Rattle.g4_net.specs.Configurations.{Config, config, at, at_with}
use Rattle.g4_net.specs.Leads.{LeadsBy, Returns, WellFormed}
use Rattle.g4_net.proofs.Pigeons.{In, In-from, In-to}
use Rattle.g4_configs.specs.declared.group.Group.{Group}
use Rattle.g4_configs.specs.Groups.{InGroup, InSome, AreKnown, Same}
use Rattle.g4_closure.specs.Steps.{SteppedFrom, ReturnedFrom, LedFrom, placed, popped_to, listed_by}
use Rattle.g4_closure.proofs.Joining.{some_append}

-- a configuration by its parts
made_of : (c : Config) (p i : ℕ) (returns : List ℕ) → c.state ≡ p → c.alt ≡ i → c.stack.returns ≡ returns
    → c ≡ config p i (record { returns = returns; wild = c.stack.wild })
made_of c p i returns e f h = rw (← e, ← f, ← h) refl

-- a node's stacks at another state
pub moved : (g : List Content) (x : Group) (t : ℕ) (d : Config)
    → InGroup g (placed x.alternative x.stacks t) d ↔ ((c : Config) × InGroup g x c × (d ≡ at c t))
moved g x t d = (
  (λ i. (
    config x.state x.alternative d.stack,
    record { state = refl; alt = refl; stack = i.stack },
    made_of d t x.alternative d.stack.returns i.state i.alt refl,
  )),
  (λ (c, i, e). record {
    state = ap (λ (y : Config). y.state) e;
    alt = ap (λ (y : Config). y.alt) e ∙ i.alt;
    stack = subst (λ (y : Config). HasOf g x.stacks y.stack.returns y.stack.wild) (sym e) i.stack;
  }),
)

pub one_moved : (g : List Content) (x : Group) (t : ℕ) (found : List Group) → found ≡ placed x.alternative x.stacks t ∷ []
    → Same (InSome g found) (λ d. (c : Config) × InGroup g x c × (d ≡ at c t))
one_moved g x t found is = subst (λ (xs : List Group). Same (InSome g xs) (λ d. (c : Config) × InGroup g x c × (d ≡ at c t))) (sym is)
    (λ d. ((λ i. elim i [ inl k ↦ (moved g x t d).0 k | inr k ↦ absurd k ]), (λ r. inl ((moved g x t d).1 r))))

some_placed : (g : List Content) (alt node : ℕ) (ts : List ℕ) (d : Config) → InSome g (map (placed alt node) ts) d
    → (t : ℕ) × In t ts × InGroup g (placed alt node t) d
some_placed g alt node [] d i = absurd i
some_placed g alt node (t ∷ ts) d (inl i) = (t, inl refl, i)
some_placed g alt node (t ∷ ts) d (inr i) = let r = some_placed g alt node ts d i in (r.0, inr r.1, r.2)

pub placed_some : (g : List Content) (alt node : ℕ) (ts : List ℕ) (d : Config) (t : ℕ) → In t ts → InGroup g (placed alt node t) d
    → InSome g (map (placed alt node) ts) d
placed_some g alt node [] d t j i = absurd j
placed_some g alt node (u ∷ ts) d t (inl e) i = inl (subst (λ (v : ℕ). InGroup g (placed alt node v) d) e i)
placed_some g alt node (u ∷ ts) d t (inr j) i = inr (placed_some g alt node ts d t j i)

pub placed_known : (g : List Content) (alt node : ℕ) (ts : List ℕ) → IsNode g node → AreKnown g (map (placed alt node) ts)
placed_known g alt node [] in' = tt
placed_known g alt node (t ∷ ts) in' = (in', placed_known g alt node ts in')

pub all_moved : (g : List Content) (x : Group) (ts : List ℕ)
    → Same (InSome g (map (placed x.alternative x.stacks) ts))
    (λ d. (c : Config) × InGroup g x c × ((t : ℕ) × Contains ts t × (d ≡ at c t)))
all_moved g x ts d = (
  (λ i. let r = some_placed g x.alternative x.stacks ts d i in let c = (moved g x r.0 d).0 r.2 in (c.0, c.1, (r.0, In-to ts r.0 r.1, c.2))),
  (λ (c, i, (t, j, e)). placed_some g x.alternative x.stacks ts d t (In-from ts t j.0 j.1 j.2) ((moved g x t d).1 (c, i, e))),
)

-- a call
pub called : (g h : List Content) (x : Group) (rule back node : ℕ) → ((s : stacks.Stack) → Has h node s ↔ IsPushed g x.stacks back s)
    → Same (InSome h (placed x.alternative node (start_of rule) ∷ []))
    (λ d. (c : Config) × InGroup g x c × (d ≡ at_with c (start_of rule) (back ∷ c.stack.returns)))
called g h x rule back node means d = (to, from)
  where
    to : InSome h (placed x.alternative node (start_of rule) ∷ []) d
        → (c : Config) × InGroup g x c × (d ≡ at_with c (start_of rule) (back ∷ c.stack.returns))
    to (inl i) =
        let r : IsPushed g x.stacks back (record { returns = d.stack.returns; wild = d.stack.wild }) =
        (means (record { returns = d.stack.returns; wild = d.stack.wild })).0 i.stack in
        let returns : d.stack.returns ≡ back ∷ r.0.returns = ap (λ (s : stacks.Stack). s.returns) r.2 in
        let wild : d.stack.wild ≡ r.0.wild = ap (λ (s : stacks.Stack). s.wild) r.2 in (
          config x.state x.alternative (record { returns = r.0.returns; wild = d.stack.wild }),
          record { state = refl; alt = refl; stack = subst (λ (b : Bool). HasOf g x.stacks r.0.returns b) (sym wild) r.1 },
          made_of d (start_of rule) x.alternative (back ∷ r.0.returns) i.state i.alt returns,
        )
    to (inr i) = absurd i

    from : ((c : Config) × InGroup g x c × (d ≡ at_with c (start_of rule) (back ∷ c.stack.returns)))
        → InSome h (placed x.alternative node (start_of rule) ∷ []) d
    from (c, i, e) = inl (record {
      state = ap (λ (y : Config). y.state) e;
      alt = ap (λ (y : Config). y.alt) e ∙ i.alt;
      stack = subst (λ (y : Config). HasOf h node y.stack.returns y.stack.wild) (sym e)
          ((means (record { returns = back ∷ c.stack.returns; wild = c.stack.wild })).1
          (record { returns = c.stack.returns; wild = c.stack.wild }, i.stack, refl));
    })

-- the end of a rule

some_popped : (g : List Content) (alt : ℕ) (tops : List (ℕ × ℕ)) (d : Config) → InSome g (map (popped_to alt) tops) d
    → (t m : ℕ) × graphs.In (t, m) tops × InGroup g (popped_to alt (t, m)) d
some_popped g alt [] d i = absurd i
some_popped g alt (e ∷ es) d (inl i) = (e.0, e.1, inl refl, i)
some_popped g alt (e ∷ es) d (inr i) = let r = some_popped g alt es d i in (r.0, r.1, inr r.2, r.3)

pub popped_some : (g : List Content) (alt : ℕ) (tops : List (ℕ × ℕ)) (d : Config) (e : ℕ × ℕ) → graphs.In e tops
    → InGroup g (popped_to alt e) d → InSome g (map (popped_to alt) tops) d
popped_some g alt [] d e j i = absurd j
popped_some g alt (f ∷ es) d e (inl is) i = inl (subst (λ (y : ℕ × ℕ). InGroup g (popped_to alt y) d) is i)
popped_some g alt (f ∷ es) d e (inr j) i = inr (popped_some g alt es d e j i)

pub popped_known : (g : List Content) (alt : ℕ) (tops : List (ℕ × ℕ)) → ((t m : ℕ) → graphs.In (t, m) tops → IsNode g m)
    → AreKnown g (map (popped_to alt) tops)
popped_known g alt [] known = tt
popped_known g alt (e ∷ es) known = (known e.0 e.1 (inl refl), popped_known g alt es (λ t m i. known t m (inr i)))

-- the return states listed are those of the rule's calls
listed_exact : (net : ParserNetwork) (rule : ℕ) → WellFormed net → (o : Option (List ℕ)) → slice_get net.callers rule ≡ o → (t : ℕ)
    → Contains (listed_by o) t ↔ IsReturn net rule t
listed_exact net rule well (Some listed) is t = well.callers rule t listed is
listed_exact net rule well None is t = (
  (λ i. absurd (omega (arith, i.1))),
  λ (q, level, called). absurd (past (well.calls q rule level t called)),
)
  where
    past : rule < length net.callers → ⊥
    past less = let e : Some (get_or net.callers rule []) ≡ None = sym (slice_get-get_or net.callers rule [] less) ∙ is in cc

module _ (net : ParserNetwork) (well : WellFormed net) (rule : ℕ) (g : List Content) (x : Group) (tops : List (ℕ × ℕ))
    (has : HasTops g x.stacks tops) where
  -- what is popped of stacks with return states
  pub popped_to_returns : (d : Config) → InSome g (map (popped_to x.alternative) tops) d → ReturnedFrom net rule (InGroup g x) d
  popped_to_returns d i =
      let r = some_popped g x.alternative tops d i in
      let held : HasOf g x.stacks (r.0 ∷ d.stack.returns) d.stack.wild =
      (has.rests r.0 r.1 r.2 (record { returns = d.stack.returns; wild = d.stack.wild })).0 r.3.stack in (
        config x.state x.alternative (record { returns = r.0 ∷ d.stack.returns; wild = d.stack.wild }),
        record { state = refl; alt = refl; stack = held },
        made_of d r.0 x.alternative d.stack.returns r.3.state r.3.alt refl,
      )

  returns_popped : (c d : Config) (t : ℕ) (rest : List ℕ) → InGroup g x c → c.stack.returns ≡ t ∷ rest → d ≡ at_with c t rest
      → InSome g (map (popped_to x.alternative) tops) d
  returns_popped c d t rest i is e =
      let held : HasOf g x.stacks (t ∷ rest) c.stack.wild = subst (λ (rs : List ℕ). HasOf g x.stacks rs c.stack.wild) is i.stack in
      let s : stacks.Stack = record { returns = rest; wild = c.stack.wild } in
      let m : (m : ℕ) × graphs.In (t, m) tops = has.all t s held in
      popped_some g x.alternative tops d (t, m.0) m.1 (record {
        state = ap (λ (y : Config). y.state) e;
        alt = ap (λ (y : Config). y.alt) e ∙ i.alt;
        stack = subst (λ (y : Config). HasOf g m.0 y.stack.returns y.stack.wild) (sym e) ((has.rests t m.0 m.1 s).1 held);
      })

  -- without the wildcard alone
  pub ended_plain : (Has g x.stacks stacks.wildcard → ⊥)
      → Same (InSome g (map (popped_to x.alternative) tops)) (ReturnedFrom net rule (InGroup g x))
  ended_plain lacks d = (popped_to_returns d, λ (c, i, r). from c i c.stack.returns c.stack.wild refl refl r)
    where
      from : (c : Config) → InGroup g x c → (returns : List ℕ) (wild : Bool) → c.stack.returns ≡ returns → c.stack.wild ≡ wild
          → Returns net rule c returns wild d → InSome g (map (popped_to x.alternative) tops) d
      from c i (t ∷ rest) wild e f r = returns_popped c d t rest i e r
      from c i [] true e f r = absurd (lacks (subst (λ (b : Bool). HasOf g x.stacks [] b) f
          (subst (λ (rs : List ℕ). HasOf g x.stacks rs c.stack.wild) e i.stack)))
      from c i [] false e f r = absurd r

  -- with it
  pub ended_wild : (node : ℕ) → ((s : stacks.Stack) → Has g node s ↔ (s ≡ stacks.wildcard)) → Has g x.stacks stacks.wildcard
      → Same (InSome g (map (popped_to x.alternative) tops
      ++ map (placed x.alternative node) (listed_by (slice_get net.callers rule)))) (ReturnedFrom net rule (InGroup g x))
  ended_wild node only there d = (to, λ (c, i, r). from c i c.stack.returns c.stack.wild refl refl r)
    where
      back : List ℕ
      back = listed_by (slice_get net.callers rule)

      exact : (t : ℕ) → Contains back t ↔ IsReturn net rule t
      exact = listed_exact net rule well (slice_get net.callers rule) refl

      to : InSome g (map (popped_to x.alternative) tops ++ map (placed x.alternative node) back) d → ReturnedFrom net rule (InGroup g x) d
      to i = elim (let f : InSome g (map (popped_to x.alternative) tops) d ⊎ InSome g (map (placed x.alternative node) back) d =
          (some_append g (map (popped_to x.alternative) tops) (map (placed x.alternative node) back) d).0 i in f) [
            | inl k ↦ popped_to_returns d k
            | inr k ↦ (
                let r = some_placed g x.alternative node back d k in
                let s : Path stacks.Stack (record { returns = d.stack.returns; wild = d.stack.wild }) stacks.wildcard =
                (only (record { returns = d.stack.returns; wild = d.stack.wild })).0 r.2.stack in
                let returns : d.stack.returns ≡ [] = ap (λ (y : stacks.Stack). y.returns) s in
                let wild : d.stack.wild ≡ true = ap (λ (y : stacks.Stack). y.wild) s in (
                  config x.state x.alternative (record { returns = []; wild = true }),
                  record { state = refl; alt = refl; stack = there },
                  (
                    r.0,
                    (exact r.0).0 (In-to back r.0 r.1),
                    subst (λ (b : Bool). d ≡ config r.0 x.alternative (record { returns = []; wild = b })) wild
                        (made_of d r.0 x.alternative [] r.2.state r.2.alt returns),
                  ),
                )
                )
          ]

      from : (c : Config) → InGroup g x c → (returns : List ℕ) (wild : Bool) → c.stack.returns ≡ returns → c.stack.wild ≡ wild
          → Returns net rule c returns wild d → InSome g (map (popped_to x.alternative) tops ++ map (placed x.alternative node) back) d
      from c i (t ∷ rest) wild e f r = (some_append g (map (popped_to x.alternative) tops) (map (placed x.alternative node) back) d).1
          (inl (returns_popped c d t rest i e r))
      from c i [] true e f (t, ret, is) =
          let j = (exact t).1 ret in
          let held : HasOf g node [] true = (only stacks.wildcard).1 refl in
          let held_c : HasOf g node c.stack.returns c.stack.wild =
          subst (λ (rs : List ℕ). HasOf g node rs c.stack.wild) (sym e) (subst (λ (b : Bool). HasOf g node [] b) (sym f) held) in
          (some_append g (map (popped_to x.alternative) tops) (map (placed x.alternative node) back) d).1
          (inr (placed_some g x.alternative node back d t (In-from back t j.0 j.1 j.2) (record {
            state = ap (λ (y : Config). y.state) is;
            alt = ap (λ (y : Config). y.alt) is ∙ i.alt;
            stack = subst (λ (y : Config). HasOf g node y.stack.returns y.stack.wild) (sym is) held_c;
          })))
      from c i [] false e f r = absurd r

-- the same of a state that is that
pub arm : (net : ParserNetwork) (g h : List Content) (x : Group) (found : List Group) (s s' : State (List ℕ)) → s ≡ s'
    → Same (InSome h found) (SteppedFrom net (Some s') (InGroup g x)) → Same (InSome h found) (SteppedFrom net (Some s) (InGroup g x))
arm net g h x found s s' is same = subst (λ (o : State (List ℕ)). Same (InSome h found) (SteppedFrom net (Some o) (InGroup g x)))
    (sym is) same

-- and of a list that is that
pub listed : (h : List Content) (found found' : List Group) (P : Config → Type 0) → found ≡ found' → Same (InSome h found') P
    → Same (InSome h found) P
listed h found found' P is same = subst (λ (xs : List Group). Same (InSome h xs) P) (sym is) same

pub known_listed : (h : List Content) (found found' : List Group) → found ≡ found' → AreKnown h found' → AreKnown h found
known_listed h found found' is known = subst (AreKnown h) (sym is) known

-- from the group's state
pub led : (net : ParserNetwork) (g : List Content) (x : Group) (d : Config)
    → SteppedFrom net (state_at net x.state) (InGroup g x) d ↔ LedFrom net (InGroup g x) d
led net g x d = (
  (λ (c, i, l). (c, i, subst (λ (p : ℕ). LeadsBy net (state_at net p) c d) (sym i.state) l)),
  (λ (c, i, l). (c, i, subst (λ (p : ℕ). LeadsBy net (state_at net p) c d) i.state l)),
)
