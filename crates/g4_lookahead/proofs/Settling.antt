-- What holds of a set whose configurations are all at the added rule's end, and of the alternatives that are left.
use Rattle.std.proofs.Common.{◌≡◌, ◌≢◌, ◌⊎◌, inl, inr, ℕ, ◌+◌, ◌<◌, ◌≤◌, suc, List, [], ◌∷◌, length, refl, sym, ◌∙◌, ap, subst, arith, Contains}
use Rattle.g4_net.specs.Configurations.{Stack, Config, config}
use Rattle.g4_net.specs.Lookahead.{Start, Next, IsEmpty, IsOnly}
use Rattle.g4_net.specs.Network.{ParserNetwork, IsFirst}
use Rattle.g4_net.specs.Prediction.{Verdict, error_at, answer, sensitive, Looked, Judges, SllFrom, Choice, chosen, no_viable, Settles, FullFrom}
use Rattle.g4_net.specs.Prediction as prediction
use Rattle.g4_net.proofs.Finite.{reached_keeps}
use Rattle.g4_lookahead.specs.EndOfList.{GoesOn, GoesOnFull}

-- all at one state, with one stack
abbrev pub AtOne : ℕ → Stack → (Config → Type 0) → Type 0
AtOne p z D = (c : Config) → D c → (c.state ≡ p) × (c.stack ≡ z)

-- the configuration, by what it has
made : (p : ℕ) (z : Stack) (c : Config) → (c.state ≡ p) × (c.stack ≡ z) → c ≡ config p c.alt z
made p z c h = ap (λ (q : ℕ). config q c.alt c.stack) h.0 ∙ ap (λ (s : Stack). config p c.alt s) h.1

-- each alternative of such a set has the same stacks at each state
same_at_one : (p : ℕ) (z : Stack) (D : Config → Type 0) → AtOne p z D → (q : ℕ) (c d : Config) → D d → (s : Stack)
    → D (config q c.alt s) → D (config q d.alt s)
same_at_one p z D one q c d in_d s h =
    let e = one (config q c.alt s) h in
    let e' : config p d.alt z ≡ config q d.alt s =
    ap (λ (r : ℕ). config r d.alt z) (sym e.0) ∙ ap (λ (x : Stack). config q d.alt x) (sym e.1) in
    subst D (made p z d (one d in_d) ∙ e') in_d

-- two numbers are the same or not
same_or_not : (m n : ℕ) → (m ≡ n) ⊎ (m ≢ n)
same_or_not m n = grind arith

-- a set with one alternative of each is of one alone
all_the_same : (D : Config → Type 0) → ((i : ℕ) → IsOnly D i → ⊥) → ((c d : Config) → D c → D d → c.alt ≢ d.alt → ⊥) → IsEmpty D
all_the_same D several same c in_c =
    several c.alt (record {
      some = (c, in_c);
      all = λ d in_d. elim (same_or_not d.alt c.alt) [ inl is ↦ is | inr ne ↦ absurd (same d c in_d in_c ne) ];
    })

-- SLL does not go on after such a set
pub settled_sll : (p : ℕ) (z : Stack) (D : Config → Type 0) → AtOne p z D → GoesOn D → ⊥
settled_sll p z D one g = g.some (all_the_same D g.several clash)
  where
    clash : (c d : Config) → D c → D d → c.alt ≢ d.alt → ⊥
    clash c d in_c in_d ne =
        g.clear (record {
          conflict = (
            p,
            c.alt,
            d.alt,
            ne,
            (z, subst D (made p z c (one c in_c)) in_c),
            λ s. (same_at_one p z D one p c d in_d s, same_at_one p z D one p d c in_c s),
          );
          none_lone = λ (q, i, (s, has), alone).
              let e = one (config q i s) has in
              let of = λ (x : Config) (in_x : D x). alone x.alt x.stack
              (subst D (ap (λ (r : ℕ). config r x.alt x.stack) ((one x in_x).0 ∙ sym e.0)) in_x) in
              ne (of c in_c ∙ sym (of d in_d));
        })

-- nor do full stacks
pub settled_full : (p : ℕ) (z : Stack) (D : Config → Type 0) → AtOne p z D → GoesOnFull D → ⊥
settled_full p z D one g = g.some (all_the_same D g.several clash)
  where
    clash : (c d : Config) → D c → D d → c.alt ≢ d.alt → ⊥
    clash c d in_c in_d ne =
        g.unlike (record {
          several = (c, d, in_c, in_d, ne);
          same = λ x y e in_x in_y in_e s. (same_at_one p z D one e.state x y in_y s, same_at_one p z D one e.state y x in_x s);
        })

-- each configuration's alternative is one of the decision's
abbrev pub Begins : ParserNetwork → ℕ → (Config → Type 0) → Type 0
Begins net d C = (c : Config) → C c → (t : ℕ) × IsFirst net d c.alt t

-- so it is in the start set
pub begins_start : (net : ParserNetwork) (d : ℕ) (A : ℕ → Type 0) (z : Stack) → Begins net d (Start net d A z)
begins_start net d A z e (c, (_, first, _), r, k) = (c.state, subst (λ (i : ℕ). IsFirst net d i c.state) (reached_keeps net c e r).0 first)

-- and in the next set, if in this one
pub begins_next : (net : ParserNetwork) (d a : ℕ) (C : Config → Type 0) → Begins net d C → Begins net d (Next net C a)
begins_next net d a C h e (b, (c, i, t, is), r, k) =
    let first = h c i in
    let same : c.alt ≡ e.alt = sym (ap (λ (x : Config). x.alt) is) ∙ (reached_keeps net b e r).0 in
    (first.0, subst (λ (j : ℕ). IsFirst net d j first.0) same first.1)

-- what a verdict says of its alternative or place
abbrev pub Tells : ParserNetwork → ℕ → ℕ → Verdict → Type 0
Tells net d bound (answer i) = (t : ℕ) × IsFirst net d i t
Tells net d bound (error_at k) = k < bound
Tells net d bound (sensitive k) = k < bound

-- the only alternative that is left is one of the decision's
only_first : (net : ParserNetwork) (d i : ℕ) (D : Config → Type 0) → Begins net d D → IsOnly D i → (t : ℕ) × IsFirst net d i t
only_first net d i D h o =
    let first = h o.some.0 o.some.1 in
    (first.0, subst (λ (j : ℕ). IsFirst net d j first.0) (o.all o.some.0 o.some.1) first.1)

-- a verdict on such a set says it, if what is said later does
judge_tells : (net : ParserNetwork) (d k a bound : ℕ) (D : Config → Type 0) (Later : Verdict → List Looked → Type 0) → k < bound
    → Begins net d D → ((v : Verdict) (more : List Looked) → Later v more → Tells net d bound v)
    → (v : Verdict) (looked : List Looked) → Judges D k a Later v looked → Tells net d bound v
judge_tells net d k a bound D Later less h later _ _ (prediction.nothing_left e) = less
judge_tells net d k a bound D Later less h later _ _ (prediction.one_left i o) = only_first net d i D h o
judge_tells net d k a bound D Later less h later _ _ (prediction.gives_up n c l) = less
judge_tells net d k a bound D Later less h later _ _ (prediction.goes_on v more row e n s has l) = later v more l

-- the alternative that SLL answers is one of the decision's, and an error is within the word
pub sll_tells : (net : ParserNetwork) (d : ℕ) (C : Config → Type 0) → Begins net d C → (w : List ℕ) (k bound : ℕ)
    → k + length w ≤ bound → (v : Verdict) (looked : List Looked) → SllFrom net C w k v looked → Tells net d bound v
sll_tells net d C h [] k bound less v looked s = absurd s
sll_tells net d C h (a ∷ w) k bound less v looked s =
    judge_tells net d k a bound (Next net C a) (SllFrom net (Next net C a) w (suc k)) (omega arith) (begins_next net d a C h)
    (sll_tells net d (Next net C a) (begins_next net d a C h) w (suc k) bound (omega arith)) v looked s

-- what a choice says of its alternative or place
abbrev pub Shows : ParserNetwork → ℕ → ℕ → Choice → Type 0
Shows net d bound (chosen i) = (t : ℕ) × IsFirst net d i t
Shows net d bound (no_viable k) = k < bound

-- a choice on such a set shows it, if what is said later does
settles_shows : (net : ParserNetwork) (d k bound : ℕ) (D : Config → Type 0) (Later : Choice → Type 0) → k < bound → Begins net d D
    → ((c : Choice) → Later c → Shows net d bound c) → (c : Choice) → Settles D k Later c → Shows net d bound c
settles_shows net d k bound D Later less h later _ (prediction.none_left e) = less
settles_shows net d k bound D Later less h later _ (prediction.one_left i o) = only_first net d i D h o
settles_shows net d k bound D Later less h later _ (prediction.least i alike l) =
    let first = h l.some.0 l.some.1 in
    (first.0, subst (λ (j : ℕ). IsFirst net d j first.0) l.some.2 first.1)
settles_shows net d k bound D Later less h later _ (prediction.goes_on c e n s l) = later c l

-- the same of full stacks
pub full_shows : (net : ParserNetwork) (d : ℕ) (C : Config → Type 0) → Begins net d C → (w : List ℕ) (k bound : ℕ)
    → k + length w ≤ bound → (c : Choice) → FullFrom net C w k c → Shows net d bound c
full_shows net d C h [] k bound less c s = absurd s
full_shows net d C h (a ∷ w) k bound less c s =
    settles_shows net d k bound (Next net C a) (FullFrom net (Next net C a) w (suc k)) (omega arith) (begins_next net d a C h)
    (full_shows net d (Next net C a) (begins_next net d a C h) w (suc k) bound (omega arith)) c s
