-- Rows: configurations are in one order, so a set has at most one row, and the members of a list have one.
use Rattle.std.proofs.Common.{◌≡◌, ℕ, ◌<◌, ◌⊎◌, inl, inr, List, [], ◌∷◌, Bool, true, false, true≢false, refl, sym, ◌∙◌, ap, subst, arith, Contains}
use Rattle.g4_net.specs.Configurations.{Stack, Config, config, ReturnsPrecede, StackPrecedes, Precedes, IsRising, IsRow}
use Rattle.g4_net.proofs.Pigeons.{In, In-from, In-to}

-- the order of return states

returns_irreflexive : (ts : List ℕ) → ReturnsPrecede ts ts → ⊥
returns_irreflexive [] h = h
returns_irreflexive (t ∷ ts) (inl less) = omega arith
returns_irreflexive (t ∷ ts) (inr more) = returns_irreflexive ts more.1

returns_transitive : (ts us vs : List ℕ) → ReturnsPrecede ts us → ReturnsPrecede us vs → ReturnsPrecede ts vs
returns_transitive [] [] vs h k = absurd h
returns_transitive [] (u ∷ us) [] h k = absurd k
returns_transitive [] (u ∷ us) (v ∷ vs) h k = tt
returns_transitive (t ∷ ts) [] vs h k = absurd h
returns_transitive (t ∷ ts) (u ∷ us) [] h k = absurd k
returns_transitive (t ∷ ts) (u ∷ us) (v ∷ vs) (inl h) (inl k) = inl (omega arith)
returns_transitive (t ∷ ts) (u ∷ us) (v ∷ vs) (inl h) (inr k) = inl (omega (arith, k.0))
returns_transitive (t ∷ ts) (u ∷ us) (v ∷ vs) (inr h) (inl k) = inl (omega (arith, h.0))
returns_transitive (t ∷ ts) (u ∷ us) (v ∷ vs) (inr h) (inr k) = inr (h.0 ∙ k.0, returns_transitive ts us vs h.1 k.1)

-- a number is below another, or equal to it, or above it
number_order : (m n : ℕ) → (m < n) ⊎ ((m ≡ n) ⊎ (n < m))
number_order m n = grind arith

returns_order : (ts us : List ℕ) → ReturnsPrecede ts us ⊎ ((ts ≡ us) ⊎ ReturnsPrecede us ts)
returns_order [] [] = inr (inl refl)
returns_order [] (u ∷ us) = inl tt
returns_order (t ∷ ts) [] = inr (inr tt)
returns_order (t ∷ ts) (u ∷ us) = by_heads (number_order t u) (returns_order ts us)
  where
    by_heads : (t < u) ⊎ ((t ≡ u) ⊎ (u < t)) → ReturnsPrecede ts us ⊎ ((ts ≡ us) ⊎ ReturnsPrecede us ts)
        → ReturnsPrecede (t ∷ ts) (u ∷ us) ⊎ ((t ∷ ts ≡ u ∷ us) ⊎ ReturnsPrecede (u ∷ us) (t ∷ ts))
    by_heads (inl less) more = inl (inl less)
    by_heads (inr (inr less)) more = inr (inr (inl less))
    by_heads (inr (inl same)) (inl h) = inl (inr (same, h))
    by_heads (inr (inl same)) (inr (inr h)) = inr (inr (inr (sym same, h)))
    by_heads (inr (inl same)) (inr (inl is)) = inr (inl cc)

-- the order of stacks

stack_irreflexive : (s : Stack) → StackPrecedes s s → ⊥
stack_irreflexive s (inl h) = returns_irreflexive s.returns h
stack_irreflexive s (inr h) = true≢false (sym h.2 ∙ h.1)

stack_transitive : (s t u : Stack) → StackPrecedes s t → StackPrecedes t u → StackPrecedes s u
stack_transitive s t u (inl h) (inl k) = inl (returns_transitive s.returns t.returns u.returns h k)
stack_transitive s t u (inl h) (inr k) = inl (subst (ReturnsPrecede s.returns) k.0 h)
stack_transitive s t u (inr h) (inl k) = inl (subst (λ (ts : List ℕ). ReturnsPrecede ts u.returns) (sym h.0) k)
stack_transitive s t u (inr h) (inr k) = absurd (true≢false (sym h.2 ∙ k.1))

-- a stack by its parts
stack_by_parts : (s t : Stack) → s.returns ≡ t.returns → s.wild ≡ t.wild → s ≡ t
stack_by_parts s t e m =
    let make : List ℕ → Bool → Stack = λ rs w. record { returns = rs; wild = w } in
    ap (λ (rs : List ℕ). make rs s.wild) e ∙ ap (λ (w : Bool). make t.returns w) m

stack_order : (s t : Stack) → StackPrecedes s t ⊎ ((s ≡ t) ⊎ StackPrecedes t s)
stack_order s t = by_returns (returns_order s.returns t.returns)
  where
    by_marks : (v w : Bool) → s.wild ≡ v → t.wild ≡ w → s.returns ≡ t.returns → StackPrecedes s t ⊎ ((s ≡ t) ⊎ StackPrecedes t s)
    by_marks false true v w e = inl (inr (e, v, w))
    by_marks true false v w e = inr (inr (inr (sym e, w, v)))
    by_marks true true v w e = inr (inl (stack_by_parts s t e (v ∙ sym w)))
    by_marks false false v w e = inr (inl (stack_by_parts s t e (v ∙ sym w)))

    by_returns : ReturnsPrecede s.returns t.returns ⊎ ((s.returns ≡ t.returns) ⊎ ReturnsPrecede t.returns s.returns)
        → StackPrecedes s t ⊎ ((s ≡ t) ⊎ StackPrecedes t s)
    by_returns (inl h) = inl (inl h)
    by_returns (inr (inl e)) = by_marks s.wild t.wild refl refl e
    by_returns (inr (inr h)) = inr (inr (inl h))

-- the order of configurations

irreflexive : (c : Config) → Precedes c c → ⊥
irreflexive c (inl less) = omega arith
irreflexive c (inr (_, inl less)) = omega arith
irreflexive c (inr (_, inr h)) = stack_irreflexive c.stack h.1

alternatives_transitive : (c d e : Config) → (c.alt < d.alt) ⊎ ((c.alt ≡ d.alt) × StackPrecedes c.stack d.stack)
    → (d.alt < e.alt) ⊎ ((d.alt ≡ e.alt) × StackPrecedes d.stack e.stack)
    → (c.alt < e.alt) ⊎ ((c.alt ≡ e.alt) × StackPrecedes c.stack e.stack)
alternatives_transitive c d e (inl h) (inl k) = inl (omega arith)
alternatives_transitive c d e (inl h) (inr k) = inl (omega (arith, k.0))
alternatives_transitive c d e (inr h) (inl k) = inl (omega (arith, h.0))
alternatives_transitive c d e (inr h) (inr k) = inr (h.0 ∙ k.0, stack_transitive c.stack d.stack e.stack h.1 k.1)

transitive : (c d e : Config) → Precedes c d → Precedes d e → Precedes c e
transitive c d e (inl h) (inl k) = inl (omega arith)
transitive c d e (inl h) (inr k) = inl (omega (arith, k.0))
transitive c d e (inr h) (inl k) = inl (omega (arith, h.0))
transitive c d e (inr h) (inr k) = inr (h.0 ∙ k.0, alternatives_transitive c d e h.1 k.1)

-- a configuration by its parts
by_parts : (c d : Config) → c.state ≡ d.state → c.alt ≡ d.alt → c.stack ≡ d.stack → c ≡ d
by_parts c d p i s = ap (λ (q : ℕ). config q c.alt c.stack) p ∙ ap (λ (a : ℕ). config d.state a c.stack) i
    ∙ ap (λ (z : Stack). config d.state d.alt z) s

order : (c d : Config) → Precedes c d ⊎ ((c ≡ d) ⊎ Precedes d c)
order c d = by_states (number_order c.state d.state)
  where
    by_stacks : c.state ≡ d.state → c.alt ≡ d.alt
        → StackPrecedes c.stack d.stack ⊎ ((c.stack ≡ d.stack) ⊎ StackPrecedes d.stack c.stack) → Precedes c d ⊎ ((c ≡ d) ⊎ Precedes d c)
    by_stacks p i (inl h) = inl (inr (p, inr (i, h)))
    by_stacks p i (inr (inl s)) = inr (inl (by_parts c d p i s))
    by_stacks p i (inr (inr h)) = inr (inr (inr (sym p, inr (sym i, h))))

    by_alternatives : c.state ≡ d.state → (c.alt < d.alt) ⊎ ((c.alt ≡ d.alt) ⊎ (d.alt < c.alt)) → Precedes c d ⊎ ((c ≡ d) ⊎ Precedes d c)
    by_alternatives p (inl less) = inl (inr (p, inl less))
    by_alternatives p (inr (inl i)) = by_stacks p i (stack_order c.stack d.stack)
    by_alternatives p (inr (inr less)) = inr (inr (inr (sym p, inl less)))

    by_states : (c.state < d.state) ⊎ ((c.state ≡ d.state) ⊎ (d.state < c.state)) → Precedes c d ⊎ ((c ≡ d) ⊎ Precedes d c)
    by_states (inl less) = inl (inl less)
    by_states (inr (inl p)) = by_alternatives p (number_order c.alt d.alt)
    by_states (inr (inr less)) = inr (inr (inl less))

-- lists in order

tail_rising : (c : Config) (cs : List Config) → IsRising (c ∷ cs) → IsRising cs
tail_rising c [] rising = tt
tail_rising c (d ∷ ds) rising = rising.1

-- the first precedes the rest
first_precedes : (c d : Config) (cs : List Config) → IsRising (c ∷ cs) → In d cs → Precedes c d
first_precedes c d [] rising i = absurd i
first_precedes c d (e ∷ es) rising (inl is) = subst (Precedes c) (sym is) rising.0
first_precedes c d (e ∷ es) rising (inr i) = transitive c e d rising.0 (first_precedes e d es rising.1 i)

-- and one that precedes the rest may come first
first_rising : (c : Config) (cs : List Config) → ((d : Config) → In d cs → Precedes c d) → IsRising cs → IsRising (c ∷ cs)
first_rising c [] before rising = tt
first_rising c (d ∷ ds) before rising = (before d (inl refl), rising)

-- two lists in order that have the same members begin alike
same_first : (c d : Config) (cs ds : List Config) → IsRising (c ∷ cs) → IsRising (d ∷ ds) → In c (d ∷ ds) → In d (c ∷ cs) → c ≡ d
same_first c d cs ds up up' (inl is) j = is
same_first c d cs ds up up' (inr i) (inl is) = sym is
same_first c d cs ds up up' (inr i) (inr j) =
    absurd (irreflexive c (transitive c d c (first_precedes c d cs up j) (first_precedes d c ds up' i)))

-- what comes after the first is not the first
after_first : (c d : Config) (cs ds : List Config) → IsRising (c ∷ cs) → c ≡ d → (x : Config) → In x cs → In x (d ∷ ds) → In x ds
after_first c d cs ds up same x i (inl is) = absurd (irreflexive c (subst (Precedes c) (is ∙ sym same) (first_precedes c x cs up i)))
after_first c d cs ds up same x i (inr j) = j

same_lists : (cs ds : List Config) → IsRising cs → IsRising ds → ((x : Config) → In x cs → In x ds)
    → ((x : Config) → In x ds → In x cs) → cs ≡ ds
same_lists [] [] up up' to from = refl
same_lists [] (d ∷ ds) up up' to from = absurd (from d (inl refl))
same_lists (c ∷ cs) [] up up' to from = absurd (to c (inl refl))
same_lists (c ∷ cs) (d ∷ ds) up up' to from =
    let same = same_first c d cs ds up up' (to c (inl refl)) (from d (inl refl)) in
    let rest : cs ≡ ds =
    same_lists cs ds (tail_rising c cs up) (tail_rising d ds up') (λ x i. after_first c d cs ds up same x i (to x (inr i)))
    (λ x i. after_first d c ds cs up' (sym same) x i (from x (inr i))) in
    cc

-- a set has at most one row
pub one_row : (C : Config → Type 0) (row other : List Config) → IsRow row C → IsRow other C → row ≡ other
one_row C row other is is' =
    same_lists row other is.rising is'.rising (λ x i. let k = (is'.exactly x).1 ((is.exactly x).0 (In-to row x i)) in
    In-from other x k.0 k.1 k.2) (λ x i. let k = (is.exactly x).1 ((is'.exactly x).0 (In-to other x i)) in In-from row x k.0 k.1 k.2)

-- a list in order is a row of its members
pub row_of_itself : (row : List Config) → IsRising row → IsRow row (Contains row)
row_of_itself row rising = record { rising = rising; exactly = λ d. ((λ i. i), λ i. i) }

-- a configuration in its place before d, or not at all where it is d, or in its place in the rest
placed : (c d : Config) (ds more : List Config) → Precedes c d ⊎ ((c ≡ d) ⊎ Precedes d c) → List Config
placed c d ds more (inl before) = c ∷ d ∷ ds
placed c d ds more (inr (inl same)) = d ∷ ds
placed c d ds more (inr (inr after)) = d ∷ more

-- a configuration in its place in a list in order
inserted : Config → List Config → List Config
inserted c [] = c ∷ []
inserted c (d ∷ ds) = placed c d ds (inserted c ds) (order c d)

placed_to : (c d : Config) (ds more : List Config) (o : Precedes c d ⊎ ((c ≡ d) ⊎ Precedes d c)) (x : Config)
    → (In x more → (x ≡ c) ⊎ In x ds) → In x (placed c d ds more o) → (x ≡ c) ⊎ In x (d ∷ ds)
unfolding placed
placed_to c d ds more (inl before) x rest (inl is) = inl is
placed_to c d ds more (inl before) x rest (inr i) = inr i
placed_to c d ds more (inr (inl same)) x rest i = inr i
placed_to c d ds more (inr (inr after)) x rest (inl is) = inr (inl is)
placed_to c d ds more (inr (inr after)) x rest (inr i) = elim (rest i) [ inl is ↦ inl is | inr j ↦ inr (inr j) ]

placed_from : (c d : Config) (ds more : List Config) (o : Precedes c d ⊎ ((c ≡ d) ⊎ Precedes d c)) (x : Config)
    → ((x ≡ c) ⊎ In x ds → In x more) → (x ≡ c) ⊎ In x (d ∷ ds) → In x (placed c d ds more o)
unfolding placed
placed_from c d ds more (inl before) x rest (inl is) = inl is
placed_from c d ds more (inl before) x rest (inr i) = inr i
placed_from c d ds more (inr (inl same)) x rest (inl is) = inl (is ∙ same)
placed_from c d ds more (inr (inl same)) x rest (inr i) = i
placed_from c d ds more (inr (inr after)) x rest (inl is) = inr (rest (inl is))
placed_from c d ds more (inr (inr after)) x rest (inr (inl is)) = inl is
placed_from c d ds more (inr (inr after)) x rest (inr (inr i)) = inr (rest (inr i))

inserted_to : (c : Config) (ds : List Config) (x : Config) → In x (inserted c ds) → (x ≡ c) ⊎ In x ds
unfolding inserted
inserted_to c [] x (inl is) = inl is
inserted_to c [] x (inr i) = absurd i
inserted_to c (d ∷ ds) x i = placed_to c d ds (inserted c ds) (order c d) x (inserted_to c ds x) i

inserted_from : (c : Config) (ds : List Config) (x : Config) → (x ≡ c) ⊎ In x ds → In x (inserted c ds)
unfolding inserted
inserted_from c [] x (inl is) = inl is
inserted_from c [] x (inr i) = absurd i
inserted_from c (d ∷ ds) x i = placed_from c d ds (inserted c ds) (order c d) x (inserted_from c ds x) i

placed_rising : (c d : Config) (ds more : List Config) (o : Precedes c d ⊎ ((c ≡ d) ⊎ Precedes d c)) → IsRising (d ∷ ds)
    → IsRising more → ((x : Config) → In x more → (x ≡ c) ⊎ In x ds) → IsRising (placed c d ds more o)
unfolding placed
placed_rising c d ds more (inl before) up rising to = (before, up)
placed_rising c d ds more (inr (inl same)) up rising to = up
placed_rising c d ds more (inr (inr after)) up rising to =
    first_rising d more (λ x i. elim (to x i) [ inl is ↦ subst (Precedes d) (sym is) after | inr j ↦ first_precedes d x ds up j ]) rising

inserted_rising : (c : Config) (ds : List Config) → IsRising ds → IsRising (inserted c ds)
unfolding inserted
inserted_rising c [] up = tt
inserted_rising c (d ∷ ds) up = placed_rising c d ds (inserted c ds) (order c d) up (inserted_rising c ds (tail_rising d ds up))
    (inserted_to c ds)

-- the members of a list, in order and each once
pub row_of : List Config → List Config
row_of [] = []
row_of (c ∷ cs) = inserted c (row_of cs)

row_to : (cs : List Config) (x : Config) → In x (row_of cs) → In x cs
unfolding row_of
row_to [] x i = i
row_to (c ∷ cs) x i = elim (inserted_to c (row_of cs) x i) [ inl is ↦ inl is | inr j ↦ inr (row_to cs x j) ]

row_from : (cs : List Config) (x : Config) → In x cs → In x (row_of cs)
unfolding row_of
row_from [] x i = i
row_from (c ∷ cs) x (inl is) = inserted_from c (row_of cs) x (inl is)
row_from (c ∷ cs) x (inr i) = inserted_from c (row_of cs) x (inr (row_from cs x i))

row_rising : (cs : List Config) → IsRising (row_of cs)
unfolding row_of
row_rising [] = tt
row_rising (c ∷ cs) = inserted_rising c (row_of cs) (row_rising cs)

pub row_of_is : (cs : List Config) → IsRow (row_of cs) (Contains cs)
row_of_is cs = record {
  rising = row_rising cs;
  exactly = λ d. (
    (λ i. In-to cs d (row_to cs d (In-from (row_of cs) d i.0 i.1 i.2))),
    λ i. In-to (row_of cs) d (row_from cs d (In-from cs d i.0 i.1 i.2)),
  );
}
