-- What full stacks say of a finite set can be decided.
use Rattle.std.proofs.Common.{◌≡◌, ◌≢◌, ◌⊎◌, inl, inr, ℕ, ◌≤◌, List, [], ◌∷◌, refl, sym, ◌∙◌, ap, subst, arith}
use Rattle.std.proofs.Math.Decide.{ℕ_discrete}
use Rattle.g4_net.specs.Configurations.{Stack, Config, config}
use Rattle.g4_net.specs.Lookahead.{HaveSameStacks, IsEmpty, IsOnly, Alike}
use Rattle.g4_net.specs.Prediction.{Choice, chosen, no_viable, Settles}
use Rattle.g4_net.specs.Prediction as prediction
use Rattle.g4_net.proofs.Pigeons.{In}
use Rattle.g4_lookahead.specs.EndOfList.{GoesOnFull}
use Rattle.g4_lookahead.proofs.Listed.{IsFinite, all_or_one, has_decided}

-- the configuration with the least alternative of a list
least_of : (c : Config) (cs : List Config) → (d : Config) × In d (c ∷ cs) × ((x : Config) → In x (c ∷ cs) → d.alt ≤ x.alt)
least_of c [] = (c, inl refl, λ x i. elim i [ inl is ↦ (let e = ap (λ (y : Config). y.alt) is in omega (arith, e)) | inr j ↦ absurd j ])
least_of c (d ∷ ds) = by (least_of d ds)
  where
    by : (e : Config) × In e (d ∷ ds) × ((x : Config) → In x (d ∷ ds) → e.alt ≤ x.alt)
        → (e : Config) × In e (c ∷ d ∷ ds) × ((x : Config) → In x (c ∷ d ∷ ds) → e.alt ≤ x.alt)
    by (e, i, least) = elim (let split : (e.alt ≤ c.alt) ⊎ (c.alt ≤ e.alt) = grind arith in split) [
      | inl low ↦ (
        e,
        inr i,
        λ x j. elim j [
          | inl is ↦ (let s = ap (λ (y : Config). y.alt) is in omega (arith, low, s))
          | inr k ↦ least
              x k
        ],
      )
      | inr high ↦ (
        c,
        inl refl,
        λ x j. elim j [
          | inl is ↦ (let s = ap (λ (y : Config). y.alt) is in omega (arith, s))
          | inr k ↦
              (let less = least x k in omega (arith, less, high))
        ],
      )
    ]

module _ (D : Config → Type 0) (f : IsFinite D) where
  -- where the configuration is at the state for the one alternative, it is there for the other
  abbrev Follows : ℕ → ℕ → ℕ → Config → Type 0
  Follows p i j x = (x.state ≡ p) × (x.alt ≡ i) → D (config p j x.stack)

  -- this can be decided
  follows_decided : (p i j : ℕ) (x : Config) → Dec (Follows p i j x)
  follows_decided p i j x = by (ℕ_discrete x.state p) (ℕ_discrete x.alt i) (has_decided D f (config p j x.stack))
    where
      by : Dec (x.state ≡ p) → Dec (x.alt ≡ i) → Dec (D (config p j x.stack)) → Dec (Follows p i j x)
      by s a (yes h) = yes (λ is. h)
      by (yes s) (yes a) (no n) = no (λ g. n (g (s, a)))
      by (no n) a (no m) = yes (λ is. absurd (n is.0))
      by (yes s) (no n) (no m) = yes (λ is. absurd (n is.1))

  -- so it can that each stack of the one alternative is one of the other
  subset_decided : (p i j : ℕ) → Dec ((s : Stack) → D (config p i s) → D (config p j s))
  subset_decided p i j = by (all_or_one f.members (Follows p i j) (follows_decided p i j))
    where
      by : ((x : Config) → In x f.members → Follows p i j x) ⊎ ((x : Config) × In x f.members × (Follows p i j x → ⊥))
          → Dec ((s : Stack) → D (config p i s) → D (config p j s))
      by (inl all) = yes (λ s h. all (config p i s) (f.complete (config p i s) h) (refl, refl))
      by (inr (x, i', fails)) = no (λ g. fails (λ is.
          g x.stack (subst D (ap (λ (q : ℕ). config q x.alt x.stack) is.0 ∙ ap (λ (a : ℕ). config p a x.stack) is.1) (f.sound x i'))))

  -- and that both have the same
  stacks_decided : (p i j : ℕ) → Dec (HaveSameStacks D p i j)
  stacks_decided p i j = by (subset_decided p i j) (subset_decided p j i)
    where
      by : Dec ((s : Stack) → D (config p i s) → D (config p j s)) → Dec ((s : Stack) → D (config p j s) → D (config p i s))
          → Dec (HaveSameStacks D p i j)
      by (yes g) (yes h) = yes (λ s. (g s, h s))
      by (no n) m = no (λ h. n (λ s x. (h s).0 x))
      by (yes g) (no n) = no (λ h. n (λ s x. (h s).1 x))

  -- two configurations have the same stacks at the state of each
  abbrev SameAlong : Config → Config → Type 0
  SameAlong c d = (e : Config) → In e f.members → HaveSameStacks D e.state c.alt d.alt

  -- this can be decided
  along_decided : (c d : Config) → Dec (SameAlong c d)
  along_decided c d = by (all_or_one f.members (λ e. HaveSameStacks D e.state c.alt d.alt) (λ e. stacks_decided e.state c.alt d.alt))
    where
      by : SameAlong c d ⊎ ((e : Config) × In e f.members × (HaveSameStacks D e.state c.alt d.alt → ⊥)) → Dec (SameAlong c d)
      by (inl all) = yes all
      by (inr (e, i, fails)) = no (λ g. fails (g e i))

  -- the configuration has the same stacks as all
  abbrev SameAsAll : Config → Type 0
  SameAsAll c = (d : Config) → In d f.members → SameAlong c d

  -- this can be decided
  all_decided : (c : Config) → Dec (SameAsAll c)
  all_decided c = by (all_or_one f.members (SameAlong c) (along_decided c))
    where
      by : SameAsAll c ⊎ ((d : Config) × In d f.members × (SameAlong c d → ⊥)) → Dec (SameAsAll c)
      by (inl all) = yes all
      by (inr (d, i, fails)) = no (λ g. fails (g d i))

  -- a set with two alternatives is alike or not
  alike_decided : (c d : Config) → D c → D d → c.alt ≢ d.alt → Dec (Alike D)
  alike_decided c d in_c in_d differ = by (all_or_one f.members SameAsAll all_decided)
    where
      by : ((x : Config) → In x f.members → SameAsAll x) ⊎ ((x : Config) × In x f.members × (SameAsAll x → ⊥)) → Dec (Alike D)
      by (inl all) = yes (record {
        several = (c, d, in_c, in_d, differ);
        same = λ x y e in_x in_y in_e. all x (f.complete x in_x) y (f.complete y in_y) e (f.complete e in_e);
      })
      by (inr (x, i, fails)) = no (λ h. fails (λ y j e k. h.same x y e (f.sound x i) (f.sound y j) (f.sound e k)))

  -- some configuration has the least alternative, or there is none
  least_or_none : IsEmpty D ⊎ ((c : Config) × D c × ((x : Config) → D x → c.alt ≤ x.alt))
  least_or_none = by f.members f.sound f.complete
    where
      by : (xs : List Config) → ((c : Config) → In c xs → D c) → ((c : Config) → D c → In c xs)
          → IsEmpty D ⊎ ((c : Config) × D c × ((x : Config) → D x → c.alt ≤ x.alt))
      by [] sound complete = inl complete
      by (c ∷ cs) sound complete = let l = least_of c cs in inr (l.0, sound l.0 l.1, λ x h. l.2 x (complete x h))

  -- full stacks settle a finite set, or go on
  pub settles : (k : ℕ) (Later : Choice → Type 0) → (GoesOnFull D → (c : Choice) × Later c) → (c : Choice) × Settles D k Later c
  settles k Later later = elim least_or_none [
    | inl none_is ↦ (no_viable k, prediction.none_left none_is)
    | inr (c, in_c, least) ↦ one_or_more c in_c least (all_or_one f.members (λ d. d.alt ≡ c.alt) (λ d. ℕ_discrete d.alt c.alt))
  ]
    where
      alike_or_not : (c d : Config) → D c → ((x : Config) → D x → c.alt ≤ x.alt) → D d → d.alt ≢ c.alt → Dec (Alike D)
          → (c : Choice) × Settles D k Later c
      alike_or_not c d in_c least in_d differ (yes alike) =
          (chosen c.alt, prediction.least c.alt alike (record { some = (c, in_c, refl); least = least }))
      alike_or_not c d in_c least in_d differ (no unlike) =
          let some : IsEmpty D → ⊥ = λ e. e c in_c in
          let several : (i : ℕ) → IsOnly D i → ⊥ = λ i o. differ (o.all d in_d ∙ sym (o.all c in_c)) in
          let r = later (record { some = some; several = several; unlike = unlike }) in
          (r.0, prediction.goes_on r.0 some several unlike r.1)

      one_or_more : (c : Config) → D c → ((x : Config) → D x → c.alt ≤ x.alt)
          → ((d : Config) → In d f.members → d.alt ≡ c.alt) ⊎ ((d : Config) × In d f.members × (d.alt ≡ c.alt → ⊥))
          → (c : Choice) × Settles D k Later c
      one_or_more c in_c least (inl all) = (
        chosen c.alt,
        prediction.one_left c.alt (record { some = (c, in_c); all = λ d h. all d (f.complete d h) }),
      )
      one_or_more c in_c least (inr (d, i, differ)) =
          alike_or_not c d in_c least (f.sound d i) differ (alike_decided c d in_c (f.sound d i) (λ e. differ (sym e)))
