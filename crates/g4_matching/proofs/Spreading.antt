-- What the loop of an expansion keeps.
use Rattle.std.proofs.Common.{◌≡◌, ℕ, zero, suc, ◌<◌, ◌⊎◌, inl, inr, List, [], ◌∷◌, ◌++◌, Bool, true, false, refl, sym, ◌∙◌, ap, subst, arith, append_assoc}
use Rattle.g4_ordered.specs.Network.{LexerNetwork}
use Rattle.g4_ordered.specs.Configurations.{LexerConfig, In}
use Rattle.g4_ordered.specs.Leads.{leads, Expands, nothing, each, Reaches, here, further}
use Rattle.g4_ordered.specs.Lists.{IsDropped, late_in, Appends, done, dropped, appended}
use Rattle.g4_matching.proofs.Totals.{total, each_within, size, size_more, ends_on}
use Rattle.g4_ordered.proofs.Ending.{EndsWithin}
use Rattle.g4_ordered.proofs.Lists.{In-left, In-right, In-cases}
use Rattle.g4_ordered.proofs.Members.{from_step, led}
use Rattle.g4_ordered.proofs.Steps.{lead_follows}

-- lateness lasts as the list grows, and passes to what is led to
pub record IsLasting (net : LexerNetwork) (last : Bool) (Late : List LexerConfig → LexerConfig → Type 0) : Type 0 where
  pub grows : (list : List LexerConfig) (c d : LexerConfig) → Late list d → Late (list ++ c ∷ []) d
  pub inherits : (list : List LexerConfig) (c d : LexerConfig) → Late list c → In d (leads net last c) → Late list d

-- so it is with what is late, in a step and at first
pub late_lasts : (net : LexerNetwork) (last in_step : Bool) → IsLasting net last (late_in net in_step)
late_lasts net last true = record {
  grows = λ list c d h. (h.0, (h.1.0, In-left list (c ∷ []) h.1.0 h.1.1, h.1.2, h.1.3));
  inherits = λ list c d h i. let f = lead_follows net last c d i in (f.passed h.0, (h.1.0, h.1.1, h.1.2 ∙ sym f.rule, h.1.3));
}
late_lasts net last false = record { grows = λ list c d h. absurd h; inherits = λ list c d h i. absurd h }

module _ (net : LexerNetwork) (last : Bool) where
  -- an expansion of two lists, one after the other
  pub record Split (xs ys zs : List LexerConfig) : Type 0 where
    pub front : List LexerConfig
    pub back : List LexerConfig
    pub is : zs ≡ front ++ back
    pub first : Expands net last xs front
    pub second : Expands net last ys back

  -- each of them has a part of it
  split : (xs ys zs : List LexerConfig) → Expands net last (xs ++ ys) zs → Split xs ys zs
  split [] ys zs e = record { front = []; back = zs; is = refl; first = nothing; second = e }
  split (x ∷ xs) ys zs (each _ _ us vs e f) =
      let s = split xs ys vs f in
      record {
        front = x ∷ us ++ s.front;
        back = s.back;
        is = ap (λ l. x ∷ l) (ap (λ l. us ++ l) s.is ∙ sym (append_assoc us s.front s.back));
        first = each x xs us s.front e s.first;
        second = s.second;
      }

  -- what is reached is reached by a first step, if by any
  reach_first : (c e : LexerConfig) → Reaches net last c e → (e ≡ c) ⊎ ((d : LexerConfig) × In d (leads net last c) × Reaches net last d e)
  reach_first c e here = inl refl
  reach_first c e (further f _ r i) = elim (reach_first c f r) [
    | inl is ↦ inr (e, subst (λ x. In e (leads net last x)) is i, here)
    | inr h ↦ inr (h.0, h.1, further f e h.2 i)
  ]

  -- weights of configurations; those that are good weigh more than all that they lead to in a step, which is good too
  pub record Weighs (weight : LexerConfig → ℕ) (Good : LexerConfig → Type 0) : Type 0 where
    pub more : (c : LexerConfig) → Good c → total weight (leads net last c) < weight c
    pub good : (c d : LexerConfig) → Good c → In d (leads net last c) → Good d

  -- each of these is good
  abbrev pub AllGood : (LexerConfig → Type 0) → List LexerConfig → Type 0
  AllGood Good cs = (c : LexerConfig) → In c cs → Good c

  module _ (weight : LexerConfig → ℕ) (Good : LexerConfig → Type 0) (weighs : Weighs weight Good) where
    -- what a configuration leads to is lighter
    lighter : (c d : LexerConfig) → Good c → In d (leads net last c) → weight d < weight c
    lighter c d g i = let e = each_within weight (leads net last c) d i in let h = weighs.more c g in omega arith

    -- every list of configurations has an expansion
    expansion_within : (n : ℕ) (cs : List LexerConfig) → AllGood Good cs → total weight cs < n
        → (zs : List LexerConfig) × Expands net last cs zs
    expansion_within zero cs g lt = absurd (omega arith)
    expansion_within (suc n) [] g lt = ([], nothing)
    expansion_within (suc n) (c ∷ cs) g lt =
        let w = weighs.more c (g c (inl refl)) in
        let x = expansion_within n (leads net last c) (λ d i. weighs.good c d (g c (inl refl)) i) (omega arith) in
        let y = expansion_within n cs (λ d i. g d (inr i)) (omega arith) in
        (c ∷ x.0 ++ y.0, each c cs x.0 y.0 x.1 y.1)

    -- so every list of configurations has an expansion
    pub expansion : (cs : List LexerConfig) → AllGood Good cs → (zs : List LexerConfig) × Expands net last cs zs
    expansion cs g = expansion_within (suc (total weight cs)) cs g (omega arith)

    module _ (Late : List LexerConfig → LexerConfig → Type 0) (lasting : IsLasting net last Late) where
      -- all that c leads to is dropped, or some of the first that are pending, which are lighter, leads to it
      pub record Settles (all pending : List LexerConfig) (c : LexerConfig) : Type 0 where
        pub front : List LexerConfig
        pub back : List LexerConfig
        pub is : pending ≡ front ++ back
        pub less : (d : LexerConfig) → In d front → weight d < weight c
        pub rest : (e : LexerConfig) → Reaches net last c e → IsDropped Late all e ⊎ ((d : LexerConfig) × In d front × Reaches net last d e)

      -- what is late leads to what is late
      late_on : (all : List LexerConfig) (c e : LexerConfig) → Late all c → Reaches net last c e → Late all e
      late_on all c e l here = l
      late_on all c e l (further f _ r i) = lasting.inherits all f e (late_on all c f l r) i

      -- where nothing pending is lighter, all that a listed configuration leads to is dropped
      settled_at : (all cs : List LexerConfig) (c : LexerConfig) (front back : List LexerConfig) → c ∷ cs ≡ front ++ back
          → ((d : LexerConfig) → In d front → weight d < weight c)
          → ((e : LexerConfig) → Reaches net last c e
          → IsDropped Late all e ⊎ ((d : LexerConfig) × In d front × Reaches net last d e)) → (e : LexerConfig)
          → Reaches net last c e → IsDropped Late all e
      settled_at all cs c [] back is less rest e r = elim (rest e r) [ inl h ↦ h | inr h ↦ absurd h.1 ]
      settled_at all cs c (f ∷ front) back is less rest e r = let h : weight f < weight c = less f (inl refl) in
          let same : c ≡ f = cc in let w = ap weight same in absurd (omega arith)

      -- where the first that is pending is dropped, so is all that it leads to
      dropped_on : (all cs : List LexerConfig) (c : LexerConfig) → ((x : LexerConfig) → In x all → Settles all (c ∷ cs) x)
          → IsDropped Late all c → (e : LexerConfig) → Reaches net last c e → IsDropped Late all e
      dropped_on all cs c settles (inl i) e r = let s = settles c i in settled_at all cs c s.front s.back s.is s.less s.rest e r
      dropped_on all cs c settles (inr l) e r = inr (late_on all c e l r)

      -- what is dropped appends nothing
      drop_all : (new xs ys all : List LexerConfig) → ((x : LexerConfig) → In x xs → IsDropped Late all x) → Appends Late new ys all
          → Appends Late new (xs ++ ys) all
      drop_all new [] ys all h a = a
      drop_all new (x ∷ xs) ys all h a = dropped x (xs ++ ys) all (h x (inl refl)) (drop_all new xs ys all (λ y i. h y (inr i)) a)

      -- what is dropped stays so as the list grows
      still_dropped : (all : List LexerConfig) (c e : LexerConfig) → IsDropped Late all e → IsDropped Late (all ++ c ∷ []) e
      still_dropped all c e (inl i) = inl (In-left all (c ∷ []) e i)
      still_dropped all c e (inr l) = inr (lasting.grows all c e l)

      -- one that is dropped
      passes : (all cs : List LexerConfig) (c x : LexerConfig) → ((e : LexerConfig) → Reaches net last c e → IsDropped Late all e)
          → Settles all (c ∷ cs) x → Settles all cs x
      passes all cs c x gone s = go s.front s.is s.less s.rest
        where
          go : (front : List LexerConfig) → c ∷ cs ≡ front ++ s.back → ((d : LexerConfig) → In d front → weight d < weight x)
              → ((e : LexerConfig) → Reaches net last x e
              → IsDropped Late all e ⊎ ((d : LexerConfig) × In d front × Reaches net last d e)) → Settles all cs x
          go [] is less rest = record { front = []; back = cs; is = refl; less = λ d i. absurd i; rest = rest }
          go (f ∷ front) is less rest = record {
            front = front;
            back = s.back;
            is = cc;
            less = λ d i. less d (inr i);
            rest = λ e r. elim (rest e r) [
              | inl h ↦ inl h
              | inr h ↦ elim h.1 [
                | inl same ↦ inl (gone e (subst (λ y. Reaches net last y e) (same ∙ heads) h.2))
                | inr j ↦ inr
                    (h.0, j, h.2)
              ]
            ];
          }
            where
              heads : f ≡ c
              heads = cc

      -- one that is appended
      opened : (all cs : List LexerConfig) (c x : LexerConfig) → Good c → Settles all (c ∷ cs) x
          → Settles (all ++ c ∷ []) (leads net last c ++ cs) x
      opened all cs c x g s = go s.front s.is s.less s.rest
        where
          go : (front : List LexerConfig) → c ∷ cs ≡ front ++ s.back → ((d : LexerConfig) → In d front → weight d < weight x)
              → ((e : LexerConfig) → Reaches net last x e
              → IsDropped Late all e ⊎ ((d : LexerConfig) × In d front × Reaches net last d e))
              → Settles (all ++ c ∷ []) (leads net last c ++ cs) x
          go [] is less rest = record {
            front = [];
            back = leads net last c ++ cs;
            is = refl;
            less = λ d i. absurd i;
            rest = λ e r. elim (rest e r) [ inl h ↦ inl (still_dropped all c e h) | inr h ↦ absurd h.1 ];
          }
          go (f ∷ front) is less rest = record {
            front = leads net last c ++ front;
            back = s.back;
            is = let t : cs ≡ front ++ s.back = cc in
                ap (λ l. leads net last c ++ l) t ∙ sym (append_assoc (leads net last c) front s.back);
            less = λ d i. elim (In-cases (leads net last c) front d i) [
              | inl j ↦ (let p = lighter c d g j in let q = less f (inl refl) in let w = ap weight heads in omega arith)
              | inr j ↦ less d (inr j)
            ];
            rest = λ e r. elim (rest e r) [
              | inl h ↦ inl (still_dropped all c e h)
              | inr h ↦ elim h.1 [
                | inl same ↦ elim (reach_first c e (subst (λ y. Reaches net last y e) (same ∙ heads) h.2)) [
                  | inl is' ↦ inl (inl (In-right all (c ∷ []) e (inl is')))
                  | inr k ↦ inr (k.0, In-left (leads net last c) front k.0 k.1, k.2)
                ]
                | inr j ↦ inr (h.0, In-right (leads net last c) front h.0 j, h.2)
              ]
            ];
          }
            where
              heads : f ≡ c
              heads = cc

      -- the one that is appended leads to what is put in front
      own : (all cs : List LexerConfig) (c : LexerConfig) → Good c → Settles (all ++ c ∷ []) (leads net last c ++ cs) c
      own all cs c g = record {
        front = leads net last c;
        back = cs;
        is = refl;
        less = λ d i. lighter c d g i;
        rest = λ e r. elim (reach_first c e r) [ inl is ↦ inl (inl (In-right all (c ∷ []) e (inl is))) | inr h ↦ inr h ];
      }

  -- what the loop keeps of the list so far and of what is pending
  pub record Spreading (weight : LexerConfig → ℕ) (Good : LexerConfig → Type 0) (Late : List LexerConfig → LexerConfig → Type 0)
      (starts all pending : List LexerConfig) : Type 0 where
    -- what appending the rest makes of the list, appending the whole expansion makes of the empty one
    pub goal : (new zs : List LexerConfig) → Expands net last pending zs → Appends Late new zs all
        → (us : List LexerConfig) × Expands net last starts us × Appends Late new us []
    pub settles : (weighs : Weighs weight Good) (lasting : IsLasting net last Late) (c : LexerConfig) → In c all
        → Settles weight Good weighs Late lasting all pending c
    pub good : AllGood Good pending

  module _ (weight : LexerConfig → ℕ) (Good : LexerConfig → Type 0) (Late : List LexerConfig → LexerConfig → Type 0) where
    -- before the loop
    pub begins : (starts : List LexerConfig) → AllGood Good starts → Spreading weight Good Late starts [] starts
    begins starts g = record { goal = λ new zs e a. (zs, e, a); settles = λ w l c i. absurd i; good = g }

    -- when one is dropped
    pub passes_over : (starts all cs : List LexerConfig) (c : LexerConfig) → Weighs weight Good → IsLasting net last Late
        → IsDropped Late all c → Spreading weight Good Late starts all (c ∷ cs) → Spreading weight Good Late starts all cs
    passes_over starts all cs c weighs lasting drop h = record {
      goal = λ new ys e a. let x = expansion weight Good weighs (leads net last c) (λ d i. weighs.good c d (h.good c (inl refl)) i) in
          h.goal new (c ∷ x.0 ++ ys) (each c cs x.0 ys x.1 e)
          (dropped c (x.0 ++ ys) all drop (drop_all weight Good weighs Late lasting new x.0 ys all
          (λ y i. let r = led net last (leads net last c) x.0 x.1 y i in gone y (from_step net last c r.0 y r.1 r.2)) a));
      settles = λ w l x i. passes weight Good w Late l all cs c x (dropped_on weight Good w Late l all cs c (h.settles w l) drop)
          (h.settles w l x i);
      good = λ x i. h.good x (inr i);
    }
      where
        gone : (e : LexerConfig) → Reaches net last c e → IsDropped Late all e
        gone = dropped_on weight Good weighs Late lasting all cs c (h.settles weighs lasting) drop

    -- when one is appended
    pub takes_in : (starts all cs : List LexerConfig) (c : LexerConfig) → Weighs weight Good → (IsDropped Late all c → ⊥)
        → Spreading weight Good Late starts all (c ∷ cs) → Spreading weight Good Late starts (all ++ c ∷ []) (leads net last c ++ cs)
    takes_in starts all cs c weighs new' h = record {
      goal = λ new zs e a. let s = split (leads net last c) cs zs e in
          h.goal new (c ∷ s.front ++ s.back) (each c cs s.front s.back s.first s.second)
          (appended c (s.front ++ s.back) all new' (subst (λ l. Appends Late new l (all ++ c ∷ [])) s.is a));
      settles = λ w l x i. elim (In-cases all (c ∷ []) x i) [
        | inl j ↦ opened weight Good w Late l all cs c x (h.good c (inl refl)) (h.settles w l x j)
        | inr j ↦ elim j [
          | inl is ↦ subst (Settles weight Good w Late l (all ++ c ∷ []) (leads net last c ++ cs)) (sym is)
              (own weight Good w Late l all cs c (h.good c (inl refl)))
          | inr no' ↦ absurd no'
        ]
      ];
      good = λ x i. elim (In-cases (leads net last c) cs x i)
          [ inl j ↦ weighs.good c x (h.good c (inl refl)) j | inr j ↦ h.good x (inr j) ];
    }

    -- when nothing is pending
    pub ended : (starts all : List LexerConfig) → Spreading weight Good Late starts all []
        → (us : List LexerConfig) × Expands net last starts us × Appends Late all us []
    ended starts all h = h.goal all [] nothing done

-- the size of its expansion is a configuration's weight
pub size_weighs : (net : LexerNetwork) (last : Bool) (n : ℕ) → Weighs net last (size net last n) (EndsWithin net last n)
size_weighs net last n = record { more = size_more net last n; good = ends_on net last n }
