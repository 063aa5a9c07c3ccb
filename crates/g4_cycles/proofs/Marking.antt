-- Nodes that get a distance.
use Rattle.std.proofs.Common.{◌≡◌, ◌<◌, ◌≤◌, ◌+◌, ◌⊎◌, inl, inr, ℕ, zero, suc, List, [], ◌∷◌, ◌++◌, take, Contains, Option, Some, None, IsSome, length, get_or, set, replicate, cond, refl, sym, ◌∙◌, ap, subst, arith, length-set, length-append, get_or-set_same, get_or-set_other}
use Rattle.std.specs.Option.{is_none}
use Rattle.std.proofs.lemmas.Bool.{cases_eq}
use Rattle.std.proofs.lemmas.List.Elements.{Contains-append_left, Contains-push, Contains-push_cases}
use Rattle.std.proofs.lemmas.List.Sums.{sum_by-set}
use Rattle.std.proofs.lemmas.List.{take_all, get_or-replicate, length-replicate}
use Rattle.g4_cycles.specs.Edges.{Graph, EdgeOf, successors_of}
use Rattle.g4_cycles.specs.Marks.{distance_of, IsOpen, open_count, AreMarked, LeadsTo}
use Rattle.g4_cycles.proofs.EdgesOf.{taken_cases, taken_before, taken_next}

-- an option is empty or has a value
pub option_cases : (o : Option ℕ) → (o ≡ None) ⊎ ((m : ℕ) × (o ≡ Some m))
option_cases None = inl refl
option_cases (Some m) = inr (m, refl)

pub value_of : (o : Option ℕ) → IsSome o → (m : ℕ) × (o ≡ Some m)
value_of None h = absurd (cc)
value_of (Some m) h = (m, refl)

pub is_some_of : (o : Option ℕ) (m : ℕ) → o ≡ Some m → IsSome o
is_some_of o m is = subst (λ (p : Option ℕ). IsSome p) (sym is) refl

pub none_or_some : (o : Option ℕ) (m : ℕ) → o ≡ None → o ≡ Some m → ⊥
none_or_some o m e f = cc

pub same_value : (o : Option ℕ) (m j : ℕ) → o ≡ Some m → o ≡ Some j → m ≡ j
same_value o m j e f = cc

-- a node that has a distance is one of the nodes
pub distance_within : (d : List (Option ℕ)) (k m : ℕ) → distance_of d k ≡ Some m → k < length d
distance_within [] k m is = absurd (none_or_some None m refl is)
distance_within (x ∷ d) zero m is = omega arith
distance_within (x ∷ d) (suc k) m is = let less : k < length d = distance_within d k m is in omega (arith, less)

-- a node that gets a distance is no longer open
pub opened : (d : List (Option ℕ)) (k m : ℕ) → IsOpen d k → open_count (set d k (Some m)) + 1 ≡ open_count d
opened d k m (within, none) =
    let f : Option ℕ → ℕ = λ o. cond (is_none o) 1 0 in
    let e : open_count (set d k (Some m)) + f (get_or d k None) ≡ open_count d + f (Some m) = sum_by-set f d k (Some m) None within in
    let one : f (get_or d k None) ≡ 1 = ap f none in
    let zero : f (Some m) ≡ 0 = refl in
    omega (arith, e, one, zero)

module _ (distance : ℕ) where
  -- at first none is marked
  pub marked_none : (Wanted : ℕ → Type 0) (d : List (Option ℕ)) (listed : List ℕ) → ((k : ℕ) → Wanted k → ⊥)
      → AreMarked Wanted distance d listed d listed
  marked_none Wanted d listed none = record {
    size = refl;
    kept = λ k m is. is;
    marked = λ k wanted within. absurd (none k wanted);
    fresh = λ k m is is'. absurd (none_or_some (distance_of d k) m is is');
    more = λ k has. has;
    only = λ k has. inl has;
    count = refl;
  }

  -- a node that has a distance already
  pub marked_before : (x : ℕ) (d : List (Option ℕ)) (listed : List ℕ) → (IsOpen d x → ⊥) → AreMarked (λ k. k ≡ x) distance d listed d listed
  marked_before x d listed not_open = record {
    size = refl;
    kept = λ k m is. is;
    marked = λ k is within. elim (option_cases (distance_of d k)) [
      | inl none ↦ absurd (not_open (subst (IsOpen d) is (within, none)))
      | inr some ↦ is_some_of (distance_of d k) some.0 some.1
    ];
    fresh = λ k m is is'. absurd (none_or_some (distance_of d k) m is is');
    more = λ k has. has;
    only = λ k has. inl has;
    count = refl;
  }

  -- a node that gets the distance
  pub marked_now : (x : ℕ) (d : List (Option ℕ)) (listed : List ℕ) → IsOpen d x
      → AreMarked (λ k. k ≡ x) distance d listed (set d x (Some distance)) (listed ++ x ∷ [])
  marked_now x d listed open' = record {
    size = length-set d x (Some distance);
    kept = λ k m is. elim (cases_eq k x) [
      | inl same ↦ absurd (none_or_some (distance_of d k) m (subst (λ (y : ℕ). distance_of d y ≡ None) (sym same) open'.1) is)
      | inr other ↦ at_other k other ∙ is
    ];
    marked = λ k is within. is_some_of (distance_of (set d x (Some distance)) k) distance
        (subst (λ (y : ℕ). distance_of (set d x (Some distance)) y ≡ Some distance) (sym is) at_x);
    fresh = λ k m is is'. elim (cases_eq k x) [
      | inl same ↦ (
        same_value (distance_of (set d x (Some distance)) k) m distance is'
            (subst (λ (y : ℕ). distance_of (set d x (Some distance)) y ≡ Some distance) (sym same) at_x),
        same,
        subst (Contains (listed ++ x ∷ [])) (sym same) (Contains-push listed x),
      )
      | inr other ↦ absurd (none_or_some (distance_of d k) m is (sym (at_other k other) ∙ is'))
    ];
    more = λ k has. Contains-append_left listed (x ∷ []) k has;
    only = λ k has. elim (Contains-push_cases listed x k has) [
      | inl old ↦ inl old
      | inr same ↦ inr (
        subst (λ (y : ℕ). distance_of d y ≡ None) same open'.1,
        subst (λ (y : ℕ). distance_of (set d x (Some distance)) y ≡ Some distance) same at_x,
      )
    ];
    count = let e = opened d x distance open' in omega (arith, e, length-append listed (x ∷ []));
  }
    where
      at_x : distance_of (set d x (Some distance)) x ≡ Some distance
      at_x = get_or-set_same d x (Some distance) None open'.0

      at_other : (k : ℕ) → (k ≡ x → ⊥) → distance_of (set d x (Some distance)) k ≡ distance_of d k
      at_other k other = get_or-set_other d x k (Some distance) None other

  -- some nodes, and then others
  pub marked_then : (One Two Wanted : ℕ → Type 0) (old mid new : List (Option ℕ)) (listed passed found : List ℕ)
      → ((k : ℕ) → One k → Wanted k) → ((k : ℕ) → Two k → Wanted k) → ((k : ℕ) → Wanted k → One k ⊎ Two k)
      → AreMarked One distance old listed mid passed → AreMarked Two distance mid passed new found
      → AreMarked Wanted distance old listed new found
  marked_then One Two Wanted old mid new listed passed found left right either a b = record {
    size = b.size ∙ a.size;
    kept = λ k m is. b.kept k m (a.kept k m is);
    marked = λ k wanted within. elim (either k wanted) [
      | inl one ↦ (let v = value_of (distance_of mid k) (a.marked k one within) in is_some_of (distance_of new k) v.0 (b.kept k v.0 v.1))
      | inr two ↦ b.marked k two (omega (arith, a.size, within))
    ];
    fresh = λ k m is is'. elim (option_cases (distance_of mid k)) [
      | inl none ↦ (let f = b.fresh k m none is' in (f.0, right k f.1, f.2))
      | inr some ↦ (let f = a.fresh k some.0 is some.1 in
          (same_value (distance_of new k) m some.0 is' (b.kept k some.0 some.1) ∙ f.0, left k f.1, b.more k f.2))
    ];
    more = λ k has. b.more k (a.more k has);
    only = λ k has. elim (b.only k has) [
      | inl passed' ↦ elim (a.only k passed') [ inl old' ↦ inl old' | inr now ↦ inr (now.0, b.kept k distance now.1) ]
      | inr now ↦ elim (option_cases (distance_of old k)) [
        | inl none ↦ inr (none, now.1)
        | inr some ↦ absurd (none_or_some (distance_of mid k) some.0 now.0 (a.kept k some.0 some.1))
      ]
    ];
    count = omega (arith, a.count, b.count);
  }

-- the same of other lists that are those
pub marked_as : (Wanted : ℕ → Type 0) (distance : ℕ) (old : List (Option ℕ)) (listed : List ℕ) (new new' : List (Option ℕ))
    (found found' : List ℕ) → new ≡ new' → found ≡ found' → AreMarked Wanted distance old listed new' found'
    → AreMarked Wanted distance old listed new found
marked_as Wanted distance old listed new new' found found' e f a =
    subst (λ (d : List (Option ℕ)). AreMarked Wanted distance old listed d found) (sym e)
    (subst (λ (xs : List ℕ). AreMarked Wanted distance old listed new' xs) (sym f) a)

-- one more of the nodes
pub nodes_go_on : (distance : ℕ) (old mid new : List (Option ℕ)) (listed passed found nodes : List ℕ) (i : ℕ) → i < length nodes
    → AreMarked (Contains (take i nodes)) distance old listed mid passed
    → AreMarked (λ k. k ≡ get_or nodes i 0) distance mid passed new found
    → AreMarked (Contains (take (i + 1) nodes)) distance old listed new found
nodes_go_on distance old mid new listed passed found nodes i within a b =
    marked_then distance (Contains (take i nodes)) (λ k. k ≡ get_or nodes i 0) (Contains (take (i + 1) nodes)) old mid new listed
    passed found
    (λ k has. taken_before nodes i k within has) (λ k is. taken_next nodes i k within (sym is))
    (λ k has. taken_cases nodes i (get_or nodes i 0) k within refl has) a b

-- one more node of the level
pub level_goes_on : (distance : ℕ) (old mid new : List (Option ℕ)) (listed passed found : List ℕ) (reversed : Graph) (level : List ℕ)
    (i : ℕ) (row : List ℕ) → i < length level → row ≡ successors_of reversed (get_or level i 0)
    → AreMarked (LeadsTo reversed (take i level)) distance old listed mid passed
    → AreMarked (Contains row) distance mid passed new found
    → AreMarked (LeadsTo reversed (take (i + 1) level)) distance old listed new found
level_goes_on distance old mid new listed passed found reversed level i row within is a b =
    marked_then distance (LeadsTo reversed (take i level)) (Contains row) (LeadsTo reversed (take (i + 1) level)) old mid new listed
    passed found
    (λ k (j, has, e). (j, taken_before level i j within has, e))
    (λ k has. (get_or level i 0, taken_next level i (get_or level i 0) within refl, subst (λ (xs : List ℕ). Contains xs k) is has))
    (λ k (j, has, e). elim (taken_cases level i (get_or level i 0) j within refl has) [
      | inl before ↦ inl (j, before, e)
      | inr same ↦ inr (subst (λ (xs : List ℕ). Contains xs k) (sym is) (subst (λ (y : ℕ). EdgeOf reversed y k) same e))
    ])
    a b

-- all of the level
pub level_ends : (distance : ℕ) (old new : List (Option ℕ)) (listed found : List ℕ) (reversed : Graph) (level : List ℕ) (i : ℕ)
    → length level ≤ i → AreMarked (LeadsTo reversed (take i level)) distance old listed new found
    → AreMarked (LeadsTo reversed level) distance old listed new found
level_ends distance old new listed found reversed level i past a =
    subst (λ (xs : List ℕ). AreMarked (LeadsTo reversed xs) distance old listed new found) (take_all i level past) a

-- where no node has a distance
pub none_in : (n : ℕ) (d : List (Option ℕ)) (k : ℕ) → d ≡ replicate n None → distance_of d k ≡ None
none_in n d k is = elim (option_cases (distance_of d k)) [
  | inl none ↦ none
  | inr some ↦ (
      let nothing : Option ℕ = None in
      let is' : distance_of (replicate n nothing) k ≡ Some some.0 =
      subst (λ (e : List (Option ℕ)). distance_of e k ≡ Some some.0) is some.1 in
      let less : k < length (replicate n nothing) = distance_within (replicate n nothing) k some.0 is' in
      let short : k < n = omega (arith, less, length-replicate n nothing) in
      absurd (none_or_some (distance_of (replicate n nothing) k) some.0 (get_or-replicate n k nothing nothing short) is')
      )
]
