-- The row of a set, part by part, and that rows are equal only part by part.
use Rattle.std.proofs.Common.{◌≡◌, ◌≢◌, ◌<◌, ◌↔◌, ◌⊎◌, inl, inr, ℕ, suc, All, AllPairs, Bool, IsTrue, Option, List, [], ◌∷◌, ◌++◌, map, refl, sym, ◌∙◌, ap, subst, arith}
use Rattle.std.specs.List.{AllByRecursion, IsDistinct}
use Rattle.std.specs.List.Sorted.{IsPermutation, IsSorted, IsStrictlySortedBy}
use Rattle.std.specs.Map.{keys_of, values_of}
use Rattle.std.specs.declared.cmp.Ordering.TheVariants.{Less}
use Rattle.g4_stacks.specs.Graph.{Content, IsNode}
use Rattle.g4_stacks.specs.Canonical.{IsCanonical}
use Rattle.g4_stacks.specs.Listing.{StacksRise, stacks_of}
use Rattle.g4_stacks.specs.Table.{pair_cmp, pair_eq}
use Rattle.g4_stacks.proofs.Canonicity.{witness}
use Rattle.g4_stacks.proofs.Listing.{lists_exact, lists_in_order}
use Rattle.g4_net.specs.Configurations.{Config, IsRising, IsRow, Precedes, Stack, config}
use Rattle.g4_net.proofs.Pigeons.{In, In-from, In-to}
use Rattle.g4_configs.specs.declared.group.Group.{Group}
use Rattle.g4_configs.specs.Configs.{AreGroups, Holds, View}
use Rattle.g4_configs.specs.Groups.{AreNodes, ComesBefore, Entries, HasAt, InGroup, InSome, Within, group_of}
use Rattle.g4_configs.specs.Rows.{entry_cmp, IsFilled, IsParted, PairBefore, configs_of, row_of}
use Rattle.g4_configs.proofs.Alike.{each_all}
use Rattle.g4_configs.proofs.Keys.{same_nodes, still_distinct, strictly}
use Rattle.g4_configs.proofs.Listing.{ascends, comes_before, groups_in, groups_listed, listed_to, members_of}

key_of : Config → ℕ × ℕ
key_of c = (c.state, c.alt)

-- the row, if there is one, begins with another state or alternative
abbrev BeginsElsewhere : ℕ × ℕ → List Config → Type 0
BeginsElsewhere q [] = Unit {0}
BeginsElsewhere q (c ∷ cs) = key_of c ≢ q

begins_elsewhere : (q : ℕ × ℕ) (qs : List (ℕ × ℕ)) (ls : List (List Stack)) → AllByRecursion (PairBefore q) qs → IsParted qs ls
    → BeginsElsewhere q (row_of qs ls)
unfolding key_of
begins_elsewhere q [] ls before parted = tt
begins_elsewhere q (r ∷ qs) [] before parted = absurd parted
begins_elsewhere q (r ∷ qs) ([] ∷ ls) before parted = absurd parted.0
begins_elsewhere q (r ∷ qs) ((s ∷ m) ∷ ls) before parted = λ e. apart r before.0 e
  where
    apart : (r : ℕ × ℕ) → PairBefore q r → r ≡ q → ⊥
    apart r (inl less) e = let p : r.0 ≡ q.0 = ap (λ (k : ℕ × ℕ). k.0) e in omega arith
    apart r (inr less) e = let p : r.1 ≡ q.1 = ap (λ (k : ℕ × ℕ). k.1) e in omega (arith, less.1)

-- equal rows begin with equal lists for a state and alternative that neither rest begins with
cut : (q : ℕ × ℕ) (m n : List Stack) (rest more : List Config) → BeginsElsewhere q rest → BeginsElsewhere q more
    → configs_of q m ++ rest ≡ configs_of q n ++ more → (m ≡ n) × (rest ≡ more)
unfolding key_of
cut q [] [] rest more a b e = (refl, e)
cut q [] (s ∷ n) rest more a b e = absurd ((subst (BeginsElsewhere q) e a) refl)
cut q (s ∷ m) [] rest more a b e = absurd ((subst (BeginsElsewhere q) (sym e) b) refl)
cut q (s ∷ m) (t ∷ n) rest more a b e =
    let head : config q.0 q.1 s ≡ config q.0 q.1 t = cc in
    let tail : configs_of q m ++ rest ≡ configs_of q n ++ more = cc in
    let same = cut q m n rest more a b tail in
    let first : s ≡ t = ap (λ (c : Config). c.stack) head in
    let lists : s ∷ m ≡ t ∷ n = let r = same.0 in cc in
    (lists, same.1)

-- equal rows have equal states and alternatives, with equal stacks
pub parts_equal : (qs rs : List (ℕ × ℕ)) (ls ms : List (List Stack)) → IsParted qs ls → IsParted rs ms → row_of qs ls ≡ row_of rs ms
    → (qs ≡ rs) × (ls ≡ ms)
unfolding key_of
parts_equal [] [] [] [] a b e = (refl, refl)
parts_equal [] rs (l ∷ ls) ms a b e = absurd a
parts_equal (q ∷ qs) rs [] ms a b e = absurd a
parts_equal (q ∷ qs) rs ([] ∷ ls) ms a b e = absurd a.0
parts_equal [] [] [] (m ∷ ms) a b e = absurd b
parts_equal [] (r ∷ rs) [] [] a b e = absurd b
parts_equal [] (r ∷ rs) [] ([] ∷ ms) a b e = absurd b.0
parts_equal [] (r ∷ rs) [] ((t ∷ m) ∷ ms) a b e = absurd cc
parts_equal (q ∷ qs) [] ((s ∷ l) ∷ ls) [] a b e = absurd cc
parts_equal (q ∷ qs) [] ((s ∷ l) ∷ ls) (m ∷ ms) a b e = absurd b
parts_equal (q ∷ qs) (r ∷ rs) ((s ∷ l) ∷ ls) [] a b e = absurd b
parts_equal (q ∷ qs) (r ∷ rs) ((s ∷ l) ∷ ls) ([] ∷ ms) a b e = absurd b.0
parts_equal (q ∷ qs) (r ∷ rs) ((s ∷ l) ∷ ls) ((t ∷ m) ∷ ms) a b e =
    let head : config q.0 q.1 s ≡ config r.0 r.1 t = cc in
    let key : q ≡ r = ap (λ (c : Config). key_of c) head in
    let moved : configs_of q (s ∷ l) ++ row_of qs ls ≡ configs_of q (t ∷ m) ++ row_of rs ms =
    subst (λ (p : ℕ × ℕ). configs_of q (s ∷ l) ++ row_of qs ls ≡ configs_of p (t ∷ m) ++ row_of rs ms) (sym key) e in
    let before = subst (λ (p : ℕ × ℕ). AllByRecursion (PairBefore p) rs) (sym key) b.1 in
    let same = cut q (s ∷ l) (t ∷ m) (row_of qs ls) (row_of rs ms) (begins_elsewhere q qs ls a.1 a.2)
    (begins_elsewhere q rs ms before b.2) moved in
    let rest = parts_equal qs rs ls ms a.2 b.2 same.1 in
    let keys : q ∷ qs ≡ r ∷ rs = let k = rest.0 in cc in
    let lists : (s ∷ l) ∷ ls ≡ (t ∷ m) ∷ ms = let k = same.0 in let h = rest.1 in cc in
    (keys, lists)

-- a test of both parts is a test of the rows
pub rows_tell : (qs rs : List (ℕ × ℕ)) (ls ms : List (List Stack)) (v w : List Config) → row_of qs ls ≡ v → row_of rs ms ≡ w
    → IsParted qs ls → IsParted rs ms
    → (r : Bool) → qs ≡ rs → (IsTrue r ↔ (ls ≡ ms)) → IsTrue r ↔ (v ≡ w)
rows_tell qs rs ls ms v w at_v at_w a b r same answer = (
  (λ t. sym at_v ∙ ap (λ (ps : List (ℕ × ℕ)). row_of ps ls) same ∙ ap (row_of rs) (answer.0 t) ∙ at_w),
  (λ e. answer.1 (parts_equal qs rs ls ms a b (at_v ∙ e ∙ sym at_w)).1),
)

-- equal rows have equal states and alternatives
pub rows_apart : (qs rs : List (ℕ × ℕ)) (ls ms : List (List Stack)) (v w : List Config) → row_of qs ls ≡ v → row_of rs ms ≡ w
    → IsParted qs ls → IsParted rs ms → v ≡ w → qs ≡ rs
rows_apart qs rs ls ms v w at_v at_w a b e = (parts_equal qs rs ls ms a b (at_v ∙ e ∙ sym at_w)).0

-- members of joined lists
pub in_joined : {X : Type 0} (x : X) (xs ys : List X) → In x (xs ++ ys) ↔ (In x xs ⊎ In x ys)
in_joined x [] ys = ((λ h. inr h), (λ o. elim o [ inl h ↦ absurd h | inr h ↦ h ]))
in_joined x (z ∷ zs) ys =
    let r = in_joined x zs ys in (
      (λ h. elim h [ inl e ↦ inl (inl e) | inr i ↦ (elim (r.0 i) [ inl j ↦ inl (inr j) | inr j ↦ inr j ]) ]),
      (λ o. elim o [ inl (inl e) ↦ inl e | inl (inr i) ↦ inr (r.1 (inl i)) | inr i ↦ inr (r.1 (inr i)) ]),
    )

-- the configurations of a state and an alternative with these stacks
pub record IsOf (q : ℕ × ℕ) (stacks : List Stack) (c : Config) : Type 0 where
  pub state : c.state ≡ q.0
  pub alt : c.alt ≡ q.1
  pub stack : In c.stack stacks

pub in_configs : (q : ℕ × ℕ) (stacks : List Stack) (c : Config) → In c (configs_of q stacks) ↔ IsOf q stacks c
in_configs q [] c = ((λ h. absurd h), (λ o. absurd o.stack))
in_configs q (s ∷ more) c =
    let r = in_configs q more c in (
      (λ h. elim h [
        | inl e ↦ record {
          state = ap (λ (d : Config). d.state) e;
          alt = ap (λ (d : Config). d.alt) e;
          stack = inl (ap (λ (d : Config). d.stack) e);
        }
        | inr i ↦ (let o = r.0 i in record { state = o.state; alt = o.alt; stack = inr o.stack })
      ]),
      (λ o. elim o.stack [
        | inl e ↦ inl (by_parts q s c o.state o.alt e)
        | inr i ↦ inr (r.1 (record { state = o.state; alt = o.alt; stack = i }))
      ]),
    )
  where
    by_parts : (q : ℕ × ℕ) (s : Stack) (c : Config) → c.state ≡ q.0 → c.alt ≡ q.1 → c.stack ≡ s → c ≡ config q.0 q.1 s
    by_parts q s c p i e = ap (λ (r : ℕ). config r c.alt c.stack) p ∙ ap (λ (a : ℕ). config q.0 a c.stack) i
        ∙ ap (λ (z : Stack). config q.0 q.1 z) e

-- the lists of the nodes of some entries
abbrev pub row_at : List Content → List ((ℕ × ℕ) × ℕ) → List Config
row_at g es = row_of (keys_of es) (map (stacks_of g) (values_of es))

module _ (g : List Content) (canon : IsCanonical g) where
  -- a list of a node and of a group mean the same
  pub in_group : (e : (ℕ × ℕ) × ℕ) (c : Config) → IsOf e.0 (stacks_of g e.1) c ↔ InGroup g (group_of e) c
  in_group e c =
      let exact = lists_exact g canon e.1 c.stack in (
        (λ o. record { state = o.state; alt = o.alt; stack = exact.0 (In-to (stacks_of g e.1) c.stack o.stack) }),
        (λ i. record { state = i.state; alt = i.alt; stack = (let k = exact.1 i.stack in In-from (stacks_of g e.1) c.stack k.0 k.1 k.2) }),
      )

  in_row : (es : List ((ℕ × ℕ) × ℕ)) (c : Config) → In c (row_at g es) ↔ InSome g (map group_of es) c
  in_row [] c = ((λ h. h), (λ h. h))
  in_row (e ∷ es) c =
      let joined = in_joined c (configs_of e.0 (stacks_of g e.1)) (row_at g es) in
      let part = in_configs e.0 (stacks_of g e.1) c in
      let group = in_group e c in
      let rest = in_row es c in (
        (λ h. elim (joined.0 h) [ inl i ↦ inl (group.0 (part.0 i)) | inr i ↦ inr (rest.0 i) ]),
        (λ o. joined.1 (elim o [ inl i ↦ inl (part.1 (group.1 i)) | inr i ↦ inr (rest.1 i) ])),
      )

-- what holds of all holds of each
pub in_all : {X : Type 0} (P : X → Type 0) (xs : List X) (x : X) → AllByRecursion P xs → In x xs → P x
in_all P [] x all i = absurd i
in_all P (y ∷ ys) x all (inl e) = subst P (sym e) all.0
in_all P (y ∷ ys) x all (inr i) = in_all P ys x all.1 i

pair_before : (q r : ℕ × ℕ) → pair_cmp q r ≡ Less → PairBefore q r
pair_before q r less = comes_before (q, 0) (r, 0) less

all_before : (q : ℕ × ℕ) (rs : List (ℕ × ℕ)) → AllByRecursion (λ (r : ℕ × ℕ). pair_cmp q r ≡ Less) rs → AllByRecursion (PairBefore q) rs
all_before q [] less = tt
all_before q (r ∷ rs) less = (pair_before q r less.0, all_before q rs less.1)

-- the configurations of a list in order, before those of greater states and alternatives
pub rising_before : (q : ℕ × ℕ) (stacks : List Stack) (rest : List Config) → StacksRise stacks → IsRising rest
    → ((c : Config) → In c rest → PairBefore q (c.state, c.alt)) → IsRising (configs_of q stacks ++ rest)
rising_before q [] rest rise rising before = rising
rising_before q (s ∷ []) [] rise rising before = tt
rising_before q (s ∷ []) (d ∷ ds) rise rising before = (precede (before d (inl refl)), rising)
  where
    precede : PairBefore q (d.state, d.alt) → Precedes (config q.0 q.1 s) d
    precede (inl less) = inl less
    precede (inr less) = inr (less.0, inl less.1)
rising_before q (s ∷ t ∷ more) rest rise rising before =
    (inr (refl, inr (refl, rise.0)), rising_before q (t ∷ more) rest rise.1 rising before)

is_filled : (s : Stack) (stacks : List Stack) → In s stacks → IsFilled stacks
is_filled s [] i = absurd i
is_filled s (t ∷ more) i = tt

module _ (g : List Content) (canon : IsCanonical g) where
  row_key : (es : List ((ℕ × ℕ) × ℕ)) (c : Config) → In c (row_at g es) → In (c.state, c.alt) (keys_of es)
  row_key [] c i = i
  row_key (e ∷ es) c i = elim ((in_joined c (configs_of e.0 (stacks_of g e.1)) (row_at g es)).0 i) [
    | inl h ↦ (let o = (in_configs e.0 (stacks_of g e.1) c).0 h in inl (same c.state c.alt e.0 o.state o.alt))
    | inr h ↦ inr (row_key es c h)
  ]
    where
      same : (p i : ℕ) (q : ℕ × ℕ) → p ≡ q.0 → i ≡ q.1 → Path (ℕ × ℕ) (p, i) (q.0, q.1)
      same p i q e f = cc

  row_rises : (es : List ((ℕ × ℕ) × ℕ)) → IsStrictlySortedBy pair_cmp (keys_of es) → IsRising (row_at g es)
  unfolding IsStrictlySortedBy
  row_rises [] sorted = tt
  row_rises (e ∷ es) sorted = rising_before e.0 (stacks_of g e.1) (row_at g es) (lists_in_order g canon e.1) (row_rises es sorted.1)
      (λ c i. pair_before e.0 (c.state, c.alt) (in_all (λ (q : ℕ × ℕ). pair_cmp e.0 q ≡ Less) (keys_of es) (c.state, c.alt) sorted.0
      (row_key es c i)))

  parted_by : (es : List ((ℕ × ℕ) × ℕ)) → IsStrictlySortedBy pair_cmp (keys_of es)
      → ((e : (ℕ × ℕ) × ℕ) → In e es → IsNode g e.1 × (0 < e.1)) → IsParted (keys_of es) (map (stacks_of g) (values_of es))
  unfolding IsStrictlySortedBy
  parted_by [] sorted known = tt
  parted_by (e ∷ es) sorted known = (
    filled e.1 (known e (inl refl)),
    all_before e.0 (keys_of es) sorted.0,
    parted_by es sorted.1 (λ f i. known f (inr i)),
  )
    where
      filled : (n : ℕ) → IsNode g n × (0 < n) → IsFilled (stacks_of g n)
      filled n node =
          let w = witness g canon (suc n) n (omega arith) node.1 node.0 in
          let k = (lists_exact g canon n w.0).1 w.1 in
          is_filled w.0 (stacks_of g n) (In-from (stacks_of g n) w.0 k.0 k.1 k.2)

  -- of the entries of a map the same in order
  module _ (es m : Entries) (all : AreNodes g es) (one : IsDistinct pair_eq (keys_of es)) (moved : IsPermutation es m)
      (sorted : IsSorted entry_cmp m) where
    unique : IsDistinct pair_eq (keys_of m)
    unique = still_distinct es m moved one

    ordered : IsStrictlySortedBy pair_cmp (keys_of m)
    ordered = strictly m sorted unique

    nodes : AreNodes g m
    nodes q n is = all q n (same_nodes es m moved one q ∙ is)

    entry_known : (e : (ℕ × ℕ) × ℕ) → In e m → IsNode g e.1 × (0 < e.1)
    entry_known e i = nodes e.0 e.1 (listed_to g m nodes unique (group_of e) (groups_in m e i))

    pub parted : (qs : List (ℕ × ℕ)) (ls : List (List Stack)) → qs ≡ keys_of m → ls ≡ map (stacks_of g) (values_of m) → IsParted qs ls
    parted qs ls e f = subst (λ (rs : List (ℕ × ℕ)). IsParted rs ls) (sym e)
        (subst (IsParted (keys_of m)) (sym f) (parted_by m ordered entry_known))

    pub values_known : All (IsNode g) (values_of m)
    values_known = each_all (IsNode g) (values_of m)
        (λ n h. (let e = value_entry m n (In-from (values_of m) n h.0 h.1 h.2) in subst (IsNode g) (sym e.2) (entry_known e.0 e.1).0))
      where
        value_entry : (es : List ((ℕ × ℕ) × ℕ)) (n : ℕ) → In n (values_of es) → (e : (ℕ × ℕ) × ℕ) × In e es × (n ≡ e.1)
        value_entry [] n i = absurd i
        value_entry (e ∷ es) n (inl is) = (e, inl refl, is)
        value_entry (e ∷ es) n (inr i) = let r = value_entry es n i in (r.0, inr r.1, r.2)

    same_members : (c : Config) → Within g m c ↔ Within g es c
    same_members c =
        let same = same_nodes es m moved one (c.state, c.alt) in (
          (λ w. subst (λ (o : Option ℕ). HasAt g o c.stack.returns c.stack.wild) (sym same) w),
          (λ w. subst (λ (o : Option ℕ). HasAt g o c.stack.returns c.stack.wild) same w),
        )

    pub row_is : (v : View) (qs : List (ℕ × ℕ)) (ls : List (List Stack)) → Path View (record { graph = g; nodes = es }) v
        → qs ≡ keys_of m → ls ≡ map (stacks_of g) (values_of m) → IsRow (row_of qs ls) (Holds v)
    row_is v qs ls at e f = subst (λ (row : List Config). IsRow row (Holds v))
        (sym (ap (λ (rs : List (ℕ × ℕ)). row_of rs ls) e ∙ ap (row_of (keys_of m)) f))
        (subst (λ (u : View). IsRow (row_at g m) (Holds u)) at (record {
          rising = row_rises m ordered;
          exactly = λ c.
              let row = in_row g canon m c in
              let members = members_of g m nodes unique (map group_of m) refl c in
              let same = same_members c in (
                (λ h. same.0 (members.0 (row.0 (In-from (row_at g m) c h.0 h.1 h.2)))),
                (λ w. In-to (row_at g m) c (row.1 (members.1 (same.1 w)))),
              );
        }))

    -- the groups of the set in order
    pub groups_sorted : (v : View) (xs : List Group) → Path View (record { graph = g; nodes = es }) v → xs ≡ map group_of m
        → AreGroups v xs × AllPairs ComesBefore xs
    groups_sorted v xs at is =
        let here = groups_listed g m nodes unique (record { graph = g; nodes = m }) xs refl is in
        let there : AreGroups (record { graph = g; nodes = es }) xs = record {
          parts = here.parts;
          members = λ c.
              let a = here.members c in
              let b = same_members c in ((λ i. b.0 (a.0 i)), (λ w. a.1 (b.1 w)));
          entries = λ x.
              let a = here.entries x in
              let same = same_nodes es m moved one (x.state, x.alternative) in (
                (λ i. same ∙ a.0 i),
                (λ e. a.1 (sym same ∙ e)),
              );
          apart = here.apart;
        } in (
          subst (λ (u : View). AreGroups u xs) at there,
          subst (AllPairs ComesBefore) (sym is) (ascends m ordered),
        )
