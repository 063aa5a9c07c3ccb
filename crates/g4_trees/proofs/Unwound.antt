-- What is known of the entries of a grown tree.
use Rattle.std.proofs.Common.{◌≡◌, ◌++◌, ◌∷◌, [], ℕ, suc, List, refl, sym, ◌∙◌, ap, append_assoc, append-nil}
use Rattle.g4_trees.specs.declared.tree.Item.{Item}
use Rattle.g4_trees.specs.declared.tree.Item.TheVariants as items
use Rattle.g4_trees.specs.Trees.{Tree, leaf, node, Forest, and_then, only, items_of, items_of_all}
use Rattle.g4_trees.specs.Kept.{Entry, kept, wrap, entries_from, AreTrees, none, a_token, a_node, AreChildren, as_they_are, after_wrap}
use Rattle.g4_trees.specs.Unwinding.{Known, known, known_before, enters, entered}
use Rattle.g4_trees.proofs.Forests.{items_and}

-- what is known with these items before the others
abbrev before_all : List Item → Known → Known
before_all xs k = record k { out = xs ++ k.out }

-- entries before others are known one after another
abbrev known_all : List Entry → Known → Known
known_all [] k = k
known_all (e ∷ es) k = known_before e (known_all es k)

known_append : (es fs : List Entry) → known (es ++ fs) ≡ known_all es (known fs)
known_append [] fs = refl
known_append (e ∷ es) fs = ap (known_before e) (known_append es fs)

all_append : (es fs : List Entry) (k : Known) → known_all (es ++ fs) k ≡ known_all es (known_all fs k)
all_append [] fs k = refl
all_append (e ∷ es) fs k = ap (known_before e) (all_append es fs k)

-- the items of children are those of the nodes that became first children, and others
record Inner (rule at : ℕ) (children : Forest) (xs : List Entry) : Type 0 where
  alts : List ℕ
  inner : List Item
  parts : items_of_all children ≡ enters rule at alts ++ inner
  known_so : (first : List ℕ) (more : List (List ℕ)) (out : List Item)
      → known_all xs (record { pending = first ∷ more; out = out }) ≡ record { pending = (first ++ alts) ∷ more; out = inner ++ out }

-- a node
node_known : (xs : List Entry) (rule alt at : ℕ) (children : Forest) (k : Known) → Inner rule at children xs
    → known_all (kept (items.Enter rule alt at) ∷ (xs ++ kept items.Exit ∷ [])) k ≡ before_all (items_of (node rule alt at children)) k
node_known xs rule alt at children k h =
    ap (known_before (kept (items.Enter rule alt at)))
    (all_append xs (kept items.Exit ∷ []) k ∙ h.known_so [] k.pending (items.Exit ∷ k.out)) ∙
    ap (λ (ys : List Item). record k { out = items.Enter rule alt at ∷ ys })
    (sym (append_assoc (enters rule at h.alts) h.inner (items.Exit ∷ k.out))
    ∙ ap (λ (ys : List Item). ys ++ items.Exit ∷ k.out) (sym h.parts)
    ∙ sym (append_assoc (items_of_all children) (items.Exit ∷ []) k.out))

mutual
  -- the entries of trees are their items
  trees_known : {es : List Entry} {ts : Forest} → AreTrees es ts → (k : Known) → known_all es k ≡ before_all (items_of_all ts) k
  trees_known none k = refl
  trees_known {ts = us} (a_token es _ ts _ at h e f) k =
      ap (λ (xs : List Entry). known_all xs k) e ∙ all_append es (kept (items.Token at) ∷ []) k
      ∙ trees_known h (record k { out = items.Token at ∷ k.out }) ∙
      ap (λ (xs : List Item). record k { out = xs })
      (sym (append_assoc (items_of_all ts) (items.Token at ∷ []) k.out)
      ∙ ap (λ (xs : List Item). xs ++ k.out) (sym (items_and ts (only (leaf at))) ∙ ap items_of_all (sym f)))
  trees_known {ts = us} (a_node es xs _ ts children _ rule alt at h inside e f) k =
      ap (λ (ys : List Entry). known_all ys k) e ∙ all_append es (kept (items.Enter rule alt at) ∷ (xs ++ kept items.Exit ∷ [])) k ∙
      ap (λ (j : Known). known_all es j) (node_known xs rule alt at children k (children_known inside))
      ∙ trees_known h (before_all (items_of (node rule alt at children)) k) ∙
      ap (λ (ys : List Item). record k { out = ys })
      (sym (append_assoc (items_of_all ts) (items_of (node rule alt at children)) k.out)
      ∙ ap (λ (ys : List Item). ys ++ k.out) (same_only ts (node rule alt at children) ∙ ap items_of_all (sym f)))
    where
      same_only : (ts : Forest) (t : Tree) → items_of_all ts ++ items_of t ≡ items_of_all (and_then ts (only t))
      same_only ts t = ap (λ (ys : List Item). items_of_all ts ++ ys) (sym (append-nil (items_of t))) ∙ sym (items_and ts (only t))

  -- children
  children_known : {rule at : ℕ} {xs : List Entry} {children : Forest} → AreChildren rule at xs children → Inner rule at children xs
  children_known {rule} {at} {xs} {children} (as_they_are _ _ _ _ h) = record {
    alts = [];
    inner = items_of_all children;
    parts = refl;
    known_so = λ first more out. trees_known h (record { pending = first ∷ more; out = out })
        ∙ ap (λ (p : List ℕ). record { pending = p ∷ more; out = items_of_all children ++ out }) (sym (append-nil first));
  }
  children_known {rule} {at} {xs = all} {children = us} (after_wrap _ alt _ xs es _ children ts _ inside h e f) =
      let i = children_known inside in
      record {
        alts = alt ∷ i.alts;
        inner = i.inner ++ (items.Exit ∷ items_of_all ts);
        parts = ap items_of_all f ∙ ap (λ (ys : List Item). items.Enter rule alt at ∷ ys)
            (ap (λ (ys : List Item). (ys ++ items.Exit ∷ []) ++ items_of_all ts) i.parts
            ∙ four (enters rule at i.alts) i.inner (items_of_all ts));
        known_so = λ first more out.
            ap (λ (ys : List Entry). known_all ys (record { pending = first ∷ more; out = out })) e
            ∙ all_append xs (wrap alt ∷ es) (record { pending = first ∷ more; out = out }) ∙
            ap (λ (j : Known). known_all xs (known_before (wrap alt) j)) (trees_known h (record { pending = first ∷ more; out = out })) ∙
            i.known_so (first ++ alt ∷ []) more (items.Exit ∷ (items_of_all ts ++ out)) ∙
            ap (λ (p : List ℕ). record { pending = p ∷ more; out = i.inner ++ (items.Exit ∷ (items_of_all ts ++ out)) })
            (append_assoc first (alt ∷ []) i.alts) ∙
            ap (λ (ys : List Item). record { pending = (first ++ (alt ∷ i.alts)) ∷ more; out = ys })
            (sym (append_assoc i.inner (items.Exit ∷ items_of_all ts) out));
      }
    where
      four : (a b c : List Item) → ((a ++ b) ++ items.Exit ∷ []) ++ c ≡ a ++ (b ++ (items.Exit ∷ c))
      four a b c = ap (λ (ys : List Item). ys ++ c) (append_assoc a b (items.Exit ∷ [])) ∙ append_assoc a (b ++ items.Exit ∷ []) c
          ∙ ap (λ (ys : List Item). a ++ ys) (append_assoc b (items.Exit ∷ []) c)

-- the items of grown trees
pub grown_items : (es : List Entry) (ts : Forest) → AreTrees es ts → (known es).out ≡ items_of_all ts
grown_items es ts h =
    let whole : known (es ++ []) ≡ before_all (items_of_all ts) (known []) = known_append es [] ∙ trees_known h (known []) in
    ap (λ (xs : List Entry). (known xs).out) (sym (append-nil es)) ∙ ap (λ (k : Known). k.out) whole ∙ append-nil (items_of_all ts)

-- what is known of items without wraps: no alternative is pending, and the items are as they are
record Plain (k : Known) (xs : List Item) : Type 0 where
  out : k.out ≡ xs
  pending : (alts : List ℕ) (before more : List (List ℕ)) → k.pending ≡ before ++ alts ∷ more → alts ≡ []

plain_enter : (rule alt at : ℕ) (xs : List Item) (k : Known) (pending : List (List ℕ)) → k.pending ≡ pending → Plain k xs
    → Plain (entered rule alt at k.out pending) (items.Enter rule alt at ∷ xs)
plain_enter rule alt at xs k [] e h = record {
  out = ap (λ (ys : List Item). items.Enter rule alt at ∷ ys) h.out;
  pending = λ alts before more f. absurd (no_place before alts more f);
}
  where
    no_place : (before : List (List ℕ)) (alts : List ℕ) (more : List (List ℕ)) → [] ≡ before ++ alts ∷ more → ⊥
    no_place [] alts more f = cc
    no_place (b ∷ bs) alts more f = cc
plain_enter rule alt at xs k (first ∷ rest) e h =
    let none : first ≡ [] = h.pending first [] rest e in
    record {
      out = ap (λ (ys : List Item). items.Enter rule alt at ∷ ys) (ap (λ (alts : List ℕ). enters rule at alts ++ k.out) none ∙ h.out);
      pending = λ alts before more f. h.pending alts (first ∷ before) more (e ∙ ap (λ (ps : List (List ℕ)). first ∷ ps) f);
    }

plain : (k : ℕ) (xs : List Item) → Plain (known (entries_from k xs [])) xs
plain k [] = record { out = refl; pending = λ alts before more f. absurd (no_place before alts more f) }
  where
    no_place : (before : List (List ℕ)) (alts : List ℕ) (more : List (List ℕ)) → [] ≡ before ++ alts ∷ more → ⊥
    no_place [] alts more f = cc
    no_place (b ∷ bs) alts more f = cc
plain k (items.Enter rule alt at ∷ xs) = plain_enter rule alt at xs (known (entries_from (suc k) xs []))
    (known (entries_from (suc k) xs [])).pending refl (plain (suc k) xs)
plain k (items.Token at ∷ xs) = let h = plain (suc k) xs in
    record { out = ap (λ (ys : List Item). items.Token at ∷ ys) h.out; pending = h.pending }
plain k (items.Exit ∷ xs) = let h = plain (suc k) xs in
    record { out = ap (λ (ys : List Item). items.Exit ∷ ys) h.out; pending = λ alts before more f. by before alts more h f }
  where
    by : (before : List (List ℕ)) (alts : List ℕ) (more : List (List ℕ)) → Plain (known (entries_from (suc k) xs [])) xs
        → [] ∷ (known (entries_from (suc k) xs [])).pending ≡ before ++ alts ∷ more → alts ≡ []
    by [] alts more h f = cc
    by (b ∷ bs) alts more h f = h.pending alts bs more (cc)

-- without wraps the items are as they are
pub no_wraps : (k : ℕ) (xs : List Item) → (known (entries_from k xs [])).out ≡ xs
no_wraps k xs = (plain k xs).out
