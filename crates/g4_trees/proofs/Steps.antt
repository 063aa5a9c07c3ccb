-- What the builder has grown after each of its steps.
use Rattle.std.proofs.Common.{◌≡◌, ◌+◌, ◌-◌, ◌<◌, ◌≤◌, ◌++◌, ◌∷◌, [], ℕ, suc, List, length, slice_set, Bool, true, false, ◌==◌, refl, sym, ◌∙◌, ap, subst, arith, length-append, append_assoc}
use Rattle.std.specs.Prelude.{slice_index_or, slice_get, Some}
use Rattle.std.proofs.lemmas.Option.{slice_get_within}
use Rattle.std.proofs.lemmas.List.{length-set}
use Rattle.g4_trees.specs.declared.tree.Item.{Item}
use Rattle.g4_trees.specs.declared.tree.Item.TheVariants as items
use Rattle.g4_trees.specs.Trees.{Forest, no_tree, leaf, only}
use Rattle.g4_trees.specs.Growing.{Growing, OpenNode, nothing_grown, with_tree, with_node, with_close, with_alternative, with_wrap, newest_of, newest_wrapped, closed}
use Rattle.g4_trees.specs.Kept.{Entry, kept, wrap, entries_from, AreOrdered, StandFor, HasGrown, none, AreTrees, AreChildren, after_wrap}
use Rattle.g4_trees.specs.declared.builder.TreeBuilder.{TreeBuilder}
use Rattle.g4_trees.specs.declared.builder.Wrap.{Wrap}
use Rattle.g4_trees.proofs.Entries.{entries_kept, entries_wrap, entries_set, ordered_below, ordered_more}
use Rattle.g4_trees.proofs.Standing.{token_stands, node_stands, close_stands}

-- one item more after wraps that are in order
item_more : (b c : TreeBuilder) (x : Item) → AreOrdered 0 b.wraps.items (length b.items.items)
    → c.items.items ≡ b.items.items ++ x ∷ [] → c.wraps.items ≡ b.wraps.items
    → AreOrdered 0 c.wraps.items (length c.items.items)
    × (entries_from 0 c.items.items c.wraps.items ≡ entries_from 0 b.items.items b.wraps.items ++ kept x ∷ [])
item_more b c x ordered items wraps =
    let longer : length b.items.items ≤ length c.items.items = omega (arith, ap length items, length-append b.items.items (x ∷ [])) in (
      subst (λ (ws : List Wrap). AreOrdered 0 ws (length c.items.items)) (sym wraps)
          (ordered_below 0 (length b.items.items) (length c.items.items) b.wraps.items longer ordered),
      ap (λ (xs : List Item). entries_from 0 xs c.wraps.items) items
          ∙ ap (λ (ws : List Wrap). entries_from 0 (b.items.items ++ x ∷ []) ws) wraps
          ∙ entries_kept 0 (length b.items.items) b.items.items x b.wraps.items ordered (omega arith),
    )

-- how many entries there are
length_entries : (k : ℕ) (xs : List Item) (ws : List Wrap) → length (entries_from k xs ws) ≡ length xs
length_entries k [] ws = refl
length_entries k (x ∷ xs) [] = ap suc (length_entries (suc k) xs [])
length_entries k (x ∷ xs) (w ∷ ws) = by_test (w.end == k) refl (length_entries (suc k) xs ws) (length_entries (suc k) xs (w ∷ ws))
  where
    by_test : (b : Bool) → (w.end == k) ≡ b → length (entries_from (suc k) xs ws) ≡ length xs
        → length (entries_from (suc k) xs (w ∷ ws)) ≡ length xs → length (entries_from k (x ∷ xs) (w ∷ ws)) ≡ length (x ∷ xs)
    by_test true t here on = rw t (ap suc here)
    by_test false t here on = rw t (ap suc on)

-- lists that end alike are alike
same_front : (xs : List ℕ) (x y : ℕ) (ys : List ℕ) → xs ++ x ∷ [] ≡ ys ++ y ∷ [] → xs ≡ ys
same_front [] x y [] e = refl
same_front [] x y (b ∷ ys) e = absurd (omega (arith, ap length e, length-append ys (y ∷ [])))
same_front (a ∷ xs) x y [] e = absurd (omega (arith, ap length e, length-append xs (x ∷ [])))
same_front (a ∷ xs) x y (b ∷ ys) e = let tail : xs ++ x ∷ [] ≡ ys ++ y ∷ [] = cc in let same : xs ≡ ys = same_front xs x y ys tail in cc

-- nothing
pub starts : (b : TreeBuilder) → b.items.items ≡ [] → b.enters.items ≡ [] → b.wraps.items ≡ [] → HasGrown b nothing_grown
starts b items enters wraps = record {
  ordered = subst (λ (ws : List Wrap). AreOrdered 0 ws (length b.items.items)) (sym wraps) tt;
  stand = (enters, subst (λ (xs : List Item). AreTrees (entries_from 0 xs b.wraps.items) no_tree) (sym items) none);
}

-- a node opens
pub opens : (b c : TreeBuilder) (rule alt at : ℕ) (g : Growing) → c.items.items ≡ b.items.items ++ items.Enter rule alt at ∷ []
    → c.enters.items ≡ b.enters.items ++ length b.items.items ∷ [] → c.wraps.items ≡ b.wraps.items → HasGrown b g
    → HasGrown c (with_node rule alt at g)
opens b c rule alt at g more entered same h =
    let i = item_more b c (items.Enter rule alt at) h.ordered more same in
    let place : length (entries_from 0 b.items.items b.wraps.items) ≡ length b.items.items = length_entries 0 b.items.items b.wraps.items in
    record {
      ordered = i.0;
      stand = rw (i.1, entered, ← place) (node_stands (entries_from 0 b.items.items b.wraps.items) b.enters.items g.nodes g.trees rule
          alt at h.stand);
    }

-- a token
pub takes : (b c : TreeBuilder) (at : ℕ) (g : Growing) → c.items.items ≡ b.items.items ++ items.Token at ∷ []
    → c.enters.items ≡ b.enters.items → c.wraps.items ≡ b.wraps.items → HasGrown b g → HasGrown c (with_tree (leaf at) g)
takes b c at g more entered same h =
    let i = item_more b c (items.Token at) h.ordered more same in
    record {
      ordered = i.0;
      stand = rw (i.1, entered)
          (token_stands (entries_from 0 b.items.items b.wraps.items) b.enters.items g at h.stand);
    }

-- the newest open node closes
pub closes : (b c : TreeBuilder) (last : ℕ) (g : Growing) → c.items.items ≡ b.items.items ++ items.Exit ∷ []
    → b.enters.items ≡ c.enters.items ++ last ∷ [] → c.wraps.items ≡ b.wraps.items → HasGrown b g → HasGrown c (with_close g)
closes b c last g more entered same h =
    let i = item_more b c items.Exit h.ordered more same in
    record {
      ordered = i.0;
      stand = rw i.1 (close_stands (entries_from 0 b.items.items b.wraps.items) b.enters.items c.enters.items
          last g.nodes g.trees h.stand entered same_front);
    }

-- the last of a list
last_of : (xs : List ℕ) (x : ℕ) → slice_get (xs ++ x ∷ []) (length (xs ++ x ∷ []) - 1) ≡ Some x
last_of xs x = let n : length (xs ++ x ∷ []) - 1 ≡ length xs = omega (arith, length-append xs (x ∷ [])) in
    ap (λ (k : ℕ). slice_get (xs ++ x ∷ []) k) n ∙ at_seam xs
  where
    at_seam : (ys : List ℕ) → slice_get (ys ++ x ∷ []) (length ys) ≡ Some x
    at_seam [] = refl
    at_seam (y ∷ ys) = at_seam ys

-- Where the newest open node begins: there is one, it begins at the last place that is listed, and its item is there, which can
-- be another.
pub record Newest (b : TreeBuilder) (g : Growing) (enter : ℕ) : Type 0 where
  pub node : OpenNode
  pub older : List OpenNode
  pub nodes : g.nodes ≡ node ∷ older
  pub before : List Entry
  pub after : List Entry
  pub more : List ℕ
  pub entries : entries_from 0 b.items.items b.wraps.items ≡ before ++ kept (items.Enter node.rule node.alt node.at) ∷ after
  pub enters : b.enters.items ≡ more ++ length before ∷ []
  pub place : enter ≡ length before
  pub inside : AreChildren node.rule node.at after node.children
  pub out : StandFor before more older g.trees
  pub within : enter < length b.items.items

pub newest : (b : TreeBuilder) (g : Growing) (enter : ℕ) → Some enter ≡ slice_get b.enters.items (length b.enters.items - 1)
    → HasGrown b g → Newest b g enter
newest b g enter last h = by g.nodes refl h.stand
  where
    by : (ns : List OpenNode) → g.nodes ≡ ns → StandFor (entries_from 0 b.items.items b.wraps.items) b.enters.items ns g.trees
        → Newest b g enter
    by [] is s =
        let none : Some enter ≡ slice_get {X = ℕ} [] (length b.enters.items - 1) =
        last ∙ ap (λ (xs : List ℕ). slice_get xs (length b.enters.items - 1)) s.0 in
        absurd (let w = slice_get_within {A = ℕ} [] (length b.enters.items - 1) enter (sym none) in omega arith)
    by (n ∷ ns) is (before, xs, more, e, at, inside, out) =
        let found : Some enter ≡ Some (length before) =
        last ∙ ap (λ (ys : List ℕ). slice_get ys (length ys - 1)) at ∙ last_of more (length before) in
        let place : enter ≡ length before = cc in
        let long : length (before ++ kept (items.Enter n.rule n.alt n.at) ∷ xs) ≡ length b.items.items =
        ap length (sym e) ∙ length_entries 0 b.items.items b.wraps.items in
        record {
          node = n;
          older = ns;
          nodes = is;
          before = before;
          after = xs;
          more = more;
          entries = e;
          enters = at;
          place = place;
          inside = inside;
          out = out;
          within = omega (arith, long, length-append before (kept (items.Enter n.rule n.alt n.at) ∷ xs));
        }

-- its item
pub newest_item : (b : TreeBuilder) (g : Growing) (enter : ℕ) (x : Item)
    → Some enter ≡ slice_get b.enters.items (length b.enters.items - 1) → HasGrown b g → x ≡ slice_index_or b.items.items enter x
    → (rule alt at : ℕ) × (x ≡ items.Enter rule alt at)
newest_item b g enter x last h read =
    let n = newest b g enter last h in
    let found = entries_set 0 b.items.items b.wraps.items n.before n.after (items.Enter n.node.rule n.node.alt n.node.at) x x n.entries in
    (n.node.rule, n.node.alt, n.node.at, read ∙ ap (λ (k : ℕ). slice_index_or b.items.items k x) n.place ∙ found.0)

-- the newest open node has another alternative
pub alters : (b c : TreeBuilder) (enter rule alt at alternative : ℕ) (x : Item) (g : Growing)
    → Some enter ≡ slice_get b.enters.items (length b.enters.items - 1) → x ≡ slice_index_or b.items.items enter x
    → x ≡ items.Enter rule alt at → c.items.items ≡ slice_set b.items.items enter (items.Enter rule alternative at)
    → c.enters.items ≡ b.enters.items → c.wraps.items ≡ b.wraps.items → HasGrown b g → HasGrown c (with_alternative alternative g)
alters b c enter rule alt at alternative x g last read is more entered same h =
    let n = newest b g enter last h in
    let set = entries_set 0 b.items.items b.wraps.items n.before n.after (items.Enter n.node.rule n.node.alt n.node.at)
    (items.Enter rule alternative at) x n.entries in
    let found : items.Enter rule alt at ≡ items.Enter n.node.rule n.node.alt n.node.at =
    sym is ∙ read ∙ ap (λ (k : ℕ). slice_index_or b.items.items k x) n.place ∙ set.0 in
    let one : rule ≡ n.node.rule = cc in
    let two : at ≡ n.node.at = cc in
    let entries : entries_from 0 c.items.items c.wraps.items ≡ n.before ++ kept (items.Enter n.node.rule alternative n.node.at) ∷ n.after =
    ap (λ (xs : List Item). entries_from 0 xs c.wraps.items) more
    ∙ ap (λ (ws : List Wrap). entries_from 0 (slice_set b.items.items enter (items.Enter rule alternative at)) ws) same ∙
    ap (λ (k : ℕ). entries_from 0 (slice_set b.items.items k (items.Enter rule alternative at)) b.wraps.items) n.place ∙ set.1
    ∙ ap (λ (r : ℕ). n.before ++ kept (items.Enter r alternative at) ∷ n.after) one
    ∙ ap (λ (a : ℕ). n.before ++ kept (items.Enter n.node.rule alternative a) ∷ n.after) two in
    let long : length c.items.items ≡ length b.items.items =
    ap length more ∙ length-set b.items.items enter (items.Enter rule alternative at) in
    record {
      ordered = subst (λ (k : ℕ). AreOrdered 0 c.wraps.items k) (sym long)
          (subst (λ (ws : List Wrap). AreOrdered 0 ws (length b.items.items)) (sym same) h.ordered);
      stand = subst (λ (ns : List OpenNode). StandFor (entries_from 0 c.items.items c.wraps.items) c.enters.items
          (newest_of alternative ns) g.trees) (sym n.nodes) (n.before, n.after, n.more, entries, entered ∙ n.enters, n.inside, n.out);
    }

-- the newest open node becomes the first child of a new one
pub wraps : (b c : TreeBuilder) (enter rule alt at alternative : ℕ) (x : Item) (g : Growing)
    → Some enter ≡ slice_get b.enters.items (length b.enters.items - 1) → x ≡ slice_index_or b.items.items enter x
    → x ≡ items.Enter rule alt at → c.items.items
    ≡ slice_set (b.items.items ++ items.Exit ∷ []) enter (items.Enter rule alternative at) → c.enters.items ≡ b.enters.items
    → c.wraps.items ≡ b.wraps.items ++ record { end = length b.items.items; alt = alt } ∷ [] → HasGrown b g
    → HasGrown c (with_wrap alternative g)
wraps b c enter rule alt at alternative x g last read is more entered same h =
    let w : Wrap = record { end = length b.items.items; alt = alt } in
    let n = newest b g enter last h in
    let old = entries_set 0 b.items.items b.wraps.items n.before n.after (items.Enter n.node.rule n.node.alt n.node.at) x x n.entries in
    let found : items.Enter rule alt at ≡ items.Enter n.node.rule n.node.alt n.node.at =
    sym is ∙ read ∙ ap (λ (k : ℕ). slice_index_or b.items.items k x) n.place ∙ old.0 in
    let one : rule ≡ n.node.rule = cc in
    let two : at ≡ n.node.at = cc in
    let three : alt ≡ n.node.alt = cc in
    let longer : entries_from 0 (b.items.items ++ items.Exit ∷ []) (b.wraps.items ++ w ∷ [])
    ≡ n.before ++ kept (items.Enter n.node.rule n.node.alt n.node.at) ∷ (n.after ++ wrap alt ∷ []) =
    entries_wrap 0 (length b.items.items) b.items.items items.Exit b.wraps.items w h.ordered (omega arith) refl
    ∙ ap (λ (es : List Entry). es ++ wrap alt ∷ []) n.entries
    ∙ append_assoc n.before (kept (items.Enter n.node.rule n.node.alt n.node.at) ∷ n.after) (wrap alt ∷ []) in
    let set = entries_set 0 (b.items.items ++ items.Exit ∷ []) (b.wraps.items ++ w ∷ []) n.before (n.after ++ wrap alt ∷ [])
    (items.Enter n.node.rule n.node.alt n.node.at) (items.Enter rule alternative at) x longer in
    let entries : entries_from 0 c.items.items c.wraps.items
    ≡ n.before ++ kept (items.Enter n.node.rule alternative n.node.at) ∷ (n.after ++ wrap alt ∷ []) =
    ap (λ (xs : List Item). entries_from 0 xs c.wraps.items) more
    ∙ ap (λ (ws : List Wrap). entries_from 0 (slice_set (b.items.items ++ items.Exit ∷ []) enter
    (items.Enter rule alternative at)) ws) same ∙
    ap (λ (k : ℕ). entries_from 0 (slice_set (b.items.items ++ items.Exit ∷ []) k (items.Enter rule alternative at))
    (b.wraps.items ++ w ∷ [])) n.place ∙ set.1 ∙
    ap (λ (r : ℕ). n.before ++ kept (items.Enter r alternative at) ∷ (n.after ++ wrap alt ∷ [])) one
    ∙ ap (λ (a : ℕ). n.before ++ kept (items.Enter n.node.rule alternative a) ∷ (n.after ++ wrap alt ∷ [])) two in
    let long : length c.items.items ≡ length b.items.items + 1 =
    omega (
      arith,
      ap length more,
      length-set (b.items.items ++ items.Exit ∷ []) enter (items.Enter rule alternative at),
      length-append b.items.items (items.Exit ∷ []),
    ) in
    record {
      ordered = subst (λ (ws : List Wrap). AreOrdered 0 ws (length c.items.items)) (sym same)
          (ordered_more 0 (length b.items.items) (length c.items.items) b.wraps.items w h.ordered (omega arith) (omega arith)
          (omega (arith, long)));
      stand = subst (λ (ns : List OpenNode). StandFor (entries_from 0 c.items.items c.wraps.items) c.enters.items
          (newest_wrapped alternative ns) g.trees) (sym n.nodes) (
            n.before,
            n.after ++ wrap alt ∷ [],
            n.more,
            entries,
            entered ∙ n.enters,
            after_wrap n.node.rule n.node.alt n.node.at n.after [] (n.after ++ wrap alt ∷ []) n.node.children no_tree
                (only (closed n.node)) n.inside none (ap (λ (a : ℕ). n.after ++ wrap a ∷ []) three) refl,
            n.out,
          );
    }

-- what has grown where no node is open
pub all_grown : (b : TreeBuilder) (trees : Forest) → HasGrown b (record { nodes = []; trees = trees })
    → AreTrees (entries_from 0 b.items.items b.wraps.items) trees
all_grown b trees h = h.stand.1

-- no wraps
pub none_of : (ws : List Wrap) → length ws ≡ 0 → ws ≡ []
none_of [] e = refl
none_of (w ∷ ws) e = absurd (omega (arith, e))
