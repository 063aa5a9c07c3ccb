-- The groups of a row's states and alternatives, each with a node of its stacks, have the configurations of the row.
use Rattle.std.proofs.Common.{◌≡◌, ◌+◌, ◌≤◌, ◌<◌, ◌↔◌, ◌⊎◌, inl, inr, ℕ, zero, suc, List, [], ◌∷◌, ◌++◌, All, get_or, length, map, take, refl, sym, ◌∙◌, ap, subst, arith}
use Rattle.std.proofs.lemmas.List.Elements.{All-head, All-tail}
use Rattle.g4_net.specs.Configurations.{Config, IsRising, IsRow, Stack}
use Rattle.g4_net.proofs.Pigeons.{In, In-from, In-to}
use Rattle.g4_stacks.specs.Graph.{Content, IsNode}
use Rattle.g4_stacks.specs.Canonical.{IsCanonical}
use Rattle.g4_stacks.specs.Listing.{stacks_of}
use Rattle.g4_stacks.proofs.Listing.{lists_in_order}
use Rattle.g4_configs.specs.declared.group.Group.{Group}
use Rattle.g4_configs.specs.Configs.{Holds, View}
use Rattle.g4_configs.specs.Groups.{AreKnown, Entries, InSome, Within, group_of}
use Rattle.g4_configs.specs.Rows.{IsParted, PairBefore, configs_of, groups_of, row_of}
use Rattle.g4_configs.proofs.Snapshots.{in_all, in_configs, in_group, in_joined, rising_before}

-- the groups of one state and alternative more
groups_suc : (qs : List (ℕ × ℕ)) (ns : List ℕ) (k : ℕ) (d : ℕ × ℕ) (e : ℕ) → k < length qs → length qs ≤ length ns
    → groups_of (take (suc k) qs) ns ≡ groups_of (take k qs) ns ++ group_of (get_or qs k d, get_or ns k e) ∷ []
groups_suc [] ns k d e less long = absurd (omega (arith, less))
groups_suc (q ∷ qs) [] k d e less long = absurd (omega (arith, long))
groups_suc (q ∷ qs) (n ∷ ns) zero d e less long = refl
groups_suc (q ∷ qs) (n ∷ ns) (suc k) d e less long =
    ap (λ (ys : List Group). group_of (q, n) ∷ ys) (groups_suc qs ns k d e (omega (arith, less)) (omega (arith, long)))

-- the groups of the first states and alternatives, and the next one
pub one_more : (qs : List (ℕ × ℕ)) (found more : List Group) (ns : List ℕ) (k : ℕ) (d : ℕ × ℕ) (e : ℕ) → k < length qs
    → length qs ≤ length ns → found ≡ groups_of (take k qs) ns → more ≡ found ++ group_of (get_or qs k d, get_or ns k e) ∷ []
    → more ≡ groups_of (take (k + 1) qs) ns
one_more qs found more ns k d e less long before is =
    let next : groups_of (take (k + 1) qs) ns ≡ groups_of (take (suc k) qs) ns = let n : k + 1 ≡ suc k = omega arith in
    ap (λ (m : ℕ). groups_of (take m qs) ns) n in
    is ∙ (ap (λ (ys : List Group). ys ++ group_of (get_or qs k d, get_or ns k e) ∷ []) before
    ∙ sym (next ∙ groups_suc qs ns k d e less long))

-- the groups of nodes are known
pub known : (g : List Content) (qs : List (ℕ × ℕ)) (ns : List ℕ) → All (IsNode g) ns → AreKnown g (groups_of qs ns)
known g [] ns nodes = tt
known g (q ∷ qs) [] nodes = tt
known g (q ∷ qs) (n ∷ ns) nodes = (All-head (IsNode g) n ns nodes, known g qs ns (All-tail (IsNode g) n ns nodes))

-- each state and alternative of a row has a list of stacks
pub as_many : (qs : List (ℕ × ℕ)) (ls : List (List Stack)) → IsParted qs ls → length qs ≡ length ls
as_many [] [] parted = refl
as_many [] (l ∷ ls) parted = absurd parted
as_many (q ∷ qs) [] parted = absurd parted
as_many (q ∷ qs) (l ∷ ls) parted = ap suc (as_many qs ls parted.2)

-- the states and alternatives of a row are those of its configurations
row_keys : (qs : List (ℕ × ℕ)) (ls : List (List Stack)) (c : Config) → In c (row_of qs ls) → In (c.state, c.alt) qs
row_keys [] ls c i = absurd i
row_keys (q ∷ qs) [] c i = absurd i
row_keys (q ∷ qs) (l ∷ ls) c i = elim ((in_joined c (configs_of q l) (row_of qs ls)).0 i) [
  | inl h ↦ (let o = (in_configs q l c).0 h in inl (same c.state c.alt q o.state o.alt))
  | inr h ↦ inr (row_keys qs ls c h)
]
  where
    same : (p i : ℕ) (r : ℕ × ℕ) → p ≡ r.0 → i ≡ r.1 → Path (ℕ × ℕ) (p, i) (r.0, r.1)
    same p i r e f = cc

module _ (g : List Content) (canon : IsCanonical g) where
  -- the row with the stacks of nodes
  abbrev row_with : List (ℕ × ℕ) → List ℕ → List Config
  row_with qs ns = row_of qs (map (stacks_of g) ns)

  row_means : (qs : List (ℕ × ℕ)) (ns : List ℕ) (c : Config) → In c (row_with qs ns) ↔ InSome g (groups_of qs ns) c
  row_means [] ns c = ((λ h. h), (λ h. h))
  row_means (q ∷ qs) [] c = ((λ h. h), (λ h. h))
  row_means (q ∷ qs) (n ∷ ns) c =
      let joined = in_joined c (configs_of q (stacks_of g n)) (row_with qs ns) in
      let part = in_configs q (stacks_of g n) c in
      let group = in_group g canon (q, n) c in
      let rest = row_means qs ns c in (
        (λ h. elim (joined.0 h) [ inl i ↦ inl (group.0 (part.0 i)) | inr i ↦ inr (rest.0 i) ]),
        (λ o. joined.1 (elim o [ inl i ↦ inl (part.1 (group.1 i)) | inr i ↦ inr (rest.1 i) ])),
      )

  row_rises : (qs : List (ℕ × ℕ)) (ns : List ℕ) → IsParted qs (map (stacks_of g) ns) → IsRising (row_with qs ns)
  row_rises [] ns parted = tt
  row_rises (q ∷ qs) [] parted = absurd parted
  row_rises (q ∷ qs) (n ∷ ns) parted =
      rising_before q (stacks_of g n) (row_with qs ns) (lists_in_order g canon n) (row_rises qs ns parted.2)
      (λ c i. in_all (PairBefore q) qs (c.state, c.alt) parted.1 (row_keys qs (map (stacks_of g) ns) c i))

  -- a set that has the groups' configurations and no others has the row
  pub loaded : (qs : List (ℕ × ℕ)) (ns : List ℕ) (ls : List (List Stack)) (row : List Config) (v : View) (m : Entries) → m ≡ []
      → map (stacks_of g) ns ≡ ls → IsParted qs ls → row_of qs ls ≡ row
      → ((c : Config) → Holds v c ↔ (Within g m c ⊎ InSome g (groups_of qs ns) c)) → IsRow row (Holds v)
  loaded qs ns ls row v m none are parted is members =
      subst (λ (r : List Config). IsRow r (Holds v)) (ap (row_of qs) are ∙ is) (record {
        rising = row_rises qs ns (subst (IsParted qs) (sym are) parted);
        exactly = λ c.
            let means = row_means qs ns c in (
              (λ h. (members c).1 (inr (means.0 (In-from (row_with qs ns) c h.0 h.1 h.2)))),
              (λ h. In-to (row_with qs ns) c (means.1 (elim (let o : Within g m c ⊎ InSome g (groups_of qs ns) c = (members c).0 h in o) [
                | inl w ↦ absurd (let w' : Within g [] c = subst (λ (es : Entries). Within g es c) none w in w')
                | inr i ↦ i
              ]))),
            );
      })
