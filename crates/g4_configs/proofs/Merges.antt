-- Groups added one after another to a map of nodes.
use Rattle.std.proofs.Common.{◌≡◌, ℕ, zero, suc, ◌+◌, ◌<◌, ◌↔◌, ◌⊎◌, inl, inr, List, [], ◌∷◌, ◌++◌, length, get_or, take, map, sym, ◌∙◌, ap, subst, arith}
use Rattle.std.proofs.Math.Seq.{take-suc}
use Rattle.std.specs.List.{IsDistinct}
use Rattle.std.specs.Map.{keys_of}
use Rattle.g4_stacks.specs.Graph.{Content, IsNode, Keeps}
use Rattle.g4_stacks.specs.Table.{pair_eq}
use Rattle.g4_net.specs.Configurations.{Config}
use Rattle.g4_configs.specs.declared.group.Group.{Group}
use Rattle.g4_configs.specs.Groups.{AreKnown, AreNodes, AreParts, Entries, InGroup, InSome, Same, Within, group_of}
use Rattle.g4_configs.proofs.Adding.{group_kept, keeps_then}
use Rattle.g4_configs.proofs.Listing.{members_of, parts_of}

-- the map has what it had and the groups
pub record IsMerging (g : List Content) (m : Entries) (xs : List Group) (h : List Content) (m' : Entries) : Type 0 where
  pub keeps : Keeps g h
  pub nodes : AreNodes h m'
  pub members : (c : Config) → Within h m' c ↔ (Within g m c ⊎ InSome g xs c)

pub merging_begins : (g : List Content) (m : Entries) → AreNodes g m → IsMerging g m [] g m
merging_begins g m nodes = record {
  keeps = λ n lt. (lt, (λ s. ((λ x. x), (λ x. x))));
  nodes = nodes;
  members = λ c. ((λ w. inl w), (λ o. elim o [ inl w ↦ w | inr i ↦ absurd i ]));
}

some_more : (g : List Content) (xs : List Group) (x : Group) (c : Config) → InSome g (xs ++ x ∷ []) c ↔ (InSome g xs c ⊎ InGroup g x c)
some_more g [] x c = ((λ i. elim i [ inl a ↦ inr a | inr a ↦ absurd a ]), (λ o. elim o [ inl a ↦ absurd a | inr a ↦ inl a ]))
some_more g (y ∷ ys) x c = (
  (λ i. elim i [ inl a ↦ inl (inl a) | inr a ↦ elim ((some_more g ys x c).0 a) [ inl b ↦ inl (inr b) | inr b ↦ inr b ] ]),
  (λ o. elim o [
    | inl a ↦ elim a [ inl b ↦ inl b | inr b ↦ inr ((some_more g ys x c).1 (inl b)) ]
    | inr a ↦ inr
        ((some_more g ys x c).1 (inr a))
  ]),
)

-- a group of the list
pub known_at : (g : List Content) (xs : List Group) (k : ℕ) (d : Group) → AreKnown g xs → k < length xs → IsNode g (get_or xs k d).stacks
known_at g [] k d known lt = absurd (omega (arith, lt))
known_at g (x ∷ xs) zero d known lt = known.0
known_at g (x ∷ xs) (suc k) d known lt = known_at g xs k d known.1 (omega (arith, lt))

take_next : (xs : List Group) (k : ℕ) (d : Group) → k < length xs → take (k + 1) xs ≡ take k xs ++ get_or xs k d ∷ []
take_next xs k d lt = let n : k + 1 ≡ suc k = omega arith in ap (λ (m : ℕ). take m xs) n ∙ take-suc xs k d lt

pub merging_goes_on : (g : List Content) (m : Entries) (xs : List Group) (k : ℕ) (d : Group) (h : List Content) (m' : Entries)
    (h' : List Content) (m'' : Entries) → k < length xs → AreKnown g xs
    → IsMerging g m (take k xs) h m' → Keeps h h' → AreNodes h' m''
    → ((c : Config) → Within h' m'' c ↔ (Within h m' c ⊎ InGroup h (get_or xs k d) c)) → IsMerging g m (take (k + 1) xs) h' m''
merging_goes_on g m xs k d h m' h' m'' lt known i kept nodes members =
    subst (λ (ys : List Group). IsMerging g m ys h' m'') (sym (take_next xs k d lt)) (record {
      keeps = keeps_then g h h' i.keeps kept;
      nodes = nodes;
      members = λ c. (
        (λ w. elim (let f : Within h m' c ⊎ InGroup h x c = (members c).0 w in f) [
          | inl a ↦ elim (let f : Within g m c ⊎ InSome g (take k xs) c = (i.members c).0 a in f)
              [ inl b ↦ inl b | inr b ↦ inr ((some_more g (take k xs) x c).1 (inl b)) ]
          | inr a ↦ inr ((some_more g (take k xs) x c).1 (inr ((group_kept g h x i.keeps in' c).1 a)))
        ]),
        (λ o. (members c).1 (elim o [
          | inl a ↦ inl ((i.members c).1 (inl a))
          | inr a ↦ elim (let f : InSome g (take k xs) c ⊎ InGroup g x c = (some_more g (take k xs) x c).0 a in f)
              [ inl b ↦ inl ((i.members c).1 (inr b)) | inr b ↦ inr ((group_kept g h x i.keeps in' c).0 b) ]
        ])),
      );
    })
  where
    x : Group
    x = get_or xs k d

    in' : IsNode g x.stacks
    in' = known_at g xs k d known lt

-- the entries of the map as groups have the configurations of the groups
pub merged_means : (g h : List Content) (m0 : Entries) (xs : List Group) (m : Entries) (found : List Group) → m0 ≡ []
    → AreNodes h m → IsDistinct pair_eq (keys_of m)
    → ((c : Config) → Within h m c ↔ (Within g m0 c ⊎ InSome g xs c)) → found ≡ map group_of m
    → Same (InSome h found) (InSome g xs)
merged_means g h m0 xs m found none nodes unique members is c = (
  (λ i. elim (let f : Within g m0 c ⊎ InSome g xs c = (members c).0 ((members_of h m nodes unique found is c).0 i) in f) [
    | inl a ↦ absurd (let b : Within g [] c = subst (λ (e : Entries). Within g e c) none a in b)
    | inr a ↦ a
  ]),
  (λ i. (members_of h m nodes unique found is c).1 ((members c).1 (inr i))),
)

pub merged_parts : (h : List Content) (m : Entries) (found : List Group) → AreNodes h m → IsDistinct pair_eq (keys_of m)
    → found ≡ map group_of m → AreParts h found
merged_parts h m found nodes unique is = parts_of h m nodes unique found is
