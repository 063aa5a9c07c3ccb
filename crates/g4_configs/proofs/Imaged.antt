-- The groups of a set in a graph of their own, and with return states below their stacks.
use Rattle.std.proofs.Common.{◌≡◌, ◌+◌, ◌≤◌, ◌<◌, ◌↔◌, inl, inr, ℕ, zero, suc, List, [], ◌∷◌, ◌++◌, Some, All, get_or, length, map, slice_get, slice_index, take, refl, sym, ◌∙◌, ap, subst, arith}
use Rattle.std.proofs.lemmas.Option.{slice_get-get_or}
use Rattle.std.proofs.lemmas.List.Elements.{All-cons}
use Rattle.g4_net.specs.Configurations.{Config, Stack, config, above_bottom}
use Rattle.g4_stacks.specs.Graph.{Content, Has, IsNode, Keeps}
use Rattle.g4_stacks.specs.Lowering.{AreLowered, stacked}
use Rattle.g4_stacks.specs.Taking.{EachAlike}
use Rattle.g4_configs.specs.declared.group.Group.{Group}
use Rattle.g4_configs.specs.Configs.{AreGroups, View}
use Rattle.g4_configs.specs.Groups.{AreKnown, InGroup, InSome}
use Rattle.g4_configs.specs.Lowering.{HasImage, IsLoweredOf, imaged, with_stacks}
use Rattle.g4_configs.proofs.Adding.{group_kept}
use Rattle.g4_net.proofs.Pigeons.{In, In-to}

-- the numbers of groups that are all known
known_from : (g : List Content) (xs : List Group) → ((x : Group) → In x xs → IsNode g x.stacks) → AreKnown g xs
known_from g [] h = tt
known_from g (x ∷ xs) h = (h x (inl refl), known_from g xs (λ y i. h y (inr i)))

pub groups_known : (v : View) (xs : List Group) → AreGroups v xs → AreKnown v.graph xs
groups_known v xs are = known_from v.graph xs (λ x i. are.parts.known x (In-to xs x i))

-- the sets of stacks of groups are nodes
pub roots_known : (g : List Content) (xs : List Group) → AreKnown g xs → All (IsNode g) (map (λ (x : Group). x.stacks) xs)
roots_known g [] known = λ k d less. absurd (omega (arith, less))
roots_known g (x ∷ xs) known = All-cons (IsNode g) x.stacks (map (λ (y : Group). y.stacks) xs) known.0 (roots_known g xs known.1)

-- as many nodes as groups
pub as_many : (g h : List Content) (xs : List Group) (nodes : List ℕ) → EachAlike g (map (λ (x : Group). x.stacks) xs) h nodes
    → length xs ≤ length nodes
as_many g h [] nodes alike = omega arith
as_many g h (x ∷ xs) [] alike = absurd alike
as_many g h (x ∷ xs) (n ∷ nodes) alike = let rest = as_many g h xs nodes alike.2 in omega (arith, rest)

-- one group more with another set of stacks
with_suc : (xs : List Group) (nodes : List ℕ) (k : ℕ) (d : Group) (e : ℕ) → k < length xs → length xs ≤ length nodes
    → with_stacks (take (suc k) xs) nodes ≡ with_stacks (take k xs) nodes
    ++ record { state = (get_or xs k d).state; alternative = (get_or xs k d).alternative; stacks = get_or nodes k e } ∷ []
with_suc [] nodes k d e less long = absurd (omega (arith, less))
with_suc (x ∷ xs) [] k d e less long = absurd (omega (arith, long))
with_suc (x ∷ xs) (n ∷ nodes) zero d e less long = refl
with_suc (x ∷ xs) (n ∷ nodes) (suc k) d e less long =
    let first : Group = record { state = x.state; alternative = x.alternative; stacks = n } in
    ap (λ (ys : List Group). first ∷ ys) (with_suc xs nodes k d e (omega (arith, less)) (omega (arith, long)))

pub with_more : (xs found more : List Group) (nodes : List ℕ) (k : ℕ) (d : Group) (e : ℕ) → k < length xs → length xs ≤ length nodes
    → found ≡ with_stacks (take k xs) nodes → more
    ≡ found ++ record { state = (get_or xs k d).state; alternative = (get_or xs k d).alternative; stacks = get_or nodes k e } ∷ []
    → more ≡ with_stacks (take (k + 1) xs) nodes
with_more xs found more nodes k d e less long before is =
    let next : with_stacks (take (k + 1) xs) nodes ≡ with_stacks (take (suc k) xs) nodes = let n : k + 1 ≡ suc k = omega arith in
    ap (λ (m : ℕ). with_stacks (take m xs) nodes) n in
    is ∙ (ap (λ (ys : List Group). ys ++ record
    { state = (get_or xs k d).state; alternative = (get_or xs k d).alternative; stacks = get_or nodes k e } ∷ []) before
    ∙ sym (next ∙ with_suc xs nodes k d e less long))

-- with nodes of the same stacks in turn
pub with_known : (g h : List Content) (xs : List Group) (nodes : List ℕ) → EachAlike g (map (λ (x : Group). x.stacks) xs) h nodes
    → AreKnown h (with_stacks xs nodes)
with_known g h [] nodes alike = tt
with_known g h (x ∷ xs) [] alike = tt
with_known g h (x ∷ xs) (n ∷ nodes) alike = (alike.0, with_known g h xs nodes alike.2)

-- groups have the same members
pub with_means : (g h : List Content) (xs : List Group) (nodes : List ℕ) → EachAlike g (map (λ (x : Group). x.stacks) xs) h nodes
    → (c : Config) → InSome h (with_stacks xs nodes) c ↔ InSome g xs c
with_means g h [] nodes alike c = ((λ i. i), (λ i. i))
with_means g h (x ∷ xs) [] alike c = absurd alike
with_means g h (x ∷ xs) (n ∷ nodes) alike c =
    let rest = with_means g h xs nodes alike.2 c in (
      (λ i. elim i [ inl j ↦ inl (record { state = j.state; alt = j.alt; stack = (alike.1 c.stack).1 j.stack }) | inr j ↦ inr (rest.0 j) ]),
      (λ i. elim i [ inl j ↦ inl (record { state = j.state; alt = j.alt; stack = (alike.1 c.stack).0 j.stack }) | inr j ↦ inr (rest.1 j) ]),
    )

-- groups that are known each have an image
pub all_imaged : (g : List Content) (xs : List Group) (images : List ℕ) → AreKnown g xs → length images ≡ length g
    → All (HasImage images) xs
all_imaged g [] images known long = λ k d less. absurd (omega (arith, less))
all_imaged g (x ∷ xs) images known long = let node = known.0 in
    All-cons (HasImage images) x xs (omega (arith, node, long)) (all_imaged g xs images known.1 long)

module _ (g new : List Content) (under : ℕ) (below : List ℕ) (in_g : IsNode g under)
    (is_under : (s : Stack) → Has g under s ↔ (s ≡ above_bottom below)) (images : List ℕ) (are : AreLowered new under images)
    (keeps : Keeps g new) (all : length images ≡ length g) where
  -- the image of a group is known
  image_at : (n : ℕ) → IsNode g n → slice_get images n ≡ Some (slice_index images n)
  image_at n known = slice_get-get_or images n 0 (omega (arith, known, all))

  pub images_known : (xs : List Group) → AreKnown g xs → AreKnown new (map (imaged images) xs)
  images_known [] known = tt
  images_known (x ∷ xs) known = ((are x.stacks (slice_index images x.stacks) (image_at x.stacks known.0)).1, images_known xs known.1)

  -- a stack in the place of the bottom
  is_below : (z : Stack) → Has new under z ↔ (z ≡ above_bottom below)
  is_below z = ((λ h. (is_under z).0 (((keeps under in_g).1 z).1 h)), (λ e. ((keeps under in_g).1 z).0 ((is_under z).1 e)))

  group_means : (x : Group) (c : Config) → IsNode g x.stacks → InGroup new (imaged images x) c ↔ IsLoweredOf (InGroup g x) below c
  group_means x c known =
      let (in_n, in_r, means) = are x.stacks (slice_index images x.stacks) (image_at x.stacks known) in (
        (λ h. let (rs, z, above, in_z, is) = (means c.stack).0 h.stack in (
          rs,
          record { state = h.state; alt = h.alt; stack = ((keeps x.stacks known).1 (above_bottom rs)).1 above },
          is ∙ ap (stacked rs) ((is_below z).0 in_z),
        )),
        (λ (rs, h, is). record {
          state = h.state;
          alt = h.alt;
          stack = (means c.stack).1 (
            rs,
            above_bottom below,
            ((keeps x.stacks known).1 (above_bottom rs)).0 h.stack,
            (is_below (above_bottom below)).1 refl,
            is,
          );
        }),
      )

  pub some_means : (xs : List Group) (c : Config) → AreKnown g xs
      → InSome new (map (imaged images) xs) c ↔ IsLoweredOf (InSome g xs) below c
  some_means [] c known = ((λ h. absurd h), (λ h. absurd h.1))
  some_means (x ∷ xs) c known =
      let one = group_means x c known.0 in
      let rest = some_means xs c known.1 in (
        (λ h. elim h [ inl a ↦ (let r = one.0 a in (r.0, inl r.1, r.2)) | inr b ↦ (let r = rest.0 b in (r.0, inr r.1, r.2)) ]),
        (λ (rs, h, is). elim h [ inl a ↦ inl (one.1 (rs, a, is)) | inr b ↦ inr (rest.1 (rs, b, is)) ]),
      )

-- of the same members
pub lowered_same : (C D : Config → Type 0) (below : List ℕ) → ((c : Config) → C c ↔ D c) → (c : Config)
    → IsLoweredOf C below c ↔ IsLoweredOf D below c
lowered_same C D below same c = (
  (λ (rs, i, is). (rs, (same (config c.state c.alt (above_bottom rs))).0 i, is)),
  (λ (rs, i, is). (rs, (same (config c.state c.alt (above_bottom rs))).1 i, is)),
)

-- groups mean the same in a graph that keeps their sets of stacks
pub known_kept : (g h : List Content) (xs : List Group) → Keeps g h → AreKnown g xs → AreKnown h xs
known_kept g h [] keeps known = tt
known_kept g h (x ∷ xs) keeps known = ((keeps x.stacks known.0).0, known_kept g h xs keeps known.1)

pub some_kept : (g h : List Content) (xs : List Group) → Keeps g h → AreKnown g xs → (c : Config) → InSome h xs c ↔ InSome g xs c
some_kept g h [] keeps known c = ((λ i. i), (λ i. i))
some_kept g h (x ∷ xs) keeps known c =
    let one = group_kept g h x keeps known.0 c in
    let rest = some_kept g h xs keeps known.1 c in (
      (λ i. elim i [ inl j ↦ inl (one.1 j) | inr j ↦ inr (rest.0 j) ]),
      (λ i. elim i [ inl j ↦ inl (one.0 j) | inr j ↦ inr (rest.1 j) ]),
    )

-- the same of equal graphs and lists
pub own_alike : (g g' h : List Content) (roots nodes nodes' : List ℕ) (xs : List Group) → g ≡ g'
    → roots ≡ map (λ (x : Group). x.stacks) xs → nodes' ≡ nodes → EachAlike g roots h nodes
    → EachAlike g' (map (λ (x : Group). x.stacks) xs) h nodes'
own_alike g g' h roots nodes nodes' xs same are numbers alike =
    subst (λ (k : List Content). EachAlike k (map (λ (x : Group). x.stacks) xs) h nodes') same
    (subst (λ (rs : List ℕ). EachAlike g rs h nodes') are (subst (EachAlike g roots h) (sym numbers) alike))
