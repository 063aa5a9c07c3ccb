-- Groups in lists, seen in graphs that grow.
use Rattle.std.proofs.Common.{◌≡◌, ℕ, zero, suc, ◌+◌, ◌<◌, ◌↔◌, ◌⊎◌, inl, inr, List, [], ◌∷◌, ◌++◌, length, get_or, take, Contains, refl, ◌∙◌, ap, arith}
use Rattle.std.proofs.Math.Seq.{take-suc}
use Rattle.g4_stacks.specs.Graph.{Content, IsNode}
use Rattle.g4_net.specs.Configurations.{Config}
use Rattle.g4_net.proofs.Pigeons.{In-from, In-to}
use Rattle.g4_configs.specs.declared.group.Group.{Group}
use Rattle.g4_configs.specs.Configs.{AreGroups, View}
use Rattle.g4_configs.specs.Groups.{InSome, AreKnown}

-- in two lists together is what is in one of them
pub some_append : (g : List Content) (xs ys : List Group) (c : Config) → InSome g (xs ++ ys) c ↔ (InSome g xs c ⊎ InSome g ys c)
some_append g [] ys c = ((λ h. inr h), (λ h. elim h [ inl k ↦ absurd k | inr k ↦ k ]))
some_append g (x ∷ xs) ys c = (
  (λ h. elim h [ inl i ↦ inl (inl i) | inr i ↦ elim ((some_append g xs ys c).0 i) [ inl k ↦ inl (inr k) | inr k ↦ inr k ] ]),
  (λ h. elim h [
    | inl i ↦ elim i [ inl k ↦ inl k | inr k ↦ inr ((some_append g xs ys c).1 (inl k)) ]
    | inr k ↦ inr
        ((some_append g xs ys c).1 (inr k))
  ]),
)

-- a group of a known list
pub known_at : (g : List Content) (xs : List Group) (k : ℕ) (d : Group) → AreKnown g xs → k < length xs → IsNode g (get_or xs k d).stacks
known_at g [] k d known lt = absurd (omega (arith, lt))
known_at g (x ∷ xs) zero d known lt = known.0
known_at g (x ∷ xs) (suc k) d known lt = known_at g xs k d known.1 (omega (arith, lt))

-- the groups of a set are known
pub groups_known : (v : View) (xs : List Group) → AreGroups v xs → AreKnown v.graph xs
groups_known v xs groups = all xs groups.parts.known
  where
    all : (ys : List Group) → ((x : Group) → Contains ys x → IsNode v.graph x.stacks) → AreKnown v.graph ys
    all [] each = tt
    all (y ∷ ys) each = (each y (In-to (y ∷ ys) y (inl refl)), all ys (λ x i. each x (In-to (y ∷ ys) x (inr (In-from ys x i.0 i.1 i.2)))))

-- the first groups and the next
pub take_next : (xs : List Group) (k : ℕ) (d : Group) → k < length xs → take (k + 1) xs ≡ take k xs ++ get_or xs k d ∷ []
take_next xs k d lt = let n : k + 1 ≡ suc k = omega arith in ap (λ (m : ℕ). take m xs) n ∙ take-suc xs k d lt
