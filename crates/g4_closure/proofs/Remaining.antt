-- What is left in a set.
use Rattle.std.proofs.Common.{◌≡◌, ◌==◌, true, length, ℕ, List, [], ◌∷◌, All, slice_get, Some, inl, inr, refl, sym, ◌∙◌, subst, arith}
use Rattle.std.proofs.lemmas.Bool.Decides.{nat_tests}
use Rattle.std.proofs.lemmas.List.Elements.{All-head, All-tail}
use Rattle.g4_stacks.specs.Graph.{Content, IsNode, Keeps}
use Rattle.g4_net.specs.Configurations.{Config}
use Rattle.g4_net.specs.Lookahead.{IsEmpty, IsOnly, Next, Rest, Targets}
use Rattle.g4_net.specs.Network.{ParserNetwork}
use Rattle.g4_net.proofs.Finite.{reached_keeps}
use Rattle.g4_configs.specs.declared.group.Group.{Group}
use Rattle.g4_configs.specs.Configs.{AreGroups, Holds, IsOfGroup, View}
use Rattle.g4_configs.specs.Groups.{AreKnown, InGroup, InSome, Same}
use Rattle.g4_closure.specs.Ahead.{GoesOn}
use Rattle.g4_closure.specs.Left.{IsLeft}
use Rattle.g4_closure.specs.Steps.{targets_of}
use Rattle.g4_closure.specs.declared.left.Left.{Left}
use Rattle.g4_closure.specs.declared.left.Left.TheVariants.{Nothing, Only, Several}
use Rattle.g4_closure.proofs.Taking.{taken_of}

-- a list of no members is empty
pub empty_of : {X : Type 0} (xs : List X) → (length xs == 0) ≡ true → xs ≡ []
empty_of [] e = refl
empty_of (x ∷ xs) e = let n : length (x ∷ xs) ≡ 0 = grind (arith, nat_tests) in absurd (omega (arith, n))

-- each set of stacks is kept as it is
pub keeps_same : (g : List Content) → Keeps g g
keeps_same g n is = (is, λ s. ((λ h. h), λ h. h))

-- members of groups of one alternative have it
alternative_of : (g : List Content) (i : ℕ) (xs : List Group) (c : Config) → All (λ x. x.alternative ≡ i) xs → InSome g xs c → c.alt ≡ i
alternative_of g i (x ∷ xs) c all (inl h) = h.alt ∙ All-head (λ (y : Group). y.alternative ≡ i) x xs all
alternative_of g i (x ∷ xs) c all (inr h) = alternative_of g i xs c (All-tail (λ (y : Group). y.alternative ≡ i) x xs all) h
alternative_of g i [] c all h = absurd h

-- the first group is one of them
first_in : (g : List Content) (xs : List Group) (x : Group) (c : Config) → slice_get xs 0 ≡ Some x → InGroup g x c → InSome g xs c
first_in g [] x c e h = absurd (let no : ⊥ = cc in no)
first_in g (y ∷ ys) x c e h = let is : x ≡ y = cc in inl (subst (λ (z : Group). InGroup g z c) is h)

pub first_known : (g : List Content) (xs : List Group) (x : Group) → slice_get xs 0 ≡ Some x → AreKnown g xs → IsNode g x.stacks
first_known g [] x e known = absurd (let no : ⊥ = cc in no)
first_known g (y ∷ ys) x e known = let is : y ≡ x = cc in subst (λ (z : Group). IsNode g z.stacks) is known.0

-- one alternative is left of groups that are all of it, where something is kept of what the first leads to
pub sole : (net : ParserNetwork) (v : View) (xs : List Group) (x : Group) → slice_get xs 0 ≡ Some x
    → All (λ y. y.alternative ≡ x.alternative) xs → GoesOn net (IsOfGroup v x) → IsOnly (Rest net (InSome v.graph xs)) x.alternative
sole net v xs x is all (d, (c, i, r, kept)) = record {
  some = (d, (c, first_in v.graph xs x c is i, r, kept));
  all = λ e (b, j, q, k). sym (reached_keeps net b e q).0 ∙ alternative_of v.graph x.alternative xs b all j;
}

-- the rest of two sets that are the same
rest_same : (net : ParserNetwork) (C D : Config → Type 0) → Same C D → Same (Rest net C) (Rest net D)
rest_same net C D same d = ((λ (c, i, r, k). (c, (same c).0 i, r, k)), λ (c, i, r, k). (c, (same c).1 i, r, k))

-- what is left in one of two sets that are the same is left in the other
pub only_same : (C D : Config → Type 0) (i : ℕ) → Same C D → IsOnly C i → IsOnly D i
only_same C D i same h = record { some = (h.some.0, (same h.some.0).0 h.some.1); all = λ c j. h.all c ((same c).1 j) }

pub left_same : (net : ParserNetwork) (C D : Config → Type 0) (left : Left) → Same C D → IsLeft net C left → IsLeft net D left
left_same net C D Nothing same h = λ c i. h c ((same c).1 i)
left_same net C D (Only i) same h = only_same C D i same h
left_same net C D (Several set) same h = record {
  members = λ c. ((λ i. (same c).0 ((h.members c).0 i)), λ i. (h.members c).1 ((same c).1 i));
  within = h.within;
  row = h.row;
  some = h.some;
  several = h.several;
}

-- the next set is the rest of the groups at the targets
pub next_of : (net : ParserNetwork) (v f : View) (a : ℕ) (xs firsts : List Group) → Keeps v.graph f.graph → AreGroups v xs
    → firsts ≡ targets_of net a xs → Same (Rest net (InSome f.graph firsts)) (Next net (Holds v) a)
next_of net v f a xs firsts kept groups is = rest_same net (InSome f.graph firsts) (Targets net (Holds v) a)
    (subst (λ (ys : List Group). Same (InSome f.graph ys) (Targets net (Holds v) a)) (sym is) (taken_of net v f a xs kept groups))

-- where there are none of these, nothing is left
pub none_next : (net : ParserNetwork) (v : View) (a : ℕ) (xs firsts : List Group) → AreGroups v xs → firsts ≡ targets_of net a xs
    → firsts ≡ [] → IsEmpty (Next net (Holds v) a)
none_next net v a xs firsts groups is none d h =
    let (c, i, r, k) = (next_of net v v a xs firsts (keeps_same v.graph) groups is d).1 h in
    let there : InSome v.graph [] c = subst (λ (ys : List Group). InSome v.graph ys c) none i in
    absurd there
