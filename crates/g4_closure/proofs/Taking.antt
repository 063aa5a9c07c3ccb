-- Where token edges lead.
use Rattle.std.proofs.Common.{◌≡◌, ℕ, ◌↔◌, ◌⊎◌, inl, inr, List, [], ◌∷◌, Contains, Bool, true, false, true≢false, Option, Some, None, if◌then◌else◌, ◌==◌, refl, sym, ◌∙◌, ap, subst, arith}
use Rattle.std.proofs.lemmas.Bool.Decides.{nat_tests}
use Rattle.std.proofs.lemmas.Bool.{cases_Bool}
use Rattle.g4_stacks.specs.Graph.{Content, IsNode, Keeps}
use Rattle.g4_net.specs.Network.{ParserNetwork}
use Rattle.g4_net.specs.declared.network.State.{State}
use Rattle.g4_net.specs.declared.network.State.TheVariants.{Decision, End, Edge, Call, Predicate, Level, Action, Empty}
use Rattle.g4_net.specs.Network.{state_at}
use Rattle.g4_net.specs.Configurations.{Config, at, IsWithin}
use Rattle.g4_net.specs.Leads.{WellFormed}
use Rattle.g4_net.specs.Lookahead.{TakesBy, Targets}
use Rattle.g4_net.proofs.Pigeons.{In, In-from, In-to}
use Rattle.g4_net.proofs.Finite.{target_within}
use Rattle.g4_configs.specs.declared.group.Group.{Group}
use Rattle.g4_configs.specs.Groups.{InGroup, InSome, AreKnown, Same}
use Rattle.g4_closure.specs.Steps.{has_symbol, target_by, moved_by, targets_of}
use Rattle.g4_configs.specs.Configs.{AreGroups, Holds, View}
use Rattle.g4_closure.proofs.Joining.{groups_known, known_append, some_append, some_kept}
use Rattle.g4_closure.proofs.Stepping.{moved}

has_in : (set : List ℕ) (a : ℕ) → has_symbol set a ≡ true → In a set
has_in [] a h = absurd (true≢false (sym h))
has_in (s ∷ set) a h = elim (let c : ((s == a) ≡ true) ⊎ ((s == a) ≡ false) = cases_Bool (s == a) in c) [
  | inl same ↦ inl (let e : s ≡ a = grind (arith, nat_tests) in sym e)
  | inr other ↦ inr (has_in set a (let more : has_symbol set a ≡ true = rw other at h in more))
]

in_has : (set : List ℕ) (a : ℕ) → In a set → has_symbol set a ≡ true
in_has [] a h = absurd h
in_has (s ∷ set) a (inl e) = let same : (s == a) ≡ true = grind (arith, nat_tests) in rw same refl
in_has (s ∷ set) a (inr i) = elim (cases_Bool (s == a)) [
  | inl same ↦ rw same refl
  | inr other ↦ rw (other, in_has set a i) refl
]

-- what some member of the group leads to by an edge of this state
abbrev TakenBy : List Content → Option (State (List ℕ)) → ℕ → Group → Config → Type 0
TakenBy g o a x d = (c : Config) × InGroup g x c × TakesBy o a d.state × (d ≡ at c d.state)

taken_from : (g : List Content) (a : ℕ) (x : Group) (d : Config) (o : Option (State (List ℕ)))
    → InSome g (moved_by x (target_by a o)) d → TakenBy g o a x d
taken_from g a x d (Some (Edge set t)) i = one (has_symbol set a) refl i
  where
    one : (b : Bool) → has_symbol set a ≡ b → InSome g (moved_by x (if b then Some t else None)) d → TakenBy g (Some (Edge set t)) a x d
    one true h (inl k) =
        let r = (moved g x t d).0 k in
        let s : d.state ≡ t = ap (λ (y : Config). y.state) r.2 in
        (r.0, r.1, (In-to set a (has_in set a h), s), r.2 ∙ ap (λ (p : ℕ). at r.0 p) (sym s))
    one true h (inr k) = absurd k
    one false h k = absurd k
taken_from g a x d (Some (Decision targets)) i = absurd i
taken_from g a x d (Some (End rule)) i = absurd i
taken_from g a x d (Some (Call rule level back)) i = absurd i
taken_from g a x d (Some (Predicate k t)) i = absurd i
taken_from g a x d (Some (Level q t)) i = absurd i
taken_from g a x d (Some (Action t)) i = absurd i
taken_from g a x d (Some (Empty t)) i = absurd i
taken_from g a x d None i = absurd i

from_taken : (g : List Content) (a : ℕ) (x : Group) (c d : Config) (o : Option (State (List ℕ))) → InGroup g x c → TakesBy o a d.state
    → d ≡ at c d.state → InSome g (moved_by x (target_by a o)) d
from_taken g a x c d (Some (Edge set t)) i (has, is) e =
    let held : has_symbol set a ≡ true = in_has set a (In-from set a has.0 has.1 has.2) in
    rw held (inl ((moved g x t d).1 (c, i, e ∙ ap (λ (p : ℕ). at c p) is)))
from_taken g a x c d (Some (Decision targets)) i h e = absurd h
from_taken g a x c d (Some (End rule)) i h e = absurd h
from_taken g a x c d (Some (Call rule level back)) i h e = absurd h
from_taken g a x c d (Some (Predicate k t)) i h e = absurd h
from_taken g a x c d (Some (Level q t)) i h e = absurd h
from_taken g a x c d (Some (Action t)) i h e = absurd h
from_taken g a x c d (Some (Empty t)) i h e = absurd h
from_taken g a x c d None i h e = absurd h

pub exact_targets : (net : ParserNetwork) (g : List Content) (a : ℕ) (xs : List Group)
    → Same (InSome g (targets_of net a xs)) (Targets net (InSome g xs) a)
exact_targets net g a [] d = ((λ i. absurd i), (λ r. absurd r.1))
exact_targets net g a (x ∷ xs) d = (to (exact_targets net g a xs d), from (exact_targets net g a xs d))
  where
    More : Type 0
    More = InSome g (targets_of net a xs) d ↔ Targets net (InSome g xs) a d

    to : More → InSome g (targets_of net a (x ∷ xs)) d → Targets net (InSome g (x ∷ xs)) a d
    to more i = elim (let f : InSome g (moved_by x (target_by a (state_at net x.state))) d ⊎ InSome g (targets_of net a xs) d =
        (some_append g (moved_by x (target_by a (state_at net x.state))) (targets_of net a xs) d).0 i in f) [
          | inl k ↦ (let r = taken_from g a x d (state_at net x.state) k in
              (r.0, inl r.1, subst (λ (p : ℕ). TakesBy (state_at net p) a d.state) (sym r.1.state) r.2, r.3))
          | inr k ↦ (let r = more.0 k in (r.0, inr r.1, r.2, r.3))
        ]

    from : More → Targets net (InSome g (x ∷ xs)) a d → InSome g (targets_of net a (x ∷ xs)) d
    from more (c, inl i, takes, e) = (some_append g (moved_by x (target_by a (state_at net x.state))) (targets_of net a xs) d).1
        (inl (from_taken g a x c d (state_at net x.state) i (subst (λ (p : ℕ). TakesBy (state_at net p) a d.state) i.state takes) e))
    from more (c, inr i, takes, e) = (some_append g (moved_by x (target_by a (state_at net x.state))) (targets_of net a xs) d).1
        (inr (more.1 (c, i, takes, e)))

known_moved : (g : List Content) (x : Group) (o : Option ℕ) → IsNode g x.stacks → AreKnown g (moved_by x o)
known_moved g x None in' = tt
known_moved g x (Some t) in' = (in', tt)

pub known_targets : (net : ParserNetwork) (g : List Content) (a : ℕ) (xs : List Group) → AreKnown g xs → AreKnown g (targets_of net a xs)
known_targets net g a [] known = tt
known_targets net g a (x ∷ xs) known = known_append g (moved_by x (target_by a (state_at net x.state))) (targets_of net a xs)
    (known_moved g x (target_by a (state_at net x.state)) known.0) (known_targets net g a xs known.1)

takes_within : (net : ParserNetwork) (a : ℕ) (c d : Config) → WellFormed net → (o : Option (State (List ℕ)))
    → state_at net c.state ≡ o → TakesBy o a d.state → d ≡ at c d.state → IsWithin net c → IsWithin net d
takes_within net a c d well (Some (Edge set t)) is (has, to) e w =
    subst (IsWithin net) (sym (e ∙ ap (λ (p : ℕ). at c p) to)) (target_within net c set t well is w)
takes_within net a c d well (Some (Decision targets)) is h e w = absurd h
takes_within net a c d well (Some (End rule)) is h e w = absurd h
takes_within net a c d well (Some (Call rule level back)) is h e w = absurd h
takes_within net a c d well (Some (Predicate k t)) is h e w = absurd h
takes_within net a c d well (Some (Level q t)) is h e w = absurd h
takes_within net a c d well (Some (Action t)) is h e w = absurd h
takes_within net a c d well (Some (Empty t)) is h e w = absurd h
takes_within net a c d well None is h e w = absurd h

pub within_targets : (net : ParserNetwork) (g : List Content) (a : ℕ) (xs : List Group) → WellFormed net
    → ((c : Config) → InSome g xs c → IsWithin net c) → (d : Config) → InSome g (targets_of net a xs) d → IsWithin net d
within_targets net g a xs well within d i = let r = (exact_targets net g a xs d).0 i in
    takes_within net a r.0 d well (state_at net r.0.state) refl r.2 r.3 (within r.0 r.1)

-- an edge leads nowhere on a symbol that its set lacks
pub takes_not : (a t : ℕ) (set : List ℕ) → (Contains set a → ⊥) → None ≡ target_by a (Some (Edge set t))
takes_not a t set lacks = elim (let c : (has_symbol set a ≡ true) ⊎ (has_symbol set a ≡ false) = cases_Bool (has_symbol set a) in c) [
  | inl held ↦ absurd (lacks (In-to set a (has_in set a held)))
  | inr other ↦ rw other refl
]

-- Where the edges that take the symbol lead from all groups of a set, seen in a set that keeps its stacks.
module _ (net : ParserNetwork) (v f : View) (a : ℕ) (xs : List Group) where
  pub taken_of : Keeps v.graph f.graph → AreGroups v xs → Same (InSome f.graph (targets_of net a xs)) (Targets net (Holds v) a)
  taken_of kept groups d =
      let moved = some_kept v.graph f.graph (targets_of net a xs) kept (known_targets net v.graph a xs (groups_known v xs groups)) d in
      let exact = exact_targets net v.graph a xs d in (
        (λ i. let r = exact.0 (moved.1 i) in (r.0, (groups.members r.0).0 r.1, r.2, r.3)),
        λ (c, h, takes, e). moved.0 (exact.1 (c, (groups.members c).1 h, takes, e)),
      )

  pub taken_within : WellFormed net → Keeps v.graph f.graph → AreGroups v xs → ((c : Config) → Holds v c → IsWithin net c)
      → (d : Config) → InSome f.graph (targets_of net a xs) d → IsWithin net d
  taken_within well kept groups within d i = let r = (taken_of kept groups d).0 i in
      takes_within net a r.0 d well (state_at net r.0.state) refl r.2 r.3 (within r.0 r.1)
