-- Sets with the same members are judged alike.
use Rattle.std.proofs.Common.{◌↔◌, ℕ, suc, List, [], ◌∷◌}
use Rattle.g4_net.specs.Network.{ParserNetwork}
use Rattle.g4_net.specs.Configurations.{Config, IsRow}
use Rattle.g4_net.specs.Lookahead.{Next, IsEmpty, IsOnly, Conflict, LoneState, Alike, IsLeast}
use Rattle.g4_net.specs.Prediction.{Verdict, Looked, Judges, SllFrom, Choice, Settles, FullFrom}
use Rattle.g4_net.specs.Prediction as prediction

-- each of one set is of the other
abbrev pub Within : (Config → Type 0) → (Config → Type 0) → Type 0
Within C D = (c : Config) → C c → D c

module _ (D E : Config → Type 0) (to : Within D E) (from : Within E D) where
  -- nothing is left of both
  pub empty_same : IsEmpty D → IsEmpty E
  empty_same e c h = e c (from c h)

  -- one alternative is left of both
  pub only_same : (i : ℕ) → IsOnly D i → IsOnly E i
  only_same i h = record { some = (h.some.0, to h.some.0 h.some.1); all = λ c x. h.all c (from c x) }

  -- both have a conflict
  pub conflict_same : Conflict D → Conflict E
  conflict_same (p, i, j, ne, (s, has), same) =
      (p, i, j, ne, (s, to _ has), λ r. ((λ x. to _ ((same r).0 (from _ x))), λ x. to _ ((same r).1 (from _ x))))

  -- both have a lone state
  pub lone_same : LoneState D → LoneState E
  lone_same (p, i, (s, has), alone) = (p, i, (s, to _ has), λ j r x. alone j r (from _ x))

  -- both are alike
  pub alike_same : Alike D → Alike E
  alike_same h = record {
    several = let (c, d, in_c, in_d, ne) = h.several in (c, d, to c in_c, to d in_d, ne);
    same = λ c d e in_c in_d in_e r. let s = h.same c d e (from c in_c) (from d in_d) (from e in_e) r in
        ((λ x. to _ (s.0 (from _ x))), λ x. to _ (s.1 (from _ x)));
  }

  -- both have the same least alternative
  pub least_same : (i : ℕ) → IsLeast D i → IsLeast E i
  least_same i h = record { some = (h.some.0, to h.some.0 h.some.1, h.some.2); least = λ c x. h.least c (from c x) }

-- two sets have the same members
abbrev pub AreSame : (Config → Type 0) → (Config → Type 0) → Type 0
AreSame C D = (c : Config) → C c ↔ D c

-- the row of a set is one of an equal set
pub row_of_set : (row : List Config) (D C : Config → Type 0) → AreSame D C → IsRow row D → IsRow row C
row_of_set row D C same is = record {
  rising = is.rising;
  exactly = λ d. ((λ x. (same d).0 ((is.exactly d).0 x)), λ x. (is.exactly d).1 ((same d).1 x));
}

-- what leads from one set leads from a larger one
pub next_within : (net : ParserNetwork) (C D : Config → Type 0) (a : ℕ) → Within C D → Within (Next net C a) (Next net D a)
next_within net C D a h d (e, (c, i, t, is), r, k) = (e, (c, h c i, t, is), r, k)

-- judging
judges_same : (D E : Config → Type 0) (k a : ℕ) (L M : Verdict → List Looked → Type 0) → Within D E → Within E D
    → ((v : Verdict) (more : List Looked) → L v more → M v more) → (v : Verdict) (looked : List Looked) → Judges D k a L v looked
    → Judges E k a M v looked
judges_same D E k a L M to from on _ _ (prediction.nothing_left e) = prediction.nothing_left (empty_same D E to from e)
judges_same D E k a L M to from on _ _ (prediction.one_left i h) = prediction.one_left i (only_same D E to from i h)
judges_same D E k a L M to from on _ _ (prediction.gives_up n c l) =
    prediction.gives_up (λ i h. n i (only_same E D from to i h)) (conflict_same D E to from c) (λ h. l (lone_same E D from to h))
judges_same D E k a L M to from on _ _ (prediction.goes_on v more row e n s is l) =
    prediction.goes_on v more row (λ h. e (empty_same E D from to h)) (λ i h. n i (only_same E D from to i h))
    (λ c h. s (conflict_same E D from to c) (λ x. h (lone_same D E to from x)))
    (record { rising = is.rising; exactly = λ d. ((λ x. to d ((is.exactly d).0 x)), λ x. (is.exactly d).1 (from d x)) }) (on v more l)

-- SLL
pub sll_same : (net : ParserNetwork) (C D : Config → Type 0) → Within C D → Within D C
    → (w : List ℕ) (k : ℕ) (v : Verdict) (looked : List Looked) → SllFrom net C w k v looked → SllFrom net D w k v looked
sll_same net C D to from [] k v looked h = h
sll_same net C D to from (a ∷ w) k v looked h =
    let forth = next_within net C D a to in
    let back = next_within net D C a from in
    judges_same (Next net C a) (Next net D a) k a (SllFrom net (Next net C a) w (suc k)) (SllFrom net (Next net D a) w (suc k)) forth
    back (sll_same net (Next net C a) (Next net D a) forth back w (suc k)) v looked h

-- settling
settles_same : (D E : Config → Type 0) (k : ℕ) (L M : Choice → Type 0) → Within D E → Within E D → ((c : Choice) → L c → M c)
    → (c : Choice) → Settles D k L c → Settles E k M c
settles_same D E k L M to from on _ (prediction.none_left e) = prediction.none_left (empty_same D E to from e)
settles_same D E k L M to from on _ (prediction.one_left i h) = prediction.one_left i (only_same D E to from i h)
settles_same D E k L M to from on _ (prediction.least i h l) = prediction.least i (alike_same D E to from h) (least_same D E to from i l)
settles_same D E k L M to from on _ (prediction.goes_on c e n s l) =
    prediction.goes_on c (λ h. e (empty_same E D from to h)) (λ i h. n i (only_same E D from to i h))
    (λ h. s (alike_same E D from to h)) (on c l)

-- full stacks
pub full_same : (net : ParserNetwork) (C D : Config → Type 0) → Within C D → Within D C → (w : List ℕ) (k : ℕ) (c : Choice)
    → FullFrom net C w k c → FullFrom net D w k c
full_same net C D to from [] k c h = h
full_same net C D to from (a ∷ w) k c h =
    let forth = next_within net C D a to in
    let back = next_within net D C a from in
    settles_same (Next net C a) (Next net D a) k (FullFrom net (Next net C a) w (suc k)) (FullFrom net (Next net D a) w (suc k)) forth
    back (full_same net (Next net C a) (Next net D a) forth back w (suc k)) c h
