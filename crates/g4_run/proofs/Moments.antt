-- What a step of the run changes of its moment, and the symbols at its place.
use Rattle.std.proofs.Common.{◌≡◌, ℕ, suc, ◌+◌, List, [], ◌∷◌, drop, Some, slice_get, refl, sym, ◌∙◌, ap, subst, add-one, drop-cons, Contains}
use Rattle.std.proofs.lemmas.Option.{slice_get-get_or, slice_get_within, get_or_from_slice_get}
use Rattle.g4_net.specs.Network.{ParserNetwork, state_at, IsFirst}
use Rattle.g4_net.specs.declared.network.State.TheVariants.{Decision}
use Rattle.g4_run.specs.Running.{Frame, Run, backs, with_child, with_token, with_alt, wrapped}
use Rattle.g4_trees.specs.Trees.{Tree}

-- an alternative of a decision is one of its targets
pub first_in : (net : ParserNetwork) (p i t : ℕ) (targets : List ℕ) → state_at net p ≡ Some (Decision targets) → IsFirst net p i t →
    Contains targets t
first_in net p i t targets is (us, k, at, has, number) =
    let same : us ≡ targets = cc in
    let got : slice_get targets k ≡ Some t = subst (λ (xs : List ℕ). slice_get xs k ≡ Some t) same has in
    (k, slice_get_within targets k t got, get_or_from_slice_get targets k t t got)

-- other alternatives and more children open no rule
pub backs_alt : (i : ℕ) (fs : List Frame) → backs (with_alt i fs) ≡ backs fs
backs_alt i [] = refl
backs_alt i (f ∷ fs) = refl

pub backs_child : (r : Run) (fs : List Frame) (t : Tree) → backs (with_child r fs t).frames ≡ backs fs
backs_child r [] t = refl
backs_child r (f ∷ fs) t = refl

pub backs_token : (r : Run) (fs : List Frame) → r.frames ≡ fs → backs (with_token r fs).frames ≡ backs fs
backs_token r [] e = ap backs e
backs_token r (f ∷ fs) e = refl

pub backs_wrapped : (i : ℕ) (fs : List Frame) → backs (wrapped i fs) ≡ backs fs
backs_wrapped i [] = refl
backs_wrapped i (f ∷ fs) = refl

-- a target of a decision is the first state of an alternative
pub target_first : (net : ParserNetwork) (p t : ℕ) (targets : List ℕ) → state_at net p ≡ Some (Decision targets) → Contains targets t →
    (i : ℕ) × IsFirst net p i t
target_first net p t targets is (k, within, at) = (
  k + 1,
  (targets, k, is, slice_get-get_or targets k t within ∙ ap (λ (x : ℕ). Some x) at, refl),
)

-- a child changes neither the place nor the state
pub place_child : (r : Run) (fs : List Frame) (t : Tree) → (with_child r fs t).place ≡ r.place
place_child r [] t = refl
place_child r (f ∷ fs) t = refl

pub state_child : (r : Run) (fs : List Frame) (t : Tree) → (with_child r fs t).state ≡ r.state
state_child r [] t = refl
state_child r (f ∷ fs) t = refl

-- nor does a token change the tree outside the open rules
pub tree_token : (r : Run) (fs : List Frame) → (with_token r fs).tree ≡ r.tree
tree_token r [] = refl
tree_token r (f ∷ fs) = refl

-- the word from a place on begins with the symbol there
pub symbol_first : (word : List ℕ) (place a : ℕ) → slice_get word place ≡ Some a → drop place word ≡ a ∷ drop (place + 1) word
symbol_first word place a is =
    drop-cons word place 0 (slice_get_within word place a is)
    ∙ ap (λ (b : ℕ). b ∷ drop (suc place) word) (get_or_from_slice_get word place a 0 is)
    ∙ ap (λ (n : ℕ). a ∷ drop n word) (sym (add-one place))

-- one word begins with one symbol
pub same_first : (w u v : List ℕ) (a b : ℕ) → w ≡ a ∷ u → w ≡ b ∷ v → (a ≡ b) × (u ≡ v)
same_first w u v a b e f = (cc, cc)
