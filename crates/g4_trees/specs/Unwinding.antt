-- What is known of a grown tree from some place on, read from its last entry back to there.
use Rattle.std.specs.Prelude.{◌≡◌, ℕ, List, [], ◌∷◌, ◌++◌, map, reverse, take, drop, length}
use Rattle.g4_trees.specs.declared.tree.Item.{Item}
use Rattle.g4_trees.specs.declared.tree.Item.TheVariants as items
use Rattle.g4_trees.specs.Kept.{AreOrdered, Entry, entries_from, kept, wrap}
use Rattle.g4_trees.specs.declared.builder.Wrap.{Wrap}
use Rattle.g4_trees.specs.declared.unwinding.Unwound.{Unwound}

-- For each node that ends from the place on and begins before it, newest first, the alternatives of the nodes that became first
-- children, the innermost last; and the items from the place on.
pub record Known : Type 0 where
  pub pending : List (List ℕ)
  pub out : List Item

-- the beginnings of nodes with these alternatives
abbrev pub enters : ℕ → ℕ → List ℕ → List Item
enters rule at alts = map (λ alt. items.Enter rule alt at) alts

-- a node begins, and then the nodes that became first children
abbrev pub entered : ℕ → ℕ → ℕ → List Item → List (List ℕ) → Known
entered rule alt at out [] = record { pending = []; out = items.Enter rule alt at ∷ out }
entered rule alt at out (alts ∷ more) = record { pending = more; out = items.Enter rule alt at ∷ (enters rule at alts ++ out) }

-- one alternative more for the newest node
abbrev pub with_pending : ℕ → List (List ℕ) → List (List ℕ)
with_pending alt [] = []
with_pending alt (alts ∷ more) = (alts ++ alt ∷ []) ∷ more

-- one entry more before the place
abbrev pub known_before : Entry → Known → Known
known_before (kept (items.Enter rule alt at)) u = entered rule alt at u.out u.pending
known_before (kept (items.Token at)) u = record u { out = items.Token at ∷ u.out }
known_before (kept items.Exit) u = record { pending = [] ∷ u.pending; out = items.Exit ∷ u.out }
known_before (wrap alt) u = record { pending = with_pending alt u.pending; out = items.Exit ∷ u.out }

-- what is known of entries
abbrev pub known : List Entry → Known
known [] = record { pending = []; out = [] }
known (e ∷ es) = known_before e (known es)

-- the lists of the code are what is known
pub record HasUnwound (u : Unwound) (k : Known) : Type 0 where
  pub pending : map (λ v. v.items) (reverse u.pending.items) ≡ k.pending
  pub out : reverse u.out.items ≡ k.out

-- all that is from the place on has been read: the wraps before this one end before the place, and the others are at it or after
pub record HasRead (items : List Item) (wraps : List Wrap) (place rest : ℕ) (u : Unwound) : Type 0 where
  pub before : AreOrdered 0 (take rest wraps) place
  pub after : AreOrdered place (drop rest wraps) (length items)
  pub unwound : HasUnwound u (known (entries_from place (drop place items) (drop rest wraps)))
