-- Alternatives and elements of a list by their index.
use Rattle.std.proofs.Common.{◌≡◌, ℕ, zero, suc, ◌+◌, ◌≤◌, ◌⊎◌, inl, inr, List, [], ◌∷◌, ◌++◌, length, map, take, Some, sym, ap, ◌∙◌, subst, arith}
use Rattle.std.specs.List.{slice_get}
use Rattle.std.specs.Option.{option_map}
use Rattle.std.proofs.lemmas.List.{take_more, take_all, length-map}
use Rattle.std.proofs.lemmas.Option.{same_Some, slice_get_within, get_or_from_slice_get, slice_get-map}
use Rattle.g4_source.specs.Elements.{Element, Elements, Alternatives, none, or, either}
use Rattle.g4_source.specs.Trees.{in_order}
use Rattle.g4_grammar.specs.LeftCalls.{Nullable, AllNullable, one_more, OneNullable, this, another}
use Rattle.g4_recursion.specs.declared.lead.Lead.{Lead}
use Rattle.g4_recursion.specs.Leads.{ReadsLead, CallsLead}
use Rattle.g4_recursion.specs.Bodies.{IsAlternative}

-- an item of a list as what it becomes
pub mapped_at : {X Y : Type 0} (f : X → Y) (xs : List X) (i : ℕ) (x : X) → slice_get xs i ≡ Some x → slice_get (map f xs) i ≡ Some (f x)
mapped_at f xs i x at = slice_get-map f xs i ∙ ap (option_map f) at

-- the items up to one
pub take_at : {X : Type 0} (xs : List X) (i : ℕ) (x : X) → slice_get xs i ≡ Some x → take (i + 1) xs ≡ take i xs ++ x ∷ []
take_at xs i x at = take_more xs i x (slice_get_within xs i x at) ∙ ap (λ (y : _). take i xs ++ y ∷ []) (get_or_from_slice_get xs i x x at)

-- an index past all items is past what they become
pub mapped_past : {X Y : Type 0} (f : X → Y) (xs : List X) (i : ℕ) → length xs ≤ i → length (map f xs) ≤ i
mapped_past f xs i past = omega (arith, past, length-map xs f)

-- all that items become
pub take_map : {X Y : Type 0} (f : X → Y) (xs : List X) (i : ℕ) → length xs ≤ i → take i (map f xs) ≡ map f xs
take_map f xs i past = take_all i (map f xs) (mapped_past f xs i past)

-- the alternative at an index is one of them
pub alternative_at : (xs : List (Elements Lead)) (i : ℕ) (x : Elements Lead) → slice_get xs i ≡ Some x → IsAlternative (either xs) x
alternative_at [] i x at = absurd (let n : ⊥ = cc in n)
alternative_at (y ∷ xs) zero x at = inl (same_Some y x at)
alternative_at (y ∷ xs) (suc i) x at = inr (alternative_at xs i x at)

-- an alternative is one of the first or the last one
pub alternative_cases : (xs : List (Elements Lead)) (y x : Elements Lead) → IsAlternative (either (xs ++ y ∷ [])) x
    → IsAlternative (either xs) x ⊎ (y ≡ x)
alternative_cases [] y x (inl e) = inr e
alternative_cases [] y x (inr h) = absurd h
alternative_cases (z ∷ xs) y x (inl e) = inl (inl e)
alternative_cases (z ∷ xs) y x (inr h) = elim (alternative_cases xs y x h) [ inl early ↦ inl (inr early) | inr last ↦ inr last ]

-- each element derives the empty word where all do
pub nullable_at : (rules : List (Alternatives Lead)) (xs : List (Element Lead)) (i : ℕ) (x : Element Lead) → slice_get xs i ≡ Some x
    → AllNullable ReadsLead CallsLead rules (in_order xs) → Nullable ReadsLead CallsLead rules x
nullable_at rules [] i x at all = absurd (let n : ⊥ = cc in n)
nullable_at rules (y ∷ xs) zero x at (one_more z zs h hs) = subst (Nullable ReadsLead CallsLead rules) (same_Some y x at) h
nullable_at rules (y ∷ xs) (suc i) x at (one_more z zs h hs) = nullable_at rules xs i x at hs

-- alternatives derive the empty word where one of them does
pub one_of : (rules : List (Alternatives Lead)) (xs : Alternatives Lead) (x : Elements Lead) → IsAlternative xs x
    → AllNullable ReadsLead CallsLead rules x → OneNullable ReadsLead CallsLead rules xs
one_of rules none x h all = absurd h
one_of rules (or y ys) x (inl e) all = this y ys (subst (AllNullable ReadsLead CallsLead rules) (sym e) all)
one_of rules (or y ys) x (inr h) all = another y ys (one_of rules ys x h all)
