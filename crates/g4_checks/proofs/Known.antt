-- Names that are looked up, some more at a time.
use Rattle.std.proofs.Common.{◌≡◌, ℕ, ◌+◌, ◌<◌, List, [], ◌∷◌, ◌++◌, length, map, take, get_or, Bool, true, false, ◌||◌, refl, sym, ap, subst, ◌∙◌, append_assoc}
use Rattle.std.specs.List.{flat_map}
use Rattle.std.specs.Str.{bytes_eq}
use Rattle.std.proofs.lemmas.List.{take_more, map-append, append-nil}
use Rattle.std.proofs.lemmas.List.Folds.{list_any-append}
use Rattle.std.proofs.lemmas.Grind.{flat_map-append}
use Rattle.g4_checks.specs.Known.{AddsAll}
use Rattle.g4_checks.specs.Names.{is_one_of}
use Rattle.g4_source.proofs.Lists.{map-map}

-- one more name of a list
pub names_more : {X Y : Type 0} (F : X → Y) (xs : List X) (i : ℕ) (x : X) → i < length xs → x ≡ get_or xs i x
    → map F (take (i + 1) xs) ≡ map F (take i xs) ++ F x ∷ []
names_more F xs i x within item = ap (map F) (take_more xs i x within ∙ ap (λ (z : _). take i xs ++ z ∷ []) (sym item))
    ∙ map-append F (take i xs) (x ∷ [])

-- the names of one more item
pub lists_more : {X Y : Type 0} (F : X → List Y) (xs : List X) (i : ℕ) (x : X) → i < length xs → x ≡ get_or xs i x
    → flat_map F (take (i + 1) xs) ≡ flat_map F (take i xs) ++ F x
lists_more F xs i x within item =
    ap (flat_map F) (take_more xs i x within ∙ ap (λ (z : _). take i xs ++ z ∷ []) (sym item))
    ∙ (flat_map-append F (take i xs) (x ∷ []) ∙ ap (λ (ys : List _). flat_map F (take i xs) ++ ys) (append-nil (F x)))

-- or nothing
or_false : (a : Bool) → (a || false) ≡ a
or_false true = refl
or_false false = refl

or_assoc : (a b c : Bool) → ((a || b) || c) ≡ (a || (b || c))
or_assoc true b c = refl
or_assoc false b c = refl

-- no more names
pub adds_none : (names : List (List ℕ)) → AddsAll names [] names
adds_none names text = sym (or_false (is_one_of names text))

-- one name
pub adds_name : (old new : List (List ℕ)) (name : List ℕ)
    → ((text : List ℕ) → is_one_of new text ≡ (is_one_of old text || bytes_eq text name)) → AddsAll old (name ∷ []) new
adds_name old new name added text = added text ∙ ap (λ (b : Bool). is_one_of old text || b) (sym (or_false (bytes_eq text name)))

-- some names, and then more
pub adds_more : (old between new some more all : List (List ℕ)) → all ≡ some ++ more → AddsAll old some between
    → AddsAll between more new → AddsAll old all new
adds_more old between new some more all is before after text =
    after text ∙ (ap (λ (b : Bool). b || is_one_of more text) (before text)
    ∙ (or_assoc (is_one_of old text) (is_one_of some text) (is_one_of more text)
    ∙ (ap (λ (b : Bool). is_one_of old text || b) (sym (list_any-append (bytes_eq text) some more))
    ∙ ap (λ (ns : List (List ℕ)). is_one_of old text || is_one_of ns text) (sym is))))

-- one name more of a list
pub adds_one : (base names : List (List ℕ)) (i : ℕ) (name key : List ℕ) (old new : List (List ℕ)) → i < length names
    → name ≡ get_or names i name → key ≡ name → AddsAll base (take i names) old
    → ((text : List ℕ) → is_one_of new text ≡ (is_one_of old text || bytes_eq text key)) →
    AddsAll base (take (i + 1) names) new
adds_one base names i name key old new within item named before added =
    adds_more base old new (take i names) (name ∷ []) (take (i + 1) names)
    (take_more names i name within ∙ ap (λ (z : List ℕ). take i names ++ z ∷ []) (sym item)) before
    (subst (λ (k : List ℕ). AddsAll old (k ∷ []) new) named (adds_name old new key added))

-- the name of one item more, after some names
pub adds_next : {X : Type 0} (F : X → List ℕ) (front base : List (List ℕ)) (xs : List X) (i : ℕ) (x : X) (key : List ℕ)
    (old new : List (List ℕ)) → i < length xs → x ≡ get_or xs i x → key ≡ F x → AddsAll base (front ++ map F (take i xs)) old
    → ((text : List ℕ) → is_one_of new text ≡ (is_one_of old text || bytes_eq text key)) →
    AddsAll base (front ++ map F (take (i + 1) xs)) new
adds_next F front base xs i x key old new within item named before added =
    adds_more base old new (front ++ map F (take i xs)) (F x ∷ []) (front ++ map F (take (i + 1) xs))
    (ap (λ (ys : List (List ℕ)). front ++ ys) (names_more F xs i x within item)
    ∙ sym (append_assoc front (map F (take i xs)) (F x ∷ []))) before
    (subst (λ (k : List ℕ). AddsAll old (k ∷ []) new) named (adds_name old new key added))

-- the names of one item more, after some names
pub adds_list : {X : Type 0} (F : X → List (List ℕ)) (front base : List (List ℕ)) (xs : List X) (i : ℕ) (x : X)
    (old new : List (List ℕ)) → i < length xs → x ≡ get_or xs i x → AddsAll base (front ++ flat_map F (take i xs)) old
    → AddsAll old (F x) new →
    AddsAll base (front ++ flat_map F (take (i + 1) xs)) new
adds_list F front base xs i x old new within item before added =
    adds_more base old new (front ++ flat_map F (take i xs)) (F x) (front ++ flat_map F (take (i + 1) xs))
    (ap (λ (ys : List (List ℕ)). front ++ ys) (lists_more F xs i x within item)
    ∙ sym (append_assoc front (flat_map F (take i xs)) (F x))) before added

-- the names of items that are lent
pub names_lent : {X Y : Type 0} (F : Y → List ℕ) (view : X → Y) (slice items : List X) (ys : List Y) → slice ≡ items
    → map view items ≡ ys → map (λ x. F (view x)) slice ≡ map F ys
names_lent F view slice items ys whole lent = sym (map-map F view slice) ∙ ap (map F) (ap (map view) whole ∙ lent)
