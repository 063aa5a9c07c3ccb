-- What is shown of types: the first way to show each.
use Rattle.std.proofs.Common.{◌≡◌, ℕ, ◌+◌, ◌<◌, ◌==◌, List, [], ◌∷◌, ◌++◌, length, map, take, get_or, Bool, true, false, cond, Option, Some, None, option_map, refl, sym, ap, ◌∙◌, subst}
use Rattle.std.specs.Borrow.{Bor}
use Rattle.std.specs.BTreeMap.{Updates, get_by}
use Rattle.std.specs.Option.{is_some, option_or, unwrap_or}
use Rattle.std.specs.Ordering.{nat_cmp}
use Rattle.std.proofs.lemmas.Bool.Decides.{Decides-eqb}
use Rattle.std.proofs.lemmas.List.{map-append, take_more}
use Rattle.g4_vocab.specs.Shown.{Face, shown_as}
use Rattle.g4_vocab.specs.Tables.{AddsFace, AreShown, NumberMap, face_of, first_face, shown_at, text_in, text_or}
use Rattle.g4_vocab.specs.declared.faces.Face.{Face as Lent}
use Rattle.g4_vocab.proofs.LeftTypes.{equal_numbers}

-- the first way to show a number with one way more
face_push : (xs : List Face) (face : Face) (number : ℕ)
    → first_face (xs ++ face ∷ []) number ≡ option_or (first_face xs number) (cond (face.number == number) (Some face.text) None)
face_push [] face number = refl
face_push (x ∷ xs) face number = by (x.number == number) (face_push xs face number)
  where
    by : (b : Bool)
        → first_face (xs ++ face ∷ []) number ≡ option_or (first_face xs number) (cond (face.number == number) (Some face.text) None)
        → cond b (Some x.text) (first_face (xs ++ face ∷ []) number)
        ≡ option_or (cond b (Some x.text) (first_face xs number)) (cond (face.number == number) (Some face.text) None)
    by true rest = refl
    by false rest = rest

-- nothing more
nothing : {X : Type 0} (o : Option X) → o ≡ option_or o None
nothing None = refl
nothing (Some x) = refl

-- a way to show a type that has none
pub face_added : (face : Lent) (old new : NumberMap) → is_some (get_by (nat_cmp face.number) old) ≡ false
    → Updates nat_cmp old new face.number (Some face.text) → AddsFace (face_of face) old new
face_added face old new fresh updates number =
    ap (option_map (λ text. text.now)) (updates.0 number)
    ∙ (ap (λ (b : Bool). option_map (λ text. text.now) (cond b (Some face.text) (get_by (nat_cmp number) old)))
    (equal_numbers face.number number)
    ∙ by (face.number == number) refl)
  where
    absent : (o : Option (Bor (List ℕ))) → is_some o ≡ false → option_map (λ text. text.now) o ≡ None
    absent None e = refl
    absent (Some text) e = cc

    by : (b : Bool) → (face.number == number) ≡ b
        → option_map (λ text. text.now) (cond b (Some face.text) (get_by (nat_cmp number) old))
        ≡ option_or (text_in old number) (cond b (Some face.text.now) None)
    by true e =
        let same : face.number ≡ number = (Decides-eqb face.number number).0 e in
        let none : text_in old number ≡ None = ap (text_in old) (sym same) ∙ absent (get_by (nat_cmp face.number) old) fresh in
        ap (λ (o : Option (List ℕ)). option_or o (Some face.text.now)) (sym none)
    by false e = nothing (text_in old number)

-- a way to show a type that has one
pub face_passed : (face : Lent) (old : NumberMap) → is_some (get_by (nat_cmp face.number) old) ≡ true → AddsFace (face_of face) old old
face_passed face old there number = by (face.number == number) refl
  where
    known : (o : Option (Bor (List ℕ))) (text : List ℕ) → is_some o ≡ true
        → option_map (λ t. t.now) o ≡ option_or (option_map (λ t. t.now) o) (Some text)
    known None text e = cc
    known (Some t) text e = refl

    by : (b : Bool) → (face.number == number) ≡ b
        → text_in old number ≡ option_or (text_in old number) (cond b (Some face.text.now) None)
    by true e =
        let same : face.number ≡ number = (Decides-eqb face.number number).0 e in
        known (get_by (nat_cmp number) old) face.text.now (ap (λ (n : ℕ). is_some (get_by (nat_cmp n) old)) (sym same) ∙ there)
    by false e = nothing (text_in old number)

-- the ways up to one more
pub faces_next : (faces : List Lent) (i : ℕ) (d : Lent) (old new : NumberMap) → i < length faces
    → AddsFace (face_of (get_or faces i d)) old new → AreShown (map face_of (take i faces)) old
    → AreShown (map face_of (take (i + 1) faces)) new
faces_next faces i d old new within adds h =
    let face : Lent = get_or faces i d in
    let next : map face_of (take (i + 1) faces) ≡ map face_of (take i faces) ++ face_of face ∷ [] =
    ap (map face_of) (take_more faces i d within) ∙ map-append face_of (take i faces) (face ∷ []) in
    subst (λ (fs : List Face). AreShown fs new) (sym next)
    (λ number. adds number
    ∙ (ap (λ (o : Option (List ℕ)). option_or o (cond (face.number == number) (Some face.text.now) None)) (h number)
    ∙ sym (face_push (map face_of (take i faces)) (face_of face) number)))

-- what is shown of a number
shown_first : (faces : List Face) (number : ℕ) → shown_as faces number ≡ unwrap_or (first_face faces number) []
shown_first [] number = refl
shown_first (face ∷ faces) number = by (face.number == number) (shown_first faces number)
  where
    by : (b : Bool) → shown_as faces number ≡ unwrap_or (first_face faces number) []
        → cond b face.text (shown_as faces number) ≡ unwrap_or (cond b (Some face.text) (first_face faces number)) []
    by true rest = refl
    by false rest = rest

shown_text : (o : Option (Bor (List ℕ))) → text_or o ≡ unwrap_or (option_map (λ text. text.now) o) []
shown_text None = refl
shown_text (Some text) = refl

-- what a map shows of each number
pub all_shown : (faces : List Face) (first : NumberMap) → AreShown faces first → (numbers : List ℕ)
    → map (shown_at first) numbers ≡ map (shown_as faces) numbers
all_shown faces first h [] = refl
all_shown faces first h (number ∷ numbers) =
    ap (λ (t : List ℕ). t ∷ map (shown_at first) numbers)
    (shown_text (get_by (nat_cmp number) first)
    ∙ (ap (λ (o : Option (List ℕ)). unwrap_or o []) (h number) ∙ sym (shown_first faces number)))
    ∙ ap (λ (ts : List (List ℕ)). shown_as faces number ∷ ts) (all_shown faces first h numbers)
