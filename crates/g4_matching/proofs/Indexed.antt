-- Lists in which entries are found by their keys.
use Rattle.std.proofs.Common.{◌≡◌, ℕ, suc, ◌<◌, ◌≤◌, ◌⊎◌, inl, inr, List, [], ◌∷◌, ◌++◌, Option, Some, None, length, slice_get, take, length-append, refl, sym, ◌∙◌, ap, subst, arith}
use Rattle.std.proofs.lemmas.List.{take-append-le, take_at, take_all}
use Rattle.std.proofs.lemmas.Option.{slice_get_within}
use Rattle.g4_ordered.specs.Configurations.{In}
use Rattle.g4_matching.specs.declared.entry.Entry.{Entry}
use Rattle.g4_matching.specs.Listed.{IsAt, IsNewest, IsIndexed, key_of}
use Rattle.g4_matching.specs.Places.{Keeps, IsSet}
use Rattle.g4_matching.proofs.Lookups.{same_some, at_left, at_last, at_cases, in_front, to_front, at_in}

-- two numbers are the same or not
pub same_or_not : (a b : ℕ) → (a ≡ b) ⊎ (a ≡ b → ⊥)
same_or_not a b = go (tells a b)
  where
    tells : (a b : ℕ) → (a ≡ b) ⊎ ((a < b) ⊎ (b < a))
    tells a b = grind arith

    go : (a ≡ b) ⊎ ((a < b) ⊎ (b < a)) → (a ≡ b) ⊎ (a ≡ b → ⊥)
    go (inl e) = inl e
    go (inr (inl lt)) = inr (λ e. absurd (omega arith))
    go (inr (inr lt)) = inr (λ e. absurd (omega arith))

module _ (list : List Entry) (earlier : List (Option ℕ)) (newest : List ℕ) (indexed : IsIndexed list earlier newest) where
  -- a key with no place has no entry
  pub none_noted : (state : ℕ) (o : Option ℕ) → slice_get newest state ≡ None → o ≡ None → IsNewest list state o
  none_noted state o is none = subst (IsNewest list state) (sym none)
      (λ k at. let n = indexed.noted state k at in let e = n.1 in absurd (cc))

  -- nor has one whose place is past the list
  pub none_there : (state place : ℕ) (o : Option ℕ) → slice_get newest state ≡ Some place → slice_get list place ≡ None → o ≡ None
      → IsNewest list state o
  none_there state place o is past none = subst (IsNewest list state) (sym none) (λ k at.
      let n = indexed.noted state k at in
      let same = same_some n.0 place (sym n.1 ∙ is) in
      let here : slice_get list place ≡ Some n.2.0.0 = ap (slice_get list) (sym same) ∙ n.2.0.1 in
      absurd (cc))

  -- nor one whose place has an entry with another key
  pub none_of_state : (state place : ℕ) (e : Entry) → slice_get newest state ≡ Some place → slice_get list place ≡ Some e
      → ((key_of e) ≡ state → ⊥) → IsNewest list state None
  none_of_state state place e is there other k at =
      let n = indexed.noted state k at in
      let same = same_some n.0 place (sym n.1 ∙ is) in
      let entry = same_some n.2.0.0 e (sym n.2.0.1 ∙ ap (slice_get list) same ∙ there) in
      other (ap key_of (sym entry) ∙ n.2.0.2)

  -- a place that has one with the key is that of the newest
  pub newest_there : (state place : ℕ) (e : Entry) → slice_get newest state ≡ Some place → slice_get list place ≡ Some e
      → (key_of e) ≡ state → IsNewest list state (Some place)
  newest_there state place e is there at = (
    (e, there, at),
    λ k at_k.
        let n = indexed.noted state k at_k in
        let same = same_some n.0 place (sym n.1 ∙ is) in
        let le = n.2.1 k at_k in
        omega arith,
  )

-- places that stay are right
pub still_indexed : (list : List Entry) (earlier : List (Option ℕ)) (newest newest' : List ℕ) → IsIndexed list earlier newest
    → Keeps newest newest' → IsIndexed list earlier newest'
still_indexed list earlier newest newest' h keeps = record {
  as_many = h.as_many;
  linked = h.linked;
  noted = λ state k at. let n = h.noted state k at in (n.0, keeps state n.0 n.1, n.2);
}

-- a list with one entry more
pub one_more : (list : List Entry) (earlier : List (Option ℕ)) (newest newest' : List ℕ) (e : Entry) (before : Option ℕ)
    → IsIndexed list earlier newest → IsNewest list (key_of e) before → IsSet newest (key_of e) (length list) newest'
    → IsIndexed (list ++ e ∷ []) (earlier ++ before ∷ []) newest'
one_more list earlier newest newest' e before h is_before set = record { as_many = many; linked = linked; noted = noted }
  where
    many : length (earlier ++ before ∷ []) ≡ length (list ++ e ∷ [])
    many = let a = length-append list (e ∷ []) in let b = length-append earlier (before ∷ []) in let c = h.as_many in omega arith

    linked : (k : ℕ) (x : Entry) (link : Option ℕ) → slice_get (list ++ e ∷ []) k ≡ Some x
        → slice_get (earlier ++ before ∷ []) k ≡ Some link → IsNewest (take k (list ++ e ∷ [])) (key_of x) link
    linked k x link at by = go (at_cases list e x k at) (at_cases earlier before link k by)
      where
        go : (slice_get list k ≡ Some x) ⊎ ((k ≡ length list) × (e ≡ x))
            → (slice_get earlier k ≡ Some link) ⊎ ((k ≡ length earlier) × (before ≡ link))
            → IsNewest (take k (list ++ e ∷ [])) (key_of x) link
        go (inl old) (inl old_link) =
            let lt = slice_get_within list k x old in
            subst (λ (l : List Entry). IsNewest l (key_of x) link) (sym (take-append-le k list (e ∷ []) (omega arith)))
            (h.linked k x link old old_link)
        go (inl old) (inr new_link) = let lt = slice_get_within list k x old in let m = h.as_many in let l = new_link.0 in
            absurd (omega arith)
        go (inr new) (inl old_link) = let lt = slice_get_within earlier k link old_link in let m = h.as_many in let l = new.0 in
            absurd (omega arith)
        go (inr new) (inr new_link) =
            let front : take k (list ++ e ∷ []) ≡ list = take_at list (e ∷ []) k (sym new.0) in
            subst (λ (l : List Entry). IsNewest l (key_of x) link) (sym front)
            (subst (λ (y : Entry). IsNewest list (key_of y) link) new.1 (subst (IsNewest list (key_of e)) new_link.1 is_before))

    within : (k state : ℕ) → IsAt (list ++ e ∷ []) state k → k ≤ length list
    within k state at = let lt = slice_get_within (list ++ e ∷ []) k at.0 at.1 in let n = length-append list (e ∷ []) in omega arith

    old_at : (state k : ℕ) → ((key_of e) ≡ state → ⊥) → IsAt (list ++ e ∷ []) state k → IsAt list state k
    old_at state k other at = elim (at_cases list e at.0 k at.1) [
      | inl old ↦ (at.0, old, at.2)
      | inr new ↦ absurd (other (ap key_of new.1 ∙ at.2))
    ]

    noted : (state k : ℕ) → IsAt (list ++ e ∷ []) state k
        → (place : ℕ) × (slice_get newest' state ≡ Some place) × IsNewest (list ++ e ∷ []) state (Some place)
    noted state k at = go (same_or_not (key_of e) state)
      where
        go : ((key_of e) ≡ state) ⊎ ((key_of e) ≡ state → ⊥)
            → (place : ℕ) × (slice_get newest' state ≡ Some place) × IsNewest (list ++ e ∷ []) state (Some place)
        go (inl same) = (
          length list,
          ap (slice_get newest') (sym same) ∙ set.set,
          ((e, at_last list e, same), λ j at_j. within j state at_j),
        )
        go (inr other) =
            let n = h.noted state k (old_at state k other at) in (
              n.0,
              set.keeps state n.0 (λ is. other (sym is)) n.1,
              ((n.2.0.0, at_left list (e ∷ []) n.0 n.2.0.0 n.2.0.1, n.2.0.2), λ j at_j. n.2.1 j (old_at state j other at_j)),
            )

-- how many links may still be gone back
abbrev pub left : Option ℕ → ℕ
left None = 0
left (Some place) = suc place

-- what the search for an entry keeps: where it looks next, and that it need not look past there
pub record Searching (list : List Entry) (e : Entry) (next : Option ℕ) : Type 0 where
  pub front : ℕ
  pub newest : IsNewest (take front list) (key_of e) next
  pub not_past : (k : ℕ) → slice_get list k ≡ Some e → k < front

-- it begins with the newest
pub begins : (list : List Entry) (e : Entry) (next : Option ℕ) → IsNewest list (key_of e) next → Searching list e next
begins list e next h = record {
  front = length list;
  newest = subst (λ (l : List Entry). IsNewest l (key_of e) next) (sym (take_all (length list) list (omega arith))) h;
  not_past = λ k at. slice_get_within list k e at;
}

-- and its place is one of the list
pub within : (list : List Entry) (e : Entry) (place : ℕ) → Searching list e (Some place) → place < length list
within list e place h = let f = in_front h.front list place h.newest.0.0 h.newest.0.1 in slice_get_within list place h.newest.0.0 f.1

-- goes back along a link, where the entry is another
pub goes_back : (list : List Entry) (earlier : List (Option ℕ)) (newest : List ℕ) (e x : Entry) (place : ℕ) (link : Option ℕ)
    → IsIndexed list earlier newest → slice_get list place ≡ Some x → slice_get earlier place ≡ Some link → (x ≡ e → ⊥)
    → Searching list e (Some place) → Searching list e link
goes_back list earlier newest e x place link indexed there by other h = record {
  front = place;
  newest = subst (λ (s : ℕ). IsNewest (take place list) s link) state (indexed.linked place x link there by);
  not_past = λ k at. strictly k at (h.newest.1 k (e, to_front h.front list k e (h.not_past k at) at, refl));
}
  where
    state : (key_of x) ≡ (key_of e)
    state = let f = in_front h.front list place h.newest.0.0 h.newest.0.1 in
        ap key_of (same_some x h.newest.0.0 (sym there ∙ f.1)) ∙ h.newest.0.2

    strictly : (k : ℕ) → slice_get list k ≡ Some e → k ≤ place → k < place
    strictly k at le = elim (same_or_not k place) [
      | inl same ↦ absurd (other (same_some x e (sym there ∙ ap (slice_get list) (sym same) ∙ at)))
      | inr differ ↦ below k differ le
    ]
      where
        below : (k : ℕ) → (k ≡ place → ⊥) → k ≤ place → k < place
        below k differ le = grind arith

-- which leads to a lesser place
pub link_falls : (list : List Entry) (earlier : List (Option ℕ)) (newest : List ℕ) (x : Entry) (place : ℕ) (link : Option ℕ)
    → IsIndexed list earlier newest → slice_get list place ≡ Some x → slice_get earlier place ≡ Some link → left link < suc place
link_falls list earlier newest x place link indexed there by = go link (indexed.linked place x link there by)
  where
    go : (o : Option ℕ) → IsNewest (take place list) (key_of x) o → left o < suc place
    go None h = omega arith
    go (Some q) h = let f = (in_front place list q h.0.0 h.0.1).0 in omega arith

-- and ends where there is no link
pub not_in : (list : List Entry) (e : Entry) → Searching list e None → In e list → ⊥
not_in list e h i = let k = at_in list e i in h.newest k.0 (e, to_front h.front list k.0 e (h.not_past k.0 k.1) k.1, refl)
