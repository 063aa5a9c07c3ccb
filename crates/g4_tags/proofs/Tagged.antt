-- The tag that is found from left to right is the one that the text begins with, and there is no other.
use Rattle.std.proofs.Common.{◌≡◌, ◌<◌, ◌≤◌, ℕ, ◌+◌, inl, inr, List, [], ◌∷◌, ◌++◌, true, eqb, Option, Some, None, length, take, drop, slice_get, refl, sym, ◌∙◌, ap, subst, arith, append_assoc, encode_utf8_all}
use Rattle.std.proofs.lemmas.Bool.{cases_Bool, cond-true, cond-false}
use Rattle.std.proofs.lemmas.List.{length-take-le, drop-drop, length-drop}
use Rattle.std.proofs.lemmas.Option.{same_Some, slice_get_within}
use Rattle.g4_tags.specs.Found.{closed_by, labelled_by, name_end, tag_by, tag_found, tag_from, tag_named, tag_numbered}
use Rattle.g4_tags.specs.Names.{IsLabel, IsName}
use Rattle.g4_tags.specs.Signs.{IsSign, label_written, tag_written}
use Rattle.g4_tags.specs.declared.sign.Sign.TheVariants.{Tagged}
use Rattle.g4_tags.specs.declared.tag.FoundTag.{FoundTag}
use Rattle.g4_tags.specs.declared.tag.Tag.{Tag}
use Rattle.g4_tags.proofs.Cuts.{cut_at, drop_past, slice_get_at, tail_is, take_front}
use Rattle.g4_tags.proofs.Names.{bracket_stops, colon_stops, is_name, name_ends}

-- the text begins with this name, which goes no further, and then this follows
pub record BeginsWithName (text name rest : List ℕ) : Type 0 where
  pub cut : text ≡ name ++ rest
  pub longest : name_end text ≡ Some (length name)

-- the names of a tag, and `>`, are what the text begins with, and then the rest follows
abbrev pub AreNames : Option (List ℕ) → List ℕ → List ℕ → List ℕ → Type 0
AreNames None name text rest = BeginsWithName text name (62 ∷ rest)
AreNames (Some label) name text rest = (after : List ℕ) × BeginsWithName text label (58 ∷ after) × BeginsWithName after name (62 ∷ rest)

-- what is written of a tag after its `<`
written_is : (label : Option (List ℕ)) (name rest : List ℕ)
    → tag_written label name ++ rest ≡ 60 ∷ (label_written label ++ (name ++ 62 ∷ rest))
written_is label name rest =
    ap (λ r. 60 ∷ r) (append_assoc (label_written label ++ name) (62 ∷ []) rest ∙ append_assoc (label_written label) name (62 ∷ rest))

-- names that a text begins with are written there
are_names : (label : Option (List ℕ)) (name text rest : List ℕ) → AreNames label name text rest
    → IsLabel label × IsName name × (text ≡ label_written label ++ (name ++ 62 ∷ rest))
are_names None name text rest b = (tt, is_name 62 rest name (ap name_end (sym b.cut) ∙ b.longest), b.cut)
are_names (Some label) name text rest (after, a, b) = (
  is_name 58 after label (ap name_end (sym a.cut) ∙ a.longest),
  is_name 62 rest name (ap name_end (sym b.cut) ∙ b.longest),
  a.cut ∙ ap (λ r. label ++ 58 ∷ r) b.cut ∙ sym (append_assoc label (58 ∷ []) (name ++ 62 ∷ rest)),
)

-- and where they are written, the text begins with them
begins_with : (label : Option (List ℕ)) (name text rest : List ℕ) → IsLabel label → IsName name
    → text ≡ label_written label ++ (name ++ 62 ∷ rest) → AreNames label name text rest
begins_with None name text rest l n cut =
    record { cut = cut; longest = ap name_end cut ∙ name_ends 62 rest bracket_stops name n }
begins_with (Some label) name text rest l n cut =
    let whole : text ≡ label ++ 58 ∷ (name ++ 62 ∷ rest) = cut ∙ append_assoc label (58 ∷ []) (name ++ 62 ∷ rest) in (
      name ++ 62 ∷ rest,
      record { cut = whole; longest = ap name_end whole ∙ name_ends 58 (name ++ 62 ∷ rest) colon_stops label l },
      record { cut = refl; longest = name_ends 62 rest bracket_stops name n },
    )

-- the test for a character
is_it : (c d : ℕ) → eqb c d ≡ true → c ≡ d
is_it c d h = grind (arith, h)

-- a name that ends before this character
pub begins : (text : List ℕ) (n c : ℕ) → name_end text ≡ Some n → slice_get text n ≡ Some c
    → BeginsWithName text (take n text) (c ∷ drop (n + 1) text)
begins text n c ends is =
    let within : n < length text = slice_get_within text n c is in
    let long : length (take n text) ≡ n = length-take-le n text (omega (arith, within)) in
    record { cut = cut_at text n c is; longest = ends ∙ ap (λ m. Some m) (sym long) }

-- there is none
absurd_none : {X Y : Type 0} (x : X) → None ≡ Some x → Y
absurd_none x is = absurd (let n : ⊥ = cc in n)

module _ (number : List ℕ → Option ℕ) where
  -- the text begins with the tag, but for its `<`
  pub record IsTagAt (tag : Tag) (text rest : List ℕ) : Type 0 where
    pub names : AreNames tag.label tag.name text rest
    pub known : number (encode_utf8_all tag.name) ≡ Some tag.named

  -- such a tag is a sign
  pub tag_is : (tag : Tag) (text rest : List ℕ) → IsTagAt tag text rest → IsSign number (Tagged tag) (60 ∷ text) rest
  tag_is tag text rest h =
      let n = are_names tag.label tag.name text rest h.names in (
        ap (λ r. 60 ∷ r) n.2 ∙ sym (written_is tag.label tag.name rest),
        record { label = n.0; name = n.1; known = h.known },
      )

  pub tag_at : (tag : Tag) (text rest : List ℕ) → IsSign number (Tagged tag) (60 ∷ text) rest → IsTagAt tag text rest
  tag_at tag text rest (is, t) =
      let cut = tail_is 60 60 text (label_written tag.label ++ (tag.name ++ 62 ∷ rest)) (is ∙ written_is tag.label tag.name rest) in
      record { names = begins_with tag.label tag.name text rest t.label t.name cut; known = t.known }

  -- what is found of a tag: it is the one that the text begins with
  pub record Found (text : List ℕ) (f : FoundTag) : Type 0 where
    pub is : IsTagAt f.tag text (drop f.width text)
    pub within : f.width ≤ length text

  found_named : (text : List ℕ) (label : Option (List ℕ)) (name : List ℕ) (width : ℕ) (f : FoundTag) → AreNames label name text
      (drop width text)
      → width ≤ length text → (o : Option ℕ) → number (encode_utf8_all name) ≡ o → tag_numbered label name width o ≡ Some f → Found text f
  found_named text label name width f names within None e is = absurd_none f is
  found_named text label name width f names within (Some k) e is =
      let here : FoundTag = record { tag = record { label = label; name = name; named = k }; width = width } in
      subst (Found text) (same_Some here f is) (record { is = record { names = names; known = e }; within = within })

  found_closed : (text : List ℕ) (n m : ℕ) (f : FoundTag) → name_end text ≡ Some n → slice_get text n ≡ Some 58
      → name_end (drop (n + 1) text) ≡ Some m → (o : Option ℕ) → slice_get (drop (n + 1) text) m ≡ o → closed_by number text n m o ≡ Some f
      → Found text f
  found_closed text n m f one colon two None e is = absurd_none f is
  found_closed text n m f one colon two (Some c) e is = elim (cases_Bool (eqb c 62)) [
    | inl t ↦ (
        let after = drop (n + 1) text in
        let same : c ≡ 62 = is_it c 62 t in
        let b = begins after m c two e in
        let longer = slice_get_within after m c e in
        let left = length-drop (n + 1) text in
        let sum : n + 1 + (m + 1) ≡ n + m + 2 = omega arith in
        let rest_is : drop (m + 1) after ≡ drop (n + m + 2) text =
        drop-drop (m + 1) (n + 1) text ∙ ap (λ k. drop k text) sum in
        found_named text (Some (take n text)) (take m after) (n + m + 2) f (
          after,
          begins text n 58 one colon,
          subst (λ (r : List ℕ). BeginsWithName after (take m after) (62 ∷ r)) rest_is
              (subst (λ (x : ℕ). BeginsWithName after (take m after) (x ∷ drop (m + 1) after)) same b),
        )
        (omega (arith, longer, left)) (number (encode_utf8_all (take m after))) refl
        (sym (cond-true (eqb c 62) (tag_named number (Some (take n text)) (take m after) (n + m + 2)) None t) ∙ is)
        )
    | inr differs ↦ absurd_none f (sym (cond-false (eqb c 62) (tag_named number (Some (take n text)) (take m (drop (n + 1) text))
        (n + m + 2)) None differs) ∙ is)
  ]

  found_labelled : (text : List ℕ) (n : ℕ) (f : FoundTag) → name_end text ≡ Some n → slice_get text n ≡ Some 58
      → (o : Option ℕ) → name_end (drop (n + 1) text) ≡ o → labelled_by number text n o ≡ Some f → Found text f
  found_labelled text n f one colon None e is = absurd_none f is
  found_labelled text n f one colon (Some m) e is =
      found_closed text n m f one colon e (slice_get (drop (n + 1) text) m) refl is

  found_by : (text : List ℕ) (n : ℕ) (f : FoundTag) → name_end text ≡ Some n → (o : Option ℕ) → slice_get text n ≡ o
      → tag_by number text n o ≡ Some f → Found text f
  found_by text n f one None e is = absurd_none f is
  found_by text n f one (Some c) e is = elim (cases_Bool (eqb c 62)) [
    | inl t ↦ (
        let same : c ≡ 62 = is_it c 62 t in
        let within = slice_get_within text n c e in
        found_named text None (take n text) (n + 1) f
        (subst (λ (x : ℕ). BeginsWithName text (take n text) (x ∷ drop (n + 1) text)) same (begins text n c one e))
        (omega (arith, within)) (number (encode_utf8_all (take n text))) refl (sym (cond-true (eqb c 62) _ _ t) ∙ is)
        )
    | inr differs ↦ elim (cases_Bool (eqb c 58)) [
      | inl colon ↦ found_labelled text n f one (e ∙ ap (λ x. Some x) (is_it c 58 colon)) (name_end (drop (n + 1) text)) refl
          (sym (cond-false (eqb c 62) _ _ differs ∙ cond-true (eqb c 58) _ _ colon) ∙ is)
      | inr other ↦ absurd_none f (sym (cond-false (eqb c 62) _ _ differs ∙ cond-false (eqb c 58) _ _ other) ∙ is)
    ]
  ]

  -- a tag that is found is one
  pub tag_sound : (text : List ℕ) (f : FoundTag) → tag_found number text ≡ Some f → Found text f
  tag_sound text f is = by (name_end text) refl is
    where
      by : (o : Option ℕ) → name_end text ≡ o → tag_from number text o ≡ Some f → Found text f
      by None e at = absurd_none f at
      by (Some n) e at = found_by text n f e (slice_get text n) refl at

  -- how a tag is found
  pub record IsFound (tag : Tag) (text rest : List ℕ) : Type 0 where
    pub width : ℕ
    pub found : tag_found number text ≡ Some (record { tag = tag; width = width })
    pub left : rest ≡ drop width text

  -- what is known of a name that the text begins with
  names_end : (text name : List ℕ) (c : ℕ) (rest : List ℕ) → BeginsWithName text name (c ∷ rest)
      → (slice_get text (length name) ≡ Some c) × (take (length name) text ≡ name) × (drop (length name + 1) text ≡ rest)
  names_end text name c rest b =
      let P = λ (t : List ℕ). (slice_get t (length name) ≡ Some c) × (take (length name) t ≡ name) × (drop (length name + 1) t ≡ rest) in
      subst P (sym b.cut) (slice_get_at name rest c, take_front name (c ∷ rest), drop_past name rest c)

  -- a tag that the text begins with is found
  pub tag_complete : (tag : Tag) (text rest : List ℕ) → IsTagAt tag text rest → IsFound tag text rest
  tag_complete tag text rest h = by tag.label refl h.names
    where
      by : (l : Option (List ℕ)) → tag.label ≡ l → AreNames l tag.name text rest → IsFound tag text rest
      by None e b =
          let n = length tag.name in
          let ends = names_end text tag.name 62 rest b in
          let named : number (encode_utf8_all (take n text)) ≡ Some tag.named =
          ap (λ (w : List ℕ). number (encode_utf8_all w)) ends.1 ∙ h.known in
          record {
            width = n + 1;
            found = ap (tag_from number text) b.longest ∙ ap (tag_by number text n) ends.0
                ∙ ap (tag_numbered None (take n text) (n + 1)) named
                ∙ ap (λ (q : Option (List ℕ) × List ℕ). Some
                (record { tag = record { label = q.0; name = q.1; named = tag.named }; width = n + 1 }))
                (λ i. (sym e i, ends.1 i));
            left = sym ends.2;
          }
      by (Some label) e (after, a, b) =
          let n = length label in
          let m = length tag.name in
          let sum : n + 1 + (m + 1) ≡ n + m + 2 = omega arith in
          let first = names_end text label 58 after a in
          let second = names_end after tag.name 62 rest b in
          let rest_of : drop (n + 1) text ≡ after = first.2 in
          let name_is : take m (drop (n + 1) text) ≡ tag.name = ap (take m) rest_of ∙ second.1 in
          let named : number (encode_utf8_all (take m (drop (n + 1) text))) ≡ Some tag.named =
          ap (λ (w : List ℕ). number (encode_utf8_all w)) name_is ∙ h.known in
          record {
            width = n + m + 2;
            found = ap (tag_from number text) a.longest ∙ ap (tag_by number text n) first.0
                ∙ ap (labelled_by number text n) (ap name_end rest_of ∙ b.longest)
                ∙ ap (closed_by number text n m) (ap (λ r. slice_get r m) rest_of ∙ second.0)
                ∙ ap (tag_numbered (Some (take n text)) (take m (drop (n + 1) text)) (n + m + 2)) named
                ∙ ap (λ (q : Option (List ℕ) × List ℕ). Some
                (record { tag = record { label = q.0; name = q.1; named = tag.named }; width = n + m + 2 }))
                (λ i. ((ap (λ w. Some w) first.1 ∙ sym e) i, name_is i));
            left = sym second.2 ∙ ap (drop (m + 1)) (sym rest_of) ∙ drop-drop (m + 1) (n + 1) text
                ∙ ap (λ k. drop k text) sum;
          }
