-- The items and parts that are listed are those of the grammar of sets.
use Rattle.std.proofs.Common.{◌≡◌, ◌≢◌, ℕ, zero, suc, List, [], ◌∷◌, drop, Bool, true, false, cond, ◌==◌, ◌&&◌, Option, Some, None, option_map, unwrap_or, is_some, refl, sym, ap, subst, ◌∙◌, arith}
use Rattle.std.proofs.lemmas.Bool.Decides.{nat_tests}
use Rattle.g4_chars.specs.declared.escape.Escape.{Escape}
use Rattle.g4_chars.specs.declared.escape.Context.TheVariants.{Set}
use Rattle.g4_chars.specs.declared.item.Found.{Found}
use Rattle.g4_chars.specs.declared.item.Item.{Item}
use Rattle.g4_chars.specs.declared.item.Item.TheVariants.{Member, Named}
use Rattle.g4_chars.specs.declared.part.Part.TheVariants.{Span}
use Rattle.g4_chars.specs.Escapes.{escape}
use Rattle.g4_chars.specs.Reading.{item_at, items_from, character_of, range_end, parts_from}
use Rattle.g4_chars.specs.SetText.{escaped_item, AreItems, no_item, a_character, an_escape, HasBadEscape, at_once, after_a_character, after_an_escape, EndRange, AreParts, no_part, a_range, one_character, a_property}

-- what an option that is there holds
some_is : {X : Type 0} (x y : X) → Some x ≡ Some y → x ≡ y
some_is x y e = cc

none_some : {X : Type 0} (x : X) → None ≡ Some x → ⊥
none_some x e = absurd cc

-- the first of the items, by an escape or without one
escape_shape : (cs : List ℕ) (f : Found) (rest : List Item) → (o : Option Escape) → o ≡ escape Set cs
    → option_map {U = Found} (λ (e : Escape). record { item = escaped_item e.meaning cs; taken = e.taken }) o ≡ Some f
    → AreItems (drop f.taken cs) rest → AreItems (92 ∷ cs) (f.item ∷ rest)
escape_shape cs f rest None is e more = absurd (none_some f e)
escape_shape cs f rest (Some e) is same more =
    let found : Found = record { item = escaped_item e.meaning cs; taken = e.taken } in
    let found_is : found ≡ f = some_is found f same in
    let P : Found → Type 0 = λ g. AreItems (drop g.taken cs) rest → AreItems (92 ∷ cs) (g.item ∷ rest) in
    subst P found_is (λ left. an_escape cs e rest (sym is) left) more

item_shape : (c : ℕ) (cs : List ℕ) (f : Found) (rest : List Item) → (b : Bool) → b ≡ (c == 92)
    → cond b (option_map {U = Found} (λ (e : Escape). record { item = escaped_item e.meaning cs; taken = e.taken }) (escape Set cs))
    (Some (record { item = Member c true; taken = 0 })) ≡ Some f → AreItems (drop f.taken cs) rest → AreItems (c ∷ cs) (f.item ∷ rest)
item_shape c cs f rest true is same more =
    let backslash : c ≡ 92 = grind (arith, nat_tests) in
    let P : ℕ → Type 0 = λ d. AreItems (d ∷ cs) (f.item ∷ rest) in
    subst P (sym backslash) (escape_shape cs f rest (escape Set cs) refl same more)
item_shape c cs f rest false is same more =
    let other : c ≢ 92 = grind (arith, nat_tests) in
    let found : Found = record { item = Member c true; taken = 0 } in
    let P : Found → Type 0 = λ g. AreItems (drop g.taken cs) rest → AreItems (c ∷ cs) (g.item ∷ rest) in
    subst P (some_is found f same) (λ left. a_character c cs rest other left) more

items_after : (c : ℕ) (cs : List ℕ) (f : Found) (is : List Item) → item_at c cs ≡ Some f → (o : Option (List Item))
    → o ≡ items_from f.taken cs → option_map (λ more. f.item ∷ more) o ≡ Some is
    → ((rest : List Item) → items_from f.taken cs ≡ Some rest → AreItems (drop f.taken cs) rest) → AreItems (c ∷ cs) is
items_after c cs f is at None e same rec = absurd (none_some is same)
items_after c cs f is at (Some rest) e same rec =
    subst (AreItems (c ∷ cs)) (some_is (f.item ∷ rest) is same) (item_shape c cs f rest (c == 92) refl at (rec rest (sym e)))

items_one : (c : ℕ) (cs : List ℕ) (is : List Item) → (o : Option Found) → o ≡ item_at c cs
    → elim o [ None ↦ None | Some found ↦ option_map (λ more. found.item ∷ more) (items_from found.taken cs) ] ≡ Some is
    → ((k : ℕ) (rest : List Item) → items_from k cs ≡ Some rest → AreItems (drop k cs) rest) → AreItems (c ∷ cs) is
items_one c cs is None e same rec = absurd (none_some is same)
items_one c cs is (Some f) e same rec = items_after c cs f is (sym e) (items_from f.taken cs) refl same (rec f.taken)

-- the items that are listed are those of the text
pub items_are : (k : ℕ) (text : List ℕ) (is : List Item) → items_from k text ≡ Some is → AreItems (drop k text) is
items_are zero [] is same = subst (AreItems []) (some_is [] is same) no_item
items_are (suc k) [] is same = subst (AreItems []) (some_is [] is same) no_item
items_are zero (c ∷ cs) is same = items_one c cs is (item_at c cs) refl same (λ k rest e. items_are k cs rest e)
items_are (suc k) (c ∷ cs) is same = items_are k cs is same

-- a first item that is not there is a bad escape
bad_shape : (c : ℕ) (cs : List ℕ) → (b : Bool) → b ≡ (c == 92) → (o : Option Escape) → o ≡ escape Set cs
    → cond b (option_map {U = Found} (λ (e : Escape). record { item = escaped_item e.meaning cs; taken = e.taken }) o)
    (Some (record { item = Member c true; taken = 0 })) ≡ None → HasBadEscape (c ∷ cs)
bad_shape c cs true is None e same =
    let backslash : c ≡ 92 = grind (arith, nat_tests) in
    let P : ℕ → Type 0 = λ d. HasBadEscape (d ∷ cs) in
    subst P (sym backslash) (at_once cs (sym e))
bad_shape c cs true is (Some found) e same = absurd (none_some _ (sym same))
bad_shape c cs false is o e same = absurd (none_some _ (sym same))

-- a bad escape after the first item
later_escape : (cs : List ℕ) (f : Found) → (o : Option Escape) → o ≡ escape Set cs
    → option_map {U = Found} (λ (e : Escape). record { item = escaped_item e.meaning cs; taken = e.taken }) o ≡ Some f
    → HasBadEscape (drop f.taken cs) → HasBadEscape (92 ∷ cs)
later_escape cs f None is e bad = absurd (none_some f e)
later_escape cs f (Some e) is same bad =
    let found : Found = record { item = escaped_item e.meaning cs; taken = e.taken } in
    let P : Found → Type 0 = λ g. HasBadEscape (drop g.taken cs) → HasBadEscape (92 ∷ cs) in
    subst P (some_is found f same) (λ left. after_an_escape cs e (sym is) left) bad

later_shape : (c : ℕ) (cs : List ℕ) (f : Found) → (b : Bool) → b ≡ (c == 92)
    → cond b (option_map {U = Found} (λ (e : Escape). record { item = escaped_item e.meaning cs; taken = e.taken }) (escape Set cs))
    (Some (record { item = Member c true; taken = 0 })) ≡ Some f → HasBadEscape (drop f.taken cs) → HasBadEscape (c ∷ cs)
later_shape c cs f true is same bad =
    let backslash : c ≡ 92 = grind (arith, nat_tests) in
    let P : ℕ → Type 0 = λ d. HasBadEscape (d ∷ cs) in
    subst P (sym backslash) (later_escape cs f (escape Set cs) refl same bad)
later_shape c cs f false is same bad =
    let other : c ≢ 92 = grind (arith, nat_tests) in
    let found : Found = record { item = Member c true; taken = 0 } in
    let P : Found → Type 0 = λ g. HasBadEscape (drop g.taken cs) → HasBadEscape (c ∷ cs) in
    subst P (some_is found f same) (λ left. after_a_character c cs other left) bad

bad_after : (c : ℕ) (cs : List ℕ) (f : Found) → item_at c cs ≡ Some f → (o : Option (List Item)) → o ≡ items_from f.taken cs
    → option_map (λ more. f.item ∷ more) o ≡ None → (items_from f.taken cs ≡ None → HasBadEscape (drop f.taken cs)) → HasBadEscape (c ∷ cs)
bad_after c cs f at None e same rec = later_shape c cs f (c == 92) refl at (rec (sym e))
bad_after c cs f at (Some rest) e same rec = absurd (none_some _ (sym same))

bad_one : (c : ℕ) (cs : List ℕ) → (o : Option Found) → o ≡ item_at c cs
    → ◌≡◌ {A = Option (List Item)} (elim o [
      | None ↦ None
      | Some found ↦ option_map (λ more. found.item ∷ more)
          (items_from found.taken cs)
    ]) None → ((k : ℕ) → items_from k cs ≡ None → HasBadEscape (drop k cs)) → HasBadEscape (c ∷ cs)
bad_one c cs None e same rec = bad_shape c cs (c == 92) refl (escape Set cs) refl (sym e)
bad_one c cs (Some f) e same rec = bad_after c cs f (sym e) (items_from f.taken cs) refl same (rec f.taken)

-- where no items are listed the text has a bad escape
pub bad_is : (k : ℕ) (text : List ℕ) → items_from k text ≡ None → HasBadEscape (drop k text)
bad_is zero [] same = absurd (none_some _ (sym same))
bad_is (suc k) [] same = absurd (none_some _ (sym same))
bad_is zero (c ∷ cs) same = bad_one c cs (item_at c cs) refl same (λ k e. bad_is k cs e)
bad_is (suc k) (c ∷ cs) same = bad_is k cs same

-- a range ends where a hyphen and a character follow its first
end_at : (d : ℕ) (q : Bool) (l : Item) (rest : List Item) (last : ℕ) → (b : Bool) → b ≡ ((d == 45) && q)
    → cond b (character_of l) None ≡ Some last → (p : Bool) × (more : List Item)
    × (Member d q ∷ l ∷ rest ≡ Member 45 true ∷ Member last p ∷ more)
end_at d q l rest last false is same = absurd (none_some last same)
end_at d false l rest last true is same = absurd (grind (arith, nat_tests))
end_at d true (Named complement property) rest last true is same = absurd (none_some last same)
end_at d true (Member x p) rest last true is same =
    let hyphen : d ≡ 45 = grind (arith, nat_tests) in
    let last_is : x ≡ last = some_is x last same in
    (p, rest, cc)

pub end_shape : (is : List Item) (last : ℕ) → range_end is ≡ Some last
    → (p : Bool) × (more : List Item) × (is ≡ Member 45 true ∷ Member last p ∷ more)
end_shape [] last same = absurd (none_some last same)
end_shape (h ∷ []) last same = absurd (none_some last same)
end_shape (Named complement property ∷ l ∷ rest) last same = absurd (none_some last same)
end_shape (Member d q ∷ l ∷ rest) last same = end_at d q l rest last ((d == 45) && q) refl same

no_end : (is : List Item) → range_end is ≡ None → EndRange is → ⊥
no_end is none (last, p, rest, shape) = none_some last (sym none ∙ ap range_end shape)

member_parts : (c : ℕ) (p : Bool) (is : List Item) → ((k : ℕ) → AreParts (drop k is) (parts_from k is)) → (o : Option ℕ)
    → o ≡ range_end is → AreParts (Member c p ∷ is) (Span c (unwrap_or o c) ∷ parts_from (cond (is_some o) 2 0) is)
member_parts c p is rec None e = one_character c p is (parts_from 0 is) (no_end is (sym e)) (rec 0)
member_parts c p is rec (Some last) e =
    let end = end_shape is last (sym e) in
    let P : List Item → Type 0 = λ l. AreParts (drop 2 l) (parts_from 2 l) in
    let Q : List Item → Type 0 = λ l. AreParts (Member c p ∷ l) (Span c last ∷ parts_from 2 l) in
    let shaped : List Item = Member 45 true ∷ Member last end.0 ∷ end.1 in
    subst Q (sym end.2) (a_range c last p end.0 end.1 (parts_from 2 shaped) (subst P end.2 (rec 2)))

-- the parts that are listed are those that the items make
pub parts_are : (k : ℕ) (is : List Item) → AreParts (drop k is) (parts_from k is)
parts_are zero [] = no_part
parts_are (suc k) [] = no_part
parts_are zero (Named complement property ∷ is) = a_property complement property is (parts_from 0 is) (parts_are 0 is)
parts_are zero (Member c p ∷ is) = member_parts c p is (λ k. parts_are k is) (range_end is) refl
parts_are (suc k) (i ∷ is) = parts_are k is
