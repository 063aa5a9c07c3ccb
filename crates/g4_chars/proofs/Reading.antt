-- The items and parts of a text, step by step, and that they are those that its grammar gives.
use Rattle.std.proofs.Common.{◌≡◌, ℕ, zero, suc, ◌+◌, ◌-◌, ◌<◌, List, [], ◌∷◌, ◌++◌, length, get_or, drop, take, Option, Some, None, option_map, refl, sym, ap, ◌∙◌, arith, append_assoc}
use Rattle.std.proofs.lemmas.List.{drop_more, drop-drop, take_rest}
use Rattle.g4_chars.specs.declared.item.Found.{Found}
use Rattle.g4_chars.specs.declared.item.Item.{Item}
use Rattle.g4_chars.specs.declared.part.Part.{Part}
use Rattle.g4_chars.specs.Reading.{item_at, items_from, part_of, more_of, parts_from}

-- the list from an index on
pub from_index : {X : Type 0} (xs : List X) (at : ℕ) (x : X) → at < length xs → x ≡ get_or xs at x
    → drop at xs ≡ x ∷ take (length xs - (at + 1)) (drop (at + 1) xs)
from_index xs at x h read =
    let more = drop_more xs at x h in
    let rest = take_rest xs (at + 1) in
    cc

-- what is left after one and some more
pub further : {X : Type 0} (xs : List X) (at more : ℕ)
    → drop more (take (length xs - (at + 1)) (drop (at + 1) xs)) ≡ drop (at + (1 + more)) xs
further xs at more =
    let rest = take_rest xs (at + 1) in
    let dropped = drop-drop more (at + 1) xs in
    let same : at + (1 + more) ≡ at + 1 + more = omega arith in
    cc

-- items after characters that are passed over
pub items_skip : (k : ℕ) (text : List ℕ) → items_from k text ≡ items_from 0 (drop k text)
items_skip zero text = refl
items_skip (suc k) [] = refl
items_skip (suc k) (c ∷ cs) = items_skip k cs

pub items_step : (c : ℕ) (cs : List ℕ) (f : Found) → item_at c cs ≡ Some f
    → items_from 0 (c ∷ cs) ≡ option_map (λ more. f.item ∷ more) (items_from f.taken cs)
items_step c cs f is = rw (is, items_from) refl

after_one : (out : List Item) (i : Item) (o : Option (List Item))
    → option_map (λ more. (out ++ i ∷ []) ++ more) o ≡ option_map (λ more. out ++ more) (option_map (λ more. i ∷ more) o)
after_one out i None = refl
after_one out i (Some more) = ap Some (append_assoc out (i ∷ []) more)

-- one more item
pub items_more : (text : List ℕ) (at c : ℕ) (out after : List Item) (f : Found) → at < length text → c ≡ get_or text at c
    → item_at c (take (length text - (at + 1)) (drop (at + 1) text)) ≡ Some f → after ≡ out ++ f.item ∷ []
    → option_map (λ more. after ++ more) (items_from 0 (drop (at + (1 + f.taken)) text))
    ≡ option_map (λ more. out ++ more) (items_from 0 (drop at text))
items_more text at c out after f h read is after_is =
    let rest : List ℕ = take (length text - (at + 1)) (drop (at + 1) text) in
    let left : items_from 0 (drop (at + (1 + f.taken)) text) ≡ items_from f.taken rest =
    ap (items_from 0) (sym (further text at f.taken)) ∙ sym (items_skip f.taken rest) in
    let begun : items_from 0 (drop at text) ≡ items_from 0 (c ∷ rest) = ap (items_from 0) (from_index text at c h read) in
    ap (λ (front : List Item). option_map (λ more. front ++ more) (items_from 0 (drop (at + (1 + f.taken)) text))) after_is
    ∙ ap (option_map (λ more. (out ++ f.item ∷ []) ++ more)) left
    ∙ after_one out f.item (items_from f.taken rest)
    ∙ ap (option_map (λ more. out ++ more)) (sym (begun ∙ items_step c rest f is))

-- parts after items that are passed over
pub parts_skip : (k : ℕ) (is : List Item) → parts_from k is ≡ parts_from 0 (drop k is)
parts_skip zero is = refl
parts_skip (suc k) [] = refl
parts_skip (suc k) (i ∷ is) = parts_skip k is

-- one more part
pub parts_more : (is : List Item) (at more : ℕ) (out after : List Part) (p : Part) (d : Item) → at < length is
    → p ≡ part_of (get_or is at d) (take (length is - (at + 1)) (drop (at + 1) is))
    → more ≡ more_of (get_or is at d) (take (length is - (at + 1)) (drop (at + 1) is)) → after ≡ out ++ p ∷ []
    → after ++ parts_from 0 (drop (at + (1 + more)) is) ≡ out ++ parts_from 0 (drop at is)
parts_more is at more out after p d h part_is more_is after_is =
    let i = get_or is at d in
    let rest : List Item = drop (at + 1) is in
    let rest_is : take (length is - (at + 1)) (drop (at + 1) is) ≡ rest = take_rest is (at + 1) in
    let one : parts_from 0 (drop at is) ≡ part_of i rest ∷ parts_from (more_of i rest) rest = ap (parts_from 0) (drop_more is at d h) in
    let skipped : parts_from (more_of i rest) rest ≡ parts_from 0 (drop (more_of i rest) rest) = parts_skip (more_of i rest) rest in
    let dropped : drop more rest ≡ drop (at + 1 + more) is = drop-drop more (at + 1) is in
    let same : at + (1 + more) ≡ at + 1 + more = omega arith in
    let same_part : p ≡ part_of i rest = part_is ∙ ap (part_of i) rest_is in
    let same_more : more ≡ more_of i rest = more_is ∙ ap (more_of i) rest_is in
    let joined : (out ++ (p ∷ [])) ++ parts_from 0 (drop (at + (1 + more)) is)
    ≡ out ++ ((p ∷ []) ++ parts_from 0 (drop (at + (1 + more)) is)) =
    append_assoc out (p ∷ []) (parts_from 0 (drop (at + (1 + more)) is)) in
    cc
