-- The bounds of ranges, one after another.
use Rattle.std.proofs.Common.{◌≡◌, ℕ, ◌+◌, ◌<◌, List, [], ◌∷◌, ◌++◌, length, get_or, take, append_assoc, refl, sym, ◌∙◌, ap}
use Rattle.std.proofs.lemmas.List.{take_more}
use Rattle.g4_chars.specs.declared.range.Range.{Range}
use Rattle.g4_matching.specs.Bounds.{bounds_of}

-- of ranges and some more
pub of_append : (rs ss : List Range) → bounds_of (rs ++ ss) ≡ bounds_of rs ++ bounds_of ss
of_append [] ss = refl
of_append (r ∷ rs) ss = ap (λ l. r.first ∷ (r.last + 1) ∷ l) (of_append rs ss)

-- of ranges and one more
pub one_range : (old new after : List ℕ) (rs : List Range) (i : ℕ) (r : Range) → i < length rs → r ≡ get_or rs i r
    → old ≡ after ++ bounds_of (take i rs) → new ≡ (old ++ r.first ∷ []) ++ (r.last + 1) ∷ [] → new ≡ after ++ bounds_of (take (i + 1) rs)
one_range old new after rs i r lt is h e =
    let more : bounds_of (take (i + 1) rs) ≡ bounds_of (take i rs) ++ bounds_of (r ∷ []) =
    ap bounds_of (take_more rs i r lt ∙ ap (λ (x : Range). take i rs ++ x ∷ []) (sym is)) ∙ of_append (take i rs) (r ∷ []) in
    e ∙ append_assoc old (r.first ∷ []) ((r.last + 1) ∷ []) ∙ ap (λ l. l ++ r.first ∷ (r.last + 1) ∷ []) h
    ∙ append_assoc after (bounds_of (take i rs)) (r.first ∷ (r.last + 1) ∷ []) ∙ ap (λ l. after ++ l) (sym more)
