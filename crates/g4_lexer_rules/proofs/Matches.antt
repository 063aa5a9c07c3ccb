-- The set of an atom has exactly the characters that the atom matches.
use Rattle.std.proofs.Common.{◌≡◌, ◌↔◌, ℕ, ◌+◌, ◌<◌, ◌≤◌, inl, inr, List, [], ◌∷◌, refl, sym, subst, arith, cond, Bool, true, false}
use Rattle.std.specs.Str.{bytes_eq}
use Rattle.std.proofs.Common.{codes}
use Rattle.g4_chars.specs.declared.range.Range.{Range}
use Rattle.g4_chars.specs.Building.{scalars, gaps}
use Rattle.g4_chars.specs.CharSets.{Has, IsScalar}
use Rattle.g4_chars.proofs.Ranges.{scalars_has, gaps_has, rise_scalar}
use Rattle.g4_source.specs.Elements.{atom}
use Rattle.g4_source.specs.declared.atom.AtomKind.{AtomKind}
use Rattle.g4_source.specs.declared.atom.AtomKind.TheVariants as kinds
use Rattle.g4_grammar.specs.Written.{IsBetween, MatchesKind}
use Rattle.g4_lexer_rules.specs.declared.step.LexerStep.{LexerStep}
use Rattle.g4_lexer_rules.specs.declared.step.LexerStep.TheVariants.{Set, AtEnd, Call, Empty}
use Rattle.g4_lexer_rules.specs.Steps.{element_of_kind, reference, spanned, SetIsCanonical}

-- a scalar value is below the last code point
scalar_low : (c : ℕ) → IsScalar c → c < 0x110000
scalar_low c (inl low) = omega arith
scalar_low c (inr high) = high.1

-- the characters between those of two literals
spanned_has : (first last : List ℕ) (c : ℕ) → Has (spanned first last) c
    ↔ (IsScalar c × ((a b : ℕ) × (first ≡ a ∷ []) × (last ≡ b ∷ []) × (a ≤ c) × (c ≤ b)))
spanned_has [] last c = (λ h. absurd h, λ (scalar, (a, b, is, other, low, high)). absurd (let k : ⊥ = cc in k))
spanned_has (x ∷ []) [] c = (λ h. absurd h, λ (scalar, (a, b, is, other, low, high)). absurd (let k : ⊥ = cc in k))
spanned_has (x ∷ []) (y ∷ []) c =
    let all = scalars_has x (y + 1) c in (
      λ h. let w = all.0 h in (w.2, (x, y, refl, refl, w.0, omega (arith, w.1))),
      λ (scalar, (a, b, first, last, low, high)).
          all.1 (let same : x ≡ a = cc in omega (arith, same, low), let same : y ≡ b = cc in omega (arith, same, high), scalar),
    )
spanned_has (x ∷ []) (y ∷ z ∷ zs) c = (λ h. absurd h, λ (scalar, (a, b, is, other, low, high)). absurd (let k : ⊥ = cc in k))
spanned_has (x ∷ y ∷ zs) last c = (λ h. absurd h, λ (scalar, (a, b, is, other, low, high)). absurd (let k : ⊥ = cc in k))

-- a reference is no set
no_set : (b : Bool) (k : ℕ) (set : List Range) → cond b AtEnd (Call k) ≡ Set set → ⊥
no_set true k set is = let n : ⊥ = cc in n
no_set false k set is = let n : ⊥ = cc in n

-- the step of an atom
inside : (x y : LexerStep) → atom x ≡ atom y → x ≡ y
inside x y e = cc

-- the set of a step
set_of : (xs ys : List Range) → Set xs ≡ Set ys → xs ≡ ys
set_of xs ys e = cc

-- no block is an atom, and nothing is no set
pub sets_match : (names : List (List ℕ)) (kind : AtomKind) (set : List Range) → SetIsCanonical kind
    → element_of_kind names kind ≡ atom (Set set) → (c : ℕ) → Has set c ↔ (IsScalar c × MatchesKind kind (c ∷ []))
sets_match names (kinds.Rule name) set canonical is c = let same = set_of [] set (inside (Set []) (Set set) is) in
    (λ h. absurd (subst (λ (xs : List Range). Has xs c) (sym same) h), λ h. absurd h.1)
sets_match names (kinds.Token name) set canonical is c =
    absurd (no_set (bytes_eq name.text (codes "EOF")) _ set (inside (reference names name.text) (Set set) is))
sets_match names (kinds.Literal literal) set canonical is c = absurd (let n : ⊥ = cc in n)
sets_match names (kinds.Range first last) set canonical is c =
    let same = set_of (spanned first.characters last.characters) set
    (inside (Set (spanned first.characters last.characters)) (Set set) is) in
    let all = spanned_has first.characters last.characters c in (
      λ h. let w = all.0 (subst (λ (xs : List Range). Has xs c) (sym same) h) in (w.0, (c, refl, w.1)),
      λ (scalar, (a, one, between)). subst (λ (xs : List Range). Has xs c) same
          (all.1 (scalar, subst (IsBetween first last) (let e : a ≡ c = cc in e) between)),
    )
sets_match names (kinds.Set own) set canonical is c =
    let same = set_of own set (inside (Set own) (Set set) is) in (
      λ h. let w = subst (λ (xs : List Range). Has xs c) (sym same) h in (rise_scalar 0 own c canonical w, (c, refl, w)),
      λ (scalar, (a, one, has)). subst (λ (xs : List Range). Has xs c) same (subst (Has own) (let e : a ≡ c = cc in e) has),
    )
sets_match names kinds.Any set canonical is c =
    let same = set_of (scalars 0 0x110000) set (inside (Set (scalars 0 0x110000)) (Set set) is) in
    let all = scalars_has 0 0x110000 c in (
      λ h. let w = all.0 (subst (λ (xs : List Range). Has xs c) (sym same) h) in (w.2, (c, refl)),
      λ (scalar, more). subst (λ (xs : List Range). Has xs c) same (all.1 (omega arith, scalar_low c scalar, scalar)),
    )
sets_match names (kinds.NotTokens tokens) set canonical is c = let same = set_of [] set (inside (Set []) (Set set) is) in
    (λ h. absurd (subst (λ (xs : List Range). Has xs c) (sym same) h), λ h. absurd h.1)
sets_match names (kinds.NotCharacters own) set canonical is c =
    let same = set_of (gaps 0 own) set (inside (Set (gaps 0 own)) (Set set) is) in
    let all = gaps_has 0 own c canonical in (
      λ h. let w = all.0 (subst (λ (xs : List Range). Has xs c) (sym same) h) in (w.1, (c, refl, w.2)),
      λ (scalar, (a, one, not)). subst (λ (xs : List Range). Has xs c) same
          (all.1 (omega arith, scalar, λ has. not (subst (Has own) (let e : c ≡ a = cc in e) has))),
    )
sets_match names kinds.Action set canonical is c = absurd (let e = inside Empty (Set set) is in let n : ⊥ = cc in n)
sets_match names (kinds.Predicate name) set canonical is c = absurd (let e = inside Empty (Set set) is in let n : ⊥ = cc in n)
