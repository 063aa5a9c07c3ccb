-- The first parser rule of a name is the one at the place of this name among the names.
use Rattle.std.proofs.Common.{◌≡◌, ◌≢◌, ◌<◌, ℕ, zero, suc, ◌+◌, inl, inr, List, [], ◌∷◌, map, Bool, true, false, not, cond, Some, None, refl, sym, ap, ◌∙◌, subst, slice_get, arith}
use Rattle.std.specs.Str.{bytes_eq}
use Rattle.std.proofs.lemmas.Bool.{cases_Bool}
use Rattle.std.proofs.lemmas.Slice.Eq.{bytes_eq-Decides}
use Rattle.g4_source.specs.declared.atom.Atom.{Atom}
use Rattle.g4_source.specs.declared.rule.ParserRule.{ParserRule}
use Rattle.g4_resolve.specs.Derivations.{IsFirstNamed}
use Rattle.g4_resolve.specs.Resolving.{place_named}

-- the names of the rules
abbrev names_in : List (ParserRule Atom) → List (List ℕ)
names_in parsers = map (λ rule. rule.name) parsers

-- texts that differ are not equal
not_equal : (a b : List ℕ) → a ≢ b → bytes_eq a b ≡ false
not_equal a b other = elim (cases_Bool (bytes_eq a b)) [ inl e ↦ absurd (other ((bytes_eq-Decides a b).0 e)) | inr e ↦ e ]

-- and back
not_same : (a b : List ℕ) → bytes_eq a b ≡ false → a ≢ b
not_same a b e same = let yes : bytes_eq a b ≡ true = (bytes_eq-Decides a b).1 same in let n : ⊥ = cc in n

-- the first rule of a name is at its place
pub place_of_first : (parsers : List (ParserRule Atom)) (name : List ℕ) (k : ℕ) → IsFirstNamed parsers name k
    → place_named (names_in parsers) name ≡ k
place_of_first [] name k h = absurd (let wrong : None ≡ Some h.rule = h.placed in let n : ⊥ = cc in n)
place_of_first (p ∷ parsers) name zero h =
    let same : p ≡ h.rule = (let e : Some p ≡ Some h.rule = h.placed in cc) in
    let e : bytes_eq p.name name ≡ true = (bytes_eq-Decides p.name name).1 (ap (λ (r : ParserRule Atom). r.name) same ∙ h.named) in
    rw e refl
place_of_first (p ∷ parsers) name (suc k) h =
    let e : bytes_eq p.name name ≡ false = not_equal p.name name (h.first zero p (omega arith) refl) in
    let rest : place_named (names_in parsers) name ≡ k = place_of_first parsers name k (record {
      rule = h.rule;
      placed = h.placed;
      named = h.named;
      first = λ j other less is. h.first (suc j) other (omega (arith, less)) is;
    }) in
    rw e (omega (arith, rest))

-- and the rule at the place of a name is the first of it
pub first_at_place : (parsers : List (ParserRule Atom)) (name : List ℕ) (k : ℕ) (rule : ParserRule Atom) → slice_get parsers k ≡ Some rule
    → place_named (names_in parsers) name ≡ k → IsFirstNamed parsers name k
first_at_place [] name k rule is here = absurd (let wrong : None ≡ Some rule = is in let n : ⊥ = cc in n)
first_at_place (p ∷ parsers) name zero rule is here = by (bytes_eq p.name name) refl here
  where
    by : (b : Bool) → bytes_eq p.name name ≡ b → cond (not b) (1 + place_named (names_in parsers) name) 0 ≡ 0
        → IsFirstNamed (p ∷ parsers) name zero
    by true e at_first = record {
      rule = p;
      placed = refl;
      named = (bytes_eq-Decides p.name name).0 e;
      first = λ j other less. absurd (omega (arith, less));
    }
    by false e at_first = absurd (omega (arith, at_first))
first_at_place (p ∷ parsers) name (suc k) rule is here =
    by (bytes_eq p.name name) refl here (first_at_place parsers name k rule is)
  where
    by : (b : Bool) → bytes_eq p.name name ≡ b → cond (not b) (1 + place_named (names_in parsers) name) 0 ≡ suc k
        → (place_named (names_in parsers) name ≡ k → IsFirstNamed parsers name k) → IsFirstNamed (p ∷ parsers) name (suc k)
    by true e later more = absurd (omega (arith, later))
    by false e later more =
        let rest = more (omega (arith, later)) in record {
          rule = rest.rule;
          placed = rest.placed;
          named = rest.named;
          first = λ j other less at_j. earlier j other less at_j rest;
        }
      where
        earlier : (j : ℕ) (other : ParserRule Atom) → j < suc k → slice_get (p ∷ parsers) j ≡ Some other → IsFirstNamed parsers name k
            → other.name ≢ name
        earlier zero other less at_j rest =
            let same : p ≡ other = (let s : Some p ≡ Some other = at_j in cc) in
            λ is_name. not_same p.name name e (ap (λ (r : ParserRule Atom). r.name) same ∙ is_name)
        earlier (suc j) other less at_j rest = rest.first j other (omega (arith, less)) at_j
