-- Terminals that no token can be both.
use Rattle.std.proofs.Common.{◌≡◌, ℕ, List, [], ◌∷◌, Bool, true, not, ◌||◌, ◌==◌, bytes_eq, refl, sym, ap, ap₂, ◌∙◌, inl, inr, true≢false}
use Rattle.std.proofs.Math.Bool.{or-false}
use Rattle.std.specs.List.{list_any, list_all}
use Rattle.std.proofs.lemmas.Bool.{eqb-true, or_cases}
use Rattle.std.proofs.lemmas.Slice.Eq.{bytes_eq-Decides}
use Rattle.g4_grammar_tokens.specs.declared.token.Kind.{Kind}
use Rattle.g4_grammar_tokens.specs.declared.token.Kind.TheVariants as kinds
use Rattle.g4_syntax.specs.Notation.{Spelled, number_of, is_kind, Terminal, of_kind, keyword, a_name, a_set, characters, excluded, fits}
use Rattle.g4_syntax.specs.Trees.{is_one_of}
use Rattle.g4_syntax.proofs.Truths.{apart, and_first_true, and_second_true, and_second_false, not_true}
use Rattle.g4_plain_syntax.specs.Plain.{contested, IsPlain}

-- the kinds of the tokens for which the terminal asks
abbrev pub kinds_of : Terminal → List Kind
kinds_of (of_kind kind) = kind ∷ []
kinds_of (keyword word) = kinds.Lower ∷ []
kinds_of a_name = kinds.Lower ∷ kinds.Upper ∷ []
kinds_of a_set = kinds.Set ∷ []
kinds_of characters = kinds.Literal ∷ []
kinds_of excluded = kinds.Literal ∷ []

-- whether none of the one kinds is among the others
abbrev pub are_apart : List Kind → List Kind → Bool
are_apart listed others = list_all (λ kind. not (is_one_of others kind)) listed

-- whether no token is both terminals, if it is plain at the second
abbrev pub excludes : Terminal → Terminal → Bool
excludes (keyword word) (keyword other) = not (bytes_eq word other)
excludes (keyword word) (of_kind kind) = list_any (bytes_eq word) contested || are_apart (kinds.Lower ∷ []) (kind ∷ [])
excludes t other = are_apart (kinds_of t) (kinds_of other)

-- a token that is the terminal is of one of its kinds
of_its_kinds : (t : Terminal) (token : Spelled) → fits t token ≡ true → is_one_of (kinds_of t) token.kind ≡ true
of_its_kinds (of_kind kind) token fit = or-false (is_kind kind token.kind) ∙ fit
of_its_kinds (keyword word) token fit = or-false (is_kind kinds.Lower token.kind) ∙ and_first_true (is_kind kinds.Lower token.kind) _ fit
of_its_kinds a_name token fit = ap (λ b. is_kind kinds.Lower token.kind || b) (or-false (is_kind kinds.Upper token.kind)) ∙ fit
of_its_kinds a_set token fit = or-false (is_kind kinds.Set token.kind) ∙ fit
of_its_kinds characters token fit = or-false (is_kind kinds.Literal token.kind) ∙ fit
of_its_kinds excluded token fit = or-false (is_kind kinds.Literal token.kind) ∙ fit

-- of kinds with one number both are listed, or neither is
listed_alike : (listed : List Kind) (kind other : Kind) → number_of kind ≡ number_of other → is_one_of listed kind ≡ is_one_of listed other
listed_alike [] kind other same = refl
listed_alike (first ∷ listed) kind other same = ap₂ ◌||◌ (ap (λ n. number_of first == n) same) (listed_alike listed kind other same)

-- no kind is in two lists that are apart
not_in_both : (listed others : List Kind) (kind : Kind) → are_apart listed others ≡ true → is_one_of listed kind ≡ true
    → is_one_of others kind ≡ true → ⊥
not_in_both [] others kind are one_is also = true≢false (sym one_is)
not_in_both (first ∷ listed) others kind are one_is also =
    elim (or_cases (is_kind first kind) (is_one_of listed kind) one_is) [
      | inl same ↦
          apart (is_one_of others kind) also
          (sym (listed_alike others first kind (eqb-true (number_of first) (number_of kind) same))
          ∙ not_true (is_one_of others first) (and_first_true _ (are_apart listed others) are))
      | inr later ↦ not_in_both listed others kind (and_second_true (not (is_one_of others first)) _ are) later also
    ]

-- no token is of the kinds of two terminals whose kinds are apart
not_of_both : (t other : Terminal) (token : Spelled) → are_apart (kinds_of t) (kinds_of other) ≡ true → fits t token ≡ true
    → fits other token ≡ true → ⊥
not_of_both t other token are fit also = not_in_both (kinds_of t) (kinds_of other) token.kind are (of_its_kinds t token fit)
    (of_its_kinds other token also)

-- a keyword is spelled so
bytes_are : (word : List ℕ) (token : Spelled) → fits (keyword word) token ≡ true → token.bytes ≡ word
bytes_are word token fit = (bytes_eq-Decides token.bytes word).0 (and_second_true (is_kind kinds.Lower token.kind) _ fit)

-- no token is both terminals, if it is plain at the second
pub not_both : (t other : Terminal) (token : Spelled) → excludes t other ≡ true → fits other token ≡ true → IsPlain other token
    → fits t token ≡ true → ⊥
not_both (keyword word) (keyword other) token excluded_is also plain fit =
    apart (bytes_eq word other) ((bytes_eq-Decides word other).1 (sym (bytes_are word token fit) ∙ bytes_are other token also))
    (not_true (bytes_eq word other) excluded_is)
not_both (keyword word) (of_kind kind) token excluded_is also plain fit =
    elim (or_cases (list_any (bytes_eq word) contested) (are_apart (kinds.Lower ∷ []) (kind ∷ [])) excluded_is) [
      | inl known ↦
          let uncontested = and_second_false (is_kind kinds.Lower token.kind) _
          (and_first_true (is_kind kinds.Lower token.kind) _ fit) plain in
          apart (list_any (bytes_eq word) contested) known
          (ap (λ bytes. list_any (bytes_eq bytes) contested) (sym (bytes_are word token fit)) ∙ uncontested)
      | inr are ↦ not_of_both (keyword word) (of_kind kind) token are fit also
    ]
not_both t other token excluded_is also plain fit = not_of_both t other token excluded_is fit also
