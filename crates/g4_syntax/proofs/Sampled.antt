-- A short text is read where it is.
use Rattle.std.proofs.Common.{◌≡◌, List, [], ◌∷◌, ◌++◌, Bool, true, false, ◌||◌, if◌then◌else◌, refl, sym, ap, subst, ◌∙◌, true≢false, append_assoc}
use Rattle.g4_grammar_tokens.specs.declared.token.Kind.TheVariants as kinds
use Rattle.g4_syntax.specs.Notation.{Spelled, Terminal, of_kind, a_set, excluded, fits, Nonterminal, element, token_set, lexer_element, character_set, more_names, Expression, one, ◌▸◌, ◌∣◌, optional, repeated, part, sign, name, with_bars}
use Rattle.g4_syntax.specs.Productions.{production, element_options, labelled_item, labelled_lexer_item, suffix}
use Rattle.g4_syntax.specs.Trees.{Tree, leaf, both, left, right, absent, end, inner, can_be_empty, begins_there, Reads}
use Rattle.g4_syntax.proofs.Truths.{or_first_true}
use Rattle.g4_syntax.proofs.Extends.{covers_second, covers_left, covers_right, covers_part, bars_left, bars_optional, bars_repeated}
use Rattle.g4_syntax.proofs.Local.{Allowed, allowed_of, barred}
use Rattle.g4_syntax.proofs.Samples.{sample_token, sample, sample_fits, empty_sample}
use Rattle.g4_syntax.proofs.WellFormed.{is_well_formed, first_well_formed, second_well_formed, left_well_formed, right_well_formed, one_begins, after_sample}

-- what begins with some tokens does so with others after them
begins_before : (x : Expression) (w rest : List Spelled) → begins_there x w ≡ true → begins_there x (w ++ rest) ≡ true
begins_before x [] rest so = absurd (true≢false (sym so))
begins_before x (t ∷ w) rest so = so

-- a tree of the tokens before the others
abbrev pub Read : Expression → List Spelled → List Spelled → Type 0
Read x w rest = (a : Tree x) × Reads a (w ++ rest) rest

-- of two alternatives the one whose short text is taken is read
read_either : (x y : Expression) (rest : List Spelled) (b : Bool) → can_be_empty y ≡ b → (b || begins_there x (sample x)) ≡ true
    → Allowed (x ∣ y) rest → Read x (sample x) rest → Read y (sample y) rest → Read (x ∣ y) (if b then sample y else sample x) rest
read_either x y rest true can begun allowed first second =
    let not_begun : begins_there x (sample y ++ rest) ≡ false =
    ap (λ (w : List Spelled). begins_there x (w ++ rest)) (empty_sample y can) ∙ barred (x ∣ y) x rest (bars_left x y can) allowed in
    (right second.0, (not_begun, second.1))
read_either x y rest false can begun allowed first second = (left first.0, (begins_before x (sample x) rest begun, first.1))

-- a terminal before what is left out
read_terminal : (t : Terminal) (z : Expression) (rest : List Spelled) → Allowed (one t ▸ optional z) rest
    → Read (one t ▸ optional z) (sample_token t ∷ []) rest
read_terminal t z rest allowed =
    let none : begins_there z rest ≡ false = barred (optional z) z rest (bars_optional z)
    (allowed_of (one t ▸ optional z) (optional z) rest (covers_second (one t) (optional z)) allowed) in
    (both (leaf (sample_token t)) absent, (rest, (refl, sample_fits t), (none, refl)))

-- a terminal before what is left out, as the first of two alternatives
read_first_terminal : (t : Terminal) (z y : Expression) (rest : List Spelled) → Allowed (one t ▸ optional z ∣ y) rest
    → Read (one t ▸ optional z ∣ y) (sample_token t ∷ []) rest
read_first_terminal t z y rest allowed =
    let first = read_terminal t z rest (allowed_of (one t ▸ optional z ∣ y) (one t ▸ optional z) rest
    (covers_left (one t ▸ optional z) y) allowed) in
    (left first.0, (or_first_true (fits t (sample_token t)) false (sample_fits t), first.1))

-- what is read as the production is read as the part
in_the_part : (n : Nonterminal) (w rest : List Spelled) → Read (production n) w rest → Read (part n) w rest
in_the_part n w rest whole = (inner whole.0, whole.1)

-- the one token of a short text of a part is read as its production
read_production : (n : Nonterminal) (rest : List Spelled) → Allowed (production n) rest → Read (production n) (sample (part n)) rest
read_production element rest allowed =
    read_first_terminal (of_kind kinds.Action) (sign kinds.Question ▸ optional element_options) (labelled_item ▸ optional suffix) rest
    allowed
read_production token_set rest allowed =
    read_first_terminal (of_kind kinds.Upper) element_options
    (sign kinds.Literal ∣ sign kinds.LeftParenthesis ▸ with_bars (part token_set) ▸ sign kinds.RightParenthesis) rest allowed
read_production lexer_element rest allowed =
    read_first_terminal (of_kind kinds.Action) (sign kinds.Question ▸ optional element_options)
    (labelled_lexer_item ▸ optional suffix) rest allowed
read_production character_set rest allowed =
    read_first_terminal excluded (sign kinds.DoubleDot ▸ sign kinds.Literal)
    (one a_set ∣ sign kinds.LeftParenthesis ▸ with_bars (part character_set) ▸ sign kinds.RightParenthesis) rest allowed
read_production more_names rest allowed = read_terminal (of_kind kinds.Comma) (name ▸ optional (part more_names)) rest allowed

-- a short text is read where it is
pub read_sample : (x : Expression) (rest : List Spelled) → is_well_formed x ≡ true → Allowed x rest → Read x (sample x) rest
read_sample (one t) rest well allowed = (leaf (sample_token t), (refl, sample_fits t))
read_sample (x ▸ y) rest well allowed =
    let first = read_sample x (sample y ++ rest) (first_well_formed x y well) (after_sample x y rest well allowed) in
    let second = read_sample y rest (second_well_formed x y well) (allowed_of (x ▸ y) y rest (covers_second x y) allowed) in (
      both first.0 second.0,
      subst (λ (l : List Spelled). Reads (both first.0 second.0) l rest)
          (sym (append_assoc (sample x) (sample y) rest)) (sample y ++ rest, first.1, second.1),
    )
read_sample (x ∣ y) rest well allowed =
    let first = read_sample x rest (left_well_formed x y well) (allowed_of (x ∣ y) x rest (covers_left x y) allowed) in
    let second = read_sample y rest (right_well_formed x y well) (allowed_of (x ∣ y) y rest (covers_right x y) allowed) in
    read_either x y rest (can_be_empty y) refl (one_begins x y well) allowed first second
read_sample (optional x) rest well allowed = (absent, (barred (optional x) x rest (bars_optional x) allowed, refl))
read_sample (repeated x) rest well allowed = (end, (barred (repeated x) x rest (bars_repeated x) allowed, refl))
read_sample (part n) rest well allowed =
    in_the_part n (sample (part n)) rest (read_production n rest (allowed_of (part n) (production n) rest (covers_part n) allowed))
