-- What is known of the next tokens where a character set may begin.
use Rattle.std.proofs.Common.{◌≡◌, ℕ, List, [], ◌∷◌, Bool, true, false, Option, Some, None, unwrap_or, refl, sym, ◌∙◌, ap, subst, true≢false}
use Rattle.std.specs.Option.{is_none}
use Rattle.std.specs.Prelude.{if◌then◌else◌}
use Rattle.std.specs.Str.{chars}
use Rattle.g4_chars.specs.declared.range.Range.{Range as Span}
use Rattle.g4_grammar_tokens.specs.declared.token.Kind.{Kind}
use Rattle.g4_grammar_tokens.specs.declared.token.Kind.TheVariants as kinds
use Rattle.g4_syntax.specs.Notation.{Spelled, is_kind, fits, Terminal, one, a_set}
use Rattle.g4_syntax.specs.Trees.{Tree, leaf}
use Rattle.g4_cursor.specs.Progress.{Progress, reading, stopped, bytes_ahead, BadNext, Moves, reads, stops, stays}
use Rattle.g4_cursor.specs.Sets.{content, IsBadSet, bytes_at}
use Rattle.g4_cursor.specs.Texts.{text_of}
use Rattle.g4_productions.specs.Answering.{HasNext, literal_terminal, bad_literal_next}
use Rattle.g4_productions.specs.LexerElements.{set_of_leaf}
use Rattle.g4_productions.specs.Members.{set_of}
use Rattle.g4_productions.proofs.SetText.{bad_set, none_bad}

-- the first token, which is of the kind, has these bytes
first_bytes : (k : Kind) (from to : List Spelled) (token : Spelled) (bytes : List ℕ) → from ≡ token ∷ to → is_kind k token.kind ≡ true
    → bytes_at 0 k from ≡ Some bytes → token.bytes ≡ bytes
first_bytes k from to token bytes is of_kind next =
    same (sym (ap (λ (b : Bool). if b then Some token.bytes else None) of_kind) ∙ sym (ap (bytes_at 0 k) is) ∙ next)
  where
    same : Some token.bytes ≡ Some bytes → token.bytes ≡ bytes
    same e = cc

-- the token that was taken is the one that was seen
pub seen : (k : Kind) {t : Terminal} {P : Tree (one t) → Type 0} (s u : Progress) (bytes : List ℕ)
    → ((token : Spelled) → fits t token ≡ is_kind k token.kind) → bytes_ahead 0 k s ≡ Some bytes → Moves P s u
    → Moves {x = one t} (λ tree. text_of tree ≡ bytes) s u
seen k {t} s u bytes same next (reads from to (leaf token) read good says) =
    reads from to (leaf token) read good (first_bytes k from to token bytes read.0 (sym (same token) ∙ read.1) next)
seen k s u bytes same next (stops from rest halt halts) = stops from rest halt halts
seen k s u bytes same next (stays halt rest) = stays halt rest

-- some bytes are not none
some_are : (bytes : List ℕ) → Some bytes ≡ None → ⊥
some_are bytes is = cc

-- where no token of the kind was seen, none was taken
pub unseen : (k : Kind) {t : Terminal} {P Q : Tree (one t) → Type 0} (s u : Progress)
    → ((token : Spelled) → fits t token ≡ is_kind k token.kind) → bytes_ahead 0 k s ≡ None → Moves P s u → Moves Q s u
unseen k s u same none (reads from to (leaf token) read good says) =
    absurd (some_are token.bytes (sym (ap (λ (b : Bool). if b then Some token.bytes else None) (sym (same token) ∙ read.1))
    ∙ sym (ap (bytes_at 0 k) read.0) ∙ none))
unseen k s u same none (stops from rest halt halts) = stops from rest halt halts
unseen k s u same none (stays halt rest) = stays halt rest

-- no bytes are some
none_are : (bytes : List ℕ) → None ≡ Some bytes → ⊥
none_are bytes is = cc

-- a set that is next and not listed is bad
pub bad_next : (s : Progress) → HasNext None s → BadNext a_set s
bad_next (reading rest) has = subst IsBadSet (sym has.next) (none_bad (content (chars has.bytes)) (ap is_none (sym has.is)))
bad_next (stopped halt rest) has = absurd (none_are has.bytes has.next)

-- a set that is next and listed is not bad
pub good_next : (s : Progress) (set : List Span) → HasNext (Some set) s → BadNext a_set s → ⊥
good_next (reading rest) set has bad = some_or_none (has.is ∙ bad_set (content (chars has.bytes)) (subst IsBadSet has.next bad))
  where
    some_or_none : Some set ≡ None → ⊥
    some_or_none e = cc
good_next (stopped halt rest) set has bad = bad

-- where no set is next, none is bad
pub no_set_next : (s : Progress) → bytes_ahead 0 kinds.Set s ≡ None → BadNext a_set s → ⊥
no_set_next (reading rest) none bad = subst IsBadSet none bad
no_set_next (stopped halt rest) none bad = bad

-- the set that was listed is that of the leaf
pub set_taken : (set : List Span) (s : Progress) (tree : Tree (one a_set)) → (has : HasNext (Some set) s) → text_of tree ≡ has.bytes
    → set ≡ set_of_leaf tree
set_taken set s tree has is = ap (λ (o : Option (List Span)). unwrap_or o [])
    (has.is ∙ ap (λ (b : List ℕ). set_of (content (chars b))) (sym is))

-- a literal of a lexer rule is a literal
pub literal_fits : (under : Bool) (token : Spelled) → fits (literal_terminal under) token ≡ is_kind kinds.Literal token.kind
literal_fits true token = refl
literal_fits false token = refl

-- the next literal is bad where the test tells so
pub literal_bad : (under : Bool) (s : Progress) → bad_literal_next under s ≡ true → BadNext (literal_terminal under) s
literal_bad true (reading rest) is = is
literal_bad false (reading rest) is = is
literal_bad true (stopped halt rest) is = absurd (true≢false (sym is))
literal_bad false (stopped halt rest) is = absurd (true≢false (sym is))

-- it is not where the test tells that it is not
pub literal_good : (under : Bool) (s : Progress) → bad_literal_next under s ≡ false → BadNext (literal_terminal under) s → ⊥
literal_good true (reading rest) none bad = true≢false (sym bad ∙ none)
literal_good false (reading rest) none bad = true≢false (sym bad ∙ none)
literal_good under (stopped halt rest) none bad = bad
