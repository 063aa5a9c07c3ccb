-- The symbols of names, one more at a time.
use Rattle.std.proofs.Common.{◌≡◌, ℕ, ◌+◌, ◌<◌, List, [], ◌∷◌, ◌++◌, length, take, get_or, Bool, true, false, cond, Option, Some, None, option_map, refl, sym, ap, ◌∙◌}
use Rattle.std.specs.List.{find}
use Rattle.std.specs.Option.{option_or}
use Rattle.std.specs.Str.{bytes_eq}
use Rattle.std.proofs.lemmas.List.{take_more}
use Rattle.std.proofs.lemmas.List.Folds.{find-append}
use Rattle.g4_grammar.specs.declared.token_types.TokenName.{TokenName}
use Rattle.g4_names.specs.declared.places.Places.{Places}
use Rattle.g4_names.specs.Places.{place_in}
use Rattle.g4_lexer_rules.specs.Commands.{AreSymbols, type_named}

-- the symbol of the first of two
symbol_or : (o : Option TokenName) (token : TokenName) (b : Bool)
    → option_map (λ (t : TokenName). t.symbol) (option_or o (cond b (Some token) None))
    ≡ option_or (option_map (λ (t : TokenName). t.symbol) o) (cond b (Some token.symbol) None)
symbol_or None token true = refl
symbol_or None token false = refl
symbol_or (Some t) token b = refl

-- the type of a name with one token more
type_push : (types : List TokenName) (token : TokenName) (name : List ℕ)
    → type_named (types ++ token ∷ []) name ≡ option_or (type_named types name) (cond (bytes_eq token.name name) (Some token.symbol) None)
type_push types token name =
    let test : TokenName → Bool = λ (t : TokenName). bytes_eq t.name name in
    ap (option_map (λ (t : TokenName). t.symbol)) (find-append test types (token ∷ []))
    ∙ symbol_or (find test types) token (bytes_eq token.name name)

-- the symbols of names with the next token
pub symbols_more : (types : List TokenName) (i : ℕ) (token : TokenName) (name : List ℕ) (old new : Places) → i < length types
    → token ≡ get_or types i token → name ≡ token.name → AreSymbols (take i types) old →
    ((other : List ℕ) → place_in new other ≡ option_or (place_in old other) (cond (bytes_eq name other) (Some token.symbol) None))
    → AreSymbols (take (i + 1) types) new
symbols_more types i token name old new within item same before added other =
    let next : take (i + 1) types ≡ take i types ++ token ∷ [] =
    take_more types i token within ∙ ap (λ (t : TokenName). take i types ++ t ∷ []) (sym item) in
    added other
    ∙ (ap (λ (o : Option ℕ). option_or o (cond (bytes_eq name other) (Some token.symbol) None)) (before other)
    ∙ (ap (λ (n : List ℕ). option_or (type_named (take i types) other) (cond (bytes_eq n other) (Some token.symbol) None)) same
    ∙ (sym (type_push (take i types) token other) ∙ ap (λ (ts : List TokenName). type_named ts other) (sym next))))
