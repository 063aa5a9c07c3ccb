-- Each token that a command of a lexer rule names has a type, and so a name among the types.
use Rattle.std.proofs.Common.{◌≡◌, ℕ, ◌+◌, List, [], ◌∷◌, ◌++◌, map, Bool, true, false, cond, ◌||◌, Option, Some, None, codes, All, append_assoc, refl, sym, ap, ◌∙◌, subst}
use Rattle.std.specs.List.{cons_option, filter_map, list_any}
use Rattle.std.specs.Option.{is_some}
use Rattle.std.specs.Str.{bytes_eq}
use Rattle.std.proofs.lemmas.List.Elements.{All-nil, All-cons, All-head, All-tail}
use Rattle.g4_source.specs.Rules.{lexer_rules}
use Rattle.g4_source.specs.declared.atom.TokenReference.{TokenReference}
use Rattle.g4_source.specs.declared.atom.TokenReference.TheVariants as refs
use Rattle.g4_source.specs.declared.source.Source.{Source}
use Rattle.g4_lexer_rules.specs.Known.{is_token_name}
use Rattle.g4_token_file.specs.Keys.{is_key, number_of}
use Rattle.g4_token_file.specs.declared.entry.TokenEntry.{TokenEntry}
use Rattle.g4_token_file.specs.declared.entry.TokenKey.{TokenKey}
use Rattle.g4_token_file.specs.declared.entry.TokenKey.TheVariants as keys
use Rattle.g4_token_file.proofs.Keyed.{key_refl, number_of-push}
use Rattle.g4_vocab.specs.Numbering.{all_commanded, all_declared, all_named, literal_token, own_of, rule_token, token_lexers, token_name, types_of}
use Rattle.g4_vocab.specs.Shown.{names_of}
use Rattle.g4_vocab.specs.Types.{Wanted, key_of, next_entry, with_key, with_keys}
use Rattle.g4_vocab.proofs.Keys.{with_key-new, with_key-old, with_keys-append}

-- the key has a number in the table
abbrev HasNumber : List TokenEntry → TokenKey → Type 0
HasNumber table key = is_some (number_of table key) ≡ true

-- what is wanted has one
abbrev IsNumbered : List TokenEntry → Wanted → Type 0
IsNumbered table wanted = HasNumber table (key_of wanted.token)

-- a key keeps its number with one key more
keeps_number : (table : List TokenEntry) (wanted : Wanted) (key : TokenKey) → HasNumber table key → HasNumber (with_key table wanted) key
keeps_number table wanted key there = by (number_of table (key_of wanted.token)) refl
  where
    in_front : (b : Bool) → is_some (cond b (Some (next_entry table wanted).number) (number_of table key)) ≡ true
    in_front true = refl
    in_front false = there

    by : (found : Option ℕ) → number_of table (key_of wanted.token) ≡ found → HasNumber (with_key table wanted) key
    by (Some n) is = subst (λ (t : List TokenEntry). HasNumber t key) (with_key-old table wanted (ap is_some is)) there
    by None is = ap (λ (t : List TokenEntry). is_some (number_of t key)) (with_key-new table wanted is)
        ∙ (ap is_some (number_of-push table (next_entry table wanted) key is) ∙ in_front (is_key (key_of wanted.token) key))

-- the key that is added has a number
gets_number : (table : List TokenEntry) (wanted : Wanted) → HasNumber (with_key table wanted) (key_of wanted.token)
gets_number table wanted = by (number_of table (key_of wanted.token)) refl
  where
    by : (found : Option ℕ) → number_of table (key_of wanted.token) ≡ found → HasNumber (with_key table wanted) (key_of wanted.token)
    by (Some n) is = subst (λ (t : List TokenEntry). HasNumber t (key_of wanted.token)) (with_key-old table wanted (ap is_some is))
        (ap is_some is)
    by None is =
        ap (λ (t : List TokenEntry). is_some (number_of t (key_of wanted.token))) (with_key-new table wanted is)
        ∙ (ap is_some (number_of-push table (next_entry table wanted) (key_of wanted.token) is)
        ∙ ap (λ (b : Bool). is_some (cond b (Some (next_entry table wanted).number) (number_of table (key_of wanted.token))))
        (key_refl (key_of wanted.token)))

-- so with several keys each of them has a number
keep_number : (table : List TokenEntry) (wanted : List Wanted) (key : TokenKey) → HasNumber table key
    → HasNumber (with_keys table wanted) key
keep_number table [] key there = there
keep_number table (first ∷ more) key there = keep_number (with_key table first) more key (keeps_number table first key there)

get_numbers : (table : List TokenEntry) (wanted : List Wanted) → All (IsNumbered (with_keys table wanted)) wanted
get_numbers table [] = All-nil (IsNumbered table)
get_numbers table (first ∷ more) =
    All-cons (IsNumbered (with_keys (with_key table first) more)) first more
    (keep_number (with_key table first) more (key_of first.token) (gets_number table first)) (get_numbers (with_key table first) more)

-- the name is `EOF`, or has a number in the table
abbrev pub HasSymbol : List TokenEntry → TokenReference → Type 0
HasSymbol table (refs.Token name) = (bytes_eq name (codes "EOF") || is_some (number_of table (keys.Name name))) ≡ true
HasSymbol table (refs.Literal literal) = Unit {0}

-- the name, as it is wanted
abbrev named : List ℕ → Wanted
named name = record { token = refs.Token name; literal = None }

-- names that are wanted have symbols, where what is wanted has numbers
have_symbols : (table : List TokenEntry) (tokens : List TokenReference) → All (IsNumbered table) (filter_map token_name tokens)
    → All (HasSymbol table) tokens
have_symbols table [] h = All-nil (HasSymbol table)
have_symbols table (refs.Literal literal ∷ tokens) h =
    All-cons (HasSymbol table) (refs.Literal literal) tokens tt (have_symbols table tokens h)
have_symbols table (refs.Token name ∷ tokens) h =
    All-cons (HasSymbol table) (refs.Token name) tokens (here (bytes_eq name (codes "EOF")) h)
    (have_symbols table tokens (others (bytes_eq name (codes "EOF")) h))
  where
    here : (b : Bool) → All (IsNumbered table) (cons_option (cond b None (Some (named name))) (filter_map token_name tokens))
        → (b || is_some (number_of table (keys.Name name))) ≡ true
    here true all = refl
    here false all = All-head (IsNumbered table) (named name) (filter_map token_name tokens) all

    others : (b : Bool) → All (IsNumbered table) (cons_option (cond b None (Some (named name))) (filter_map token_name tokens))
        → All (IsNumbered table) (filter_map token_name tokens)
    others true all = all
    others false all = All-tail (IsNumbered table) (named name) (filter_map token_name tokens) all

-- what is wanted at last has numbers
last_numbers : (table : List TokenEntry) (before last : List Wanted) → All (IsNumbered (with_keys table (before ++ last))) last
last_numbers table before last = subst (λ (t : List TokenEntry). All (IsNumbered t) last) (sym (with_keys-append table before last))
    (get_numbers (with_keys table before) last)

-- five lists, of which the last is apart
last_of : (a b c d e : List Wanted) → (a ++ (b ++ (c ++ d))) ++ e ≡ a ++ (b ++ (c ++ (d ++ e)))
last_of a b c d e =
    append_assoc a (b ++ (c ++ d)) e
    ∙ ap (λ (x : List Wanted). a ++ x) (append_assoc b (c ++ d) e ∙ ap (λ (x : List Wanted). b ++ x) (append_assoc c d e))

-- the tokens that commands of a grammar's lexer rules name have symbols
pub commanded_have_symbols : (table : List TokenEntry) (source : Source)
    → All (HasSymbol (types_of table source)) (all_commanded (lexer_rules source.rules))
commanded_have_symbols table source =
    let lexers = token_lexers source.rules in
    let tokens : List TokenReference = all_named source.rules in
    let commanded : List TokenReference = all_commanded (lexer_rules source.rules) in
    let a : List Wanted = map literal_token (own_of source) in
    let b : List Wanted = map (rule_token lexers) lexers in
    let c : List Wanted = filter_map token_name (all_declared source.prequels) in
    let d : List Wanted = filter_map token_name tokens in
    let e : List Wanted = filter_map token_name commanded in
    have_symbols (types_of table source) commanded
    (subst (λ (all : List Wanted). All (IsNumbered (with_keys table all)) e) (last_of a b c d e)
    (last_numbers table (a ++ (b ++ (c ++ d))) e))

-- a name has a type exactly where it has a number
names_are : (types : List TokenEntry) (name : List ℕ)
    → list_any (λ token. bytes_eq token.name name) (names_of types) ≡ is_some (number_of types (keys.Name name))
names_are [] name = refl
names_are (entry ∷ types) name = by entry.key (names_are types name)
  where
    is_in : (b : Bool) → list_any (λ token. bytes_eq token.name name) (names_of types) ≡ is_some (number_of types (keys.Name name)) →
        (b || list_any (λ token. bytes_eq token.name name) (names_of types))
        ≡ is_some (cond b (Some entry.number) (number_of types (keys.Name name)))
    is_in true rest = refl
    is_in false rest = rest

    by : (key : TokenKey) → list_any (λ token. bytes_eq token.name name) (names_of types) ≡ is_some (number_of types (keys.Name name)) →
        list_any (λ token. bytes_eq token.name name)
        (names_of (record { key = key; number = entry.number; written = entry.written } ∷ types))
        ≡ is_some (number_of (record { key = key; number = entry.number; written = entry.written } ∷ types) (keys.Name name))
    by (keys.Name other) rest = is_in (bytes_eq other name) rest
    by (keys.Literal characters) rest = rest

-- so a name with a symbol is that of a token
pub is_name : (types : List TokenEntry) (name : List ℕ) → HasSymbol types (refs.Token name) → is_token_name (names_of types) name ≡ true
is_name types name h = ap (λ (b : Bool). bytes_eq name (codes "EOF") || b) (names_are types name) ∙ h
