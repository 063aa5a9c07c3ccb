-- The numbers of a table that begins the types of a grammar, and new numbers.
use Rattle.std.proofs.Common.{◌≡◌, ℕ, ◌+◌, ◌<◌, ◌≤◌, ◌⊎◌, inl, inr, List, [], ◌∷◌, ◌++◌, length, map, filter, not, Bool, true, false, cond, codes, Option, Some, None, option_map, max, All, Contains, refl, sym, ap, ◌∙◌, subst, arith, length-append}
use Rattle.std.specs.List.{cons_option, filter_map, range_with_len}
use Rattle.std.specs.Option.{is_some, unwrap_or}
use Rattle.std.specs.Str.{bytes_eq}
use Rattle.std.proofs.lemmas.List.{map-append}
use Rattle.std.proofs.lemmas.List.Elements.{All-append, All-cons, All-filter, All-head, All-nil, All-tail, Contains-push_cases}
use Rattle.g4_source.specs.Rules.{lexer_rules}
use Rattle.g4_source.specs.declared.atom.Literal.{Literal}
use Rattle.g4_source.specs.declared.atom.TokenReference.{TokenReference}
use Rattle.g4_source.specs.declared.atom.TokenReference.TheVariants as refs
use Rattle.g4_source.specs.declared.rule.LexerRule.{LexerRule}
use Rattle.g4_source.specs.declared.source.Source.{Source}
use Rattle.g4_token_file.specs.Keys.{greatest_number, is_key, number_of}
use Rattle.g4_token_file.specs.declared.entry.TokenEntry.{TokenEntry}
use Rattle.g4_token_file.specs.declared.entry.TokenKey.{TokenKey}
use Rattle.g4_token_file.specs.declared.entry.TokenKey.TheVariants as keys
use Rattle.g4_token_file.proofs.Keyed.{greatest_number-push, number_of-push}
use Rattle.g4_vocab.specs.Numbering.{all_commanded, all_declared, all_named, default_literal, first_literals, if_named, literal_token, named_rule, needs_own, own_of, rule_token, token_lexers, token_name, types_of, wanted_of}
use Rattle.g4_vocab.specs.Types.{Wanted, key_of, literal_number, next_entry, with_key, with_keys}
use Rattle.g4_vocab.proofs.Keys.{bytes_same, with_key-new, with_key-old}
use Rattle.g4_vocab.proofs.LeftTypes.{range_more}

-- what is in front of a table keeps its numbers
in_front : (table more : List TokenEntry) (key : TokenKey) (number : ℕ) → number_of table key ≡ Some number
    → number_of (table ++ more) key ≡ Some number
in_front [] more key number is = cc
in_front (entry ∷ table) more key number is = by (is_key entry.key key) is (in_front table more key number)
  where
    by : (b : Bool) → cond b (Some entry.number) (number_of table key) ≡ Some number
        → (number_of table key ≡ Some number → number_of (table ++ more) key ≡ Some number)
        → cond b (Some entry.number) (number_of (table ++ more) key) ≡ Some number
    by true e rest = e
    by false e rest = rest e

key_keeps : (table : List TokenEntry) (wanted : Wanted) (key : TokenKey) (number : ℕ) → number_of table key ≡ Some number
    → number_of (with_key table wanted) key ≡ Some number
key_keeps table wanted key number is = by (is_some (number_of table (key_of wanted.token)))
  where
    by : (b : Bool) → number_of (cond b table (table ++ next_entry table wanted ∷ [])) key ≡ Some number
    by true = is
    by false = in_front table (next_entry table wanted ∷ []) key number is

keys_keep : (table : List TokenEntry) (all : List Wanted) (key : TokenKey) (number : ℕ) → number_of table key ≡ Some number
    → number_of (with_keys table all) key ≡ Some number
keys_keep table [] key number is = is
keys_keep table (wanted ∷ more) key number is = keys_keep (with_key table wanted) more key number (key_keeps table wanted key number is)

-- the numbers of a table are kept
pub numbers_kept : (table : List TokenEntry) (source : Source) (key : TokenKey) (number : ℕ) → number_of table key ≡ Some number
    → number_of (types_of table source) key ≡ Some number
numbers_kept table source = keys_keep table (wanted_of source)

-- a number in a table is at most the greatest
number_low : (table : List TokenEntry) (key : TokenKey) (number : ℕ) → number_of table key ≡ Some number → number ≤ greatest_number table
number_low [] key number is = absurd (let wrong : None ≡ Some number = is in let n : ⊥ = cc in n)
number_low (entry ∷ table) key number is = by (is_key entry.key key) is (number_low table key number)
  where
    by : (b : Bool) → cond b (Some entry.number) (number_of table key) ≡ Some number
        → (number_of table key ≡ Some number → number ≤ greatest_number table) → number ≤ max entry.number (greatest_number table)
    by true e rest = let same : entry.number ≡ number = cc in omega (arith, same)
    by false e rest = let low : number ≤ greatest_number table = rest e in omega (arith, low)

all_low : (table : List TokenEntry) → All (λ entry. entry.number ≤ greatest_number table) table
all_low [] = All-nil (λ (entry : TokenEntry). entry.number ≤ 0)
all_low (first ∷ table) =
    All-cons (λ (entry : TokenEntry). entry.number ≤ max first.number (greatest_number table)) first table (omega arith)
    (λ k d less. omega (arith, all_low table k d less))

entry_low : (table : List TokenEntry) (entry : TokenEntry) → Contains table entry → entry.number ≤ greatest_number table
entry_low table entry (k, less, is) =
    subst (λ (e : TokenEntry). e.number ≤ greatest_number table) is (all_low table k entry less)

module _ (lexers : List LexerRule) where
  -- What is wanted of a grammar: a literal names no lexer rule's token, and one that names a token of this name too names a lexer rule's.
  pub record IsProper (wanted : Wanted) : Type 0 where
    pub own : (literal : Literal) → wanted.token ≡ refs.Literal literal → is_some (named_rule lexers literal.characters) ≡ false
    pub named : (characters : List ℕ) → wanted.literal ≡ Some characters → is_some (named_rule lexers characters) ≡ true

  module _ (table : List TokenEntry) where
    -- What is known of the types so far: literals that name rules' tokens have the numbers that the table gives them, and a number past
    -- those of the table is of one entry.
    pub record AreNew (types : List TokenEntry) : Type 0 where
      pub literals : (characters : List ℕ) → is_some (named_rule lexers characters) ≡ true
          → number_of types (keys.Literal characters) ≡ number_of table (keys.Literal characters)
      pub one : (a b : TokenEntry) → Contains types a → Contains types b → a.number ≡ b.number → greatest_number table < a.number → a ≡ b
      pub grown : greatest_number table ≤ greatest_number types

    none_new : AreNew table
    none_new = record {
      literals = λ characters named. refl;
      one = λ a b has also same past. absurd (omega (arith, entry_low table a has, past));
      grown = omega arith;
    }

    module _ (types : List TokenEntry) (wanted : Wanted) (h : AreNew types) (proper : IsProper wanted) where
      abbrev entry : TokenEntry
      entry = next_entry types wanted

      -- the number of a new entry is one of the table, or the next one
      entry_number : (entry.number ≤ greatest_number table) ⊎ (entry.number ≡ greatest_number types + 1)
      entry_number = by wanted.literal refl
        where
          by : (o : Option (List ℕ)) → wanted.literal ≡ o
              → (unwrap_or (literal_number types o) (greatest_number types + 1) ≤ greatest_number table)
              ⊎ (unwrap_or (literal_number types o) (greatest_number types + 1) ≡ greatest_number types + 1)
          by None e = inr refl
          by (Some characters) e = found (number_of types (keys.Literal characters)) refl
            where
              found : (n : Option ℕ) → number_of types (keys.Literal characters) ≡ n
                  → (unwrap_or n (greatest_number types + 1) ≤ greatest_number table)
                  ⊎ (unwrap_or n (greatest_number types + 1) ≡ greatest_number types + 1)
              found None is = inr refl
              found (Some n) is =
                  inl (number_low table (keys.Literal characters) n (sym (h.literals characters (proper.named characters e)) ∙ is))

      -- a new entry is for no literal that names a rule's token
      not_key : (characters : List ℕ) → is_some (named_rule lexers characters) ≡ true → (token : TokenReference) → wanted.token ≡ token
          → is_key (key_of token) (keys.Literal characters) ≡ false
      not_key characters named (refs.Token name) e = refl
      not_key characters named (refs.Literal literal) e = by (bytes_eq literal.characters characters) refl
        where
          by : (b : Bool) → bytes_eq literal.characters characters ≡ b → b ≡ false
          by false is = refl
          by true is =
              let same : literal.characters ≡ characters = bytes_same literal.characters characters is in
              let other : is_some (named_rule lexers characters) ≡ false =
              ap (λ (cs : List ℕ). is_some (named_rule lexers cs)) (sym same) ∙ proper.own literal e in cc

      -- an entry of the new table with the number of the new entry, which is past those of the table, is the new one
      same_new : (a : TokenEntry) → Contains types a → a.number ≡ entry.number → greatest_number table < a.number → ⊥
      same_new a has same past = elim entry_number [
        | inl low ↦ omega (arith, low, same, past)
        | inr next ↦ omega (arith, next, same, entry_low types a has)
      ]

      one_new : (a b : TokenEntry) → Contains (types ++ entry ∷ []) a → Contains (types ++ entry ∷ []) b → a.number ≡ b.number
          → greatest_number table < a.number → a ≡ b
      one_new a b has also same past = elim (Contains-push_cases types entry a has) [
        | inl old ↦ elim (Contains-push_cases types entry b also) [
          | inl other ↦ h.one a b old other same past
          | inr is ↦ absurd (same_new a old (same ∙ ap (λ (e : TokenEntry). e.number) (sym is)) past)
        ]
        | inr is ↦ elim (Contains-push_cases types entry b also) [
          | inl other ↦
              absurd (same_new b other (sym same ∙ ap (λ (e : TokenEntry). e.number) (sym is)) (omega (arith, past, same)))
          | inr too ↦ sym is ∙ too
        ]
      ]

      new_more : number_of types (key_of wanted.token) ≡ None → AreNew (types ++ entry ∷ [])
      new_more none = record {
        literals = λ characters named.
            number_of-push types entry (keys.Literal characters) none
            ∙ (ap (λ (b : Bool). cond b (Some entry.number) (number_of types (keys.Literal characters)))
            (not_key characters named wanted.token refl)
            ∙ h.literals characters named);
        one = one_new;
        grown = omega (arith, greatest_number-push types entry, h.grown);
      }

      key_new : AreNew (with_key types wanted)
      key_new = by (number_of types (key_of wanted.token)) refl
        where
          by : (o : Option ℕ) → number_of types (key_of wanted.token) ≡ o → AreNew (with_key types wanted)
          by (Some n) is = subst AreNew (with_key-old types wanted (ap is_some is)) h
          by None is = subst AreNew (sym (with_key-new types wanted is)) (new_more is)

    keys_new : (types : List TokenEntry) (all : List Wanted) → AreNew types → All IsProper all → AreNew (with_keys types all)
    keys_new types [] h proper = h
    keys_new types (wanted ∷ more) h proper =
        keys_new (with_key types wanted) more (key_new types wanted h (All-head IsProper wanted more proper))
        (All-tail IsProper wanted more proper)

  -- literals that name no rule's token
  abbrev IsOwn : Literal → Type 0
  IsOwn literal = is_some (named_rule lexers literal.characters) ≡ false

  all_need : (tokens : List TokenReference) → All IsOwn (filter_map (needs_own lexers) tokens)
  all_need [] = All-nil IsOwn
  all_need (refs.Token name ∷ tokens) = all_need tokens
  all_need (refs.Literal literal ∷ tokens) = by (is_some (named_rule lexers literal.characters)) refl (all_need tokens)
    where
      by : (b : Bool) → is_some (named_rule lexers literal.characters) ≡ b → All IsOwn (filter_map (needs_own lexers) tokens)
          → All IsOwn (cons_option (cond b None (Some literal)) (filter_map (needs_own lexers) tokens))
      by true e rest = rest
      by false e rest = All-cons IsOwn literal (filter_map (needs_own lexers) tokens) e rest

  firsts_own : (literals : List Literal) → All IsOwn literals → All IsOwn (first_literals literals)
  firsts_own [] h = All-nil IsOwn
  firsts_own (literal ∷ more) h =
      All-cons IsOwn literal (filter (λ other. not (bytes_eq other.characters literal.characters)) (first_literals more))
      (All-head IsOwn literal more h)
      (All-filter (λ (other : Literal). not (bytes_eq other.characters literal.characters)) IsOwn (first_literals more)
      (firsts_own more (All-tail IsOwn literal more h)))

  -- what is wanted of a grammar
  literals_proper : (own : List Literal) → All IsOwn own → All IsProper (map literal_token own)
  literals_proper [] h = All-nil IsProper
  literals_proper (literal ∷ own) h =
      All-cons IsProper (literal_token literal) (map literal_token own)
      (record {
        own = λ other same.
            let is : literal ≡ other = cc in
            subst (λ (l : Literal). is_some (named_rule lexers l.characters) ≡ false) is (All-head IsOwn literal own h);
        named = λ characters e. absurd (let wrong : None ≡ Some characters = e in let n : ⊥ = cc in n);
      })
      (literals_proper own (All-tail IsOwn literal own h))

  rule_named : (o : Option Literal) (characters : List ℕ)
      → option_map (λ (literal : Literal). literal.characters) (if_named lexers o) ≡ Some characters
      → is_some (named_rule lexers characters) ≡ true
  rule_named None characters e = cc
  rule_named (Some literal) characters e = by (is_some (named_rule lexers literal.characters)) refl e
    where
      by : (b : Bool) → is_some (named_rule lexers literal.characters) ≡ b
          → option_map (λ (l : Literal). l.characters) (cond b (Some literal) None) ≡ Some characters
          → is_some (named_rule lexers characters) ≡ true
      by true is same =
          let one : literal.characters ≡ characters = cc in
          ap (λ (cs : List ℕ). is_some (named_rule lexers cs)) (sym one) ∙ is
      by false is same = cc

  rules_proper : (rules : List LexerRule) → All IsProper (map (rule_token lexers) rules)
  rules_proper [] = All-nil IsProper
  rules_proper (rule ∷ rules) =
      All-cons IsProper (rule_token lexers rule) (map (rule_token lexers) rules)
      (record {
        own = λ other same. absurd (let wrong : refs.Token rule.name ≡ refs.Literal other = same in let n : ⊥ = cc in n);
        named = rule_named (default_literal rule);
      })
      (rules_proper rules)

  names_proper : (tokens : List TokenReference) → All IsProper (filter_map token_name tokens)
  names_proper [] = All-nil IsProper
  names_proper (refs.Literal literal ∷ tokens) = names_proper tokens
  names_proper (refs.Token name ∷ tokens) = by (bytes_eq name (codes "EOF")) (names_proper tokens)
    where
      by : (b : Bool) → All IsProper (filter_map token_name tokens) → All IsProper (cons_option
          (cond b None (Some (record { token = refs.Token name; literal = None }))) (filter_map token_name tokens))
      by true rest = rest
      by false rest =
          All-cons IsProper (record { token = refs.Token name; literal = None }) (filter_map token_name tokens)
          (record {
            own = λ other same. absurd (let wrong : refs.Token name ≡ refs.Literal other = same in let n : ⊥ = cc in n);
            named = λ characters e. absurd (let wrong : None ≡ Some characters = e in let n : ⊥ = cc in n);
          })
          rest

-- each thing that is wanted of a grammar is so
all_proper : (source : Source) → All (IsProper (token_lexers source.rules)) (wanted_of source)
all_proper source =
    let lexers = token_lexers source.rules in
    let P : Wanted → Type 0 = IsProper lexers in
    let tokens : List TokenReference = all_named source.rules in
    let a : List Wanted = map literal_token (own_of source) in
    let b : List Wanted = map (rule_token lexers) lexers in
    let c : List Wanted = filter_map token_name (all_declared source.prequels) in
    let d : List Wanted = filter_map token_name tokens in
    let e : List Wanted = filter_map token_name (all_commanded (lexer_rules source.rules)) in
    All-append P a (b ++ (c ++ (d ++ e)))
    (literals_proper lexers (own_of source)
    (firsts_own lexers (filter_map (needs_own lexers) tokens) (all_need lexers tokens)))
    (All-append P b (c ++ (d ++ e)) (rules_proper lexers lexers)
    (All-append P c (d ++ e) (names_proper lexers (all_declared source.prequels))
    (All-append P d e (names_proper lexers tokens) (names_proper lexers (all_commanded (lexer_rules source.rules))))))

-- so a number past those of the table is of one entry
pub one_entry : (table : List TokenEntry) (source : Source) (a b : TokenEntry) → Contains (types_of table source) a
    → Contains (types_of table source) b → a.number ≡ b.number → greatest_number table < a.number → a ≡ b
one_entry table source =
    let new = keys_new (token_lexers source.rules) table table (wanted_of source) (none_new (token_lexers source.rules) table)
    (all_proper source) in
    new.one

-- the numbers of a table
abbrev numbers : List TokenEntry → List ℕ
numbers table = map (λ entry. entry.number) table

-- What is known of the types so far, where there is no table: they count from 1.
record AreCounted (types : List TokenEntry) : Type 0 where
  in_order : numbers types ≡ range_with_len 1 (length types)
  top : greatest_number types ≡ length types

module _ (lexers : List LexerRule) where
  -- the next number
  next_number : (types : List TokenEntry) (wanted : Wanted) → AreNew lexers [] types → IsProper lexers wanted
      → (next_entry types wanted).number ≡ greatest_number types + 1
  next_number types wanted new proper = by wanted.literal refl
    where
      by : (o : Option (List ℕ)) → wanted.literal ≡ o
          → unwrap_or (literal_number types o) (greatest_number types + 1) ≡ greatest_number types + 1
      by None e = refl
      by (Some characters) e = ap (λ (n : Option ℕ). unwrap_or n (greatest_number types + 1))
          (new.literals characters (proper.named characters e))

  counted_more : (types : List TokenEntry) (wanted : Wanted) → AreNew lexers [] types → AreCounted types → IsProper lexers wanted
      → AreCounted (types ++ next_entry types wanted ∷ [])
  counted_more types wanted new h proper =
      let entry : TokenEntry = next_entry types wanted in
      let next : entry.number ≡ greatest_number types + 1 = next_number types wanted new proper in
      let long : length (types ++ entry ∷ []) ≡ length types + 1 = length-append types (entry ∷ []) in
      let last : entry.number ≡ 1 + length types = omega (arith, next, h.top) in
      let more : greatest_number (types ++ entry ∷ []) ≡ max (greatest_number types) entry.number = greatest_number-push types entry in
      record {
        in_order =
            map-append (λ (e : TokenEntry). e.number) types (entry ∷ [])
            ∙ (ap (λ (ns : List ℕ). ns ++ entry.number ∷ []) h.in_order
            ∙ (ap (λ (n : ℕ). range_with_len 1 (length types) ++ n ∷ []) last
            ∙ (sym (range_more 1 (length types)) ∙ ap (range_with_len 1) (sym long))));
        top = omega (arith, more, next, h.top, long);
      }

  counted_key : (types : List TokenEntry) (wanted : Wanted) → AreNew lexers [] types → AreCounted types → IsProper lexers wanted
      → AreCounted (with_key types wanted)
  counted_key types wanted new h proper = by (number_of types (key_of wanted.token)) refl
    where
      by : (o : Option ℕ) → number_of types (key_of wanted.token) ≡ o → AreCounted (with_key types wanted)
      by (Some n) is = subst AreCounted (with_key-old types wanted (ap is_some is)) h
      by None is = subst AreCounted (sym (with_key-new types wanted is)) (counted_more types wanted new h proper)

  counted_keys : (types : List TokenEntry) (all : List Wanted) → AreNew lexers [] types → AreCounted types → All (IsProper lexers) all
      → AreCounted (with_keys types all)
  counted_keys types [] new h proper = h
  counted_keys types (wanted ∷ more) new h proper =
      let first = All-head (IsProper lexers) wanted more proper in
      counted_keys (with_key types wanted) more (key_new lexers [] types wanted new first) (counted_key types wanted new h first)
      (All-tail (IsProper lexers) wanted more proper)

-- so without a table the types are 1, 2, 3, .., in the order in which they are given
pub count_from_one : (source : Source) → map (λ entry. entry.number) (types_of [] source) ≡ range_with_len 1 (length (types_of [] source))
count_from_one source =
    let counted = counted_keys (token_lexers source.rules) [] (wanted_of source) (none_new (token_lexers source.rules) [])
    (record { in_order = refl; top = refl }) (all_proper source) in
    counted.in_order
