-- The parser rules and the lexer rules among some rules, with one rule more.
use Rattle.std.proofs.Common.{◌≡◌, ℕ, ◌+◌, ◌<◌, List, [], ◌∷◌, ◌++◌, length, map, take, get_or, filter, Bool, true, false, cond, not, sym, ap, ◌∙◌}
use Rattle.std.specs.Borrow.{Bor}
use Rattle.std.proofs.lemmas.List.{take_more, map-append, append-nil}
use Rattle.std.proofs.lemmas.List.Elements.{filter-append, filter_map-append}
use Rattle.g4_source.specs.declared.atom.Atom.{Atom}
use Rattle.g4_source.specs.declared.rule.Rule.{Rule}
use Rattle.g4_source.specs.declared.rule.Rule.TheVariants.{Parser, Lexer}
use Rattle.g4_source.specs.declared.rule.ParserRule.{ParserRule}
use Rattle.g4_source.specs.declared.rule.LexerRule.{LexerRule}
use Rattle.g4_source.specs.Rules.{parser_rule, lexer_rule, parser_rules, lexer_rules}
use Rattle.g4_vocab.specs.Halves.{AreHalves}
use Rattle.g4_vocab.specs.Numbering.{token_lexers}

-- a lexer rule without `fragment`
abbrev makes : LexerRule → Bool
makes rule = not rule.fragment

-- one item more
push_now : {X : Type 0} (xs new : List (Bor X)) (b : Bor X) → new ≡ xs ++ b ∷ [] → map (λ r. r.now) new ≡ map (λ r. r.now) xs ++ b.now ∷ []
push_now xs new b e = ap (map (λ (r : Bor _). r.now)) e ∙ map-append (λ (r : Bor _). r.now) xs (b ∷ [])

-- the rules up to this one
take_rule : (rules : List Rule) (i : ℕ) (rule is : Rule) → i < length rules → rule ≡ get_or rules i rule → rule ≡ is
    → take (i + 1) rules ≡ take i rules ++ is ∷ []
take_rule rules i rule is within item e = take_more rules i rule within ∙ ap (λ (r : Rule). take i rules ++ r ∷ []) (sym item ∙ e)

-- a parser rule
pub parser_more : (rules : List Rule) (i : ℕ) (rule : Rule) (b : Bor (ParserRule Atom)) (ps new : List (Bor (ParserRule Atom)))
    (ls : List LexerRule) → i < length rules → rule ≡ get_or rules i rule → new ≡ ps ++ b ∷ [] → rule ≡ Parser b.now →
    AreHalves (take i rules) (map (λ r. r.now) ps) ls → AreHalves (take (i + 1) rules) (map (λ r. r.now) new) ls
parser_more rules i rule b ps new ls within item pushed is h =
    let next = take_rule rules i rule (Parser b.now) within item is in record {
      parsers_are =
          push_now ps new b pushed ∙ (ap (λ (xs : List (ParserRule Atom)). xs ++ b.now ∷ []) h.parsers_are
          ∙ (sym (filter_map-append parser_rule (take i rules) (Parser b.now ∷ [])) ∙ ap parser_rules (sym next)));
      lexers_are =
          h.lexers_are ∙ (ap (filter makes) (sym (append-nil (lexer_rules (take i rules)))
          ∙ sym (filter_map-append lexer_rule (take i rules) (Parser b.now ∷ [])))
          ∙ ap token_lexers (sym next));
    }

-- the lexer rules with one more
lexers_more : (xs : List Rule) (l : LexerRule) → token_lexers (xs ++ Lexer l ∷ []) ≡ token_lexers xs ++ cond (makes l) (l ∷ []) []
lexers_more xs l = ap (filter makes) (filter_map-append lexer_rule xs (Lexer l ∷ [])) ∙ filter-append makes (lexer_rules xs) (l ∷ [])

-- a lexer rule is no parser rule
parsers_same : (xs : List Rule) (l : LexerRule) → parser_rules (xs ++ Lexer l ∷ []) ≡ parser_rules xs
parsers_same xs l = filter_map-append parser_rule xs (Lexer l ∷ []) ∙ append-nil (parser_rules xs)

-- a lexer rule without `fragment`
pub lexer_more : (rules : List Rule) (i : ℕ) (rule : Rule) (b : Bor LexerRule) (ps : List (ParserRule Atom))
    (ls new : List (Bor LexerRule)) → i < length rules → rule ≡ get_or rules i rule → new ≡ ls ++ b ∷ [] → rule ≡ Lexer b.now
    → b.now.fragment ≡ false →
    AreHalves (take i rules) ps (map (λ r. r.now) ls) → AreHalves (take (i + 1) rules) ps (map (λ r. r.now) new)
lexer_more rules i rule b ps ls new within item pushed is bare h =
    let next = take_rule rules i rule (Lexer b.now) within item is in record {
      parsers_are = h.parsers_are ∙ (sym (parsers_same (take i rules) b.now) ∙ ap parser_rules (sym next));
      lexers_are =
          push_now ls new b pushed ∙ (ap (λ (xs : List LexerRule). xs ++ b.now ∷ []) h.lexers_are
          ∙ (ap (λ (k : Bool). token_lexers (take i rules) ++ cond k (b.now ∷ []) []) (sym (ap not bare))
          ∙ (sym (lexers_more (take i rules) b.now) ∙ ap token_lexers (sym next))));
    }

-- a lexer rule with `fragment`
pub fragment_more : (rules : List Rule) (i : ℕ) (rule : Rule) (l : LexerRule) (ps : List (ParserRule Atom)) (ls : List LexerRule)
    → i < length rules → rule ≡ get_or rules i rule → rule ≡ Lexer l → l.fragment ≡ true →
    AreHalves (take i rules) ps ls → AreHalves (take (i + 1) rules) ps ls
fragment_more rules i rule l ps ls within item is some h =
    let next = take_rule rules i rule (Lexer l) within item is in record {
      parsers_are = h.parsers_are ∙ (sym (parsers_same (take i rules) l) ∙ ap parser_rules (sym next));
      lexers_are =
          h.lexers_are ∙ (sym (append-nil (token_lexers (take i rules)))
          ∙ (ap (λ (k : Bool). token_lexers (take i rules) ++ cond k (l ∷ []) []) (sym (ap not some))
          ∙ (sym (lexers_more (take i rules) l) ∙ ap token_lexers (sym next))));
    }
