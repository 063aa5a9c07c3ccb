use Rattle.std.proofs.Common.{◌≡◌, ℕ, List, Result, Ok, Err, [], rules, subst}
use Rattle.std.specs.Str.{IsUtf8, chars}
use Rattle.std.proofs.lemmas.Str.{chars_from_encodes}
use Rattle.g4_grammar_tokens.specs.Answers.{AnswersRest, IsScan, start_of, unmarked}
use Rattle.g4_grammar_tokens.specs.Scanning.{AreTokens, IsFaultyAt}
use Rattle.g4_grammar_tokens.specs.declared.scanner.ScanFault.{ScanFault}
use Rattle.g4_grammar_tokens.specs.declared.scanner.ScanFault.TheVariants.{NotUtf8, Syntax, NoMemory}
use Rattle.g4_grammar_tokens.specs.declared.token.Token.{Token}
use Rattle.g4_grammar_tokens.proofs.Spans.{scan_in_order}
use Rattle.g4_grammar_tokens.proofs.Texts.{scan_texts}
use Rattle.g4_grammar_tokens.proofs.scanner.scan.Goals as goal

whole_answer : (bytes text : List ℕ) (r : Result (List Token) ScanFault) → IsUtf8 bytes → text ≡ chars bytes
    → AnswersRest (start_of text) (unmarked text) r → IsScan bytes r
whole_answer bytes text (Ok tokens) utf8 same are =
    record { utf8 = utf8; tokens_are = subst (λ (t : List ℕ). AreTokens [] (start_of t) (unmarked t) tokens) same are }
whole_answer bytes text (Err (NotUtf8 at)) utf8 same never = absurd never
whole_answer bytes text (Err (Syntax place index)) utf8 same opens =
    record {
      utf8 = utf8;
      opens = subst (λ (t : List ℕ).
          IsFaultyAt [] (start_of t) (unmarked t) (record { place = place; index = index })) same opens;
    }
whole_answer bytes text (Err NoMemory) utf8 same _ = tt

pub returns-in_ok-characters-in-Ok-clause-value : goal.returns-in_ok-characters-in-Ok-clause-value
returns-in_ok-characters-in-Ok-clause-value c =
    let utf8 : IsUtf8 c.args.bytes.now = search rules in
    let same : c.deref.result.now ≡ chars c.args.bytes.now = search (rules, chars_from_encodes) in
    whole_answer c.args.bytes.now c.deref.result.now c.scan_characters.result utf8 same c.scan_characters.ensures

pub returns-in_ok-characters-in-Ok-clause-spans : goal.returns-in_ok-characters-in-Ok-clause-spans
returns-in_ok-characters-in-Ok-clause-spans c =
    let utf8 : IsUtf8 c.args.bytes.now = search rules in
    let same : c.deref.result.now ≡ chars c.args.bytes.now = search (rules, chars_from_encodes) in
    scan_in_order c.args.bytes.now c.scan_characters.result
    (whole_answer c.args.bytes.now c.deref.result.now c.scan_characters.result utf8 same c.scan_characters.ensures)

pub returns-in_ok-characters-in-Ok-clause-texts : goal.returns-in_ok-characters-in-Ok-clause-texts
returns-in_ok-characters-in-Ok-clause-texts c =
    let utf8 : IsUtf8 c.args.bytes.now = search rules in
    let same : c.deref.result.now ≡ chars c.args.bytes.now = search (rules, chars_from_encodes) in
    scan_texts c.args.bytes.now c.scan_characters.result
    (whole_answer c.args.bytes.now c.deref.result.now c.scan_characters.result utf8 same c.scan_characters.ensures)
