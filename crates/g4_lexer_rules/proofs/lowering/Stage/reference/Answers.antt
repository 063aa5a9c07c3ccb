use Rattle.std.proofs.Common.{◌≡◌, ℕ, List, Bool, false, cond, length, sym, ◌∙◌, ap, codes, Option}
use Rattle.std.specs.List.{position_or_len}
use Rattle.std.specs.Option.{unwrap_or}
use Rattle.std.specs.Str.{bytes_eq}
use Rattle.std.proofs.lemmas.List.{length-map}
use Rattle.g4_names.proofs.Firsts.{unwrap_or-position}
use Rattle.g4_lexer_rules.specs.declared.step.LexerStep.TheVariants.{AtEnd, Call}
use Rattle.g4_lexer_rules.specs.NetworkRules.{names_of}
use Rattle.g4_lexer_rules.proofs.lowering.Stage.reference.Goals as goal

pub returns : goal.returns
returns c =
    let names : List (List ℕ) = names_of c.args.self.now.rules.now in
    let name : List ℕ = c.args.name.now in
    let many : length c.args.self.now.rules.now ≡ length names = sym (length-map c.args.self.now.rules.now (λ rule. rule.name)) in
    let place : c.unwrap_or.result ≡ position_or_len (λ (other : List ℕ). bytes_eq other name) names =
    c.unwrap_or.ensures ∙ (ap (λ (n : ℕ). unwrap_or c.place_of-place.result n) many
    ∙ (ap (λ (o : Option ℕ). unwrap_or o (length names)) (c.place_of-place.ensures ∙ c.args.self.now.named name) ∙
    unwrap_or-position (λ (other : List ℕ). bytes_eq other name) names)) in
    let other : bytes_eq name (codes "EOF") ≡ false = sym c.eq.ensures ∙ c.if-eq.false in
    ap Call place ∙ ap (λ (b : Bool). cond b AtEnd (Call (position_or_len (λ (n : List ℕ). bytes_eq n name) names))) (sym other)
