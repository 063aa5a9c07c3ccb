use Rattle.std.proofs.Common.{◌≡◌, ℕ, ◌+◌, ◌++◌, List, length, replicate, take, drop, sym, ap, subst, ◌∙◌, arith}
use Rattle.g4_source.specs.declared.rule.LexerRule.{LexerRule}
use Rattle.g4_ordered.specs.declared.start.Start.{Start}
use Rattle.g4_lexer_rules.specs.Starts.{AllCanStart, mode_starts, starts_from, with_rules}
use Rattle.g4_lexer_rules.proofs.Starts.{by_modes, can_drop, can_take}
use Rattle.g4_lexer_rules.proofs.starting.starts_of_modes.Goals as goal

pub add_rules-requires-clause-can : goal.add_rules-requires-clause-can
add_rules-requires-clause-can c =
    subst (λ (rules : List LexerRule). AllCanStart c.args.states.now 0 rules) (sym c.split_at.ensures.front)
    (can_take c.args.states.now 0 c.args.rules.now c.args.literals c.requires.can)

pub add_by_modes-requires-clause-can : goal.add_by_modes-requires-clause-can
add_by_modes-requires-clause-can c =
    let at : 0 + c.args.literals ≡ c.args.literals = omega arith in
    subst (λ (rules : List LexerRule). AllCanStart c.args.states.now c.args.literals rules) (sym c.split_at.ensures.back)
    (subst (λ (k : ℕ). AllCanStart c.args.states.now k (drop c.args.literals c.args.rules.now)) at
    (can_drop c.args.states.now 0 c.args.rules.now c.args.literals c.requires.can))

pub returns : goal.returns
returns c =
    let states = c.args.states.now in
    let modes = c.args.modes.now in
    let n = c.args.literals in
    let front = c.split_at.result.0.now in
    let back = c.split_at.result.1.now in
    let starts : c.as_slice.result.now ≡ starts_from states 0 front =
    c.as_slice.ensures.value ∙ (c.in_ok-add_rules.ensures
    ∙ ap (λ (xs : List Start). xs ++ starts_from states 0 front) c.new-front.ensures.items) in
    let many : n ≡ length front = omega (arith, c.split_at.ensures.front_len) in
    c.in_ok-add_by_modes.ensures
    ∙ (ap (with_rules states modes n back) (c.in_ok-all.ensures ∙ ap (replicate (length modes)) starts)
    ∙ (by_modes states front back modes n many
    ∙ (ap (λ (rules : List LexerRule). mode_starts states rules back modes) c.split_at.ensures.front
    ∙ ap (λ (rules : List LexerRule). mode_starts states (take n c.args.rules.now) rules modes) c.split_at.ensures.back)))
