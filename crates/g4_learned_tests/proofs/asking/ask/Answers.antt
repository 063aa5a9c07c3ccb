use Rattle.std.proofs.Common.{rules, ◌<◌, All, IsTrue, length, sym, subst, ℕ}
use Rattle.g4_classes.specs.Classes.{IsSymbol}
use Rattle.g4_net.specs.Allowed.{Allows}
use Rattle.g4_net.specs.Prediction.{Sll}
use Rattle.g4_predict.specs.Paths.{path_of, verdict_of}
use Rattle.g4_tokens.specs.TokenList.{word_of}
use Rattle.g4_guards.specs.Levels.{AllowedAt, IsCondition, IsDecision}
use Rattle.g4_guards.proofs.Same.{sll_over}
use Rattle.g4_learned_tests.proofs.asking.ask.Goals as goal

pub returns : goal.returns
returns c =
    let here : IsDecision c.args.net.now 2 = c.is_decision.ensures (search rules) in
    let allowed = c.in_ok-allowed.allowed in
    let agrees = c.in_ok-allowed.ensures in
    let path : Sll c.args.net.now 2 (Allows allowed) (word_of c.in_ok-tokens.tokens.list) (verdict_of c.in_ok-path.field-0-0)
    (path_of c.in_ok-path.path) = rw c.as_slice-list.ensures at c.in_ok-path.ensures.path in
    let yes : IsTrue c.can_be_asked.result = search rules in
    let symbols : All IsSymbol (word_of c.as_slice-list.result.now) = c.can_be_asked.ensures.symbols yes in
    let some : 0 < length c.as_slice-list.result.now = c.can_be_asked.ensures.some yes in
    record {
      condition = subst (λ (d : ℕ). IsCondition c.args.net.now d 0) (sym c.in_ok-path.ensures.decision)
          (c.has_conditions.ensures (search rules));
      decision = subst (IsDecision c.args.net.now) (sym c.in_ok-path.ensures.decision) here;
      sll = (
        verdict_of c.in_ok-path.field-0-0,
        subst (λ (d : ℕ). Sll c.args.net.now d (AllowedAt c.args.net.now d 0) (word_of c.in_ok-tokens.tokens.list)
            (verdict_of c.in_ok-path.field-0-0) (path_of c.in_ok-path.path)) (sym c.in_ok-path.ensures.decision)
            (sll_over c.args.net.now 2 (Allows allowed) (AllowedAt c.args.net.now 2 0) (λ i t first. (agrees i t first).0)
            (λ i t first. (agrees i t first).1) (word_of c.in_ok-tokens.tokens.list) (verdict_of c.in_ok-path.field-0-0)
            (path_of c.in_ok-path.path) path),
      );
      symbols = rw c.as_slice-list.ensures at symbols;
      ends = c.in_ok-tokens.ensures.ends;
      some = rw c.as_slice-list.ensures at some;
      few = c.in_ok-tokens.ensures.few;
    }
