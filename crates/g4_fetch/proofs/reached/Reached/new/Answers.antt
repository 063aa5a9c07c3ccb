use Rattle.std.proofs.Common.{◌++◌, ◌∷◌, [], ℕ, List, Some, cond, ap, ◌∙◌}
use Rattle.std.specs.Str.{bytes_eq}
use Rattle.g4_fetch.specs.ByNames.{value_of}
use Rattle.g4_fetch.proofs.Filled.{filled_alone}
use Rattle.g4_fetch.proofs.Numbered.{number_first}
use Rattle.g4_fetch.specs.declared.closure.GrammarFile.{GrammarFile}
use Rattle.g4_fetch.proofs.reached.Reached.new.Goals as goal

pub invariant_of-result : goal.invariant_of-result
invariant_of-result c = (
  number_first c.args.main _ _ _
      (c.in_ok-push.ensures.items ∙ ap (λ (fs : List GrammarFile). fs ++ c.args.main ∷ []) c.new-files.ensures.items)
      c.new-numbers.ensures
      (λ other. c.in_ok-add.ensures other
      ∙ ap (λ (n : List ℕ). cond (bytes_eq n other) (Some 0) (value_of c.new-numbers.result other)) c.as_str.ensures),
  filled_alone c.args.main _
      (c.in_ok-push.ensures.items ∙ ap (λ (fs : List GrammarFile). fs ++ c.args.main ∷ []) c.new-files.ensures.items) c.requires,
)
