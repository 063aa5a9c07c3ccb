use Rattle.std.proofs.Common.{◌≡◌, ℕ, List, length, Some, refl, ap, cond, ◌∙◌, rules}
use Rattle.std.specs.Str.{bytes_eq}
use Rattle.g4_fetch.proofs.Filled.{filled_more}
use Rattle.g4_fetch.proofs.Numbered.{number_more}
use Rattle.g4_fetch.specs.ByNames.{value_of}
use Rattle.g4_fetch.specs.Closures.{number_of}
use Rattle.g4_fetch.specs.declared.closure.WithImports.{WithImports}
use Rattle.g4_fetch.proofs.reached.Reached.with_file.Goals as goal

pub invariant_of-result : goal.invariant_of-result
invariant_of-result c =
    let counted : c.len.result ≡ length c.self.inside.files.items = search rules in (
      number_more c.self.inside.files.items _ _ c.args.name c.self.inside.numbers _ c.in_ok-push.ensures.items refl c.self.invariant.0
          (ap (λ (g : WithImports). number_of g c.args.name) c.self.view_is ∙ c.requires.none)
          (λ other. c.in_ok-add.ensures other
          ∙ (ap (λ (n : List ℕ). cond (bytes_eq n other) (Some c.len.result) (value_of c.self.inside.numbers other)) c.as_str.ensures
          ∙ ap (λ (k : ℕ). cond (bytes_eq c.args.name other) (Some k) (value_of c.self.inside.numbers other)) counted)),
      filled_more c.self.inside.files.items _ _ c.in_ok-push.ensures.items c.requires.full c.self.invariant.1,
    )
