use Rattle.std.proofs.Common.{◌≡◌, ◌++◌, List, sym, ap, ◌∙◌, subst}
use Rattle.g4_source.specs.declared.rule.Rule.{Rule}
use Rattle.g4_merge.specs.Laws.{NamesDiffer}
use Rattle.g4_merge.specs.declared.merging.Merged.{Merged}
use Rattle.g4_fetch.specs.declared.closure.GrammarFile.{GrammarFile}
use Rattle.g4_source.specs.First.{IsNone}
use Rattle.g4_imports.specs.Composites.{sources_of}
use Rattle.g4_imports.specs.Faults.{RepeatsRule}
use Rattle.g4_imports.proofs.Winning.{main_differs, same_main}
use Rattle.g4_imports.proofs.law.main_rules_win.Goals as goal

pub returns : goal.returns
returns c = λ main imports composite none is.
    let same : is.main ≡ main = same_main is.main main is.imports imports (sym is.parts) in
    let own = subst (IsNone RepeatsRule) is.parts none in
    let first = c.main_rules_first.ensures is.main.source (sources_of is.imports) (main_differs is.main is.imports own) in (
      first.0,
      ap (λ (m : Merged). m.source.rules) is.merged
          ∙ (first.1 ∙ ap (λ (f : GrammarFile). f.source.rules ++ first.0) same),
    )
