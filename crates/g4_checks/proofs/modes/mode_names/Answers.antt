use Rattle.std.proofs.Common.{ℕ, List, [], ◌∷◌, codes, refl, subst}
use Rattle.g4_checks.specs.Known.{AddsAll}
use Rattle.g4_checks.proofs.Known.{adds_more, adds_name}
use Rattle.g4_checks.proofs.modes.mode_names.Goals as goal

pub returns : goal.returns
returns c =
    adds_more [] c.add.new.self c.add_all.new.self (codes "DEFAULT_MODE" ∷ []) c.args.source.now.modes
    (codes "DEFAULT_MODE" ∷ c.args.source.now.modes) refl
    (subst (λ (old : List (List ℕ)). AddsAll old (codes "DEFAULT_MODE" ∷ []) c.add.new.self) c.new-names.ensures
    (adds_name c.new-names.result c.add.new.self (codes "DEFAULT_MODE") c.in_ok-add.ensures.added))
    (subst (λ (modes : List (List ℕ)). AddsAll c.add.new.self modes c.add_all.new.self) c.as_slice.ensures c.in_ok-add_all.ensures)
