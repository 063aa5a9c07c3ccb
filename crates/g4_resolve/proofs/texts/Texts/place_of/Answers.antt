use Rattle.std.proofs.Common.{◌≡◌, ℕ, List, Option, None, length, sym, ap, ◌∙◌}
use Rattle.std.specs.Option.{unwrap_or}
use Rattle.std.specs.Str.{bytes_eq}
use Rattle.g4_names.specs.Places.{first_place}
use Rattle.g4_names.proofs.Firsts.{unwrap_or-position}
use Rattle.g4_resolve.proofs.texts.Texts.place_of.Goals as goal

pub returns-in-None-clause-place : goal.returns-in-None-clause-place
returns-in-None-clause-place c =
    let texts : List (List ℕ) = c.args.self.now.texts.now in
    let text : List ℕ = c.args.text.now in
    let none : None ≡ first_place texts text = sym c.in-None.is ∙ (c.place_of.ensures ∙ c.args.self.now.placed text) in
    ap (λ (o : Option ℕ). unwrap_or o (length texts)) none
    ∙ unwrap_or-position (λ (other : List ℕ). bytes_eq other text) texts
