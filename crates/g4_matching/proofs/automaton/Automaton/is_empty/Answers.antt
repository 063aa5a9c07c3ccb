use Rattle.std.proofs.Common.{◌≡◌, ap, sym, ◌∙◌, refl, arith}
use Rattle.g4_matching.specs.declared.learned.Learned.{Learned}
use Rattle.g4_matching.proofs.Lookups.{got, same_some}
use Rattle.g4_matching.proofs.Matched.{empty_by}
use Rattle.g4_matching.proofs.automaton.Automaton.is_empty.Goals as goal

pub returns : goal.returns
returns c = λ l is yes.
    let there = got c.args.self.now.lists.items c.args.self.now.lists.items c.args.list c.index.result.now refl c.requires
    c.index.ensures in
    let same : l ≡ c.index.result.now = same_some l c.index.result.now (sym is ∙ there) in
    ap (λ (x : Learned). x.entries.items) same ∙ empty_by c.is_empty.result _ c.index.result.now.entries.items yes c.is_empty.ensures
    (omega (arith, c.index.result.now.entries.ok.0))
