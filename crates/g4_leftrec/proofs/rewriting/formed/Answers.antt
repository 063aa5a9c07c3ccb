use Rattle.std.proofs.Common.{◌≡◌, ◌∙◌, sym, ap, length, false}
use Rattle.g4_leftrec.specs.OwnCalls.{is_left_recursive}
use Rattle.g4_leftrec.specs.OwnSteps.{calls}
use Rattle.g4_leftrec.proofs.Made.{numbered_as_written}
use Rattle.g4_leftrec.proofs.rewriting.formed.Goals as goal

pub returns-clause-numbering : goal.returns-clause-numbering
returns-clause-numbering c =
    let same = c.as_slice-2.ensures.value ∙ c.into_vec-alternatives.ensures in
    let plain : is_left_recursive (calls c.args.number) c.args.rule.alternatives ≡ false =
    sym (ap (λ xs. is_left_recursive (calls c.args.number) xs) same)
    ∙ (sym c.is_left_recursive.ensures ∙ c.if-is_left_recursive.false) in
    let many : c.in_ok-count.count ≡ length c.args.rule.alternatives =
    c.in_ok-count.ensures.count ∙ ap length (c.as_slice.ensures.value ∙ c.into_vec-alternatives.ensures) in
    numbered_as_written c.args.number c.args.rule c.new-2.result c.in_ok-count.count plain many (c.new-2.ensures ∙ c.in_ok-starts.ensures)
