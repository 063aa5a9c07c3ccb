use Rattle.std.proofs.Common.{sym, ◌∙◌}
use Rattle.std.proofs.lemmas.Bool.{not-true, not-false}
use Rattle.g4_checks.proofs.Counting.{counting_new, counting_old}
use Rattle.g4_checks.proofs.labels.LabelSets.add_label.Goals as goal

pub returns-in_ok-add_new-clause-counting : goal.returns-in_ok-add_new-clause-counting
returns-in_ok-add_new-clause-counting c =
    λ once again counting. counting_new once again c.args.own.now c.add.new.self c.args.self.now.once c.args.self.now.again
    c.add_new.new.self.once c.add_new.new.self.again c.args.label.now counting c.in_ok-is_new.ensures.added
    (not-true _ (sym c.in_ok-is_new.ensures.new ∙ c.if-is_new.true)) c.in_ok-add_new.ensures.once c.in_ok-add_new.ensures.again

pub returns-else-is_new-clause-counting : goal.returns-else-is_new-clause-counting
returns-else-is_new-clause-counting c =
    λ once again counting. counting_old once again c.args.own.now c.add.new.self c.args.self.now.once c.args.self.now.again
    c.args.self.now.once c.args.self.now.again c.args.label.now counting c.in_ok-is_new.ensures.added
    (not-false _ (sym c.in_ok-is_new.ensures.new ∙ c.if-is_new.false))
