use Rattle.std.proofs.Common.{length, subst, sym, ◌∙◌}
use Rattle.std.proofs.lemmas.Bool.{false≢true}
use Rattle.g4_matching.specs.Places.{IsSet}
use Rattle.g4_matching.proofs.Ended.{end_noted, no_end_noted}
use Rattle.g4_matching.proofs.expanding.Expanding.note_end.Goals as goal

pub returns-in_ok-set-clause-ends : goal.returns-in_ok-set-clause-ends
returns-in_ok-set-clause-ends c =
    let set : IsSet c.args.self.now.ends c.args.entry.now.rule (length c.args.self.now.all) c.set.new.self =
    subst (λ n. IsSet c.args.self.now.ends c.args.entry.now.rule n c.set.new.self) c.len.ensures c.in_ok-set.ensures.set in
    end_noted c.args.net.now c.args.self.now.all c.args.self.now.ends _ c.args.entry.now c.requires set
    (c.is_at_end.ensures.0 c.if-is_at_end.true)

pub returns-else-is_at_end-clause-ends : goal.returns-else-is_at_end-clause-ends
returns-else-is_at_end-clause-ends c = no_end_noted c.args.net.now c.args.self.now.all c.args.self.now.ends c.args.entry.now
    c.requires (λ end. false≢true (sym c.if-is_at_end.false ∙ c.is_at_end.ensures.1 end))
