use Rattle.std.proofs.Common.{◌≡◌, Bool, true, false, refl}
use Rattle.g4_imports.specs.Modes.{declares_mode}
use Rattle.g4_imports.proofs.Covering.{declared_more, declared_skip}
use Rattle.g4_imports.proofs.modes.push_own.Goals as goal

pub returns : goal.returns
returns c = λ grammar there h.
    let is : declares_mode c.args.file.now.source ≡ true = cc in
    declared_more grammar c.args.number c.args.file.now there c.args.clauses.now.items h
    (record { head = c.args.number; needs = c.new-needs.result }) c.push.new.self.items is refl c.new-needs.ensures.items
    c.in_ok-push.ensures.items
