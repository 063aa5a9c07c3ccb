use Rattle.std.proofs.Common.{refl, arith}
use Rattle.g4_imports.proofs.Covering.{imported_more}
use Rattle.g4_imports.proofs.modes.push_import.Goals as goal

pub returns : goal.returns
returns c = λ grammar before all of h.
    imported_more grammar c.args.count before c.args.import.now all of c.args.clauses.now.items h
    (record { head = c.args.import.now.importer; needs = c.in_ok-needs.needs }) c.push.new.self.items c.if-count-import.false refl
    c.in_ok-needs.ensures.items c.in_ok-push.ensures.items
