use Rattle.std.proofs.Common.{◌≡◌, [], get_or, ap, ◌∙◌}
use Rattle.g4_core.specs.States.{State, questions_of}
use Rattle.g4_core.proofs.Finding.{inner_read, item_found}
use Rattle.g4_core.proofs.machine.Core.path_of.Goals as goal

pub returns : goal.returns
returns g c =
    let files : c.as_slice.result.now ≡ c.args.self.now.files =
    c.as_slice.ensures ∙ ap (λ (s : State g.row.N.Denot g.row.C.Denot). s.files) c.self.view_is in
    let here = c.in_ok-get.ensures.lookup in
    item_found c.as_slice-2.result.now (questions_of c.args.self.now.files c.args.file) c.args.question c.get-2.result
    c.get-2.ensures.lookup
    (c.as_slice-2.ensures
    ∙ inner_read c.args.self.now.files c.as_slice.result.now c.args.file c.in_ok-get.field-0.now files here.3.0 here.1)
