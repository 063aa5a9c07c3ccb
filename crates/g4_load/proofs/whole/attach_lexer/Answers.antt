use Rattle.std.proofs.Common.{◌≡◌, Option, Ok, Err, refl}
use Rattle.std.proofs.lemmas.Result.{err_from_is_err_and}
use Rattle.g4_attach.specs.Attaching.{IsAttached}
use Rattle.g4_load.specs.Faults.{of_attach}
use Rattle.g4_load.specs.Stages.{goes_on}
use Rattle.g4_load.specs.Uniting.{lexer_source, united_of}
use Rattle.g4_load.proofs.Built.{stage_exit}
use Rattle.g4_load.proofs.whole.attach_lexer.Goals as goal

pub returns-in_err-attached : goal.returns-in_err-attached
returns-in_err-attached c =
    let p = err_from_is_err_and c.from_residual.result c.from_residual.ensures.1 in
    let parser = c.args.parser in
    let lexer = c.args.lexer in
    let fault = c.in_err-attached.field-0.0 in
    rw (p.1, p.2) (stage_exit (IsAttached c.args.table parser.merged.source (lexer_source lexer)) of_attach
    (λ attached result. result ≡ Ok (united_of parser lexer attached)) fault
    (rw (c.parts_of-source.ensures.source, c.lexer_parts-lexer.ensures.source) at c.in_err-attached.ensures))

pub returns : goal.returns
returns c =
    let attached = c.in_ok-attached.attached in
    rw (c.parts_of-source.ensures.origin, c.lexer_parts-lexer.ensures.origin)
    (goes_on attached (Ok (united_of c.args.parser c.args.lexer attached))
    (rw (c.parts_of-source.ensures.source, c.lexer_parts-lexer.ensures.source) at c.in_ok-attached.ensures) refl)
