use Rattle.std.proofs.Common.{◌+◌, ◌∷◌, [], List, map, drop, sym, ap, ◌∙◌}
use Rattle.std.proofs.lemmas.List.{drop_more}
use Rattle.std.proofs.lemmas.Result.{err_from_is_err_and}
use Rattle.g4_vocab.specs.Tables.{wanted_of}
use Rattle.g4_vocab.specs.Types.{Wanted, with_keys}
use Rattle.g4_vocab.specs.declared.wanted.WantedToken.{WantedToken}
use Rattle.g4_vocab.proofs.Keys.{adds_err}
use Rattle.g4_vocab.proofs.types.with_tokens.Goals as goal

pub returns-in_err-types : goal.returns-in_err-types
returns-in_err-types c =
    let p = err_from_is_err_and c.from_residual.result c.from_residual.ensures.1 in
    let all = c.args.wanted.now in
    let i = c.loop-token.token-index in
    let item = c.token-item.result in
    let more : List Wanted = map wanted_of (drop (i + 1) all) in
    let rest = ap (map wanted_of) (drop_more all i item c.loop-token-test.true
    ∙ ap (λ (z : WantedToken). z ∷ drop (i + 1) all) (sym c.token-item.is)) in
    rw (p.1, p.2)
    (adds_err c.args.table c.loop-token.types (map wanted_of all) (wanted_of item ∷ []) more c.in_err-types.field-0.0
    (ap (with_keys c.loop-token.types) (sym rest) ∙ c.loop-token.invariant) c.in_err-types.ensures)
