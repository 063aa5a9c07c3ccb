use Rattle.std.proofs.Common.{◌≡◌, ◌∙◌, ap}
use Rattle.g4_learned.specs.Tables.{Tables, column_of}
use Rattle.g4_learned.proofs.Targets.{finds_end, finds_nothing, finds_row, keeps_end, keeps_nothing, keeps_row, small_end}
use Rattle.g4_learned.proofs.store.Store.target.Goals as goal

pub verdict_at-requires : goal.verdict_at-requires
verdict_at-requires g c =
    let p = g.B.Home.plan in
    let (y, known) = c.requires.row in
    let column : c.column_of-column.result ≡ column_of p.net c.args.symbol =
    c.column_of-column.ensures.is ∙ ap (λ (t : Tables). column_of t c.args.symbol) c.net.ensures.is in
    small_end p c.args.row y c.args.symbol c.column_of-column.result column c.args.pass.now.0 c.read_cell-found.new.pass.0 c.in-End.code
    c.requires.symbol (c.in-End.ensures.found y known)

pub returns-in-Nothing-clause-finds : goal.returns-in-Nothing-clause-finds
returns-in-Nothing-clause-finds g c = λ y known.
    let p = g.B.Home.plan in
    let column : c.column_of-column.result ≡ column_of p.net c.args.symbol =
    c.column_of-column.ensures.is ∙ ap (λ (t : Tables). column_of t c.args.symbol) c.net.ensures.is in
    finds_nothing p c.args.row y c.args.symbol c.column_of-column.result column c.args.pass.now.0 c.read_cell-found.new.pass.0 c.args.at
    (c.in-Nothing.ensures.found y known)

pub returns-in-Nothing-clause-same : goal.returns-in-Nothing-clause-same
returns-in-Nothing-clause-same g c =
    let p = g.B.Home.plan in
    let (y, known) = c.requires.row in
    let column : c.column_of-column.result ≡ column_of p.net c.args.symbol =
    c.column_of-column.ensures.is ∙ ap (λ (t : Tables). column_of t c.args.symbol) c.net.ensures.is in
    keeps_nothing p c.args.row y c.args.symbol c.column_of-column.result column c.args.pass.now.0 c.read_cell-found.new.pass.0
    (c.in-Nothing.ensures.found y known)

pub returns-in-End-clause-finds : goal.returns-in-End-clause-finds
returns-in-End-clause-finds g c = λ y known.
    let p = g.B.Home.plan in
    let column : c.column_of-column.result ≡ column_of p.net c.args.symbol =
    c.column_of-column.ensures.is ∙ ap (λ (t : Tables). column_of t c.args.symbol) c.net.ensures.is in
    finds_end p c.args.row y c.args.symbol c.column_of-column.result column c.args.pass.now.0 c.read_cell-found.new.pass.0 c.args.at
    c.in-End.code c.verdict_at.result c.verdict_at.ensures (c.in-End.ensures.found y known)

pub returns-in-End-clause-same : goal.returns-in-End-clause-same
returns-in-End-clause-same g c =
    let p = g.B.Home.plan in
    let (y, known) = c.requires.row in
    let column : c.column_of-column.result ≡ column_of p.net c.args.symbol =
    c.column_of-column.ensures.is ∙ ap (λ (t : Tables). column_of t c.args.symbol) c.net.ensures.is in
    keeps_end p c.args.row y c.args.symbol c.column_of-column.result column c.args.pass.now.0 c.read_cell-found.new.pass.0 c.in-End.code
    (c.in-End.ensures.found y known)

pub returns-in-Row-clause-finds : goal.returns-in-Row-clause-finds
returns-in-Row-clause-finds g c = λ y known.
    let p = g.B.Home.plan in
    let column : c.column_of-column.result ≡ column_of p.net c.args.symbol =
    c.column_of-column.ensures.is ∙ ap (λ (t : Tables). column_of t c.args.symbol) c.net.ensures.is in
    finds_row p c.args.row y c.args.symbol c.column_of-column.result column c.args.pass.now.0 c.read_cell-found.new.pass.0 c.args.at
    c.in-Row.next c.in-Row._mark (c.in-Row.ensures.found y known)

pub returns-in-Row-clause-same : goal.returns-in-Row-clause-same
returns-in-Row-clause-same g c =
    let p = g.B.Home.plan in
    let (y, known) = c.requires.row in
    let column : c.column_of-column.result ≡ column_of p.net c.args.symbol =
    c.column_of-column.ensures.is ∙ ap (λ (t : Tables). column_of t c.args.symbol) c.net.ensures.is in
    keeps_row p c.args.row y c.args.symbol c.column_of-column.result column c.args.pass.now.0 c.read_cell-found.new.pass.0 c.in-Row.next
    c.in-Row._mark (c.in-Row.ensures.found y known)
