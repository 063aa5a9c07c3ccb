use Rattle.std.proofs.Common.{◌≡◌, ◌+◌, ℕ, List, All, Contains, drop, length, refl, sym, ◌∙◌, ap, subst, arith, length-drop}
use Rattle.std.proofs.lemmas.List.{length-map}
use Rattle.std.proofs.lemmas.List.Elements.{All-drop}
use Rattle.g4_classes.specs.Classes.{IsSymbol}
use Rattle.g4_decide.specs.Asked.{HaveCodes}
use Rattle.g4_decide.specs.Going.{CameTo, IsHere, IsStep}
use Rattle.g4_decide.specs.declared.stepping.Step.{Step}
use Rattle.g4_net.specs.Prediction.{SllFrom}
use Rattle.g4_predict.specs.Paths.{verdict_of}
use Rattle.g4_tokens.specs.declared.token.Token.{Token}
use Rattle.g4_tokens.specs.Symbols.{end_of_list}
use Rattle.g4_tokens.specs.TokenList.{word_of}
use Rattle.g4_decide.proofs.Going.{asked_from, here_reached, here_row, keeps_on, keeps_same, next_is, not_at_end, place_is, rest_on}
use Rattle.g4_decide.proofs.Steps.{here_codes, lacks_from, rest_asked, rest_keeps}
use Rattle.g4_decide.proofs.onward.go_on.Goals as goal

pub loop-index-init : goal.loop-index-init
loop-index-init g c = λ q came is.
    let first : c.args.at ≡ c.args.at + 0 = omega arith in (
      (subst (λ (n : ℕ). CameTo g.B.Home.plan q n c.args.row c.args.pass.now) first came, tt),
      keeps_same g.B.Home.plan q c.args.pass.now c.args.pass.now refl,
      refl,
    )

pub next_step-requires : goal.next_step-requires
next_step-requires g c =
    let (q, came, is) = c.requires.came in
    let (here, kept, full) = c.loop-index.invariant q came is in
    (q, here, next_is c.args.tokens.now q c.args.at c.loop-index.index _ is c.loop-index-test.true)

pub loop-index-preserved : goal.loop-index-preserved
loop-index-preserved g c = λ q came is.
    let p = g.B.Home.plan in
    let k = c.args.at + c.loop-index.index in
    let mid = c.loop-index.pass in
    let new = c.next_step.new.pass in
    let (here, kept, full) = c.loop-index.invariant q came is in
    let next = next_is c.args.tokens.now q c.args.at c.loop-index.index _ is c.loop-index-test.true in
    let (on, same) = subst (λ (s : Step). IsStep p q k mid new s) c.in-Onward.is (c.in_ok-came.ensures.step q here next) in
    let place : k + 1 ≡ c.args.at + (c.loop-index.index + 1) = omega arith in (
      subst (λ (n : ℕ). IsHere p q n c.in-Onward.next new) place on,
      keeps_on p q c.args.pass.now mid new kept (c.in_ok-came.ensures.keeps q here next),
      same ∙ full,
    )

pub returns-in_err-came-clause-keeps : goal.returns-in_err-came-clause-keeps
returns-in_err-came-clause-keeps g c = λ q came is.
    let (here, kept, full) = c.loop-index.invariant q came is in
    let next = next_is c.args.tokens.now q c.args.at c.loop-index.index _ is c.loop-index-test.true in
    keeps_on g.B.Home.plan q c.args.pass.now c.loop-index.pass c.next_step.new.pass kept (c.in_err-came.ensures.keeps q here next)

pub returns-in-Ended-clause-keeps : goal.returns-in-Ended-clause-keeps
returns-in-Ended-clause-keeps g c = λ q came is.
    let (here, kept, full) = c.loop-index.invariant q came is in
    let next = next_is c.args.tokens.now q c.args.at c.loop-index.index _ is c.loop-index-test.true in
    keeps_on g.B.Home.plan q c.args.pass.now c.loop-index.pass c.next_step.new.pass kept (c.in_ok-came.ensures.keeps q here next)

pub returns-in-Ended-clause-asked : goal.returns-in-Ended-clause-asked
returns-in-Ended-clause-asked g c = λ q came is.
    let p = g.B.Home.plan in
    let k = c.args.at + c.loop-index.index in
    let mid = c.loop-index.pass in
    let new = c.next_step.new.pass in
    let (here, kept, full) = c.loop-index.invariant q came is in
    let next = next_is c.args.tokens.now q c.args.at c.loop-index.index _ is c.loop-index-test.true in
    asked_from p q c.args.pass.now mid new (verdict_of c.in-Ended.verdict) full
    (subst (λ (s : Step). IsStep p q k mid new s) c.in-Ended.is (c.in_ok-came.ensures.step q here next))

pub finish-requires-clause-row : goal.finish-requires-clause-row
finish-requires-clause-row g c =
    let p = g.B.Home.plan in
    let k = c.args.at + c.loop-index.index in
    let mid = c.loop-index.pass in
    let new = c.next_step.new.pass in
    let (q, came, is) = c.requires.came in
    let (here, kept, full) = c.loop-index.invariant q came is in
    let next = next_is c.args.tokens.now q c.args.at c.loop-index.index _ is c.loop-index-test.true in
    let (at_row, lacks, knows) = subst (λ (s : Step). IsStep p q k mid new s) c.in-NoRoom.is (c.in_ok-came.ensures.step q here next) in
    let row = c.in-NoRoom.row in (
      at_row.content,
      at_row.known,
      here_row p q k row new at_row,
      here_reached p q k row new at_row,
      subst (λ (w : List ℕ). HaveCodes p.net.net at_row.content w k) (rest_on c.args.tokens.now q c.args.at c.loop-index.index is)
          (here_codes p q k row new at_row),
    )

pub finish-requires-clause-symbols : goal.finish-requires-clause-symbols
finish-requires-clause-symbols g c =
    let (q, came, is) = c.requires.came in
    subst (All IsSymbol) (rest_on c.args.tokens.now q c.args.at c.loop-index.index is)
    (All-drop IsSymbol (c.args.at + c.loop-index.index) q.word came.symbols)

pub finish-requires-clause-ends : goal.finish-requires-clause-ends
finish-requires-clause-ends g c =
    let (q, came, is) = c.requires.came in
    let place = place_is c.args.tokens.now q c.args.at c.loop-index.index is c.loop-index-test.true in
    subst (λ (w : List ℕ). Contains w end_of_list) (rest_on c.args.tokens.now q c.args.at c.loop-index.index is)
    (came.ahead (c.args.at + c.loop-index.index) place)

pub returns-in_err-verdict-in-NoRoom-clause-keeps : goal.returns-in_err-verdict-in-NoRoom-clause-keeps
returns-in_err-verdict-in-NoRoom-clause-keeps g c = λ q came is.
    let p = g.B.Home.plan in
    let mid = c.loop-index.pass in
    let new = c.next_step.new.pass in
    let (here, kept, full) = c.loop-index.invariant q came is in
    let next = next_is c.args.tokens.now q c.args.at c.loop-index.index _ is c.loop-index-test.true in
    keeps_on p q c.args.pass.now new c.finish.new.pass
    (keeps_on p q c.args.pass.now mid new kept (c.in_ok-came.ensures.keeps q here next))
    (keeps_same p q new c.finish.new.pass c.in_err-verdict-in-NoRoom.ensures.unchanged)

pub returns-in-NoRoom-clause-keeps : goal.returns-in-NoRoom-clause-keeps
returns-in-NoRoom-clause-keeps g c = λ q came is.
    let p = g.B.Home.plan in
    let k = c.args.at + c.loop-index.index in
    let mid = c.loop-index.pass in
    let new = c.next_step.new.pass in
    let (here, kept, full) = c.loop-index.invariant q came is in
    let next = next_is c.args.tokens.now q c.args.at c.loop-index.index _ is c.loop-index-test.true in
    let (at_row, lacks, knows) = subst (λ (s : Step). IsStep p q k mid new s) c.in-NoRoom.is (c.in_ok-came.ensures.step q here next) in
    let row = c.in-NoRoom.row in
    let v = verdict_of c.in_ok-verdict-in-NoRoom.verdict in
    let (looked, says, (learned, learns)) = c.in_ok-verdict-in-NoRoom.ensures.learned at_row.content at_row.known in
    let says' = subst (λ (w : List ℕ). SllFrom p.net.net (Contains at_row.content) w k v looked)
    (sym (rest_on c.args.tokens.now q c.args.at c.loop-index.index is)) says in
    keeps_on p q c.args.pass.now new c.finish.new.pass
    (keeps_on p q c.args.pass.now mid new kept (c.in_ok-came.ensures.keeps q here next))
    (rest_keeps p q k row new at_row c.finish.new.pass v looked says' learned learns)

pub returns-in-NoRoom-clause-asked : goal.returns-in-NoRoom-clause-asked
returns-in-NoRoom-clause-asked g c = λ q came is.
    let p = g.B.Home.plan in
    let k = c.args.at + c.loop-index.index in
    let mid = c.loop-index.pass in
    let new = c.next_step.new.pass in
    let (here, kept, full) = c.loop-index.invariant q came is in
    let next = next_is c.args.tokens.now q c.args.at c.loop-index.index _ is c.loop-index-test.true in
    let (at_row, lacks, knows) = subst (λ (s : Step). IsStep p q k mid new s) c.in-NoRoom.is (c.in_ok-came.ensures.step q here next) in
    let row = c.in-NoRoom.row in
    let v = verdict_of c.in_ok-verdict-in-NoRoom.verdict in
    let (looked, says, (learned, learns)) = c.in_ok-verdict-in-NoRoom.ensures.learned at_row.content at_row.known in
    let says' = subst (λ (w : List ℕ). SllFrom p.net.net (Contains at_row.content) w k v looked)
    (sym (rest_on c.args.tokens.now q c.args.at c.loop-index.index is)) says in
    rest_asked p q k row new at_row c.finish.new.pass v looked says' learned learns c.args.pass.now
    (lacks_from p q c.args.pass.now mid new full lacks) knows
    c.in_ok-verdict-in-NoRoom.ensures.rows

pub unreachable-requires : goal.unreachable-requires
unreachable-requires g c =
    let (q, came, is) = c.requires.came in
    let (here, kept, full) = c.loop-index.invariant q came is in
    let many : length (word_of c.args.tokens.now) ≡ length c.args.tokens.now = length-map c.args.tokens.now (λ (t : Token). t.symbol) in
    let long : length (drop c.args.at q.word) ≡ length (word_of c.args.tokens.now) = ap length is in
    let left = length-drop c.args.at q.word in
    let inside = came.within in
    let last : c.args.at + c.loop-index.index ≡ length q.word =
    let a = c.loop-index-test.false in let b = c.loop-index.auto.index-end in omega arith in
    not_at_end g.B.Home.plan q (c.args.at + c.loop-index.index) c.loop-index.here.row c.loop-index.pass here.0 last
