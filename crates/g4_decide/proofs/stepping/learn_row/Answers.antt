use Rattle.std.proofs.Common.{◌∷◌, [], inl, refl, ◌∙◌, subst}
use Rattle.g4_configs.specs.Configs.{Holds}
use Rattle.g4_learned.specs.declared.target.Target.TheVariants.{Row}
use Rattle.g4_learned.specs.Tables.{column_of}
use Rattle.g4_net.specs.Lookahead.{Next}
use Rattle.std.specs.Prelude.{Contains}
use Rattle.g4_store.specs.declared.automaton.Fact.TheVariants.{Cell}
use Rattle.g4_store.specs.declared.automaton.Led.TheVariants as led
use Rattle.g4_store.specs.declared.book.Learned.{Learned}
use Rattle.g4_store.specs.declared.book.Learned.TheVariants as learned
use Rattle.g4_store.specs.Learned.{IsLearned}
use Rattle.g4_decide.proofs.Going.{here_row, keeps_on, keeps_same, next_symbol}
use Rattle.g4_decide.proofs.Steps.{found_keeps, found_row, made_here, made_is_learned, made_led, made_no_end, made_row_keeps, made_row_lacks, set_at_hand}
use Rattle.g4_decide.proofs.stepping.learn_row.Goals as goal

pub learn_step-requires : goal.learn_step-requires
learn_step-requires g c =
    let p = g.B.Home.plan in
    let (q, came, next, onward) = c.requires in
    let old = c.args.pass.now in
    let k = c.args.at in
    let a = c.args.symbol in (
      came.content,
      came.known,
      here_row p q k c.args.row old came,
      next_symbol p q k c.args.row old came a next,
      made_led p q k c.args.row old came a next (Holds c.args.next) onward c.in_ok-snapshot.snapshot c.in_ok-snapshot.ensures,
    )

pub returns-in_err-learned-clause-keeps : goal.returns-in_err-learned-clause-keeps
returns-in_err-learned-clause-keeps g c = λ q came next onward.
    keeps_same g.B.Home.plan q c.args.pass.now c.learn_step.new.pass c.in_err-learned.ensures.unchanged

pub returns-in_err-snapshot-clause-keeps : goal.returns-in_err-snapshot-clause-keeps
returns-in_err-snapshot-clause-keeps g c = λ q came next onward. keeps_same g.B.Home.plan q c.args.pass.now c.args.pass.now refl

pub target-target-requires-clause-row : goal.target-target-requires-clause-row
target-target-requires-clause-row g c =
    let p = g.B.Home.plan in
    let (q, came, next, onward) = c.requires in
    let old = c.args.pass.now in
    let mid = c.learn_step.new.pass in
    let k = c.args.at in
    let a = c.args.symbol in
    let z = c.in_ok-snapshot.snapshot in
    let is = c.in_ok-snapshot.ensures in
    let facts = Cell came.content (column_of p.net a) (led.Row z 0) ∷ [] in
    let all = subst (λ (l : Learned). IsLearned p.rows facts old mid l) c.in-All.is
    (c.in_ok-learned.ensures.learned came.content came.known) in
    let here = made_here p q k c.args.row old came a next (Holds c.args.next) onward z is mid all in
    (here.content, here.known)

pub target-target-requires-clause-place : goal.target-target-requires-clause-place
target-target-requires-clause-place g c = let (q, came, next, onward) = c.requires in came.number

pub target-target-requires-clause-symbol : goal.target-target-requires-clause-symbol
target-target-requires-clause-symbol g c =
    let (q, came, next, onward) = c.requires in
    next_symbol g.B.Home.plan q c.args.at c.args.row c.args.pass.now came c.args.symbol next

pub unreachable-requires : goal.unreachable-requires
unreachable-requires g c =
    let p = g.B.Home.plan in
    let (q, came, next, onward) = c.requires in
    let old = c.args.pass.now in
    let mid = c.learn_step.new.pass in
    let a = c.args.symbol in
    let z = c.in_ok-snapshot.snapshot in
    let facts = Cell came.content (column_of p.net a) (led.Row z 0) ∷ [] in
    let all = subst (λ (l : Learned). IsLearned p.rows facts old mid l) c.in-All.is
    (c.in_ok-learned.ensures.learned came.content came.known) in
    let here = made_here p q c.args.at c.args.row old came a next (Holds c.args.next) onward z c.in_ok-snapshot.ensures mid all in
    made_no_end p q c.args.at c.args.row old came a next (Holds c.args.next) onward z c.in_ok-snapshot.ensures mid all
    c.target-target.new.pass c.in-Ended.field-0 (c.in-Ended.ensures.finds came.content here.known)

pub unreachable-requires-in-NotLearned : goal.unreachable-requires-in-NotLearned
unreachable-requires-in-NotLearned g c =
    let p = g.B.Home.plan in
    let (q, came, next, onward) = c.requires in
    let old = c.args.pass.now in
    let mid = c.learn_step.new.pass in
    let a = c.args.symbol in
    let z = c.in_ok-snapshot.snapshot in
    let facts = Cell came.content (column_of p.net a) (led.Row z 0) ∷ [] in
    let all = subst (λ (l : Learned). IsLearned p.rows facts old mid l) c.in-All.is
    (c.in_ok-learned.ensures.learned came.content came.known) in
    let here = made_here p q c.args.at c.args.row old came a next (Holds c.args.next) onward z c.in_ok-snapshot.ensures mid all in
    made_is_learned p q c.args.at c.args.row old came a next (Holds c.args.next) onward z c.in_ok-snapshot.ensures mid all
    c.target-target.new.pass (c.in-NotLearned.ensures.finds came.content here.known)

pub returns-in-Row-clause-keeps : goal.returns-in-Row-clause-keeps
returns-in-Row-clause-keeps g c = λ q came next onward.
    let p = g.B.Home.plan in
    let old = c.args.pass.now in
    let mid = c.learn_step.new.pass in
    let new = c.target-target.new.pass in
    let k = c.args.at in
    let row = c.args.row in
    let a = c.args.symbol in
    let H = Holds c.args.next in
    let z = c.in_ok-snapshot.snapshot in
    let is = c.in_ok-snapshot.ensures in
    let facts = Cell came.content (column_of p.net a) (led.Row z 0) ∷ [] in
    let all = subst (λ (l : Learned). IsLearned p.rows facts old mid l) c.in-All.is
    (c.in_ok-learned.ensures.learned came.content came.known) in
    let here = made_here p q k row old came a next H onward z is mid all in
    keeps_on p q old mid new (made_row_keeps p q k row old came a next H onward z is mid learned.All all)
    (found_keeps p q k row mid here a next new (Row c.in-Row.row) (c.in-Row.ensures.finds here.content here.known)
    c.in-Row.ensures.same)

pub returns-in-Row-clause-step : goal.returns-in-Row-clause-step
returns-in-Row-clause-step g c = λ q came next onward.
    let p = g.B.Home.plan in
    let old = c.args.pass.now in
    let mid = c.learn_step.new.pass in
    let new = c.target-target.new.pass in
    let k = c.args.at in
    let row = c.args.row in
    let a = c.args.symbol in
    let H = Holds c.args.next in
    let z = c.in_ok-snapshot.snapshot in
    let is = c.in_ok-snapshot.ensures in
    let facts = Cell came.content (column_of p.net a) (led.Row z 0) ∷ [] in
    let all = subst (λ (l : Learned). IsLearned p.rows facts old mid l) c.in-All.is
    (c.in_ok-learned.ensures.learned came.content came.known) in
    let here = made_here p q k row old came a next H onward z is mid all in
    let (on, led_on) = found_row p q k row mid here a next new c.in-Row.row (c.in-Row.ensures.finds here.content here.known)
    c.in-Row.ensures.same c.in-Row.ensures.rows in (
      (on, set_at_hand p.net.net (Next p.net.net (Contains came.content) a) H on.content onward led_on),
      c.in-Row.ensures.full ∙ all.1,
    )

pub returns-in-Full-clause-keeps : goal.returns-in-Full-clause-keeps
returns-in-Full-clause-keeps g c = λ q came next onward.
    let p = g.B.Home.plan in
    let old = c.args.pass.now in
    let mid = c.learn_step.new.pass in
    let a = c.args.symbol in
    let z = c.in_ok-snapshot.snapshot in
    let facts = Cell came.content (column_of p.net a) (led.Row z 0) ∷ [] in
    let full = subst (λ (l : Learned). IsLearned p.rows facts old mid l) c.in-Full.is
    (c.in_ok-learned.ensures.learned came.content came.known) in
    made_row_keeps p q c.args.at c.args.row old came a next (Holds c.args.next) onward z c.in_ok-snapshot.ensures mid learned.Full full

pub returns-in-Full-clause-step : goal.returns-in-Full-clause-step
returns-in-Full-clause-step g c = λ q came next onward.
    let p = g.B.Home.plan in
    let old = c.args.pass.now in
    let mid = c.learn_step.new.pass in
    let a = c.args.symbol in
    let z = c.in_ok-snapshot.snapshot in
    let facts = Cell came.content (column_of p.net a) (led.Row z 0) ∷ [] in
    let full = subst (λ (l : Learned). IsLearned p.rows facts old mid l) c.in-Full.is
    (c.in_ok-learned.ensures.learned came.content came.known) in
    let (here, lacks) = made_row_lacks p q c.args.at c.args.row old came a next (Holds c.args.next) onward z c.in_ok-snapshot.ensures mid
    full in (here, inl lacks, c.in_ok-learned.ensures.rows)
