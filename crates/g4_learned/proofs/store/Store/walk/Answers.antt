use Rattle.std.proofs.Common.{◌≡◌, ℕ, suc, ◌-◌, drop, sym, subst, ◌∙◌, ap, arith}
use Rattle.std.proofs.lemmas.List.Elements.{All-drop}
use Rattle.g4_classes.specs.Classes.{IsSymbol}
use Rattle.g4_tokens.specs.TokenList.{word_of}
use Rattle.g4_store.specs.declared.walk.Walk.TheVariants.{End, NotLearned}
use Rattle.g4_guards.specs.Levels.{IsCondition, IsDecision}
use Rattle.g4_learned.specs.Tables.{IsStartOf, Tables}
use Rattle.g4_learned.specs.Walks.{StopsAt, WalkedAlong}
use Rattle.g4_learned.proofs.Answering.{ended, learned_from, no_edge, no_start, not_past_end, small_code, stops_from, walked_from}
use Rattle.g4_learned.proofs.Rests.{from_on}
use Rattle.g4_learned.proofs.Walking.{start_within}
use Rattle.g4_learned.proofs.store.Store.walk.Goals as goal

pub start_of-start-requires : goal.start_of-start-requires
start_of-start-requires g c = record {
  decision = subst (λ (t : Tables). IsDecision t.net c.args.decision) (sym c.net.ensures) c.requires.decision;
  condition = subst (λ (t : Tables). IsCondition t.net c.args.decision c.args.condition) (sym c.net.ensures) c.requires.condition;
}

pub walk_along-walk-requires : goal.walk_along-walk-requires
walk_along-walk-requires g c =
    start_within g.B.Home.plan c.args.decision c.args.condition c.start_of-start.result c.self.invariant
    (subst (λ (t : Tables). IsStartOf t c.args.decision c.args.condition c.start_of-start.result) c.net.ensures c.start_of-start.ensures)

pub verdict_at-requires : goal.verdict_at-requires
verdict_at-requires g c =
    small_code g.B.Home.plan c.args.decision c.args.condition c.start_of-start.result c.args.from c.in-End.code c.in-End.k c.args.tokens.now
    c.args.pass.now.0 c.walk_along-walk.new.pass.0
    (subst (λ (t : Tables). IsStartOf t c.args.decision c.args.condition c.start_of-start.result) c.net.ensures c.start_of-start.ensures)
    c.requires.symbols
    (subst (WalkedAlong g.B.Home.plan c.start_of-start.result (word_of (from_on c.args.from c.args.tokens.now)) c.args.pass.now.0
    c.walk_along-walk.new.pass.0) c.in-End.is c.walk_along-walk.ensures.walked)

pub unreachable-requires : goal.unreachable-requires
unreachable-requires g c =
    not_past_end g.B.Home.plan c.args.decision c.args.condition c.start_of-start.result c.args.from c.args.tokens.now c.args.pass.now.0
    c.walk_along-walk.new.pass.0 c.self.invariant
    (subst (λ (t : Tables). IsStartOf t c.args.decision c.args.condition c.start_of-start.result) c.net.ensures c.start_of-start.ensures)
    c.requires.symbols c.requires.ends c.requires.more
    (subst (WalkedAlong g.B.Home.plan c.start_of-start.result (word_of (from_on c.args.from c.args.tokens.now)) c.args.pass.now.0
    c.walk_along-walk.new.pass.0) c.in-Open.is c.walk_along-walk.ensures.walked)

pub returns-in-End-clause-walks : goal.returns-in-End-clause-walks
returns-in-End-clause-walks g c =
    let p = g.B.Home.plan in
    let i = c.start_of-start.result in
    let old = c.args.pass.now.0 in
    let new = c.walk_along-walk.new.pass.0 in
    let ts = c.args.tokens.now in
    let is = c.in-End.is in
    ended p c.args.decision c.args.condition i (drop c.args.from (word_of ts)) old new
    (subst (λ (t : Tables). IsStartOf t c.args.decision c.args.condition i) c.net.ensures c.start_of-start.ensures)
    c.in-End.code c.in-End.k c.verdict_at.result c.self.invariant (All-drop IsSymbol c.args.from (word_of ts) c.requires.symbols)
    (walked_from p i c.args.from ts old new (End c.in-End.code c.in-End.k)
    (subst (WalkedAlong p i (word_of (from_on c.args.from ts)) old new) is c.walk_along-walk.ensures.walked)) c.verdict_at.ensures
    (learned_from p i c.args.from ts old (End c.in-End.code c.in-End.k)
    (λ k code seen. sym is ∙ c.walk_along-walk.ensures.learned k code seen))

pub returns-then-k-eq0-clause-walks : goal.returns-then-k-eq0-clause-walks
returns-then-k-eq0-clause-walks g c =
    let p = g.B.Home.plan in
    let i = c.start_of-start.result in
    let old = c.args.pass.now.0 in
    let new = c.walk_along-walk.new.pass.0 in
    let ts = c.args.tokens.now in
    let k : ℕ = c.in-NotLearned.k in
    let none : k ≡ 0 = omega (arith, c.if-k-eq0.true) in
    let is : c.walk_along-walk.result.walk ≡ NotLearned 0 = c.in-NotLearned.is ∙ ap NotLearned none in
    no_start p c.args.decision c.args.condition i (drop c.args.from (word_of ts)) old new
    (subst (λ (t : Tables). IsStartOf t c.args.decision c.args.condition i) c.net.ensures c.start_of-start.ensures)
    c.self.invariant (All-drop IsSymbol c.args.from (word_of ts) c.requires.symbols)
    (walked_from p i c.args.from ts old new (NotLearned 0)
    (subst (WalkedAlong p i (word_of (from_on c.args.from ts)) old new) is c.walk_along-walk.ensures.walked))
    (learned_from p i c.args.from ts old (NotLearned 0)
    (λ j code seen. sym is ∙ c.walk_along-walk.ensures.learned j code seen))

pub returns-else-k-eq0-clause-walks : goal.returns-else-k-eq0-clause-walks
returns-else-k-eq0-clause-walks g c =
    let p = g.B.Home.plan in
    let i = c.start_of-start.result in
    let old = c.args.pass.now.0 in
    let new = c.walk_along-walk.new.pass.0 in
    let ts = c.args.tokens.now in
    let k : ℕ = c.in-NotLearned.k in
    let some : k ≡ suc (k - 1) = omega (arith, c.if-k-eq0.false) in
    let is : c.walk_along-walk.result.walk ≡ NotLearned (suc (k - 1)) = c.in-NotLearned.is ∙ ap NotLearned some in
    no_edge p c.args.decision c.args.condition i (drop c.args.from (word_of ts)) old new
    (subst (λ (t : Tables). IsStartOf t c.args.decision c.args.condition i) c.net.ensures c.start_of-start.ensures)
    c.walk_along-walk.result.row (k - 1) c.self.invariant (All-drop IsSymbol c.args.from (word_of ts) c.requires.symbols)
    (walked_from p i c.args.from ts old new (NotLearned (suc (k - 1)))
    (subst (WalkedAlong p i (word_of (from_on c.args.from ts)) old new) is c.walk_along-walk.ensures.walked))
    (stops_from p i c.args.from c.walk_along-walk.result.row ts old new (NotLearned (suc (k - 1)))
    (subst (StopsAt p i (word_of (from_on c.args.from ts)) old new c.walk_along-walk.result.row) is c.walk_along-walk.ensures.stops))
    (learned_from p i c.args.from ts old (NotLearned (suc (k - 1)))
    (λ j code seen. sym is ∙ c.walk_along-walk.ensures.learned j code seen))
