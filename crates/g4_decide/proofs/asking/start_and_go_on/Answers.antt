use Rattle.std.proofs.Common.{◌≡◌, ◌∷◌, [], refl, sym, ◌∙◌, ap, subst}
use Rattle.g4_guards.specs.Levels.{AllowedAt}
use Rattle.g4_learned.specs.Tables.{Tables}
use Rattle.g4_net.specs.AddedRule.{IsReady}
use Rattle.g4_net.specs.Configurations.{IsRow, wildcard}
use Rattle.g4_net.specs.Lookahead.{Start}
use Rattle.g4_net.specs.Loops.{HasLoops}
use Rattle.g4_net.specs.Network.{ParserNetwork}
use Rattle.g4_predict.specs.Paths.{verdict_of}
use Rattle.g4_store.specs.declared.automaton.Fact.TheVariants as fact
use Rattle.g4_store.specs.declared.book.Learned.{Learned}
use Rattle.g4_store.specs.Learned.{IsLearned}
use Rattle.g4_decide.proofs.Going.{asked_from, asked_lacking, keeps_learned, keeps_on, keeps_same, lacks, start_on_path, start_read}
use Rattle.g4_decide.proofs.Starting.{asked_here, began_at, began_keeps, rest_first}
use Rattle.g4_decide.proofs.asking.start_and_go_on.Goals as goal

pub start_at-requires-clause-ready : goal.start_at-requires-clause-ready
start_at-requires-clause-ready g c =
    subst IsReady (sym (c.net-net.ensures ∙ ap (λ (t : Tables). t.net) c.net.ensures.is)) c.net.ensures.plan.ready

pub start_at-requires-clause-loops : goal.start_at-requires-clause-loops
start_at-requires-clause-loops g c =
    subst HasLoops (sym (c.net-net.ensures ∙ ap (λ (t : Tables). t.net) c.net.ensures.is)) c.net.ensures.plan.loops

pub learn_start-requires-clause-start : goal.learn_start-requires-clause-start
learn_start-requires-clause-start g c =
    let own : c.net-net.result.now ≡ g.B.Home.plan.net.net = c.net-net.ensures ∙ ap (λ (t : Tables). t.net) c.net.ensures.is in
    let d = c.args.decision in
    subst (λ (n : ParserNetwork). IsRow c.in_ok-start.start (Start n d (AllowedAt n d c.args.condition) wildcard)) own
    c.in_ok-start.ensures

pub returns-in_err-start-clause-keeps : goal.returns-in_err-start-clause-keeps
returns-in_err-start-clause-keeps g c =
    let q = asked_here c.args.decision c.args.condition c.args.from c.args.tokens.now c.requires.symbols c.requires.ends c.requires.more in
    keeps_same g.B.Home.plan q c.args.pass.now c.args.pass.now refl

pub returns-in_err-learned-clause-keeps : goal.returns-in_err-learned-clause-keeps
returns-in_err-learned-clause-keeps g c =
    let q = asked_here c.args.decision c.args.condition c.args.from c.args.tokens.now c.requires.symbols c.requires.ends c.requires.more in
    keeps_same g.B.Home.plan q c.args.pass.now c.learn_start.new.pass c.in_err-learned.ensures.unchanged

pub unreachable-requires : goal.unreachable-requires
unreachable-requires g c =
    let p = g.B.Home.plan in
    let q = asked_here c.args.decision c.args.condition c.args.from c.args.tokens.now c.requires.symbols c.requires.ends c.requires.more in
    let old = c.args.pass.now in
    let mid = c.learn_start.new.pass in
    let start = c.in_ok-start.start in
    let (i, is_start, learns) = c.in_ok-learned.ensures.learned in
    let all = subst (λ (l : Learned). IsLearned p.rows (fact.Start i start ∷ []) old mid l) c.in-All.is learns in
    start_read p q i start old mid c.start_row-first.new.pass is_start all c.in-None.ensures.begins

pub go_on-requires-clause-came : goal.go_on-requires-clause-came
go_on-requires-clause-came g c =
    let p = g.B.Home.plan in
    let q = asked_here c.args.decision c.args.condition c.args.from c.args.tokens.now c.requires.symbols c.requires.ends c.requires.more in
    let plan = c.net.ensures.plan in
    let mid = c.learn_start.new.pass in
    let new = c.start_row-first.new.pass in
    let came = began_at c.args.decision c.args.condition c.args.from c.args.tokens.now c.requires.symbols c.requires.ends c.requires.more
    p plan c.in-Some.row mid new c.in-Some.ensures.begins c.in-Some.ensures.same c.in-Some.ensures.rows in
    let rest = rest_first c.args.from c.args.tokens.now in
    (q, came, rest)

pub returns-in_err-verdict-in-Some-clause-keeps : goal.returns-in_err-verdict-in-Some-clause-keeps
returns-in_err-verdict-in-Some-clause-keeps g c =
    let p = g.B.Home.plan in
    let q = asked_here c.args.decision c.args.condition c.args.from c.args.tokens.now c.requires.symbols c.requires.ends c.requires.more in
    let plan = c.net.ensures.plan in
    let old = c.args.pass.now in
    let mid = c.learn_start.new.pass in
    let start = c.in_ok-start.start in
    let own : c.net-net.result.now ≡ p.net.net = c.net-net.ensures ∙ ap (λ (t : Tables). t.net) c.net.ensures.is in
    let row = subst (λ (n : ParserNetwork). IsRow start (Start n c.args.decision (AllowedAt n c.args.decision c.args.condition) wildcard))
    own c.in_ok-start.ensures in
    let (i, is_start, learns) = c.in_ok-learned.ensures.learned in
    let on = start_on_path p q plan i is_start start row in
    let kept = keeps_learned p q old mid (fact.Start i start ∷ []) c.in_ok-learned.learned on learns in
    let new = c.start_row-first.new.pass in
    let came = began_at c.args.decision c.args.condition c.args.from c.args.tokens.now c.requires.symbols c.requires.ends c.requires.more
    p plan c.in-Some.row mid new c.in-Some.ensures.begins c.in-Some.ensures.same c.in-Some.ensures.rows in
    let before = keeps_on p q old mid new kept
    (began_keeps c.args.decision c.args.condition c.args.from c.args.tokens.now c.requires.symbols c.requires.ends c.requires.more
    p plan c.in-Some.row mid new c.in-Some.ensures.begins c.in-Some.ensures.same c.in-Some.ensures.rows) in
    let rest = rest_first c.args.from c.args.tokens.now in
    keeps_on p q old new c.go_on.new.pass before (c.in_err-verdict-in-Some.ensures.keeps q came rest)

pub returns-in_ok-verdict-in-Some-clause-keeps : goal.returns-in_ok-verdict-in-Some-clause-keeps
returns-in_ok-verdict-in-Some-clause-keeps g c =
    let p = g.B.Home.plan in
    let q = asked_here c.args.decision c.args.condition c.args.from c.args.tokens.now c.requires.symbols c.requires.ends c.requires.more in
    let plan = c.net.ensures.plan in
    let old = c.args.pass.now in
    let mid = c.learn_start.new.pass in
    let start = c.in_ok-start.start in
    let own : c.net-net.result.now ≡ p.net.net = c.net-net.ensures ∙ ap (λ (t : Tables). t.net) c.net.ensures.is in
    let row = subst (λ (n : ParserNetwork). IsRow start (Start n c.args.decision (AllowedAt n c.args.decision c.args.condition) wildcard))
    own c.in_ok-start.ensures in
    let (i, is_start, learns) = c.in_ok-learned.ensures.learned in
    let on = start_on_path p q plan i is_start start row in
    let kept = keeps_learned p q old mid (fact.Start i start ∷ []) c.in_ok-learned.learned on learns in
    let new = c.start_row-first.new.pass in
    let came = began_at c.args.decision c.args.condition c.args.from c.args.tokens.now c.requires.symbols c.requires.ends c.requires.more
    p plan c.in-Some.row mid new c.in-Some.ensures.begins c.in-Some.ensures.same c.in-Some.ensures.rows in
    let before = keeps_on p q old mid new kept
    (began_keeps c.args.decision c.args.condition c.args.from c.args.tokens.now c.requires.symbols c.requires.ends c.requires.more
    p plan c.in-Some.row mid new c.in-Some.ensures.begins c.in-Some.ensures.same c.in-Some.ensures.rows) in
    let rest = rest_first c.args.from c.args.tokens.now in
    keeps_on p q old new c.go_on.new.pass before (c.in_ok-verdict-in-Some.ensures.keeps q came rest)

pub returns-in_ok-verdict-in-Some-clause-asked : goal.returns-in_ok-verdict-in-Some-clause-asked
returns-in_ok-verdict-in-Some-clause-asked g c =
    let p = g.B.Home.plan in
    let q = asked_here c.args.decision c.args.condition c.args.from c.args.tokens.now c.requires.symbols c.requires.ends c.requires.more in
    let plan = c.net.ensures.plan in
    let old = c.args.pass.now in
    let mid = c.learn_start.new.pass in
    let start = c.in_ok-start.start in
    let (i, is_start, learns) = c.in_ok-learned.ensures.learned in
    let all = subst (λ (l : Learned). IsLearned p.rows (fact.Start i start ∷ []) old mid l) c.in-All.is learns in
    let new = c.start_row-first.new.pass in
    let came = began_at c.args.decision c.args.condition c.args.from c.args.tokens.now c.requires.symbols c.requires.ends c.requires.more
    p plan c.in-Some.row mid new c.in-Some.ensures.begins c.in-Some.ensures.same c.in-Some.ensures.rows in
    let rest = rest_first c.args.from c.args.tokens.now in
    let same : new.1 ≡ old.1 = c.in-Some.ensures.full ∙ all.1 in
    asked_from p q old new c.go_on.new.pass (verdict_of c.in_ok-verdict-in-Some.verdict) same
    (c.in_ok-verdict-in-Some.ensures.asked q came rest)

pub returns-in_err-verdict-in-Full-clause-keeps : goal.returns-in_err-verdict-in-Full-clause-keeps
returns-in_err-verdict-in-Full-clause-keeps g c =
    let p = g.B.Home.plan in
    let q = asked_here c.args.decision c.args.condition c.args.from c.args.tokens.now c.requires.symbols c.requires.ends c.requires.more in
    let plan = c.net.ensures.plan in
    let old = c.args.pass.now in
    let mid = c.learn_start.new.pass in
    let start = c.in_ok-start.start in
    let own : c.net-net.result.now ≡ p.net.net = c.net-net.ensures ∙ ap (λ (t : Tables). t.net) c.net.ensures.is in
    let row = subst (λ (n : ParserNetwork). IsRow start (Start n c.args.decision (AllowedAt n c.args.decision c.args.condition) wildcard))
    own c.in_ok-start.ensures in
    let (i, is_start, learns) = c.in_ok-learned.ensures.learned in
    let on = start_on_path p q plan i is_start start row in
    let kept = keeps_learned p q old mid (fact.Start i start ∷ []) c.in_ok-learned.learned on learns in
    keeps_on p q old mid c.simulate_all.new.pass kept c.in_err-verdict-in-Full.ensures.keeps

pub returns-in_ok-verdict-in-Full-clause-keeps : goal.returns-in_ok-verdict-in-Full-clause-keeps
returns-in_ok-verdict-in-Full-clause-keeps g c =
    let p = g.B.Home.plan in
    let q = asked_here c.args.decision c.args.condition c.args.from c.args.tokens.now c.requires.symbols c.requires.ends c.requires.more in
    let plan = c.net.ensures.plan in
    let old = c.args.pass.now in
    let mid = c.learn_start.new.pass in
    let start = c.in_ok-start.start in
    let own : c.net-net.result.now ≡ p.net.net = c.net-net.ensures ∙ ap (λ (t : Tables). t.net) c.net.ensures.is in
    let row = subst (λ (n : ParserNetwork). IsRow start (Start n c.args.decision (AllowedAt n c.args.decision c.args.condition) wildcard))
    own c.in_ok-start.ensures in
    let (i, is_start, learns) = c.in_ok-learned.ensures.learned in
    let on = start_on_path p q plan i is_start start row in
    let kept = keeps_learned p q old mid (fact.Start i start ∷ []) c.in_ok-learned.learned on learns in
    keeps_on p q old mid c.simulate_all.new.pass kept c.in_ok-verdict-in-Full.ensures.keeps

pub returns-in_ok-verdict-in-Full-clause-asked : goal.returns-in_ok-verdict-in-Full-clause-asked
returns-in_ok-verdict-in-Full-clause-asked g c =
    let p = g.B.Home.plan in
    let q = asked_here c.args.decision c.args.condition c.args.from c.args.tokens.now c.requires.symbols c.requires.ends c.requires.more in
    let plan = c.net.ensures.plan in
    let old = c.args.pass.now in
    let mid = c.learn_start.new.pass in
    let start = c.in_ok-start.start in
    let own : c.net-net.result.now ≡ p.net.net = c.net-net.ensures ∙ ap (λ (t : Tables). t.net) c.net.ensures.is in
    let row = subst (λ (n : ParserNetwork). IsRow start (Start n c.args.decision (AllowedAt n c.args.decision c.args.condition) wildcard))
    own c.in_ok-start.ensures in
    let (i, is_start, learns) = c.in_ok-learned.ensures.learned in
    let on = start_on_path p q plan i is_start start row in
    let full = subst (λ (l : Learned). IsLearned p.rows (fact.Start i start ∷ []) old mid l) c.in-Full.is learns in
    asked_lacking p q old mid c.simulate_all.new.pass (verdict_of c.in_ok-verdict-in-Full.verdict)
    (lacks p q old mid (fact.Start i start ∷ []) on full) c.in_ok-learned.ensures.rows c.in_ok-verdict-in-Full.ensures.keeps
    c.in_ok-verdict-in-Full.ensures.asked
