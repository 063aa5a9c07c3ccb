use Rattle.std.proofs.Common.{◌∷◌, [], Option, Bool, is_none, sym, ap, ◌∙◌, subst}
use Rattle.g4_store.specs.declared.automaton.Fact.TheVariants.{Start}
use Rattle.g4_store.specs.declared.path.Origin.{Origin}
use Rattle.g4_store.specs.Paths.{BeginsAt, Followed, HasKnownRow, IsAt, TakesOr, first_facts}
use Rattle.g4_store.proofs.Following.{starts_followed}
use Rattle.g4_store.proofs.Goings.{begun}
use Rattle.g4_store.proofs.bench.Bench.begin_at.Goals as goal

pub returns-in-AtStart : goal.returns-in-AtStart
returns-in-AtStart g c = λ x b.
    let p = g.B.Home.plan in
    let s = c.in-AtStart.start in
    let y = c.in-AtStart.content in
    let old = c.args.self.now in
    let new = c.begin.new.self in
    let full = c.of.result.full in
    let at = c.of.result.at in
    let is = c.in-AtStart.is in
    let here = subst (λ (o : Origin _). BeginsAt g.A.Automaton.starts p (HasKnownRow old) o x) is b in
    let f = begun p.rows old new s y full at c.requires.guest.0 (c.of.ensures.1 ∙ ap is_none (sym c.of.ensures.0))
    (subst (λ (q : Option _). TakesOr p.rows (Start s y) y old new q) (sym c.of.ensures.0) c.begin.ensures) in
    subst (λ (o : Origin _). Followed p.rows (first_facts o x) old new full × IsAt new full x at) (sym is)
    (subst (λ (z : _). Followed p.rows (Start s z ∷ []) old new full × IsAt new full z at) here.2 f)

pub returns-in-AtRow : goal.returns-in-AtRow
returns-in-AtRow g c = λ x b.
    let p = g.B.Home.plan in
    let old = c.args.self.now in
    let full = c.of-in-AtRow.result.full in
    let at = c.of-in-AtRow.result.at in
    let e = c.of-in-AtRow.ensures in
    let is = c.in-AtRow.is in
    let here = subst (λ (o : Origin _). BeginsAt g.A.Automaton.starts p (HasKnownRow old) o x) is b in
    subst (λ (o : Origin _). Followed p.rows (first_facts o x) old old full × IsAt old full x at) (sym is) (
      subst (λ (k : Bool). Followed p.rows [] old old k) (sym e.1) (starts_followed p.rows old c.requires.guest.0),
      subst (λ (q : Option _). IsAt old full x q) (sym e.0) (here.0, λ _. here.1),
    )
