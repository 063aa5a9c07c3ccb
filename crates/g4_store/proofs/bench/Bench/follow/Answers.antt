use Rattle.std.proofs.Common.{◌≡◌, [], ◌∷◌, ◌++◌, List, drop, length, refl, sym, ap, ◌∙◌, subst, arith}
use mathlib.Core.Option.{some-injective}
use Rattle.g4_store.specs.declared.path.Looked.{Looked}
use Rattle.g4_store.specs.Numbers.{has}
use Rattle.g4_store.specs.Paths.{Followed, Going, HasKnownRow, LeadsOn, cells_of, first_facts}
use Rattle.g4_store.specs.Paths.Going.{goes}
use Rattle.g4_store.proofs.Goings.{begins_one, goes_on, going_at, going_ends, going_kept}
use Rattle.g4_store.proofs.bench.Bench.follow.Goals as goal

none_left : {A : Type 0} (l m : List A) → l ≡ m → m ≡ drop 1 l → l ≡ []
none_left [] m e f = refl
none_left (x ∷ xs) m e f = absurd (let n : length (x ∷ xs) ≡ length xs = ap length (e ∙ f) in omega arith)

pub loop-next-init : goal.loop-next-init
loop-next-init g c =
    let (x, begins, on) = c.requires.path in
    let (followed, at) = c.begin_at-progress.ensures x begins in
    (x, begins, goes x (first_facts c.args.origin x) followed at on refl)

pub step-progress-requires : goal.step-progress-requires
step-progress-requires g c =
    let l = c.loop-next in
    let p = g.B.Home.plan in
    let (x, begins, going) = l.invariant in
    let is : l.rest.items ≡ c.in-Some.next ∷ c.pop_front.new.self.items = c.in-Some.ensures.items in
    let facts = first_facts c.args.origin x ++ cells_of x c.args.looked.items in
    let now = subst (λ (ls : List (Looked _)). Going p.rows facts c.args.self.now l.self l.progress.full
    l.progress.at ls (λ y. LeadsOn g.A.Automaton.starts g.A.Automaton.leads p y ls)) is going in
    let here = going_at g.A.Automaton.starts g.A.Automaton.leads p facts c.args.self.now l.self l.progress.full l.progress.at
    c.in-Some.next c.pop_front.new.self.items now in
    let kept = going_kept p.rows facts c.args.self.now l.self l.progress.full l.progress.at (c.in-Some.next ∷ c.pop_front.new.self.items)
    (λ y. LeadsOn g.A.Automaton.starts g.A.Automaton.leads p y (c.in-Some.next ∷ c.pop_front.new.self.items)) now in
    let n = c.requires.guest.1 in
    record { column = here.0; guest = (kept.0, (n.0, ap (λ (hs : List _). has n.0 hs) kept.1 ∙ n.1)); at = here.1 }

pub loop-next-preserved : goal.loop-next-preserved
loop-next-preserved g c =
    let l = c.loop-next in
    let p = g.B.Home.plan in
    let (x, begins, going) = l.invariant in
    let is : l.rest.items ≡ c.in-Some.next ∷ c.pop_front.new.self.items = c.in-Some.ensures.items in
    let facts = first_facts c.args.origin x ++ cells_of x c.args.looked.items in
    let now = subst (λ (ls : List (Looked _)). Going p.rows facts c.args.self.now l.self l.progress.full
    l.progress.at ls (λ y. LeadsOn g.A.Automaton.starts g.A.Automaton.leads p y ls)) is going in (
      x,
      begins,
      goes_on g.A.Automaton.starts g.A.Automaton.leads p facts c.args.self.now l.self c.step-progress.new.self
          l.progress.full c.step-progress.result.full l.progress.at c.step-progress.result.at c.in-Some.next c.pop_front.new.self.items
          now c.step-progress.ensures,
    )

pub returns : goal.returns
returns g c = λ x begins.
    let l = c.loop-next in
    let p = g.B.Home.plan in
    let (y, begins', going) = l.invariant in
    let same = begins_one g.A.Automaton.starts p (HasKnownRow c.args.self.now) (λ r u v a b. some-injective _ _ (sym a.0 ∙ b.0))
    c.args.origin y x begins' begins in
    let ended : l.rest.items ≡ [] =
    none_left l.rest.items c.pop_front.new.self.items c.in_default.ensures.items c.in_default.ensures.rest in
    subst (λ (z : _). Followed p.rows (first_facts c.args.origin z ++ cells_of z c.args.looked.items) c.args.self.now l.self
    l.progress.full) same
    (going_ends g.A.Automaton.starts g.A.Automaton.leads p (first_facts c.args.origin y ++ cells_of y c.args.looked.items)
    c.args.self.now l.self l.progress.full l.progress.at l.rest.items ended going)
