use Rattle.std.proofs.Common.{◌≡◌, ℕ, suc, ◌+◌, [], ◌∷◌, ◌++◌, length, get_or, refl, sym, ap, ◌∙◌, subst, inl, arith}
use Rattle.g4_store.specs.declared.automaton.Led.TheVariants.{Row, End}
use Rattle.g4_store.specs.declared.automaton.Fact.TheVariants.{Start, Cell}
use Rattle.g4_store.specs.declared.view.View.{View}
use Rattle.g4_store.specs.declared.walk.Walk.TheVariants.{NotLearned, Open}
use Rattle.g4_store.specs.declared.walk.Walk.TheVariants.{End as Ended}
use Rattle.g4_store.specs.Numbers.{Among}
use Rattle.g4_store.specs.Words.{cell_at, start_at, row_word, end_word}
use Rattle.g4_store.specs.Walks.{Walked, Came}
use Rattle.g4_store.proofs.Seen.{walked_seen}
use Rattle.g4_store.proofs.Walking.{saw_first, saw_next, keeps_looked, keeps_saw, keeps_on, stops_at_start, stops_at_cell, came_first, came_next}
use Rattle.g4_store.proofs.store.Store.walk.Goals as goal

pub loop-k-init : goal.loop-k-init
loop-k-init g c =
    let f = c.in-Some.ensures.found in
    let y = f.1.0 in
    let i = c.args.start in
    let old = c.args.pass.now.0 in
    let new = c.read_start.new.pass.0 in (
      y,
      Start i y ∷ [],
      came_first g.A.Automaton.starts g.A.Automaton.leads g.B.Home.plan i c.args.columns.now old y f.1.1,
      saw_first (Start i y) old new (ap (λ (v : View _). v.seen) f.1.2),
      subst (λ (v : View _). Among (c.in-Some.first, y) v.known) (sym f.1.2) (inl refl),
      f.0,
      (let a = c.tick.ensures in omega arith),
      c.read_start.ensures.full,
      keeps_saw (start_at g.B.Home.plan i) (c.in-Some.first + 1) (Start i y) ((c.in-Some.first, y) ∷ []) old new f.1.2,
      ap (λ (v : View _). v.looks.count) f.1.2,
    )

pub loop-k-preserved : goal.loop-k-preserved
loop-k-preserved g c =
    let i = c.loop-k.invariant in
    let f = c.in-Row.ensures.found i.0 i.4 in
    let z = f.1.0 in
    let k = c.loop-k.k in
    let s = get_or c.args.columns.now k 0 in
    let cell = Cell i.0 s (Row z c.in-Row._mark) in
    let old = c.args.pass.now.0 in
    let mid = c.loop-k.pass.0 in
    let new = c.read_cell-found.new.pass.0 in (
      z,
      i.1 ++ cell ∷ [],
      came_next g.A.Automaton.starts g.A.Automaton.leads g.B.Home.plan c.args.start c.args.columns.now k old i.0 z c.in-Row._mark i.1
          c.loop-k-test.true i.2 f.1.1,
      saw_next i.1 cell old mid new i.3 (ap (λ (v : View _). v.seen) f.1.2),
      subst (λ (v : View _). Among (c.in-Row.next, z) v.known) (sym f.1.2) (inl refl),
      f.0,
      (let a = c.tick-in-loop-k.ensures in let b = i.6 in omega arith),
      c.read_cell-found.ensures.full ∙ i.7,
      keeps_on old mid new i.8 (keeps_saw (cell_at g.B.Home.plan c.loop-k.row s) (row_word c.in-Row.next c.in-Row._mark) cell
          ((c.in-Row.next, z) ∷ []) mid new f.1.2),
      (let a = ap (λ (v : View _). v.looks.count) f.1.2 in let b = i.9 in omega arith),
    )

pub returns-in_default-clause-walked : goal.returns-in_default-clause-walked
returns-in_default-clause-walked g c =
    stops_at_start g.A.Automaton.starts g.A.Automaton.leads g.B.Home.plan c.args.start c.args.columns.now c.args.pass.now.0
    c.read_start.new.pass.0 c.in_default.ensures.found

pub returns-in_default-clause-learned : goal.returns-in_default-clause-learned
returns-in_default-clause-learned g c = λ k code s.
    walked_seen g.A.Automaton.starts g.A.Automaton.leads g.A.Automaton.one_start g.A.Automaton.one_led g.B.Home.plan c.args.start
    c.args.columns.now c.args.pass.now.0 c.read_start.new.pass.0 (NotLearned 0) k code s (returns-in_default-clause-walked g c)

pub returns-in_default-clause-same : goal.returns-in_default-clause-same
returns-in_default-clause-same g c = keeps_looked (start_at g.B.Home.plan c.args.start) 0 c.args.pass.now.0 c.read_start.new.pass.0
    c.in_default.ensures.found.0

pub returns-in-Nothing-clause-walked : goal.returns-in-Nothing-clause-walked
returns-in-Nothing-clause-walked g c =
    let i = c.loop-k.invariant in
    let n = c.in-Nothing.ensures.found i.0 i.4 in
    subst (λ (k : ℕ). Walked g.A.Automaton.starts g.A.Automaton.leads g.B.Home.plan c.args.start c.args.columns.now c.args.pass.now.0
    c.read_cell-found.new.pass.0 (NotLearned k)) (let z : suc c.loop-k.k ≡ c.loop-k.k + 1 = omega arith in z)
    (stops_at_cell g.A.Automaton.starts g.A.Automaton.leads g.B.Home.plan c.args.start c.args.columns.now c.loop-k.k c.loop-k.row
    c.args.pass.now.0 c.loop-k.pass.0 c.read_cell-found.new.pass.0 i.0 i.1 c.loop-k-test.true i.2 i.3 i.4 n)

pub returns-in-Nothing-clause-same : goal.returns-in-Nothing-clause-same
returns-in-Nothing-clause-same g c =
    let i = c.loop-k.invariant in
    keeps_on c.args.pass.now.0 c.loop-k.pass.0 c.read_cell-found.new.pass.0 i.8
    (keeps_looked (cell_at g.B.Home.plan c.loop-k.row (get_or c.args.columns.now c.loop-k.k 0)) 0 c.loop-k.pass.0
    c.read_cell-found.new.pass.0 (c.in-Nothing.ensures.found i.0 i.4).0)

pub returns-in-Nothing-clause-loads : goal.returns-in-Nothing-clause-loads
returns-in-Nothing-clause-loads g c =
    let i = c.loop-k.invariant in
    let a = ap (λ (v : View _). v.looks.count) (c.in-Nothing.ensures.found i.0 i.4).0 in
    let b = i.9 in
    omega arith

pub returns-in-Nothing-clause-learned : goal.returns-in-Nothing-clause-learned
returns-in-Nothing-clause-learned g c = λ k code s.
    walked_seen g.A.Automaton.starts g.A.Automaton.leads g.A.Automaton.one_start g.A.Automaton.one_led g.B.Home.plan c.args.start
    c.args.columns.now c.args.pass.now.0 c.read_cell-found.new.pass.0 (NotLearned (c.loop-k.k + 1)) k code s
    (returns-in-Nothing-clause-walked g c)

pub returns-in-End-clause-walked : goal.returns-in-End-clause-walked
returns-in-End-clause-walked g c =
    let i = c.loop-k.invariant in
    let e = c.in-End.ensures.found i.0 i.4 in
    let s = get_or c.args.columns.now c.loop-k.k 0 in (
      i.0,
      i.1,
      c.loop-k-test.true,
      i.2,
      e.0,
      saw_next i.1 (Cell i.0 s (End c.in-End.code)) c.args.pass.now.0 c.loop-k.pass.0
          c.read_cell-found.new.pass.0 i.3 (ap (λ (v : View _). v.seen) e.1),
    )

pub returns-in-End-clause-same : goal.returns-in-End-clause-same
returns-in-End-clause-same g c =
    let i = c.loop-k.invariant in
    let e = c.in-End.ensures.found i.0 i.4 in
    let s = get_or c.args.columns.now c.loop-k.k 0 in
    keeps_on c.args.pass.now.0 c.loop-k.pass.0 c.read_cell-found.new.pass.0 i.8
    (keeps_saw (cell_at g.B.Home.plan c.loop-k.row s) (end_word c.in-End.code) (Cell i.0 s (End c.in-End.code)) [] c.loop-k.pass.0
    c.read_cell-found.new.pass.0 e.1)

pub returns-in-End-clause-loads : goal.returns-in-End-clause-loads
returns-in-End-clause-loads g c =
    let i = c.loop-k.invariant in
    let a = ap (λ (v : View _). v.looks.count) (c.in-End.ensures.found i.0 i.4).1 in
    let b = i.9 in
    omega arith

pub returns-in-End-clause-learned : goal.returns-in-End-clause-learned
returns-in-End-clause-learned g c = λ k code s.
    walked_seen g.A.Automaton.starts g.A.Automaton.leads g.A.Automaton.one_start g.A.Automaton.one_led g.B.Home.plan c.args.start
    c.args.columns.now c.args.pass.now.0 c.read_cell-found.new.pass.0 (Ended c.in-End.code c.loop-k.k) k code s
    (returns-in-End-clause-walked g c)

pub returns-clause-learned : goal.returns-clause-learned
returns-clause-learned g c = λ k code s.
    let i = c.loop-k.invariant in
    let w : Walked g.A.Automaton.starts g.A.Automaton.leads g.B.Home.plan c.args.start c.args.columns.now c.args.pass.now.0
    c.loop-k.pass.0 Open = (
      i.0,
      i.1,
      subst (λ (n : ℕ).
          Came g.A.Automaton.starts g.A.Automaton.leads g.B.Home.plan c.args.start c.args.columns.now n c.args.pass.now.0 i.0 i.1)
          (let n : c.loop-k.k ≡ length c.args.columns.now = let a = c.loop-k-test.false in let b = c.loop-k.auto.k-end in omega arith in
          n) i.2,
      i.3,
    ) in
    walked_seen g.A.Automaton.starts g.A.Automaton.leads g.A.Automaton.one_start g.A.Automaton.one_led g.B.Home.plan c.args.start
    c.args.columns.now c.args.pass.now.0 c.loop-k.pass.0 Open k code s w
