use Rattle.std.proofs.Common.{◌≡◌, ℕ, suc, ◌+◌, ◌<◌, List, [], ◌∷◌, ◌++◌, length, get_or, refl, sym, ap, ◌∙◌, subst, inl, arith}
use Rattle.g4_net.specs.Configurations.{Config}
use Rattle.g4_tokens.specs.TokenList.{word_of}
use Rattle.g4_store.specs.declared.automaton.Led.TheVariants.{Row, End}
use Rattle.g4_store.specs.declared.automaton.Fact.TheVariants.{Start, Cell}
use Rattle.g4_store.specs.declared.board.Found.TheVariants as found
use Rattle.g4_store.specs.declared.view.View.{View}
use Rattle.g4_store.specs.declared.walk.Walk.TheVariants.{NotLearned, Open}
use Rattle.g4_store.specs.declared.walk.Walk.TheVariants.{End as Ended}
use Rattle.g4_store.specs.Found.{CellFound}
use Rattle.g4_store.specs.Numbers.{Among}
use Rattle.g4_store.specs.Words.{cell_at, start_at, row_word, end_word}
use Rattle.g4_store.specs.Walks.{Walked, Came}
use Rattle.g4_store.proofs.Seen.{walked_seen}
use Rattle.g4_store.proofs.Walking.{saw_first, saw_next, keeps_looked, keeps_saw, keeps_on, stops_at_start, stops_at_cell, came_first, came_next}
use Rattle.g4_learned.specs.Automata.{LeadsTo, StartsAt}
use Rattle.g4_learned.specs.Stored.{columns_of}
use Rattle.g4_learned.specs.Tables.{column_of}
use Rattle.g4_learned.specs.Walks.{StopsAt}
use Rattle.g4_learned.specs.Unique.{one_led, one_start}
use Rattle.std.proofs.lemmas.List.{length-map}
use Rattle.g4_learned.proofs.Walking.{column_at, many_columns, saw_same}
use Rattle.g4_learned.proofs.store.Store.walk_along.Goals as goal

pub loop-k-init : goal.loop-k-init
loop-k-init g c =
    let f = c.in-Some.ensures.found in
    let y = f.1.0 in
    let i = c.args.start in
    let old = c.args.pass.now.0 in
    let new = c.read_start.new.pass.0 in
    let cols = columns_of g.B.Home.plan.net (word_of c.args.tokens.now) in (
      y,
      Start i y ∷ [],
      came_first StartsAt LeadsTo g.B.Home.plan i cols old y f.1.1,
      saw_first (Start i y) old new (ap (λ (v : View (List Config)). v.seen) f.1.2),
      subst (λ (v : View (List Config)). Among (c.in-Some.first, y) v.known) (sym f.1.2) (inl refl),
      f.0,
      (let a = c.tick.ensures in omega arith),
      c.read_start.ensures.full,
      keeps_saw (start_at g.B.Home.plan i) (c.in-Some.first + 1) (Start i y) ((c.in-Some.first, y) ∷ []) old new f.1.2,
      ap (λ (v : View (List Config)). v.looks.count) f.1.2,
      c.read_start.ensures.rows,
    )

pub loop-k-preserved : goal.loop-k-preserved
loop-k-preserved g c =
    let i = c.loop-k.invariant in
    let p = g.B.Home.plan in
    let cols = columns_of p.net (word_of c.args.tokens.now) in
    let k = c.loop-k.k in
    let s = get_or cols k 0 in
    let old = c.args.pass.now.0 in
    let mid = c.loop-k.pass.0 in
    let new = c.read_cell-found.new.pass.0 in
    let col : s ≡ c.column_of-column.result =
    column_at c.net-net.result.now p.net c.args.tokens.now k c.column_of-column.result _ c.net-net.ensures.is
    c.loop-k-test.true c.column_of-column.ensures.is in
    let f : CellFound StartsAt LeadsTo p c.loop-k.row i.0 s mid new (found.Row c.in-Row.next c.in-Row._mark) =
    subst (λ n. CellFound StartsAt LeadsTo p c.loop-k.row i.0 n mid new (found.Row c.in-Row.next c.in-Row._mark)) (sym col)
    (c.in-Row.ensures.found i.0 i.4) in
    let z = f.1.0 in
    let cell = Cell i.0 s (Row z c.in-Row._mark) in
    let lt : k < length cols = let many = many_columns p.net c.args.tokens.now in omega (arith, c.loop-k-test.true) in (
      z,
      i.1 ++ cell ∷ [],
      came_next StartsAt LeadsTo p c.args.start cols k old i.0 z c.in-Row._mark i.1 lt i.2 f.1.1,
      saw_next i.1 cell old mid new i.3 (ap (λ (v : View (List Config)). v.seen) f.1.2),
      subst (λ (v : View (List Config)). Among (c.in-Row.next, z) v.known) (sym f.1.2) (inl refl),
      f.0,
      (let a = c.tick-in-loop-k.ensures in let b = i.6 in omega arith),
      c.read_cell-found.ensures.full ∙ i.7,
      keeps_on old mid new i.8 (keeps_saw (cell_at p c.loop-k.row s) (row_word c.in-Row.next c.in-Row._mark) cell
          ((c.in-Row.next, z) ∷ []) mid new f.1.2),
      (let a = ap (λ (v : View (List Config)). v.looks.count) f.1.2 in let b = i.9 in omega arith),
      c.read_cell-found.ensures.rows,
    )

pub returns-in_default-clause-walked : goal.returns-in_default-clause-walked
returns-in_default-clause-walked g c =
    stops_at_start StartsAt LeadsTo g.B.Home.plan c.args.start (columns_of g.B.Home.plan.net (word_of c.args.tokens.now)) c.args.pass.now.0
    c.read_start.new.pass.0 c.in_default.ensures.found

pub returns-in_default-clause-learned : goal.returns-in_default-clause-learned
returns-in_default-clause-learned g c = λ k code s.
    walked_seen StartsAt LeadsTo one_start one_led g.B.Home.plan c.args.start (columns_of g.B.Home.plan.net (word_of c.args.tokens.now))
    c.args.pass.now.0 c.read_start.new.pass.0 (NotLearned 0) k code s (returns-in_default-clause-walked g c)

pub returns-in_default-clause-same : goal.returns-in_default-clause-same
returns-in_default-clause-same g c = keeps_looked (start_at g.B.Home.plan c.args.start) 0 c.args.pass.now.0 c.read_start.new.pass.0
    c.in_default.ensures.found.0

pub returns-in-Nothing-clause-walked : goal.returns-in-Nothing-clause-walked
returns-in-Nothing-clause-walked g c =
    let i = c.loop-k.invariant in
    let p = g.B.Home.plan in
    let cols = columns_of p.net (word_of c.args.tokens.now) in
    let k = c.loop-k.k in
    let s = get_or cols k 0 in
    let mid = c.loop-k.pass.0 in
    let new = c.read_cell-found.new.pass.0 in
    let col : s ≡ c.column_of-column.result =
    column_at c.net-net.result.now p.net c.args.tokens.now k c.column_of-column.result _ c.net-net.ensures.is
    c.loop-k-test.true c.column_of-column.ensures.is in
    let f : CellFound StartsAt LeadsTo p c.loop-k.row i.0 s mid new found.Nothing =
    subst (λ n. CellFound StartsAt LeadsTo p c.loop-k.row i.0 n mid new found.Nothing) (sym col)
    (c.in-Nothing.ensures.found i.0 i.4) in
    let lt : k < length cols = let many = many_columns p.net c.args.tokens.now in omega (arith, c.loop-k-test.true) in
    subst (λ (n : ℕ). Walked StartsAt LeadsTo p c.args.start cols c.args.pass.now.0 new (NotLearned n))
    (let z : suc k ≡ k + 1 = omega arith in z)
    (stops_at_cell StartsAt LeadsTo p c.args.start cols k c.loop-k.row c.args.pass.now.0 mid new i.0 i.1 lt i.2 i.3 i.4 f)

pub returns-in-Nothing-clause-stops : goal.returns-in-Nothing-clause-stops
returns-in-Nothing-clause-stops g c =
    let i = c.loop-k.invariant in
    let p = g.B.Home.plan in
    let word = word_of c.args.tokens.now in
    let cols = columns_of p.net word in
    let k = c.loop-k.k in
    let s = get_or cols k 0 in
    let old = c.args.pass.now.0 in
    let mid = c.loop-k.pass.0 in
    let new = c.read_cell-found.new.pass.0 in
    let col : s ≡ c.column_of-column.result =
    column_at c.net-net.result.now p.net c.args.tokens.now k c.column_of-column.result _ c.net-net.ensures.is
    c.loop-k-test.true c.column_of-column.ensures.is in
    let f : CellFound StartsAt LeadsTo p c.loop-k.row i.0 s mid new found.Nothing =
    subst (λ n. CellFound StartsAt LeadsTo p c.loop-k.row i.0 n mid new found.Nothing) (sym col)
    (c.in-Nothing.ensures.found i.0 i.4) in
    let many = many_columns p.net c.args.tokens.now in
    let count = length-map word (column_of p.net) in
    let known = subst (λ (v : View (List Config)). Among (c.loop-k.row, i.0) v.known) (sym f.0) i.4 in
    let saw = saw_same i.1 old mid new i.3 (ap (λ (v : View (List Config)). v.seen) f.0) in
    subst (λ (n : ℕ). StopsAt p c.args.start word old new c.loop-k.row (NotLearned n)) (let z : suc k ≡ k + 1 = omega arith in z)
    (i.0, i.1, (let a : k < length word = omega (arith, c.loop-k-test.true) in a), i.2, known, saw)

pub returns-in-Nothing-clause-same : goal.returns-in-Nothing-clause-same
returns-in-Nothing-clause-same g c =
    let i = c.loop-k.invariant in
    keeps_on c.args.pass.now.0 c.loop-k.pass.0 c.read_cell-found.new.pass.0 i.8
    (keeps_looked (cell_at g.B.Home.plan c.loop-k.row c.column_of-column.result) 0 c.loop-k.pass.0 c.read_cell-found.new.pass.0
    (c.in-Nothing.ensures.found i.0 i.4).0)

pub returns-in-Nothing-clause-loads : goal.returns-in-Nothing-clause-loads
returns-in-Nothing-clause-loads g c =
    let i = c.loop-k.invariant in
    let a = ap (λ (v : View (List Config)). v.looks.count) (c.in-Nothing.ensures.found i.0 i.4).0 in
    let b = i.9 in
    omega arith

pub returns-in-Nothing-clause-learned : goal.returns-in-Nothing-clause-learned
returns-in-Nothing-clause-learned g c = λ k code s.
    walked_seen StartsAt LeadsTo one_start one_led g.B.Home.plan c.args.start (columns_of g.B.Home.plan.net (word_of c.args.tokens.now))
    c.args.pass.now.0 c.read_cell-found.new.pass.0 (NotLearned (c.loop-k.k + 1)) k code s (returns-in-Nothing-clause-walked g c)

pub returns-in-End-clause-walked : goal.returns-in-End-clause-walked
returns-in-End-clause-walked g c =
    let i = c.loop-k.invariant in
    let p = g.B.Home.plan in
    let cols = columns_of p.net (word_of c.args.tokens.now) in
    let k = c.loop-k.k in
    let s = get_or cols k 0 in
    let mid = c.loop-k.pass.0 in
    let new = c.read_cell-found.new.pass.0 in
    let col : s ≡ c.column_of-column.result =
    column_at c.net-net.result.now p.net c.args.tokens.now k c.column_of-column.result _ c.net-net.ensures.is
    c.loop-k-test.true c.column_of-column.ensures.is in
    let e : CellFound StartsAt LeadsTo p c.loop-k.row i.0 s mid new (found.End c.in-End.code) =
    subst (λ n. CellFound StartsAt LeadsTo p c.loop-k.row i.0 n mid new (found.End c.in-End.code)) (sym col)
    (c.in-End.ensures.found i.0 i.4) in
    let lt : k < length cols = let many = many_columns p.net c.args.tokens.now in omega (arith, c.loop-k-test.true) in (
      i.0,
      i.1,
      lt,
      i.2,
      e.0,
      saw_next i.1 (Cell i.0 s (End c.in-End.code)) c.args.pass.now.0 mid new i.3 (ap (λ (v : View (List Config)). v.seen) e.1),
    )

pub returns-in-End-clause-same : goal.returns-in-End-clause-same
returns-in-End-clause-same g c =
    let i = c.loop-k.invariant in
    let e = c.in-End.ensures.found i.0 i.4 in
    let s = c.column_of-column.result in
    keeps_on c.args.pass.now.0 c.loop-k.pass.0 c.read_cell-found.new.pass.0 i.8
    (keeps_saw (cell_at g.B.Home.plan c.loop-k.row s) (end_word c.in-End.code) (Cell i.0 s (End c.in-End.code)) [] c.loop-k.pass.0
    c.read_cell-found.new.pass.0 e.1)

pub returns-in-End-clause-loads : goal.returns-in-End-clause-loads
returns-in-End-clause-loads g c =
    let i = c.loop-k.invariant in
    let a = ap (λ (v : View (List Config)). v.looks.count) (c.in-End.ensures.found i.0 i.4).1 in
    let b = i.9 in
    omega arith

pub returns-in-End-clause-learned : goal.returns-in-End-clause-learned
returns-in-End-clause-learned g c = λ k code s.
    walked_seen StartsAt LeadsTo one_start one_led g.B.Home.plan c.args.start (columns_of g.B.Home.plan.net (word_of c.args.tokens.now))
    c.args.pass.now.0 c.read_cell-found.new.pass.0 (Ended c.in-End.code c.loop-k.k) k code s (returns-in-End-clause-walked g c)

pub returns-clause-walked : goal.returns-clause-walked
returns-clause-walked g c =
    let i = c.loop-k.invariant in
    let cols = columns_of g.B.Home.plan.net (word_of c.args.tokens.now) in
    let many = many_columns g.B.Home.plan.net c.args.tokens.now in
    let n : c.loop-k.k ≡ length cols = let a = c.loop-k-test.false in let b = c.loop-k.auto.k-end in omega arith in (
      i.0,
      i.1,
      subst (λ (n : ℕ). Came StartsAt LeadsTo g.B.Home.plan c.args.start cols n c.args.pass.now.0 i.0 i.1) n i.2,
      i.3,
    )

pub returns-clause-learned : goal.returns-clause-learned
returns-clause-learned g c = λ k code s.
    walked_seen StartsAt LeadsTo one_start one_led g.B.Home.plan c.args.start (columns_of g.B.Home.plan.net (word_of c.args.tokens.now))
    c.args.pass.now.0 c.loop-k.pass.0 Open k code s (returns-clause-walked g c)

pub returns-clause-rows : goal.returns-clause-rows
returns-clause-rows g c = c.loop-k.invariant.10
