use Rattle.std.proofs.Common.{◌≡◌, ℕ, List, [], ◌∷◌, ◌++◌, Bool, not, get_or, sym, ap, ◌∙◌, Vec, Global}
use Rattle.std.specs.Borrow.{Bor}
use Rattle.std.proofs.lemmas.List.{get_or_default}
use Rattle.g4_checks.specs.Names.{is_one_of}
use Rattle.g4_checks.proofs.Sets.{names_in}
use Rattle.g4_lexer_rules.proofs.Once.{before, fails, new_name, old_name, passes, seen_more}
use Rattle.g4_lexer_rules.proofs.channels.each_once.Goals as goal
use Rattle.g4_lexer_rules.proofs.channels.each_once.Goals.{then-branch+in_ok-copy_of+in_ok-push, else-branch}

pub loop-name-preserved : goal.loop-name-preserved
loop-name-preserved c =
    let names = c.args.names.now in
    let i = c.loop-name.name-index in
    let none : Bor (List ℕ) = record { ref_ptr = (0, 0); now = [] } in
    let name : Bor (List ℕ) = get_or names i none in
    let within = c.loop-name-test.true in
    let item = get_or_default names i none name within in
    let there : Bool = is_one_of (before names i name within item) name.now in
    let is_new : c.in_ok-is_new.field-0 ≡ not there = c.in_ok-is_new.ensures.new ∙ ap not (c.loop-name.invariant.1 name.now) in
    let old = c.loop-name.made.items in (
      elim c.if-branch.branch [
        | then-branch+in_ok-copy_of+in_ok-push w ↦
            new_name names i name within item old c.if-branch.made.items (fails there (sym is_new ∙ w.if-branch.true))
            c.loop-name.invariant.0
            (ap (λ (v : Vec (List ℕ) Global). v.items) w.made-is ∙ w.in_ok-push.ensures.items
            ∙ ap (λ (n : List ℕ). old ++ n ∷ []) w.in_ok-copy_of.ensures)
        | else-branch w ↦ ap (λ (v : Vec (List ℕ) Global). v.items) w.made-is
            ∙ old_name names i name within item old (passes there (sym is_new ∙ w.if-branch.false)) c.loop-name.invariant.0
      ],
      seen_more names i name within item (names_in c.loop-name.seen) (names_in c.is_new.new.seen) c.loop-name.invariant.1
          c.in_ok-is_new.ensures.added,
    )
