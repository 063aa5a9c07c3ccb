use Rattle.std.proofs.Common.{◌≡◌, ◌++◌, List, [], ◌∷◌, map, take, None, option_map, sym, ap, ◌∙◌, subst, rules}
use Rattle.std.specs.Borrow.{Bor}
use Rattle.std.specs.List.{filter_map}
use Rattle.std.proofs.lemmas.List.{map-append}
use Rattle.g4_source.specs.declared.atom.Literal.{Literal}
use Rattle.g4_source.specs.declared.rule.LexerRule.{LexerRule}
use Rattle.g4_vocab.specs.Numbering.{needs_own}
use Rattle.g4_vocab.specs.Tables.{reference_of}
use Rattle.g4_vocab.proofs.Firsts.{AreFound, found_new, found_old, gone_more, gone_same, none_found}
use Rattle.g4_vocab.proofs.own.own_literals.Goals as goal
use Rattle.g4_vocab.proofs.own.own_literals.Goals.{in-Some+in_ok-insert+then-branch+in_ok-push, in-Some+in_ok-insert+else-branch, in_default}

pub loop-token-init : goal.loop-token-init
loop-token-init c =
    subst (λ (ls : List (Bor Literal)). AreFound [] c.new-seen.result (map (λ l. l.now) ls)) (sym c.new-own.ensures.items)
    (none_found c.new-seen.result c.new-seen.ensures.empty)

pub loop-token-preserved : goal.loop-token-preserved
loop-token-preserved c =
    let lexers : List LexerRule = map (λ r. r.now) c.args.wholes.now.rules.items in
    let tokens = c.args.tokens.now in
    let i = c.loop-token.token-index in
    let before : List Literal = filter_map (needs_own lexers) (map reference_of (take i tokens)) in
    let old : List Literal = map (λ l. l.now) c.loop-token.own.items in
    elim c.match-needs_own.branch [
      | in-Some+in_ok-insert+then-branch+in_ok-push w ↦
          let literal = w.in-Some.literal in
          let is : needs_own lexers (reference_of c.token-item.result) ≡ _ =
          sym c.needs_own.ensures ∙ ap (option_map (λ l. l.now)) w.in-Some.is in
          let new = found_new before c.loop-token.seen w.insert.new.self old literal.now w.as_slice.result c.loop-token.invariant
          w.as_slice.ensures w.in_ok-insert.ensures.updates (search rules) in
          let pushed = ap (map (λ l. l.now)) w.in_ok-push.ensures.items ∙ map-append (λ l. l.now) c.loop-token.own.items (literal ∷ []) in
          rw (w.seen-is, w.own-is)
          (gone_more (needs_own lexers) reference_of tokens i c.token-item.result literal.now w.insert.new.self _ c.loop-token-test.true
          c.token-item.is is (subst (λ (ls : List Literal). AreFound (before ++ literal.now ∷ []) w.insert.new.self ls) (sym pushed) new))
      | in-Some+in_ok-insert+else-branch w ↦
          let literal = w.in-Some.literal in
          let is = sym c.needs_own.ensures ∙ ap (option_map (λ l. l.now)) w.in-Some.is in
          rw (w.seen-is, w.own-is)
          (gone_more (needs_own lexers) reference_of tokens i c.token-item.result literal.now w.insert.new.self old c.loop-token-test.true
          c.token-item.is is
          (found_old before c.loop-token.seen w.insert.new.self old literal.now w.as_slice.result c.loop-token.invariant
          w.as_slice.ensures w.in_ok-insert.ensures.updates (search rules)))
      | in_default w ↦
          let none : c.needs_own.result ≡ None = search rules in
          rw (w.seen-is, w.own-is)
          (gone_same (needs_own lexers) reference_of tokens i c.token-item.result c.loop-token.seen old c.loop-token-test.true
          c.token-item.is (sym c.needs_own.ensures ∙ ap (option_map (λ l. l.now)) none) c.loop-token.invariant)
    ]
