use Rattle.std.proofs.Common.{◌≡◌, ◌-◌, length, take, drop, ap, sym, ◌∙◌, refl, Some, Option, Ok, arith, rules}
use Rattle.g4_ordered.specs.Matching.{IsMatch}
use Rattle.g4_lexer.specs.declared.effects.Effects.{Effects}
use Rattle.g4_lexer.specs.Commands.{after_commands}
use Rattle.g4_lexer.specs.Lexers.{starts_in}
use Rattle.g4_lexer.specs.Lexing.{Course, NextMatch}
use Rattle.g4_lexer.specs.Scanning.{IsScanFault}
use Rattle.g4_lexer.specs.Tokens.{Concludes}
use Rattle.g4_lexer.proofs.Moved.{line_at, column_at, offset_at, take_short}
use Rattle.g4_lexer.proofs.Reached.{reached_none}
use Rattle.g4_lexer.proofs.Scanned.{found_here, found_next, stuck_here, refused_here, full_here, finished_here, unfinished_here, reached_more, within_more, at_more, few_more, types_more, spans_more, texts_more, begins_more}
use Rattle.g4_lexer.proofs.scanning.scan.Goals as goal

pub loop-start-init : goal.loop-start-init
loop-start-init c = record {
  matcher = c.requires.own;
  within = omega arith;
  at_is = refl;
  few = omega (arith, ap length c.new-tokens.ensures.items);
  limited = omega (arith, ap length c.new-tokens.ensures.items);
  types = λ h k d less. absurd (omega (arith, less, ap length c.new-tokens.ensures.items));
  spans = λ k d less. absurd (omega (arith, less, ap length c.new-tokens.ensures.items));
  texts = λ k d less. absurd (omega (arith, less, ap length c.new-tokens.ensures.items));
  begins = tt;
  reached = rw (c.new-tokens.ensures.items, c.new-effects.ensures.mode, c.new-effects.ensures.pushed)
      (reached_none c.args.lexer.now c.args.text.now c.args.room);
}

pub returns-in_default-clause-scan : goal.returns-in_default-clause-scan
returns-in_default-clause-scan c =
    let s : Course = record {
      at = c.loop-start.at;
      mode = c.loop-start.effects.mode;
      pushed = c.loop-start.effects.pushed;
      begun = c.loop-start.begun;
    } in
    stuck_here c.args.lexer.now c.args.text.now c.loop-start.start s c.args.room c.loop-start.tokens.items
    c.loop-start.invariant.reached _ c.loop-start-test.true c.index-rest-0.is
    (rw c.in_default.is at (found_here c.args.lexer.now c.loop-start.effects.mode
    (take (length c.args.text.now - c.loop-start.start) (drop c.loop-start.start c.args.text.now)) c.in_ok-matched.field-0
    c.loop-start.matcher c.loop-start.invariant.matcher c.in_ok-matched.ensures.found))

pub returns-in_err-carry_out_all-clause-scan : goal.returns-in_err-carry_out_all-clause-scan
returns-in_err-carry_out_all-clause-scan c =
    let s : Course = record {
      at = c.loop-start.at;
      mode = c.loop-start.effects.mode;
      pushed = c.loop-start.effects.pushed;
      begun = c.loop-start.begun;
    } in
    let m = c.in-Some.matched in
    let matches : IsMatch c.args.lexer.now.net (starts_in c.args.lexer.now c.loop-start.effects.mode)
    (take (length c.args.text.now - c.loop-start.start) (drop c.loop-start.start c.args.text.now)) m.length m.rule m.alternative =
    rw c.in-Some.is at (found_here c.args.lexer.now c.loop-start.effects.mode
    (take (length c.args.text.now - c.loop-start.start) (drop c.loop-start.start c.args.text.now)) c.in_ok-matched.field-0
    c.loop-start.matcher c.loop-start.invariant.matcher c.in_ok-matched.ensures.found) in
    let wanted = after_commands c.commands.result.now c.begin.new.self in
    let next : (o : Option Effects) → wanted ≡ o
    → NextMatch c.args.lexer.now s (drop c.loop-start.start c.args.text.now) m.length o =
    λ o done. found_next c.args.lexer.now c.args.text.now c.loop-start.start s m.length m.rule m.alternative c.rule_type.result
    c.commands.result.now c.unwrap_or-token.result c.begin.new.self o matches c.commands.ensures c.unwrap_or-token.ensures
    c.rule_type.ensures c.begin.ensures done in
    let fault : IsScanFault c.args.room c.args.lexer.now c.args.text.now c.in_err-carry_out_all.field-0.0 =
    refused_here c.args.lexer.now c.args.text.now c.loop-start.start s c.args.room c.loop-start.tokens.items
    c.loop-start.invariant.reached m.length wanted c.carry_out_all.new.self c.in_err-carry_out_all.field-0.0 next
    c.in_err-carry_out_all.ensures in
    search rules

pub after-at-requires-clause-bytes : goal.after-at-requires-clause-bytes
after-at-requires-clause-bytes c =
    let rest = take (length c.args.text.now - c.loop-start.start) (drop c.loop-start.start c.args.text.now) in
    let within = (rw c.in-Some.is at c.in_ok-matched.ensures.found).after.0 in
    omega (
      arith,
      offset_at c.args.text.now c.loop-start.start _ c.loop-start.invariant.within c.loop-start.invariant.at_is,
      take_short c.in-Some.matched.length rest,
      take_short (length c.args.text.now - c.loop-start.start)
          (drop c.loop-start.start c.args.text.now),
      within,
      c.requires.fits,
      c.loop-start.invariant.within,
    )

pub after-at-requires-clause-lines : goal.after-at-requires-clause-lines
after-at-requires-clause-lines c =
    let rest = take (length c.args.text.now - c.loop-start.start) (drop c.loop-start.start c.args.text.now) in
    let within = (rw c.in-Some.is at c.in_ok-matched.ensures.found).after.0 in
    omega (
      arith,
      line_at c.args.text.now c.loop-start.start _ c.loop-start.invariant.within c.loop-start.invariant.at_is,
      take_short c.in-Some.matched.length rest,
      take_short (length c.args.text.now - c.loop-start.start)
          (drop c.loop-start.start c.args.text.now),
      within,
      c.requires.fits,
      c.loop-start.invariant.within,
    )

pub after-at-requires-clause-columns : goal.after-at-requires-clause-columns
after-at-requires-clause-columns c =
    let rest = take (length c.args.text.now - c.loop-start.start) (drop c.loop-start.start c.args.text.now) in
    let within = (rw c.in-Some.is at c.in_ok-matched.ensures.found).after.0 in
    omega (
      arith,
      column_at c.args.text.now c.loop-start.start _ c.loop-start.invariant.within c.loop-start.invariant.at_is,
      take_short c.in-Some.matched.length rest,
      take_short (length c.args.text.now - c.loop-start.start)
          (drop c.loop-start.start c.args.text.now),
      within,
      c.requires.fits,
      c.loop-start.invariant.within,
    )

pub returns-in_err-begun-clause-scan : goal.returns-in_err-begun-clause-scan
returns-in_err-begun-clause-scan c =
    let s : Course = record {
      at = c.loop-start.at;
      mode = c.loop-start.effects.mode;
      pushed = c.loop-start.effects.pushed;
      begun = c.loop-start.begun;
    } in
    let m = c.in-Some.matched in
    let matches : IsMatch c.args.lexer.now.net (starts_in c.args.lexer.now c.loop-start.effects.mode)
    (take (length c.args.text.now - c.loop-start.start) (drop c.loop-start.start c.args.text.now)) m.length m.rule m.alternative =
    rw c.in-Some.is at (found_here c.args.lexer.now c.loop-start.effects.mode
    (take (length c.args.text.now - c.loop-start.start) (drop c.loop-start.start c.args.text.now)) c.in_ok-matched.field-0
    c.loop-start.matcher c.loop-start.invariant.matcher c.in_ok-matched.ensures.found) in
    let next = found_next c.args.lexer.now c.args.text.now c.loop-start.start s m.length m.rule m.alternative c.rule_type.result
    c.commands.result.now c.unwrap_or-token.result c.begin.new.self (Some c.carry_out_all.new.self) matches c.commands.ensures
    c.unwrap_or-token.ensures c.rule_type.ensures c.begin.ensures c.in_ok-carry_out_all.ensures in
    let fault : IsScanFault c.args.room c.args.lexer.now c.args.text.now c.in_err-begun.field-0.0 =
    full_here c.args.lexer.now c.args.text.now c.loop-start.start s c.args.room c.loop-start.tokens.items
    c.loop-start.invariant.reached m.length c.unwrap_or-token.result c.carry_out_all.new.self c.after-at.result
    c.unwrap_or-token.ensures next c.after-at.ensures c.conclude.new.tokens.items c.in_err-begun.field-0.0 c.in_err-begun.ensures in
    search rules

pub loop-start-preserved : goal.loop-start-preserved
loop-start-preserved c =
    let s : Course = record {
      at = c.loop-start.at;
      mode = c.loop-start.effects.mode;
      pushed = c.loop-start.effects.pushed;
      begun = c.loop-start.begun;
    } in
    let m = c.in-Some.matched in
    let matches : IsMatch c.args.lexer.now.net (starts_in c.args.lexer.now c.loop-start.effects.mode)
    (take (length c.args.text.now - c.loop-start.start) (drop c.loop-start.start c.args.text.now)) m.length m.rule m.alternative =
    rw c.in-Some.is at (found_here c.args.lexer.now c.loop-start.effects.mode
    (take (length c.args.text.now - c.loop-start.start) (drop c.loop-start.start c.args.text.now)) c.in_ok-matched.field-0
    c.loop-start.matcher c.loop-start.invariant.matcher c.in_ok-matched.ensures.found) in
    let next = found_next c.args.lexer.now c.args.text.now c.loop-start.start s m.length m.rule m.alternative c.rule_type.result
    c.commands.result.now c.unwrap_or-token.result c.begin.new.self (Some c.carry_out_all.new.self) matches c.commands.ensures
    c.unwrap_or-token.ensures c.rule_type.ensures c.begin.ensures c.in_ok-carry_out_all.ensures in
    let e = c.carry_out_all.new.self in
    let token = c.unwrap_or-token.result in
    let end = c.after-at.result in
    let old = c.loop-start.tokens.items in
    let new = c.conclude.new.tokens.items in
    let kept = c.in_ok-begun.begun in
    let h : Concludes c.args.room token e end old new (Ok kept) = c.in_ok-begun.ensures in
    let i = c.loop-start.invariant in record {
      matcher = c.longest_match.ensures.same ∙ i.matcher;
      within = within_more c.args.lexer.now c.args.text.now c.loop-start.start s c.args.room old i.reached m.length token e end
          c.unwrap_or-token.ensures next c.after-at.ensures new kept h i.within;
      at_is = at_more c.args.lexer.now c.args.text.now c.loop-start.start s c.args.room old i.reached m.length token e end
          c.unwrap_or-token.ensures next c.after-at.ensures new kept h i.within i.at_is;
      few = few_more c.args.lexer.now c.args.text.now c.loop-start.start s c.args.room old i.reached m.length token e end
          c.unwrap_or-token.ensures next c.after-at.ensures new kept h i.few;
      limited = h.2 i.limited;
      types = types_more c.args.lexer.now c.args.text.now c.loop-start.start s c.args.room old i.reached m.length token e end
          c.unwrap_or-token.ensures next c.after-at.ensures new kept h i.types;
      spans = spans_more c.args.lexer.now c.args.text.now c.loop-start.start s c.args.room old i.reached m.length token e end
          c.unwrap_or-token.ensures next c.after-at.ensures new kept h i.begins i.spans;
      texts = texts_more c.args.lexer.now c.args.text.now c.loop-start.start s c.args.room old i.reached m.length token e end
          c.unwrap_or-token.ensures next c.after-at.ensures new kept h i.begins i.texts;
      begins = begins_more c.args.lexer.now c.args.text.now c.loop-start.start s c.args.room old i.reached m.length token e end
          c.unwrap_or-token.ensures next c.after-at.ensures new kept h i.begins;
      reached = reached_more c.args.lexer.now c.args.text.now c.loop-start.start s c.args.room old i.reached m.length token e end
          c.unwrap_or-token.ensures next c.after-at.ensures new kept h i.limited;
    }

pub returns-then-is_some-clause-scan : goal.returns-then-is_some-clause-scan
returns-then-is_some-clause-scan c =
    let s : Course = record {
      at = c.loop-start.at;
      mode = c.loop-start.effects.mode;
      pushed = c.loop-start.effects.pushed;
      begun = c.loop-start.begun;
    } in
    unfinished_here c.args.lexer.now c.args.text.now c.loop-start.start s c.args.room c.loop-start.tokens.items
    c.loop-start.invariant.reached c.loop-start-test.false (sym c.is_some.ensures ∙ c.if-is_some.true)

pub returns-clause-scan : goal.returns-clause-scan
returns-clause-scan c =
    let s : Course = record {
      at = c.loop-start.at;
      mode = c.loop-start.effects.mode;
      pushed = c.loop-start.effects.pushed;
      begun = c.loop-start.begun;
    } in
    finished_here c.args.lexer.now c.args.text.now c.loop-start.start s c.args.room c.loop-start.tokens.items
    c.loop-start.invariant.reached c.loop-start-test.false (sym c.is_some.ensures ∙ c.if-is_some.false)
