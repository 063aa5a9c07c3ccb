use Rattle.std.proofs.Common.{List, ◌++◌, ◌∙◌, ap, arith}
use Rattle.g4_ordered.specs.declared.start.Start.{Start}
use Rattle.g4_lexer_rules.proofs.Starts.{starts_past, starts_put}
use Rattle.g4_lexer_rules.proofs.starting.add_starts.Goals as goal

pub returns-then-mode-len : goal.returns-then-mode-len
returns-then-mode-len c = starts_past c.args.mode c.args.more.items c.args.all.now.items
    (omega (arith, c.if-mode-len.true, c.len.ensures, c.args.all.now.ok.0))

pub returns : goal.returns
returns c =
    starts_put c.args.all.now.items c.args.mode c.args.more.items c.index_mut.result.now c.replace-list.new.dest c.new-2.result
    c.append.new.self.items (omega (arith, c.if-mode-len.false, c.len.ensures, c.args.all.now.ok.0)) c.index_mut.ensures.value
    (c.in_ok-append.ensures.items
    ∙ ap (λ (l : List Start). l ++ c.args.more.items) (c.into_vec-starts.ensures ∙ c.replace-list.ensures.value))
    c.new-2.ensures
