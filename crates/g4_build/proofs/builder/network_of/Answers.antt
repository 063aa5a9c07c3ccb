use Rattle.std.proofs.Common.{sym, ◌∙◌, subst, map, List, ℕ, ◌+◌, ◌∷◌, []}
use Rattle.g4_tokens.specs.Symbols.{eof}
use Rattle.g4_source.specs.Rules.{alternatives_of}
use Rattle.g4_layout.proofs.Runnable.{runnable}
use Rattle.g4_build.specs.Rules.{IsDrawn}
use Rattle.g4_build.proofs.Built.{built, eof_alone, too_many, few_enough}
use Rattle.g4_build.proofs.Named.{unknown, known_at}
use Rattle.g4_build.proofs.Widths.{narrow}
use Rattle.g4_build.proofs.builder.network_of.Goals as goal

pub returns-in_default : goal.returns-in_default
returns-in_default c = unknown c.args.rules.now c.args.start.now (sym c.place_of.ensures ∙ c.in_default.is)

pub returns-then-some_rule_is_wide : goal.returns-then-some_rule_is_wide
returns-then-some_rule_is_wide c = (
  (known_at c.args.rules.now c.args.start.now c.in-Some.place (sym c.place_of.ensures ∙ c.in-Some.is)).0,
  c.some_rule_is_wide.ensures.0 c.if-some_rule_is_wide.true,
)

pub returns-then-not-fits : goal.returns-then-not-fits
returns-then-not-fits c = (
  (known_at c.args.rules.now c.args.start.now c.in-Some.place (sym c.place_of.ensures ∙ c.in-Some.is)).0,
  narrow (map alternatives_of c.args.rules.now) _ c.some_rule_is_wide.ensures c.if-some_rule_is_wide.false,
  too_many _ _ c.if-not-fits.true c.fits.ensures,
)

pub returns : goal.returns
returns c =
    built (eof ∷ []) c.args.rules.now c.args.numberings.now c.args.start.now c.in-Some.place c.in_ok-net.net
    (narrow (map alternatives_of c.args.rules.now) _ c.some_rule_is_wide.ensures c.if-some_rule_is_wide.false)
    (sym c.place_of.ensures ∙ c.in-Some.is) (few_enough _ _ c.if-not-fits.false c.fits.ensures)
    (subst (λ (set : List ℕ). IsDrawn set c.args.rules.now c.args.numberings.now (c.in-Some.place + 1) c.in_ok-net.net)
    c.in_ok-file_end.ensures c.in_ok-net.ensures)
    (λ low network few callers. runnable (eof ∷ []) c.args.rules.now c.args.start.now c.in_ok-net.net c.requires.laid low eof_alone
    network few callers)
