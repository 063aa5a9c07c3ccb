use Rattle.std.proofs.Common.{ℕ, List, map, option_map, ◌||◌, ap, ◌∙◌}
use mathlib.Core.Path.{fun_ext}
use Rattle.std.specs.Borrow.{Bor}
use Rattle.g4_source.specs.declared.atom.Atom.{Atom}
use Rattle.g4_source.specs.declared.rule.ParserRule.{ParserRule}
use Rattle.g4_checks.specs.References.{parsers_in}
use Rattle.g4_checks.specs.Labels.{HasClash, clashes}
use Rattle.g4_checks.specs.Names.{is_one_of}
use Rattle.g4_checks.proofs.FirstClash.{clash_test}
use Rattle.g4_source.proofs.Firsts.{found_same}
use Rattle.g4_checks.proofs.clashes.first_label_clash.Goals as goal

pub returns : goal.returns
returns c =
    let source = c.args.source.now in
    let rules = map (λ (r : Bor (ParserRule Atom)). r.now) c.as_slice-rules.result.now in
    let lent = ap (map (λ (r : Bor (ParserRule Atom)). r.now)) c.as_slice-rules.ensures.value ∙ c.requires.parsers in
    let test = clash_test rules c.in_ok-repeated.repeated c.new-capitalised.result c.as_slice.result.now c.add_all.new.self
    c.in_ok-repeated.ensures c.new-capitalised.ensures (c.as_slice.ensures.value ∙ c.in_ok-capitals.ensures) c.in_ok-add_all.ensures in
    found_same HasClash (λ n. is_one_of c.in_ok-repeated.repeated n || is_one_of c.add_all.new.self n) (clashes (parsers_in source))
    rules (parsers_in source) (option_map (λ (n : Bor (List ℕ)). n.now) c.in_ok-first_of.field-0) c.in_ok-found.found
    (fun_ext (λ n. test n ∙ ap (λ (all : List (ParserRule Atom)). clashes all n) lent)) lent c.in_ok-found.ensures c.in_ok-first_of.ensures
