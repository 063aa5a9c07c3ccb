use Rattle.std.proofs.Common.{◌++◌, List, map, sym, ap, ◌∙◌}
use Rattle.g4_source.specs.declared.atom.TokenReference.{TokenReference}
use Rattle.g4_vocab.specs.Tables.{reference_of}
use Rattle.g4_vocab.proofs.Nodes.{alternatives_tokens, alternative_tokens}
use Rattle.std.specs.List.{flat_map}
use Rattle.g4_vocab.proofs.references.push_rule.Goals as goal

pub loop-alternative-init : goal.loop-alternative-init
loop-alternative-init c =
    ap (λ (xs : List TokenReference). map reference_of c.args.found.now.items ++ xs)
    (ap (flat_map alternative_tokens) c.as_slice-alternative-items.ensures ∙ sym (alternatives_tokens c.args.rule.now.alternatives))
