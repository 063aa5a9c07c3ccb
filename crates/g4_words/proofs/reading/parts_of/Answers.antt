use Rattle.std.proofs.Common.{◌∙◌, ℕ, Ok, ap, lit<, map}
use Rattle.std.proofs.lemmas.Iterator.Consumers.{map_from_collect}
use Rattle.std.proofs.lemmas.Iterator.Splits.{YieldsList-from_str_split}
use Rattle.g4_words.proofs.reading.parts_of.Goals as goal

pub returns : goal.returns
returns c = c.in_ok-copies.ensures ∙ ap (map (λ x. x.now)) c.deref.ensures.value
    ∙ map_from_collect {E = ℕ} (Ok c.in_ok-parts.parts) c.in_ok-parts.ensures.ran
    (YieldsList-from_str_split 44 c.args.text.now (lit< tt) c.split.ensures.text c.split.ensures.has_more c.split.ensures.pattern)
