use Rattle.std.proofs.Common.{◌∙◌, sym}
use Rattle.clap.proofs.WalkLemmas.{one_text-rows}
use Rattle.clap.specs.Words.{found_of}
use Rattle.g4_words.proofs.Flags.{flag_is_true}
use Rattle.g4_words.proofs.reading.has_flag.Goals as goal

pub returns : goal.returns
returns c =
    let is = flag_is_true _ c.get_one.result _ c.get_one.ensures.none c.get_one.ensures.value in
    let same = one_text-rows (found_of c.args.values.now) c.args.name.now in
    (λ yes. sym same ∙ is.0 (sym c.eq.ensures ∙ yes), λ given. c.eq.ensures ∙ is.1 (same ∙ given))
