use Rattle.g4_written.proofs.Derived.{rule_derives}
use Rattle.g4_written.proofs.law.rewriting_keeps_words.Goals as goal

pub returns : goal.returns
returns c = λ rules k word. rule_derives rules k word
