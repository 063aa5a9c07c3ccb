use Rattle.std.proofs.Common.{◌∙◌, List, map, ap}
use Rattle.g4_predict.specs.declared.path.Looked.{Looked}
use Rattle.g4_predict.specs.Paths.{looked_of}
use Rattle.g4_learned.specs.Stored.{stored_entry}
use Rattle.g4_learned.proofs.path.stored_path.Goals as goal

pub returns : goal.returns
returns c = record {
  start = c.start_of-number.ensures;
  content = c.in_ok-content.ensures;
  looked = c.in_ok-looked.ensures ∙ ap (λ (entries : List Looked). map (stored_entry c.args.net.now) (map looked_of entries))
      c.into_vec.ensures;
}
