use Rattle.std.proofs.Common.{◌∷◌, [], ◌++◌, ◌∙◌, ap}
use Rattle.g4_matching.proofs.Taking.{taken_in}
use Rattle.g4_matching.proofs.expanding.Expanding.take_in.Goals as goal

pub note_end-requires : goal.note_end-requires
note_end-requires c = c.requires.sound.ends

pub returns : goal.returns
returns c =
    taken_in c.args.net.now c.args.last c.args.entry c.args.self.now _ c.push_leads.new.self c.requires.sound c.requires.known
    c.in_ok-push_leads.ensures c.in_ok-note_end.ensures.waiting
    (c.in_ok-push.ensures ∙ ap (λ l. l ++ c.args.entry ∷ []) c.in_ok-note_end.ensures.same) c.in_ok-note_end.ensures.ends
