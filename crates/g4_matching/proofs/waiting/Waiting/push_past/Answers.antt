use Rattle.std.proofs.Common.{Bool, ◌∷◌, [], refl, ap, sym, ◌∙◌}
use Rattle.g4_ordered.specs.declared.network.Reads.{Reads}
use Rattle.g4_ordered.specs.declared.network.Reads.TheVariants.{EndOfText}
use Rattle.g4_ordered.specs.Leads.{leads_past}
use Rattle.g4_matching.specs.Entries.{config_of}
use Rattle.g4_matching.proofs.Known.{adds_placed}
use Rattle.g4_matching.proofs.waiting.Waiting.push_past.Goals as goal

pub returns-in_ok-push_each-in-EndOfText : goal.returns-in_ok-push_each-in-EndOfText
returns-in_ok-push_each-in-EndOfText c =
    adds_placed _ _ c.args.from (c.args.target ∷ []) _ refl c.in_ok-push_each-in-EndOfText.ensures c.requires.known c.requires.waiting
    (sym (ap (λ (l : Reads). leads_past c.args.last l (config_of c.args.self.now.returns c.args.from) c.args.target) c.in-EndOfText.is
    ∙ ap (λ (b : Bool). leads_past b EndOfText (config_of c.args.self.now.returns c.args.from) c.args.target) c.if-last.true))
