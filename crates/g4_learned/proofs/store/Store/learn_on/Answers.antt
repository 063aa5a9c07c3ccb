use Rattle.std.proofs.Common.{◌≡◌, Contains, List, map, sym, ◌∙◌, ap, subst}
use Rattle.g4_net.specs.Configurations.{Config}
use Rattle.g4_predict.specs.declared.path.Looked as code
use Rattle.g4_predict.specs.Paths.{looked_of}
use Rattle.g4_store.specs.declared.path.Looked.{Looked}
use Rattle.g4_store.specs.Learned.{IsLearned}
use Rattle.g4_store.specs.Paths.{LeadsOn, cells_of}
use Rattle.g4_learned.specs.Automata.{LeadsTo, StartsAt}
use Rattle.g4_learned.specs.Stored.{stored_entry}
use Rattle.g4_learned.specs.Tables.{Tables}
use Rattle.g4_learned.proofs.Paths.{sll_leads}
use Rattle.g4_learned.proofs.store.Store.learn_on.Goals as goal

pub learn_on-learned-requires : goal.learn_on-learned-requires
learn_on-learned-requires g c =
    let (row, known, says) = c.requires in
    let p = g.B.Home.plan in
    let entries : c.in_ok-entries.entries.items ≡ map (stored_entry p.net) (map looked_of c.args.looked) =
    c.in_ok-entries.ensures
    ∙ (ap (λ (l : List code.Looked). map (stored_entry c.net.result.now) (map looked_of l)) c.into_vec.ensures
    ∙ ap (λ (t : Tables). map (stored_entry t) (map looked_of c.args.looked)) c.net.ensures) in (
      row,
      known,
      subst (LeadsOn StartsAt LeadsTo p row) (sym entries)
          (sll_leads p c.self.invariant row (Contains row) says.word says.place says.verdict (map looked_of c.args.looked) says.is_row
          says.symbols says.code says.says),
    )

pub returns-clause-learned : goal.returns-clause-learned
returns-clause-learned g c = λ row known.
    let p = g.B.Home.plan in
    let entries : c.in_ok-entries.entries.items ≡ map (stored_entry p.net) (map looked_of c.args.looked) =
    c.in_ok-entries.ensures
    ∙ (ap (λ (l : List code.Looked). map (stored_entry c.net.result.now) (map looked_of l)) c.into_vec.ensures
    ∙ ap (λ (t : Tables). map (stored_entry t) (map looked_of c.args.looked)) c.net.ensures) in
    subst (λ (ls : List (Looked (List Config))). IsLearned p.rows (cells_of row ls) c.args.pass.now c.learn_on-learned.new.pass
    c.learn_on-learned.result) entries (c.learn_on-learned.ensures.learned row known)
