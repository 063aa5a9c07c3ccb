use Rattle.std.proofs.Common.{◌≡◌, ◌++◌, [], ◌∷◌, List, sym, ◌∙◌, ap, subst}
use Rattle.g4_net.specs.Configurations.{Config}
use Rattle.g4_predict.specs.Paths.{led_of, looked_of}
use Rattle.g4_store.specs.declared.automaton.Fact.{Fact}
use Rattle.g4_store.specs.declared.path.Looked.{Looked}
use Rattle.g4_store.specs.Learned.{IsLearned}
use Rattle.g4_store.specs.Paths.{LeadsOn, cells_of}
use Rattle.g4_learned.specs.Automata.{LeadsTo, StartsAt}
use Rattle.g4_learned.specs.Stored.{stored_entry, stored_led}
use Rattle.g4_learned.specs.Tables.{Tables, column_of}
use Rattle.g4_learned.proofs.Targets.{step_cells, step_leads}
use Rattle.g4_learned.proofs.store.Store.learn_step.Goals as goal

pub learn_on-learned-requires : goal.learn_on-learned-requires
learn_on-learned-requires g c =
    let (row, known, is_row, symbol, led) = c.requires in
    let p = g.B.Home.plan in
    let entry : c.in_ok-entry.entry ≡ stored_entry p.net (looked_of c.args.looked) =
    c.in_ok-entry.ensures ∙ ap (λ (t : Tables). stored_entry t (looked_of c.args.looked)) c.net.ensures in
    let entries = c.in_ok-push_back.ensures.items
    ∙ (ap (λ (l : List (Looked (List Config))). l ++ c.in_ok-entry.entry ∷ []) c.new-entries.ensures.items
    ∙ ap (λ (l : Looked (List Config)). l ∷ []) entry) in (
      row,
      known,
      subst (LeadsOn StartsAt LeadsTo p row) (sym entries)
          (step_leads p c.self.invariant row c.args.looked.symbol (stored_led (led_of c.args.looked.led)) is_row symbol led),
    )

pub returns-clause-learned : goal.returns-clause-learned
returns-clause-learned g c = λ row known.
    let p = g.B.Home.plan in
    let entry : c.in_ok-entry.entry ≡ stored_entry p.net (looked_of c.args.looked) =
    c.in_ok-entry.ensures ∙ ap (λ (t : Tables). stored_entry t (looked_of c.args.looked)) c.net.ensures in
    let entries = c.in_ok-push_back.ensures.items
    ∙ (ap (λ (l : List (Looked (List Config))). l ++ c.in_ok-entry.entry ∷ []) c.new-entries.ensures.items
    ∙ ap (λ (l : Looked (List Config)). l ∷ []) entry) in
    subst (λ (fs : List (Fact (List Config))). IsLearned p.rows fs c.args.pass.now c.learn_on-learned.new.pass c.learn_on-learned.result)
    (ap (cells_of row) entries
    ∙ step_cells p c.self.invariant row (column_of p.net c.args.looked.symbol) (stored_led (led_of c.args.looked.led)))
    (c.learn_on-learned.ensures.learned row known)
