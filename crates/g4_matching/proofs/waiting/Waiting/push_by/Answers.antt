use Rattle.std.proofs.Common.{List, Some, map, ap, sym, subst, ◌∙◌}
use Rattle.std.specs.Result.{OnOk}
use Rattle.g4_net.specs.declared.network.State.{State}
use Rattle.g4_ordered.specs.declared.network.Reads.{Reads}
use Rattle.g4_ordered.specs.Network.{is_reluctant}
use Rattle.g4_ordered.specs.Configurations.{LexerConfig, through}
use Rattle.g4_ordered.specs.Leads.{leads_by}
use Rattle.g4_matching.specs.Entries.{config_of}
use Rattle.g4_matching.specs.Waiting.{Adds}
use Rattle.g4_matching.proofs.waiting.Waiting.push_by.Goals as goal

pub returns-in-Decision : goal.returns-in-Decision
returns-in-Decision c = subst (λ (cs : List LexerConfig). OnOk c.push_through.result (Adds c.args.self.now c.push_through.new.self cs))
    (ap (λ l. map (through (is_reluctant l) (config_of c.args.self.now.returns c.args.from)) l) c.as_slice.ensures
    ∙ sym (ap (λ (s : State Reads). leads_by c.args.last (Some s) (config_of c.args.self.now.returns c.args.from)) c.in-Decision.is))
    c.push_through.ensures

pub returns-in-End : goal.returns-in-End
returns-in-End c = subst (λ (cs : List LexerConfig). OnOk c.push_returned.result (Adds c.args.self.now c.push_returned.new.self cs))
    (sym (ap (λ (s : State Reads). leads_by c.args.last (Some s) (config_of c.args.self.now.returns c.args.from)) c.in-End.is))
    c.push_returned.ensures

pub returns-in-Edge : goal.returns-in-Edge
returns-in-Edge c = subst (λ (cs : List LexerConfig). OnOk c.push_past.result (Adds c.args.self.now c.push_past.new.self cs))
    (sym (ap (λ (s : State Reads). leads_by c.args.last (Some s) (config_of c.args.self.now.returns c.args.from)) c.in-Edge.is))
    c.push_past.ensures

pub returns-in-Call : goal.returns-in-Call
returns-in-Call c = subst (λ (cs : List LexerConfig). OnOk c.push_called.result (Adds c.args.self.now c.push_called.new.self cs))
    (sym (ap (λ (s : State Reads). leads_by c.args.last (Some s) (config_of c.args.self.now.returns c.args.from)) c.in-Call.is))
    c.push_called.ensures

pub returns-in-Predicate : goal.returns-in-Predicate
returns-in-Predicate c = subst (λ (cs : List LexerConfig). OnOk c.push_empty.result (Adds c.args.self.now c.push_empty.new.self cs))
    (sym (ap (λ (s : State Reads). leads_by c.args.last (Some s) (config_of c.args.self.now.returns c.args.from)) c.in-Predicate.is))
    c.push_empty.ensures

pub returns-in-Level : goal.returns-in-Level
returns-in-Level c = subst (λ (cs : List LexerConfig).
    OnOk c.push_empty-in-Level.result (Adds c.args.self.now c.push_empty-in-Level.new.self cs))
    (sym (ap (λ (s : State Reads). leads_by c.args.last (Some s) (config_of c.args.self.now.returns c.args.from)) c.in-Level.is))
    c.push_empty-in-Level.ensures

pub returns-in-Action : goal.returns-in-Action
returns-in-Action c = subst (λ (cs : List LexerConfig).
    OnOk c.push_empty-in-Action.result (Adds c.args.self.now c.push_empty-in-Action.new.self cs))
    (sym (ap (λ (s : State Reads). leads_by c.args.last (Some s) (config_of c.args.self.now.returns c.args.from)) c.in-Action.is))
    c.push_empty-in-Action.ensures

pub returns-in-Empty : goal.returns-in-Empty
returns-in-Empty c = subst (λ (cs : List LexerConfig).
    OnOk c.push_empty-in-Empty.result (Adds c.args.self.now c.push_empty-in-Empty.new.self cs))
    (sym (ap (λ (s : State Reads). leads_by c.args.last (Some s) (config_of c.args.self.now.returns c.args.from)) c.in-Empty.is))
    c.push_empty-in-Empty.ensures
