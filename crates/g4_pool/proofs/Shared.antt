-- What workers share can be shared by threads.
use denote.Param.Send.{IsSend, IsSync, sendable}
use denote.RattleType.{RattleType}
use denote.Ref.{NamedLft}
use Rattle.std.proofs.Crossing as crossing
use Rattle.g4_base.proofs.text.Text.TheSendSync as texts
use Rattle.g4_learned.proofs.store.Store.TheSendSync as stores
use Rattle.g4_learned.specs.declared.decision_net.DecisionNet.{DecisionNet}
use Rattle.g4_outcome.specs.contracts.grammar.Grammar as grammar
use Rattle.g4_pool.proofs.inputs_left.InputsLeft.TheSendSync as inputs
use Rattle.g4_pool.specs.contracts.file_work.FileWork as work
use Rattle.g4_pool.specs.declared.inputs_left.InputsHome as homes
use Rattle.g4_pool.specs.declared.lexer_home.LexerHome as lexers
use Rattle.g4_source.proofs.element.Element.TheLaws.TheKnot as knot
use Rattle.g4_store.specs.declared.view.Home as home

pub grammar_is_sync : IsSync grammar.the_row
grammar_is_sync = search (crossing.crosses, knot.crosses_both, sendable) depth 60 fits 20000

pub work_is_sync : (a : NamedLft) (B R G : RattleType) (g : home.Ghosts B.Denot DecisionNet) (i : homes.Ghosts B.Denot)
    (l : lexers.Ghosts B.Denot)
    → IsSend B → IsSync B → IsSync R → IsSync G
    → IsSync (work.the_row a B R G g i l)
work_is_sync a B R G g i l sent b r s = search (
  grammar_is_sync,
  stores.the_sync,
  texts.the_sync,
  inputs.the_send,
  crossing.crosses,
  sendable,
) depth 60 fits 20000
