use Rattle.g4_core.proofs.Reached.{reached_sound, reached_room, reached_only, reached_answers, reached_kept, reached_done, reached_union}
use Rattle.g4_core.proofs.law.schedules.Goals as goal

pub returns : goal.returns
returns g c =
    let a = g.A.Automaton in
    record {
      sound = reached_sound a.starts a.leads a.one_start a.one_led;
      room = reached_room a.starts a.leads a.one_start a.one_led;
      only = reached_only a.starts a.leads a.one_start a.one_led;
      answers = reached_answers a.starts a.leads a.one_start a.one_led;
      kept = reached_kept a.starts a.leads a.one_start a.one_led;
      done = reached_done a.starts a.leads a.one_start a.one_led;
      union = reached_union a.starts a.leads a.one_start a.one_led;
    }
