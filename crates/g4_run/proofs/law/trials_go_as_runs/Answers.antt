use Rattle.g4_run.proofs.Trying.{trial_goes, trial_least}
use Rattle.g4_run.proofs.law.trials_go_as_runs.Goals as goal

pub returns-clause-least : goal.returns-clause-least
returns-clause-least c = λ net values word r targets i more at h. trial_least net values word r targets i more at h

pub returns-clause-goes : goal.returns-clause-goes
returns-clause-goes c = λ net values word r s alternatives ready proper step h. trial_goes net values word r s alternatives ready proper
    step h
