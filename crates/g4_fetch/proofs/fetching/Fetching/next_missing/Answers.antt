use Rattle.std.proofs.Common.{◌≡◌, [], List, Ok, reverse, sym, subst, rules}
use Rattle.g4_fetch.specs.Tasks.{Continues, nothing}
use Rattle.g4_fetch.specs.declared.task.Task.{Task}
use Rattle.g4_fetch.proofs.fetching.Fetching.next_missing.Goals as goal

pub returns : goal.returns
returns c =
    let reached = c.loop-task.self.reached in
    let none : c.loop-task.self.tasks.items ≡ [] = search rules in (
      c.loop-task.invariant.0,
      λ files. c.loop-task.invariant.1 files (Ok reached)
          (subst (λ (ts : List Task). Continues files c.args.prefix.now (reverse ts) reached (Ok reached)) (sym none) (nothing reached)),
    )
