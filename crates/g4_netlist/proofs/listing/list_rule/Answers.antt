use Rattle.std.proofs.Common.{◌∙◌, List, Bool, length, sym, subst}
use Rattle.g4_netlist.specs.OfRule.{AreStatesOf}
use Rattle.g4_netlist.specs.Searching.{marked}
use Rattle.g4_netlist.proofs.Marked.{marked_are_states, one_after_another}
use Rattle.g4_netlist.proofs.listing.list_rule.Goals as goal

pub returns : goal.returns
returns c =
    let found = c.as_slice.result.now in
    record {
      states = marked found (length found);
      are_states = subst (λ (marks : List Bool). AreStatesOf c.args.net.now c.args.rule (marked marks (length marks)))
          (sym c.as_slice.ensures.value) (marked_are_states c.args.net.now c.args.rule c.in_ok-found.found.items c.in_ok-found.ensures);
      has_lines = c.new.ensures ∙ one_after_another _ _ _ _ _ _ _ c.new-out.ensures.items c.in_ok-push_name.ensures
          c.in_ok-push.ensures c.in_ok-push_marked.ensures;
    }
