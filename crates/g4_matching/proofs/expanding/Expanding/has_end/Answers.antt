use Rattle.std.proofs.Common.{rules, ◌≡◌, Some, None, slice_get, sym, ◌∙◌, ap, subst}
use Rattle.std.proofs.lemmas.Bool.{eqb-true, false≢true}
use Rattle.g4_matching.specs.declared.entry.Entry.{Entry}
use Rattle.g4_matching.specs.Ends.{EndsAt}
use Rattle.g4_matching.proofs.Lookups.{same_some, no_entry, decide, got, got_none}
use Rattle.g4_matching.proofs.Ended.{end_told, none_told, none_there}
use Rattle.g4_matching.proofs.expanding.Expanding.has_end.Goals as goal

pub returns-in_default : goal.returns-in_default
returns-in_default c = (
  (λ t. absurd (false≢true t)),
  λ h. absurd (none_told c.args.net.now c.args.self.now.all c.args.self.now.ends c.args.rule c.requires (search rules) h),
)

pub returns-then-entry-rule : goal.returns-then-entry-rule
returns-then-entry-rule c =
    let noted : slice_get c.args.self.now.ends c.args.rule ≡ Some c.in-Some.place = search rules in
    let there : slice_get c.args.self.now.all c.in-Some.place ≡ Some c.in-Some-get.entry.now =
    got _ _ _ _ c.as_slice.ensures c.in-Some-get.ensures.lookup.3.0 c.in-Some-get.ensures.lookup.1 in (
      (λ t. end_told c.args.net.now c.args.self.now.all c.args.rule _ _ there c.if-entry-rule.true (c.is_at_end.ensures.0 t)),
      λ h. decide c.is_at_end.result (λ no_end. none_there c.args.net.now c.args.self.now.all c.args.self.now.ends c.args.rule _
          c.requires noted
          (λ e. false≢true (sym no_end ∙ c.is_at_end.ensures.1 (subst (EndsAt c.args.net.now) (same_some _ _ (sym e.1 ∙ there)) e.3))) h),
    )

pub returns-else-entry-rule : goal.returns-else-entry-rule
returns-else-entry-rule c =
    let noted : slice_get c.args.self.now.ends c.args.rule ≡ Some c.in-Some.place = search rules in
    let there : slice_get c.args.self.now.all c.in-Some.place ≡ Some c.in-Some-get.entry.now =
    got _ _ _ _ c.as_slice.ensures c.in-Some-get.ensures.lookup.3.0 c.in-Some-get.ensures.lookup.1 in (
      (λ t. absurd (c.if-entry-rule.false (eqb-true c.in-Some-get.entry.now.rule c.args.rule t))),
      λ h. absurd (none_there c.args.net.now c.args.self.now.all c.args.self.now.ends c.args.rule _ c.requires noted
          (λ e. c.if-entry-rule.false (ap (λ (x : Entry). x.rule) (same_some _ _ (sym there ∙ e.1)) ∙ e.2)) h),
    )

pub returns-in-None : goal.returns-in-None
returns-in-None c =
    let noted : slice_get c.args.self.now.ends c.args.rule ≡ Some c.in-Some.place = search rules in
    let past : slice_get c.args.self.now.all c.in-Some.place ≡ None = got_none _ _ _ c.as_slice.ensures c.in-None.ensures.lookup.3 in (
      (λ t. absurd (false≢true t)),
      λ h. absurd (none_there c.args.net.now c.args.self.now.all c.args.self.now.ends c.args.rule _
          c.requires noted (λ e. no_entry _ (sym past ∙ e.1)) h),
    )
