use Rattle.std.proofs.Common.{refl, subst}
use Rattle.g4_cursor.proofs.Moving.{so, refuses, taken_as}
use Rattle.g4_grammar_tokens.specs.declared.token.Kind.TheVariants as kinds
use Rattle.g4_productions.specs.Answering.{HasNext}
use Rattle.g4_productions.proofs.NextSets.{seen, bad_next, good_next, set_taken}
use Rattle.g4_productions.proofs.set.take_set.Goals as goal

pub returns-in-Some : goal.returns-in-Some
returns-in-Some c =
    let has = subst (λ o. HasNext o c.args.cursor.now) c.in-Some.is c.requires.next in
    so (seen kinds.Set _ _ has.bytes (λ token. refl) has.next
    (taken_as _ _ (λ token. refl) (good_next _ c.in-Some.set has) c.take.ensures)) (λ tree p. set_taken c.in-Some.set _ tree has p)

pub returns-in-None : goal.returns-in-None
returns-in-None c = refuses _ _ (bad_next _ (subst (λ o. HasNext o c.args.cursor.now) c.in-None.is c.requires.next)) c.refuse.ensures
