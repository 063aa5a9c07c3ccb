use Rattle.g4_stacks.proofs.keeping.keeps_is_transitive.Goals as goal

pub returns : goal.returns
returns c = λ a b d first second n known.
    let l = first n known in
    let r = second n l.0 in
    (r.0, λ s. ((λ h. (r.1 s).0 ((l.1 s).0 h)), (λ h. (l.1 s).1 ((r.1 s).1 h))))
