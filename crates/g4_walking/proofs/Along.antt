-- What is looked at leads on.
use Rattle.std.proofs.Common.{◌≡◌, ℕ, ◌<◌, List, [], ◌∷◌, ◌++◌, sym, ap, ◌∙◌, subst}
use Rattle.g4_walking.specs.declared.numbers.Salt.{Salt}
use Rattle.g4_walking.specs.declared.numbers.Number.{Number}
use Rattle.g4_walking.specs.Numbers.{after, StartsAt, LeadsTo, Leads}
use Rattle.g4_store.specs.declared.automaton.Led.{Led}
use Rattle.g4_store.specs.declared.automaton.Led.TheVariants.{Row}
use Rattle.g4_store.specs.declared.automaton.Plan.{Plan}
use Rattle.g4_store.specs.declared.path.Looked.{Looked}
use Rattle.g4_store.specs.Paths.{LeadsOn, Next}

pub leads_more : (net : Salt) (n : ℕ) (x y z : Number) (ls : List (Looked Number)) (l : Looked Number) → Leads net n x ls y
    → l.column < n → z ≡ after net y l.column → l.led ≡ Row z 0 → Leads net n x (ls ++ l ∷ []) z
leads_more net n x y z [] l h lt is e = (
  lt,
  e ∙ ap (λ (w : Number). Row w 0) (is ∙ ap (λ (w : Number). after net w l.column) (sym h)),
  ap (λ (w : Number). after net w l.column) h ∙ sym is,
)
leads_more net n x y z (k ∷ ks) l h lt is e = (h.0, h.1, leads_more net n (after net x k.column) y z ks l h.2 lt is e)

pub leads_on : (p : Plan Salt) (x y : Number) (ls : List (Looked Number)) → Leads p.net p.columns x ls y → LeadsOn StartsAt LeadsTo p x ls
leads_on p x y [] h = tt
leads_on p x y (l ∷ ls) h = (
  h.0,
  h.1,
  subst
      (λ (led : Led Number). Next StartsAt LeadsTo led (λ z. LeadsOn StartsAt LeadsTo p z ls) (ls ≡ [])) (sym h.1)
      (leads_on p (after p.net x l.column) y ls h.2),
)
