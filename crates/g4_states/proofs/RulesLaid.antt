-- Rules that are laid.
use Rattle.std.proofs.Common.{◌≡◌, ◌≢◌, ℕ, ◌+◌, ◌<◌, ◌≤◌, ◌⊎◌, inl, inr, List, [], ◌∷◌, ◌++◌, length, refl, sym, ◌∙◌, ap, subst, arith, slice_get, append_assoc}
use Rattle.std.proofs.Math.ListN.{set}
use Rattle.std.proofs.lemmas.List.{length-set, append-nil}
use Rattle.std.proofs.lemmas.List.Sums.{sum_by-cons}
use Rattle.g4_source.specs.Elements.{Elements, Alternatives, only}
use Rattle.g4_grammar.specs.declared.step.Step.{Step}
use Rattle.g4_net.specs.declared.network.Network.{Network}
use Rattle.g4_net.specs.declared.network.State.{State}
use Rattle.g4_net.specs.declared.network.State.TheVariants.{Decision, Empty}
use Rattle.g4_net.specs.Network.{start_of, end_of}
use Rattle.g4_layout.specs.Layout as lay
use Rattle.g4_layout.specs.Layout.{LieInOrder, LieSideBySide, RulesLie}
use Rattle.g4_layout.specs.Size.{states_in_order, states_of_bodies, states_of_rule}
use Rattle.g4_states.specs.Drafts.{linked, AreLaid, AreBeside}
use Rattle.g4_states.specs.Rules.{SharesRule, RuleIsLaid, IsBefore, SharesRules, HaveLaid, ends_from}
use Rattle.g4_states.proofs.Lists.{get_set_same, get_set_other}
use Rattle.g4_states.proofs.Drafts.{IsClosed, closing_of, has_closed, closed_grows}

module _ {L : Type 0} where
  -- a rule of one alternative is laid
  pub lone_rule : (old mid new : List (State L)) (rule last : ℕ) (x : Elements (Step L)) → start_of rule < length old
      → AreLaid old mid (start_of rule) last x → new ≡ set mid last (Empty (end_of rule)) →
      RuleIsLaid old new rule (only x)
  lone_rule old mid new rule last x below laid is =
      let longer : length mid ≡ length old + states_in_order x = laid.size in
      let size : length new ≡ length mid = ap length is ∙ length-set mid last (Empty (end_of rule)) in
      let within : last < length mid = laid.within in
      record {
        size = omega arith;
        grown = λ p less ne. other p (λ e. apart p e less ne) ∙ laid.grown p less ne;
        lies = λ net shares. lay.of_one rule last (length old) (length new) x
            (subst (λ (m : ℕ). LieInOrder net x (start_of rule) last (length old) m) (sym size)
            (laid.lie net (λ p place less ne. shares p place (omega arith) ∙ other p ne)))
            (shares last laid.after (omega arith) ∙ (at last ∙ get_set_same mid last (Empty (end_of rule)) within));
      }
    where
      at : (p : ℕ) → slice_get new p ≡ slice_get (set mid last (Empty (end_of rule))) p
      at p = ap (λ (xs : List (State L)). slice_get xs p) is

      other : (p : ℕ) → p ≢ last → slice_get new p ≡ slice_get mid p
      other p ne = at p ∙ get_set_other mid last p (Empty (end_of rule)) ne

      apart : (p : ℕ) → p ≡ last → p < length old → p ≢ start_of rule → ⊥
      apart p e less ne = elim laid.after [ inl same ↦ ne (e ∙ same) | inr low ↦ omega arith ]

  -- a rule of several alternatives is laid
  pub several_rule : (old mid new : List (State L)) (rule : ℕ) (firsts lasts : List ℕ) (xs : Alternatives (Step L))
      → start_of rule < length old → AreBeside old mid firsts lasts xs → 2 ≤ length firsts →
      states_of_rule xs ≡ states_of_bodies xs → new ≡ linked (end_of rule) lasts (set mid (start_of rule) (Decision firsts))
      → RuleIsLaid old new rule xs
  several_rule old mid new rule firsts lasts xs below laid several count is =
      let longer : length mid ≡ length old + states_of_bodies xs = laid.size in
      let d : State L = Decision firsts in
      let closing : IsClosed mid new (start_of rule) d lasts (end_of rule) [] =
      closing_of mid (start_of rule) d lasts (end_of rule) [] (omega arith)
      (λ p h. (omega (arith, (laid.inside p h).0), (laid.inside p h).1)) new (is ∙ sym (append-nil _)) in
      let size : length new ≡ length mid + 0 = closing.size in
      record {
        size = omega arith;
        grown = closed_grows old mid new (start_of rule) d firsts lasts xs (end_of rule) [] laid closing;
        lies = λ net shares.
            let has = has_closed net old mid new (start_of rule) d firsts lasts xs (end_of rule) [] (length mid) below laid closing
            (omega arith) (λ p place less ne. shares p place less) in
            let same_size : length mid ≡ length new = omega arith in
            lay.of_several rule (length old) (length new) xs firsts lasts several has.start
            (subst (λ (m : ℕ). LieSideBySide net xs firsts lasts (length old) m) same_size has.sides) has.leads;
      }

  -- no rule is laid
  pub none_have : (first : ℕ) (old : List (State L)) (all : List (Alternatives (Step L))) → HaveLaid first old old first all all
  none_have first old all = record { size = refl; longer = omega arith; kept = λ p less apart. refl; lie = λ net shares ends m lie. lie }

  -- one more rule is laid
  pub more_have : (first : ℕ) (old now new : List (State L)) (rule next : ℕ) (all rest : List (Alternatives (Step L)))
      (r : Alternatives (Step L)) → first ≤ rule → next ≡ rule + 1 → rule < first + length all → start_of rule + 2 ≤ length old →
      HaveLaid first old now rule all (r ∷ rest) → RuleIsLaid now new rule r → HaveLaid first old new next all rest
  more_have first old now new rule next all rest r low up high room so_far one =
      let longer : length old ≤ length now = so_far.longer in
      let total = so_far.size in
      let count = sum_by-cons states_of_rule r rest in
      let grows : length new ≡ length now + states_of_rule r = one.size in
      record {
        size = omega arith;
        longer = omega arith;
        kept = λ p less apart. one.grown p (omega arith) (apart rule low (omega arith))
            ∙ so_far.kept p less (λ j from below. apart j from (omega arith));
        lie = λ net shares ends m lie.
            so_far.lie net (before net shares) ends m
            (lay.a_rule rule (length now) (length new) m r rest (one.lies net (here net shares)) (ends rule low high)
            (subst (λ (k : ℕ). RulesLie net k rest (length new) m) up lie));
      }
    where
      before : (net : Network L) → SharesRules net new next (length old) → SharesRules net now rule (length old)
      before net shares p place less = let longer = so_far.longer in let grows = one.size in
          shares p (wider p place) (omega arith) ∙ one.grown p less (off p place)
        where
          wider : (p : ℕ) → IsBefore rule (length old) p → IsBefore next (length old) p
          wider p (inl h) = inl (omega arith)
          wider p (inr h) = inr h

          off : (p : ℕ) → IsBefore rule (length old) p → p ≢ start_of rule
          off p (inl h) e = omega arith
          off p (inr h) e = omega arith

      here : (net : Network L) → SharesRules net new next (length old) → SharesRule net new rule (length now)
      here net shares p place less = shares p (inside p place) less
        where
          inside : (p : ℕ) → (p ≡ start_of rule) ⊎ (length now ≤ p) → IsBefore next (length old) p
          inside p (inl e) = inl (omega arith)
          inside p (inr h) = let longer = so_far.longer in inr (omega arith)

-- the next rule's states end where the states then made end
pub next_end : {A : Type 0} (done pushed all : List ℕ) (n m : ℕ) (r : Alternatives A) (rest : List (Alternatives A))
    → done ++ ends_from n (r ∷ rest) ≡ all → m ≡ n + states_of_rule r → pushed ≡ done ++ m ∷ [] →
    pushed ++ ends_from m rest ≡ all
next_end done pushed all n m r rest so_far is push =
    ap (λ (xs : List ℕ). xs ++ ends_from m rest) push
    ∙ (append_assoc done (m ∷ []) (ends_from m rest) ∙ (ap (λ (k : ℕ). done ++ k ∷ ends_from k rest) is ∙ so_far))
