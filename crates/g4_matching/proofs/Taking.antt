-- What the loop of an expansion keeps, of the entries.
use Rattle.std.proofs.Common.{◌≡◌, ℕ, ◌<◌, inl, List, [], ◌∷◌, ◌++◌, Bool, refl, sym, ◌∙◌, ap, subst, arith}
use Rattle.std.proofs.lemmas.List.{map-append}
use Rattle.g4_ordered.specs.Network.{LexerNetwork, IsLexable}
use Rattle.g4_ordered.specs.Configurations.{LexerConfig, In}
use Rattle.g4_ordered.specs.Leads.{leads}
use Rattle.g4_ordered.specs.Lists.{IsDropped, late_in}
use Rattle.g4_ordered.proofs.Ending.{EndsWithin, steps_of, end_within}
use Rattle.g4_ordered.proofs.Lists.{In-left, In-right}
use Rattle.g4_matching.specs.declared.entry.Entry.{Entry}
use Rattle.g4_matching.specs.declared.waiting.Waiting.{Waiting}
use Rattle.g4_matching.specs.declared.expanding.Expanding.{Expanding}
use Rattle.g4_matching.specs.Entries.{AreKnown, IsKnown, config_of, configs_of, stacked}
use Rattle.g4_matching.specs.Ends.{AreEnds}
use Rattle.g4_matching.specs.Returns.{Grows}
use Rattle.g4_matching.specs.Waiting.{Adds}
use Rattle.g4_matching.specs.Expanding.{waiting_of, all_of, IsSound, TakesIn, IsExpansion}
use Rattle.g4_matching.proofs.Known.{grown_known, grown_config, grown_configs, known_both, known_one, on_top}
use Rattle.g4_matching.proofs.Stores.{grows_on}
use Rattle.g4_matching.proofs.Totals.{total, total_append, size}
use Rattle.g4_matching.proofs.Spreading.{Spreading, begins, passes_over, takes_in, ended, late_lasts, size_weighs}

-- an entry is taken in, where what it leads to is put on top and it is appended
pub taken_in : (net : LexerNetwork) (last : Bool) (entry : Entry) (old new : Expanding) (w : Waiting) → IsSound net old
    → IsKnown old.waiting.returns entry → Adds old.waiting w (leads net last (config_of old.waiting.returns entry))
    → new.waiting ≡ w → new.all ≡ old.all ++ entry ∷ [] → AreEnds net (old.all ++ entry ∷ []) new.ends → TakesIn net last entry old new
taken_in net last entry old new w sound known adds is_w is_all ends = record {
  sound = record {
    waiting = subst (λ (v : Waiting). AreKnown v.returns v.entries.items) (sym is_w) adds.known;
    listed = subst (λ (v : Waiting). AreKnown v.returns new.all) (sym is_w) (subst (AreKnown w.returns) (sym is_all) both);
    ends = subst (λ (l : List Entry). AreEnds net l new.ends) (sym is_all) ends;
  };
  grows = subst (λ (v : Waiting). Grows old.waiting.returns v.returns) (sym is_w) adds.grows;
  appended = ap (λ (v : Waiting). configs_of v.returns new.all) is_w ∙ ap (configs_of w.returns) is_all
      ∙ map-append (config_of w.returns) old.all (entry ∷ [])
      ∙ ap (λ (l : List LexerConfig). l ++ config_of w.returns entry ∷ [])
      (grown_configs old.waiting.returns w.returns old.all adds.grows sound.listed)
      ∙ ap (λ (c : LexerConfig). configs_of old.waiting.returns old.all ++ c ∷ [])
      (grown_config old.waiting.returns w.returns entry adds.grows known);
  leading = ap waiting_of is_w ∙ adds.on_top;
}
  where
    both : AreKnown w.returns (old.all ++ entry ∷ [])
    both = known_both w.returns old.all (entry ∷ [])
        (λ e i. grown_known old.waiting.returns w.returns e adds.grows (sound.listed e i))
        (known_one w.returns entry (grown_known old.waiting.returns w.returns entry adds.grows known))

-- the entry is taken off the stack
pub record Popped (old : Expanding) (entry : Entry) (new : Expanding) : Type 0 where
  pub items : old.waiting.entries.items ≡ new.waiting.entries.items ++ entry ∷ []
  pub returns : new.waiting.returns ≡ old.waiting.returns
  pub all : new.all ≡ old.all
  pub ends : new.ends ≡ old.ends

-- it was on top
popped_waiting : (old new : Expanding) (entry : Entry) → Popped old entry new
    → waiting_of old.waiting ≡ config_of new.waiting.returns entry ∷ waiting_of new.waiting
popped_waiting old new entry p =
    ap (configs_of old.waiting.returns) (on_top new.waiting.entries.items old.waiting.entries.items entry p.items)
    ∙ ap (λ (l : List (List ℕ)). config_of l entry ∷ stacked l new.waiting.entries.items) (sym p.returns)

-- the others stay
popped_all : (old new : Expanding) (entry : Entry) → Popped old entry new → all_of new ≡ all_of old
popped_all old new entry p = ap (λ (l : List Entry). configs_of new.waiting.returns l) p.all
    ∙ ap (λ (l : List (List ℕ)). configs_of l old.all) p.returns

-- and all stay sound
pub popped_sound : (net : LexerNetwork) (old new : Expanding) (entry : Entry) → IsSound net old → Popped old entry new → IsSound net new
popped_sound net old new entry sound p = record {
  waiting = subst (λ (l : List (List ℕ)). AreKnown l new.waiting.entries.items) (sym p.returns)
      (λ e i. sound.waiting e (subst (In e) (sym p.items) (In-left new.waiting.entries.items (entry ∷ []) e i)));
  listed = subst (λ (l : List (List ℕ)). AreKnown l new.all) (sym p.returns)
      (subst (AreKnown old.waiting.returns) (sym p.all) sound.listed);
  ends = subst (λ (l : List Entry). AreEnds net l new.ends) (sym p.all) (subst (AreEnds net old.all) (sym p.ends) sound.ends);
}

-- its return states are in the store
pub popped_known : (net : LexerNetwork) (old new : Expanding) (entry : Entry) → IsSound net old → Popped old entry new
    → IsKnown new.waiting.returns entry
popped_known net old new entry sound p = subst (λ (l : List (List ℕ)). IsKnown l entry) (sym p.returns)
    (sound.waiting entry (subst (In entry) (sym p.items) (In-right new.waiting.entries.items (entry ∷ []) entry (inl refl))))

-- what the loop keeps
pub record Going (net : LexerNetwork) (last in_step : Bool) (starts : List LexerConfig) (x : Expanding) : Type 0 where
  pub sound : IsSound net x
  pub spreading : Spreading net last (size net last (steps_of net starts)) (EndsWithin net last (steps_of net starts))
      (late_in net in_step) starts (all_of x) (waiting_of x.waiting)

-- how much is left to go through
abbrev pub left : LexerNetwork → Bool → List LexerConfig → Expanding → ℕ
left net last starts x = total (size net last (steps_of net starts)) (waiting_of x.waiting)

module _ (net : LexerNetwork) (last in_step : Bool) (starts : List LexerConfig) where
  -- it begins with the starts
  pub going_begins : (x : Expanding) → IsLexable net → AreKnown x.waiting.returns x.waiting.entries.items
      → waiting_of x.waiting ≡ starts → x.all ≡ [] → Going net last in_step starts x
  going_begins x lexable known is none = record {
    sound = record {
      waiting = known;
      listed = subst (AreKnown x.waiting.returns) (sym none) (λ e i. absurd i);
      ends = subst (λ (l : List Entry). AreEnds net l x.ends) (sym none) (λ k e at end. absurd (cc));
    };
    spreading =
        subst (λ (l : List Entry). Spreading net last (size net last (steps_of net starts))
        (EndsWithin net last (steps_of net starts)) (late_in net in_step) starts (configs_of x.waiting.returns l)
        (waiting_of x.waiting)) (sym none)
        (subst (Spreading net last (size net last (steps_of net starts)) (EndsWithin net last (steps_of net starts))
        (late_in net in_step) starts []) (sym is)
        (begins net last (size net last (steps_of net starts)) (EndsWithin net last (steps_of net starts)) (late_in net in_step)
        starts (end_within net last lexable starts)));
  }

  -- with the entry off the stack
  popped_spreading : (old new : Expanding) (entry : Entry) → Popped old entry new → Going net last in_step starts old
      → Spreading net last (size net last (steps_of net starts)) (EndsWithin net last (steps_of net starts)) (late_in net in_step)
      starts (all_of new) (config_of new.waiting.returns entry ∷ waiting_of new.waiting)
  popped_spreading old new entry p h =
      subst (λ (l : List LexerConfig). Spreading net last (size net last (steps_of net starts))
      (EndsWithin net last (steps_of net starts)) (late_in net in_step) starts l
      (config_of new.waiting.returns entry ∷ waiting_of new.waiting)) (sym (popped_all old new entry p))
      (subst (Spreading net last (size net last (steps_of net starts)) (EndsWithin net last (steps_of net starts))
      (late_in net in_step) starts (all_of old)) (popped_waiting old new entry p) h.spreading)

  -- an entry that is dropped
  pub going_over : (old new : Expanding) (entry : Entry) → Popped old entry new
      → IsDropped (late_in net in_step) (all_of new) (config_of new.waiting.returns entry) → Going net last in_step starts old
      → Going net last in_step starts new
  going_over old new entry p drop h = record {
    sound = popped_sound net old new entry h.sound p;
    spreading = passes_over net last (size net last (steps_of net starts)) (EndsWithin net last (steps_of net starts))
        (late_in net in_step) starts (all_of new) (waiting_of new.waiting) (config_of new.waiting.returns entry)
        (size_weighs net last (steps_of net starts)) (late_lasts net last in_step)
        drop (popped_spreading old new entry p h);
  }

  -- an entry that is taken in
  pub going_in : (old mid new : Expanding) (entry : Entry) → Popped old entry mid
      → (IsDropped (late_in net in_step) (all_of mid) (config_of mid.waiting.returns entry) → ⊥) → TakesIn net last entry mid new
      → Going net last in_step starts old → Going net last in_step starts new
  going_in old mid new entry p fresh taken h = record {
    sound = taken.sound;
    spreading =
        subst (λ (l : List LexerConfig). Spreading net last (size net last (steps_of net starts))
        (EndsWithin net last (steps_of net starts)) (late_in net in_step) starts l (waiting_of new.waiting)) (sym taken.appended)
        (subst (Spreading net last (size net last (steps_of net starts)) (EndsWithin net last (steps_of net starts))
        (late_in net in_step) starts (all_of mid ++ config_of mid.waiting.returns entry ∷ [])) (sym taken.leading)
        (takes_in net last (size net last (steps_of net starts)) (EndsWithin net last (steps_of net starts)) (late_in net in_step)
        starts (all_of mid) (waiting_of mid.waiting) (config_of mid.waiting.returns entry)
        (size_weighs net last (steps_of net starts)) fresh (popped_spreading old mid entry p h)));
  }

  -- either way less is left
  pub over_less : (old new : Expanding) (entry : Entry) → Popped old entry new → Going net last in_step starts old
      → left net last starts new < left net last starts old
  over_less old new entry p h =
      let w = ap (total (size net last (steps_of net starts))) (popped_waiting old new entry p) in
      let m = (size_weighs net last (steps_of net starts)).more (config_of new.waiting.returns entry)
      ((popped_spreading old new entry p h).good (config_of new.waiting.returns entry) (inl refl)) in
      omega arith

  -- also where the entry is taken in
  pub in_less : (old mid new : Expanding) (entry : Entry) → Popped old entry mid → TakesIn net last entry mid new
      → Going net last in_step starts old → left net last starts new < left net last starts old
  in_less old mid new entry p taken h =
      let w = ap (total (size net last (steps_of net starts))) (popped_waiting old mid entry p) in
      let m = (size_weighs net last (steps_of net starts)).more (config_of mid.waiting.returns entry)
      ((popped_spreading old mid entry p h).good (config_of mid.waiting.returns entry) (inl refl)) in
      let v = ap (total (size net last (steps_of net starts))) taken.leading
      ∙ total_append (size net last (steps_of net starts)) (leads net last (config_of mid.waiting.returns entry))
      (waiting_of mid.waiting) in
      omega arith

  -- and when nothing waits the list has all
  pub going_ended : (x : Expanding) → x.waiting.entries.items ≡ [] → Going net last in_step starts x
      → IsExpansion net last in_step starts (all_of x)
  going_ended x none h =
      let empty : waiting_of x.waiting ≡ [] = ap (stacked x.waiting.returns) none in
      let r = ended net last (size net last (steps_of net starts)) (EndsWithin net last (steps_of net starts)) (late_in net in_step)
      starts (all_of x)
      (subst (Spreading net last (size net last (steps_of net starts)) (EndsWithin net last (steps_of net starts))
      (late_in net in_step) starts (all_of x)) empty h.spreading) in
      record { expansion = r.0; expands = r.1; appends = r.2 }

-- the store grew until the entry was taken off, which leaves it, and grows as the entry is taken in
pub grown_in : (net : LexerNetwork) (last : Bool) (first : List (List ℕ)) (old mid new : Expanding) (entry : Entry)
    → Popped old entry mid → TakesIn net last entry mid new → Grows first old.waiting.returns → Grows first new.waiting.returns
grown_in net last first old mid new entry p taken g =
    grows_on first mid.waiting.returns new.waiting.returns (subst (Grows first) (sym p.returns) g) taken.grows
