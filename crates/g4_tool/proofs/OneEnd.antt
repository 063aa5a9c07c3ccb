-- Words have at most one end over the same files.
use Rattle.std.proofs.Common.{◌≡◌, ◌↔◌, ℕ, Bool, List, Option, None, Some, Contains, Result, Ok, Err, ap, sym, ◌∙◌, refl, subst, true≢false}
use Rattle.g4_words.specs.declared.command.Atn.{Atn}
use Rattle.g4_words.specs.declared.command.Check.{Check}
use Rattle.g4_words.specs.declared.command.Command.{Command}
use Rattle.g4_words.specs.declared.command.Command.TheVariants as commands
use Rattle.g4_words.specs.declared.command.Parse.{Parse}
use Rattle.g4_words.proofs.OneCommand.{one_command}
use Rattle.g4_run.specs.Running.{RunOver}
use Rattle.g4_load.proofs.OneBuilt.{one_built, one_listed, one_loaded}
use Rattle.g4_load.specs.declared.interpreter.Interpreter.{Interpreter}
use Rattle.g4_load.specs.declared.stop.Stop.{Stop}
use Rattle.g4_load.specs.declared.stop.Stop.TheVariants as stops
use Rattle.g4_fetch.specs.Files.{Files}
use Rattle.g4_load.specs.Building.{Builds}
use Rattle.g4_load.specs.Usable.{with_flags}
use Rattle.g4_outcome.specs.declared.input.Input.{Input}
use Rattle.g4_outcome.specs.declared.outcome.Outcome.{Outcome}
use Rattle.g4_tool.specs.Cells.{HasManyCells}
use Rattle.g4_tool.specs.Inputs.{inputs_of}
use Rattle.g4_tool.specs.Learned.{IsTold}
use Rattle.g4_tally.specs.declared.tally.Tally.{Tally}
use Rattle.g4_tally.proofs.OneTally.{one_of_both}
use Rattle.g4_outcome.specs.Outcomes.{AreOutcomes}
use Rattle.g4_tool.specs.Ends.{End, stopped, checked, listed, all_parsed, EndsCheck, not_checked, grammar_checked, EndsAtn, not_listed, rule_listed, EndsParse, not_built, many_cells, file_absent, files_parsed, Ends, HasEnd, no_command, of_command}
use Rattle.g4_outcome.proofs.OneOutcome.{one_outcome_each}

-- there is at most one tally
one_told : (asked : Bool) (rows : ℕ) (i : Interpreter) (is : List Input) (a b : Option Tally) → IsTold asked rows i is a
    → IsTold asked rows i is b → a ≡ b
one_told asked rows i is None None h k = refl
one_told asked rows i is None (Some t) h k = absurd (true≢false (sym k.0 ∙ h))
one_told asked rows i is (Some s) None h k = absurd (true≢false (sym h.0 ∙ k))
one_told asked rows i is (Some s) (Some t) h k =
    let same : (over : RunOver) → Contains h.1.0 over ↔ Contains k.1.0 over =
    λ over. (λ one. (k.1.1 over).1 ((h.1.1 over).0 one), λ other. (h.1.1 over).1 ((k.1.1 over).0 other)) in
    ap Some (one_of_both rows i.net h.1.0 k.1.0 same s t h.1.2 k.1.2)

module _ (files : Files) where
  -- `check` has at most one end
  one_check : (check : Check) (a b : End) → EndsCheck files check a → EndsCheck files check b → a ≡ b
  one_check check _ _ (not_checked f s h) (not_checked g t k) =
      let same = one_loaded files check.library check.grammar f g (Err s) (Err t) h k in
      let stop : s ≡ t = cc in ap stopped stop
  one_check check _ _ (not_checked f s h) (grammar_checked g made k) = let same =
      one_loaded files check.library check.grammar f g (Err s) (Ok made) h k in absurd (let no_way : ⊥ = cc in no_way)
  one_check check _ _ (grammar_checked f made h) (not_checked g t k) = let same =
      one_loaded files check.library check.grammar f g (Ok made) (Err t) h k in absurd (let no_way : ⊥ = cc in no_way)
  one_check check _ _ (grammar_checked f made h) (grammar_checked g other k) = let same =
      one_loaded files check.library check.grammar f g (Ok made) (Ok other) h k in let grammar : made ≡ other = cc in ap checked grammar

  -- `atn` has
  one_atn : (atn : Atn) (a b : End) → EndsAtn files atn a → EndsAtn files atn b → a ≡ b
  one_atn atn _ _ (not_listed f s h) (not_listed g t k) =
      let same = one_listed files atn.library atn.grammar atn.rule f g (Err s) (Err t) h k in
      let stop : s ≡ t = cc in ap stopped stop
  one_atn atn _ _ (not_listed f s h) (rule_listed g made k) = let same =
      one_listed files atn.library atn.grammar atn.rule f g (Err s) (Ok made) h k in absurd (let no_way : ⊥ = cc in no_way)
  one_atn atn _ _ (rule_listed f made h) (not_listed g t k) = let same =
      one_listed files atn.library atn.grammar atn.rule f g (Ok made) (Err t) h k in absurd (let no_way : ⊥ = cc in no_way)
  one_atn atn _ _ (rule_listed f made h) (rule_listed g other k) = let same =
      one_listed files atn.library atn.grammar atn.rule f g (Ok made) (Ok other) h k in let listing : made ≡ other = cc in ap listed listing

  module _ (parse : Parse) where
    -- the same interpreter, and the same files
    pub same_built : (f g : List (List ℕ)) (r s : Result Interpreter Stop) → Builds files parse.library parse.grammar parse.start f r
        → Builds files parse.library parse.grammar parse.start g s → r ≡ s
    same_built f g r s h k = one_built files parse.library parse.grammar parse.start f g r s h k

    pub same_inputs : (r s : Result (List Input) (List ℕ)) → inputs_of files parse.files ≡ r → inputs_of files parse.files ≡ s → r ≡ s
    same_inputs r s h k = sym h ∙ k

    -- files that are all parsed
    one_parsed : (i j : Interpreter) (is js : List Input) (os ps : List Outcome) (s t : Option Tally) → j ≡ i → js ≡ is
        → AreOutcomes (with_flags parse.flags i) is os → AreOutcomes (with_flags parse.flags j) js ps
        → IsTold parse.learned parse.rows (with_flags parse.flags i) is s → IsTold parse.learned parse.rows (with_flags parse.flags j) js t
        → all_parsed parse.output (with_flags parse.flags i) parse.files os s
        ≡ all_parsed parse.output (with_flags parse.flags j) parse.files ps t
    one_parsed i j is js os ps s t interpreter inputs h k x y =
        let f = parse.flags in
        let also : AreOutcomes (with_flags f i) is ps =
        subst (λ xs. AreOutcomes (with_flags f i) xs ps) inputs (subst (λ x. AreOutcomes (with_flags f x) js ps) interpreter k) in
        let told : IsTold parse.learned parse.rows (with_flags f i) is t =
        subst (λ xs. IsTold parse.learned parse.rows (with_flags f i) xs t) inputs
        (subst (λ x. IsTold parse.learned parse.rows (with_flags f x) js t) interpreter y) in
        ap (λ x. all_parsed parse.output (with_flags f x) parse.files os s) (sym interpreter)
        ∙ (ap (λ xs. all_parsed parse.output (with_flags f j) parse.files xs s) (one_outcome_each (with_flags f i) is os ps h also)
        ∙ ap (λ x. all_parsed parse.output (with_flags f j) parse.files ps x)
        (one_told parse.learned parse.rows (with_flags f i) is s t x told))

    -- the same cells
    pub same_many : (f g : List (List ℕ)) (i j : Interpreter) → Builds files parse.library parse.grammar parse.start f (Ok i)
        → Builds files parse.library parse.grammar parse.start g (Ok j) → HasManyCells parse.rows i → HasManyCells parse.rows j
    same_many f g i j h k many =
        let same = same_built f g (Ok i) (Ok j) h k in
        let one : i ≡ j = cc in
        subst (λ (x : Interpreter). HasManyCells parse.rows x) one many

    -- `parse` has at most one end
    one_parse : (a b : End) → EndsParse files parse a → EndsParse files parse b → a ≡ b
    one_parse _ _ (not_built f s h) (not_built g t k) = let same = same_built f g (Err s) (Err t) h k in let stop : s ≡ t = cc in
        ap stopped stop
    one_parse _ _ (not_built f s h) (many_cells g j k y) = let same = same_built f g (Err s) (Ok j) h k in
        absurd (let no_way : ⊥ = cc in no_way)
    one_parse _ _ (not_built f s h) (file_absent g j m k y r) = let same = same_built f g (Err s) (Ok j) h k in
        absurd (let no_way : ⊥ = cc in no_way)
    one_parse _ _ (not_built f s h) (files_parsed g j js ps t k y r w v) = let same = same_built f g (Err s) (Ok j) h k in
        absurd (let no_way : ⊥ = cc in no_way)
    one_parse _ _ (many_cells f i h x) (not_built g t k) = let same = same_built f g (Ok i) (Err t) h k in
        absurd (let no_way : ⊥ = cc in no_way)
    one_parse _ _ (many_cells f i h x) (many_cells g j k y) = refl
    one_parse _ _ (many_cells f i h x) (file_absent g j m k y r) =
        absurd (y (same_many f g i j h k x))
    one_parse _ _ (many_cells f i h x) (files_parsed g j js ps t k y r w v) =
        absurd (y (same_many f g i j h k x))
    one_parse _ _ (file_absent f i n h x l) (not_built g t k) = let same = same_built f g (Ok i) (Err t) h k in
        absurd (let no_way : ⊥ = cc in no_way)
    one_parse _ _ (file_absent f i n h x l) (many_cells g j k y) =
        absurd (x (same_many g f j i k h y))
    one_parse _ _ (file_absent f i n h x l) (file_absent g j m k y r) = let same = same_inputs (Err n) (Err m) l r in
        let names : n ≡ m = cc in ap (λ x. stopped (stops.Absent x)) names
    one_parse _ _ (file_absent f i n h x l) (files_parsed g j js ps t k y r w v) = let same = same_inputs (Err n) (Ok js) l r in
        absurd (let no_way : ⊥ = cc in no_way)
    one_parse _ _ (files_parsed f i is os s h x l u z) (not_built g t k) = let same = same_built f g (Ok i) (Err t) h k in
        absurd (let no_way : ⊥ = cc in no_way)
    one_parse _ _ (files_parsed f i is os s h x l u z) (many_cells g j k y) =
        absurd (x (same_many g f j i k h y))
    one_parse _ _ (files_parsed f i is os s h x l u z) (file_absent g j m k y r) = let same = same_inputs (Ok is) (Err m) l r in
        absurd (let no_way : ⊥ = cc in no_way)
    one_parse _ _ (files_parsed f i is os s h x l u z) (files_parsed g j js ps t k y r w v) =
        let built = same_built f g (Ok i) (Ok j) h k in
        let fetched = same_inputs (Ok is) (Ok js) l r in
        let interpreter : j ≡ i = cc in
        let inputs : js ≡ is = cc in
        one_parsed i j is js os ps s t interpreter inputs u w z v

  -- a command has at most one end
  one_of_command : (command : Command) (a b : End) → Ends files command a → Ends files command b → a ≡ b
  one_of_command (commands.Check check) a b h k = one_check check a b h k
  one_of_command (commands.Atn atn) a b h k = one_atn atn a b h k
  one_of_command (commands.Parse parse) a b h k = one_parse parse a b h k

  -- words have at most one end
  pub one_end : (words : List (List ℕ)) (a b : End) → HasEnd files words a → HasEnd files words b → a ≡ b
  one_end words _ _ (no_command n) (no_command o) = refl
  one_end words _ _ (no_command n) (of_command command b is k) = absurd (n command is)
  one_end words _ _ (of_command command a is h) (no_command o) = absurd (o command is)
  one_end words _ _ (of_command command a is h) (of_command other b was k) =
      one_of_command command a b h (subst (λ (c : Command). Ends files c b) (one_command words other command was is) k)
