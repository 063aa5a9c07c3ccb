-- What walks and learning leave, as what asking does.
use Rattle.std.proofs.Common.{◌≡◌, ◌⊎◌, ◌+◌, inl, inr, ℕ, List, ◌∷◌, true≢false, drop, length, sym, ◌∙◌, ap, subst, arith}
use Rattle.g4_net.specs.Configurations.{Config}
use Rattle.g4_net.specs.Network.{ParserNetwork}
use Rattle.g4_net.specs.Prediction.{Path, Sll, Verdict}
use Rattle.g4_learned.proofs.Rests.{from_on, word_from}
use Rattle.g4_tokens.specs.declared.token.Token.{Token}
use Rattle.g4_tokens.specs.TokenList.{word_of}
use Rattle.g4_predict.specs.declared.verdict.Verdict as said
use Rattle.g4_predict.specs.Paths.{verdict_of}
use Rattle.g4_store.specs.declared.automaton.Fact.{Fact}
use Rattle.g4_store.specs.declared.automaton.Fact.TheVariants.{Start}
use Rattle.g4_store.specs.declared.automaton.Plan.{Plan}
use Rattle.g4_store.specs.declared.book.Learned.{Learned}
use Rattle.g4_store.specs.declared.book.Learned.TheVariants.{All, Full}
use Rattle.g4_store.specs.declared.path.Looked.{Looked}
use Rattle.g4_store.specs.declared.path.Path as stored
use Rattle.g4_store.specs.Learned.{IsLearned}
use Rattle.g4_store.specs.Numbers.{Among}
use Rattle.g4_store.specs.Known.{KnowsRows}
use Rattle.g4_store.specs.Paths.{HasRow, Learns, cells_of, facts_of}
use Rattle.g4_store.specs.Walks as walks
use Rattle.g4_store.proofs.Lists.{among_either, among_right}
use Rattle.g4_guards.specs.Levels.{AllowedAt}
use Rattle.g4_learned.specs.declared.walk.Walk.{Walk}
use Rattle.g4_learned.specs.declared.walk.Walk.TheVariants.{Ended, NoEdge, NoStart}
use Rattle.g4_learned.proofs.Seeing.{one_passed}
use Rattle.g4_learned.specs.Stored.{ArePassed, IsPlan, IsStored}
use Rattle.g4_learned.specs.Tables.{Tables}
use Rattle.g4_learned.specs.Walks.{Loads, Walks}
use Rattle.g4_decide.specs.Asked.{Asked, HasSeen, KeepsToPath, Told}

module _ (p : Plan Tables) (d condition : ℕ) (word : List ℕ) where
  -- a walk keeps what there was
  pub walk_keeps : (old new : Told) (walk : Walk) → Walks p d condition word old.0 new.0 walk → walks.Keeps old.0 new.0
      → KeepsToPath p d condition word old new
  walk_keeps old new walk walked kept =
      record {
        seen = walked.kept;
        within = walked.within;
        taught = λ f told. subst (λ (fs : List (Fact (List Config))). Among f fs) (sym kept.taught) told;
        teaches = λ v facts passed f told. inl (subst (λ (fs : List (Fact (List Config))). Among f fs) kept.taught told);
        known = kept.known;
        holds = kept.holds;
        count = kept.count;
      }

  -- one that ended has asked
  pub walk_asks : (old new : Told) (v : said.Verdict) (k : ℕ) → Walks p d condition word old.0 new.0 (Ended v k) → new.1 ≡ old.1
      → KnowsRows p.rows new → Asked p d condition word (verdict_of v) old new
  walk_asks old new v k walked same rows =
      let (facts, passed, saw, count) = walked.verdict in
      record {
        facts = facts;
        passed = passed;
        some = λ f among within. (saw f).1 (inr among);
        whole = λ room f among. (saw f).1 (inr among);
        missing = λ room none. absurd (true≢false (sym none ∙ (same ∙ room)));
        stays_full = λ none. same ∙ none;
        rows = rows;
      }

  -- and where all was seen it ends, with as many loads
  pub walk_loads : (old new : Told) (before after : ℕ) (walk : Walk) → Walks p d condition word old.0 new.0 walk → Loads before after walk
      → (v : Verdict) (facts : List (Fact (List Config))) → HasSeen p d condition word old v facts → after ≡ before + length facts
  walk_loads old new before after (Ended u k) walked loads v facts (passed, seen) =
      let came = (walked.learned v facts passed seen).1 in omega (arith, loads)
  walk_loads old new before after NoStart walked loads v facts (passed, seen) = absurd (walked.learned v facts passed seen)
  walk_loads old new before after (NoEdge row at) walked loads v facts (passed, seen) = absurd (walked.learned v facts passed seen)

  pub never_no_start : (old new : Told) → Walks p d condition word old.0 new.0 NoStart → (v : Verdict) (facts : List (Fact (List Config)))
      → HasSeen p d condition word old v facts → ⊥
  never_no_start old new walked v facts (passed, seen) = walked.learned v facts passed seen

  pub never_no_edge : (old new : Told) (row at : ℕ) → Walks p d condition word old.0 new.0 (NoEdge row at) → (v : Verdict)
      (facts : List (Fact (List Config))) → HasSeen p d condition word old v facts → ⊥
  never_no_edge old new row at walked v facts (passed, seen) = walked.learned v facts passed seen

  -- Some of the words of SLL's path are learned, and the others were seen before.
  module _ (plan : IsPlan p) (v : Verdict) (facts : List (Fact (List Config))) (passed : ArePassed p.net d condition word v facts)
      (some : List (Fact (List Config))) (of_path : (f : Fact (List Config)) → Among f some → Among f facts) where
    -- what learning them leaves
    learns_keeps : (old mid new : Told) → KeepsToPath p d condition word old mid → Learns some mid.0 new.0
        → KeepsToPath p d condition word old new
    learns_keeps old mid new kept learns = record {
      seen = λ f seen. (learns.seen f).1 (inl (kept.seen f seen));
      within = λ u facts' other f seen. elim ((learns.seen f).0 seen) [
        | inl before ↦ kept.within u facts' other f before
        | inr now ↦ inr
            (subst (λ (gs : List (Fact (List Config))). Among f gs)
            (one_passed p plan d condition word v u facts facts' passed other).1 (of_path f now.0))
      ];
      taught = λ f told. subst (λ (fs : List (Fact (List Config))). Among f fs) (sym learns.taught)
          (among_right f learns.stored mid.0.taught (kept.taught f told));
      teaches = λ u facts' other f told.
          elim (among_either f learns.stored mid.0.taught (subst (λ (fs : List (Fact (List Config))). Among f fs) learns.taught told)) [
            | inl now ↦ inr
                (subst (λ (gs : List (Fact (List Config))). Among f gs)
                (one_passed p plan d condition word v u facts facts' passed other).1 (of_path f (learns.stores f now).0))
            | inr before ↦ kept.teaches u facts' other f before
          ];
      known = λ t y known. learns.known_kept t y (kept.known t y known);
      holds = learns.holds ∙ kept.holds;
      count = learns.count ∙ kept.count;
    }

    pub learned_keeps : (old mid new : Told) (learned : Learned) → KeepsToPath p d condition word old mid
        → IsLearned p.rows some mid new learned → KeepsToPath p d condition word old new
    learned_keeps old mid new All kept (all, same) = learns_keeps old mid new kept all.learns
    learned_keeps old mid new Full kept (part, full) = learns_keeps old mid new kept part.learns

    -- a row of what is learned is one of the path
    row_of : (y : List Config) → HasRow some y → HasRow facts y
    row_of y (f, among, is) = (f, of_path f among, is)

    -- and it has asked
    pub learned_asks : (old mid new : Told) (learned : Learned)
        → ((f : Fact (List Config)) → Among f facts → Among f mid.0.seen ⊎ Among f some) → mid.1 ≡ old.1
        → IsLearned p.rows some mid new learned → KnowsRows p.rows new → Asked p d condition word v old new
    learned_asks old mid new All all_of same (all, stays) rows = record {
      facts = facts;
      passed = passed;
      some = λ f among within. elim (all_of f among) [
        | inl before ↦ (all.learns.seen f).1 (inl before)
        | inr now ↦ (all.learns.seen f).1 (inr (now, within))
      ];
      whole = λ room f among. elim (all_of f among) [
        | inl before ↦ (all.learns.seen f).1 (inl before)
        | inr now ↦ (all.learns.seen f).1 (inr (now, all.whole f now))
      ];
      missing = λ room none. absurd (true≢false (sym none ∙ (stays ∙ (same ∙ room))));
      stays_full = λ none. stays ∙ (same ∙ none);
      rows = rows;
    }
    learned_asks old mid new Full all_of same (part, full) rows = record {
      facts = facts;
      passed = passed;
      some = λ f among within. elim (all_of f among) [
        | inl before ↦ (part.learns.seen f).1 (inl before)
        | inr now ↦ (part.learns.seen f).1 (inr (now, within))
      ];
      whole = λ room f among. absurd (true≢false (sym full ∙ room));
      missing = λ room none. let (y, has, unknown) = part.missing in (y, row_of y has, unknown);
      stays_full = λ none. full;
      rows = rows;
    }

  -- the words of a path that is stored are those of SLL's path
  pub stored_passed : (path : Path) (v : Verdict) → Sll p.net.net d (AllowedAt p.net.net d condition) word v path
      → (q : stored.Path (List Config)) → IsStored p.net d condition path q → ArePassed p.net d condition word v (facts_of q)
  stored_passed path v sll q is = record {
    path = path;
    sll = sll;
    start = q.start;
    is_start = is.start;
    are =
        ap (λ (x : List Config). Start q.start x ∷ cells_of x q.looked.items) is.content
        ∙ ap (λ (ls : List (Looked (List Config))). Start q.start path.start ∷ cells_of path.start ls) is.looked;
  }

-- what SLL says of the tokens from a place on, in the network of the plan
pub said_on : (net own : ParserNetwork) (d e condition from : ℕ) (tokens : List Token) (v : Verdict) (path : Path) → net ≡ own → e ≡ d
    → Sll net d (AllowedAt net d condition) (word_of (from_on from tokens)) v path
    → Sll own e (AllowedAt own e condition) (drop from (word_of tokens)) v path
said_on net own d e condition from tokens v path same is sll =
    subst (λ (w : List ℕ). Sll own e (AllowedAt own e condition) w v path) (word_from from tokens)
    (subst (λ (n : ParserNetwork). Sll n e (AllowedAt n e condition) (word_of (from_on from tokens)) v path) same
    (subst (λ (k : ℕ). Sll net k (AllowedAt net k condition) (word_of (from_on from tokens)) v path) (sym is) sll))
