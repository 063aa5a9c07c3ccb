-- What a walk along columns answers, as that of a decision.
use Rattle.std.proofs.Common.{◌≡◌, ◌<◌, ◌+◌, ◌^◌, ◌⊎◌, inl, inr, ℕ, zero, suc, List, All, drop, length, refl, sym, subst, arith}
use Rattle.std.proofs.lemmas.List.Elements.{All-drop}
use Rattle.g4_tokens.specs.declared.token.Token.{Token}
use Rattle.g4_tokens.specs.TokenList.{EndsInEnd, word_of}
use Rattle.g4_net.specs.Configurations.{Config}
use Rattle.g4_classes.specs.Classes.{IsSymbol}
use Rattle.g4_net.specs.Prediction as said
use Rattle.g4_predict.specs.declared.verdict.Verdict.{Verdict}
use Rattle.g4_predict.specs.Paths.{verdict_of}
use Rattle.g4_learned.proofs.Rests.{ends_ahead, from_on, word_from}
use Rattle.g4_store.specs.declared.automaton.Fact.{Fact}
use Rattle.g4_store.specs.declared.automaton.Plan.{Plan}
use Rattle.g4_store.specs.declared.view.View.{View}
use Rattle.g4_store.specs.declared.walk.Walk as way
use Rattle.g4_store.specs.declared.walk.Walk.TheVariants as along
use Rattle.g4_store.specs.Numbers.{Among}
use Rattle.g4_store.specs.Walks.{SeenTo}
use Rattle.g4_store.proofs.Seen.{came_within}
use Rattle.g4_learned.specs.Automata.{LeadsTo, StartsAt, code_of, verdict_at}
use Rattle.g4_learned.specs.Stored.{ArePassed, IsPlan, columns_of}
use Rattle.g4_learned.specs.Tables.{IsStartOf, Tables}
use Rattle.g4_learned.specs.Unique.{one_led, one_start}
use Rattle.g4_learned.specs.Walks.{IsVerdict, StopsAt, WalkedAlong, WalkedTo, Walks}
use Rattle.g4_learned.specs.declared.walk.Walk.{Walk}
use Rattle.g4_learned.specs.declared.walk.Walk.TheVariants.{Ended, NoEdge, NoStart}
use Rattle.g4_learned.proofs.Seeing.{IsWay, one_passed, sll_way}
use Rattle.g4_learned.proofs.Telling.{not_open, walked_says}

module _ (p : Plan Tables) (d condition i : ℕ) (word : List ℕ) (old new : View (List Config)) (start : IsStartOf p.net d condition i) where
  -- what is seen to an end, the walk comes to
  abbrev pub Learned : way.Walk → Type 0
  Learned walk = (k code : ℕ) → SeenTo StartsAt LeadsTo p i (columns_of p.net word) k code old → walk ≡ along.End code k

  same_end : (code k code' k' : ℕ) → along.End code k ≡ along.End code' k' → (code ≡ code') × (k ≡ k')
  same_end code k code' k' e = let one : code ≡ code' = cc in let two : k ≡ k' = cc in (one, two)

  -- where the words of SLL's path were seen, they are those of a way that was seen to an end
  seen_to : IsPlan p → All IsSymbol word → (v : said.Verdict) (facts : List (Fact (List Config))) → ArePassed p.net d condition word v facts
      → ((f : Fact (List Config)) → Among f facts → Among f old.seen)
      → (k : ℕ) × SeenTo StartsAt LeadsTo p i (columns_of p.net word) k (code_of v) old × (length facts ≡ k + 2)
  seen_to plan symbols v facts passed seen =
      let way = sll_way p d condition i word v facts old plan symbols passed start in (
        way.k,
        record {
          y = way.y;
          facts = way.before;
          within = way.within;
          came = way.came;
          leads_so = way.leads;
          seen = λ f among. seen f (subst (λ (gs : List (Fact (List Config))). Among f gs) (sym way.are) among);
        },
        way.count,
      )

  pub ended : (code k : ℕ) (v : Verdict) → IsPlan p → All IsSymbol word → WalkedAlong p i word old new (along.End code k)
      → verdict_of v ≡ verdict_at code k → Learned (along.End code k) → Walks p d condition word old new (Ended v k)
  ended code k v plan symbols walked is learned =
      let (facts, passed, saw, count) = (walked_says p.net p refl d condition i code k word old new start symbols walked).1 in
      let passed' : ArePassed p.net d condition word (verdict_of v) facts =
      subst (λ (u : said.Verdict). ArePassed p.net d condition word u facts) (sym is) passed in
      record {
        start = i;
        is_start = start;
        walked = (code, is, walked);
        verdict = (facts, passed', saw, count);
        kept = λ f seen. (saw f).1 (inl seen);
        within = λ u facts' other f seen.
            let same = (one_passed p plan d condition word (verdict_of v) u facts facts' passed' other).1 in
            subst (λ (gs : List (Fact (List Config))). Among f old.seen ⊎ Among f gs) same ((saw f).0 seen);
        learned = λ u facts' other seen.
            let (k', to, count') = seen_to plan symbols u facts' other seen in
            let at = (same_end code k (code_of u) k' (learned k' (code_of u) to)).1 in
            ((one_passed p plan d condition word (verdict_of v) u facts facts' passed' other).0, omega arith);
      }

  -- a walk that stops has seen no words but those of a way
  stopped_within : (k : ℕ) → WalkedAlong p i word old new (along.NotLearned k) → (v : said.Verdict) (facts : List (Fact (List Config)))
      → IsWay p i word v facts old → (f : Fact (List Config)) → Among f new.seen → Among f old.seen ⊎ Among f facts
  stopped_within zero (none, saw, last) v facts way f seen = elim ((saw f).0 seen) [ inl before ↦ inl before | inr never ↦ absurd never ]
  stopped_within (suc k) (y, fs, lt, came, none, saw, last) v facts way f seen = elim ((saw f).0 seen) [
    | inl before ↦ inl before
    | inr on ↦ inr
        (subst (λ (gs : List (Fact (List Config))). Among f gs) (sym way.are)
        (came_within StartsAt LeadsTo one_start one_led p i (columns_of p.net word) way.k k (code_of v) old way.y y way.before fs way.within
        (omega arith) way.came way.leads came f on))
  ]

  stopped_kept : (k : ℕ) → WalkedAlong p i word old new (along.NotLearned k) → (f : Fact (List Config)) → Among f old.seen
      → Among f new.seen
  stopped_kept zero (none, saw, last) f seen = (saw f).1 (inl seen)
  stopped_kept (suc k) (y, fs, lt, came, none, saw, last) f seen = (saw f).1 (inl seen)

  -- a walk that stopped, as one with this end
  module _ (walk : Walk) (k : ℕ) (plan : IsPlan p) (symbols : All IsSymbol word)
      (walked : WalkedAlong p i word old new (along.NotLearned k)) (to : WalkedTo p i word old new walk)
      (says : IsVerdict p d condition word old new walk) (learned : Learned (along.NotLearned k)) where
    stopped : Walks p d condition word old new walk
    stopped = record {
      start = i;
      is_start = start;
      walked = to;
      verdict = says;
      kept = stopped_kept k walked;
      within = λ u facts other. stopped_within k walked u facts (sll_way p d condition i word u facts old plan symbols other start);
      learned = λ u facts other seen.
          let (k', to', count) = seen_to plan symbols u facts other seen in
          let e : along.NotLearned k ≡ along.End (code_of u) k' = learned k' (code_of u) to' in absurd cc;
    }

  pub no_start : IsPlan p → All IsSymbol word → WalkedAlong p i word old new (along.NotLearned 0) → Learned (along.NotLearned 0)
      → Walks p d condition word old new NoStart
  no_start plan symbols walked learned = stopped NoStart 0 plan symbols walked walked tt learned

  pub no_edge : (row k : ℕ) → IsPlan p → All IsSymbol word → WalkedAlong p i word old new (along.NotLearned (suc k))
      → StopsAt p i word old new row (along.NotLearned (suc k)) → Learned (along.NotLearned (suc k))
      → Walks p d condition word old new (NoEdge row k)
  no_edge row k plan symbols walked stops learned =
      stopped (NoEdge row k) (suc k) plan symbols walked (walked, stops) tt learned

-- the symbols of the tokens from a place on
symbols_from : (from : ℕ) (tokens : List Token) → All IsSymbol (word_of tokens) → All IsSymbol (word_of (from_on from tokens))
symbols_from from tokens symbols =
    subst (All IsSymbol) (sym (word_from from tokens)) (All-drop IsSymbol from (word_of tokens) symbols)

-- a walk from a place on does not come past END
pub not_past_end : (p : Plan Tables) (d condition i from : ℕ) (tokens : List Token) (old new : View (List Config)) → IsPlan p
    → IsStartOf p.net d condition i → All IsSymbol (word_of tokens) → EndsInEnd (word_of tokens) → from < length tokens
    → WalkedAlong p i (word_of (from_on from tokens)) old new along.Open → ⊥
not_past_end p d condition i from tokens old new plan start symbols ends more walked =
    not_open p p.net d condition i (word_of (from_on from tokens)) old new refl plan.ready start (symbols_from from tokens symbols)
    (ends_ahead from tokens ends more) walked

-- the code of an end that was found is one of 32 bits
pub small_code : (p : Plan Tables) (d condition i from code k : ℕ) (tokens : List Token) (old new : View (List Config))
    → IsStartOf p.net d condition i → All IsSymbol (word_of tokens)
    → WalkedAlong p i (word_of (from_on from tokens)) old new (along.End code k) → code < 2 ^ 32
small_code p d condition i from code k tokens old new start symbols walked =
    (walked_says p.net p refl d condition i code k (word_of (from_on from tokens)) old new start
    (symbols_from from tokens symbols) walked).0

-- what is said of the tokens from a place on is said of the rest of their word
pub walked_from : (p : Plan Tables) (i from : ℕ) (tokens : List Token) (old new : View (List Config)) (walk : way.Walk)
    → WalkedAlong p i (word_of (from_on from tokens)) old new walk → WalkedAlong p i (drop from (word_of tokens)) old new walk
walked_from p i from tokens old new walk walked =
    subst (λ (w : List ℕ). WalkedAlong p i w old new walk) (word_from from tokens) walked

pub learned_from : (p : Plan Tables) (i from : ℕ) (tokens : List Token) (old : View (List Config)) (walk : way.Walk)
    → ((k code : ℕ) → SeenTo StartsAt LeadsTo p i (columns_of p.net (word_of (from_on from tokens))) k code old → walk ≡ along.End code k)
    → (k code : ℕ) → SeenTo StartsAt LeadsTo p i (columns_of p.net (drop from (word_of tokens))) k code old → walk ≡ along.End code k
learned_from p i from tokens old walk learned k code seen =
    learned k code (subst (λ (w : List ℕ). SeenTo StartsAt LeadsTo p i (columns_of p.net w) k code old) (sym (word_from from tokens)) seen)

pub stops_from : (p : Plan Tables) (i from row : ℕ) (tokens : List Token) (old new : View (List Config)) (walk : way.Walk)
    → StopsAt p i (word_of (from_on from tokens)) old new row walk → StopsAt p i (drop from (word_of tokens)) old new row walk
stops_from p i from row tokens old new walk stops =
    subst (λ (w : List ℕ). StopsAt p i w old new row walk) (word_from from tokens) stops
