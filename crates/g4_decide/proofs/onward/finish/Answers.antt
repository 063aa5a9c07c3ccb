use Rattle.std.proofs.Common.{◌≡◌, List, Contains, map, sym, ◌∙◌, ap, subst}
use Rattle.g4_decide.specs.Asked.{Told}
use Rattle.g4_learned.specs.Stored.{stored_entry}
use Rattle.g4_learned.specs.Tables.{Tables}
use Rattle.g4_net.specs.Configurations.{Config}
use Rattle.g4_net.specs.Network.{ParserNetwork}
use Rattle.g4_net.specs.Prediction.{SllFrom}
use Rattle.g4_predict.specs.Paths.{looked_of, verdict_of}
use Rattle.g4_predict.specs.Reached.{IsReached}
use Rattle.g4_store.specs.Learned.{IsLearned}
use Rattle.g4_store.specs.Numbers.{Among}
use Rattle.g4_store.specs.Paths.{cells_of}
use Rattle.g4_tokens.specs.TokenList.{word_of}
use Rattle.g4_decide.proofs.onward.finish.Goals as goal

pub simulate_from-requires-clause-reached : goal.simulate_from-requires-clause-reached
simulate_from-requires-clause-reached g c = λ d member.
    let (y, known, is_row, reached, codes) = c.requires.row in
    let own : c.net-net.result.now ≡ g.B.Home.plan.net.net = c.net-net.ensures ∙ ap (λ (t : Tables). t.net) c.net.ensures.is in
    let is : c.snapshot.result.now ≡ y = c.snapshot.ensures ∙ c.in_ok-kept.ensures.row y known in
    subst (λ (n : ParserNetwork). IsReached n d) (sym own) (reached d (subst (λ (r : List Config). Contains r d) is member))

pub learn_on-requires : goal.learn_on-requires
learn_on-requires g c =
    let (y, known, is_row, reached, codes) = c.requires.row in
    let own : c.net-net.result.now ≡ g.B.Home.plan.net.net = c.net-net.ensures ∙ ap (λ (t : Tables). t.net) c.net.ensures.is in
    let is : c.snapshot.result.now ≡ y = c.snapshot.ensures ∙ c.in_ok-kept.ensures.row y known in
    let word = word_of c.args.tokens.now in
    let v = verdict_of c.in_ok-verdict.verdict in
    let looked = map looked_of c.in_ok-verdict.looked in
    let says : SllFrom g.B.Home.plan.net.net (Contains y) word c.args.at v looked =
    subst (λ (n : ParserNetwork). SllFrom n (Contains y) word c.args.at v looked) own
    (subst (λ (r : List Config). SllFrom c.net-net.result.now (Contains r) word c.args.at v looked) is c.in_ok-verdict.ensures) in (
      y,
      subst (λ (p : Told). Among (c.args.row, y) p.0.known) (sym c.row.ensures.same) known,
      record {
        is_row = is_row;
        word = word;
        place = c.args.at;
        verdict = v;
        symbols = c.requires.symbols;
        code = codes v looked says;
        says = says;
      },
    )

pub returns-clause-learned : goal.returns-clause-learned
returns-clause-learned g c = λ y known.
    let own : c.net-net.result.now ≡ g.B.Home.plan.net.net = c.net-net.ensures ∙ ap (λ (t : Tables). t.net) c.net.ensures.is in
    let is : c.snapshot.result.now ≡ y = c.snapshot.ensures ∙ c.in_ok-kept.ensures.row y known in
    let word = word_of c.args.tokens.now in
    let v = verdict_of c.in_ok-verdict.verdict in
    let looked = map looked_of c.in_ok-verdict.looked in
    let says : SllFrom g.B.Home.plan.net.net (Contains y) word c.args.at v looked =
    subst (λ (n : ParserNetwork). SllFrom n (Contains y) word c.args.at v looked) own
    (subst (λ (r : List Config). SllFrom c.net-net.result.now (Contains r) word c.args.at v looked) is c.in_ok-verdict.ensures) in
    let known' = subst (λ (p : Told). Among (c.args.row, y) p.0.known) (sym c.row.ensures.same) known in (
      looked,
      says,
      (
        c.in_ok-learn_on.field-0,
        subst (λ (p : Told). IsLearned g.B.Home.plan.rows (cells_of y (map (stored_entry g.B.Home.plan.net) looked)) p
            c.learn_on.new.pass c.in_ok-learn_on.field-0) c.row.ensures.same (c.in_ok-learn_on.ensures.learned y known'),
      ),
    )
