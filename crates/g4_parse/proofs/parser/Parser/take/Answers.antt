use Rattle.std.proofs.Common.{◌≡◌, ◌+◌, IsTrue, get_or, refl}
use Rattle.std.specs.Prelude.{Some, slice_get}
use Rattle.g4_tokens.specs.declared.token.Token.{Token}
use Rattle.g4_tokens.specs.TokenList.{word_of}
use Rattle.g4_run.specs.Running.{with_token}
use Rattle.g4_parse.proofs.Words.{word_get}
use Rattle.g4_parse.proofs.parser.Parser.take.Goals as goal

pub returns-then-not-contains : goal.returns-then-not-contains
returns-then-not-contains c = λ net values r h.
    let blank : Token = record { symbol = 0; channel = 0; place = record { line = 0; column = 0 }; start = 0; end = 0 } in
    let next : slice_get (word_of c.args.tokens.now) r.place ≡ Some (get_or c.args.tokens.now c.args.self.now.place blank).symbol =
    rw (← h.place) (word_get c.args.tokens.now c.args.self.now.place blank c.requires.more) in (
      (get_or c.args.tokens.now c.args.self.now.place blank).symbol,
      next,
      (λ has. let yes : IsTrue c.contains.result = c.contains.ensures.1 has in cc),
      cc,
    )

pub returns : goal.returns
returns c = λ net values r h.
    let blank : Token = record { symbol = 0; channel = 0; place = record { line = 0; column = 0 }; start = 0; end = 0 } in
    let next : slice_get (word_of c.args.tokens.now) r.place ≡ Some (get_or c.args.tokens.now c.args.self.now.place blank).symbol =
    rw (← h.place) (word_get c.args.tokens.now c.args.self.now.place blank c.requires.more) in
    let yes : IsTrue c.contains.result = cc in
    let kept = c.in_ok-keep.ensures.kept r h in (
      record { state = c.args.target; place = r.place + 1; frames = (with_token r r.frames).frames; tree = (with_token r r.frames).tree },
      ((get_or c.args.tokens.now c.args.self.now.place blank).symbol, next, c.contains.ensures.0 yes, refl),
      record {
        state = refl;
        place = cc (h.place, c.in_ok-keep.ensures.place);
        returns = kept.returns;
        opened = kept.opened;
        tree = kept.tree;
      },
    )
