use Rattle.std.proofs.Common.{◌≡◌, ◌++◌, ◌==◌, ◌∙◌, ap, length, List, arith}
use Rattle.std.proofs.lemmas.List.{length-append}
use Rattle.std.proofs.lemmas.List.Elements.{All-filter}
use Rattle.g4_lexer.specs.Lexers.{IsOfText}
use Rattle.g4_tokens.specs.declared.token.Token.{Token}
use Rattle.g4_lexer.specs.Decoding.{AreCharacters}
use Rattle.g4_lexer.specs.Tokens.{EndsBy, closing_at, visible}
use Rattle.g4_lexer.proofs.Closed.{ends_in_end, end_offset, spans_closed, symbols_of_list, visible_few}
use Rattle.g4_lexer.proofs.Scanned.{spans_further}
use Rattle.g4_lexer.proofs.lexing.tokens_within.Goals as goal

pub returns-clause-few : goal.returns-clause-few
returns-clause-few c =
    let found = c.in_ok-found.found in
    let list_is : c.new-2.result ≡ visible found.tokens.items ++ closing_at found.end =
    c.new-2.ensures ∙ c.in_ok-close.ensures ∙ ap (λ (ts : List Token). ts ++ closing_at found.end)
    (c.in_ok-list.ensures ∙ ap visible c.deref-2.ensures.value) in
    omega (
      arith,
      ap length list_is,
      length-append (visible found.tokens.items) (closing_at found.end),
      visible_few found.tokens.items,
      c.in_ok-found.ensures.few,
      c.in-Ok.ensures.few,
      ap length c.deref.ensures.value,
      ap length c.as_slice.ensures,
    )

pub returns-clause-limited : goal.returns-clause-limited
returns-clause-limited c =
    let found = c.in_ok-found.found in
    let list_is : c.new-2.result ≡ visible found.tokens.items ++ closing_at found.end =
    c.new-2.ensures ∙ c.in_ok-close.ensures ∙ ap (λ (ts : List Token). ts ++ closing_at found.end)
    (c.in_ok-list.ensures ∙ ap visible c.deref-2.ensures.value) in
    omega (
      arith,
      ap length list_is,
      length-append (visible found.tokens.items) (closing_at found.end),
      visible_few found.tokens.items,
      c.in_ok-found.ensures.limited,
    )

pub returns-clause-ends : goal.returns-clause-ends
returns-clause-ends c =
    let found = c.in_ok-found.found in
    let list_is : c.new-2.result ≡ visible found.tokens.items ++ closing_at found.end =
    c.new-2.ensures ∙ c.in_ok-close.ensures ∙ ap (λ (ts : List Token). ts ++ closing_at found.end)
    (c.in_ok-list.ensures ∙ ap visible c.deref-2.ensures.value) in
    λ types.
    ends_in_end c.new-2.result (visible found.tokens.items) found.end list_is
    (All-filter (λ (t : Token). t.channel == 0) (λ (t : Token). IsOfText t.symbol) found.tokens.items
    (c.in_ok-found.ensures.types types))

pub returns-clause-symbols : goal.returns-clause-symbols
returns-clause-symbols c =
    let found = c.in_ok-found.found in
    let list_is : c.new-2.result ≡ visible found.tokens.items ++ closing_at found.end =
    c.new-2.ensures ∙ c.in_ok-close.ensures ∙ ap (λ (ts : List Token). ts ++ closing_at found.end)
    (c.in_ok-list.ensures ∙ ap visible c.deref-2.ensures.value) in
    λ types.
    symbols_of_list c.new-2.result (visible found.tokens.items) found.end list_is
    (All-filter (λ (t : Token). t.channel == 0) (λ (t : Token). IsOfText t.symbol) found.tokens.items
    (c.in_ok-found.ensures.types types))

pub returns-clause-spans : goal.returns-clause-spans
returns-clause-spans c =
    let found = c.in_ok-found.found in
    let are : AreCharacters c.args.bytes c.deref.result.now = rw (c.deref.ensures.value, ← c.as_slice.ensures) c.in-Ok.ensures.decoding in
    let end = end_offset c.args.bytes c.deref.result.now found.end are c.in_ok-found.ensures.end in
    rw c.new.ensures (spans_further found.tokens.items found.end.offset (length c.args.bytes) (omega arith) c.in_ok-found.ensures.spans)

pub returns-clause-list_spans : goal.returns-clause-list_spans
returns-clause-list_spans c =
    let found = c.in_ok-found.found in
    let are : AreCharacters c.args.bytes c.deref.result.now = rw (c.deref.ensures.value, ← c.as_slice.ensures) c.in-Ok.ensures.decoding in
    let end = end_offset c.args.bytes c.deref.result.now found.end are c.in_ok-found.ensures.end in
    let list_is : c.new-2.result ≡ visible found.tokens.items ++ closing_at found.end =
    c.new-2.ensures ∙ c.in_ok-close.ensures ∙ ap (λ (ts : List Token). ts ++ closing_at found.end)
    (c.in_ok-list.ensures ∙ ap visible c.deref-2.ensures.value) in
    let spans = spans_further found.tokens.items found.end.offset (length c.args.bytes) (omega arith) c.in_ok-found.ensures.spans in
    spans_closed c.new-2.result (visible found.tokens.items) found.end (length c.args.bytes) list_is (omega arith)
    (All-filter (λ (t : Token). t.channel == 0) (EndsBy (length c.args.bytes)) found.tokens.items spans)
