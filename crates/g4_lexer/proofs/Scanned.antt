-- One turn of the loop that finds the tokens of a text.
use Rattle.std.proofs.Common.{◌≡◌, ℕ, ◌+◌, ◌-◌, ◌≤◌, ◌<◌, List, [], ◌++◌, length, take, drop, Option, Some, None, Ok, Err, All, refl, sym, ap, ◌∙◌, subst, get_or, unwrap_or, true, false, true≢false, arith, inl, slice_index_or}
use Rattle.std.specs.Option.{is_some}
use Rattle.std.proofs.lemmas.List.{take_rest, length-append, length-drop, length-take-le}
use Rattle.std.proofs.lemmas.List.Elements.{All-append, All-nil, All-cons}
use Rattle.g4_ordered.specs.declared.start.Start.{Start}
use Rattle.g4_ordered.specs.Network.{LexerNetwork}
use Rattle.g4_ordered.specs.Starts.{starts_of}
use Rattle.g4_matching.specs.declared.found.Match.{Match}
use Rattle.g4_matching.specs.Matcher.{IsFound}
use Rattle.g4_ordered.specs.Matching.{IsMatch, NoMatch}
use Rattle.g4_tokens.specs.declared.token.Token.{Token}
use Rattle.g4_lexer.specs.declared.command.LexerCommand.{LexerCommand}
use Rattle.g4_lexer.specs.declared.effects.Effects.{Effects}
use Rattle.g4_lexer.specs.declared.effects.Fate.{Fate}
use Rattle.g4_lexer.specs.declared.effects.Fate.TheVariants as fates
use Rattle.g4_lexer.specs.declared.fault.LexFault.{LexFault}
use Rattle.g4_lexer.specs.declared.fault.LexFault.TheVariants as faults
use Rattle.g4_lexer.specs.declared.lexer.Lexer.{Lexer}
use Rattle.g4_lexer.specs.declared.position.Position.{Position}
use Rattle.g4_lexer.specs.declared.token.Begun.{Begun}
use Rattle.g4_lexer.specs.Commands.{after_commands, CarriesOut}
use Rattle.g4_lexer.specs.Lexers.{starts_in, type_of, commands_of, HasTokenTypes, IsOfText}
use Rattle.g4_lexer.specs.Lexing.{Course, current, before_commands, NextMatch, made_at, course_after, LexesText, no_token, empty_mode_stack, too_many}
use Rattle.g4_lexer.specs.Positions.{first_position, position_after}
use Rattle.g4_lexer.specs.Scanning.{IsScanFault}
use Rattle.g4_lexer.specs.Tokens.{made_by, going_on, made, goes_on, Concludes, EndsBy, HasText}
use Rattle.g4_lexer.proofs.Encoded.{length-encoded-ge}
use Rattle.g4_lexer.proofs.Moved.{position_behind}
use Rattle.g4_lexer.proofs.Reached.{Reached, BeginsBy, next_reached, reached_no_mode, reached_no_room, reached_stuck, reached_end, reached_unfinished}
use Rattle.g4_lexer.proofs.TokenTypes.{HasTokenType, HaveTokenType, commands_type, made_types}

-- a match makes one token at the most
made_few : (fate : Fate) (begun : Begun) (channel : ℕ) (end : Position) → length (made_by fate begun channel end) ≤ 1
made_few fates.Dropped begun channel end = omega arith
made_few fates.Kept begun channel end = omega arith
made_few (fates.Token symbol) begun channel end = omega arith

-- it ends where the match does
made_spans : (fate : Fate) (begun : Begun) (channel : ℕ) (end : Position) → begun.from.offset ≤ end.offset
    → All (EndsBy end.offset) (made_by fate begun channel end)
made_spans fates.Dropped begun channel end below = All-nil (EndsBy end.offset)
made_spans fates.Kept begun channel end below = All-nil (EndsBy end.offset)
made_spans (fates.Token symbol) begun channel end below =
    All-cons (EndsBy end.offset) _ [] (below, omega arith) (All-nil (EndsBy end.offset))

-- it has a text where the match ends after it began
made_texts : (fate : Fate) (begun : Begun) (channel : ℕ) (end : Position) → begun.from.offset < end.offset
    → All HasText (made_by fate begun channel end)
made_texts fates.Dropped begun channel end before = All-nil HasText
made_texts fates.Kept begun channel end before = All-nil HasText
made_texts (fates.Token symbol) begun channel end before = All-cons HasText _ [] before (All-nil HasText)

-- a token that goes on began before
on_begins : (fate : Fate) (begun : Begun) (channel bytes : ℕ) → begun.from.offset ≤ bytes → BeginsBy bytes (going_on fate begun channel)
on_begins fates.Dropped begun channel bytes below = tt
on_begins fates.Kept begun channel bytes below = below
on_begins (fates.Token symbol) begun channel bytes below = tt

-- the token of the next match begins here or before
current_begins : (at : Position) (o : Option Begun) → BeginsBy at.offset o
    → (unwrap_or o (record { from = at; channel = 0 })).from.offset ≤ at.offset
current_begins at None h = omega arith
current_begins at (Some begun) h = h

-- spans that end by a number of bytes end by any greater
pub spans_further : (found : List Token) (bytes more : ℕ) → bytes ≤ more → All (EndsBy bytes) found → All (EndsBy more) found
spans_further found bytes more below h = λ k d less. ((h k d less).0, omega (arith, (h k d less).1))

none_of : (o : Option Begun) → is_some o ≡ false → o ≡ None
none_of None is = refl
none_of (Some begun) is = absurd (true≢false is)

some_of : (o : Option Begun) → is_some o ≡ true → (begun : Begun) × (o ≡ Some begun)
some_of None is = absurd (true≢false (sym is))
some_of (Some begun) is = (begun, refl)

-- what a matcher by the lexer's network and modes finds
pub found_here : (lexer : Lexer) (mode : ℕ) (rest : List ℕ) (found : Option Match) (matcher : LexerNetwork × List (List Start))
    → matcher ≡ (lexer.net, lexer.modes) → IsFound matcher.0 (starts_of (slice_index_or matcher.1 mode [])) rest found
    → IsFound lexer.net (starts_in lexer mode) rest found
found_here lexer mode rest found matcher is h =
    subst (λ (m : LexerNetwork × List (List Start)). IsFound m.0 (starts_of (slice_index_or m.1 mode [])) rest found) is h

module _ (lexer : Lexer) (text : List ℕ) (start : ℕ) (s : Course) where
  -- the next match, as the code has it
  pub found_next : (n rule alternative symbol : ℕ) (commands : List LexerCommand) (token : Begun) (e : Effects) (o : Option Effects)
      → IsMatch lexer.net (starts_in lexer s.mode) (take (length text - start) (drop start text)) n rule alternative →
      commands ≡ commands_of lexer rule alternative → token ≡ current s → symbol ≡ type_of lexer rule
      → e ≡ record { mode = s.mode; pushed = s.pushed; channel = token.channel; fate = fates.Token symbol }
      → after_commands commands e ≡ o → NextMatch lexer s (drop start text) n o
  found_next n rule alternative symbol commands token e o m commands_are token_is symbol_is e_is done =
      let there = subst (λ w. IsMatch lexer.net (starts_in lexer s.mode) w n rule alternative) (take_rest text start) m in
      let channel_is = ap (λ (b : Begun). record { mode = s.mode; pushed = s.pushed; channel = b.channel; fate = fates.Token symbol })
      token_is in
      let type_is = ap (λ t. record { mode = s.mode; pushed = s.pushed; channel = (current s).channel; fate = fates.Token t }) symbol_is in
      let begins : e ≡ before_commands lexer s rule = e_is ∙ channel_is ∙ type_is in
      record {
        rule = rule;
        alternative = alternative;
        matches = there;
        carried_out = ap (λ (f : Effects). after_commands (commands_of lexer rule alternative) f) (sym begins)
            ∙ ap (λ (cs : List LexerCommand). after_commands cs e) (sym commands_are) ∙ done;
      }

  module _ (room : ℕ) (old : List Token) (r : Reached lexer text room old start s) where
    -- no rule matches, as the code has it
    pub stuck_here : (x : ℕ) → start < length text → x ≡ get_or (take (length text - start) (drop start text)) 0 x
        → NoMatch lexer.net (starts_in lexer s.mode) (take (length text - start) (drop start text))
        → LexesText lexer room text (Err (no_token s.at.place (Some x)))
    stuck_here x less is none =
        reached_stuck lexer text room old start x s r less (is ∙ ap (λ (w : List ℕ). get_or w 0 x) (take_rest text start))
        (subst (λ w. NoMatch lexer.net (starts_in lexer s.mode) w) (take_rest text start) none)

    -- a command is refused
    pub refused_here : (n : ℕ) (wanted : Option Effects) (e : Effects) (fault : LexFault)
        → ((o : Option Effects) → wanted ≡ o → NextMatch lexer s (drop start text) n o) → CarriesOut wanted s.at.place e (Err fault)
        → IsScanFault room lexer text fault
    refused_here n wanted e (faults.NotUtf8 at) next h = absurd h
    refused_here n wanted e (faults.NoToken at character) next h = absurd h
    refused_here n wanted e (faults.EmptyModeStack at) next h =
        subst (λ p. LexesText lexer room text (Err (empty_mode_stack p))) (sym h.1)
        (reached_no_mode lexer text room old start n s r (next None h.0))
    refused_here n wanted e (faults.Tokens at) next h = absurd h
    refused_here n wanted e faults.NoMemory next h = tt

    -- the end is reached
    pub finished_here : length text ≤ start → is_some s.begun ≡ false → LexesText lexer room text (Ok old)
    finished_here past is = reached_end lexer text room old start s r past (none_of s.begun is)

    -- the end is reached where a token has begun
    pub unfinished_here : length text ≤ start → is_some s.begun ≡ true → LexesText lexer room text (Err (no_token s.at.place None))
    unfinished_here past is = let b = some_of s.begun is in reached_unfinished lexer text room old start s b.0 r past b.1

    module _ (n : ℕ) (token : Begun) (e : Effects) (end : Position) (token_is : token ≡ current s)
        (next : NextMatch lexer s (drop start text) n (Some e))
        (end_is : end ≡ position_after s.at (take n (take (length text - start) (drop start text)))) where
      moved : end ≡ position_after s.at (take n (drop start text))
      moved = end_is ∙ ap (λ w. position_after s.at (take n w)) (take_rest text start)

      makes : made token e end ≡ made_at s e (take n (drop start text))
      makes = ap (λ (b : Begun). made b e end) token_is ∙ ap (λ (p : Position). made (current s) e p) moved

      -- there is no room for a token
      pub full_here : (new : List Token) (fault : LexFault) → Concludes room token e end old new (Err fault)
          → IsScanFault room lexer text fault
      full_here new (faults.NotUtf8 at) h = absurd h
      full_here new (faults.NoToken at character) h = absurd h
      full_here new (faults.EmptyModeStack at) h = absurd h
      full_here new (faults.Tokens at) h =
          let full = subst (λ (ts : List Token). room < length old + length ts) makes h.0 in
          let place_is = h.1 ∙ ap (λ (b : Begun). b.from.place) token_is in
          subst (λ p. LexesText lexer room text (Err (too_many p))) (sym place_is)
          (reached_no_room lexer text room old start n s e r next full)
      full_here new faults.NoMemory h = tt

      module _ (new : List Token) (kept : Option Begun) (h : Concludes room token e end old new (Ok kept)) where
        -- the next token is found, if the match makes one
        pub reached_more : length old ≤ room → Reached lexer text room new (start + n)
            (record { at = end; mode = e.mode; pushed = e.pushed; begun = kept })
        reached_more below =
            let on = h.1 ∙ ap (λ (b : Begun). goes_on b e) token_is in
            let course : course_after s e (take n (drop start text)) ≡ record { at = end; mode = e.mode; pushed = e.pushed; begun = kept } =
            ap (λ (p : Position). record { at = p; mode = e.mode; pushed = e.pushed; begun = goes_on (current s) e }) (sym moved)
            ∙ ap (λ (o : Option Begun). record { at = end; mode = e.mode; pushed = e.pushed; begun = o }) (sym on) in
            subst (λ (t : Course). Reached lexer text room new (start + n) t) course
            (next_reached lexer text room old new start n s e r next (h.0 ∙ ap (λ (ts : List Token). old ++ ts) makes) (h.2 below))

        pub within_more : start ≤ length text → start + n ≤ length text
        within_more within = omega (arith, next.matches.after.0, length-drop start text)

        pub at_more : start ≤ length text → s.at ≡ position_after first_position (take start text)
            → end ≡ position_after first_position (take (start + n) text)
        at_more within is = moved ∙ position_behind text start s.at within is n

        pub few_more : length old ≤ start → length new ≤ start + n
        few_more few = omega (
          arith,
          ap length h.0,
          length-append old (made token e end),
          made_few e.fate token e.channel end,
          next.matches.some,
        )

        pub types_more : (HasTokenTypes lexer → All (λ (t : Token). IsOfText t.symbol) old) → HasTokenTypes lexer
            → All (λ (t : Token). IsOfText t.symbol) new
        types_more types has =
            let low = commands_type (commands_of lexer next.rule next.alternative) (before_commands lexer s next.rule)
            (has.commands next.rule next.alternative) (inl (has.rules next.rule)) in
            let fate : HasTokenType e.fate = subst HaveTokenType next.carried_out low in
            subst (λ (ts : List Token). All (λ (t : Token). IsOfText t.symbol) ts) (sym h.0)
            (All-append (λ (t : Token). IsOfText t.symbol) old (made token e end) (types has)
            (made_types e.fate token e.channel end fate))

        further : s.at.offset ≤ end.offset
        further = omega (arith, ap (λ (p : Position). p.offset) moved)

        begun_before : BeginsBy s.at.offset s.begun → token.from.offset ≤ end.offset
        begun_before begins = omega (arith, further, ap (λ (b : Begun). b.from.offset) token_is, current_begins s.at s.begun begins)

        pub spans_more : BeginsBy s.at.offset s.begun → All (EndsBy s.at.offset) old → All (EndsBy end.offset) new
        spans_more begins spans =
            subst (λ (ts : List Token). All (EndsBy end.offset) ts) (sym h.0)
            (All-append (EndsBy end.offset) old (made token e end) (spans_further old s.at.offset end.offset further spans)
            (made_spans e.fate token e.channel end (begun_before begins)))

        -- a match has a character or more, so a byte or more
        behind : s.at.offset < end.offset
        behind =
            let w = take n (drop start text) in
            omega (
              arith,
              ap (λ (p : Position). p.offset) moved,
              length-encoded-ge w,
              length-take-le n (drop start text) next.matches.after.0,
              next.matches.some,
            )

        pub texts_more : BeginsBy s.at.offset s.begun → All HasText old → All HasText new
        texts_more begins texts =
            let before : token.from.offset < end.offset =
            omega (arith, behind, ap (λ (b : Begun). b.from.offset) token_is, current_begins s.at s.begun begins) in
            subst (λ (ts : List Token). All HasText ts) (sym h.0)
            (All-append HasText old (made token e end) texts (made_texts e.fate token e.channel end before))

        pub begins_more : BeginsBy s.at.offset s.begun → BeginsBy end.offset kept
        begins_more begins = subst (λ (o : Option Begun). BeginsBy end.offset o) (sym h.1)
            (on_begins e.fate token e.channel end.offset (begun_before begins))
