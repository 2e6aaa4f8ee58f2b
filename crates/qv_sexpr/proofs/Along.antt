-- Bytes that calls gave, and what is read of them.
use Rattle.std.proofs.Common.{ℕ, suc, pred, ◌≡◌, ◌+◌, ◌≤◌, ◌==◌, ◌⊎◌, inl, inr, IfSome, Bool, cond, true, false, List, [], ◌∷◌, ◌++◌, length, Option, Some, None, IsSomeAnd, Err, refl, sym, ap, subst, ◌∙◌, append_assoc, length-append, arith}
use Rattle.std.proofs.lemmas.List.{append-nil}
use Rattle.std.proofs.lemmas.Bool.{false≢true}
use Rattle.qv_text.specs.declared.kinds.Token.{Token}
use Rattle.qv_text.specs.declared.kinds.TokenKind.{TokenKind}
use Rattle.qv_text.specs.declared.kinds.TokenKind.TheVariants as kind
use Rattle.qv_text.specs.Reading.{Lexeme, Tokens, ends, stops_at, gives, tokens}
use Rattle.qv_text.specs.Progress.{Progress, fed, still_reads, MayCome, GivesToken, Waits}
use Rattle.qv_text.specs.Spelling.{Stand, StandsFirst}
use Rattle.qv_text.proofs.Standing.{stands}
use Rattle.qv_sexpr.specs.declared.answers.Stop.{Stop}
use Rattle.qv_sexpr.specs.declared.answers.Stop.TheVariants.{End, ReadFault, ReadLimit, Lex, Parse, NestingLimit, NoMemory}
use Rattle.qv_sexpr.specs.Limits.{nesting_limit}
use Rattle.qv_sexpr.specs.Script.{Trees, TextEnd, Behind, atom, list, none, also, nesting, commands, halts, shows, closes, with_tree, up_to_close, as_list, encloses, by_kind, command_start, matched, script_of}
use Rattle.qv_sexpr.specs.Building.{Levels, start_of, in_front, enclosed, resumes, TokenShows, EndShows}
use Rattle.qv_sexpr.specs.Calls.{fed_with}
use Rattle.qv_sexpr.specs.Causes.{Gave, no_call, one_more, NoCommand, TookNoCommand}
use Rattle.qv_sexpr.specs.Input.{ClosesFrom, FeedsCall, DropsCall, Along, TokenAlong, IsUnclosed, StopAlong, CommandCause}
use Rattle.qv_sexpr.proofs.Closing.{open_closes}
use Rattle.qv_sexpr.proofs.Levels.{enclosed_halts}
use Rattle.qv_sexpr.proofs.Commands.{with_text, lexeme_is, some_and, some_at, resumes_none}

unfinished_any : (lexer : Progress) (more : List ℕ) → lexer.finished ≡ false → MayCome lexer more
unfinished_any lexer more h e = absurd (false≢true (sym h ∙ e))

pub fed_more : (bytes : List ℕ) (lexer : Progress) → fed (fed_with bytes lexer) ≡ fed lexer + length bytes
fed_more [] lexer = omega arith
fed_more (b ∷ bs) lexer = omega (arith, length-append lexer.rest (b ∷ bs))

reads_more : (bytes : List ℕ) (lexer : Progress) (more : List ℕ) → still_reads lexer (bytes ++ more) ≡ still_reads (fed_with bytes lexer) more
reads_more [] lexer more = refl
reads_more (b ∷ bs) lexer more = ap (λ (xs : List ℕ). tokens lexer.place xs) (sym (append_assoc lexer.rest (b ∷ bs) more))

-- no token closes a parenthesis
abbrev NoClose : Tokens → Type 0
NoClose ends = Unit {0}
NoClose (stops_at fault) = Unit {0}
NoClose (gives l rest) = (l.kind ≡ kind.RightParen → ⊥) × NoClose rest

-- each token stands before the end of its text
none_closes : (ts : Tokens) (end place : ℕ) (bytes : List ℕ) → ts ≡ tokens place bytes → place + length bytes ≤ end → ClosesFrom end ts → NoClose ts
none_closes ends end place bytes e le h = tt
none_closes (stops_at fault) end place bytes e le h = tt
none_closes (gives l rest) end place bytes e le h =
    let s : StandsFirst false place bytes l rest = subst (Stand false place bytes) (sym e) (stands false place bytes) in
    let size : length bytes ≡ length s.blank + (length l.text + length s.rest) = ap (λ (xs : List ℕ). length xs) s.spelt ∙ length-append s.blank (l.text ++ s.rest) ∙ ap (λ n. length s.blank + n) (length-append l.text s.rest) in (
      λ k. let there : end ≤ l.place = h.0 k in absurd (omega (arith, there, size, s.place_is, s.some, le)),
      none_closes rest end (l.place + length l.text) s.rest s.others (omega (arith, size, s.place_is, le)) h.1,
    )

-- expressions in which no list is complete, up to the end
abbrev Unclosed : Behind → Type 0
Unclosed (halts end) = Unit {0}
Unclosed (shows (atom l) more) = Unclosed more
Unclosed (shows (list place inside close) more) = ⊥
Unclosed (closes place more) = ⊥

halts_up : (b : Behind) → Unclosed b → (end : TextEnd) × (up_to_close b ≡ Err end)
halts_up (halts end) h = (end, refl)
halts_up (shows (atom l) more) h = let r = halts_up more h in (r.0, ap (with_tree (atom l)) r.1)
halts_up (shows (list place inside close) more) h = absurd h
halts_up (closes place more) h = absurd h

front_up : (es : Trees) (b : Behind) (end : TextEnd) → up_to_close b ≡ Err end → up_to_close (in_front es b) ≡ Err end
front_up none b end e = e
front_up (also t es) b end e = ap (with_tree t) (front_up es b end e)

encloses_unclosed : (place : ℕ) (b : Behind) → Unclosed b → Unclosed (encloses place b)
encloses_unclosed place b h = let r = halts_up b h in subst (λ x. Unclosed (as_list place x)) (sym r.1) tt

by_unclosed : (k : TokenKind) (a b c : Behind) → (k ≡ kind.RightParen → ⊥) → Unclosed a → Unclosed c → Unclosed (by_kind k a b c)
by_unclosed kind.LeftParen a b c n x y = x
by_unclosed kind.RightParen a b c n x y = absurd (n refl)
by_unclosed kind.Symbol a b c n x y = y
by_unclosed kind.Reserved a b c n x y = y
by_unclosed kind.Keyword a b c n x y = y
by_unclosed kind.Numeral a b c n x y = y
by_unclosed kind.Decimal a b c n x y = y
by_unclosed kind.Hex a b c n x y = y
by_unclosed kind.Binary a b c n x y = y
by_unclosed kind.Text a b c n x y = y

either_unclosed : (test : Bool) (a b : Behind) → Unclosed a → Unclosed b → Unclosed (cond test a b)
either_unclosed true a b x y = x
either_unclosed false a b x y = y

matched_unclosed : (start depth : ℕ) (ts : Tokens) → NoClose ts → Unclosed (matched start depth ts)
unfolding matched
matched_unclosed start depth ends h = tt
matched_unclosed start depth (stops_at fault) h = tt
matched_unclosed start depth (gives l rest) h =
    let inside = matched (command_start depth start l.place) (suc depth) rest in
    by_unclosed l.kind (cond (depth == nesting_limit) (halts (nesting l.place)) (encloses l.place inside)) (closes l.place (matched start (pred depth) rest)) (shows (atom l) (matched start depth rest)) h.0
    (either_unclosed (depth == nesting_limit) (halts (nesting l.place)) (encloses l.place inside) tt (encloses_unclosed l.place inside (matched_unclosed (command_start depth start l.place) (suc depth) rest h.1)))
    (matched_unclosed start depth rest h.1)

unclosed_script : (b : Behind) → Unclosed b → NoCommand (script_of b)
unclosed_script (halts end) h = tt
unclosed_script (shows (atom l) more) h = tt
unclosed_script (shows (list place inside close) more) h = absurd h
unclosed_script (closes place more) h = absurd h

resumes_no_command : (levels : Levels) (ts : Tokens) → NoClose ts → NoCommand (resumes levels ts)
unfolding resumes
resumes_no_command [] ts h = unclosed_script (matched 0 0 ts) (matched_unclosed 0 0 ts h)
resumes_no_command (level ∷ outer) ts h =
    let b = matched (start_of (level ∷ outer)) (length (level ∷ outer)) ts in
    let r = halts_up b (matched_unclosed (start_of (level ∷ outer)) (length (level ∷ outer)) ts h) in
    let e : enclosed (level ∷ outer) b ≡ halts r.0 = ap (λ x. enclosed outer (as_list level.0 x)) (front_up level.1 b r.0 r.1) ∙ enclosed_halts outer r.0 in
    subst (λ (x : Behind). NoCommand (script_of x)) (sym e) tt

-- calls gave these bytes, all of them were fed, and from what is left what was to be read is read on
pub record CommandAlong {S : Type 0} (call : S → ℕ → Option (List ℕ) → S → Type 0) (old : Progress) (source : S) (bytes : List ℕ) (levels : Levels) (new : Progress) (later : S) : Type 0 where
  pub gave : Gave call source bytes later
  pub all_fed : fed new ≡ fed old + length bytes
  pub reads : (more : List ℕ) → MayCome new more → commands (still_reads old (bytes ++ more)) ≡ resumes levels (still_reads new more)

module _ (S : Type 0) (call : S → ℕ → Option (List ℕ) → S → Type 0) where
  pub along_start : (lexer : Progress) (s : S) → Along call lexer s [] lexer s
  along_start lexer s = record { gave = no_call; all_fed = omega arith; may = λ more m. m; reads = λ more may. refl }

  -- the lexer wanted more, and was fed what a call gave
  pub feed_along : (old mid lex new : Progress) (s t u : S) → (bytes : List ℕ) × Along call old s bytes mid t → Waits mid lex → fed lex ≡ fed mid → FeedsCall call lex t new u → (bytes : List ℕ) × Along call old s bytes new u
  feed_along old mid lex new s t u h w e k = (
    h.0 ++ k.0,
    record {
      gave = one_more h.0 t k.0 u h.1.gave k.1;
      all_fed =
          let f : fed new ≡ fed lex + length k.0 = ap (λ (x : Progress). fed x) k.2 ∙ fed_more k.0 lex in
          omega (arith, f, e, h.1.all_fed, length-append h.0 k.0);
      may = λ more m p. append_assoc h.0 k.0 more ∙ h.1.may (k.0 ++ more) (unfinished_any mid (k.0 ++ more) w.unfinished) p;
      reads = λ more may.
          ap (still_reads old) (append_assoc h.0 k.0 more)
          ∙ h.1.reads (k.0 ++ more) (unfinished_any mid (k.0 ++ more) w.unfinished)
          ∙ sym (w.same.reads (k.0 ++ more))
          ∙ reads_more k.0 lex more
          ∙ ap (λ (x : Progress). still_reads x more) (sym k.2);
    },
  )

  some_weaker : {P Q : Lexeme → Type 0} (o : Option Lexeme) → ((l : Lexeme) → P l → Q l) → IsSomeAnd o P → IsSomeAnd o Q
  some_weaker None h p = p
  some_weaker (Some l) h p = h l p

  -- the lexer gave a token
  pub token_along : (old mid new : Progress) (s t : S) (token : Token) → (bytes : List ℕ) × Along call old s bytes mid t → fed new ≡ fed mid → new.finished ≡ mid.finished → GivesToken mid token new → (bytes : List ℕ) × TokenAlong call old s bytes token new t
  token_along old mid new s t token h e f answer = (
    h.0,
    record {
      gave = h.1.gave;
      all_fed = omega (arith, e, h.1.all_fed);
      may = λ more m. h.1.may more (λ p. m (f ∙ p));
      next = some_weaker new.last (λ l g. (
        g.0,
        λ more may.
            let can : MayCome mid more = λ p. may (f ∙ p) in
            h.1.reads more can ∙ g.1 more can,
      )) answer.next;
    },
  )

  waits_along : (old mid lex new : Progress) (s t : S) (bytes : List ℕ) → Along call old s bytes mid t → Waits mid lex → fed lex ≡ fed mid → new ≡ lex → Along call old s bytes new t
  waits_along old mid lex new s t bytes h w e same = subst (λ (x : Progress). Along call old s bytes x t) (sym same) (record {
    gave = h.gave;
    all_fed = omega (arith, e, h.all_fed);
    may = λ more m. h.may more (unfinished_any mid more w.unfinished);
    reads = λ more may. h.reads more (unfinished_any mid more w.unfinished) ∙ sym (w.same.reads more);
  })

  waits_unclosed : (mid lex new : Progress) → Waits mid lex → fed lex ≡ fed mid → new ≡ lex → IsUnclosed new
  waits_unclosed mid lex new w e same = subst IsUnclosed (sym same)
      (subst (λ n. ClosesFrom n (still_reads lex [])) (sym e) (subst (ClosesFrom (fed mid)) (sym (w.same.reads [])) (open_closes mid w.undecided [])))

  -- the lexer wanted more, and no piece came
  pub stop_along : (old mid lex new : Progress) (s t u : S) (stop : Stop) → (bytes : List ℕ) × Along call old s bytes mid t → Waits mid lex → fed lex ≡ fed mid → new ≡ lex → DropsCall call t stop u → StopAlong call old s stop new u
  stop_along old mid lex new s t u ReadFault h w e same k = (h.0, t, waits_along old mid lex new s t h.0 h.1 w e same, k, waits_unclosed mid lex new w e same)
  stop_along old mid lex new s t u ReadLimit h w e same k =
      subst (λ (x : S). StopAlong call old s ReadLimit new x) (sym k) (h.0, waits_along old mid lex new s t h.0 h.1 w e same, waits_unclosed mid lex new w e same)
  stop_along old mid lex new s t u NoMemory h w e same k = tt
  stop_along old mid lex new s t u End h w e same k = tt
  stop_along old mid lex new s t u (Lex fault) h w e same k = tt
  stop_along old mid lex new s t u (Parse fault) h w e same k = tt
  stop_along old mid lex new s t u (NestingLimit place) h w e same k = tt

  -- one after another
  pub gave_later : {s t u : S} {xs ys : List ℕ} → Gave call s xs t → Gave call t ys u → Gave call s (xs ++ ys) u
  gave_later {s} {t} {u} {xs} h no_call = subst (λ (zs : List ℕ). Gave call s zs t) (sym (append-nil xs)) h
  gave_later {s} {t} {u} {xs} h (one_more bytes now more later k c) = subst (λ (zs : List ℕ). Gave call s zs later) (append_assoc xs bytes more) (one_more (xs ++ bytes) now more later (gave_later h k) c)

  pub command_start_along : (lexer : Progress) (s : S) → CommandAlong call lexer s [] [] lexer s
  command_start_along lexer s = record { gave = no_call; all_fed = omega arith; reads = λ more may. sym (resumes_none (still_reads lexer more)) }

  -- a token was taken
  pub take_along : (old mid new : Progress) (s t u : S) (levels now : Levels) (token : Token) (text : List ℕ) → (bytes : List ℕ) × CommandAlong call old s bytes levels mid t → (bytes : List ℕ) × TokenAlong call mid t bytes token new u →
      IfSome new.last (λ l. text ≡ l.text) → ((ts : Tokens) → resumes levels (gives (with_text token text) ts) ≡ resumes now ts) → (bytes : List ℕ) × CommandAlong call old s bytes now new u
  take_along old mid new s t u levels now token text h k same on =
      let came = some_and new.last k.1.next in
      let is : with_text token text ≡ came.0 = lexeme_is came.0 token text came.2.0 (some_at (λ l. text ≡ l.text) new.last came.0 came.1 same) in (
        h.0 ++ k.0,
        record {
          gave = gave_later h.1.gave k.1.gave;
          all_fed = omega (arith, h.1.all_fed, k.1.all_fed, length-append h.0 k.0);
          reads = λ more may.
              ap (λ (xs : List ℕ). commands (still_reads old xs)) (append_assoc h.0 k.0 more)
              ∙ h.1.reads (k.0 ++ more) (k.1.may more may)
              ∙ ap (resumes levels) (came.2.1 more may)
              ∙ ap (λ (l : Lexeme). resumes levels (gives l (still_reads new more))) (sym is)
              ∙ on (still_reads new more);
        },
      )

  took : (old mid new : Progress) (s t u : S) (levels : Levels) (xs ys : List ℕ) → CommandAlong call old s xs levels mid t → Along call mid t ys new u → IsUnclosed new → TookNoCommand call old s (xs ++ ys) new u
  took old mid new s t u levels xs ys h k shut = record {
    gave = gave_later h.gave k.gave;
    all_fed = omega (arith, h.all_fed, k.all_fed, length-append xs ys);
    no_command =
        let same : commands (still_reads old (xs ++ (ys ++ []))) ≡ resumes levels (still_reads new []) = h.reads (ys ++ []) (k.may [] (λ _. refl)) ∙ ap (resumes levels) (k.reads [] (λ _. refl)) in
        let none = none_closes (still_reads new []) (fed new) new.place (new.rest ++ []) refl (omega (arith, length-append new.rest [])) shut in
        subst (λ (zs : List ℕ). NoCommand (commands (still_reads old (xs ++ zs)))) (append-nil ys) (subst NoCommand (sym same) (resumes_no_command levels (still_reads new []) none));
  }

  -- no token came
  pub token_cause : (old mid new : Progress) (s t u : S) (levels : Levels) (stop : Stop) → (bytes : List ℕ) × CommandAlong call old s bytes levels mid t → StopAlong call mid t stop new u → CommandCause call old s stop new u
  token_cause old mid new s t u levels ReadFault h k = (h.0 ++ k.0, k.1, took old mid new s t k.1 levels h.0 k.0 h.1 k.2 k.4, k.3)
  token_cause old mid new s t u levels ReadLimit h k = (h.0 ++ k.0, took old mid new s t u levels h.0 k.0 h.1 k.1 k.2)
  token_cause old mid new s t u levels NoMemory h k = tt
  token_cause old mid new s t u levels End h k = tt
  token_cause old mid new s t u levels (Lex fault) h k = tt
  token_cause old mid new s t u levels (Parse fault) h k = tt
  token_cause old mid new s t u levels (NestingLimit place) h k = tt

  -- a token was refused
  pub take_cause : (old new : Progress) (s u : S) (k : TokenKind) (place : ℕ) (stop : Stop) → (stop ≡ NoMemory) ⊎ TokenShows k place stop → CommandCause call old s stop new u
  take_cause old new s u k place stop (inl e) = subst (λ (x : Stop). CommandCause call old s x new u) (sym e) tt
  take_cause old new s u k place (Parse fault) (inr h) = tt
  take_cause old new s u k place (NestingLimit limit) (inr h) = tt
  take_cause old new s u k place NoMemory (inr h) = tt
  take_cause old new s u k place End (inr h) = tt
  take_cause old new s u k place (Lex fault) (inr h) = tt
  take_cause old new s u k place ReadFault (inr h) = absurd h
  take_cause old new s u k place ReadLimit (inr h) = absurd h

  -- the text ended
  pub end_cause : (old new : Progress) (s u : S) (stop : Stop) → EndShows stop → CommandCause call old s stop new u
  end_cause old new s u End h = tt
  end_cause old new s u (Parse fault) h = tt
  end_cause old new s u (Lex fault) h = tt
  end_cause old new s u (NestingLimit place) h = tt
  end_cause old new s u NoMemory h = tt
  end_cause old new s u ReadFault h = absurd h
  end_cause old new s u ReadLimit h = absurd h
