-- The atoms of a text's commands are tokens.
use Rattle.std.proofs.Common.{ℕ, zero, suc, pred, ◌+◌, ◌-◌, ◌==◌, not, Bool, true, false, cond, List, [], ◌∷◌, Ok, Err}
use Rattle.std.specs.Prelude.{Result, IfOk}
use Rattle.qv_text.specs.declared.kinds.TokenKind.{TokenKind}
use Rattle.qv_text.specs.declared.kinds.TokenKind.TheVariants as kind
use Rattle.qv_text.specs.Bytes.{is_white, is_line_end}
use Rattle.qv_text.specs.Grammar.{IsWhole}
use Rattle.qv_text.specs.Reading.{Found, Tokens, ends, stops_at, gives, run, token_at, reads_on, tokens_behind, tokens}
use Rattle.qv_text.proofs.Fronts.{IsFront, front}
use Rattle.qv_sexpr.specs.Limits.{nesting_limit}
use Rattle.qv_sexpr.specs.Script.{Trees, TextEnd, Behind, Script, atom, list, nesting, halts, shows, closes, with_tree, up_to_close, as_list, encloses, by_kind, command_start, matched, script_of, reads, stops, command}
use Rattle.qv_elab_defs.specs.Written.{HasTokens, HaveTokens}

-- tokens as the text has them
abbrev AreWhole : Tokens → Type 0
AreWhole ends = Unit {0}
AreWhole (stops_at fault) = Unit {0}
AreWhole (gives l rest) = IsWhole l.kind l.text × AreWhole rest

either-whole : (test : Bool) (a b : Tokens) → AreWhole a → AreWhole b → AreWhole (cond test a b)
either-whole true a b x y = x
either-whole false a b x y = y

found-whole : (place : ℕ) (bytes : List ℕ) (found : Found) (further : ℕ → Tokens) → IsFront bytes found → ((n : ℕ) → AreWhole (further n)) → AreWhole (reads_on place bytes found further)
found-whole place bytes (Ok found) further h more = (h, more (found.1 - 1))
found-whole place bytes (Err fault) further h more = tt

whole-behind : (n place : ℕ) (bytes : List ℕ) → AreWhole (tokens_behind n place bytes)
unfolding tokens_behind
whole-behind zero place [] = tt
whole-behind (suc n) place [] = tt
whole-behind (suc n) place (b ∷ bs) = whole-behind n (place + 1) bs
whole-behind zero place (b ∷ bs) =
    let comment = tokens_behind (run (λ c. not (is_line_end c)) bs) (place + 1) bs in
    let other = reads_on place (b ∷ bs) (token_at (b ∷ bs)) (λ n. tokens_behind n (place + 1) bs) in
    either-whole (is_white b) (tokens_behind 0 (place + 1) bs) (cond (b == 59) comment other) (whole-behind 0 (place + 1) bs)
    (either-whole (b == 59) comment other (whole-behind (run (λ c. not (is_line_end c)) bs) (place + 1) bs)
    (found-whole place (b ∷ bs) (token_at (b ∷ bs)) (λ n. tokens_behind n (place + 1) bs) (front (b ∷ bs)) (λ n. whole-behind n (place + 1) bs)))

-- expressions whose atoms are such
abbrev AreWritten : Behind → Type 0
AreWritten (halts end) = Unit {0}
AreWritten (shows e more) = HasTokens e × AreWritten more
AreWritten (closes place more) = AreWritten more

up-written : (b : Behind) → AreWritten b → IfOk (up_to_close b) (λ x. HaveTokens x.0 × AreWritten x.2)
up-written (halts end) h = tt
up-written (shows e more) h = with-first (up_to_close more) (up-written more h.1)
  where
    with-first : (r : Result (Trees × ℕ × Behind) TextEnd) → IfOk r (λ x. HaveTokens x.0 × AreWritten x.2) → IfOk (with_tree e r) (λ x. HaveTokens x.0 × AreWritten x.2)
    with-first (Ok x) k = ((h.0, k.0), k.1)
    with-first (Err end) k = tt
up-written (closes place more) h = (tt, h)

list-written : (place : ℕ) (r : Result (Trees × ℕ × Behind) TextEnd) → IfOk r (λ x. HaveTokens x.0 × AreWritten x.2) → AreWritten (as_list place r)
list-written place (Ok x) h = h
list-written place (Err end) h = tt

either-written : (test : Bool) (a b : Behind) → AreWritten a → AreWritten b → AreWritten (cond test a b)
either-written true a b x y = x
either-written false a b x y = y

by-written : (k : TokenKind) (a b c : Behind) → AreWritten a → AreWritten b → AreWritten c → AreWritten (by_kind k a b c)
by-written kind.LeftParen a b c x y z = x
by-written kind.RightParen a b c x y z = y
by-written kind.Symbol a b c x y z = z
by-written kind.Reserved a b c x y z = z
by-written kind.Keyword a b c x y z = z
by-written kind.Numeral a b c x y z = z
by-written kind.Decimal a b c x y z = z
by-written kind.Hex a b c x y z = z
by-written kind.Binary a b c x y z = z
by-written kind.Text a b c x y z = z

matched-written : (start depth : ℕ) (ts : Tokens) → AreWhole ts → AreWritten (matched start depth ts)
unfolding matched
matched-written start depth ends h = tt
matched-written start depth (stops_at fault) h = tt
matched-written start depth (gives l rest) h =
    let inside = matched (command_start depth start l.place) (suc depth) rest in
    by-written l.kind (cond (depth == nesting_limit) (halts (nesting l.place)) (encloses l.place inside)) (closes l.place (matched start (pred depth) rest)) (shows (atom l) (matched start depth rest))
    (either-written (depth == nesting_limit) (halts (nesting l.place)) (encloses l.place inside) tt (list-written l.place (up_to_close inside) (up-written inside (matched-written (command_start depth start l.place) (suc depth) rest h.1))))
    (matched-written start (pred depth) rest h.1)
    (h.0, matched-written start depth rest h.1)

-- the commands of a script are such
abbrev pub IsWritten : Script → Type 0
IsWritten (stops end) = Unit {0}
IsWritten (command e rest) = HasTokens e × IsWritten rest

script-written : (b : Behind) → AreWritten b → IsWritten (script_of b)
script-written (halts end) h = tt
script-written (shows (atom l) more) h = tt
script-written (shows (list place inside close) more) h = (h.0, script-written more h.1)
script-written (closes place more) h = tt

pub reads-written : (text : List ℕ) → IsWritten (reads text)
reads-written text = script-written (matched 0 0 (tokens 0 text)) (matched-written 0 0 (tokens 0 text) (whole-behind 0 0 text))
