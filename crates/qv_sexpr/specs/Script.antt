-- The commands of a text.
use Rattle.std.specs.Prelude.{ℕ, zero, suc, pred, ◌==◌, if◌then◌else◌, List, Result, Ok, Err}
use Rattle.qv_text.specs.declared.kinds.TokenKind.{TokenKind}
use Rattle.qv_text.specs.declared.kinds.TokenKind.TheVariants.{LeftParen, RightParen}
use Rattle.qv_text.specs.Reading.{Lexeme, Tokens, ends, stops_at, gives, tokens}
use Rattle.qv_text.specs.declared.kinds.LexFault.{LexFault}
use Rattle.qv_sexpr.specs.declared.answers.ParseFault.{ParseFault}
use Rattle.qv_sexpr.specs.declared.answers.ParseKind.TheVariants.{Close, Atom, Unfinished}
use Rattle.qv_sexpr.specs.Limits.{nesting_limit}

mutual
  -- an expression: an atom, or a list with its place, what stands in it, and the place of its close
  -- parenthesis
  pub data Tree : Type 0 where
    atom : Lexeme → Tree
    list : ℕ → Trees → ℕ → Tree

  -- expressions one after another
  pub data Trees : Type 0 where
    none : Trees
    also : Tree → Trees → Trees

-- What ends a text: its last byte, between commands; the fault of a token; that of tokens which are
-- no command; or a parenthesis, at this place, that is one too many. A text ends in no other way.
pub data TextEnd : Type 0 where
  all_read : TextEnd
  lexical : LexFault → TextEnd
  parsing : ParseFault → TextEnd
  nesting : ℕ → TextEnd

-- the commands of a text, up to its end
pub data Script : Type 0 where
  stops : TextEnd → Script
  command : Tree → Script → Script

-- what is behind a place: expressions, close parentheses of those that were opened before it, and
-- where reading stops
pub data Behind : Type 0 where
  halts : TextEnd → Behind
  shows : Tree → Behind → Behind
  closes : ℕ → Behind → Behind

-- one more expression in front
abbrev pub with_tree : Tree → Result (Trees × ℕ × Behind) TextEnd → Result (Trees × ℕ × Behind) TextEnd
with_tree e (Ok x) = Ok (also e x.0, x.1, x.2)
with_tree e (Err end) = Err end

-- the expressions up to the first close parenthesis, its place, and what is behind it, unless
-- reading stops before
abbrev pub up_to_close : Behind → Result (Trees × ℕ × Behind) TextEnd
up_to_close (halts end) = Err end
up_to_close (shows e more) = with_tree e (up_to_close more)
up_to_close (closes place more) = Ok (none, place, more)

-- these expressions as a list that begins at this place
abbrev pub as_list : ℕ → Result (Trees × ℕ × Behind) TextEnd → Behind
as_list place (Ok x) = shows (list place x.0 x.1) x.2
as_list place (Err end) = halts end

-- an open parenthesis at this place, which the first unmatched one behind it closes
abbrev pub encloses : ℕ → Behind → Behind
encloses place more = as_list place (up_to_close more)

-- one of three, by what a token does: it opens a list, closes one, or is an atom
abbrev pub by_kind : {A : Type 0} → TokenKind → A → A → A → A
by_kind LeftParen a b c = a
by_kind RightParen a b c = b
by_kind _ a b c = c

-- the end of the bytes, in a command that begins at `start` where parentheses are open
abbrev pub at_end : ℕ → ℕ → TextEnd
at_end zero start = all_read
at_end (suc depth) start = parsing (record { place = start; kind = Unfinished })

-- where the command begins in which a parenthesis is opened at this place
abbrev pub command_start : ℕ → ℕ → ℕ → ℕ
command_start zero start place = place
command_start (suc depth) start place = start

-- Each open parenthesis is matched with its close, where so many are open already, the outermost of
-- them at `start`.
unfoldable pub matched : ℕ → ℕ → Tokens → Behind
matched start depth ends = halts (at_end depth start)
matched start depth (stops_at fault) = halts (lexical fault)
matched start depth (gives l rest) =
    by_kind l.kind
    (if depth == nesting_limit then halts (nesting l.place) else encloses l.place (matched (command_start depth start l.place) (suc depth) rest))
    (closes l.place (matched start (pred depth) rest))
    (shows (atom l) (matched start depth rest))

-- Between commands neither an atom nor a close parenthesis may stand.
abbrev pub script_of : Behind → Script
script_of (halts end) = stops end
script_of (shows (atom l) more) = stops (parsing (record { place = l.place; kind = Atom }))
script_of (shows (list place inside close) more) = command (list place inside close) (script_of more)
script_of (closes place more) = stops (parsing (record { place = place; kind = Close }))

-- the commands that these tokens make
abbrev pub commands : Tokens → Script
commands ts = script_of (matched 0 0 ts)

-- the commands of a text
abbrev pub reads : List ℕ → Script
reads bytes = commands (tokens 0 bytes)
