-- How a source is read token by token.
use Rattle.std.specs.Prelude.{ℕ, ◌≡◌, ◌+◌, ◌<◌, ◌≤◌, ◌⊎◌, true, false, List, Option, Some, None, option_map, IsSomeAnd, IfSome, IsTrue, [], ◌++◌, length}
use Rattle.qv_io.specs.Source.{TellsAsBefore}
use Rattle.qv_sexpr.specs.Limits.{read_limit, piece_size}
use Rattle.qv_text.specs.declared.kinds.Token.{Token}
use Rattle.qv_text.specs.declared.kinds.TokenKind.TheVariants.{RightParen}
use Rattle.qv_text.specs.Reading.{Tokens, ends, stops_at, gives, token_of}
use Rattle.qv_text.specs.Progress.{Progress, fed, still_reads, MayCome, IsOpen}
use Rattle.qv_sexpr.specs.declared.answers.Stop.{Stop}
use Rattle.qv_sexpr.specs.declared.answers.Stop.TheVariants.{End, ReadFault, ReadLimit, Lex, Parse, NestingLimit, NoMemory}
use Rattle.qv_sexpr.specs.Items.{IsToken}
use Rattle.qv_sexpr.specs.Reader.{coming, FedGiven, TakesBelow}
use Rattle.qv_sexpr.specs.Calls.{fed_with}
use Rattle.qv_sexpr.specs.Causes.{Gave, FailsBehind, MeetsLimit}

-- What a call of the reader's inside leaves, whatever it answers: bytes are taken only below the
-- limit, a source at the limit or behind the end is untouched, told bytes stay told, and the count
-- of faults doesn't fall.
pub record Leaves {S : Type 0} (left : S → Option (List ℕ)) (faults : S → ℕ) (old : Progress) (source : S) (new : Progress) (later : S) : Type 0 where
  pub below : TakesBelow old new
  pub untouched : (read_limit ≤ fed old) ⊎ IsTrue old.finished → later ≡ source
  pub telling : TellsAsBefore (left source) (left later)
  pub count : faults source ≤ faults later

-- the first token stands here or later
abbrev pub BeginsFrom : ℕ → Tokens → Type 0
BeginsFrom place ends = Unit {0}
BeginsFrom place (stops_at fault) = Unit {0}
BeginsFrom place (gives l rest) = place ≤ l.place

-- whatever comes, the next token stands here or later
abbrev pub IsFrom : ℕ → Progress → Type 0
IsFrom place lexer = (more : List ℕ) → BeginsFrom place (still_reads lexer more)

-- each close parenthesis stands here or later
abbrev pub ClosesFrom : ℕ → Tokens → Type 0
ClosesFrom place ends = Unit {0}
ClosesFrom place (stops_at fault) = Unit {0}
ClosesFrom place (gives l rest) = (l.kind ≡ RightParen → place ≤ l.place) × ClosesFrom place rest

-- At most a piece was taken behind a place before which no close parenthesis is left, whatever
-- comes.
abbrev pub IsNear : Progress → Type 0
IsNear lexer = (place : ℕ) × (fed lexer ≤ place + piece_size) × ((more : List ℕ) → MayCome lexer more → ClosesFrom place (still_reads lexer more))

-- a piece was taken, or the end was met
pub record TakesPiece (left : Option (List ℕ)) (old : Progress) (left' : Option (List ℕ)) (new : Progress) : Type 0 where
  pub told : option_map (coming old) left ≡ option_map (coming new) left'
  pub from : (place : ℕ) → IsFrom place old → IsFrom place new
  pub closes : (place : ℕ) → ((more : List ℕ) → ClosesFrom place (still_reads old more)) → (more : List ℕ) → ClosesFrom place (still_reads new more)
  pub taken : ((new.finished ≡ true) × (fed new ≡ fed old)) ⊎ ((new.finished ≡ false) × (fed old < fed new) × (fed new < fed old + piece_size + 1))
  pub below : fed old < read_limit
  pub given : FedGiven left old left' new

-- why no piece was taken; `rose` says that the source's count rose
abbrev pub ReadStop : Type 0 → Progress → Stop → Type 0
ReadStop rose lexer ReadFault = rose × (fed lexer < read_limit)
ReadStop rose lexer ReadLimit = read_limit ≤ fed lexer
ReadStop rose lexer NoMemory = Unit {0}
ReadStop rose lexer End = ⊥
ReadStop rose lexer (Lex fault) = ⊥
ReadStop rose lexer (Parse fault) = ⊥
ReadStop rose lexer (NestingLimit place) = ⊥

-- what one call of a source gave, all of which the lexer was fed
abbrev pub FeedsCall : {S : Type 0} → (S → ℕ → Option (List ℕ) → S → Type 0) → Progress → S → Progress → S → Type 0
FeedsCall call old source new source' = (bytes : List ℕ) × call source piece_size (Some bytes) source' × (new ≡ fed_with bytes old)

-- what one call of a source gave, where no piece was taken for this reason; at the limit it isn't
-- called
abbrev pub DropsCall : {S : Type 0} → (S → ℕ → Option (List ℕ) → S → Type 0) → S → Stop → S → Type 0
DropsCall call source ReadFault source' = call source piece_size None source'
DropsCall call source ReadLimit source' = source' ≡ source
DropsCall call source NoMemory source' = (bytes : List ℕ) × call source piece_size (Some bytes) source'
DropsCall call source End source' = ⊥
DropsCall call source (Lex fault) source' = ⊥
DropsCall call source (Parse fault) source' = ⊥
DropsCall call source (NestingLimit place) source' = ⊥

-- this token is next, and what follows it is still to be read
abbrev pub GetsToken : Option (List ℕ) → Progress → Token → Option (List ℕ) → Progress → Type 0
GetsToken left old t left' new =
    IsSomeAnd new.last (λ l. (token_of l ≡ t) × IsToken l.kind l.text × (option_map (coming old) left ≡ option_map (λ rest. gives l (coming new rest)) left'))

pub record StandsAhead (old : Progress) (t : Token) (new : Progress) : Type 0 where
  pub ahead : old.place ≤ t.place
  pub not_empty : t.place < t.end
  pub behind : new.place ≡ t.end

-- why no token comes; `rose` says that the source's count rose
abbrev pub TokenStop : Type 0 → Option (List ℕ) → Progress → Progress → Stop → Type 0
TokenStop rose left old new (Lex fault) = IfSome left (λ bytes. coming old bytes ≡ stops_at fault)
TokenStop rose left old new ReadFault = rose × (fed new < read_limit)
TokenStop rose left old new ReadLimit = (read_limit ≤ fed new) × IsOpen new
TokenStop rose left old new NoMemory = Unit {0}
TokenStop rose left old new End = ⊥
TokenStop rose left old new (Parse fault) = ⊥
TokenStop rose left old new (NestingLimit place) = ⊥

-- calls gave these bytes, all of them were fed, and what is still to be read is what was, with them
-- in front
pub record Along {S : Type 0} (call : S → ℕ → Option (List ℕ) → S → Type 0) (old : Progress) (source : S) (bytes : List ℕ) (new : Progress) (later : S) : Type 0 where
  pub gave : Gave call source bytes later
  pub all_fed : fed new ≡ fed old + length bytes
  pub may : (more : List ℕ) → MayCome new more → MayCome old (bytes ++ more)
  pub reads : (more : List ℕ) → MayCome new more → still_reads old (bytes ++ more) ≡ still_reads new more

-- the same, and then a token was given
pub record TokenAlong {S : Type 0} (call : S → ℕ → Option (List ℕ) → S → Type 0) (old : Progress) (source : S) (bytes : List ℕ) (t : Token) (new : Progress) (later : S) : Type 0 where
  pub gave : Gave call source bytes later
  pub all_fed : fed new ≡ fed old + length bytes
  pub may : (more : List ℕ) → MayCome new more → MayCome old (bytes ++ more)
  pub next : IsSomeAnd new.last (λ l. (token_of l ≡ t) × ((more : List ℕ) → MayCome new more → still_reads old (bytes ++ more) ≡ gives l (still_reads new more)))

-- no close parenthesis stands in what was fed
abbrev pub IsUnclosed : Progress → Type 0
IsUnclosed lexer = ClosesFrom (fed lexer) (still_reads lexer [])

-- what was taken where a source gives no more
abbrev pub StopAlong : {S : Type 0} → (S → ℕ → Option (List ℕ) → S → Type 0) → Progress → S → Stop → Progress → S → Type 0
StopAlong {S} call old source ReadFault new later = (bytes : List ℕ) × (now : S) × Along call old source bytes new now × call now piece_size None later × IsUnclosed new
StopAlong call old source ReadLimit new later = (bytes : List ℕ) × Along call old source bytes new later × IsUnclosed new
StopAlong call old source NoMemory new later = Unit {0}
StopAlong call old source End new later = Unit {0}
StopAlong call old source (Lex fault) new later = Unit {0}
StopAlong call old source (Parse fault) new later = Unit {0}
StopAlong call old source (NestingLimit place) new later = Unit {0}

-- what was taken of a source where a command stops; a fault of its bytes says it elsewhere
abbrev pub CommandCause : {S : Type 0} → (S → ℕ → Option (List ℕ) → S → Type 0) → Progress → S → Stop → Progress → S → Type 0
CommandCause call old source ReadFault new later = FailsBehind call old source new later
CommandCause call old source ReadLimit new later = MeetsLimit call old source new later
CommandCause call old source NoMemory new later = Unit {0}
CommandCause call old source End new later = Unit {0}
CommandCause call old source (Lex fault) new later = Unit {0}
CommandCause call old source (Parse fault) new later = Unit {0}
CommandCause call old source (NestingLimit place) new later = Unit {0}
