-- Where a source is called: only where the lexer, asked for what is next, wants more.
use Rattle.std.specs.Prelude.{ℕ, ◌≡◌, ◌⊎◌, true, false, List, [], ◌∷◌, ◌++◌, Option, Some, None}
use Rattle.qv_sexpr.specs.Limits.{piece_size}
use Rattle.qv_text.specs.declared.kinds.Token.{Token}
use Rattle.qv_text.specs.declared.kinds.TokenKind.TheVariants.{LeftParen, RightParen}
use Rattle.qv_text.specs.declared.kinds.Lexed.{Lexed}
use Rattle.qv_text.specs.declared.kinds.Lexed.TheVariants.{Token as GotToken, More, End as AtEnd, Fault as GotFault}
use Rattle.qv_text.specs.Progress.{Progress, fed, is_parenthesis, Answers}
use Rattle.qv_sexpr.specs.declared.answers.ParseKind.{ParseKind}
use Rattle.qv_sexpr.specs.declared.answers.ParseKind.TheVariants.{Close, Atom, Unfinished}
use Rattle.qv_sexpr.specs.declared.answers.Stop.{Stop}
use Rattle.qv_sexpr.specs.declared.answers.Stop.TheVariants.{End, ReadFault, ReadLimit, Lex, Parse, NestingLimit, NoMemory}

-- the lexer was asked for what is next, and answered this
pub record Asked (old : Progress) (answer : Lexed) (new : Progress) : Type 0 where
  pub answers : Answers old answer new
  pub finished : new.finished ≡ old.finished
  pub fed : fed new ≡ fed old

-- the lexer, fed what a call gave; the text ends where it gave nothing
abbrev pub fed_with : List ℕ → Progress → Progress
fed_with [] lexer = record lexer { finished = true }
fed_with (b ∷ bs) lexer = record lexer { rest = lexer.rest ++ b ∷ bs; last = None }

-- In what follows `call` says what one call makes of a source. Each call asks for `piece_size`
-- bytes.

-- what happened to a lexer and a source, step by step: the lexer was asked, or it answered `More`,
-- the source was called once, and the lexer was fed what it gave
pub data OnDemand {S : Type 0} (call : S → ℕ → Option (List ℕ) → S → Type 0) (old : Progress) (source : S) : Progress → S → Type 0 where
  nothing : OnDemand call old source old source
  asked : (lexer : Progress) (now : S) (answer : Lexed) (new : Progress) → OnDemand call old source lexer now → Asked lexer answer new → OnDemand call old source new now
  called : (lexer : Progress) (now : S) (new : Progress) (bytes : List ℕ) (later : S) →
      OnDemand call old source lexer now → Asked lexer More new → call now piece_size (Some bytes) later → OnDemand call old source (fed_with bytes new) later

-- the last that happened is this answer of the lexer
abbrev pub EndsAsked : {S : Type 0} → (S → ℕ → Option (List ℕ) → S → Type 0) → Progress → S → Lexed → Progress → S → Type 0
EndsAsked call old source answer new source' = (lexer : Progress) × OnDemand call old source lexer source' × Asked lexer answer new

-- the last that happened is this call, where the lexer answered `More`, and nothing of it was fed
abbrev pub EndsCalled : {S : Type 0} → (S → ℕ → Option (List ℕ) → S → Type 0) → Progress → S → Option (List ℕ) → Progress → S → Type 0
EndsCalled {S} call old source given new source' = (now : S) × EndsAsked call old source More new now × call now piece_size given source'

-- what happened before such a fault of a command: the text ended, or a token came, at this place,
-- that may not stand between commands
abbrev pub RefusesOnDemand : {S : Type 0} → (S → ℕ → Option (List ℕ) → S → Type 0) → Progress → S → ParseKind → ℕ → Progress → S → Type 0
RefusesOnDemand call old source Unfinished place new source' = EndsAsked call old source AtEnd new source'
RefusesOnDemand call old source Close place new source' = (t : Token) × EndsAsked call old source (GotToken t) new source' × (t.kind ≡ RightParen) × (t.place ≡ place)
RefusesOnDemand call old source Atom place new source' = (t : Token) × EndsAsked call old source (GotToken t) new source' × (is_parenthesis t.kind ≡ false) × (t.place ≡ place)

-- what happened before a command came, or before reading stopped so
abbrev pub ReadsOnDemand : {S : Type 0} → (S → ℕ → Option (List ℕ) → S → Type 0) → Progress → S → Option Stop → Progress → S → Type 0
-- nothing behind the command's close parenthesis
ReadsOnDemand call old source None new source' = (close : Token) × EndsAsked call old source (GotToken close) new source' × (close.kind ≡ RightParen)
ReadsOnDemand call old source (Some ReadLimit) new source' = EndsAsked call old source More new source'
ReadsOnDemand call old source (Some ReadFault) new source' = EndsCalled call old source None new source'
ReadsOnDemand call old source (Some NoMemory) new source' = OnDemand call old source new source' ⊎ ((bytes : List ℕ) × EndsCalled call old source (Some bytes) new source')
-- nothing behind the answer that shows it
ReadsOnDemand call old source (Some End) new source' = EndsAsked call old source AtEnd new source'
ReadsOnDemand call old source (Some (Lex fault)) new source' = EndsAsked call old source (GotFault fault) new source'
ReadsOnDemand call old source (Some (Parse fault)) new source' = RefusesOnDemand call old source fault.kind fault.place new source'
ReadsOnDemand call old source (Some (NestingLimit place)) new source' = (t : Token) × EndsAsked call old source (GotToken t) new source' × (t.kind ≡ LeftParen) × (t.place ≡ place)
