-- What the user of a lexer sees of it.
use Rattle.std.specs.Prelude.{ℕ, ◌≡◌, ◌≢◌, ◌+◌, ◌≤◌, ◌<◌, Bool, true, false, List, [], ◌++◌, length, Option, IsTrue, IsSomeAnd}
use Rattle.qv_text.specs.declared.kinds.TokenKind.{TokenKind}
use Rattle.qv_text.specs.declared.kinds.TokenKind.TheVariants.{LeftParen, RightParen}
use Rattle.qv_text.specs.declared.kinds.Token.{Token}
use Rattle.qv_text.specs.declared.kinds.LexFault.{LexFault}
use Rattle.qv_text.specs.declared.kinds.Lexed.{Lexed}
use Rattle.qv_text.specs.declared.kinds.Lexed.TheVariants.{Token as GotToken, More, End, Fault}
use Rattle.qv_text.specs.Reading.{Lexeme, Tokens, tokens, ends, stops_at, gives, first, token_of}

-- rest is what was fed and not yet read, from this place on; last is the token that was given last,
-- until more is fed
pub record Progress : Type 0 where
  pub place : ℕ
  pub rest : List ℕ
  pub finished : Bool
  pub last : Option Lexeme

-- the number of bytes fed in all
abbrev pub fed : Progress → ℕ
fed l = l.place + length l.rest

-- bytes that may still come: none once the lexer is finished
abbrev pub MayCome : Progress → List ℕ → Type 0
MayCome l more = IsTrue l.finished → more ≡ []

-- what is still to be read, if these bytes come
abbrev pub still_reads : Progress → List ℕ → Tokens
still_reads l more = tokens l.place (l.rest ++ more)

-- the lexer gave this token: whatever comes, it is the next one, and new stands behind it
pub record GivesToken (old : Progress) (t : Token) (new : Progress) : Type 0 where
  pub next : IsSomeAnd new.last (λ l. (token_of l ≡ t) × ((more : List ℕ) → MayCome old more → still_reads old more ≡ gives l (still_reads new more)))
  pub place : new.place ≡ t.end
  pub ahead : old.place ≤ t.place
  pub not_empty : t.place < t.end

-- whatever comes, the same is still to be read
pub record ReadsTheSame (old new : Progress) : Type 0 where
  pub reads : (more : List ℕ) → still_reads new more ≡ still_reads old more
  pub last : new.last ≡ old.last

-- what comes decides what is next: some bytes change it
abbrev pub IsOpen : Progress → Type 0
IsOpen l = (more : List ℕ) × (first (still_reads l more) ≢ first (still_reads l []))

abbrev pub is_parenthesis : TokenKind → Bool
is_parenthesis LeftParen = true
is_parenthesis RightParen = true
is_parenthesis _ = false

-- More bytes decide what is next. Whatever comes, a parenthesis that is next isn't among those that
-- were fed.
pub record Waits (old new : Progress) : Type 0 where
  pub unfinished : old.finished ≡ false
  pub undecided : IsOpen old
  pub no_parenthesis : (more : List ℕ) (t : Token) → first (still_reads old more) ≡ GotToken t → IsTrue (is_parenthesis t.kind) → fed old < t.end
  pub same : ReadsTheSame old new

-- the text is finished, and no token is left
pub record Ends (old new : Progress) : Type 0 where
  pub finished : old.finished ≡ true
  pub nothing : still_reads old [] ≡ ends
  pub same : ReadsTheSame old new

-- this fault is next, whatever comes
pub record Faults (old : Progress) (fault : LexFault) (new : Progress) : Type 0 where
  pub next : (more : List ℕ) → MayCome old more → still_reads old more ≡ stops_at fault
  pub same : ReadsTheSame old new

-- what the lexer may answer, and what it leaves
abbrev pub Answers : Progress → Lexed → Progress → Type 0
Answers old (GotToken t) new = GivesToken old t new
Answers old More new = Waits old new
Answers old End new = Ends old new
Answers old (Fault fault) new = Faults old fault new
