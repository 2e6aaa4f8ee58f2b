-- How the items of a command are gathered token by token. No public contract cites this.
use Rattle.std.specs.Prelude.{ℕ, ◌≡◌, ◌+◌, ◌⊎◌, Bool, true, false, List, [], ◌∷◌, ◌++◌, length, Result, Ok, Err}
use Rattle.qv_text.specs.declared.kinds.TokenKind.{TokenKind}
use Rattle.qv_text.specs.declared.kinds.TokenKind.TheVariants.{LeftParen, RightParen}
use Rattle.qv_text.specs.Progress.{is_parenthesis}
use Rattle.qv_text.specs.Reading.{Lexeme, Tokens, ends, gives}
use Rattle.qv_sexpr.specs.declared.answers.ParseKind.{ParseKind}
use Rattle.qv_sexpr.specs.declared.answers.ParseKind.TheVariants.{Close, Atom, Unfinished}
use Rattle.qv_sexpr.specs.declared.answers.Stop.{Stop}
use Rattle.qv_sexpr.specs.declared.answers.Stop.TheVariants.{End, ReadFault, ReadLimit, Lex, Parse, NestingLimit, NoMemory}
use Rattle.qv_sexpr.specs.declared.building.Builder.{Builder}
use Rattle.qv_sexpr.specs.declared.items.Item.{Item}
use Rattle.qv_sexpr.specs.declared.items.ItemKind.TheVariants.{Open}
use Rattle.qv_sexpr.specs.Reader.{IsEnd}
use Rattle.qv_sexpr.specs.Script.{Tree, Trees, Script, Behind, none, also, command, shows, by_kind, encloses, matched, script_of}
use Rattle.qv_sexpr.specs.Items.{IsParenAt, StandAll, Stands}

-- whether a token of this kind is an atom
abbrev pub is_atom : TokenKind → Bool
is_atom kind = by_kind kind false false true

-- the lists that are open, the innermost first: where each begins, and what stands in it so far
abbrev pub Levels : Type 0
Levels = List (ℕ × Trees)

-- where the outermost of them begins
abbrev pub outermost : ℕ → Levels → ℕ
outermost place [] = place
outermost place (level ∷ outer) = outermost level.0 outer

abbrev pub start_of : Levels → ℕ
start_of levels = outermost 0 levels

-- expressions, and then what is behind them
abbrev pub in_front : Trees → Behind → Behind
in_front none more = more
in_front (also e es) more = shows e (in_front es more)

-- open lists, and then what is behind them
abbrev pub enclosed : Levels → Behind → Behind
enclosed [] more = more
enclosed (level ∷ outer) more = enclosed outer (encloses level.0 (in_front level.1 more))

-- what is read where these lists are open and these tokens come
unfoldable pub resumes : Levels → Tokens → Script
resumes levels ts = script_of (enclosed levels (matched (start_of levels) (length levels) ts))

-- The items up to before number j are those of these open lists; `unclosed` has the numbers of
-- their parentheses.
abbrev pub Opened : List Item → List ℕ → List ℕ → Levels → ℕ → Type 0
Opened items text unclosed [] j = (unclosed ≡ []) × (j ≡ 0)
Opened items text unclosed (level ∷ outer) j =
    (others : List ℕ) × (i : ℕ) × (n : ℕ) × (unclosed ≡ others ++ i ∷ []) × IsParenAt items i (Open n) level.0 × StandAll items text (i + 1) level.1 j × Opened items text others outer i

abbrev pub Builds : Builder → Levels → Type 0
Builds b levels = Opened b.items.items b.text.items b.unclosed.items levels (length b.items.items)

-- the lists that are open now: what was read before is read on from them
abbrev pub Resumes : Levels → Lexeme → Builder → Type 0
Resumes levels l new = (now : Levels) × Builds new now × ((ts : Tokens) → resumes levels (gives l ts) ≡ resumes now ts)

-- the command is complete, with a close parenthesis
abbrev pub Completes : Levels → Lexeme → Builder → Type 0
Completes levels l new =
    (tree : Tree) × Stands new.items.items new.text.items 0 tree (length new.items.items) × ((ts : Tokens) → resumes levels (gives l ts) ≡ command tree (resumes [] ts)) × (l.kind ≡ RightParen)

-- which tokens are refused between commands with such a fault
abbrev pub IsRefused : ParseKind → TokenKind → Type 0
IsRefused Close kind = kind ≡ RightParen
IsRefused Atom kind = is_parenthesis kind ≡ false
IsRefused Unfinished kind = ⊥

-- a token of this kind at this place shows that reading stops so
abbrev pub TokenShows : TokenKind → ℕ → Stop → Type 0
TokenShows kind place (Parse fault) = IsRefused fault.kind kind × (place ≡ fault.place)
TokenShows kind place (NestingLimit limit) = (kind ≡ LeftParen) × (place ≡ limit)
TokenShows kind place End = ⊥
TokenShows kind place (Lex fault) = ⊥
TokenShows kind place ReadFault = ⊥
TokenShows kind place ReadLimit = ⊥
TokenShows kind place NoMemory = ⊥

-- the end of the text shows that reading stops so
abbrev pub EndShows : Stop → Type 0
EndShows End = Unit {0}
EndShows (Parse fault) = fault.kind ≡ Unfinished
EndShows (Lex fault) = ⊥
EndShows (NestingLimit place) = ⊥
EndShows ReadFault = ⊥
EndShows ReadLimit = ⊥
EndShows NoMemory = ⊥

-- reading stops here, unless memory ran out
abbrev pub Refuses : Levels → Lexeme → Stop → Type 0
Refuses levels l stop = (stop ≡ NoMemory) ⊎ (TokenShows l.kind l.place stop × ((ts : Tokens) → IsEnd stop (resumes levels (gives l ts))))

-- what taking a token does where these lists are open
abbrev pub TakenAt : Levels → Lexeme → Result Bool Stop → Builder → Type 0
TakenAt levels l (Ok false) new = Resumes levels l new
TakenAt levels l (Ok true) new = Completes levels l new
TakenAt levels l (Err stop) new = Refuses levels l stop

abbrev pub Takes : Builder → Lexeme → Result Bool Stop → Builder → Type 0
Takes old l result new = (levels : Levels) → Builds old levels → TakenAt levels l result new

-- why reading stops where the text ends
abbrev pub StopsAtEnd : Levels → Stop → Type 0
StopsAtEnd levels stop = EndShows stop × IsEnd stop (resumes levels ends)
