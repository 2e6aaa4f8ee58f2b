-- Commands of a source.
use Rattle.std.proofs.Common.{ℕ, ◌≡◌, ◌≤◌, inl, inr, List, [], length, Option, Some, None, option_map, IfSome, IfNone, IsSomeAnd, refl, sym, ap, subst, ◌∙◌, arith}
use Rattle.qv_io.specs.Count.{Rose}
use Rattle.qv_text.specs.declared.kinds.Token.{Token}
use Rattle.qv_text.specs.declared.kinds.TokenKind.{TokenKind}
use Rattle.qv_text.specs.declared.kinds.LexFault.{LexFault}
use Rattle.qv_text.specs.Reading.{Lexeme, Tokens, ends, stops_at, gives, token_of}
use Rattle.qv_text.specs.Progress.{Progress}
use Rattle.qv_sexpr.specs.declared.answers.Stop.{Stop}
use Rattle.qv_sexpr.specs.declared.answers.Stop.TheVariants.{End, ReadFault, ReadLimit, Lex, Parse, NestingLimit, NoMemory}
use Rattle.qv_sexpr.specs.Script.{Tree, Script, lexical, stops, command, commands, matched, script_of}
use Rattle.qv_sexpr.specs.declared.items.Item.{Item}
use Rattle.qv_sexpr.specs.Items.{Stands}
use Rattle.qv_sexpr.specs.Reader.{coming, behind, IsEnd, CommandStop}
use Rattle.qv_sexpr.specs.Input.{GetsToken, TokenStop}
use Rattle.qv_sexpr.specs.Building.{Levels, resumes, TokenShows, EndShows, Refuses}
use Rattle.qv_sexpr.proofs.Levels.{enclosed_halts}

-- functions that agree agree on what there is
pub map_agree : {A B : Type 0} (f g : A → B) (o : Option A) → ((x : A) → f x ≡ g x) → option_map f o ≡ option_map g o
map_agree f g None h = refl
map_agree f g (Some x) h = ap Some (h x)

pub map_both : {A B C D : Type 0} (k : C → D) (f : A → C) (g : B → C) (o : Option A) (p : Option B) → option_map f o ≡ option_map g p → option_map (λ x. k (f x)) o ≡ option_map (λ y. k (g y)) p
map_both k f g None None h = refl
map_both k f g None (Some y) h = cc
map_both k f g (Some x) None h = cc
map_both k f g (Some x) (Some y) h = let e : f x ≡ g y = cc in ap (λ z. Some (k z)) e

pub if_agree : {A : Type 0} (o : Option A) (q : Option Script) (f : A → Script) (P : Script → Type 0) → q ≡ option_map f o → IfSome o (λ x. P (f x)) → IfSome q P
if_agree None None f P e h = tt
if_agree None (Some t) f P e h = cc
if_agree (Some x) None f P e h = tt
if_agree (Some x) (Some t) f P e h = let same : f x ≡ t = cc in subst P same h

pub if_map : {A B : Type 0} (o : Option A) (f : A → B) (x : B) (k : B → Script) → IfSome o (λ a. f a ≡ x) → IfSome o (λ a. k (f a) ≡ k x)
if_map None f x k h = tt
if_map (Some a) f x k h = ap k h

pub resumes_none : (ts : Tokens) → resumes [] ts ≡ commands ts
unfolding resumes
resumes_none ts = refl

pub resumes_fault : (levels : Levels) (fault : LexFault) → resumes levels (stops_at fault) ≡ stops (lexical fault)
unfolding resumes matched
resumes_fault levels fault = ap script_of (enclosed_halts levels (lexical fault))

pub behind_start : (lexer : Progress) (left : Option (List ℕ)) → behind lexer left ≡ option_map (λ bytes. resumes [] (coming lexer bytes)) left
behind_start lexer left = map_agree (λ bytes. commands (coming lexer bytes)) (λ bytes. resumes [] (coming lexer bytes)) left (λ bytes. sym (resumes_none (coming lexer bytes)))

-- a count that rose later
pub rose_later : (first mid last : ℕ) → first ≤ mid → mid ≤ last → Rose mid last → Rose first last
rose_later first mid last h k r = grind arith

-- what is read on from the lists that are open, once a token came
pub told_on : (levels : Levels) (old mid new : Progress) (first left left' : Option (List ℕ)) (l : Lexeme) → behind old first ≡ option_map (λ bytes. resumes levels (coming mid bytes)) left →
    option_map (coming mid) left ≡ option_map (λ rest. gives l (coming new rest)) left' → behind old first ≡ option_map (λ rest. resumes levels (gives l (coming new rest))) left'
told_on levels old mid new first left left' l e h = e ∙ map_both (resumes levels) (coming mid) (λ rest. gives l (coming new rest)) left left' h

pub told_command : (levels : Levels) (old new : Progress) (first left : Option (List ℕ)) (l : Lexeme) (tree : Tree) → behind old first ≡ option_map (λ rest. resumes levels (gives l (coming new rest))) left →
    ((ts : Tokens) → resumes levels (gives l ts) ≡ command tree (resumes [] ts)) → behind old first ≡ option_map (command tree) (behind new left)
told_command levels old new first left l tree e h =
    e
    ∙ map_agree (λ rest. resumes levels (gives l (coming new rest))) (λ rest. command tree (commands (coming new rest))) left (λ rest. h (coming new rest) ∙ ap (command tree) (resumes_none (coming new rest)))
    ∙ sym (map_map left)
  where
    map_map : (o : Option (List ℕ)) → option_map (command tree) (behind new o) ≡ option_map (λ rest. command tree (commands (coming new rest))) o
    map_map None = refl
    map_map (Some rest) = refl

-- a stop that a token shows
token_shown : (rose : Type 0) (old : Option Script) (new : Progress) (kind : TokenKind) (place : ℕ) (stop : Stop) → TokenShows kind place stop → IfSome old (IsEnd stop) → CommandStop rose old new stop
token_shown rose old new kind place (Parse fault) t h = h
token_shown rose old new kind place (NestingLimit limit) t h = h
token_shown rose old new kind place NoMemory t h = tt
token_shown rose old new kind place End t h = absurd t
token_shown rose old new kind place (Lex fault) t h = absurd t
token_shown rose old new kind place ReadFault t h = absurd t
token_shown rose old new kind place ReadLimit t h = absurd t

-- a stop that the end of the text shows
end_shown : (rose : Type 0) (old : Option Script) (new : Progress) (stop : Stop) → EndShows stop → IfSome old (IsEnd stop) → CommandStop rose old new stop
end_shown rose old new End t h = h
end_shown rose old new (Parse fault) t h = h
end_shown rose old new NoMemory t h = tt
end_shown rose old new (Lex fault) t h = absurd t
end_shown rose old new (NestingLimit place) t h = absurd t
end_shown rose old new ReadFault t h = absurd t
end_shown rose old new ReadLimit t h = absurd t

-- no token came
pub token_stop : (now later : Type 0) (levels : Levels) (old mid new : Progress) (first left : Option (List ℕ)) (stop : Stop) → (now → later) → behind old first ≡ option_map (λ bytes. resumes levels (coming mid bytes)) left →
    TokenStop now left mid new stop → CommandStop later (behind old first) new stop
token_stop now later levels old mid new first left (Lex fault) rose e h =
    if_agree left (behind old first) (λ bytes. resumes levels (coming mid bytes)) (λ s. s ≡ stops (lexical fault)) e
    (if_same left (λ bytes. resumes levels (coming mid bytes)) (resumes levels (stops_at fault)) (stops (lexical fault)) (resumes_fault levels fault) (if_map left (coming mid) (stops_at fault) (resumes levels) h))
  where
    if_same : (o : Option (List ℕ)) (f : List ℕ → Script) (s t : Script) → s ≡ t → IfSome o (λ x. f x ≡ s) → IfSome o (λ x. f x ≡ t)
    if_same None f s t e h = tt
    if_same (Some x) f s t e h = h ∙ e
token_stop now later levels old mid new first left ReadFault rose e h = (rose h.0, h.1)
token_stop now later levels old mid new first left ReadLimit rose e h = h
token_stop now later levels old mid new first left NoMemory rose e h = tt
token_stop now later levels old mid new first left End rose e h = absurd h
token_stop now later levels old mid new first left (Parse fault) rose e h = absurd h
token_stop now later levels old mid new first left (NestingLimit place) rose e h = absurd h

-- the text ended
pub end_stop : (rose : Type 0) (levels : Levels) (old mid new : Progress) (first left : Option (List ℕ)) (stop : Stop) → behind old first ≡ option_map (λ bytes. resumes levels (coming mid bytes)) left →
    IfSome left (λ bytes. coming mid bytes ≡ ends) → EndShows stop × IsEnd stop (resumes levels ends) → CommandStop rose (behind old first) new stop
end_stop rose levels old mid new first left stop e h s =
    end_shown rose (behind old first) new stop s.0
    (if_agree left (behind old first) (λ bytes. resumes levels (coming mid bytes)) (IsEnd stop) e (at_end left h))
  where
    at_end : (o : Option (List ℕ)) → IfSome o (λ bytes. coming mid bytes ≡ ends) → IfSome o (λ bytes. IsEnd stop (resumes levels (coming mid bytes)))
    at_end None h = tt
    at_end (Some bytes) h = subst (λ ts. IsEnd stop (resumes levels ts)) (sym h) s.1

-- a token was refused
pub take_stop : (rose : Type 0) (levels : Levels) (old new : Progress) (first left : Option (List ℕ)) (l : Lexeme) (stop : Stop) → behind old first ≡ option_map (λ rest. resumes levels (gives l (coming new rest))) left →
    Refuses levels l stop → CommandStop rose (behind old first) new stop
take_stop rose levels old new first left l stop e (inl h) = subst (CommandStop rose (behind old first) new) (sym h) tt
take_stop rose levels old new first left l stop e (inr h) =
    token_shown rose (behind old first) new l.kind l.place stop h.0 (if_agree left (behind old first) (λ rest. resumes levels (gives l (coming new rest))) (IsEnd stop) e (always left))
  where
    always : (o : Option (List ℕ)) → IfSome o (λ rest. IsEnd stop (resumes levels (gives l (coming new rest))))
    always None = tt
    always (Some rest) = h.1 (coming new rest)

-- a token with this text
abbrev pub with_text : Token → List ℕ → Lexeme
with_text t text = record { kind = t.kind; place = t.place; text = text }

-- the token of a lexeme, with that lexeme's text
pub lexeme_is : (l : Lexeme) (t : Token) (text : List ℕ) → token_of l ≡ t → text ≡ l.text → with_text t text ≡ l
lexeme_is l t text e f = ap (λ (x : Token). with_text x text) (sym e) ∙ ap (λ (xs : List ℕ). with_text (token_of l) xs) f

pub some_at : {X : Type 0} (P : X → Type 0) (o : Option X) (x : X) → o ≡ Some x → IfSome o P → P x
some_at P o x e h = subst (λ y. IfSome y P) e h

pub none_at : {X : Type 0} (P : Type 0) (o : Option X) → o ≡ None → IfNone o P → P
none_at P o e h = subst (λ y. IfNone y P) e h

-- other names of the same items
pub stands_as : (items items' : List Item) (text text' : List ℕ) (tree : Tree) → items' ≡ items → text' ≡ text → Stands items text 0 tree (length items) → Stands items' text' 0 tree (length items')
stands_as items items' text text' tree e f h =
    subst (λ (is : List Item). Stands is text' 0 tree (length is)) (sym e) (subst (λ (t : List ℕ). Stands items t 0 tree (length items)) (sym f) h)

pub some_and : {P : Lexeme → Type 0} (o : Option Lexeme) → IsSomeAnd o P → (l : Lexeme) × (o ≡ Some l) × P l
some_and None h = absurd h
some_and (Some l) h = (l, refl, h)

-- the lexeme that came, and what is read on from it
pub next_in : (levels : Levels) (old mid new : Progress) (first left left' : Option (List ℕ)) (found : Option Token) (t : Token) (text : List ℕ) → found ≡ Some t →
    IfSome found (λ x. GetsToken left mid x left' new) → IfSome new.last (λ l. text ≡ l.text) → behind old first ≡ option_map (λ bytes. resumes levels (coming mid bytes)) left →
    (l : Lexeme) × (with_text t text ≡ l) × (behind old first ≡ option_map (λ rest. resumes levels (gives l (coming new rest))) left')
next_in levels old mid new first left left' found t text e gets same told =
    let got : GetsToken left mid t left' new = some_at (λ x. GetsToken left mid x left' new) found t e gets in
    let came = some_and new.last got in (
      came.0,
      lexeme_is came.0 t text came.2.0 (some_at (λ l. text ≡ l.text) new.last came.0 came.1 same),
      told_on levels old mid new first left left' came.0 told came.2.2,
    )
