-- Open lists.
use Rattle.std.proofs.Common.{ℕ, suc, ◌==◌, ◌≡◌, true, false, cond, List, [], ◌∷◌, length, Ok, Err, refl, sym, ap, ◌∙◌}
use Rattle.qv_text.specs.declared.kinds.TokenKind.{TokenKind}
use Rattle.qv_text.specs.declared.kinds.TokenKind.TheVariants.{LeftParen, RightParen}
use Rattle.qv_text.specs.Progress.{is_parenthesis}
use Rattle.qv_text.specs.Reading.{Lexeme, Tokens, ends, stops_at, gives}
use Rattle.qv_sexpr.specs.declared.answers.ParseKind.TheVariants.{Close, Atom, Unfinished}
use Rattle.qv_sexpr.specs.Limits.{nesting_limit}
use Rattle.qv_sexpr.specs.Script.{Tree, Trees, TextEnd, Behind, all_read, parsing, nesting, atom, list, none, also, stops, command, halts, shows, closes, with_tree, up_to_close, as_list, encloses, by_kind, command_start, matched, script_of}
use Rattle.qv_sexpr.specs.Building.{Levels, outermost, start_of, in_front, enclosed, resumes, is_atom}
use Rattle.qv_sexpr.proofs.Standing.{snoc}

-- where reading stops, no open list is closed
in_front_halts : (es : Trees) (end : TextEnd) → up_to_close (in_front es (halts end)) ≡ Err end
in_front_halts none end = refl
in_front_halts (also e es) end = ap (with_tree e) (in_front_halts es end)

pub enclosed_halts : (levels : Levels) (end : TextEnd) → enclosed levels (halts end) ≡ halts end
enclosed_halts [] end = refl
enclosed_halts (level ∷ outer) end =
    ap (λ b. enclosed outer (as_list level.0 b)) (in_front_halts level.1 end)
    ∙ enclosed_halts outer end

-- what stands in front of a close is what the list has
in_front_closes : (es : Trees) (place : ℕ) (more : Behind) → up_to_close (in_front es (closes place more)) ≡ Ok (es, place, more)
in_front_closes none place more = refl
in_front_closes (also e es) place more = ap (with_tree e) (in_front_closes es place more)

pub encloses_closes : (start : ℕ) (es : Trees) (place : ℕ) (more : Behind) → encloses start (in_front es (closes place more)) ≡ shows (list start es place) more
encloses_closes start es place more = ap (as_list start) (in_front_closes es place more)

-- one more expression of the innermost list
pub in_front_snoc : (es : Trees) (e : Tree) (more : Behind) → in_front (snoc es e) more ≡ in_front es (shows e more)
unfolding snoc
in_front_snoc none e more = refl
in_front_snoc (also first es) e more = ap (shows first) (in_front_snoc es e more)

-- between commands it doesn't matter where one begins
matched_start : (start : ℕ) (ts : Tokens) → matched start 0 ts ≡ matched 0 0 ts
unfolding matched
matched_start start ends = refl
matched_start start (stops_at fault) = refl
matched_start start (gives l rest) =
    ap (λ more. by_kind l.kind (encloses l.place (matched l.place 1 rest)) (closes l.place more) (shows (atom l) more)) (matched_start start rest)

-- a token that opens a list
pub resumes_open : (levels : Levels) (place : ℕ) (text : List ℕ) (ts : Tokens) → (length levels == nesting_limit) ≡ false →
    resumes levels (gives (record { kind = LeftParen; place = place; text = text }) ts) ≡ resumes ((place, none) ∷ levels) ts
unfolding resumes matched
resumes_open [] place text ts h = refl
resumes_open (level ∷ outer) place text ts h =
    ap (λ t. script_of (enclosed (level ∷ outer) (cond t (halts (nesting place)) (encloses place (matched (start_of (level ∷ outer)) (suc (length (level ∷ outer))) ts))))) h

pub resumes_limit : (levels : Levels) (place : ℕ) (text : List ℕ) (ts : Tokens) → (length levels == nesting_limit) ≡ true →
    resumes levels (gives (record { kind = LeftParen; place = place; text = text }) ts) ≡ stops (nesting place)
unfolding resumes matched
resumes_limit levels place text ts h =
    ap (λ t. script_of (enclosed levels (cond t (halts (nesting place)) (encloses place (matched (command_start (length levels) (start_of levels) place) (suc (length levels)) ts))))) h
    ∙ ap script_of (enclosed_halts levels (nesting place))

-- a token that closes one
pub resumes_close : (start : ℕ) (es : Trees) (start' : ℕ) (es' : Trees) (outer : Levels) (place : ℕ) (text : List ℕ) (ts : Tokens) →
    resumes ((start, es) ∷ (start', es') ∷ outer) (gives (record { kind = RightParen; place = place; text = text }) ts) ≡ resumes ((start', snoc es' (list start es place)) ∷ outer) ts
unfolding resumes matched
resumes_close start es start' es' outer place text ts =
    let more = matched (outermost start' outer) (suc (length outer)) ts in
    ap (λ b. script_of (enclosed outer (encloses start' (in_front es' b)))) (encloses_closes start es place more)
    ∙ ap (λ b. script_of (enclosed outer (encloses start' b))) (sym (in_front_snoc es' (list start es place) more))

pub resumes_complete : (start : ℕ) (es : Trees) (place : ℕ) (text : List ℕ) (ts : Tokens) →
    resumes ((start, es) ∷ []) (gives (record { kind = RightParen; place = place; text = text }) ts) ≡ command (list start es place) (resumes [] ts)
unfolding resumes matched
resumes_complete start es place text ts =
    ap script_of (encloses_closes start es place (matched start 0 ts))
    ∙ ap (λ b. command (list start es place) (script_of b)) (matched_start start ts)

pub resumes_unmatched : (place : ℕ) (text : List ℕ) (ts : Tokens) →
    resumes [] (gives (record { kind = RightParen; place = place; text = text }) ts) ≡ stops (parsing (record { place = place; kind = Close }))
unfolding resumes matched
resumes_unmatched place text ts = refl

-- what doesn't open or close a list
by_atom : {A : Type 0} (kind : TokenKind) (a b c : A) → is_atom kind ≡ true → by_kind kind a b c ≡ c
by_atom LeftParen a b c h = cc
by_atom RightParen a b c h = cc
by_atom _ a b c h = refl

pub no_parenthesis : (kind : TokenKind) → is_atom kind ≡ true → is_parenthesis kind ≡ false
no_parenthesis LeftParen h = cc
no_parenthesis RightParen h = cc
no_parenthesis _ h = refl

pub resumes_atom : (start : ℕ) (es : Trees) (outer : Levels) (l : Lexeme) (ts : Tokens) → is_atom l.kind ≡ true →
    resumes ((start, es) ∷ outer) (gives l ts) ≡ resumes ((start, snoc es (atom l)) ∷ outer) ts
unfolding resumes matched
resumes_atom start es outer l ts h =
    let more = matched (outermost start outer) (suc (length outer)) ts in
    ap (λ b. script_of (enclosed outer (encloses start (in_front es b)))) (by_atom l.kind _ _ (shows (atom l) more) h)
    ∙ ap (λ b. script_of (enclosed outer (encloses start b))) (sym (in_front_snoc es (atom l) more))

pub resumes_outside : (l : Lexeme) (ts : Tokens) → is_atom l.kind ≡ true → resumes [] (gives l ts) ≡ stops (parsing (record { place = l.place; kind = Atom }))
unfolding resumes matched
resumes_outside l ts h = ap script_of (by_atom l.kind _ _ (shows (atom l) (matched 0 0 ts)) h)

-- the end of the text
pub resumes_end : resumes [] ends ≡ stops all_read
unfolding resumes matched
resumes_end = refl

pub resumes_unfinished : (level : ℕ × Trees) (outer : Levels) → resumes (level ∷ outer) ends ≡ stops (parsing (record { place = start_of (level ∷ outer); kind = Unfinished }))
unfolding resumes matched
resumes_unfinished level outer = ap script_of (enclosed_halts (level ∷ outer) (parsing (record { place = start_of (level ∷ outer); kind = Unfinished })))
