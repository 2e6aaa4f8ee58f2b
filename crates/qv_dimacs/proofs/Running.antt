-- Byte by byte a text is read as what it says.
use Rattle.std.proofs.Common.{◌≡◌, ℕ, ◌+◌, ◌<◌, Bool, true, false, cond, eqb, ◌&&◌, List, [], ◌∷◌, ◌++◌, length, Option, Some, None, refl, sym, ap, subst, ◌∙◌, inl, inr, arith}
use Rattle.std.specs.List.{flat_map}
use Rattle.std.proofs.lemmas.Bool.{cases_Bool}
use Rattle.std.proofs.lemmas.List.{append_assoc, length-append}
use Rattle.qv_cnf.specs.Literal.{Literal}
use Rattle.qv_lrat_text.specs.Words.{is_byte_word}
use Rattle.qv_dimacs.specs.declared.faults.DimacsKind.TheVariants.{ProblemLine, Unfinished}
use Rattle.qv_dimacs.specs.declared.words.Seen.{Seen}
use Rattle.qv_dimacs.specs.declared.machine.Stage.{Stage}
use Rattle.qv_dimacs.specs.declared.machine.Stage.TheVariants as stage
use Rattle.qv_dimacs.specs.declared.machine.At.{At}
use Rattle.qv_dimacs.specs.declared.machine.At.TheVariants as at
use Rattle.qv_dimacs.specs.Text.{is_white, Word, with_word, lines_from}
use Rattle.qv_dimacs.specs.Clauses.{Said, Clauses, Faulty, is_cnf, is_numeral, pass, problem_line, with_literal, is_none, begun as begun_at, clauses_from, problem_at, file_of, no_comments, dimacs_of}
use Rattle.qv_dimacs.specs.Seen.{Shows, Describes, seen_literal, seen_numeral, seen_p, seen_cnf, seen_zero, seen_percent, first_seen, next_seen}
use Rattle.qv_dimacs.specs.Machine.{State, Moved, Goes, Stops, then_goes, goes_on, word_ends, item, with_item, line_ends, gap, begin, between, in_word, said_at_end, ends_with, finish, run, is_clauses, start_state}
use Rattle.qv_dimacs.proofs.SeenLemmas.{shows, describes-first, describes-next}
use Rattle.qv_dimacs.proofs.LineLemmas.{first_line, other_lines, black_c, lines-lf, lines-white, begun, others-on, IsBlack, black-push, lines-word, lines-some, with-some, comments-drop, comments-keep}

abbrev concat : List (List Word) → List Word
concat lines = flat_map (λ words. words) lines

abbrev mk : Stage → At → ℕ → ℕ → List Literal → List (List Literal) → State
mk st a place start lits done = record { stage = st; at = a; place = place; start = start; lits = lits; done = done }

-- what the lines that are still to be read say
abbrev says : Stage → ℕ → List Literal → List (List Literal) → ℕ → List (List Word) → Said
says stage.Comments start lits done end lines = file_of end lines
says stage.Letter start lits done end lines = problem_at start (is_byte_word 112 ∷ is_cnf ∷ is_numeral ∷ is_numeral ∷ []) lines
says stage.Format start lits done end lines = problem_at start (is_cnf ∷ is_numeral ∷ is_numeral ∷ []) lines
says stage.Variables start lits done end lines = problem_at start (is_numeral ∷ is_numeral ∷ []) lines
says stage.Count start lits done end lines = problem_at start (is_numeral ∷ []) lines
says stage.Whole start lits done end lines = problem_at start [] lines
says stage.Clauses start lits done end lines = clauses_from done start lits (concat lines)

-- those lines, where the text that is left has these
abbrev still_lines : At → List (List Word) → List (List Word)
still_lines at.Fresh lines = no_comments lines
still_lines at.Comment lines = no_comments (other_lines lines)
still_lines at.Gap lines = first_line lines ∷ no_comments (other_lines lines)
still_lines (at.Word place seen) lines = first_line lines ∷ no_comments (other_lines lines)

-- where the text that is left begins: at the word that has begun
abbrev from : At → ℕ → ℕ
from at.Fresh place = place
from at.Comment place = place
from at.Gap place = place
from (at.Word begins seen) place = begins

abbrev still : Stage → At → ℕ → ℕ → List Literal → List (List Literal) → List ℕ → List ℕ → Said
still st a place start lits done word text = says st start lits done (place + length text) (still_lines a (lines_from (from a place) (word ++ text)))

-- ---- what a reader keeps

abbrev in_file : Stage → Bool
in_file stage.Comments = false
in_file stage.Letter = true
in_file stage.Format = true
in_file stage.Variables = true
in_file stage.Count = true
in_file stage.Whole = true
in_file stage.Clauses = true

abbrev between_lines : Stage → Bool
between_lines stage.Comments = true
between_lines stage.Letter = false
between_lines stage.Format = false
between_lines stage.Variables = false
between_lines stage.Count = false
between_lines stage.Whole = false
between_lines stage.Clauses = true

-- before the clauses there are none
abbrev Early : Stage → List Literal → List (List Literal) → Type 0
Early st lits done = is_clauses st ≡ false → (lits ≡ []) × (done ≡ [])

abbrev Fits : Stage → At → ℕ → List ℕ → Type 0
Fits st at.Fresh place word = (word ≡ []) × (between_lines st ≡ true)
Fits st at.Comment place word = (word ≡ []) × (between_lines st ≡ true)
Fits st at.Gap place word = (word ≡ []) × (in_file st ≡ true)
Fits st (at.Word begins seen) place word = (in_file st ≡ true) × Describes seen word × (begins + length word ≡ place) × IsBlack word × (0 < length word)

-- ---- a word

-- what comes behind a word, where the states that it can lead to agree
record Leads (place : ℕ) (t : State) : Type 0 where
  pub stage_is : in_file t.stage ≡ true
  pub early : Early t.stage t.lits t.done
  pub place_is : t.place ≡ place

-- what the lines say from a state on
abbrev says_from : ℕ → List (List Word) → State → Said
says_from end lines t = says t.stage t.start t.lits t.done end lines

part-says : (b : Bool) (tests : List (List ℕ → Bool)) (start : ℕ) (test : Bool) (line : List Word) (lines : List (List Word)) → test ≡ b
    → cond (test && pass tests line) (clauses_from [] 0 [] (concat lines)) (Faulty start ProblemLine) ≡ cond b (problem_at start tests (line ∷ lines)) (Faulty start ProblemLine)
part-says true tests start test line lines h = rw h refl
part-says false tests start test line lines h = rw h refl

chosen-part : (b : Bool) (next : Stage) (s : State) (K : State → Said) → goes_on (cond b (Goes (record s { stage = next })) (Stops (Faulty s.start ProblemLine))) K ≡ cond b (K (record s { stage = next })) (Faulty s.start ProblemLine)
chosen-part true next s K = refl
chosen-part false next s K = refl

item-literal : (found : Option Literal) (s : State) (place end : ℕ) (line : List Word) (lines : List (List Word)) → s.stage ≡ stage.Clauses
    → with_literal place found (λ lit. clauses_from s.done (begun_at s.start s.lits place) (s.lits ++ lit ∷ []) (concat (line ∷ lines))) ≡ goes_on (with_item s place found) (says_from end (line ∷ lines))
item-literal None s place end line lines h = refl
item-literal (Some lit) s place end line lines h = rw h refl

item-says : (s : State) (place : ℕ) (seen : Seen) (word : List ℕ) (end : ℕ) (line : List Word) (lines : List (List Word)) → s.stage ≡ stage.Clauses → Shows seen word
    → clauses_from s.done s.start s.lits (record { place = place; text = word } ∷ concat (line ∷ lines)) ≡ goes_on (item s place seen) (says_from end (line ∷ lines))
unfolding clauses_from
item-says s place seen word end line lines h shown =
    rw (shown.zero, shown.percent, shown.literal)
    (elim (cases_Bool (seen_zero seen)) [
      | inl z ↦ rw (z, h) refl
      | inr z ↦ rw z (elim (cases_Bool (is_none s.lits && seen_percent seen)) [
        | inl p ↦ rw p refl
        | inr p ↦ rw p (item-literal (seen_literal seen) s place end line lines h)
      ])
    ])

word-says : (st : Stage) (a : At) (now start : ℕ) (lits : List Literal) (done : List (List Literal)) (place : ℕ) (seen : Seen) (word : List ℕ) (end : ℕ) (line : List Word) (lines : List (List Word))
    → in_file st ≡ true → Describes seen word
    → says st start lits done end ((record { place = place; text = word } ∷ line) ∷ lines) ≡ goes_on (word_ends (mk st a now start lits done) place seen) (says_from end (line ∷ lines))
word-says stage.Comments a now start lits done place seen word end line lines h d = absurd (cc)
word-says stage.Letter a now start lits done place seen word end line lines h d =
    part-says (seen_p seen) (is_cnf ∷ is_numeral ∷ is_numeral ∷ []) start (is_byte_word 112 word) line lines (shows seen word d).p
    ∙ sym (chosen-part (seen_p seen) stage.Format (mk stage.Letter a now start lits done) (says_from end (line ∷ lines)))
word-says stage.Format a now start lits done place seen word end line lines h d =
    part-says (seen_cnf seen) (is_numeral ∷ is_numeral ∷ []) start (is_cnf word) line lines (shows seen word d).cnf
    ∙ sym (chosen-part (seen_cnf seen) stage.Variables (mk stage.Format a now start lits done) (says_from end (line ∷ lines)))
word-says stage.Variables a now start lits done place seen word end line lines h d =
    part-says (seen_numeral seen) (is_numeral ∷ []) start (is_numeral word) line lines (shows seen word d).numeral
    ∙ sym (chosen-part (seen_numeral seen) stage.Count (mk stage.Variables a now start lits done) (says_from end (line ∷ lines)))
word-says stage.Count a now start lits done place seen word end line lines h d =
    part-says (seen_numeral seen) [] start (is_numeral word) line lines (shows seen word d).numeral
    ∙ sym (chosen-part (seen_numeral seen) stage.Whole (mk stage.Count a now start lits done) (says_from end (line ∷ lines)))
word-says stage.Whole a now start lits done place seen word end line lines h d = refl
word-says stage.Clauses a now start lits done place seen word end line lines h d =
    item-says (mk stage.Clauses a now start lits done) place seen word end line lines refl (shows seen word d)

-- where the states behind a word agree, so does all
abbrev Agrees : ℕ → Moved → Type 0
Agrees place moved = (K L : State → Said) → ((t : State) → Leads place t → K t ≡ L t) → goes_on moved K ≡ goes_on moved L

part-agrees : (b : Bool) (next : Stage) (s : State) → in_file next ≡ true → Early next s.lits s.done → Agrees s.place (cond b (Goes (record s { stage = next })) (Stops (Faulty s.start ProblemLine)))
part-agrees true next s h e = λ K L same. same (record s { stage = next }) (record { stage_is = h; early = e; place_is = refl })
part-agrees false next s h e = λ K L same. refl

none-early : (st : Stage) (lits : List Literal) (done : List (List Literal)) → is_clauses st ≡ true → Early st lits done
none-early st lits done h = λ k. absurd (cc)

item-agrees : (found : Option Literal) (s : State) (place : ℕ) → s.stage ≡ stage.Clauses → Agrees s.place (with_item s place found)
item-agrees None s place h = λ K L same. refl
item-agrees (Some lit) s place h = λ K L same.
    same (record s { lits = s.lits ++ lit ∷ []; start = begun_at s.start s.lits place })
    (record { stage_is = ap in_file h; early = none-early s.stage (s.lits ++ lit ∷ []) s.done (ap is_clauses h); place_is = refl })

items-agree : (zero percent : Bool) (found : Option Literal) (s : State) (place : ℕ) → s.stage ≡ stage.Clauses
    → Agrees s.place (cond zero (Goes (record s { done = s.done ++ s.lits ∷ []; lits = [] })) (cond percent (Stops (Clauses s.done)) (with_item s place found)))
items-agree true percent found s place h = λ K L same.
    same (record s { done = s.done ++ s.lits ∷ []; lits = [] })
    (record { stage_is = ap in_file h; early = none-early s.stage [] (s.done ++ s.lits ∷ []) (ap is_clauses h); place_is = refl })
items-agree false true found s place h = λ K L same. refl
items-agree false false found s place h = item-agrees found s place h

word-agrees : (st : Stage) (a : At) (now start : ℕ) (lits : List Literal) (done : List (List Literal)) (place : ℕ) (seen : Seen)
    → in_file st ≡ true → Early st lits done → Agrees now (word_ends (mk st a now start lits done) place seen)
word-agrees stage.Comments a now start lits done place seen h e = absurd (cc)
word-agrees stage.Letter a now start lits done place seen h e = part-agrees (seen_p seen) stage.Format (mk stage.Letter a now start lits done) refl (λ _. e refl)
word-agrees stage.Format a now start lits done place seen h e = part-agrees (seen_cnf seen) stage.Variables (mk stage.Format a now start lits done) refl (λ _. e refl)
word-agrees stage.Variables a now start lits done place seen h e = part-agrees (seen_numeral seen) stage.Count (mk stage.Variables a now start lits done) refl (λ _. e refl)
word-agrees stage.Count a now start lits done place seen h e = part-agrees (seen_numeral seen) stage.Whole (mk stage.Count a now start lits done) refl (λ _. e refl)
word-agrees stage.Whole a now start lits done place seen h e = λ K L same. refl
word-agrees stage.Clauses a now start lits done place seen h e =
    items-agree (seen_zero seen) (is_none lits && seen_percent seen) (seen_literal seen) (mk stage.Clauses a now start lits done) place refl

-- ---- the end

end_says : (st : Stage) (a : At) (place start : ℕ) (lits : List Literal) (done : List (List Literal)) (end : ℕ) → in_file st ≡ true → Early st lits done
    → says st start lits done end ([] ∷ []) ≡ said_at_end (mk st a place start lits done)
unfolding clauses_from
end_says stage.Comments a place start lits done end h e = absurd (cc)
end_says stage.Letter a place start lits done end h e = refl
end_says stage.Format a place start lits done end h e = refl
end_says stage.Variables a place start lits done end h e = refl
end_says stage.Count a place start lits done end h e = refl
end_says stage.Whole a place start lits done end h e = ap Clauses (sym (e refl).1)
end_says stage.Clauses a place start lits done end h e = refl

end-says : (t : State) (place end : ℕ) → Leads place t → says_from end ([] ∷ []) t ≡ said_at_end t
end-says t place end leads = end_says t.stage t.at t.place t.start t.lits t.done end leads.stage_is leads.early

ends-goes : (moved : Moved) → ends_with moved ≡ goes_on moved said_at_end
ends-goes (Goes s) = refl
ends-goes (Stops said) = refl

fresh-end : (st : Stage) (a : At) (place start : ℕ) (lits : List Literal) (done : List (List Literal)) → between_lines st ≡ true → said_at_end (mk st a place start lits done) ≡ says st start lits done (place + 0) []
unfolding clauses_from
fresh-end stage.Comments a place start lits done h = ap (λ (n : ℕ). Faulty n Unfinished) (zero_more place)
  where
    zero_more : (n : ℕ) → n ≡ n + 0
    zero_more n = omega arith
fresh-end stage.Letter a place start lits done h = absurd (cc)
fresh-end stage.Format a place start lits done h = absurd (cc)
fresh-end stage.Variables a place start lits done h = absurd (cc)
fresh-end stage.Count a place start lits done h = absurd (cc)
fresh-end stage.Whole a place start lits done h = absurd (cc)
fresh-end stage.Clauses a place start lits done h = refl

lines-end : (place : ℕ) → lines_from place [] ≡ [] ∷ []
unfolding lines_from
lines-end place = refl

right-end : (st : Stage) (a : At) (place start : ℕ) (lits : List Literal) (done : List (List Literal)) (word : List ℕ) → Early st lits done → Fits st a place word
    → finish (mk st a place start lits done) ≡ still st a place start lits done word []
right-end st at.Fresh place start lits done word e fits = rw (fits.0, lines-end place) (fresh-end st at.Fresh place start lits done fits.1)
right-end st at.Comment place start lits done word e fits = rw (fits.0, lines-end place) (fresh-end st at.Comment place start lits done fits.1)
right-end st at.Gap place start lits done word e fits =
    rw (fits.0, lines-end place)
    (sym (end-says (mk st at.Gap place start lits done) place (place + 0) (record { stage_is = fits.1; early = e; place_is = refl })))
right-end st (at.Word begins seen) place start lits done word e fits =
    rw (lines-word word begins [] fits.3 fits.4 refl, fits.2, lines-end place)
    (ends-goes (word_ends (mk st (at.Word begins seen) place start lits done) begins seen)
    ∙ word-agrees st (at.Word begins seen) place start lits done begins seen fits.0 e said_at_end (says_from (place + 0) ([] ∷ [])) (λ t leads. sym (end-says t place (place + 0) leads))
    ∙ sym (word-says st (at.Word begins seen) place start lits done begins seen word (place + 0) [] [] fits.0 fits.1))

-- ---- one byte and the rest

-- how reading goes on behind a step
abbrev run_on : ℕ → List ℕ → Moved → Said
run_on place text moved = goes_on (then_goes moved (λ t. Goes (record t { place = place + 1 }))) (λ t. run t text)

run_on-then : (place : ℕ) (text : List ℕ) (moved : Moved) (next : State → Moved) → run_on place text (then_goes moved next) ≡ goes_on moved (λ t. run_on place text (next t))
run_on-then place text (Goes s) next = refl
run_on-then place text (Stops said) next = refl

abbrev Right : List ℕ → Type 0
Right text =
    (st : Stage) (a : At) (place start : ℕ) (lits : List Literal) (done : List (List Literal)) (word : List ℕ) → Early st lits done → Fits st a place word
    → run (mk st a place start lits done) text ≡ still st a place start lits done word text

end_more : (place b : ℕ) (text : List ℕ) → place + 1 + length text ≡ place + length (b ∷ text)
end_more place b text = omega arith

-- the lines of a text behind words of its first line
abbrev going : ℕ → List ℕ → List (List Word)
going place text = first_line (lines_from place text) ∷ no_comments (other_lines (lines_from place text))

gap-lf : (st : Stage) (place start : ℕ) (lits : List Literal) (done : List (List Literal)) (end : ℕ) (text : List ℕ) → Right text → in_file st ≡ true → Early st lits done
    → run_on place text (line_ends (mk st at.Gap place start lits done)) ≡ says st start lits done end ([] ∷ no_comments (lines_from (place + 1) text))
gap-lf stage.Comments place start lits done end text ih h e = absurd (cc)
gap-lf stage.Letter place start lits done end text ih h e = refl
gap-lf stage.Format place start lits done end text ih h e = refl
gap-lf stage.Variables place start lits done end text ih h e = refl
gap-lf stage.Count place start lits done end text ih h e = refl
gap-lf stage.Whole place start lits done end text ih h e =
    ih stage.Clauses at.Fresh (place + 1) 0 lits done [] (none-early stage.Clauses lits done refl) (refl, refl)
    ∙ rw ((e refl).0, (e refl).1) refl
gap-lf stage.Clauses place start lits done end text ih h e = ih stage.Clauses at.Fresh (place + 1) start lits done [] e (refl, refl)

gap-right : (st : Stage) (place start : ℕ) (lits : List Literal) (done : List (List Literal)) (b : ℕ) (text : List ℕ) → Right text → in_file st ≡ true → Early st lits done → is_white b ≡ true
    → run_on place text (gap (mk st at.Gap place start lits done) b) ≡ says st start lits done (place + length (b ∷ text)) (going place (b ∷ text))
gap-right st place start lits done b text ih h e w =
    elim (cases_Bool (eqb b 10)) [
      | inl lf ↦ rw (lf, lines-lf place b text lf) (gap-lf st place start lits done (place + length (b ∷ text)) text ih h e)
      | inr on ↦ rw (on, lines-white place b text on w)
          (ih st at.Gap (place + 1) start lits done [] e (refl, h) ∙ ap (λ (end : ℕ). says st start lits done end (going (place + 1) text)) (end_more place b text))
    ]

-- a word begins in a line of the file
begin-right : (st : Stage) (a : At) (place start : ℕ) (lits : List Literal) (done : List (List Literal)) (b : ℕ) (text : List ℕ) → Right text → in_file st ≡ true → Early st lits done → is_white b ≡ false
    → run (mk st (at.Word place (first_seen b)) (place + 1) start lits done) text ≡ says st start lits done (place + length (b ∷ text)) (going place (b ∷ text))
begin-right st a place start lits done b text ih h e w =
    ih st (at.Word place (first_seen b)) (place + 1) start lits done (b ∷ []) e (h, describes-first b, refl, (w, tt), omega arith)
    ∙ ap (λ (end : ℕ). says st start lits done end (going place (b ∷ text))) (end_more place b text)

begin-in-file : (st : Stage) (a : At) (place start : ℕ) (lits : List Literal) (done : List (List Literal)) (b : ℕ) → in_file st ≡ true
    → begin (mk st a place start lits done) b ≡ mk st (at.Word place (first_seen b)) place start lits done
begin-in-file stage.Comments a place start lits done b h = absurd (cc)
begin-in-file stage.Letter a place start lits done b h = refl
begin-in-file stage.Format a place start lits done b h = refl
begin-in-file stage.Variables a place start lits done b h = refl
begin-in-file stage.Count a place start lits done b h = refl
begin-in-file stage.Whole a place start lits done b h = refl
begin-in-file stage.Clauses a place start lits done b h = refl

right-gap : (st : Stage) (place start : ℕ) (lits : List Literal) (done : List (List Literal)) (b : ℕ) (text : List ℕ) → Right text → Early st lits done → in_file st ≡ true
    → run_on place text (between (mk st at.Gap place start lits done) b) ≡ says st start lits done (place + length (b ∷ text)) (going place (b ∷ text))
right-gap st place start lits done b text ih e h =
    elim (cases_Bool (is_white b)) [
      | inl w ↦ rw w (gap-right st place start lits done b text ih h e w)
      | inr w ↦ rw w (ap (λ (s : State). run_on place text (Goes s)) (begin-in-file st at.Gap place start lits done b h) ∙ begin-right st at.Gap place start lits done b text ih h e w)
    ]

-- ---- within a word

-- behind a word, in states that it can lead to
behind-right : (place b : ℕ) (text : List ℕ) → Right text → is_white b ≡ true → (t : State) → Leads place t
    → run_on place text (gap (record t { at = at.Gap }) b) ≡ says_from (place + length (b ∷ text)) (going place (b ∷ text)) t
behind-right place b text ih w t leads =
    subst (λ (p : ℕ). run_on place text (gap (mk t.stage at.Gap p t.start t.lits t.done) b) ≡ says_from (place + length (b ∷ text)) (going place (b ∷ text)) t) (sym leads.place_is)
    (gap-right t.stage place t.start t.lits t.done b text ih leads.stage_is leads.early w)

-- the lines in front of which a word stands
front-lines : (word : List ℕ) (begins place b : ℕ) (text : List ℕ) → IsBlack word → 0 < length word → begins + length word ≡ place → is_white b ≡ true
    → going begins (word ++ b ∷ text) ≡ (record { place = begins; text = word } ∷ first_line (lines_from place (b ∷ text))) ∷ no_comments (other_lines (lines_from place (b ∷ text)))
front-lines word begins place b text black some is w =
    ap (λ (lines : List (List Word)). first_line lines ∷ no_comments (other_lines lines))
    (lines-word word begins (b ∷ text) black some w
    ∙ ap (λ (n : ℕ). with_word (record { place = begins; text = word }) (lines_from n (b ∷ text))) is
    ∙ with-some (record { place = begins; text = word }) (lines_from place (b ∷ text)) (lines-some place (b ∷ text)))

ended-right : (st : Stage) (begins : ℕ) (seen : Seen) (place start : ℕ) (lits : List Literal) (done : List (List Literal)) (word : List ℕ) (b : ℕ) (text : List ℕ) → Right text → Early st lits done → Fits st (at.Word begins seen) place word → is_white b ≡ true
    → run_on place text (then_goes (word_ends (mk st (at.Word begins seen) place start lits done) begins seen) (λ t. gap (record t { at = at.Gap }) b)) ≡ says st start lits done (place + length (b ∷ text)) (going begins (word ++ b ∷ text))
ended-right st begins seen place start lits done word b text ih e fits w =
    run_on-then place text (word_ends (mk st (at.Word begins seen) place start lits done) begins seen) (λ t. gap (record t { at = at.Gap }) b)
    ∙ word-agrees st (at.Word begins seen) place start lits done begins seen fits.0 e (λ t. run_on place text (gap (record t { at = at.Gap }) b)) (says_from (place + length (b ∷ text)) (going place (b ∷ text))) (behind-right place b text ih w)
    ∙ sym (word-says st (at.Word begins seen) place start lits done begins seen word (place + length (b ∷ text)) (first_line (lines_from place (b ∷ text))) (no_comments (other_lines (lines_from place (b ∷ text)))) fits.0 fits.1)
    ∙ ap (says st start lits done (place + length (b ∷ text))) (sym (front-lines word begins place b text fits.3 fits.4 fits.2 w))

right-word : (st : Stage) (begins : ℕ) (seen : Seen) (place start : ℕ) (lits : List Literal) (done : List (List Literal)) (word : List ℕ) (b : ℕ) (text : List ℕ) → Right text → Early st lits done → Fits st (at.Word begins seen) place word
    → run_on place text (in_word (mk st (at.Word begins seen) place start lits done) begins seen b) ≡ still st (at.Word begins seen) place start lits done word (b ∷ text)
right-word st begins seen place start lits done word b text ih e fits =
    elim (cases_Bool (is_white b)) [
      | inr w ↦ rw w
          (ih st (at.Word begins (next_seen seen b)) (place + 1) start lits done (word ++ b ∷ []) e
          (fits.0, describes-next seen word b fits.1, omega (arith, fits.2, length-append word (b ∷ [])), black-push word b fits.3 w, omega (arith, length-append word (b ∷ [])))
          ∙ ap (λ (whole : List ℕ). says st start lits done (place + 1 + length text) (going begins whole)) (append_assoc word (b ∷ []) text)
          ∙ ap (λ (end : ℕ). says st start lits done end (going begins (word ++ b ∷ text))) (end_more place b text))
      | inl w ↦ rw w (ended-right st begins seen place start lits done word b text ih e fits w)
    ]

-- ---- before a line's first word

-- the lines of a text that begins with a byte of a word
comment-lines : (place b : ℕ) (text : List ℕ) → is_white b ≡ false → eqb b 99 ≡ true → no_comments (lines_from place (b ∷ text)) ≡ no_comments (other_lines (lines_from (place + 1) text))
comment-lines place b text w c =
    let all = begun place b text w in
    ap no_comments all.some ∙ comments-drop (first_line (lines_from place (b ∷ text))) (other_lines (lines_from place (b ∷ text))) (all.comment ∙ c) ∙ ap no_comments all.others

file-lines : (place b : ℕ) (text : List ℕ) → is_white b ≡ false → eqb b 99 ≡ false → no_comments (lines_from place (b ∷ text)) ≡ going place (b ∷ text)
file-lines place b text w c =
    let all = begun place b text w in
    ap no_comments all.some ∙ comments-keep (first_line (lines_from place (b ∷ text))) (other_lines (lines_from place (b ∷ text))) (all.comment ∙ c)

fresh-lf : (st : Stage) (place start : ℕ) (lits : List Literal) (done : List (List Literal)) (text : List ℕ) → Right text → Early st lits done → between_lines st ≡ true
    → run_on place text (line_ends (mk st at.Fresh place start lits done)) ≡ says st start lits done (place + 1 + length text) (no_comments (lines_from (place + 1) text))
fresh-lf stage.Comments place start lits done text ih e h = ih stage.Comments at.Fresh (place + 1) start lits done [] e (refl, refl)
fresh-lf stage.Clauses place start lits done text ih e h = ih stage.Clauses at.Fresh (place + 1) start lits done [] e (refl, refl)
fresh-lf stage.Letter place start lits done text ih e h = absurd (cc)
fresh-lf stage.Format place start lits done text ih e h = absurd (cc)
fresh-lf stage.Variables place start lits done text ih e h = absurd (cc)
fresh-lf stage.Count place start lits done text ih e h = absurd (cc)
fresh-lf stage.Whole place start lits done text ih e h = absurd (cc)

fresh-begin : (st : Stage) (place start : ℕ) (lits : List Literal) (done : List (List Literal)) (b : ℕ) (text : List ℕ) → Right text → Early st lits done → between_lines st ≡ true → is_white b ≡ false
    → run_on place text (Goes (begin (mk st at.Fresh place start lits done) b)) ≡ says st start lits done (place + length (b ∷ text)) (going place (b ∷ text))
fresh-begin stage.Comments place start lits done b text ih e h w =
    begin-right stage.Letter at.Fresh place place lits done b text ih refl (λ _. e refl) w
    ∙ ap (λ (p : ℕ). problem_at p problem_line (going place (b ∷ text))) (sym (begun place b text w).place_is)
fresh-begin stage.Clauses place start lits done b text ih e h w = begin-right stage.Clauses at.Fresh place start lits done b text ih refl e w
fresh-begin stage.Letter place start lits done b text ih e h w = absurd (cc)
fresh-begin stage.Format place start lits done b text ih e h w = absurd (cc)
fresh-begin stage.Variables place start lits done b text ih e h w = absurd (cc)
fresh-begin stage.Count place start lits done b text ih e h w = absurd (cc)
fresh-begin stage.Whole place start lits done b text ih e h w = absurd (cc)

no-comment-lf : (lines : List (List Word)) → no_comments ([] ∷ lines) ≡ no_comments lines
no-comment-lf lines = refl

fresh-between : (st : Stage) (place start : ℕ) (lits : List Literal) (done : List (List Literal)) (b : ℕ) (text : List ℕ) → Right text → Early st lits done → between_lines st ≡ true → eqb b 99 ≡ false
    → run_on place text (between (mk st at.Fresh place start lits done) b) ≡ says st start lits done (place + length (b ∷ text)) (no_comments (lines_from place (b ∷ text)))
fresh-between st place start lits done b text ih e h c =
    elim (cases_Bool (is_white b)) [
      | inr w ↦ rw (w, file-lines place b text w c) (fresh-begin st place start lits done b text ih e h w)
      | inl w ↦ rw w (elim (cases_Bool (eqb b 10)) [
        | inl lf ↦ rw (lf, lines-lf place b text lf)
            (fresh-lf st place start lits done text ih e h ∙ ap (λ (end : ℕ). says st start lits done end (no_comments (lines_from (place + 1) text))) (end_more place b text))
        | inr on ↦ rw (on, lines-white place b text on w)
            (ih st at.Fresh (place + 1) start lits done [] e (refl, h) ∙ ap (λ (end : ℕ). says st start lits done end (no_comments (lines_from (place + 1) text))) (end_more place b text))
      ])
    ]

right-fresh : (st : Stage) (place start : ℕ) (lits : List Literal) (done : List (List Literal)) (b : ℕ) (text : List ℕ) → Right text → Early st lits done → between_lines st ≡ true
    → run_on place text (cond (eqb b 99) (Goes (mk st at.Comment place start lits done)) (between (mk st at.Fresh place start lits done) b)) ≡ says st start lits done (place + length (b ∷ text)) (no_comments (lines_from place (b ∷ text)))
right-fresh st place start lits done b text ih e h =
    elim (cases_Bool (eqb b 99)) [
      | inl c ↦
          ap (λ (t : Bool). run_on place text (cond t (Goes (mk st at.Comment place start lits done)) (between (mk st at.Fresh place start lits done) b))) c
          ∙ ih st at.Comment (place + 1) start lits done [] e (refl, h)
          ∙ ap (λ (end : ℕ). says st start lits done end (no_comments (other_lines (lines_from (place + 1) text)))) (end_more place b text)
          ∙ ap (says st start lits done (place + length (b ∷ text))) (sym (comment-lines place b text (black_c b c) c))
      | inr c ↦
          ap (λ (t : Bool). run_on place text (cond t (Goes (mk st at.Comment place start lits done)) (between (mk st at.Fresh place start lits done) b))) c
          ∙ fresh-between st place start lits done b text ih e h c
    ]

right-comment : (st : Stage) (place start : ℕ) (lits : List Literal) (done : List (List Literal)) (b : ℕ) (text : List ℕ) → Right text → Early st lits done → between_lines st ≡ true
    → run_on place text (Goes (cond (eqb b 10) (mk st at.Fresh place start lits done) (mk st at.Comment place start lits done))) ≡ says st start lits done (place + length (b ∷ text)) (no_comments (other_lines (lines_from place (b ∷ text))))
right-comment st place start lits done b text ih e h =
    elim (cases_Bool (eqb b 10)) [
      | inl lf ↦ rw (lf, lines-lf place b text lf)
          (ih st at.Fresh (place + 1) start lits done [] e (refl, h) ∙ ap (λ (end : ℕ). says st start lits done end (no_comments (lines_from (place + 1) text))) (end_more place b text))
      | inr on ↦ rw (on, others-on place b text on)
          (ih st at.Comment (place + 1) start lits done [] e (refl, h) ∙ ap (λ (end : ℕ). says st start lits done end (no_comments (other_lines (lines_from (place + 1) text)))) (end_more place b text))
    ]

-- ---- all of it

right-more : (b : ℕ) (text : List ℕ) → Right text → Right (b ∷ text)
unfolding run
right-more b text ih st at.Fresh place start lits done word e fits = rw fits.0 (right-fresh st place start lits done b text ih e fits.1)
right-more b text ih st at.Comment place start lits done word e fits = rw fits.0 (right-comment st place start lits done b text ih e fits.1)
right-more b text ih st at.Gap place start lits done word e fits = rw fits.0 (right-gap st place start lits done b text ih e fits.1)
right-more b text ih st (at.Word begins seen) place start lits done word e fits = right-word st begins seen place start lits done word b text ih e fits

right : (text : List ℕ) → Right text
unfolding run
right [] = λ st a place start lits done word e fits. right-end st a place start lits done word e fits
right (b ∷ text) = right-more b text (right text)

zero_plus : (n : ℕ) → 0 + n ≡ n
zero_plus n = omega arith

-- a text is read as what it says
pub reads : (text : List ℕ) → run start_state text ≡ dimacs_of text
unfolding dimacs_of
reads text =
    right text stage.Comments at.Fresh 0 0 [] [] [] (λ _. (refl, refl)) (refl, refl)
    ∙ ap (λ (end : ℕ). file_of end (no_comments (lines_from 0 text))) (zero_plus (length text))
