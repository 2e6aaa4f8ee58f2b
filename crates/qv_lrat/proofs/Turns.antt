-- What a line does to the judgement of a proof.
use Rattle.std.proofs.Common.{◌≡◌, ℕ, suc, ◌+◌, Bool, true, false, cond, Option, Some, None, List, [], ◌∷◌, ◌++◌, refl, sym, ap, subst, ◌∙◌, add-one}
use Rattle.std.specs.Prelude.{option_map, IfNone, IfSome, IfOk, Result, Ok, Err}
use Rattle.qv_cert.specs.declared.kind.RefusalKind.{RefusalKind}
use Rattle.qv_cert.specs.declared.kind.RefusalKind.TheVariants as kind
use Rattle.qv_cert.specs.Lines.{all_lines, lines_left}
use Rattle.qv_check_laws.specs.Verdict.{IsAccepted, IsRefused}
use Rattle.qv_cnf.specs.LratLine.{LratLine}
use Rattle.qv_cnf.specs.Refutation.{Judgement, Accepted, Standing, after_line, judged_line}
use Rattle.qv_lrat_text.specs.Grammar.{lrat_line}
use Rattle.qv_lrat.specs.declared.judging.Judged.{Judged as Answer}
use Rattle.qv_lrat.specs.declared.judging.Judged.TheVariants as answer
use Rattle.qv_lrat.specs.Judging.{IsTaken, IsTurn, judgement_of}
use Rattle.qv_lrat.specs.Verdict.{Judged, by_judgement, by_line, judged_lines}

-- ---- one line

pub taken-form : (old new : Standing) (line : Option LratLine) → line ≡ None → IsTaken old line (Some kind.Form) new
taken-form old new line e n goes_on = ap (λ (o : Option LratLine). by_line n old o goes_on) e

pub taken-refuted : (s t : Standing) (line : LratLine) → s.refuted ≡ true → t ≡ s → IsTaken s (Some line) None t
taken-refuted s t line flag same n goes_on =
    ap (λ (b : Bool). cond b (goes_on s) (by_judgement n (judged_line s line) (goes_on (after_line s line)))) flag ∙ ap goes_on (sym same)

-- where no clause without literals was accepted
pub open-line : (s : Standing) (line : LratLine) (j : Judgement) (n : ℕ) (goes_on : Standing → Judged) → s.refuted ≡ false → judged_line s line ≡ j
    → by_line n s (Some line) goes_on ≡ by_judgement n j (goes_on (after_line s line))
open-line s line j n goes_on flag is =
    ap (λ (b : Bool). cond b (goes_on s) (by_judgement n (judged_line s line) (goes_on (after_line s line)))) flag
    ∙ ap (λ (x : Judgement). by_judgement n x (goes_on (after_line s line))) is

pub taken-on : (s t : Standing) (line : LratLine) → s.refuted ≡ false → judged_line s line ≡ Accepted → t ≡ after_line s line → IsTaken s (Some line) None t
taken-on s t line flag is after n goes_on = open-line s line Accepted n goes_on flag is ∙ ap goes_on (sym after)

pub taken-refused : (s t : Standing) (line : LratLine) (j : Judgement) (k : RefusalKind) → s.refuted ≡ false → judged_line s line ≡ j → ((n : ℕ) (next : Judged) → by_judgement n j next ≡ IsRefused n k)
    → IsTaken s (Some line) (Some k) t
taken-refused s t line j k flag is refuses n goes_on = open-line s line j n goes_on flag is ∙ refuses n (goes_on (after_line s line))

-- ---- lines

pub turn-on : (n : ℕ) (old new : Standing) (text : List ℕ) → IsTaken old (lrat_line text) None new → IsTurn n old text None new
unfolding judged_lines
turn-on n old new text h texts = h n (λ next. judged_lines next (suc n) texts) ∙ ap (λ (m : ℕ). judged_lines new m texts) (sym (add-one n))

pub turn-refused : (n : ℕ) (old new : Standing) (text : List ℕ) (k : RefusalKind) → IsTaken old (lrat_line text) (Some k) new → IsTurn n old text (Some (answer.Refused n k)) new
unfolding judged_lines
turn-refused n old new text k h texts = h n (λ next. judged_lines next (suc n) texts)

-- where the source tells its bytes
pub turn-goes : (n : ℕ) (old new : Standing) (text : List ℕ) (found : Option Answer) (a b : Option (List (List ℕ))) → a ≡ option_map (λ texts. text ∷ texts) b → IsTurn n old text found new
    → IfNone found (option_map (judged_lines old n) a ≡ option_map (judged_lines new (n + 1)) b)
turn-goes n old new text None a None e h = ap (option_map (judged_lines old n)) e
turn-goes n old new text None a (Some texts) e h = ap (option_map (judged_lines old n)) e ∙ ap (λ (j : Judged). Some j) (h texts)
turn-goes n old new text (Some end) a b e h = tt

pub turn-ends : (n : ℕ) (old new : Standing) (text : List ℕ) (found : Option Answer) (a b : Option (List (List ℕ))) → a ≡ option_map (λ texts. text ∷ texts) b → IsTurn n old text found new
    → IfSome found (λ end. IfSome a (λ texts. judged_lines old n texts ≡ judgement_of end))
turn-ends n old new text None a b e h = tt
turn-ends n old new text (Some end) a None e h = subst (λ (o : Option (List (List ℕ))). IfSome o (λ texts. judged_lines old n texts ≡ judgement_of end)) (sym e) tt
turn-ends n old new text (Some end) a (Some texts) e h = subst (λ (o : Option (List (List ℕ))). IfSome o (λ texts. judged_lines old n texts ≡ judgement_of end)) (sym e) (h texts)

-- behind the last line
pub ends-there : (n : ℕ) (s : Standing) (end : Answer) (a : Option (List (List ℕ))) → IfSome a (λ texts. texts ≡ []) → judged_lines s n [] ≡ judgement_of end
    → IfSome a (λ texts. judged_lines s n texts ≡ judgement_of end)
ends-there n s end None none h = tt
ends-there n s end (Some texts) none h = ap (judged_lines s n) none ∙ h

pub at-end_accepted : (n : ℕ) (s : Standing) → s.refuted ≡ true → judged_lines s n [] ≡ IsAccepted
unfolding judged_lines
at-end_accepted n s flag = ap (λ (b : Bool). cond b IsAccepted (IsRefused n kind.Refutation)) flag

pub at-end_refused : (n : ℕ) (s : Standing) → s.refuted ≡ false → judged_lines s n [] ≡ IsRefused n kind.Refutation
unfolding judged_lines
at-end_refused n s flag = ap (λ (b : Bool). cond b IsAccepted (IsRefused n kind.Refutation)) flag

-- ---- all of them

-- the judgement of what is left is that of all
pub judged-on : (f g : List (List ℕ) → Judged) (a b : Option (List (List ℕ))) (end : Answer) → option_map f a ≡ option_map g b → IfSome a (λ texts. f texts ≡ judgement_of end)
    → IfSome b (λ texts. g texts ≡ judgement_of end)
judged-on f g a None end e h = tt
judged-on f g None (Some ys) end e h = absurd cc
judged-on f g (Some xs) (Some ys) end e h =
    let same : f xs ≡ g ys = cc in
    sym same ∙ h

-- and where none was taken yet
pub judged-whole : {E : Type 0} (s : Standing) (left : Option (List ℕ)) (rest : List ℕ) (r : Result Answer E) → rest ≡ []
    → IfOk r (λ end. IfSome (lines_left rest left) (λ texts. judged_lines s 1 texts ≡ judgement_of end)) → IfOk r (λ end. IfSome left (λ bytes. judged_lines s 1 (all_lines bytes) ≡ judgement_of end))
judged-whole s left rest (Err why) none h = tt
judged-whole s None rest (Ok end) none h = tt
judged-whole s (Some bytes) rest (Ok end) none h = ap (λ (xs : List ℕ). judged_lines s 1 (all_lines (xs ++ bytes))) (sym none) ∙ h
