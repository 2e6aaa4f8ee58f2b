-- Which proofs are accepted, and what that shows.
use Rattle.std.proofs.Common.{◌≡◌, ℕ, suc, ◌+◌, ◌≤◌, Bool, true, false, ◌&&◌, ◌||◌, Option, Some, None, List, [], ◌∷◌, map, refl, sym, ap, ◌∙◌, ap₂, subst, inl, inr, arith}
use Rattle.std.proofs.lemmas.Bool.{and_from, and_parts, cases_Bool, or_left, or_right}
use Rattle.qv_cnf.specs.Literal.{Literal}
use Rattle.qv_cnf.specs.Listing.{Numbered, Rises, clauses_of}
use Rattle.qv_cnf.specs.LratLine.{LratLine, Addition, Deletion}
use Rattle.qv_cnf.specs.Refutation.{Judgement, Accepted, OutOfOrder, RatAt, FailsAt, LeftOpen, Standing, accepts, adds_none, after_line, has_none, judged_line, refutes_from, standing_at}
use Rattle.qv_cnf.specs.Truth.{IsModel}
use Rattle.qv_cnf.proofs.Refuted.{none_refuted}
use Rattle.qv_cnf.proofs.Soundness.{Accepted-from_accepts}
use Rattle.qv_check_laws.specs.Verdict.{IsAccepted, ScriptFault, IsRefused}
use Rattle.qv_cert.specs.Lines.{all_lines}
use Rattle.qv_dimacs.specs.Clauses.{Said, Clauses, Faulty, dimacs_of}
use Rattle.qv_lrat_text.specs.Grammar.{lrat_line}
use Rattle.qv_lrat.specs.Laws.{AcceptedExactly, AcceptedHaveNoModel, AreLines, DoneShowsNoModel, SaysNoModel}
use Rattle.qv_cert_formulas.specs.Numbers.{under_ids}
use Rattle.qv_lrat.proofs.Turns.{open-line, taken-on, taken-refuted}
use Rattle.qv_lrat.specs.Verdict.{Judged, by_judgement, by_line, faulty, judged_beside, judged_lines, outcome_of}

-- whether lines refute from a standing on, at which a clause without literals may have been accepted
abbrev refuted_with : Standing → List LratLine → Bool
refuted_with s lines = s.refuted || refutes_from s lines

abbrev IsShown : Standing → List (List ℕ) → Type 0
IsShown s texts = (lines : List LratLine) × AreLines texts lines × (refuted_with s lines ≡ true)

-- ---- the flag behind an accepted line

flag-before : (s : Standing) (line : LratLine) (lines : List LratLine) → s.refuted ≡ false → judged_line s line ≡ Accepted → refuted_with (after_line s line) lines ≡ true → refuted_with s (line ∷ lines) ≡ true
flag-before s (Addition id lits hints) lines none ok h =
    let line : LratLine = Addition id lits hints in
    let behind : (has_none lits || refutes_from (after_line s line) lines) ≡ true = subst (λ (b : Bool). ((b || has_none lits) || refutes_from (after_line s line) lines) ≡ true) none h in
    or_right s.refuted (accepts (judged_line s line) && (has_none lits || refutes_from (after_line s line) lines))
    (and_from (accepts (judged_line s line)) (has_none lits || refutes_from (after_line s line) lines) (ap accepts ok) behind)
flag-before s (Deletion id ids) lines none ok h =
    let behind : refutes_from (after_line s (Deletion id ids)) lines ≡ true = subst (λ (b : Bool). (b || refutes_from (after_line s (Deletion id ids)) lines) ≡ true) none h in
    or_right s.refuted (refutes_from (after_line s (Deletion id ids)) lines) behind

flag-behind : (s : Standing) (line : LratLine) (lines : List LratLine) → s.refuted ≡ false → (adds_none line || refutes_from (after_line s line) lines) ≡ true → refuted_with (after_line s line) lines ≡ true
flag-behind s (Addition id lits hints) lines none h = subst (λ (b : Bool). ((b || has_none lits) || refutes_from (after_line s (Addition id lits hints)) lines) ≡ true) (sym none) h
flag-behind s (Deletion id ids) lines none h = subst (λ (b : Bool). (b || refutes_from (after_line s (Deletion id ids)) lines) ≡ true) (sym none) h

-- ---- from an accepted proof to lines

one-more : (s t : Standing) (text : List ℕ) (texts : List (List ℕ)) (line : LratLine) → lrat_line text ≡ Some line
    → ((lines : List LratLine) → refuted_with t lines ≡ true → refuted_with s (line ∷ lines) ≡ true) → IsShown t texts → IsShown s (text ∷ texts)
one-more s t text texts line e more h = (line ∷ h.0, ap₂ (λ (o : Option LratLine) (os : List (Option LratLine)). o ∷ os) e h.1, more h.0 h.2)

by-judgement : (n : ℕ) (j : Judgement) (next : Judged) → by_judgement n j next ≡ IsAccepted → (j ≡ Accepted) × (next ≡ IsAccepted)
by-judgement n Accepted next h = (refl, h)
by-judgement n OutOfOrder next h = absurd cc
by-judgement n (RatAt p) next h = absurd cc
by-judgement n (FailsAt p) next h = absurd cc
by-judgement n LeftOpen next h = absurd cc

by-text : (s : Standing) (n : ℕ) (text : List ℕ) (texts : List (List ℕ)) (goes_on : Standing → Judged) → ((t : Standing) → goes_on t ≡ IsAccepted → IsShown t texts)
    → (o : Option LratLine) → lrat_line text ≡ o → by_line n s o goes_on ≡ IsAccepted → IsShown s (text ∷ texts)
by-text s n text texts goes_on hyp None e h = absurd cc
by-text s n text texts goes_on hyp (Some line) e h =
    elim (cases_Bool s.refuted) [
      | inl flag ↦ one-more s s text texts line e (λ lines k. or_left s.refuted (refutes_from s (line ∷ lines)) flag) (hyp s (sym (taken-refuted s s line flag refl n goes_on) ∙ h))
      | inr flag ↦
          let both = by-judgement n (judged_line s line) (goes_on (after_line s line)) (sym (open-line s line (judged_line s line) n goes_on flag refl) ∙ h) in
          one-more s (after_line s line) text texts line e (λ lines k. flag-before s line lines flag both.0 k) (hyp (after_line s line) both.1)
    ]

at-end : (n : ℕ) (s : Standing) → judged_lines s n [] ≡ IsAccepted → (s.refuted || false) ≡ true
unfolding judged_lines
at-end n s h = elim (cases_Bool s.refuted) [ inl flag ↦ ap (λ (b : Bool). b || false) flag | inr flag ↦ absurd (let k = rw flag at h in cc) ]

shown : (s : Standing) (n : ℕ) (texts : List (List ℕ)) → judged_lines s n texts ≡ IsAccepted → IsShown s texts
unfolding judged_lines
shown s n [] h = ([], refl, at-end n s h)
shown s n (text ∷ texts) h = by-text s n text texts (λ next. judged_lines next (suc n) texts) (λ t k. shown t (suc n) texts k) (lrat_line text) refl h

-- ---- and back

accepted : (s : Standing) (n : ℕ) (texts : List (List ℕ)) (lines : List LratLine) → AreLines texts lines → refuted_with s lines ≡ true → judged_lines s n texts ≡ IsAccepted
unfolding judged_lines
accepted s n [] [] e h = elim (cases_Bool s.refuted) [ inl flag ↦ rw flag refl | inr flag ↦ absurd (let k = rw flag at h in cc) ]
accepted s n [] (line ∷ lines) e h = cc
accepted s n (text ∷ texts) [] e h = cc
accepted s n (text ∷ texts) (line ∷ lines) e h =
    let first : lrat_line text ≡ Some line = cc in
    let others : AreLines texts lines = cc in
    let goes_on : Standing → Judged = λ next. judged_lines next (suc n) texts in
    let here : judged_lines s n (text ∷ texts) ≡ by_line n s (Some line) goes_on = ap (λ (o : Option LratLine). by_line n s o goes_on) first in
    here
    ∙ elim (cases_Bool s.refuted) [
      | inl flag ↦ taken-refuted s s line flag refl n goes_on ∙ accepted s (suc n) texts lines others (or_left s.refuted (refutes_from s lines) flag)
      | inr flag ↦
          let behind = adds_none line || refutes_from (after_line s line) lines in
          let both = subst (λ (b : Bool). (b || (accepts (judged_line s line) && behind)) ≡ true) flag h in
          let parts = and_parts (accepts (judged_line s line)) behind both in
          let ok = Accepted-from_accepts (judged_line s line) parts.0 in
          taken-on s (after_line s line) line flag ok refl n goes_on ∙ accepted (after_line s line) (suc n) texts lines others (flag-behind s line lines flag parts.1)
    ]

-- ---- the laws

pub accepted-exactly : AcceptedExactly
accepted-exactly clauses texts = (
  (λ h. shown (standing_at (under_ids 1 clauses)) 1 texts h),
  (λ h. accepted (standing_at (under_ids 1 clauses)) 1 texts h.0 h.1 h.2),
)

under_ids-rise : (low id : ℕ) (clauses : List (List Literal)) → low ≤ id → Rises low (map (λ (c : Numbered). c.id) (under_ids id clauses))
under_ids-rise low id [] h = tt
under_ids-rise low id (lits ∷ clauses) h = (h, under_ids-rise (id + 1) (suc id) clauses (omega arith))

under_ids-clauses : (id : ℕ) (clauses : List (List Literal)) → clauses_of (under_ids id clauses) ≡ clauses
under_ids-clauses id [] = refl
under_ids-clauses id (lits ∷ clauses) = ap (λ (rest : List (List Literal)). lits ∷ rest) (under_ids-clauses (suc id) clauses)

pub accepted-have_no_model : AcceptedHaveNoModel
accepted-have_no_model clauses texts h v m =
    let s = standing_at (under_ids 1 clauses) in
    let found = shown s 1 texts h in
    none_refuted s found.0 (record { rises = under_ids-rise 0 1 clauses (omega arith); below = omega arith }) found.2 v (subst (IsModel v) (sym (under_ids-clauses 1 clauses)) m)

done : (j : Judged) → (outcome_of j).status ≡ 0 → j ≡ IsAccepted
done IsAccepted h = refl
done (ScriptFault fault) h = absurd (omega (arith, h))
done (IsRefused n k) h = absurd (omega (arith, h))

beside : (said : Said) (proof : List ℕ) → judged_beside said proof ≡ IsAccepted → SaysNoModel said
unfolding faulty
beside (Faulty place k) proof h = absurd cc
beside (Clauses clauses) proof h = accepted-have_no_model clauses (all_lines proof) h

pub done-shows_no_model : DoneShowsNoModel
done-shows_no_model cnf proof h = beside (dimacs_of cnf) proof (done (judged_beside (dimacs_of cnf) proof) h)
