-- What is written of a section, by the lines that are behind its `check` line.
use Rattle.std.proofs.Common.{◌≡◌, ◌∙◌, ◌++◌, ◌-◌, ◌<◌, ℕ, suc, Bool, true, false, Some, None, List, [], ◌∷◌, length, take, refl, sym, ap, subst, codes, append_assoc, arith}
use Rattle.std.specs.Prelude.{Result, Ok, Err, OnOk}
use Rattle.std.proofs.lemmas.List.{append-nil}
use Rattle.std.specs.Fmt.{decimal}
use Rattle.qv_words.specs.declared.op.Answer.{Answer}
use Rattle.qv_words.specs.declared.op.Answer.TheVariants.{Sat, Unsat, Unknown}
use Rattle.qv_cnf.specs.Literal.{Literal}
use Rattle.qv_cnf.specs.Listing.{clauses_of}
use Rattle.qv_cnf.specs.Refutation.{Standing}
use Rattle.qv_cert.specs.CertReader.{Position}
use Rattle.qv_cert.specs.Listed.{nothing}
use Rattle.qv_cert.specs.Text.{Text}
use Rattle.qv_cert.specs.Section.{Task, State, Opening, Closing, Listing, Rewriting, Refuting, Outcome, GoesOn, Accepts, Refuses, AcceptedUpTo, by_outcome, is_refuting, judged_from, opened, step}
use Rattle.qv_check_defs.specs.Outcome.{answer_line}
use Rattle.qv_check_lines.specs.declared.verdict.Verdict.{Verdict}
use Rattle.qv_check_lines.specs.declared.verdict.Verdict.TheVariants.{Accepted}
use Rattle.qv_check_lines.specs.Ending.{EndsBy, ReadsOn}
use Rattle.qv_check_lines.specs.Judging.{ComesTo, IsVerdictFrom}
use Rattle.qv_check_lines.specs.Refuted.{refuted_from}
use Rattle.qv_check_lines.proofs.Judged.{refuted-by}
use Rattle.qv_check_script.proofs.Wanting.{counted}
use Rattle.qv_check_clauses.specs.Clauses.{clauses_behind, dimacs_text}
use Rattle.qv_check_clauses.specs.Sections.{AddsAnswered, AddsRefuted, AddsSection, text_behind}

-- ---- a section's own lines come to refute what all that follow do

-- in the refutation no line matters
within : (task : Task) (s : State) (one other : List (List ℕ)) → is_refuting s ≡ true → refuted_from task s one ≡ refuted_from task s other
unfolding refuted_from
within task (Refuting answer s) one other e = refl
within task Opening one other e = absurd cc
within task Closing one other e = absurd cc
within task (Listing answer l) one other e = absurd cc
within task (Rewriting answer formulas) one other e = absurd cc

-- the refutation was reached
pub reached : (task : Task) (answer : Answer) (s : Standing) (lines : List (List ℕ)) → refuted_from task (Refuting answer s) lines ≡ clauses_of s.live
unfolding refuted_from
reached task answer s lines = refl

pub refuted-own : (task : Task) (s : State) (n m : ℕ) (lines behind : List (List ℕ)) (answer : Answer) → judged_from task s n lines ≡ AcceptedUpTo answer m behind
    → refuted_from task s (take (length lines - length behind) lines) ≡ refuted_from task s lines
unfolding judged_from
refuted-own task s n m [] behind answer e = absurd cc
refuted-own task s n m (line ∷ lines) behind answer e = by (λ t h. refuted-own task t (suc n) m lines behind answer h) (is_refuting s) refl
  where
    outside : ((t : State) → judged_from task t (suc n) lines ≡ AcceptedUpTo answer m behind → refuted_from task t (take (length lines - length behind) lines) ≡ refuted_from task t lines) → is_refuting s ≡ false → (o : Outcome) → step task s line ≡ o → by_outcome n lines (λ next. judged_from task next (suc n) lines) o ≡ AcceptedUpTo answer m behind
        → refuted_from task s (take (suc (length lines) - length behind) (line ∷ lines)) ≡ refuted_from task s (line ∷ lines)
    outside own at (GoesOn t) is h =
        let k = counted task t (suc n) lines answer m behind h in
        let size : suc (length lines) - length behind ≡ suc (length lines - length behind) = omega (arith, k.0, k.1) in
        ap (λ z. refuted_from task s (take z (line ∷ lines))) size
        ∙ (refuted-by task s line (take (length lines - length behind) lines) (GoesOn t) at is ∙ (own t h ∙ sym (refuted-by task s line lines (GoesOn t) at is)))
    outside own at (Accepts other) is h =
        let left : lines ≡ behind = cc in
        let size : suc (length lines) - length behind ≡ 1 = omega (arith, ap length left) in
        ap (λ z. refuted_from task s (take z (line ∷ lines))) size
        ∙ (refuted-by task s line [] (Accepts other) at is ∙ sym (refuted-by task s line lines (Accepts other) at is))
    outside own at (Refuses k) is h = absurd cc

    by : ((t : State) → judged_from task t (suc n) lines ≡ AcceptedUpTo answer m behind → refuted_from task t (take (length lines - length behind) lines) ≡ refuted_from task t lines) → (b : Bool) → is_refuting s ≡ b → refuted_from task s (take (suc (length lines) - length behind) (line ∷ lines)) ≡ refuted_from task s (line ∷ lines)
    by own true is = within task s (take (suc (length lines) - length behind) (line ∷ lines)) (line ∷ lines) is
    by own false is = outside own is (step task s line) refl e

-- ---- behind the `check` line

pub on-weaker : {A B : Type 0} (r : Result A B) {P Q : Type 0} → OnOk r P → (P → Q) → OnOk r Q
on-weaker (Ok a) h f = f h
on-weaker (Err b) h f = tt

pub refuted-added : (task : Task) (answer : Answer) (checker : Standing) (given middle later : ℕ) (old mid new : Text) (verdict : Verdict) (before after : List ℕ) → ComesTo task (Listing answer nothing) given (Some old) (Refuting answer checker) middle (Some mid)
    → IsVerdictFrom task (Refuting answer checker) middle (Some mid) later (Some new) verdict → verdict ≡ Accepted answer → after ≡ before ++ dimacs_text (clauses_of checker.live) → AddsRefuted task (Listing answer nothing) answer given old later new before after
refuted-added task answer checker given middle later old mid new verdict before after comes judged is added = record {
  verdict = comes.judged later (Some new) (Accepted answer) (subst (λ (v : Verdict). IsVerdictFrom task (Refuting answer checker) middle (Some mid) later (Some new) v) is judged);
  added = added ∙ ap (λ (clauses : List (List Literal)). before ++ dimacs_text clauses) (sym (comes.refuted (clauses_of checker.live) (reached task answer checker mid.lines)));
}

pub unknown-added : (task : Task) (given later : ℕ) (old new : Text) (verdict : Verdict) (text : List ℕ) → IsVerdictFrom task Closing given (Some old) later (Some new) verdict → verdict ≡ Accepted Unknown → AddsAnswered task Unknown given old later new text text
unknown-added task given later old new verdict text judged is = record {
  verdict = subst (λ (v : Verdict). IsVerdictFrom task Closing given (Some old) later (Some new) v) is judged;
  added = sym (append-nil text);
}

pub goes-on : (verdict : Verdict) (answer : Answer) (before after : ℕ) (reader : Position) → EndsBy verdict before after reader → verdict ≡ Accepted answer → (0 < reader.given) × (reader.stopped ≡ None)
goes-on verdict answer before after reader ends is = let on : ReadsOn reader = subst (λ (v : Verdict). EndsBy v before after reader) is ends in (on.begun, on.reads)

-- ---- a whole section

module _ (task : Task) (answer : Answer) (given middle later : ℕ) (old mid new : Text) (comes : ComesTo task Opening given (Some old) (opened answer) middle (Some mid)) where
  pub section-added : (before between after : List ℕ) → between ≡ before ++ (codes "c check " ++ (decimal task.number ++ (codes " " ++ answer_line answer)))
      → AddsAnswered task answer middle mid later new between after → AddsSection task answer given old later new before after
  section-added before between after comment a =
      let v = comes.judged later (Some new) (Accepted answer) a.verdict in
      let lines = take (length old.lines - length new.lines) old.lines in
      record {
        judged = v.0;
        rest = v.1;
        added = a.added ∙ (ap (λ (t : List ℕ). t ++ text_behind task answer mid.lines) comment
            ∙ (assoc (text_behind task answer mid.lines) ∙ ap (λ (t : List ℕ). before ++ (codes "c check " ++ (decimal task.number ++ (codes " " ++ (answer_line answer ++ t))))) (same answer refl comes v.0)));
      }
    where
      assoc : (t : List ℕ) → (before ++ (codes "c check " ++ (decimal task.number ++ (codes " " ++ answer_line answer)))) ++ t ≡ before ++ (codes "c check " ++ (decimal task.number ++ (codes " " ++ (answer_line answer ++ t))))
      assoc t =
          append_assoc before (codes "c check " ++ (decimal task.number ++ (codes " " ++ answer_line answer))) t
          ∙ ap (λ (u : List ℕ). before ++ (codes "c check " ++ u)) (append_assoc (decimal task.number) (codes " " ++ answer_line answer) t)

      same : (a : Answer) → a ≡ answer → ComesTo task Opening given (Some old) (opened a) middle (Some mid) → judged_from task Opening (suc given) old.lines ≡ AcceptedUpTo answer (suc later) new.lines
          → text_behind task a mid.lines ≡ clauses_behind task a (take (length old.lines - length new.lines) old.lines)
      same Sat is c h = ap dimacs_text (sym (c.refuted (refuted_from task (opened Sat) mid.lines) refl) ∙ sym (refuted-own task Opening (suc given) (suc later) old.lines new.lines answer h))
      same Unsat is c h = ap dimacs_text (sym (c.refuted (refuted_from task (opened Unsat) mid.lines) refl) ∙ sym (refuted-own task Opening (suc given) (suc later) old.lines new.lines answer h))
      same Unknown is c h = refl
