-- The lines of an accepted section.
use Rattle.std.proofs.Common.{◌≡◌, ℕ, suc, ◌+◌, ◌^◌, ◌≤◌, Bool, true, false, not, ◌==◌, ◌&&◌, ◌||◌, Option, Some, None, List, [], ◌∷◌, ◌++◌, length, map, refl, ap, sym, subst, ◌∙◌, inl, inr, arith}
use Rattle.std.specs.Prelude.{nat_lt, Ok, Err, ◌⊎◌, All, IsTrue}
use Rattle.std.proofs.lemmas.Bool.{eqb-true, or_left}
use Rattle.std.proofs.lemmas.Bool.Decides.{nat_tests}
use Rattle.std.proofs.lemmas.List.Elements.{All-nil, All-cons}
use Rattle.qv_words.specs.declared.op.Answer.{Answer}
use Rattle.qv_words.specs.declared.op.Answer.TheVariants.{Sat, Unsat, Unknown}
use Rattle.qv_words.specs.Tree.{Tree}
use Rattle.qv_rewrite_passes.specs.declared.pass.Pass.{Pass}
use Rattle.qv_rewrite_passes.specs.Passes.{behind as behind_pass, behind_all}
use Rattle.qv_cnf.specs.LratLine.{LratLine, Addition, Deletion}
use Rattle.qv_cnf.specs.Refutation.{Judgement, Accepted, OutOfOrder, RatAt, FailsAt, LeftOpen, Standing, standing_at, judged_line, after_line, accepts, has_none, refutes_from, Refutes}
use Rattle.qv_cert.specs.declared.kind.RefusalKind.{RefusalKind}
use Rattle.qv_cert.specs.declared.kind.RefusalKind.TheVariants as kind
use Rattle.qv_cert.specs.Line.{CertLine, Check, Rewrite, Lrat, Step, End}
use Rattle.qv_cert.specs.Grammar.{Reading, cert_line}
use Rattle.qv_cert.specs.ClauseList.{clause_list, variables_of}
use Rattle.qv_cert.specs.Listed.{Listed, nothing, listing, listed_behind}
use Rattle.qv_cert.specs.Faults.{first_fit, faults_of, belongs}
use Rattle.qv_cert.specs.Section.{Task, State, Opening, Closing, Listing, Rewriting, Refuting, Outcome, GoesOn, Accepts, Judged, AcceptedUpTo, by_outcome, by_reading, judged_from, judged_step, in_step, unless, refused_or, first_list, is_missing, has_too_many, refuting, opened}
use Rattle.qv_cert.specs.Shown.{AreRead, HaveNoFault}
use Rattle.qv_cert.proofs.Pinned.{clear, cleared, passes}

-- one line more in front of lines that are read
pub read-more : (inner : Bool) (text : List ℕ) (line : CertLine) (texts : List (List ℕ)) (lines : List CertLine) → cert_line inner text ≡ Ok line → AreRead inner texts lines → AreRead inner (text ∷ texts) (line ∷ lines)
read-more inner text line texts lines e h = cc

answer-same : (a b : Answer) (n m : ℕ) (lines behind : List (List ℕ)) → AcceptedUpTo a n lines ≡ AcceptedUpTo b m behind → (a ≡ b) × (n ≡ m) × (lines ≡ behind)
answer-same a b n m lines behind e = (cc, cc, cc)

-- ---- in the refutation

pub record IsRefuted (s : Standing) (answer : Answer) (n m : ℕ) (a : Answer) (lines behind : List (List ℕ)) : Type 0 where
  pub steps : List LratLine
  pub inner : List (List ℕ)
  pub lines_are : lines ≡ inner ++ behind
  pub next_is : m ≡ n + length inner
  pub inner_are : AreRead true inner (map Step steps ++ End ∷ [])
  pub answer_is : answer ≡ a
  pub holds : (s.refuted || refutes_from s steps) ≡ true

-- the flag behind an accepted line
combined : (f d r flag : Bool) (j : Judgement) → f ≡ false → j ≡ Accepted → flag ≡ d → (flag || r) ≡ true → (f || (accepts j && (d || r))) ≡ true
combined f d r flag j none ok same h = rw (none, ok) (subst (λ (b : Bool). (b || r) ≡ true) same h)

after-flag : (s : Standing) (line : LratLine) (steps : List LratLine) → s.refuted ≡ false → judged_line s line ≡ Accepted
    → ((after_line s line).refuted || refutes_from (after_line s line) steps) ≡ true → (s.refuted || refutes_from s (line ∷ steps)) ≡ true
after-flag s (Addition id lits hints) steps none ok h =
    combined s.refuted (has_none lits) (refutes_from (after_line s (Addition id lits hints)) steps) (s.refuted || has_none lits) (judged_line s (Addition id lits hints)) none ok
    (ap (λ (b : Bool). b || has_none lits) none) h
after-flag s (Deletion id ids) steps none ok h =
    combined s.refuted false (refutes_from (after_line s (Deletion id ids)) steps) s.refuted Accepted none refl none h

-- one more line of the refutation
one-step : (s t : Standing) (answer a : Answer) (n m : ℕ) (text : List ℕ) (line : LratLine) (lines behind : List (List ℕ)) → cert_line true text ≡ Ok (Step line)
    → ((steps : List LratLine) → (t.refuted || refutes_from t steps) ≡ true → (s.refuted || refutes_from s (line ∷ steps)) ≡ true)
    → IsRefuted t answer (suc n) m a lines behind → IsRefuted s answer n m a (text ∷ lines) behind
one-step s t answer a n m text line lines behind e flag h = record {
  steps = line ∷ h.steps;
  inner = text ∷ h.inner;
  lines_are = ap (λ (xs : List (List ℕ)). text ∷ xs) h.lines_are;
  next_is = omega (arith, h.next_is);
  inner_are = read-more true text (Step line) h.inner (map Step h.steps ++ End ∷ []) e h.inner_are;
  answer_is = h.answer_is;
  holds = flag h.steps h.holds;
}

-- a step that is held to its rules
ruled : (task : Task) (s : Standing) (answer a : Answer) (n m : ℕ) (text : List ℕ) (line : LratLine) (lines behind : List (List ℕ)) → cert_line true text ≡ Ok (Step line)
    → s.refuted ≡ false → (goes_on : State → Judged) → (goes_on (Refuting answer (after_line s line)) ≡ AcceptedUpTo a m behind → IsRefuted (after_line s line) answer (suc n) m a lines behind)
    → (j : Judgement) → judged_line s line ≡ j → by_outcome n lines goes_on (judged_step answer (Refuting answer (after_line s line)) j) ≡ AcceptedUpTo a m behind
    → IsRefuted s answer n m a (text ∷ lines) behind
ruled task s answer a n m text line lines behind e none goes_on hyp Accepted ok is =
    one-step s (after_line s line) answer a n m text line lines behind e (λ steps h. after-flag s line steps none ok h) (hyp is)
ruled task s answer a n m text line lines behind e none goes_on hyp OutOfOrder ok is = absurd cc
ruled task s answer a n m text line lines behind e none goes_on hyp (RatAt p) ok is = absurd cc
ruled task s answer a n m text line lines behind e none goes_on hyp (FailsAt p) ok is = absurd cc
ruled task s answer a n m text line lines behind e none goes_on hyp LeftOpen ok is = absurd cc

-- a step, refuted or not so far
stepped : (task : Task) (s : Standing) (answer a : Answer) (n m : ℕ) (text : List ℕ) (line : LratLine) (lines behind : List (List ℕ)) → cert_line true text ≡ Ok (Step line)
    → (goes_on : State → Judged) → ((t : Standing) → goes_on (Refuting answer t) ≡ AcceptedUpTo a m behind → IsRefuted t answer (suc n) m a lines behind)
    → (b : Bool) → s.refuted ≡ b → by_outcome n lines goes_on (in_step answer s line b) ≡ AcceptedUpTo a m behind → IsRefuted s answer n m a (text ∷ lines) behind
stepped task s answer a n m text line lines behind e goes_on hyp true flag is =
    one-step s s answer a n m text line lines behind e (λ steps h. or_left s.refuted (refutes_from s (line ∷ steps)) flag) (hyp s is)
stepped task s answer a n m text line lines behind e goes_on hyp false flag is =
    ruled task s answer a n m text line lines behind e flag goes_on (hyp (after_line s line)) (judged_line s line) refl is

-- `end`
ending : (s : Standing) (answer a : Answer) (n m : ℕ) (text : List ℕ) (lines behind : List (List ℕ)) → cert_line true text ≡ Ok End
    → (goes_on : State → Judged) → (b : Bool) → s.refuted ≡ b → by_outcome n lines goes_on (unless ((kind.Refutation, not b) ∷ []) (Accepts answer)) ≡ AcceptedUpTo a m behind
    → IsRefuted s answer n m a (text ∷ lines) behind
ending s answer a n m text lines behind e goes_on false flag is = absurd cc
ending s answer a n m text lines behind e goes_on true flag is =
    let parts = answer-same answer a (suc n) m lines behind is in
    record {
      steps = [];
      inner = text ∷ [];
      lines_are = ap (λ (xs : List (List ℕ)). text ∷ xs) parts.2;
      next_is = omega (arith, parts.1);
      inner_are = ap (λ (r : Reading). r ∷ []) e;
      answer_is = parts.0;
      holds = or_left s.refuted false flag;
    }

-- a line in the refutation, by what it is read as
refuted-line : (task : Task) (s : Standing) (answer a : Answer) (n m : ℕ) (text : List ℕ) (lines behind : List (List ℕ))
    → (goes_on : State → Judged) → ((t : Standing) → goes_on (Refuting answer t) ≡ AcceptedUpTo a m behind → IsRefuted t answer (suc n) m a lines behind)
    → (r : Reading) → cert_line true text ≡ r → by_outcome n lines goes_on (by_reading task (Refuting answer s) r) ≡ AcceptedUpTo a m behind
    → IsRefuted s answer n m a (text ∷ lines) behind
refuted-line task s answer a n m text lines behind goes_on hyp (Ok (Step line)) e is = stepped task s answer a n m text line lines behind e goes_on hyp s.refuted refl is
refuted-line task s answer a n m text lines behind goes_on hyp (Ok End) e is = ending s answer a n m text lines behind e goes_on s.refuted refl is
refuted-line task s answer a n m text lines behind goes_on hyp (Ok line) e is = absurd cc
refuted-line task s answer a n m text lines behind goes_on hyp (Err k) e is = absurd cc

refuted-lines : (task : Task) (lines : List (List ℕ)) (s : Standing) (answer a : Answer) (n m : ℕ) (behind : List (List ℕ))
    → judged_from task (Refuting answer s) n lines ≡ AcceptedUpTo a m behind → IsRefuted s answer n m a lines behind
unfolding judged_from
refuted-lines task [] s answer a n m behind is = absurd cc
refuted-lines task (text ∷ lines) s answer a n m behind is =
    refuted-line task s answer a n m text lines behind (λ next. judged_from task next (suc n) lines) (λ t h. refuted-lines task lines t answer a (suc n) m behind h) (cert_line true text) refl is

-- ---- at `lrat`

-- where none of some faults fits
unless-clear : (n m : ℕ) (a : Answer) (lines behind : List (List ℕ)) (goes_on : State → Judged) (o : Outcome) (k : Option RefusalKind)
    → by_outcome n lines goes_on (refused_or o k) ≡ AcceptedUpTo a m behind → (k ≡ None) × (by_outcome n lines goes_on o ≡ AcceptedUpTo a m behind)
unless-clear n m a lines behind goes_on o None is = (refl, is)
unless-clear n m a lines behind goes_on o (Some k) is = absurd cc

few-from : (formulas : List Tree) → has_too_many formulas ≡ false → variables_of formulas ≤ 2 ^ 30
few-from formulas e = few (variables_of formulas) (2 ^ 30) e
  where
    few : (v limit : ℕ) → nat_lt limit v ≡ false → v ≤ limit
    few v limit e = grind (arith, nat_tests)

-- the lines from the first `w` line on
pub record IsRewritten (formulas : List Tree) (answer : Answer) (n m : ℕ) (a : Answer) (lines behind : List (List ℕ)) : Type 0 where
  pub passes : List Pass
  pub steps : List LratLine
  pub outer : List (List ℕ)
  pub inner : List (List ℕ)
  pub lines_are : lines ≡ outer ++ (inner ++ behind)
  pub next_is : m ≡ n + (length outer + length inner)
  pub outer_are : AreRead false outer (map Rewrite passes ++ Lrat ∷ [])
  pub inner_are : AreRead true inner (map Step steps ++ End ∷ [])
  pub answer_is : answer ≡ a
  pub few : variables_of (behind_all passes formulas) ≤ 2 ^ 30
  pub refutes : Refutes (clause_list (behind_all passes formulas)) steps

-- `lrat` and what follows
at-lrat : (task : Task) (formulas : List Tree) (answer a : Answer) (n m : ℕ) (text : List ℕ) (lines behind : List (List ℕ)) → cert_line false text ≡ Ok Lrat
    → has_too_many formulas ≡ false → judged_from task (Refuting answer (standing_at (clause_list formulas))) (suc n) lines ≡ AcceptedUpTo a m behind
    → IsRewritten formulas answer n m a (text ∷ lines) behind
at-lrat task formulas answer a n m text lines behind e few is =
    let h = refuted-lines task lines (standing_at (clause_list formulas)) answer a (suc n) m behind is in
    record {
      passes = [];
      steps = h.steps;
      outer = text ∷ [];
      inner = h.inner;
      lines_are = ap (λ (xs : List (List ℕ)). text ∷ xs) h.lines_are;
      next_is = omega (arith, h.next_is);
      outer_are = ap (λ (r : Reading). r ∷ []) e;
      inner_are = h.inner_are;
      answer_is = h.answer_is;
      few = few-from formulas few;
      refutes = h.holds;
    }

-- a `w` line in front
at-pass : (p : Pass) (formulas : List Tree) (answer a : Answer) (n m : ℕ) (text : List ℕ) (lines behind : List (List ℕ)) → cert_line false text ≡ Ok (Rewrite p)
    → IsRewritten (behind_pass p formulas) answer (suc n) m a lines behind → IsRewritten formulas answer n m a (text ∷ lines) behind
at-pass p formulas answer a n m text lines behind e h = record {
  passes = p ∷ h.passes;
  steps = h.steps;
  outer = text ∷ h.outer;
  inner = h.inner;
  lines_are = ap (λ (xs : List (List ℕ)). text ∷ xs) h.lines_are;
  next_is = omega (arith, h.next_is);
  outer_are = read-more false text (Rewrite p) h.outer (map Rewrite h.passes ++ Lrat ∷ []) e h.outer_are;
  inner_are = h.inner_are;
  answer_is = h.answer_is;
  few = h.few;
  refutes = h.refutes;
}

rewritten-line : (task : Task) (formulas : List Tree) (answer a : Answer) (n m : ℕ) (text : List ℕ) (lines behind : List (List ℕ))
    → ((others : List Tree) → judged_from task (Rewriting answer others) (suc n) lines ≡ AcceptedUpTo a m behind → IsRewritten others answer (suc n) m a lines behind)
    → (r : Reading) → cert_line false text ≡ r
    → by_outcome n lines (λ next. judged_from task next (suc n) lines) (by_reading task (Rewriting answer formulas) r) ≡ AcceptedUpTo a m behind
    → IsRewritten formulas answer n m a (text ∷ lines) behind
rewritten-line task formulas answer a n m text lines behind hyp (Ok (Rewrite p)) e is = at-pass p formulas answer a n m text lines behind e (hyp (behind_pass p formulas) is)
rewritten-line task formulas answer a n m text lines behind hyp (Ok Lrat) e is =
    let both = unless-clear n m a lines behind (λ next. judged_from task next (suc n) lines) (refuting answer formulas) (first_fit ((kind.Variables, has_too_many formulas) ∷ [])) is in
    let c = clear ((kind.Variables, has_too_many formulas) ∷ []) both.0 in
    at-lrat task formulas answer a n m text lines behind e c.0 both.1
rewritten-line task formulas answer a n m text lines behind hyp (Ok line) e is = absurd cc
rewritten-line task formulas answer a n m text lines behind hyp (Err k) e is = absurd cc

rewritten-lines : (task : Task) (lines : List (List ℕ)) (formulas : List Tree) (answer a : Answer) (n m : ℕ) (behind : List (List ℕ))
    → judged_from task (Rewriting answer formulas) n lines ≡ AcceptedUpTo a m behind → IsRewritten formulas answer n m a lines behind
unfolding judged_from
rewritten-lines task [] formulas answer a n m behind is = absurd cc
rewritten-lines task (text ∷ lines) formulas answer a n m behind is =
    rewritten-line task formulas answer a n m text lines behind (λ others h. rewritten-lines task lines others answer a (suc n) m behind h) (cert_line false text) refl is

-- ---- the lines that list

pub record IsListed (task : Task) (l : Listed) (answer : Answer) (n m : ℕ) (a : Answer) (lines behind : List (List ℕ)) : Type 0 where
  pub given : List CertLine
  pub passes : List Pass
  pub steps : List LratLine
  pub outer : List (List ℕ)
  pub inner : List (List ℕ)
  pub lines_are : lines ≡ outer ++ (inner ++ behind)
  pub next_is : m ≡ n + (length outer + length inner)
  pub outer_are : AreRead false outer (given ++ (map Rewrite passes ++ Lrat ∷ []))
  pub inner_are : AreRead true inner (map Step steps ++ End ∷ [])
  pub answer_is : answer ≡ a
  pub belong : All (λ line. IsTrue (belongs answer line)) given
  pub lawful : HaveNoFault task.problem l given
  pub version : (passes ≡ []) ⊎ (task.version ≡ 2)
  pub complete : is_missing task.problem answer (listed_behind task.problem l given) ≡ false
  pub few : variables_of (behind_all passes (first_list task.problem answer (listed_behind task.problem l given))) ≤ 2 ^ 30
  pub refutes : Refutes (clause_list (behind_all passes (first_list task.problem answer (listed_behind task.problem l given)))) steps

-- from `lrat` or the first `w` line on
all-given : (task : Task) (l : Listed) (answer a : Answer) (n m : ℕ) (lines behind : List (List ℕ)) → is_missing task.problem answer l ≡ false
    → (h : IsRewritten (first_list task.problem answer l) answer n m a lines behind) → (h.passes ≡ []) ⊎ (task.version ≡ 2) → IsListed task l answer n m a lines behind
all-given task l answer a n m lines behind complete h version = record {
  given = [];
  passes = h.passes;
  steps = h.steps;
  outer = h.outer;
  inner = h.inner;
  lines_are = h.lines_are;
  next_is = h.next_is;
  outer_are = h.outer_are;
  inner_are = h.inner_are;
  answer_is = h.answer_is;
  belong = All-nil (λ line. IsTrue (belongs answer line));
  lawful = tt;
  version = version;
  complete = complete;
  few = h.few;
  refutes = h.refutes;
}

-- one more line that lists
one-given : (task : Task) (l : Listed) (answer a : Answer) (n m : ℕ) (text : List ℕ) (line : CertLine) (lines behind : List (List ℕ)) → cert_line false text ≡ Ok line
    → first_fit ((kind.Form, not (belongs answer line)) ∷ faults_of task.problem l line) ≡ None
    → IsListed task (listing task.problem l line) answer (suc n) m a lines behind → IsListed task l answer n m a (text ∷ lines) behind
one-given task l answer a n m text line lines behind e clean h =
    let c = clear ((kind.Form, not (belongs answer line)) ∷ faults_of task.problem l line) clean in
    record {
      given = line ∷ h.given;
      passes = h.passes;
      steps = h.steps;
      outer = text ∷ h.outer;
      inner = h.inner;
      lines_are = ap (λ (xs : List (List ℕ)). text ∷ xs) h.lines_are;
      next_is = omega (arith, h.next_is);
      outer_are = read-more false text line h.outer (h.given ++ (map Rewrite h.passes ++ Lrat ∷ [])) e h.outer_are;
      inner_are = h.inner_are;
      answer_is = h.answer_is;
      belong = All-cons (λ x. IsTrue (belongs answer x)) line h.given (passes (belongs answer line) c.0) h.belong;
      lawful = (cleared (faults_of task.problem l line) c.1, h.lawful);
      version = h.version;
      complete = h.complete;
      few = h.few;
      refutes = h.refutes;
    }

listed-line : (task : Task) (l : Listed) (answer a : Answer) (n m : ℕ) (text : List ℕ) (lines behind : List (List ℕ))
    → ((other : Listed) → judged_from task (Listing answer other) (suc n) lines ≡ AcceptedUpTo a m behind → IsListed task other answer (suc n) m a lines behind)
    → (r : Reading) → cert_line false text ≡ r
    → by_outcome n lines (λ next. judged_from task next (suc n) lines) (by_reading task (Listing answer l) r) ≡ AcceptedUpTo a m behind
    → IsListed task l answer n m a (text ∷ lines) behind
unfolding at-lrat
listed-line task l answer a n m text lines behind hyp (Ok Lrat) e is =
    let formulas = first_list task.problem answer l in
    let both = unless-clear n m a lines behind (λ next. judged_from task next (suc n) lines) (refuting answer formulas) (first_fit ((kind.Missing, is_missing task.problem answer l) ∷ (kind.Variables, has_too_many (first_list task.problem answer l)) ∷ [])) is in
    let c = clear ((kind.Missing, is_missing task.problem answer l) ∷ (kind.Variables, has_too_many (first_list task.problem answer l)) ∷ []) both.0 in
    all-given task l answer a n m (text ∷ lines) behind c.0 (at-lrat task formulas answer a n m text lines behind e c.1.0 both.1) (inl refl)
listed-line task l answer a n m text lines behind hyp (Ok (Rewrite p)) e is =
    let formulas = first_list task.problem answer l in
    let both = unless-clear n m a lines behind (λ next. judged_from task next (suc n) lines) (GoesOn (Rewriting answer (behind_pass p (first_list task.problem answer l)))) (first_fit ((kind.Form, not (task.version == 2)) ∷ (kind.Missing, is_missing task.problem answer l) ∷ [])) is in
    let c = clear ((kind.Form, not (task.version == 2)) ∷ (kind.Missing, is_missing task.problem answer l) ∷ []) both.0 in
    all-given task l answer a n m (text ∷ lines) behind c.1.0
    (at-pass p formulas answer a n m text lines behind e (rewritten-lines task lines (behind_pass p formulas) answer a (suc n) m behind both.1))
    (inr (eqb-true task.version 2 (passes (task.version == 2) c.0)))
listed-line task l answer a n m text lines behind hyp (Ok line) e is =
    let both = unless-clear n m a lines behind (λ next. judged_from task next (suc n) lines) (GoesOn (Listing answer (listing task.problem l line))) (first_fit ((kind.Form, not (belongs answer line)) ∷ faults_of task.problem l line)) is in
    one-given task l answer a n m text line lines behind e both.0 (hyp (listing task.problem l line) both.1)
listed-line task l answer a n m text lines behind hyp (Err k) e is = absurd cc

pub listed-lines : (task : Task) (lines : List (List ℕ)) (l : Listed) (answer a : Answer) (n m : ℕ) (behind : List (List ℕ))
    → judged_from task (Listing answer l) n lines ≡ AcceptedUpTo a m behind → IsListed task l answer n m a lines behind
unfolding judged_from
listed-lines task [] l answer a n m behind is = absurd cc
listed-lines task (text ∷ lines) l answer a n m behind is =
    listed-line task l answer a n m text lines behind (λ other h. listed-lines task lines other answer a (suc n) m behind h) (cert_line false text) refl is

-- ---- the whole section

-- an unknown section
pub record IsClosed (n m : ℕ) (a : Answer) (lines behind : List (List ℕ)) : Type 0 where
  pub text : List ℕ
  pub lines_are : lines ≡ text ∷ behind
  pub next_is : m ≡ suc n
  pub text_is : cert_line false text ≡ Ok End
  pub answer_is : Unknown ≡ a

closed-line : (task : Task) (a : Answer) (n m : ℕ) (text : List ℕ) (lines behind : List (List ℕ)) (goes_on : State → Judged)
    → (r : Reading) → cert_line false text ≡ r → by_outcome n lines goes_on (by_reading task Closing r) ≡ AcceptedUpTo a m behind → IsClosed n m a (text ∷ lines) behind
closed-line task a n m text lines behind goes_on (Ok End) e is =
    let parts = answer-same Unknown a (suc n) m lines behind is in
    record { text = text; lines_are = ap (λ (xs : List (List ℕ)). text ∷ xs) parts.2; next_is = sym parts.1; text_is = e; answer_is = parts.0 }
closed-line task a n m text lines behind goes_on (Ok line) e is = absurd cc
closed-line task a n m text lines behind goes_on (Err k) e is = absurd cc

closed-lines : (task : Task) (lines : List (List ℕ)) (a : Answer) (n m : ℕ) (behind : List (List ℕ)) → judged_from task Closing n lines ≡ AcceptedUpTo a m behind → IsClosed n m a lines behind
unfolding judged_from
closed-lines task [] a n m behind is = absurd cc
closed-lines task (text ∷ lines) a n m behind is = closed-line task a n m text lines behind (λ next. judged_from task next (suc n) lines) (cert_line false text) refl is

-- what is known of an accepted section by its lines: its `check` line, and what stands behind it
pub data IsOpened (task : Task) (n m : ℕ) (a : Answer) (behind : List (List ℕ)) : Answer → List (List ℕ) → Type 0 where
  OpenedSat : (lines : List (List ℕ)) → IsListed task nothing Sat n m a lines behind → IsOpened task n m a behind Sat lines
  OpenedUnsat : (lines : List (List ℕ)) → IsListed task nothing Unsat n m a lines behind → IsOpened task n m a behind Unsat lines
  OpenedUnknown : (lines : List (List ℕ)) → IsClosed n m a lines behind → IsOpened task n m a behind Unknown lines

pub record IsRead (task : Task) (n m : ℕ) (a : Answer) (lines behind : List (List ℕ)) : Type 0 where
  pub answer : Answer
  pub text : List ℕ
  pub others : List (List ℕ)
  pub lines_are : lines ≡ text ∷ others
  pub text_is : cert_line false text ≡ Ok (Check task.number answer)
  pub opened : IsOpened task (suc n) m a behind answer others

opened-lines : (task : Task) (answer a : Answer) (n m : ℕ) (lines behind : List (List ℕ)) → judged_from task (opened answer) (suc n) lines ≡ AcceptedUpTo a m behind → IsOpened task (suc n) m a behind answer lines
opened-lines task Sat a n m lines behind is = OpenedSat lines (listed-lines task lines nothing Sat a (suc n) m behind is)
opened-lines task Unsat a n m lines behind is = OpenedUnsat lines (listed-lines task lines nothing Unsat a (suc n) m behind is)
opened-lines task Unknown a n m lines behind is = OpenedUnknown lines (closed-lines task lines a (suc n) m behind is)

read-line : (task : Task) (a : Answer) (n m : ℕ) (text : List ℕ) (lines behind : List (List ℕ)) → (r : Reading) → cert_line false text ≡ r
    → by_outcome n lines (λ next. judged_from task next (suc n) lines) (by_reading task Opening r) ≡ AcceptedUpTo a m behind → IsRead task n m a (text ∷ lines) behind
read-line task a n m text lines behind (Ok (Check number answer)) e is =
    let both = unless-clear n m a lines behind (λ next. judged_from task next (suc n) lines) (GoesOn (opened answer)) (first_fit ((kind.Section, not (number == task.number)) ∷ [])) is in
    let c = clear ((kind.Section, not (number == task.number)) ∷ []) both.0 in
    let same : number ≡ task.number = eqb-true number task.number (passes (number == task.number) c.0) in
    record {
      answer = answer;
      text = text;
      others = lines;
      lines_are = refl;
      text_is = e ∙ ap (λ (k : ℕ). Ok (Check k answer)) same;
      opened = opened-lines task answer a n m lines behind both.1;
    }
read-line task a n m text lines behind (Ok line) e is = absurd cc
read-line task a n m text lines behind (Err k) e is = absurd cc

pub read-lines : (task : Task) (lines : List (List ℕ)) (a : Answer) (n m : ℕ) (behind : List (List ℕ)) → judged_from task Opening n lines ≡ AcceptedUpTo a m behind → IsRead task n m a lines behind
unfolding judged_from
read-lines task [] a n m behind is = absurd cc
read-lines task (text ∷ lines) a n m behind is = read-line task a n m text lines behind (cert_line false text) refl is
