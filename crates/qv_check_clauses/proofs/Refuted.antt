-- A section refutes the clause list of the formulas that it comes to.
use Rattle.std.proofs.Common.{◌≡◌, ℕ, ◌^◌, ◌≤◌, Bool, false, not, ◌==◌, true, None, List, [], ◌∷◌, ◌++◌, map, refl, ap, subst, ◌∙◌, inl, inr, arith}
use Rattle.std.specs.Prelude.{Ok, nat_lt, ◌⊎◌, IsTrue}
use Rattle.std.specs.List.{AllByRecursion}
use Rattle.std.proofs.lemmas.Bool.Decides.{nat_tests}
use Rattle.std.proofs.lemmas.List.Elements.{recursion_from_All}
use Rattle.qv_words.specs.declared.op.Answer.{Answer}
use Rattle.qv_words.specs.declared.op.Answer.TheVariants.{Sat, Unsat, Unknown}
use Rattle.qv_words.specs.Tree.{Tree}
use Rattle.qv_rewrite_passes.specs.declared.pass.Pass.{Pass}
use Rattle.qv_rewrite_passes.specs.Passes.{behind, behind_all}
use Rattle.qv_cnf.specs.Literal.{Literal}
use Rattle.qv_cnf.specs.Listing.{clauses_of}
use Rattle.qv_cnf.specs.Refutation.{standing_at}
use Rattle.qv_cert.specs.declared.kind.RefusalKind.TheVariants as kind
use Rattle.qv_cert.specs.Line.{CertLine, Check, Rewrite, Lrat}
use Rattle.qv_cert.specs.Grammar.{Reading, cert_line}
use Rattle.qv_cert.specs.ClauseList.{clause_list, variables_of}
use Rattle.qv_cert.specs.Listed.{Listed, nothing, listing, listed_behind, listed_by}
use Rattle.qv_cert.specs.Faults.{first_fit, faults_of, belongs}
use Rattle.qv_cert.specs.Section.{Task, State, Opening, Listing, Rewriting, Refuting, GoesOn, by_reading, refused_or, first_list, is_missing, has_too_many, refuting, in_listing, opened}
use Rattle.qv_cert.specs.Shown.{AreRead, HaveNoFault, IsProof}
use Rattle.qv_cert.proofs.Accepting.{not-missing}
use Rattle.qv_cert.proofs.Pinned.{clear, cleared}
use Rattle.qv_check_lines.specs.Refuted.{onward, refuted_from}
use Rattle.qv_check_clauses.specs.ClausesLaws.{ClausesAreRefuted}

first-read : (inner : Bool) (text : List ℕ) (texts : List (List ℕ)) (line : CertLine) (lines : List CertLine) → AreRead inner (text ∷ texts) (line ∷ lines) → (cert_line inner text ≡ Ok line) × AreRead inner texts lines
first-read inner text texts line lines e = (cc, cc)

-- a line behind which the section goes on
goes-on : (task : Task) (s t : State) (inner : Bool) (text : List ℕ) (line : CertLine) (lines : List (List ℕ)) (end : List (List Literal)) → cert_line inner text ≡ Ok line
    → by_reading task s (Ok line) ≡ GoesOn t → refuted_from task t lines ≡ end
    → onward (λ next. refuted_from task next lines) (by_reading task s (cert_line inner text)) ≡ end
goes-on task s t inner text line lines end e does rest =
    ap (λ (r : Reading). onward (λ next. refuted_from task next lines) (by_reading task s r)) e
    ∙ ap (onward (λ next. refuted_from task next lines)) does ∙ rest

-- ---- `lrat`, and the `w` lines before it

few-enough : (formulas : List Tree) → variables_of formulas ≤ 2 ^ 30 → has_too_many formulas ≡ false
few-enough formulas h = go (variables_of formulas) (2 ^ 30) h
  where
    go : (v limit : ℕ) → v ≤ limit → nat_lt limit v ≡ false
    go v limit h = grind (arith, nat_tests)

abbrev clauses_for : List Tree → List (List Literal)
clauses_for formulas = clauses_of (clause_list formulas)

at-lrat : (task : Task) (answer : Answer) (formulas : List Tree) (lines : List (List ℕ)) → refuted_from task (Refuting answer (standing_at (clause_list formulas))) lines ≡ clauses_for formulas
unfolding refuted_from
at-lrat task answer formulas lines = refl

rewriting-lines : (task : Task) (passes : List Pass) (formulas : List Tree) (answer : Answer) (outer inner : List (List ℕ))
    → AreRead false outer (map Rewrite passes ++ Lrat ∷ []) → variables_of (behind_all passes formulas) ≤ 2 ^ 30
    → refuted_from task (Rewriting answer formulas) (outer ++ inner) ≡ clauses_for (behind_all passes formulas)
unfolding refuted_from
rewriting-lines task [] formulas answer [] inner e few = absurd cc
rewriting-lines task [] formulas answer (text ∷ []) inner e few =
    let line = first-read false text [] Lrat [] e in
    goes-on task (Rewriting answer formulas) (Refuting answer (standing_at (clause_list formulas))) false text Lrat inner (clauses_for formulas) line.0
    (ap (refused_or (refuting answer formulas)) (cleared ((kind.Variables, has_too_many formulas) ∷ []) (few-enough formulas few, tt)))
    (at-lrat task answer formulas inner)
rewriting-lines task [] formulas answer (text ∷ second ∷ outer) inner e few = absurd cc
rewriting-lines task (p ∷ passes) formulas answer [] inner e few = absurd cc
rewriting-lines task (p ∷ passes) formulas answer (text ∷ outer) inner e few =
    let line = first-read false text outer (Rewrite p) (map Rewrite passes ++ Lrat ∷ []) e in
    goes-on task (Rewriting answer formulas) (Rewriting answer (behind p formulas)) false text (Rewrite p) (outer ++ inner) (clauses_for (behind_all passes (behind p formulas))) line.0 refl
    (rewriting-lines task passes (behind p formulas) answer outer inner line.1 few)

-- ---- the lines that list

does-list : (task : Task) (answer : Answer) (l : Listed) (line : CertLine) → IsTrue (belongs answer line) → first_fit (faults_of task.problem l line) ≡ None
    → in_listing task answer l line ≡ GoesOn (Listing answer (listing task.problem l line))
does-list task answer l Lrat b e = absurd (no-lrat answer b)
  where
    no-lrat : (a : Answer) → belongs a Lrat ≡ true → ⊥
    no-lrat Sat b = absurd cc
    no-lrat Unsat b = absurd cc
    no-lrat Unknown b = absurd cc
does-list task answer l (Rewrite p) b e = absurd (no-pass answer b)
  where
    no-pass : (a : Answer) → belongs a (Rewrite p) ≡ true → ⊥
    no-pass Sat b = absurd cc
    no-pass Unsat b = absurd cc
    no-pass Unknown b = absurd cc
does-list task answer l line b e =
    ap (refused_or (GoesOn (Listing answer (listing task.problem l line))))
    (cleared ((kind.Form, not (belongs answer line)) ∷ faults_of task.problem l line) (ap not b, clear (faults_of task.problem l line) e))

same-number : (n : ℕ) → (n == n) ≡ true
same-number n = grind (arith, nat_tests)

listing-lines : (task : Task) (given : List CertLine) (l : Listed) (passes : List Pass) (answer : Answer) (outer inner : List (List ℕ))
    → AreRead false outer (given ++ (map Rewrite passes ++ Lrat ∷ []))
    → AllByRecursion (λ line. IsTrue (belongs answer line)) given → HaveNoFault task.problem l given → (passes ≡ []) ⊎ (task.version ≡ 2)
    → is_missing task.problem answer (listed_behind task.problem l given) ≡ false
    → variables_of (behind_all passes (first_list task.problem answer (listed_behind task.problem l given))) ≤ 2 ^ 30
    → refuted_from task (Listing answer l) (outer ++ inner) ≡ clauses_for (behind_all passes (first_list task.problem answer (listed_behind task.problem l given)))
unfolding refuted_from
listing-lines task [] l [] answer [] inner e belong clean version complete few = absurd cc
listing-lines task [] l [] answer (text ∷ []) inner e belong clean version complete few =
    let line = first-read false text [] Lrat [] e in
    let formulas = first_list task.problem answer l in
    goes-on task (Listing answer l) (Refuting answer (standing_at (clause_list formulas))) false text Lrat inner (clauses_for formulas) line.0
    (ap (refused_or (refuting answer (first_list task.problem answer l)))
    (cleared ((kind.Missing, is_missing task.problem answer l) ∷ (kind.Variables, has_too_many (first_list task.problem answer l)) ∷ []) (complete, (few-enough formulas few, tt))))
    (at-lrat task answer formulas inner)
listing-lines task [] l [] answer (text ∷ second ∷ outer) inner e belong clean version complete few = absurd cc
listing-lines task [] l (p ∷ passes) answer [] inner e belong clean version complete few = absurd cc
listing-lines task [] l (p ∷ passes) answer (text ∷ outer) inner e belong clean (inl none) complete few = absurd cc
listing-lines task [] l (p ∷ passes) answer (text ∷ outer) inner e belong clean (inr two) complete few =
    let line = first-read false text outer (Rewrite p) (map Rewrite passes ++ Lrat ∷ []) e in
    let version : not (task.version == 2) ≡ false = ap (λ (v : ℕ). not (v == 2)) two in
    let formulas = behind p (first_list task.problem answer l) in
    goes-on task (Listing answer l) (Rewriting answer formulas) false text (Rewrite p) (outer ++ inner) (clauses_for (behind_all passes formulas)) line.0
    (ap (refused_or (GoesOn (Rewriting answer (behind p (first_list task.problem answer l)))))
    (cleared ((kind.Form, not (task.version == 2)) ∷ (kind.Missing, is_missing task.problem answer l) ∷ []) (version, (complete, tt))))
    (rewriting-lines task passes formulas answer outer inner line.1 few)
listing-lines task (line ∷ given) l passes answer [] inner e belong clean version complete few = absurd cc
listing-lines task (line ∷ given) l passes answer (text ∷ outer) inner e belong clean version complete few =
    let parts = first-read false text outer line (given ++ (map Rewrite passes ++ Lrat ∷ [])) e in
    let last = behind_all passes (first_list task.problem answer (listed_behind task.problem (listing task.problem l line) given)) in
    goes-on task (Listing answer l) (Listing answer (listing task.problem l line)) false text line (outer ++ inner) (clauses_for last) parts.0
    (does-list task answer l line belong.0 clean.0)
    (listing-lines task given (listing task.problem l line) passes answer outer inner parts.1 belong.1 clean.1 version complete few)

-- ---- whole sections

proof-refuted : (task : Task) (answer : Answer) (texts : List (List ℕ)) → opened answer ≡ Listing answer nothing → (p : IsProof task answer texts) → (outer : List (List ℕ)) → p.outer ≡ outer
    → refuted_from task Opening (outer ++ p.inner) ≡ clauses_for (behind_all p.passes (first_list task.problem answer (listed_by task.problem p.given)))
unfolding refuted_from
proof-refuted task answer texts opens p [] is =
    let read : AreRead false [] (Check task.number answer ∷ (p.given ++ (map Rewrite p.passes ++ Lrat ∷ []))) = subst (λ (xs : List (List ℕ)). AreRead false xs (Check task.number answer ∷ (p.given ++ (map Rewrite p.passes ++ Lrat ∷ [])))) is p.outer_are in
    absurd cc
proof-refuted task answer texts opens p (text ∷ outer) is =
    let read = first-read false text outer (Check task.number answer) (p.given ++ (map Rewrite p.passes ++ Lrat ∷ []))
    (subst (λ (xs : List (List ℕ)). AreRead false xs (Check task.number answer ∷ (p.given ++ (map Rewrite p.passes ++ Lrat ∷ [])))) is p.outer_are) in
    goes-on task Opening (Listing answer nothing) false text (Check task.number answer) (outer ++ p.inner) (clauses_for (behind_all p.passes (first_list task.problem answer (listed_by task.problem p.given)))) read.0
    (ap (refused_or (GoesOn (opened answer))) (cleared ((kind.Section, not (task.number == task.number)) ∷ []) (ap not (same-number task.number), tt)) ∙ ap (λ (s : State). GoesOn s) opens)
    (listing-lines task p.given nothing p.passes answer outer p.inner read.1 (recursion_from_All (λ line. IsTrue (belongs answer line)) p.given p.belong) p.lawful p.version
    (not-missing task.problem answer (listed_by task.problem p.given) p.listed) p.few)

texts-refuted : (task : Task) (answer : Answer) (texts : List (List ℕ)) → opened answer ≡ Listing answer nothing → (p : IsProof task answer texts)
    → refuted_from task Opening texts ≡ clauses_for (behind_all p.passes (first_list task.problem answer (listed_by task.problem p.given)))
texts-refuted task answer texts opens p = ap (refuted_from task Opening) p.texts_are ∙ proof-refuted task answer texts opens p p.outer refl

pub clauses-are-refuted : ClausesAreRefuted
clauses-are-refuted task Sat texts p = texts-refuted task Sat texts refl p
clauses-are-refuted task Unsat texts p = texts-refuted task Unsat texts refl p
clauses-are-refuted task Unknown texts p = absurd p.listed
