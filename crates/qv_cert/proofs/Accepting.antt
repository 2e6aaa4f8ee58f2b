-- Sections of an answer are accepted.
use Rattle.std.proofs.Common.{◌≡◌, ℕ, suc, ◌+◌, ◌^◌, ◌≤◌, Bool, true, false, not, ◌==◌, ◌&&◌, ◌||◌, None, List, [], ◌∷◌, ◌++◌, length, slice_get, map, refl, ap, sym, subst, ◌∙◌, inl, inr, arith, append_assoc, length-append}
use Rattle.std.specs.Prelude.{Ok, nat_lt, is_some, ◌⊎◌, IsSome, IsSomeAnd, IsTrue}
use Rattle.std.specs.List.{AllByRecursion}
use Rattle.std.proofs.lemmas.Bool.Decides.{nat_tests}
use Rattle.std.proofs.lemmas.List.Elements.{recursion_from_All}
use Rattle.qv_words.specs.declared.op.Answer.{Answer}
use Rattle.qv_words.specs.declared.op.Answer.TheVariants.{Sat, Unsat, Unknown}
use Rattle.qv_words.specs.Tree.{Tree}
use Rattle.qv_words.specs.Problem.{Problem, Place, Quantifier, Existential, Universal}
use Rattle.qv_words.specs.Skolem.{term_of}
use Rattle.qv_rewrite_passes.specs.declared.pass.Pass.{Pass}
use Rattle.qv_rewrite_passes.specs.Passes.{behind as behind_pass, behind_all}
use Rattle.qv_cnf.specs.LratLine.{LratLine, Addition, Deletion}
use Rattle.qv_cnf.specs.Refutation.{Standing, standing_at, judged_line, after_line, accepts, adds_none, has_none, refutes_from, Refutes}
use Rattle.qv_cert.specs.declared.kind.RefusalKind.TheVariants as kind
use Rattle.qv_cert.specs.Line.{CertLine, Check, Rewrite, Lrat, Step, End}
use Rattle.qv_cert.specs.Grammar.{Reading, cert_line}
use Rattle.qv_cert.specs.ClauseList.{clause_list, variables_of}
use Rattle.qv_cert.specs.Listed.{Listed, nothing, listing, listed_behind, listed_by}
use Rattle.qv_cert.specs.Faults.{first_fit, faults_of, belongs, is_existential, lacks_from}
use Rattle.qv_cert.specs.Section.{Task, State, Opening, Closing, Listing, Rewriting, Refuting, GoesOn, Accepts, Judged, AcceptedUpTo, by_outcome, by_reading, judged_from, judged_step, in_step, unless, refused_or, first_list, is_missing, has_too_many, refuting, in_listing, opened}
use Rattle.qv_cert.specs.Shown.{AreRead, HaveNoFault, IsListOf, IsProof, SectionsAreAccepted}
use Rattle.qv_cert.proofs.Pinned.{clear, cleared}
use Rattle.std.proofs.lemmas.Bool.{and_parts}
use Rattle.qv_cnf.proofs.Soundness.{Accepted-from_accepts}

-- the first line of lines that are read
first-read : (inner : Bool) (text : List ℕ) (texts : List (List ℕ)) (line : CertLine) (lines : List CertLine) → AreRead inner (text ∷ texts) (line ∷ lines) → (cert_line inner text ≡ Ok line) × AreRead inner texts lines
first-read inner text texts line lines e = (cc, cc)

-- one line, by what it does
goes-on : (task : Task) (s t : State) (inner : Bool) (n : ℕ) (text : List ℕ) (line : CertLine) (lines : List (List ℕ)) (end : Judged) → cert_line inner text ≡ Ok line
    → by_reading task s (Ok line) ≡ GoesOn t → judged_from task t (suc n) lines ≡ end
    → by_outcome n lines (λ next. judged_from task next (suc n) lines) (by_reading task s (cert_line inner text)) ≡ end
goes-on task s t inner n text line lines end e does rest =
    ap (λ (r : Reading). by_outcome n lines (λ next. judged_from task next (suc n) lines) (by_reading task s r)) e
    ∙ ap (by_outcome n lines (λ next. judged_from task next (suc n) lines)) does ∙ rest

-- ---- the refutation

flag-only : (b : Bool) → (b || false) ≡ true → b ≡ true
flag-only true e = refl
flag-only false e = absurd cc

-- the flag behind an accepted line
flag-after : (s : Standing) (line : LratLine) (steps : List LratLine) → s.refuted ≡ false → (adds_none line || refutes_from (after_line s line) steps) ≡ true
    → ((after_line s line).refuted || refutes_from (after_line s line) steps) ≡ true
flag-after s (Addition id lits hints) steps none h =
    subst (λ (b : Bool). (b || refutes_from (after_line s (Addition id lits hints)) steps) ≡ true) (sym (ap (λ (b : Bool). b || has_none lits) none)) h
flag-after s (Deletion id ids) steps none h =
    subst (λ (b : Bool). (b || refutes_from (after_line s (Deletion id ids)) steps) ≡ true) (sym none) h

-- what a step does, and that the flag holds behind it
stepped : (s : Standing) (answer : Answer) (line : LratLine) (steps : List LratLine) (b : Bool) → s.refuted ≡ b → (s.refuted || refutes_from s (line ∷ steps)) ≡ true
    → (t : Standing) × (in_step answer s line b ≡ GoesOn (Refuting answer t)) × ((t.refuted || refutes_from t steps) ≡ true)
stepped s answer line steps true e h = (s, refl, ap (λ (b : Bool). b || refutes_from s steps) e)
stepped s answer line steps false e h =
    let parts = and_parts (accepts (judged_line s line)) (adds_none line || refutes_from (after_line s line) steps) (subst (λ (b : Bool). (b || refutes_from s (line ∷ steps)) ≡ true) e h) in
    let ok = Accepted-from_accepts (judged_line s line) parts.0 in
    (after_line s line, ap (judged_step answer (Refuting answer (after_line s line))) ok, flag-after s line steps e parts.1)

refuting-lines : (task : Task) (steps : List LratLine) (s : Standing) (answer : Answer) (n : ℕ) (inner behind : List (List ℕ)) → AreRead true inner (map Step steps ++ End ∷ [])
    → (s.refuted || refutes_from s steps) ≡ true → judged_from task (Refuting answer s) n (inner ++ behind) ≡ AcceptedUpTo answer (n + length inner) behind
unfolding judged_from
refuting-lines task [] s answer n [] behind e h = absurd cc
refuting-lines task [] s answer n (text ∷ []) behind e h =
    let line = first-read true text [] End [] e in
    let flag = flag-only s.refuted h in
    ap (λ (r : Reading). by_outcome n behind (λ next. judged_from task next (suc n) behind) (by_reading task (Refuting answer s) r)) line.0
    ∙ ap (λ (b : Bool). by_outcome n behind (λ next. judged_from task next (suc n) behind) (unless ((kind.Refutation, not b) ∷ []) (Accepts answer))) flag
    ∙ ap (λ (m : ℕ). AcceptedUpTo answer m behind) (omega arith)
refuting-lines task [] s answer n (text ∷ second ∷ inner) behind e h = absurd cc
refuting-lines task (line ∷ steps) s answer n [] behind e h = absurd cc
refuting-lines task (line ∷ steps) s answer n (text ∷ inner) behind e h =
    let parts = first-read true text inner (Step line) (map Step steps ++ End ∷ []) e in
    let next = stepped s answer line steps s.refuted refl h in
    let number : suc n + length inner ≡ n + length (text ∷ inner) = omega arith in
    goes-on task (Refuting answer s) (Refuting answer next.0) true n text (Step line) (inner ++ behind) (AcceptedUpTo answer (n + length (text ∷ inner)) behind) parts.0 next.1
    (refuting-lines task steps next.0 answer (suc n) inner behind parts.1 next.2 ∙ ap (λ (m : ℕ). AcceptedUpTo answer m behind) number)

-- ---- `lrat`, and the `w` lines before it

few-enough : (formulas : List Tree) → variables_of formulas ≤ 2 ^ 30 → has_too_many formulas ≡ false
few-enough formulas h = go (variables_of formulas) (2 ^ 30) h
  where
    go : (v limit : ℕ) → v ≤ limit → nat_lt limit v ≡ false
    go v limit h = grind (arith, nat_tests)

rewriting-lines : (task : Task) (passes : List Pass) (formulas : List Tree) (answer : Answer) (n : ℕ) (outer inner behind : List (List ℕ)) (steps : List LratLine)
    → AreRead false outer (map Rewrite passes ++ Lrat ∷ []) → AreRead true inner (map Step steps ++ End ∷ [])
    → variables_of (behind_all passes formulas) ≤ 2 ^ 30 → Refutes (clause_list (behind_all passes formulas)) steps
    → judged_from task (Rewriting answer formulas) n (outer ++ (inner ++ behind)) ≡ AcceptedUpTo answer (n + (length outer + length inner)) behind
unfolding judged_from
rewriting-lines task [] formulas answer n [] inner behind steps e f few h = absurd cc
rewriting-lines task [] formulas answer n (text ∷ []) inner behind steps e f few h =
    let line = first-read false text [] Lrat [] e in
    let number : suc n + length inner ≡ n + (length (text ∷ []) + length inner) = omega arith in
    goes-on task (Rewriting answer formulas) (Refuting answer (standing_at (clause_list formulas))) false n text Lrat (inner ++ behind) (AcceptedUpTo answer (n + (length (text ∷ []) + length inner)) behind) line.0
    (ap (refused_or (refuting answer formulas)) (cleared ((kind.Variables, has_too_many formulas) ∷ []) (few-enough formulas few, tt)))
    (refuting-lines task steps (standing_at (clause_list formulas)) answer (suc n) inner behind f h ∙ ap (λ (m : ℕ). AcceptedUpTo answer m behind) number)
rewriting-lines task [] formulas answer n (text ∷ second ∷ outer) inner behind steps e f few h = absurd cc
rewriting-lines task (p ∷ passes) formulas answer n [] inner behind steps e f few h = absurd cc
rewriting-lines task (p ∷ passes) formulas answer n (text ∷ outer) inner behind steps e f few h =
    let line = first-read false text outer (Rewrite p) (map Rewrite passes ++ Lrat ∷ []) e in
    let number : suc n + (length outer + length inner) ≡ n + (length (text ∷ outer) + length inner) = omega arith in
    goes-on task (Rewriting answer formulas) (Rewriting answer (behind_pass p formulas)) false n text (Rewrite p) (outer ++ (inner ++ behind)) (AcceptedUpTo answer (n + (length (text ∷ outer) + length inner)) behind) line.0 refl
    (rewriting-lines task passes (behind_pass p formulas) answer (suc n) outer inner behind steps line.1 f few h ∙ ap (λ (m : ℕ). AcceptedUpTo answer m behind) number)

-- ---- the lines that list

does-list : (task : Task) (answer : Answer) (l : Listed) (line : CertLine) → IsTrue (belongs answer line) → first_fit (faults_of task.problem l line) ≡ None
    → in_listing task answer l line ≡ GoesOn (Listing answer (listing task.problem l line))
does-list task answer l Lrat b e = absurd (no-lrat answer b)
  where
    no-lrat : (a : Answer) → belongs a Lrat ≡ true → ⊥
    no-lrat Sat b = absurd cc
    no-lrat Unsat b = absurd cc
    no-lrat Unknown b = absurd cc
does-list task answer l (Rewrite p) b e = absurd (no-pass answer b)
  where
    no-pass : (a : Answer) → belongs a (Rewrite p) ≡ true → ⊥
    no-pass Sat b = absurd cc
    no-pass Unsat b = absurd cc
    no-pass Unknown b = absurd cc
does-list task answer l line b e =
    ap (refused_or (GoesOn (Listing answer (listing task.problem l line))))
    (cleared ((kind.Form, not (belongs answer line)) ∷ faults_of task.problem l line) (ap not b, clear (faults_of task.problem l line) e))

same-number : (n : ℕ) → (n == n) ≡ true
same-number n = grind (arith, nat_tests)

listing-lines : (task : Task) (given : List CertLine) (l : Listed) (passes : List Pass) (answer : Answer) (n : ℕ) (outer inner behind : List (List ℕ)) (steps : List LratLine)
    → AreRead false outer (given ++ (map Rewrite passes ++ Lrat ∷ [])) → AreRead true inner (map Step steps ++ End ∷ [])
    → AllByRecursion (λ line. IsTrue (belongs answer line)) given → HaveNoFault task.problem l given → (passes ≡ []) ⊎ (task.version ≡ 2)
    → is_missing task.problem answer (listed_behind task.problem l given) ≡ false
    → variables_of (behind_all passes (first_list task.problem answer (listed_behind task.problem l given))) ≤ 2 ^ 30
    → Refutes (clause_list (behind_all passes (first_list task.problem answer (listed_behind task.problem l given)))) steps
    → judged_from task (Listing answer l) n (outer ++ (inner ++ behind)) ≡ AcceptedUpTo answer (n + (length outer + length inner)) behind
unfolding judged_from
listing-lines task [] l [] answer n [] inner behind steps e f belong clean version complete few h = absurd cc
listing-lines task [] l [] answer n (text ∷ []) inner behind steps e f belong clean version complete few h =
    let line = first-read false text [] Lrat [] e in
    let formulas = first_list task.problem answer l in
    let number : suc n + length inner ≡ n + (length (text ∷ []) + length inner) = omega arith in
    goes-on task (Listing answer l) (Refuting answer (standing_at (clause_list (first_list task.problem answer l)))) false n text Lrat (inner ++ behind) (AcceptedUpTo answer (n + (length (text ∷ []) + length inner)) behind) line.0
    (ap (refused_or (refuting answer (first_list task.problem answer l)))
    (cleared ((kind.Missing, is_missing task.problem answer l) ∷ (kind.Variables, has_too_many (first_list task.problem answer l)) ∷ []) (complete, (few-enough formulas few, tt))))
    (refuting-lines task steps (standing_at (clause_list (first_list task.problem answer l))) answer (suc n) inner behind f h ∙ ap (λ (m : ℕ). AcceptedUpTo answer m behind) number)
listing-lines task [] l [] answer n (text ∷ second ∷ outer) inner behind steps e f belong clean version complete few h = absurd cc
listing-lines task [] l (p ∷ passes) answer n [] inner behind steps e f belong clean version complete few h = absurd cc
listing-lines task [] l (p ∷ passes) answer n (text ∷ outer) inner behind steps e f belong clean (inl none) complete few h = absurd cc
listing-lines task [] l (p ∷ passes) answer n (text ∷ outer) inner behind steps e f belong clean (inr two) complete few h =
    let line = first-read false text outer (Rewrite p) (map Rewrite passes ++ Lrat ∷ []) e in
    let number : suc n + (length outer + length inner) ≡ n + (length (text ∷ outer) + length inner) = omega arith in
    let version : not (task.version == 2) ≡ false = ap (λ (v : ℕ). not (v == 2)) two in
    goes-on task (Listing answer l) (Rewriting answer (behind_pass p (first_list task.problem answer l))) false n text (Rewrite p) (outer ++ (inner ++ behind)) (AcceptedUpTo answer (n + (length (text ∷ outer) + length inner)) behind) line.0
    (ap (refused_or (GoesOn (Rewriting answer (behind_pass p (first_list task.problem answer l)))))
    (cleared ((kind.Form, not (task.version == 2)) ∷ (kind.Missing, is_missing task.problem answer l) ∷ []) (version, (complete, tt))))
    (rewriting-lines task passes (behind_pass p (first_list task.problem answer l)) answer (suc n) outer inner behind steps line.1 f few h ∙ ap (λ (m : ℕ). AcceptedUpTo answer m behind) number)
listing-lines task (line ∷ given) l passes answer n [] inner behind steps e f belong clean version complete few h = absurd cc
listing-lines task (line ∷ given) l passes answer n (text ∷ outer) inner behind steps e f belong clean version complete few h =
    let parts = first-read false text outer line (given ++ (map Rewrite passes ++ Lrat ∷ [])) e in
    let number : suc n + (length outer + length inner) ≡ n + (length (text ∷ outer) + length inner) = omega arith in
    goes-on task (Listing answer l) (Listing answer (listing task.problem l line)) false n text line (outer ++ (inner ++ behind)) (AcceptedUpTo answer (n + (length (text ∷ outer) + length inner)) behind) parts.0
    (does-list task answer l line belong.0 clean.0)
    (listing-lines task given (listing task.problem l line) passes answer (suc n) outer inner behind steps parts.1 f belong.1 clean.1 version complete few h ∙ ap (λ (m : ℕ). AcceptedUpTo answer m behind) number)

-- ---- terms for all existential places

pub has-all : (q : Quantifier) (b : Bool) → (q ≡ Existential → b ≡ true) → (is_existential q && not b) ≡ false
has-all Existential true h = refl
has-all Existential false h = absurd (contra (h refl))
  where
    contra : false ≡ true → ⊥
    contra e = absurd cc
has-all Universal b h = refl

none-lacks : (l : Listed) (places : List Place) (start : ℕ) → ((j k : ℕ) → k ≡ start + j → IsSomeAnd (slice_get places j) (λ place. place.quantifier ≡ Existential) → IsSome (term_of l.terms k))
    → lacks_from l start places ≡ false
none-lacks l [] start h = refl
none-lacks l (place ∷ places) start h =
    rw (has-all place.quantifier (is_some (term_of l.terms start)) (λ is. h 0 start (omega arith) is), none-lacks l places (suc start) (λ j k e is. h (suc j) k (omega (arith, e)) is)) refl

pub not-missing : (p : Problem) (answer : Answer) (l : Listed) → IsListOf p answer l → is_missing p answer l ≡ false
not-missing p Sat l h = none-lacks l p.prefix 0 (λ j k e is. h.all k (subst (λ (i : ℕ). IsSomeAnd (slice_get p.prefix i) (λ place. place.quantifier ≡ Existential)) (omega (arith, e)) is))
not-missing p Unsat l h = refl
not-missing p Unknown l h = refl

-- ---- whole sections

-- the `check` line
checked : (task : Task) (answer : Answer) (n : ℕ) (text : List ℕ) (lines : List (List ℕ)) (end : Judged) → cert_line false text ≡ Ok (Check task.number answer)
    → judged_from task (opened answer) (suc n) lines ≡ end → judged_from task Opening n (text ∷ lines) ≡ end
unfolding judged_from
checked task answer n text lines end e rest =
    goes-on task Opening (opened answer) false n text (Check task.number answer) lines end e
    (ap (refused_or (GoesOn (opened answer))) (cleared ((kind.Section, not (task.number == task.number)) ∷ []) (ap not (same-number task.number), tt))) rest

listed-proof : (task : Task) (answer : Answer) (n : ℕ) (text : List ℕ) (outer behind : List (List ℕ)) (texts : List (List ℕ)) (h : IsProof task answer texts) → h.outer ≡ text ∷ outer
    → judged_from task (Listing answer nothing) (suc n) (outer ++ (h.inner ++ behind)) ≡ AcceptedUpTo answer (suc n + (length outer + length h.inner)) behind
listed-proof task answer n text outer behind texts h is =
    let read = first-read false text outer (Check task.number answer) (h.given ++ (map Rewrite h.passes ++ Lrat ∷ []))
    (subst (λ (xs : List (List ℕ)). AreRead false xs (Check task.number answer ∷ (h.given ++ (map Rewrite h.passes ++ Lrat ∷ [])))) is h.outer_are) in
    listing-lines task h.given nothing h.passes answer (suc n) outer h.inner behind h.steps read.1 h.inner_are (recursion_from_All (λ line. IsTrue (belongs answer line)) h.given h.belong) h.lawful h.version
    (not-missing task.problem answer (listed_by task.problem h.given) h.listed) h.few h.refutes

proof-accepted : (task : Task) (answer : Answer) (n : ℕ) (behind texts : List (List ℕ)) → opened answer ≡ Listing answer nothing → (h : IsProof task answer texts) → (outer : List (List ℕ)) → h.outer ≡ outer
    → judged_from task Opening n (texts ++ behind) ≡ AcceptedUpTo answer (n + length texts) behind
proof-accepted task answer n behind texts opens h [] is =
    let read : AreRead false [] (Check task.number answer ∷ (h.given ++ (map Rewrite h.passes ++ Lrat ∷ []))) = subst (λ (xs : List (List ℕ)). AreRead false xs (Check task.number answer ∷ (h.given ++ (map Rewrite h.passes ++ Lrat ∷ [])))) is h.outer_are in
    absurd cc
proof-accepted task answer n behind texts opens h (text ∷ outer) is =
    let read = first-read false text outer (Check task.number answer) (h.given ++ (map Rewrite h.passes ++ Lrat ∷ []))
    (subst (λ (xs : List (List ℕ)). AreRead false xs (Check task.number answer ∷ (h.given ++ (map Rewrite h.passes ++ Lrat ∷ [])))) is h.outer_are) in
    let whole : texts ≡ text ∷ (outer ++ h.inner) = h.texts_are ∙ ap (λ (xs : List (List ℕ)). xs ++ h.inner) is in
    let lengths : length (outer ++ h.inner) ≡ length outer + length h.inner = length-append outer h.inner in
    let number : suc n + (length outer + length h.inner) ≡ n + length (text ∷ (outer ++ h.inner)) = omega (arith, lengths) in
    let inside : judged_from task (opened answer) (suc n) (outer ++ (h.inner ++ behind)) ≡ AcceptedUpTo answer (n + length (text ∷ (outer ++ h.inner))) behind =
    ap (λ (s : State). judged_from task s (suc n) (outer ++ (h.inner ++ behind))) opens ∙ listed-proof task answer n text outer behind texts h is ∙ ap (λ (m : ℕ). AcceptedUpTo answer m behind) number in
    subst (λ (xs : List (List ℕ)). judged_from task Opening n (xs ++ behind) ≡ AcceptedUpTo answer (n + length xs) behind) (sym whole)
    (ap (λ (xs : List (List ℕ)). judged_from task Opening n (text ∷ xs)) (append_assoc outer h.inner behind)
    ∙ checked task answer n text (outer ++ (h.inner ++ behind)) (AcceptedUpTo answer (n + length (text ∷ (outer ++ h.inner))) behind) read.0 inside)

unknown-accepted : (task : Task) (n : ℕ) (texts behind : List (List ℕ)) → AreRead false texts (Check task.number Unknown ∷ End ∷ []) → judged_from task Opening n (texts ++ behind) ≡ AcceptedUpTo Unknown (n + length texts) behind
unfolding judged_from
unknown-accepted task n [] behind e = absurd cc
unknown-accepted task n (text ∷ []) behind e = absurd cc
unknown-accepted task n (text ∷ second ∷ []) behind e =
    let first = first-read false text (second ∷ []) (Check task.number Unknown) (End ∷ []) e in
    let last = first-read false second [] End [] first.1 in
    checked task Unknown n text (second ∷ behind) (AcceptedUpTo Unknown (n + length (text ∷ second ∷ [])) behind) first.0
    (ap (λ (r : Reading). by_outcome (suc n) behind (λ next. judged_from task next (suc (suc n)) behind) (by_reading task Closing r)) last.0 ∙ ap (λ (m : ℕ). AcceptedUpTo Unknown m behind) (omega arith))
unknown-accepted task n (text ∷ second ∷ third ∷ texts) behind e = absurd cc

pub sections-are-accepted : SectionsAreAccepted
sections-are-accepted task Sat n texts behind h = proof-accepted task Sat n behind texts refl h h.outer refl
sections-are-accepted task Unsat n texts behind h = proof-accepted task Unsat n behind texts refl h h.outer refl
sections-are-accepted task Unknown n texts behind h = unknown-accepted task n texts behind h
