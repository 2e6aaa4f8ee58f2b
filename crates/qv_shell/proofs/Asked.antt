-- What is said of a run by what its words ask for: where that isn't known, and where it is.
use Rattle.std.proofs.Common.{◌≡◌, ◌≤◌, ℕ, List, [], Option, Some, None, inl, inr, refl, arith}
use Rattle.std.specs.Prelude.{IfSome}
use Rattle.qv_io.proofs.SinkLemmas.{Appends-nothing}
use Rattle.qv_shell_args.specs.declared.calls.Settings.{Settings}
use Rattle.qv_shell_args.specs.declared.calls.Page.{Page}
use Rattle.qv_shell_args.specs.Call.{Request, Solve, Check, Lrat, Trim, Clauses, QSolve, QCheck, Gen, Bench, Print}
use Rattle.qv_meter.specs.Records.{Record}
use Rattle.qv_shell_follow.proofs.Starting.{nothing-solved}
use Rattle.qv_gen.specs.Generating.{IsGenRun, IsWriting, IsWritingUnless}
use Rattle.qv_shell.specs.Bench.{IsBenchRun}
use Rattle.qv_check_defs.specs.Outcome.{outcome}
use Rattle.qv_check_script.proofs.Unfinished.{nothing-short}
use Rattle.qv_shell.specs.Checking.{IsCheckRun, IsFront}
use Rattle.qv_shell.specs.Requests.{IfSolve, IfCheck, IfLrat, IfTrim, IfClauses, IfQSolve, IfQCheck, IfGen, IfBench, IfPage, IfRefused, IfSolves, IfChecks, IfReads, IfWrites, UnlessReads, UnlessWrites, UnlessScript, UnlessMetered, limits_with}
use Rattle.qv_shell.specs.Solving.{IsSolveRun}
use Rattle.qv_shell.specs.Words.{page_text, usage}
use Rattle.qv_shell.proofs.Benching.{starts-none}
use Rattle.qv_shell.proofs.Checks.{answers-hold, accepts-solved}

-- ---- what holds of all runs holds of those that ask for something

pub if-solve : (r : Option Request) {P : Settings → Type 0} → ((s : Settings) → P s) → IfSolve r P
if-solve (Some (Solve script cert settings)) h = h settings
if-solve (Some (Check script cert places)) h = tt
if-solve (Some (Lrat cnf proof)) h = tt
if-solve (Some (Trim script cert to places)) h = tt
if-solve (Some (Clauses script cert places)) h = tt
if-solve (Some (QSolve file cert settings)) h = tt
if-solve (Some (QCheck file cert places)) h = tt
if-solve (Some (Gen n)) h = tt
if-solve (Some (Bench n)) h = tt
if-solve (Some (Print page)) h = tt
if-solve None h = tt

pub if-check : (r : Option Request) {P : ℕ → Type 0} → ((places : ℕ) → P places) → IfCheck r P
if-check (Some (Solve script cert settings)) h = tt
if-check (Some (Check script cert places)) h = h places
if-check (Some (Lrat cnf proof)) h = tt
if-check (Some (Trim script cert to places)) h = tt
if-check (Some (Clauses script cert places)) h = tt
if-check (Some (QSolve file cert settings)) h = tt
if-check (Some (QCheck file cert places)) h = tt
if-check (Some (Gen n)) h = tt
if-check (Some (Bench n)) h = tt
if-check (Some (Print page)) h = tt
if-check None h = tt

pub if-lrat : (r : Option Request) {P : Type 0} → P → IfLrat r P
if-lrat (Some (Solve script cert settings)) h = tt
if-lrat (Some (Check script cert places)) h = tt
if-lrat (Some (Lrat cnf proof)) h = h
if-lrat (Some (Trim script cert to places)) h = tt
if-lrat (Some (Clauses script cert places)) h = tt
if-lrat (Some (QSolve file cert settings)) h = tt
if-lrat (Some (QCheck file cert places)) h = tt
if-lrat (Some (Gen n)) h = tt
if-lrat (Some (Bench n)) h = tt
if-lrat (Some (Print page)) h = tt
if-lrat None h = tt

pub if-trim : (r : Option Request) {P : ℕ → Type 0} → ((places : ℕ) → P places) → IfTrim r P
if-trim (Some (Solve script cert settings)) h = tt
if-trim (Some (Check script cert places)) h = tt
if-trim (Some (Lrat cnf proof)) h = tt
if-trim (Some (Trim script cert to places)) h = h places
if-trim (Some (Clauses script cert places)) h = tt
if-trim (Some (QSolve file cert settings)) h = tt
if-trim (Some (QCheck file cert places)) h = tt
if-trim (Some (Gen n)) h = tt
if-trim (Some (Bench n)) h = tt
if-trim (Some (Print page)) h = tt
if-trim None h = tt

pub if-clauses : (r : Option Request) {P : ℕ → Type 0} → ((places : ℕ) → P places) → IfClauses r P
if-clauses (Some (Solve script cert settings)) h = tt
if-clauses (Some (Check script cert places)) h = tt
if-clauses (Some (Lrat cnf proof)) h = tt
if-clauses (Some (Trim script cert to places)) h = tt
if-clauses (Some (Clauses script cert places)) h = h places
if-clauses (Some (QSolve file cert settings)) h = tt
if-clauses (Some (QCheck file cert places)) h = tt
if-clauses (Some (Gen n)) h = tt
if-clauses (Some (Bench n)) h = tt
if-clauses (Some (Print page)) h = tt
if-clauses None h = tt

pub if-qsolve : (r : Option Request) {P : Settings → Type 0} → ((s : Settings) → P s) → IfQSolve r P
if-qsolve (Some (Solve script cert settings)) h = tt
if-qsolve (Some (Check script cert places)) h = tt
if-qsolve (Some (Lrat cnf proof)) h = tt
if-qsolve (Some (Trim script cert to places)) h = tt
if-qsolve (Some (Clauses script cert places)) h = tt
if-qsolve (Some (QSolve file cert settings)) h = h settings
if-qsolve (Some (QCheck file cert places)) h = tt
if-qsolve (Some (Gen n)) h = tt
if-qsolve (Some (Bench n)) h = tt
if-qsolve (Some (Print page)) h = tt
if-qsolve None h = tt

pub if-qcheck : (r : Option Request) {P : ℕ → Type 0} → ((places : ℕ) → P places) → IfQCheck r P
if-qcheck (Some (Solve script cert settings)) h = tt
if-qcheck (Some (Check script cert places)) h = tt
if-qcheck (Some (Lrat cnf proof)) h = tt
if-qcheck (Some (Trim script cert to places)) h = tt
if-qcheck (Some (Clauses script cert places)) h = tt
if-qcheck (Some (QSolve file cert settings)) h = tt
if-qcheck (Some (QCheck file cert places)) h = h places
if-qcheck (Some (Gen n)) h = tt
if-qcheck (Some (Bench n)) h = tt
if-qcheck (Some (Print page)) h = tt
if-qcheck None h = tt

pub if-gen : (r : Option Request) {P : ℕ → Type 0} → ((n : ℕ) → P n) → IfGen r P
if-gen (Some (Solve script cert settings)) h = tt
if-gen (Some (Check script cert places)) h = tt
if-gen (Some (Lrat cnf proof)) h = tt
if-gen (Some (Trim script cert to places)) h = tt
if-gen (Some (Clauses script cert places)) h = tt
if-gen (Some (QSolve file cert settings)) h = tt
if-gen (Some (QCheck file cert places)) h = tt
if-gen (Some (Gen n)) h = h n
if-gen (Some (Bench n)) h = tt
if-gen (Some (Print page)) h = tt
if-gen None h = tt

pub if-bench : (r : Option Request) {P : ℕ → Type 0} → ((n : ℕ) → P n) → IfBench r P
if-bench (Some (Solve script cert settings)) h = tt
if-bench (Some (Check script cert places)) h = tt
if-bench (Some (Lrat cnf proof)) h = tt
if-bench (Some (Trim script cert to places)) h = tt
if-bench (Some (Clauses script cert places)) h = tt
if-bench (Some (QSolve file cert settings)) h = tt
if-bench (Some (QCheck file cert places)) h = tt
if-bench (Some (Gen n)) h = tt
if-bench (Some (Bench n)) h = h n
if-bench (Some (Print page)) h = tt
if-bench None h = tt

pub if-page : (r : Option Request) {P : Page → Type 0} → ((page : Page) → P page) → IfPage r P
if-page (Some (Solve script cert settings)) h = tt
if-page (Some (Check script cert places)) h = tt
if-page (Some (Lrat cnf proof)) h = tt
if-page (Some (Trim script cert to places)) h = tt
if-page (Some (Clauses script cert places)) h = tt
if-page (Some (QSolve file cert settings)) h = tt
if-page (Some (QCheck file cert places)) h = tt
if-page (Some (Gen n)) h = tt
if-page (Some (Bench n)) h = tt
if-page (Some (Print page)) h = h page
if-page None h = tt

pub if-refused : (r : Option Request) {P : Type 0} → P → IfRefused r P
if-refused (Some request) h = tt
if-refused None h = h

pub if-solves : (r : Option Request) {P : Type 0} → P → IfSolves r P
if-solves (Some (Solve script cert settings)) h = h
if-solves (Some (Check script cert places)) h = tt
if-solves (Some (Lrat cnf proof)) h = tt
if-solves (Some (Trim script cert to places)) h = tt
if-solves (Some (Clauses script cert places)) h = tt
if-solves (Some (QSolve file cert settings)) h = h
if-solves (Some (QCheck file cert places)) h = tt
if-solves (Some (Gen n)) h = tt
if-solves (Some (Bench n)) h = tt
if-solves (Some (Print page)) h = tt
if-solves None h = tt

pub if-checks : (r : Option Request) {P : Type 0} → P → IfChecks r P
if-checks (Some (Solve script cert settings)) h = tt
if-checks (Some (Check script cert places)) h = h
if-checks (Some (Lrat cnf proof)) h = h
if-checks (Some (Trim script cert to places)) h = tt
if-checks (Some (Clauses script cert places)) h = h
if-checks (Some (QSolve file cert settings)) h = tt
if-checks (Some (QCheck file cert places)) h = h
if-checks (Some (Gen n)) h = tt
if-checks (Some (Bench n)) h = tt
if-checks (Some (Print page)) h = tt
if-checks None h = tt

pub if-reads : (r : Option Request) {P : Type 0} → P → IfReads r P
if-reads (Some (Solve script cert settings)) h = tt
if-reads (Some (Check script cert places)) h = h
if-reads (Some (Lrat cnf proof)) h = h
if-reads (Some (Trim script cert to places)) h = h
if-reads (Some (Clauses script cert places)) h = h
if-reads (Some (QSolve file cert settings)) h = tt
if-reads (Some (QCheck file cert places)) h = h
if-reads (Some (Gen n)) h = tt
if-reads (Some (Bench n)) h = tt
if-reads (Some (Print page)) h = tt
if-reads None h = tt

pub if-writes : (r : Option Request) {P : Type 0} → P → IfWrites r P
if-writes (Some (Solve script cert settings)) h = h
if-writes (Some (Check script cert places)) h = tt
if-writes (Some (Lrat cnf proof)) h = tt
if-writes (Some (Trim script cert to places)) h = h
if-writes (Some (Clauses script cert places)) h = tt
if-writes (Some (QSolve file cert settings)) h = h
if-writes (Some (QCheck file cert places)) h = tt
if-writes (Some (Gen n)) h = tt
if-writes (Some (Bench n)) h = tt
if-writes (Some (Print page)) h = tt
if-writes None h = tt

pub unless-reads : (r : Option Request) {P : Type 0} → P → UnlessReads r P
unless-reads (Some (Solve script cert settings)) h = h
unless-reads (Some (Check script cert places)) h = tt
unless-reads (Some (Lrat cnf proof)) h = tt
unless-reads (Some (Trim script cert to places)) h = tt
unless-reads (Some (Clauses script cert places)) h = tt
unless-reads (Some (QSolve file cert settings)) h = h
unless-reads (Some (QCheck file cert places)) h = tt
unless-reads (Some (Gen n)) h = h
unless-reads (Some (Bench n)) h = h
unless-reads (Some (Print page)) h = h
unless-reads None h = h

pub unless-writes : (r : Option Request) {P : Type 0} → P → UnlessWrites r P
unless-writes (Some (Solve script cert settings)) h = tt
unless-writes (Some (Check script cert places)) h = h
unless-writes (Some (Lrat cnf proof)) h = h
unless-writes (Some (Trim script cert to places)) h = tt
unless-writes (Some (Clauses script cert places)) h = h
unless-writes (Some (QSolve file cert settings)) h = tt
unless-writes (Some (QCheck file cert places)) h = h
unless-writes (Some (Gen n)) h = h
unless-writes (Some (Bench n)) h = h
unless-writes (Some (Print page)) h = h
unless-writes None h = h

pub unless-script : (r : Option Request) {P : Type 0} → P → UnlessScript r P
unless-script r h = unless-writes r (unless-reads r h)

pub unless-metered : (r : Option Request) {P : Type 0} → P → UnlessMetered r P
unless-metered (Some (Solve script cert settings)) h = tt
unless-metered (Some (Check script cert places)) h = h
unless-metered (Some (Lrat cnf proof)) h = h
unless-metered (Some (Trim script cert to places)) h = h
unless-metered (Some (Clauses script cert places)) h = h
unless-metered (Some (QSolve file cert settings)) h = tt
unless-metered (Some (QCheck file cert places)) h = h
unless-metered (Some (Gen n)) h = h
unless-metered (Some (Bench n)) h = tt
unless-metered (Some (Print page)) h = h
unless-metered None h = h

-- ---- a run that did nothing, for want of memory

pub unsolved : {S : Type 0} (call : S → ℕ → Option (List ℕ) → S → Type 0) (left : Option (List ℕ)) (source : S) (out cert : Option (List ℕ)) (records : List Record) (s : Settings) →
    IsSolveRun s.places call (limits_with s.budgets) left source source out out cert cert records records 5
unsolved call left source out cert records s = record {
  status_is = (omega arith, λ two. absurd (omega (arith, two)));
  run = nothing-solved s.places call (limits_with s.budgets) left source out cert records;
}

pub unchecked : {S : Type 0} (call : S → ℕ → Option (List ℕ) → S → Type 0) (cert_unread : Type 0) (script cert : Option (List ℕ)) (source : S) (held : Option (List ℕ)) (places : ℕ) → IsCheckRun places call cert_unread script cert source source held held 5
unchecked call cert_unread script cert source held places = record {
  ends = inr (omega arith, omega arith);
  whole = λ early. elim early [ inl few ↦ absurd (omega (arith, few)) | inr six ↦ absurd (omega (arith, six)) ];
  front = λ _ _. front script cert;
  short = λ _. nothing-short places script cert held;
  answers_hold = answers-hold places script cert;
  accepts = accepts-solved places script cert;
  reading = inl (refl, omega arith);
}
  where
    front : (script cert : Option (List ℕ)) → IfSome script (λ text. IfSome cert (λ bytes. IsFront held held (outcome places text bytes)))
    front None cert = tt
    front (Some text) None = tt
    front (Some text) (Some bytes) = ([], (outcome places text bytes).text, refl, Appends-nothing held)

pub ungenerated : (out : Option (List ℕ)) (n : ℕ) → IsGenRun n out out 5
ungenerated out n = inr (refl, refl)

pub unbenched : (out : Option (List ℕ)) (records : List Record) (n : ℕ) → IsBenchRun n out out records records 5
unbenched out records n = inr (refl, refl, starts-none records)

pub unprinted : (out : Option (List ℕ)) (page : Page) → IsWritingUnless out out (page_text page) 0 5
unprinted out page = inr (refl, refl)

-- a page that is written, or a part of it, in a run that had memory
pub printed : (r : Request) (out out' : Option (List ℕ)) (status : ℕ) → IfPage (Some r) (λ page. IsWriting out out' (page_text page) 0 status) →
    IfPage (Some r) (λ page. IsWritingUnless out out' (page_text page) 0 status)
printed (Solve script cert settings) out out' status h = tt
printed (Check script cert places) out out' status h = tt
printed (Lrat cnf proof) out out' status h = tt
printed (Trim script cert to places) out out' status h = tt
printed (Clauses script cert places) out out' status h = tt
printed (QSolve file cert settings) out out' status h = tt
printed (QCheck file cert places) out out' status h = tt
printed (Gen n) out out' status h = tt
printed (Bench n) out out' status h = tt
printed (Print page) out out' status h = inl h

pub unrefused : (out : Option (List ℕ)) → IsWritingUnless out out usage 2 5
unrefused out = inr (refl, refl)
