-- Where the status of a run comes from, as its sources over std's readers say it.
use Rattle.std.proofs.Common.{◌≡◌, ℕ, ◌<◌, ◌⊎◌, Option, Some, None, List, inl, inr, ⊎_elim, arith}
use Rattle.std.specs.Prelude.{IsSome}
use Rattle.std.specs.declared.io.Error.{Error}
use Rattle.qv_io.specs.StdSource.{ReadGives, given_of, faults_of}
use Rattle.qv_io.specs.declared.std_source.StdSource.{StdSource}
use Rattle.qv_sexpr.proofs.Counting.{given_is_counted}
use Rattle.qv_shell_args.specs.Call.{Request, Solve, Check, Lrat, Trim, Clauses, QSolve, QCheck, Gen, Bench, Print}
use Rattle.qv_shell.specs.Requests.{IfReads, IfWrites, UnlessReads, UnlessWrites}
use Rattle.qv_shell.specs.Host.{RanShort, StopsReading, StopsWriting, SaysShort}

-- from the clauses of a run
pub reading-of : (r : Option Request) (failed failed' met met' : Type 0) (status : ℕ) →
    UnlessReads r (status ≡ 3 → failed ⊎ met) → IfReads r (status ≡ 3 → (failed ⊎ failed') ⊎ (met ⊎ met')) → StopsReading r (failed ⊎ met) (failed' ⊎ met') status
reading-of None failed failed' met met' status h k = h
reading-of (Some (Solve s c b)) failed failed' met met' status h k = h
reading-of (Some (QSolve s c b)) failed failed' met met' status h k = h
reading-of (Some (Gen n)) failed failed' met met' status h k = h
reading-of (Some (Bench n)) failed failed' met met' status h k = h
reading-of (Some (Print page)) failed failed' met met' status h k = h
reading-of (Some (Check s c p)) failed failed' met met' status h k = λ e.
    ⊎_elim (λ f. ⊎_elim (λ x. inl (inl x)) (λ x. inr (inl x)) f) (λ m. ⊎_elim (λ x. inl (inr x)) (λ x. inr (inr x)) m) (k e)
reading-of (Some (Lrat s c)) failed failed' met met' status h k = λ e.
    ⊎_elim (λ f. ⊎_elim (λ x. inl (inl x)) (λ x. inr (inl x)) f) (λ m. ⊎_elim (λ x. inl (inr x)) (λ x. inr (inr x)) m) (k e)
reading-of (Some (Clauses s c p)) failed failed' met met' status h k = λ e.
    ⊎_elim (λ f. ⊎_elim (λ x. inl (inl x)) (λ x. inr (inl x)) f) (λ m. ⊎_elim (λ x. inl (inr x)) (λ x. inr (inr x)) m) (k e)
reading-of (Some (QCheck s c p)) failed failed' met met' status h k = λ e.
    ⊎_elim (λ f. ⊎_elim (λ x. inl (inl x)) (λ x. inr (inl x)) f) (λ m. ⊎_elim (λ x. inl (inr x)) (λ x. inr (inr x)) m) (k e)
reading-of (Some (Trim s c n p)) failed failed' met met' status h k = λ e.
    ⊎_elim (λ f. ⊎_elim (λ x. inl (inl x)) (λ x. inr (inl x)) f) (λ m. ⊎_elim (λ x. inl (inr x)) (λ x. inr (inr x)) m) (k e)

pub writing-of : (r : Option Request) (out cert : Type 0) (status : ℕ) →
    UnlessWrites r (status ≡ 4 → out) → IfWrites r (status ≡ 4 → out ⊎ cert) → StopsWriting r out cert status
writing-of None out cert status h k = h
writing-of (Some (Solve s c b)) out cert status h k = k
writing-of (Some (QSolve s c b)) out cert status h k = k
writing-of (Some (Trim s c n p)) out cert status h k = k
writing-of (Some (Gen n)) out cert status h k = h
writing-of (Some (Bench n)) out cert status h k = h
writing-of (Some (Print page)) out cert status h k = h
writing-of (Some (Check s c p)) out cert status h k = h
writing-of (Some (Lrat s c)) out cert status h k = h
writing-of (Some (Clauses s c p)) out cert status h k = h
writing-of (Some (QCheck s c p)) out cert status h k = h

-- by what is known of the objects
pub reading-on : (r : Option Request) (script cert script' cert' : Type 0) (status : ℕ) → (script → script') → (cert → cert') → StopsReading r script cert status → StopsReading r script' cert' status
reading-on None script cert script' cert' status f k h = λ e. f (h e)
reading-on (Some (Solve s c b)) script cert script' cert' status f k h = λ e. f (h e)
reading-on (Some (QSolve s c b)) script cert script' cert' status f k h = λ e. f (h e)
reading-on (Some (Gen n)) script cert script' cert' status f k h = λ e. f (h e)
reading-on (Some (Bench n)) script cert script' cert' status f k h = λ e. f (h e)
reading-on (Some (Print page)) script cert script' cert' status f k h = λ e. f (h e)
reading-on (Some (Check s c p)) script cert script' cert' status f k h = λ e. ⊎_elim (λ x. inl (f x)) (λ x. inr (k x)) (h e)
reading-on (Some (Lrat s c)) script cert script' cert' status f k h = λ e. ⊎_elim (λ x. inl (f x)) (λ x. inr (k x)) (h e)
reading-on (Some (Clauses s c p)) script cert script' cert' status f k h = λ e. ⊎_elim (λ x. inl (f x)) (λ x. inr (k x)) (h e)
reading-on (Some (QCheck s c p)) script cert script' cert' status f k h = λ e. ⊎_elim (λ x. inl (f x)) (λ x. inr (k x)) (h e)
reading-on (Some (Trim s c n p)) script cert script' cert' status f k h = λ e. ⊎_elim (λ x. inl (f x)) (λ x. inr (k x)) (h e)

pub writing-on : (r : Option Request) (out cert out' cert' : Type 0) (status : ℕ) → (out → out') → (cert → cert') → StopsWriting r out cert status → StopsWriting r out' cert' status
writing-on None out cert out' cert' status f k h = λ e. f (h e)
writing-on (Some (Solve s c b)) out cert out' cert' status f k h = λ e. ⊎_elim (λ x. inl (f x)) (λ x. inr (k x)) (h e)
writing-on (Some (QSolve s c b)) out cert out' cert' status f k h = λ e. ⊎_elim (λ x. inl (f x)) (λ x. inr (k x)) (h e)
writing-on (Some (Trim s c n p)) out cert out' cert' status f k h = λ e. ⊎_elim (λ x. inl (f x)) (λ x. inr (k x)) (h e)
writing-on (Some (Gen n)) out cert out' cert' status f k h = λ e. f (h e)
writing-on (Some (Bench n)) out cert out' cert' status f k h = λ e. f (h e)
writing-on (Some (Print page)) out cert out' cert' status f k h = λ e. f (h e)
writing-on (Some (Check s c p)) out cert out' cert' status f k h = λ e. f (h e)
writing-on (Some (Lrat s c)) out cert out' cert' status f k h = λ e. f (h e)
writing-on (Some (Clauses s c p)) out cert out' cert' status f k h = λ e. f (h e)
writing-on (Some (QCheck s c p)) out cert out' cert' status f k h = λ e. f (h e)

-- a fact that holds where nothing is checked, and another that follows
pub unless-on : (r : Option Request) (A B : Type 0) → (A → B) → UnlessReads r A → UnlessReads r B
unless-on None A B f h = f h
unless-on (Some (Solve s c b)) A B f h = f h
unless-on (Some (QSolve s c b)) A B f h = f h
unless-on (Some (Gen n)) A B f h = f h
unless-on (Some (Bench n)) A B f h = f h
unless-on (Some (Print page)) A B f h = f h
unless-on (Some (Check s c p)) A B f h = tt
unless-on (Some (Lrat s c)) A B f h = tt
unless-on (Some (Clauses s c p)) A B f h = tt
unless-on (Some (QCheck s c p)) A B f h = tt
unless-on (Some (Trim s c n p)) A B f h = tt

-- a source that ran short failed, or gave as many bytes as are taken
pub says-short : {R : Type 0} (remaining : R → Option (List ℕ)) (source later : StdSource R) (error : Option Error) (given : ℕ) → faults_of source ≡ 0 → (0 < faults_of later → IsSome error) → given ≡ given_of later →
    RanShort (ReadGives remaining) (λ _. None) faults_of source later → SaysShort error given
says-short remaining source later error given none failed same (inl rose) = inl (failed (omega (arith, none, rose)))
says-short remaining source later error given none failed same (inr met) =
    let counted = given_is_counted remaining source met.taken later met.gave in
    inr (omega (arith, met.limit, counted.least, same))
