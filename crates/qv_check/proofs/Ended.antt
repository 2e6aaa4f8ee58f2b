-- What is known of the reader and its source where a section ends among its first lines, or at the
-- end of an unknown section.
use Rattle.std.proofs.Common.{◌≡◌, ◌≤◌, ℕ, refl, Option, List}
use Rattle.std.specs.Prelude.{Result, Ok, Err, IfErr}
use Rattle.qv_words.specs.declared.op.Answer.{Answer}
use Rattle.qv_words.specs.Problem.{Problem}
use Rattle.qv_cert.specs.Line.{CertLine}
use Rattle.qv_cert.specs.CertReader.{Position}
use Rattle.qv_cert.specs.Listed.{Listed as PlainListed}
use Rattle.qv_cert.specs.Section.{Task, Opening, Listing}
use Rattle.qv_cert.specs.Took.{TookLines}
use Rattle.qv_check_lines.specs.declared.verdict.Verdict.{Verdict}
use Rattle.qv_check_lines.specs.declared.verdict.Verdict.TheVariants.{Accepted, Refused, PrefixLimit, ReadFault, ReadLimit, NoMemory}
use Rattle.qv_check_lines.specs.Ending.{ReadsOn, EndsBy, TookBy}
use Rattle.qv_check_lines.specs.Judging.{IsFor}
use Rattle.qv_check_lines.specs.Refusing.{IsRefusal}
use Rattle.qv_check_lines.proofs.Ended.{StopsAt, ends_later, refusal-stops, task-for, some-problem, some-task}
use Rattle.qv_check_lines.proofs.TakenBy.{refused-took}
use Rattle.qv_check.specs.Nodes.{IsGiven}
use Rattle.qv_check.specs.Opening.{IsOpened, IsClosed}

-- what was counted before
pub all-later : {T : Type 0} (r : Result T Verdict) (a b c : ℕ) (reader : Position) → IfErr r (λ v. EndsBy v b c reader) → a ≤ b → b ≤ c → IfErr r (λ v. EndsBy v a c reader)
all-later (Ok value) a b c reader h p q = tt
all-later (Err v) a b c reader h p q = ends_later v a b c reader h p q

-- ---- by the answer for the line

pub given-stops : (p : Problem) (answer : Answer) (old new : PlainListed) (line : CertLine) (number : ℕ) (v : Verdict) → ((task : Task) → task.problem ≡ p → IsGiven task answer old line number (Err v) new) → StopsAt number v
given-stops p answer old new line number v h = refusal-stops (task-for p 0 0) (Listing answer old) line number v (h (task-for p 0 0) refl)

pub started-stops : (p : Problem) (version : ℕ) (answer : Answer) (l : PlainListed) (line : CertLine) (number : ℕ) (v : Verdict) → ((task : Task) → IsFor p version task → IsRefusal task (Listing answer l) line number v) → StopsAt number v
started-stops p version answer l line number v h = refusal-stops (task-for p 0 version) (Listing answer l) line number v (h (task-for p 0 version) (record { problem = refl; version = refl }))

pub opened-stops : (wanted : ℕ) (line : CertLine) (number : ℕ) (r : Result Answer Verdict) → ((task : Task) → task.number ≡ wanted → IsOpened task line number r) → IfErr r (StopsAt number)
opened-stops wanted line number (Ok answer) h = tt
opened-stops wanted line number (Err v) h = refusal-stops (task-for some-problem wanted 0) Opening line number v (h (task-for some-problem wanted 0) refl)

-- the section is accepted there, or stops
abbrev pub ClosesAt : ℕ → Verdict → Type 0
ClosesAt number (Accepted answer) = Unit {0}
ClosesAt number v = StopsAt number v

pub closed-closes : (line : CertLine) (number : ℕ) (v : Verdict) → ((task : Task) → IsClosed task line number v) → ClosesAt number v
closed-closes line number (Accepted answer) h = tt
closed-closes line number (Refused n k) h = (h some-task).0
closed-closes line number PrefixLimit h = h some-task
closed-closes line number ReadFault h = h some-task
closed-closes line number ReadLimit h = h some-task
closed-closes line number NoMemory h = tt

pub closed-ends : (number : ℕ) (v : Verdict) (a b : ℕ) (reader : Position) → ReadsOn reader → ClosesAt number v → EndsBy v a b reader
closed-ends number (Accepted answer) a b reader on h = on
closed-ends number (Refused n k) a b reader on h = λ other. on.short
closed-ends number PrefixLimit a b reader on h = absurd h
closed-ends number ReadFault a b reader on h = absurd h
closed-ends number ReadLimit a b reader on h = absurd h
closed-ends number NoMemory a b reader on h = tt

module _ {S : Type 0} (call : S → ℕ → Option (List ℕ) → S → Type 0) (left : S → Option (List ℕ)) where
  pub closed-took : (old : Position) (s : S) (number : ℕ) (v : Verdict) (new : Position) (t : S) → number ≡ new.given → TookLines call left old s new.given new.rest new.taken t → ClosesAt number v → TookBy call left old s v new t
  closed-took old s number (Accepted answer) new t is h k = h
  closed-took old s number (Refused line found) new t is h k = refused-took call left old s number line found new t is k h
  closed-took old s number PrefixLimit new t is h k = absurd k
  closed-took old s number ReadFault new t is h k = absurd k
  closed-took old s number ReadLimit new t is h k = absurd k
  closed-took old s number NoMemory new t is h k = tt
