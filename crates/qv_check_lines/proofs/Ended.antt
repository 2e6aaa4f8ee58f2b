-- What is known of the reader and its source where a section ends before its end.
use Rattle.std.proofs.Common.{◌≡◌, ◌≢◌, ℕ, ◌<◌, ◌≤◌, refl, Bool, Option, List, [], length}
use Rattle.std.specs.Prelude.{Result, Ok, Err, IfErr}
use Rattle.qv_words.specs.declared.op.Answer.{Answer}
use Rattle.qv_words.specs.declared.op.Answer.TheVariants.{Unknown}
use Rattle.qv_words.specs.Tree.{Tree, Literal}
use Rattle.qv_words.specs.declared.sort.Sort.TheVariants.{Bool as BoolSort}
use Rattle.qv_words.specs.Problem.{Problem}
use Rattle.qv_cnf.specs.Refutation.{Standing}
use Rattle.qv_cert.specs.declared.kind.RefusalKind.{RefusalKind}
use Rattle.qv_cert.specs.declared.kind.RefusalKind.TheVariants as kind
use Rattle.qv_cert.specs.Line.{CertLine}
use Rattle.qv_cert.proofs.TakingLemmas.{rose_earlier}
use Rattle.qv_cert.specs.CertReader.{Position, piece_size}
use Rattle.qv_cert.specs.Section.{Task, State, Rewriting}
use Rattle.qv_check_lines.specs.declared.verdict.Verdict.{Verdict}
use Rattle.qv_check_lines.specs.declared.verdict.Verdict.TheVariants.{Accepted, Refused, PrefixLimit, ReadFault, ReadLimit, NoMemory}
use Rattle.qv_check_lines.specs.Ending.{EndsBy}
use Rattle.qv_check_lines.specs.Refusing.{IsRefusal}
use Rattle.qv_check_lines.specs.Rewriting.{IsLed}
use Rattle.qv_check_lines.specs.Steps.{IsTaken}

-- what was counted before
pub ends_later : (v : Verdict) (a b c : ℕ) (reader : Position) → EndsBy v b c reader → a ≤ b → b ≤ c → EndsBy v a c reader
ends_later (Accepted answer) a b c reader h p q = h
ends_later (Refused line k) a b c reader h p q = h
ends_later PrefixLimit a b c reader h p q = h
ends_later ReadFault a b c reader h p q = rose_earlier a b c p q h
ends_later ReadLimit a b c reader h p q = h
ends_later NoMemory a b c reader h p q = h

-- ---- at a line that was read

-- the section is refused at this line's number, or memory ran out
abbrev pub StopsAt : ℕ → Verdict → Type 0
StopsAt number (Refused n k) = n ≡ number
StopsAt number (Accepted answer) = ⊥
StopsAt number PrefixLimit = ⊥
StopsAt number ReadFault = ⊥
StopsAt number ReadLimit = ⊥
StopsAt number NoMemory = Unit {0}

pub stops-ends : (number : ℕ) (v : Verdict) (a b : ℕ) (reader : Position) → length reader.rest < piece_size → StopsAt number v → EndsBy v a b reader
stops-ends number (Refused n k) a b reader short h = λ other. short
stops-ends number (Accepted answer) a b reader short h = absurd h
stops-ends number PrefixLimit a b reader short h = absurd h
stops-ends number ReadFault a b reader short h = absurd h
stops-ends number ReadLimit a b reader short h = absurd h
stops-ends number NoMemory a b reader short h = tt

pub all-ends : {T : Type 0} (number : ℕ) (r : Result T Verdict) (a b : ℕ) (reader : Position) → length reader.rest < piece_size → IfErr r (StopsAt number) → IfErr r (λ v. EndsBy v a b reader)
all-ends number (Ok value) a b reader short h = tt
all-ends number (Err v) a b reader short h = stops-ends number v a b reader short h

pub refusal-stops : (task : Task) (s : State) (line : CertLine) (number : ℕ) (v : Verdict) → IsRefusal task s line number v → StopsAt number v
refusal-stops task s line number (Refused n k) h = h.0
refusal-stops task s line number (Accepted answer) h = h
refusal-stops task s line number PrefixLimit h = h
refusal-stops task s line number ReadFault h = h
refusal-stops task s line number ReadLimit h = h
refusal-stops task s line number NoMemory h = tt

taken-stops : (task : Task) (answer : Answer) (old new : Standing) (line : CertLine) (number : ℕ) (v : Verdict) → IsTaken task answer old line number (Err v) new → StopsAt number v
taken-stops task answer old new line number (Refused n k) h = h.0
taken-stops task answer old new line number (Accepted x) h = h
taken-stops task answer old new line number PrefixLimit h = h
taken-stops task answer old new line number ReadFault h = h
taken-stops task answer old new line number ReadLimit h = h
taken-stops task answer old new line number NoMemory h = tt

-- a task for this problem, of this number and version
abbrev pub task-for : Problem → (number version : ℕ) → Task
task-for p number version = record { problem = p; number = number; version = version }

abbrev pub some-problem : Problem
some-problem = record { prefix = []; matrix = Literal BoolSort 0 }

abbrev pub some-task : Task
some-task = task-for some-problem 0 0

-- ---- by the answer for the line

pub step-stops : (old new : Standing) (line : CertLine) (number : ℕ) (r : Result Bool Verdict) → ((task : Task) (answer : Answer) → IsTaken task answer old line number r new) → IfErr r (StopsAt number)
step-stops old new line number (Ok more) h = tt
step-stops old new line number (Err v) h = taken-stops some-task Unknown old new line number v (h some-task Unknown)

pub led-stops : (old new : List Tree) (line : CertLine) (number : ℕ) (r : Result (Option Standing) Verdict) → ((task : Task) (answer : Answer) → IsLed task (Rewriting answer old) answer line number r new) → IfErr r (StopsAt number)
led-stops old new line number (Ok found) h = tt
led-stops old new line number (Err v) h = refusal-stops some-task (Rewriting Unknown old) line number v (h some-task Unknown)

-- ---- where no line was read

pub cut-ends : (number a b : ℕ) (reader : Position) → EndsBy (Refused number kind.Truncated) a b reader
cut-ends number a b reader = λ other. absurd (other refl)

pub fault-ends : (number a b : ℕ) (reader : Position) (k found : RefusalKind) → (k ≡ kind.Truncated → found ≡ kind.Truncated) → (k ≢ kind.Truncated → length reader.rest < piece_size) → EndsBy (Refused number found) a b reader
fault-ends number a b reader k found cut short = λ other. short (λ e. other (cut e))
