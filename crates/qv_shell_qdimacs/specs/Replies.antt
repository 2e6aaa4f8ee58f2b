-- What is to be written of a file, as it is put together. No public contract cites this.
use Rattle.std.specs.Prelude.{◌≡◌, ◌⊎◌, ◌++◌, ◌<◌, ℕ, false, Option, List, [], All, length, replicate, Result, Ok, Err}
use Rattle.std.specs.List.{flat_map}
use Rattle.qv_io.specs.Sink.{Appends, AppendsPart}
use Rattle.qv_cert.specs.Line.{IsCertLine}
use Rattle.qv_cert.specs.Spelling.{cert_text}
use Rattle.qv_check_defs.specs.Limits.{MetLimit}
use Rattle.qv_check_script.specs.declared.ending.Halt.{Halt}
use Rattle.qv_check_script.specs.declared.ending.Halt.TheVariants.{Read, ReadLimit, Write, NoMemory}
use Rattle.qv_dimacs.specs.Reading.{FailsBehind}
use Rattle.qv_meter.specs.Records.{Limits, Record}
use Rattle.qv_script_defs.specs.Faults.{refusal}
use Rattle.qv_solve.specs.declared.fault.SolveFault.{SolveFault}
use Rattle.qv_solve.specs.declared.fault.SolveFault.TheVariants.{PrefixLimit, NoMemory as OutOfMemory}
use Rattle.qv_solve.specs.declared.solved.Solved.{Solved}
use Rattle.qv_solve.specs.declared.solved.Solved.TheVariants as solved
use Rattle.qv_solve.specs.Solutions.{lines_of}
use Rattle.qv_qdimacs.specs.Text.{Said}
use Rattle.qv_shell_qdimacs.specs.declared.ending.FileEnding.TheVariants.{Answered, Faulty}
use Rattle.qv_shell_qdimacs.specs.declared.replies.Reply.{Reply}
use Rattle.qv_shell_qdimacs.specs.Texts.{limit_word}
use Rattle.qv_shell_qdimacs.specs.Answers.{FileAnswer, Sat, Unsat, Unknown, answer_text}
use Rattle.qv_shell_qdimacs.specs.Ending.{status_of}
use Rattle.qv_shell_qdimacs.specs.Solving.{AreTried, Replies}
use Rattle.qv_shell_qdimacs.specs.Values.{filled}

-- what was written of a reply by a sink that failed: a part of its section, or that and a part of its
-- text
abbrev pub WritesPart : Reply → (out out' cert cert' : Option (List ℕ)) → Type 0
WritesPart reply out out' cert cert' =
    ((out' ≡ out) × AppendsPart cert cert' reply.section.items) ⊎ (Appends cert cert' reply.section.items × AppendsPart out out' reply.text.items)

-- a reply is one to what a text says, with these records behind those that there were
abbrev pub IsReplyTo : (places : ℕ) → Limits → Said → (before after : List Record) → Reply → Type 0
IsReplyTo places limits said before after reply =
    (records : List Record) × (after ≡ before ++ records) × Replies places limits said reply.section.items reply.text.items records (status_of reply.ending)

-- none was put together: at most one record was started
abbrev pub HasTried : Limits → (before after : List Record) → Type 0
HasTried limits before after = (records : List Record) × (after ≡ before ++ records) × AreTried limits records

-- ---- why there is no reply

-- what came of the source and of the records where the run stops; `rose` says that the source's count
-- of faults rose
abbrev pub IsHalted : {S : Type 0} → (S → ℕ → Option (List ℕ) → S → Type 0) → (S → Option (List ℕ)) → Limits → (rose : Type 0) → S → S → (before after : List Record) → Halt → Type 0
IsHalted call left limits rose source later before after Read = rose × FailsBehind call source later × (after ≡ before)
IsHalted call left limits rose source later before after ReadLimit = MetLimit call (left source) source later × (after ≡ before)
IsHalted call left limits rose source later before after Write = ⊥
IsHalted call left limits rose source later before after NoMemory = HasTried limits before after

-- ---- by a solver's answer

-- what is answered, where there are so many outer variables
abbrev pub answer_in : (count : ℕ) → Solved → FileAnswer
answer_in count (solved.Sat section given variables) = Sat (filled (replicate count false) given.items)
answer_in count (solved.Unsat section variables) = Unsat
answer_in count (solved.Unknown section spent) = Unknown spent

-- each constant that has a value is one of so many
abbrev pub HaveFit : (count : ℕ) → Solved → Type 0
HaveFit count (solved.Sat section given variables) = All (λ v. v.index < count) given.items
HaveFit count (solved.Unsat section variables) = Unit {0}
HaveFit count (solved.Unknown section spent) = Unit {0}

-- a reply is put together from an answer to a file with these outer variables
pub record IsReplyOf (outer : List ℕ) (s : Solved) (reply : Reply) : Type 0 where
  pub section : reply.section.items ≡ flat_map cert_text (lines_of s)
  pub text : reply.text.items ≡ answer_text outer (answer_in (length outer) s)
  pub ending : reply.ending ≡ Answered

-- or is a line of a fault
pub record IsFaultReply (place : ℕ) (word : List ℕ) (reply : Reply) : Type 0 where
  pub section : reply.section.items ≡ []
  pub text : reply.text.items ≡ refusal place word
  pub ending : reply.ending ≡ Faulty

-- by what a solver came to
abbrev pub IsReplyBy : (outer : List ℕ) → Result Solved SolveFault → Reply → Type 0
IsReplyBy outer (Ok s) reply = IsReplyOf outer s reply
IsReplyBy outer (Err PrefixLimit) reply = IsFaultReply 0 limit_word reply
IsReplyBy outer (Err OutOfMemory) reply = ⊥

-- what its lines and values have to be
pub record CanReply (count : ℕ) (s : Solved) : Type 0 where
  pub fit : HaveFit count s
  pub form : All IsCertLine (lines_of s)
