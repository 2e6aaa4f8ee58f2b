-- What the run that solves a file reads and writes.
use Rattle.std.specs.Prelude.{◌≡◌, ◌≤◌, ◌<◌, ◌⊎◌, ℕ, Option, List, [], ◌∷◌, ◌++◌, length, take, codes}
use Rattle.qv_cnf.specs.Literal.{Literal}
use Rattle.qv_io.specs.Sink.{Appends}
use Rattle.qv_cert.specs.TextLaws.{bytes_of_lines}
use Rattle.qv_check_defs.specs.Limits.{MetLimit}
use Rattle.qv_dimacs.specs.Reading.{FailsBehind}
use Rattle.qv_meter.specs.Records.{Limits, Record}
use Rattle.qv_script_defs.specs.Faults.{refusal}
use Rattle.qv_qdimacs.specs.declared.faults.QdimacsKind.{QdimacsKind}
use Rattle.qv_qdimacs.specs.declared.files.Quantified.{Quantified}
use Rattle.qv_qdimacs.specs.Outer.{outer_of}
use Rattle.qv_qdimacs.specs.Reading.{TextSays}
use Rattle.qv_qdimacs.specs.Text.{Said, File, Faulty}
use Rattle.qv_shell_qdimacs.specs.Texts.{fault_word, limit_word}
use Rattle.qv_shell_qdimacs.specs.Answers.{FileAnswer, IsAnswered, answer_text, header, place_count}

-- What is to be written by what a text says: a section, a text, the records of the search, and the
-- status.
pub data Replies (places : ℕ) (limits : Limits) : Said → (section text : List ℕ) → List Record → (status : ℕ) → Type 0 where
  -- the file is answered
  answered : (prefix : List Quantified) (clauses : List (List Literal)) (answer : FileAnswer) (lines : List (List ℕ)) (r : Record) →
      place_count prefix clauses ≤ places → IsAnswered limits prefix clauses answer lines r →
      Replies places limits (File prefix clauses) (bytes_of_lines lines) (answer_text (outer_of prefix clauses) answer) (r ∷ []) 0
  -- it has too many places
  exceeds : (prefix : List Quantified) (clauses : List (List Literal)) → places < place_count prefix clauses →
      Replies places limits (File prefix clauses) [] (refusal 0 limit_word) [] 1
  -- the text has a fault
  faulty : (place : ℕ) (k : QdimacsKind) → Replies places limits (Faulty place k) [] (refusal place (fault_word k)) [] 1

-- a sink failed within a text
abbrev pub IsPartOf : List ℕ → List ℕ → Type 0
IsPartOf part text = (n : ℕ) × (n < length text) × (part ≡ take n text)

-- the source gave no more, though the text hadn't ended
abbrev pub IsUnread : {S : Type 0} → (S → ℕ → Option (List ℕ) → S → Type 0) → (S → Option (List ℕ)) → S → S → Type 0
IsUnread call left source later = FailsBehind call source later ⊎ MetLimit call (left source) source later

-- none, or one with these limits
abbrev pub AreTried : Limits → List Record → Type 0
AreTried limits records = (records ≡ []) ⊎ ((r : Record) × (records ≡ r ∷ []) × (r.limits ≡ limits))

-- In what follows `call` says what one call makes of the source, and `left` the bytes that it has left,
-- where it tells them.

-- How a run ends: what it printed, what it wrote of the certificate, the records that it started, its
-- status, and the source as it is then.
pub data EndsSolving (places : ℕ) {S : Type 0} (call : S → ℕ → Option (List ℕ) → S → Type 0) (left : S → Option (List ℕ)) (limits : Limits) (source : S) : (written kept : List ℕ) → List Record → (status : ℕ) → S → Type 0 where
  -- all was written
  at_end : (said : Said) (section text : List ℕ) (records : List Record) (status : ℕ) (later : S) →
      TextSays call left source said later → Replies places limits said section text records status →
      EndsSolving places call left limits source text (header ++ section) records status later
  -- a sink failed: within the certificate's first line, and nothing was read; within the section, and
  -- nothing is printed of its answer; or within what is printed, and the section is whole
  in_header : (part : List ℕ) → IsPartOf part header → EndsSolving places call left limits source [] part [] 4 source
  in_section : (said : Said) (section text part : List ℕ) (records : List Record) (status : ℕ) (later : S) →
      TextSays call left source said later → Replies places limits said section text records status → IsPartOf part section →
      EndsSolving places call left limits source [] (header ++ part) records 4 later
  in_text : (said : Said) (section text part : List ℕ) (records : List Record) (status : ℕ) (later : S) →
      TextSays call left source said later → Replies places limits said section text records status → IsPartOf part text →
      EndsSolving places call left limits source part (header ++ section) records 4 later
  -- the source failed, or met the limit
  unread : (later : S) → IsUnread call left source later → EndsSolving places call left limits source [] header [] 3 later
  -- memory ran out
  no_memory : (records : List Record) (later : S) → AreTried limits records → EndsSolving places call left limits source [] header records 5 later

-- A run that ends with this status, where `out` and `cert` are the bytes of its sinks, if they tell
-- them, and `before` the records of its meter; each primed as it is behind the run.
pub record IsFileSolved (places : ℕ) {S : Type 0} (call : S → ℕ → Option (List ℕ) → S → Type 0) (left : S → Option (List ℕ)) (limits : Limits) (source source' : S) (out out' cert cert' : Option (List ℕ)) (before after : List Record) (status : ℕ) : Type 0 where
  -- what it printed, and what it wrote of the certificate
  pub written : List ℕ
  pub prints : Appends out out' written
  pub kept : List ℕ
  pub keeps : Appends cert cert' kept
  -- the records that it started, behind those that there were
  pub records : List Record
  pub started : after ≡ before ++ records
  -- how it ended
  pub ends : EndsSolving places call left limits source written kept records status source'
