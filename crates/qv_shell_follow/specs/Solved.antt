-- What a run makes of a script.
use Rattle.std.specs.Prelude.{◌≡◌, ◌≤◌, ◌<◌, ◌^◌, ◌⊎◌, ℕ, Option, IfSome, option_map, List, [], ◌++◌, All, length}
use Rattle.qv_io.specs.Sink.{Appends}
use Rattle.qv_sexpr.specs.Script.{Script, reads}
use Rattle.qv_meter.specs.Records.{Limits, Record}
use Rattle.qv_script_transcript.specs.Following.{IsTranscriptOf}
use Rattle.qv_script_transcript.specs.Certificates.{Certified, checks_of, AreCertified, certificate, IsAcceptedBeside}
use Rattle.qv_script_transcript.specs.CertificateLaws.{ChecksSo}
use Rattle.qv_shell_follow.specs.Answers.{answers_within}
use Rattle.qv_shell_follow.specs.Calls.{AreRecordsAtEnd, AreRecordsOfRun, ReadsScript, EndsRun, IsPartOf}

abbrev pub IsFrontOf : List ℕ → List ℕ → Type 0
IsFrontOf front whole = (rest : List ℕ) × (whole ≡ front ++ rest)

-- ---- a script that was followed to its end

-- Where the script is told, this is its transcript with these checks, and beside it the certificate is
-- accepted with their answers.
pub record IsWhole (places : ℕ) (script : List ℕ) (checks : List Certified) (written kept : List ℕ) (status : ℕ) : Type 0 where
  pub transcript : IsTranscriptOf places script (checks_of checks) written status
  pub accepted : IsAcceptedBeside places script kept checks written status

-- the check of a certificate that was written whole accepts it, with the same answers
abbrev pub AcceptsSolved : (places : ℕ) (script kept : List ℕ) → Type 0
AcceptsSolved places script kept = (checks : List Certified) (written : List ℕ) (status : ℕ) → IsWhole places script checks written kept status → ChecksSo places script kept checks written status

-- ---- one that wasn't

-- With further checks this is the front of a transcript, in which so many answers stand whole, and of
-- its certificate, which is accepted unless there are more checks than lines can number.
pub record IsCut (places : ℕ) (script : List ℕ) (checks : List Certified) (answered : ℕ) (written kept : List ℕ) : Type 0 where
  pub more : List Certified
  pub out : List ℕ
  pub status : ℕ
  pub transcript : IsTranscriptOf places script (checks_of (checks ++ more)) out status
  pub printed : IsFrontOf written out
  pub whole_answers : answers_within transcript.follows (length written) ≡ answered
  pub certified : IsFrontOf kept (certificate (checks ++ more))
  pub accepted : length (checks ++ more) < 2 ^ 62 → IsAcceptedBeside places script (certificate (checks ++ more)) (checks ++ more) out status

-- the sections of all these checks stand whole in it; where there are none, not even the first line has to
abbrev pub SectionsStand : List Certified → List ℕ → Type 0
SectionsStand checks kept = (checks ≡ []) ⊎ IsFrontOf (certificate checks) kept

-- ---- what was read

-- Nothing was: there was no memory for a reader, or a sink failed within the certificate's first line.
pub record HasNotBegun {S : Type 0} (source : S) (answered left_open : List Certified) (records : List Record) (written kept : List ℕ) (status : ℕ) (source' : S) : Type 0 where
  pub untouched : source' ≡ source
  pub unanswered : answered ≡ []
  pub closed : left_open ≡ []
  pub unrecorded : records ≡ []
  pub unwritten : written ≡ []
  pub cause : ((status ≡ 5) × (kept ≡ [])) ⊎ ((status ≡ 4) × IsPartOf kept (certificate []))

-- Commands were followed, which printed this, with these checks; what is written behind them is a part
-- of the next piece, or what ends the script. The records are those that these commands started, and
-- behind them those of the last one.
pub record IsReading (places : ℕ) {S : Type 0} (call : S → ℕ → Option (List ℕ) → S → Type 0) (limits : Limits) (source : S) (script : Option Script) (answered left_open : List Certified) (records : List Record) (written kept : List ℕ) (status : ℕ) (source' : S) : Type 0 where
  pub printed : List ℕ
  pub part : List ℕ
  pub written_is : written ≡ printed ++ part
  pub read : ReadsScript places call source script (checks_of answered) printed source'
  pub ends : EndsRun places read.state read.still read.stop answered left_open part kept status
  pub older : List Record
  pub metered : AreRecordsOfRun limits read.followed older
  pub own : List Record
  pub metered_last : AreRecordsAtEnd places limits ends own
  pub records_are : records ≡ older ++ own

-- A run that ends with this status, where `left` are the bytes of its source, if that tells them, `out`
-- and `cert` those of its sinks, and `before` the records of its meter; each primed as it is behind the
-- run.
pub record IsSolved (places : ℕ) {S : Type 0} (call : S → ℕ → Option (List ℕ) → S → Type 0) (limits : Limits) (left : Option (List ℕ)) (source source' : S) (out out' cert cert' : Option (List ℕ)) (before after : List Record) (status : ℕ) : Type 0 where
  -- its checks whose sections were written, each with an answer and a section for it
  pub checks : List Certified
  pub certified : AreCertified 1 checks
  -- the records that it started, behind those that there were
  pub records : List Record
  pub started : after ≡ before ++ records
  -- what it printed, and what it wrote of the certificate
  pub written : List ℕ
  pub prints : Appends out out' written
  pub kept : List ℕ
  pub keeps : Appends cert cert' kept
  -- all of it, where the script was followed to its end; or the front
  pub all_kept : status ≤ 1 → kept ≡ certificate checks
  pub whole : status ≤ 1 → IfSome left (λ script. IsWhole places script checks written kept status)
  pub stand : SectionsStand checks kept
  -- of these checks all are answered, but for one that may be left open behind them: its section was
  -- written, and of its answer a part
  pub answered : List Certified
  pub left_open : List Certified
  pub checks_are : checks ≡ answered ++ left_open
  pub cut : 3 ≤ status → IfSome left (λ script. IsCut places script checks (length answered) written kept)
  -- what it read, and whose records these are
  pub reading : HasNotBegun source answered left_open records written kept status source' ⊎ IsReading places call limits source (option_map reads left) answered left_open records written kept status source'
