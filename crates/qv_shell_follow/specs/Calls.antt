-- What a run does to its script: it reads one command after another, and nothing behind the answer
-- that ends it.
use Rattle.std.specs.Prelude.{◌≡◌, ◌<◌, ℕ, suc, ◌⊎◌, false, Option, Some, None, IfSome, IsSomeAnd, option_map, List, [], ◌∷◌, ◌++◌, All, length, take}
use Rattle.qv_text.specs.Progress.{Progress}
use Rattle.qv_sexpr.specs.declared.answers.Stop.{Stop}
use Rattle.qv_sexpr.specs.declared.answers.Stop.TheVariants.{ReadFault, ReadLimit}
use Rattle.qv_sexpr.specs.Script.{Script}
use Rattle.qv_sexpr.specs.Script.{Tree as Expr, command as stands, stops as halts}
use Rattle.qv_sexpr.specs.Reader.{text_end}
use Rattle.qv_sexpr.specs.Calls.{ReadsOnDemand}
use Rattle.qv_cert.specs.TextLaws.{bytes_of_lines}
use Rattle.qv_script_defs.specs.State.{State, opening}
use Rattle.qv_script_transcript.specs.Following.{CheckSat, end_line}
use Rattle.qv_script_transcript.specs.Certificates.{Certified, checks_of, IsCertified, certificate}
use Rattle.qv_meter.specs.Records.{Limits, Record}
use Rattle.qv_shell_answer.specs.Metered.{HasLimits}
use Rattle.qv_shell_command.specs.Calls.{AreRecordsBehind, IsFollowed, IsLast}

-- In what follows `call` says what one call makes of a source.

-- a lexer that was fed nothing
abbrev pub unfed : Progress
unfed = record { place = 0; rest = []; finished = false; last = None }

-- Commands were read one after another and followed: their checks with the answers, what they printed,
-- how far the lexer is, what the calls made of the source, what is still to be read where the source
-- tells its bytes, and the state.
pub data HasFollowed (places : ℕ) {S : Type 0} (call : S → ℕ → Option (List ℕ) → S → Type 0) (source : S) (script : Option Script) : List CheckSat → List ℕ → Progress → S → Option Script → State → Type 0 where
  at_start : HasFollowed places call source script [] [] unfed source script opening
  one_command : (before : List CheckSat) (written : List ℕ) (lexer : Progress) (now : S) (s : State) (e : Expr) (more : List CheckSat) (text : List ℕ) (new : Progress) (later : S) (rest : Option Script) (t : State) →
      HasFollowed places call source script before written lexer now (option_map (stands e) rest) s →
      IsFollowed places s e more text t → ReadsOnDemand call lexer now None new later →
      HasFollowed places call source script (before ++ more) (written ++ text) new later rest t

-- the records that the commands started which were followed, in their order
abbrev pub AreRecordsOfRun : {places : ℕ} {S : Type 0} {call : S → ℕ → Option (List ℕ) → S → Type 0} {source : S} {script : Option Script} {checks : List CheckSat} {written : List ℕ} {lexer : Progress} {now : S} {still : Option Script} {state : State} →
    Limits → HasFollowed places call source script checks written lexer now still state → List Record → Type 0
AreRecordsOfRun limits at_start records = records ≡ []
AreRecordsOfRun limits (one_command before written lexer now s e more text new later rest t first followed read) records =
    (older : List Record) × (own : List Record) × (records ≡ older ++ own) × AreRecordsOfRun limits first older × AreRecordsBehind limits followed own

-- What a run did to its script: commands were read and followed, which printed this, with these
-- checks; then came the last answer of the reader, and nothing was read behind it.
pub record ReadsScript (places : ℕ) {S : Type 0} (call : S → ℕ → Option (List ℕ) → S → Type 0) (source : S) (script : Option Script) (checks : List CheckSat) (printed : List ℕ) (source' : S) : Type 0 where
  pub lexer : Progress
  pub now : S
  pub still : Option Script
  pub state : State
  pub followed : HasFollowed places call source script checks printed lexer now still state
  pub stop : Option Stop
  pub new : Progress
  pub last : ReadsOnDemand call lexer now stop new source'

-- ---- the last answer of the reader: a command, or why it stopped

-- the command comes next, where the script is told
abbrev pub ComesNext : Expr → Option Script → Type 0
ComesNext e script = IfSome script (λ s. (rest : Script) × (s ≡ stands e rest))

-- it is a command that is followed: its check, if it is one, and what it prints
abbrev pub ShowsCommand : (places : ℕ) → State → Option Script → Option Stop → List CheckSat → (text : List ℕ) → Type 0
ShowsCommand places state script None checks text = (e : Expr) × (behind : State) × IsFollowed places state e checks text behind × ComesNext e script
ShowsCommand places state script (Some stop) checks text = ⊥

-- it ends the script, by a command or where its text ends: what that prints, and the status
abbrev pub ShowsEnd : (places : ℕ) → State → Option Script → Option Stop → (text : List ℕ) → (status : ℕ) → Type 0
ShowsEnd places state script None text status = (e : Expr) × IsLast places state e text status × ComesNext e script
ShowsEnd places state script (Some stop) text status = IsSomeAnd (text_end stop) (λ end. (end_line end ≡ (text, status)) × IfSome script (λ s. s ≡ halts end))

-- the source gave no more
abbrev pub IsUnread : Option Stop → Type 0
IsUnread stop = (stop ≡ Some ReadFault) ⊎ (stop ≡ Some ReadLimit)

-- ---- what is written behind the commands that were followed

-- a sink failed within a text
abbrev pub IsPartOf : List ℕ → List ℕ → Type 0
IsPartOf part text = (n : ℕ) × (n < length text) × (part ≡ take n text)

-- How a run ends whose checks so far have these sections: the check that is left open, if one is, what
-- is printed of the next text, what is written of the certificate, and the status.
pub data EndsRun (places : ℕ) (state : State) (script : Option Script) (stop : Option Stop) (answered : List Certified) : (left_open : List Certified) → (part kept : List ℕ) → (status : ℕ) → Type 0 where
  -- the script was followed to its end
  at_end : (text : List ℕ) (status : ℕ) → ShowsEnd places state script stop text status → EndsRun places state script stop answered [] text (certificate answered) status
  unread : IsUnread stop → EndsRun places state script stop answered [] [] (certificate answered) 3
  -- memory ran out in the reader, or for what its answer leads to
  no_memory : (IsUnread stop → ⊥) → EndsRun places state script stop answered [] [] (certificate answered) 5
  -- a sink failed within the section of a check, of which nothing is printed
  in_section : (c : Certified) (text part : List ℕ) → ShowsCommand places state script stop (c.check ∷ []) text → IsCertified (suc (length answered)) c →
      IsPartOf part (bytes_of_lines c.lines) → EndsRun places state script stop answered [] [] (certificate answered ++ part) 4
  -- within the text of a command: where that is a check its section is whole, and it is left open
  in_text : (left_open : List Certified) (text part : List ℕ) → ShowsCommand places state script stop (checks_of left_open) text →
      IsPartOf part text → EndsRun places state script stop answered left_open part (certificate (answered ++ left_open)) 4
  -- or within the last text
  in_last : (text part : List ℕ) (status : ℕ) → ShowsEnd places state script stop text status →
      IsPartOf part text → EndsRun places state script stop answered [] part (certificate answered) 4

-- ---- the records behind those of the commands that were followed

-- those of the command that comes last, where it is followed
abbrev pub AreRecordsOfShown : (places : ℕ) → Limits → (state : State) (script : Option Script) (stop : Option Stop) (checks : List CheckSat) (text : List ℕ) → ShowsCommand places state script stop checks text → List Record → Type 0
AreRecordsOfShown places limits state script None checks text shows records = AreRecordsBehind limits shows.2 records
AreRecordsOfShown places limits state script (Some stop) checks text shows records = ⊥

-- By how the run ends: those of a command that isn't told whole, or of one that memory ends, which may
-- have started any; and else none.
abbrev pub AreRecordsAtEnd : (places : ℕ) {state : State} {script : Option Script} {stop : Option Stop} {answered left_open : List Certified} {part kept : List ℕ} {status : ℕ} →
    Limits → EndsRun places state script stop answered left_open part kept status → List Record → Type 0
AreRecordsAtEnd places limits (at_end text status shows) records = records ≡ []
AreRecordsAtEnd places limits (unread is) records = records ≡ []
AreRecordsAtEnd places limits (no_memory other) records = All (HasLimits limits) records
AreRecordsAtEnd places {state} {script} {stop} limits (in_section c text part shows is cut) records = AreRecordsOfShown places limits state script stop (c.check ∷ []) text shows records
AreRecordsAtEnd places {state} {script} {stop} limits (in_text left_open text part shows cut) records = AreRecordsOfShown places limits state script stop (checks_of left_open) text shows records
AreRecordsAtEnd places limits (in_last text part status shows cut) records = records ≡ []
