-- The verdict on a certificate beside a script: its header, a section for each check-sat, and its
-- end.
use Rattle.std.specs.Prelude.{ℕ, suc, ◌-◌, false, List, [], ◌∷◌, map, length, take, Ok}
use Rattle.qv_words.specs.declared.op.Answer.{Answer}
use Rattle.qv_words.specs.Problem.{Problem}
use Rattle.qv_cert.specs.declared.kind.RefusalKind.{RefusalKind}
use Rattle.qv_cert.specs.declared.kind.RefusalKind.TheVariants as kind
use Rattle.qv_cert.specs.Line.{Header, Check}
use Rattle.qv_cert.specs.Grammar.{Reading, cert_line}
use Rattle.qv_cert.specs.Text.{text_of, first_line}
use Rattle.qv_cert.specs.Section.{Judged, AcceptedUpTo, RefusedAt, section_judged}

-- a script as a certificate meets it: a check-sat whose problem is within the prefix limit, behind
-- which it goes on by the answer; a fault, a check-sat past that limit among them; or its end
-- without a fault
pub data Script (Fault : Type 0) : Type 0 where
  Asks : (problem : Problem) (then : Answer → Script Fault) → Script Fault
  Stops : (fault : Fault) → Script Fault
  Ends : Script Fault

-- how the verdict ends: the certificate is accepted, or the script's first fault came, or a line is
-- refused
pub data Ending (Fault : Type 0) : Type 0 where
  IsAccepted : Ending Fault
  ScriptFault : (fault : Fault) → Ending Fault
  IsRefused : (line : ℕ) (k : RefusalKind) → Ending Fault

-- a section that was accepted, with its lines
pub record AcceptedSection : Type 0 where
  pub answer : Answer
  pub lines : List (List ℕ)

-- the accepted sections, and how it ends
pub record Verdict (Fault : Type 0) : Type 0 where
  pub sections : List AcceptedSection
  pub ending : Ending Fault

-- the answers that were accepted
abbrev pub answers_of : {F : Type 0} → Verdict F → List Answer
answers_of v = map (λ s. s.answer) v.sections

abbrev pub ended : {F : Type 0} → Ending F → Verdict F
ended e = record { sections = []; ending = e }

abbrev pub with_section : {F : Type 0} → Answer → List (List ℕ) → Verdict F → Verdict F
with_section answer lines v = record { sections = record { answer = answer; lines = lines } ∷ v.sections; ending = v.ending }

-- a line behind the last section: `section` where it begins one, and else `form`
abbrev pub kind_behind : Reading → RefusalKind
kind_behind (Ok (Check number answer)) = kind.Section
kind_behind _ = kind.Form

-- the end of a certificate at the line of this number, whose lines and bytes behind them these are
abbrev pub at_end : {F : Type 0} → ℕ → List (List ℕ) → List ℕ → Ending F
at_end n (line ∷ lines) rest = IsRefused n (kind_behind (cert_line false line))
at_end n [] (byte ∷ rest) = IsRefused n kind.Truncated
at_end n [] [] = IsAccepted

-- by the judgement of a section that begins with these lines: behind it the script goes on by its
-- answer, at the next line's number and the lines from there on
abbrev pub behind_section : {F : Type 0} → List (List ℕ) → (Answer → ℕ → List (List ℕ) → Verdict F) → Judged → Verdict F
behind_section lines goes_on (AcceptedUpTo answer next behind) =
    with_section answer (take (length lines - length behind) lines) (goes_on answer next behind)
behind_section lines goes_on (RefusedAt line k) = ended (IsRefused line k)

-- the verdict from a check-sat on: of this number, at the line of this number
unfoldable pub verdict_from : {F : Type 0} → (version number : ℕ) → Script F → (line : ℕ) → List (List ℕ) → (rest : List ℕ) → Verdict F
verdict_from version number (Asks p next) n lines rest =
    behind_section lines
    (λ answer m behind. verdict_from version (suc number) (next answer) m behind rest)
    (section_judged (record { problem = p; number = number; version = version }) n lines)
verdict_from version number (Stops fault) n lines rest = ended (ScriptFault fault)
verdict_from version number Ends n lines rest = ended (at_end n lines rest)

-- behind the first line
abbrev pub behind_header : {F : Type 0} → Reading → Script F → List (List ℕ) → List ℕ → Verdict F
behind_header (Ok (Header version)) script lines rest = verdict_from version 1 script 2 lines rest
behind_header _ script lines rest = ended (IsRefused 1 kind.Header)

abbrev pub verdict_on : {F : Type 0} → Script F → List (List ℕ) → List ℕ → Verdict F
verdict_on script [] rest = ended (IsRefused 1 kind.Truncated)
verdict_on script (line ∷ lines) rest = behind_header (first_line line) script lines rest

-- the verdict on a certificate's bytes
unfoldable pub verdict : {F : Type 0} → Script F → List ℕ → Verdict F
verdict script bytes = verdict_on script (text_of bytes).lines (text_of bytes).rest

-- the verdict has no refusal
abbrev pub HasNoRefusal : {F : Type 0} → Ending F → Type 0
HasNoRefusal IsAccepted = Unit {0}
HasNoRefusal (ScriptFault fault) = Unit {0}
HasNoRefusal (IsRefused line k) = ⊥
