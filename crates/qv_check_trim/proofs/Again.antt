-- A trimmed certificate is accepted with the same answers, and there is one way to trim.
use Rattle.std.proofs.Common.{◌≡◌, ◌∙◌, ◌++◌, ◌+◌, ◌-◌, ℕ, suc, false, List, [], ◌∷◌, length, map, take, refl, sym, ap, subst, append_assoc}
use Rattle.std.specs.Prelude.{Ok, flat_map}
use Rattle.std.specs.List.{AllByRecursion}
use Rattle.std.proofs.lemmas.List.Concat.{flat_map-append}
use Rattle.std.proofs.lemmas.List.Elements.{All-from_recursion}
use Rattle.qv_words.specs.declared.op.Answer.{Answer}
use Rattle.qv_words.specs.Problem.{Problem}
use Rattle.qv_words.specs.GameLaws.{IsProblem}
use Rattle.qv_words.proofs.Leaves.{both}
use Rattle.qv_sexpr.specs.Script.{reads}
use Rattle.qv_script_defs.specs.State.{opening}
use Rattle.qv_cert.specs.Line.{CertLine, Header, IsCertLine}
use Rattle.qv_cert.specs.Grammar.{Reading, cert_line}
use Rattle.qv_cert.specs.CertReader.{with_line}
use Rattle.qv_cert.specs.Section.{Task, Judged, AcceptedUpTo, RefusedAt, section_judged}
use Rattle.qv_cert.specs.Shown.{IsSection}
use Rattle.qv_cert.specs.Spelling.{cert_text}
use Rattle.qv_cert.specs.Text.{Text, text_of, first_line, only_header}
use Rattle.qv_cert.specs.TextLaws.{HasNoLf, bytes_of_lines}
use Rattle.qv_cert.proofs.Accepting.{sections-are-accepted}
use Rattle.qv_cert.proofs.NextLemmas.{text_line}
use Rattle.qv_cert.proofs.Ranges.{read-lines-are-cert-lines}
use Rattle.qv_cert.proofs.Sections.{accepted-are-sections}
use Rattle.qv_check_laws.specs.Verdict.{Script, Asks, Stops, Ends, AcceptedSection, Ending, HasNoRefusal, Verdict, answers_of, at_end, behind_header, behind_section, ended, verdict, verdict_from, verdict_on, with_section}
use Rattle.qv_check_laws.specs.VerdictLaws.{AreSectionsFor, AsksOfProblems}
use Rattle.qv_check_laws.proofs.Shows.{verdicts-show}
use Rattle.qv_check_defs.specs.Beside.{beside}
use Rattle.qv_script_transcript.specs.PrintedLines.{line_text}
use Rattle.qv_script_transcript.proofs.Accepting.{lines-are-their-text}
use Rattle.qv_script_transcript.proofs.PrintedLines.{printed-lines-stand}
use Rattle.qv_check_trim.specs.Trimmed.{AreTrimmed, head, head_among, head_read}
use Rattle.qv_check_trim.specs.TrimmedLaws.{CertsAreTrimmedOnce, TrimmedAreAccepted}
use Rattle.qv_check_trim.proofs.Asked.{asks-lawfully}
use Rattle.qv_check_trim.proofs.Firsts.{section-once}
use Rattle.qv_check_trim.proofs.Printed.{section-range, section-printed, lines-bytes, lines-apart}
use Rattle.qv_check_trim.proofs.Standing.{taken}

-- ---- trimmed once

for-once : (version number : ℕ) (script : Script (List ℕ)) (sections : List AcceptedSection) (one other : List ℕ) → AreSectionsFor version number script sections → AreTrimmed sections one → AreTrimmed sections other → one ≡ other
for-once version number script [] one other are t u = t ∙ sym u
for-once version number (Asks p next) (s ∷ ss) one other are (t, more, is, e, h) (u, more', is', e', h') =
    let same : t ≡ u = section-once (record { problem = p; number = number; version = version }) s.answer s.lines t u are.0 is is' in
    let others : more ≡ more' = for-once version (suc number) (next s.answer) ss more more' are.1 h h' in
    e ∙ (ap (λ (ls : List CertLine). flat_map cert_text ls ++ more) same ∙ (ap (λ (m : List ℕ). flat_map cert_text u ++ m) others ∙ sym e'))
for-once version number (Stops fault) (s ∷ ss) one other are t u = absurd are
for-once version number Ends (s ∷ ss) one other are t u = absurd are

header-once : (r : Reading) (script : Script (List ℕ)) (lines : List (List ℕ)) (rest one other : List ℕ) → AsksOfProblems script → AreTrimmed (behind_header r script lines rest).sections one → AreTrimmed (behind_header r script lines rest).sections other → one ≡ other
header-once (Ok (Header version)) script lines rest one other h t u =
    for-once version 1 script (verdict_from version 1 script 2 lines rest).sections one other (verdicts-show (List ℕ) version 1 script 2 lines rest h) t u
header-once _ script lines rest one other h t u = t ∙ sym u

lines-once : (script : Script (List ℕ)) (lines : List (List ℕ)) (rest one other : List ℕ) → AsksOfProblems script → AreTrimmed (verdict_on script lines rest).sections one → AreTrimmed (verdict_on script lines rest).sections other → one ≡ other
lines-once script [] rest one other h t u = t ∙ sym u
lines-once script (line ∷ lines) rest one other h t u = header-once (first_line line) script lines rest one other h t u

pub certs-are-trimmed-once : CertsAreTrimmedOnce
unfolding verdict
certs-are-trimmed-once places script cert one other t u =
    t.bytes_are ∙ (ap (λ (s : List ℕ). head cert ++ s) (lines-once (beside places opening (reads script)) (text_of cert).lines (text_of cert).rest t.behind u.behind (asks-lawfully places script) t.trimmed u.trimmed) ∙ sym u.bytes_are)

-- ---- accepted again

-- the bytes are lines whose verdict, from the line of this number on, has the same answers and end
record Again (script : Script (List ℕ)) (version number m : ℕ) (v : Verdict (List ℕ)) (bytes : List ℕ) : Type 0 where
  lines : List (List ℕ)
  apart : AllByRecursion HasNoLf lines
  bytes_are : bytes ≡ bytes_of_lines lines
  answers : answers_of (verdict_from version number script m lines []) ≡ answers_of v
  ending : (verdict_from version number script m lines []).ending ≡ v.ending

abbrev last_of : ℕ → List (List ℕ) → List ℕ → Ending (List ℕ)
last_of n lines rest = at_end n lines rest

ends-again : (version number m n : ℕ) (lines : List (List ℕ)) (rest bytes : List ℕ) → HasNoRefusal (last_of n lines rest) → bytes ≡ [] → Again Ends version number m (ended (last_of n lines rest)) bytes
unfolding verdict_from
ends-again version number m n (line ∷ lines) rest bytes h e = absurd h
ends-again version number m n [] (byte ∷ rest) bytes h e = absurd h
ends-again version number m n [] [] bytes h e = record { lines = []; apart = tt; bytes_are = e; answers = refl; ending = refl }

module _ (p : Problem) (next : Answer → Script (List ℕ)) (version number m n : ℕ) (lines : List (List ℕ)) (problem : IsProblem p) (goes_on : Answer → ℕ → List (List ℕ) → Verdict (List ℕ))
    (again : (answer : Answer) (k : ℕ) (behind : List (List ℕ)) (later : ℕ) (bytes : List ℕ) → HasNoRefusal (goes_on answer k behind).ending → AreTrimmed (goes_on answer k behind).sections bytes
    → Again (next answer) version (suc number) later (goes_on answer k behind) bytes) where
  abbrev task : Task
  task = record { problem = p; number = number; version = version }

  section-again : (answer : Answer) (k : ℕ) (behind : List (List ℕ)) (bytes : List ℕ) → section_judged task n lines ≡ AcceptedUpTo answer k behind → HasNoRefusal (goes_on answer k behind).ending
      → AreTrimmed (record { answer = answer; lines = take (length lines - length behind) lines } ∷ (goes_on answer k behind).sections) bytes
      → Again (Asks p next) version number m (with_section answer (take (length lines - length behind) lines) (goes_on answer k behind)) bytes
  unfolding verdict_from
  section-again answer k behind bytes e h (t, more, is, e', rest) =
      let a = accepted-are-sections task answer n k lines behind problem e in
      let section : IsSection task answer (take (length lines - length behind) lines) = subst (IsSection task answer) (sym (taken a.texts behind lines a.lines_are)) a.section in
      let range = section-range answer (take (length lines - length behind) lines) t is in
      let texts : List (List ℕ) = map line_text t in
      let stands : IsSection task answer texts = section-printed task answer (take (length lines - length behind) lines) t section is in
      let later : ℕ = m + length texts in
      let more-again = again answer k behind later more h rest in
      let on = λ (b : Answer) (j : ℕ) (ls : List (List ℕ)). verdict_from version (suc number) (next b) j ls [] in
      let judged : section_judged task m (texts ++ more-again.lines) ≡ AcceptedUpTo answer later more-again.lines = sections-are-accepted task answer m texts more-again.lines stands in
      let whole : verdict_from version number (Asks p next) m (texts ++ more-again.lines) [] ≡ behind_section (texts ++ more-again.lines) on (AcceptedUpTo answer later more-again.lines) =
      ap (behind_section (texts ++ more-again.lines) on) judged in
      record {
        lines = texts ++ more-again.lines;
        apart = both HasNoLf texts more-again.lines (lines-apart t range) more-again.apart;
        bytes_are = e' ∙ (ap (λ (s : List ℕ). s ++ more) (lines-bytes t range) ∙ (ap (λ (s : List ℕ). bytes_of_lines texts ++ s) more-again.bytes_are ∙ sym (flat_map-append (λ (line : List ℕ). line ++ 10 ∷ []) texts more-again.lines)));
        answers = ap (λ (v : Verdict (List ℕ)). answers_of v) whole ∙ ap (λ (answers : List Answer). answer ∷ answers) more-again.answers;
        ending = ap (λ (v : Verdict (List ℕ)). v.ending) whole ∙ more-again.ending;
      }

  judged-again : (bytes : List ℕ) (j : Judged) → section_judged task n lines ≡ j → HasNoRefusal (behind_section lines goes_on j).ending → AreTrimmed (behind_section lines goes_on j).sections bytes
      → Again (Asks p next) version number m (behind_section lines goes_on j) bytes
  judged-again bytes (AcceptedUpTo answer k behind) e h t = section-again answer k behind bytes e h t
  judged-again bytes (RefusedAt line kind) e h t = absurd h

from-again : (script : Script (List ℕ)) (version number n m : ℕ) (lines : List (List ℕ)) (rest bytes : List ℕ) → AsksOfProblems script → HasNoRefusal (verdict_from version number script n lines rest).ending
    → AreTrimmed (verdict_from version number script n lines rest).sections bytes → Again script version number m (verdict_from version number script n lines rest) bytes
unfolding verdict_from
from-again (Asks p next) version number n m lines rest bytes asks h t =
    judged-again p next version number m n lines asks.0 (λ answer k behind. verdict_from version (suc number) (next answer) k behind rest)
    (λ answer k behind later more h t. from-again (next answer) version (suc number) k later behind rest more (asks.1 answer) h t)
    bytes (section_judged (record { problem = p; number = number; version = version }) n lines) refl h t
from-again (Stops fault) version number n m lines rest bytes asks h t = record { lines = []; apart = tt; bytes_are = t; answers = refl; ending = refl }
from-again Ends version number n m lines rest bytes asks h t = ends-again version number m n lines rest bytes h t

-- ---- from the first line on

header-read : (r : Reading) (version : ℕ) → only_header r ≡ Ok (Header version) → r ≡ Ok (Header version)
header-read (Ok (Header w)) version e = e
header-read _ version e = absurd cc

-- the verdict on bytes has the same answers and end
record IsSame (script : Script (List ℕ)) (bytes : List ℕ) (v : Verdict (List ℕ)) : Type 0 where
  answers : answers_of (verdict script bytes) ≡ answers_of v
  ending : (verdict script bytes).ending ≡ v.ending

same-header : (script : Script (List ℕ)) (version : ℕ) (lines : List (List ℕ)) (rest behind bytes : List ℕ) → IsCertLine (Header version) → AsksOfProblems script → HasNoRefusal (verdict_from version 1 script 2 lines rest).ending
    → AreTrimmed (verdict_from version 1 script 2 lines rest).sections behind → bytes ≡ cert_text (Header version) ++ behind → IsSame script bytes (verdict_from version 1 script 2 lines rest)
unfolding verdict
same-header script version lines rest behind bytes form asks h t e =
    let a = from-again script version 1 2 2 lines rest behind asks h t in
    let stands = printed-lines-stand.0 (Header version) form in
    let first : List ℕ = line_text (Header version) in
    let whole : bytes ≡ first ++ 10 ∷ behind = e ∙ (ap (λ (s : List ℕ). s ++ behind) stands.ends ∙ append_assoc first (10 ∷ []) behind) in
    let text : text_of behind ≡ record { lines = a.lines; rest = [] } = ap text_of a.bytes_are ∙ lines-are-their-text a.lines (All-from_recursion HasNoLf a.lines a.apart) in
    let all : text_of bytes ≡ record { lines = first ∷ a.lines; rest = [] } = ap text_of whole ∙ (text_line first behind stands.apart ∙ ap (with_line first) text) in
    let read : first_line first ≡ Ok (Header version) = ap only_header stands.reads in
    let is : verdict script bytes ≡ verdict_from version 1 script 2 a.lines [] =
    ap (λ (u : Text). verdict_on script u.lines u.rest) all ∙ ap (λ (r : Reading). behind_header r script a.lines []) read in
    record {
      answers = ap (λ (v : Verdict (List ℕ)). answers_of v) is ∙ a.answers;
      ending = ap (λ (v : Verdict (List ℕ)). v.ending) is ∙ a.ending;
    }

same-reading : (script : Script (List ℕ)) (r : Reading) (lines : List (List ℕ)) (rest behind bytes : List ℕ) → ((version : ℕ) → r ≡ Ok (Header version) → IsCertLine (Header version)) → AsksOfProblems script → HasNoRefusal (behind_header r script lines rest).ending
    → AreTrimmed (behind_header r script lines rest).sections behind → bytes ≡ head_read r ++ behind → IsSame script bytes (behind_header r script lines rest)
same-reading script (Ok (Header version)) lines rest behind bytes form asks h t e = same-header script version lines rest behind bytes (form version refl) asks h t e
same-reading script _ lines rest behind bytes form asks h t e = absurd h

same-lines : (script : Script (List ℕ)) (lines : List (List ℕ)) (rest behind bytes : List ℕ) → AsksOfProblems script → HasNoRefusal (verdict_on script lines rest).ending → AreTrimmed (verdict_on script lines rest).sections behind → bytes ≡ head_among lines ++ behind
    → IsSame script bytes (verdict_on script lines rest)
same-lines script [] rest behind bytes asks h t e = absurd h
same-lines script (line ∷ lines) rest behind bytes asks h t e =
    same-reading script (first_line line) lines rest behind bytes (λ version is. read-lines-are-cert-lines false line (Header version) (header-read (cert_line false line) version is)) asks h t e

pub trimmed-are-accepted : TrimmedAreAccepted
unfolding verdict
trimmed-are-accepted places script cert bytes h t =
    let same = same-lines (beside places opening (reads script)) (text_of cert).lines (text_of cert).rest t.behind bytes (asks-lawfully places script) h t.trimmed t.bytes_are in
    record { answers = same.answers; ending = same.ending }
