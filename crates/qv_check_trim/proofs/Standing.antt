-- The accepted sections of a verdict stand in the certificate, one behind the other.
use Rattle.std.proofs.Common.{◌≡◌, ◌∙◌, ◌++◌, ◌-◌, ℕ, suc, List, [], ◌∷◌, length, take, refl, sym, ap, subst, append_assoc, arith}
use Rattle.std.specs.Prelude.{Ok}
use Rattle.std.specs.List.{AllByRecursion}
use Rattle.std.proofs.lemmas.List.{length-append, take_at}
use Rattle.std.proofs.lemmas.List.Concat.{flat_map-append}
use Rattle.std.proofs.lemmas.List.Elements.{recursion_from_All, All-from_recursion}
use Rattle.qv_words.specs.declared.op.Answer.{Answer}
use Rattle.qv_words.specs.Problem.{Problem}
use Rattle.qv_words.specs.GameLaws.{IsProblem}
use Rattle.qv_sexpr.specs.Script.{reads}
use Rattle.qv_script_defs.specs.State.{opening}
use Rattle.qv_cert.specs.Line.{Header}
use Rattle.qv_cert.specs.Grammar.{Reading}
use Rattle.qv_cert.specs.CertReader.{with_line}
use Rattle.qv_cert.specs.Section.{Task, Judged, AcceptedUpTo, RefusedAt, section_judged}
use Rattle.qv_cert.specs.Shown.{IsSection}
use Rattle.qv_cert.specs.Spelling.{cert_text}
use Rattle.qv_cert.specs.Text.{Text, text_of, first_line}
use Rattle.qv_cert.specs.TextLaws.{HasNoLf, bytes_of_lines}
use Rattle.qv_cert.proofs.NextLemmas.{text_line, text_open}
use Rattle.qv_cert.proofs.Sections.{accepted-are-sections}
use Rattle.qv_cert.proofs.Texts.{texts-are-their-lines}
use Rattle.qv_check_laws.specs.Verdict.{Script, Asks, Stops, Ends, AcceptedSection, Verdict, behind_header, behind_section, verdict, verdict_from, verdict_on}
use Rattle.qv_check_laws.specs.VerdictLaws.{AsksOfProblems}
use Rattle.qv_check_defs.specs.Beside.{beside}
use Rattle.qv_script_transcript.specs.Certificates.{verdict_beside}
use Rattle.qv_trim.specs.Texts.{BeginsWith}
use Rattle.qv_check_trim.specs.Sections.{IsNoHeader, StandIn}
use Rattle.qv_check_trim.specs.Trimmed.{head, head_among, head_read}
use Rattle.qv_check_trim.proofs.Asked.{asks-lawfully}

-- the lines that were taken
pub taken : (texts behind lines : List (List ℕ)) → lines ≡ texts ++ behind → take (length lines - length behind) lines ≡ texts
taken texts behind lines e =
    let number : length (texts ++ behind) - length behind ≡ length texts = omega (arith, length-append texts behind) in
    subst (λ (xs : List (List ℕ)). take (length xs - length behind) xs ≡ texts) (sym e)
    (ap (λ (k : ℕ). take k (texts ++ behind)) number ∙ take_at texts behind (length texts) refl)

pub parts-of : {X : Type 0} (P : X → Type 0) (xs ys : List X) → AllByRecursion P (xs ++ ys) → AllByRecursion P xs × AllByRecursion P ys
parts-of P [] ys h = (tt, h)
parts-of P (x ∷ xs) ys h = let both = parts-of P xs ys h.1 in ((h.0, both.0), both.1)

-- sections stand at the front of a text
abbrev pub StandFirst : List AcceptedSection → (text : List ℕ) → Type 0
StandFirst sections text = (rest : List ℕ) × StandIn sections text rest

abbrev Apart : List (List ℕ) → Type 0
Apart lines = AllByRecursion HasNoLf lines

section-stands : (task : Task) (answer : Answer) (texts behind : List (List ℕ)) (rest : List ℕ) (later : List AcceptedSection) → Apart texts → IsSection task answer texts
    → StandFirst later (bytes_of_lines behind ++ rest) → StandFirst (record { answer = answer; lines = texts } ∷ later) (bytes_of_lines (texts ++ behind) ++ rest)
section-stands task answer texts behind rest later h s (end, st) = (
  end,
  (
    task,
    bytes_of_lines behind ++ rest,
    record {
      text_is = ap (λ (t : List ℕ). t ++ rest) (flat_map-append (λ (line : List ℕ). line ++ 10 ∷ []) texts behind) ∙ append_assoc (bytes_of_lines texts) (bytes_of_lines behind) rest;
      each = All-from_recursion HasNoLf texts h;
      section = s;
    },
    st,
  ),
)

judged : (version number : ℕ) (p : Problem) (n : ℕ) (lines : List (List ℕ)) (rest : List ℕ) → IsProblem p → Apart lines
    → (goes_on : Answer → ℕ → List (List ℕ) → Verdict (List ℕ)) → ((answer : Answer) (m : ℕ) (behind : List (List ℕ)) → Apart behind → StandFirst (goes_on answer m behind).sections (bytes_of_lines behind ++ rest))
    → (j : Judged) → section_judged (record { problem = p; number = number; version = version }) n lines ≡ j
    → StandFirst (behind_section lines goes_on j).sections (bytes_of_lines lines ++ rest)
judged version number p n lines rest problem h goes_on others (RefusedAt line k) e = (bytes_of_lines lines ++ rest, refl)
judged version number p n lines rest problem h goes_on others (AcceptedUpTo answer m behind) e =
    let task : Task = record { problem = p; number = number; version = version } in
    let a = accepted-are-sections task answer n m lines behind problem e in
    let both = parts-of HasNoLf a.texts behind (subst Apart a.lines_are h) in
    let later = (goes_on answer m behind).sections in
    let st : StandFirst (record { answer = answer; lines = a.texts } ∷ later) (bytes_of_lines (a.texts ++ behind) ++ rest) =
    section-stands task answer a.texts behind rest later both.0 a.section (others answer m behind both.1) in
    subst (λ (ls : List (List ℕ)). StandFirst (record { answer = answer; lines = ls } ∷ later) (bytes_of_lines lines ++ rest)) (sym (taken a.texts behind lines a.lines_are))
    (subst (λ (ls : List (List ℕ)). StandFirst (record { answer = answer; lines = a.texts } ∷ later) (bytes_of_lines ls ++ rest)) (sym a.lines_are) st)

from-stand : (script : Script (List ℕ)) (version number n : ℕ) (lines : List (List ℕ)) (rest : List ℕ) → AsksOfProblems script → Apart lines
    → StandFirst (verdict_from version number script n lines rest).sections (bytes_of_lines lines ++ rest)
unfolding verdict_from
from-stand (Asks p next) version number n lines rest h k =
    judged version number p n lines rest h.0 k (λ answer m behind. verdict_from version (suc number) (next answer) m behind rest)
    (λ answer m behind j. from-stand (next answer) version (suc number) m behind rest (h.1 answer) j)
    (section_judged (record { problem = p; number = number; version = version }) n lines) refl
from-stand (Stops fault) version number n lines rest h k = (bytes_of_lines lines ++ rest, refl)
from-stand Ends version number n lines rest h k = (bytes_of_lines lines ++ rest, refl)

-- ---- by the first line

module _ (places : ℕ) (script cert line more : List ℕ) (b : BeginsWith cert line more) where
  text-is : text_of cert ≡ with_line line (text_of more)
  text-is = ap text_of b.text_is ∙ text_line line more b.is_line

  pub head-by : head cert ≡ head_read (first_line line)
  head-by = ap (λ (t : Text). head_among t.lines) text-is

  pub verdict-by : verdict_beside places script cert ≡ behind_header (first_line line) (beside places opening (reads script)) (text_of more).lines (text_of more).rest
  unfolding verdict
  verdict-by = ap (λ (t : Text). verdict_on (beside places opening (reads script)) t.lines t.rest) text-is

  module _ (version : ℕ) (is : first_line line ≡ Ok (Header version)) where
    pub verdict-header : verdict_beside places script cert ≡ verdict_from version 1 (beside places opening (reads script)) 2 (text_of more).lines (text_of more).rest
    verdict-header = verdict-by ∙ ap (λ (r : Reading). behind_header r (beside places opening (reads script)) (text_of more).lines (text_of more).rest) is

    pub head-header : head cert ≡ cert_text (Header version)
    head-header = head-by ∙ ap head_read is

    pub stand-behind : StandFirst (verdict_beside places script cert).sections more
    stand-behind =
        let t = texts-are-their-lines more in
        let st = from-stand (beside places opening (reads script)) version 1 2 (text_of more).lines (text_of more).rest (asks-lawfully places script) (recursion_from_All HasNoLf (text_of more).lines t.lines_end) in
        subst (λ (v : Verdict (List ℕ)). StandFirst v.sections more) (sym verdict-header)
        (subst (λ (bytes : List ℕ). StandFirst (verdict_from version 1 (beside places opening (reads script)) 2 (text_of more).lines (text_of more).rest).sections bytes) (sym t.bytes_are) st)

-- nothing is accepted, and there is no first line
pub record IsHeadless (places : ℕ) (script cert : List ℕ) : Type 0 where
  pub sections : (verdict_beside places script cert).sections ≡ []
  pub head : head cert ≡ []

no-header : (r : Reading) (script : Script (List ℕ)) (lines : List (List ℕ)) (rest : List ℕ) → IsNoHeader r → ((behind_header r script lines rest).sections ≡ []) × (head_read r ≡ [])
no-header (Ok (Header version)) script lines rest h = absurd (h version refl)
no-header _ script lines rest h = (refl, refl)

pub headless-line : (places : ℕ) (script cert line more : List ℕ) → BeginsWith cert line more → IsNoHeader (first_line line) → IsHeadless places script cert
headless-line places script cert line more b h =
    let none = no-header (first_line line) (beside places opening (reads script)) (text_of more).lines (text_of more).rest h in
    record {
      sections = ap (λ (v : Verdict (List ℕ)). v.sections) (verdict-by places script cert line more b) ∙ none.0;
      head = head-by places script cert line more b ∙ none.1;
    }

pub headless-open : (places : ℕ) (script cert : List ℕ) → HasNoLf cert → IsHeadless places script cert
unfolding verdict
headless-open places script cert h = record {
  sections = ap (λ (t : Text). (verdict_on (beside places opening (reads script)) t.lines t.rest).sections) (text_open cert h);
  head = ap (λ (t : Text). head_among t.lines) (text_open cert h);
}
