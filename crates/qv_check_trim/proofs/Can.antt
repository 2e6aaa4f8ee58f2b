-- Each certificate can be trimmed.
use Rattle.std.proofs.Common.{◌++◌, ℕ, suc, List, [], ◌∷◌, refl}
use Rattle.std.specs.Prelude.{Ok, flat_map}
use Rattle.qv_sexpr.specs.Script.{reads}
use Rattle.qv_script_defs.specs.State.{opening}
use Rattle.qv_cert.specs.Line.{Header}
use Rattle.qv_cert.specs.Grammar.{Reading}
use Rattle.qv_cert.specs.Spelling.{cert_text}
use Rattle.qv_cert.specs.Text.{text_of, first_line}
use Rattle.qv_check_laws.specs.Verdict.{Script, Asks, Stops, Ends, AcceptedSection, behind_header, verdict, verdict_from, verdict_on}
use Rattle.qv_check_laws.specs.VerdictLaws.{AreSectionsFor, AsksOfProblems}
use Rattle.qv_check_laws.proofs.Shows.{verdicts-show}
use Rattle.qv_check_defs.specs.Beside.{beside}
use Rattle.qv_trim.proofs.Found.{sections_can_be_trimmed}
use Rattle.qv_check_trim.specs.Trimmed.{AreTrimmed, head}
use Rattle.qv_check_trim.specs.TrimmedLaws.{CertsCanBeTrimmed}
use Rattle.qv_check_trim.proofs.Asked.{asks-lawfully}

abbrev CanBeTrimmed : List AcceptedSection → Type 0
CanBeTrimmed sections = (bytes : List ℕ) × AreTrimmed sections bytes

for-can : (version number : ℕ) (script : Script (List ℕ)) (sections : List AcceptedSection) → AreSectionsFor version number script sections → CanBeTrimmed sections
for-can version number script [] are = ([], refl)
for-can version number (Asks p next) (s ∷ ss) are =
    let own = sections_can_be_trimmed (record { problem = p; number = number; version = version }) s.answer s.lines are.0 in
    let later = for-can version (suc number) (next s.answer) ss are.1 in
    (flat_map cert_text own.0 ++ later.0, (own.0, later.0, own.1, refl, later.1))
for-can version number (Stops fault) (s ∷ ss) are = absurd are
for-can version number Ends (s ∷ ss) are = absurd are

header-can : (r : Reading) (script : Script (List ℕ)) (lines : List (List ℕ)) (rest : List ℕ) → AsksOfProblems script → CanBeTrimmed (behind_header r script lines rest).sections
header-can (Ok (Header version)) script lines rest h =
    for-can version 1 script (verdict_from version 1 script 2 lines rest).sections (verdicts-show (List ℕ) version 1 script 2 lines rest h)
header-can _ script lines rest h = ([], refl)

lines-can : (script : Script (List ℕ)) (lines : List (List ℕ)) (rest : List ℕ) → AsksOfProblems script → CanBeTrimmed (verdict_on script lines rest).sections
lines-can script [] rest h = ([], refl)
lines-can script (line ∷ lines) rest h = header-can (first_line line) script lines rest h

pub certs-can_be_trimmed : CertsCanBeTrimmed
unfolding verdict
certs-can_be_trimmed places script cert =
    let t = lines-can (beside places opening (reads script)) (text_of cert).lines (text_of cert).rest (asks-lawfully places script) in
    (head cert ++ t.0, record { behind = t.0; trimmed = t.1; bytes_are = refl })
