-- The lines of a section as they stand in a text.
use Rattle.std.proofs.Common.{◌≡◌, ℕ, Bool, true, false, Ok, Option, Some, slice_get, List, [], ◌∷◌, ◌++◌, map, append_assoc, refl, sym, ap, subst, ◌∙◌}
use Rattle.std.specs.Prelude.{All, IsTrue, option_map}
use Rattle.std.proofs.lemmas.Option.{slice_get-map}
use Rattle.std.specs.List.{AllByRecursion, flat_map}
use Rattle.std.proofs.lemmas.List.{map-append}
use Rattle.std.proofs.lemmas.List.Elements.{recursion_from_All, All-from_recursion}
use Rattle.qv_words.specs.declared.op.Answer.{Answer}
use Rattle.qv_words.specs.declared.op.Answer.TheVariants.{Sat, Unsat, Unknown}
use Rattle.qv_rewrite_passes.specs.declared.pass.Pass.{Pass}
use Rattle.qv_words.proofs.Elements.{all-at, all-weaker}
use Rattle.qv_words.proofs.Leaves.{back, both, front}
use Rattle.qv_cnf.specs.LratLine.{LratLine}
use Rattle.qv_cert.specs.declared.line.Line.{Line}
use Rattle.qv_cert.specs.LineView.{cert_line_of}
use Rattle.qv_solve_write.specs.Said.{lines_said}
use Rattle.qv_cert.specs.Line.{CertLine, Header, Check, VariableNode, EigenNode, LiteralNode, OperatorNode, Skolem, Instance, Eigen, Rewrite, Lrat, Step, End, IsCertLine}
use Rattle.qv_cert.specs.Grammar.{Reading, cert_line}
use Rattle.qv_cert.specs.Spelling.{cert_text, is_step}
use Rattle.qv_cert.specs.Faults.{belongs}
use Rattle.qv_cert.specs.Section.{Task}
use Rattle.qv_cert.specs.Shown.{AreRead, IsProof, IsSection}
use Rattle.qv_cert.specs.TextLaws.{HasNoLf, bytes_of_lines}
use Rattle.qv_solve_section.specs.Sections.{lines_with, variables_in, IsProofOf, IsSectionOf}
use Rattle.qv_script_transcript.specs.Certificates.{variables_of}
use Rattle.qv_script_transcript.specs.PrintedLines.{line_text}
use Rattle.qv_script_transcript.proofs.PrintedLines.{printed-lines-stand}
use Rattle.qv_shell_answer.specs.PrintedLaws.{PrintedSectionsStand}

-- ---- lines outside the refutation, and lines of it

abbrev IsOuter : CertLine → Type 0
IsOuter line = is_step line ≡ false

outer-read : (lines : List CertLine) → AllByRecursion IsCertLine lines → AllByRecursion IsOuter lines → AreRead false (map line_text lines) lines
outer-read [] h k = refl
outer-read (line ∷ lines) h k =
    let own : cert_line false (line_text line) ≡ Ok line = subst (λ (b : Bool). cert_line b (line_text line) ≡ Ok line) k.0 (printed-lines-stand.0 line h.0).reads in
    ap (λ (r : Reading). r ∷ map (λ text. cert_line false text) (map line_text lines)) own ∙ ap (λ (rs : List Reading). Ok line ∷ rs) (outer-read lines h.1 k.1)

inner-read : (steps : List LratLine) → AllByRecursion IsCertLine (map Step steps ++ End ∷ []) → AreRead true (map line_text (map Step steps ++ End ∷ [])) (map Step steps ++ End ∷ [])
inner-read [] h = ap (λ (r : Reading). r ∷ []) printed-lines-stand.1
inner-read (step ∷ steps) h =
    ap (λ (r : Reading). r ∷ map (λ text. cert_line true text) (map line_text (map Step steps ++ End ∷ []))) (printed-lines-stand.0 (Step step) h.0).reads
    ∙ ap (λ (rs : List Reading). Ok (Step step) ∷ rs) (inner-read steps h.1)

no-step : (answer : Answer) (line : CertLine) → IsTrue (belongs answer line) → IsOuter line
no-step answer (Header version) h = refl
no-step answer (Check number of) h = refl
no-step answer (VariableNode node place) h = refl
no-step answer (EigenNode node line) h = refl
no-step answer (LiteralNode node s value) h = refl
no-step answer (OperatorNode node o children) h = refl
no-step answer (Skolem place node) h = refl
no-step answer (Instance line parent node) h = refl
no-step answer (Eigen line parent) h = refl
no-step answer (Rewrite pass) h = refl
no-step answer Lrat h = refl
no-step Sat (Step line) h = absurd cc
no-step Unsat (Step line) h = absurd cc
no-step Unknown (Step line) h = absurd cc
no-step answer End h = refl

passes-outer : (passes : List Pass) → AllByRecursion IsOuter (map Rewrite passes ++ Lrat ∷ [])
passes-outer [] = (refl, tt)
passes-outer (pass ∷ passes) = (refl, passes-outer passes)

-- ---- a whole section

abbrev outer_lines : ℕ → Answer → List CertLine → List Pass → List CertLine
outer_lines number answer given passes = Check number answer ∷ (given ++ (map Rewrite passes ++ Lrat ∷ []))

abbrev inner_lines : List LratLine → List CertLine
inner_lines steps = map Step steps ++ End ∷ []

in-two : (number : ℕ) (answer : Answer) (given : List CertLine) (passes : List Pass) (steps : List LratLine) → lines_with number answer given passes steps ≡ outer_lines number answer given passes ++ inner_lines steps
in-two number answer given passes steps =
    ap (λ (ls : List CertLine). Check number answer ∷ ls)
    (ap (λ (ls : List CertLine). given ++ ls) (sym (append_assoc (map Rewrite passes) (Lrat ∷ []) (inner_lines steps)))
    ∙ sym (append_assoc given (map Rewrite passes ++ Lrat ∷ []) (inner_lines steps)))

proof-printed : (task : Task) (answer : Answer) (lines : List CertLine) → IsProofOf task answer lines → All IsCertLine lines → IsProof task answer (map line_text lines)
proof-printed task answer lines h form =
    let outer = outer_lines task.number answer h.given h.passes in
    let inner = inner_lines h.refuted.steps in
    let split : lines ≡ outer ++ inner = h.refuted.lines_are ∙ in-two task.number answer h.given h.passes h.refuted.steps in
    let each : AllByRecursion IsCertLine (outer ++ inner) = subst (AllByRecursion IsCertLine) split (recursion_from_All IsCertLine lines form) in
    let belong = recursion_from_All (λ line. IsTrue (belongs answer line)) h.given h.belong in
    let none : AllByRecursion IsOuter outer =
    (refl, both IsOuter h.given (map Rewrite h.passes ++ Lrat ∷ []) (all-weaker (λ line. IsTrue (belongs answer line)) IsOuter h.given (no-step answer) belong) (passes-outer h.passes)) in
    record {
      given = h.given;
      passes = h.passes;
      steps = h.refuted.steps;
      outer = map line_text outer;
      inner = map line_text inner;
      texts_are = ap (map line_text) split ∙ map-append line_text outer inner;
      outer_are = outer-read outer (front IsCertLine outer inner each) none;
      inner_are = inner-read h.refuted.steps (back IsCertLine outer inner each);
      belong = h.belong;
      lawful = h.lawful;
      version = h.version;
      listed = h.listed;
      few = h.refuted.few;
      refutes = h.refuted.refutes;
    }

section-printed : (task : Task) (answer : Answer) (lines : List CertLine) → IsSectionOf task answer lines → All IsCertLine lines → IsSection task answer (map line_text lines)
section-printed task Sat lines h form = proof-printed task Sat lines h form
section-printed task Unsat lines h form = proof-printed task Unsat lines h form
section-printed task Unknown lines h form =
    let each : AllByRecursion IsCertLine (Check task.number Unknown ∷ End ∷ []) = subst (AllByRecursion IsCertLine) h (recursion_from_All IsCertLine lines form) in
    subst (λ (ls : List CertLine). AreRead false (map line_text ls) (Check task.number Unknown ∷ End ∷ [])) (sym h)
    (outer-read (Check task.number Unknown ∷ End ∷ []) each (refl, (refl, tt)))

counted-printed : (task : Task) (answer : Answer) (lines : List CertLine) (h : IsSectionOf task answer lines) (form : All IsCertLine lines) → variables_of task answer (map line_text lines) (section-printed task answer lines h form) ≡ variables_in task answer lines h
unfolding section-printed proof-printed
counted-printed task Sat lines h form = refl
counted-printed task Unsat lines h form = refl
counted-printed task Unknown lines h form = refl

-- ---- bytes

texts-apart : (lines : List CertLine) → AllByRecursion IsCertLine lines → AllByRecursion HasNoLf (map line_text lines)
texts-apart [] h = tt
texts-apart (line ∷ lines) h = ((printed-lines-stand.0 line h.0).apart, texts-apart lines h.1)

texts-bytes : (lines : List CertLine) → AllByRecursion IsCertLine lines → flat_map cert_text lines ≡ bytes_of_lines (map line_text lines)
texts-bytes [] h = refl
texts-bytes (line ∷ lines) h =
    ap (λ (text : List ℕ). text ++ flat_map cert_text lines) (printed-lines-stand.0 line h.0).ends
    ∙ ap (λ (bytes : List ℕ). (line_text line ++ 10 ∷ []) ++ bytes) (texts-bytes lines h.1)

pub line-fits : (lines : List Line) (i : ℕ) (line : Line) → All IsCertLine (lines_said lines) → slice_get lines i ≡ Some line → IsCertLine (cert_line_of line)
line-fits lines i line form at =
    all-at IsCertLine (lines_said lines) i (cert_line_of line) (recursion_from_All IsCertLine (lines_said lines) form)
    (slice_get-map cert_line_of lines i ∙ ap (λ (o : Option Line). option_map cert_line_of o) at)

pub printed-sections-stand : PrintedSectionsStand
printed-sections-stand task answer lines section form =
    let each = recursion_from_All IsCertLine lines form in
    record {
      section = section-printed task answer lines section form;
      counted = counted-printed task answer lines section form;
      apart = All-from_recursion HasNoLf (map line_text lines) (texts-apart lines each);
      bytes = texts-bytes lines each;
    }
