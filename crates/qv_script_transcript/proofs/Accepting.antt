-- Sections of a transcript's checks make a certificate that is accepted.
use Rattle.std.proofs.Common.{◌≡◌, ◌≢◌, ℕ, suc, ◌+◌, ◌-◌, ◌<◌, ◌≤◌, inl, inr, Bool, true, false, Some, Ok, Err, List, [], ◌∷◌, ◌++◌, map, length, refl, sym, ap, subst, ◌∙◌, append_assoc, arith, codes}
use Rattle.std.specs.Prelude.{nat_lt, if◌then◌else◌, flat_map}
use Rattle.std.specs.List.{AllByRecursion}
use Rattle.std.proofs.lemmas.List.{append-nil, length-append, take_at}
use Rattle.std.proofs.lemmas.List.Elements.{recursion_from_All, All-from_recursion}
use Rattle.std.proofs.lemmas.Bool.Decides.{nat_tests}
use Rattle.qv_words.specs.declared.op.Answer.{Answer}
use Rattle.qv_words.specs.Tree.{Tree}
use Rattle.qv_words.specs.Problem.{problem_of}
use Rattle.qv_words.proofs.Leaves.{both}
use Rattle.qv_lrat_text.specs.Words.{is_blank, words}
use Rattle.qv_sexpr.specs.Script.{TextEnd, all_read, lexical, parsing, nesting, reads}
use Rattle.qv_sexpr.specs.Script.{Script as Commands, Tree as Expr, stops as halt, command}
use Rattle.qv_elab_defs.specs.Tokens.{place_of}
use Rattle.qv_cert.specs.CertReader.{with_line}
use Rattle.qv_cert.specs.Line.{Header}
use Rattle.qv_cert.specs.Grammar.{cert_line}
use Rattle.qv_cert.specs.Text.{Text, text_of, first_line}
use Rattle.qv_cert.specs.TextLaws.{HasNoLf, bytes_of_lines}
use Rattle.qv_cert.specs.Section.{AcceptedUpTo, section_judged}
use Rattle.qv_cert.proofs.Accepting.{sections-are-accepted}
use Rattle.qv_cert.proofs.NextLemmas.{text_line}
use Rattle.qv_check_laws.specs.AnswerLaws.{task_of}
use Rattle.qv_script_defs.specs.Faults.{Fault, refusal, fault_line}
use Rattle.qv_script_defs.specs.State.{State, Last, Sat, Unsat, Unknown, opening, answered, no_counts}
use Rattle.qv_script_defs.specs.Texts.{line, success}
use Rattle.qv_script_defs.specs.Settings.{limit_of}
use Rattle.qv_script_defs.specs.declared.counts.Counts.{Counts}
use Rattle.qv_script_defs.specs.Moves.{Effect, Quiet, Text as Says_text, Check, Values, Whole, Core, Exit, Move}
use Rattle.qv_script_defs.specs.Commands.{after}
use Rattle.qv_check_laws.specs.Verdict.{Script, Asks, Stops, Ends, Verdict, Ending, IsAccepted, ScriptFault, IsRefused, AcceptedSection, with_section, behind_section, behind_header, verdict_on, verdict_from, verdict, HasNoRefusal}
use Rattle.qv_check_defs.specs.Beside.{last_of, behind, beside}
use Rattle.qv_check_defs.specs.Outcome.{outcome_of, ending_text, ending_status}
use Rattle.qv_check_defs.specs.Outcome.{answer_line as printed_answer}
use Rattle.qv_script_transcript.specs.Lawful.{answer_line, prefix_length}
use Rattle.qv_script_transcript.specs.Following.{CheckSat, with_answer, Piece, piece, end_line, Says, Follows, stops, refuses, says, leaves, checks, exceeds}
use Rattle.qv_script_transcript.specs.Certificates.{Certified, checks_of, word_of, IsCertified, AreCertified, sections, accepted, certificate, header_line, EndsAs, verdict_beside}
use Rattle.qv_script_transcript.specs.CertificateLaws.{LinesAreTheirText, CertificatesAreAccepted, AcceptedCertificatesCheck, ChecksSo}
use Rattle.qv_script_transcript.specs.Alike.{AreAlike, with_last, MoveAlike, HaveOneEffect}
use Rattle.qv_script_transcript.proofs.Alike.{alike-after}
use Rattle.qv_script_transcript.proofs.PrintedLines.{free}
use Rattle.qv_cert.proofs.Pinned.{less-test}

-- ---- the bytes of lines

lines-text : (lines : List (List ℕ)) → AllByRecursion HasNoLf lines → text_of (bytes_of_lines lines) ≡ record { lines = lines; rest = [] }
unfolding text_of
lines-text [] h = refl
lines-text (line ∷ lines) h =
    ap text_of (append_assoc line (10 ∷ []) (bytes_of_lines lines)) ∙ text_line line (bytes_of_lines lines) h.0 ∙ ap (with_line line) (lines-text lines h.1)

pub lines-are-their-text : LinesAreTheirText
lines-are-their-text lines h = lines-text lines (recursion_from_All HasNoLf lines h)

-- ---- states that are alike

alike-is : (s u : State) → AreAlike s u → u ≡ with_last u.last u.counts s
alike-is s u h = sym (ap (with_last u.last u.counts) h.apart)

moves-alike : (s u : State) (e : Expr) → AreAlike s u → MoveAlike (after s e) (after u e)
moves-alike s u e h = subst (λ (x : State). MoveAlike (after s e) (after x e)) (sym (alike-is s u h)) (alike-after s u.last u.counts h.last e)

-- where one is refused the other is
err-alike : (m n : Move) (fault : Fault) → MoveAlike m n → m ≡ Err fault → n ≡ Err fault
err-alike (Ok a) n fault h is = absurd cc
err-alike (Err f) (Ok b) fault h is = absurd h
err-alike (Err f) (Err g) fault h is = ap Err (sym h) ∙ is

-- where one goes on so does the other
ok-alike : (m n : Move) (now : State) (effect : Effect) → MoveAlike m n → m ≡ Ok (now, effect) → (t : State) × (f : Effect) × (n ≡ Ok (t, f)) × AreAlike now t × HaveOneEffect effect f
ok-alike (Err f) n now effect h is = absurd cc
ok-alike (Ok a) (Err g) now effect h is = absurd h
ok-alike (Ok a) (Ok b) now effect h is =
    let same : a ≡ (now, effect) = cc in
    (b.0, b.1, refl, subst (λ (x : State × Effect). AreAlike x.0 b.0) same h.0, subst (λ (x : State × Effect). HaveOneEffect x.1 b.1) same h.1)

word-again : (s : State) (answer : Last) → word_of answer ≡ word_of (last_of s (word_of answer))
word-again s (Sat values) = refl
word-again s Unsat = refl
word-again s (Unknown spent) = refl

-- behind a check
alike-answered : (s u : State) (answer : Last) (counts : Counts) → AreAlike s u → AreAlike (answered answer counts s) (answered (last_of u (word_of answer)) no_counts u)
alike-answered s u answer counts h = record { apart = h.apart; last = ap Some (word-again u answer) }

-- ---- what beside a script is asked for

-- a script that is left: these sections are those of the checks that are left, and it ends so
record AreTaken (q : Script (List ℕ)) (number n : ℕ) (cs : List Certified) (out : List ℕ) (status : ℕ) : Type 0 where
  sections_are : (verdict_from 2 number q n (sections cs) []).sections ≡ map accepted cs
  ending : EndsAs status out (verdict_from 2 number q n (sections cs) []).ending

abbrev printed : List Piece → List ℕ → List ℕ
printed pieces last = flat_map (λ p. p.text) pieces ++ last

one-piece : (e : Expr) (text : List ℕ) → printed (piece e text ∷ []) [] ≡ text
one-piece e text = append-nil (text ++ []) ∙ append-nil text

-- the script stops
stops-there : (number n : ℕ) (line out : List ℕ) → out ≡ line → AreTaken (Stops line) number n [] out 1
unfolding verdict_from
stops-there number n line out is = record { sections_are = refl; ending = (refl, ([], is)) }

ends-there : (number n : ℕ) (out : List ℕ) → AreTaken Ends number n [] out 0
unfolding verdict_from
ends-there number n out = record { sections_are = refl; ending = refl }

stopped : (places : ℕ) (u : State) (end : TextEnd) (number n : ℕ) → AreTaken (beside places u (halt end)) number n [] (printed [] (end_line end).0) (end_line end).1
unfolding beside
stopped places u all_read number n = ends-there number n []
stopped places u (lexical fault) number n = stops-there number n (end_line (lexical fault)).0 (end_line (lexical fault)).0 refl
stopped places u (parsing fault) number n = stops-there number n (end_line (parsing fault)).0 (end_line (parsing fault)).0 refl
stopped places u (nesting place) number n = stops-there number n (end_line (nesting place)).0 (end_line (nesting place)).0 refl

-- a command in front
beside-is : (places : ℕ) (u : State) (e : Expr) (rest : Commands) (m : Move) → after u e ≡ m → beside places u (command e rest) ≡ behind places (λ t. beside places t rest) e m
unfolding beside
beside-is places u e rest m is = ap (λ (x : Move). behind places (λ t. beside places t rest) e x) is

-- more is printed in front
ends-behind : (text : List ℕ) (out : List ℕ) (status : ℕ) (e : Ending (List ℕ)) → EndsAs status out e → EndsAs status (text ++ out) e
ends-behind text out status IsAccepted h = h
ends-behind text out status (ScriptFault line) h = (h.0, (text ++ h.1.0, ap (λ x. text ++ x) h.1.1 ∙ sym (append_assoc text h.1.0 line)))
ends-behind text out status (IsRefused line k) h = absurd h

printed-more : (e : Expr) (text : List ℕ) (pieces : List Piece) (last : List ℕ) → text ++ printed pieces last ≡ printed (piece e text ∷ pieces) last
printed-more e text pieces last = sym (append_assoc text (flat_map (λ p. p.text) pieces) last)

said-more : (q : Script (List ℕ)) (number n : ℕ) (cs : List Certified) (e : Expr) (text : List ℕ) (pieces : List Piece) (last : List ℕ) (status : ℕ) →
    AreTaken q number n cs (printed pieces last) status → AreTaken q number n cs (printed (piece e text ∷ pieces) last) status
said-more q number n cs e text pieces last status h =
    subst (λ (out : List ℕ). AreTaken q number n cs out status) (printed-more e text pieces last)
    (record { sections_are = h.sections_are; ending = ends-behind text (printed pieces last) status (verdict_from 2 number q n (sections cs) []).ending h.ending })

-- a command that prints a text and isn't a check
goes-on : (places : ℕ) (e : Expr) (rest : Commands) (t : State) (now : State) (text : List ℕ) (effect f : Effect) → Says now effect text → HaveOneEffect effect f → behind places (λ t. beside places t rest) e (Ok (t, f)) ≡ beside places t rest
goes-on places e rest t now text Quiet f said same = ap (λ (g : Effect). behind places (λ t. beside places t rest) e (Ok (t, g))) (sym same)
goes-on places e rest t now text (Says_text words) (Says_text others) said same = refl
goes-on places e rest t now text (Says_text words) Quiet said same = absurd cc
goes-on places e rest t now text (Says_text words) (Check trees) said same = absurd cc
goes-on places e rest t now text (Says_text words) (Values terms) said same = absurd cc
goes-on places e rest t now text (Says_text words) Whole said same = absurd cc
goes-on places e rest t now text (Says_text words) (Core trees named) said same = absurd cc
goes-on places e rest t now text (Says_text words) Exit said same = absurd cc
goes-on places e rest t now text (Check trees) f said same = absurd said
goes-on places e rest t now text (Values terms) f said same = ap (λ (g : Effect). behind places (λ t. beside places t rest) e (Ok (t, g))) (sym same)
goes-on places e rest t now text Whole f said same = ap (λ (g : Effect). behind places (λ t. beside places t rest) e (Ok (t, g))) (sym same)
goes-on places e rest t now text (Core trees named) f said same = ap (λ (g : Effect). behind places (λ t. beside places t rest) e (Ok (t, g))) (sym same)
goes-on places e rest t now text Exit f said same = absurd said

-- a check within the limit, and past it
not-less : (a b : ℕ) → b ≤ a → nat_lt a b ≡ false
not-less a b h = by (nat_lt a b) refl
  where
    by : (t : Bool) → nat_lt a b ≡ t → nat_lt a b ≡ false
    by true test = absurd (grind (arith, nat_tests))
    by false test = test

module _ (places : ℕ) (e : Expr) (rest : Commands) (t : State) (formulas : List Tree) where
  abbrev next : Answer → Script (List ℕ)
  next answer = beside places (answered (last_of t answer) no_counts t) rest

  asks-there : prefix_length formulas ≤ places → behind places (λ t. beside places t rest) e (Ok (t, Check formulas)) ≡ Asks (problem_of formulas) next
  asks-there short = ap (λ (b : Bool). if b then Stops (refusal (place_of e) (codes "prefix limit")) else Asks (problem_of formulas) next) (not-less places (prefix_length formulas) short)

  exceeds-there : places < prefix_length formulas → behind places (λ t. beside places t rest) e (Ok (t, Check formulas)) ≡ Stops (refusal (place_of e) (codes "prefix limit"))
  exceeds-there far = ap (λ (b : Bool). if b then Stops (refusal (place_of e) (codes "prefix limit")) else Asks (problem_of formulas) next) (less-test places (prefix_length formulas) far)

  -- its section is taken
  takes : (number n : ℕ) (c : Certified) (cs : List Certified) → c.check.formulas ≡ formulas → IsCertified number c →
      verdict_from 2 number (Asks (problem_of formulas) next) n (c.lines ++ sections cs) []
      ≡ with_section (word_of c.check.answer) c.lines (verdict_from 2 (suc number) (next (word_of c.check.answer)) (n + length c.lines) (sections cs) [])
  unfolding verdict_from
  takes number n c cs same h =
      let a = word_of c.check.answer in
      let on = λ (answer : Answer) (m : ℕ) (behind : List (List ℕ)). verdict_from 2 (suc number) (next answer) m behind [] in
      let judged : section_judged (task_of formulas number 2) n (c.lines ++ sections cs) ≡ AcceptedUpTo a (n + length c.lines) (sections cs) =
      subst (λ fs. section_judged (task_of fs number 2) n (c.lines ++ sections cs) ≡ AcceptedUpTo a (n + length c.lines) (sections cs)) same
      (sections-are-accepted (task_of c.check.formulas number 2) a n c.lines (sections cs) h.section) in
      let long : length c.lines ≡ length (c.lines ++ sections cs) - length (sections cs) = omega (arith, length-append c.lines (sections cs)) in
      ap (behind_section (c.lines ++ sections cs) on) judged
      ∙ ap (λ (ls : List (List ℕ)). with_section a ls (on a (n + length c.lines) (sections cs))) (take_at c.lines (sections cs) (length (c.lines ++ sections cs) - length (sections cs)) long)

-- ---- along the script

none-left : (cs : List Certified) → [] ≡ checks_of cs → cs ≡ []
none-left [] h = refl
none-left (c ∷ cs) h = absurd cc

record IsFirst (check : CheckSat) (others : List CheckSat) (cs : List Certified) : Type 0 where
  first : Certified
  left : List Certified
  cs_are : cs ≡ first ∷ left
  check_is : first.check ≡ check
  others_are : others ≡ checks_of left

one-first : (check : CheckSat) (others : List CheckSat) (cs : List Certified) → check ∷ others ≡ checks_of cs → IsFirst check others cs
one-first check others [] h = absurd cc
one-first check others (c ∷ cs) h = record { first = c; left = cs; cs_are = refl; check_is = cc; others_are = cc }

abbrev Taken : (places : ℕ) → State → Commands → ℕ → ℕ → List Certified → List Piece → List ℕ → ℕ → Type 0
Taken places u script number n cs pieces last status = AreTaken (beside places u script) number n cs (printed pieces last) status

last-taken : (places : ℕ) (u : State) (e : Expr) (rest : Commands) (m : Move) (q : Script (List ℕ)) (number n : ℕ) (cs : List Certified) (text : List ℕ) (status : ℕ) →
    after u e ≡ m → behind places (λ t. beside places t rest) e m ≡ q → cs ≡ [] → AreTaken q number n [] (printed (piece e text ∷ []) []) status → Taken places u (command e rest) number n cs (piece e text ∷ []) [] status
last-taken places u e rest m q number n cs text status is to none h =
    subst (λ (ds : List Certified). Taken places u (command e rest) number n ds (piece e text ∷ []) [] status) (sym none)
    (subst (λ (x : Script (List ℕ)). AreTaken x number n [] (printed (piece e text ∷ []) []) status) (sym (beside-is places u e rest m is ∙ to)) h)

all-taken : (places : ℕ) (u : State) (cs : List Certified) (number n : ℕ) {s : State} {script : Commands} {given : List CheckSat} {pieces : List Piece} {last : List ℕ} {status : ℕ} →
    AreAlike s u → given ≡ checks_of cs → AreCertified number cs → Follows places s script given pieces last status → Taken places u script number n cs pieces last status
all-taken places u cs number n alike same h (stops s end) =
    subst (λ (ds : List Certified). Taken places u (halt end) number n ds [] (end_line end).0 (end_line end).1) (sym (none-left cs same)) (stopped places u end number n)
all-taken places u cs number n alike same h (refuses s e rest fault is) =
    last-taken places u e rest (Err fault) (Stops (fault_line fault)) number n cs (fault_line fault) 1 (err-alike (after s e) (after u e) fault (moves-alike s u e alike) is) refl (none-left cs same)
    (stops-there number n (fault_line fault) (printed (piece e (fault_line fault) ∷ []) []) (one-piece e (fault_line fault)))
all-taken places u cs number n alike same h (says s now e rest effect text others pieces last status is said f) =
    let t = ok-alike (after s e) (after u e) now effect (moves-alike s u e alike) is in
    let to : beside places u (command e rest) ≡ beside places t.0 rest = beside-is places u e rest (Ok (t.0, t.1)) t.2 ∙ goes-on places e rest t.0 now text effect t.1 said t.4 in
    subst (λ (q : Script (List ℕ)). AreTaken q number n cs (printed (piece e text ∷ pieces) last) status) (sym to)
    (said-more (beside places t.0 rest) number n cs e text pieces last status (all-taken places t.0 cs number n t.3 same h f))
all-taken places u cs number n alike same h (leaves s now e rest is) =
    let t = ok-alike (after s e) (after u e) now Exit (moves-alike s u e alike) is in
    last-taken places u e rest (Ok (t.0, Exit)) Ends number n cs (success now.success) 0 (t.2 ∙ ap (λ (f : Effect). Ok (t.0, f)) (sym t.4)) refl (none-left cs same)
    (ends-there number n (printed (piece e (success now.success) ∷ []) []))
all-taken places u cs number n alike same h (exceeds s now e rest formulas is far) =
    let t = ok-alike (after s e) (after u e) now (Check formulas) (moves-alike s u e alike) is in
    last-taken places u e rest (Ok (t.0, Check formulas)) (Stops (refusal (place_of e) (codes "prefix limit"))) number n cs (refusal (place_of e) (codes "prefix limit")) 1
    (t.2 ∙ ap (λ (f : Effect). Ok (t.0, f)) (sym t.4)) (exceeds-there places e rest t.0 formulas far) (none-left cs same)
    (stops-there number n (refusal (place_of e) (codes "prefix limit")) (printed (piece e (refusal (place_of e) (codes "prefix limit")) ∷ []) []) (one-piece e (refusal (place_of e) (codes "prefix limit"))))
all-taken places u cs number n alike same h (checks s now e rest formulas answer counts others pieces last status is short lawful f) =
    let t = ok-alike (after s e) (after u e) now (Check formulas) (moves-alike s u e alike) is in
    let i = one-first (with_answer (limit_of now) formulas answer counts) others cs same in
    let c = i.first in
    let left = i.left in
    let own : AreCertified number (c ∷ left) = subst (AreCertified number) i.cs_are h in
    let word : word_of answer ≡ word_of c.check.answer = ap (λ (x : CheckSat). word_of x.answer) (sym i.check_is) in
    let to : beside places u (command e rest) ≡ Asks (problem_of formulas) (next places e rest t.0 formulas) =
    beside-is places u e rest (Ok (t.0, Check formulas)) (t.2 ∙ ap (λ (f : Effect). Ok (t.0, f)) (sym t.4)) ∙ asks-there places e rest t.0 formulas short in
    let v = takes places e rest t.0 formulas number n c left (ap (λ (x : CheckSat). x.formulas) i.check_is) own.0 in
    let behind = all-taken places (answered (last_of t.0 (word_of answer)) no_counts t.0) left (suc number) (n + length c.lines) (alike-answered now t.0 answer counts t.3) i.others_are own.1 f in
    let on : AreTaken (next places e rest t.0 formulas (word_of c.check.answer)) (suc number) (n + length c.lines) left (printed pieces last) status =
    subst (λ (a : Answer). AreTaken (next places e rest t.0 formulas a) (suc number) (n + length c.lines) left (printed pieces last) status) word behind in
    let whole : AreTaken (Asks (problem_of formulas) (next places e rest t.0 formulas)) number n (c ∷ left) (printed (piece e (answer_line answer) ∷ pieces) last) status =
    subst (λ (out : List ℕ). AreTaken (Asks (problem_of formulas) (next places e rest t.0 formulas)) number n (c ∷ left) out status) (printed-more e (answer_line answer) pieces last)
    (record {
      sections_are = ap (λ (x : Verdict (List ℕ)). x.sections) v ∙ ap (λ (xs : List AcceptedSection). accepted c ∷ xs) on.sections_are;
      ending = subst (λ (x : Verdict (List ℕ)). EndsAs status (answer_line answer ++ printed pieces last) x.ending) (sym v)
          (ends-behind (answer_line answer) (printed pieces last) status (verdict_from 2 (suc number) (next places e rest t.0 formulas (word_of c.check.answer)) (n + length c.lines) (sections left) []).ending on.ending);
    }) in
    subst (λ (ds : List Certified). Taken places u (command e rest) number n ds (piece e (answer_line answer) ∷ pieces) last status) (sym i.cs_are)
    (subst (λ (q : Script (List ℕ)). AreTaken q number n (c ∷ left) (printed (piece e (answer_line answer) ∷ pieces) last) status) (sym to) whole)

-- ---- the whole certificate

-- no LF in any of its lines
header-apart : HasNoLf header_line
header-apart = All-from_recursion (λ byte. byte ≢ 10) header_line (free header_line refl)

all-apart : (number : ℕ) (cs : List Certified) → AreCertified number cs → AllByRecursion HasNoLf (sections cs)
all-apart number [] h = tt
all-apart number (c ∷ cs) h = both HasNoLf c.lines (sections cs) (recursion_from_All HasNoLf c.lines h.0.apart) (all-apart (suc number) cs h.1)

header-read : first_line header_line ≡ Ok (Header 2)
unfolding cert_line words is_blank
header-read = refl

certificate-verdict : (script : Script (List ℕ)) (cs : List Certified) → AreCertified 1 cs → verdict script (certificate cs) ≡ verdict_from 2 1 script 2 (sections cs) []
unfolding verdict
certificate-verdict script cs h =
    ap (λ (t : Text). verdict_on script t.lines t.rest) (lines-text (header_line ∷ sections cs) (header-apart, all-apart 1 cs h))
    ∙ ap (λ r. behind_header r script (sections cs) []) header-read

pub certificates-are-accepted : CertificatesAreAccepted
certificates-are-accepted places script out cs status h are =
    let v = certificate-verdict (beside places opening (reads script)) cs are in
    let all = all-taken places opening cs 1 2 (record { apart = refl; last = refl }) refl are h.follows in
    record {
      sections_are = ap (λ (x : Verdict (List ℕ)). x.sections) v ∙ all.sections_are;
      ending = subst (λ (x : Verdict (List ℕ)). EndsAs status out x.ending) (sym v) (subst (λ (o : List ℕ). EndsAs status o (verdict_from 2 1 (beside places opening (reads script)) 2 (sections cs) []).ending) (sym h.whole) all.ending);
    }

-- ---- its check

answer-same : (answer : Last) → printed_answer (word_of answer) ≡ answer_line answer
answer-same (Sat values) = refl
answer-same Unsat = refl
answer-same (Unknown spent) = refl

answers-same : (cs : List Certified) → flat_map (λ s. printed_answer s.answer) (map accepted cs) ≡ flat_map (λ c. answer_line c.check.answer) cs
answers-same [] = refl
answers-same (c ∷ cs) =
    ap (λ t. t ++ flat_map (λ s. printed_answer s.answer) (map accepted cs)) (answer-same c.check.answer) ∙ ap (λ t. answer_line c.check.answer ++ t) (answers-same cs)

text-so : (v : Verdict (List ℕ)) (cs : List Certified) (e : Ending (List ℕ)) → v.sections ≡ map accepted cs → v.ending ≡ e → (outcome_of v).text ≡ flat_map (λ c. answer_line c.check.answer) cs ++ ending_text e
text-so v cs e same is =
    ap (λ (xs : List AcceptedSection). flat_map (λ s. printed_answer s.answer) xs ++ ending_text v.ending) same
    ∙ ap (λ t. t ++ ending_text v.ending) (answers-same cs)
    ∙ ap (λ (x : Ending (List ℕ)). flat_map (λ c. answer_line c.check.answer) cs ++ ending_text x) is

checks-so : (places : ℕ) (script cert out : List ℕ) (cs : List Certified) (status : ℕ) (e : Ending (List ℕ)) →
    (verdict_beside places script cert).sections ≡ map accepted cs → (verdict_beside places script cert).ending ≡ e → EndsAs status out e → ChecksSo places script cert cs out status
checks-so places script cert out cs status IsAccepted same is ends = record {
  accepted = subst (λ (x : Ending (List ℕ)). HasNoRefusal x) (sym is) tt;
  status_is = ap ending_status is ∙ sym ends;
  last = line (codes "accepted");
  text_is = text-so (verdict_beside places script cert) cs IsAccepted same is;
  ends = inl (ends, refl);
}
checks-so places script cert out cs status (ScriptFault fault) same is ends = record {
  accepted = subst (λ (x : Ending (List ℕ)). HasNoRefusal x) (sym is) tt;
  status_is = ap ending_status is ∙ sym ends.0;
  last = fault;
  text_is = text-so (verdict_beside places script cert) cs (ScriptFault fault) same is;
  ends = inr ends;
}
checks-so places script cert out cs status (IsRefused n k) same is ends = absurd ends

pub accepted-certificates-check : AcceptedCertificatesCheck
accepted-certificates-check places script cert out cs status h = checks-so places script cert out cs status (verdict_beside places script cert).ending h.sections_are refl h.ending
