-- What a section leaves to come.
use Rattle.std.proofs.Common.{◌≡◌, ◌∙◌, ◌++◌, ◌-◌, ◌+◌, ◌≤◌, ℕ, suc, Bool, false, Option, Some, None, option_map, List, [], ◌∷◌, drop, length, take, refl, sym, ap, subst, codes, append_assoc, length-append, length-drop, arith}
use Rattle.std.specs.Prelude.{Ok, MatchOption, flat_map, is_some, if◌then◌else◌, nat_lt}
use Rattle.std.proofs.lemmas.Bool.Decides.{nat_tests}
use Rattle.qv_words.specs.declared.op.Answer.{Answer}
use Rattle.qv_words.specs.Tree.{Tree}
use Rattle.qv_words.specs.Problem.{problem_of}
use Rattle.qv_sexpr.specs.Script.{Script as Commands, Tree as Expr, command, reads}
use Rattle.qv_elab_defs.specs.Tokens.{place_of}
use Rattle.qv_script_defs.specs.Faults.{refusal}
use Rattle.qv_script_defs.specs.State.{State, answered, no_counts, opening}
use Rattle.qv_script_defs.specs.StateLaws.{answers}
use Rattle.qv_script_defs.specs.Moves.{Effect, Quiet, Text as Says, Check, Values, Whole, Core, Exit, Move}
use Rattle.qv_script_defs.specs.Commands.{after}
use Rattle.qv_script_stack.specs.Held.{IsScriptIn}
use Rattle.qv_cert.specs.Line.{Header}
use Rattle.qv_cert.specs.Grammar.{Reading}
use Rattle.qv_cert.specs.Text.{Text, first_line, text_of}
use Rattle.qv_cert.specs.Section.{AcceptedUpTo, section_judged}
use Rattle.qv_check_laws.specs.AnswerLaws.{task_of}
use Rattle.qv_check_laws.specs.Verdict.{Script, Asks, Stops, Verdict, AcceptedSection, behind_header, behind_section, verdict, verdict_from, verdict_on, with_section}
use Rattle.qv_check_defs.specs.Beside.{behind, beside, last_of}
use Rattle.qv_check_defs.specs.Outcome.{answer_line, ending_text, outcome, outcome_of}
use Rattle.qv_check_trim.specs.Sections.{BeginsWithAnswer, BeginsWithNoAnswer}
use Rattle.qv_check_script.specs.declared.course.Course.{Course}
use Rattle.qv_check_script.specs.Reading.{IsSilent}
use Rattle.qv_check_script.specs.Turns.{Stands}
use Rattle.qv_check_clauses.specs.Clauses.{clauses_text, section_text, sections_text, text_from, version_among, version_read}
use Rattle.qv_check_clauses.specs.Sections.{AddsSection}
use Rattle.qv_check_clauses.specs.Following.{BeginsWithHeader, Between, Comes, ComesBehind, IsAtCheck, IsDone, Leads, to_come}

-- ---- commands

command-is : (places : ℕ) (s : State) (e : Expr) (r : Commands) (m : Move) → after s e ≡ m → beside places s (command e r) ≡ behind places (λ t. beside places t r) e m
unfolding beside
command-is places s e r m is = ap (λ (n : Move). behind places (λ t. beside places t r) e n) is

silent-is : (places : ℕ) (s now : State) (e : Expr) (r : Commands) (effect : Effect) → after s e ≡ Ok (now, effect) → IsSilent effect → beside places s (command e r) ≡ beside places now r
silent-is places s now e r Quiet is silent = command-is places s e r (Ok (now, Quiet)) is
silent-is places s now e r (Says words) is silent = command-is places s e r (Ok (now, Says words)) is
silent-is places s now e r (Values terms) is silent = command-is places s e r (Ok (now, Values terms)) is
silent-is places s now e r Whole is silent = command-is places s e r (Ok (now, Whole)) is
silent-is places s now e r (Core trees named) is silent = command-is places s e r (Ok (now, Core trees named)) is
silent-is places s now e r (Check trees) is silent = absurd silent
silent-is places s now e r Exit is silent = absurd silent

not-less : (a b : ℕ) → b ≤ a → nat_lt a b ≡ false
not-less a b h = grind (arith, nat_tests)

asks-is : (places : ℕ) (s now : State) (e : Expr) (r : Commands) (trees : List Tree) → after s e ≡ Ok (now, Check trees) → length (problem_of trees).prefix ≤ places
    → beside places s (command e r) ≡ Asks (problem_of trees) (λ answer. beside places (answered (last_of now answer) no_counts now) r)
asks-is places s now e r trees is within =
    command-is places s e r (Ok (now, Check trees)) is
    ∙ ap (λ (b : Bool). if b then Stops (refusal (place_of e) (codes "prefix limit")) else Asks (problem_of trees) (λ answer. beside places (answered (last_of now answer) no_counts now) r)) (not-less places (length (problem_of trees).prefix) within)

-- one more command
pub one-more : (places : ℕ) (s : State) (e : Expr) (script : Commands) (new : Option Commands) (found : Option (List ℕ)) (c : Course) → Some script ≡ option_map (command e) new → IsDone s e found c → Leads places s script found c new
one-more places s e script None found c is done = absurd cc
one-more places s e script (Some rest) (Some ids) c is d = record {
  state = s;
  e = e;
  rest = rest;
  now = d.0;
  trees = d.1;
  stepped = d.2;
  formulas = d.3;
  behind_is = refl;
  same = let whole : script ≡ command e rest = cc in ap (beside places s) whole;
}
one-more places s e script (Some rest) None c is d = record {
  state = d.0;
  rest = rest;
  stands = d.2.stands;
  behind_is = refl;
  same = let whole : script ≡ command e rest = cc in ap (beside places s) whole ∙ silent-is places s d.0 e rest d.1 d.2.gives d.3;
}

-- behind others
pub leads-on : (places : ℕ) (s t : State) (script middle : Commands) (found : Option (List ℕ)) (c : Course) (new : Option Commands) → beside places s script ≡ beside places t middle → Leads places t middle found c new → Leads places s script found c new
leads-on places s t script middle (Some ids) c new same h = record {
  state = h.state;
  e = h.e;
  rest = h.rest;
  now = h.now;
  trees = h.trees;
  stepped = h.stepped;
  formulas = h.formulas;
  behind_is = h.behind_is;
  same = same ∙ h.same;
}
leads-on places s t script middle None c new same h = record { state = h.state; rest = h.rest; stands = h.stands; behind_is = h.behind_is; same = same ∙ h.same }

-- ---- a section

module _ (places version number given later : ℕ) (old new : Text) (answer : Answer) where
  -- what a section that is asked for comes to
  comes-to : (script : Script (List ℕ)) (trees : List Tree) (next : Answer → Script (List ℕ)) → script ≡ Asks (problem_of trees) next → section_judged (task_of trees number version) (suc given) old.lines ≡ AcceptedUpTo answer (suc later) new.lines → new.rest ≡ old.rest
      → verdict_from version number script (suc given) old.lines old.rest ≡ with_section answer (take (length old.lines - length new.lines) old.lines) (verdict_from version (suc number) (next answer) (suc later) new.lines new.rest)
  unfolding verdict_from
  comes-to script trees next asks is rest =
      ap (λ (q : Script (List ℕ)). verdict_from version number q (suc given) old.lines old.rest) asks
      ∙ ap (behind_section old.lines (λ a m left. verdict_from version (suc number) (next a) m left old.rest)) is
      ∙ ap (λ (bytes : List ℕ). with_section answer (take (length old.lines - length new.lines) old.lines) (verdict_from version (suc number) (next answer) (suc later) new.lines bytes)) (sym rest)

  own : List (List ℕ) → AcceptedSection
  own lines = record { answer = answer; lines = lines }

  prints-more : (lines : List (List ℕ)) (v : Verdict (List ℕ)) → (outcome_of (with_section answer lines v)).text ≡ answer_line answer ++ (outcome_of v).text
  prints-more lines v = append_assoc (answer_line answer) (flat_map (λ (s : AcceptedSection). answer_line s.answer) v.sections) (ending_text v.ending)

  writes-more : (lines : List (List ℕ)) (trees : List Tree) (next : Answer → Script (List ℕ)) (v : Verdict (List ℕ))
      → text_from version number (Asks (problem_of trees) next) (with_section answer lines v) ≡ section_text (task_of trees number version) (record { answer = answer; lines = lines }) ++ text_from version (suc number) (next answer) v
  writes-more lines trees next v =
      append_assoc (section_text (task_of trees number version) (record { answer = answer; lines = lines })) (sections_text version (suc number) (next answer) v.sections) (codes "c " ++ ending_text v.ending)

  pub next-comes : (script behind' : Option Commands) (c c' : Course) (ids : List ℕ) (printed written before after : List ℕ) (here : Comes places version number script c given old printed written) (at : IsAtCheck places here.state here.commands ids c' behind')
      → (c'' : Course) → IsScriptIn c''.store c''.script (answered (last_of at.now answer) no_counts at.now) → length (problem_of at.trees).prefix ≤ places → AddsSection (task_of at.trees number version) answer given old later new before after
      → ComesBehind places version (suc number) behind' c'' later new answer printed written before after
  next-comes script behind' c c' ids printed written before after here at c'' holds within adds =
      let lines = take (length old.lines - length new.lines) old.lines in
      let t = answered (last_of at.now answer) no_counts at.now in
      let next : Answer → Script (List ℕ) = λ a. beside places (answered (last_of at.now a) no_counts at.now) at.rest in
      let asks = at.same ∙ asks-is places at.state at.now at.e at.rest at.trees at.stepped.gives within in
      let v = to_come places version (suc number) t at.rest later new in
      let whole = comes-to (beside places here.state here.commands) at.trees next asks adds.judged adds.rest in
      record {
        part = section_text (task_of at.trees number version) (record { answer = answer; lines = lines });
        printed_later = (outcome_of v).text;
        written_later = text_from version (suc number) (beside places t at.rest) v;
        prints = sym here.prints ∙ (ap (λ (w : Verdict (List ℕ)). (outcome_of w).text) whole ∙ prints-more lines v);
        writes = sym here.writes ∙ (ap (λ (w : Verdict (List ℕ)). text_from version number (beside places here.state here.commands) w) whole
            ∙ (ap (λ (q : Script (List ℕ)). text_from version number q (with_section answer lines v)) asks ∙ writes-more lines at.trees next v));
        added = adds.added;
        comes = record {
          state = t;
          commands = at.rest;
          stands = record { script = holds; reached = answers at.now (last_of at.now answer) no_counts at.stepped.stands.reached };
          script_is = at.behind_is;
          prints = refl;
          writes = refl;
        };
      }

-- ---- where no further section was accepted

none-left : (v : Verdict (List ℕ)) (text : List ℕ) → (outcome_of v).text ≡ text → BeginsWithNoAnswer text → v.sections ≡ []
none-left v text is none = by v.sections refl
  where
    by : (ss : List AcceptedSection) → v.sections ≡ ss → v.sections ≡ []
    by [] e = e
    by (s ∷ ss) e =
        let more = flat_map (λ (x : AcceptedSection). answer_line x.answer) ss in
        absurd (none s.answer (more ++ ending_text v.ending)
        (sym is ∙ (ap (λ (xs : List AcceptedSection). flat_map (λ (x : AcceptedSection). answer_line x.answer) xs ++ ending_text v.ending) e ∙ append_assoc (answer_line s.answer) more (ending_text v.ending))))

pub last-text : (version number : ℕ) (script : Script (List ℕ)) (v : Verdict (List ℕ)) (text : List ℕ) → (outcome_of v).text ≡ text → BeginsWithNoAnswer text → codes "c " ++ text ≡ text_from version number script v
last-text version number script v text is none =
    let left = none-left v text is none in
    ap (λ (t : List ℕ). codes "c " ++ t) (sym is)
    ∙ (ap (λ (xs : List AcceptedSection). codes "c " ++ (flat_map (λ (x : AcceptedSection). answer_line x.answer) xs ++ ending_text v.ending)) left
    ∙ sym (ap (λ (xs : List AcceptedSection). sections_text version number script xs ++ (codes "c " ++ ending_text v.ending)) left))

-- ---- between sections

drop-front : (xs ys : List ℕ) → drop (length xs) (xs ++ ys) ≡ ys
drop-front [] ys = refl
drop-front (x ∷ xs) ys = drop-front xs ys

pub between-start : (places version number given : ℕ) (script : Option Commands) (c : Course) (text : Text) (printed written before : List ℕ) → Comes places version number script c given text printed written
    → Between places version number script c given text printed written before before
between-start places version number given script c text printed written before here = record { later = written; comes = here; added = refl }

module _ (places version version' number given given' : ℕ) (script script' : Option Commands) (c c' : Course) (text text' : Text) (printed written before now after : List ℕ) (b : Between places version number script c given text printed written before now) where
  pub between-on : (answer : Answer) (k : ComesBehind places version' (suc number) script' c' given' text' answer printed b.later now after)
      → Between places version' (suc number) script' c' given' text' (drop (length (answer_line answer)) printed) written before after
  between-on answer k =
      let left : drop (length (answer_line answer)) printed ≡ k.printed_later = ap (drop (length (answer_line answer))) k.prints ∙ drop-front (answer_line answer) k.printed_later in
      record {
        later = k.written_later;
        comes = subst (λ (t : List ℕ). Comes places version' (suc number) script' c' given' text' t k.written_later) (sym left) k.comes;
        added = b.added ∙ (ap (λ (t : List ℕ). now ++ t) k.writes ∙ (sym (append_assoc now k.part k.written_later) ∙ ap (λ (t : List ℕ). t ++ k.written_later) (sym k.added)));
      }

-- where no more was accepted
pub between-end : (places version number given : ℕ) (script : Option Commands) (c : Course) (text : Text) (printed written before now : List ℕ) → Between places version number script c given text printed written before now → BeginsWithNoAnswer printed
    → now ++ (codes "c " ++ printed) ≡ before ++ written
between-end places version number given script c text printed written before now b none =
    let h = b.comes in
    ap (λ (t : List ℕ). now ++ t) (last-text version number (beside places h.state h.commands) (to_come places version number h.state h.commands given text) printed h.prints none ∙ h.writes) ∙ sym b.added

-- ---- the start

version-is : (line : List ℕ) (lines : List (List ℕ)) (version : ℕ) → first_line line ≡ Ok (Header version) → version_among (line ∷ lines) ≡ version
version-is line lines version h = ap version_read h

pub starts : (places : ℕ) (script cert printed : List ℕ) (version : ℕ) (text : Text) (c : Course) (told : Option Commands) → BeginsWithHeader (text_of cert) version text → (outcome places script cert).text ≡ printed → Stands c opening → told ≡ Some (reads script)
    → Comes places version 1 told c 1 text printed (clauses_text places script cert)
unfolding verdict
starts places script cert printed version text c told h is stands reading =
    let q = beside places opening (reads script) in
    let same : verdict q cert ≡ verdict_from version 1 q 2 text.lines text.rest =
    ap (λ (u : Text). verdict_on q u.lines u.rest) h.whole ∙ ap (λ (r : Reading). behind_header r q text.lines text.rest) h.header in
    let named : version_among (text_of cert).lines ≡ version = ap (λ (u : Text). version_among u.lines) h.whole ∙ version-is h.line text.lines version h.header in
    record {
      state = opening;
      commands = reads script;
      stands = stands;
      script_is = reading;
      prints = ap (λ (v : Verdict (List ℕ)). (outcome_of v).text) (sym same) ∙ is;
      writes = ap (λ (v : Verdict (List ℕ)). text_from version 1 q v) (sym same) ∙ ap (λ n. text_from n 1 q (verdict q cert)) (sym named);
    }

-- ---- what was printed

-- the answer's line is in what was printed
pub fits-more : (printed : List ℕ) (at : ℕ) (answer : Answer) (rest : List ℕ) → at ≤ length printed → drop at printed ≡ answer_line answer ++ rest → at + length (answer_line answer) ≤ length printed
fits-more printed at answer rest h is =
    let left = length-drop at printed in
    let both = length-append (answer_line answer) rest in
    omega (arith, h, left, both, ap length is)

-- none was found
pub no-answer : (found : Option ℕ) (text : List ℕ) → is_some found ≡ false → MatchOption found (BeginsWithNoAnswer text) (λ size. BeginsWithAnswer text size) → BeginsWithNoAnswer text
no-answer None text e h = h
no-answer (Some size) text e h = absurd cc
