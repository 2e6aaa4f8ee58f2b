-- How a check ends begins with no answer.
use Rattle.std.proofs.Common.{◌≡◌, ◌∙◌, ◌++◌, ◌==◌, ◌&&◌, not, ℕ, suc, Bool, true, false, List, [], ◌∷◌, refl, sym, ap}
use Rattle.std.specs.Prelude.{nat_lt, length, Ok, Err, codes, if◌then◌else◌}
use Rattle.qv_words.specs.declared.op.Answer.{Answer}
use Rattle.qv_words.specs.declared.op.Answer.TheVariants as answer
use Rattle.qv_words.specs.Tree.{Tree}
use Rattle.qv_words.specs.Problem.{problem_of}
use Rattle.qv_sexpr.specs.Script.{Tree as Expr, Script as Commands, TextEnd, stops, command, all_read, lexical, parsing, nesting, reads}
use Rattle.qv_elab_defs.specs.Tokens.{place_of}
use Rattle.qv_script_defs.specs.Faults.{refusal}
use Rattle.qv_script_defs.specs.State.{State, answered, no_counts, opening}
use Rattle.qv_script_defs.specs.Moves.{Quiet, Text, Check, Values, Whole, Core, Exit, Move}
use Rattle.qv_script_defs.specs.Commands.{after}
use Rattle.qv_script_texts.specs.EndLines.{fault_at_end}
use Rattle.qv_cert.specs.Section.{Judged, AcceptedUpTo, RefusedAt, section_judged}
use Rattle.qv_cert.specs.Text.{text_of, first_line}
use Rattle.qv_cert.specs.Grammar.{Reading}
use Rattle.qv_cert.specs.Line.{Header}
use Rattle.qv_check_laws.specs.Verdict.{Script, Asks, Stops, Ends, Verdict, at_end, behind_section, behind_header, ended, verdict, verdict_from, verdict_on}
use Rattle.qv_check_defs.specs.Beside.{beside, behind, asks, last_of}
use Rattle.qv_check_defs.specs.Beside.{at_end as stopped}
use Rattle.qv_check_defs.specs.Outcome.{answer_line, ending_text}
use Rattle.qv_script_transcript.specs.Certificates.{verdict_beside}
use Rattle.qv_check_trim.specs.Sections.{BeginsWithNoAnswer}

-- the first byte is that of no answer
abbrev is_apart : List ℕ → Bool
is_apart [] = true
is_apart (byte ∷ bytes) = not (byte == 115) && not (byte == 117)

answers-are : (a : Answer) (rest : List ℕ) → is_apart (answer_line a ++ rest) ≡ false
answers-are answer.Sat rest = refl
answers-are answer.Unsat rest = refl
answers-are answer.Unknown rest = refl

apart : (text : List ℕ) → is_apart text ≡ true → BeginsWithNoAnswer text
apart text h a rest is =
    let no : true ≡ false = sym h ∙ (ap is_apart is ∙ answers-are a rest) in
    cc

-- so is each fault of a script
abbrev AreApart : Script (List ℕ) → Type 0
AreApart (Asks p next) = (a : Answer) → AreApart (next a)
AreApart (Stops fault) = is_apart fault ≡ true
AreApart Ends = Unit {0}

stopped-apart : (end : TextEnd) → AreApart (stopped (fault_at_end end))
stopped-apart all_read = tt
stopped-apart (lexical fault) = refl
stopped-apart (parsing fault) = refl
stopped-apart (nesting place) = refl

asks-apart : (places : ℕ) (goes_on : State → Script (List ℕ)) → ((s : State) → AreApart (goes_on s)) → (s : State) (e : Expr) (trees : List Tree) → AreApart (asks places goes_on s e trees)
asks-apart places goes_on h s e trees = by (nat_lt places (length (problem_of trees).prefix))
  where
    by : (over : Bool) → AreApart (if over then Stops (refusal (place_of e) (codes "prefix limit")) else Asks (problem_of trees) (λ answer. goes_on (answered (last_of s answer) no_counts s)))
    by true = refl
    by false = λ a. h (answered (last_of s a) no_counts s)

behind-apart : (places : ℕ) (goes_on : State → Script (List ℕ)) → ((s : State) → AreApart (goes_on s)) → (e : Expr) (m : Move) → AreApart (behind places goes_on e m)
behind-apart places goes_on h e (Err fault) = refl
behind-apart places goes_on h e (Ok (s, Quiet)) = h s
behind-apart places goes_on h e (Ok (s, Text words)) = h s
behind-apart places goes_on h e (Ok (s, Values terms)) = h s
behind-apart places goes_on h e (Ok (s, Whole)) = h s
behind-apart places goes_on h e (Ok (s, Core trees named)) = h s
behind-apart places goes_on h e (Ok (s, Check trees)) = asks-apart places goes_on h s e trees
behind-apart places goes_on h e (Ok (s, Exit)) = tt

beside-apart : (places : ℕ) (c : Commands) (s : State) → AreApart (beside places s c)
unfolding beside
beside-apart places (stops end) s = stopped-apart end
beside-apart places (command e rest) s = behind-apart places (λ t. beside places t rest) (λ t. beside-apart places rest t) e (after s e)

-- and so is how the check ends
abbrev EndsApart : Verdict (List ℕ) → Type 0
EndsApart v = is_apart (ending_text v.ending) ≡ true

sections-apart : (lines : List (List ℕ)) (goes_on : Answer → ℕ → List (List ℕ) → Verdict (List ℕ)) → ((a : Answer) (m : ℕ) (rest : List (List ℕ)) → EndsApart (goes_on a m rest)) → (j : Judged) → EndsApart (behind_section lines goes_on j)
sections-apart lines goes_on h (AcceptedUpTo a next rest) = h a next rest
sections-apart lines goes_on h (RefusedAt line k) = refl

end-apart : (n : ℕ) (lines : List (List ℕ)) (rest : List ℕ) → EndsApart (ended (at_end n lines rest))
end-apart n (line ∷ lines) rest = refl
end-apart n [] (byte ∷ rest) = refl
end-apart n [] [] = refl

from-apart : (script : Script (List ℕ)) (version number n : ℕ) (lines : List (List ℕ)) (rest : List ℕ) → AreApart script → EndsApart (verdict_from version number script n lines rest)
unfolding verdict_from
from-apart (Asks p next) version number n lines rest h =
    sections-apart lines (λ answer m behind. verdict_from version (suc number) (next answer) m behind rest) (λ a m behind. from-apart (next a) version (suc number) m behind rest (h a)) (section_judged (record { problem = p; number = number; version = version }) n lines)
from-apart (Stops fault) version number n lines rest h = h
from-apart Ends version number n lines rest h = end-apart n lines rest

header-apart : (r : Reading) (script : Script (List ℕ)) (lines : List (List ℕ)) (rest : List ℕ) → AreApart script → EndsApart (behind_header r script lines rest)
header-apart (Ok (Header version)) script lines rest h = from-apart script version 1 2 lines rest h
header-apart _ script lines rest h = refl

on-apart : (script : Script (List ℕ)) (lines : List (List ℕ)) (rest : List ℕ) → AreApart script → EndsApart (verdict_on script lines rest)
on-apart script [] rest h = refl
on-apart script (line ∷ lines) rest h = header-apart (first_line line) script lines rest h

pub ends-apart : (places : ℕ) (script cert : List ℕ) → BeginsWithNoAnswer (ending_text (verdict_beside places script cert).ending)
unfolding verdict
ends-apart places script cert = apart (ending_text (verdict_beside places script cert).ending) (on-apart (beside places opening (reads script)) (text_of cert).lines (text_of cert).rest (beside-apart places (reads script) opening))
