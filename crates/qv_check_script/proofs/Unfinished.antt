-- What a check comes to ends with a line: no front that leaves nothing is shorter.
use Rattle.std.proofs.Common.{◌≡◌, ◌≢◌, ◌++◌, ℕ, suc, Bool, true, false, Option, Some, None, option_map, List, [], ◌∷◌, flat_map, refl, sym, subst}
use Rattle.std.specs.Prelude.{nat_lt, length, IfSome, Ok, Err, codes, if◌then◌else◌}
use Rattle.qv_words.specs.declared.op.Answer.{Answer}
use Rattle.qv_words.specs.declared.op.Answer.TheVariants as answer
use Rattle.qv_words.specs.Tree.{Tree}
use Rattle.qv_words.specs.Problem.{problem_of}
use Rattle.qv_sexpr.specs.Script.{Tree as Expr, Script as Commands, TextEnd, stops, command, all_read, lexical, parsing, nesting, reads}
use Rattle.qv_elab_defs.specs.Tokens.{place_of}
use Rattle.qv_script_defs.specs.Faults.{refusal}
use Rattle.qv_script_defs.specs.State.{State, answered, no_counts, opening}
use Rattle.qv_script_defs.specs.Moves.{Quiet, Text, Check, Values, Whole, Core, Exit, Move}
use Rattle.qv_script_defs.specs.Commands.{after}
use Rattle.qv_script_texts.specs.EndLines.{fault_at_end}
use Rattle.qv_cert.specs.Section.{Judged, AcceptedUpTo, RefusedAt, section_judged}
use Rattle.qv_cert.specs.Text.{text_of, first_line, Text as Lines}
use Rattle.qv_cert.specs.Grammar.{Reading}
use Rattle.qv_cert.specs.Line.{Header}
use Rattle.qv_io.specs.Sink.{Appends}
use Rattle.qv_io.proofs.SinkLemmas.{Appends-nothing}
use Rattle.qv_check_laws.specs.Verdict.{Script, Asks, Stops, Ends, Verdict, at_end, behind_section, behind_header, ended, verdict, verdict_from, verdict_on}
use Rattle.qv_check_defs.specs.Beside.{beside, behind, asks, last_of}
use Rattle.qv_check_defs.specs.Beside.{at_end as stopped}
use Rattle.qv_check_defs.specs.Outcome.{outcome, outcome_of}
use Rattle.qv_check_script.specs.Turns.{Coming, Short, to_come, told, with_front}

-- each fault of the script has a text
abbrev pub HasLines : Script (List ℕ) → Type 0
HasLines (Asks p next) = (a : Answer) → HasLines (next a)
HasLines (Stops fault) = fault ≢ []
HasLines Ends = Unit {0}

stopped-lines : (end : TextEnd) → HasLines (stopped (fault_at_end end))
stopped-lines all_read = tt
stopped-lines (lexical fault) = λ none. absurd cc
stopped-lines (parsing fault) = λ none. absurd cc
stopped-lines (nesting place) = λ none. absurd cc

asks-lines : (places : ℕ) (goes_on : State → Script (List ℕ)) → ((s : State) → HasLines (goes_on s)) → (s : State) (e : Expr) (trees : List Tree) → HasLines (asks places goes_on s e trees)
asks-lines places goes_on h s e trees = by (nat_lt places (length (problem_of trees).prefix))
  where
    by : (over : Bool) → HasLines (if over then Stops (refusal (place_of e) (codes "prefix limit")) else Asks (problem_of trees) (λ answer. goes_on (answered (last_of s answer) no_counts s)))
    by true = λ none. absurd cc
    by false = λ a. h (answered (last_of s a) no_counts s)

behind-lines : (places : ℕ) (goes_on : State → Script (List ℕ)) → ((s : State) → HasLines (goes_on s)) → (e : Expr) (m : Move) → HasLines (behind places goes_on e m)
behind-lines places goes_on h e (Err fault) = λ none. absurd cc
behind-lines places goes_on h e (Ok (s, Quiet)) = h s
behind-lines places goes_on h e (Ok (s, Text words)) = h s
behind-lines places goes_on h e (Ok (s, Values terms)) = h s
behind-lines places goes_on h e (Ok (s, Whole)) = h s
behind-lines places goes_on h e (Ok (s, Core trees named)) = h s
behind-lines places goes_on h e (Ok (s, Check trees)) = asks-lines places goes_on h s e trees
behind-lines places goes_on h e (Ok (s, Exit)) = tt

beside-lines : (places : ℕ) (c : Commands) (s : State) → HasLines (beside places s c)
unfolding beside
beside-lines places (stops end) s = stopped-lines end
beside-lines places (command e rest) s = behind-lines places (λ t. beside places t rest) (λ t. beside-lines places rest t) e (after s e)

-- so has what is written
abbrev pub HasText : Verdict (List ℕ) → Type 0
HasText v = (outcome_of v).text ≢ []

sections-text : (lines : List (List ℕ)) (goes_on : Answer → ℕ → List (List ℕ) → Verdict (List ℕ)) (j : Judged) → HasText (behind_section lines goes_on j)
sections-text lines goes_on (AcceptedUpTo answer.Sat next rest) = λ none. absurd cc
sections-text lines goes_on (AcceptedUpTo answer.Unsat next rest) = λ none. absurd cc
sections-text lines goes_on (AcceptedUpTo answer.Unknown next rest) = λ none. absurd cc
sections-text lines goes_on (RefusedAt line k) = λ none. absurd cc

end-text : (n : ℕ) (lines : List (List ℕ)) (rest : List ℕ) → HasText (ended (at_end n lines rest))
end-text n (line ∷ lines) rest = λ none. absurd cc
end-text n [] (byte ∷ rest) = λ none. absurd cc
end-text n [] [] = λ none. absurd cc

from-text : (script : Script (List ℕ)) (version number n : ℕ) (lines : List (List ℕ)) (rest : List ℕ) → HasLines script → HasText (verdict_from version number script n lines rest)
unfolding verdict_from
from-text (Asks p next) version number n lines rest h =
    sections-text lines (λ answer m behind. verdict_from version (suc number) (next answer) m behind rest) (section_judged (record { problem = p; number = number; version = version }) n lines)
from-text (Stops fault) version number n lines rest h = h
from-text Ends version number n lines rest h = end-text n lines rest

header-text : (r : Reading) (script : Script (List ℕ)) (lines : List (List ℕ)) (rest : List ℕ) → HasLines script → HasText (behind_header r script lines rest)
header-text (Ok (Header version)) script lines rest h = from-text script version 1 2 lines rest h
header-text _ script lines rest h = λ none. absurd cc

on-text : (script : Script (List ℕ)) (lines : List (List ℕ)) (rest : List ℕ) → HasLines script → HasText (verdict_on script lines rest)
on-text script [] rest h = λ none. absurd cc
on-text script (line ∷ lines) rest h = header-text (first_line line) script lines rest h

pub verdict-text : (script : Script (List ℕ)) (bytes : List ℕ) → HasLines script → HasText (verdict script bytes)
unfolding verdict
verdict-text script bytes h = on-text script (text_of bytes).lines (text_of bytes).rest h

whole-text : (places : ℕ) (text bytes : List ℕ) → HasText (verdict (beside places opening (reads text)) bytes)
whole-text places text bytes = verdict-text (beside places opening (reads text)) bytes (beside-lines places (reads text) opening)

-- something is to come from each state on, and of both texts
pub comes-some : (places : ℕ) (version checks : ℕ) (s : State) (script : Option Commands) (given : ℕ) (text : Option Lines) → IfSome (to_come places version checks s script given text) (λ o. o.outcome.text ≢ [])
comes-some places version checks s None given text = tt
comes-some places version checks s (Some c) given None = tt
comes-some places version checks s (Some c) given (Some t) = from-text (beside places s c) version (suc checks) (suc given) t.lines t.rest (beside-lines places c s)

pub told-some : (places : ℕ) (script cert : Option (List ℕ)) → IfSome (told places script cert) (λ o. o.outcome.text ≢ [])
told-some places None cert = tt
told-some places (Some text) None = tt
told-some places (Some text) (Some bytes) = whole-text places text bytes

-- nothing of it was written, where both texts are told
pub nothing-short : (places : ℕ) (script cert held : Option (List ℕ)) → IfSome script (λ text. IfSome cert (λ bytes. (written rest : List ℕ) × ((outcome places text bytes).text ≡ written ++ rest) × (rest ≢ []) × Appends held held written))
nothing-short places None cert held = tt
nothing-short places (Some text) None held = tt
nothing-short places (Some text) (Some bytes) held = ([], (outcome places text bytes).text, refl, whole-text places text bytes, Appends-nothing held)

-- what was written is then shorter
pub short-here : (held held' : Option (List ℕ)) (written : List ℕ) → Appends held held' written → (whole before : Option Coming) → whole ≡ option_map (with_front written) before → IfSome before (λ o. o.outcome.text ≢ []) → IfSome whole (Short held held')
short-here held held' written appends whole before leads some = subst (λ (w : Option Coming). IfSome w (Short held held')) (sym leads) (go before some)
  where
    go : (b : Option Coming) → IfSome b (λ o. o.outcome.text ≢ []) → IfSome (option_map (with_front written) b) (Short held held')
    go None h = tt
    go (Some o) h = (written, o.outcome.text, refl, h, appends)
