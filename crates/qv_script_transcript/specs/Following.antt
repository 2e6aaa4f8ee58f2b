-- What a script prints: a piece for each command, up to the first fault or to `exit`, for given
-- answers of its checks.
use Rattle.std.specs.Prelude.{◌≡◌, ℕ, ◌≤◌, ◌<◌, Some, Ok, Err, List, [], ◌∷◌, ◌++◌, flat_map, codes}
use Rattle.qv_sexpr.specs.Script.{atom, list, Script, TextEnd, all_read, lexical, parsing, nesting, reads}
use Rattle.qv_sexpr.specs.Script.{Tree as Expr, command as then, stops as halt}
use Rattle.qv_words.specs.Tree.{Tree}
use Rattle.qv_elab_defs.specs.Tokens.{place_of}
use Rattle.qv_script_defs.specs.Faults.{Fault, refusal, fault_line}
use Rattle.qv_script_defs.specs.declared.counts.Counts.{Counts}
use Rattle.qv_script_defs.specs.State.{State, Last, Sat, opening, answered, constants}
use Rattle.qv_script_defs.specs.Texts.{success}
use Rattle.qv_script_defs.specs.Settings.{limit_of}
use Rattle.qv_script_defs.specs.Moves.{Effect, Quiet, Text, Check, Values, Whole, Core, Exit}
use Rattle.qv_script_defs.specs.Commands.{after}
use Rattle.qv_script_texts.specs.EndLines.{lex_kind, parse_kind}
use Rattle.qv_script_texts.specs.Printing.{model_text, core_text, ShowsValues}
use Rattle.qv_script_transcript.specs.Lawful.{IsLawfulAnswer, IsLawfulCore, answer_line, prefix_length}

-- a check: what is in force at it, with what it assumes, its answer, how many conflicts it may have
-- by the script's option, 0 where that is free, and what it was charged for
pub record CheckSat : Type 0 where
  pub formulas : List Tree
  pub answer : Last
  pub limit : ℕ
  pub counts : Counts

abbrev pub with_answer : ℕ → List Tree → Last → Counts → CheckSat
with_answer limit formulas answer counts = record { formulas = formulas; answer = answer; limit = limit; counts = counts }

-- what a command prints, and where its close parenthesis is
pub record Piece : Type 0 where
  pub close : ℕ
  pub text : List ℕ

abbrev pub close_of : Expr → ℕ
close_of (atom l) = l.place
close_of (list place inside close) = close

abbrev pub piece : Expr → List ℕ → Piece
piece e text = record { close = close_of e; text = text }

-- the line and the status at the end of a text
abbrev pub end_line : TextEnd → List ℕ × ℕ
end_line all_read = ([], 0)
end_line (lexical fault) = (refusal fault.place (lex_kind fault.kind), 1)
end_line (parsing fault) = (refusal fault.place (parse_kind fault.kind), 1)
end_line (nesting place) = (refusal place (codes "nesting limit"), 1)

-- the text of an effect after which the script goes on, in the state behind the command
abbrev pub Says : State → Effect → List ℕ → Type 0
Says s Quiet text = text ≡ success s.success
Says s (Text words) text = text ≡ words
Says s (Values terms) text = (values : List ℕ) × (s.last ≡ Some (Sat values)) × ShowsValues values terms text
Says s Whole text = (values : List ℕ) × (s.last ≡ Some (Sat values)) × (text ≡ model_text (constants s) values)
Says s (Core trees texts) text = (kept : List ℕ) × IsLawfulCore trees texts kept × (text ≡ core_text kept texts)
-- these have rules of their own
Says s (Check trees) text = ⊥
Says s Exit text = ⊥

-- In a state, these commands print these pieces and then a last line, and the script ends with a
-- status; these are its checks, up to where it ends, each with a lawful answer, where a problem may have
-- so many places.
pub data Follows (places : ℕ) : State → Script → List CheckSat → List Piece → List ℕ → ℕ → Type 0 where
  stops : (s : State) (end : TextEnd) → Follows places s (halt end) [] [] (end_line end).0 (end_line end).1
  refuses : (s : State) (e : Expr) (rest : Script) (fault : Fault) →
      after s e ≡ Err fault →
      Follows places s (then e rest) [] (piece e (fault_line fault) ∷ []) [] 1
  says : (s now : State) (e : Expr) (rest : Script) (effect : Effect) (text : List ℕ) (others : List CheckSat) (pieces : List Piece) (last : List ℕ) (status : ℕ) →
      after s e ≡ Ok (now, effect) → Says now effect text →
      Follows places now rest others pieces last status →
      Follows places s (then e rest) others (piece e text ∷ pieces) last status
  leaves : (s now : State) (e : Expr) (rest : Script) →
      after s e ≡ Ok (now, Exit) →
      Follows places s (then e rest) [] (piece e (success now.success) ∷ []) [] 0
  checks : (s now : State) (e : Expr) (rest : Script) (formulas : List Tree) (answer : Last) (counts : Counts) (others : List CheckSat) (pieces : List Piece) (last : List ℕ) (status : ℕ) →
      after s e ≡ Ok (now, Check formulas) → prefix_length formulas ≤ places → IsLawfulAnswer (constants now) formulas answer →
      Follows places (answered answer counts now) rest others pieces last status →
      Follows places s (then e rest) (with_answer (limit_of now) formulas answer counts ∷ others) (piece e (answer_line answer) ∷ pieces) last status
  exceeds : (s now : State) (e : Expr) (rest : Script) (formulas : List Tree) →
      after s e ≡ Ok (now, Check formulas) → places < prefix_length formulas →
      Follows places s (then e rest) [] (piece e (refusal (place_of e) (codes "prefix limit")) ∷ []) [] 1

-- the script makes these checks, prints this and ends with this status
pub record IsTranscriptOf (places : ℕ) (script : List ℕ) (checks : List CheckSat) (out : List ℕ) (status : ℕ) : Type 0 where
  pub pieces : List Piece
  pub last : List ℕ
  pub follows : Follows places opening (reads script) checks pieces last status
  pub whole : out ≡ flat_map (λ p. p.text) pieces ++ last
