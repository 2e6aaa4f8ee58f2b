-- What the check of a certificate beside its script writes, and with which status it ends.
use Rattle.std.specs.Prelude.{ℕ, ◌++◌, List, [], flat_map, codes}
use Rattle.std.specs.Fmt.{decimal}
use Rattle.qv_words.specs.declared.op.Answer.{Answer}
use Rattle.qv_words.specs.declared.op.Answer.TheVariants.{Sat, Unsat, Unknown}
use Rattle.qv_cert.specs.declared.kind.RefusalKind.{RefusalKind}
use Rattle.qv_cert.specs.declared.kind.RefusalKind.TheVariants as kind
use Rattle.qv_sexpr.specs.Script.{reads}
use Rattle.qv_script_defs.specs.State.{opening}
use Rattle.qv_script_defs.specs.Texts.{line}
use Rattle.qv_check_laws.specs.Verdict.{Verdict, Ending, IsAccepted, ScriptFault, IsRefused, verdict}
use Rattle.qv_check_defs.specs.Beside.{beside}

abbrev pub answer_line : Answer → List ℕ
answer_line Sat = line (codes "sat")
answer_line Unsat = line (codes "unsat")
answer_line Unknown = line (codes "unknown")

abbrev pub kind_word : RefusalKind → List ℕ
kind_word kind.Truncated = codes "truncated"
kind_word kind.Header = codes "header"
kind_word kind.Form = codes "form"
kind_word kind.Operator = codes "operator"
kind_word kind.Rule = codes "rule"
kind_word kind.Literal = codes "literal"
kind_word kind.Section = codes "section"
kind_word kind.Order = codes "order"
kind_word kind.Node = codes "node"
kind_word kind.Place = codes "place"
kind_word kind.Repeated = codes "repeated"
kind_word kind.Eigenvariable = codes "eigenvariable"
kind_word kind.Parent = codes "parent"
kind_word kind.Quantifier = codes "quantifier"
kind_word kind.Rank = codes "rank"
kind_word kind.Sort = codes "sort"
kind_word kind.Dependence = codes "dependence"
kind_word kind.Missing = codes "missing"
kind_word kind.Variables = codes "variables"
kind_word kind.Id = codes "id"
kind_word (kind.Rat hint) = codes "rat"
kind_word (kind.Hint hint) = codes "hint"
kind_word kind.Open = codes "open"
kind_word kind.Refutation = codes "refutation"

-- the position of the hint, where the kind has one
abbrev pub hint_text : RefusalKind → List ℕ
hint_text (kind.Rat hint) = codes " " ++ decimal hint
hint_text (kind.Hint hint) = codes " " ++ decimal hint
hint_text _ = []

-- a line of the certificate is refused
abbrev pub refused_line : ℕ → RefusalKind → List ℕ
refused_line n k = codes "refused " ++ (decimal n ++ (codes " " ++ (kind_word k ++ (hint_text k ++ codes "\n"))))

abbrev pub ending_text : Ending (List ℕ) → List ℕ
ending_text IsAccepted = line (codes "accepted")
ending_text (ScriptFault fault) = fault
ending_text (IsRefused n k) = refused_line n k

abbrev pub ending_status : Ending (List ℕ) → ℕ
ending_status IsAccepted = 0
ending_status (ScriptFault fault) = 1
ending_status (IsRefused n k) = 6

pub record Outcome : Type 0 where
  pub text : List ℕ
  pub status : ℕ

-- a line for each accepted section, and one for the end
abbrev pub outcome_of : Verdict (List ℕ) → Outcome
outcome_of v = record {
  text = flat_map (λ s. answer_line s.answer) v.sections ++ ending_text v.ending;
  status = ending_status v.ending;
}

-- of these bytes of a script and a certificate
abbrev pub outcome : (places : ℕ) (script cert : List ℕ) → Outcome
outcome places script cert = outcome_of (verdict (beside places opening (reads script)) cert)
