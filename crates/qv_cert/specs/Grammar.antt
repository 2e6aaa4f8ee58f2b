-- The grammar of the lines of certificates: which line a text is, or its first fault.
use Rattle.std.specs.Prelude.{ℕ, ◌-◌, ◌^◌, ◌==◌, nat_le, nat_lt, Bool, true, false, if◌then◌else◌, Option, Some, None, option_map, Result, Ok, Err, List, [], ◌∷◌, codes}
use Rattle.std.specs.Str.{bytes_eq}
use Rattle.qv_words.specs.declared.sort.Sort.{Sort}
use Rattle.qv_words.specs.declared.sort.Sort.TheVariants.{Bits}
use Rattle.qv_words.specs.declared.sort.Sort.TheVariants.{Bool as BoolSort}
use Rattle.qv_words.specs.declared.op.Op.{Op}
use Rattle.qv_words.specs.declared.op.Answer.{Answer}
use Rattle.qv_words.specs.declared.op.Answer.TheVariants.{Sat, Unsat, Unknown}
use Rattle.qv_words.specs.Sort.{size_of}
use Rattle.qv_cnf.specs.LratLine.{LratLine}
use Rattle.qv_lrat_text.specs.Words.{words}
use Rattle.qv_lrat_text.specs.Decimal.{number_from}
use Rattle.qv_lrat_text.specs.Grammar.{◌>>=◌, line_of_words, without_lf}
use Rattle.qv_cert.specs.declared.kind.RefusalKind.{RefusalKind}
use Rattle.qv_cert.specs.declared.kind.RefusalKind.TheVariants as kind
use Rattle.qv_rewrite_passes.specs.Names.{pass_named}
use Rattle.qv_sorts.specs.Search.{indexed_operator}
use Rattle.qv_cert.specs.Line.{CertLine, Header, Check, VariableNode, EigenNode, LiteralNode, OperatorNode, Skolem, Instance, Eigen, Rewrite, Lrat, Step, End}

-- a line, or a fault: the kind with which it is refused where it stands
abbrev pub Reading : Type 0
Reading = Result CertLine RefusalKind

-- what is there, or this fault
abbrev pub or_fault : {A : Type 0} → RefusalKind → Option A → Result A RefusalKind
or_fault k None = Err k
or_fault k (Some x) = Ok x

-- the number that a word is, and a literal's value or an operator's index
abbrev pub number : List ℕ → Option ℕ
number word = number_from 0 (2 ^ 62 - 1) word

abbrev pub large_number : List ℕ → Option ℕ
large_number word = number_from 0 (2 ^ 128 - 1) word

-- the numbers that words are
abbrev pub numbers : (List ℕ → Option ℕ) → List (List ℕ) → Option (List ℕ)
numbers read [] = Some []
numbers read (word ∷ others) = do
  n ← read word
  ns ← numbers read others
  Some (n ∷ ns)

-- `1` or `2`
abbrev pub header : List (List ℕ) → Option CertLine
header (word ∷ []) =
    if bytes_eq word (codes "1") then Some (Header 1)
    else (if bytes_eq word (codes "2") then Some (Header 2)
    else None)
header _ = None

-- `sat`, `unsat` or `unknown`
abbrev pub answer_named : List ℕ → Option Answer
answer_named word =
    if bytes_eq word (codes "sat") then Some Sat
    else (if bytes_eq word (codes "unsat") then Some Unsat
    else (if bytes_eq word (codes "unknown") then Some Unknown
    else None))

-- `I A`
abbrev pub check : List (List ℕ) → Option CertLine
check (i ∷ a ∷ []) = do
  n ← number i
  answer ← answer_named a
  Some (Check n answer)
check _ = None

-- the sort of a width, where 0 stands for Bool
abbrev pub sort_of_width : ℕ → Sort
sort_of_width w = if w == 0 then BoolSort else Bits w

-- whether the literal exists: the test of the width comes first
abbrev pub is_value : Bool → ℕ → ℕ → Bool
is_value true w v = nat_lt v (size_of (sort_of_width w))
is_value false w v = false

abbrev pub literal_node : ℕ → ℕ → ℕ → Reading
literal_node k w v = if is_value (nat_le w 128) w v then Ok (LiteralNode k (sort_of_width w) v) else Err kind.Literal

-- `W V`
abbrev pub literal_in : ℕ → List (List ℕ) → Option Reading
literal_in k (width ∷ value ∷ []) = do
  w ← number width
  v ← large_number value
  Some (literal_node k w v)
literal_in k _ = None

-- the words before the first `:`, and those behind it
abbrev pub at_colon : List (List ℕ) → Option (List (List ℕ) × List (List ℕ))
at_colon [] = None
at_colon (word ∷ others) =
    if bytes_eq word (codes ":") then Some ([], others)
    else do
      found ← at_colon others
      Some (word ∷ found.0, found.1)

-- an application, where an operator has this name and as many indices
abbrev pub operator_node : ℕ → List ℕ → Option Op → Reading
operator_node k children None = Err kind.Operator
operator_node k children (Some o) = Ok (OperatorNode k o children)

-- `NAME INDICES : NODES`
abbrev pub application : ℕ → List (List ℕ) → Option Reading
application k [] = None
application k (name ∷ others) = do
  found ← at_colon others
  indices ← numbers large_number found.0
  children ← numbers number found.1
  Some (operator_node k children (indexed_operator name indices))

-- `J`, with the line that it makes
abbrev pub one_number : (ℕ → CertLine) → List (List ℕ) → Option CertLine
one_number make (word ∷ []) = do
  n ← number word
  Some (make n)
one_number make _ = None

abbrev pub two_numbers : (ℕ → ℕ → CertLine) → List (List ℕ) → Option CertLine
two_numbers make [] = None
two_numbers make (word ∷ others) = do
  n ← number word
  one_number (make n) others

abbrev pub three_numbers : (ℕ → ℕ → ℕ → CertLine) → List (List ℕ) → Option CertLine
three_numbers make [] = None
three_numbers make (word ∷ others) = do
  n ← number word
  two_numbers (make n) others

-- a line that has no fault of its own but its form
abbrev pub read : Option CertLine → Option Reading
read line = do
  l ← line
  Some (Ok l)

-- what stands behind a node's number: `v J`, `g N`, `c W V` or `o NAME INDICES : NODES`
abbrev pub node_line : ℕ → List (List ℕ) → Option Reading
node_line k [] = None
node_line k (form ∷ others) =
    if bytes_eq form (codes "v") then read (one_number (VariableNode k) others)
    else (if bytes_eq form (codes "g") then read (one_number (EigenNode k) others)
    else (if bytes_eq form (codes "c") then literal_in k others
    else (if bytes_eq form (codes "o") then application k others
    else None)))

-- `K` and what stands behind it
abbrev pub node : List (List ℕ) → Option Reading
node [] = None
node (word ∷ others) = do
  k ← number word
  node_line k others

-- `NAME`
abbrev pub rewriting : List (List ℕ) → Option Reading
rewriting (name ∷ []) = Some (or_fault kind.Rule (option_map Rewrite (pass_named name)))
rewriting _ = None

-- a line of one word
abbrev pub alone : CertLine → List (List ℕ) → Option CertLine
alone line [] = Some line
alone line (word ∷ others) = None

-- the line that begins with this word; nothing where it has no line's form
abbrev pub behind_word : List ℕ → List (List ℕ) → Option Reading
behind_word first others =
    if bytes_eq first (codes "qbv-cert") then Some (or_fault kind.Header (header others))
    else (if bytes_eq first (codes "check") then read (check others)
    else (if bytes_eq first (codes "n") then node others
    else (if bytes_eq first (codes "s") then read (two_numbers Skolem others)
    else (if bytes_eq first (codes "i") then read (three_numbers Instance others)
    else (if bytes_eq first (codes "e") then read (two_numbers Eigen others)
    else (if bytes_eq first (codes "w") then rewriting others
    else (if bytes_eq first (codes "lrat") then read (alone Lrat others)
    else (if bytes_eq first (codes "end") then read (alone End others)
    else None))))))))

-- a line without a form has the fault `form`
abbrev pub formed : Option Reading → Reading
formed None = Err kind.Form
formed (Some r) = r

-- outside the refutation
abbrev pub outer_line : List (List ℕ) → Reading
outer_line [] = Err kind.Form
outer_line (word ∷ others) = formed (behind_word word others)

-- in it: a line of the refutation
abbrev pub lrat_step : Option LratLine → Reading
lrat_step None = Err kind.Form
lrat_step (Some line) = Ok (Step line)

-- in it: `end` or a line of it
abbrev pub inner_line : List (List ℕ) → Reading
inner_line [] = Err kind.Form
inner_line (word ∷ []) = if bytes_eq word (codes "end") then Ok End else Err kind.Form
inner_line (word ∷ second ∷ others) = lrat_step (line_of_words (word ∷ second ∷ others))

-- the line that a text is, with or without its LF, in the refutation or outside, or its fault
unfoldable pub cert_line : Bool → List ℕ → Reading
cert_line true text = inner_line (words (without_lf text))
cert_line false text = outer_line (words (without_lf text))
