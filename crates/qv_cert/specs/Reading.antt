-- What reading a line answers.
use Rattle.std.specs.Prelude.{◌≡◌, ℕ, Bool, false, Option, Some, None, find, Result, Ok, Err, List, [], ◌∷◌, codes}
use Rattle.std.specs.Str.{bytes_eq}
use Rattle.qv_lrat_text.specs.declared.fault.LineFault.{LineFault}
use Rattle.qv_lrat_text.specs.declared.fault.LineFault.TheVariants as line_fault
use Rattle.qv_lrat_text.specs.Grammar.{◌>>=◌}
use Rattle.qv_cert.specs.declared.kind.RefusalKind.{RefusalKind}
use Rattle.qv_cert.specs.declared.kind.RefusalKind.TheVariants as kind
use Rattle.qv_cert.specs.declared.fault.CertLineFault.{CertLineFault}
use Rattle.qv_cert.specs.declared.fault.CertLineFault.TheVariants as fault
use Rattle.qv_cert.specs.declared.keyword.Keyword.{Keyword}
use Rattle.qv_cert.specs.declared.keyword.Keyword.TheVariants as keyword
use Rattle.qv_cert.specs.Line.{Skolem, Instance, Eigen, Lrat, End}
use Rattle.qv_cert.specs.Grammar.{Reading, number, large_number, numbers, at_colon, header, check, two_numbers, three_numbers, read, node, rewriting, alone, or_fault}

-- the text has this fault, unless memory ran out
abbrev pub Fails : {Y : Type 0} → CertLineFault → Result Y RefusalKind → Type 0
Fails fault.Header read = read ≡ Err kind.Header
Fails fault.Form read = read ≡ Err kind.Form
Fails fault.Operator read = read ≡ Err kind.Operator
Fails fault.Rule read = read ≡ Err kind.Rule
Fails fault.Literal read = read ≡ Err kind.Literal
Fails fault.NoMemory read = Unit {0}

-- what was returned, seen by `view`, is what is read, or the fault is the text's
abbrev pub Gives : {X Y : Type 0} → (X → Y) → Result X CertLineFault → Result Y RefusalKind → Type 0
Gives view (Ok x) read = read ≡ Ok (view x)
Gives view (Err f) read = Fails f read

-- the fault of a line of the refutation as one of a certificate's line
abbrev pub cert_fault : LineFault → CertLineFault
cert_fault line_fault.Form = fault.Form
cert_fault line_fault.NoMemory = fault.NoMemory

-- ---- the parts of a line

-- what is there, or the fault of a line without a form
abbrev pub or_form : {A : Type 0} → Option A → Result A RefusalKind
or_form None = Err kind.Form
or_form (Some x) = Ok x

-- the only word
abbrev pub only_word : List (List ℕ) → Option (List ℕ)
only_word (word ∷ []) = Some word
only_word _ = None

-- the number that the first word is, and the words behind it
abbrev pub first_number : List (List ℕ) → Option (ℕ × List (List ℕ))
first_number [] = None
first_number (word ∷ others) = do
  n ← number word
  Some (n, others)

-- the indices before the first `:`, and the words behind it
abbrev pub numbers_to_colon : List (List ℕ) → Option (List ℕ × List (List ℕ))
numbers_to_colon words = do
  found ← at_colon words
  ns ← numbers large_number found.0
  Some (ns, found.1)

-- the word of a keyword, and the keyword that a word is
abbrev pub keyword_text : Keyword → List ℕ
keyword_text keyword.Header = codes "qbv-cert"
keyword_text keyword.Check = codes "check"
keyword_text keyword.Node = codes "n"
keyword_text keyword.Skolem = codes "s"
keyword_text keyword.Instance = codes "i"
keyword_text keyword.Eigen = codes "e"
keyword_text keyword.Rewrite = codes "w"
keyword_text keyword.Lrat = codes "lrat"
keyword_text keyword.End = codes "end"

abbrev pub keywords : List Keyword
keywords =
    keyword.Header ∷ keyword.Check ∷ keyword.Node ∷ keyword.Skolem ∷ keyword.Instance ∷ keyword.Eigen ∷ keyword.Rewrite ∷ keyword.Lrat ∷ keyword.End ∷ []

unfoldable pub keyword_named : List ℕ → Option Keyword
keyword_named word = find (λ k. bytes_eq word (keyword_text k)) keywords

-- what stands behind a keyword
abbrev pub behind_keyword : Keyword → List (List ℕ) → Option Reading
behind_keyword keyword.Header others = Some (or_fault kind.Header (header others))
behind_keyword keyword.Check others = read (check others)
behind_keyword keyword.Node others = node others
behind_keyword keyword.Skolem others = read (two_numbers Skolem others)
behind_keyword keyword.Instance others = read (three_numbers Instance others)
behind_keyword keyword.Eigen others = read (two_numbers Eigen others)
behind_keyword keyword.Rewrite others = rewriting others
behind_keyword keyword.Lrat others = read (alone Lrat others)
behind_keyword keyword.End others = read (alone End others)

-- whether the only word is `end`
abbrev pub is_end : List (List ℕ) → Bool
is_end (word ∷ []) = bytes_eq word (codes "end")
is_end _ = false
