-- What a reader answers of a text. No public contract cites this.
use Rattle.std.specs.Prelude.{◌≡◌, ℕ, ◌<◌, ◌≤◌, true, List, [], ◌∷◌, ◌++◌, length, nat_eq, Result, Ok, Err, Option, Some, None}
use Rattle.std.specs.HashSet.{contains, HashSet}
use Rattle.std.specs.declared.hash.FoldHasher.{FoldHasher}
use Rattle.std.specs.declared.hash.BuildHasherDefault.{BuildHasherDefault}
use Rattle.qv_cnf.specs.Literal.{Literal}
use Rattle.qv_dimacs.specs.Clauses.{pass, problem_line}
use Rattle.qv_store.specs.declared.problem.Quant.{Quant}
use Rattle.qv_qdimacs.specs.declared.files.Quantified.{Quantified}
use Rattle.qv_qdimacs.specs.declared.faults.QdimacsFault.{QdimacsFault}
use Rattle.qv_qdimacs.specs.declared.faults.QdimacsFault.TheVariants.{At, ReadFault, ReadLimit, NoMemory}
use Rattle.qv_qdimacs.specs.declared.lexing.Span.{Span}
use Rattle.qv_qdimacs.specs.Outer.{is_in, variables_of}
use Rattle.qv_qdimacs.specs.Text.{Said, File, Faulty, Part, clauses_from}
use Rattle.qv_qdimacs.specs.Ahead.{words_at, word_at, line_at, lines_behind}

-- The text says what an answer is: `goes_on` has what it says where the answer is none of a fault.
-- Of want of memory it says nothing.
abbrev pub Answers : {A : Type 0} → Said → Result A QdimacsFault → (A → Said) → Type 0
Answers said (Ok a) goes_on = said ≡ goes_on a
Answers said (Err (At place kind)) goes_on = said ≡ Faulty place kind
Answers said (Err NoMemory) goes_on = Unit {0}
Answers said (Err ReadFault) goes_on = ⊥
Answers said (Err ReadLimit) goes_on = ⊥

-- a set of variables
abbrev pub Variables : Type 0
Variables = HashSet ℕ (BuildHasherDefault FoldHasher)

-- it has those of a prefix
abbrev pub AreSeen : Variables → List Quantified → Type 0
AreSeen seen prefix = (v : ℕ) → contains nat_eq seen v ≡ is_in v (variables_of prefix)

-- a quantifier and its variable
abbrev pub quantified : Quant → ℕ → Quantified
quantified quant v = record { quant = quant; variable = v }

-- a part that has begun
abbrev pub part_of : Quant → ℕ → Option Part
part_of quant place = Some (record { quant = quant; place = place })

-- what comes behind a clause that ends at a place, or behind all clauses
abbrev pub behind_clause : List Quantified → List (List Literal) → List Literal → List ℕ → Option ℕ → Said
behind_clause prefix done lits text None = File prefix done
behind_clause prefix done lits text (Some end) = clauses_from prefix (done ++ lits ∷ []) 0 [] (words_at text end)

-- a place behind another one
abbrev pub IsFurther : List ℕ → ℕ → ℕ → Type 0
IsFurther text at end = (at < end) × (end ≤ length text)

-- the line that begins with a word is a problem line, and ends at a place
pub record IsPassed (text : List ℕ) (first : Span) (end : ℕ) : Type 0 where
  pub within : end ≤ length text
  pub passes : pass problem_line (word_at text first ∷ line_at text first.end) ≡ true
  pub line : line_at text end ≡ []
  pub lines : lines_behind text end ≡ lines_behind text first.end
