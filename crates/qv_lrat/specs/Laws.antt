-- What accepted proofs show.
use Rattle.std.specs.Prelude.{◌≡◌, ◌↔◌, ℕ, List, map, Some}
use Rattle.qv_cnf.specs.Literal.{Literal}
use Rattle.qv_cnf.specs.LratLine.{LratLine}
use Rattle.qv_cnf.specs.Refutation.{Refutes}
use Rattle.qv_cnf.specs.Truth.{HasNoModel}
use Rattle.qv_check_laws.specs.Verdict.{IsAccepted}
use Rattle.qv_lrat_text.specs.Grammar.{lrat_line}
use Rattle.qv_dimacs.specs.Clauses.{Said, Clauses, Faulty, dimacs_of}
use Rattle.qv_cert_formulas.specs.Numbers.{under_ids}
use Rattle.qv_lrat.specs.Verdict.{judged_proof, lrat_outcome}

-- texts are lines of the grammar
abbrev pub AreLines : List (List ℕ) → List LratLine → Type 0
AreLines texts lines = map lrat_line texts ≡ map (λ line. Some line) lines

-- a proof is accepted exactly where all its lines meet the grammar, and refute the clauses
abbrev pub AcceptedExactly : Type 0
AcceptedExactly =
    (clauses : List (List Literal)) (texts : List (List ℕ)) →
    (judged_proof clauses texts ≡ IsAccepted) ↔ ((lines : List LratLine) × AreLines texts lines × Refutes (under_ids 1 clauses) lines)

-- a text says clauses, and these have no model
abbrev pub SaysNoModel : Said → Type 0
SaysNoModel (Clauses clauses) = HasNoModel clauses
SaysNoModel (Faulty place k) = ⊥

-- a check that ends with status 0 shows that
abbrev pub DoneShowsNoModel : Type 0
DoneShowsNoModel = (cnf proof : List ℕ) → (lrat_outcome cnf proof).status ≡ 0 → SaysNoModel (dimacs_of cnf)

-- clauses of which a proof is accepted have no model
abbrev pub AcceptedHaveNoModel : Type 0
AcceptedHaveNoModel = (clauses : List (List Literal)) (texts : List (List ℕ)) → judged_proof clauses texts ≡ IsAccepted → HasNoModel clauses
