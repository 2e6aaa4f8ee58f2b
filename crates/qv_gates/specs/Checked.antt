-- What a closure keeps.
use Rattle.std.specs.Prelude.{◌≡◌, ℕ, ℤ, List, [], ◌∷◌, map}
use Rattle.qv_cnf.specs.Listing.{Listing, Numbered}
use Rattle.qv_cnf.specs.Literal.{Literal}
use Rattle.qv_cnf.specs.LratLine.{LratLine, Addition, Deletion}
use Rattle.qv_cnf.specs.Refutation.{Standing, after_line, standing_at}
use Rattle.qv_gates.specs.Closing.{Adds}

-- where lines lead
abbrev pub after_lines : Standing → List LratLine → Standing
after_lines s [] = s
after_lines s (line ∷ lines) = after_lines (after_line s line) lines

-- a checker was given the clauses and accepted the steps, and no clause was taken away
pub record IsChecked (base : Listing) (checker : Standing) (steps : List LratLine) : Type 0 where
  pub whole : base.given ≡ map (λ c. c.id) base.live
  pub adds : Adds (standing_at base.live) steps
  pub reached : checker ≡ after_lines (standing_at base.live) steps

-- the line adds a clause
abbrev pub IsAddition : LratLine → Type 0
IsAddition (Addition id lits hints) = Unit {0}
IsAddition (Deletion id ids) = ⊥

-- the line adds the clause of these literals
abbrev pub AddsClause : LratLine → List Literal → Type 0
AddsClause line lits = (id : ℕ) × (hints : List ℤ) × (line ≡ Addition id lits hints)
