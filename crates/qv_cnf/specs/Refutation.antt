-- Refutations: the LRAT format.
use Rattle.std.specs.Prelude.{◌≡◌, ℕ, ◌+◌, nat_lt, ℤ, Bool, true, false, ◌&&◌, ◌||◌, if◌then◌else◌, List, [], ◌∷◌, ◌++◌, map, IsTrue}
use Rattle.qv_cnf.specs.Literal.{Literal}
use Rattle.qv_cnf.specs.Listing.{Numbered, next_id, without}
use Rattle.qv_cnf.specs.LratLine.{LratLine, Addition, Deletion}
use Rattle.qv_cnf.specs.Rat.{judged_addition}
pub use Rattle.qv_cnf.specs.Rup.{same_literal, among, open_literals, reading_of, hint_reading, Judgement, Accepted, OutOfOrder, RatAt, FailsAt, LeftOpen, judged_by, judged_from, judged_clause, IsRup}

-- where a refutation stands: the live clauses, the least id that may come, and whether a clause
-- without literals was added
pub record Standing : Type 0 where
  pub live : List Numbered
  pub next : ℕ
  pub refuted : Bool

-- a line's judgement: a deletion is always accepted
abbrev pub judged_line : Standing → LratLine → Judgement
judged_line s (Addition id lits hints) = if nat_lt id s.next then OutOfOrder else judged_addition s.live lits hints
judged_line s (Deletion id ids) = Accepted

-- the same by unit propagation alone
abbrev pub judged_rup : Standing → LratLine → Judgement
judged_rup s (Addition id lits hints) = if nat_lt id s.next then OutOfOrder else judged_clause s.live lits hints
judged_rup s (Deletion id ids) = Accepted

-- whether a clause has no literals
abbrev pub has_none : List Literal → Bool
has_none [] = true
has_none (l ∷ ls) = false

-- where it stands after an accepted line
abbrev pub after_line : Standing → LratLine → Standing
after_line s (Addition id lits hints) = record { live = s.live ++ record { id = id; lits = lits } ∷ []; next = id + 1; refuted = s.refuted || has_none lits }
after_line s (Deletion id ids) = record { live = without ids s.live; next = s.next; refuted = s.refuted }

-- where it stands after one more clause that is to be refuted
abbrev pub with_original : Standing → ℕ → List Literal → Standing
with_original s id lits = record { live = s.live ++ record { id = id; lits = lits } ∷ []; next = id + 1; refuted = s.refuted }

-- whether the line adds a clause without literals
abbrev pub adds_none : LratLine → Bool
adds_none (Addition id lits hints) = has_none lits
adds_none (Deletion id ids) = false

-- whether the judgement is to accept
abbrev pub accepts : Judgement → Bool
accepts Accepted = true
accepts OutOfOrder = false
accepts (RatAt n) = false
accepts (FailsAt n) = false
accepts LeftOpen = false

-- a clause without literals is accepted, and every line before it
abbrev pub refutes_from : Standing → List LratLine → Bool
refutes_from s [] = false
refutes_from s (line ∷ lines) = accepts (judged_line s line) && (adds_none line || refutes_from (after_line s line) lines)

-- where the clauses alone are given
abbrev pub standing_at : List Numbered → Standing
standing_at live = record { live = live; next = next_id (map (λ c. c.id) live); refuted = false }

-- the lines refute the clauses
abbrev pub Refutes : List Numbered → List LratLine → Type 0
Refutes live lines = IsTrue (refutes_from (standing_at live) lines)
