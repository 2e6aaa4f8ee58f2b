-- The calls that a checker accepts, over whole runs.
use Rattle.std.specs.Prelude.{◌≡◌, ℕ, ◌≤◌, List, [], ◌∷◌}
use Rattle.qv_cnf.specs.Literal.{Literal}
use Rattle.qv_cnf.specs.LratLine.{LratLine, Addition, Deletion}
use Rattle.qv_cnf.specs.Refutation.{Standing, Accepted, IsRup, judged_line, after_line, with_original}

-- an original clause that is given, or a step
pub data Call : Type 0 where
  Original : ℕ → List Literal → Call
  Line : LratLine → Call

-- the checker accepts the call
abbrev pub Accepts : Standing → Call → Type 0
Accepts s (Original id lits) = s.next ≤ id
Accepts s (Line line) = judged_line s line ≡ Accepted

-- where it stands after a call that it accepted
abbrev pub after_call : Standing → Call → Standing
after_call s (Original id lits) = with_original s id lits
after_call s (Line line) = after_line s line

-- the accepted calls lead from the first standing to the second
abbrev pub Leads : Standing → List Call → Standing → Type 0
Leads from [] to = to ≡ from
Leads from (call ∷ calls) to = Accepts from call × Leads (after_call from call) calls to

-- the original clauses among the calls
abbrev pub originals : List Call → List (List Literal)
originals [] = []
originals (Original id lits ∷ calls) = lits ∷ originals calls
originals (Line line ∷ calls) = originals calls

-- ---- where a refuted checker shows that the original clauses have no model

-- no original clause is given behind a step
abbrev pub OriginalsFirst : List Call → Type 0
OriginalsFirst [] = Unit {0}
OriginalsFirst (Original id lits ∷ calls) = OriginalsFirst calls
OriginalsFirst (Line line ∷ calls) = originals calls ≡ []

-- the line's clause follows from the live ones by unit propagation
abbrev pub MeetsRup : Standing → LratLine → Type 0
MeetsRup s (Addition id lits hints) = IsRup s.live lits hints
MeetsRup s (Deletion id ids) = Unit {0}

-- every clause that a step added does
abbrev pub AllMeetRup : Standing → List Call → Type 0
AllMeetRup s [] = Unit {0}
AllMeetRup s (Original id lits ∷ calls) = AllMeetRup (with_original s id lits) calls
AllMeetRup s (Line line ∷ calls) = MeetsRup s line × AllMeetRup (after_line s line) calls
