use Rattle.std.proofs.Common.{ℕ, List, ◌-◌, length}
use Rattle.qv_cnf.specs.LratLine.{LratLine}
use Rattle.qv_trim.specs.Texts.{Begins, BeginsWithNone, ReadsStep}
use Rattle.std.specs.Prelude.{drop}
use Rattle.qv_trim.specs.Entries.{Noted}
use Rattle.qv_trim.proofs.entries.note_all.Given as goal

-- what was noted of lines that are told
abbrev pub invariant-lines : goal.invariant-lines
invariant-lines l =
    (lines : List LratLine) (rest : List ℕ) → Begins ReadsStep (drop l.from l.text) lines rest → BeginsWithNone ReadsStep rest → Noted l.text l.at l.refuted l.entries.items lines rest

abbrev pub decreases-lines : goal.decreases-lines
decreases-lines l = length l.text - l.at
