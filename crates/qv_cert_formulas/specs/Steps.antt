-- What a line of a refutation does.
use Rattle.std.specs.Prelude.{◌≡◌, Result, Ok, Err}
use Rattle.qv_words.specs.declared.op.Answer.{Answer}
use Rattle.qv_cnf.specs.LratLine.{LratLine}
use Rattle.qv_cnf.specs.Refutation.{Standing}
use Rattle.qv_rup.specs.declared.faults.StepFault.{StepFault}
use Rattle.qv_rup.specs.declared.faults.StepFault.TheVariants.{Order, Rat, Hint, Open, NoMemory}
use Rattle.qv_cert.specs.declared.kind.RefusalKind.TheVariants as kind
use Rattle.qv_cert.specs.Section.{GoesOn, Refuses, Refuting, in_step}

-- the section goes on with the new standing, or is refused by the fault's kind; memory may run out
abbrev pub IsStepped : Answer → Standing → LratLine → Result (Unit {0}) StepFault → Standing → Type 0
IsStepped answer old line (Ok done) new = in_step answer old line old.refuted ≡ GoesOn (Refuting answer new)
IsStepped answer old line (Err Order) new = in_step answer old line old.refuted ≡ Refuses kind.Id
IsStepped answer old line (Err (Rat hint)) new = in_step answer old line old.refuted ≡ Refuses (kind.Rat hint)
IsStepped answer old line (Err (Hint hint)) new = in_step answer old line old.refuted ≡ Refuses (kind.Hint hint)
IsStepped answer old line (Err Open) new = in_step answer old line old.refuted ≡ Refuses kind.Open
IsStepped answer old line (Err NoMemory) new = Unit {0}
