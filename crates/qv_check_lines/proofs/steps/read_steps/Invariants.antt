-- what is judged from here on is judged from the first line on
use Rattle.std.proofs.Common.{◌≡◌, ◌<◌, ◌≤◌, None}
use Rattle.qv_io.specs.Source.{TellsAsBefore}
use Rattle.qv_words.specs.declared.op.Answer.{Answer}
use Rattle.qv_cert.specs.CertReader.{to_give}
use Rattle.qv_cert.specs.Took.{TookLines}
use Rattle.qv_cert.specs.Section.{Task, Refuting}
use Rattle.qv_check_lines.specs.Judging.{LeadsTo}
use Rattle.qv_check_lines.proofs.steps.read_steps.Given as goal

abbrev pub invariant-steps : goal.invariant-steps
invariant-steps g l = record {
  begun : 0 < l.reader.given;
  reads : l.reader.stopped ≡ None;
  version : l.reader.version ≡ l.fn.reader.version;
  leads : (task : Task) (answer : Answer) → LeadsTo task (Refuting answer l.fn.checker) l.fn.reader.given (to_give l.fn.reader.rest (g.S.Source.left l.fn.source)) (Refuting answer l.checker) l.reader.given (to_give l.reader.rest (g.S.Source.left l.source));
  took : TookLines g.S.Source.read_gives g.S.Source.left l.fn.reader l.fn.source l.reader.given l.reader.rest l.reader.taken l.source;
  telling : TellsAsBefore (g.S.Source.left l.fn.source) (g.S.Source.left l.source);
  count : g.S.Source.faults l.fn.source ≤ g.S.Source.faults l.source;
}
