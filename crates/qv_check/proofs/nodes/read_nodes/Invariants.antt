-- what is judged from here on is judged from the first line on
use Rattle.std.proofs.Common.{◌≡◌, ◌<◌, ◌≤◌, None}
use Rattle.qv_io.specs.Source.{TellsAsBefore}
use Rattle.qv_store.specs.Stores.{Grows}
use Rattle.qv_store.specs.Problems.{problem_in, IsPosedIn}
use Rattle.qv_cert.specs.CertReader.{to_give}
use Rattle.qv_cert.specs.Took.{TookLines}
use Rattle.qv_cert.specs.Section.{Task, Listing}
use Rattle.qv_cert.specs.SoFar.{IsSoFar}
use Rattle.qv_cert_nodes.specs.Lists.{listed_in, IsListed}
use Rattle.qv_check_lines.specs.Judging.{ComesTo, IsFor}
use Rattle.qv_check.proofs.nodes.read_nodes.Given as goal

abbrev pub invariant-nodes : goal.invariant-nodes
invariant-nodes g l = record {
  kept : IsListed l.store (problem_in l.store l.problem) l.listed;
  posed : IsPosedIn l.store l.problem;
  far : IsSoFar (problem_in l.store l.problem) l.answer (listed_in l.store l.listed);
  same : problem_in l.store l.problem ≡ problem_in l.fn.store l.problem;
  grows : Grows l.fn.store l.store;
  begun : 0 < l.reader.given;
  reads : l.reader.stopped ≡ None;
  version : l.reader.version ≡ l.fn.reader.version;
  leads : (task : Task) → IsFor (problem_in l.fn.store l.problem) l.fn.reader.version task → ComesTo task (Listing l.answer (listed_in l.fn.store l.fn.listed)) l.fn.reader.given (to_give l.fn.reader.rest (g.S.Source.left l.fn.source)) (Listing l.answer (listed_in l.store l.listed)) l.reader.given (to_give l.reader.rest (g.S.Source.left l.source));
  took : TookLines g.S.Source.read_gives g.S.Source.left l.fn.reader l.fn.source l.reader.given l.reader.rest l.reader.taken l.source;
  telling : TellsAsBefore (g.S.Source.left l.fn.source) (g.S.Source.left l.source);
  count : g.S.Source.faults l.fn.source ≤ g.S.Source.faults l.source;
}
