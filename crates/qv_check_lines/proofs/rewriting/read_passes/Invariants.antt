-- what is judged from here on is judged from the first line on
use Rattle.std.proofs.Common.{◌≡◌, ◌<◌, ◌≤◌, None, length}
use Rattle.std.specs.Prelude.{All}
use Rattle.qv_io.specs.Source.{TellsAsBefore}
use Rattle.qv_words.specs.declared.op.Answer.{Answer}
use Rattle.qv_words.specs.Tree.{IsQuantifierFree}
use Rattle.qv_store.specs.Nodes.{tree_at}
use Rattle.qv_store.specs.Stores.{Grows}
use Rattle.qv_store.specs.Walks.{named}
use Rattle.qv_cert.specs.CertReader.{to_give}
use Rattle.qv_cert.specs.Took.{TookLines}
use Rattle.qv_cert.specs.Section.{Task, Rewriting}
use Rattle.qv_check_lines.specs.Judging.{ComesTo}
use Rattle.qv_check_lines.proofs.rewriting.read_passes.Given as goal

abbrev pub invariant-passes : goal.invariant-passes
invariant-passes g l = record {
  below : All (λ id. id < length l.store) l.formulas.items;
  free : All (λ id. IsQuantifierFree (tree_at l.store id)) l.formulas.items;
  grows : Grows l.fn.store l.store;
  begun : 0 < l.reader.given;
  reads : l.reader.stopped ≡ None;
  version : l.reader.version ≡ l.fn.reader.version;
  leads : (task : Task) (answer : Answer) → ComesTo task (Rewriting answer (named l.fn.store l.fn.formulas.items)) l.fn.reader.given (to_give l.fn.reader.rest (g.S.Source.left l.fn.source)) (Rewriting answer (named l.store l.formulas.items)) l.reader.given (to_give l.reader.rest (g.S.Source.left l.source));
  took : TookLines g.S.Source.read_gives g.S.Source.left l.fn.reader l.fn.source l.reader.given l.reader.rest l.reader.taken l.source;
  telling : TellsAsBefore (g.S.Source.left l.fn.source) (g.S.Source.left l.source);
  count : g.S.Source.faults l.fn.source ≤ g.S.Source.faults l.source;
}
