use Rattle.std.proofs.Common.{Option, subst}
use Rattle.std.specs.Prelude.{IfSome}
use Rattle.qv_prenex_splits.specs.declared.split_store.SideMemos.{SideMemos}
use Rattle.qv_prenex_splits.specs.Sides.{AreMadeFor}
use Rattle.qv_prenex_splits.proofs.SplitTerms.{none-made}
use Rattle.qv_prenex_splits.proofs.split_store.kept_or_new.Goals as goal

pub returns-in-Some : goal.returns-in-Some
returns-in-Some c = λ trees whole low h. subst (λ (o : Option SideMemos). IfSome o (AreMadeFor trees whole)) c.in-Some.is h

pub returns-in-None : goal.returns-in-None
returns-in-None c = λ trees whole low h. none-made trees whole c.new-yes.result c.new-no.result low c.new-yes.ensures c.new-no.ensures
