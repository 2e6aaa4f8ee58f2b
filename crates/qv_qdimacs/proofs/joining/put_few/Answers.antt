use Rattle.std.proofs.Common.{sym, ap, subst, ◌∙◌}
use Rattle.std.specs.Prelude.{IfOk}
use Rattle.std.specs.Option.{option_copied}
use Rattle.qv_words.specs.Tree.{Tree}
use Rattle.qv_store.specs.Stores.{StandsAt}
use Rattle.qv_qdimacs.proofs.Pairs.{few-one, few-none}
use Rattle.qv_qdimacs.proofs.joining.put_few.Goals as goal

pub returns-in-Some-clause-id : goal.returns-in-Some-clause-id
returns-in-Some-clause-id c =
    few-one c.args.store.now c.args.both c.args.ids.now c.in-Some.id.now c.requires.ids c.requires.few (sym c.first.ensures.value ∙ ap option_copied c.in-Some.is)

pub returns-in-None-clause-id : goal.returns-in-None-clause-id
returns-in-None-clause-id c =
    subst (λ (t : Tree). IfOk c.put_truth.result (λ id. StandsAt c.put_truth.new.store id t))
    (sym (few-none c.args.store.now c.args.both c.args.ids.now (sym c.first.ensures.value ∙ ap option_copied c.in-None.is))) c.put_truth.ensures.id
