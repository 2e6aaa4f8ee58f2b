use Rattle.std.proofs.Common.{sym, ◌∙◌, true, false}
use Rattle.qv_words.proofs.Equals.{eq-from_test}
use Rattle.qv_prenex_splits.proofs.Changing.{top-target, top-other, not-same}
use Rattle.qv_prenex_splits.proofs.rebuilding.top_term.Goals as goal

pub returns-then-eq-clause-put : goal.returns-then-eq-clause-put
returns-then-eq-clause-put c = top-target c.args.store.now c.args.target c.args.put c.args.id (eq-from_test c.args.id c.args.target (sym c.eq.ensures ∙ c.if-eq.true)) c.requires.put

pub returns-then-not-quantified-clause-put : goal.returns-then-not-quantified-clause-put
returns-then-not-quantified-clause-put c =
    top-other c.args.store.now c.args.target c.args.put c.args.id false c.quantified.ensures.shared (not-same c.args.id c.args.target (sym c.eq.ensures ∙ c.if-eq.false)) c.requires.id c.requires.target
    (sym c.quantified.ensures.quantified ∙ c.if-not-quantified.true)

pub returns-else-not-quantified-clause-put : goal.returns-else-not-quantified-clause-put
returns-else-not-quantified-clause-put c =
    top-other c.args.store.now c.args.target c.args.put c.args.id true c.quantified.ensures.shared (not-same c.args.id c.args.target (sym c.eq.ensures ∙ c.if-eq.false)) c.requires.id c.requires.target
    (sym c.quantified.ensures.quantified ∙ c.if-not-quantified.false)
