use Rattle.std.proofs.Common.{sym, ◌∙◌, subst}
use Rattle.qv_words.specs.declared.sort.Sort.TheVariants.{Bits}
use Rattle.qv_store.proofs.Replacement.{if-ok}
use Rattle.qv_rewrite_sums.specs.Held.{StandsAs}
use Rattle.qv_rewrite_sums.proofs.Applying.{both-stand}
use Rattle.qv_rewrite_sums.proofs.building.difference_term.Goals as goal

pub returns-clause-id : goal.returns-clause-id
returns-clause-id c =
    let whole = both-stand c.args.store.now c.args.width c.args.plus.now c.args.minus.now (sym c.is_empty-2.ensures ∙ c.if-is_empty-2.false) (sym c.is_empty.ensures ∙ c.if-is_empty.false) in
    if-ok c.put_difference.result (λ id s. subst (StandsAs c.put_difference.new.store (Bits c.args.width) id) whole s) c.put_difference.ensures.id
