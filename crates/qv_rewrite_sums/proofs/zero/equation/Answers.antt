use Rattle.std.proofs.Common.{sym, subst}
use Rattle.qv_words.specs.declared.sort.Sort.TheVariants.{Bool}
use Rattle.qv_words.specs.declared.op.Op.TheVariants.{Equal}
use Rattle.qv_words.specs.Sums.{sum_term}
use Rattle.qv_store.specs.Stores.{StandsAt}
use Rattle.qv_store.proofs.Replacement.{if-ok}
use Rattle.qv_rewrite_sums.specs.Held.{sum_at, IsWord, AreOfWords}
use Rattle.qv_rewrite_sums.proofs.Fitting.{equal-rank, sort-binary}
use Rattle.qv_rewrite_sums.proofs.Built.{second-sum, two-terms}
use Rattle.qv_rewrite_sums.proofs.zero.equation.Goals as goal

pub sum_term-requires-2-clause-fits : goal.sum_term-requires-2-clause-fits
sum_term-requires-2-clause-fits c =
    subst (AreOfWords c.args.width) (sym (second-sum c.args.store.now c.sum_term.new.store c.args.width c.args.b.now c.sum_term.ensures.grows c.requires.b)) c.requires.b

pub returns-clause-id : goal.returns-clause-id
returns-clause-id c =
    let w = c.args.width in
    let first = sum_term w (sum_at c.args.store.now c.args.a.now) in
    let second = sum_term w (sum_at c.args.store.now c.args.b.now) in
    let same = second-sum c.args.store.now c.sum_term.new.store w c.args.b.now c.sum_term.ensures.grows c.requires.b in
    let whole = two-terms c.args.store.now c.sum_term.new.store c.sum_term-2.new.store Equal w c.in_ok-first.first c.in_ok-second.second c.args.a.now c.args.b.now c.sum_term.ensures.grows c.sum_term-2.ensures.grows c.requires.b c.in_ok-first.ensures.id c.in_ok-second.ensures.id in
    let sort = sort-binary Equal w Bool first second c.in_ok-first.ensures.id.sort (subst (λ p. IsWord w (sum_term w p)) same c.in_ok-second.ensures.id.sort) (equal-rank w) in
    if-ok c.put_two.result (λ id at. record { stands = subst (StandsAt c.put_two.new.store id) whole at; sort = sort }) c.put_two.ensures.id
