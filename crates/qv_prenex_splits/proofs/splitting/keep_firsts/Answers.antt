use Rattle.std.proofs.Common.{ℕ, List, sym, subst}
use Rattle.std.proofs.lemmas.List.Elements.{All-get_or}
use Rattle.qv_words.specs.Tree.{Tree}
use Rattle.qv_prenex_splits.specs.Sides.{IsFirstIte}
use Rattle.qv_prenex_splits.proofs.splitting.keep_firsts.Goals as goal

pub keep_first-requires : goal.keep_first-requires
keep_first-requires c =
    let here = All-get_or (λ id. IsFirstIte c.args.store.now id c.args.ite.now) c.args.above.now c.each.id-index c.id-item.result c.each-test.true c.requires in
    subst (λ (trees : List Tree). IsFirstIte trees c.id-item.result c.args.ite.now) (sym c.each.invariant) (subst (λ (k : ℕ). IsFirstIte c.args.store.now k c.args.ite.now) (sym c.id-item.is) here)
