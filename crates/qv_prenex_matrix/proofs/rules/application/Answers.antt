use borrow.Author.Tests.{ltb-true, ltb-false}
use Rattle.std.proofs.Common.{◌≡◌, ◌<◌, length, List, ℕ, [], ◌∷◌, sym, subst, arith}
use Rattle.qv_words.specs.Tree.{Apply}
use Rattle.qv_store.specs.Nodes.{trees_at}
use Rattle.qv_store.proofs.Evaluation.{one-of}
use Rattle.qv_prenex_laws.specs.RuleLaws.{application_rule}
use Rattle.qv_prenex_matrix.specs.Finding.{FindsRule}
use Rattle.qv_prenex_splits.proofs.Ruling.{few-split, many-split}
use Rattle.qv_prenex_matrix.proofs.rules.application.Goals as goal
use Rattle.qv_prenex_matrix.proofs.rules.application.Goals.{in_default-via-then-kids-lt1, in_default-via-else-kids-lt1+else-kids-lt2+else-kids-lt3+else-kids-lt4}

pub returns-in-len1 : goal.returns-in-len1
returns-in-len1 c =
    let trees = c.args.store.now in
    let all : c.args.kids.now ≡ c.a-item.result ∷ [] = one-of c.args.kids.now c.a-item.result c.in-len1.len_at_least c.in-len1.len_below c.a-item.is in
    let low : c.a-item.result < length trees = subst (λ (n : ℕ). n < length trees) (sym c.a-item.is) (c.requires 0 c.a-item.result (omega arith)) in
    subst (λ (ks : List ℕ). FindsRule trees c.args.plus (Apply c.args.op (trees_at trees ks)) (application_rule c.args.plus c.args.op (trees_at trees ks)) c.of_one.result) (sym all) (c.of_one.ensures trees c.args.plus low)

pub returns-in_default : goal.returns-in_default
returns-in_default c =
    elim c.in_default.branch [
      | in_default-via-then-kids-lt1 w ↦ few-split c.args.store.now c.args.plus c.args.op c.args.kids.now (omega (arith, ltb-true))
      | in_default-via-else-kids-lt1+else-kids-lt2+else-kids-lt3+else-kids-lt4 w ↦ many-split c.args.store.now c.args.plus c.args.op c.args.kids.now (omega (arith, ltb-false))
    ]
