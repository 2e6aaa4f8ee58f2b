use Rattle.std.proofs.Common.{◌≡◌, ◌+◌, ◌-◌, get_or, ap, ◌∙◌, arith}
use Rattle.qv_store.specs.declared.problem.Quant.TheVariants.{Exists}
use Rattle.qv_store.specs.Nodes.{tree_at}
use Rattle.qv_store.proofs.Replacement.{grows-more}
use Rattle.qv_qdimacs.specs.declared.files.Quantified.{Quantified}
use Rattle.qv_qdimacs.specs.Translation.{bound_by}
use Rattle.qv_qdimacs.proofs.Formed.{bound-formula}
use Rattle.qv_qdimacs.proofs.Standing.{at-put, bound-more}
use Rattle.qv_qdimacs.proofs.translating.put_prefix.Goals as goal

pub put_quantifier-requires : goal.put_quantifier-requires
put_quantifier-requires c = c.levels.invariant.formula

abbrev other : Quantified
other = record { quant = Exists; variable = 0 }

pub levels-preserved : goal.levels-preserved
levels-preserved c =
    let i = c.levels.invariant in
    let prefix = c.args.prefix.now in
    let n = c.levels.level - 1 in
    let q = get_or prefix n other in
    let next : n + 1 ≡ c.levels.level = omega (arith, c.levels-test.true) in
    let old = tree_at c.levels.store c.levels.formula in
    let at = c.in_ok-formula.ensures.id in
    record {
      grows = grows-more c.args.store.now c.levels.store c.put_quantifier.new.store i.grows c.in_ok-formula.ensures.grows;
      shared = c.in_ok-formula.ensures.shared;
      within = omega (arith, i.within);
      stands = record {
        below = at.below;
        tree = at.tree ∙ ap (bound_by q.quant n) i.stands.tree ∙ bound-more prefix c.levels.level n other (tree_at c.args.store.now c.args.body) next i.within;
      };
      formula = at-put c.put_quantifier.new.store c.in_ok-formula.formula (bound_by q.quant n old) (bound-formula q.quant n old i.formula.formula) at;
    }
