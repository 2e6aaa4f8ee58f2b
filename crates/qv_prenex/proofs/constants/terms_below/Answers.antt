use Rattle.std.proofs.Common.{ℕ, List, map, sym, subst}
use Rattle.std.specs.List.{AllByRecursion}
use Rattle.std.proofs.lemmas.List.{take_all}
use Rattle.qv_words.specs.Truth.{constants_of_each}
use Rattle.qv_store.specs.Nodes.{tree_at}
use Rattle.qv_store.specs.Walks.{named, IsWalk}
use Rattle.qv_prenex.proofs.Leaves.{IsWithin, AllStand, leaves-within, all-leaves, walk-none, walk-formula, walk-stand}
use Rattle.qv_prenex.proofs.constants.terms_below.Goals as goal

pub formulas-init : goal.formulas-init
formulas-init c = subst (λ (ids : List ℕ). record { walk : IsWalk c.args.store.now ids; within : AllByRecursion (IsWithin (constants_of_each (map (tree_at c.args.store.now) c.args.formulas.now))) (named c.args.store.now ids); stand : Unit {0} })
    (sym c.new-terms.ensures)
    (record { walk = walk-none c.args.store.now; within = tt; stand = tt })

pub formulas-preserved : goal.formulas-preserved
formulas-preserved c =
    let trees = c.args.store.now in
    let fs = c.args.formulas.now in
    record {
      walk = c.in_ok-visit.ensures.walk;
      within = walk-formula trees c.formulas.terms c.visit.new.self fs c.formulas.id-index c.id-item.result c.formulas-test.true c.id-item.is c.in_ok-visit.ensures.order c.formulas.invariant.within;
      stand = walk-stand trees c.formulas.terms c.visit.new.self fs c.formulas.id-index c.id-item.result c.formulas-test.true c.id-item.is c.in_ok-visit.ensures.behind c.in_ok-visit.ensures.has c.formulas.invariant.stand;
    }

pub returns : goal.returns
returns c =
    let trees = c.args.store.now in
    let fs = c.args.formulas.now in
    let whole : AllStand (named trees c.formulas.terms) (map (tree_at trees) fs) =
    subst (λ (xs : List ℕ). AllStand (named trees c.formulas.terms) (map (tree_at trees) xs)) (take_all c.formulas.id-index fs c.formulas-test.false) c.formulas.invariant.stand in
    record {
      walk = c.formulas.invariant.walk;
      constants = record {
        from = leaves-within (constants_of_each (map (tree_at trees) fs)) (named trees c.formulas.terms) c.formulas.invariant.within;
        all = all-leaves (named trees c.formulas.terms) c.formulas.invariant.walk.shared (map (tree_at trees) fs) whole;
      };
    }
