use Rattle.std.proofs.Common.{◌≡◌, ◌≤◌, ℕ, List, length, take, sym, subst, ◌∙◌, arith}
use Rattle.std.specs.Prelude.{Vec}
use Rattle.std.specs.declared.alloc.Global.{Global}
use Rattle.std.proofs.lemmas.List.{take_all, length-map}
use Rattle.qv_words.proofs.Elements.{take-length}
use Rattle.qv_store.specs.Nodes.{tree_at}
use Rattle.qv_store.specs.Walks.{named}
use Rattle.qv_choose.specs.Listing.{numbers_in, AreListed, AreLess}
use Rattle.qv_choose.proofs.Lists.{none-listed, less-listed}
use Rattle.qv_choose.proofs.listing.listed.Goals as goal

pub formulas-init : goal.formulas-init
formulas-init c = record { many = c.in_ok-lists.ensures.many; listed = none-listed c.args.first (numbers_in c.in_ok-lists.lists.items) c.in_ok-lists.ensures.none }

pub list_one-requires-clause-less : goal.list_one-requires-clause-less
list_one-requires-clause-less c =
    let trees = c.args.store.now in
    let ids = c.args.formulas.now in
    let n = c.formulas.number in
    let within : n ≤ length ids = omega (arith, c.formulas-test.true) in
    let many : length (named trees (take n ids)) ≡ n = length-map (take n ids) (tree_at trees) ∙ take-length ids n within in
    subst (λ (vs : List (Vec ℕ Global)). AreLess n (numbers_in vs)) (sym c.deref_mut.ensures.value)
    (less-listed c.args.first n (named trees (take n ids)) (numbers_in c.formulas.lists.items) many c.formulas.invariant.listed)

pub returns-clause-listed : goal.returns-clause-listed
returns-clause-listed c =
    subst (λ (ns : List ℕ). AreListed c.args.first (named c.args.store.now ns) (numbers_in c.formulas.lists.items)) (take_all c.formulas.number c.args.formulas.now c.formulas-test.false) c.formulas.invariant.listed
