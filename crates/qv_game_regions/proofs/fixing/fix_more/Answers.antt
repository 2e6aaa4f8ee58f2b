use Rattle.std.proofs.Common.{List, map, ap, ◌∙◌}
use Rattle.std.proofs.lemmas.List.{take_all}
use Rattle.qv_words.specs.Tree.{Tree, tree_sort}
use Rattle.qv_words.specs.Problem.{conjunction_with}
use Rattle.qv_store.specs.Nodes.{tree_at}
use Rattle.qv_store.proofs.Replacement.{grown-tree, grown-within, grows-more}
use Rattle.qv_game_regions.specs.declared.run.Run.{Run}
use Rattle.qv_game_regions.specs.Runs.{fixing_at}
use Rattle.qv_game_regions.proofs.Equations.{and-bool, runs-more}
use Rattle.qv_game_regions.proofs.fixing.fix_more.Goals as goal

pub put_and-requires : goal.put_and-requires
put_and-requires c =
    let now = c.runs.store in
    let mid = c.fix_run-in-runs.new.store in
    let grows = c.fix_run-in-runs.ensures.grows in
    record {
      a = grown-within now mid grows c.runs.region c.runs.invariant.stands.below;
      b = c.in_ok-equation.ensures.id.below;
      a_bool = ap (λ (t : Tree). tree_sort t) (grown-tree now mid grows c.runs.region c.runs.invariant.stands.below) ∙ c.runs.invariant.bool;
      b_bool = c.in_ok-equation.ensures.bool;
    }

pub runs-preserved : goal.runs-preserved
runs-preserved c =
    let old = c.args.store.now in
    let now = c.runs.store in
    let mid = c.fix_run-in-runs.new.store in
    let new = c.put_and.new.store in
    let point = c.args.point.now in
    let rest = c.args.rest.now in
    let grows = c.fix_run-in-runs.ensures.grows in
    let so = grown-tree now mid grows c.runs.region c.runs.invariant.stands.below ∙ c.runs.invariant.stands.tree in
    let none : Run = record { place = 0; high = 0; low = 0 } in
    let whole = runs-more point c.args.first rest c.runs.run-index none (tree_at mid c.runs.region) (tree_at mid c.in_ok-equation.equation) c.runs-test.true so c.in_ok-equation.ensures.id.tree in
    record {
      grows = grows-more old now new c.runs.invariant.grows (grows-more now mid new grows c.put_and.ensures.grows);
      shared = c.put_and.ensures.shared;
      stands = record { below = c.in_ok-region-2.ensures.id.below; tree = c.in_ok-region-2.ensures.id.tree ∙ whole };
      bool = ap (λ (t : Tree). tree_sort t) c.in_ok-region-2.ensures.id.tree
          ∙ and-bool (tree_at mid c.runs.region) (tree_at mid c.in_ok-equation.equation)
          (ap (λ (t : Tree). tree_sort t) (grown-tree now mid grows c.runs.region c.runs.invariant.stands.below) ∙ c.runs.invariant.bool) c.in_ok-equation.ensures.bool;
    }

pub returns-clause-id : goal.returns-clause-id
returns-clause-id c =
    let all = ap (λ (rs : List Run). conjunction_with (fixing_at c.args.point.now c.args.first) (map (fixing_at c.args.point.now) rs)) (take_all c.runs.run-index c.args.rest.now c.runs-test.false) in
    record { below = c.runs.invariant.stands.below; tree = c.runs.invariant.stands.tree ∙ all }

pub returns-in_err-equation-clause-grows : goal.returns-in_err-equation-clause-grows
returns-in_err-equation-clause-grows c = grows-more c.args.store.now c.runs.store c.fix_run-in-runs.new.store c.runs.invariant.grows c.fix_run-in-runs.ensures.grows

pub returns-in_err-region-2-clause-grows : goal.returns-in_err-region-2-clause-grows
returns-in_err-region-2-clause-grows c = grows-more c.args.store.now c.fix_run-in-runs.new.store c.put_and.new.store (grows-more c.args.store.now c.runs.store c.fix_run-in-runs.new.store c.runs.invariant.grows c.fix_run-in-runs.ensures.grows) c.put_and.ensures.grows

pub returns-clause-grows : goal.returns-clause-grows
returns-clause-grows c = c.runs.invariant.grows
