use Rattle.std.proofs.Common.{◌<◌, ℕ, Option, length, sym, ◌∙◌, subst}
use Rattle.std.specs.Prelude.{unwrap_or}
use Rattle.qv_words.specs.InverseLaws.{IsOver}
use Rattle.qv_words.specs.Choice.{put_in_row}
use Rattle.qv_terms.specs.View.{tree}
use Rattle.qv_store.specs.Nodes.{tree_at}
use Rattle.qv_store.specs.Stores.{StandsAt}
use Rattle.qv_store.proofs.Replacement.{grows-more}
use Rattle.qv_choose_paths.specs.declared.ways.Step.{Step}
use Rattle.qv_choose_paths.specs.Rows.{sort_at}
use Rattle.qv_choose_paths.specs.Steps.{StepsDown, IsStep}
use Rattle.qv_choose_paths.proofs.SceneLaws.{scene-grows}
use Rattle.qv_choose_paths.proofs.GoingLaws.{other-below, put-over, put-way, put-sort, put-goes}
use Rattle.qv_choose_paths.proofs.descending.put_down.Goals as goal

pub put_row-requires-clause-other : goal.put_row-requires-clause-other
put_row-requires-clause-other c =
    let down : StepsDown c.args.sight.now.place c.down.store c.args.sight.now.walk c.down.at c.in-Some.step =
    subst (λ (q : Option Step). IsStep c.args.sight.now.place c.down.store c.args.sight.now.walk c.down.at q) c.in-Some.is c.in_ok-step.ensures in
    subst (λ (n : ℕ). n < length c.down.store) (sym c.unwrap_or-other.ensures) (other-below c.down.store c.args.sight.now c.down.at c.in-Some.step c.down.made c.down.invariant.scene down c.down.invariant.made)

pub put_row-requires-clause-over : goal.put_row-requires-clause-over
put_row-requires-clause-over c =
    let down : StepsDown c.args.sight.now.place c.down.store c.args.sight.now.walk c.down.at c.in-Some.step =
    subst (λ (q : Option Step). IsStep c.args.sight.now.place c.down.store c.args.sight.now.walk c.down.at q) c.in-Some.is c.in_ok-step.ensures in
    subst (λ (n : ℕ). IsOver (sort_at c.down.store n) (sort_at c.down.store c.down.made) (tree c.in-Some.step.row)) (sym c.unwrap_or-other.ensures)
    (put-over c.down.store c.args.sight.now c.down.at c.in-Some.step c.down.made down c.down.invariant.sort)

pub down-preserved : goal.down-preserved
down-preserved c =
    let down : StepsDown c.args.sight.now.place c.down.store c.args.sight.now.walk c.down.at c.in-Some.step =
    subst (λ (q : Option Step). IsStep c.args.sight.now.place c.down.store c.args.sight.now.walk c.down.at q) c.in-Some.is c.in_ok-step.ensures in
    let stands : StandsAt c.put_row.new.store c.in_ok-made.made (put_in_row (tree_at c.down.store (unwrap_or c.in-Some.step.other c.down.made)) (tree_at c.down.store c.down.made) (tree c.in-Some.step.row)) =
    subst (λ (n : ℕ). StandsAt c.put_row.new.store c.in_ok-made.made (put_in_row (tree_at c.down.store n) (tree_at c.down.store c.down.made) (tree c.in-Some.step.row))) c.unwrap_or-other.ensures c.in_ok-made.ensures.id in
    record {
      grows = grows-more c.args.store.now c.down.store c.put_row.new.store c.down.invariant.grows c.put_row.ensures.grows;
      scene = scene-grows c.down.store c.put_row.new.store c.args.sight.now c.put_row.ensures.grows c.in_ok-made.ensures.shared c.down.invariant.scene;
      at = down.next;
      way = put-way c.args.sight.now c.down.store c.put_row.new.store c.down.at c.down.made c.in_ok-made.made c.in-Some.step c.down.invariant.scene down c.put_row.ensures.grows c.down.invariant.sort c.down.invariant.made stands;
      made = stands.below;
      sort = put-sort c.args.sight.now c.down.store c.put_row.new.store c.down.at c.down.made c.in_ok-made.made c.in-Some.step c.down.invariant.scene down c.put_row.ensures.grows c.down.invariant.sort c.down.invariant.made stands;
      goes = c.down.invariant.goes ∙ put-goes c.args.sight.now c.down.store c.put_row.new.store c.down.at c.down.made c.in_ok-made.made c.in-Some.step c.down.invariant.scene down c.put_row.ensures.grows c.down.invariant.sort c.down.invariant.made stands;
    }

pub down-preserved-in_ok-made : goal.down-preserved-in_ok-made
down-preserved-in_ok-made c =
    let down : StepsDown c.args.sight.now.place c.down.store c.args.sight.now.walk c.down.at c.in-Some.step =
    subst (λ (q : Option Step). IsStep c.args.sight.now.place c.down.store c.args.sight.now.walk c.down.at q) c.in-Some.is c.in_ok-step.ensures in
    let stands : StandsAt c.put_row.new.store c.in_ok-made.made (put_in_row (tree_at c.down.store (unwrap_or c.in-Some.step.other c.down.made)) (tree_at c.down.store c.down.made) (tree c.in-Some.step.row)) =
    subst (λ (n : ℕ). StandsAt c.put_row.new.store c.in_ok-made.made (put_in_row (tree_at c.down.store n) (tree_at c.down.store c.down.made) (tree c.in-Some.step.row))) c.unwrap_or-other.ensures c.in_ok-made.ensures.id in
    record {
      grows = grows-more c.args.store.now c.down.store c.put_row.new.store c.down.invariant.grows c.put_row.ensures.grows;
      scene = scene-grows c.down.store c.put_row.new.store c.args.sight.now c.put_row.ensures.grows c.in_ok-made.ensures.shared c.down.invariant.scene;
      at = down.next;
      way = put-way c.args.sight.now c.down.store c.put_row.new.store c.down.at c.down.made c.in_ok-made.made c.in-Some.step c.down.invariant.scene down c.put_row.ensures.grows c.down.invariant.sort c.down.invariant.made stands;
      made = stands.below;
      sort = put-sort c.args.sight.now c.down.store c.put_row.new.store c.down.at c.down.made c.in_ok-made.made c.in-Some.step c.down.invariant.scene down c.put_row.ensures.grows c.down.invariant.sort c.down.invariant.made stands;
      goes = c.down.invariant.goes ∙ put-goes c.args.sight.now c.down.store c.put_row.new.store c.down.at c.down.made c.in_ok-made.made c.in-Some.step c.down.invariant.scene down c.put_row.ensures.grows c.down.invariant.sort c.down.invariant.made stands;
    }

pub returns-in_err-made-clause-grows : goal.returns-in_err-made-clause-grows
returns-in_err-made-clause-grows c = grows-more c.args.store.now c.down.store c.put_row.new.store c.down.invariant.grows c.put_row.ensures.grows
