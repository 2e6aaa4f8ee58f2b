use Rattle.std.proofs.Common.{Some, set}
use Rattle.qv_words.specs.Choice.{with_term}
use Rattle.qv_words.specs.Replacement.{replaced}
use Rattle.qv_store.specs.Nodes.{tree_at}
use Rattle.qv_store.specs.Stores.{StandsAt}
use Rattle.qv_store.specs.Replacing.{put_by_level}
use Rattle.qv_choose_clauses.proofs.Placed.{if-other, put-back, level-sorts, level-stands}
use Rattle.qv_choose_clauses.proofs.placing.put_one.Goals as goal

pub put_in-made-requires-clause-sorts : goal.put_in-made-requires-clause-sorts
put_in-made-requires-clause-sorts c = level-sorts c.args.store.now c.args.put.now c.args.level c.args.term (tree_at c.args.store.now c.args.region) c.requires.none c.requires.level c.requires.sorts

pub returns-clause-same : goal.returns-clause-same
returns-clause-same c = put-back c.args.put.now c.args.level (Some c.args.term) c.requires.none

pub returns-clause-id : goal.returns-clause-id
returns-clause-id c =
    if-other c.put_in-made.result (λ made. StandsAt c.put_in-made.new.self made (replaced (put_by_level c.args.store.now (set c.args.put.now c.args.level (Some c.args.term))) (tree_at c.args.store.now c.args.region)))
    (λ made. StandsAt c.put_in-made.new.self made (with_term c.args.level (tree_at c.args.store.now c.args.term) (tree_at c.args.store.now c.args.region)))
    (λ made h. level-stands c.args.store.now c.put_in-made.new.self c.args.put.now c.args.level c.args.term made (tree_at c.args.store.now c.args.region) c.requires.none c.requires.level h)
    c.put_in-made.ensures.id
