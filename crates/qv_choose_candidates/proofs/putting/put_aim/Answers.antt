use Rattle.qv_store.proofs.Replacement.{grows-more}
use Rattle.qv_terms.specs.View.{tree}
use Rattle.qv_choose_paths.proofs.SceneLaws.{earlier-below, lawful-at, scene-grows}
use Rattle.qv_choose_candidates.proofs.PutLaws.{aim-row, aim-put}
use Rattle.qv_choose_candidates.proofs.putting.put_aim.Goals as goal

pub target_row-requires : goal.target_row-requires
target_row-requires c =
    lawful-at c.args.store.now c.args.other c.sort.result c.sort.ensures.shared (earlier-below c.args.store.now c.args.sight.now.walk c.args.other c.requires.scene.walk c.requires.aim.other_there) c.sort.ensures.sort

pub put_row-requires-clause-sorted : goal.put_row-requires-clause-sorted
put_row-requires-clause-sorted c =
    aim-row c.args.store.now c.args.sight.now c.args.side c.args.other c.args.target c.sort.result (tree c.in_ok-row.row) c.requires.scene c.requires.aim c.sort.ensures.sort c.in_ok-row.ensures

pub put_down-requires-clause-scene : goal.put_down-requires-clause-scene
put_down-requires-clause-scene c = scene-grows c.args.store.now c.put_row.new.store c.args.sight.now c.put_row.ensures.grows c.in_ok-aim.ensures.shared c.requires.scene

pub returns-clause-put : goal.returns-clause-put
returns-clause-put c =
    aim-put c.args.store.now c.put_row.new.store c.put_down.new.store c.args.sight.now c.args.side c.args.other c.in_ok-aim.aim c.in_ok-made.made c.args.target c.sort.result (tree c.in_ok-row.row)
    c.requires.scene c.requires.aim c.sort.ensures.sort c.in_ok-row.ensures c.put_row.ensures.grows c.in_ok-aim.ensures.id c.in_ok-made.ensures.id

pub returns-in_err-aim-clause-grows : goal.returns-in_err-aim-clause-grows
returns-in_err-aim-clause-grows c = c.put_row.ensures.grows

pub returns-in_err-made-clause-grows : goal.returns-in_err-made-clause-grows
returns-in_err-made-clause-grows c = grows-more c.args.store.now c.put_row.new.store c.put_down.new.store c.put_row.ensures.grows c.put_down.ensures.grows

pub returns-clause-grows : goal.returns-clause-grows
returns-clause-grows c = grows-more c.args.store.now c.put_row.new.store c.put_down.new.store c.put_row.ensures.grows c.put_down.ensures.grows
