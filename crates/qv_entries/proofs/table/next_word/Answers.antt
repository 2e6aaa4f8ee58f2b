-- The next term of the walk, and its word.
use Rattle.std.proofs.Common.{◌≡◌, Some, length, slice_get, refl}
use Rattle.qv_entries.proofs.Tables.{item-here, next-within, next-term, kept-push}
use Rattle.qv_entries.proofs.table.next_word.Goals as goal

pub evaluate-requires-clause-id : goal.evaluate-requires-clause-id
evaluate-requires-clause-id c =
    let ids = c.args.walk.now in
    let words = c.args.words.now in
    let at : slice_get ids (length words) ≡ Some c.index-terms-place.result =
    item-here ids c.ids-terms.result.now words (length words) c.index-terms-place.result c.ids-terms.ensures refl c.requires.left c.index-terms-place.is in
    next-within c.args.store.now c.args.point.now ids words c.requires.kept c.requires.left c.index-terms-place.result at

pub evaluate-requires-clause-next : goal.evaluate-requires-clause-next
evaluate-requires-clause-next c =
    let ids = c.args.walk.now in
    let words = c.args.words.now in
    let at : slice_get ids (length words) ≡ Some c.index-terms-place.result =
    item-here ids c.ids-terms.result.now words (length words) c.index-terms-place.result c.ids-terms.ensures refl c.requires.left c.index-terms-place.is in
    next-term c.args.store.now c.args.point.now ids words c.requires.kept c.requires.left c.index-terms-place.result at

pub returns : goal.returns
returns c =
    let ids = c.args.walk.now in
    let words = c.args.words.now in
    let at : slice_get ids (length words) ≡ Some c.index-terms-place.result =
    item-here ids c.ids-terms.result.now words (length words) c.index-terms-place.result c.ids-terms.ensures refl c.requires.left c.index-terms-place.is in
    kept-push c.args.store.now c.args.point.now ids words c.requires.kept c.requires.left c.index-terms-place.result c.evaluate.result at c.evaluate.ensures
