use Rattle.std.proofs.Common.{◌∷◌, [], ℕ, List, subst, sym}
use Rattle.qv_store.proofs.Evaluation.{two-of}
use Rattle.qv_entries.proofs.ShallowWords.{applied-word, two-values, AreWordsOf}
use Rattle.qv_entries.proofs.shallow.word_of_two.Goals as goal

pub part_word-requires-clause-value : goal.part_word-requires-clause-value
part_word-requires-clause-value c =
    let kids = two-of c.args.kids.now c.a-item.result c.b-item.result c.in-len2.len_at_least c.in-len2.len_below c.a-item.is c.b-item.is in
    (two-values c.args.point.now c.args.store.now c.args.op c.args.kids.now c.a-item.result c.b-item.result kids c.requires.value).0

pub part_word-requires-in-len2-clause-value : goal.part_word-requires-in-len2-clause-value
part_word-requires-in-len2-clause-value c =
    let kids = two-of c.args.kids.now c.a-item.result c.b-item.result c.in-len2.len_at_least c.in-len2.len_below c.a-item.is c.b-item.is in
    (two-values c.args.point.now c.args.store.now c.args.op c.args.kids.now c.a-item.result c.b-item.result kids c.requires.value).1

pub returns-in_ok-second-in-len2 : goal.returns-in_ok-second-in-len2
returns-in_ok-second-in-len2 c =
    let kids = two-of c.args.kids.now c.a-item.result c.b-item.result c.in-len2.len_at_least c.in-len2.len_below c.a-item.is c.b-item.is in
    let args = c.in_ok-first-in-len2.first ∷ c.in_ok-second-in-len2.second ∷ [] in
    applied-word c.args.point.now c.args.store.now c.args.op c.args.kids.now args c.apply.result
    (subst (λ (ks : List ℕ). AreWordsOf c.args.point.now c.args.store.now ks args) (sym kids) (c.in_ok-first-in-len2.ensures, (c.in_ok-second-in-len2.ensures, tt)))
    c.apply.ensures.sort c.apply.ensures.value
