use Rattle.std.proofs.Common.{◌∷◌, [], ℕ, List, subst, sym}
use Rattle.qv_store.proofs.Evaluation.{one-of}
use Rattle.qv_entries.proofs.ShallowWords.{applied-word, one-value, AreWordsOf}
use Rattle.qv_entries.proofs.shallow.word_of_one.Goals as goal

pub leaf_word-requires-clause-value : goal.leaf_word-requires-clause-value
leaf_word-requires-clause-value c =
    let kids = one-of c.args.kids.now c.kid-item.result c.in-len1.len_at_least c.in-len1.len_below c.kid-item.is in
    one-value c.args.point.now c.args.store.now c.args.op c.args.kids.now c.kid-item.result kids c.requires.value

pub returns-in_ok-word-in-len1 : goal.returns-in_ok-word-in-len1
returns-in_ok-word-in-len1 c =
    let kids = one-of c.args.kids.now c.kid-item.result c.in-len1.len_at_least c.in-len1.len_below c.kid-item.is in
    let args = c.in_ok-word-in-len1.word ∷ [] in
    applied-word c.args.point.now c.args.store.now c.args.op c.args.kids.now args c.apply.result
    (subst (λ (ks : List ℕ). AreWordsOf c.args.point.now c.args.store.now ks args) (sym kids) (c.in_ok-word-in-len1.ensures, tt))
    c.apply.ensures.sort c.apply.ensures.value
