use Rattle.qv_store.proofs.Replacement.{grows-more}
use Rattle.std.proofs.Common.{refl}
use Rattle.qv_prenex_splits.proofs.Ruling.{yes-sort, no-sort, choice-grows}
use Rattle.qv_prenex_splits.proofs.SplitTerms.{split-into, made-grows, made-yes, made-no, made-both}
use Rattle.qv_prenex_splits.proofs.sides.split_with.Goals as goal

pub put_for-requires-clause-sort : goal.put_for-requires-clause-sort
put_for-requires-clause-sort c = yes-sort c.args.store.now c.args.ite.now c.requires.shared c.requires.ite

pub put_for-requires-clause-made : goal.put_for-requires-clause-made
put_for-requires-clause-made c = made-yes c.args.store.now c.args.ite.now c.args.memos.now c.requires.ite c.requires.memos

pub put_for-requires-2-clause-ite : goal.put_for-requires-2-clause-ite
put_for-requires-2-clause-ite c = choice-grows c.args.store.now c.put_for.new.store c.args.ite.now c.put_for.ensures.grows c.requires.ite

pub put_for-requires-2-clause-sort : goal.put_for-requires-2-clause-sort
put_for-requires-2-clause-sort c =
    no-sort c.put_for.new.store c.args.ite.now c.put_for.ensures.shared (choice-grows c.args.store.now c.put_for.new.store c.args.ite.now c.put_for.ensures.grows c.requires.ite)

pub put_for-requires-2-clause-made : goal.put_for-requires-2-clause-made
put_for-requires-2-clause-made c =
    made-no c.put_for.new.store c.args.ite.now c.args.memos.now (choice-grows c.args.store.now c.put_for.new.store c.args.ite.now c.put_for.ensures.grows c.requires.ite)
    (made-grows c.args.store.now c.put_for.new.store c.args.ite.now.whole c.args.memos.now c.put_for.ensures.grows c.requires.memos)

pub returns-clause-sides : goal.returns-clause-sides
returns-clause-sides c =
    split-into c.args.store.now c.put_for.new.store c.put_for-2.new.store c.args.ite.now c.args.term c.in_ok-yes.yes c.in_ok-no.no (record { condition = c.args.ite.now.condition; yes = c.in_ok-yes.yes; no = c.in_ok-no.no }) refl c.put_for.ensures.grows c.put_for-2.ensures.grows c.requires.term c.requires.ite c.requires.first
    c.in_ok-yes.ensures.id c.in_ok-no.ensures.id

pub returns-clause-memos : goal.returns-clause-memos
returns-clause-memos c =
    made-both c.args.store.now c.put_for.new.store c.put_for-2.new.store c.args.ite.now (record { yes = c.put_for.new.made; no = c.put_for-2.new.made }) c.put_for.ensures.grows c.put_for-2.ensures.grows c.requires.ite c.in_ok-yes.ensures.made c.in_ok-no.ensures.made

pub returns-in_err-no-clause-grows : goal.returns-in_err-no-clause-grows
returns-in_err-no-clause-grows c = grows-more c.args.store.now c.put_for.new.store c.put_for-2.new.store c.put_for.ensures.grows c.put_for-2.ensures.grows

pub returns-clause-grows : goal.returns-clause-grows
returns-clause-grows c = grows-more c.args.store.now c.put_for.new.store c.put_for-2.new.store c.put_for.ensures.grows c.put_for-2.ensures.grows

pub returns-clause-shared : goal.returns-clause-shared
returns-clause-shared c = c.put_for-2.ensures.shared
