use Rattle.std.proofs.Common.{[], ◌∷◌, subst, sym}
use Rattle.qv_store.specs.Evaluating.{AreFound}
use Rattle.qv_store.proofs.Evaluation.{none-of, one-of, two-of, three-of, too-many}
use Rattle.qv_entries.proofs.table.apply_to.Goals as goal

pub apply-requires : goal.apply-requires
apply-requires c =
    c.requires.rank [] (subst (λ ks. AreFound c.args.walk.now c.args.words.now ks []) (sym (none-of c.args.kids.now c.in-empty.len_below)) tt)

pub apply-requires-in-len1 : goal.apply-requires-in-len1
apply-requires-in-len1 c =
    let kids = one-of c.args.kids.now c.a-item.result c.in-len1.len_at_least c.in-len1.len_below c.a-item.is in
    c.requires.rank (c.word_at.result ∷ []) (subst (λ ks. AreFound c.args.walk.now c.args.words.now ks (c.word_at.result ∷ [])) (sym kids) (c.word_at.ensures, tt))

pub returns-in-len1 : goal.returns-in-len1
returns-in-len1 c =
    let kids = one-of c.args.kids.now c.a-item.result c.in-len1.len_at_least c.in-len1.len_below c.a-item.is in
    record {
      args = c.word_at.result ∷ [];
      found = subst (λ ks. AreFound c.args.walk.now c.args.words.now ks (c.word_at.result ∷ [])) (sym kids) (c.word_at.ensures, tt);
      sort = c.apply-in-len1.ensures.sort;
      value = c.apply-in-len1.ensures.value;
    }

pub apply-requires-in-len2 : goal.apply-requires-in-len2
apply-requires-in-len2 c =
    let kids = two-of c.args.kids.now c.a-item-then-kids-lt3.result c.b-item.result c.in-len2.len_at_least c.in-len2.len_below c.a-item-then-kids-lt3.is c.b-item.is in
    c.requires.rank (c.word_at-in-len2.result ∷ c.word_at-in-len2-2.result ∷ []) (subst (λ ks. AreFound c.args.walk.now c.args.words.now ks (c.word_at-in-len2.result ∷ c.word_at-in-len2-2.result ∷ [])) (sym kids) (c.word_at-in-len2.ensures, (c.word_at-in-len2-2.ensures, tt)))

pub returns-in-len2 : goal.returns-in-len2
returns-in-len2 c =
    let kids = two-of c.args.kids.now c.a-item-then-kids-lt3.result c.b-item.result c.in-len2.len_at_least c.in-len2.len_below c.a-item-then-kids-lt3.is c.b-item.is in
    record {
      args = c.word_at-in-len2.result ∷ c.word_at-in-len2-2.result ∷ [];
      found = subst (λ ks. AreFound c.args.walk.now c.args.words.now ks (c.word_at-in-len2.result ∷ c.word_at-in-len2-2.result ∷ [])) (sym kids) (c.word_at-in-len2.ensures, (c.word_at-in-len2-2.ensures, tt));
      sort = c.apply-in-len2.ensures.sort;
      value = c.apply-in-len2.ensures.value;
    }

pub apply-requires-in-len3 : goal.apply-requires-in-len3
apply-requires-in-len3 c =
    let kids = three-of c.args.kids.now c.a-item-then-kids-lt4.result c.b-item-then-kids-lt4.result c.c-item.result c.in-len3.len_at_least c.in-len3.len_below c.a-item-then-kids-lt4.is c.b-item-then-kids-lt4.is c.c-item.is in
    c.requires.rank (c.word_at-in-len3.result ∷ c.word_at-in-len3-2.result ∷ c.word_at-in-len3-3.result ∷ []) (subst (λ ks. AreFound c.args.walk.now c.args.words.now ks (c.word_at-in-len3.result ∷ c.word_at-in-len3-2.result ∷ c.word_at-in-len3-3.result ∷ [])) (sym kids) (c.word_at-in-len3.ensures, (c.word_at-in-len3-2.ensures, (c.word_at-in-len3-3.ensures, tt))))

pub returns-in-len3 : goal.returns-in-len3
returns-in-len3 c =
    let kids = three-of c.args.kids.now c.a-item-then-kids-lt4.result c.b-item-then-kids-lt4.result c.c-item.result c.in-len3.len_at_least c.in-len3.len_below c.a-item-then-kids-lt4.is c.b-item-then-kids-lt4.is c.c-item.is in
    record {
      args = c.word_at-in-len3.result ∷ c.word_at-in-len3-2.result ∷ c.word_at-in-len3-3.result ∷ [];
      found = subst (λ ks. AreFound c.args.walk.now c.args.words.now ks (c.word_at-in-len3.result ∷ c.word_at-in-len3-2.result ∷ c.word_at-in-len3-3.result ∷ [])) (sym kids) (c.word_at-in-len3.ensures, (c.word_at-in-len3-2.ensures, (c.word_at-in-len3-3.ensures, tt)));
      sort = c.apply-in-len3.ensures.sort;
      value = c.apply-in-len3.ensures.value;
    }

pub unreachable-requires : goal.unreachable-requires
unreachable-requires c = too-many c.args.op c.args.walk.now c.args.words.now c.args.kids.now c.in-len4-up.len_at_least c.requires.kids c.requires.rank
