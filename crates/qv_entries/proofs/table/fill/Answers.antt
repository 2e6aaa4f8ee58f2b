-- One word more.
use Rattle.std.proofs.Common.{◌≡◌, ◌∷◌, ◌++◌, [], List, length, ap, sym, subst, ◌∙◌, arith}
use Rattle.qv_words.specs.declared.word.Word.{Word}
use Rattle.qv_entries.specs.Tables.{AreKept}
use Rattle.qv_entries.proofs.table.fill.Goals as goal

pub next_word-word-requires-clause-kept : goal.next_word-word-requires-clause-kept
next_word-word-requires-clause-kept c =
    subst (λ (ws : List Word). AreKept c.args.store.now c.args.point.now c.args.walk.now ws) (sym c.deref.ensures.value) c.terms.invariant

pub next_word-word-requires-clause-left : goal.next_word-word-requires-clause-left
next_word-word-requires-clause-left c =
    let same : length c.deref.result.now ≡ length c.terms.words.items = ap length c.deref.ensures.value in
    omega (arith, same, c.terms-test.true, c.len.ensures, c.len-in-terms.ensures, c.terms.words.ok)

pub terms-preserved : goal.terms-preserved
terms-preserved c =
    let more : c.deref.result.now ++ c.next_word-word.result ∷ [] ≡ c.push.new.self.items =
    ap (λ (ws : List Word). ws ++ c.next_word-word.result ∷ []) c.deref.ensures.value ∙ sym c.in_ok-push.ensures.items in
    subst (λ (ws : List Word). AreKept c.args.store.now c.args.point.now c.args.walk.now ws) more c.next_word-word.ensures

pub returns-clause-all : goal.returns-clause-all
returns-clause-all c = omega (arith, c.terms.invariant.many, c.terms-test.false, c.len.ensures, c.len-in-terms.ensures, c.terms.words.ok)
