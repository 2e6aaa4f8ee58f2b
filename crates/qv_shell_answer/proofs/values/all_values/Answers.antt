use Rattle.std.proofs.Common.{◌≡◌, ◌++◌, ℕ, List, drop, length, take, ap, subst, ◌∙◌, arith}
use Rattle.std.proofs.Math.Seq.{take-append_seam}
use Rattle.qv_words.specs.declared.word.Word.{Word}
use Rattle.qv_words.specs.Word.{sorts_of, values_of}
use Rattle.qv_shell_answer.specs.Values.{filled}
use Rattle.qv_shell_answer.proofs.Zeros.{zeros-sort, zeros-value}
use Rattle.qv_shell_answer.proofs.values.all_values.Goals as goal

pub set_all-requires-clause-sorts : goal.set_all-requires-clause-sorts
set_all-requires-clause-sorts c = ap sorts_of c.deref_mut.ensures.value ∙ zeros-sort c.args.constants.now c.in_ok-words.words.items c.in_ok-words.ensures

pub returns-clause-values : goal.returns-clause-values
returns-clause-values c =
    let words = c.in_ok-words.words.items in
    let now = c.set_all.new.words in
    let long : length now ≡ c.in_ok-words.words.len = omega (arith, c.set_all.auto.words, c.deref_mut.ensures.len) in
    let rest = drop (length now) words in
    let whole : take c.in_ok-words.words.len (now ++ rest) ≡ now = subst (λ (n : ℕ). take n (now ++ rest) ≡ now) long (take-append_seam now rest) in
    ap values_of whole ∙ c.set_all.ensures.values ∙ ap (λ (ws : List Word). filled (values_of ws) c.args.given.now) c.deref_mut.ensures.value
    ∙ ap (λ (ns : List ℕ). filled ns c.args.given.now) (zeros-value c.args.constants.now words c.in_ok-words.ensures)

pub returns-clause-sorts : goal.returns-clause-sorts
returns-clause-sorts c =
    let words = c.in_ok-words.words.items in
    let now = c.set_all.new.words in
    let long : length now ≡ c.in_ok-words.words.len = omega (arith, c.set_all.auto.words, c.deref_mut.ensures.len) in
    let rest = drop (length now) words in
    let whole : take c.in_ok-words.words.len (now ++ rest) ≡ now = subst (λ (n : ℕ). take n (now ++ rest) ≡ now) long (take-append_seam now rest) in
    ap sorts_of whole ∙ c.set_all.ensures.sorts ∙ ap sorts_of c.deref_mut.ensures.value ∙ zeros-sort c.args.constants.now words c.in_ok-words.ensures
