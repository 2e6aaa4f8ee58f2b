use Rattle.std.proofs.Common.{◌+◌, ◌≡◌, ◌∷◌, ℕ, List, drop, sym, ap, ◌∙◌}
use Rattle.std.proofs.lemmas.List.{drop_more}
use Rattle.qv_words.specs.Word.{values_of}
use Rattle.qv_solve_draw.specs.declared.values.ConstValue.{ConstValue}
use Rattle.qv_shell_answer.specs.Values.{filled}
use Rattle.qv_shell_answer.proofs.values.set_all.Goals as goal

pub values-preserved : goal.values-preserved
values-preserved c =
    let vs = c.args.given.now in
    let i = c.values.value-index in
    let v = c.value-item.result in
    let rest = drop (i + 1) vs in
    let front : drop i vs ≡ v ∷ rest = drop_more vs i v c.values-test.true ∙ ap (λ (x : ConstValue). x ∷ rest) (sym c.value-item.is) in (
      ap (λ (ns : List ℕ). filled ns rest) c.set_one.ensures.values ∙ sym (ap (λ (xs : List ConstValue). filled (values_of c.values.words) xs) front) ∙ c.values.invariant.0,
      c.set_one.ensures.sorts ∙ c.values.invariant.1,
    )
