use Rattle.std.proofs.Common.{◌++◌, ◌∷◌, [], ◌∙◌, ap, sym}
use Rattle.std.proofs.lemmas.List.{map-append}
use Rattle.qv_words.specs.Sums.{Monomial, Polynomial, constant}
use Rattle.qv_rewrite_sums.specs.Held.{monomial_at, sum_at}
use Rattle.qv_rewrite_sums.proofs.Combined.{monomial-is, opposite-one}
use Rattle.qv_rewrite_sums.proofs.combining.complement.Goals as goal

pub returns : goal.returns
returns c = λ trees.
    let w = c.args.width in
    let raw = c.in_ok-raw.raw.items in
    ap (sum_at trees) c.in_ok-push.ensures.items
    ∙ map-append (monomial_at trees) raw (c.in_ok-last.last ∷ [])
    ∙ ap (λ (m : Monomial). sum_at trees raw ++ m ∷ []) (monomial-is trees c.in_ok-last.last c.ones.result [] c.in_ok-last.ensures.coefficient c.in_ok-last.ensures.factors)
    ∙ ap (λ (l : Polynomial). l ++ constant c.ones.result ∷ []) (c.in_ok-raw.ensures trees)
    ∙ sym (opposite-one w c.ones.result (sum_at trees c.args.a.now) c.ones.ensures)
