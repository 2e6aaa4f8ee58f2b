use Rattle.std.proofs.Common.{◌≡◌, ◌∷◌, ◌++◌, [], List, ℕ, false, get_or, take, append_assoc, sym, ap, ◌∙◌}
use Rattle.qv_qdimacs.specs.Outer.{given}
use Rattle.qv_shell_qdimacs.specs.Texts.{literal_text, literals_text}
use Rattle.qv_shell_qdimacs.proofs.Printed.{literals-more}
use Rattle.qv_shell_qdimacs.proofs.texts.push_values.Goals as goal

pub literals-preserved : goal.literals-preserved
literals-preserved c =
    let outer = c.args.outer.now in
    let values = c.args.values.now in
    let at = c.literals.at in
    let front : List ℕ = c.args.text.now.items ++ 118 ∷ [] in
    let last : List ℕ = 32 ∷ literal_text (get_or outer at 0) (get_or values at false) in
    let so_far = literals_text (given (take at outer) (take at values)) in
    c.in_ok-push_literal.ensures ∙ ap (λ (t : List ℕ). t ++ last) c.literals.invariant ∙ append_assoc front so_far last
    ∙ ap (λ (t : List ℕ). front ++ t) (sym (literals-more outer values at c.literals-test.true c.requires))
