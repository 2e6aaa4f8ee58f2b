use Rattle.std.proofs.Common.{ℕ, ◌+◌, ◌<◌, ◌≡◌, ◌∷◌, ◌++◌, [], List, Vec, Global, map, length, sym, ap, ◌∙◌, arith}
use Rattle.std.proofs.lemmas.List.{length-map, take_all}
use Rattle.qv_script_defs.specs.State.{placed, places_of}
use Rattle.qv_script_stack.specs.Held.{terms_in}
use Rattle.qv_shell_answer.proofs.Asking.{placed-more}
use Rattle.qv_shell_answer.proofs.cores.assumed_places.Goals as goal

abbrev texts_in : List (Vec ℕ Global) → List (List ℕ)
texts_in terms = map (λ t. t.items) terms

pub assumed-preserved : goal.assumed-preserved
assumed-preserved c =
    let terms = terms_in c.args.script.now.terms in
    let first = length c.assertions-first.result.now in
    let i = c.assumed.i in
    let same : length c.terms-terms.result.now ≡ length terms = ap length c.terms-terms.ensures in
    let count = length-map terms (λ (t : Vec ℕ Global). t.items) in
    let within : i < length (texts_in terms) = omega (arith, count, same, c.assumed-test.true) in
    c.in_ok-push.ensures.items ∙ ap (λ (ns : List ℕ). ns ++ (first + i) ∷ []) c.assumed.invariant ∙ sym (placed-more first (texts_in terms) i within)

pub returns : goal.returns
returns c =
    let terms = terms_in c.args.script.now.terms in
    let first = length c.assertions-first.result.now in
    let same : length c.terms-terms.result.now ≡ length terms = ap length c.terms-terms.ensures in
    let count = length-map terms (λ (t : Vec ℕ Global). t.items) in
    c.assumed.invariant
    ∙ ap (λ (xs : List (List ℕ)). places_of (placed first xs)) (take_all c.assumed.i (texts_in terms) (omega (arith, count, same, c.assumed-test.false)))
    ∙ ap (λ n. places_of (placed n (texts_in terms))) (ap length c.assertions-first.ensures)
