use Rattle.std.proofs.Common.{ℕ, List, [], ◌∷◌, ◌++◌, map, slice_index_or, refl, ap, ◌∙◌, arith}
use Rattle.std.specs.Prelude.{Vec}
use Rattle.std.specs.declared.alloc.Global.{Global}
use Rattle.std.proofs.lemmas.List.{map-append, take_all}
use Rattle.qv_script_defs.specs.Parts.{spaced}
use Rattle.qv_script_stack.proofs.Stepping.{parts-count}
use Rattle.qv_script_terms.proofs.Asked.{part-at, part-begins}
use Rattle.qv_script_terms.proofs.Assumed.{texts-more}
use Rattle.qv_script_terms.proofs.assuming.texts_of.Goals as goal

pub spaced-requires-clause-at : goal.spaced-requires-clause-at
spaced-requires-clause-at c =
    let at = slice_index_or c.args.parts.now c.texts.part-index 0 in
    let p = part-at c.args.expr.now c.args.parts.now c.requires.parts.0 c.texts.part-index at 0 c.requires.parts.1 c.texts-test.true refl in
    part-begins c.args.expr.now at p.0 p.2

pub texts-preserved : goal.texts-preserved
texts-preserved c = λ es parts.
    let a = c.args in
    let part = part-at a.expr.now a.parts.now es c.texts.part-index (slice_index_or a.parts.now c.texts.part-index 0) 0 parts c.texts-test.true refl in
    let text = c.in_ok-text.text in
    ap (λ (ts : List (Vec ℕ Global)). map (λ (t : Vec ℕ Global). t.items) ts) (c.push_reserved.ensures.items ∙ ap (λ (ts : List (Vec ℕ Global)). ts ++ text ∷ []) c.reserve.ensures.items)
    ∙ map-append (λ (t : Vec ℕ Global). t.items) c.texts.texts.items (text ∷ [])
    ∙ ap (λ (ts : List (List ℕ)). ts ++ text.items ∷ []) (c.texts.invariant es parts)
    ∙ texts-more es c.texts.part-index part.0 text.items part.1 (c.in_ok-text.ensures part.0 part.2)

pub returns : goal.returns
returns c = λ es parts.
    let count = parts-count c.args.expr.now c.args.parts.now es parts in
    c.texts.invariant es parts ∙ ap (map spaced) (take_all c.texts.part-index es (omega (arith, count, c.texts-test.false)))
