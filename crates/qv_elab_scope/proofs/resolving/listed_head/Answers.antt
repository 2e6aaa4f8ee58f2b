use Rattle.std.proofs.Common.{◌≡◌, [], ◌∷◌, List, sym, ap, subst, ◌∙◌}
use Rattle.std.specs.Prelude.{Result}
use Rattle.qv_elab_defs.specs.Tokens.{Number}
use Rattle.qv_elab_defs.specs.Faults.{Fault}
use Rattle.qv_elab_defs.specs.Heads.{Head}
use Rattle.qv_elab_items.specs.Listed.{meant}
use Rattle.qv_elab_scope.specs.Headed.{IsTold}
use Rattle.qv_elab_scope.proofs.NamedHeads.{listed-indexed}
use Rattle.qv_elab_scope.proofs.resolving.listed_head.Goals as goal

not-none : (n : Number) (ns : List Number) → n ∷ ns ≡ [] → ⊥
not-none n ns e = cc

pub returns-in-Some-indexed_name : goal.returns-in-Some-indexed_name
returns-in-Some-indexed_name c = λ trees defs at s.
    let parts = c.in-Some-indexed_name.ensures in
    let name = c.in-Some-indexed_name.name in
    let shape = sym c.shape_of.ensures ∙ ap meant c.in-Indexed.is in
    let whole = listed-indexed defs c.args.place c.args.head_place c.args.text.now c.in-Some.first.now c.in-Some.others.now c.args.items.now name.place name.name.now parts.0 parts.1 c.in-Some.ensures.cases.0 shape parts.2 in
    subst (λ (r : Result Head Fault). IsTold defs at r c.named_head.result) (sym whole)
    (c.named_head.ensures trees defs (parts.0 ∷ parts.1) at s parts.3 (λ none. absurd (not-none parts.0 parts.1 none)))
