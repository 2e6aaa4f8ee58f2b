use Rattle.std.proofs.Common.{◌∙◌, List, ℕ, ap, subst}
use Rattle.qv_qdimacs.specs.declared.files.Quantified.{Quantified}
use Rattle.qv_qdimacs.specs.Outer.{rest_of, outer_of}
use Rattle.qv_qdimacs.specs.Translation.{matrix_tree, bound_from}
use Rattle.qv_qdimacs.specs.Leaves.{ArePlaces, leaf_in}
use Rattle.qv_qdimacs.proofs.Formed.{leaves-formula}
use Rattle.qv_qdimacs.proofs.Standing.{at-put}
use Rattle.qv_qdimacs.proofs.Halves.{matrix-formula}
use Rattle.qv_qdimacs.proofs.Assembled.{formula-same}
use Rattle.qv_qdimacs.proofs.translating.translate.Goals as goal

pub put_prefix-requires : goal.put_prefix-requires
put_prefix-requires c =
    let places = c.in_ok-places.places in
    let clauses = c.args.file.now.clauses in
    at-put c.put_matrix.new.store c.in_ok-matrix.matrix (matrix_tree (leaf_in places) clauses) (matrix-formula (leaf_in places) (leaves-formula places) clauses) c.in_ok-matrix.ensures.id

pub returns-clause-formula : goal.returns-clause-formula
returns-clause-formula c =
    let file = c.args.file.now in
    let places = c.in_ok-places.places in
    let outer = c.in_ok-outer.outer.items in
    let rest = c.rest_of-rest.result.now in
    let at = c.in_ok-formula.ensures.id in
    let own = c.in_ok-outer.ensures ∙ ap (λ (qs : List Quantified). outer_of qs file.clauses) c.deref.ensures.value in
    let behind = c.rest_of-rest.ensures ∙ ap rest_of c.deref-2.ensures.value in
    record {
      below = at.below;
      tree = at.tree
          ∙ ap (bound_from 0 rest) c.in_ok-matrix.ensures.id.tree
          ∙ formula-same file.prefix.items rest file.clauses outer places own behind
          (subst (λ (vs : List ℕ). ArePlaces vs places.outer) c.deref-3.ensures.value c.in_ok-places.ensures.outer) c.in_ok-places.ensures.bound;
    }

pub returns-clause-outer : goal.returns-clause-outer
returns-clause-outer c = c.in_ok-outer.ensures ∙ ap (λ (qs : List Quantified). outer_of qs c.args.file.now.clauses) c.deref.ensures.value
