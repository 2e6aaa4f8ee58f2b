-- What is put is the formula of the file.
use Rattle.std.proofs.Common.{◌≡◌, ℕ, List, ap, ◌∙◌}
use Rattle.qv_cnf.specs.Literal.{Literal}
use Rattle.qv_words.specs.Tree.{Tree}
use Rattle.qv_qdimacs.specs.declared.files.Quantified.{Quantified}
use Rattle.qv_qdimacs.specs.declared.places.Places.{Places}
use Rattle.qv_qdimacs.specs.Outer.{variables_of, rest_of, outer_of}
use Rattle.qv_qdimacs.specs.Translation.{leaf_at, leaf_of, matrix_tree, bound_from, formula_of}
use Rattle.qv_qdimacs.specs.Leaves.{ArePlaces, leaf_in}

leaves-same : (places : Places) (outer bound : List ℕ) → ArePlaces outer places.outer → ArePlaces bound places.bound → leaf_in places ≡ leaf_of outer bound
leaves-same places outer bound h k = λ i v. leaf_at (k v i) (h v i)

pub formula-same : (prefix rest : List Quantified) (clauses : List (List Literal)) (outer : List ℕ) (places : Places) → outer ≡ outer_of prefix clauses → rest ≡ rest_of prefix
    → ArePlaces outer places.outer → ArePlaces (variables_of rest) places.bound → bound_from 0 rest (matrix_tree (leaf_in places) clauses) ≡ formula_of prefix clauses
formula-same prefix rest clauses outer places own behind h k =
    ap (λ (leaf : ℕ → Tree). bound_from 0 rest (matrix_tree leaf clauses)) (leaves-same places outer (variables_of rest) h k)
    ∙ ap (λ (vs : List ℕ). bound_from 0 rest (matrix_tree (leaf_of vs (variables_of rest)) clauses)) own
    ∙ ap (λ (qs : List Quantified). bound_from 0 qs (matrix_tree (leaf_of (outer_of prefix clauses) (variables_of qs)) clauses)) behind
