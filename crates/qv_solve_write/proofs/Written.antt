-- Lines of the format, one after the other, and what is left to be written.
use Rattle.std.proofs.Common.{◌≡◌, ℕ, suc, ◌+◌, ◌<◌, ◌≤◌, Some, List, [], ◌∷◌, ◌++◌, length, take, drop, get_or, slice_get, sym, ap, subst, ◌∙◌, arith}
use Rattle.std.specs.Prelude.{All}
use Rattle.std.proofs.lemmas.List.Elements.{All-from_recursion, recursion_from_All}
use Rattle.qv_words.specs.declared.op.Answer.{Answer}
use Rattle.qv_words.specs.Tree.{Tree}
use Rattle.qv_words.specs.Skolem.{SkolemTerm}
use Rattle.qv_words.specs.Expansion.{ExpansionLine}
use Rattle.qv_words.proofs.Elements.{dropped-at, dropped-none}
use Rattle.qv_words.proofs.Leaves.{both}
use Rattle.qv_words.proofs.NewNodes.{nil-behind}
use Rattle.qv_store.specs.Nodes.{tree_at}
use Rattle.qv_store.specs.Walks.{named}
use Rattle.qv_cert.specs.declared.line.Line.{Line}
use Rattle.qv_cert.specs.Line.{CertLine, IsCertLine}
use Rattle.qv_cert.specs.LineView.{cert_line_of}
use Rattle.qv_cert_nodes.proofs.Grown.{map-pushed}
use Rattle.qv_skolem.specs.declared.skolem.Skolem.{Skolem}
use Rattle.qv_skolem.specs.Skolems.{skolem_in, skolems_in}
use Rattle.qv_expand.specs.declared.tree.TreeLine.{TreeLine}
use Rattle.qv_expand.specs.Trees.{line_in, lines_in}
use Rattle.qv_solve_write_laws.specs.Writing.{expansion_lines, node_line, node_lines, term_lines}
use Rattle.qv_solve_write.specs.declared.writer.Writer.{Writer}
use Rattle.qv_solve_write.specs.Said.{lines_said}
use Rattle.qv_solve_write.specs.Writers.{lines_of, nodes_of, IsWriting}
use Rattle.qv_solve_write.proofs.Behind.{lines-end, lines-next}

-- ---- one more line

pub said-more : (old new : List Line) (line : Line) → new ≡ old ++ line ∷ [] → lines_said new ≡ lines_said old ++ cert_line_of line ∷ []
said-more old new line e = ap lines_said e ∙ map-pushed cert_line_of old line

pub form-more : (old new : List Line) (line : Line) → new ≡ old ++ line ∷ [] → IsCertLine (cert_line_of line) → All IsCertLine (lines_said old) → All IsCertLine (lines_said new)
form-more old new line e own h =
    subst (All IsCertLine) (sym (said-more old new line e))
    (All-from_recursion IsCertLine (lines_said old ++ cert_line_of line ∷ []) (both IsCertLine (lines_said old) (cert_line_of line ∷ []) (recursion_from_All IsCertLine (lines_said old) h) (own, tt)))

pub writing-more : (trees : List Tree) (old new : Writer) (line : Line) → new.walk ≡ old.walk → new.lines.items ≡ old.lines.items ++ line ∷ [] → IsCertLine (cert_line_of line) → IsWriting trees old → IsWriting trees new
writing-more trees old new line walk lines own h =
    let moved : IsWriting trees (record { walk = new.walk; lines = old.lines }) =
    subst (λ (ids : List ℕ). IsWriting trees (record { walk = ids; lines = old.lines })) (sym walk) h in
    record { walk = moved.walk; nodes = moved.nodes; form = form-more old.lines.items new.lines.items line lines own h.form }

-- ---- the nodes of a walk from a place on

pub record IsNoding (answer : Answer) (trees : List Tree) (ids : List ℕ) (place : ℕ) (lines : List Line) (whole : List CertLine) : Type 0 where
  pub lines_are : lines_said lines ++ node_lines answer (take place (named trees ids)) (drop place (named trees ids)) ≡ whole
  pub form : All IsCertLine (lines_said lines)

pub noding-next : (answer : Answer) (trees : List Tree) (ids : List ℕ) (place next : ℕ) (line : Line) (before after : List Line) (whole : List CertLine) → place < length ids → next ≡ place + 1 →
    cert_line_of line ≡ node_line answer (take place (named trees ids)) (tree_at trees (get_or ids place 0)) → IsCertLine (cert_line_of line) → after ≡ before ++ line ∷ [] →
    IsNoding answer trees ids place before whole → IsNoding answer trees ids next after whole
noding-next answer trees ids place next line before after whole h counted is own pushed inv = record {
  lines_are = lines-next answer trees ids place next (cert_line_of line) (lines_said before) (lines_said after) whole h counted is (said-more before after line pushed) inv.lines_are;
  form = form-more before after line pushed own inv.form;
}

pub noding-end : (answer : Answer) (trees : List Tree) (ids : List ℕ) (place : ℕ) (lines : List Line) (whole : List CertLine) → length ids ≤ place → IsNoding answer trees ids place lines whole → lines_said lines ≡ whole
noding-end answer trees ids place lines whole h inv = lines-end answer trees ids place (lines_said lines) whole h inv.lines_are

-- ---- terms

pub record IsTerming (trees : List Tree) (terms : List Skolem) (i : ℕ) (w : Writer) : Type 0 where
  pub writing : IsWriting trees w
  pub lines_are : lines_of w ++ term_lines (nodes_of trees w) (skolems_in trees (drop i terms)) ≡ term_lines [] (skolems_in trees terms)

pub terming-first : (trees : List Tree) (terms : List Skolem) (w : Writer) → nodes_of trees w ≡ [] → lines_of w ≡ [] → IsWriting trees w → IsTerming trees terms 0 w
terming-first trees terms w nodes lines h = record {
  writing = h;
  lines_are =
      ap (λ (ls : List CertLine). ls ++ term_lines (nodes_of trees w) (skolems_in trees terms)) lines
      ∙ ap (λ (us : List Tree). term_lines us (skolems_in trees terms)) nodes;
}

pub terming-next : (trees : List Tree) (terms : List Skolem) (i next : ℕ) (s : Skolem) (old new : Writer) → slice_get terms i ≡ Some s → next ≡ i + 1 → IsTerming trees terms i old →
    ((rest : List SkolemTerm) → lines_of new ++ term_lines (nodes_of trees new) rest ≡ lines_of old ++ term_lines (nodes_of trees old) (skolem_in trees s ∷ rest)) → IsWriting trees new → IsTerming trees terms next new
terming-next trees terms i next s old new at counted inv wrote h =
    let count : next ≡ suc i = omega (arith, counted) in
    record {
      writing = h;
      lines_are =
          ap (λ n. lines_of new ++ term_lines (nodes_of trees new) (skolems_in trees (drop n terms))) count
          ∙ wrote (skolems_in trees (drop (suc i) terms))
          ∙ ap (λ (ss : List Skolem). lines_of old ++ term_lines (nodes_of trees old) (skolems_in trees ss)) (sym (dropped-at terms i s at))
          ∙ inv.lines_are;
    }

pub terming-end : (trees : List Tree) (terms : List Skolem) (i : ℕ) (w : Writer) → length terms ≤ i → IsTerming trees terms i w → lines_of w ≡ term_lines [] (skolems_in trees terms)
terming-end trees terms i w h inv =
    nil-behind (lines_of w)
    ∙ ap (λ (ss : List Skolem). lines_of w ++ term_lines (nodes_of trees w) (skolems_in trees ss)) (sym (dropped-none terms i h))
    ∙ inv.lines_are

-- ---- lines of an expansion list

pub record IsTreeing (trees : List Tree) (tree : List TreeLine) (i : ℕ) (w : Writer) : Type 0 where
  pub writing : IsWriting trees w
  pub lines_are : lines_of w ++ expansion_lines (suc i) (nodes_of trees w) (lines_in trees (drop i tree)) ≡ expansion_lines 1 [] (lines_in trees tree)

pub treeing-first : (trees : List Tree) (tree : List TreeLine) (w : Writer) → nodes_of trees w ≡ [] → lines_of w ≡ [] → IsWriting trees w → IsTreeing trees tree 0 w
treeing-first trees tree w nodes lines h = record {
  writing = h;
  lines_are =
      ap (λ (ls : List CertLine). ls ++ expansion_lines 1 (nodes_of trees w) (lines_in trees tree)) lines
      ∙ ap (λ (us : List Tree). expansion_lines 1 us (lines_in trees tree)) nodes;
}

pub treeing-next : (trees : List Tree) (tree : List TreeLine) (i next : ℕ) (line : TreeLine) (old new : Writer) → slice_get tree i ≡ Some line → next ≡ i + 1 → IsTreeing trees tree i old →
    ((rest : List ExpansionLine) → lines_of new ++ expansion_lines (suc (i + 1)) (nodes_of trees new) rest ≡ lines_of old ++ expansion_lines (i + 1) (nodes_of trees old) (line_in trees line ∷ rest)) → IsWriting trees new →
    IsTreeing trees tree next new
treeing-next trees tree i next line old new at counted inv wrote h =
    let count : next ≡ suc i = omega (arith, counted) in
    let up : i + 1 ≡ suc i = omega arith in
    record {
      writing = h;
      lines_are =
          ap (λ n. lines_of new ++ expansion_lines (suc n) (nodes_of trees new) (lines_in trees (drop n tree))) count
          ∙ ap (λ n. lines_of new ++ expansion_lines (suc n) (nodes_of trees new) (lines_in trees (drop (suc i) tree))) (sym up)
          ∙ wrote (lines_in trees (drop (suc i) tree))
          ∙ ap (λ n. lines_of old ++ expansion_lines n (nodes_of trees old) (line_in trees line ∷ lines_in trees (drop (suc i) tree))) up
          ∙ ap (λ (ls : List TreeLine). lines_of old ++ expansion_lines (suc i) (nodes_of trees old) (lines_in trees ls)) (sym (dropped-at tree i line at))
          ∙ inv.lines_are;
    }

pub treeing-end : (trees : List Tree) (tree : List TreeLine) (i : ℕ) (w : Writer) → length tree ≤ i → IsTreeing trees tree i w → lines_of w ≡ expansion_lines 1 [] (lines_in trees tree)
treeing-end trees tree i w h inv =
    nil-behind (lines_of w)
    ∙ ap (λ (ls : List TreeLine). lines_of w ++ expansion_lines (suc i) (nodes_of trees w) (lines_in trees ls)) (sym (dropped-none tree i h))
    ∙ inv.lines_are
