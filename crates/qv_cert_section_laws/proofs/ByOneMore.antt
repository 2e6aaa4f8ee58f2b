-- An expansion list by one more line.
use Rattle.std.proofs.Common.{◌≡◌, ◌==◌, Bool, true, false, cond, List, [], ◌∷◌, ◌++◌, length, map, slice_get, refl, sym, ap, ◌∙◌, subst}
use Rattle.std.proofs.lemmas.List.{map-append}
use Rattle.std.proofs.lemmas.List.Elements.{filter-append}
use Rattle.qv_words.specs.Tree.{Tree}
use Rattle.qv_words.specs.Replacement.{replaced}
use Rattle.qv_words.specs.Problem.{Problem}
use Rattle.qv_words.specs.Expansion.{ExpansionLine, Grown, root, IsLine, grow, grown_behind, full, leaves_of}
use Rattle.qv_cert_section_laws.specs.SectionLaws.{ExpansionByOneMore}
use Rattle.qv_cert_section_laws.specs.ByLine.{GrownByOneMore, LeavesByOneMore, IsReadByPaths, ReadingByPaths, leaf_of}
use Rattle.qv_words.proofs.Shorter.{lines-longer, grown-longer, lines-shorter, last-line}

pub expansion-by-one-more : ExpansionByOneMore
expansion-by-one-more p lines line = (λ h. (lines-shorter p [] lines line h, last-line p [] lines line h), λ h. lines-longer p [] lines line h.0 h.1)

pub grown-by-one-more : GrownByOneMore
grown-by-one-more p lines line = grown-longer p [] lines line

-- the leaf of one line
one-leaf : (p : Problem) (g : Grown) → map (λ x. replaced (slice_get x.path) p.matrix) (full p (g ∷ [])) ≡ leaf_of p g
one-leaf p g = go (length g.path == length p.prefix)
  where
    go : (b : Bool) → map (λ (x : Grown). replaced (slice_get x.path) p.matrix) (cond b (g ∷ []) []) ≡ cond b (replaced (slice_get g.path) p.matrix ∷ []) []
    go true = refl
    go false = refl

pub leaves-by-one-more : LeavesByOneMore
leaves-by-one-more p = (one-leaf p root, λ lines line. more lines line)
  where
    more : (lines : List ExpansionLine) (line : ExpansionLine) → leaves_of p (lines ++ line ∷ []) ≡ leaves_of p lines ++ leaf_of p (grow p (grown_behind p [] lines) line)
    more lines line =
        let old = root ∷ grown_behind p [] lines in
        let new = grow p (grown_behind p [] lines) line in
        ap (λ (xs : List Grown). map (λ (x : Grown). replaced (slice_get x.path) p.matrix) (full p (root ∷ xs))) (grown-longer p [] lines line)
        ∙ ap (λ (xs : List Grown). map (λ (x : Grown). replaced (slice_get x.path) p.matrix) xs) (filter-append (λ (x : Grown). length x.path == length p.prefix) old (new ∷ []))
        ∙ map-append (λ (x : Grown). replaced (slice_get x.path) p.matrix) (full p old) (full p (new ∷ []))
        ∙ ap (λ (xs : List Tree). leaves_of p lines ++ xs) (one-leaf p new)

pub reading-by-paths : ReadingByPaths
reading-by-paths p = (
  record { expansion = tt; grown_are = refl; leaves_are = sym (leaves-by-one-more p).0 },
  λ lines grown leaves line h. (
    λ may. more lines grown leaves line h may,
    λ is. subst (λ (gs : List Grown). IsLine p gs line) (sym h.grown_are) ((expansion-by-one-more p lines line).0 is).1,
  ),
)
  where
    more : (lines : List ExpansionLine) (grown : List Grown) (leaves : List Tree) (line : ExpansionLine) → IsReadByPaths p lines grown leaves → IsLine p grown line → IsReadByPaths p (lines ++ line ∷ []) (grown ++ grow p grown line ∷ []) (leaves ++ leaf_of p (grow p grown line))
    more lines grown leaves line h may = record {
      expansion = (expansion-by-one-more p lines line).1 (h.expansion, subst (λ (gs : List Grown). IsLine p gs line) h.grown_are may);
      grown_are = ap (λ (gs : List Grown). gs ++ grow p gs line ∷ []) h.grown_are ∙ sym (grown-by-one-more p lines line);
      leaves_are =
          ap (λ (ts : List Tree). ts ++ leaf_of p (grow p grown line)) h.leaves_are
          ∙ ap (λ (gs : List Grown). leaves_of p lines ++ leaf_of p (grow p gs line)) h.grown_are
          ∙ sym ((leaves-by-one-more p).1 lines line);
    }
