-- What is kept of the lines of an expansion list is enough to read on.
use Rattle.std.proofs.Common.{◌≡◌, ℕ, zero, suc, ◌<◌, ◌==◌, Bool, true, false, cond, Option, Some, None, List, [], ◌∷◌, ◌++◌, length, slice_get, map, refl, sym, ap, ◌∙◌, subst, arith}
use Rattle.std.specs.Prelude.{unwrap_or, option_map}
use Rattle.std.proofs.lemmas.Option.{slice_get_within, slice_get-map}
use Rattle.std.proofs.lemmas.List.{length-map, map-append}
use Rattle.std.proofs.lemmas.List.Elements.{All-from_recursion, recursion_from_All}
use Rattle.qv_words.specs.declared.sort.Sort.{Sort}
use Rattle.qv_words.specs.Tree.{Tree, Variable}
use Rattle.qv_words.specs.Sorted.{constants_of, free_levels}
use Rattle.qv_words.specs.Replacement.{replaced}
use Rattle.qv_words.specs.Problem.{Problem, Existential, Universal}
use Rattle.qv_words.specs.Skolem.{IsTermOf}
use Rattle.qv_words.specs.Expansion.{ExpansionLine, Instance, Eigen, Grown, root, line_numbered, path_of, sort_at, grow, grown_behind, IsEarlierEigen, StandsAt, IsLine, leaves_of}
use Rattle.qv_words.specs.Linked.{IsPlaceBelow}
use Rattle.qv_words.specs.GameLaws.{IsProblem, MakesAllTrue}
use Rattle.qv_cert_section_laws.specs.ByLine.{Kept, opened, constant_put, kept_of, kept_first, kept_numbered, keep, kept_leaf, leaf_of, IsKeptNumber, IsPlaceOf, MayCome, IsRead, ReadingByLine, ReadingSoundness}
use Rattle.qv_words.proofs.Equals.{eq-from_test}
use Rattle.qv_words.proofs.Elements.{some-and, all-none, to-some, all-weaker, found-at, length-pushed}
use Rattle.qv_cert_section_laws.proofs.ByOneMore.{expansion-by-one-more, grown-by-one-more, leaves-by-one-more}
use Rattle.qv_cert_section_laws.proofs.ExpansionSound.{expansion-soundness}
use Rattle.qv_cert_section_laws.proofs.LawfulLines.{IsLawfulPath, AreLawful, lawful-lines, lawful-first}
use Rattle.qv_cert_section_laws.proofs.PutTerms.{Nothing}
use Rattle.qv_cert_section_laws.proofs.Opened.{IsPutThere, opened-more, opened-all}

-- one more term of a path is put in for its place
tree-more : (p : Problem) (grown : List Grown) (path : List Tree) (t : Tree) → IsProblem p → IsLawfulPath p grown path → constant_put (length path) t (opened (slice_get path) p.matrix) ≡ opened (slice_get (path ++ t ∷ [])) p.matrix
tree-more p grown path t problem lawful =
    opened-more p.matrix path t problem.matrix.quantifier_free (all-none Nothing (constants_of p.matrix) problem.matrix.constant_free)
    (λ k x is. all-none Nothing (constants_of x) (lawful.terms k x is).term.constant_free)

-- a full path's tree is the leaf
tree-full : (p : Problem) (path : List Tree) → IsProblem p → length path ≡ length p.prefix → opened (slice_get path) p.matrix ≡ replaced (slice_get path) p.matrix
tree-full p path problem end =
    opened-all p.matrix (slice_get path) problem.matrix.quantifier_free
    (all-weaker (IsPlaceBelow p (length p.prefix)) (IsPutThere (slice_get path)) (free_levels p.matrix) (λ leaf below. found-at path leaf.0 (omega (arith, below.0, end)))
    (recursion_from_All (IsPlaceBelow p (length p.prefix)) (free_levels p.matrix) problem.variables))

-- what is kept of a line by its number
kept-at : (p : Problem) (grown : List Grown) (n : ℕ) (g : Grown) → line_numbered grown n ≡ Some g → kept_numbered p (map (kept_of p) grown) n ≡ kept_of p g
kept-at p grown zero g is = let same : root ≡ g = cc in ap (kept_of p) same
kept-at p grown (suc n) g is =
    ap (λ o. unwrap_or o (kept_first p)) (slice_get-map (kept_of p) grown n ∙ ap (option_map (kept_of p)) is)

-- the numbers of lines
number-there : (p : Problem) (grown : List Grown) (n : ℕ) → IsKeptNumber (map (kept_of p) grown) n → (g : Grown) × (line_numbered grown n ≡ Some g)
number-there p grown zero h = (root, refl)
number-there p grown (suc n) h = found-at grown n (omega (arith, h, length-map grown (kept_of p)))

there-number : (p : Problem) (grown : List Grown) (n : ℕ) (g : Grown) → line_numbered grown n ≡ Some g → IsKeptNumber (map (kept_of p) grown) n
there-number p grown zero g is = omega arith
there-number p grown (suc n) g is = omega (arith, slice_get_within grown n g is, length-map grown (kept_of p))

-- a line may come exactly where what is kept says so
comes : (p : Problem) (grown : List Grown) (line : ExpansionLine) → MayCome p (map (kept_of p) grown) line → IsLine p grown line
comes p grown (Instance parent term) h =
    let g = number-there p grown parent h.0 in
    let place = subst (λ (k : Kept). IsPlaceOf p Universal k.depth (IsTermOf term)) (kept-at p grown parent g.0 g.1) h.1 in
    let Before = λ (leaf : ℕ × Sort). (0 < leaf.0) × IsKeptNumber (map (kept_of p) grown) leaf.0 × ((kept_numbered p (map (kept_of p) grown) leaf.0).eigen ≡ Some leaf.1) in (
      to-some (line_numbered grown parent) (λ x. StandsAt p Universal x.path (IsTermOf term)) g.0 g.1 place,
      All-from_recursion (IsEarlierEigen grown) (free_levels term) (all-weaker Before (IsEarlierEigen grown) (free_levels term) (λ leaf k.
          let x = number-there p grown leaf.0 k.1 in
          (k.0, to-some (line_numbered grown leaf.0) (λ y. y.eigen ≡ Some leaf.1) x.0 x.1 (ap (λ (y : Kept). y.eigen) (sym (kept-at p grown leaf.0 x.0 x.1)) ∙ k.2))) (recursion_from_All Before (free_levels term) h.2)),
    )
comes p grown (Eigen parent) h =
    let g = number-there p grown parent h.0 in
    to-some (line_numbered grown parent) (λ x. StandsAt p Existential x.path (λ s. Unit {0})) g.0 g.1
    (subst (λ (k : Kept). IsPlaceOf p Existential k.depth (λ s. Unit {0})) (kept-at p grown parent g.0 g.1) h.1)

came : (p : Problem) (grown : List Grown) (line : ExpansionLine) → IsLine p grown line → MayCome p (map (kept_of p) grown) line
came p grown (Instance parent term) h =
    let g = some-and (line_numbered grown parent) (λ x. StandsAt p Universal x.path (IsTermOf term)) h.0 in
    let Before = λ (leaf : ℕ × Sort). (0 < leaf.0) × IsKeptNumber (map (kept_of p) grown) leaf.0 × ((kept_numbered p (map (kept_of p) grown) leaf.0).eigen ≡ Some leaf.1) in (
      there-number p grown parent g.0 g.1,
      subst (λ (k : Kept). IsPlaceOf p Universal k.depth (IsTermOf term)) (sym (kept-at p grown parent g.0 g.1)) g.2,
      All-from_recursion Before (free_levels term) (all-weaker (IsEarlierEigen grown) Before (free_levels term) (λ leaf k.
          let x = some-and (line_numbered grown leaf.0) (λ y. y.eigen ≡ Some leaf.1) k.1 in
          (k.0, there-number p grown leaf.0 x.0 x.1, ap (λ (y : Kept). y.eigen) (kept-at p grown leaf.0 x.0 x.1) ∙ x.2)) (recursion_from_All (IsEarlierEigen grown) (free_levels term) h.1)),
    )
came p grown (Eigen parent) h =
    let g = some-and (line_numbered grown parent) (λ x. StandsAt p Existential x.path (λ s. Unit {0})) h in
    (there-number p grown parent g.0 g.1, subst (λ (k : Kept). IsPlaceOf p Existential k.depth (λ s. Unit {0})) (sym (kept-at p grown parent g.0 g.1)) g.2)

-- what is kept by one more term of a path
kept-more : (p : Problem) (grown : List Grown) (path : List Tree) (eigen : Option Sort) (t : Tree) → IsProblem p → IsLawfulPath p grown path →
    ◌≡◌ {A = Kept} (record { depth = suc (length path); eigen = eigen; tree = constant_put (length path) t (opened (slice_get path) p.matrix) }) (kept_of p (record { path = path ++ t ∷ []; eigen = eigen }))
kept-more p grown path eigen t problem lawful =
    ap (λ (n : ℕ). let k : Kept = record { depth = n; eigen = eigen; tree = constant_put (length path) t (opened (slice_get path) p.matrix) } in k) (sym (length-pushed path t))
    ∙ ap (λ (u : Tree). let k : Kept = record { depth = length (path ++ t ∷ []); eigen = eigen; tree = u } in k) (tree-more p grown path t problem lawful)

-- the next line is kept
keeps : (p : Problem) (grown : List Grown) (line : ExpansionLine) → IsProblem p → AreLawful p grown → IsLine p grown line → keep p (map (kept_of p) grown) line ≡ kept_of p (grow p grown line)
keeps p grown (Instance parent term) problem lawful h =
    let g = some-and (line_numbered grown parent) (λ x. StandsAt p Universal x.path (IsTermOf term)) h.0 in
    ap (λ (above : Kept). let k : Kept = record { depth = suc above.depth; eigen = None; tree = constant_put above.depth term above.tree } in k) (kept-at p grown parent g.0 g.1)
    ∙ kept-more p grown g.0.path None term problem (lawful parent g.0 g.1)
    ∙ ap (λ (o : Option Grown). kept_of p (record { path = path_of o ++ term ∷ []; eigen = None })) (sym g.1)
keeps p grown (Eigen parent) problem lawful h =
    let g = some-and (line_numbered grown parent) (λ x. StandsAt p Existential x.path (λ s. Unit {0})) h in
    let next = λ (n : ℕ) (above : Kept). let k : Kept = record { depth = suc above.depth; eigen = Some (sort_at p above.depth); tree = constant_put above.depth (Variable (suc n) (sort_at p above.depth)) above.tree } in k in
    ap (next (length (map (kept_of p) grown))) (kept-at p grown parent g.0 g.1)
    ∙ ap (λ (n : ℕ). next n (kept_of p g.0)) (length-map grown (kept_of p))
    ∙ kept-more p grown g.0.path (Some (sort_at p (length g.0.path))) (Variable (suc (length grown)) (sort_at p (length g.0.path))) problem (lawful parent g.0 g.1)
    ∙ ap (λ (o : Option Grown). kept_of p (record { path = path_of o ++ Variable (suc (length grown)) (sort_at p (length (path_of o))) ∷ []; eigen = Some (sort_at p (length (path_of o))) })) (sym g.1)

-- its leaf
leaf-kept : (p : Problem) (g : Grown) → IsProblem p → kept_leaf p (kept_of p g) ≡ leaf_of p g
leaf-kept p g problem = go (length g.path == length p.prefix) refl
  where
    go : (b : Bool) → (length g.path == length p.prefix) ≡ b → cond b (opened (slice_get g.path) p.matrix ∷ []) [] ≡ cond b (replaced (slice_get g.path) p.matrix ∷ []) []
    go true is = ap (λ (t : Tree). t ∷ []) (tree-full p g.path problem (eq-from_test (length g.path) (length p.prefix) is))
    go false is = refl

read-first : (p : Problem) → IsProblem p → IsRead p [] [] (kept_leaf p (kept_first p))
read-first p problem = record {
  expansion = tt;
  kept_are = refl;
  leaves_are = leaf-kept p root problem ∙ sym (leaves-by-one-more p).0;
}

read-more : (p : Problem) (lines : List ExpansionLine) (kept : List Kept) (leaves : List Tree) (line : ExpansionLine) → IsProblem p → IsRead p lines kept leaves → MayCome p kept line → IsRead p (lines ++ line ∷ []) (kept ++ keep p kept line ∷ []) (leaves ++ kept_leaf p (keep p kept line))
read-more p lines kept leaves line problem h may =
    record {
      expansion = (expansion-by-one-more p lines line).1 (h.expansion, is);
      kept_are =
          ap (λ (ks : List Kept). ks ++ keep p kept line ∷ []) h.kept_are
          ∙ ap (λ (k : Kept). map (kept_of p) grown ++ k ∷ []) new
          ∙ sym (map-append (kept_of p) grown (grow p grown line ∷ []))
          ∙ ap (map (kept_of p)) (sym (grown-by-one-more p lines line));
      leaves_are =
          ap (λ (ts : List Tree). ts ++ kept_leaf p (keep p kept line)) h.leaves_are
          ∙ ap (λ (ts : List Tree). leaves_of p lines ++ ts) (ap (kept_leaf p) new ∙ leaf-kept p (grow p grown line) problem)
          ∙ sym ((leaves-by-one-more p).1 lines line);
    }
  where
    grown : List Grown
    grown = grown_behind p [] lines

    is : IsLine p (grown_behind p [] lines) line
    is = comes p (grown_behind p [] lines) line (subst (λ (ks : List Kept). MayCome p ks line) h.kept_are may)

    new : keep p kept line ≡ kept_of p (grow p (grown_behind p [] lines) line)
    new =
        ap (λ (ks : List Kept). keep p ks line) h.kept_are
        ∙ keeps p (grown_behind p [] lines) line problem (lawful-lines p lines [] problem (lawful-first p) h.expansion) is

pub reading-by-line : ReadingByLine
reading-by-line p problem = (
  read-first p problem,
  λ lines kept leaves line h. (
    λ may. read-more p lines kept leaves line problem h may,
    λ is.
        subst (λ (ks : List Kept). MayCome p ks line) (sym h.kept_are)
        (came p (grown_behind p [] lines) line ((expansion-by-one-more p lines line).0 is).1),
  ),
)

pub reading-soundness : ReadingSoundness
reading-soundness p lines kept leaves problem h never =
    expansion-soundness p lines problem h.expansion (λ e all. never e (subst (MakesAllTrue e) (sym h.leaves_are) all))
