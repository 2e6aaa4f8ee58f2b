-- The lines of an expansion list have lawful paths, and its leaves are formulas over its eigenvariables.
use Rattle.std.proofs.Common.{◌≡◌, ℕ, zero, suc, ◌<◌, ◌≤◌, ◌==◌, Option, Some, List, [], ◌∷◌, ◌++◌, length, slice_get, map, All, refl, sym, ap, ◌∙◌, inl, inr, subst, arith}
use Rattle.std.specs.Prelude.{IsSomeAnd, MatchOption}
use Rattle.std.specs.List.{AllByRecursion}
use Rattle.std.proofs.lemmas.Option.{slice_get_within}
use Rattle.std.proofs.lemmas.List.Elements.{All-from_recursion, recursion_from_All}
use Rattle.qv_words.specs.declared.sort.Sort.{Sort}
use Rattle.qv_words.specs.declared.sort.Sort.TheVariants.{Bool as BoolSort}
use Rattle.qv_words.specs.Sort.{IsLawful}
use Rattle.qv_words.specs.Tree.{Tree, Variable}
use Rattle.qv_words.specs.Sorted.{free_levels}
use Rattle.qv_words.specs.Replacement.{replaced}
use Rattle.qv_words.specs.Problem.{Problem, Place, Existential, Universal}
use Rattle.qv_words.specs.Skolem.{IsTermOf}
use Rattle.qv_words.specs.Expansion.{ExpansionLine, Instance, Eigen, Grown, root, line_numbered, path_of, sort_at, grow, grown_behind, IsEarlierEigen, StandsAt, IsLine, AreLines, full}
use Rattle.qv_words.specs.Linked.{IsPlaceBelow}
use Rattle.qv_words.specs.GameLaws.{IsProblem}
use Rattle.qv_cert_section_laws.specs.ByLine.{LeavesAreTerms}
use Rattle.qv_words.proofs.Equals.{eq-from_test}
use Rattle.qv_words.proofs.Elements.{some-and, of-some, to-some, all-weaker, all-at, found-at, in-front, pushed-last, pushed-cases, length-pushed}
use Rattle.qv_cert_section_laws.proofs.PutTerms.{IsTermThere, term-put}
use Rattle.qv_cert_section_laws.proofs.ExpansionSound.{kept-images, with-root, sort-there}

-- a term on a path, for the place i
pub record IsTermAt (p : Problem) (grown : List Grown) (i : ℕ) (t : Tree) : Type 0 where
  pub place : Place
  pub at : slice_get p.prefix i ≡ Some place
  pub term : IsTermOf t place.sort
  pub variables : AllByRecursion (IsEarlierEigen grown) (free_levels t)

pub record IsLawfulPath (p : Problem) (grown : List Grown) (path : List Tree) : Type 0 where
  pub within : length path ≤ length p.prefix
  pub terms : (i : ℕ) (t : Tree) → slice_get path i ≡ Some t → IsTermAt p grown i t

abbrev pub AreLawful : Problem → List Grown → Type 0
AreLawful p grown = (n : ℕ) (g : Grown) → line_numbered grown n ≡ Some g → IsLawfulPath p grown g.path

-- with one more line an eigenvariable is still one
eigen-kept : (grown : List Grown) (g : Grown) (leaf : ℕ × Sort) → IsEarlierEigen grown leaf → IsEarlierEigen (grown ++ g ∷ []) leaf
eigen-kept grown g (k, s) (some, known) = (some, go k some known)
  where
    go : (n : ℕ) → 0 < n → IsSomeAnd (line_numbered grown n) (λ x. x.eigen ≡ Some s) → IsSomeAnd (line_numbered (grown ++ g ∷ []) n) (λ x. x.eigen ≡ Some s)
    go zero some known = absurd (omega (arith, some))
    go (suc n) some known =
        let found = some-and (slice_get grown n) (λ x. x.eigen ≡ Some s) known in
        to-some (slice_get (grown ++ g ∷ []) n) (λ x. x.eigen ≡ Some s) found.0 (in-front grown (g ∷ []) n found.0 found.1) found.2

path-kept : (p : Problem) (grown : List Grown) (g : Grown) (path : List Tree) → IsLawfulPath p grown path → IsLawfulPath p (grown ++ g ∷ []) path
path-kept p grown g path h = record {
  within = h.within;
  terms = λ i t is. kept i t (h.terms i t is);
}
  where
    kept : (i : ℕ) (t : Tree) → IsTermAt p grown i t → IsTermAt p (grown ++ g ∷ []) i t
    kept i t s = record {
      place = s.place;
      at = s.at;
      term = s.term;
      variables = all-weaker (IsEarlierEigen grown) (IsEarlierEigen (grown ++ g ∷ [])) (free_levels t) (eigen-kept grown g) s.variables;
    }

-- a path by one more term
path-more : (p : Problem) (grown : List Grown) (path : List Tree) (place : Place) (t : Tree) → IsLawfulPath p grown path → slice_get p.prefix (length path) ≡ Some place → IsTermOf t place.sort → AllByRecursion (IsEarlierEigen grown) (free_levels t) → IsLawfulPath p grown (path ++ t ∷ [])
path-more p grown path place t h at term variables = record {
  within = omega (arith, length-pushed path t, slice_get_within p.prefix (length path) place at);
  terms = terms;
}
  where
    last : (i : ℕ) → i ≡ length path → IsTermAt p grown i t
    last i here = record {
      place = place;
      at = ap (slice_get p.prefix) here ∙ at;
      term = term;
      variables = variables;
    }

    terms : (i : ℕ) (x : Tree) → slice_get (path ++ t ∷ []) i ≡ Some x → IsTermAt p grown i x
    terms i x is = elim (pushed-cases path t i x is) [ inl old ↦ h.terms i x old | inr new ↦ subst (IsTermAt p grown i) new.1 (last i new.0) ]

lawful-more : (p : Problem) (grown : List Grown) (g : Grown) → AreLawful p grown → IsLawfulPath p (grown ++ g ∷ []) g.path → AreLawful p (grown ++ g ∷ [])
lawful-more p grown g h new zero x is = path-kept p grown g x.path (h 0 x is)
lawful-more p grown g h new (suc n) x is =
    elim (pushed-cases grown g n x is) [
      | inl old ↦ path-kept p grown g x.path (h (suc n) x old)
      | inr last ↦ subst (λ (y : Grown). IsLawfulPath p (grown ++ g ∷ []) y.path) last.1 new
    ]

-- the next line has a lawful path
lawful-line : (p : Problem) (grown : List Grown) (line : ExpansionLine) → IsProblem p → AreLawful p grown → IsLine p grown line → AreLawful p (grown ++ grow p grown line ∷ [])
lawful-line p grown (Instance parent term) problem h line =
    let g = grow p grown (Instance parent term) in
    let found = some-and (line_numbered grown parent) (λ x. StandsAt p Universal x.path (IsTermOf term)) line.0 in
    let place = some-and (slice_get p.prefix (length found.0.path)) (λ q. (q.quantifier ≡ Universal) × IsTermOf term q.sort) found.2 in
    let here = path-more p grown found.0.path place.0 term (h parent found.0 found.1) place.1 place.2.1 (recursion_from_All (IsEarlierEigen grown) (free_levels term) line.1) in
    lawful-more p grown g h
    (subst (λ (o : Option Grown). IsLawfulPath p (grown ++ g ∷ []) (path_of o ++ term ∷ [])) (sym found.1) (path-kept p grown g (found.0.path ++ term ∷ []) here))
lawful-line p grown (Eigen parent) problem h line =
    let g = grow p grown (Eigen parent) in
    let found = some-and (line_numbered grown parent) (λ x. StandsAt p Existential x.path (λ s. Unit {0})) line in
    let place = some-and (slice_get p.prefix (length found.0.path)) (λ q. (q.quantifier ≡ Existential) × Unit {0}) found.2 in
    let lawful = all-at (λ q. IsLawful q.sort) p.prefix (length found.0.path) place.0 (recursion_from_All (λ q. IsLawful q.sort) p.prefix problem.sorts) place.1 in
    let sort : sort_at p (length (path_of (line_numbered grown parent))) ≡ place.0.sort =
    ap (λ (o : Option Grown). sort_at p (length (path_of o))) found.1 ∙ sort-there p (length found.0.path) place.0 place.1
    in
    let variable = Variable (suc (length grown)) place.0.sort in
    let own : IsEarlierEigen (grown ++ g ∷ []) (suc (length grown), place.0.sort) =
    (omega arith, to-some (slice_get (grown ++ g ∷ []) (length grown)) (λ x. x.eigen ≡ Some place.0.sort) g (pushed-last grown g) (ap Some sort))
    in
    let here : IsLawfulPath p (grown ++ g ∷ []) (found.0.path ++ variable ∷ []) =
    path-more p (grown ++ g ∷ []) found.0.path place.0 variable (path-kept p grown g found.0.path (h parent found.0 found.1)) place.1
    (record {
      sorted = (lawful, tt);
      sort = refl;
      quantifier_free = tt;
      constant_free = refl;
    })
    (own, tt)
    in
    lawful-more p grown g h
    (subst (λ (o : Option Grown). IsLawfulPath p (grown ++ g ∷ []) (path_of o ++ Variable (suc (length grown)) (sort_at p (length (path_of o))) ∷ [])) (sym found.1)
    (subst (λ (s : Sort). IsLawfulPath p (grown ++ g ∷ []) (found.0.path ++ Variable (suc (length grown)) s ∷ [])) (sym (sort-there p (length found.0.path) place.0 place.1)) here))

pub lawful-lines : (p : Problem) (lines : List ExpansionLine) (grown : List Grown) → IsProblem p → AreLawful p grown → AreLines p grown lines → AreLawful p (grown_behind p grown lines)
lawful-lines p [] grown problem h are = h
lawful-lines p (line ∷ lines) grown problem h are =
    lawful-lines p lines (grown ++ grow p grown line ∷ []) problem (lawful-line p grown line problem h are.0) are.1

pub lawful-first : (p : Problem) → AreLawful p []
lawful-first p zero g is =
    let same : root ≡ g = cc in
    subst (λ (x : Grown). IsLawfulPath p [] x.path) same (record { within = omega arith; terms = λ i t at. absurd (cc) })
lawful-first p (suc n) g is = absurd (cc)

-- what is put in at a variable of the matrix
pub leaf-put : (p : Problem) (grown : List Grown) (path : List Tree) → IsLawfulPath p grown path → length path ≡ length p.prefix → (leaf : ℕ × Sort) → IsPlaceBelow p (length p.prefix) leaf → IsTermThere (IsEarlierEigen grown) (slice_get path) leaf
leaf-put p grown path h end leaf below =
    let put = found-at path leaf.0 (omega (arith, below.0, end)) in
    let at = h.terms leaf.0 put.0 put.1 in
    let own = of-some (slice_get p.prefix leaf.0) (λ q. q.sort ≡ leaf.1) at.place at.at below.1 in
    subst (λ (o : Option Tree). MatchOption o (IsEarlierEigen grown leaf) (λ t. IsTermOf t leaf.1 × AllByRecursion (IsEarlierEigen grown) (free_levels t))) (sym put.1) (subst (IsTermOf put.0) own at.term, at.variables)

leaf-term : (p : Problem) (grown : List Grown) (path : List Tree) → IsProblem p → IsLawfulPath p grown path → length path ≡ length p.prefix → IsTermOf (replaced (slice_get path) p.matrix) BoolSort × All (IsEarlierEigen grown) (free_levels (replaced (slice_get path) p.matrix))
leaf-term p grown path problem h end =
    let both =
    term-put (IsEarlierEigen grown) (slice_get path) p.matrix BoolSort problem.matrix
    (all-weaker (IsPlaceBelow p (length p.prefix)) (IsTermThere (IsEarlierEigen grown) (slice_get path)) (free_levels p.matrix) (leaf-put p grown path h end)
    (recursion_from_All (IsPlaceBelow p (length p.prefix)) (free_levels p.matrix) problem.variables))
    in
    (both.0, All-from_recursion (IsEarlierEigen grown) (free_levels (replaced (slice_get path) p.matrix)) both.1)

pub leaves-are_terms : LeavesAreTerms
leaves-are_terms p lines problem is =
    let grown = grown_behind p [] lines in
    let h = lawful-lines p lines [] problem (lawful-first p) is in
    let P = λ (t : Tree). IsTermOf t BoolSort × All (IsEarlierEigen grown) (free_levels t) in
    All-from_recursion P (map (λ g. replaced (slice_get g.path) p.matrix) (full p (root ∷ grown)))
    (kept-images P (λ (g : Grown). replaced (slice_get g.path) p.matrix) (λ (g : Grown). length g.path == length p.prefix) (root ∷ grown)
    (λ n g at end. leaf-term p grown g.path problem (h n g (with-root grown n g at)) (eq-from_test (length g.path) (length p.prefix) end)))
