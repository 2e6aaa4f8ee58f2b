-- A region's definition of a place, tried at a point.
use Rattle.std.proofs.Common.{◌≡◌, ℕ, ◌<◌, ◌≤◌, arith, Bool, true, false, Option, Some, None, List, [], ◌∷◌, ◌++◌, length, refl, sym, ap, ◌∙◌, subst, slice_get}
use Rattle.std.specs.Prelude.{IsSomeAnd}
use Rattle.std.specs.List.{AllByRecursion}
use Rattle.qv_words.specs.declared.sort.Sort.{Sort}
use Rattle.qv_words.specs.declared.sort.Sort.TheVariants.{Bool as BoolSort}
use Rattle.qv_words.specs.declared.word.Word.{Word}
use Rattle.qv_words.specs.Word.{word_sort, word_value, values_of}
use Rattle.qv_words.specs.Tree.{Tree, tree_sort, IsQuantifierFree}
use Rattle.qv_words.specs.Values.{HasWords, MeansUnder}
use Rattle.qv_words.specs.Skolem.{IsTermOf}
use Rattle.qv_words.specs.Choice.{definitions, candidates}
use Rattle.qv_words.proofs.Elements.{to-some}
use Rattle.qv_game_laws.proofs.Terms.{IsOf, term-from_over}
use Rattle.qv_game_laws.proofs.Candidates.{IsCandidate, candidates-over}
use Rattle.qv_store.specs.Nodes.{tree_at}
use Rattle.qv_store.specs.Stores.{AreShared, Grows}
use Rattle.qv_store.specs.Evaluating.{IsWordOf}
use Rattle.qv_choose_paths.specs.declared.ways.Place.{Place}
use Rattle.qv_choose_paths.specs.Sights.{IsRegion}
use Rattle.qv_choose_paths.proofs.RowTerms.{stays-at, longer}
use Rattle.qv_choose_clauses.specs.Defining.{IsOnly, IsDefinition}
use Rattle.qv_choose_candidates.specs.Chosen.{place_sort, others}
use Rattle.qv_choose_candidates.specs.Offers.{HasPlaceSort}
use Rattle.qv_choose_candidates.proofs.ChoiceUses.{defined-first}
use Rattle.qv_choose.specs.Trying.{IsTermAt}
use Rattle.qv_choose.proofs.NextLaws.{AtPoint, found-word, sort-there, one-sort, region-over}
use Rattle.qv_choose.proofs.GoingLaws.{words-of}

-- in a store that has grown
pub region-grows : (point : List Word) (old new : List Tree) (id : ℕ) → Grows old new → AreShared new → IsRegion point old id → IsRegion point new id
region-grows point old new id g shared h =
    let same : tree_at old id ≡ tree_at new id = sym (stays-at old new id g h.below) in
    record {
      shared = shared;
      below = omega (arith, h.below, longer old new g);
      formula = subst (λ (t : Tree). IsTermOf t BoolSort) same h.formula;
      words = subst (λ (t : Tree). HasWords [] point t) same h.words;
    }

-- the definition is a term of the place's sort over the point's places
defined-of : (point : List Word) (p : Place) (region t : Tree) → IsTermOf region BoolSort → HasWords [] point region → candidates p.first p.end region p.level ≡ t ∷ others p region → IsOf (AtPoint point) (place_sort point p.level) t
defined-of point p region t formula words is =
    (subst (AllByRecursion (IsCandidate (AtPoint point) p.first p.end (place_sort point p.level))) is
    (candidates-over (AtPoint point) p.first p.end region p.level (place_sort point p.level) (one-sort point p.level) (region-over point region formula words).0)).0.0

pub definition-term : (point : List Word) (trees : List Tree) (region : ℕ) (p : Place) (id : ℕ) → IsRegion point trees region → IsOnly p trees (definitions p.first p.end (tree_at trees region) p.level) id → IsTermAt point trees p id
definition-term point trees region p id h only =
    let of = defined-of point p (tree_at trees region) only.term h.formula h.words (defined-first p (tree_at trees region) only.term only.is only.outside) in
    let same : only.term ≡ tree_at trees id = sym only.stands.tree in
    record {
      below = only.stands.below;
      formula = subst (λ (t : Tree). IsTermOf t (place_sort point p.level)) same (term-from_over (AtPoint point) (place_sort point p.level) only.term of);
      words = subst (λ (t : Tree). HasWords [] point t) same (words-of point (place_sort point p.level) only.term of);
    }

-- its word is one of the place's sort
pub word-fits : (point : List Word) (trees : List Tree) (p : Place) (id : ℕ) (w : Word) → p.level < length point → IsTermAt point trees p id → tree_sort (tree_at trees id) ≡ Some (word_sort w) → HasPlaceSort point p.level (word_sort w)
word-fits point trees p id w low h sort =
    let here = found-word point p.level low in
    let both : Some (place_sort point p.level) ≡ Some (word_sort w) = sym h.formula.sort ∙ sort in
    let same : place_sort point p.level ≡ word_sort w = cc in
    to-some (slice_get point p.level) (λ own. word_sort own ≡ word_sort w) here.0 here.1 (sym (sort-there point p.level here.0 here.1) ∙ same)

pub own-word : (point : List Word) (trees : List Tree) (id : ℕ) (w : Word) (u : Tree) → tree_sort (tree_at trees id) ≡ Some (word_sort w) → MeansUnder [] point (tree_at trees id) (word_value w) → u ≡ tree_at trees id → IsWordOf [] point u w
own-word point trees id w u sort value is = subst (λ (t : Tree). IsWordOf [] point t w) (sym is) (record { sort = sort; value = value })
