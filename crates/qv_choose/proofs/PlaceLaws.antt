-- The choice for one place by some of the parts.
use Rattle.std.proofs.Common.{◌≡◌, ℕ, ◌<◌, arith, Some, List, [], ◌∷◌, length, map, refl, sym, ap, ◌∙◌, subst}
use Rattle.std.specs.Prelude.{All}
use Rattle.std.specs.List.{AllByRecursion}
use Rattle.std.proofs.lemmas.List.{length-map}
use Rattle.std.proofs.lemmas.List.Elements.{recursion_from_All, All-from_recursion}
use Rattle.qv_words.specs.declared.sort.Sort.TheVariants.{Bool as BoolSort}
use Rattle.qv_words.specs.declared.word.Word.{Word}
use Rattle.qv_words.specs.Tree.{Tree, tree_sort}
use Rattle.qv_words.specs.Problem.{conjunction}
use Rattle.qv_words.specs.Choice.{with_term}
use Rattle.qv_words.proofs.Elements.{all-weaker}
use Rattle.qv_game_laws.proofs.Terms.{IsOf, term-from_over}
use Rattle.qv_store.specs.Nodes.{tree_at}
use Rattle.qv_store.specs.Stores.{StandsAt, AreShared, Grows}
use Rattle.qv_store.specs.Walks.{named}
use Rattle.qv_store.proofs.Replacement.{grows-more}
use Rattle.qv_choose_paths.specs.Sights.{IsRegion}
use Rattle.qv_choose_paths.specs.declared.ways.Place.{Place}
use Rattle.qv_choose_paths.proofs.RowTerms.{stays-at, longer}
use Rattle.qv_choose_paths.proofs.SceneLaws.{named-grows}
use Rattle.qv_choose_candidates.specs.Chosen.{IsChoice, place_sort}
use Rattle.qv_choose.specs.Conjuncts.{ArePicked}
use Rattle.qv_choose.proofs.Lists.{less-picked}
use Rattle.qv_choose.specs.Parts.{Takes, AreAt, IsPartChoice, ArePut}
use Rattle.qv_choose.proofs.NextLaws.{AtPoint, chosen-of, chosen-fits}
use Rattle.qv_choose.proofs.PartLaws.{zip-all}
use Rattle.qv_choose.proofs.GoingLaws.{words-of, joined-region}

pub numbers-there : (x : ℕ) (trees : List Tree) (parts numbers : List ℕ) → ArePicked x 0 (named trees parts) numbers → All (λ n. n < length parts) numbers
numbers-there x trees parts numbers h =
    All-from_recursion (λ n. n < length parts) numbers (less-picked x 0 (named trees parts) numbers (length parts) (omega (arith, length-map parts (tree_at trees))) h)

module _ (point : List Word) (old : List Tree) (parts numbers picked : List ℕ) (regions : AllByRecursion (IsRegion point old) parts) (at : AreAt parts numbers picked) where
  those : AllByRecursion (IsRegion point old) picked
  those = zip-all (IsRegion point old) parts numbers picked regions at

  pub those-below : All (λ id. id < length old) picked
  those-below = All-from_recursion (λ id. id < length old) picked (all-weaker (IsRegion point old) (λ id. id < length old) picked (λ id h. h.below) those)

  pub those-bool : All (λ id. tree_sort (tree_at old id) ≡ Some BoolSort) picked
  those-bool = All-from_recursion (λ id. tree_sort (tree_at old id) ≡ Some BoolSort) picked (all-weaker (IsRegion point old) (λ id. tree_sort (tree_at old id) ≡ Some BoolSort) picked (λ id h. h.formula.sort) those)

  module _ (mid : List Tree) (region : ℕ) (shared : AreShared mid) (stands : StandsAt mid region (conjunction (named old picked))) where
    of-region : IsOf (AtPoint point) BoolSort (tree_at mid region)
    of-region = subst (IsOf (AtPoint point) BoolSort) (sym stands.tree) (joined-region point old picked those)

    pub region-of : IsRegion point mid region
    region-of = record { shared = shared; below = stands.below; formula = term-from_over (AtPoint point) BoolSort (tree_at mid region) of-region; words = words-of point BoolSort (tree_at mid region) of-region }

    module _ (p : Place) (now : List Tree) (term : ℕ) (low : p.level < length point) (mid_grows : Grows old mid) (now_grows : Grows mid now) (choice : IsChoice point p (tree_at mid region) now term) where
      grown : Grows old now
      grown = grows-more old mid now mid_grows now_grows

      of-term : IsOf (AtPoint point) (place_sort point p.level) (tree_at now term)
      of-term =
          subst (IsOf (AtPoint point) (place_sort point p.level)) (sym choice.stands.tree)
          (chosen-of point p.first p.end p.level (tree_at mid region) choice.term low region-of.formula region-of.words choice.chosen)

      one-takes : (id : ℕ) → IsRegion point old id → Takes p.level (tree_at now term) (tree_at now id)
      one-takes id h = subst (Takes p.level (tree_at now term)) (sym (stays-at old now id grown h.below))
          (record { free = h.formula.quantifier_free; sorts = chosen-fits point p.level (tree_at old id) (tree_at now term) h.formula h.words of-term })

      pub all-take : All (λ id. Takes p.level (tree_at now term) (tree_at now id)) parts
      all-take = All-from_recursion (λ id. Takes p.level (tree_at now term) (tree_at now id)) parts (all-weaker (IsRegion point old) (λ id. Takes p.level (tree_at now term) (tree_at now id)) parts one-takes regions)

      parts-low : AllByRecursion (λ id. id < length old) parts
      parts-low = all-weaker (IsRegion point old) (λ id. id < length old) parts (λ id h. h.below) regions

      pub parts-below : All (λ id. id < length now) parts
      parts-below =
          let more = longer old now grown in
          All-from_recursion (λ id. id < length now) parts (all-weaker (λ id. id < length old) (λ id. id < length now) parts (λ id h. omega (arith, h, more)) parts-low)

      pub same-parts : named now parts ≡ named old parts
      same-parts = named-grows old now parts grown parts-low

      pub still-picked : ArePicked p.level 0 (named old parts) numbers → ArePicked p.level 0 (named now parts) numbers
      still-picked h = subst (λ (ts : List Tree). ArePicked p.level 0 ts numbers) (sym same-parts) h

      module _ (new : List Tree) (new_grows : Grows now new) where
        pub part-choice : IsPartChoice point p old parts numbers new term
        part-choice =
            let more = longer now new new_grows in
            let low_term = choice.stands.below in
            record {
              picked = picked;
              at = at;
              choice = subst (λ (t : Tree). IsChoice point p t new term) stands.tree
                  (record { term = choice.term; stands = record { below = omega (arith, low_term, more); tree = stays-at now new term new_grows low_term ∙ choice.stands.tree }; chosen = choice.chosen });
            }

        pub put-parts : (made : List ℕ) → All (λ id. id < length new) made → named new made ≡ map (with_term p.level (tree_at now term)) (named now parts) → ArePut p.level old parts new made term
        put-parts made below are = record {
          below = recursion_from_All (λ id. id < length new) made below;
          are = are ∙ ap (map (with_term p.level (tree_at now term))) same-parts
              ∙ ap (λ t. map (with_term p.level t) (named old parts)) (sym (stays-at now new term new_grows choice.stands.below));
        }
