-- The term of a candidate.
use Rattle.std.proofs.Common.{◌≡◌, ℕ, zero, suc, ◌<◌, ◌==◌, arith, Bool, true, false, cond, Option, Some, None, List, [], ◌∷◌, length, set, refl, sym, ap, ◌∙◌, subst}
use Rattle.std.specs.Prelude.{IfSome, option_map}
use Rattle.std.proofs.lemmas.Bool.{eqb-true, eqb-false}
use Rattle.std.proofs.lemmas.List.Elements.{recursion_from_All, All-from_recursion}
use Rattle.qv_words.specs.declared.sort.Sort.{Sort}
use Rattle.qv_words.specs.declared.sort.Sort.TheVariants.{Bits}
use Rattle.qv_words.specs.Tree.{Tree, Variable, tree_sort}
use Rattle.qv_words.specs.Sorted.{no_levels, with_level, free_levels, IsSorted}
use Rattle.qv_words.specs.Replacement.{replaced, HasTheirSorts}
use Rattle.qv_words.specs.Choice.{descend, put_in_row, with_term}
use Rattle.qv_words.proofs.Elements.{all-weaker}
use Rattle.qv_store.specs.Nodes.{tree_at}
use Rattle.qv_store.specs.Stores.{StandsAt, Grows}
use Rattle.qv_store.specs.Replacing.{put_by_level, term_of_level}
use Rattle.qv_choose_candidates.specs.declared.offers.Target.{Target}
use Rattle.qv_choose_candidates.specs.declared.offers.Offer.TheVariants.{Down}
use Rattle.qv_choose_paths.specs.declared.seeing.Sight.{Sight}
use Rattle.qv_choose_paths.specs.Rows.{sort_at}
use Rattle.qv_choose_paths.specs.Steps.{Arrives}
use Rattle.qv_choose_candidates.specs.Targets.{target_tree}
use Rattle.qv_choose_paths.specs.Sights.{IsScene}
use Rattle.qv_choose_candidates.specs.Offers.{IsAim}
use Rattle.qv_choose_candidates.specs.Chosen.{IsPut}
use Rattle.qv_choose_paths.proofs.RowTerms.{stays-at}
use Rattle.qv_words.proofs.Replaced.{same-put}
use Rattle.qv_choose_paths.proofs.SceneLaws.{earlier-below, lawful-at}
use Rattle.qv_choose_paths.proofs.StepLaws.{sort-as}
use Rattle.qv_choose_candidates.proofs.SideLaws.{target-put, target-sorted}

-- a target's row, by the sides' sort
pub aim-row : (trees : List Tree) (s : Sight) (side other : ℕ) (k : Target) (sort : Sort) (row : Tree) → IsScene trees s → IsAim s.place trees s.walk side other → tree_sort (tree_at trees other) ≡ Some sort → row ≡ target_tree k sort (Variable 0 sort) → IsSorted row
aim-row trees s side other k sort row scene aim own is =
    let same : Some (Bits aim.width) ≡ Some sort = sym aim.other_sort ∙ own in
    let bits : Bits aim.width ≡ sort = cc in
    let lawful = lawful-at trees other (Bits aim.width) scene.shared (earlier-below trees s.walk other scene.walk aim.other_there) aim.other_sort in
    subst IsSorted (sym is) (subst (λ (q : Sort). IsSorted (target_tree k q (Variable 0 q))) bits (target-sorted k aim.width lawful))

-- what arrives is the candidate's term
pub aim-put : (old mid new : List Tree) (s : Sight) (side other aimed made : ℕ) (k : Target) (sort : Sort) (row : Tree) → IsScene old s → IsAim s.place old s.walk side other → tree_sort (tree_at old other) ≡ Some sort → row ≡ target_tree k sort (Variable 0 sort)
    → Grows old mid → StandsAt mid aimed (put_in_row (tree_at old other) (tree_at old other) row) → Arrives s.place mid side aimed new made → IsPut s.place old (Down side other k) new made
aim-put old mid new s side other aimed made k sort row scene aim own is grows stands arrives = record {
  term = arrives.term;
  is = ap (λ t. descend s.place.level (tree_at old side) t) (sym target) ∙ ap (λ t. descend s.place.level t (tree_at mid aimed)) (sym (stays-at old mid side grows (earlier-below old s.walk side scene.walk aim.side_there))) ∙ arrives.is;
  stands = arrives.stands;
}
  where
    target : tree_at mid aimed ≡ target_tree k (sort_at old other) (tree_at old other)
    target =
        stands.tree ∙ ap (put_in_row (tree_at old other) (tree_at old other)) is ∙ target-put k sort (tree_at old other) (tree_at old other)
        ∙ ap (λ q. target_tree k q (tree_at old other)) (sym (sort-as (tree_at old other) sort own))
