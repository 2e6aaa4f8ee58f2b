-- The choice so far, by the conjuncts in which each place stands.
use Rattle.std.proofs.Common.{◌≡◌, ℕ, suc, ◌+◌, ◌-◌, ◌<◌, ◌≤◌, arith, Some, List, [], ◌∷◌, ◌++◌, length, map, get_or, drop, refl, sym, ap, ◌∙◌, subst, slice_get, append_assoc, append-nil, add-one}
use Rattle.std.specs.Prelude.{All, IsSomeAnd, Vec, option_map, unwrap_or}
use Rattle.std.specs.List.{AllByRecursion, AllZip}
use Rattle.std.specs.declared.alloc.Global.{Global}
use Rattle.std.proofs.lemmas.List.{map-append}
use Rattle.std.proofs.lemmas.Option.{slice_get-map, slice_get-get_or}
use Rattle.std.proofs.lemmas.List.Elements.{recursion_from_All, All-from_recursion}
use Rattle.qv_words.specs.declared.sort.Sort.{Sort}
use Rattle.qv_words.specs.declared.sort.Sort.TheVariants.{Bool as BoolSort}
use Rattle.qv_words.specs.declared.word.Word.{Word}
use Rattle.qv_words.specs.Word.{word_sort, sorts_of, values_of}
use Rattle.qv_words.specs.Tree.{Tree, tree_sort, IsQuantifierFree}
use Rattle.qv_words.specs.Sorted.{no_levels, with_level, constants_of, free_levels}
use Rattle.qv_words.specs.Values.{HasWords}
use Rattle.qv_words.specs.Skolem.{IsTermOf}
use Rattle.qv_words.specs.Problem.{conjunction}
use Rattle.qv_words.specs.Choice.{AreChosen, IsChosen, IsTrueAt, is_outside, with_term}
use Rattle.qv_words.specs.ChoiceLaws.{HasSortAt}
use Rattle.qv_words.proofs.Leaves.{both}
use Rattle.qv_words.proofs.Chosen.{terms-outside, terms-keep_truth}
use Rattle.qv_words.proofs.Elements.{all-weaker, dropped-at, dropped-none, get-map, zip-map, zip-more}
use Rattle.qv_game_laws.proofs.Terms.{IsOf, HasSort, over-constants, over-leaves, over-free, each-leaf, term-from_over}
use Rattle.qv_store.specs.Nodes.{tree_at}
use Rattle.qv_store.specs.Stores.{StandsAt, AreShared, Grows}
use Rattle.qv_store.specs.Walks.{named}
use Rattle.qv_store.proofs.Replacement.{grows-more}
use Rattle.qv_choose_paths.specs.Sights.{IsRegion}
use Rattle.qv_choose_paths.proofs.RowTerms.{stays-at, longer}
use Rattle.qv_choose_paths.proofs.SceneLaws.{named-grows}
use Rattle.qv_choose_candidates.specs.Chosen.{IsChoice, place_sort}
use Rattle.qv_choose.specs.Conjuncts.{AreConjuncts, LeavesOut, ArePicked}
use Rattle.qv_choose.specs.Listing.{numbers_in, AreListed}
use Rattle.qv_choose.proofs.Parts.{conjuncts-take, parts-of, parts-hold, whole-holds, whole-of, all-next, sorts-of, of-left, all-hold}
use Rattle.qv_choose.proofs.Joined.{are-joined}
use Rattle.qv_choose.proofs.ByConjuncts.{chosen-whole}
use Rattle.qv_choose.specs.Parts.{Takes, AreAt, IsPartChoice, ArePut}
use Rattle.qv_choose.proofs.NextLaws.{AtPoint, found-word, one-sort, region-over, chosen-of, chosen-fits}
use Rattle.qv_choose.proofs.PartLaws.{left-picked, zip-all, stay-listed}

-- ---- regions

pub words-of : (point : List Word) (s : Sort) (t : Tree) → IsOf (AtPoint point) s t → HasWords [] point t
words-of point s t h = record {
  constants = All-from_recursion (λ leaf. IsSomeAnd (slice_get [] leaf.0) (λ w. word_sort w ≡ leaf.1)) (constants_of t)
      (subst (AllByRecursion (λ leaf. IsSomeAnd (slice_get [] leaf.0) (λ w. word_sort w ≡ leaf.1))) (sym (over-constants (AtPoint point) t h.0)) tt);
  levels = All-from_recursion (λ leaf. IsSomeAnd (slice_get point leaf.0) (λ w. word_sort w ≡ leaf.1)) (free_levels t)
      (each-leaf (λ leaf. IsSomeAnd (slice_get point leaf.0) (λ w. word_sort w ≡ leaf.1)) (AtPoint point) (λ l s k. k) (free_levels t) (over-leaves (AtPoint point) t h.0));
}

pub are-of : (point : List Word) (trees : List Tree) (ids : List ℕ) → AllByRecursion (IsRegion point trees) ids → AllByRecursion (IsOf (AtPoint point) BoolSort) (named trees ids)
are-of point trees [] h = tt
are-of point trees (id ∷ ids) h = (region-over point (tree_at trees id) h.0.formula h.0.words, are-of point trees ids h.1)

pub regions-from : (point : List Word) (trees : List Tree) (ids : List ℕ) → AreShared trees → AllByRecursion (λ id. id < length trees) ids → AllByRecursion (IsOf (AtPoint point) BoolSort) (named trees ids) → AllByRecursion (IsRegion point trees) ids
regions-from point trees [] shared low h = tt
regions-from point trees (id ∷ ids) shared low h = (
  record { shared = shared; below = low.0; formula = term-from_over (AtPoint point) BoolSort (tree_at trees id) h.0; words = words-of point BoolSort (tree_at trees id) h.0 },
  regions-from point trees ids shared low.1 h.1,
)

-- what holds of each tree, by its number and by itself
pub by-tree : (Q : Tree → Type 0) (trees : List Tree) (ids : List ℕ) → AllByRecursion (λ id. Q (tree_at trees id)) ids → AllByRecursion Q (named trees ids)
by-tree Q trees [] h = tt
by-tree Q trees (id ∷ ids) h = (h.0, by-tree Q trees ids h.1)

pub by-number : (Q : Tree → Type 0) (trees : List Tree) (ids : List ℕ) → AllByRecursion Q (named trees ids) → AllByRecursion (λ id. Q (tree_at trees id)) ids
by-number Q trees [] h = tt
by-number Q trees (id ∷ ids) h = (h.0, by-number Q trees ids h.1)

-- the conjunction of parts of them
pub joined-region : (point : List Word) (trees : List Tree) (ids : List ℕ) → AllByRecursion (IsRegion point trees) ids → IsOf (AtPoint point) BoolSort (conjunction (named trees ids))
joined-region point trees ids h = whole-of (AtPoint point) (conjunction (named trees ids)) (named trees ids) (are-joined (named trees ids)) (are-of point trees ids h)

-- ---- one place more

-- the region that is left, and how the choice goes on with it
pub record GoesOn (point : List Word) (first end : ℕ) (region : Tree) (trees : List Tree) (parts : List ℕ) (level : ℕ) (ids : List ℕ) : Type 0 where
  pub rest : Tree
  pub conjuncts : AreConjuncts rest (named trees parts)
  pub leads : (terms : List Tree) → AreChosen first end (values_of point) rest level (drop level (sorts_of point)) terms
      → AreChosen first end (values_of point) region first (drop first (sorts_of point)) (named trees ids ++ terms)

pub record IsGoing (point : List Word) (first end : ℕ) (old : List Tree) (start : List ℕ) (trees : List Tree) (parts : List ℕ) (level : ℕ) (ids : List ℕ) (lists : List (List ℕ)) : Type 0 where
  pub shared : AreShared trees
  pub grows : Grows old trees
  pub regions : AllByRecursion (IsRegion point trees) parts
  pub hold : AllByRecursion (λ id. IsTrueAt (values_of point) (tree_at trees id)) parts
  pub listed : AreListed first (named trees parts) lists
  pub below : AllByRecursion (λ id. id < length trees) ids
  pub goes_on : (region : Tree) → AreConjuncts region (named old start) → GoesOn point first end region trees parts level ids

module _ (point : List Word) (first end : ℕ) (old : List Tree) (start : List ℕ) (trees : List Tree) (parts : List ℕ) (level : ℕ) (ids : List ℕ) (lists : List (List ℕ)) (numbers : List ℕ) (new : List Tree) (made more : List ℕ) (term : ℕ)
    (so_far : IsGoing point first end old start trees parts level ids lists) (choice : IsPartChoice point (record { first = first; end = end; level = level }) trees parts numbers new term)
    (put : ArePut level trees parts new made term) (grows : Grows trees new) (shared : AreShared new) (low : level < length point) (long : first + length lists ≤ end)
    (picked : ArePicked level 0 (named trees parts) numbers) (items : more ≡ ids ++ term ∷ []) where
  abbrev u : Tree
  u = choice.choice.term

  abbrev part : Tree
  part = conjunction (named trees choice.picked)

  own : HasSort (AtPoint point) level (place_sort point level)
  own r h = one-sort point level r h

  are : AllByRecursion (IsOf (AtPoint point) BoolSort) (named trees parts)
  are = are-of point trees parts so_far.regions

  hold : AllByRecursion (IsTrueAt (values_of point)) (named trees parts)
  hold = by-tree (IsTrueAt (values_of point)) trees parts so_far.hold

  out : LeavesOut level (named trees parts) (named trees choice.picked)
  out =
      left-picked level 0 (named trees parts) numbers (named trees parts) (named trees choice.picked)
      (λ k t e. let plain : 0 + k ≡ k = omega arith in ap (slice_get (named trees parts)) plain ∙ e) picked
      (zip-map (λ i v. slice_get (named trees parts) i ≡ Some v) (tree_at trees) numbers choice.picked
      (zip-more (λ n id. slice_get parts n ≡ Some id) (λ n id. slice_get (named trees parts) n ≡ Some (tree_at trees id)) (λ n id e. get-map (tree_at trees) parts n id e) numbers choice.picked choice.at))

  of-part : IsOf (AtPoint point) BoolSort part
  of-part = joined-region point trees choice.picked (zip-all (IsRegion point trees) parts numbers choice.picked so_far.regions choice.at)

  of-term : IsOf (AtPoint point) (place_sort point level) u
  of-term = chosen-of point first end level part u low (term-from_over (AtPoint point) BoolSort part of-part) (words-of point BoolSort part of-part) choice.choice.chosen

  part-sort : HasSortAt level (place_sort point level) part
  part-sort =
      All-from_recursion (λ leaf. leaf.0 ≡ level → leaf.1 ≡ place_sort point level) (free_levels part)
      (each-leaf (λ leaf. leaf.0 ≡ level → leaf.1 ≡ place_sort point level) (AtPoint point)
      (λ l s k e. one-sort point level s (subst (λ (j : ℕ). AtPoint point j s) e k)) (free_levels part) (over-leaves (AtPoint point) part of-part.0))

  part-holds : IsTrueAt (values_of point) part
  part-holds =
      (whole-holds (values_of point) part (named trees choice.picked) (are-joined (named trees choice.picked))
      (sorts-of (AtPoint point) (named trees choice.picked) (of-left (IsOf (AtPoint point) BoolSort) level (named trees parts) (named trees choice.picked) out are))
      (of-left (IsTrueAt (values_of point)) level (named trees parts) (named trees choice.picked) out hold)).0

  next-holds : AllByRecursion (IsTrueAt (values_of point)) (map (with_term level u) (named trees parts))
  next-holds =
      all-hold (values_of point) level u (named trees parts) (named trees choice.picked) out hold
      (parts-hold (values_of point) (with_term level u part) (map (with_term level u) (named trees choice.picked))
      (conjuncts-take part (named trees choice.picked) level u (are-joined (named trees choice.picked)))
      (terms-keep_truth first end (values_of point) part level (place_sort point level) u (over-free (AtPoint point) part of-part.0) part-sort part-holds choice.choice.chosen))

  next-are : named new made ≡ map (with_term level u) (named trees parts)
  next-are = put.are ∙ ap (λ t. map (with_term level t) (named trees parts)) choice.choice.stands.tree

  here-sort : slice_get (sorts_of point) level ≡ Some (place_sort point level)
  here-sort =
      let here = found-word point level low in
      slice_get-map word_sort point level ∙ ap (option_map word_sort) here.1 ∙ ap (λ o. Some (unwrap_or (option_map word_sort o) BoolSort)) (sym here.1)

  all-there : AllByRecursion (λ id. id < length new) more
  all-there =
      let two = longer trees new grows in
      subst (AllByRecursion (λ id. id < length new)) (sym items)
      (both (λ id. id < length new) ids (term ∷ []) (all-weaker (λ id. id < length trees) (λ id. id < length new) ids (λ id h. omega (arith, h, two)) so_far.below) (choice.choice.stands.below, tt))

  names : (terms : List Tree) → named trees ids ++ u ∷ terms ≡ named new more ++ terms
  names terms =
      let same : named new more ≡ named trees ids ++ u ∷ [] =
      ap (named new) items ∙ map-append (tree_at new) ids (term ∷ [])
      ∙ ap (λ xs. xs ++ tree_at new term ∷ []) (named-grows trees new ids grows so_far.below)
      ∙ ap (λ t. named trees ids ++ t ∷ []) choice.choice.stands.tree in
      sym (append_assoc (named trees ids) (u ∷ []) terms) ∙ ap (λ xs. xs ++ terms) (sym same)

  on : (region : Tree) → AreConjuncts region (named old start) → GoesOn point first end region new made (level + 1) more
  on region h =
      let was = so_far.goes_on region h in
      let chosen : IsChosen first end (values_of point) was.rest level (place_sort point level) u =
      chosen-whole (AtPoint point) first end (values_of point) was.rest part (named trees parts) (named trees choice.picked) level (place_sort point level) own are hold was.conjuncts (are-joined (named trees choice.picked)) out u choice.choice.chosen in
      record {
        rest = with_term level u was.rest;
        conjuncts = subst (AreConjuncts (with_term level u was.rest)) (sym next-are) (conjuncts-take was.rest (named trees parts) level u was.conjuncts);
        leads = λ terms k.
            let later : AreChosen first end (values_of point) (with_term level u was.rest) (suc level) (drop (suc level) (sorts_of point)) terms =
            subst (λ (n : ℕ). AreChosen first end (values_of point) (with_term level u was.rest) n (drop n (sorts_of point)) terms) (add-one level) k in
            let all : AreChosen first end (values_of point) was.rest level (drop level (sorts_of point)) (u ∷ terms) =
            subst (λ (sorts : List Sort). AreChosen first end (values_of point) was.rest level sorts (u ∷ terms)) (sym (dropped-at (sorts_of point) level (place_sort point level) here-sort)) (chosen, later) in
            subst (λ (ts : List Tree). AreChosen first end (values_of point) region first (drop first (sorts_of point)) ts) (names terms) (was.leads (u ∷ terms) all);
      }

  pub going-on : IsGoing point first end old start new made (level + 1) more lists
  going-on =
      let outside = terms-outside first end (values_of point) part level (place_sort point level) u (over-free (AtPoint point) part of-part.0) choice.choice.chosen in
      record {
        shared = shared;
        grows = grows-more old trees new so_far.grows grows;
        regions = regions-from point new made shared put.below
            (subst (AllByRecursion (IsOf (AtPoint point) BoolSort)) (sym next-are) (all-next (AtPoint point) level (place_sort point level) u own of-term (named trees parts) are));
        hold = by-number (IsTrueAt (values_of point)) new made (subst (AllByRecursion (IsTrueAt (values_of point))) (sym next-are) next-holds);
        listed = subst (λ (ts : List Tree). AreListed first ts lists) (sym next-are) (stay-listed first end level u (named trees parts) lists long outside.0 outside.1 so_far.listed);
        below = all-there;
        goes_on = on;
      }

-- at the start and at the end
pub start-going : (point : List Word) (first end : ℕ) (old : List Tree) (start : List ℕ) (lists : List (List ℕ)) → AreShared old → Grows old old → AllByRecursion (IsRegion point old) start → AllByRecursion (λ id. IsTrueAt (values_of point) (tree_at old id)) start → AreListed first (named old start) lists
    → IsGoing point first end old start old start first [] lists
start-going point first end old start lists shared grows regions hold listed = record {
  shared = shared;
  grows = grows;
  regions = regions;
  hold = hold;
  listed = listed;
  below = tt;
  goes_on = λ region h. record { rest = region; conjuncts = h; leads = λ terms k. k };
}

pub whole-going : (point : List Word) (first end : ℕ) (old : List Tree) (start : List ℕ) (trees : List Tree) (parts : List ℕ) (level : ℕ) (ids : List ℕ) (lists : List (List ℕ)) → IsGoing point first end old start trees parts level ids lists → length (sorts_of point) ≤ level
    → (region : Tree) → AreConjuncts region (named old start) → AreChosen first end (values_of point) region first (drop first (sorts_of point)) (named trees ids)
whole-going point first end old start trees parts level ids lists so_far long region h =
    let on-it = so_far.goes_on region h in
    subst (λ (ts : List Tree). AreChosen first end (values_of point) region first (drop first (sorts_of point)) ts) (append-nil (named trees ids))
    (on-it.leads [] (subst (λ (sorts : List Sort). AreChosen first end (values_of point) on-it.rest level sorts []) (sym (dropped-none (sorts_of point) level long)) refl))

-- the numbers of those in which a place stands
pub own-picked : (first level : ℕ) (ts : List Tree) (lists : List (Vec ℕ Global)) (v : Vec ℕ Global) → first ≤ level → level - first < length lists → v ≡ get_or lists (level - first) v → AreListed first ts (numbers_in lists) → ArePicked level 0 ts v.items
own-picked first level ts lists v low within own h =
    let at : slice_get lists (level - first) ≡ Some v = slice_get-get_or lists (level - first) v within ∙ ap (λ w. Some w) (sym own) in
    let plain : first + (level - first) ≡ level = omega (arith, low) in
    subst (λ (n : ℕ). ArePicked n 0 ts v.items) plain (h (level - first) v.items (get-map (λ w. w.items) lists (level - first) v at))

-- the conjuncts of a region that is true at the point
pub start-regions : (point : List Word) (trees : List Tree) (region : ℕ) (parts : List ℕ) → AreShared trees → IsTermOf (tree_at trees region) BoolSort → HasWords [] point (tree_at trees region) → All (λ id. id < length trees) parts
    → AreConjuncts (tree_at trees region) (named trees parts) → AllByRecursion (IsRegion point trees) parts
start-regions point trees region parts shared formula words low h =
    regions-from point trees parts shared (recursion_from_All (λ id. id < length trees) parts low)
    (parts-of (AtPoint point) (tree_at trees region) (named trees parts) h (region-over point (tree_at trees region) formula words))

pub start-holds : (point : List Word) (trees : List Tree) (region : ℕ) (parts : List ℕ) → IsTrueAt (values_of point) (tree_at trees region) → AreConjuncts (tree_at trees region) (named trees parts) → All (λ id. IsTrueAt (values_of point) (tree_at trees id)) parts
start-holds point trees region parts holds h =
    All-from_recursion (λ id. IsTrueAt (values_of point) (tree_at trees id)) parts
    (by-number (IsTrueAt (values_of point)) trees parts (parts-hold (values_of point) (tree_at trees region) (named trees parts) h holds))
