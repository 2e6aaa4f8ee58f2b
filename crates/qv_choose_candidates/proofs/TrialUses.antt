-- What trials say of a sight.
use Rattle.std.proofs.Common.{◌≡◌, ℕ, ◌==◌, Bool, true, false, cond, Result, Ok, Err, Option, Some, List, [], ◌∷◌, filter, length, refl, sym, ap, ◌∙◌, subst, slice_get}
use Rattle.std.specs.Prelude.{IfOk, IsSomeAnd}
use Rattle.std.proofs.lemmas.Bool.{eq-eqb}
use Rattle.std.proofs.lemmas.List.Elements.{All-head}
use Rattle.qv_words.specs.declared.sort.Sort.{Sort}
use Rattle.qv_words.specs.declared.sort.Sort.TheVariants.{Bits, Bool as BoolSort}
use Rattle.qv_words.specs.declared.word.Word.{Word}
use Rattle.qv_words.specs.Word.{word_sort, word_value}
use Rattle.qv_words.specs.Tree.{Tree, Variable, tree_sort, IsQuantifierFree}
use Rattle.qv_words.specs.Sorted.{IsSorted}
use Rattle.qv_words.specs.Passes.{truth_literal}
use Rattle.qv_words.specs.InverseLaws.{IsOver as IsRowOver}
use Rattle.qv_words.specs.Choice.{candidates_of, descend, is_outside, put_in_row}
use Rattle.qv_store.specs.Nodes.{tree_at}
use Rattle.qv_store.specs.Walks.{IsEarlier, IsFound}
use Rattle.qv_store.specs.Evaluating.{IsWordOf, HasValue}
use Rattle.qv_choose_candidates.specs.declared.offers.Target.{Target}
use Rattle.qv_choose_paths.specs.declared.ways.Way.TheVariants.{Open}
use Rattle.qv_choose_paths.specs.declared.seeing.Sight.{Sight}
use Rattle.qv_choose_paths.specs.declared.seeing.Trial.{Trial}
use Rattle.qv_choose_paths.specs.declared.ways.Place.{Place}
use Rattle.qv_choose_candidates.specs.declared.offers.Offer.{Offer}
use Rattle.qv_choose_candidates.specs.declared.offers.Offer.TheVariants.{Truth}
use Rattle.qv_choose_paths.specs.Rows.{sort_at, IsRowWord}
use Rattle.qv_choose_paths.specs.Looks.{way_of}
use Rattle.qv_choose_paths.specs.Steps.{ArrivesAs, IsPlaceWord}
use Rattle.qv_choose_candidates.specs.Targets.{target_tree}
use Rattle.qv_choose_paths.specs.Sights.{IsScene, IsTrial}
use Rattle.qv_choose_candidates.specs.Offers.{offered, IsAim, IsTruthPlace, Decides, HasPlaceSort}
use Rattle.qv_choose_paths.proofs.SceneLaws.{earlier-below, lawful-at}
use Rattle.qv_choose_paths.proofs.StepLaws.{sort-as}
use Rattle.qv_choose_paths.proofs.WayLaws.{Stands, IsOpen, ways-stand}
use Rattle.qv_choose_candidates.proofs.SideLaws.{target-put, target-over, target-sorted}

-- answers that hold in another form
pub decides-other : {E : Type 0} (r : Result Bool E) (P Q R : Tree → Type 0) → ((u : Tree) → R u → Q u) → IfOk r (Decides P Q) → IfOk r (Decides P R)
decides-other (Ok held) P Q R h d = λ u k. d u (h u k)
decides-other (Err e) P Q R h d = tt

-- truth values
pub truth-word : (point : List Word) (b : Bool) (w : Word) → word_sort w ≡ BoolSort → word_value w ≡ cond b 1 0 → IsWordOf [] point (truth_literal b) w
truth-word point b w sort value = record { sort = ap (λ s. Some s) (sym sort); value = value }

pub truth-held : (point : List Word) (p : Place) (trees : List Tree) (o : Offer) (b : Bool) (w : Word) (u : Tree) → o ≡ Truth b → word_sort w ≡ BoolSort → word_value w ≡ cond b 1 0 → offered p trees o ≡ Some u → IsWordOf [] point u w
truth-held point p trees o b w u is sort value e =
    let both : Some (truth_literal b) ≡ Some u = sym (ap (offered p trees) is) ∙ e in
    let same : truth_literal b ≡ u = cc in
    subst (λ (t : Tree). IsWordOf [] point t w) same (truth-word point b w sort value)

-- what a walk's terms are
pub walk-open : (trees : List Tree) (s : Sight) (n : ℕ) → IsScene trees s → IsEarlier s.walk (length s.walk) n → way_of s.place (tree_at trees n) ≡ Open → IsOpen s.place (tree_at trees n)
walk-open trees s n scene e way =
    subst (Stands s.place (tree_at trees n)) way (ways-stand s.place (tree_at trees n) (scene.shared.sorted n (earlier-below trees s.walk n scene.walk e)) (scene.free e.place n e.at))

pub walk-free : (trees : List Tree) (s : Sight) (n : ℕ) → IsScene trees s → IsEarlier s.walk (length s.walk) n → IsQuantifierFree (tree_at trees n)
walk-free trees s n scene e = scene.free e.place n e.at

-- the place's word at the point has the place's sort
pub place-sort : (point : List Word) (trees : List Tree) (region : ℕ) (t : Trial) (w : Word) → IsTrial point trees region t → IsPlaceWord t.sight.place trees t.sight.walk w → HasPlaceSort point t.sight.place.level (word_sort w)
place-sort point trees region t w trial h =
    let value : HasValue [] point (Variable t.sight.place.level (word_sort w)) = subst (λ (u : Tree). HasValue [] point u) h.is (trial.values h.there.place h.number h.there.at) in
    All-head (λ leaf. IsSomeAnd (slice_get point leaf.0) (λ v. word_sort v ≡ leaf.1)) (t.sight.place.level, word_sort w) [] value.words.levels

pub truth-sort : (point : List Word) (trees : List Tree) (region : ℕ) (t : Trial) (w : Word) → IsTrial point trees region t → IsTruthPlace t.sight.place trees t.sight.walk → word_sort w ≡ BoolSort → HasPlaceSort point t.sight.place.level (word_sort w)
truth-sort point trees region t w trial h sort =
    place-sort point trees region t w trial (record { number = h.number; there = h.there; is = h.is ∙ ap (λ q. Variable t.sight.place.level q) (sym sort) })

-- a target's row at the other side's word
module _ (point : List Word) (trees : List Tree) (region : ℕ) (t : Trial) (side other : ℕ) (k : Target) (sort : Sort) (row : Tree) (word : Word) (trial : IsTrial point trees region t) (aim : IsAim t.sight.place trees t.sight.walk side other)
    (own : tree_sort (tree_at trees other) ≡ Some sort) (is : row ≡ target_tree k sort (Variable 0 sort)) (found : IsFound t.sight.walk t.words.items other word) where
  other-sort : sort ≡ word_sort word
  other-sort = let same : Some sort ≡ Some (word_sort word) = sym own ∙ (trial.words found.place other word found.at found.found).sort in cc

  pub aim-sorted : IsSorted row
  aim-sorted =
      let same : Some (Bits aim.width) ≡ Some sort = sym aim.other_sort ∙ own in
      let bits : Bits aim.width ≡ sort = cc in
      let lawful = lawful-at trees other (Bits aim.width) trial.region.shared (earlier-below trees t.sight.walk other trial.sight.scene.walk aim.other_there) aim.other_sort in
      subst IsSorted (sym is) (subst (λ (q : Sort). IsSorted (target_tree k q (Variable 0 q))) bits (target-sorted k aim.width lawful))

  pub aim-over : IsRowOver (word_sort word) (word_sort word) row
  aim-over =
      subst (λ (r : Tree). IsRowOver (word_sort word) (word_sort word) r) (sym is)
      (subst (λ (q : Sort). IsRowOver q q (target_tree k sort (Variable 0 sort))) other-sort (target-over k sort sort))

  pub aim-word : (aimed : Word) → IsRowWord row word word aimed → IsWordOf [] point (target_tree k (sort_at trees other) (tree_at trees other)) aimed
  aim-word aimed h =
      let own-word = trial.words found.place other word found.at found.found in
      let put : put_in_row (tree_at trees other) (tree_at trees other) row ≡ target_tree k (sort_at trees other) (tree_at trees other) =
      ap (put_in_row (tree_at trees other) (tree_at trees other)) is ∙ target-put k sort (tree_at trees other) (tree_at trees other)
      ∙ ap (λ q. target_tree k q (tree_at trees other)) (sym (sort-as (tree_at trees other) sort own)) in
      subst (λ (r : Tree). IsWordOf [] point r aimed) put (h point (tree_at trees other) (tree_at trees other) own-word own-word)

  pub aim-arrives : (aimed arrived : Word) → IsRowWord row word word aimed → ArrivesAs t.sight.place trees t.sight.walk t.words.items side aimed arrived
      → (u : Tree) → descend t.sight.place.level (tree_at trees side) (target_tree k (sort_at trees other) (tree_at trees other)) ≡ Some u → IsWordOf [] point u arrived
  aim-arrives aimed arrived h arrives u e =
      let there = arrives point (target_tree k (sort_at trees other) (tree_at trees other)) trial.words (aim-word aimed h) in
      let both : Some there.term ≡ Some u = sym there.is ∙ e in
      let same : there.term ≡ u = cc in
      subst (λ (r : Tree). IsWordOf [] point r arrived) same there.word
