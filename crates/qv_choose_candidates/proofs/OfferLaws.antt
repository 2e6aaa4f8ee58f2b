-- Candidates put into a store, one after another; what is known of them stays known in longer stores.
use Rattle.std.proofs.Common.{◌≡◌, ℕ, ◌+◌, ◌<◌, arith, Some, List, [], ◌∷◌, ◌++◌, length, map, take, refl, sym, ap, ◌∙◌, subst, slice_get}
use Rattle.std.specs.List.{AllByRecursion}
use Rattle.std.proofs.lemmas.List.{map-append}
use Rattle.qv_words.specs.Tree.{Tree, tree_sort}
use Rattle.qv_words.specs.Choice.{descend}
use Rattle.qv_words.proofs.Elements.{all-weaker}
use Rattle.qv_words.proofs.Leaves.{both}
use Rattle.qv_store.specs.Nodes.{tree_at}
use Rattle.qv_store.specs.Stores.{Grows}
use Rattle.qv_store.specs.Walks.{named}
use Rattle.qv_choose_candidates.specs.declared.offers.Offer.{Offer}
use Rattle.qv_choose_candidates.specs.declared.offers.Offer.TheVariants.{Truth, Down}
use Rattle.qv_choose_paths.specs.declared.seeing.Sight.{Sight}
use Rattle.qv_choose_paths.specs.Rows.{sort_of, sort_at}
use Rattle.qv_choose_paths.specs.Looks.{way_of}
use Rattle.qv_choose_paths.specs.Sights.{IsScene}
use Rattle.qv_choose_candidates.specs.Targets.{target_tree}
use Rattle.qv_choose_candidates.specs.Offers.{offered, IsAim, IsReady}
use Rattle.qv_choose_candidates.specs.Chosen.{IsPut}
use Rattle.qv_choose_paths.proofs.RowTerms.{stays-at, longer}
use Rattle.qv_choose_paths.proofs.SceneLaws.{earlier-below, named-grows}
use Rattle.qv_choose_candidates.proofs.ListLaws.{take-next}

-- ---- in a store that has grown

aim-grows : (old new : List Tree) (s : Sight) (side other : ℕ) → Grows old new → IsScene old s → IsAim s.place old s.walk side other → IsAim s.place new s.walk side other
aim-grows old new s side other g h aim =
    let at-side = stays-at old new side g (earlier-below old s.walk side h.walk aim.side_there) in
    let at-other = stays-at old new other g (earlier-below old s.walk other h.walk aim.other_there) in
    record {
      side_there = aim.side_there;
      other_there = aim.other_there;
      way = ap (way_of s.place) at-side ∙ aim.way;
      width = aim.width;
      side_sort = ap tree_sort at-side ∙ aim.side_sort;
      other_sort = ap tree_sort at-other ∙ aim.other_sort;
    }

pub ready-grows : (old new : List Tree) (s : Sight) (o : Offer) → Grows old new → IsScene old s → IsReady s.place old s.walk o → IsReady s.place new s.walk o
ready-grows old new s (Truth b) g h ready =
    record { number = ready.number; there = ready.there; is = stays-at old new ready.number g (earlier-below old s.walk ready.number h.walk ready.there) ∙ ready.is }
ready-grows old new s (Down side other target) g h ready = aim-grows old new s side other g h ready

pub offered-grows : (old new : List Tree) (s : Sight) (o : Offer) → Grows old new → IsScene old s → IsReady s.place old s.walk o → offered s.place new o ≡ offered s.place old o
offered-grows old new s (Truth b) g h ready = refl
offered-grows old new s (Down side other target) g h ready =
    let at-side = stays-at old new side g (earlier-below old s.walk side h.walk ready.side_there) in
    let at-other = stays-at old new other g (earlier-below old s.walk other h.walk ready.other_there) in
    ap (λ u. descend s.place.level u (target_tree target (sort_at new other) (tree_at new other))) at-side
    ∙ ap (λ u. descend s.place.level (tree_at old side) (target_tree target (sort_of u) u)) at-other

-- ---- one more

pub next-put : (first old new : List Tree) (s : Sight) (os : List Offer) (i : ℕ) (o : Offer) (ids more : List ℕ) (id : ℕ) → slice_get os i ≡ Some o → Grows first old → Grows old new → IsScene first s → IsReady s.place first s.walk o
    → AllByRecursion (λ n. n < length old) ids → IsPut s.place old o new id → more ≡ ids ++ id ∷ [] → map Some (named old ids) ≡ map (offered s.place first) (take i os) → map Some (named new more) ≡ map (offered s.place first) (take (i + 1) os)
next-put first old new s os i o ids more id at g h scene ready low put is so =
    ap (λ ns. map Some (named new ns)) is ∙ ap (map Some) (map-append (tree_at new) ids (id ∷ [])) ∙ map-append Some (named new ids) (tree_at new id ∷ [])
    ∙ ap (λ us. us ++ Some (tree_at new id) ∷ []) (ap (map Some) (named-grows old new ids h low) ∙ so)
    ∙ ap (λ u. map (offered s.place first) (take i os) ++ u ∷ []) (ap Some put.stands.tree ∙ sym put.is ∙ offered-grows first old s o g scene ready)
    ∙ sym (ap (map (offered s.place first)) (take-next os i o at) ∙ map-append (offered s.place first) (take i os) (o ∷ []))

pub next-below : (old new : List Tree) (ids more : List ℕ) (id : ℕ) → Grows old new → AllByRecursion (λ n. n < length old) ids → id < length new → more ≡ ids ++ id ∷ [] → AllByRecursion (λ n. n < length new) more
next-below old new ids more id g low here is =
    let more-long = longer old new g in
    subst (AllByRecursion (λ n. n < length new)) (sym is)
    (both (λ n. n < length new) ids (id ∷ []) (all-weaker (λ n. n < length old) (λ n. n < length new) ids (λ n h. omega (arith, h, more-long)) low) (here, tt))
