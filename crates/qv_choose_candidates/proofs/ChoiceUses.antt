-- What was found is the choice for a place.
use Rattle.std.proofs.Common.{◌≡◌, ℕ, zero, suc, ◌<◌, ◌⊎◌, arith, inl, inr, true, cond, Option, Some, None, List, [], ◌∷◌, ◌++◌, filter, length, map, get_or, refl, sym, ap, ◌∙◌, subst, slice_get, append_assoc}
use Rattle.std.specs.Prelude.{All, IsSomeAnd, option_map, unwrap_or}
use Rattle.std.specs.List.{AllByRecursion, flat_map}
use Rattle.std.specs.Option.{option_to_list}
use Rattle.std.proofs.lemmas.Option.{slice_get-map, slice_get-get_or}
use Rattle.std.proofs.lemmas.List.Elements.{recursion_from_All, All-from_recursion, filter-append}
use Rattle.qv_words.specs.declared.sort.Sort.{Sort}
use Rattle.qv_words.specs.declared.sort.Sort.TheVariants.{Bool as BoolSort}
use Rattle.qv_words.specs.declared.word.Word.{Word}
use Rattle.qv_words.specs.Word.{word_sort, word_value, values_of}
use Rattle.qv_words.specs.Tree.{Tree, Literal}
use Rattle.qv_words.specs.Clauses.{nodes}
use Rattle.qv_words.specs.Choice.{definitions, candidates, candidates_of, is_outside, IsFirst, IsPointLiteral, IsChosen}
use Rattle.qv_words.proofs.Leaves.{both}
use Rattle.qv_words.proofs.Elements.{to-some}
use Rattle.qv_store.specs.Nodes.{tree_at}
use Rattle.qv_store.specs.Stores.{StandsAt, Grows}
use Rattle.qv_store.specs.Walks.{named}
use Rattle.qv_choose_paths.specs.declared.ways.Place.{Place}
use Rattle.qv_choose_candidates.specs.declared.offers.Offer.{Offer}
use Rattle.qv_choose_paths.specs.declared.seeing.Sight.{Sight}
use Rattle.qv_choose_paths.specs.Sights.{IsSight}
use Rattle.qv_choose_paths.proofs.RowTerms.{stays-at, longer}
use Rattle.qv_choose_candidates.specs.Offers.{Fails, StaysTrue, Stays, AreOffers, Finds, offered}
use Rattle.qv_choose_candidates.specs.Chosen.{IsChoice, IsOtherChoice, IsPut, others, place_sort}
use Rattle.qv_choose_clauses.specs.Defining.{IsOnly, IsDefinition}
use Rattle.qv_choose_candidates.proofs.ListLaws.{first-term, all-fail}

-- what is chosen for a block with places before it
behind-others : (first end : ℕ) (point : List ℕ) (region : Tree) (x : ℕ) (s : Sort) (t : Tree) → 0 < first → IsFirst point region x (candidates first end region x) t ⊎ IsPointLiteral point region x s (candidates first end region x) t → IsChosen first end point region x s t
behind-others zero end point region x s t low h = absurd (omega (arith, low))
behind-others (suc before) end point region x s t low h = h

-- the literal of the point's value
value-at : (point : List Word) (x : ℕ) (w : Word) → slice_get point x ≡ Some w → IsSomeAnd (slice_get (values_of point) x) (λ n. Literal (word_sort w) (word_value w) ≡ Literal (place_sort point x) n)
value-at point x w here =
    let sort : place_sort point x ≡ word_sort w = ap (λ q. unwrap_or (option_map word_sort q) BoolSort) here in
    to-some (slice_get (values_of point) x) (λ n. Literal (word_sort w) (word_value w) ≡ Literal (place_sort point x) n) (word_value w)
    (slice_get-map word_value point x ∙ ap (option_map word_value) here) (ap (λ q. Literal q (word_value w)) (sym sort))

-- it is chosen for a block with no places before it
pub value-choice : (point : List Word) (region : Tree) (p : Place) (w : Word) (new : List Tree) (id : ℕ) → p.first ≡ 0 → p.level < length point → w ≡ get_or point p.level w → StandsAt new id (Literal (word_sort w) (word_value w)) → IsChoice point p region new id
value-choice point region p w new id none low own stands =
    let here : slice_get point p.level ≡ Some w = slice_get-get_or point p.level w low ∙ ap (λ v. Some v) (sym own) in
    record {
      term = Literal (word_sort w) (word_value w);
      stands = stands;
      chosen = subst (λ (n : ℕ). IsChosen n p.end (values_of point) region p.level (place_sort point p.level) (Literal (word_sort w) (word_value w))) (sym none) (value-at point p.level w here);
    }

module _ (point : List Word) (trees : List Tree) (region : ℕ) (s : Sight) (offers : List Offer) (sight : IsSight trees region s) (all : AreOffers s.place trees s.walk (flat_map (candidates_of s.place.level) (named trees s.walk)) offers) where
  the-terms : map (offered s.place trees) offers ≡ map Some (others s.place (tree_at trees region))
  the-terms = all.terms ∙ ap (λ ts. map Some (filter (is_outside s.place.first s.place.end) (flat_map (candidates_of s.place.level) ts))) sight.order

  pub found-choice : (p : Place) (o : Offer) (found : Option Offer) (new : List Tree) (id : ℕ) → s.place ≡ p → found ≡ Some o
      → Finds (Stays point trees region s.place) s.place trees s.walk offers found → IsPut s.place trees o new id → IsOtherChoice point p (tree_at trees region) new id
  found-choice p o found new id same is finds put =
      let of = subst (λ (f : Option Offer). Finds (Stays point trees region s.place) s.place trees s.walk offers f) is finds in
      let first = first-term (Stays point trees region s.place) s.place trees s.walk of.before of.behind o (others s.place (tree_at trees region))
      (ap (map (offered s.place trees)) (sym of.stands) ∙ the-terms) of.holds of.others in
      let both : Some first.term ≡ Some put.term = sym first.is ∙ put.is in
      let one : first.term ≡ put.term = cc in
      subst (λ (q : Place). IsOtherChoice point q (tree_at trees region) new id) same
      (record {
        term = put.term;
        stands = put.stands;
        chosen = inl (record {
          before = first.before;
          behind = first.behind;
          stands = first.stands ∙ ap (λ t. first.before ++ t ∷ first.behind) one;
          holds = subst (λ (t : Tree). StaysTrue (values_of point) (tree_at trees region) s.place.level t) one first.holds;
          others = All-from_recursion (Fails (Stays point trees region s.place)) first.before first.others;
        });
      })

  pub literal-choice : (now : List Word) (p : Place) (w : Word) (found : Option Offer) (new : List Tree) (id : ℕ) → s.place ≡ p → found ≡ None → now ≡ point → p.level < length point → w ≡ get_or now p.level w
      → Finds (Stays point trees region s.place) s.place trees s.walk offers found → StandsAt new id (Literal (word_sort w) (word_value w)) → IsOtherChoice point p (tree_at trees region) new id
  literal-choice now p w found new id same is unchanged low own finds stands =
      let fails = subst (λ (f : Option Offer). Finds (Stays point trees region s.place) s.place trees s.walk offers f) is finds in
      let none = all-fail (Stays point trees region s.place) s.place trees s.walk offers (others s.place (tree_at trees region)) the-terms fails in
      let every = subst (λ (q : Place). AllByRecursion (Fails (Stays point trees region q)) (others q (tree_at trees region))) same none in
      let here : slice_get point p.level ≡ Some w = slice_get-get_or point p.level w low ∙ ap (λ v. Some v) (sym (own ∙ ap (λ xs. get_or xs p.level w) unchanged)) in
      record {
        term = Literal (word_sort w) (word_value w);
        stands = stands;
        chosen = inr (record { none = All-from_recursion (Fails (Stays point trees region p)) (others p (tree_at trees region)) every; value = value-at point p.level w here });
      }

-- ---- the definition comes before the others

kept-outside : (p : Place) (t : Tree) → is_outside p.first p.end t ≡ true → filter (is_outside p.first p.end) (t ∷ []) ≡ t ∷ []
kept-outside p t h = ap (λ b. cond b (t ∷ []) []) h

pub defined-first : (p : Place) (region t : Tree) → definitions p.first p.end region p.level ≡ t ∷ [] → is_outside p.first p.end t ≡ true → candidates p.first p.end region p.level ≡ t ∷ others p region
unfolding candidates
defined-first p region t is outside =
    filter-append (is_outside p.first p.end) (definitions p.first p.end region p.level) (flat_map (candidates_of p.level) (nodes (region ∷ [])))
    ∙ ap (λ ts. filter (is_outside p.first p.end) ts ++ others p region) is
    ∙ ap (λ ts. ts ++ others p region) (kept-outside p t outside)

pub none-first : (p : Place) (region : Tree) → definitions p.first p.end region p.level ≡ [] → candidates p.first p.end region p.level ≡ others p region
unfolding candidates
none-first p region is = ap (λ ts. filter (is_outside p.first p.end) (ts ++ flat_map (candidates_of p.level) (nodes (region ∷ [])))) is

-- it is chosen where the region stays true with it
pub definition-choice : (point : List Word) (p : Place) (region : Tree) (trees : List Tree) (id : ℕ) → 0 < p.first → IsOnly p trees (definitions p.first p.end region p.level) id → StaysTrue (values_of point) region p.level (tree_at trees id) → IsChoice point p region trees id
definition-choice point p region trees id low only holds = record {
  term = only.term;
  stands = only.stands;
  chosen = behind-others p.first p.end (values_of point) region p.level (place_sort point p.level) only.term low
      (inl (record {
        before = [];
        behind = others p region;
        stands = defined-first p region only.term only.is only.outside;
        holds = subst (StaysTrue (values_of point) region p.level) only.stands.tree holds;
        others = All-from_recursion (Fails (StaysTrue (values_of point) region p.level)) [] tt;
      }));
}

-- the choice among all, by that among the others
pub other-choice : (point : List Word) (p : Place) (region : Tree) (all : List Tree) (new : List Tree) (id : ℕ) → 0 < p.first → candidates p.first p.end region p.level ≡ all ++ others p region → AllByRecursion (Fails (StaysTrue (values_of point) region p.level)) all
    → IsOtherChoice point p region new id → IsChoice point p region new id
other-choice point p region all new id low is fails h = record { term = h.term; stands = h.stands; chosen = behind-others p.first p.end (values_of point) region p.level (place_sort point p.level) h.term low (go h.chosen) }
  where
    go : IsFirst (values_of point) region p.level (others p region) h.term ⊎ IsPointLiteral (values_of point) region p.level (place_sort point p.level) (others p region) h.term
        → IsFirst (values_of point) region p.level (candidates p.first p.end region p.level) h.term ⊎ IsPointLiteral (values_of point) region p.level (place_sort point p.level) (candidates p.first p.end region p.level) h.term
    go (inl c) = inl (record {
      before = all ++ c.before;
      behind = c.behind;
      stands = is ∙ ap (λ ts. all ++ ts) c.stands ∙ sym (append_assoc all c.before (h.term ∷ c.behind));
      holds = c.holds;
      others = All-from_recursion (Fails (StaysTrue (values_of point) region p.level)) (all ++ c.before) (both (Fails (StaysTrue (values_of point) region p.level)) all c.before fails (recursion_from_All (Fails (StaysTrue (values_of point) region p.level)) c.before c.others));
    })
    go (inr c) = inr (record {
      none = subst (All (Fails (StaysTrue (values_of point) region p.level))) (sym is)
          (All-from_recursion (Fails (StaysTrue (values_of point) region p.level)) (all ++ others p region) (both (Fails (StaysTrue (values_of point) region p.level)) all (others p region) fails (recursion_from_All (Fails (StaysTrue (values_of point) region p.level)) (others p region) c.none)));
      value = c.value;
    })

-- the terms of all offers are the other candidates
pub all-others : (trees new : List Tree) (region : ℕ) (s : Sight) (p : Place) (offers : List Offer) (ids : List ℕ) → s.place ≡ p → IsSight trees region s → AreOffers s.place trees s.walk (flat_map (candidates_of s.place.level) (named trees s.walk)) offers
    → map Some (named new ids) ≡ map (offered s.place trees) offers → named new ids ≡ others p (tree_at trees region)
all-others trees new region s p offers ids same sight all put =
    no-some (named new ids) (others s.place (tree_at trees region))
    (put ∙ all.terms ∙ ap (λ ts. map Some (filter (is_outside s.place.first s.place.end) (flat_map (candidates_of s.place.level) ts))) sight.order)
    ∙ ap (λ q. others q (tree_at trees region)) same
  where
    no-some : (xs ys : List Tree) → map Some xs ≡ map Some ys → xs ≡ ys
    no-some [] [] e = refl
    no-some [] (y ∷ ys) e = absurd (cc)
    no-some (x ∷ xs) [] e = absurd (cc)
    no-some (x ∷ xs) (y ∷ ys) e =
        let head : x ≡ y = cc in
        let more : map Some xs ≡ map Some ys = cc in
        ap (λ z. z ∷ xs) head ∙ ap (λ zs. y ∷ zs) (no-some xs ys more)

-- and they come behind the definition
pub in-all : (p : Place) (region : Tree) (mid new : List Tree) (defined : Option ℕ) (ids all : List ℕ) → Grows mid new → IsDefinition p mid (definitions p.first p.end region p.level) defined → named new ids ≡ others p region
    → all ≡ option_to_list defined ++ ids → named new all ≡ candidates p.first p.end region p.level
in-all p region mid new None ids all g h so is = ap (named new) is ∙ so ∙ sym (none-first p region h)
in-all p region mid new (Some id) ids all g h so is =
    ap (named new) is ∙ ap (λ t. t ∷ named new ids) (stays-at mid new id g h.stands.below ∙ h.stands.tree) ∙ ap (λ ts. h.term ∷ ts) so ∙ sym (defined-first p region h.term h.is h.outside)

pub below-all : (p : Place) (terms mid new : List Tree) (defined : Option ℕ) (ids all : List ℕ) → Grows mid new → IsDefinition p mid terms defined → AllByRecursion (λ id. id < length new) ids → all ≡ option_to_list defined ++ ids → AllByRecursion (λ id. id < length new) all
below-all p terms mid new None ids all g h below is = subst (AllByRecursion (λ id. id < length new)) (sym is) below
below-all p terms mid new (Some id) ids all g h below is = subst (AllByRecursion (λ id. id < length new)) (sym is) (omega (arith, h.stands.below, longer mid new g), below)
