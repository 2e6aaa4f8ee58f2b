-- The two step laws: an owner's terms lead from its region to the later one, and a forced region is left by no values.
use Rattle.std.proofs.Common.{◌≡◌, ℕ, zero, suc, ◌+◌, ◌-◌, ◌<◌, ◌⊎◌, inl, inr, Bool, true, false, cond, nat_lt, Some, None, Option, List, [], ◌∷◌, ◌++◌, refl, sym, ap, ◌∙◌, subst, slice_get, take, length, arith}
use Rattle.std.specs.Prelude.{IsSomeAnd, MatchBool, MatchOption}
use Rattle.std.specs.List.{AllZip}
use Rattle.std.proofs.lemmas.Bool.{cases_lt, lt-ltb, le-ltb}
use Rattle.std.proofs.lemmas.List.Elements.{recursion_from_All}
use Rattle.std.proofs.lemmas.Option.{same_Some, slice_get_within}
use Rattle.qv_words.specs.declared.sort.Sort.{Sort}
use Rattle.qv_words.specs.declared.sort.Sort.TheVariants.{Bool as BoolSort}
use Rattle.qv_words.specs.Sort.{IsLawful, IsValueOf}
use Rattle.qv_words.specs.Tree.{Tree, tree_sort}
use Rattle.qv_words.specs.Meaning.{Means}
use Rattle.qv_words.specs.Problem.{Problem, Place, Quantifier, Existential, Universal, other}
use Rattle.qv_words.specs.Choice.{AreChosen, IsTrueAt}
use Rattle.qv_words.specs.Linked.{Block, Entry, blocks_of, block_numbered, places_below, same_quantifier, linked_regions, terms_from, with_terms, HaveOneValue, IsRegion, IsOwned, IsForced, LinksToOne, MeetsBlock, IsEntry, IsLinked}
use Rattle.qv_words.specs.GameLaws.{IsProblem}
use Rattle.qv_game_laws.proofs.Terms.{IsOf, Puts, Takes, over-means, over-more, put-of, put-means_back}
use Rattle.qv_game_laws.proofs.ChosenTerms.{HavePlaces, block-before}
use Rattle.qv_game_laws.proofs.Each.{each-entry}
use Rattle.qv_game_laws.proofs.Points.{below-is, below-next, IsPoint, point-at}
use Rattle.qv_game_laws.proofs.Steps.{before, Before, point-values, longer, typed-length, place-at, covered, covered-sort, LeadsTo, leads-to, later-of, region-of, has-values}
use Rattle.qv_words.proofs.Elements.{get-behind, get-before, zip-at, some-and, all-at, zip-more}

-- the meanings of terms at a point
abbrev pub Meanings : List ℕ → List ℕ → List Tree → Type 0
Meanings point values terms = AllZip (λ v t. Means [] (slice_get point) t v) values terms

-- terms of these sorts over the first n places
abbrev pub AreTermsBefore : Problem → ℕ → List Tree → List Sort → Type 0
AreTermsBefore p n terms sorts = AllZip (λ t s. IsOf (Before p n) s t) terms sorts

-- they have meanings of their sorts at a point over these places
pub some-meanings : (p : Problem) (n : ℕ) (point : List ℕ) (terms : List Tree) (sorts : List Sort) → IsPoint p.prefix n point → AreTermsBefore p n terms sorts → (values : List ℕ) × AllZip IsValueOf values sorts × Meanings point values terms
some-meanings p n point [] [] typed h = ([], tt, tt)
some-meanings p n point (t ∷ terms) (s ∷ sorts) typed h =
    let first = over-means (Before p n) s t (slice_get point) h.0 (point-values p n point typed) in
    let others = some-meanings p n point terms sorts typed h.1 in
    (first.0 ∷ others.0, (first.1, others.1), (first.2, others.2))
some-meanings p n point [] (s ∷ sorts) typed h = absurd h
some-meanings p n point (t ∷ terms) [] typed h = absurd h

-- the places of an owned block
pub have-places : (p : Problem) (N : ℕ) (b : Block) (point : List ℕ) → IsProblem p → IsPoint p.prefix N point → (x : ℕ) (sorts : List Sort) → ((i : ℕ) (s : Sort) → slice_get sorts i ≡ Some s → (x + i < N) × (slice_get p.prefix (x + i) ≡ Some (record { quantifier = b.owner; sort = s }))) → HavePlaces (Before p N) point x sorts
have-places p N b point hp typed x [] at = tt
have-places p N b point hp typed x (s ∷ sorts) at =
    let whole : x + 0 ≡ x = omega arith in
    let here = at 0 s refl in
    let there : slice_get p.prefix x ≡ Some (record { quantifier = b.owner; sort = s }) = ap (slice_get p.prefix) (sym whole) ∙ here.1 in
    let inside : x < N = subst (λ (k : ℕ). k < N) whole here.0 in (
      (
        λ r k.
            let is = some-and (slice_get p.prefix x) (λ place. place.sort ≡ r) k.1 in
            let same : record { quantifier = b.owner; sort = s } ≡ is.0 = same_Some _ _ (sym there ∙ is.1) in
            sym (ap (λ (place : Place). place.sort) same ∙ is.2),
        all-at (λ place. IsLawful place.sort) p.prefix x (record { quantifier = b.owner; sort = s }) (recursion_from_All (λ place. IsLawful place.sort) p.prefix hp.sorts) there,
        λ v k.
            let value = point-at p.prefix N point x (record { quantifier = b.owner; sort = s }) typed inside there in
            let same : value.0 ≡ v = same_Some _ _ (sym value.1 ∙ k) in
            subst (λ (w : ℕ). IsValueOf w s) same value.2,
      ),
      have-places p N b point hp typed (suc x) sorts (λ i q k.
          let next : suc x + i ≡ x + suc i = omega arith in
          let behind = at (suc i) q k in
          (subst (λ (m : ℕ). m < N) (sym next) behind.0, ap (slice_get p.prefix) next ∙ behind.1)),
    )

-- what stands at a variable of the later region: nothing at a place before the block, and at the block's its term
pub record IsTermPut (p : Problem) (n : ℕ) (terms : List Tree) (l : ℕ) (s : Sort) : Type 0 where
  pub index : ℕ
  pub term : Tree
  pub is : terms_from n terms l ≡ Some term
  pub at : slice_get terms index ≡ Some term
  pub level : l ≡ n + index
  pub of : IsOf (Before p n) s term

term-put : (p : Problem) (n : ℕ) (terms : List Tree) (l k : ℕ) (q s : Sort) → l ≡ n + k → q ≡ s → (t : Tree) × (slice_get terms k ≡ Some t) × IsOf (Before p n) q t → IsTermPut p n terms l s
term-put p n terms l k q s level same term = record {
  index = k;
  term = term.0;
  is = found (le-ltb l n (omega (arith, level))) (omega (arith, level));
  at = term.1;
  level = level;
  of = subst (λ (r : Sort). IsOf (Before p n) r term.0) same term.2;
}
  where
    found : nat_lt l n ≡ false → l - n ≡ k → terms_from n terms l ≡ Some term.0
    found past index = ap (λ b. cond b None (slice_get terms (l - n))) past ∙ ap (slice_get terms) index ∙ term.1

standing : (p : Problem) (j : ℕ) (b : Block) (terms : List Tree) → slice_get (blocks_of p.prefix) j ≡ Some b → AreTermsBefore p (before p j) terms b.sorts → (l : ℕ) (s : Sort) → Before p (before p (suc j)) l s → ((terms_from (before p j) terms l ≡ None) × (l < before p j)) ⊎ IsTermPut p (before p j) terms l s
standing p j b terms at each l s h = elim (cases_lt l (before p j)) [
  | inl less ↦ inl (ap (λ k. cond k None (slice_get terms (l - before p j))) (lt-ltb l (before p j) less), less)
  | inr more ↦ inr (
      let c = covered p j b at l more h.0 in
      term-put p (before p j) terms l c.0 c.1 s c.2 (covered-sort p j b l c.0 c.1 s at h c.2 c.3) (zip-at (λ t q. IsOf (Before p (before p j)) q t) terms b.sorts c.0 c.1 each c.3)
      )
]

-- the terms put in leave a formula over the places before the block
pub puts-terms : (p : Problem) (j : ℕ) (b : Block) (terms : List Tree) → slice_get (blocks_of p.prefix) j ≡ Some b → AreTermsBefore p (before p j) terms b.sorts → (l : ℕ) (s : Sort) → Before p (before p (suc j)) l s → Puts (Before p (before p j)) (terms_from (before p j) terms) l s
puts-terms p j b terms at each l s h = go (standing p j b terms at each l s h)
  where
    go : ((terms_from (before p j) terms l ≡ None) × (l < before p j)) ⊎ IsTermPut p (before p j) terms l s → Puts (Before p (before p j)) (terms_from (before p j) terms) l s
    go (inl none) = subst (λ (o : Option Tree). MatchOption o (Before p (before p j) l s) (IsOf (Before p (before p j)) s)) (sym none.0) (none.1, h.1)
    go (inr put) = subst (λ (o : Option Tree). MatchOption o (Before p (before p j) l s) (IsOf (Before p (before p j)) s)) (sym put.is) put.of

-- and take the meanings of the values behind the point
abbrev IsTaken : List ℕ → List ℕ → ℕ → Sort → Option Tree → Type 0
IsTaken point values l s o = MatchOption o (slice_get (point ++ values) l ≡ slice_get point l) (λ put. (tree_sort put ≡ Some s) × IsSomeAnd (slice_get (point ++ values) l) (λ v. Means [] (slice_get point) put v))

takes-terms : (p : Problem) (j : ℕ) (b : Block) (terms : List Tree) (point values : List ℕ) → slice_get (blocks_of p.prefix) j ≡ Some b → AreTermsBefore p (before p j) terms b.sorts → IsPoint p.prefix (before p j) point → Meanings point values terms → (l : ℕ) (s : Sort) → Before p (before p (suc j)) l s → Takes (terms_from (before p j) terms) (slice_get point) (slice_get (point ++ values)) l s
takes-terms p j b terms point values at each typed means l s h = go (standing p j b terms at each l s h)
  where
    size : length point ≡ before p j
    size = typed-length p j point typed

    go : ((terms_from (before p j) terms l ≡ None) × (l < before p j)) ⊎ IsTermPut p (before p j) terms l s → Takes (terms_from (before p j) terms) (slice_get point) (slice_get (point ++ values)) l s
    go (inl none) = subst (IsTaken point values l s) (sym none.0) (get-before point values l (omega (arith, none.1, size)))
    go (inr put) =
        let value = zip-at (λ v t. Means [] (slice_get point) t v) values terms put.index put.term means put.at in
        let there : slice_get (point ++ values) l ≡ Some value.0 = get-behind point values put.index l (let k = put.level in omega (arith, k, size)) ∙ value.1 in
        subst (IsTaken point values l s) (sym put.is) (put.of.1, subst (λ (o : Option ℕ). IsSomeAnd o (λ v. Means [] (slice_get point) put.term v)) (sym there) value.2)

-- the owner's law
pub record OwnerSteps (p : Problem) (entries : List Entry) (e : Entry) (n : ℕ) (b : Block) : Type 0 where
  pub later : Tree
  pub leads : LeadsTo p entries e later
  pub terms : AreTermsBefore p n e.terms b.sorts
  pub law : (point values : List ℕ) → IsPoint p.prefix n point → IsTrueAt point e.region → Meanings point values e.terms → IsTrueAt (point ++ values) later

pub owner-steps : (p : Problem) (entries : List Entry) (e : Entry) (j : ℕ) (b : Block) (later : Tree) → IsProblem p → IsRegion p e → e.level ≡ suc j → slice_get (blocks_of p.prefix) j ≡ Some b → IsOf (Before p (before p (suc j))) BoolSort later → LeadsTo p entries e later → IsOwned p e b later → (steps : OwnerSteps p entries e (before p j) b) × (steps.later ≡ later)
owner-steps p entries e j b later hp region level at later-is leads o =
    let first : places_below (blocks_of p.prefix) e.level ≡ before p j = below-is (blocks_of p.prefix) e.level j level in
    let end : before p (suc j) ≡ before p j + length b.sorts = below-next (blocks_of p.prefix) j b at in
    let chosen : AreChosen (before p j) (before p j + length b.sorts) (e.point ++ o.values) later (before p j) b.sorts e.terms = subst (λ (n : ℕ). AreChosen n (n + length b.sorts) (e.point ++ o.values) later n b.sorts e.terms) first o.chosen in
    let same : HaveOneValue e.region (with_terms (before p j) e.terms later) = subst (λ (n : ℕ). HaveOneValue e.region (with_terms n e.terms later)) first o.same in
    let typed : IsPoint p.prefix (before p j) e.point = subst (λ (n : ℕ). IsPoint p.prefix n e.point) first region.point in
    let whole : IsPoint p.prefix (before p (suc j)) (e.point ++ o.values) = longer p j b e.point o.values at typed o.of_block in
    let places = have-places p (before p (suc j)) b (e.point ++ o.values) hp whole (before p j) b.sorts (λ i s k. let inside = slice_get_within b.sorts i s k in (omega (arith, end, inside), place-at p j b i s at k)) in
    let terms = zip-more (λ t s. IsOf (λ l r. Before p (before p (suc j)) l r × (l < before p j)) s t) (λ t s. IsOf (Before p (before p j)) s t)
    (λ t s k. (over-more (λ l r. Before p (before p (suc j)) l r × (l < before p j)) (Before p (before p j)) (λ l r h. (h.1, h.0.1)) t k.0, k.1)) e.terms b.sorts
    (block-before (Before p (before p (suc j))) (before p j) (before p j + length b.sorts) (e.point ++ o.values) later b.sorts e.terms (λ l r h. subst (λ (n : ℕ). l < n) end h.0) places later-is.0 chosen) in
    let own = region-of p e j level region in
    let put = put-of (Before p (before p (suc j))) (Before p (before p j)) (terms_from (before p j) e.terms) BoolSort later (puts-terms p j b e.terms at terms) later-is in (
      record {
        later = later;
        leads = leads;
        terms = terms;
        law = λ point values typed holds means.
            let values-at = point-values p (before p j) point typed in
            let both = same (slice_get point) (has-values (Before p (before p j)) e.region (slice_get point) own.0 values-at) (has-values (Before p (before p j)) (with_terms (before p j) e.terms later) (slice_get point) put.0 values-at) 1 in
            put-means_back (Before p (before p (suc j))) (terms_from (before p j) e.terms) (slice_get point) (slice_get (point ++ values)) later 1 later-is.0
            (takes-terms p j b e.terms point values at terms typed means)
            (both.0 holds);
      },
      refl,
    )

-- the law of the other player
pub record ForcedSteps (p : Problem) (entries : List Entry) (e : Entry) (n : ℕ) (b : Block) : Type 0 where
  pub terms : e.terms ≡ []
  pub law : (point values : List ℕ) → IsPoint p.prefix n point → AllZip IsValueOf values b.sorts → IsTrueAt point e.region → (later : Tree) × LeadsTo p entries e later × IsTrueAt (point ++ values) later

-- each entry has the law of its owner or of the other player
abbrev pub StepOf : Problem → List Entry → Entry → Block → ℕ → Bool → Type 0
StepOf p entries e b j own = MatchBool own (OwnerSteps p entries e (before p j) b) (ForcedSteps p entries e (before p j) b)

pub record Steps (p : Problem) (entries : List Entry) (e : Entry) : Type 0 where
  pub index : ℕ
  pub level : e.level ≡ suc index
  pub block : Block
  pub at : slice_get (blocks_of p.prefix) index ≡ Some block
  pub region : IsOf (Before p (before p index)) BoolSort e.region
  pub step : StepOf p entries e block index (same_quantifier e.winner block.owner)

pub one-link : (regions : List Tree) (P : Tree → Type 0) → LinksToOne regions P → (t : Tree) × (slice_get regions 0 ≡ Some t) × P t
one-link [] P h = absurd h
one-link (t ∷ []) P h = (t, refl, h)
one-link (t ∷ u ∷ ts) P h = absurd h

pub entry-steps : (p : Problem) (entries : List Entry) (m : ℕ) (e : Entry) → IsProblem p → IsLinked p entries → slice_get entries m ≡ Some e → Steps p entries e
entry-steps p entries m e hp linked here = at-level e.level refl
  where
    entry : IsEntry p (take m entries) e
    entry = each-entry p entries m e linked here

    at-level : (k : ℕ) → e.level ≡ k → Steps p entries e
    at-level zero is = let low = entry.links.low in absurd (omega (arith, low, is))
    at-level (suc j) is =
        let there = some-and (slice_get (blocks_of p.prefix) j) (MeetsBlock p (take m entries) e) (subst (λ (k : ℕ). IsSomeAnd (block_numbered (blocks_of p.prefix) k) (MeetsBlock p (take m entries) e)) is entry.block) in
        record { index = j; level = is; block = there.0; at = there.1; region = region-of p e j is entry.region; step = step there.0 there.1 (same_quantifier e.winner there.0.owner) there.2 }
      where
        step : (b : Block) → slice_get (blocks_of p.prefix) j ≡ Some b → (k : Bool) → MatchBool k (LinksToOne (linked_regions p (take m entries) e) (IsOwned p e b)) (IsForced p (take m entries) e b (linked_regions p (take m entries) e)) → StepOf p entries e b j k
        step b at true h =
            let one = one-link (linked_regions p (take m entries) e) (IsOwned p e b) h in
            let leads = leads-to p entries m e 0 one.0 entry.links one.1 in
            (owner-steps p entries e j b one.0 hp entry.region is at (later-of p entries e j one.0 hp linked is leads) leads one.2).0
        step b at false h = record {
          terms = h.no_terms;
          law = λ point values typed each holds.
              let first : places_below (blocks_of p.prefix) e.level ≡ before p j = below-is (blocks_of p.prefix) e.level j is in
              let out = h.closed point values (subst (λ (n : ℕ). IsPoint p.prefix n point) (sym first) typed) each holds in
              let there = some-and (slice_get (linked_regions p (take m entries) e) out.0) (λ t. IsTrueAt (point ++ values) t) out.1 in
              (there.0, leads-to p entries m e out.0 there.0 entry.links there.1, there.2);
        }

-- the same where the block is known
pub step-at : (p : Problem) (entries : List Entry) (e : Entry) (j : ℕ) (b : Block) → Steps p entries e → e.level ≡ suc j → slice_get (blocks_of p.prefix) j ≡ Some b → IsOf (Before p (before p j)) BoolSort e.region × StepOf p entries e b j (same_quantifier e.winner b.owner)
step-at p entries e j b steps level at =
    let index : steps.index ≡ j = let k = steps.level in omega (arith, k, level) in
    let same : steps.block ≡ b = same_Some _ _ (sym steps.at ∙ ap (slice_get (blocks_of p.prefix)) index ∙ at) in (
      subst (λ (i : ℕ). IsOf (Before p (before p i)) BoolSort e.region) index steps.region,
      subst (λ (c : Block). StepOf p entries e c j (same_quantifier e.winner c.owner)) same (subst (λ (i : ℕ). StepOf p entries e steps.block i (same_quantifier e.winner steps.block.owner)) index steps.step),
    )

pub owner-at : (p : Problem) (entries : List Entry) (n : ℕ) (e : Entry) (j : ℕ) (b : Block) (q : Quantifier) → IsProblem p → IsLinked p entries → slice_get entries n ≡ Some e → e.level ≡ suc j → slice_get (blocks_of p.prefix) j ≡ Some b → e.winner ≡ q → b.owner ≡ q → OwnerSteps p entries e (before p j) b
owner-at p entries n e j b q hp linked here level at winner owner =
    let is : same_quantifier e.winner b.owner ≡ true = ap (λ r. same_quantifier r b.owner) winner ∙ ap (same_quantifier q) owner ∙ itself q in
    subst (StepOf p entries e b j) is (step-at p entries e j b (entry-steps p entries n e hp linked here) level at).1
  where
    itself : (q : Quantifier) → same_quantifier q q ≡ true
    itself Existential = refl
    itself Universal = refl

pub forced-at : (p : Problem) (entries : List Entry) (n : ℕ) (e : Entry) (j : ℕ) (b : Block) (q : Quantifier) → IsProblem p → IsLinked p entries → slice_get entries n ≡ Some e → e.level ≡ suc j → slice_get (blocks_of p.prefix) j ≡ Some b → e.winner ≡ q → b.owner ≡ other q → ForcedSteps p entries e (before p j) b
forced-at p entries n e j b q hp linked here level at winner owner =
    let is : same_quantifier e.winner b.owner ≡ false = ap (λ r. same_quantifier r b.owner) winner ∙ ap (same_quantifier q) owner ∙ others q in
    subst (StepOf p entries e b j) is (step-at p entries e j b (entry-steps p entries n e hp linked here) level at).1
  where
    others : (q : Quantifier) → same_quantifier q (other q) ≡ false
    others Existential = refl
    others Universal = refl

pub region-at : (p : Problem) (entries : List Entry) (n : ℕ) (e : Entry) (j : ℕ) (b : Block) → IsProblem p → IsLinked p entries → slice_get entries n ≡ Some e → e.level ≡ suc j → slice_get (blocks_of p.prefix) j ≡ Some b → IsOf (Before p (before p j)) BoolSort e.region
region-at p entries n e j b hp linked here level at = (step-at p entries e j b (entry-steps p entries n e hp linked here) level at).0
