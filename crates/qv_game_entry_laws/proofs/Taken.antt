-- An entry whose winner owns its block.
use Rattle.std.proofs.Common.{◌≡◌, ℕ, suc, ◌+◌, ◌<◌, Bool, Some, List, [], ◌∷◌, ◌++◌, refl, sym, ap, ◌∙◌, subst, slice_get, take, length, arith}
use Rattle.std.specs.Prelude.{MatchBool, All, Contains}
use Rattle.std.proofs.lemmas.List.{take_all}
use Rattle.std.proofs.lemmas.List.Elements.{All-from_recursion, recursion_from_All}
use Rattle.std.proofs.lemmas.Option.{slice_get_within}
use Rattle.qv_words.specs.declared.sort.Sort.{Sort}
use Rattle.qv_words.specs.declared.sort.Sort.TheVariants.{Bool as BoolSort}
use Rattle.qv_words.specs.Tree.{Tree}
use Rattle.qv_words.specs.Sorted.{constants_of, free_levels}
use Rattle.qv_words.specs.PassLaws.{StandsFor}
use Rattle.qv_words.specs.Problem.{Problem}
use Rattle.qv_words.specs.Choice.{AreChosen, IsTrueAt}
use Rattle.qv_words.specs.ChoiceLaws.{HasSortsFrom}
use Rattle.qv_words.specs.Linked.{Block, Entry, AreLinks, IsLinked, IsOwned, IsForced, IsPlaceBelow, LinksToOne, MeetsBlock, blocks_of, block_numbered, linked_regions, places_below, terms_from, with_terms}
use Rattle.qv_words.specs.GameLaws.{IsProblem}
use Rattle.qv_words.proofs.Chosen.{blocks-keep_truth}
use Rattle.qv_words.proofs.Elements.{get-before, to-some, zip-more}
use Rattle.qv_game_laws.proofs.Terms.{OfVariable, IsOf, IsOver, over-from, over-leaves, over-constants, over-free, over-agree, over-more, each-leaf, put-of, term-from_over}
use Rattle.qv_game_laws.proofs.ChosenTerms.{HavePlaces, block-before}
use Rattle.qv_game_laws.proofs.Points.{below-is, below-next, IsPoint}
use Rattle.qv_game_laws.proofs.Steps.{before, Before, point-values, longer, typed-length, place-at, LeadsTo, leads-to, later-of, has-values}
use Rattle.qv_game_laws.proofs.StepLaws.{have-places, puts-terms}
use Rattle.qv_game_entry_laws.specs.BuildingLaws.{IsSimplified, IsTaken, TakenMayCome}
use Rattle.qv_game_laws.proofs.GameSteps.{itself, level-of}

-- what holds of a list's elements holds of those among them
among-all : {X : Type 0} (P : X → Type 0) (xs ys : List X) → All P xs → All (Contains xs) ys → All P ys
among-all P xs ys each among i d h = let here = among i d h in subst P here.2 (each here.0 _ here.1)

among-none : {X : Type 0} (xs ys : List X) → xs ≡ [] → All (Contains xs) ys → ys ≡ []
among-none xs [] none among = refl
among-none xs (y ∷ ys) none among =
    let here : Contains [] y = subst (λ zs. Contains zs y) none (recursion_from_All (Contains xs) (y ∷ ys) among).0 in
    let low : here.0 < 0 = here.1 in
    absurd (omega (arith, low))

-- the sorts of the places of a block in a region
sorts-from : (P : OfVariable) (point : List ℕ) (x : ℕ) (sorts : List Sort) (region : Tree) → HavePlaces P point x sorts → IsOver P region → HasSortsFrom x sorts region
sorts-from P point x [] region h o = tt
sorts-from P point x (s ∷ sorts) region h o = (
  All-from_recursion (λ leaf. leaf.0 ≡ x → leaf.1 ≡ s) (free_levels region)
      (each-leaf (λ leaf. leaf.0 ≡ x → leaf.1 ≡ s) P (λ l r k same. h.0.0 r (subst (λ (m : ℕ). P m r) same k)) (free_levels region) (over-leaves P region o)),
  sorts-from P point (suc x) sorts region h.1 o,
)

-- what stands for a formula is one over the same places
pub stands-over : (P : OfVariable) (u t : Tree) → StandsFor u t → IsOf P BoolSort t → IsOf P BoolSort u
stands-over P u t h o =
    let leaves = among-all (λ leaf. P leaf.0 leaf.1) (free_levels t) (free_levels u) (All-from_recursion (λ leaf. P leaf.0 leaf.1) (free_levels t) (over-leaves P t o.0)) h.variables in (
      over-from P u h.plain.sorted h.plain.free (among-none (constants_of t) (constants_of u) (over-constants P t o.0) h.constants)
          (recursion_from_All (λ leaf. P leaf.0 leaf.1) (free_levels u) leaves),
      h.sort ∙ o.1,
    )

-- the same at the places before the block
at-block : (p : Problem) (earlier : List Entry) (e : Entry) (block : Block) (later : Tree) (values : List ℕ) (j : ℕ) → IsProblem p → IsLinked p earlier → IsTaken p earlier e block later values → e.level ≡ suc j → slice_get (blocks_of p.prefix) j ≡ Some block → IsOf (Before p (before p j)) BoolSort e.region × IsTrueAt e.point e.region
at-block p earlier e block later values j hp linked w level at =
    let all : take (length earlier) earlier ≡ earlier = take_all (length earlier) earlier (omega arith) in
    let first : places_below (blocks_of p.prefix) e.level ≡ before p j = below-is (blocks_of p.prefix) e.level j level in
    let end : before p (suc j) ≡ before p j + length block.sorts = below-next (blocks_of p.prefix) j block at in
    let leads : LeadsTo p earlier e later = leads-to p earlier (length earlier) e 0 later (subst (λ (es : List Entry). AreLinks p es e) (sym all) w.links)
    (subst (λ (es : List Entry). slice_get (linked_regions p es e) 0 ≡ Some later) (sym all) (ap (λ (ts : List Tree). slice_get ts 0) w.linked)) in
    let later-is : IsOf (Before p (before p (suc j))) BoolSort later = later-of p earlier e j later hp linked level leads in
    let typed : IsPoint p.prefix (before p j) e.point = subst (λ (n : ℕ). IsPoint p.prefix n e.point) first w.point in
    let whole : IsPoint p.prefix (before p (suc j)) (e.point ++ values) = longer p j block e.point values at typed w.of_block in
    let chosen : AreChosen (before p j) (before p j + length block.sorts) (e.point ++ values) later (before p j) block.sorts e.terms = subst (λ (n : ℕ). AreChosen n (n + length block.sorts) (e.point ++ values) later n block.sorts e.terms) first w.chosen in
    let simplified : IsSimplified e.region (with_terms (before p j) e.terms later) = subst (λ (n : ℕ). IsSimplified e.region (with_terms n e.terms later)) first w.region in
    let places = have-places p (before p (suc j)) block (e.point ++ values) hp whole (before p j) block.sorts (λ i s k. let inside = slice_get_within block.sorts i s k in (omega (arith, end, inside), place-at p j block i s at k)) in
    let terms = zip-more (λ t s. IsOf (λ l r. Before p (before p (suc j)) l r × (l < before p j)) s t) (λ t s. IsOf (Before p (before p j)) s t)
    (λ t s k. (over-more (λ l r. Before p (before p (suc j)) l r × (l < before p j)) (Before p (before p j)) (λ l r h. (h.1, h.0.1)) t k.0, k.1)) e.terms block.sorts
    (block-before (Before p (before p (suc j))) (before p j) (before p j + length block.sorts) (e.point ++ values) later block.sorts e.terms (λ l r h. subst (λ (n : ℕ). l < n) end h.0) places later-is.0 chosen) in
    let put = put-of (Before p (before p (suc j))) (Before p (before p j)) (terms_from (before p j) e.terms) BoolSort later (puts-terms p j block e.terms at terms) later-is in
    let long : IsTrueAt (e.point ++ values) (with_terms (before p j) e.terms later) =
    blocks-keep_truth (before p j) (before p j + length block.sorts) (e.point ++ values) later (before p j) block.sorts e.terms (omega arith) (omega arith)
    (over-free (Before p (before p (suc j))) later later-is.0) (sorts-from (Before p (before p (suc j))) (e.point ++ values) (before p j) block.sorts later places later-is.0) w.leads chosen in
    let size : length e.point ≡ before p j = typed-length p j e.point typed in
    let short : IsTrueAt e.point (with_terms (before p j) e.terms later) =
    over-agree (Before p (before p j)) (with_terms (before p j) e.terms later) (slice_get (e.point ++ values)) (slice_get e.point) 1 put.0
    (λ l s h. get-before e.point values l (let low = h.0 in omega (arith, low, size))) long in (
      stands-over (Before p (before p j)) e.region (with_terms (before p j) e.terms later) simplified.stands put,
      simplified.stands.keeps [] (slice_get e.point) 1 (has-values (Before p (before p j)) (with_terms (before p j) e.terms later) (slice_get e.point) put.0 (point-values p (before p j) e.point typed)) short,
    )

owned : (p : Problem) (earlier : List Entry) (e : Entry) (block : Block) (later : Tree) (values : List ℕ) → IsTaken p earlier e block later values → IsOwned p e block later
owned p earlier e block later values w = record {
  values = values;
  of_block = w.of_block;
  leads = w.leads;
  chosen = w.chosen;
  same = λ f ha hb v. (w.region.stands.gains [] f v hb, w.region.stands.keeps [] f v hb);
  small = w.region.small;
  simple = w.region.simple;
}

meets : (p : Problem) (earlier : List Entry) (e : Entry) (block : Block) (later : Tree) (values : List ℕ) → IsTaken p earlier e block later values → MeetsBlock p earlier e block
meets p earlier e block later values w =
    subst (λ (b : Bool). MatchBool b (LinksToOne (linked_regions p earlier e) (IsOwned p e block)) (IsForced p earlier e block (linked_regions p earlier e))) (sym (itself e.winner block.owner w.owner))
    (subst (λ (ts : List Tree). LinksToOne ts (IsOwned p e block)) (sym w.linked) (owned p earlier e block later values w))

pub taken-may_come : TakenMayCome
taken-may_come p earlier e block later values hp linked w =
    let index = level-of (blocks_of p.prefix) e.level block w.at_level in
    let first : places_below (blocks_of p.prefix) e.level ≡ before p index.0 = below-is (blocks_of p.prefix) e.level index.0 index.1 in
    let here = at-block p earlier e block later values index.0 hp linked w index.1 index.2 in
    let region : IsOf (Before p (places_below (blocks_of p.prefix) e.level)) BoolSort e.region = subst (λ (n : ℕ). IsOf (Before p n) BoolSort e.region) (sym first) here.0 in
    record {
      links = w.links;
      region = record {
        formula = term-from_over (Before p (places_below (blocks_of p.prefix) e.level)) BoolSort e.region region;
        variables = All-from_recursion (IsPlaceBelow p (places_below (blocks_of p.prefix) e.level)) (free_levels e.region) (over-leaves (Before p (places_below (blocks_of p.prefix) e.level)) e.region region.0);
        point = w.point;
        holds = here.1;
      };
      block = to-some (block_numbered (blocks_of p.prefix) e.level) (MeetsBlock p earlier e) block w.at_level (meets p earlier e block later values w);
    }
