-- A forced entry with some of its links alone.
use Rattle.std.proofs.Common.{◌≡◌, ◌⊎◌, ℕ, zero, suc, ◌+◌, ◌<◌, ◌==◌, Bool, true, false, Option, Some, None, List, [], ◌∷◌, ◌++◌, length, map, take, slice_get, inl, inr, refl, sym, ap, ◌∙◌, subst, arith}
use Rattle.std.specs.Prelude.{All, Contains, MatchBool, option_map, unwrap_or}
use Rattle.std.specs.List.{AllByRecursion, AllZip}
use Rattle.std.proofs.lemmas.Bool.{cases_Bool, eq-eqb, eqb-true}
use Rattle.std.proofs.lemmas.List.{length-map}
use Rattle.std.proofs.lemmas.List.Elements.{All-contains, All-from_recursion, Contains-append_cases, Contains-append_right, Contains-get_or, recursion_from_All}
use Rattle.std.proofs.lemmas.Option.{same_Some}
use Rattle.qv_words.specs.declared.sort.Sort.{Sort}
use Rattle.qv_words.specs.declared.sort.Sort.TheVariants.{Bits}
use Rattle.qv_words.specs.declared.sort.Sort.TheVariants.{Bool as BoolSort}
use Rattle.qv_words.specs.declared.op.Op.TheVariants.{And}
use Rattle.qv_words.specs.Sort.{IsValueOf}
use Rattle.qv_words.specs.Tree.{Tree}
use Rattle.qv_words.specs.Sorted.{free_levels}
use Rattle.qv_words.specs.Skolem.{IsTermOf}
use Rattle.qv_words.specs.Prenex.{binary}
use Rattle.qv_words.specs.Problem.{Problem, Quantifier, Existential, Universal, conjunction, conjunction_with}
use Rattle.qv_words.specs.Choice.{IsTrueAt, is_in}
use Rattle.qv_words.specs.Linked.{Block, Entry, IsComplement, IsCube, IsEntry, IsForced, IsLink, IsOwned, IsPlaceBelow, IsRegion, IsRun, LinksToOne, MeetsBlock, Run, block_numbered, blocks_of, entries_named, equation_of, fixing, last_region, linked_regions, places_below, same_quantifier}
use Rattle.qv_words.proofs.Elements.{all-at, all-both_weaker, all-weaker, found-at, get-map, in-front, of-some, some-and, to-some}
use Rattle.qv_game_laws.proofs.Terms.{over-agree, over-from_term}
use Rattle.qv_game_laws.proofs.Each.{each-entry}
use Rattle.qv_game_laws.proofs.Points.{point-at}
use Rattle.qv_game_laws.proofs.Steps.{Before}
use Rattle.qv_store.specs.Nodes.{tree_at}
use Rattle.qv_entries.specs.Rows.{Row, IsRowIn, entries_in, entry_in}
use Rattle.qv_meter.specs.Played.{IsFresh, IsPlayed, IsSettled}
use Rattle.qv_meter.specs.Queries.{all_links, block_count, numbers_from}
use Rattle.qv_meter.proofs.Fresh.{last-entry, linked, longer, shorter}
use Rattle.qv_meter.proofs.Following.{settled-follows}
use Rattle.qv_game_links.specs.Thinning.{AreEnough, AreThinned, IsFormula, IsFormulaAt}
use Rattle.qv_game_links.proofs.Said.{front-in, part-in}
use Rattle.qv_game_turns.proofs.Numbering.{numbers-below}

-- the same entry with other links
abbrev pub with_links : Entry → List ℕ → Entry
with_links e links = record { level = e.level; winner = e.winner; region = e.region; point = e.point; terms = e.terms; links = links }

of-none : {X : Type 0} (x : X) → Contains [] x → ⊥
of-none x h = let low = h.1 in omega (arith, low)

-- what holds of each element that a longer list has
pub all-among : (P : ℕ → Type 0) (xs ys : List ℕ) → ((n : ℕ) → Contains ys n → Contains xs n) → All P xs → All P ys
all-among P xs ys among h k d low = All-contains P xs _ h (among _ (Contains-get_or ys k d low))

none-among : (xs ys : List ℕ) → ((n : ℕ) → Contains ys n → Contains xs n) → xs ≡ [] → ys ≡ []
none-among xs [] among is = refl
none-among xs (y ∷ ys) among is = absurd (of-none y (subst (λ (ns : List ℕ). Contains ns y) is (among y (0, omega arith, refl))))

-- the regions of named entries
row-entry : (trees : List Tree) (rows : List Row) (n : ℕ) (r : Row) → slice_get rows n ≡ Some r → slice_get (entries_in trees rows) n ≡ Some (entry_in trees r)
row-entry trees rows n r at = get-map (entry_in trees) rows n r at

entry-row : (trees : List Tree) (rows : List Row) (n : ℕ) (e : Entry) → slice_get (entries_in trees rows) n ≡ Some e → (r : Row) × (slice_get rows n ≡ Some r) × (entry_in trees r ≡ e)
entry-row trees [] n e at = absurd (cc)
entry-row trees (r ∷ rows) zero e at = (r, refl, same_Some (entry_in trees r) e at)
entry-row trees (r ∷ rows) (suc n) e at = entry-row trees rows n e at

region-there : (entries : List Entry) (links : List ℕ) (n : ℕ) (f : Entry) → Contains links n → slice_get entries n ≡ Some f → (k : ℕ) × (slice_get (map (λ (l : Entry). l.region) (entries_named entries links)) k ≡ Some f.region)
region-there entries [] n f h at = absurd (of-none n h)
region-there entries (m ∷ ms) n f h at = elim (Contains-append_cases (m ∷ []) ms n h) [
  | inl first ↦
      let here : slice_get entries m ≡ Some f = ap (slice_get entries) (one m n first) ∙ at in
      (0, rw here refl)
  | inr rest ↦ behind (slice_get entries m) refl (region-there entries ms n f rest at)
]
  where
    one : (m n : ℕ) → Contains (m ∷ []) n → m ≡ n
    one m n (zero, low, is) = is
    one m n (suc k, low, is) = absurd (omega (arith, low))

    behind : (o : Option Entry) → slice_get entries m ≡ o → (k : ℕ) × (slice_get (map (λ (l : Entry). l.region) (entries_named entries ms)) k ≡ Some f.region) → (k : ℕ) × (slice_get (map (λ (l : Entry). l.region) (entries_named entries (m ∷ ms))) k ≡ Some f.region)
    behind None is there = (there.0, rw is there.1)
    behind (Some g) is there = (suc there.0, rw is there.1)

there-region : (entries : List Entry) (links : List ℕ) (k : ℕ) (t : Tree) → slice_get (map (λ (l : Entry). l.region) (entries_named entries links)) k ≡ Some t → (n : ℕ) × (f : Entry) × Contains links n × (slice_get entries n ≡ Some f) × (f.region ≡ t)
there-region entries [] k t at = absurd (cc)
there-region entries (m ∷ ms) k t at = go (slice_get entries m) refl k at (λ j there. there-region entries ms j t there)
  where
    later : (n : ℕ) × (f : Entry) × Contains ms n × (slice_get entries n ≡ Some f) × (f.region ≡ t) → (n : ℕ) × (f : Entry) × Contains (m ∷ ms) n × (slice_get entries n ≡ Some f) × (f.region ≡ t)
    later r = (r.0, r.1, Contains-append_right (m ∷ []) ms r.0 r.2, r.3, r.4)

    go : (o : Option Entry) → slice_get entries m ≡ o → (k : ℕ) → slice_get (map (λ (l : Entry). l.region) (entries_named entries (m ∷ ms))) k ≡ Some t → ((j : ℕ) → slice_get (map (λ (l : Entry). l.region) (entries_named entries ms)) j ≡ Some t → (n : ℕ) × (f : Entry) × Contains ms n × (slice_get entries n ≡ Some f) × (f.region ≡ t)) → (n : ℕ) × (f : Entry) × Contains (m ∷ ms) n × (slice_get entries n ≡ Some f) × (f.region ≡ t)
    go None is k at rest = later (rest k (rw is at at))
    go (Some g) is zero at rest = (m, g, (0, omega arith, refl), is, same_Some g.region t (rw is at at))
    go (Some g) is (suc k) at rest = later (rest k (rw is at at))

-- a place of a run occurs in the region that fixes it
fixing-in : (s : Sort) (n : ℕ) (r : Run) → is_in r.place (fixing s n r) ≡ true
fixing-in BoolSort n r = let e : (r.place == r.place) ≡ true = eq-eqb r.place r.place refl in rw e refl
fixing-in (Bits w) n r = let e : (r.place == r.place) ≡ true = eq-eqb r.place r.place refl in rw e refl

equation-in : (p : Problem) (point : List ℕ) (r : Run) → is_in r.place (equation_of p point r) ≡ true
equation-in p point r = fixing-in (unwrap_or (option_map (λ place. place.sort) (slice_get p.prefix r.place)) BoolSort) (unwrap_or (slice_get point r.place) 0) r

first-in : (x : ℕ) (t : Tree) (ts : List Tree) → is_in x t ≡ true → is_in x (conjunction_with t ts) ≡ true
first-in x t [] h = h
first-in x t (u ∷ us) h = first-in x (binary And t u) us (front-in x t u h)

rest-in : (p : Problem) (point : List ℕ) (t : Tree) (runs : List Run) → AllByRecursion (λ r. is_in r.place (conjunction_with t (map (equation_of p point) runs)) ≡ true) runs
rest-in p point t [] = tt
rest-in p point t (r ∷ runs) =
    let e = equation_of p point r in (
      first-in r.place (binary And t e) (map (equation_of p point) runs) (part-in r.place t e (equation-in p point r)),
      rest-in p point (binary And t e) runs,
    )

runs-in : (p : Problem) (point : List ℕ) (runs : List Run) → AllByRecursion (λ r. is_in r.place (conjunction (map (equation_of p point) runs)) ≡ true) runs
runs-in p point [] = tt
runs-in p point (r ∷ runs) =
    let e = equation_of p point r in
    (first-in r.place e (map (equation_of p point) runs) (equation-in p point r), rest-in p point e runs)

-- a region that is true at a point is so at longer ones
true-longer : (p : Problem) (e : Entry) (point values : List ℕ) → IsRegion p e → AllZip (λ v place. IsValueOf v place.sort) point (take (places_below (blocks_of p.prefix) e.level) p.prefix) → IsTrueAt point e.region → IsTrueAt (point ++ values) e.region
true-longer p e point values region typed holds =
    let n = places_below (blocks_of p.prefix) e.level in
    let over = over-from_term (Before p n) BoolSort e.region region.formula (recursion_from_All (IsPlaceBelow p n) (free_levels e.region) region.variables) in
    over-agree (Before p n) e.region (slice_get point) (slice_get (point ++ values)) 1 over.0
    (λ l s h.
    let place = some-and (slice_get p.prefix l) (λ place. place.sort ≡ s) h.1 in
    let v = point-at p.prefix n point l place.0 typed h.0 place.1 in
    v.1 ∙ sym (in-front point values l v.0 v.1)) holds

-- the regions that an entry is linked to, at the last level and at another one
at-last : (p : Problem) (entries : List Entry) (e : Entry) → (e.level == length (blocks_of p.prefix)) ≡ true → linked_regions p entries e ≡ last_region p e.winner ∷ []
at-last p entries e is = rw is refl

at-other : (p : Problem) (entries : List Entry) (e : Entry) → (e.level == length (blocks_of p.prefix)) ≡ false → linked_regions p entries e ≡ map (λ (l : Entry). l.region) (entries_named entries e.links)
at-other p entries e is = rw is refl

-- what an entry's region lies outside of doesn't turn on its links
same-complement : (earlier : List Entry) (e : Entry) (links : List ℕ) → IsComplement earlier e → IsComplement earlier (with_links e links)
same-complement earlier e links h = record { numbers = h.numbers; some = h.some; each = h.each; region = h.region }

same-form : (p : Problem) (earlier : List Entry) (e : Entry) (links : List ℕ) (rs : List Tree) → IsCube p e rs ⊎ IsComplement earlier e → IsCube p (with_links e links) rs ⊎ IsComplement earlier (with_links e links)
same-form p earlier e links rs (inl h) = inl (record {
  runs = h.runs;
  each = All-from_recursion (IsRun p (with_links e links) rs) h.runs
      (all-weaker (IsRun p e rs) (IsRun p (with_links e links) rs) h.runs (λ r run. record { below = run.below; ordered = run.ordered; within = run.within; occurs = run.occurs }) (recursion_from_All (IsRun p e rs) h.runs h.each));
  apart = h.apart;
  region = h.region;
})
same-form p earlier e links rs (inr h) = inr (same-complement earlier e links h)

same-forced : (p : Problem) (earlier : List Entry) (e : Entry) (links : List ℕ) (b : Block) (rs : List Tree) → IsForced p earlier e b rs → IsForced p earlier (with_links e links) b rs
same-forced p earlier e links b rs h = record { no_terms = h.no_terms; form = same-form p earlier e links rs h.form; closed = h.closed }

-- the places of a cube's runs occur in what is linked
other-form : (trees : List Tree) (p : Problem) (rows : List Row) (e : Entry) (region : ℕ) (links : List ℕ) → tree_at trees region ≡ e.region → AreEnough trees region rows e.links links → IsCube p e (map (λ (l : Entry). l.region) (entries_named (entries_in trees rows) e.links)) ⊎ IsComplement (entries_in trees rows) e → IsCube p (with_links e links) (map (λ (l : Entry). l.region) (entries_named (entries_in trees rows) links)) ⊎ IsComplement (entries_in trees rows) (with_links e links)
other-form trees p rows e region links is enough (inr h) = inr (same-complement (entries_in trees rows) e links h)
other-form trees p rows e region links is enough (inl h) =
    let entries = entries_in trees rows in
    let old = map (λ (l : Entry). l.region) (entries_named entries e.links) in
    let new = map (λ (l : Entry). l.region) (entries_named entries links) in
    inl (record {
      runs = h.runs;
      each = All-from_recursion (IsRun p (with_links e links) new) h.runs
          (all-both_weaker (IsRun p e old) (λ r. is_in r.place e.region ≡ true) (IsRun p (with_links e links) new) h.runs
          (λ r run there.
          let link = enough.occur r.place (ap (is_in r.place) is ∙ there) in
          let at = region-there entries links link.0 (entry_in trees link.2) link.1 (row-entry trees rows link.0 link.2 link.3) in
          record { below = run.below; ordered = run.ordered; within = run.within; occurs = (tree_at trees link.2.region, at.0, at.1, link.4) })
          (recursion_from_All (IsRun p e old) h.runs h.each)
          (subst (λ (t : Tree). AllByRecursion (λ r. is_in r.place t ≡ true) h.runs) (sym h.region) (runs-in p e.point h.runs)));
      apart = h.apart;
      region = h.region;
    })

other-forced : (trees : List Tree) (p : Problem) (rows : List Row) (e : Entry) (region : ℕ) (links : List ℕ) (b : Block) → IsRegion p e → tree_at trees region ≡ e.region → AreEnough trees region rows e.links links → IsForced p (entries_in trees rows) e b (map (λ (l : Entry). l.region) (entries_named (entries_in trees rows) e.links)) → IsForced p (entries_in trees rows) (with_links e links) b (map (λ (l : Entry). l.region) (entries_named (entries_in trees rows) links))
other-forced trees p rows e region links b of_region is enough h =
    let entries = entries_in trees rows in
    let old = map (λ (l : Entry). l.region) (entries_named entries e.links) in
    let new = map (λ (l : Entry). l.region) (entries_named entries links) in
    record {
      no_terms = h.no_terms;
      form = other-form trees p rows e region links is enough h.form;
      closed = λ point values typed each holds.
          let there = h.closed point values typed each holds in
          let t = some-and (slice_get old there.0) (λ t. IsTrueAt (point ++ values) t) there.1 in
          let f = there-region entries e.links there.0 t.0 t.1 in
          let row = entry-row trees rows f.0 f.1 f.3 in
          let here : IsTrueAt (point ++ values) (tree_at trees row.0.region) = subst (IsTrueAt (point ++ values)) (sym (ap (λ (x : Entry). x.region) row.2 ∙ f.4)) t.2 in
          let link = enough.meet (point ++ values) (subst (IsTrueAt (point ++ values)) (sym is) (true-longer p e point values of_region typed holds)) (f.0, f.2, row.0, row.1, here) in
          let at = region-there entries links link.0 (entry_in trees link.2) link.1 (row-entry trees rows link.0 link.2 link.3) in
          (at.0, to-some (slice_get new at.0) (λ t. IsTrueAt (point ++ values) t) (tree_at trees link.2.region) at.1 link.4);
    }

fewer-forced : (trees : List Tree) (p : Problem) (rows : List Row) (e : Entry) (region : ℕ) (links : List ℕ) (b : Block) → IsRegion p e → tree_at trees region ≡ e.region → AreEnough trees region rows e.links links → IsForced p (entries_in trees rows) e b (linked_regions p (entries_in trees rows) e) → IsForced p (entries_in trees rows) (with_links e links) b (linked_regions p (entries_in trees rows) (with_links e links))
fewer-forced trees p rows e region links b of_region is enough h =
    let entries = entries_in trees rows in
    elim (cases_Bool (e.level == length (blocks_of p.prefix))) [
      | inl last ↦ subst (IsForced p entries (with_links e links) b) (at-last p entries e last ∙ sym (at-last p entries (with_links e links) last)) (same-forced p entries e links b (linked_regions p entries e) h)
      | inr other ↦ subst (IsForced p entries (with_links e links) b) (sym (at-other p entries (with_links e links) other)) (other-forced trees p rows e region links b of_region is enough (subst (IsForced p entries e b) (at-other p entries e other) h))
    ]

apart-owner : (q r : Quantifier) → (q ≡ r → ⊥) → same_quantifier q r ≡ false
apart-owner Existential Existential h = absurd (h refl)
apart-owner Existential Universal h = refl
apart-owner Universal Existential h = refl
apart-owner Universal Universal h = absurd (h refl)

-- where some of its links are enough, the entry may come with these
pub fewer-played : (trees : List Tree) (p : Problem) (rows : List Row) (e : Entry) (region : ℕ) (links : List ℕ) (b : Block) → IsSettled p (entries_in trees rows) → block_numbered (blocks_of p.prefix) e.level ≡ Some b → (e.winner ≡ b.owner → ⊥) → tree_at trees region ≡ e.region → AreEnough trees region rows e.links links → IsPlayed p (entries_in trees rows ++ e ∷ []) → IsPlayed p (entries_in trees rows ++ with_links e links ∷ [])
fewer-played trees p rows e region links b settled at other is enough h =
    let entries = entries_in trees rows in
    let f = with_links e links in
    let last = last-entry p [] entries e h in
    let entry = last.0 in
    let apart = apart-owner e.winner b.owner other in
    let meets : MeetsBlock p entries e b = of-some (block_numbered (blocks_of p.prefix) e.level) (MeetsBlock p entries e) b at entry.block in
    let forced : IsForced p entries e b (linked_regions p entries e) = subst (λ (q : Bool). MatchBool q (LinksToOne (linked_regions p entries e) (IsOwned p e b)) (IsForced p entries e b (linked_regions p entries e))) apart meets in
    let fewer = fewer-forced trees p rows e region links b entry.region is enough forced in
    let may : IsEntry p entries f = record {
      links = record {
        low = entry.links.low;
        high = entry.links.high;
        each = all-among (IsLink entries f) e.links links enough.among entry.links.each;
        last = λ end. none-among e.links links enough.among (entry.links.last end);
      };
      region = record { formula = entry.region.formula; variables = entry.region.variables; point = entry.region.point; holds = entry.region.holds };
      block = to-some (block_numbered (blocks_of p.prefix) e.level) (MeetsBlock p entries f) b at
          (subst (λ (q : Bool). MatchBool q (LinksToOne (linked_regions p entries f) (IsOwned p f b)) (IsForced p entries f b (linked_regions p entries f))) (sym apart) fewer);
    } in
    let fresh : IsFresh p entries f = record { outside = last.1.outside; undecided = last.1.undecided; follows = settled-follows p entries links settled } in
    longer p [] entries f (shorter p [] entries e h) (may, fresh)

-- with all of its links, or with enough of them
pub thinned-played : (trees : List Tree) (p : Problem) (rows : List Row) (e : Entry) (region : ℕ) (all links : List ℕ) (b : Block) → IsSettled p (entries_in trees rows) → block_numbered (blocks_of p.prefix) e.level ≡ Some b → (e.winner ≡ b.owner → ⊥) → tree_at trees region ≡ e.region → AreThinned trees region rows all links → IsPlayed p (entries_in trees rows ++ with_links e all ∷ []) → IsPlayed p (entries_in trees rows ++ with_links e links ∷ [])
thinned-played trees p rows e region all links b settled at other is thinned h = elim thinned [
  | inl same ↦ subst (λ (ls : List ℕ). IsPlayed p (entries_in trees rows ++ with_links e ls ∷ [])) (sym same) h
  | inr enough ↦ fewer-played trees p rows (with_links e all) region links b settled at other is enough h
]

-- the regions of a game's entries are formulas, and so is that of an entry that may come
pub row-formula : (trees : List Tree) (p : Problem) (rows : List Row) (n : ℕ) (r : Row) → All (IsRowIn trees) rows → IsPlayed p (entries_in trees rows) → slice_get rows n ≡ Some r → IsFormula trees r.region
row-formula trees p rows n r each played at =
    let entry = each-entry p (entries_in trees rows) n (entry_in trees r) (linked p [] (entries_in trees rows) played) (row-entry trees rows n r at) in
    record { below = (all-at (IsRowIn trees) rows n r (recursion_from_All (IsRowIn trees) rows each) at).region; term = entry.region.formula }

by-places : {X : Type 0} (P : X → Type 0) (xs : List X) → ((k : ℕ) (x : X) → slice_get xs k ≡ Some x → P x) → AllByRecursion P xs
by-places P [] h = tt
by-places P (x ∷ xs) h = (h 0 x refl, by-places P xs (λ k y at. h (suc k) y at))

pub rows-formulas : (trees : List Tree) (p : Problem) (rows : List Row) → All (IsRowIn trees) rows → IsPlayed p (entries_in trees rows) → All (λ r. IsFormula trees r.region) rows
rows-formulas trees p rows each played = All-from_recursion (λ (r : Row). IsFormula trees r.region) rows (by-places (λ (r : Row). IsFormula trees r.region) rows (λ n r at. row-formula trees p rows n r each played at))

pub last-term : (p : Problem) (entries : List Entry) (e : Entry) → IsPlayed p (entries ++ e ∷ []) → IsTermOf e.region BoolSort
last-term p entries e h = (last-entry p [] entries e h).0.region.formula

-- those that are named by numbers are
pub formulas-at : (trees : List Tree) (rows : List Row) (level : ℕ) (w : Quantifier) (numbers : List ℕ) → All (λ r. IsFormula trees r.region) rows → numbers ≡ numbers_from 0 level w (entries_in trees rows) → All (IsFormulaAt trees rows) numbers
formulas-at trees rows level w numbers each is =
    let es = entries_in trees rows in
    let count : length es ≡ length rows = length-map rows (entry_in trees) in
    subst (λ (ns : List ℕ). All (IsFormulaAt trees rows) ns) (sym is)
    (All-from_recursion (IsFormulaAt trees rows) (numbers_from 0 level w es)
    (all-weaker (λ k. k < 0 + length es) (IsFormulaAt trees rows) (numbers_from 0 level w es)
    (λ k low.
    let r = found-at rows k (omega (arith, low, count)) in
    to-some (slice_get rows k) (λ r. IsFormula trees r.region) r.0 r.1 (all-at (λ (r : Row). IsFormula trees r.region) rows k r.0 (recursion_from_All (λ (r : Row). IsFormula trees r.region) rows each) r.1))
    (numbers-below 0 level w es)))

-- all links at the last level, and at another one
pub last-links : (p : Problem) (entries : List Entry) (w : Quantifier) (level n : ℕ) → block_count p ≡ n → level ≡ n → all_links p entries w level ≡ []
last-links p entries w level n count at =
    let is : (level == block_count p) ≡ true = eq-eqb level (block_count p) (at ∙ sym count) in
    rw is refl

pub other-links : (p : Problem) (entries : List Entry) (w : Quantifier) (level n : ℕ) → block_count p ≡ n → (level ≡ n → ⊥) → all_links p entries w level ≡ numbers_from 0 (level + 1) w entries
other-links p entries w level n count away = elim (cases_Bool (level == block_count p)) [
  | inl y ↦ absurd (away (eqb-true level (block_count p) y ∙ count))
  | inr o ↦ rw o refl
]
