-- A game that words for its only block win.
use Rattle.std.proofs.Common.{◌≡◌, ℕ, zero, suc, ◌+◌, ◌<◌, true, Option, Some, None, List, [], ◌∷◌, ◌++◌, length, map, take, drop, get_or, slice_get, inl, refl, sym, ap, ◌∙◌, subst, arith}
use Rattle.std.specs.Prelude.{IsSomeAnd}
use Rattle.std.specs.List.{All, AllByRecursion, AllZip}
use Rattle.std.proofs.lemmas.List.{length-map}
use Rattle.std.proofs.lemmas.List.Elements.{All-from_recursion, recursion_from_All}
use Rattle.std.proofs.lemmas.Option.{slice_get-get_or}
use Rattle.qv_words.specs.declared.sort.Sort.{Sort}
use Rattle.qv_words.specs.declared.word.Word.{Word}
use Rattle.qv_words.specs.Word.{sorts_of, values_of, word_sort}
use Rattle.qv_words.specs.Tree.{Tree}
use Rattle.qv_words.specs.Sorted.{constants_of, free_levels}
use Rattle.qv_words.specs.Values.{HasWords}
use Rattle.qv_words.specs.Choice.{AreChosen, IsTrueAt}
use Rattle.qv_words.specs.Problem.{Place, Problem, Quantifier, Existential, other}
use Rattle.qv_words.specs.Linked.{Block, Entry, HoldsFirst, IsLinked, IsPlaceBelow, blocks_of, same_quantifier, with_place, with_terms}
use Rattle.qv_words.specs.GameLaws.{HasWon, IsProblem}
use Rattle.qv_words.proofs.Elements.{all-weaker, get-map, some-and, to-some}
use Rattle.qv_store.specs.Nodes.{tree_at}
use Rattle.qv_store.specs.Problems.{place_of, quantifier_of}
use Rattle.qv_store.specs.Walks.{named}
use Rattle.qv_store.specs.declared.problem.Place.{Place as Kept}
use Rattle.qv_entries.specs.Rows.{Row, IsRowIn, entries_in, entry_in}
use Rattle.qv_game_entry_laws.specs.BuildingLaws.{IsSimplified}
use Rattle.qv_meter.specs.Played.{FollowsForced, IsPlayed, IsUndecided}
use Rattle.qv_meter.specs.Charging.{MayChargeInstance}
use Rattle.qv_meter.specs.Queries.{block_count}
use Rattle.qv_meter.specs.Records.{IsMetering, Metering, after_instance}
use Rattle.qv_meter.specs.Units.{EntryUnit, IsEntryUnit, IsInstance}
use Rattle.qv_meter.proofs.Fresh.{linked}
use Rattle.qv_game_lanes.specs.declared.lane.Lane.{Lane}
use Rattle.qv_game_play_laws.specs.PlayLaws.{LeadsOn, MayMove}
use Rattle.qv_game_play_laws.proofs.Moves.{owned-is_played}
use Rattle.qv_game_state.specs.Charges.{IsCharged, Tally}
use Rattle.qv_game_state.specs.Starting.{HasCharged, IsUncharged}
use Rattle.qv_game_state.proofs.Answered.{of-charged}
use Rattle.qv_game_state.proofs.Begun.{charged-first}
use Rattle.qv_game_state.proofs.Counting.{charged-instance}
use Rattle.qv_game_state.proofs.Levels.{words-typed}
use Rattle.qv_game.specs.Offered.{IsPlaceFor, IsWonAt, WinsAt}
use Rattle.qv_game.specs.declared.playing.Played.{Played}
use Rattle.qv_game.specs.Played.{IsAskedAbout, IsKept}
use Rattle.qv_game.specs.WholeGames.{IsWonBy}
use Rattle.qv_game.proofs.Rounds.{of-charged as charged-of}

-- ---- words for places

-- one more place and its word
zip-more : {X Y : Type 0} (R : X → Y → Type 0) (xs : List X) (ys : List Y) (n : ℕ) (x : X) (y : Y) → slice_get xs n ≡ Some x → slice_get ys n ≡ Some y → AllZip R (take n xs) (take n ys) → R x y → AllZip R (take (suc n) xs) (take (suc n) ys)
zip-more R [] ys n x y at there h r = absurd cc
zip-more R (x' ∷ xs) [] n x y at there h r = absurd cc
zip-more R (x' ∷ xs) (y' ∷ ys) zero x y at there h r =
    let one : x' ≡ x = cc in
    let two : y' ≡ y = cc in
    (subst (λ b. R x' b) (sym two) (subst (λ a. R a y) (sym one) r), tt)
zip-more R (x' ∷ xs) (y' ∷ ys) (suc n) x y at there h r = (h.0, zip-more R xs ys n x y at there h.1 r)

pub zip-next : {X Y : Type 0} (R : X → Y → Type 0) (xs : List X) (ys : List Y) (n : ℕ) (d : X) (y : Y) → n < length xs → slice_get ys n ≡ Some y → AllZip R (take n xs) (take n ys) → R (get_or xs n d) y → AllZip R (take (n + 1) xs) (take (n + 1) ys)
zip-next R xs ys n d y low there h r =
    let up : suc n ≡ n + 1 = omega arith in
    subst (λ (k : ℕ). AllZip R (take k xs) (take k ys)) up (zip-more R xs ys n (get_or xs n d) y (slice_get-get_or xs n d low) there h r)

pub places-owned : (places : List Kept) (words : List Word) → AllZip IsPlaceFor places words → AllByRecursion (λ (p : Place). p.quantifier ≡ Existential) (map place_of places)
places-owned [] words h = tt
places-owned (p ∷ ps) [] h = absurd h
places-owned (p ∷ ps) (w ∷ ws) h = (h.0.owned, places-owned ps ws h.1)

pub words-fit : (places : List Kept) (words : List Word) → AllZip IsPlaceFor places words → sorts_of words ≡ map (λ (p : Place). p.sort) (map place_of places)
words-fit [] [] h = refl
words-fit [] (w ∷ ws) h = absurd h
words-fit (p ∷ ps) [] h = absurd h
words-fit (p ∷ ps) (w ∷ ws) h =
    let rest = words-fit ps ws h.1 in
    let first = h.0.sort in
    ap (λ (s : Sort). s ∷ sorts_of ws) first ∙ ap (λ (ss : List Sort). p.sort ∷ ss) rest

-- so each variable of the matrix has a word
word-there : (ws : List Word) (l : ℕ) (s : Sort) → slice_get (sorts_of ws) l ≡ Some s → IsSomeAnd (slice_get ws l) (λ w. word_sort w ≡ s)
word-there [] l s e = absurd cc
word-there (w ∷ ws) zero s e = let same : word_sort w ≡ s = cc in same
word-there (w ∷ ws) (suc l) s e = word-there ws l s e

word-below : (p : Problem) (ws : List Word) → sorts_of ws ≡ map (λ (place : Place). place.sort) p.prefix → (leaf : ℕ × Sort) → IsPlaceBelow p (length p.prefix) leaf → IsSomeAnd (slice_get ws leaf.0) (λ w. word_sort w ≡ leaf.1)
word-below p ws sorts leaf h =
    let place = some-and (slice_get p.prefix leaf.0) (λ (x : Place). x.sort ≡ leaf.1) h.1 in
    let there : slice_get (sorts_of ws) leaf.0 ≡ Some leaf.1 =
    ap (λ (ss : List Sort). slice_get ss leaf.0) sorts ∙ get-map (λ (x : Place). x.sort) p.prefix leaf.0 place.0 place.1 ∙ ap Some place.2 in
    word-there ws leaf.0 leaf.1 there

pub words-for : (p : Problem) (ws : List Word) → IsProblem p → sorts_of ws ≡ map (λ (place : Place). place.sort) p.prefix → HasWords [] ws p.matrix
words-for p ws problem sorts =
    let Given : ℕ × Sort → Type 0 = λ leaf. IsSomeAnd (slice_get {X = Word} [] leaf.0) (λ w. word_sort w ≡ leaf.1) in
    let There : ℕ × Sort → Type 0 = λ leaf. IsSomeAnd (slice_get ws leaf.0) (λ w. word_sort w ≡ leaf.1) in
    record {
      constants = All-from_recursion Given (constants_of p.matrix) (subst (AllByRecursion Given) (sym problem.matrix.constant_free) tt);
      levels = All-from_recursion There (free_levels p.matrix) (all-weaker (IsPlaceBelow p (length p.prefix)) There (free_levels p.matrix) (word-below p ws sorts) (recursion_from_All (IsPlaceBelow p (length p.prefix)) (free_levels p.matrix) problem.variables));
    }

-- ---- the only block

-- places of the existential player make one block
abbrev pub block-of : List Place → Block
block-of ps = record { owner = Existential; sorts = map (λ (p : Place). p.sort) ps }

only-block : (ps : List Place) → AllByRecursion (λ (p : Place). p.quantifier ≡ Existential) ps → (ps ≡ [] → ⊥) → blocks_of ps ≡ block-of ps ∷ []
only-block [] h some = absurd (some refl)
only-block (p ∷ []) h some = ap (λ (q : Quantifier). record { owner = q; sorts = p.sort ∷ [] } ∷ []) h.0
only-block (p ∷ q ∷ ps) h some =
    let rest = only-block (q ∷ ps) h.1 (λ e. absurd cc) in
    let same : same_quantifier p.quantifier Existential ≡ true = ap (λ (k : Quantifier). same_quantifier k Existential) h.0 in
    ap (with_place p) rest ∙ rw same refl

pub one-block : (p : Problem) (point : List Word) → WinsAt p point → (p.prefix ≡ [] → ⊥) → blocks_of p.prefix ≡ block-of p.prefix ∷ []
one-block p point h some = only-block p.prefix (recursion_from_All (λ (place : Place). place.quantifier ≡ Existential) p.prefix h.owned) some

-- so nothing is asked about the existential player
pub not-asked : (p : Problem) (point : List Word) → WinsAt p point → (p.prefix ≡ [] → ⊥) → IsAskedAbout p Existential → ⊥
not-asked p point h some about =
    let two : block-of p.prefix ∷ [] ≡ about.0 ∷ [] = sym (one-block p point h some) ∙ about.1 in
    let owner : Existential ≡ about.0.owner = cc in
    let differs : Existential ≡ other Existential = about.2 ∙ ap other (sym owner) in
    absurd cc

-- ---- the entry

-- what it is made of
pub record IsMadeOf (p : Problem) (point : List Word) (region : Tree) (terms : List Tree) : Type 0 where
  pub chosen : AreChosen 0 (length point) (values_of point) p.matrix 0 (drop 0 (sorts_of point)) terms
  pub region_is : IsSimplified region (with_terms 0 terms p.matrix)

none-before : IsUndecided []
none-before = All-from_recursion (λ (e : Entry). e.level ≡ 1 → ⊥) [] tt

abbrev pub first-entry : Tree → List Tree → Entry
first-entry region terms = record { level = 1; winner = Existential; region = region; point = []; terms = terms; links = [] }

pub first-played : (p : Problem) (point : List Word) (region : Tree) (terms : List Tree) → IsProblem p → WinsAt p point → (p.prefix ≡ [] → ⊥) → IsMadeOf p point region terms → IsPlayed p (first-entry region terms ∷ [])
first-played p point region terms problem h some made =
    let blocks = one-block p point h some in
    let b = block-of p.prefix in
    let count : block_count p ≡ 1 = ap length blocks in
    let many : length point ≡ length b.sorts = sym (length-map point word_sort) ∙ ap length h.sorts in
    let move : MayMove p [] 1 Existential [] = record {
      problem = problem;
      played = tt;
      undecided = none-before;
      low = omega arith;
      high = omega (arith, count);
      point_of = tt;
      outside = All-from_recursion (λ (f : Entry). IsTrueAt [] f.region → ⊥) [] tt;
    } in
    let follows : FollowsForced p [] [] = λ n f long at forced. absurd (omega (arith, long)) in
    let leads : LeadsOn p [] 1 Existential [] p.matrix = record {
      last = λ e. (refl, refl);
      linked = λ other. absurd (other (omega (arith, count)));
    } in
    let chosen : AreChosen 0 (0 + length b.sorts) (values_of point) p.matrix 0 b.sorts terms =
    subst (λ (ss : List Sort). AreChosen 0 (0 + length b.sorts) (values_of point) p.matrix 0 ss terms) h.sorts
    (subst (λ (k : ℕ). AreChosen 0 k (values_of point) p.matrix 0 (sorts_of point) terms) many made.chosen) in
    owned-is_played p [] 1 Existential b [] (values_of point) p.matrix region terms [] move follows
    (ap (λ (bs : List Block). slice_get bs 0) blocks) refl leads (words-typed point b.sorts h.sorts) h.holds chosen made.region_is

-- ---- what is charged

-- nothing yet
before-first : (p : Problem) (point : List Word) (m : Metering) → WinsAt p point → (p.prefix ≡ [] → ⊥) → IsUncharged p m → IsMetering m → (limit : ℕ) × IsCharged p 0 limit (record { winner = Existential; count = 0 } ∷ []) m
before-first p point m h some uncharged keeps =
    let r = some-and m.newest (λ x. IsSomeAnd x.kept (λ k. (k.problem ≡ p) × (x.conflicts ≡ 0) × (x.instances ≡ 0))) uncharged in
    let limit = r.0.limits.variables in
    let count : 1 ≡ block_count p = sym (ap length (one-block p point h some)) in (
      limit,
      charged-first p limit (record { winner = Existential; count = 0 } ∷ []) m uncharged keeps (to-some m.newest (λ x. x.limits.variables ≡ limit) r.0 r.1 refl) count (λ i t at. none i t at),
    )
  where
    none : (i : ℕ) (t : Tally) → slice_get (record { winner = Existential; count = 0 } ∷ []) i ≡ Some t → t.count ≡ 0
    none zero t at = let same : record { winner = Existential; count = 0 } ≡ t = cc in ap (λ (x : Tally). x.count) (sym same)
    none (suc i) t at = absurd cc

pub may-charge_first : (p : Problem) (point : List Word) (region : Tree) (terms : List Tree) (m : Metering) → IsProblem p → WinsAt p point → (p.prefix ≡ [] → ⊥) → IsMadeOf p point region terms → IsUncharged p m → IsMetering m → MayChargeInstance m (EntryUnit [] (first-entry region terms))
may-charge_first p point region terms m problem h some made uncharged keeps =
    let c = before-first p point m h some uncharged keeps in
    let unit : IsEntryUnit c.1.kept.problem c.1.newest.instances [] (first-entry region terms) = record {
      played = subst (λ (x : Problem). IsPlayed x (first-entry region terms ∷ [])) (sym c.1.problem) (first-played p point region terms problem h some made);
      counted = sym c.1.instances;
    } in
    of-charged p 0 c.0 (record { winner = Existential; count = 0 } ∷ []) m (λ r k. IsInstance k.problem r.instances (EntryUnit [] (first-entry region terms))) c.1 unit

pub charged-one : (p : Problem) (point : List Word) (m : Metering) → WinsAt p point → (p.prefix ≡ [] → ⊥) → IsUncharged p m → IsMetering m → HasCharged p 1 (after_instance m)
charged-one p point m h some uncharged keeps =
    let c = before-first p point m h some uncharged keeps in
    charged-of p 1 c.0 (record { winner = Existential; count = 0 } ∷ []) (after_instance m) (charged-instance p 0 c.0 (record { winner = Existential; count = 0 } ∷ []) m c.1)

-- ---- its row

-- a row that says it
pub record IsFirstRow (trees : List Tree) (p : Problem) (point : List Word) (row : Row) : Type 0 where
  pub level_is : row.level ≡ 1
  pub winner_is : row.winner ≡ Existential
  pub point_is : row.point ≡ []
  pub links_are : row.links ≡ []
  pub made : IsMadeOf p point (tree_at trees row.region) (named trees row.terms)
  pub row_in : IsRowIn trees row

-- the row that is made of what was taken
abbrev pub made-row : ℕ → List Word → List ℕ → List ℕ → Row
made-row region ws terms links = record { level = 1; winner = Existential; region = region; point = values_of ws; terms = terms; links = links }

pub is-first : (trees : List Tree) (p : Problem) (point ws : List Word) (region : ℕ) (terms links : List ℕ) → ws ≡ [] → links ≡ [] → AreChosen 0 (length point) (values_of point) p.matrix 0 (drop 0 (sorts_of point)) (named trees terms) → IsSimplified (tree_at trees region) (with_terms 0 (named trees terms) p.matrix) → All (λ n. n < length trees) terms → region < length trees → IsFirstRow trees p point (made-row region ws terms links)
is-first trees p point ws region terms links none unlinked chosen simplified low below = record {
  level_is = refl;
  winner_is = refl;
  point_is = ap values_of none;
  links_are = unlinked;
  made = record { chosen = chosen; region_is = simplified };
  row_in = record { region = below; terms = low };
}

-- a game of existential places that was not begun
pub record MayWin (p : Problem) (point : List Word) (m : Metering) : Type 0 where
  pub problem : IsProblem p
  pub some : p.prefix ≡ [] → ⊥
  pub wins : WinsAt p point
  pub uncharged : IsUncharged p m
  pub keeps : IsMetering m

abbrev pub entry-of : List Tree → Row → Entry
entry-of trees row = first-entry (tree_at trees row.region) (named trees row.terms)

row-entry : (trees : List Tree) (p : Problem) (point : List Word) (row : Row) → IsFirstRow trees p point row → entry_in trees row ≡ entry-of trees row
row-entry trees p point row h = rw (h.level_is, h.winner_is, h.point_is, h.links_are) refl

row-played : (trees : List Tree) (p : Problem) (point : List Word) (row : Row) (m : Metering) → MayWin p point m → IsFirstRow trees p point row → IsPlayed p (entries_in trees (row ∷ []))
row-played trees p point row m may h =
    subst (λ (e : Entry). IsPlayed p (e ∷ [])) (sym (row-entry trees p point row h))
    (first-played p point (tree_at trees row.region) (named trees row.terms) may.problem may.wins may.some h.made)

pub row-charge : (trees : List Tree) (p : Problem) (point : List Word) (rows : List Row) (row : Row) (m : Metering) → MayWin p point m → IsFirstRow trees p point row → rows ≡ [] → MayChargeInstance m (EntryUnit (entries_in trees rows) (entry_in trees row))
row-charge trees p point rows row m may h none =
    subst (λ (rs : List Row). MayChargeInstance m (EntryUnit (entries_in trees rs) (entry_in trees row))) (sym none)
    (subst (λ (e : Entry). MayChargeInstance m (EntryUnit [] e)) (sym (row-entry trees p point row h))
    (may-charge_first p point (tree_at trees row.region) (named trees row.terms) m may.problem may.wins may.some h.made may.uncharged may.keeps))

pub row-linked : (trees : List Tree) (p : Problem) (point : List Word) (rows : List Row) (row : Row) (m : Metering) → MayWin p point m → IsFirstRow trees p point row → rows ≡ [] → IsLinked p (entries_in trees (rows ++ row ∷ []))
row-linked trees p point rows row m may h none =
    subst (λ (rs : List Row). IsLinked p (entries_in trees (rs ++ row ∷ []))) (sym none)
    (linked p [] (entries_in trees (row ∷ [])) (row-played trees p point row m may h))

pub row-won : (trees : List Tree) (p : Problem) (point : List Word) (rows all : List Row) (row : Row) (m after : Metering) → MayWin p point m → IsFirstRow trees p point row → rows ≡ [] → all ≡ rows ++ row ∷ [] → after ≡ after_instance m → IsWonAt trees p all after
row-won trees p point rows all row m after may h none is later =
    let one : all ≡ row ∷ [] = is ∙ ap (λ (rs : List Row). rs ++ row ∷ []) none in
    let held : HoldsFirst Existential (entry-of trees row ∷ []) = refl in
    subst (λ (rs : List Row). IsWonAt trees p rs after) (sym one) record {
      played = row-played trees p point row m may h;
      won = subst (λ (e : Entry). HoldsFirst Existential (e ∷ [])) (sym (row-entry trees p point row h)) held;
      rows = All-from_recursion (IsRowIn trees) (row ∷ []) (h.row_in, tt);
      charged = subst (HasCharged p 1) (sym later) (charged-one p point m may.wins may.some may.uncharged may.keeps);
    }

-- ---- the game

pub won-played : (trees : List Tree) (p : Problem) (point : List Word) (played : Played) (entries : List Row) (m : Metering) → WinsAt p point → (p.prefix ≡ [] → ⊥) → IsWonAt trees p entries m → quantifier_of played.won.winner ≡ Existential → played.won.entries ≡ entries → played.lane ≡ None → IsWonBy trees p played m
won-played trees p point played entries m wins some h who rows lane = record {
  played = subst (λ (es : List Row). IsPlayed p (entries_in trees es)) (sym rows) h.played;
  won = subst (λ (q : Quantifier). HasWon p q (entries_in trees played.won.entries)) (sym who) (subst (λ (es : List Row). HasWon p Existential (entries_in trees es)) (sym rows) (inl h.won));
  rows = subst (λ (es : List Row). All (IsRowIn trees) es) (sym rows) h.rows;
  charged = subst (λ (es : List Row). HasCharged p (length es) m) (sym rows) h.charged;
  kept = subst (λ (o : Option Lane). IsKept trees p (quantifier_of played.won.winner) o m) (sym lane)
      (subst (λ (q : Quantifier). IsAskedAbout p q → ⊥) (sym who) (not-asked p point wins some));
}
