-- Levels of a game: their blocks, and the sorts of the places before them.
use Rattle.std.proofs.Common.{◌≡◌, ℕ, zero, suc, ◌+◌, ◌-◌, ◌≤◌, Some, List, [], ◌∷◌, ◌++◌, length, map, take, drop, slice_get, refl, sym, ap, ◌∙◌, subst, arith}
use Rattle.std.specs.List.{AllZip, flat_map}
use Rattle.std.proofs.lemmas.List.{length-map, map-append, take-append-le, take-map}
use Rattle.qv_words.specs.declared.sort.Sort.{Sort}
use Rattle.qv_words.specs.declared.word.Word.{Word}
use Rattle.qv_words.specs.Sort.{IsValueOf}
use Rattle.qv_words.specs.Word.{sorts_of, values_of, word_sort, word_value}
use Rattle.qv_words.specs.Tree.{Tree, Variable}
use Rattle.qv_words.specs.Problem.{Place, Problem}
use Rattle.qv_words.specs.Linked.{AreValues, Block, blocks_of, block_numbered, places_below}
use Rattle.qv_words.specs.GameLaws.{IsPointOf}
use Rattle.qv_words.proofs.Elements.{drop-front, take-length}
use Rattle.qv_game_laws.proofs.Each.{flat-blocks, places_in}
use Rattle.qv_game_laws.proofs.Points.{below, below-is, below-next, below-within, take-block}
use Rattle.qv_store.specs.Nodes.{tree_at}
use Rattle.qv_store.specs.Walks.{named}
use Rattle.qv_game_play_laws.specs.PlayLaws.{sorts_below}
use Rattle.qv_game_entry_laws.specs.PointLaws.{places_from}
use Rattle.qv_game_state.specs.Spans.{Span, spans_from}
use Rattle.qv_game_state.specs.Spots.{BlockAt, all_sorts}
use Rattle.qv_game_state.proofs.Blocks.{numbered-block, span-at}

-- fronts of lists
pub take-within : {X : Type 0} (xs : List X) (a b : ℕ) → a ≤ b → take a (take b xs) ≡ take a xs
take-within xs zero b h = refl
take-within [] (suc a) zero h = refl
take-within [] (suc a) (suc b) h = refl
take-within (x ∷ xs) (suc a) zero h = absurd (omega (arith, h))
take-within (x ∷ xs) (suc a) (suc b) h = ap (λ ys. x ∷ ys) (take-within xs a b (omega (arith, h)))

pub below-rises : (bs : List Block) (i j : ℕ) → i ≤ j → below bs i ≤ below bs j
below-rises bs zero j h = omega arith
below-rises [] (suc i) zero h = omega arith
below-rises [] (suc i) (suc j) h = omega arith
below-rises (b ∷ bs) (suc i) zero h = absurd (omega (arith, h))
below-rises (b ∷ bs) (suc i) (suc j) h = let rest = below-rises bs i j (omega (arith, h)) in omega (arith, rest)

pub places-rise : (bs : List Block) (k level : ℕ) → 1 ≤ k → k ≤ level → places_below bs k ≤ places_below bs level
places-rise bs k level low high =
    let at = below-is bs k (k - 1) (omega (arith, low)) in
    let to = below-is bs level (level - 1) (omega (arith, low, high)) in
    let up = below-rises bs (k - 1) (level - 1) (omega (arith, low, high)) in
    omega (arith, at, to, up)

pub places-within : (p : Problem) (level : ℕ) → 1 ≤ level → places_below (blocks_of p.prefix) level ≤ length p.prefix
places-within p level low =
    let at = below-is (blocks_of p.prefix) level (level - 1) (omega (arith, low)) in
    let within = below-within (blocks_of p.prefix) (level - 1) in
    let all : length (flat_map places_in (blocks_of p.prefix)) ≡ length p.prefix = ap length (flat-blocks p.prefix) in
    omega (arith, at, within, all)

-- a level's block
pub record IsLevel (p : Problem) (level : ℕ) (s : Span) (b : Block) : Type 0 where
  pub at : BlockAt p level b
  pub numbered : block_numbered (blocks_of p.prefix) level ≡ Some b
  pub owner : s.owner ≡ b.owner
  pub first : s.first ≡ places_below (blocks_of p.prefix) level
  pub end : s.end ≡ places_below (blocks_of p.prefix) (level + 1)
  pub sum : s.end ≡ s.first + length b.sorts
  pub sorts : sorts_below p (level + 1) ≡ sorts_below p level ++ b.sorts

sorts-in : (b : Block) → map (λ (place : Place). place.sort) (places_in b) ≡ b.sorts
sorts-in b = go b.sorts
  where
    go : (sorts : List Sort) → map (λ (place : Place). place.sort) (map (λ s. record { quantifier = b.owner; sort = s }) sorts) ≡ sorts
    go [] = refl
    go (s ∷ sorts) = ap (λ (rest : List Sort). s ∷ rest) (go sorts)

pub sorts-next : (p : Problem) (level : ℕ) (b : Block) → 1 ≤ level → BlockAt p level b → sorts_below p (level + 1) ≡ sorts_below p level ++ b.sorts
sorts-next p level b low at =
    let bs = blocks_of p.prefix in
    let sort : Place → Sort = λ place. place.sort in
    let here : level ≡ suc (level - 1) = omega (arith, low) in
    let now = below-is bs level (level - 1) here in
    let next : places_below bs (level + 1) ≡ below bs (suc (level - 1)) = below-is bs (level + 1) (suc (level - 1)) (omega (arith, low)) in
    let flat = flat-blocks p.prefix in
    let taken : take (below bs (suc (level - 1))) p.prefix ≡ take (below bs (level - 1)) p.prefix ++ places_in b =
    subst (λ (ps : List Place). take (below bs (suc (level - 1))) ps ≡ take (below bs (level - 1)) ps ++ places_in b) flat (take-block bs (level - 1) b at) in
    ap (λ (n : ℕ). map sort (take n p.prefix)) next ∙ ap (map sort) taken
    ∙ map-append sort (take (below bs (level - 1)) p.prefix) (places_in b)
    ∙ ap (λ (ss : List Sort). map sort (take (below bs (level - 1)) p.prefix) ++ ss) (sorts-in b)
    ∙ ap (λ (n : ℕ). map sort (take n p.prefix) ++ b.sorts) (sym now)

pub level-of : (p : Problem) (level : ℕ) (s : Span) → 1 ≤ level → slice_get (spans_from 0 (blocks_of p.prefix)) (level - 1) ≡ Some s → (b : Block) × IsLevel p level s b
level-of p level s low at =
    let bs = blocks_of p.prefix in
    let f = span-at 0 bs (level - 1) s at in
    let b = f.0 in
    let here : level ≡ suc (level - 1) = omega (arith, low) in
    let from : s.first ≡ 0 + places_below bs level = f.1.from in
    let to = f.1.to in
    let now = below-is bs level (level - 1) here in
    let next : places_below bs (level + 1) ≡ below bs (suc (level - 1)) = below-is bs (level + 1) (suc (level - 1)) (omega (arith, low)) in
    let more = below-next bs (level - 1) b f.1.at in (
      b,
      record {
        at = f.1.at;
        numbered = numbered-block bs level low ∙ f.1.at;
        owner = f.1.owner;
        first = omega (arith, from);
        end = omega (arith, from, to, now, next, more);
        sum = to;
        sorts = sorts-next p level b low f.1.at;
      },
    )

-- points of a level
pub sorts-count : (p : Problem) (level : ℕ) → 1 ≤ level → length (sorts_below p level) ≡ places_below (blocks_of p.prefix) level
sorts-count p level low =
    length-map (take (places_below (blocks_of p.prefix) level) p.prefix) (λ (place : Place). place.sort) ∙ take-length p.prefix (places_below (blocks_of p.prefix) level) (places-within p level low)

pub point-count : (p : Problem) (level : ℕ) (point : List Word) → 1 ≤ level → sorts_of point ≡ sorts_below p level → length point ≡ places_below (blocks_of p.prefix) level
point-count p level point low h = sym (length-map point word_sort) ∙ ap length h ∙ sorts-count p level low

typed-places : (ws : List Word) (ps : List Place) → sorts_of ws ≡ map (λ (place : Place). place.sort) ps → AllZip (λ v (place : Place). IsValueOf v place.sort) (values_of ws) ps
typed-places [] [] e = tt
typed-places [] (p ∷ ps) e = absurd (cc)
typed-places (w ∷ ws) [] e = absurd (cc)
typed-places (w ∷ ws) (p ∷ ps) e =
    let same : word_sort w ≡ p.sort = cc in
    let rest : sorts_of ws ≡ map (λ (place : Place). place.sort) ps = cc in
    (subst (IsValueOf (word_value w)) same w.in_range, typed-places ws ps rest)

pub point-typed : (p : Problem) (level : ℕ) (point : List Word) → sorts_of point ≡ sorts_below p level → IsPointOf p level (values_of point)
point-typed p level point h = typed-places point (take (places_below (blocks_of p.prefix) level) p.prefix) h

pub words-typed : (ws : List Word) (sorts : List Sort) → sorts_of ws ≡ sorts → AreValues (values_of ws) sorts
words-typed [] [] e = tt
words-typed [] (s ∷ ss) e = absurd (cc)
words-typed (w ∷ ws) [] e = absurd (cc)
words-typed (w ∷ ws) (s ∷ ss) e =
    let same : word_sort w ≡ s = cc in
    let rest : sorts_of ws ≡ ss = cc in
    (subst (IsValueOf (word_value w)) same w.in_range, words-typed ws ss rest)

-- a point's front for an earlier level
pub front-sorts : (p : Problem) (k level : ℕ) (point : List Word) → 1 ≤ k → k ≤ level → sorts_of point ≡ sorts_below p level → sorts_of (take (places_below (blocks_of p.prefix) k) point) ≡ sorts_below p k
front-sorts p k level point low high h =
    let n = places_below (blocks_of p.prefix) k in
    let sort : Place → Sort = λ place. place.sort in
    sym (take-map word_sort n point) ∙ ap (take n) h
    ∙ take-map sort n (take (places_below (blocks_of p.prefix) level) p.prefix)
    ∙ ap (map sort) (take-within p.prefix n (places_below (blocks_of p.prefix) level) (places-rise (blocks_of p.prefix) k level low high))

-- a point of the next level
pub longer-sorts : (p : Problem) (level : ℕ) (b : Block) (point values : List Word) → 1 ≤ level → BlockAt p level b → sorts_of point ≡ sorts_below p level → sorts_of values ≡ drop (length point) (sorts_below p (level + 1)) → sorts_of (point ++ values) ≡ sorts_below p (level + 1)
longer-sorts p level b point values low at here rest =
    let next = sorts-next p level b low at in
    let count : length point ≡ length (sorts_below p level) + 0 = (let same = sym (length-map point word_sort) ∙ ap length here in omega (arith, same)) in
    let behind : sorts_of values ≡ b.sorts = rest ∙ ap (drop (length point)) next ∙ drop-front (sorts_below p level) b.sorts 0 (length point) count in
    map-append word_sort point values ∙ ap (λ (ss : List Sort). ss ++ sorts_of values) here ∙ ap (λ (ss : List Sort). sorts_below p level ++ ss) behind ∙ sym next

-- and the front of the next level's sorts
pub front-typed : (p : Problem) (level : ℕ) (b : Block) (point : List Word) → 1 ≤ level → BlockAt p level b → sorts_of point ≡ sorts_below p level → sorts_of point ≡ take (length point) (sorts_below p (level + 1))
front-typed p level b point low at here =
    let next = sorts-next p level b low at in
    let count : length point ≡ length (sorts_below p level) = sym (length-map point word_sort) ∙ ap length here in
    here ∙ sym (take-all (sorts_below p level)) ∙ ap (λ (n : ℕ). take n (sorts_below p level)) (sym count)
    ∙ sym (take-append-le (length point) (sorts_below p level) b.sorts (omega (arith, count))) ∙ ap (take (length point)) (sym next)
  where
    take-all : (ss : List Sort) → take (length ss) ss ≡ ss
    take-all [] = refl
    take-all (s ∷ ss) = ap (λ (rest : List Sort). s ∷ rest) (take-all ss)

-- the variables of the places before a level
front-places : (place n : ℕ) (sorts : List Sort) → take n (places_from place sorts) ≡ places_from place (take n sorts)
front-places place zero sorts = refl
front-places place (suc n) [] = refl
front-places place (suc n) (s ∷ sorts) = ap (λ (ts : List Tree). Variable place s ∷ ts) (front-places (suc place) n sorts)

pub front-named : (trees : List Tree) (p : Problem) (level : ℕ) (ids : List ℕ) → named trees ids ≡ places_from 0 (all_sorts p) → named trees (take (places_below (blocks_of p.prefix) level) ids) ≡ places_from 0 (sorts_below p level)
front-named trees p level ids h =
    let n = places_below (blocks_of p.prefix) level in
    sym (take-map (tree_at trees) n ids) ∙ ap (take n) h ∙ front-places 0 n (all_sorts p) ∙ ap (places_from 0) (take-map (λ (place : Place). place.sort) n p.prefix)
