-- The spots at which play goes on: of the next level, and of the one above an entry's.
use Rattle.std.proofs.Common.{◌≡◌, ℕ, ◌+◌, ◌-◌, ◌≤◌, List, [], ◌∷◌, ◌++◌, length, take, inl, inr, sym, ap, ◌∙◌, subst, arith}
use Rattle.std.proofs.lemmas.List.{length-map, map-append, take-map}
use Rattle.qv_words.specs.declared.word.Word.{Word}
use Rattle.qv_words.specs.Word.{sorts_of, values_of, word_value}
use Rattle.qv_words.specs.Problem.{Problem}
use Rattle.qv_words.specs.Linked.{Block, Entry, blocks_of, places_below}
use Rattle.qv_meter.specs.Queries.{block_count}
use Rattle.qv_game_play_laws.specs.PlayLaws.{sorts_below}
use Rattle.qv_game_state.specs.Spots.{IsOutside, IsSpot}
use Rattle.qv_game_state.specs.Spans.{Span}
use Rattle.qv_game_state.proofs.Counting.{at-or_not}
use Rattle.qv_game_state.proofs.Entering.{outside-front, outside-more, outside-with}
use Rattle.qv_game_state.proofs.Levels.{front-sorts, places-rise, point-count}

-- the point of the next level
pub next-spot : (p : Problem) (entries : List Entry) (level : ℕ) (s : Span) (b : Block) (point values : List Word) → IsSpot p entries level point → level + 1 ≤ block_count p → sorts_of (point ++ values) ≡ sorts_below p (level + 1) → IsOutside p entries (values_of (point ++ values)) (level + 1) → IsSpot p entries (level + 1) (point ++ values)
next-spot p entries level s b point values h high sorts outside =
    let low = h.low in
    let parts : values_of (point ++ values) ≡ values_of point ++ values_of values = map-append word_value point values in
    let count : length (values_of point) ≡ places_below (blocks_of p.prefix) level = length-map point word_value ∙ point-count p level point low h.sorts in
    record {
      low = omega arith;
      high = high;
      sorts = sorts;
      outside = λ k from to. elim (at-or_not k (level + 1)) [
        | inl e ↦ subst (IsOutside p entries (values_of (point ++ values))) (sym e) outside
        | inr other ↦
            let below : k ≤ level = omega (arith, to, other) in
            let rise = places-rise (blocks_of p.prefix) k level from below in
            subst (λ (vs : List ℕ). IsOutside p entries vs k) (sym parts)
            (outside-more p entries (values_of point) (values_of values) k (omega (arith, rise, count)) (h.outside k from below))
      ];
    }

-- the point's front one level up from an entry
pub upper-spot : (p : Problem) (entries : List Entry) (e : Entry) (level : ℕ) (point front : List Word) → 2 ≤ level → level ≤ block_count p → e.level ≡ level → ((k : ℕ) → 1 ≤ k → k ≤ level - 1 → IsOutside p entries (values_of point) k) → (n : ℕ) → level ≤ n → sorts_of point ≡ sorts_below p n → front ≡ take (places_below (blocks_of p.prefix) (level - 1)) point → IsSpot p (entries ++ e ∷ []) (level - 1) front
upper-spot p entries e level point front low high at outside n longer sorts is =
    let size = places_below (blocks_of p.prefix) (level - 1) in
    let values : values_of front ≡ take size (values_of point) = ap values_of is ∙ sym (take-map word_value size point) in
    record {
      low = omega (arith, low);
      high = omega (arith, high);
      sorts = ap sorts_of is ∙ front-sorts p (level - 1) n point (omega (arith, low)) (omega (arith, longer)) sorts;
      outside = λ k from to.
          let rise = places-rise (blocks_of p.prefix) k (level - 1) from to in
          subst (λ (vs : List ℕ). IsOutside p (entries ++ e ∷ []) vs k) (sym values)
          (outside-front p (entries ++ e ∷ []) (values_of point) k size rise
          (outside-with p entries e (values_of point) k (λ f. omega (arith, f, at, to, low)) (outside k from to)));
    }
