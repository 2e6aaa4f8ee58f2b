-- Play turn by turn: how it begins, why it ends, and what it has charged.
use Rattle.std.proofs.Common.{◌≡◌, ◌⊎◌, ℕ, Bool, true, false, ◌==◌, Result, Ok, Err, ◌+◌, ◌-◌, ◌*◌, ◌≤◌, ◌<◌, Option, Some, None, List, [], ◌∷◌, length, map, take, slice_get, inl, inr, refl, sym, ap, ◌∙◌, subst, arith}
use Rattle.std.proofs.lemmas.List.{length-map}
use Rattle.std.proofs.Math.Nat.{mul-le-mul_right}
use Rattle.std.specs.Prelude.{IfOk, IsSomeAnd, OnErr}
use Rattle.std.proofs.lemmas.Bool.{eq-eqb, eqb-true}
use Rattle.std.specs.List.{All}
use Rattle.std.proofs.lemmas.List.Elements.{All-from_recursion}
use Rattle.qv_words.specs.declared.word.Word.{Word}
use Rattle.qv_words.specs.Tree.{Tree}
use Rattle.qv_words.specs.Choice.{IsTrueAt}
use Rattle.qv_words.specs.Problem.{Problem}
use Rattle.qv_words.specs.Linked.{Entry, blocks_of}
use Rattle.qv_words.specs.GameLaws.{HasWon}
use Rattle.qv_words.proofs.Elements.{of-if_some, some-and, to-some}
use Rattle.qv_store.specs.Problems.{places_of, problem_in, quantifier_of, IsPosedIn}
use Rattle.qv_store.specs.declared.problem.Place.{Place}
use Rattle.qv_store.specs.Stores.{Grows}
use Rattle.qv_store.specs.declared.problem.Problem.{Problem as Posed}
use Rattle.qv_entries.specs.Rows.{Row, IsRowIn, entries_in}
use Rattle.qv_meter.specs.Played.{IsSettled, IsPlayed, IsUndecided}
use Rattle.qv_meter.proofs.Following.{settled-none}
use Rattle.qv_meter.specs.declared.faults.PlayFault.{PlayFault}
use Rattle.qv_meter.specs.declared.faults.PlayFault.TheVariants.{Spent, NoMemory}
use Rattle.qv_meter.specs.Queries.{block_count}
use Rattle.qv_meter.specs.Records.{IsMetering, Metering, Record}
use Rattle.qv_game_state.specs.declared.game.Game.{Game}
use Rattle.qv_game.specs.declared.playing.Played.{Played}
use Rattle.qv_game_turns.specs.declared.turns.Spot.{Spot}
use Rattle.qv_game_state.specs.Charges.{IsCharged, Tally, instance_limit}
use Rattle.qv_game_state.specs.Counts.{SameButCounts, without_counts}
use Rattle.qv_game_state.specs.Playing.{IsGame, IsPlaying}
use Rattle.qv_game_state.specs.Spots.{IsOutside, IsSpot}
use Rattle.qv_game_state.specs.Spans.{span_of}
use Rattle.qv_game_state.specs.declared.spans.Span.{Span as Kept}
use Rattle.qv_game_play_laws.specs.PlayLaws.{sorts_below}
use Rattle.qv_words.specs.Word.{sorts_of, values_of}
use Rattle.qv_game_state.specs.Starting.{HasCharged, IsUncharged}
use Rattle.qv_game_turns.specs.Turns.{MayTurn}
use Rattle.qv_game.specs.WholeGames.{MayPlay}
use Rattle.qv_game_state.specs.Faults.{IsSpentWhere}
use Rattle.qv_game_state.proofs.Begun.{charged-first}
use Rattle.qv_game_state.proofs.Blocks.{some-block, spans-count}
use Rattle.qv_game_state.proofs.Levels.{front-sorts}
use Rattle.qv_game_state.proofs.Keeping.{posed-in_stays, posed-stays}
use Rattle.qv_game_state.proofs.Opening.{places-none}
use Rattle.qv_game_state.proofs.Asking.{if-ok, level-span}

-- the point of level 1, before any entry
first-spot : (p : Problem) → 1 ≤ block_count p → IsSpot p [] 1 []
first-spot p some = record {
  low = omega arith;
  high = some;
  sorts = refl;
  outside = λ k from to winner. All-from_recursion (λ (f : Entry). IsTrueAt _ f.region → ⊥) [] tt;
}

-- play at level 1, before any entry
pub first-playing : (trees : List Tree) (posed : Posed) (p : Problem) (limit : ℕ) (g : Game) (m : Metering) → MayPlay trees posed p limit g m → IsPlaying trees p limit g 1 [] m
first-playing trees posed p limit g m h = record {
  game = h.game;
  undecided = subst (λ (rows : List Row). IsUndecided (entries_in trees rows)) (sym h.none) (All-from_recursion (λ (e : Entry). e.level ≡ 1 → ⊥) [] tt);
  settled = subst (λ (rows : List Row). IsSettled p (entries_in trees rows)) (sym h.none) (settled-none p);
  spot = subst (λ (rows : List Row). IsSpot p (entries_in trees rows) 1 []) (sym h.none) (first-spot p (some-block p.prefix h.some));
}

-- play at the last level, before any entry, at the front of values of all places
pub sought-playing : (trees : List Tree) (p : Problem) (limit : ℕ) (g : Game) (levels : ℕ) (values : List Word) (s : Kept) (m : Metering) → IsPlaying trees p limit g 1 [] m → g.entries ≡ [] → 1 ≤ levels → levels ≡ length g.spans.items → slice_get g.spans.items (levels - 1) ≡ Some s → sorts_of values ≡ sorts_below p (block_count p + 1) → IsPlaying trees p limit g levels (take s.first values) m
sought-playing trees p limit g levels values s m h none low many at sorts =
    let f = level-span trees p limit g levels m s h.game low at in
    let count : length (map span_of g.spans.items) ≡ block_count p = ap length h.game.spans ∙ spans-count 0 (blocks_of p.prefix) in
    let same = length-map g.spans.items span_of in
    let high : levels ≡ block_count p = omega (arith, count, same, many) in
    let all : sorts_of values ≡ sorts_below p (levels + 1) = sorts ∙ ap (λ (n : ℕ). sorts_below p (n + 1)) (sym high) in
    record {
      game = h.game;
      undecided = h.undecided;
      settled = h.settled;
      spot = record {
        low = low;
        high = omega (arith, high);
        sorts = ap (λ (n : ℕ). sorts_of (take n values)) f.1.first ∙ front-sorts p levels (levels + 1) values low (omega arith) all;
        outside = subst (λ (rows : List Row). (k : ℕ) → 1 ≤ k → k ≤ levels → IsOutside p (entries_in trees rows) (values_of (take s.first values)) k) (sym none)
            (λ k from to winner. All-from_recursion (λ (f : Entry). IsTrueAt _ f.region → ⊥) [] tt);
      };
    }

pub first-turn : (trees : List Tree) (posed : Posed) (p : Problem) (limit : ℕ) (before g : Game) (spot : Spot) (m after : Metering) → MayPlay trees posed p limit before m → IsPlaying trees p limit g spot.level spot.point.items after → MayTurn trees posed p limit g spot after
first-turn trees posed p limit before g spot m after h playing = record {
  posed_in = h.posed_in;
  is = h.is;
  playing = playing;
}

pub next-turn : (old new : List Tree) (posed : Posed) (p : Problem) (limit : ℕ) (before g : Game) (from spot : Spot) (m after : Metering) → MayTurn old posed p limit before from m → Grows old new → IsPlaying new p limit g spot.level spot.point.items after → MayTurn new posed p limit g spot after
next-turn old new posed p limit before g from spot m after h grows playing = record {
  posed_in = posed-in_stays old new posed grows h.posed_in;
  is = posed-stays old new posed grows h.posed_in ∙ h.is;
  playing = playing;
}

-- the limit of instances stays
limit-kept : (older : List Record) (o : Option Record) (m : Metering) → m.newest ≡ o → instance_limit (without_counts m) ≡ instance_limit m
limit-kept older None m e = rw e refl
limit-kept older (Some r) m e = rw e refl

pub limit-same : (a b : Metering) → SameButCounts a b → instance_limit a ≡ instance_limit b
limit-same a b h = sym (limit-kept a.older a.newest a refl) ∙ ap instance_limit h ∙ limit-kept b.older b.newest b refl

-- and there are no more entries
pub within-limit : (p : Problem) (n limit : ℕ) (tallies : List Tally) (m : Metering) → IsCharged p n limit tallies m → IsMetering m → n ≤ instance_limit m
within-limit p n limit tallies m h keeps =
    let r = of-if_some m.newest _ h.newest h.newest_is keeps.newest in
    let low = r.instances in
    let count = h.instances in
    let most : instance_limit m ≡ h.newest.limits.instances = rw h.newest_is refl in
    omega (arith, low, count, most)

-- so play comes closer to its end
pub nearer : (limit before after blocks level next : ℕ) → (before < after) ⊎ ((after ≡ before) × (next ≡ level + 1)) → after ≤ limit → next ≤ blocks → (limit - after) * (blocks + 2) + (blocks + 1 - next) < (limit - before) * (blocks + 2) + (blocks + 1 - level)
nearer limit before after blocks level next (inl more) low high =
    let less : (limit - after + 1) * (blocks + 2) ≤ (limit - before) * (blocks + 2) = mul-le-mul_right (blocks + 2) (omega (arith, more, low)) in
    omega (arith, less)
nearer limit before after blocks level next (inr same) low high =
    let rows = same.0 in
    let up = same.1 in
    let one : (limit - after) * (blocks + 2) ≡ (limit - before) * (blocks + 2) = ap (λ (n : ℕ). (limit - n) * (blocks + 2)) rows in
    omega (arith, one, up, high)

pub turn-nearer : (trees new : List Tree) (posed : Posed) (p : Problem) (limit : ℕ) (before g : Game) (from next : Spot) (m after : Metering) → MayTurn trees posed p limit before from m → IsPlaying new p limit g next.level next.point.items after → SameButCounts m after → IsMetering after → (length before.entries < length g.entries) ⊎ ((length g.entries ≡ length before.entries) × (next.level ≡ from.level + 1)) → (instance_limit after - length g.entries) * (length (blocks_of (places_of posed)) + 2) + (length (blocks_of (places_of posed)) + 1 - next.level) < (instance_limit m - length before.entries) * (length (blocks_of (places_of posed)) + 2) + (length (blocks_of (places_of posed)) + 1 - from.level)
turn-nearer trees new posed p limit before g from next m after h playing counts keeps closer =
    let blocks = length (blocks_of (places_of posed)) in
    let same : blocks ≡ block_count p = ap block_count h.is in
    let high = playing.spot.high in
    let low = within-limit p (length g.entries) limit _ after playing.game.charged keeps in
    subst (λ (n : ℕ). (instance_limit after - length g.entries) * (blocks + 2) + (blocks + 1 - next.level) < (n - length before.entries) * (blocks + 2) + (blocks + 1 - from.level)) (sym (limit-same m after counts))
    (nearer (instance_limit after) (length before.entries) (length g.entries) blocks from.level next.level closer low (omega (arith, same, high)))

-- the game after its start
pub may-play : (old new : List Tree) (posed : Posed) (limit : ℕ) (g : Game) (m : Metering) → IsPosedIn old posed → Grows old new → (posed.prefix.items ≡ [] → ⊥) → IsGame new (problem_in old posed) limit g m → g.entries ≡ [] → MayPlay new posed (problem_in old posed) limit g m
may-play old new posed limit g m posed_in grows some game none = record {
  posed_in = posed-in_stays old new posed grows posed_in;
  is = posed-stays old new posed grows posed_in;
  some = λ e. some (places-none posed.prefix.items e);
  game = game;
  none = none;
}

-- what was charged is what the record says
pub of-charged : (p : Problem) (n limit : ℕ) (tallies : List Tally) (m : Metering) → IsCharged p n limit tallies m → HasCharged p n m
of-charged p n limit tallies m h =
    to-some m.newest (λ r. IsSomeAnd r.kept (λ k. (k.problem ≡ p) × (r.instances ≡ n) × (slice_get k.tallies 0 ≡ Some 0))) h.newest h.newest_is
    (to-some h.newest.kept (λ k. (k.problem ≡ p) × (h.newest.instances ≡ n) × (slice_get k.tallies 0 ≡ Some 0)) h.kept h.kept_is (h.problem, h.instances, h.final))

-- nothing was where there are no places
pub charged-none : (p : Problem) (m : Metering) → p.prefix ≡ [] → IsUncharged p m → IsMetering m → HasCharged p 0 m
charged-none p m none h keeps =
    let r = some-and m.newest (λ x. IsSomeAnd x.kept (λ k. (k.problem ≡ p) × (x.conflicts ≡ 0) × (x.instances ≡ 0))) h in
    let limit = r.0.limits.variables in
    let count : 0 ≡ block_count p = sym (ap (λ ps. length (blocks_of ps)) none) in
    of-charged p 0 limit [] m (charged-first p limit [] m h keeps (to-some m.newest (λ x. x.limits.variables ≡ limit) r.0 r.1 refl) count (λ i t at. absurd (cc)))

-- whether there are places
pub none-there : (xs : List Place) (n : ℕ) (b : Bool) → n ≡ length xs → b ≡ (n == 0) → b ≡ true → xs ≡ []
none-there [] n b count is y = refl
none-there (x ∷ xs) n b count is y = let none : n ≡ 0 = eqb-true n 0 (sym is ∙ y) in absurd (omega (arith, none, count))

pub some-there : (xs : List Place) (n : ℕ) (b : Bool) → n ≡ length xs → b ≡ (n == 0) → b ≡ false → xs ≡ [] → ⊥
some-there xs n b count is not_so none =
    let here : (n == 0) ≡ true = eq-eqb n 0 (count ∙ ap length none) in
    let two : true ≡ false = sym here ∙ sym is ∙ not_so in
    absurd (cc)

-- without places the matrix has decided, and there are no entries
pub record IsDecided (p : Problem) (r : Result Played PlayFault) : Type 0 where
  pub none : IfOk r (λ played. played.won.entries ≡ [])
  pub won : IfOk r (λ played. HasWon p (quantifier_of played.won.winner) [])

pub decided-played : (trees : List Tree) (p : Problem) (r : Result Played PlayFault) → IsDecided p r → IfOk r (λ played. IsPlayed p (entries_in trees played.won.entries))
decided-played trees p r h = if-ok r (λ played none. subst (λ (rows : List Row). IsPlayed p (entries_in trees rows)) (sym none) tt) h.none

pub decided-won : (trees : List Tree) (p : Problem) (r : Result Played PlayFault) → IsDecided p r → IfOk r (λ played. HasWon p (quantifier_of played.won.winner) (entries_in trees played.won.entries))
decided-won trees p r h = both-ok r (λ played none has. subst (λ (rows : List Row). HasWon p (quantifier_of played.won.winner) (entries_in trees rows)) (sym none) has) h.none h.won
  where
    both-ok : {A E : Type 0} (r : Result A E) {P Q R : A → Type 0} → ((x : A) → P x → Q x → R x) → IfOk r P → IfOk r Q → IfOk r R
    both-ok (Ok x) f a b = f x a b
    both-ok (Err e) f a b = a

pub decided-rows : (trees : List Tree) (p : Problem) (r : Result Played PlayFault) → IsDecided p r → IfOk r (λ played. All (IsRowIn trees) played.won.entries)
decided-rows trees p r h = if-ok r (λ played none. subst (λ (rows : List Row). All (IsRowIn trees) rows) (sym none) (All-from_recursion (IsRowIn trees) [] tt)) h.none

pub decided-charged : (p : Problem) (r : Result Played PlayFault) (m : Metering) → IsDecided p r → HasCharged p 0 m → IfOk r (λ played. HasCharged p (length played.won.entries) m)
decided-charged p r m h charged = if-ok r (λ played none. subst (λ (rows : List Row). HasCharged p (length rows) m) (sym none) charged) h.none

pub decided-unspent : (r : Result Played PlayFault) (m : Metering) → OnErr r (r ≡ Err NoMemory) → IsSpentWhere r m
decided-unspent (Ok w) m h kind e = absurd (cc)
decided-unspent (Err f) m h kind e =
    let two : ◌≡◌ {A = Result Played PlayFault} (Err (Spent kind)) (Err NoMemory) = sym e ∙ h in
    absurd (cc)
