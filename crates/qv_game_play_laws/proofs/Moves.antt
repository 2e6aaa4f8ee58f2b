-- Moves: a forced entry, and one of the block's owner.
use Rattle.std.proofs.Common.{◌≡◌, ◌⊎◌, ℕ, zero, suc, ◌+◌, ◌<◌, ◌≤◌, ◌==◌, true, not, Some, List, [], ◌∷◌, length, map, slice_get, take, inl, inr, refl, sym, ap, ◌∙◌, subst, arith}
use Rattle.std.specs.Prelude.{IsSomeAnd}
use Rattle.std.specs.List.{All, AllByRecursion, AllZip}
use Rattle.std.proofs.lemmas.Bool.{cases_Bool, eq-eqb, eqb-true}
use Rattle.std.proofs.lemmas.List.{length-take}
use Rattle.std.proofs.lemmas.List.Elements.{All-from_recursion, recursion_from_All}
use Rattle.qv_words.specs.Sort.{IsValueOf, width_of}
use Rattle.qv_words.specs.Tree.{Tree}
use Rattle.qv_words.specs.Choice.{is_in, occurrences}
use Rattle.qv_words.specs.Prenex.{negation}
use Rattle.qv_words.specs.Problem.{Problem, Place}
use Rattle.qv_words.specs.Linked.{AreLinks, Entry, IsEntry, IsLink, IsLinked, IsRun, Run, blocks_of, linked_regions, places_below}
use Rattle.qv_words.specs.GameLaws.{IsPointOf}
use Rattle.qv_words.proofs.Elements.{all-both_weaker, to-some}
use Rattle.qv_circuits_laws.proofs.Clausing.{clauses-theorem}
use Rattle.qv_circuits_laws.proofs.Grounds.{clause-laws}
use Rattle.qv_game_laws.proofs.Steps.{Before, before}
use Rattle.qv_game_entry_laws.specs.BuildingLaws.{Deny, IsForcedBy, IsTaken}
use Rattle.qv_game_entry_laws.proofs.Failed.{none-where-failed}
use Rattle.qv_game_entry_laws.proofs.Forced.{forced-may-come}
use Rattle.qv_game_entry_laws.proofs.Linking.{last-region_is_linked, one-region_is_linked}
use Rattle.qv_game_entry_laws.proofs.Taken.{taken-may_come}
use Rattle.qv_game_entry_laws.specs.QueryLaws.{OccursIn}
use Rattle.qv_game_entry_laws.specs.PointLaws.{IsRunOf}
use Rattle.qv_meter.specs.Played.{IsFresh}
use Rattle.qv_meter.specs.Queries.{block_count, query_list}
use Rattle.qv_meter.proofs.Fresh.{linked}
use Rattle.qv_meter.proofs.Fresh.{longer as one-more}
use Rattle.qv_meter.proofs.Following.{settled-follows}
use Rattle.qv_meter.proofs.Linking.{all-links}
use Rattle.qv_game_play_laws.specs.PlayLaws.{forced_entry, sorts_below, ForcedIsPlayed, LeadsOn, OwnedIsPlayed}
use Rattle.qv_game_play_laws.proofs.Standing.{occurs-before, plain-of, standing, standing-over, standing-true}

-- a place that occurs in a formula occurs in what denies it
negation-has : (x : ℕ) (t : Tree) → is_in x (negation t) ≡ is_in x t
negation-has x t =
    let same : occurrences x t + 0 ≡ occurrences x t = omega arith in
    ap (λ (n : ℕ). not (n == 0)) same

denied-has : (x : ℕ) (f g : Tree) → Deny f g → is_in x f ≡ true → is_in x g ≡ true
denied-has x f g (inl is) h = sym (ap (is_in x) is ∙ negation-has x g) ∙ h
denied-has x f g (inr is) h = ap (is_in x) is ∙ negation-has x f ∙ h

occurs-there : (x : ℕ) (fs gs : List Tree) (k : ℕ) (f : Tree) → AllZip Deny fs gs → slice_get fs k ≡ Some f → is_in x f ≡ true → (g : Tree) × (k : ℕ) × (slice_get gs k ≡ Some g) × (is_in x g ≡ true)
occurs-there x [] gs k f h at has = absurd (cc)
occurs-there x (u ∷ fs) [] k f h at has = absurd h
occurs-there x (u ∷ fs) (g ∷ gs) zero f h at has = let same : u ≡ f = cc in (g, 0, refl, denied-has x u g h.0 (ap (is_in x) same ∙ has))
occurs-there x (u ∷ fs) (g ∷ gs) (suc k) f h at has = let more = occurs-there x fs gs k f h.1 at has in (more.0, suc more.1, more.2, more.3)

zip-count : {A B : Type 0} (R : A → B → Type 0) (xs : List A) (ys : List B) → AllZip R xs ys → length xs ≡ length ys
zip-count R [] [] h = refl
zip-count R [] (y ∷ ys) h = absurd h
zip-count R (x ∷ xs) [] h = absurd h
zip-count R (x ∷ xs) (y ∷ ys) h = ap suc (zip-count R xs ys h.1)

point-within : (p : Problem) (level : ℕ) (point : List ℕ) → IsPointOf p level point → length point ≤ places_below (blocks_of p.prefix) level
point-within p level point h =
    let n = places_below (blocks_of p.prefix) level in
    let same : length point ≡ length (take n p.prefix) = zip-count (λ v place. IsValueOf v place.sort) point (take n p.prefix) h in
    omega (arith, same, length-take n p.prefix)

taken-some : {X : Type 0} (P : X → Type 0) (xs : List X) (n i : ℕ) → IsSomeAnd (slice_get (take n xs) i) P → IsSomeAnd (slice_get xs i) P
taken-some P [] zero i h = h
taken-some P [] (suc n) i h = h
taken-some P (x ∷ xs) zero i h = absurd h
taken-some P (x ∷ xs) (suc n) zero h = h
taken-some P (x ∷ xs) (suc n) (suc i) h = taken-some P xs n i h

mapped-some : {X Y : Type 0} (f : X → Y) (P : Y → Type 0) (xs : List X) (i : ℕ) → IsSomeAnd (slice_get (map f xs) i) P → IsSomeAnd (slice_get xs i) (λ x. P (f x))
mapped-some f P [] i h = absurd h
mapped-some f P (x ∷ xs) zero h = h
mapped-some f P (x ∷ xs) (suc i) h = mapped-some f P xs i h

-- a run of the point's bits is one of the entry's
run-of : (p : Problem) (e : Entry) (formulas regions : List Tree) (r : Run) → IsPointOf p e.level e.point → AllZip Deny formulas regions → IsRunOf (sorts_below p (e.level + 1)) e.point r → OccursIn formulas r.place → IsRun p e regions r
run-of p e formulas regions r point denied h occurs =
    let low = point-within p e.level e.point point in
    let n = places_below (blocks_of p.prefix) (e.level + 1) in
    record {
      below = (let before = h.before in omega (arith, low, before));
      ordered = h.ordered;
      within = taken-some (λ place. r.high < width_of place.sort) p.prefix n r.place
          (mapped-some (λ (place : Place). place.sort) (λ s. r.high < width_of s) (take n p.prefix) r.place h.within);
      occurs = occurs-there r.place formulas regions occurs.1 occurs.0 denied occurs.2 occurs.3;
    }

pub forced-is_played : ForcedIsPlayed
forced-is_played p entries level winner block point runs core formulas h settled at other stands all none =
    let e = forced_entry p entries level winner point runs in
    let queries = query_list p entries winner (level + 1) in
    let is_linked : IsLinked p entries = linked p [] entries h.played in
    let links = all-links p entries e h.low h.high refl in
    let regions = linked_regions p entries e in
    let there = standing p entries e block formulas h.problem is_linked at links.0 links.1 stands in
    let plain = plain-of (Before p (before p (suc there.index))) queries there.of in
    let each : All (IsRun p e regions) runs = All-from_recursion (IsRun p e regions) runs
    (all-both_weaker (IsRunOf (sorts_below p (level + 1)) point) (λ r. OccursIn formulas r.place) (IsRun p e regions) runs
    (λ r a b. run-of p e queries regions r h.point_of links.1 a (occurs-before r.place formulas queries there.stand plain b))
    (recursion_from_All (IsRunOf (sorts_below p (level + 1)) point) runs all.each) (recursion_from_All (λ r. OccursIn formulas r.place) runs all.occurs)) in
    let by : IsForcedBy p entries e block runs queries = record {
      at_level = at;
      owner = other;
      links = links.0;
      denied = links.1;
      point = h.point_of;
      no_terms = refl;
      each = each;
      apart = all.apart;
      region = refl;
      none = λ point values typed of_block agree holds.
          none-where-failed (clauses-theorem clause-laws) p e block regions runs formulas core there.index there.level there.at (standing-over p e block formulas queries there) each all.assumed none
          point values typed of_block agree (standing-true p e block formulas queries there point values typed of_block holds);
    } in
    let entry : IsEntry p entries e = forced-may-come p entries e block runs queries h.problem is_linked by in
    let fresh : IsFresh p entries e = record { outside = h.outside; undecided = h.undecided; follows = settled-follows p entries e.links settled } in
    one-more p [] entries e h.played (entry, fresh)

-- the one link of an owner's entry
owned-links : (p : Problem) (entries : List Entry) (e : Entry) (later : Tree) → 1 ≤ e.level → e.level ≤ block_count p → LeadsOn p entries e.level e.winner e.links later → AreLinks p entries e × (linked_regions p entries e ≡ later ∷ [])
owned-links p entries e later low high h = elim (same-or_other e.level (block_count p)) [
  | inl is ↦
      let last = h.last is in (
        record {
          low = low;
          high = high;
          each = All-from_recursion (IsLink entries e) e.links (subst (AllByRecursion (IsLink entries e)) (sym last.0) tt);
          last = λ f. last.0;
        },
        last-region_is_linked p entries e is ∙ ap (λ (t : Tree). t ∷ []) (sym last.1),
      )
  | inr away ↦
      let one = h.linked away in (
        record {
          low = low;
          high = high;
          each = All-from_recursion (IsLink entries e) e.links
              (subst (AllByRecursion (IsLink entries e)) (sym one.2)
              (to-some (slice_get entries one.0) (λ (l : Entry). (l.winner ≡ e.winner) × (l.level ≡ e.level + 1)) one.1 one.3 (one.4, one.5), tt));
          last = λ f. absurd (away f);
        },
        one-region_is_linked p entries e one.0 one.1 away one.2 one.3 ∙ ap (λ (t : Tree). t ∷ []) (sym one.6),
      )
]
  where
    same-or_other : (a b : ℕ) → (a ≡ b) ⊎ (a ≡ b → ⊥)
    same-or_other a b = elim (cases_Bool (a == b)) [ inl y ↦ inl (eqb-true a b y) | inr n ↦ inr (λ e. let y : (a == b) ≡ true = eq-eqb a b e in absurd (cc)) ]

pub owned-is_played : OwnedIsPlayed
owned-is_played p entries level winner block point values later region terms links h follows at owner leads of_block holds chosen simplified =
    let e : Entry = record { level = level; winner = winner; region = region; point = point; terms = terms; links = links } in
    let is_linked : IsLinked p entries = linked p [] entries h.played in
    let to = owned-links p entries e later h.low h.high leads in
    let by : IsTaken p entries e block later values = record {
      at_level = at;
      owner = owner;
      links = to.0;
      linked = to.1;
      point = h.point_of;
      of_block = of_block;
      leads = holds;
      chosen = chosen;
      region = simplified;
    } in
    let entry : IsEntry p entries e = taken-may_come p entries e block later values h.problem is_linked by in
    let fresh : IsFresh p entries e = record { outside = h.outside; undecided = h.undecided; follows = follows } in
    one-more p [] entries e h.played (entry, fresh)
