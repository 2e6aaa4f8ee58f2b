-- Where the existential player has won, the chain is a Skolem section and its goal is true for no values.
use Rattle.std.proofs.Common.{◌≡◌, ℕ, inl, inr, Some, None, Option, List, [], ◌∷◌, refl, sym, ap, subst, slice_get, length, arith}
use Rattle.std.specs.Prelude.{IsSome, IsSomeAnd}
use Rattle.std.specs.List.{AllByRecursion}
use Rattle.std.proofs.lemmas.Option.{slice_get_within}
use Rattle.std.proofs.lemmas.List.Elements.{recursion_from_All, All-from_recursion}
use Rattle.qv_words.specs.declared.sort.Sort.{Sort}
use Rattle.qv_words.specs.declared.sort.Sort.TheVariants.{Bool as BoolSort}
use Rattle.qv_words.specs.Sort.{IsValueOf}
use Rattle.qv_words.specs.Tree.{Tree}
use Rattle.qv_words.specs.Sorted.{HasValues, free_levels, no_levels}
use Rattle.qv_words.specs.Meaning.{Means}
use Rattle.qv_words.specs.Replacement.{replaced}
use Rattle.qv_words.specs.Prenex.{negation}
use Rattle.qv_words.specs.Problem.{Problem, Place, Quantifier, Existential, Universal}
use Rattle.qv_words.specs.Choice.{IsTrueAt}
use Rattle.qv_words.specs.Skolem.{SkolemTerm, term_of, IsTermOf, IsSkolemTerm, IsEarlierUniversal, SkolemOk, goal_of}
use Rattle.qv_words.specs.Linked.{Entry, blocks_of, entries_of, chain, HoldsFirst, IsLinked}
use Rattle.qv_words.specs.GameLaws.{IsProblem, HasWon}
use Rattle.qv_game_laws.specs.WinningLaws.{ChainTheorem}
use Rattle.qv_words.proofs.Leaves.{front}
use Rattle.qv_words.proofs.Unique.{one_meaning}
use Rattle.qv_words.proofs.Winning.{under-same}
use Rattle.qv_game_laws.proofs.Terms.{OfVariable, IsOver, IsOf, EachLeaf, over-from, over-sorted, over-free, over-constants, over-leaves, over-agree, put-of, put-means, term-from_over}
use Rattle.qv_game_laws.proofs.Fitting.{fitting, fitting-of, fitting-same, both-leaves}
use Rattle.qv_game_laws.proofs.Each.{each-entry}
use Rattle.qv_game_laws.proofs.Points.{below-is, IsPoint}
use Rattle.qv_game_laws.proofs.Steps.{before, Before, before-last, matrix-of}
use Rattle.qv_game_laws.proofs.RegionTheorem.{negation-false}
use Rattle.qv_game_laws.proofs.ChainTerms.{IsNumbered, numbered, zero-one}
use Rattle.qv_game_laws.proofs.ChainSections.{Universals, IsDrawn, AreSections, spread-pairs, puts-sections}
use Rattle.qv_game_laws.proofs.ChainRun.{IsInEntry, Stands, AreValuesOf, Played, run}
use Rattle.qv_words.proofs.Elements.{some-and}

-- an entry of level 1 has the point without values
pub at-start : (p : Problem) (entries : List Entry) (n : ℕ) (e : Entry) → IsLinked p entries → slice_get entries n ≡ Some e → e.level ≡ 1 → IsTrueAt [] e.region
at-start p entries n e linked here level =
    let region = (each-entry p entries n e linked here).region in
    let typed : IsPoint p.prefix 0 e.point = subst (λ (k : ℕ). IsPoint p.prefix k e.point) (below-is (blocks_of p.prefix) e.level 0 level) region.point in
    subst (λ (q : List ℕ). IsTrueAt q e.region) (empty p.prefix e.point typed) region.holds
  where
    empty : (ps : List Place) (point : List ℕ) → IsPoint ps 0 point → point ≡ []
    empty ps [] h = refl
    empty ps (v ∷ vs) h = absurd h

pub first-entry : (p : Problem) (entries : List Entry) (q : Quantifier) → IsLinked p entries → HoldsFirst q entries → IsInEntry p entries q 0 []
first-entry p entries q linked h = go (entries_of 1 q entries) (numbered entries 1 q) h
  where
    go : (fs : List Entry) → AllByRecursion (IsNumbered entries 1 q) fs → IsSome (slice_get fs 0) → IsInEntry p entries q 0 []
    go [] each some = absurd (never some)
      where
        never : IsSome {T = Entry} None → ⊥
        never e = cc
    go (f ∷ fs) each some = record { number = each.0.number; entry = f; here = each.0.here; winner = each.0.winner; level = each.0.level; holds = at-start p entries each.0.number f linked each.0.here each.0.level }

start : (p : Problem) (entries : List Entry) (w : ℕ → Option ℕ) → IsLinked p entries → HasWon p Existential entries → Played p entries w 0 []
start p entries w linked won = record {
  sections = record { each = tt; low = tt; spread = tt; all = λ l place at less existential. absurd (omega (arith, less)) };
  point = [];
  typed = tt;
  agrees = λ l s k. let less = k.0 in absurd (omega (arith, less));
  stands = by-win won;
}
  where
    by-win : HasWon p Existential entries → Stands p entries Existential 0 []
    by-win (inl first) = inl (first-entry p entries Existential linked first)
    by-win (inr none) =
        inr (sym (ap (λ (ps : List Place). length (blocks_of ps)) none.0), under-same p.matrix no_levels (slice_get []) 1 (λ l. refl) none.2)

-- any map with values in the places' sorts where it has none
completed-at : Option Place → Option ℕ → Option ℕ
completed-at None o = None
completed-at (Some place) o = Some (fitting o place.sort)

completed : Problem → (ℕ → Option ℕ) → ℕ → Option ℕ
completed p e l = completed-at (slice_get p.prefix l) (e l)

completed-values : (p : Problem) (e : ℕ → Option ℕ) → AreValuesOf p (completed p e)
unfolding completed completed-at
completed-values p e l s h = go (slice_get p.prefix l) h.1
  where
    go : (o : Option Place) → IsSomeAnd o (λ place. place.sort ≡ s) → IsSomeAnd (completed-at o (e l)) (λ v. IsValueOf v s)
    go None k = absurd k
    go (Some place) k = subst (IsValueOf (fitting (e l) place.sort)) k (fitting-of (e l) place.sort)

completed-same : (p : Problem) (e : ℕ → Option ℕ) (l : ℕ) (s : Sort) → IsSomeAnd (slice_get p.prefix l) (λ place. place.sort ≡ s) → IsSomeAnd (e l) (λ v. IsValueOf v s) → e l ≡ completed p e l
unfolding completed completed-at
completed-same p e l s h k = go (slice_get p.prefix l) h
  where
    go : (o : Option Place) → IsSomeAnd o (λ place. place.sort ≡ s) → e l ≡ completed-at o (e l)
    go None at = absurd at
    go (Some place) at = fitting-same (e l) place.sort (subst (λ (q : Sort). IsSomeAnd (e l) (λ v. IsValueOf v q)) (sym at) k)

-- the play under any values ends where the matrix is true
played : (p : Problem) (entries : List Entry) (w : ℕ → Option ℕ) → IsProblem p → IsLinked p entries → HasWon p Existential entries → AreValuesOf p w → Played p entries w (length (blocks_of p.prefix)) (chain p entries)
unfolding chain
played p entries w hp linked won values = run p entries w hp linked values (blocks_of p.prefix) 0 0 [] refl refl (start p entries w linked won)

-- in the words of the definitions
skolem-term : (p : Problem) (s : SkolemTerm) → IsDrawn p s → IsSkolemTerm p s
skolem-term p s h = (
  subst (λ (o : Option Place). IsSomeAnd o (λ place. (place.quantifier ≡ Existential) × IsTermOf s.term place.sort)) (sym h.here) (h.owner, term-from_over (Universals p s.place) h.stands.sort s.term h.term),
  All-from_recursion (IsEarlierUniversal p s.place) (free_levels s.term) (over-leaves (Universals p s.place) s.term h.term.0),
)

skolem-terms : (p : Problem) (ts : List SkolemTerm) → AllByRecursion (IsDrawn p) ts → AllByRecursion (IsSkolemTerm p) ts
skolem-terms p [] h = tt
skolem-terms p (t ∷ ts) h = (skolem-term p t h.0, skolem-terms p ts h.1)

skolem-ok : (p : Problem) (n : ℕ) (ts : List SkolemTerm) → n ≡ length p.prefix → AreSections p n ts → SkolemOk p ts
skolem-ok p n ts whole h = record {
  each = All-from_recursion (IsSkolemTerm p) ts (skolem-terms p ts h.each);
  once = spread-pairs ts h.spread;
  all = λ j k.
      let there = some-and (slice_get p.prefix j) (λ place. place.quantifier ≡ Existential) k in
      let inside = slice_get_within p.prefix j there.0 there.1 in
      h.all j there.0 there.1 (omega (arith, inside, whole)) there.2;
}

-- a formula whose variables have values under e means the same where e is completed
completed-means : (p : Problem) (n : ℕ) (t : Tree) (e : ℕ → Option ℕ) (v : ℕ) → IsOver (Universals p n) t → EachLeaf (λ l s. IsSomeAnd (e l) (λ u. IsValueOf u s)) (free_levels t) → Means [] e t v → Means [] (completed p e) t v
completed-means p n t e v h values m =
    let P : OfVariable = λ l s. Universals p n l s × IsSomeAnd (e l) (λ u. IsValueOf u s) in
    let over = over-from P t (over-sorted (Universals p n) t h) (over-free (Universals p n) t h) (over-constants (Universals p n) t h) (both-leaves (Universals p n) (λ l s. IsSomeAnd (e l) (λ u. IsValueOf u s)) (free_levels t) (over-leaves (Universals p n) t h) values) in
    over-agree P t e (completed p e) v over (λ l s k.
    let there = some-and (slice_get p.prefix l) (λ place. (place.quantifier ≡ Universal) × (place.sort ≡ s)) k.0.1 in
    completed-same p e l s (subst (λ (o : Option Place). IsSomeAnd o (λ place. place.sort ≡ s)) (sym there.1) there.2.1) k.1) m

pub chain-theorem : ChainTheorem
chain-theorem p entries hp linked won = (
  skolem-ok p (before p (length (blocks_of p.prefix))) (chain p entries) (before-last p) (played p entries (completed p no_levels) hp linked won (completed-values p no_levels)).sections,
  λ e there means. lost e there means (played p entries (completed p e) hp linked won (completed-values p e)),
)
  where
    lost : (e : ℕ → Option ℕ) → HasValues [] e (goal_of p (chain p entries)) → Means [] e (goal_of p (chain p entries)) 1 → Played p entries (completed p e) (length (blocks_of p.prefix)) (chain p entries) → ⊥
    lost e there means h =
        let n = before p (length (blocks_of p.prefix)) in
        let t : Tree = replaced (term_of (chain p entries)) p.matrix in
        let matrix : IsOf (Before p (before p (length (blocks_of p.prefix)))) BoolSort p.matrix = subst (λ (k : ℕ). IsOf (Before p k) BoolSort p.matrix) (sym (before-last p)) (matrix-of p hp) in
        let put = put-of (Before p n) (Universals p n) (term_of (chain p entries)) BoolSort p.matrix (puts-sections p n n (chain p entries) h.sections (omega arith)) matrix in
        let one = put-means (Before p n) (term_of (chain p entries)) (completed p e) (slice_get h.point) p.matrix 1 matrix.0 h.agrees (ends h.stands) in
        let leaves = front (λ leaf. IsSomeAnd (e leaf.0) (λ u. IsValueOf u leaf.1)) (free_levels t) [] (recursion_from_All (λ leaf. IsSomeAnd (e leaf.0) (λ u. IsValueOf u leaf.1)) (free_levels (negation t)) there.levels) in
        let none = completed-means p n t e 0 put.0 leaves (negation-false e t means) in
        zero-one (one_meaning t [] (completed p e) 0 1 none one)
      where
        ends : Stands p entries Existential (length (blocks_of p.prefix)) h.point → Means [] (slice_get h.point) p.matrix 1
        ends (inr end) = end.1
        ends (inl x) =
            let high = (each-entry p entries x.number x.entry linked x.here).links.high in
            let level = x.level in
            absurd (omega (arith, high, level))
