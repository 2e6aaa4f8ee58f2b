-- Lists of terms for existential places, and such a list with one more block's terms.
use Rattle.std.proofs.Common.{◌≡◌, ℕ, zero, suc, ◌+◌, ◌<◌, ◌≤◌, ◌==◌, ◌⊎◌, ◌≢◌, inl, inr, Bool, true, false, cond, Some, None, Option, List, [], ◌∷◌, ◌++◌, refl, sym, ap, ◌∙◌, subst, slice_get, length, arith}
use Rattle.std.specs.Prelude.{IsSome, IsSomeAnd, MatchOption}
use Rattle.std.specs.List.{AllByRecursion, AllPairs}
use Rattle.std.proofs.lemmas.Bool.{eqb-true, eq-eqb, cases_lt, ne_eqb}
use Rattle.std.proofs.lemmas.List.Elements.{All-from_recursion}
use Rattle.std.proofs.lemmas.Option.{same_Some}
use Rattle.qv_words.specs.declared.sort.Sort.{Sort}
use Rattle.qv_words.specs.Tree.{Tree}
use Rattle.qv_words.specs.Replacement.{replaced}
use Rattle.qv_words.specs.Problem.{Problem, Place, Quantifier, Existential, Universal}
use Rattle.qv_words.specs.Skolem.{SkolemTerm, term_of, IsEarlierUniversal}
use Rattle.qv_words.specs.Linked.{Entry, chain_of, block_terms}
use Rattle.qv_words.proofs.Leaves.{both}
use Rattle.qv_game_laws.proofs.Terms.{OfVariable, IsOf, Puts, over-more}
use Rattle.qv_game_laws.proofs.Steps.{Before}
use Rattle.qv_words.proofs.Elements.{some-and, all-weaker}

-- a variable is a universal place before a place
abbrev pub Universals : Problem → ℕ → OfVariable
Universals p j l s = IsEarlierUniversal p j (l, s)

-- a term of an existential place over the universal places before it
pub record IsDrawn (p : Problem) (s : SkolemTerm) : Type 0 where
  pub stands : Place
  pub here : slice_get p.prefix s.place ≡ Some stands
  pub owner : stands.quantifier ≡ Existential
  pub term : IsOf (Universals p s.place) stands.sort s.term

pub term-drawn : (p : Problem) (ts : List SkolemTerm) (l : ℕ) (t : Tree) → AllByRecursion (IsDrawn p) ts → term_of ts l ≡ Some t → IsDrawn p (record { place = l; term = t })
term-drawn p [] l t h at = absurd cc
term-drawn p (s ∷ ts) l t h at = go (s.place == l) refl at (term-drawn p ts l t h.1)
  where
    go : (k : Bool) → (s.place == l) ≡ k → cond k (Some s.term) (term_of ts l) ≡ Some t → (term_of ts l ≡ Some t → IsDrawn p (record { place = l; term = t })) → IsDrawn p (record { place = l; term = t })
    go true is e rest =
        let same : s.term ≡ t = cc in
        subst (λ (u : Tree). IsDrawn p (record { place = l; term = u })) same (subst (λ (j : ℕ). IsDrawn p (record { place = j; term = s.term })) (eqb-true s.place l is) h.0)
    go false is e rest = rest e

pub term-behind : (ts : List SkolemTerm) (n l : ℕ) → AllByRecursion (λ s. s.place < n) ts → n ≤ l → term_of ts l ≡ None
term-behind [] n l h k = refl
term-behind (s ∷ ts) n l h k =
    let low = h.0 in
    ap (λ b. cond b (Some s.term) (term_of ts l)) (ne_eqb s.place l (λ e. omega (arith, e, low, k))) ∙ term-behind ts n l h.1 k

pub term-before : (ts : List SkolemTerm) (n l : ℕ) → AllByRecursion (λ s. n ≤ s.place) ts → l < n → term_of ts l ≡ None
term-before [] n l h k = refl
term-before (s ∷ ts) n l h k =
    let high = h.0 in
    ap (λ b. cond b (Some s.term) (term_of ts l)) (ne_eqb s.place l (λ e. omega (arith, e, high, k))) ∙ term-before ts n l h.1 k

pub append-some : (xs ys : List SkolemTerm) (l : ℕ) (t : Tree) → term_of xs l ≡ Some t → term_of (xs ++ ys) l ≡ Some t
append-some [] ys l t h = absurd cc
append-some (s ∷ xs) ys l t h = go (s.place == l) h (append-some xs ys l t)
  where
    go : (k : Bool) → cond k (Some s.term) (term_of xs l) ≡ Some t → (term_of xs l ≡ Some t → term_of (xs ++ ys) l ≡ Some t) → cond k (Some s.term) (term_of (xs ++ ys) l) ≡ Some t
    go true e rest = e
    go false e rest = rest e

pub append-none : (xs ys : List SkolemTerm) (l : ℕ) → term_of xs l ≡ None → term_of (xs ++ ys) l ≡ term_of ys l
append-none [] ys l h = refl
append-none (s ∷ xs) ys l h = go (s.place == l) h (append-none xs ys l)
  where
    go : (k : Bool) → cond k (Some s.term) (term_of xs l) ≡ None → (term_of xs l ≡ None → term_of (xs ++ ys) l ≡ term_of ys l) → cond k (Some s.term) (term_of (xs ++ ys) l) ≡ term_of ys l
    go true e rest = absurd cc
    go false e rest = rest e

-- no two have one place
abbrev pub AreSpread : List SkolemTerm → Type 0
AreSpread [] = Unit {0}
AreSpread (s ∷ ts) = AllByRecursion (λ t. s.place ≢ t.place) ts × AreSpread ts

spread-append : (n : ℕ) (xs ys : List SkolemTerm) → AreSpread xs → AreSpread ys → AllByRecursion (λ s. s.place < n) xs → AllByRecursion (λ t. n ≤ t.place) ys → AreSpread (xs ++ ys)
spread-append n [] ys g h low high = h
spread-append n (s ∷ xs) ys g h low high = (
  both (λ t. s.place ≢ t.place) xs ys g.0 (all-weaker (λ t. n ≤ t.place) (λ t. s.place ≢ t.place) ys (λ t k e. let less = low.0 in omega (arith, e, k, less)) high),
  spread-append n xs ys g.1 h low.1 high,
)

pub spread-pairs : (ts : List SkolemTerm) → AreSpread ts → AllPairs (λ s t. s.place ≢ t.place) ts
spread-pairs [] h i j d less inside = absurd (omega (arith, inside))
spread-pairs (s ∷ ts) h i zero d less inside = absurd (omega (arith, less))
spread-pairs (s ∷ ts) h zero (suc j) d less inside = All-from_recursion (λ t. s.place ≢ t.place) ts h.0 j d (omega (arith, inside))
spread-pairs (s ∷ ts) h (suc i) (suc j) d less inside = spread-pairs ts h.1 i j d (omega (arith, less)) (omega (arith, inside))

-- terms for the existential places among the first n
pub record AreSections (p : Problem) (n : ℕ) (ts : List SkolemTerm) : Type 0 where
  pub each : AllByRecursion (IsDrawn p) ts
  pub low : AllByRecursion (λ s. s.place < n) ts
  pub spread : AreSpread ts
  pub all : (l : ℕ) (place : Place) → slice_get p.prefix l ≡ Some place → l < n → place.quantifier ≡ Existential → IsSome (term_of ts l)

kinds : (q : Quantifier) → (q ≡ Existential) ⊎ (q ≡ Universal)
kinds Existential = inl refl
kinds Universal = inr refl

-- put in, they leave universal places alone
pub puts-sections : (p : Problem) (n m : ℕ) (ts : List SkolemTerm) → AreSections p n ts → n ≤ m → (l : ℕ) (s : Sort) → Before p n l s → Puts (Universals p m) (term_of ts) l s
puts-sections p n m ts h le l s k = go (term_of ts l) refl
  where
    there : (place : Place) × (slice_get p.prefix l ≡ Some place) × (place.sort ≡ s)
    there = some-and (slice_get p.prefix l) (λ place. place.sort ≡ s) k.1

    go : (o : Option Tree) → term_of ts l ≡ o → MatchOption o (Universals p m l s) (IsOf (Universals p m) s)
    go (Some t) is =
        let drawn = term-drawn p ts l t h.each is in
        let place : drawn.stands ≡ there.0 = same_Some _ _ (sym drawn.here ∙ there.1) in
        let sort : drawn.stands.sort ≡ s = ap (λ (q : Place). q.sort) place ∙ there.2 in
        let less = k.0 in
        subst (λ (q : Sort). IsOf (Universals p m) q t) sort (over-more (Universals p l) (Universals p m) (λ i r u. let low = u.0 in (omega (arith, low, less, le), u.1)) t drawn.term.0, drawn.term.1)
    go None is = elim (kinds there.0.quantifier) [
      | inl existential ↦ absurd (never (h.all l there.0 there.1 k.0 existential))
      | inr universal ↦ (let less = k.0 in omega (arith, less, le), subst (λ (o : Option Place). IsSomeAnd o (λ place. (place.quantifier ≡ Universal) × (place.sort ≡ s))) (sym there.1) (universal, there.2))
    ]
      where
        never : IsSome (term_of ts l) → ⊥
        never some = no (subst (λ (o : Option Tree). IsSome o) is some)
          where
            no : IsSome {T = Tree} None → ⊥
            no e = cc

-- the terms of one block
new-drawn : (p : Problem) (D : ℕ → Option Tree) (fs : List Entry) (n i : ℕ) (sorts : List Sort) → ((k m : ℕ) (s : Sort) → m ≡ i + k → slice_get sorts k ≡ Some s → IsDrawn p (record { place = n + m; term = replaced D (chain_of m fs) })) → AllByRecursion (IsDrawn p) (block_terms D fs n i sorts)
new-drawn p D fs n i [] h = tt
new-drawn p D fs n i (s ∷ sorts) h = (h 0 i s (omega arith) refl, new-drawn p D fs n (suc i) sorts (λ k m q e at. h (suc k) m q (omega (arith, e)) at))

pub new-bounds : (D : ℕ → Option Tree) (fs : List Entry) (n i : ℕ) (sorts : List Sort) → AllByRecursion (λ s. (n + i ≤ s.place) × (s.place < n + (i + length sorts))) (block_terms D fs n i sorts)
new-bounds D fs n i [] = tt
new-bounds D fs n i (s ∷ sorts) = (
  (omega arith, omega arith),
  all-weaker (λ s. (n + suc i ≤ s.place) × (s.place < n + (suc i + length sorts))) (λ s. (n + i ≤ s.place) × (s.place < n + (i + suc (length sorts)))) (block_terms D fs n (suc i) sorts) (λ s k. let a = k.0 in let b = k.1 in (omega (arith, a), omega (arith, b))) (new-bounds D fs n (suc i) sorts),
)

new-spread : (D : ℕ → Option Tree) (fs : List Entry) (n i : ℕ) (sorts : List Sort) → AreSpread (block_terms D fs n i sorts)
new-spread D fs n i [] = tt
new-spread D fs n i (s ∷ sorts) = (
  all-weaker (λ s. (n + suc i ≤ s.place) × (s.place < n + (suc i + length sorts))) (λ s. n + i ≢ s.place) (block_terms D fs n (suc i) sorts) (λ s k e. let a = k.0 in omega (arith, a, e)) (new-bounds D fs n (suc i) sorts),
  new-spread D fs n (suc i) sorts,
)

pub new-at : (D : ℕ → Option Tree) (fs : List Entry) (n i : ℕ) (sorts : List Sort) (k m : ℕ) (s : Sort) → m ≡ i + k → slice_get sorts k ≡ Some s → term_of (block_terms D fs n i sorts) (n + m) ≡ Some (replaced D (chain_of m fs))
new-at D fs n i [] k m s e at = absurd cc
new-at D fs n i (q ∷ sorts) zero m s e at =
    let same : i ≡ m = omega (arith, e) in
    ap (λ b. cond b (Some (replaced D (chain_of i fs))) (term_of (block_terms D fs n (suc i) sorts) (n + m))) (eq-eqb (n + i) (n + m) (ap (λ x. n + x) same))
    ∙ ap (λ x. Some (replaced D (chain_of x fs))) same
new-at D fs n i (q ∷ sorts) (suc k) m s e at =
    ap (λ b. cond b (Some (replaced D (chain_of i fs))) (term_of (block_terms D fs n (suc i) sorts) (n + m))) (ne_eqb (n + i) (n + m) (λ h. omega (arith, h, e)))
    ∙ new-at D fs n (suc i) sorts k m s (omega (arith, e)) at

-- one more existential block
pub sections-more : (p : Problem) (n N : ℕ) (sorts : List Sort) (fs : List Entry) (ts : List SkolemTerm) → AreSections p n ts → N ≡ n + length sorts → ((l : ℕ) → n ≤ l → l < N → (k : ℕ) × (s : Sort) × (l ≡ n + k) × (slice_get sorts k ≡ Some s)) → ((k : ℕ) (s : Sort) → slice_get sorts k ≡ Some s → IsDrawn p (record { place = n + k; term = replaced (term_of ts) (chain_of k fs) })) → AreSections p N (ts ++ block_terms (term_of ts) fs n 0 sorts)
sections-more p n N sorts fs ts h size covers drawn =
    let new = block_terms (term_of ts) fs n 0 sorts in
    let bounds = new-bounds (term_of ts) fs n 0 sorts in
    let high = all-weaker (λ s. (n + 0 ≤ s.place) × (s.place < n + (0 + length sorts))) (λ s. n ≤ s.place) new (λ s k. let a = k.0 in omega (arith, a)) bounds in
    record {
      each = both (IsDrawn p) ts new h.each (new-drawn p (term_of ts) fs n 0 sorts (λ k m s e at. let same : k ≡ m = omega (arith, e) in subst (λ (x : ℕ). IsDrawn p (record { place = n + x; term = replaced (term_of ts) (chain_of x fs) })) same (drawn k s at)));
      low = both (λ s. s.place < N) ts new (all-weaker (λ s. s.place < n) (λ s. s.place < N) ts (λ s k. omega (arith, k, size)) h.low) (all-weaker (λ s. (n + 0 ≤ s.place) × (s.place < n + (0 + length sorts))) (λ s. s.place < N) new (λ s k. let b = k.1 in omega (arith, b, size)) bounds);
      spread = spread-append n ts new h.spread (new-spread (term_of ts) fs n 0 sorts) h.low high;
      all = λ l place at less existential. all l place at less existential (term_of ts l) refl;
    }
  where
    all : (l : ℕ) (place : Place) → slice_get p.prefix l ≡ Some place → l < N → place.quantifier ≡ Existential → (o : Option Tree) → term_of ts l ≡ o → IsSome (term_of (ts ++ block_terms (term_of ts) fs n 0 sorts) l)
    all l place at less existential (Some t) is = subst (λ (o : Option Tree). IsSome o) (sym (append-some ts (block_terms (term_of ts) fs n 0 sorts) l t is)) refl
    all l place at less existential None is = elim (cases_lt l n) [
      | inl low ↦ absurd (never (subst (λ (o : Option Tree). IsSome o) is (h.all l place at low existential)))
      | inr high ↦ (
          let k = covers l high less in
          let found = append-none ts (block_terms (term_of ts) fs n 0 sorts) l is ∙ ap (term_of (block_terms (term_of ts) fs n 0 sorts)) k.2 ∙ new-at (term_of ts) fs n 0 sorts k.0 k.0 k.1 (omega arith) k.3 in
          subst (λ (o : Option Tree). IsSome o) (sym found) refl
          )
    ]
      where
        never : IsSome {T = Tree} None → ⊥
        never e = cc
