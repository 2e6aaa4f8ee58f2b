-- One step of the game: from a point of an entry's region to a later region, by the entry's terms or by any values.
use Rattle.std.proofs.Common.{◌≡◌, ℕ, zero, suc, ◌+◌, ◌-◌, ◌<◌, ◌≤◌, ◌==◌, ◌⊎◌, inl, inr, Bool, true, false, cond, Some, None, Option, List, [], ◌∷◌, ◌++◌, map, refl, sym, ap, ◌∙◌, subst, slice_get, take, length, arith}
use Rattle.std.specs.Prelude.{IsSomeAnd}
use Rattle.std.specs.List.{AllByRecursion, AllZip}
use Rattle.std.proofs.lemmas.Bool.{eqb-true}
use Rattle.std.proofs.lemmas.List.Elements.{recursion_from_All, All-from_recursion}
use Rattle.std.proofs.lemmas.Option.{same_Some}
use Rattle.qv_words.specs.declared.sort.Sort.{Sort}
use Rattle.qv_words.specs.declared.sort.Sort.TheVariants.{Bool as BoolSort}
use Rattle.qv_words.specs.Sort.{IsValueOf}
use Rattle.qv_words.specs.Tree.{Tree}
use Rattle.qv_words.specs.Sorted.{HasValues, constants_of, free_levels}
use Rattle.qv_words.specs.Prenex.{negation}
use Rattle.qv_words.specs.Problem.{Problem, Place, Quantifier, Existential, Universal}
use Rattle.qv_words.specs.Linked.{Block, Entry, blocks_of, places_below, last_region, entries_named, linked_regions, IsLink, AreLinks, IsPlaceBelow, IsRegion, IsLinked}
use Rattle.qv_words.specs.GameLaws.{IsProblem}
use Rattle.qv_game_laws.proofs.Terms.{OfVariable, IsOver, IsOf, over-from_term, over-constants, over-leaves, each-leaf}
use Rattle.qv_game_laws.proofs.Each.{flat-blocks, each-entry}
use Rattle.qv_game_laws.proofs.Points.{below, below-is, below-next, below-last, IsPoint, point-longer, point-at, point-length, place-of}
use Rattle.qv_words.proofs.Elements.{found-at, some-and, get-taken}

-- how many places stand before a block, counted from 0
abbrev pub before : Problem → ℕ → ℕ
before p j = below (blocks_of p.prefix) j

-- a variable is one of the first places, of its sort
abbrev pub Before : Problem → ℕ → OfVariable
Before p n l s = IsPlaceBelow p n (l, s)

-- a point has a value of its sort for each such variable
pub point-values : (p : Problem) (n : ℕ) (point : List ℕ) → IsPoint p.prefix n point → (l : ℕ) (s : Sort) → Before p n l s → IsSomeAnd (slice_get point l) (λ v. IsValueOf v s)
point-values p n point typed l s h =
    let there = some-and (slice_get p.prefix l) (λ place. place.sort ≡ s) h.1 in
    let value = point-at p.prefix n point l there.0 typed h.0 there.1 in
    subst (λ (o : Option ℕ). IsSomeAnd o (λ v. IsValueOf v s)) (sym value.1) (subst (IsValueOf value.0) there.2 value.2)

pub longer : (p : Problem) (j : ℕ) (b : Block) (point values : List ℕ) → slice_get (blocks_of p.prefix) j ≡ Some b → IsPoint p.prefix (before p j) point → AllZip IsValueOf values b.sorts → IsPoint p.prefix (before p (suc j)) (point ++ values)
longer p j b point values at typed each =
    subst (λ (ps : List Place). IsPoint ps (before p (suc j)) (point ++ values)) (flat-blocks p.prefix)
    (point-longer (blocks_of p.prefix) j b point values at (subst (λ (ps : List Place). IsPoint ps (before p j) point) (sym (flat-blocks p.prefix)) typed) each)

pub typed-length : (p : Problem) (j : ℕ) (point : List ℕ) → IsPoint p.prefix (before p j) point → length point ≡ before p j
typed-length p j point typed = point-length (blocks_of p.prefix) j point (subst (λ (ps : List Place). IsPoint ps (before p j) point) (sym (flat-blocks p.prefix)) typed)

pub place-at : (p : Problem) (j : ℕ) (b : Block) (i : ℕ) (s : Sort) → slice_get (blocks_of p.prefix) j ≡ Some b → slice_get b.sorts i ≡ Some s → slice_get p.prefix (before p j + i) ≡ Some (record { quantifier = b.owner; sort = s })
place-at p j b i s at k = subst (λ (ps : List Place). slice_get ps (before p j + i) ≡ Some (record { quantifier = b.owner; sort = s })) (flat-blocks p.prefix) (place-of (blocks_of p.prefix) j b i s at k)

-- the places of a block by their numbers
pub covered : (p : Problem) (j : ℕ) (b : Block) → slice_get (blocks_of p.prefix) j ≡ Some b → (l : ℕ) → before p j ≤ l → l < before p (suc j) → (k : ℕ) × (s : Sort) × (l ≡ before p j + k) × (slice_get b.sorts k ≡ Some s)
covered p j b at l low high =
    let next = below-next (blocks_of p.prefix) j b at in
    let sort = found-at b.sorts (l - before p j) (omega (arith, low, high, next)) in
    (l - before p j, sort.0, omega (arith, low), sort.1)

-- and the sort of a variable of the block
pub covered-sort : (p : Problem) (j : ℕ) (b : Block) (l k : ℕ) (q s : Sort) → slice_get (blocks_of p.prefix) j ≡ Some b → Before p (before p (suc j)) l s → l ≡ before p j + k → slice_get b.sorts k ≡ Some q → q ≡ s
covered-sort p j b l k q s at h level sort = go (slice_get p.prefix l) (ap (slice_get p.prefix) level ∙ place-at p j b k q at sort) h.1
  where
    go : (o : Option Place) → o ≡ Some (record { quantifier = b.owner; sort = q }) → IsSomeAnd o (λ place. place.sort ≡ s) → q ≡ s
    go None is there = absurd there
    go (Some place) is there =
        let same : place ≡ record { quantifier = b.owner; sort = q } = same_Some place (record { quantifier = b.owner; sort = q }) is in
        sym (ap (λ (x : Place). x.sort) same) ∙ there

pub before-last : (p : Problem) → before p (length (blocks_of p.prefix)) ≡ length p.prefix
before-last p = below-last (blocks_of p.prefix) ∙ ap length (flat-blocks p.prefix)

abbrev pub IsIn : ℕ → List ℕ → Type 0
IsIn n [] = ⊥
IsIn n (m ∷ ms) = (n ≡ m) ⊎ IsIn n ms

-- what an entry leads to: the matrix or its negation at the last level, or the region of an entry that it is linked to
pub record IsEnd (p : Problem) (e : Entry) (t : Tree) : Type 0 where
  pub at : e.level ≡ length (blocks_of p.prefix)
  pub is : t ≡ last_region p e.winner

pub record IsLinkedTo (entries : List Entry) (e : Entry) (t : Tree) : Type 0 where
  pub number : ℕ
  pub entry : Entry
  pub link : IsIn number e.links
  pub at : slice_get entries number ≡ Some entry
  pub winner : entry.winner ≡ e.winner
  pub level : entry.level ≡ e.level + 1
  pub is : t ≡ entry.region

abbrev pub LeadsTo : Problem → List Entry → Entry → Tree → Type 0
LeadsTo p entries e t = IsEnd p e t ⊎ IsLinkedTo entries e t

named : (earlier : List Entry) (e : Entry) (links : List ℕ) (k : ℕ) (t : Tree) → AllByRecursion (IsLink earlier e) links → slice_get (map (λ l. l.region) (entries_named earlier links)) k ≡ Some t → (n : ℕ) × (l : Entry) × IsIn n links × (slice_get earlier n ≡ Some l) × (l.winner ≡ e.winner) × (l.level ≡ e.level + 1) × (t ≡ l.region)
named earlier e [] k t h at = absurd cc
named earlier e (n ∷ ns) k t h at =
    let there = some-and (slice_get earlier n) (λ l. (l.winner ≡ e.winner) × (l.level ≡ e.level + 1)) h.0 in
    go there.0 there.1 there.2.0 there.2.1 k (rw (there.1) at at) (λ i. named earlier e ns i t h.1)
  where
    go : (l : Entry) → slice_get earlier n ≡ Some l → l.winner ≡ e.winner → l.level ≡ e.level + 1 → (k : ℕ) → slice_get (l.region ∷ map (λ l. l.region) (entries_named earlier ns)) k ≡ Some t → ((i : ℕ) → slice_get (map (λ l. l.region) (entries_named earlier ns)) i ≡ Some t → (n : ℕ) × (l : Entry) × IsIn n ns × (slice_get earlier n ≡ Some l) × (l.winner ≡ e.winner) × (l.level ≡ e.level + 1) × (t ≡ l.region)) → (m : ℕ) × (l : Entry) × IsIn m (n ∷ ns) × (slice_get earlier m ≡ Some l) × (l.winner ≡ e.winner) × (l.level ≡ e.level + 1) × (t ≡ l.region)
    go l is winner level zero at rest = let same : t ≡ l.region = cc in (n, l, inl refl, is, winner, level, same)
    go l is winner level (suc k) at rest = let r = rest k at in (r.0, r.1, inr r.2, r.3, r.4, r.5, r.6)

pub leads-to : (p : Problem) (entries : List Entry) (m : ℕ) (e : Entry) (k : ℕ) (t : Tree) → AreLinks p (take m entries) e → slice_get (linked_regions p (take m entries) e) k ≡ Some t → LeadsTo p entries e t
leads-to p entries m e k t h = go (e.level == length (blocks_of p.prefix)) refl k
  where
    go : (b : Bool) → (e.level == length (blocks_of p.prefix)) ≡ b → (k : ℕ) → slice_get (cond b (last_region p e.winner ∷ []) (map (λ l. l.region) (entries_named (take m entries) e.links))) k ≡ Some t → LeadsTo p entries e t
    go true is zero at = let same : t ≡ last_region p e.winner = cc in inl (record { at = eqb-true e.level (length (blocks_of p.prefix)) is; is = same })
    go true is (suc k) at = absurd cc
    go false is k at =
        let r = named (take m entries) e e.links k t (recursion_from_All (IsLink (take m entries) e) e.links h.each) at in
        inr (record { number = r.0; entry = r.1; link = r.2; at = get-taken entries m r.0 r.1 r.3; winner = r.4; level = r.5; is = r.6 })

-- regions are formulas over the places before
pub negation-of : (P : OfVariable) (t : Tree) → IsOf P BoolSort t → IsOf P BoolSort (negation t)
negation-of P t h = (((h.0, tt), rw h.1 refl), rw h.1 refl)

pub matrix-of : (p : Problem) → IsProblem p → IsOf (Before p (length p.prefix)) BoolSort p.matrix
matrix-of p h = over-from_term (Before p (length p.prefix)) BoolSort p.matrix h.matrix (recursion_from_All (IsPlaceBelow p (length p.prefix)) (free_levels p.matrix) h.variables)

last-of : (p : Problem) → IsProblem p → (q : Quantifier) → IsOf (Before p (length p.prefix)) BoolSort (last_region p q)
last-of p h Existential = matrix-of p h
last-of p h Universal = negation-of (Before p (length p.prefix)) p.matrix (matrix-of p h)

pub region-of : (p : Problem) (e : Entry) (j : ℕ) → e.level ≡ suc j → IsRegion p e → IsOf (Before p (before p j)) BoolSort e.region
region-of p e j level h =
    subst (λ (n : ℕ). IsOf (Before p n) BoolSort e.region) (below-is (blocks_of p.prefix) e.level j level)
    (over-from_term (Before p (places_below (blocks_of p.prefix) e.level)) BoolSort e.region h.formula
    (recursion_from_All (IsPlaceBelow p (places_below (blocks_of p.prefix) e.level)) (free_levels e.region) h.variables))

pub later-of : (p : Problem) (entries : List Entry) (e : Entry) (j : ℕ) (t : Tree) → IsProblem p → IsLinked p entries → e.level ≡ suc j → LeadsTo p entries e t → IsOf (Before p (before p (suc j))) BoolSort t
later-of p entries e j t hp linked level (inl end) =
    let last : suc j ≡ length (blocks_of p.prefix) = sym level ∙ end.at in
    let whole : length p.prefix ≡ before p (suc j) = sym (ap (before p) last ∙ before-last p) in
    subst (IsOf (Before p (before p (suc j))) BoolSort) (sym end.is) (subst (λ (n : ℕ). IsOf (Before p n) BoolSort (last_region p e.winner)) whole (last-of p hp e.winner))
later-of p entries e j t hp linked level (inr to) =
    let next : to.entry.level ≡ suc (suc j) = let k = to.level in omega (arith, k, level) in
    subst (IsOf (Before p (before p (suc j))) BoolSort) (sym to.is) (region-of p to.entry (suc j) next (each-entry p entries to.number to.entry linked to.at).region)

-- values for the variables of a formula without constants
pub has-values : (P : OfVariable) (t : Tree) (e : ℕ → Option ℕ) → IsOver P t → ((l : ℕ) (s : Sort) → P l s → IsSomeAnd (e l) (λ v. IsValueOf v s)) → HasValues [] e t
has-values P t e h values = record {
  constants = All-from_recursion _ (constants_of t) (subst (AllByRecursion (λ leaf. IsSomeAnd (slice_get [] leaf.0) (λ v. IsValueOf v leaf.1))) (sym (over-constants P t h)) tt);
  levels = All-from_recursion _ (free_levels t) (each-leaf (λ leaf. IsSomeAnd (e leaf.0) (λ v. IsValueOf v leaf.1)) P values (free_levels t) (over-leaves P t h));
}
