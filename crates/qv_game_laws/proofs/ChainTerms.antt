-- The terms of one existential block: by the first region that holds, its entry's terms.
use Rattle.std.proofs.Common.{◌≡◌, ℕ, zero, suc, ◌==◌, ◌&&◌, ◌⊎◌, inl, inr, Bool, true, false, cond, Some, Option, List, [], ◌∷◌, refl, sym, ap, ◌∙◌, subst, slice_get, arith}
use Rattle.std.specs.Prelude.{unwrap_or}
use Rattle.std.specs.List.{AllByRecursion}
use Rattle.std.proofs.lemmas.Bool.{eqb-true, eq-eqb}
use Rattle.qv_words.specs.declared.sort.Sort.{Sort}
use Rattle.qv_words.specs.declared.sort.Sort.TheVariants.{Bool as BoolSort}
use Rattle.qv_words.specs.Tree.{Tree, Literal, tree_sort}
use Rattle.qv_words.specs.Meaning.{Means}
use Rattle.qv_words.specs.Prenex.{ite}
use Rattle.qv_words.specs.Problem.{Problem, Quantifier, Existential, Universal}
use Rattle.qv_words.specs.Choice.{IsTrueAt}
use Rattle.qv_words.specs.Linked.{Block, Entry, blocks_of, same_quantifier, is_of, entries_of, term_at, chain_of, IsLinked}
use Rattle.qv_words.specs.GameLaws.{IsProblem}
use Rattle.qv_words.proofs.Unique.{one_meaning}
use Rattle.qv_words.proofs.Existing.{one_or_zero}
use Rattle.qv_game_laws.proofs.Terms.{OfVariable, IsOf, over-means}
use Rattle.qv_game_laws.proofs.Each.{same-quantifier}
use Rattle.qv_game_laws.proofs.Points.{IsPoint}
use Rattle.qv_game_laws.proofs.Steps.{before, Before, point-values}
use Rattle.qv_game_laws.proofs.StepLaws.{OwnerSteps, AreTermsBefore, owner-at, region-at}
use Rattle.qv_words.proofs.Elements.{zip-at}
use Rattle.qv_words.proofs.Equals.{sort_eq-refl}

-- the entries of a level and winner, by their numbers
pub record IsNumbered (entries : List Entry) (k : ℕ) (q : Quantifier) (f : Entry) : Type 0 where
  pub number : ℕ
  pub here : slice_get entries number ≡ Some f
  pub level : f.level ≡ k
  pub winner : f.winner ≡ q

kept : (entries : List Entry) (level : ℕ) (q : Quantifier) (fs : List Entry) → AllByRecursion (λ f. (n : ℕ) × (slice_get entries n ≡ Some f)) fs → AllByRecursion (IsNumbered entries level q) (entries_of level q fs)
kept entries level q [] h = tt
kept entries level q (f ∷ fs) h = go (f.level == level) (same_quantifier f.winner q) refl refl (kept entries level q fs h.1)
  where
    go : (a b : Bool) → (f.level == level) ≡ a → same_quantifier f.winner q ≡ b → AllByRecursion (IsNumbered entries level q) (entries_of level q fs) → AllByRecursion (IsNumbered entries level q) (cond (a && b) (f ∷ entries_of level q fs) (entries_of level q fs))
    go true true at own rest = (record { number = h.0.0; here = h.0.1; level = eqb-true f.level level at; winner = same-quantifier f.winner q own }, rest)
    go true false at own rest = rest
    go false b at own rest = rest

pub all-numbered : (entries : List Entry) → AllByRecursion (λ f. (n : ℕ) × (slice_get entries n ≡ Some f)) entries
all-numbered entries = from entries (λ n f at. (n, at))
  where
    from : (fs : List Entry) → ((n : ℕ) (f : Entry) → slice_get fs n ≡ Some f → (m : ℕ) × (slice_get entries m ≡ Some f)) → AllByRecursion (λ f. (m : ℕ) × (slice_get entries m ≡ Some f)) fs
    from [] k = tt
    from (f ∷ fs) k = (k 0 f refl, from fs (λ n g at. k (suc n) g at))

pub numbered : (entries : List Entry) (level : ℕ) (q : Quantifier) → AllByRecursion (IsNumbered entries level q) (entries_of level q entries)
numbered entries level q = kept entries level q entries (all-numbered entries)

-- an entry of the level is among them
abbrev pub IsAmong : Entry → List Entry → Type 0
IsAmong e [] = ⊥
IsAmong e (f ∷ fs) = (e ≡ f) ⊎ IsAmong e fs

pub among-kept : (level : ℕ) (q : Quantifier) (fs : List Entry) (n : ℕ) (e : Entry) → slice_get fs n ≡ Some e → e.level ≡ level → e.winner ≡ q → IsAmong e (entries_of level q fs)
among-kept level q [] n e at h k = absurd cc
among-kept level q (f ∷ fs) zero e at h k =
    let same : f ≡ e = cc in
    let yes : is_of level q f ≡ true = ap (is_of level q) same ∙ ap (λ b. b && same_quantifier e.winner q) (eq-eqb e.level level h) ∙ ap (λ r. same_quantifier r q) k ∙ itself q in
    subst (λ (b : Bool). IsAmong e (cond b (f ∷ entries_of level q fs) (entries_of level q fs))) (sym yes) (inl (sym same))
  where
    itself : (q : Quantifier) → same_quantifier q q ≡ true
    itself Existential = refl
    itself Universal = refl
among-kept level q (f ∷ fs) (suc n) e at h k = go (is_of level q f) (among-kept level q fs n e at h k)
  where
    go : (b : Bool) → IsAmong e (entries_of level q fs) → IsAmong e (cond b (f ∷ entries_of level q fs) (entries_of level q fs))
    go true r = inr r
    go false r = r

-- what is known of each entry of an existential block's level
pub record IsStage (p : Problem) (entries : List Entry) (j : ℕ) (b : Block) (f : Entry) : Type 0 where
  pub region : IsOf (Before p (before p j)) BoolSort f.region
  pub owner : OwnerSteps p entries f (before p j) b
  pub level : f.level ≡ suc j
  pub winner : f.winner ≡ Existential

pub stages : (p : Problem) (entries : List Entry) (j : ℕ) (b : Block) → IsProblem p → IsLinked p entries → slice_get (blocks_of p.prefix) j ≡ Some b → b.owner ≡ Existential → (fs : List Entry) → AllByRecursion (IsNumbered entries (suc j) Existential) fs → AllByRecursion (IsStage p entries j b) fs
stages p entries j b hp linked at owner [] h = tt
stages p entries j b hp linked at owner (f ∷ fs) h = (
  record { region = region-at p entries h.0.number f j b hp linked h.0.here h.0.level at; owner = owner-at p entries h.0.number f j b Existential hp linked h.0.here h.0.level at h.0.winner owner; level = h.0.level; winner = h.0.winner },
  stages p entries j b hp linked at owner fs h.1,
)

-- a choice
ite-of : (P : OfVariable) (s : Sort) (c a b : Tree) → IsOf P BoolSort c → IsOf P s a → IsOf P s b → IsOf P s (ite c a b)
ite-of P s c a b hc ha hb =
    let sort : tree_sort (ite c a b) ≡ Some s = rw (hc.1, ha.1, hb.1, sort_eq-refl s) refl in
    (((hc.0, (ha.0, (hb.0, tt))), rw sort refl), sort)

ite-means : (e : ℕ → Option ℕ) (s : Sort) (c a b : Tree) (x y z : ℕ) → tree_sort c ≡ Some BoolSort → tree_sort a ≡ Some s → tree_sort b ≡ Some s → Means [] e c x → Means [] e a y → Means [] e b z → Means [] e (ite c a b) (cond (x == 1) y z)
ite-means e s c a b x y z hc ha hb mc ma mb = (BoolSort ∷ s ∷ s ∷ [], x ∷ y ∷ z ∷ [], rw (hc, ha, hb) refl, (x, y ∷ z ∷ [], mc, (y, z ∷ [], ma, (z, [], mb, refl, refl), refl), refl), refl)

-- the term of an entry at a place
term-is : (p : Problem) (n : ℕ) (f : Entry) (sorts : List Sort) (i : ℕ) (s : Sort) → AreTermsBefore p n f.terms sorts → slice_get sorts i ≡ Some s → IsOf (Before p n) s (term_at i f)
term-is p n f sorts i s each at =
    let there = zip-at (λ t q. IsOf (Before p n) q t) f.terms sorts i s each at in
    subst (λ (o : Option Tree). IsOf (Before p n) s (unwrap_or o (Literal BoolSort 0))) (sym there.1) there.2

pub chain-is : (p : Problem) (entries : List Entry) (j : ℕ) (b : Block) (f : Entry) (fs : List Entry) (i : ℕ) (s : Sort) → AllByRecursion (IsStage p entries j b) (f ∷ fs) → slice_get b.sorts i ≡ Some s → IsOf (Before p (before p j)) s (chain_of i (f ∷ fs))
unfolding chain_of
chain-is p entries j b f [] i s each at = term-is p (before p j) f b.sorts i s each.0.owner.terms at
chain-is p entries j b f (g ∷ fs) i s each at =
    ite-of (Before p (before p j)) s f.region (term_at i f) (chain_of i (g ∷ fs)) each.0.region (term-is p (before p j) f b.sorts i s each.0.owner.terms at)
    (chain-is p entries j b g fs i s each.1 at)

pub zero-one : ◌≡◌ {A = ℕ} 0 1 → ⊥
zero-one h = omega (arith, h)

-- the entry whose terms the chain has at a point
pub record Leads (p : Problem) (entries : List Entry) (j : ℕ) (b : Block) (point : List ℕ) (fs : List Entry) : Type 0 where
  pub entry : Entry
  pub among : IsAmong entry fs
  pub stage : IsStage p entries j b entry
  pub holds : IsTrueAt point entry.region
  pub means : (i : ℕ) (s : Sort) (v : ℕ) → slice_get b.sorts i ≡ Some s → Means [] (slice_get point) (term_at i entry) v → Means [] (slice_get point) (chain_of i fs) v

pub leading : (p : Problem) (entries : List Entry) (j : ℕ) (b : Block) (point : List ℕ) (fs : List Entry) (e : Entry) → IsPoint p.prefix (before p j) point → AllByRecursion (IsStage p entries j b) fs → IsAmong e fs → IsTrueAt point e.region → Leads p entries j b point fs
unfolding chain_of
leading p entries j b point [] e typed each among holds = absurd among
leading p entries j b point (f ∷ []) e typed each (inl same) holds = record { entry = f; among = inl refl; stage = each.0; holds = subst (λ (g : Entry). IsTrueAt point g.region) same holds; means = λ i s v at m. m }
leading p entries j b point (f ∷ []) e typed each (inr none) holds = absurd none
leading p entries j b point (f ∷ g ∷ fs) e typed each among holds =
    let value = over-means (Before p (before p j)) BoolSort f.region (slice_get point) each.0.region (point-values p (before p j) point typed) in
    go (one_or_zero (Means [] (slice_get point) f.region) value.0 value.1 value.2) (λ k. leading p entries j b point (g ∷ fs) e typed each.1 k holds) among
  where
    some-rest : (i : ℕ) (s : Sort) → slice_get b.sorts i ≡ Some s → (v : ℕ) × Means [] (slice_get point) (chain_of i (g ∷ fs)) v
    some-rest i s at =
        let m = over-means (Before p (before p j)) s (chain_of i (g ∷ fs)) (slice_get point) (chain-is p entries j b g fs i s each.1 at) (point-values p (before p j) point typed) in
        (m.0, m.2)

    some-first : (i : ℕ) (s : Sort) → slice_get b.sorts i ≡ Some s → (v : ℕ) × Means [] (slice_get point) (term_at i f) v
    some-first i s at =
        let m = over-means (Before p (before p j)) s (term_at i f) (slice_get point) (term-is p (before p j) f b.sorts i s each.0.owner.terms at) (point-values p (before p j) point typed) in
        (m.0, m.2)

    sorts-are : (i : ℕ) (s : Sort) → slice_get b.sorts i ≡ Some s → (tree_sort (term_at i f) ≡ Some s) × (tree_sort (chain_of i (g ∷ fs)) ≡ Some s)
    sorts-are i s at = ((term-is p (before p j) f b.sorts i s each.0.owner.terms at).1, (chain-is p entries j b g fs i s each.1 at).1)

    go : Means [] (slice_get point) f.region 1 ⊎ Means [] (slice_get point) f.region 0 → (IsAmong e (g ∷ fs) → Leads p entries j b point (g ∷ fs)) → IsAmong e (f ∷ g ∷ fs) → Leads p entries j b point (f ∷ g ∷ fs)
    go (inl one) rest among = record {
      entry = f;
      among = inl refl;
      stage = each.0;
      holds = one;
      means = λ i s v at m.
          let r = some-rest i s at in
          let k = sorts-are i s at in
          ite-means (slice_get point) s f.region (term_at i f) (chain_of i (g ∷ fs)) 1 v r.0 each.0.region.1 k.0 k.1 one m r.1;
    }
    go (inr none) rest (inl same) =
        let one : Means [] (slice_get point) f.region 1 = subst (λ (g : Entry). IsTrueAt point g.region) same holds in
        absurd (zero-one (one_meaning f.region [] (slice_get point) 0 1 none one))
    go (inr none) rest (inr among) =
        let lead = rest among in
        record {
          entry = lead.entry;
          among = inr lead.among;
          stage = lead.stage;
          holds = lead.holds;
          means = λ i s v at m.
              let r = some-first i s at in
              let k = sorts-are i s at in
              ite-means (slice_get point) s f.region (term_at i f) (chain_of i (g ∷ fs)) 0 r.0 v each.0.region.1 k.0 k.1 none r.1 (lead.means i s v at m);
        }
