-- Chains that get longer, an entry at a time in front.
use Rattle.std.proofs.Common.{◌≡◌, ℕ, zero, suc, ◌+◌, ◌<◌, ◌≤◌, inl, inr, Bool, true, false, cond, Option, Some, List, [], ◌∷◌, length, drop, set, slice_get, refl, sym, ap, ◌∙◌, subst, arith}
use Rattle.std.specs.Prelude.{unwrap_or, slice_index}
use Rattle.std.specs.List.{AllByRecursion}
use Rattle.std.proofs.lemmas.Bool.{cases_lt}
use Rattle.std.proofs.lemmas.Option.{slice_get-get_or, slice_get_within}
use Rattle.std.proofs.lemmas.List.{length-set}
use Rattle.std.proofs.lemmas.List.Elements.{recursion_from_All}
use Rattle.qv_words.specs.declared.sort.Sort.{Sort}
use Rattle.qv_words.specs.declared.sort.Sort.TheVariants.{Bool as BoolSort}
use Rattle.qv_words.specs.Tree.{Tree, Literal, tree_sort}
use Rattle.qv_words.specs.Sorted.{IsSorted, free_levels, no_levels}
use Rattle.qv_words.specs.Replacement.{replaced}
use Rattle.qv_words.specs.Prenex.{ite}
use Rattle.qv_words.specs.Linked.{Entry, chain_of, term_at, entries_of, is_of}
use Rattle.qv_words.specs.Problem.{Quantifier}
use Rattle.qv_words.proofs.Elements.{zip-at, dropped-at}
use Rattle.qv_words.proofs.Existing.{has_sort}
use Rattle.qv_words.proofs.Equals.{sort_eq-refl}
use Rattle.qv_words.proofs.Replacing.{HasItsSort, same_sort}
use Rattle.qv_store.specs.Nodes.{tree_at}
use Rattle.qv_store.specs.Stores.{AreShared, Grows, StandsAt}
use Rattle.qv_store.specs.Replacing.{IsReplaceable}
use Rattle.qv_store.proofs.Replacement.{grown-stands}
use Rattle.qv_skolem.specs.Chains.{headed, led_by, AreChains, AreLed, IsPuttable, MayLead}

-- whether there are entries
abbrev pub some_entries : List Entry → Bool
some_entries [] = false
some_entries (e ∷ es) = true

-- sorts of choices and of trees with terms put in
pub ite-sort : (s : Sort) (c a b : Tree) → tree_sort c ≡ Some BoolSort → tree_sort a ≡ Some s → tree_sort b ≡ Some s → tree_sort (ite c a b) ≡ Some s
ite-sort s c a b hc ha hb = rw (hc, ha, hb, sort_eq-refl s) refl

-- a choice between terms of a store
pub ite-sorted : (trees : List Tree) (c a b : ℕ) → AreShared trees → c < length trees → a < length trees → b < length trees → tree_sort (tree_at trees c) ≡ Some BoolSort → tree_sort (tree_at trees a) ≡ tree_sort (tree_at trees b) → IsSorted (ite (tree_at trees c) (tree_at trees a) (tree_at trees b))
ite-sorted trees c a b shared hc ha hb bool alike =
    let s = has_sort (tree_at trees b) no_levels (shared.sorted b hb) in
    let sort = ite-sort s.0 (tree_at trees c) (tree_at trees a) (tree_at trees b) bool (alike ∙ s.1) s.1 in
    ((shared.sorted c hc, (shared.sorted a ha, (shared.sorted b hb, tt))), rw sort refl)

pub put-sort : (put : ℕ → Option Tree) (t : Tree) → IsReplaceable put t → tree_sort (replaced put t) ≡ tree_sort t
put-sort put t h = same_sort t put h.quantifier_free (recursion_from_All (HasItsSort put) (free_levels t) h.sorts)

-- the term of an entry at a place
pub term-there : (put : ℕ → Option Tree) (sorts : List Sort) (e : Entry) (i : ℕ) (s : Sort) → IsPuttable put sorts e → slice_get sorts i ≡ Some s → IsReplaceable put (term_at i e) × (tree_sort (term_at i e) ≡ Some s)
term-there put sorts e i s h at =
    let there = zip-at (λ t q. IsReplaceable put t × (tree_sort t ≡ Some q)) e.terms sorts i s h.terms at in
    subst (λ (o : Option Tree). IsReplaceable put (unwrap_or o (Literal BoolSort 0)) × (tree_sort (unwrap_or o (Literal BoolSort 0)) ≡ Some s)) (sym there.1) there.2

term-sort : (put : ℕ → Option Tree) (sorts : List Sort) (e : Entry) (i : ℕ) (s : Sort) → IsPuttable put sorts e → slice_get sorts i ≡ Some s → tree_sort (replaced put (term_at i e)) ≡ Some s
term-sort put sorts e i s h at =
    let there = term-there put sorts e i s h at in
    put-sort put (term_at i e) there.0 ∙ there.1

pub chain-sort : (put : ℕ → Option Tree) (sorts : List Sort) (es : List Entry) (i : ℕ) (s : Sort) → AllByRecursion (IsPuttable put sorts) es → some_entries es ≡ true → slice_get sorts i ≡ Some s → tree_sort (replaced put (chain_of i es)) ≡ Some s
unfolding chain_of
chain-sort put sorts [] i s each some at = absurd cc
chain-sort put sorts (e ∷ []) i s each some at = term-sort put sorts e i s each.0 at
chain-sort put sorts (e ∷ f ∷ es) i s each some at =
    ite-sort s (replaced put e.region) (replaced put (term_at i e)) (replaced put (chain_of i (f ∷ es)))
    (put-sort put e.region each.0.region ∙ each.0.bool) (term-sort put sorts e i s each.0 at) (chain-sort put sorts (f ∷ es) i s each.1 refl at)

-- one entry more in front
led-chain : (put : ℕ → Option Tree) (e : Entry) (es : List Entry) (i : ℕ) → headed (led_by put (some_entries es) e) (replaced put (term_at i e)) (replaced put (chain_of i es)) ≡ replaced put (chain_of i (e ∷ es))
unfolding chain_of
led-chain put e [] i = refl
led-chain put e (f ∷ es) i = refl

pub chains-led : (old new : List Tree) (put : ℕ → Option Tree) (behind : Bool) (e : Entry) (es : List Entry) (count : ℕ) (before after : List ℕ) → behind ≡ some_entries es →
    AreChains old put es count before → AreLed old new put behind e before after → AreChains new put (e ∷ es) count after
chains-led old new put behind e es count before after so h led = record {
  many = led.many ∙ h.many;
  each = λ i id at.
      let within = slice_get_within after i id at in
      let many = led.many in
      let own = slice_get-get_or before i 0 (omega (arith, within, many)) in
      let stands = led.each i id at in
      let rest : tree_at old (slice_index before i) ≡ replaced put (chain_of i es) = (h.each i (slice_index before i) own).tree in
      record {
        below = stands.below;
        tree = stands.tree ∙ ap (λ (t : Tree). headed (led_by put behind e) (replaced put (term_at i e)) t) rest
            ∙ ap (λ (b : Bool). headed (led_by put b e) (replaced put (term_at i e)) (replaced put (chain_of i es))) so ∙ led-chain put e es i;
      };
}

pub chains-may : (trees : List Tree) (put : ℕ → Option Tree) (behind : Bool) (sorts : List Sort) (e : Entry) (es : List Entry) (chains : List ℕ) → behind ≡ some_entries es →
    AllByRecursion (IsPuttable put sorts) (e ∷ es) → AreChains trees put es (length sorts) chains → MayLead trees put behind e chains
chains-may trees put behind sorts e es chains so each h = record {
  sorts = sorts;
  entry = each.0;
  many = h.many;
  below = λ i id at. (h.each i id at).below;
  alike = λ yes i id s at sort. ap (λ (t : Tree). tree_sort t) (h.each i id at).tree ∙ chain-sort put sorts es i s each.1 (sym so ∙ yes) sort;
}

pub chains-grown : (old new : List Tree) (put : ℕ → Option Tree) (es : List Entry) (count : ℕ) (chains : List ℕ) → Grows old new → AreChains old put es count chains → AreChains new put es count chains
chains-grown old new put es count chains grows h = record {
  many = h.many;
  each = λ i id at. grown-stands old new grows id (replaced put (chain_of i es)) (h.each i id at);
}

-- the entries of a level from a number on
pub level-more : (level : ℕ) (w : Quantifier) (es : List Entry) (n : ℕ) (e : Entry) → slice_get es n ≡ Some e → is_of level w e ≡ true → entries_of level w (drop n es) ≡ e ∷ entries_of level w (drop (suc n) es)
level-more level w es n e at own =
    ap (entries_of level w) (dropped-at es n e at) ∙ ap (λ b. cond b (e ∷ entries_of level w (drop (suc n) es)) (entries_of level w (drop (suc n) es))) own

pub level-other : (level : ℕ) (w : Quantifier) (es : List Entry) (n : ℕ) (e : Entry) → slice_get es n ≡ Some e → is_of level w e ≡ false → entries_of level w (drop n es) ≡ entries_of level w (drop (suc n) es)
level-other level w es n e at other =
    ap (entries_of level w) (dropped-at es n e at) ∙ ap (λ b. cond b (e ∷ entries_of level w (drop (suc n) es)) (entries_of level w (drop (suc n) es))) other

-- the first chains are led, and the others are as before
pub record AreLedTo (old new : List Tree) (put : ℕ → Option Tree) (region : Option Tree) (e : Entry) (before after : List ℕ) (k : ℕ) : Type 0 where
  pub many : length after ≡ length before
  pub done : (i id : ℕ) → i < k → slice_get after i ≡ Some id → StandsAt new id (headed region (replaced put (term_at i e)) (tree_at old (slice_index before i)))
  pub left : (i : ℕ) → k ≤ i → slice_get after i ≡ slice_get before i

pub led-none : (old new : List Tree) (put : ℕ → Option Tree) (region : Option Tree) (e : Entry) (before : List ℕ) → AreLedTo old new put region e before before 0
led-none old new put region e before = record { many = refl; done = λ i id h at. absurd (omega (arith, h)); left = λ i h. refl }

set-same : (xs : List ℕ) (k v : ℕ) → k < length xs → slice_get (set xs k v) k ≡ Some v
set-same [] k v h = absurd (omega (arith, h))
set-same (x ∷ xs) zero v h = refl
set-same (x ∷ xs) (suc k) v h = set-same xs k v (omega (arith, h))

set-other : (xs : List ℕ) (k v i : ℕ) → (i ≡ k → ⊥) → slice_get (set xs k v) i ≡ slice_get xs i
set-other [] k v i h = refl
set-other (x ∷ xs) zero v zero h = absurd (h refl)
set-other (x ∷ xs) zero v (suc i) h = refl
set-other (x ∷ xs) (suc k) v zero h = refl
set-other (x ∷ xs) (suc k) v (suc i) h = set-other xs k v i (λ e. let same : suc i ≡ suc k = ap suc e in h same)

pub led-more : (old mid new : List Tree) (put : ℕ → Option Tree) (region : Option Tree) (e : Entry) (before after : List ℕ) (k id : ℕ) → Grows mid new → AreLedTo old mid put region e before after k → k < length after →
    StandsAt new id (headed region (replaced put (term_at k e)) (tree_at old (slice_index before k))) → AreLedTo old new put region e before (set after k id) (k + 1)
led-more old mid new put region e before after k id grows h low stands = record {
  many = length-set after k id ∙ h.many;
  done = λ i j less at. elim (cases_lt i k) [
    | inl lower ↦ (
        let other : i ≡ k → ⊥ = λ f. omega (arith, f, lower) in
        grown-stands mid new grows j (headed region (replaced put (term_at i e)) (tree_at old (slice_index before i)))
        (h.done i j lower (sym (set-other after k id i other) ∙ at))
        )
    | inr more ↦ (
        let same : k ≡ i = omega (arith, less, more) in
        let own : id ≡ j = let both : Some id ≡ Some j = sym (set-same after k id low) ∙ ap (slice_get (set after k id)) same ∙ at in cc in
        subst (λ (n : ℕ). StandsAt new n (headed region (replaced put (term_at i e)) (tree_at old (slice_index before i)))) own
        (subst (λ (n : ℕ). StandsAt new id (headed region (replaced put (term_at n e)) (tree_at old (slice_index before n)))) same stands)
        )
  ];
  left = λ i more.
      let other : i ≡ k → ⊥ = λ f. omega (arith, f, more) in
      set-other after k id i other ∙ h.left i (omega (arith, more));
}

pub led-all : (old new : List Tree) (put : ℕ → Option Tree) (behind : Bool) (e : Entry) (before after : List ℕ) (k : ℕ) → length before ≤ k → AreLedTo old new put (led_by put behind e) e before after k → AreLed old new put behind e before after
led-all old new put behind e before after k all h = record {
  many = h.many;
  each = λ i id at. let within = slice_get_within after i id at in let many = h.many in h.done i id (omega (arith, within, many, all)) at;
}
