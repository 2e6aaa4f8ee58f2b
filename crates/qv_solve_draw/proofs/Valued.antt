-- Values that terms without variables give.
use Rattle.std.proofs.Common.{◌≡◌, ℕ, zero, suc, ◌+◌, ◌==◌, ◌≢◌, ◌⊎◌, Bool, true, false, cond, Some, None, List, [], ◌∷◌, ◌++◌, length, map, take, drop, slice_get, get_or, refl, sym, ap, ◌∙◌, subst, inl, inr, arith}
use Rattle.std.specs.Prelude.{AllPairs, IfOk, IsSome, IsSomeAnd, Result, Ok, Err, option_map}
use Rattle.std.specs.List.{AllByRecursion}
use Rattle.std.proofs.lemmas.Bool.{eq-eqb, ne_eqb}
use Rattle.std.proofs.lemmas.List.Elements.{All-from_recursion, recursion_from_All}
use Rattle.std.proofs.lemmas.Option.{get_or_from_slice_get, none-some, same_Some, slice_get-map, slice_get_within}
use Rattle.qv_words.specs.declared.sort.Sort.{Sort}
use Rattle.qv_words.specs.declared.word.Word.{Word}
use Rattle.qv_words.specs.Sort.{IsValueOf}
use Rattle.qv_words.specs.Word.{word_sort, word_value}
use Rattle.qv_words.specs.Tree.{Tree, tree_sort}
use Rattle.qv_words.specs.Sorted.{constants_of, free_levels, no_levels}
use Rattle.qv_words.specs.Meaning.{Means}
use Rattle.qv_words.specs.Problem.{Problem, Place, Existential, Universal}
use Rattle.qv_words.specs.Skolem.{SkolemTerm, SkolemOk, IsEarlierUniversal, IsSkolemTerm, IsTermOf, goal_of, term_of}
use Rattle.qv_words.specs.GameLaws.{IsProblem, WinsFrom}
use Rattle.qv_words.specs.Values.{HasWords}
use Rattle.qv_words.proofs.Elements.{all-weaker, dropped-at, of-some, pushed-cases, some-and, take-one, to-some}
use Rattle.qv_cert_section_laws.specs.SectionLaws.{IsValueOfTerm}
use Rattle.qv_cert_section_laws.proofs.SkolemSound.{first-terms_win, section-term}
use Rattle.qv_store.specs.Nodes.{tree_at}
use Rattle.qv_skolem.specs.declared.skolem.Skolem.{Skolem}
use Rattle.qv_skolem.specs.Skolems.{skolem_in, skolems_in, IsNeverTrue}
use Rattle.qv_solve_draw.specs.declared.values.ConstValue.{ConstValue}
use Rattle.qv_solve_draw.specs.Values.{AreExistential, HaveSorts, IsWordOfTerm, indices_of, values_of}

-- ---- the term of a place

-- what is left to be looked at
abbrev pub IsLookedFor : List Tree → List Skolem → ℕ → ℕ → Type 0
IsLookedFor trees terms place i = term_of (skolems_in trees terms) place ≡ term_of (skolems_in trees (drop i terms)) place

pub looked-on : (trees : List Tree) (terms : List Skolem) (place i : ℕ) (s : Skolem) → slice_get terms i ≡ Some s → (s.place == place) ≡ false → IsLookedFor trees terms place i → IsLookedFor trees terms place (i + 1)
looked-on trees terms place i s at other inv =
    let one : suc i ≡ i + 1 = omega arith in
    inv ∙ ap (λ (ss : List Skolem). term_of (skolems_in trees ss) place) (dropped-at terms i s at)
    ∙ ap (λ (b : Bool). cond b (Some (tree_at trees s.term)) (term_of (skolems_in trees (drop (suc i) terms)) place)) other
    ∙ ap (λ (n : ℕ). term_of (skolems_in trees (drop n terms)) place) one

pub looked-here : (trees : List Tree) (terms : List Skolem) (place i : ℕ) (s : Skolem) → slice_get terms i ≡ Some s → (s.place == place) ≡ true → IsLookedFor trees terms place i → term_of (skolems_in trees terms) place ≡ Some (tree_at trees s.term)
looked-here trees terms place i s at own inv =
    inv ∙ ap (λ (ss : List Skolem). term_of (skolems_in trees ss) place) (dropped-at terms i s at)
    ∙ ap (λ (b : Bool). cond b (Some (tree_at trees s.term)) (term_of (skolems_in trees (drop (suc i) terms)) place)) own

-- the term that stands somewhere is that of its place, since others are of other places
term_of-there : (terms : List SkolemTerm) (i : ℕ) (s : SkolemTerm) → AllPairs (λ s t. s.place ≢ t.place) terms → slice_get terms i ≡ Some s → term_of terms s.place ≡ Some s.term
term_of-there [] i s once at = absurd (none-some s at)
term_of-there (x ∷ xs) zero s once at =
    let same : x ≡ s = same_Some x s at in
    ap (λ (b : Bool). cond b (Some x.term) (term_of xs s.place)) (eq-eqb x.place s.place (ap (λ (t : SkolemTerm). t.place) same)) ∙ ap (λ (t : SkolemTerm). Some t.term) same
term_of-there (x ∷ xs) (suc i) s once at =
    let stands : get_or xs i s ≡ s = get_or_from_slice_get xs i s s at in
    let other : x.place ≢ s.place = subst (λ (t : SkolemTerm). x.place ≢ t.place) stands (once 0 (suc i) s (omega arith) (omega (arith, slice_get_within xs i s at))) in
    ap (λ (b : Bool). cond b (Some x.term) (term_of xs s.place)) (ne_eqb x.place s.place other)
    ∙ term_of-there xs i s (λ j k d below within. once (suc j) (suc k) d (omega (arith, below)) (omega (arith, within))) at

pub found-there : (trees : List Tree) (p : Problem) (terms : List Skolem) (place : ℕ) (s : Skolem) → SkolemOk p (skolems_in trees terms) → slice_get terms place ≡ Some s → s.place ≡ place
    → term_of (skolems_in trees terms) place ≡ Some (tree_at trees s.term)
found-there trees p terms place s ok at own =
    ap (term_of (skolems_in trees terms)) (sym own)
    ∙ term_of-there (skolems_in trees terms) place (skolem_in trees s) ok.once (slice_get-map (skolem_in trees) terms place ∙ ap (option_map (skolem_in trees)) at)

-- ---- its value

pub has-term : (p : Problem) (terms : List SkolemTerm) (j : ℕ) → SkolemOk p terms → AreExistential p (j + 1) → term_of terms j ≡ None → ⊥
has-term p terms j ok first none =
    let wrong : false ≡ true = subst IsSome none (ok.all j (first j (omega arith))) in
    absurd (cc)

pub own-term : (p : Problem) (terms : List SkolemTerm) (j : ℕ) (t : Tree) → SkolemOk p terms → term_of terms j ≡ Some t → IsSkolemTerm p (record { place = j; term = t })
own-term p terms j t ok is = section-term p terms j t (recursion_from_All (IsSkolemTerm p) terms ok.each) is

-- its place, and what it is there
pub own-place : (p : Problem) (j : ℕ) (t : Tree) → IsSkolemTerm p (record { place = j; term = t }) → (place : Place) × (slice_get p.prefix j ≡ Some place) × ((place.quantifier ≡ Existential) × IsTermOf t place.sort)
own-place p j t own = some-and (slice_get p.prefix j) (λ place. (place.quantifier ≡ Existential) × IsTermOf t place.sort) own.0

-- no words are needed for it
pub closed-term : (p : Problem) (j : ℕ) (t : Tree) → AreExistential p (j + 1) → IsSkolemTerm p (record { place = j; term = t }) → HasWords [] [] t
closed-term p j t first own =
    let place = own-place p j t own in
    let Given : ℕ × Sort → Type 0 = λ leaf. IsSomeAnd (slice_get {X = Word} [] leaf.0) (λ w. word_sort w ≡ leaf.1) in
    record {
      constants = All-from_recursion Given (constants_of t) (subst (AllByRecursion Given) (sym place.2.1.constant_free) tt);
      levels = All-from_recursion Given (free_levels t) (all-weaker (IsEarlierUniversal p j) Given (free_levels t) (λ leaf h. absurd (none leaf h)) (recursion_from_All (IsEarlierUniversal p j) (free_levels t) own.1));
    }
  where
    none : (leaf : ℕ × Sort) → IsEarlierUniversal p j leaf → ⊥
    none leaf h =
        let at = some-and (slice_get p.prefix leaf.0) (λ place. (place.quantifier ≡ Universal) × (place.sort ≡ leaf.1)) h.1 in
        let own : at.0.quantifier ≡ Existential = of-some (slice_get p.prefix leaf.0) (λ place. place.quantifier ≡ Existential) at.0 at.1 (first leaf.0 (omega (arith, h.0))) in
        let wrong : Existential ≡ Universal = sym own ∙ at.2.0 in
        absurd (cc)

pub word-of_term : (p : Problem) (terms : List SkolemTerm) (j : ℕ) (t : Tree) (w : Word) → SkolemOk p terms → term_of terms j ≡ Some t → tree_sort t ≡ Some (word_sort w) → Means [] no_levels t (word_value w) → IsWordOfTerm p terms j w
word-of_term p terms j t w ok is sort means =
    let place = own-place p j t (own-term p terms j t ok is) in
    let same : word_sort w ≡ place.0.sort = same_Some (word_sort w) place.0.sort (sym sort ∙ place.2.1.sort) in (
      to-some (slice_get p.prefix j) (λ q. (q.quantifier ≡ Existential) × (word_sort w ≡ q.sort)) place.0 place.1 (place.2.0, same),
      to-some (term_of terms j) (λ u. Means [] no_levels u (word_value w)) t is means,
    )

pub if-both : {A E : Type 0} (r : Result A E) {P Q R : A → Type 0} → ((x : A) → P x → Q x → R x) → IfOk r P → IfOk r Q → IfOk r R
if-both (Ok x) go h k = go x h k
if-both (Err e) go h k = tt

-- ---- the values so far

pub record IsValued (p : Problem) (terms : List SkolemTerm) (indices : List ℕ) (i : ℕ) (values : List ConstValue) : Type 0 where
  pub indices_are : indices_of values ≡ take i indices
  pub many : length values ≡ i
  pub each : (j : ℕ) (c : ConstValue) → slice_get values j ≡ Some c → IsWordOfTerm p terms j c.word

pub valued-none : (p : Problem) (terms : List SkolemTerm) (indices : List ℕ) (values : List ConstValue) → values ≡ [] → IsValued p terms indices 0 values
valued-none p terms indices values none =
    subst (IsValued p terms indices 0) (sym none) (record { indices_are = refl; many = refl; each = λ j c at. absurd (none-some c at) })

map-pushed : {A B : Type 0} (f : A → B) (xs : List A) (x : A) → map f (xs ++ x ∷ []) ≡ map f xs ++ f x ∷ []
map-pushed f [] x = refl
map-pushed f (y ∷ xs) x = ap (λ ys. f y ∷ ys) (map-pushed f xs x)

long-pushed : {A : Type 0} (xs : List A) (x : A) → length (xs ++ x ∷ []) ≡ suc (length xs)
long-pushed [] x = refl
long-pushed (y ∷ xs) x = ap suc (long-pushed xs x)

pub valued-next : (p : Problem) (terms : List SkolemTerm) (indices : List ℕ) (i index : ℕ) (values new : List ConstValue) (c : ConstValue) → slice_get indices i ≡ Some index → c.index ≡ index → new ≡ values ++ c ∷ [] →
    IsWordOfTerm p terms i c.word → IsValued p terms indices i values → IsValued p terms indices (i + 1) new
valued-next p terms indices i index values new c at own is word inv =
    let one : i + 1 ≡ suc i = omega arith in
    subst (IsValued p terms indices (i + 1)) (sym is) (record {
      indices_are = map-pushed (λ (x : ConstValue). x.index) values c ∙ ap (λ (ns : List ℕ). ns ++ c.index ∷ []) inv.indices_are ∙ ap (λ (n : ℕ). take i indices ++ n ∷ []) own ∙ sym (ap (λ n. take n indices) one ∙ take-one indices i index at);
      many = long-pushed values c ∙ ap suc inv.many ∙ sym one;
      each = λ j x found. go j x (pushed-cases values c j x found);
    })
  where
    go : (j : ℕ) (x : ConstValue) → (slice_get values j ≡ Some x) ⊎ ((j ≡ length values) × (c ≡ x)) → IsWordOfTerm p terms j x.word
    go j x (inl old) = inv.each j x old
    go j x (inr last) =
        subst (λ (y : ConstValue). IsWordOfTerm p terms j y.word) last.1 (subst (λ (n : ℕ). IsWordOfTerm p terms n c.word) (sym (last.0 ∙ inv.many)) word)

-- ---- all values

mapped-at : {A B : Type 0} (f : A → B) (xs : List A) (j : ℕ) (y : B) → slice_get (map f xs) j ≡ Some y → (x : A) × (slice_get xs j ≡ Some x) × (f x ≡ y)
mapped-at f [] j y at = absurd (none-some y at)
mapped-at f (x ∷ xs) zero y at = (x, refl, same_Some (f x) y at)
mapped-at f (x ∷ xs) (suc j) y at = mapped-at f xs j y at

pub valued-sorts : (p : Problem) (terms : List SkolemTerm) (values : List ConstValue) → ((j : ℕ) (c : ConstValue) → slice_get values j ≡ Some c → IsWordOfTerm p terms j c.word) → HaveSorts p values
valued-sorts p terms values each = λ j c at.
    let place = some-and (slice_get p.prefix j) (λ q. (q.quantifier ≡ Existential) × (word_sort c.word ≡ q.sort)) (each j c at).0 in
    to-some (slice_get p.prefix j) (λ q. word_sort c.word ≡ q.sort) place.0 place.1 place.2.1

pub valued-wins : (p : Problem) (terms : List SkolemTerm) (values : List ConstValue) → IsProblem p → SkolemOk p terms → IsNeverTrue (goal_of p terms) →
    ((j : ℕ) (c : ConstValue) → slice_get values j ≡ Some c → IsWordOfTerm p terms j c.word) → WinsFrom p Existential (values_of values)
valued-wins p terms values problem ok never each = first-terms_win p terms (values_of values) problem ok never own
  where
    own : (j v : ℕ) → slice_get (values_of values) j ≡ Some v → IsValueOfTerm p terms j v
    own j v at =
        let found = mapped-at (λ (c : ConstValue). word_value c.word) values j v at in
        let w = found.0.word in
        let is = each j found.0 found.1 in
        let place = some-and (slice_get p.prefix j) (λ q. (q.quantifier ≡ Existential) × (word_sort w ≡ q.sort)) is.0 in
        let range : IsValueOf (word_value w) place.0.sort = subst (λ (s : Sort). IsValueOf (word_value w) s) place.2.1 w.in_range in
        subst (IsValueOfTerm p terms j) found.2
        (to-some (slice_get p.prefix j) (λ q. (q.quantifier ≡ Existential) × IsValueOf (word_value w) q.sort) place.0 place.1 (place.2.0, range), is.1)
