-- The problem of formulas from its parts: the constants in order, the blocks, and the matrix.
use Rattle.std.proofs.Common.{◌≡◌, ◌↔◌, ℕ, zero, suc, ◌+◌, ◌<◌, ◌≤◌, ◌==◌, Bool as Truth, true, false, not, ◌||◌, cond, if◌then◌else◌, Some, None, List, [], ◌∷◌, ◌++◌, length, get_or, map, take, unwrap_or, nat_eq, nat_lt, refl, sym, ap, subst, ◌∙◌, arith}
use Rattle.std.specs.Prelude.{All, sum, slice_get, Result, Ok, Err, IfOk}
use Rattle.std.specs.List.{AllByRecursion, prefix_len, list_any}
use Rattle.std.proofs.Math.Path.{fun_ext}
use Rattle.std.proofs.lemmas.Bool.{ltb-false, eqb-false, eq-eqb, ne_eqb}
use Rattle.std.proofs.lemmas.List.{length-map, map-append, take_more, get_or-map}
use Rattle.qv_words.proofs.Equals.{eq-from_test}
use Rattle.qv_words.specs.declared.sort.Sort.{Sort}
use Rattle.qv_words.specs.declared.sort.Sort.TheVariants.{Bool as BoolSort}
use Rattle.qv_words.specs.declared.op.Op.TheVariants.{And}
use Rattle.qv_words.specs.Tree.{Tree, Literal, tree_sort}
use Rattle.qv_words.specs.Sorted.{IsSorted, no_levels}
use Rattle.qv_words.specs.Truth.{IsAssertion, AreTrue, HaveOneSort, HasConstantsOf, HoldUnder, constants_of_each}
use Rattle.qv_words.specs.Prenex.{binary, form_of}
use Rattle.qv_words.specs.Problem.{Existential, Problem, Holds, problem_of, conjunction, conjunction_with, in_order, index_in, places_of}
use Rattle.qv_words.specs.Problem.{Place as PlainPlace}
use Rattle.qv_words.specs.GameLaws.{IsProblem, WinsFrom}
use Rattle.qv_store.specs.Nodes.{tree_at}
use Rattle.qv_prenex_laws.specs.FormLaws.{all_lengths}
use Rattle.qv_prenex_laws.specs.MatrixLaws.{matrix_under}
use Rattle.qv_prenex_laws.specs.PrenexLaws.{values_at}
use Rattle.qv_prenex_laws.proofs.FormLengths.{conjunction-lengths, places-count}
use Rattle.qv_prenex_laws.proofs.MatrixRule.{problem-matrix}
use Rattle.qv_prenex_laws.proofs.LawfulProblems.{problems-are-lawful}
use Rattle.qv_prenex_laws.proofs.PrenexRight.{prenex-theorem}
use Rattle.qv_prenex_laws.proofs.UnderConstants.{prenex-under-constants}
use Rattle.qv_prenex_laws.proofs.InOrder.{AreRising, in_order-rising}
use Rattle.qv_prenex.specs.declared.constants.Constant.{Constant}
use Rattle.qv_prenex.specs.Constants.{pair_of}
use Rattle.qv_prenex_splits.specs.Naming.{place_of}
use Rattle.qv_prenex.specs.Prefixes.{constant_place}
use Rattle.qv_prenex_matrix.specs.Matrix.{cursor_at}
use Rattle.qv_prenex.specs.Posed.{values_for}

abbrev Pair : Type 0
Pair = ℕ × Sort

-- places of constants
pub places-pairs : (cs : List Constant) → map constant_place cs ≡ map (λ c. record { quantifier = Existential; sort = c.1 }) (map pair_of cs)
places-pairs [] = refl
places-pairs (c ∷ cs) = ap (λ xs. constant_place c ∷ xs) (places-pairs cs)

pub indices-pairs : (cs : List Constant) → map (λ c. c.index) cs ≡ map (λ c. c.0) (map pair_of cs)
indices-pairs [] = refl
indices-pairs (c ∷ cs) = ap (λ xs. c.index ∷ xs) (indices-pairs cs)

-- the prefix of a problem
pub problem-prefix : (fs : List Tree) → (problem_of fs).prefix
    ≡ map (λ c. record { quantifier = Existential; sort = c.1 }) (in_order (constants_of_each fs)) ++ places_of Existential (form_of (conjunction fs)).blocks
unfolding problem_of
problem-prefix fs = refl

-- the place of an index
prefix-le : (p : ℕ → Truth) (xs : List ℕ) → prefix_len p xs ≤ length xs
prefix-le p [] = omega arith
prefix-le p (x ∷ xs) = go (p x) (prefix-le p xs)
  where
    go : (b : Truth) → prefix_len p xs ≤ length xs → cond b (1 + prefix_len p xs) 0 ≤ suc (length xs)
    go true h = omega (arith, h)
    go false h = omega arith

found-or : (k n : ℕ) → k ≤ n → unwrap_or (cond (nat_lt k n) (Some k) None) n ≡ k
found-or k n le = go (nat_lt k n) refl
  where
    go : (b : Truth) → nat_lt k n ≡ b → unwrap_or (cond b (Some k) None) n ≡ k
    go true e = refl
    go false e = omega (arith, le, ltb-false k n e)

first-index : (cs : List Pair) (i : ℕ) → prefix_len (λ x. not (nat_eq i x)) (map (λ c. c.0) cs) ≡ index_in cs i
first-index [] i = refl
first-index (c ∷ cs) i = go (c.0 == i) refl (first-index cs i)
  where
    go : (b : Truth) → (c.0 == i) ≡ b → prefix_len (λ x. not (nat_eq i x)) (map (λ d. d.0) cs) ≡ index_in cs i →
        cond (not (nat_eq i c.0)) (1 + prefix_len (λ x. not (nat_eq i x)) (map (λ d. d.0) cs)) 0 ≡ (if b then 0 else suc (index_in cs i))
    go true e h = ap (λ t. cond (not t) (1 + prefix_len (λ x. not (nat_eq i x)) (map (λ d. d.0) cs)) 0) (eq-eqb i c.0 (sym (eq-from_test c.0 i e)))
    go false e h =
        let differs = eqb-false c.0 i e in
        ap (λ t. cond (not t) (1 + prefix_len (λ x. not (nat_eq i x)) (map (λ d. d.0) cs)) 0) (ne_eqb i c.0 (λ f. differs (sym f)))
        ∙ ap (λ n. 1 + n) h ∙ one-more (index_in cs i)
      where
        one-more : (n : ℕ) → 1 + n ≡ suc n
        one-more n = omega arith

pub place-index : (cs : List Pair) (i : ℕ) → place_of (map (λ c. c.0) cs) i ≡ index_in cs i
place-index cs i =
    let indices = map (λ (c : Pair). c.0) cs in
    found-or (prefix_len (λ x. not (nat_eq i x)) indices) (length indices) (prefix-le (λ x. not (nat_eq i x)) indices) ∙ first-index cs i

-- the matrix of a problem
pub problem-matrix-at : (fs : List Tree) (indices : List ℕ) (next : ℕ → ℕ) (t : Tree) →
    indices ≡ map (λ c. c.0) (in_order (constants_of_each fs)) →
    ((k : ℕ) → next k ≡ length (in_order (constants_of_each fs)) + sum (take k (all_lengths fs))) → t ≡ conjunction fs →
    matrix_under (place_of indices) true t (cursor_at no_levels next 0) ≡ (problem_of fs).matrix
problem-matrix-at fs indices next t keys levels is =
    let cs = in_order (constants_of_each fs) in
    let places : place_of indices ≡ index_in cs =
    fun_ext (λ (i : ℕ). ap (λ (xs : List ℕ). place_of xs i) keys ∙ place-index cs i) in
    let nexts : next ≡ (λ (k : ℕ). length cs + sum (take k (all_lengths fs))) = fun_ext levels in
    ap (λ (p : ℕ → ℕ). matrix_under p true t (cursor_at no_levels next 0)) places
    ∙ ap (λ (u : Tree). matrix_under (index_in cs) true u (cursor_at no_levels next 0)) is
    ∙ ap (λ (n : ℕ → ℕ). matrix_under (index_in cs) true (conjunction fs) (cursor_at no_levels n 0)) nexts
    ∙ sym (problem-matrix fs)

pub problem-same : (p q : Problem) → p.prefix ≡ q.prefix → p.matrix ≡ q.matrix → p ≡ q
problem-same p q e f =
    ap (λ (xs : List PlainPlace). record { prefix = xs; matrix = p.matrix }) e ∙ ap (λ (t : Tree). record { prefix = q.prefix; matrix = t }) f

-- what a problem that is the formulas' says
module _ (fs : List Tree) (p : Problem) (same : p ≡ problem_of fs) (assertions : All IsAssertion fs) (one : HaveOneSort fs) where
  pub lawful-same : IsProblem p
  lawful-same = subst IsProblem (sym same) (problems-are-lawful fs assertions one)

  pub holds-same : Holds p ↔ AreTrue fs
  holds-same = subst (λ (q : Problem). Holds q ↔ AreTrue fs) (sym same) (prenex-theorem fs assertions one)

values-same : (cs : List Pair) (c : List ℕ) → map (λ k. unwrap_or (slice_get c k.0) 0) cs ≡ values_for (map (λ d. d.0) cs) c
values-same [] c = refl
values-same (d ∷ cs) c = ap (λ xs. unwrap_or (slice_get c d.0) 0 ∷ xs) (values-same cs c)

pub under-same : (fs : List Tree) (p : Problem) (indices c : List ℕ) → p ≡ problem_of fs → indices ≡ map (λ d. d.0) (in_order (constants_of_each fs)) →
    All IsAssertion fs → HasConstantsOf c fs → WinsFrom p Existential (values_for indices c) ↔ HoldUnder c fs
under-same fs p indices c same keys assertions has =
    let point : values_at c fs ≡ values_for indices c =
    values-same (in_order (constants_of_each fs)) c ∙ ap (λ (xs : List ℕ). values_for xs c) (sym keys) in
    subst (λ (xs : List ℕ). WinsFrom p Existential xs ↔ HoldUnder c fs) point
    (subst (λ (q : Problem). WinsFrom q Existential (values_at c fs) ↔ HoldUnder c fs) (sym same) (prenex-under-constants fs c assertions has))

-- how many places there are
pub places-number : (fs : List Tree) (cs : List Constant) → map pair_of cs ≡ in_order (constants_of_each fs) →
    length (problem_of fs).prefix ≡ length cs + sum (all_lengths fs)
places-number fs cs e = omega (arith, places-count fs, ap length e, length-map cs pair_of)

-- a conjunction is sorted
pub and-sorted : (a b : Tree) → IsSorted a → IsSorted b → tree_sort a ≡ Some BoolSort → tree_sort b ≡ Some BoolSort → IsSorted (binary And a b)
and-sorted a b ha hb ea eb = ((ha, (hb, tt)), rw (ea, eb) refl)

pub and-bool : (a b : Tree) → tree_sort a ≡ Some BoolSort → tree_sort b ≡ Some BoolSort → tree_sort (binary And a b) ≡ Some BoolSort
and-bool a b ea eb = rw (ea, eb) refl

-- constants in order are apart
apart-at : (n : ℕ) (ds : List Constant) (j : ℕ) (c : Constant) → AllByRecursion (λ x. n < x.0) (map pair_of ds) → j < length ds → n < (get_or ds j c).index
apart-at n [] j c all lt = absurd (omega (arith, lt))
apart-at n (x ∷ ds) zero c all lt = all.0
apart-at n (x ∷ ds) (suc j) c all lt = apart-at n ds j c all.1 (omega (arith, lt))

rising-apart : (cs : List Constant) (k : ℕ) (c : Constant) → AreRising (map pair_of cs) → k < length cs →
    list_any (nat_eq (get_or cs k c).index) (map (λ d. d.index) (take k cs)) ≡ false
rising-apart [] k c h lt = absurd (omega (arith, lt))
rising-apart (d ∷ cs) zero c h lt = refl
rising-apart (d ∷ cs) (suc k) c h lt =
    let low = apart-at d.index cs k c h.0 (omega (arith, lt)) in
    ap (λ b. b || list_any (nat_eq (get_or cs k c).index) (map (λ x. x.index) (take k cs))) (ne_eqb (get_or cs k c).index d.index (λ f. omega (arith, f, low)))
    ∙ rising-apart cs k c h.1 (omega (arith, lt))

-- one constant more
pub names-more : (cs : List Constant) (pairs : List Pair) (k : ℕ) (c : Constant) (keys new : List ℕ) → map pair_of cs ≡ in_order pairs →
    k < length cs → keys ≡ map (λ d. d.index) (take k cs) →
    new ≡ cond (list_any (nat_eq (get_or cs k c).index) keys) keys (keys ++ (get_or cs k c).index ∷ []) → new ≡ map (λ d. d.index) (take (k + 1) cs)
names-more cs pairs k c keys new order lt before made =
    let n = (get_or cs k c).index in
    let rising : AreRising (map pair_of cs) = subst AreRising (sym order) (in_order-rising pairs) in
    let apart : list_any (nat_eq (get_or cs k c).index) keys ≡ false =
    ap (λ (xs : List ℕ). list_any (nat_eq n) xs) before ∙ rising-apart cs k c rising lt in
    made ∙ ap (λ b. cond b keys (keys ++ n ∷ [])) apart ∙ ap (λ xs. xs ++ n ∷ []) before
    ∙ sym (ap (map (λ d. d.index)) (take_more cs k c lt) ∙ map-append (λ d. d.index) (take k cs) (get_or cs k c ∷ []))

-- one formula more
pub conjunction-push : (t : Tree) (us : List Tree) (u : Tree) → conjunction_with t (us ++ u ∷ []) ≡ binary And (conjunction_with t us) u
conjunction-push t [] u = refl
conjunction-push t (v ∷ us) u = conjunction-push (binary And t v) us u

pub places-count-of : (fs : List Tree) → length (problem_of fs).prefix ≡ length (in_order (constants_of_each fs)) + sum (all_lengths fs)
places-count-of fs = places-count fs

pub blocks-count-of : (fs : List Tree) → map (λ b. length b) (form_of (conjunction fs)).blocks ≡ all_lengths fs
blocks-count-of fs = conjunction-lengths fs

pub assertion-at : (trees : List Tree) (ns : List ℕ) → All IsAssertion (map (tree_at trees) ns) → (k d : ℕ) → k < length ns → IsAssertion (tree_at trees (get_or ns k d))
assertion-at trees ns h k d lt =
    subst IsAssertion (get_or-map (tree_at trees) ns k d (Literal BoolSort 0) lt) (h k (Literal BoolSort 0) (omega (arith, lt, length-map ns (tree_at trees))))

pub if-both : {A E : Type 0} (r : Result A E) {P Q R : A → Type 0} → ((x : A) → P x → Q x → R x) → IfOk r P → IfOk r Q → IfOk r R
if-both (Ok x) go h k = go x h k
if-both (Err e) go h k = tt
