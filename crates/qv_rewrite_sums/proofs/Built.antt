-- Terms that are put one after another into a store that grows.
use Rattle.std.proofs.Common.{◌≡◌, ℕ, ◌+◌, ◌<◌, List, [], ◌∷◌, ◌++◌, map, Some, fold, length, get_or, take, ap, sym, ◌∙◌, subst, append-nil}
use Rattle.std.specs.List.{AllByRecursion}
use Rattle.std.proofs.lemmas.List.{take_more, map-append}
use Rattle.std.proofs.lemmas.List.Sums.{fold_push}
use Rattle.qv_words.specs.declared.sort.Sort.{Sort}
use Rattle.qv_words.specs.declared.sort.Sort.TheVariants.{Bits}
use Rattle.qv_words.specs.declared.op.Op.{Op}
use Rattle.qv_words.specs.Rank.{result_sort}
use Rattle.qv_words.specs.Tree.{Tree, tree_sort}
use Rattle.qv_words.specs.Sorted.{IsSorted}
use Rattle.qv_words.specs.Prenex.{binary}
use Rattle.qv_words.proofs.Leaves.{both}
use Rattle.qv_words.specs.Sums.{product_term, sum_term}
use Rattle.qv_store.specs.Nodes.{tree_at}
use Rattle.qv_store.specs.Stores.{AreShared, Grows}
use Rattle.qv_store.proofs.Replacement.{grown-tree}
use Rattle.qv_rewrite_sums.specs.declared.product.Product.{Product}
use Rattle.qv_rewrite_sums.specs.Held.{monomial_at, sum_at, IsWord, AreWords, AreOfWords, StandsAs}
use Rattle.qv_rewrite_sums.proofs.Held.{word-below, at-place, at-mapped, words-factors_below, words-below, fit-words, grown-ids, grown-monomial, grown-sum}
use Rattle.qv_rewrite_sums.proofs.Fitting.{sort-binary, sorted-binary}

pub grows-itself : (trees : List Tree) → Grows trees trees
grows-itself trees = record { more = []; behind = sym (append-nil trees) }

-- an operator's application to two words of a store is sorted
pub words-sorted : (trees : List Tree) (o : Op) (w : ℕ) (s : Sort) (a b : ℕ) → AreShared trees → IsWord w (tree_at trees a) → IsWord w (tree_at trees b) → result_sort o (Bits w ∷ Bits w ∷ []) ≡ Some s → IsSorted (binary o (tree_at trees a) (tree_at trees b))
words-sorted trees o w s a b shared f g rank =
    sorted-binary o (tree_at trees a) (tree_at trees b) s (shared.sorted a (word-below trees w a f)) (shared.sorted b (word-below trees w b g)) (sort-binary o w s (tree_at trees a) (tree_at trees b) f g rank)

-- a word is one in a greater store
pub word-grown : (old new : List Tree) (w n : ℕ) → Grows old new → IsWord w (tree_at old n) → IsWord w (tree_at new n)
word-grown old new w n grows h = ap tree_sort (grown-tree old new grows n (word-below old w n h)) ∙ h

-- one word more joined behind others
pub joined-more : (old now : List Tree) (o : Op) (first : Tree) (rest : List ℕ) (k x term : ℕ) (w : ℕ) → Grows old now → k < length rest → x ≡ get_or rest k x → AreWords w (map (tree_at old) rest) → tree_at now term ≡ fold (binary o) first (map (tree_at old) (take k rest))
    → binary o (tree_at now term) (tree_at now x) ≡ fold (binary o) first (map (tree_at old) (take (k + 1) rest))
joined-more old now o first rest k x term w grows low at words so =
    let own : tree_at now x ≡ tree_at old x = grown-tree old now grows x (word-below old w x (at-mapped (IsWord w) (tree_at old) rest k x words low at)) in
    ap (λ (t : Tree). binary o t (tree_at now x)) so
    ∙ ap (λ (t : Tree). binary o (fold (binary o) first (map (tree_at old) (take k rest))) t) own
    ∙ sym (fold_push (binary o) first (map (tree_at old) (take k rest)) (tree_at old x))
    ∙ sym (ap (fold (binary o) first)
    (ap (map (tree_at old)) (take_more rest k x low ∙ ap (λ (n : ℕ). take k rest ++ n ∷ []) (sym at))
    ∙ map-append (tree_at old) (take k rest) (x ∷ [])))

-- one product's term more behind others
pub record AreTerms (old now : List Tree) (w : ℕ) (ids : List ℕ) (sum : List Product) : Type 0 where
  pub terms : map (tree_at now) ids ≡ map (product_term w) (sum_at old sum)
  pub words : AreWords w (map (tree_at now) ids)

pub product-fits : (old now : List Tree) (w : ℕ) (sum : List Product) (k : ℕ) (x : Product) → Grows old now → k < length sum → x ≡ get_or sum k x → AreOfWords w (sum_at old sum) → monomial_at now x ≡ monomial_at old x
product-fits old now w sum k x grows low at fits =
    grown-monomial old now x grows (at-place (λ (m : Product). AllByRecursion (λ id. id < length old) m.factors.items) sum k x (words-below old w sum (fit-words w (sum_at old sum) fits)) low at)

pub terms-more : (old now new : List Tree) (w k : ℕ) (ids : List ℕ) (id : ℕ) (sum : List Product) (x : Product) → Grows old now → Grows now new → k < length sum → x ≡ get_or sum k x → AreOfWords w (sum_at old sum)
    → AreTerms old now w ids (take k sum) → StandsAs new (Bits w) id (product_term w (monomial_at now x)) → AreTerms old new w (ids ++ id ∷ []) (take (k + 1) sum)
terms-more old now new w k ids id sum x g h low at fits so s =
    let kept : map (tree_at new) ids ≡ map (tree_at now) ids = grown-ids now new ids h (words-factors_below now w ids so.words) in
    let one : tree_at new id ≡ product_term w (monomial_at old x) = s.stands.tree ∙ ap (product_term w) (product-fits old now w sum k x g low at fits) in
    let front : map (tree_at new) ids ≡ map (product_term w) (sum_at old (take k sum)) = kept ∙ so.terms in
    let parts : map (tree_at new) (ids ++ id ∷ []) ≡ map (tree_at new) ids ++ tree_at new id ∷ [] = map-append (tree_at new) ids (id ∷ []) in
    let next : sum_at old (take (k + 1) sum) ≡ sum_at old (take k sum) ++ monomial_at old x ∷ [] =
    ap (sum_at old) (take_more sum k x low ∙ ap (λ (y : Product). take k sum ++ y ∷ []) (sym at)) ∙ map-append (monomial_at old) (take k sum) (x ∷ []) in
    record {
      terms = parts
          ∙ ap (λ (l : List Tree). l ++ tree_at new id ∷ []) front
          ∙ ap (λ (t : Tree). map (product_term w) (sum_at old (take k sum)) ++ t ∷ []) one
          ∙ sym (ap (map (product_term w)) next ∙ map-append (product_term w) (sum_at old (take k sum)) (monomial_at old x ∷ []));
      words = subst (AreWords w) (sym parts)
          (both (IsWord w) (map (tree_at new) ids) (tree_at new id ∷ []) (subst (AreWords w) (sym kept) so.words) (ap tree_sort s.stands.tree ∙ s.sort, tt));
    }

-- two sums' terms, one put after the other
pub second-sum : (old now : List Tree) (w : ℕ) (q : List Product) → Grows old now → AreOfWords w (sum_at old q) → sum_at now q ≡ sum_at old q
second-sum old now w q g fits = grown-sum old now q g (words-below old w q (fit-words w (sum_at old q) fits))

pub two-terms : (old now new : List Tree) (o : Op) (w first second : ℕ) (p q : List Product) → Grows old now → Grows now new → AreOfWords w (sum_at old q) → StandsAs now (Bits w) first (sum_term w (sum_at old p)) → StandsAs new (Bits w) second (sum_term w (sum_at now q))
    → binary o (tree_at new first) (tree_at new second) ≡ binary o (sum_term w (sum_at old p)) (sum_term w (sum_at old q))
two-terms old now new o w first second p q g h fits s t =
    ap (λ (u : Tree). binary o u (tree_at new second)) (grown-tree now new h first s.stands.below ∙ s.stands.tree)
    ∙ ap (λ (u : Tree). binary o (sum_term w (sum_at old p)) u) (t.stands.tree ∙ ap (sum_term w) (second-sum old now w q g fits))
