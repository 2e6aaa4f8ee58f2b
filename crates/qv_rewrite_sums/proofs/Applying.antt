-- What the steps of applications, their arguments and their terms need of sums in a store.
use Rattle.std.proofs.Common.{◌≡◌, ℕ, ◌^◌, ◌<◌, ◌≤◌, ◌==◌, false, Option, Some, None, List, [], ◌∷◌, ◌++◌, length, get_or, refl, ap, sym, ◌∙◌, subst, arith}
use Rattle.std.specs.Prelude.{Result, Ok, Err, IfOk, IsSome, All, option_map}
use Rattle.std.specs.List.{AllByRecursion, AllZip}
use Rattle.std.proofs.lemmas.List.Elements.{All-from_recursion}
use Rattle.smallvec.specs.SmallVec.{SmallVec}
use Rattle.qv_words.specs.declared.sort.Sort.TheVariants.{Bool}
use Rattle.qv_words.specs.declared.op.Op.{Op}
use Rattle.qv_words.specs.declared.op.Op.TheVariants.{BvNot, BvNeg, BvAdd, BvSub, BvMul, BvShl}
use Rattle.qv_words.specs.declared.word.Word.{Word}
use Rattle.qv_words.specs.Tree.{Tree, Trees, Literal, Apply, tree_sort}
use Rattle.qv_words.specs.Sorted.{IsSorted, AreSortedBelow, no_levels}
use Rattle.qv_words.specs.Prenex.{binary}
use Rattle.qv_words.specs.Sums.{Polynomial, atom, opposite, combined, sum_term, difference_term, term_of, terms_of, polynomial, polynomials, summed}
use Rattle.qv_store.specs.declared.node.Node.{Node}
use Rattle.qv_store.specs.declared.node.Node.TheVariants.{Const, Var, Lit, App, Ex}
use Rattle.qv_store.specs.declared.node.Node.TheVariants.{All as AllNode}
use Rattle.qv_store.specs.Nodes.{tree_at, trees_at, node_tree, children, HasChildrenBelow}
use Rattle.qv_store.specs.Stores.{AreShared, StandsAt}
use Rattle.qv_store.specs.Walks.{IsEarlier}
use Rattle.qv_store.proofs.Passes.{walk-kids}
use Rattle.qv_rewrite_sums.specs.declared.product.Product.{Product}
use Rattle.qv_rewrite_sums.specs.Held.{sum_at, modulo, short_raw, AreBelow, IsSumOf, IsNext, IsApplication}
use Rattle.qv_rewrite_sums.proofs.Fitting.{bits-are, sum-fits, sums-fit, atom-stands, with-terms_sort}
use Rattle.qv_rewrite_sums.proofs.Rebuilding.{IsTermOf, single, zip-terms, zip-below}

-- two things that hold of a value that is there
pub if-ok_two : {A E : Type 0} (r : Result A E) {P Q R : A → Type 0} → ((x : A) → P x → Q x → R x) → IfOk r P → IfOk r Q → IfOk r R
if-ok_two (Ok x) go h k = go x h k
if-ok_two (Err e) go h k = h

-- a sum less another, where both have products
pub both-stand : (trees : List Tree) (w : ℕ) (p q : List Product) → (length p == 0) ≡ false → (length q == 0) ≡ false → binary BvSub (sum_term w (sum_at trees p)) (sum_term w (sum_at trees q)) ≡ difference_term w (sum_at trees p) (sum_at trees q)
both-stand trees w [] q h k = absurd (cc)
both-stand trees w (m ∷ p) [] h k = absurd (cc)
both-stand trees w (m ∷ p) (n ∷ q) h k = refl

-- what has neither one argument nor two is no sum
none-combined : (o : Op) (w : ℕ) → combined o w [] ≡ None
none-combined BvAdd w = refl
none-combined BvSub w = refl
none-combined BvNeg w = refl
none-combined BvNot w = refl
none-combined BvMul w = refl
none-combined BvShl w = refl
none-combined o w = refl

many-combined : (o : Op) (w : ℕ) (p q r : Polynomial) (ps : List Polynomial) → combined o w (p ∷ q ∷ r ∷ ps) ≡ None
many-combined BvAdd w p q r ps = refl
many-combined BvSub w p q r ps = refl
many-combined BvNeg w p q r ps = refl
many-combined BvNot w p q r ps = refl
many-combined BvMul w p q r ps = refl
many-combined BvShl w p q r ps = refl
many-combined o w p q r ps = refl

pub none-raw : (trees : List Tree) (o : Op) (w : ℕ) (kids : List ℕ) → length kids < 1 → None ≡ option_map (modulo (2 ^ w)) (short_raw (combined o w (polynomials (trees_at trees kids))))
none-raw trees o w [] low = ap (λ (q : Option Polynomial). option_map (modulo (2 ^ w)) (short_raw q)) (sym (none-combined o w))
none-raw trees o w (k ∷ ks) low = absurd (omega (arith, low))

pub many-raw : (trees : List Tree) (o : Op) (w : ℕ) (kids : List ℕ) → 3 ≤ length kids → None ≡ option_map (modulo (2 ^ w)) (short_raw (combined o w (polynomials (trees_at trees kids))))
many-raw trees o w [] many = absurd (omega (arith, many))
many-raw trees o w (a ∷ []) many = absurd (omega (arith, many))
many-raw trees o w (a ∷ b ∷ []) many = absurd (omega (arith, many))
many-raw trees o w (a ∷ b ∷ k ∷ ks) many =
    ap (λ (q : Option Polynomial). option_map (modulo (2 ^ w)) (short_raw q)) (sym (many-combined o w (polynomial (tree_at trees a)) (polynomial (tree_at trees b)) (polynomial (tree_at trees k)) (polynomials (trees_at trees ks))))

-- the terms that stand in a store are sorted
sorted-each : (trees : List Tree) (ids : List ℕ) → AreShared trees → AllByRecursion (λ n. n < length trees) ids → AreSortedBelow no_levels (trees_at trees ids)
sorted-each trees [] shared h = tt
sorted-each trees (n ∷ ns) shared h = (shared.sorted n h.0, sorted-each trees ns shared h.1)

-- an application over the terms of its arguments' sums is sorted
pub rebuilt-sorted : (old now : List Tree) (o : Op) (kids terms : List ℕ) → AreShared now → IsSorted (Apply o (trees_at old kids)) → AllZip (IsTermOf old now) kids terms → IsSorted (Apply o (trees_at now terms))
rebuilt-sorted old now o kids terms shared sorted zip =
    let ts = trees_at old kids in
    let own : trees_at now terms ≡ terms_of ts (polynomials ts) = zip-terms old now kids terms zip in
    let sort : tree_sort (Apply o (trees_at now terms)) ≡ tree_sort (Apply o ts) = ap (λ (us : Trees). tree_sort (Apply o us)) own ∙ with-terms_sort o ts (polynomials ts) sorted.0 (sums-fit ts sorted.0) in
    (sorted-each now terms shared (zip-below old now kids terms zip), subst IsSome (sym sort) sorted.1)

-- the one factor of a truth value's sum is its term
pub truth-stands : (trees : List Tree) (t : Tree) (p : List Product) (m : Product) (ids : List ℕ) (n : ℕ) → IsSorted t → tree_sort t ≡ Some Bool → IsSumOf trees t p → m ≡ get_or p 0 m → ids ≡ m.factors.items → n ≡ get_or ids 0 n → StandsAt trees n (summed t)
truth-stands trees t p m ids n sorted is held at same own =
    let fit = sum-fits t Bool sorted is in
    let one = single trees p fit.0 (held.sum ∙ fit.1) in
    let product : m ≡ one.product = at ∙ ap (λ (ps : List Product). get_or ps 0 m) one.products_are in
    let items : ids ≡ one.factor ∷ [] = same ∙ ap (λ (k : Product). k.factors.items) product ∙ one.factors_are in
    let number : n ≡ one.factor = own ∙ ap (λ (ns : List ℕ). get_or ns 0 n) items in
    let below : AreBelow (length trees) (one.product ∷ []) = subst (AreBelow (length trees)) one.products_are held.below in
    let low : AllByRecursion (λ id. id < length trees) (one.factor ∷ []) = subst (AllByRecursion (λ id. id < length trees)) one.factors_are below.0 in
    let sum : summed t ≡ fit.0 = ap (λ (w : ℕ). term_of w (polynomial t)) (bits-are t Bool is) ∙ atom-stands (polynomial t) fit.0 fit.1 in
    record { below = subst (λ (k : ℕ). k < length trees) (sym number) low.0; tree = ap (tree_at trees) number ∙ one.tree ∙ sym sum }

-- the difference of two sums that were found
pub sides-raw : (trees : List Tree) (w : ℕ) (s t : Tree) (first second raw lent : List Product) → IsSumOf trees s first → IsSumOf trees t second → sum_at trees raw ≡ modulo (2 ^ w) (sum_at trees first ++ opposite w (sum_at trees second)) → lent ≡ raw
    → sum_at trees lent ≡ modulo (2 ^ w) (polynomial s ++ opposite w (polynomial t))
sides-raw trees w s t first second raw lent f g is own =
    ap (sum_at trees) own ∙ is
    ∙ ap (λ (p : Polynomial). modulo (2 ^ w) (p ++ opposite w (sum_at trees second))) f.sum
    ∙ ap (λ (q : Polynomial). modulo (2 ^ w) (polynomial s ++ opposite w q)) g.sum

-- the next term of a walk, where it is an application
pub next-application : (trees : List Tree) (ids : List ℕ) (sums : List (List Product)) (n : ℕ) (node : Node) (o : Op) (kids : List ℕ) → IsNext trees ids sums n → AreShared trees → n < length trees → node_tree trees node ≡ tree_at trees n → HasChildrenBelow n node
    → children node ≡ kids → tree_at trees n ≡ Apply o (trees_at trees kids) → IsApplication trees ids sums o kids
next-application trees ids sums n node o kids next shared low tree below are is = record {
  walk = next.walk;
  found = next.found;
  kids_earlier = subst (All (IsEarlier ids (length sums))) are (All-from_recursion (IsEarlier ids (length sums)) (children node) (walk-kids trees ids shared next.walk (length sums) n node next.at tree below));
  kids_below = subst (All (λ (k : ℕ). k < length trees)) are (λ k d h. omega (arith, below k d h, low));
  sorted = subst IsSorted is (shared.sorted n low);
}

-- any other than a literal and an application is a sum of itself alone
pub leaf-held : (trees : List Tree) (t : Tree) (node : Node) (p : List Product) → node_tree trees node ≡ t → ((v : Word) → node ≡ Lit v → ⊥) → ((o : Op) → (kids : SmallVec ℕ) → node ≡ App o kids → ⊥) → sum_at trees p ≡ atom t → AreBelow (length trees) p → IsSumOf trees t p
leaf-held trees t (Const i s) p tree none other is below = record { sum = is ∙ ap atom (sym tree) ∙ ap polynomial tree; below = below }
leaf-held trees t (Var l s) p tree none other is below = record { sum = is ∙ ap atom (sym tree) ∙ ap polynomial tree; below = below }
leaf-held trees t (Lit w) p tree none other is below = absurd (none w refl)
leaf-held trees t (App o kids) p tree none other is below = absurd (other o kids refl)
leaf-held trees t (AllNode l s body) p tree none other is below = record { sum = is ∙ ap atom (sym tree) ∙ ap polynomial tree; below = below }
leaf-held trees t (Ex l s body) p tree none other is below = record { sum = is ∙ ap atom (sym tree) ∙ ap polynomial tree; below = below }

-- a truth value's literal is a sum of itself alone
pub truth-held : (trees : List Tree) (t : Tree) (n : ℕ) (p : List Product) → t ≡ Literal Bool n → sum_at trees p ≡ atom t → AreBelow (length trees) p → IsSumOf trees t p
truth-held trees t n p tree is below = record { sum = is ∙ ap atom tree ∙ ap polynomial (sym tree); below = below }
