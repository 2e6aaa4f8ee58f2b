-- What is kept of nodes and lines, by number.
use Rattle.std.proofs.Common.{◌≡◌, ℕ, zero, suc, ◌+◌, ◌<◌, ◌≤◌, ◌==◌, ◌&&◌, ◌||◌, Bool, true, false, cond, Option, Some, None, List, [], ◌∷◌, ◌++◌, length, map, get_or, slice_get, unwrap_or, refl, sym, ap, subst, ◌∙◌, arith}
use Rattle.std.specs.Prelude.{is_some, nat_lt, nat_le, slice_index_or, option_and_then, option_map}
use Rattle.std.specs.List.{list_any, list_all}
use Rattle.std.specs.Option.{option_map_or}
use Rattle.std.proofs.lemmas.Bool.Decides.{nat_tests}
use Rattle.std.proofs.lemmas.List.{length-map}
use Rattle.std.proofs.lemmas.Option.{get_or_from_slice_get, slice_get-get_or}
use Rattle.qv_words.specs.declared.sort.Sort.{Sort}
use Rattle.qv_words.specs.declared.sort.Sort.TheVariants.{Bool as BoolSort}
use Rattle.qv_words.specs.Tree.{Tree, Variable, Literal, Apply, tree_sort, tree_sorts}
use Rattle.qv_words.specs.Sorted.{free_levels}
use Rattle.qv_words.specs.Problem.{Problem}
use Rattle.qv_words.specs.Skolem.{term_of}
use Rattle.qv_words.specs.Expansion.{ExpansionLine, Grown, line_numbered, path_of, grow, grown_behind}
use Rattle.qv_words.proofs.Elements.{get-map, found-at, length-pushed}
use Rattle.qv_store.specs.Nodes.{tree_at}
use Rattle.qv_words.specs.declared.op.Op.{Op}
use Rattle.qv_words.specs.Rank.{result_sort}
use Rattle.qv_words.proofs.Ranks.{few_arguments}
use Rattle.qv_cert.specs.Listed.{Listed as PlainListed}
use Rattle.qv_cert.specs.Listed.{tree_of_node, trees_of_nodes, grown_of, grown_line, eigen_sort}
use Rattle.qv_cert.specs.Faults.{is_node, depth_of, depends_before, has_rank}
use Rattle.qv_cert_nodes.specs.declared.listed.Listed.{Listed}
use Rattle.qv_cert_nodes.specs.declared.listed.Term.{Term}
use Rattle.qv_cert_nodes.specs.declared.listed.Branch.{Branch}
use Rattle.qv_cert_nodes.specs.Lists.{term_in, line_in, listed_in, branch_numbered, depth_in, has_number, reach_of, reach_of_leaves, IsListed}
use Rattle.qv_cert.proofs.Pinned.{less}

-- ---- nodes

pub some-within : {A : Type 0} (xs : List A) (n : ℕ) → is_some (slice_get xs n) ≡ nat_lt n (length xs)
some-within [] n = grind (arith, nat_tests)
some-within (x ∷ xs) zero = grind (arith, nat_tests)
some-within (x ∷ xs) (suc n) = some-within xs n ∙ moved n (length xs)
  where
    moved : (a b : ℕ) → nat_lt a b ≡ nat_lt (suc a) (suc b)
    moved a b = grind (arith, nat_tests)

pub number-there : (trees : List Tree) (a : Listed) (k : ℕ) → has_number a k ≡ is_node (listed_in trees a) k
number-there trees a zero = refl
number-there trees a (suc k) =
    tests k (length a.nodes.items) ∙ sym (some-within (map (tree_at trees) a.nodes.items) k ∙ ap (λ n. nat_lt k n) (length-map a.nodes.items (tree_at trees)))
  where
    tests : (k n : ℕ) → (nat_lt 0 (suc k) && nat_le (suc k) n) ≡ nat_lt k n
    tests k n = grind (arith, nat_tests)

pub numbers-there : (trees : List Tree) (a : Listed) (ks : List ℕ) → list_all (has_number a) ks ≡ list_all (is_node (listed_in trees a)) ks
numbers-there trees a [] = refl
numbers-there trees a (k ∷ ks) =
    ap (λ (b : Bool). b && list_all (has_number a) ks) (number-there trees a k)
    ∙ ap (λ (b : Bool). is_node (listed_in trees a) k && b) (numbers-there trees a ks)

-- the tree of a node
pub node-tree : (trees : List Tree) (a : Listed) (k node id : ℕ) → suc k ≡ node → slice_get a.nodes.items k ≡ Some id → tree_at trees id ≡ tree_of_node (listed_in trees a) node
node-tree trees a k node id e at =
    subst (λ n. tree_at trees id ≡ tree_of_node (listed_in trees a) n) e
    (sym (ap (λ (o : Option Tree). unwrap_or o (Literal BoolSort 0)) (get-map (tree_at trees) a.nodes.items k id at)))

-- its reach
pub node-reach : (trees : List Tree) (p : Problem) (a : Listed) (k node : ℕ) → IsListed trees p a → suc k ≡ node → k < length a.nodes.items
    → slice_index_or a.reaches.items k 0 ≡ reach_of (tree_of_node (listed_in trees a) node)
node-reach trees p a k node h e within =
    let found = found-at a.nodes.items k within in
    let beside : slice_get a.reaches.items k ≡ Some (reach_of (tree_at trees found.0)) =
    ap (λ (xs : List ℕ). slice_get xs k) h.reaches ∙ get-map (λ id. reach_of (tree_at trees id)) a.nodes.items k found.0 found.1 in
    get_or_from_slice_get a.reaches.items k (reach_of (tree_at trees found.0)) 0 beside
    ∙ ap reach_of (node-tree trees a k node found.0 e found.1)

-- ---- terms

pub term-given : (trees : List Tree) (ts : List Term) (j : ℕ) → list_any (λ t. t.place == j) ts ≡ is_some (term_of (map (term_in trees) ts) j)
term-given trees [] j = refl
term-given trees (t ∷ ts) j = go (t.place == j) (term-given trees ts j)
  where
    go : (b : Bool) → list_any (λ t. t.place == j) ts ≡ is_some (term_of (map (term_in trees) ts) j)
        → (b || list_any (λ t. t.place == j) ts) ≡ is_some (cond b (Some (tree_at trees t.id)) (term_of (map (term_in trees) ts) j))
    go true e = refl
    go false e = e

-- ---- lines

pub length-grown : (p : Problem) (grown : List Grown) (lines : List ExpansionLine) → length (grown_behind p grown lines) ≡ length grown + length lines
length-grown p grown [] = omega arith
length-grown p grown (line ∷ lines) = omega (arith, length-grown p (grown ++ grow p grown line ∷ []) lines, length-pushed grown (grow p grown line))

pub length-of : (trees : List Tree) (p : Problem) (a : Listed) → length (grown_of p (listed_in trees a)) ≡ length a.branches.items
length-of trees p a = omega (arith, length-grown p [] (map (line_in trees) a.branches.items), length-map a.branches.items (line_in trees))

pub line-there : (trees : List Tree) (p : Problem) (a : Listed) (line : ℕ) → nat_le line (length a.branches.items) ≡ is_some (grown_line p (listed_in trees a) line)
line-there trees p a zero = least (length a.branches.items)
  where
    least : (n : ℕ) → nat_le 0 n ≡ true
    least n = grind (arith, nat_tests)
line-there trees p a (suc k) =
    tests k (length a.branches.items) ∙ ap (λ n. nat_lt k n) (sym (length-of trees p a)) ∙ sym (some-within (grown_of p (listed_in trees a)) k)
  where
    tests : (k n : ℕ) → nat_le (suc k) n ≡ nat_lt k n
    tests k n = grind (arith, nat_tests)

none-without : {A : Type 0} (xs : List A) (n : ℕ) → slice_get xs n ≡ None → length xs ≤ n
none-without [] n e = omega arith
none-without (x ∷ xs) zero e = absurd cc
none-without (x ∷ xs) (suc n) e = omega (arith, none-without xs n e)

without-none : {A : Type 0} (xs : List A) (n : ℕ) → length xs ≤ n → slice_get xs n ≡ None
without-none [] n h = refl
without-none (x ∷ xs) zero h = absurd (omega (arith, h))
without-none (x ∷ xs) (suc n) h = without-none xs n (omega (arith, h))

-- a line that isn't there, or the root
none-grown : (trees : List Tree) (p : Problem) (a : Listed) (k : ℕ) → slice_get a.branches.items k ≡ None → slice_get (grown_of p (listed_in trees a)) k ≡ None
none-grown trees p a k e = without-none (grown_of p (listed_in trees a)) k (omega (arith, length-of trees p a, none-without a.branches.items k e))

pub depth-none : (trees : List Tree) (p : Problem) (a : Listed) (line : ℕ) → None ≡ branch_numbered a line → 0 ≡ depth_of p (listed_in trees a) line
depth-none trees p a zero e = refl
depth-none trees p a (suc k) e = sym (ap (λ (o : Option Grown). option_map_or (λ g. length g.path) o 0) (none-grown trees p a k (sym e)))

pub depth-path : (o : Option Grown) → length (path_of o) ≡ option_map_or (λ g. length g.path) o 0
depth-path None = refl
depth-path (Some g) = refl

pub depth-some : (trees : List Tree) (p : Problem) (a : Listed) (line : ℕ) (b : Branch) → IsListed trees p a → Some b ≡ branch_numbered a line → b.depth ≡ depth_of p (listed_in trees a) line
depth-some trees p a zero b h e = absurd cc
depth-some trees p a (suc k) b h e =
    let own = h.branches k b (sym e) in
    own.depth
    ∙ sym (length-pushed (path_of (line_numbered (grown_of p (listed_in trees a)) b.parent)) (tree_at trees b.id))
    ∙ sym (ap (λ (o : Option Grown). length (path_of o)) own.grown_is)
    ∙ depth-path (slice_get (grown_of p (listed_in trees a)) k)

-- a line's depth is how long its path is
pub depth-kept : (trees : List Tree) (p : Problem) (a : Listed) (line : ℕ) → IsListed trees p a → depth_in a line ≡ length (path_of (line_numbered (grown_of p (listed_in trees a)) line))
depth-kept trees p a zero h = refl
depth-kept trees p a (suc k) h = go (slice_get a.branches.items k) refl
  where
    go : (o : Option Branch) → slice_get a.branches.items k ≡ o → depth_in a (suc k) ≡ length (path_of (slice_get (grown_of p (listed_in trees a)) k))
    go None e = rw (e, none-grown trees p a k e) refl
    go (Some b) e =
        let own = h.branches k b e in
        rw (e, own.grown_is) (own.depth ∙ sym (length-pushed (path_of (line_numbered (grown_of p (listed_in trees a)) b.parent)) (tree_at trees b.id)))

pub eigen-none : (trees : List Tree) (p : Problem) (a : Listed) (line : ℕ) → None ≡ branch_numbered a line → false ≡ is_some (eigen_sort p (listed_in trees a) line)
eigen-none trees p a zero e = refl
eigen-none trees p a (suc k) e = sym (ap (λ (o : Option Grown). is_some (option_and_then (λ g. g.eigen) o)) (none-grown trees p a k (sym e)))

pub eigen-some : (trees : List Tree) (p : Problem) (a : Listed) (line : ℕ) (b : Branch) → IsListed trees p a → Some b ≡ branch_numbered a line → b.is_eigen ≡ is_some (eigen_sort p (listed_in trees a) line)
eigen-some trees p a zero b h e = absurd cc
eigen-some trees p a (suc k) b h e =
    let own = h.branches k b (sym e) in
    sym (ap (λ (o : Option Grown). is_some (option_and_then (λ g. g.eigen) o)) own.grown_is ∙ go b.is_eigen own.own)
  where
    go : (x : Bool) → (x ≡ true → (s : Sort) × (tree_at trees b.id ≡ Variable (suc k) s)) → is_some (cond x (tree_sort (tree_at trees b.id)) None) ≡ x
    go false own = refl
    go true own = let v = own refl in ap (λ (t : Tree). is_some (tree_sort t)) v.1

-- what stands at a place
pub found-there : {A : Type 0} (xs : List A) (n : ℕ) (x : A) → n < length xs → x ≡ get_or xs n x → slice_get xs n ≡ Some x
found-there xs n x h e = slice_get-get_or xs n x h ∙ ap Some (sym e)

-- ---- dependence

reach-all : (j : ℕ) (leaves : List (ℕ × Sort)) → reach_of_leaves leaves ≤ j → list_all (λ leaf. nat_lt leaf.0 j) leaves ≡ true
reach-all j [] h = refl
reach-all j (leaf ∷ leaves) h =
    let first : nat_lt leaf.0 j ≡ true = below leaf.0 j (omega (arith, h)) in
    rw (first, reach-all j leaves (omega (arith, h))) refl
  where
    below : (a b : ℕ) → a < b → nat_lt a b ≡ true
    below a b e = grind (arith, nat_tests)

-- the first test fails, or another does
one-fails : (a b : Bool) → (a ≡ true → b ≡ false) → (a && b) ≡ false
one-fails true b h = h refl
one-fails false b h = refl

reach-not : (j : ℕ) (leaves : List (ℕ × Sort)) → j < reach_of_leaves leaves → list_all (λ leaf. nat_lt leaf.0 j) leaves ≡ false
reach-not j [] h = absurd (omega (arith, h))
reach-not j (leaf ∷ leaves) h =
    one-fails (nat_lt leaf.0 j) (list_all (λ l. nat_lt l.0 j) leaves) (λ e. reach-not j leaves (omega (arith, h, less leaf.0 j e)))

pub depends : (j reach : ℕ) (t : Tree) → reach ≡ reach_of t → reach ≤ j → true ≡ depends_before j t
depends j reach t e h = sym (reach-all j (free_levels t) (omega (arith, e, h)))

pub depends-not : (j reach : ℕ) (t : Tree) → reach ≡ reach_of t → j < reach → false ≡ depends_before j t
depends-not j reach t e h = sym (reach-not j (free_levels t) (omega (arith, e, h)))

-- ---- ranks

many-sorts : (l : PlainListed) (ks : List ℕ) (sorts : List Sort) → tree_sorts (trees_of_nodes l ks) ≡ Some sorts → length sorts ≡ length ks
many-sorts l [] [] e = refl
many-sorts l [] (s ∷ sorts) e = absurd cc
many-sorts l (k ∷ ks) sorts e = go (tree_sort (tree_of_node l k)) (tree_sorts (trees_of_nodes l ks)) (λ more is. many-sorts l ks more is) refl e
  where
    go : (o : Option Sort) (os : Option (List Sort)) → ((more : List Sort) → os ≡ Some more → length more ≡ length ks) → os ≡ os
        → option_and_then (λ s. option_map (λ more. s ∷ more) os) o ≡ Some sorts → length sorts ≡ length (k ∷ ks)
    go None os h same is = absurd cc
    go (Some s) None h same is = absurd cc
    go (Some s) (Some more) h same is = let front : s ∷ more ≡ sorts = cc in sym (ap length front) ∙ ap suc (h more refl)

-- more than three have none
pub no-rank : (o : Op) (l : PlainListed) (ks : List ℕ) → 3 < length ks → false ≡ has_rank (Apply o (trees_of_nodes l ks))
no-rank o l ks many = go (tree_sorts (trees_of_nodes l ks)) (λ sorts e. many-sorts l ks sorts e)
  where
    go : (os : Option (List Sort)) → ((sorts : List Sort) → os ≡ Some sorts → length sorts ≡ length ks) → false ≡ is_some (option_and_then (result_sort o) os)
    go None h = refl
    go (Some sorts) h = sym (ap is_some (few_arguments o sorts (omega (arith, many, h sorts refl))))
