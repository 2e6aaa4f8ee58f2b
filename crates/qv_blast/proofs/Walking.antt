-- The nodes of a walk, one after the other.
use Rattle.std.proofs.Common.{◌≡◌, ℕ, zero, suc, ◌+◌, ◌<◌, ◌≤◌, List, [], ◌∷◌, map, length, get_or, take, drop, refl, sym, ap, ◌∙◌, subst, arith, add-one}
use Rattle.std.specs.List.{AllByRecursion}
use Rattle.std.proofs.lemmas.List.{length-map, take_all}
use Rattle.qv_words.specs.Tree.{Tree, Trees, Constant, Variable, Literal, Apply, ForAll, Exists, Nil, Cons, IsQuantifierFree, AreQuantifierFree}
use Rattle.qv_words.specs.Clauses.{Blasted, Blasting, new_nodes, with_each_node, with_node, with_nodes}
use Rattle.qv_cnf.specs.Literal.{Literal as CnfLiteral}
use Rattle.qv_circuits_laws.proofs.Growing.{nodes-add}
use Rattle.qv_store.specs.Nodes.{tree_at}
use Rattle.qv_store.specs.Stores.{children_of}
use Rattle.qv_store.specs.Walks.{IsBehind, named, with_subtrees}
use Rattle.qv_store.proofs.Passes.{EachTree, each-subtree}
use Rattle.qv_blast.specs.Blasters.{blasted_at, blasting_of, Listed}
use Rattle.qv_blast.proofs.Lookups.{blasted-length, blasted-longer, blasted-trees}

-- the trees from a place on
pub named-from : (trees : List Tree) (ids : List ℕ) (i : ℕ) → i < length ids → drop i (named trees ids) ≡ tree_at trees (get_or ids i 0) ∷ drop (i + 1) (named trees ids)
named-from trees [] i h = absurd (omega (arith, h))
named-from trees (n ∷ ns) zero h = refl
named-from trees (n ∷ ns) (suc i) h = rw add-one (ap (λ (r : List Tree). r) (named-from trees ns i (omega (arith, h)) ∙ ap (λ (k : ℕ). tree_at trees (get_or ns i 0) ∷ drop k (named trees ns)) (add-one i)))

-- one more node
pub each-next : (trees : List Tree) (ids : List ℕ) (i : ℕ) (b d : Blasting) → i < length ids → d ≡ with_node b (tree_at trees (get_or ids i 0)) → with_each_node b (drop i (named trees ids)) ≡ with_each_node d (drop (i + 1) (named trees ids))
each-next trees ids i b d h e = ap (with_each_node b) (named-from trees ids i h) ∙ ap (λ (x : Blasting). with_each_node x (drop (i + 1) (named trees ids))) (sym e)

pub each-end : (trees : List Tree) (ids : List ℕ) (i : ℕ) (b : Blasting) → length ids ≤ i → with_each_node b (drop i (named trees ids)) ≡ b
each-end trees [] zero b h = refl
each-end trees [] (suc i) b h = refl
each-end trees (n ∷ ns) zero b h = absurd (omega (arith, h))
each-end trees (n ∷ ns) (suc i) b h = each-end trees ns i b (omega (arith, h))

-- later nodes take more variables
pub each-more : (trees : List Tree) (ids : List ℕ) (i : ℕ) (b : Blasting) → i < length ids → (with_node b (tree_at trees (get_or ids i 0))).next ≤ (with_each_node b (drop i (named trees ids))).next
each-more trees ids i b h =
    let d : Blasting = with_node b (tree_at trees (get_or ids i 0)) in
    let same = ap (λ (x : Blasting). x.next) (each-next trees ids i b d h refl) in
    let adds = (nodes-add d (drop (i + 1) (named trees ids))).1 in
    omega (arith, same, adds)

-- what a tree without quantifiers hands on
each-free : (ts : Trees) → AreQuantifierFree ts → EachTree IsQuantifierFree ts
each-free Nil h = tt
each-free (Cons t ts) h = (h.0, each-free ts h.1)

pub hands-on : (t : Tree) → IsQuantifierFree t → EachTree IsQuantifierFree (children_of t)
hands-on (Constant i s) h = tt
hands-on (Variable l s) h = tt
hands-on (Literal s n) h = tt
hands-on (Apply o args) h = each-free args h
hands-on (ForAll l s body) h = absurd h
hands-on (Exists l s body) h = absurd h

free-to : (trees : List Tree) (ids : List ℕ) → ((i : ℕ) → i < length ids → IsQuantifierFree (tree_at trees (get_or ids i 0))) → AllByRecursion IsQuantifierFree (named trees ids)
free-to trees [] h = tt
free-to trees (n ∷ ns) h = (h 0 (omega arith), free-to trees ns (λ i k. h (suc i) (omega (arith, k))))

free-from : (trees : List Tree) (ids : List ℕ) → AllByRecursion IsQuantifierFree (named trees ids) → (i : ℕ) → i < length ids → IsQuantifierFree (tree_at trees (get_or ids i 0))
free-from trees [] h i k = absurd (omega (arith, k))
free-from trees (n ∷ ns) h zero k = h.0
free-from trees (n ∷ ns) h (suc i) k = free-from trees ns h.1 i (omega (arith, k))

pub walk-free : (trees : List Tree) (old new : List ℕ) (t : Tree) → ((i : ℕ) → i < length old → IsQuantifierFree (tree_at trees (get_or old i 0))) → IsQuantifierFree t → named trees new ≡ with_subtrees (named trees old) t →
    (i : ℕ) → i < length new → IsQuantifierFree (tree_at trees (get_or new i 0))
walk-free trees old new t h f e =
    free-from trees new (subst (AllByRecursion IsQuantifierFree) (sym e) (each-subtree IsQuantifierFree hands-on (named trees old) t (free-to trees old h) f))

-- a walk that went on leaves the bits
pub same-behind : (trees : List Tree) (old new : List ℕ) (bits : List (List CnfLiteral)) (s : Listed) → length bits ≤ length old → IsBehind old new → blasting_of trees new bits s ≡ blasting_of trees old bits s
same-behind trees old new bits s few b =
    let known : blasted_at trees new bits ≡ blasted_at trees old bits = ap (λ (ns : List ℕ). blasted_at trees ns bits) b.behind ∙ blasted-longer trees old b.more bits few in
    rw known refl

-- the new nodes of a tree are those from there on
pub new-named : (trees : List Tree) (old new : List ℕ) (bits : List (List CnfLiteral)) (t : Tree) → length bits ≡ length old → named trees new ≡ with_nodes (named trees old) t → new_nodes (blasted_at trees old bits) t ≡ drop (length bits) (named trees new)
new-named trees old new bits t all e =
    let few : length bits ≤ length old = omega (arith, all) in
    let count : length (blasted_at trees old bits) ≡ length bits = blasted-length trees old bits few in
    let whole : take (length bits) (named trees old) ≡ named trees old = take_all (length bits) (named trees old) (omega (arith, all, length-map old (tree_at trees))) in
    let seen : map (λ (k : Blasted). k.tree) (blasted_at trees old bits) ≡ named trees old = blasted-trees trees old bits few ∙ whole in
    rw (count, seen) (ap (drop (length bits)) (sym e))

-- fronts of fronts
take-front : {X : Type 0} (m n : ℕ) (xs : List X) → m ≤ n → take m (take n xs) ≡ take m xs
take-front zero n xs h = refl
take-front (suc m) zero xs h = absurd (omega (arith, h))
take-front (suc m) (suc n) [] h = refl
take-front {X} (suc m) (suc n) (x ∷ xs) h = ap (λ (r : List X). x ∷ r) (take-front m n xs (omega (arith, h)))

pub front-then : {X : Type 0} (old cur new : List X) → length old ≤ length cur → take (length old) cur ≡ old → take (length cur) new ≡ cur → take (length old) new ≡ old
front-then old cur new h f g = sym (take-front (length old) (length cur) new h) ∙ ap (take (length old)) g ∙ f
