-- One more node of a walk.
use Rattle.std.proofs.Common.{◌≡◌, ℕ, zero, suc, ◌+◌, ◌<◌, All, List, [], ◌∷◌, ◌++◌, map, length, get_or, refl, sym, ap, ◌∙◌, subst, arith, append-nil}
use Rattle.std.specs.List.{AllZip}
use Rattle.std.proofs.lemmas.List.Elements.{All-from_recursion}
use Rattle.std.proofs.lemmas.Option.{slice_get-get_or}
use Rattle.qv_words.specs.Sort.{IsLawful, width_of}
use Rattle.qv_words.specs.Tree.{Tree, Trees, Apply, tree_sort, IsQuantifierFree}
use Rattle.qv_words.specs.Sorted.{IsSorted}
use Rattle.qv_words.specs.Gate.{Lit}
use Rattle.qv_words.specs.Clauses.{Blasted, Blasting, with_node}
use Rattle.qv_words.proofs.Ranks.{found, rank_parts}
use Rattle.qv_cnf.specs.Literal.{Literal}
use Rattle.qv_circuits.specs.Adding.{lits_of}
use Rattle.qv_circuits_laws.specs.CircuitLaws.{IsWord}
use Rattle.qv_circuits_laws.specs.Standing.{Stands}
use Rattle.qv_circuits_laws.proofs.Standing.{HasArgs, HasEach, each-lawful, each-words, node-steps}
use Rattle.qv_circuits_laws.proofs.Formed.{circuits-formed}
use Rattle.qv_circuits_laws.proofs.Grounds.{trees-have_sorts}
use Rattle.qv_store.specs.declared.node.Node.{Node}
use Rattle.qv_store.specs.declared.node.Node.TheVariants.{Const, Var, Lit as LitNode, App, Ex}
use Rattle.qv_store.specs.declared.node.Node.TheVariants.{All as AllNode}
use Rattle.qv_store.specs.Nodes.{children, node_tree, tree_at, trees_at, HasChildrenBelow}
use Rattle.qv_store.specs.Stores.{AreShared}
use Rattle.qv_store.proofs.Passes.{walk-kids}
use Rattle.qv_store.specs.Walks.{IsEarlier, IsWalk}
use Rattle.qv_blast.specs.Blasters.{AreFound, blasted_at, blasting_of, clauses_in, IsUnbound, Listed, MakesNode, MayHaveBits, WantsMore}
use Rattle.qv_blast.proofs.Lookups.{blasted-more, found-bits, found-each}
use Rattle.qv_circuits_laws.proofs.Clausing.{zip-lengths}

pub same-blasting : (n m : ℕ) (ks js : List Blasted) (cs ds : List (List Lit)) → n ≡ m → ks ≡ js → cs ≡ ds → record { next = n; known = ks; clauses = cs } ≡ (let b : Blasting = record { next = m; known = js; clauses = ds } in b)
same-blasting n m ks js cs ds e f g = rw (e, f, g) refl

-- a node's bits and clauses are those of the definition
module _ (trees : List Tree) (ids : List ℕ) (bits : List (List Literal)) (s t : Listed) (made : List Literal) (walk : IsWalk trees ids) (more : length bits < length ids) where
  known-more : (u : Tree) (x : List Lit) → tree_at trees (get_or ids (length bits) 0) ≡ u → lits_of made ≡ x → blasted_at trees ids (bits ++ made ∷ []) ≡ blasted_at trees ids bits ++ record { tree = u; bits = x } ∷ []
  known-more u x e f = blasted-more trees ids bits made more ∙ ap (λ (k : Tree × List Lit). blasted_at trees ids bits ++ record { tree = k.0; bits = k.1 } ∷ []) (pair e f)
    where
      pair : tree_at trees (get_or ids (length bits) 0) ≡ u → lits_of made ≡ x → (tree_at trees (get_or ids (length bits) 0), lits_of made) ≡ (let p : Tree × List Lit = (u, x) in p)
      pair e f = rw (e, f) refl

  pub steps-node : (node : Node) → node_tree trees node ≡ tree_at trees (get_or ids (length bits) 0) → IsUnbound node → MakesNode ids bits node s (lits_of made) t →
      blasting_of trees ids (bits ++ made ∷ []) t ≡ with_node (blasting_of trees ids bits s) (node_tree trees node)
  steps-node (Const i r) e u m = same-blasting _ _ _ _ _ _ m.makes.variables (known-more _ _ (sym e) m.makes.bits_are) (m.makes.clauses ∙ append-nil (clauses_in s.list))
  steps-node (Var l r) e u m = same-blasting _ _ _ _ _ _ m.makes.variables (known-more _ _ (sym e) m.makes.bits_are) (m.makes.clauses ∙ append-nil (clauses_in s.list))
  steps-node (LitNode w) e u m = same-blasting _ _ _ _ _ _ m.makes.variables (known-more _ _ (sym e) m.makes.bits_are) (m.makes.clauses ∙ append-nil (clauses_in s.list))
  steps-node (App o kids) e u m =
      let each = found-each trees ids bits kids.items m.args walk m.found in
      rw each (same-blasting _ _ _ _ _ _ m.makes.variables (known-more _ _ (sym e) m.makes.bits_are) m.makes.clauses)
  steps-node (AllNode l r body) e u m = absurd u
  steps-node (Ex l r body) e u m = absurd u

-- the children of a node have bits of their sorts
module _ (trees : List Tree) (ids : List ℕ) (bits : List (List Literal)) (s : Listed) (walk : IsWalk trees ids) where
  has-each : (kids : List ℕ) (args : List (List Literal)) → AreFound ids bits kids args → HasEach (blasting_of trees ids bits s) (trees_at trees kids)
  has-each [] [] f = tt
  has-each [] (a ∷ as') f = absurd f
  has-each (k ∷ ks) [] f = absurd f
  has-each (k ∷ ks) (a ∷ as') f = ((lits_of a, found-bits trees ids bits k a walk f.0), has-each ks as' f.1)

-- so an operator has its rank
pub may-node : (trees : List Tree) (ids : List ℕ) (bits : List (List Literal)) (s : Listed) → IsWalk trees ids → Stands (blasting_of trees ids bits s) → (node : Node) → IsSorted (node_tree trees node) → IsUnbound node → (args : List (List Literal)) → AreFound ids bits (children node) args → MayHaveBits node args
may-node trees ids bits s walk st (Const i r) sorted u args f = tt
may-node trees ids bits s walk st (Var l r) sorted u args f = tt
may-node trees ids bits s walk st (LitNode w) sorted u args f = tt
may-node trees ids bits s walk st (App o kids) sorted u args f =
    let ts : Trees = trees_at trees kids.items in
    let r = found (tree_sort (Apply o ts)) sorted.1 in
    let p = rank_parts o ts r.0 r.1 in
    let words = each-words (blasting_of trees ids bits s) ts p.0 st (has-each trees ids bits s walk kids.items args f) p.1 in
    let each = found-each trees ids bits kids.items args walk f in
    record {
      sorts = p.0;
      result = r.0;
      lawful = All-from_recursion IsLawful p.0 (each-lawful trees-have_sorts ts p.0 sorted.0 p.1);
      rank = p.2;
      widths = zip-lengths s.next (map lits_of args) p.0 (subst (λ (bs : List (List Lit)). AllZip (λ bits sort. IsWord (width_of sort) s.next bits) bs p.0) each words);
    }
may-node trees ids bits s walk st (AllNode l r body) sorted u args f = absurd u
may-node trees ids bits s walk st (Ex l r body) sorted u args f = absurd u

-- a node of a tree without quantifiers
pub unbound-node : (trees : List Tree) (node : Node) → IsQuantifierFree (node_tree trees node) → IsUnbound node
unbound-node trees (Const i r) h = tt
unbound-node trees (Var l r) h = tt
unbound-node trees (LitNode w) h = tt
unbound-node trees (App o kids) h = tt
unbound-node trees (AllNode l r body) h = h
unbound-node trees (Ex l r body) h = h

-- its children are in the walk before it
pub earlier-kids : (trees : List Tree) (ids : List ℕ) (i : ℕ) (node : Node) → AreShared trees → IsWalk trees ids → i < length ids → node_tree trees node ≡ tree_at trees (get_or ids i 0) → HasChildrenBelow (get_or ids i 0) node → All (IsEarlier ids i) (children node)
earlier-kids trees ids i node shared walk h e kids =
    All-from_recursion (IsEarlier ids i) (children node) (walk-kids trees ids shared walk i (get_or ids i 0) node (slice_get-get_or ids i 0 h) e kids)

-- and then the next stands as before
pub next-stands : (b : Blasting) (t : Tree) → Stands b → IsSorted t → IsQuantifierFree t → HasArgs b t → Stands (with_node b t)
next-stands b t st sorted free has = (node-steps circuits-formed trees-have_sorts b t st sorted free has).stands

pub args-node : (trees : List Tree) (ids : List ℕ) (bits : List (List Literal)) (s : Listed) → IsWalk trees ids → (node : Node) (made : List Lit) (t : Listed) → MakesNode ids bits node s made t → HasArgs (blasting_of trees ids bits s) (node_tree trees node)
args-node trees ids bits s walk (Const i r) made t m = tt
args-node trees ids bits s walk (Var l r) made t m = tt
args-node trees ids bits s walk (LitNode w) made t m = tt
args-node trees ids bits s walk (App o kids) made t m = has-each trees ids bits s walk kids.items m.args m.found
args-node trees ids bits s walk (AllNode l r body) made t m = tt
args-node trees ids bits s walk (Ex l r body) made t m = tt

-- where a variable over the limit is wanted
pub wants-node : (trees : List Tree) (ids : List ℕ) (bits : List (List Literal)) (s : Listed) → IsWalk trees ids → (node : Node) → IsUnbound node → WantsMore ids bits node s → s.limit + 1 < (with_node (blasting_of trees ids bits s) (node_tree trees node)).next
wants-node trees ids bits s walk (Const i r) u w = w.over
wants-node trees ids bits s walk (Var l r) u w = w.over
wants-node trees ids bits s walk (LitNode v) u w = w.over
wants-node trees ids bits s walk (App o kids) u w = rw (found-each trees ids bits kids.items w.args walk w.found) w.over
wants-node trees ids bits s walk (AllNode l r body) u w = absurd u
wants-node trees ids bits s walk (Ex l r body) u w = absurd u

get-any : (xs : List ℕ) (i d e : ℕ) → i < length xs → get_or xs i d ≡ get_or xs i e
get-any [] i d e h = absurd (omega (arith, h))
get-any (x ∷ xs) zero d e h = refl
get-any (x ∷ xs) (suc i) d e h = get-any xs i d e (omega (arith, h))

pub placed-at : (ids : List ℕ) (i j n : ℕ) → i < length ids → j ≡ i → n ≡ get_or ids j n → get_or ids i 0 ≡ n
placed-at ids i j n h e at = get-any ids i 0 n h ∙ ap (λ (k : ℕ). get_or ids k n) (sym e) ∙ sym at
