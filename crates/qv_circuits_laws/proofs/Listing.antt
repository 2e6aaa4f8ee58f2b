-- How a clause list grows: the trees that have bits, the clauses, and their models.
use Rattle.std.proofs.Common.{◌≡◌, ℕ, Bool, true, false, ◌&&◌, ◌||◌, cond, List, [], ◌∷◌, ◌++◌, map, length, drop, refl, sym, ap, ◌∙◌, append_assoc}
use Rattle.std.specs.Prelude.{unwrap_or}
use Rattle.std.specs.List.{AllByRecursion}
use Rattle.std.proofs.Math.Seq.{drop-append_seam}
use Rattle.std.proofs.lemmas.Bool.{and_parts}
use Rattle.std.proofs.lemmas.List.{map-append, length-map}
use Rattle.std.proofs.lemmas.List.Folds.{list_all-append}
use Rattle.qv_words.specs.Tree.{Tree, Trees, Constant, Variable, Literal, Apply, ForAll, Exists, Nil, Cons, IsQuantifierFree, AreQuantifierFree}
use Rattle.qv_words.specs.Gate.{Lit, gates_clauses, clause_value, clauses_value, yes}
use Rattle.qv_words.specs.OpCircuit.{op_circuit}
use Rattle.qv_words.specs.Clauses.{is_among, with_nodes, with_nodes_of, nodes_behind, Blasted, Blasting, first_blasting, bits_of, bits_of_each, with_node, with_each_node, new_nodes, with_formula, with_formulas, cnf}
use Rattle.qv_circuits_laws.specs.ClauseLaws.{EvaluatesNode, EvaluatesNodes, EvaluatesFormulas, walked, walked_each}
use Rattle.qv_words.proofs.NewNodes.{nil-behind, both-free, tree-new}
use Rattle.qv_circuits_laws.proofs.Gates.{model-evaluates, evaluation-models}

-- the trees that have bits
abbrev pub trees : Blasting → List Tree
trees b = map (λ k. k.tree) b.known

-- each node without quantifiers gets its bits behind the others
one-behind : (b : Blasting) (k : Blasted) → map (λ j. j.tree) (b.known ++ k ∷ []) ≡ trees b ++ k.tree ∷ []
one-behind b k = map-append (λ j. j.tree) b.known (k ∷ [])

node-trees : (b : Blasting) (t : Tree) → IsQuantifierFree t → trees (with_node b t) ≡ trees b ++ t ∷ []
node-trees b (Constant i s) h = one-behind b _
node-trees b (Variable l s) h = one-behind b _
node-trees b (Literal s n) h = one-behind b _
node-trees b (Apply o ts) h = one-behind b _
node-trees b (ForAll l s t) h = absurd h
node-trees b (Exists l s t) h = absurd h

pub nodes-trees : (b : Blasting) (ts : List Tree) → AllByRecursion IsQuantifierFree ts → trees (with_each_node b ts) ≡ trees b ++ ts
nodes-trees b [] h = nil-behind (trees b)
nodes-trees b (t ∷ ts) h =
    nodes-trees (with_node b t) ts h.1 ∙ ap (λ us. us ++ ts) (node-trees b t h.0) ∙ append_assoc (trees b) (t ∷ []) ts

formula-trees : (b : Blasting) (t : Tree) → IsQuantifierFree t → trees (with_formula b t) ≡ with_nodes (trees b) t
formula-trees b t h =
    let new = tree-new (trees b) t h in
    let counted : length b.known ≡ length (trees b) = sym (length-map b.known (λ k. k.tree)) in
    let dropped : new_nodes b.known t ≡ new.0 = ap (λ n. drop n (with_nodes (trees b) t)) counted ∙ ap (drop (length (trees b))) new.1 ∙ drop-append_seam (trees b) new.0 in
    ap (λ us. trees (with_each_node b us)) dropped ∙ nodes-trees b new.0 new.2 ∙ sym new.1

pub formulas-trees : (b : Blasting) (ts : List Tree) → AllByRecursion IsQuantifierFree ts → trees (with_formulas b ts) ≡ nodes_behind (trees b) ts
formulas-trees b [] h = refl
formulas-trees b (t ∷ ts) h =
    formulas-trees (with_formula b t) ts h.1 ∙ ap (λ us. nodes_behind us ts) (formula-trees b t h.0)

-- the clauses only grow
abbrev Longer : List (List Lit) → List (List Lit) → Type 0
Longer xs ys = (rest : List (List Lit)) × (ys ≡ xs ++ rest)

longer-trans : (xs ys zs : List (List Lit)) → Longer xs ys → Longer ys zs → Longer xs zs
longer-trans xs ys zs f g = (f.0 ++ g.0, g.1 ∙ ap (λ us. us ++ g.0) f.1 ∙ append_assoc xs f.0 g.0)

node-longer : (b : Blasting) (t : Tree) → Longer b.clauses (with_node b t).clauses
node-longer b (Constant i s) = ([], nil-behind b.clauses)
node-longer b (Variable l s) = ([], nil-behind b.clauses)
node-longer b (Literal s n) = ([], nil-behind b.clauses)
node-longer b (Apply o ts) = (gates_clauses b.next (op_circuit o (bits_of_each b.known ts) b.next).gates, refl)
node-longer b (ForAll l s t) = ([], nil-behind b.clauses)
node-longer b (Exists l s t) = ([], nil-behind b.clauses)

nodes-longer : (b : Blasting) (ts : List Tree) → Longer b.clauses (with_each_node b ts).clauses
nodes-longer b [] = ([], nil-behind b.clauses)
nodes-longer b (t ∷ ts) =
    longer-trans b.clauses (with_node b t).clauses (with_each_node (with_node b t) ts).clauses (node-longer b t) (nodes-longer (with_node b t) ts)

formulas-longer : (b : Blasting) (ts : List Tree) → Longer b.clauses (with_formulas b ts).clauses
formulas-longer b [] = ([], nil-behind b.clauses)
formulas-longer b (t ∷ ts) =
    let found = with_each_node b (new_nodes b.known t) in
    longer-trans b.clauses found.clauses (with_formulas (with_formula b t) ts).clauses (nodes-longer b (new_nodes b.known t))
    (longer-trans found.clauses (with_formula b t).clauses (with_formulas (with_formula b t) ts).clauses (unwrap_or (bits_of found.known t) [] ∷ [], refl) (formulas-longer (with_formula b t) ts))

pub formulas-append : (b : Blasting) (ts us : List Tree) → with_formulas b (ts ++ us) ≡ with_formulas (with_formulas b ts) us
formulas-append b [] us = refl
formulas-append b (t ∷ ts) us = formulas-append (with_formula b t) ts us

pub cnf-longer : (ts us : List Tree) → (rest : List (List Lit)) × (cnf (ts ++ us) ≡ cnf ts ++ rest)
unfolding cnf
cnf-longer ts us =
    let more = formulas-longer (with_formulas first_blasting ts) us in
    (more.0, ap (λ (b : Blasting). b.clauses) (formulas-append first_blasting ts us) ∙ more.1)

-- a list of clauses is true where both of its parts are
abbrev pub True : (ℕ → Bool) → List (List Lit) → Type 0
True v clauses = clauses_value v clauses ≡ true

pub both-true : (v : ℕ → Bool) (xs ys : List (List Lit)) → True v xs → True v ys → True v (xs ++ ys)
both-true v xs ys f g = list_all-append (clause_value v) xs ys ∙ ap (λ b. b && clauses_value v ys) f ∙ g

pub parts-true : (v : ℕ → Bool) (xs ys : List (List Lit)) → True v (xs ++ ys) → True v xs × True v ys
parts-true v xs ys h = and_parts (clauses_value v xs) (clauses_value v ys) (sym (list_all-append (clause_value v) xs ys) ∙ h)

-- a node
pub node-true : (v : ℕ → Bool) (b : Blasting) (t : Tree) → True v b.clauses → EvaluatesNode v b t → True v (with_node b t).clauses
node-true v b (Constant i s) h e = h
node-true v b (Variable l s) h e = h
node-true v b (Literal s n) h e = h
node-true v b (Apply o ts) h e =
    let gates = (op_circuit o (bits_of_each b.known ts) b.next).gates in
    both-true v b.clauses (gates_clauses b.next gates) h (evaluation-models v b.next gates e)
node-true v b (ForAll l s t) h e = h
node-true v b (Exists l s t) h e = h

pub true-node : (v : ℕ → Bool) (b : Blasting) (t : Tree) → True v (with_node b t).clauses → True v b.clauses × EvaluatesNode v b t
true-node v b (Constant i s) h = (h, tt)
true-node v b (Variable l s) h = (h, tt)
true-node v b (Literal s n) h = (h, tt)
true-node v b (Apply o ts) h =
    let gates = (op_circuit o (bits_of_each b.known ts) b.next).gates in
    let parts = parts-true v b.clauses (gates_clauses b.next gates) h in
    (parts.0, model-evaluates v b.next gates parts.1)
true-node v b (ForAll l s t) h = (h, tt)
true-node v b (Exists l s t) h = (h, tt)

-- nodes
nodes-true : (v : ℕ → Bool) (b : Blasting) (ts : List Tree) → True v b.clauses → EvaluatesNodes v b ts → True v (with_each_node b ts).clauses
nodes-true v b [] h e = h
nodes-true v b (t ∷ ts) h e = nodes-true v (with_node b t) ts (node-true v b t h e.0) e.1

true-nodes : (v : ℕ → Bool) (b : Blasting) (ts : List Tree) → True v (with_each_node b ts).clauses → True v b.clauses × EvaluatesNodes v b ts
true-nodes v b [] h = (h, tt)
true-nodes v b (t ∷ ts) h =
    let rest = true-nodes v (with_node b t) ts h in
    let first = true-node v b t rest.0 in
    (first.0, (first.1, rest.1))

-- formulas
pub unit-true : (v : ℕ → Bool) (lits : List Lit) → clause_value v lits ≡ true → True v (lits ∷ [])
unit-true v lits h = ap (λ b. b && true) h

pub true-unit : (v : ℕ → Bool) (lits : List Lit) → True v (lits ∷ []) → clause_value v lits ≡ true
true-unit v lits h = (and_parts (clause_value v lits) true h).0

pub formulas-true : (v : ℕ → Bool) (b : Blasting) (ts : List Tree) → True v b.clauses → EvaluatesFormulas v b ts → True v (with_formulas b ts).clauses
formulas-true v b [] h e = h
formulas-true v b (t ∷ ts) h e =
    let found = with_each_node b (new_nodes b.known t) in
    let root = unwrap_or (bits_of found.known t) [] in
    formulas-true v (with_formula b t) ts
    (both-true v found.clauses (root ∷ []) (nodes-true v b (new_nodes b.known t) h e.0) (unit-true v root e.1)) e.2

pub true-formulas : (v : ℕ → Bool) (b : Blasting) (ts : List Tree) → True v (with_formulas b ts).clauses → True v b.clauses × EvaluatesFormulas v b ts
true-formulas v b [] h = (h, tt)
true-formulas v b (t ∷ ts) h =
    let found = with_each_node b (new_nodes b.known t) in
    let root = unwrap_or (bits_of found.known t) [] in
    let rest = true-formulas v (with_formula b t) ts h in
    let parts = parts-true v found.clauses (root ∷ []) rest.0 in
    let before = true-nodes v b (new_nodes b.known t) parts.0 in
    (before.0, (before.1, true-unit v root parts.1, rest.1))

-- the first clause
pub first-true : (v : ℕ → Bool) → v 1 ≡ true → True v ((yes ∷ []) ∷ [])
first-true v h = rw h

pub true-first : (v : ℕ → Bool) → True v ((yes ∷ []) ∷ []) → v 1 ≡ true
true-first v h = go (v 1) h
  where
    go : (b : Bool) → ((b || false) && true) ≡ true → b ≡ true
    go true h = refl
    go false h = cc

-- the same nodes by one walk
pub each-append : (b : Blasting) (xs ys : List Tree) → with_each_node b (xs ++ ys) ≡ with_each_node (with_each_node b xs) ys
each-append b [] ys = refl
each-append b (x ∷ xs) ys = each-append (with_node b x) xs ys

abbrev Walks : Blasting → List Tree → Blasting → Type 0
Walks b found end = (rest : List Tree) × (found ≡ trees b ++ rest) × AllByRecursion IsQuantifierFree rest × (with_each_node b rest ≡ end)

nothing-walks : (b : Blasting) → Walks b (trees b) b
nothing-walks b = ([], nil-behind (trees b), tt, refl)

one-walks : (b mid : Blasting) (found : List Tree) (t : Tree) → IsQuantifierFree t → Walks b found mid → Walks b (cond (is_among (trees b) t) (trees b) (found ++ t ∷ [])) (cond (is_among (trees b) t) b (with_node mid t))
one-walks b mid found t h w = go (is_among (trees b) t)
  where
    go : (k : Bool) → Walks b (cond k (trees b) (found ++ t ∷ [])) (cond k b (with_node mid t))
    go true = nothing-walks b
    go false = (
      w.0 ++ t ∷ [],
      ap (λ us. us ++ t ∷ []) w.1 ∙ append_assoc (trees b) w.0 (t ∷ []),
      both-free w.0 (t ∷ []) w.2 (h, tt),
      each-append b w.0 (t ∷ []) ∙ ap (λ (m : Blasting). with_node m t) w.3,
    )

mutual
  pub tree-walks : (b : Blasting) (t : Tree) → IsQuantifierFree t → Walks b (with_nodes (trees b) t) (walked b t)
  tree-walks b (Constant i s) h = one-walks b b (trees b) (Constant i s) h (nothing-walks b)
  tree-walks b (Variable l s) h = one-walks b b (trees b) (Variable l s) h (nothing-walks b)
  tree-walks b (Literal s n) h = one-walks b b (trees b) (Literal s n) h (nothing-walks b)
  tree-walks b (Apply o ts) h = one-walks b (walked_each b ts) (with_nodes_of (trees b) ts) (Apply o ts) h (each-walks b ts h)
  tree-walks b (ForAll l s t) h = absurd h
  tree-walks b (Exists l s t) h = absurd h

  each-walks : (b : Blasting) (ts : Trees) → AreQuantifierFree ts → Walks b (with_nodes_of (trees b) ts) (walked_each b ts)
  each-walks b Nil h = nothing-walks b
  each-walks b (Cons t ts) h =
      let first = tree-walks b t h.0 in
      let end = walked b t in
      let others = each-walks end ts h.1 in
      let same : trees end ≡ with_nodes (trees b) t = ap trees (sym first.3) ∙ nodes-trees b first.0 first.2 ∙ sym first.1 in (
        first.0 ++ others.0,
        ap (λ us. with_nodes_of us ts) (sym same) ∙ others.1 ∙ ap (λ us. us ++ others.0) (same ∙ first.1) ∙ append_assoc (trees b) first.0 others.0,
        both-free first.0 others.0 first.2 others.2,
        each-append b first.0 others.0 ∙ ap (λ (m : Blasting). with_each_node m others.0) first.3 ∙ others.3,
      )

pub formula-walks : (b : Blasting) (t : Tree) → IsQuantifierFree t → with_each_node b (new_nodes b.known t) ≡ walked b t
formula-walks b t h =
    let w = tree-walks b t h in
    let counted : length b.known ≡ length (trees b) = sym (length-map b.known (λ k. k.tree)) in
    let dropped : new_nodes b.known t ≡ w.0 = ap (λ n. drop n (with_nodes (trees b) t)) counted ∙ ap (drop (length (trees b))) w.1 ∙ drop-append_seam (trees b) w.0 in
    ap (with_each_node b) dropped ∙ w.3
