-- How a clause list goes on: what nodes, formulas and gates add behind those that are there.
use Rattle.std.proofs.Common.{◌≡◌, suc, ◌+◌, ◌≤◌, List, [], ◌∷◌, ◌++◌, length, refl, sym, ap, ◌∙◌, arith, append_assoc}
use Rattle.std.specs.Prelude.{unwrap_or}
use Rattle.qv_words.specs.Tree.{Tree, Constant, Variable, Literal, Apply, ForAll, Exists}
use Rattle.qv_words.specs.Gate.{positive_lit, gate_clauses, gates_clauses}
use Rattle.qv_words.specs.Clauses.{Blasting, first_blasting, bits_of, with_node, with_each_node, new_nodes, with_formula, with_formulas, cnf, cnf_variables}
use Rattle.qv_circuits_laws.specs.ClauseLaws.{node_clauses, nodes_clauses, node_variables, nodes_variables, standing, blasted, added_nodes, GatesGoOn, NodesAddTheirs, NextIsBehind, OneMoreFormula}
use Rattle.qv_words.proofs.NewNodes.{nil-behind}
use Rattle.qv_circuits_laws.proofs.Listing.{formulas-append}

-- gates behind others
pub gates-go_on : GatesGoOn
unfolding gates_clauses
gates-go_on next [] more = ap (λ n. gates_clauses n more) (let same : next ≡ next + 0 = omega arith in same)
gates-go_on next (g ∷ gs) more =
    let same : suc next + length gs ≡ next + suc (length gs) = omega arith in
    ap (λ cs. gate_clauses (positive_lit next) g ++ cs) (gates-go_on (suc next) gs more ∙ ap (λ n. gates_clauses (suc next) gs ++ gates_clauses n more) same)
    ∙ sym (append_assoc (gate_clauses (positive_lit next) g) (gates_clauses (suc next) gs) (gates_clauses (next + suc (length gs)) more))

-- one node
abbrev Adds : Blasting → Tree → Type 0
Adds b t = ((with_node b t).clauses ≡ b.clauses ++ node_clauses b t) × ((with_node b t).next ≡ b.next + node_variables b t)

node-adds : (b : Blasting) (t : Tree) → Adds b t
node-adds b (Constant i s) = (nil-behind b.clauses, refl)
node-adds b (Variable l s) = (nil-behind b.clauses, refl)
node-adds b (Literal s n) = (nil-behind b.clauses, refl)
node-adds b (Apply o ts) = (refl, refl)
node-adds b (ForAll l s t) = (nil-behind b.clauses, omega arith)
node-adds b (Exists l s t) = (nil-behind b.clauses, omega arith)

-- nodes in their order
pub nodes-add : NodesAddTheirs
nodes-add b [] = (nil-behind b.clauses, omega arith)
nodes-add b (t ∷ ts) =
    let one = node-adds b t in
    let others = nodes-add (with_node b t) ts in (
      others.0 ∙ ap (λ cs. cs ++ nodes_clauses (with_node b t) ts) one.0 ∙ append_assoc b.clauses (node_clauses b t) (nodes_clauses (with_node b t) ts),
      omega (arith, one.1, others.1),
    )

-- the next variable never falls
formulas-rise : (b : Blasting) (ts : List Tree) → b.next ≤ (with_formulas b ts).next
formulas-rise b [] = omega arith
formulas-rise b (t ∷ ts) =
    let nodes = (nodes-add b (new_nodes b.known t)).1 in
    let rest = formulas-rise (with_formula b t) ts in
    omega (arith, nodes, rest)

pub next-behind : NextIsBehind
unfolding cnf_variables
next-behind ts =
    let two : 2 ≤ (standing ts).next = formulas-rise first_blasting ts in
    (omega (arith, two), omega (arith, two))

-- one more formula
pub one-more : OneMoreFormula
unfolding cnf
one-more ts f =
    let b = standing ts in
    let new = added_nodes ts f in
    let d = with_each_node b new in
    let whole : standing (ts ++ f ∷ []) ≡ with_formula b f = formulas-append first_blasting ts (f ∷ []) in
    let known : blasted (ts ++ f ∷ []) ≡ d.known = ap (λ (x : Blasting). x.known) whole in
    let root : unwrap_or (bits_of d.known f) [] ∷ [] ≡ unwrap_or (bits_of (blasted (ts ++ f ∷ [])) f) [] ∷ [] = ap (λ ks. unwrap_or (bits_of ks f) [] ∷ []) (sym known) in
    let added = nodes-add b new in
    let next : (standing (ts ++ f ∷ [])).next ≡ b.next + nodes_variables b new = ap (λ (x : Blasting). x.next) whole ∙ added.1 in
    let before = next-behind ts in
    let after = next-behind (ts ++ f ∷ []) in (
      ap (λ (x : Blasting). x.clauses) whole
          ∙ ap (λ cs. cs ++ unwrap_or (bits_of d.known f) [] ∷ []) added.0
          ∙ ap (λ cs. b.clauses ++ nodes_clauses b new ++ cs) root,
      omega (arith, next, before.1, after.1),
      known,
    )
