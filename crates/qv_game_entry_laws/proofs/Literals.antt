-- The clauses of formulas have literals.
use Rattle.std.proofs.Common.{◌≡◌, ◌≢◌, ℕ, suc, Option, Some, List, [], ◌∷◌, length, sym, ap, ◌∙◌, subst, arith}
use Rattle.std.specs.Prelude.{unwrap_or}
use Rattle.std.specs.List.{All, AllByRecursion}
use Rattle.std.proofs.lemmas.List.Elements.{All-from_recursion, recursion_from_All}
use Rattle.qv_words.specs.declared.sort.Sort.{Sort}
use Rattle.qv_words.specs.declared.sort.Sort.TheVariants.{Bool as BoolSort}
use Rattle.qv_words.specs.Sort.{width_of}
use Rattle.qv_words.specs.Tree.{Tree, Constant, Variable, Literal, Apply, ForAll, Exists, tree_sort}
use Rattle.qv_words.specs.Skolem.{IsTermOf}
use Rattle.qv_words.specs.PassLaws.{IsPlain}
use Rattle.qv_words.specs.Gate.{Lit, Gate, AndGate, XorGate, MuxGate, MajGate, positive_lit, gate_clauses, gates_clauses}
use Rattle.qv_words.specs.OpCircuit.{op_circuit}
use Rattle.qv_words.specs.Clauses.{Blasting, first_blasting, bits_of, bits_of_each, with_node, with_each_node, new_nodes, with_unit, with_formulas, cnf}
use Rattle.qv_words.proofs.Leaves.{both}
use Rattle.qv_circuits_laws.specs.ClauseLaws.{node_clauses, nodes_clauses, walked}
use Rattle.qv_circuits_laws.proofs.Formed.{circuits-formed}
use Rattle.qv_circuits_laws.proofs.Grounds.{trees-have_sorts}
use Rattle.qv_circuits_laws.proofs.Growing.{nodes-add}
use Rattle.qv_circuits_laws.proofs.Listed.{formula-added, unit-stands}
use Rattle.qv_circuits_laws.proofs.Listing.{formula-walks}
use Rattle.qv_circuits_laws.specs.Standing.{Placed, Stands}
use Rattle.qv_circuits_laws.proofs.Standing.{bits-found, Fit, Has, Keeps, first-stands, walk}

abbrev IsFilled : List Lit → Type 0
IsFilled c = c ≢ []

abbrev AreFilled : List (List Lit) → Type 0
AreFilled cs = AllByRecursion IsFilled cs

filled : (l : Lit) (ls : List Lit) → IsFilled (l ∷ ls)
filled l ls e = cc

gate-filled : (g : Lit) (x : Gate) → AreFilled (gate_clauses g x)
gate-filled g (AndGate a b) = (filled _ _, (filled _ _, (filled _ _, tt)))
gate-filled g (XorGate a b) = (filled _ _, (filled _ _, (filled _ _, (filled _ _, tt))))
gate-filled g (MuxGate c a b) = (filled _ _, (filled _ _, (filled _ _, (filled _ _, tt))))
gate-filled g (MajGate a b c) = (filled _ _, (filled _ _, (filled _ _, (filled _ _, (filled _ _, (filled _ _, tt))))))

gates-filled : (n : ℕ) (gs : List Gate) → AreFilled (gates_clauses n gs)
unfolding gates_clauses
gates-filled n [] = tt
gates-filled n (g ∷ gs) = both IsFilled (gate_clauses (positive_lit n) g) (gates_clauses (suc n) gs) (gate-filled (positive_lit n) g) (gates-filled (suc n) gs)

-- what a node adds, and nodes in their order
node-filled : (b : Blasting) (t : Tree) → AreFilled (node_clauses b t)
node-filled b (Constant i s) = tt
node-filled b (Variable l s) = tt
node-filled b (Literal s n) = tt
node-filled b (Apply o args) = gates-filled b.next (op_circuit o (bits_of_each b.known args) b.next).gates
node-filled b (ForAll l s t) = tt
node-filled b (Exists l s t) = tt

nodes-filled : (b : Blasting) (ts : List Tree) → AreFilled (nodes_clauses b ts)
nodes-filled b [] = tt
nodes-filled b (t ∷ ts) = both IsFilled (node_clauses b t) (nodes_clauses (with_node b t) ts) (node-filled b t) (nodes-filled (with_node b t) ts)

walked-filled : (b : Blasting) (t : Tree) → IsPlain t → AreFilled b.clauses → AreFilled (walked b t).clauses
walked-filled b t p h =
    let new = new_nodes b.known t in
    let nodes : AreFilled (with_each_node b new).clauses = subst AreFilled (sym (nodes-add b new).0) (both IsFilled b.clauses (nodes_clauses b new) h (nodes-filled b new)) in
    subst (λ (d : Blasting). AreFilled d.clauses) (formula-walks b t p.free) nodes

-- a formula's bit is there
abbrev Any : ℕ × Sort → Type 0
Any leaf = Unit {0}

all-any : (leaves : List (ℕ × Sort)) → AllByRecursion Any leaves
all-any [] = tt
all-any (x ∷ xs) = (tt, all-any xs)

plain-fits : (t : Tree) → IsPlain t → Fit Any Any t
plain-fits t p = record { sorted = p.sorted; free = p.free; constants = all-any _; levels = all-any _ }

nothing-kept : Keeps Any Any (λ _. Unit {0})
nothing-kept b t fit st has q = tt

one-bit : (d : Blasting) (t : Tree) → tree_sort t ≡ Some BoolSort → Stands d → Has d t → IsFilled (unwrap_or (bits_of d.known t) [])
one-bit d t sort st has e =
    let k = bits-found (Placed d.next) d.known t has.0 st.known has.1 in
    let same : k.sort ≡ BoolSort = let two : Some k.sort ≡ Some BoolSort = sym k.is ∙ sort in cc in
    let wide : length has.0 ≡ 1 = k.word.bit_count ∙ ap width_of same in
    let none : has.0 ≡ [] = sym (ap (λ (o : Option (List Lit)). unwrap_or o []) has.1) ∙ e in
    let short : length has.0 ≡ 0 = ap length none in
    omega (arith, wide, short)

-- a formula's clauses
formula-filled : (b : Blasting) (t : Tree) → IsTermOf t BoolSort → Stands b → AreFilled b.clauses → Stands (with_unit t (walked b t)) × AreFilled (with_unit t (walked b t)).clauses
formula-filled b t p st h =
    let plain : IsPlain t = record { sorted = p.sorted; free = p.quantifier_free } in
    let w = walk circuits-formed trees-have_sorts nothing-kept b t (plain-fits t plain) st tt in
    let d = walked b t in (
      unit-stands d t w.stands w.has,
      both IsFilled d.clauses (unwrap_or (bits_of d.known t) [] ∷ []) (walked-filled b t plain h) (one-bit d t p.sort w.stands w.has, tt),
    )

formulas-filled : (b : Blasting) (ts : List Tree) → AllByRecursion (λ t. IsTermOf t BoolSort) ts → Stands b → AreFilled b.clauses → AreFilled (with_formulas b ts).clauses
formulas-filled b [] h st f = f
formulas-filled b (t ∷ ts) h st f =
    let one = formula-filled b t h.0 st f in
    subst (λ (x : Blasting). AreFilled (with_formulas x ts).clauses) (sym (formula-added b t h.0.quantifier_free))
    (formulas-filled (with_unit t (walked b t)) ts h.1 one.0 one.1)

pub clauses-have_literals : (formulas : List Tree) → All (λ t. IsTermOf t BoolSort) formulas → All IsFilled (cnf formulas)
unfolding cnf
clauses-have_literals formulas h =
    let start : AreFilled first_blasting.clauses = (filled _ _, tt) in
    let rec = formulas-filled first_blasting formulas (recursion_from_All (λ t. IsTermOf t BoolSort) formulas h) first-stands start in
    All-from_recursion IsFilled (with_formulas first_blasting formulas).clauses rec
