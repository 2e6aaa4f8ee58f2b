-- One more formula.
use Rattle.std.proofs.Common.{◌≡◌, ℕ, ◌<◌, ◌≤◌, List, [], ◌∷◌, ◌++◌, length, drop, refl, sym, ap, ◌∙◌, subst, arith}
use Rattle.std.specs.Prelude.{unwrap_or}
use Rattle.qv_words.specs.Tree.{Tree}
use Rattle.qv_words.specs.Gate.{Lit}
use Rattle.qv_words.specs.Clauses.{Blasting, bits_of, new_nodes, with_each_node, with_formula, with_nodes, with_unit}
use Rattle.qv_cnf.specs.Literal.{Literal}
use Rattle.qv_circuits.specs.Adding.{lits_of}
use Rattle.qv_circuits_laws.specs.Standing.{Stands}
use Rattle.qv_circuits_laws.proofs.Listed.{unit-stands}
use Rattle.qv_store.specs.Nodes.{tree_at}
use Rattle.qv_store.specs.Walks.{IsBehind, IsWalk, named}
use Rattle.qv_blast.specs.Blasters.{blasted_at, blasting_of, clauses_in, IsReady, IsUnit, Listed}
use Rattle.qv_blast.proofs.Lookups.{found-bits}
use Rattle.qv_blast.proofs.Stepping.{same-blasting}
use Rattle.qv_blast.proofs.Walking.{new-named, same-behind}

module _ (trees : List Tree) (ids : List ℕ) (bits : List (List Literal)) (id : ℕ) (s t : Listed) (walk : IsWalk trees ids) where
  -- the unit clause is that of the definition
  pub unit-made : IsUnit ids bits id s t → blasting_of trees ids bits t ≡ with_unit (tree_at trees id) (blasting_of trees ids bits s)
  unit-made u =
      let bit : unwrap_or (bits_of (blasted_at trees ids bits) (tree_at trees id)) [] ≡ lits_of u.lits = ap (λ o. unwrap_or o []) (found-bits trees ids bits id u.lits walk u.found) in
      same-blasting t.next s.next (blasted_at trees ids bits) (blasted_at trees ids bits) (clauses_in t.list) _ u.next refl (u.clauses ∙ ap (λ (c : List Lit). clauses_in s.list ++ c ∷ []) (sym bit))

  pub unit-ready : IsUnit ids bits id s t → IsReady trees ids bits s → IsReady trees ids bits t
  unit-ready u r = record {
    walk = r.walk;
    few = r.few;
    free = r.free;
    stands = subst Stands (sym (unit-made u)) (unit-stands (blasting_of trees ids bits s) (tree_at trees id) r.stands (lits_of u.lits, found-bits trees ids bits id u.lits walk u.found));
  }

-- the nodes behind those that were there, and the unit clause
pub nodes-made : (trees : List Tree) (old new : List ℕ) (bits : List (List Literal)) (n : ℕ) (t : Tree) (s : Listed) (d : Blasting) → n ≡ length bits → length bits ≡ length old → IsBehind old new → named trees new ≡ with_nodes (named trees old) t →
    d ≡ with_each_node (blasting_of trees new bits s) (drop n (named trees new)) → d ≡ with_each_node (blasting_of trees old bits s) (new_nodes (blasted_at trees old bits) t)
nodes-made trees old new bits n t s d e all behind walked steps =
    let few : length bits ≤ length old = omega (arith, all) in
    let first = same-behind trees old new bits s few behind in
    let nodes = new-named trees old new bits t all walked in
    steps ∙ ap (λ (b : Blasting). with_each_node b (drop n (named trees new))) first ∙ ap (λ (k : ℕ). with_each_node (blasting_of trees old bits s) (drop k (named trees new))) e
    ∙ ap (with_each_node (blasting_of trees old bits s)) (sym nodes)

pub formula-made : (b d e : Blasting) (t : Tree) → d ≡ with_each_node b (new_nodes b.known t) → e ≡ with_unit t d → e ≡ with_formula b t
formula-made b d e t h g = g ∙ ap (with_unit t) h

pub formula-next : (b d : Blasting) (t : Tree) (n : ℕ) → d ≡ with_each_node b (new_nodes b.known t) → n < d.next → n < (with_formula b t).next
formula-next b d t n h g = let same = ap (λ (x : Blasting). x.next) h in omega (arith, same, g)
