use Rattle.std.proofs.Common.{◌≡◌, ℕ, false, Option, length, ap, ◌∙◌, subst}
use Rattle.std.proofs.lemmas.Option.{slice_get_within}
use Rattle.qv_store.specs.Nodes.{tree_at}
use Rattle.qv_choose_clauses.specs.Clauses.{clause_of, both_of}
use Rattle.qv_choose_clauses.specs.Sides.{AreJoined, AreSidesOf}
use Rattle.qv_choose_clauses.proofs.SideLaws.{sides-earlier}
use Rattle.qv_choose_clauses.proofs.ClauseLaws.{both-clause, alone-clause, found-clause}
use Rattle.qv_choose_clauses.proofs.clauses.clause_of.Goals as goal

pub result_of-requires : goal.result_of-requires
result_of-requires c =
    let joins = subst (λ (o : Option (ℕ × ℕ)). AreSidesOf false c.args.store.now c.args.id o) c.in-Some.is c.sides_of.ensures in
    (sides-earlier false c.args.store.now c.args.sight.now.walk (length c.args.clauses.now) c.args.id c.in-Some.sides.0 c.in-Some.sides.1 c.requires.scene.shared c.requires.scene.walk c.requires.at joins).0

pub result_of-requires-in-Some : goal.result_of-requires-in-Some
result_of-requires-in-Some c =
    let joins = subst (λ (o : Option (ℕ × ℕ)). AreSidesOf false c.args.store.now c.args.id o) c.in-Some.is c.sides_of.ensures in
    (sides-earlier false c.args.store.now c.args.sight.now.walk (length c.args.clauses.now) c.args.id c.in-Some.sides.0 c.in-Some.sides.1 c.requires.scene.shared c.requires.scene.walk c.requires.at joins).1

pub alone-requires-clause-id : goal.alone-requires-clause-id
alone-requires-clause-id c = record { place = length c.args.clauses.now; before = slice_get_within c.args.sight.now.walk (length c.args.clauses.now) c.args.id c.requires.at; at = c.requires.at }

pub returns-in-Some : goal.returns-in-Some
returns-in-Some c =
    let p = c.args.sight.now.place in
    let trees = c.args.store.now in
    let ids = c.args.sight.now.walk in
    let joins = subst (λ (o : Option (ℕ × ℕ)). AreSidesOf false trees c.args.id o) c.in-Some.is c.sides_of.ensures in
    let left = found-clause p trees ids c.args.clauses.now c.in-Some.sides.0 c.result_of.result.now c.requires.clauses c.result_of.ensures in
    let right = found-clause p trees ids c.args.clauses.now c.in-Some.sides.1 c.result_of-in-Some.result.now c.requires.clauses c.result_of-in-Some.ensures in
    c.both.ensures ∙ ap (λ x. both_of x c.result_of-in-Some.result.now) left ∙ ap (both_of (clause_of p (tree_at trees c.in-Some.sides.0))) right
    ∙ both-clause p (tree_at trees c.args.id) (tree_at trees c.in-Some.sides.0) (tree_at trees c.in-Some.sides.1) joins.parts

pub returns-in-None : goal.returns-in-None
returns-in-None c =
    let alone = subst (λ (o : Option (ℕ × ℕ)). AreSidesOf false c.args.store.now c.args.id o) c.in-None.is c.sides_of.ensures in
    c.alone.ensures ∙ alone-clause c.args.sight.now.place (tree_at c.args.store.now c.args.id) alone
