use Rattle.std.proofs.Common.{◌≡◌, List, [], refl, sym, ◌∙◌, subst}
use Rattle.std.specs.List.{AllZip}
use Rattle.std.proofs.lemmas.Bool.{eqb-true}
use Rattle.std.proofs.lemmas.List.Elements.{All-from_recursion}
use Rattle.qv_words.specs.Values.{MeansUnder}
use Rattle.qv_words.specs.Problem.{Existential, Place}
use Rattle.qv_store.specs.declared.problem.Place.{Place as Kept}
use Rattle.qv_store.specs.Problems.{places_of, problem_in}
use Rattle.qv_game.specs.Offered.{IsPlaceFor}
use Rattle.qv_game.proofs.Offered.{places-owned, words-fit, words-for}
use Rattle.qv_game.proofs.offering.wins_at.Goals as goal

pub eval_at-requires-clause-words : goal.eval_at-requires-clause-words
eval_at-requires-clause-words c =
    let are : AllZip IsPlaceFor c.args.problem.now.prefix.items c.args.offered.now = subst (λ (ps : List Kept). AllZip IsPlaceFor ps c.args.offered.now) c.deref.ensures.value (c.if-not-are_places_for.ensures refl) in
    words-for (problem_in c.args.store.now c.args.problem.now) c.args.offered.now c.requires.posed.problem (words-fit c.args.problem.now.prefix.items c.args.offered.now are)

pub returns : goal.returns
returns c = λ so.
    let are : AllZip IsPlaceFor c.args.problem.now.prefix.items c.args.offered.now = subst (λ (ps : List Kept). AllZip IsPlaceFor ps c.args.offered.now) c.deref.ensures.value (c.if-not-are_places_for.ensures refl) in
    let p = problem_in c.args.store.now c.args.problem.now in
    let one = sym c.value.ensures ∙ eqb-true c.value.result 1 so in
    record {
      owned = All-from_recursion (λ (place : Place). place.quantifier ≡ Existential) (places_of c.args.problem.now) (places-owned c.args.problem.now.prefix.items c.args.offered.now are);
      sorts = words-fit c.args.problem.now.prefix.items c.args.offered.now are;
      holds = subst (MeansUnder [] c.args.offered.now p.matrix) one c.in_ok-word.ensures.value;
    }
