use Rattle.std.proofs.Common.{◌+◌, get_or, take, sym, subst}
use Rattle.std.proofs.lemmas.Option.{slice_get-get_or}
use Rattle.qv_qdimacs.specs.Leaves.{PlaceMap, ArePlaces}
use Rattle.qv_qdimacs.proofs.Placed.{places-more, places-kept, get-none}
use Rattle.qv_qdimacs.proofs.places.places_of.Goals.{then-not-contains_key+in_ok-insert, else-not-contains_key}
use Rattle.qv_qdimacs.proofs.places.places_of.Goals as goal

pub variables-preserved : goal.variables-preserved
variables-preserved c =
    let vs = c.args.variables.now in
    let i = c.variables.place in
    let v = get_or vs i 0 in
    let item = slice_get-get_or vs i 0 c.variables-test.true in
    elim c.if-not-contains_key.branch [
      | then-not-contains_key+in_ok-insert w ↦
          let none = get-none c.variables.places v w.if-not-contains_key.ensures in
          subst (λ (m : PlaceMap). ArePlaces (take (i + 1) vs) m) (sym w.places-is)
          (places-more vs i v c.variables.places w.insert.new.self c.variables.invariant item none w.in_ok-insert.ensures.updates.0)
      | else-not-contains_key w ↦
          subst (λ (m : PlaceMap). ArePlaces (take (i + 1) vs) m) (sym w.places-is)
          (places-kept vs i v c.variables.places c.variables.invariant item (sym w.if-not-contains_key.ensures))
    ]
