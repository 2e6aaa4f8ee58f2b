-- A forced entry whose region is what lies outside the owner's regions.
use Rattle.std.proofs.Common.{◌≡◌, ◌+◌, List, [], map, refl, sym, ap, ◌∙◌, subst}
use Rattle.std.specs.Prelude.{All}
use Rattle.std.proofs.lemmas.List.Elements.{All-from_recursion}
use Rattle.qv_words.specs.Choice.{IsTrueAt}
use Rattle.qv_words.specs.Prenex.{negation}
use Rattle.qv_words.specs.Problem.{conjunction, other}
use Rattle.qv_words.specs.Linked.{Entry, IsComplement, IsEntry, IsLinked, IsRival, entries_named, entries_of}
use Rattle.qv_circuits_laws.proofs.Clausing.{clauses-theorem}
use Rattle.qv_circuits_laws.proofs.Grounds.{clause-laws}
use Rattle.qv_game_entry_laws.specs.BuildingLaws.{IsComplementBy}
use Rattle.qv_game_entry_laws.proofs.Complement.{complement-may-come, none-without-model}
use Rattle.qv_meter.specs.Played.{IsFresh}
use Rattle.qv_meter.specs.Queries.{numbers_from, query_list}
use Rattle.qv_meter.proofs.Fresh.{linked}
use Rattle.qv_meter.proofs.Fresh.{longer as one-more}
use Rattle.qv_meter.proofs.Following.{settled-follows}
use Rattle.qv_meter.proofs.Linking.{all-links, named-all, rivals-all}
use Rattle.qv_game_play_laws.specs.PlayLaws.{ComplementIsPlayed, complement_entry}
use Rattle.qv_game_play_laws.proofs.Standing.{standing, standing-over, standing-true}

pub complement-is_played : ComplementIsPlayed
complement-is_played p entries level winner block point formulas h settled some away at owner stands no_model =
    let e = complement_entry p entries level winner point in
    let numbers = numbers_from 0 level (other winner) entries in
    let named : entries_named entries numbers ≡ entries_of level (other winner) entries = named-all level (other winner) [] entries 0 refl in
    let queries = query_list p entries winner (level + 1) in
    let is_linked : IsLinked p entries = linked p [] entries h.played in
    let links = all-links p entries e h.low h.high refl in
    let complement : IsComplement entries e = record {
      numbers = numbers;
      some = λ none. some (sym named ∙ ap (entries_named entries) none);
      each = All-from_recursion (IsRival entries e) numbers (rivals-all e [] entries 0 refl);
      region = ap (λ (es : List Entry). conjunction (map (λ f. negation f.region) es)) (sym named);
    } in
    let there = standing p entries e block formulas h.problem is_linked at links.0 links.1 stands in
    let by : IsComplementBy p entries e block queries = record {
      at_level = at;
      owner = owner;
      links = links.0;
      denied = links.1;
      point = h.point_of;
      no_terms = refl;
      complement = complement;
      outside = subst (λ (es : List Entry). All (λ f. IsTrueAt point f.region → ⊥) es) (sym named) away;
      none = λ point values typed each here holds.
          none-without-model (clauses-theorem clause-laws) p entries e block formulas there.index is_linked there.level there.at (standing-over p e block formulas queries there) complement no_model
          point values typed each here (standing-true p e block formulas queries there point values typed each holds);
    } in
    let entry : IsEntry p entries e = complement-may-come p entries e block queries h.problem is_linked by in
    let fresh : IsFresh p entries e = record { outside = h.outside; undecided = h.undecided; follows = settled-follows p entries e.links settled } in
    one-more p [] entries e h.played (entry, fresh)
