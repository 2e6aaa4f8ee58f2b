-- The laws that clause lists stand on, together.
use Rattle.std.proofs.Common.{Option, sym, subst}
use Rattle.std.specs.Prelude.{IsSomeAnd}
use Rattle.std.proofs.lemmas.List.Elements.{recursion_from_All}
use Rattle.qv_words.specs.Sort.{IsLawful}
use Rattle.qv_words.specs.declared.sort.Sort.{Sort}
use Rattle.qv_words.specs.Sorted.{no_levels, constants_of, free_levels}
use Rattle.qv_words.specs.Laws.{SortedTreesHaveSorts, SortedTreesMeanOneValue}
use Rattle.qv_words.proofs.Leaves.{HasValue}
use Rattle.qv_words.proofs.Unique.{one_meaning}
use Rattle.qv_words.proofs.Existing.{HasConstant, some_meaning, has_sort, lawful_sort}
use Rattle.qv_circuits_laws.proofs.Evaluations.{some-evaluation}
use Rattle.qv_circuits_laws.proofs.Computing.{circuit-theorem}
use Rattle.qv_circuits_laws.proofs.ShiftLaws.{shift-laws}
use Rattle.qv_circuits_laws.proofs.Formed.{circuits-formed}
use Rattle.qv_circuits_laws.proofs.Clausing.{Laws}

pub trees-have_sorts : SortedTreesHaveSorts
trees-have_sorts t sorted =
    let at = has_sort t no_levels sorted in
    subst (λ (o : Option Sort). IsSomeAnd o IsLawful) (sym at.1) (lawful_sort t no_levels at.0 sorted at.1)

one-value : SortedTreesMeanOneValue
one-value t c e sorted values =
    let at = has_sort t no_levels sorted in
    let some = some_meaning t no_levels c e at.0 sorted (recursion_from_All (HasConstant c) (constants_of t) values.constants) (recursion_from_All (HasValue e) (free_levels t) values.levels) at.1 in (
      at.0,
      some.0,
      record {
        sort = at.1;
        lawful = lawful_sort t no_levels at.0 sorted at.1;
        in_sort = some.1;
        means = some.2;
        only = λ w m. one_meaning t c e w some.0 m some.2;
      },
    )

pub clause-laws : Laws
clause-laws = record { circuits = circuit-theorem shift-laws; formed = circuits-formed; evaluations = some-evaluation; sorts = trees-have_sorts; one_value = one-value }
