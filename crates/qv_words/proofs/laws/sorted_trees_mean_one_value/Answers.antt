use Rattle.std.proofs.lemmas.List.Elements.{recursion_from_All}
use Rattle.qv_words.specs.Sorted.{no_levels, constants_of, free_levels}
use Rattle.qv_words.proofs.Leaves.{HasValue}
use Rattle.qv_words.proofs.Unique.{one_meaning}
use Rattle.qv_words.proofs.Existing.{HasConstant, some_meaning, has_sort, lawful_sort}
use Rattle.qv_words.proofs.laws.sorted_trees_mean_one_value.Goals as goal

pub returns : goal.returns
returns _ t c e sorted values =
    let at = has_sort t no_levels sorted in
    let some = some_meaning t no_levels c e at.0 sorted (recursion_from_All (HasConstant c) (constants_of t) values.constants) (recursion_from_All (HasValue e) (free_levels t) values.levels) at.1 in (
      at.0,
      some.0,
      record {
        sort = at.1;
        lawful = lawful_sort t no_levels at.0 sorted at.1;
        in_sort = some.1;
        means = some.2;
        only = λ w m. one_meaning t c e w some.0 m some.2;
      },
    )
