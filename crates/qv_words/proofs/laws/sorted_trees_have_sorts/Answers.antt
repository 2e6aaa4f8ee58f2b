use Rattle.std.proofs.Common.{Option, sym, subst}
use Rattle.std.specs.Prelude.{IsSomeAnd}
use Rattle.qv_words.specs.declared.sort.Sort.{Sort}
use Rattle.qv_words.specs.Sort.{IsLawful}
use Rattle.qv_words.specs.Sorted.{no_levels}
use Rattle.qv_words.proofs.Existing.{has_sort, lawful_sort}
use Rattle.qv_words.proofs.laws.sorted_trees_have_sorts.Goals as goal

pub returns : goal.returns
returns _ t sorted =
    let at = has_sort t no_levels sorted in
    subst (λ (o : Option Sort). IsSomeAnd o IsLawful) (sym at.1) (lawful_sort t no_levels at.0 sorted at.1)
