-- the first terms have the sort
use Rattle.std.proofs.Common.{◌≡◌, drop}
use Rattle.std.specs.List.{list_all}
use Rattle.qv_words.specs.Rank.{sort_eq}
use Rattle.qv_store.specs.Walks.{named}
use Rattle.qv_elab_defs.specs.Applying.{sort_of}
use Rattle.qv_elab_apply.proofs.pairs.are_of_sort.Given as goal

abbrev pub invariant-ids : goal.invariant-ids
invariant-ids l =
    list_all (λ t. sort_eq l.sort (sort_of t)) (named l.store l.ids)
    ≡ list_all (λ t. sort_eq l.sort (sort_of t)) (named l.store (drop l.id-index l.ids))
