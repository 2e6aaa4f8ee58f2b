-- What is known of a tree before it is built: its sort and its depth.
use Rattle.std.specs.Prelude.{ℕ, ◌+◌, max, nat_le, if◌then◌else◌, unwrap_or, Option, Some, None, List, [], ◌∷◌, Result, Ok, Err}
use Rattle.qv_words.specs.declared.sort.Sort.TheVariants.{Bool}
use Rattle.qv_words.specs.declared.op.Op.{Op}
use Rattle.qv_words.specs.Rank.{result_sort}
use Rattle.qv_words.specs.Tree.{Tree}
use Rattle.qv_sorts.specs.declared.ranking.RankFault.{RankFault}
use Rattle.qv_sorts.specs.Faults.{fault_of}
use Rattle.qv_elab_defs.specs.declared.faults.ElabKind.{ElabKind}
use Rattle.qv_elab_defs.specs.declared.faults.ElabKind.TheVariants.{Arity, DepthLimit}
use Rattle.qv_elab_defs.specs.declared.faults.ElabFault.{ElabFault}
use Rattle.qv_elab_defs.specs.declared.faults.ElabFault.TheVariants.{At}
use Rattle.qv_elab_apply.specs.declared.outlines.Outline.{Outline}
use Rattle.qv_elab_defs.specs.Faults.{◌>>=◌}
use Rattle.qv_elab_defs.specs.Limit.{saturated}
use Rattle.qv_elab_defs.specs.Applying.{sort_of, depth_of, depth_limit, kind_of}

abbrev pub outline_of : Tree → Outline
outline_of t = record { sort = sort_of t; depth = saturated (depth_of t) }

abbrev pub unless_rank : Option RankFault → Outline → Result Outline ElabKind
unless_rank None a = Ok a
unless_rank (Some fault) a = Err (kind_of fault)

-- the outline of an operator's application to trees of two outlines
abbrev pub joined : Op → Outline → Outline → Result Outline ElabKind
joined o a b =
    unless_rank (fault_of o (a.sort ∷ b.sort ∷ []))
    (record { sort = unwrap_or (result_sort o (a.sort ∷ b.sort ∷ [])) Bool; depth = saturated (1 + max a.depth b.depth) })

-- ((a b) c) ..
abbrev pub joined_left : Op → Outline → List Outline → Result Outline ElabKind
joined_left o a [] = Ok a
joined_left o a (b ∷ bs) = joined o a b >>= λ ab. joined_left o ab bs

-- (a (b c)) ..
abbrev pub joined_right : Op → Outline → List Outline → Result Outline ElabKind
joined_right o a [] = Ok a
joined_right o a (b ∷ bs) = joined_right o b bs >>= λ bc. joined o a bc

-- the same of a list, which is to have one at least
abbrev pub all_joined_right : Op → List Outline → Result Outline ElabKind
all_joined_right o [] = Err Arity
all_joined_right o (a ∷ bs) = joined_right o a bs

-- the outline of a tree, or its fault
abbrev pub outlined : Result Tree ElabKind → Result Outline ElabKind
outlined (Ok t) = Ok (outline_of t)
outlined (Err kind) = Err kind

-- the fault at this place of a tree with this outline
abbrev pub fault_at : ℕ → Result Outline ElabKind → Option ElabFault
fault_at place (Ok a) = if nat_le a.depth depth_limit then None else Some (At place DepthLimit)
fault_at place (Err kind) = Some (At place kind)
