-- What is kept beside each node.
use Rattle.std.specs.Prelude.{ℕ, max, Bool, false, true, Option, Some, unwrap_or, List, [], ◌∷◌, map, slice_index_or}
use Rattle.std.specs.List.{list_any}
use Rattle.qv_words.specs.declared.sort.Sort.{Sort}
use Rattle.qv_words.specs.declared.sort.Sort.TheVariants.{Bool as BoolSort}
use Rattle.qv_words.specs.Word.{word_sort}
use Rattle.qv_words.specs.Rank.{result_sort}
use Rattle.qv_words.specs.Tree.{Tree, tree_sort}
use Rattle.qv_words.specs.Prenex.{is_quantified}
use Rattle.qv_store.specs.declared.facts.Facts.{Facts}
use Rattle.qv_store.specs.declared.node.Node.{Node}
use Rattle.qv_store.specs.declared.node.Node.TheVariants.{Const, Var, Lit, App, Ex}
use Rattle.qv_store.specs.declared.node.Node.TheVariants.{All as AllNode}
use Rattle.qv_store.specs.Depth.{depth_of}

-- the facts of a tree that has a sort
abbrev pub facts_of : Tree → Facts
facts_of t = record { sort = unwrap_or (tree_sort t) BoolSort; depth = depth_of t; quantified = is_quantified t }

-- those of a number
abbrev pub facts_at : List Facts → ℕ → Facts
facts_at facts n = slice_index_or facts n (record { sort = BoolSort; depth = 0; quantified = false })

abbrev pub sorts_at : List Facts → List ℕ → List Sort
sorts_at facts kids = map (λ n. (facts_at facts n).sort) kids

-- the greatest depth
abbrev pub deepest : List Facts → List ℕ → ℕ
deepest facts [] = 0
deepest facts (n ∷ ns) = max (facts_at facts n).depth (deepest facts ns)

-- the facts of a node over those of its children
abbrev pub sort_over : List Facts → Node → Option Sort
sort_over facts (Const i s) = Some s
sort_over facts (Var l s) = Some s
sort_over facts (Lit w) = Some (word_sort w)
sort_over facts (App o kids) = result_sort o (sorts_at facts kids.items)
sort_over facts (AllNode l s body) = Some BoolSort
sort_over facts (Ex l s body) = Some BoolSort

abbrev pub is_quantified_over : List Facts → Node → Bool
is_quantified_over facts (App o kids) = list_any (λ n. (facts_at facts n).quantified) kids.items
is_quantified_over facts (AllNode l s body) = true
is_quantified_over facts (Ex l s body) = true
is_quantified_over facts node = false
