-- Expressions that are open around another one, and what they make of its tree.
use Rattle.std.specs.Prelude.{ℕ, ◌+◌, ◌≡◌, List, [], ◌∷◌, ◌++◌, Result, Ok}
use Rattle.qv_sexpr.specs.declared.items.Item.{Item}
use Rattle.qv_sexpr.specs.declared.items.ItemKind.TheVariants.{Close}
use Rattle.qv_sexpr.specs.Script.{Tree as Expr, Trees as Exprs}
use Rattle.qv_sexpr.specs.Items.{IsParenAt, Stands, StandAll}
use Rattle.qv_words.specs.declared.sort.Sort.{Sort}
use Rattle.qv_words.specs.declared.sort.Sort.TheVariants.{Bool}
use Rattle.qv_words.specs.Tree.{Tree}
use Rattle.qv_elab_defs.specs.Faults.{Fault, ◌>>=◌}
use Rattle.qv_elab_defs.specs.Shapes.{Quantifier}
use Rattle.qv_elab_defs.specs.Scopes.{Named, Context}
use Rattle.qv_elab_defs.specs.Heads.{Head}
use Rattle.qv_elab_defs.specs.Elaborating.{of_sort, closed}
use Rattle.qv_elab_defs.specs.Looking.{Seen, Looking, still, ◌▷◌, shallow_looks, applied_looks, looks_of, looks_of_all, looks_of_pairs}

-- An application, at this place, with the trees of the arguments before and the arguments behind. A
-- `let` at the term of this name, with the names before, the pairs behind and the body. A
-- quantifier of these variables, at this place, with the place of its body. And what is its
-- part's own tree, as an annotated term and a `let` at its body, with what stands behind.
pub data Frame : Type 0 where
  Applying : (place : ℕ) (head : Head) (done : List Tree) (rest : Exprs) (c : Context) → Frame
  Binding : (names : Named Tree) (name : List ℕ) (pairs : Exprs) (body : Expr) (c : Context) → Frame
  Closing : (q : Quantifier) (place inner : ℕ) (xs : Named Sort) (c : Context) → Frame
  Passing : (rest : Exprs) → Frame

-- what the innermost makes of the tree of its part
abbrev pub goes_on : Frame → Tree → Looking Tree
goes_on (Applying place head done rest c) t = looks_of_all rest c ▷ λ ts. applied_looks place c.binders head (done ++ t ∷ ts)
goes_on (Binding names name pairs body c) t =
    looks_of_pairs pairs ((name, t) ∷ names) c ▷ λ all. looks_of body (record c { bound = all ++ c.bound })
goes_on (Closing q place inner xs c) t = still (of_sort Bool inner t) ▷ λ formula. shallow_looks place (closed q c.binders xs formula)
goes_on (Passing rest) t = still (Ok t)

-- what all of them make of what their innermost part gives, the innermost first
abbrev pub resume : List Frame → Result Seen Fault → Result Seen Fault
resume [] r = r
resume (frame ∷ frames) r = resume frames (r >>= λ x. goes_on frame x.0 x.1)

-- where they stand: behind their part, which ends before item number i, the last of them ends
-- before item number `end`
abbrev pub FramesStand : List Item → List ℕ → ℕ → List Frame → ℕ → Type 0
FramesStand items text i [] end = i ≡ end
FramesStand items text i (Applying place head done rest c ∷ frames) end =
    (n : ℕ) × (q : ℕ) × StandAll items text i rest n × IsParenAt items n Close q × FramesStand items text (n + 1) frames end
FramesStand items text i (Binding names name pairs body c ∷ frames) end =
    (p : ℕ) × (n : ℕ) × (q : ℕ) × (m : ℕ) × (r : ℕ) × IsParenAt items i Close p × StandAll items text (i + 1) pairs n × IsParenAt items n Close q
    × Stands items text (n + 1) body m × IsParenAt items m Close r × FramesStand items text (m + 1) frames end
FramesStand items text i (Closing q place inner xs c ∷ frames) end = (p : ℕ) × IsParenAt items i Close p × FramesStand items text (i + 1) frames end
FramesStand items text i (Passing rest ∷ frames) end =
    (n : ℕ) × (q : ℕ) × StandAll items text i rest n × IsParenAt items n Close q × FramesStand items text (n + 1) frames end
