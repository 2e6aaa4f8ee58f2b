use Rattle.std.proofs.Common.{◌≡◌, ◌+◌, ◌++◌, ◌∷◌, [], ℕ, List, drop, false, true, get_or, refl}
use Rattle.qv_solve_cores.specs.Marks.{kept_of}
use Rattle.qv_solve_cores.proofs.Marks.{kept-takes, kept-passes, listed-takes, listed-passes}
use Rattle.qv_solve_cores.proofs.lists.kept_places.Goals as goal
use Rattle.qv_solve_cores.proofs.lists.kept_places.Goals.{then-kept+in_ok-push, else-kept}

pub items-preserved : goal.items-preserved
items-preserved c =
    let named : List ℕ = c.args.named.now in
    let kept = c.args.search.now.kept in
    let n : ℕ = c.items.item in
    elim c.if-kept.branch [
      | then-kept+in_ok-push w ↦
          let mark : get_or c.args.search.now.kept c.items.item false ≡ true = cc in
          let pushed : c.if-kept.kept.items ≡ c.items.kept.items ++ get_or c.args.named.now c.items.item 0 ∷ [] = rw w.kept-is w.in_ok-push.ensures.items in
          listed-takes c.items.kept.items c.if-kept.kept.items (kept_of (drop n named) (drop n kept)) (kept_of (drop (n + 1) named) (drop (n + 1) kept)) (kept_of named kept) (get_or named n 0)
          pushed (kept-takes named kept n c.items-test.true c.requires mark) c.items.invariant
      | else-kept w ↦
          let mark : get_or c.args.search.now.kept c.items.item false ≡ false = cc in
          let same : c.if-kept.kept.items ≡ c.items.kept.items = rw w.kept-is refl in
          listed-passes c.items.kept.items c.if-kept.kept.items (kept_of (drop n named) (drop n kept)) (kept_of (drop (n + 1) named) (drop (n + 1) kept)) (kept_of named kept)
          same (kept-passes named kept n c.items-test.true c.requires mark) c.items.invariant
    ]
