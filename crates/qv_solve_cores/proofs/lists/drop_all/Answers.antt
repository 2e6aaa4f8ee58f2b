use Rattle.std.proofs.Common.{◌≡◌, ◌≢◌, [], ℕ, List, Bool, length, false, set, ap, ◌∙◌, subst, sym}
use Rattle.std.proofs.lemmas.List.{length-set}
use Rattle.qv_core.specs.Searching.{Search, without_item}
use Rattle.qv_solve_cores.specs.Marks.{gone}
use Rattle.qv_solve_cores.proofs.Marks.{gone-set}
use Rattle.qv_solve_cores.proofs.lists.drop_all.Goals as goal
use Rattle.qv_solve_cores.proofs.lists.drop_all.Goals.{then-is_at, else-is_at}

pub items-preserved : goal.items-preserved
items-preserved c =
    elim c.if-is_at.branch [
      | then-is_at w ↦
          let named : List ℕ = c.args.named.now in
          let is : c.if-is_at.search ≡ without_item c.items.item c.items.search = cc in
          let kept : c.if-is_at.search.kept ≡ set c.items.search.kept c.items.item false = ap (λ (s : Search). s.kept) is in
          record {
            each = ap (λ (l : List Bool). length l) kept ∙ length-set c.items.search.kept c.items.item false ∙ c.items.invariant.each;
            next = ap (λ (s : Search). s.next) is ∙ c.items.invariant.next;
            some = λ e. subst (λ (l : List Bool). gone named l ≢ []) (sym kept) (gone-set named c.items.search.kept c.items.item c.items-test.true c.items.invariant.each);
          }
      | else-is_at w ↦
          let is : c.if-is_at.search ≡ c.items.search = cc in
          let some : c.if-is_at.some ≡ c.items.some = cc in
          record {
            each = ap (λ (s : Search). length s.kept) is ∙ c.items.invariant.each;
            next = ap (λ (s : Search). s.next) is ∙ c.items.invariant.next;
            some = λ e. subst (λ (s : Search). gone c.args.named.now s.kept ≢ []) (sym is) (c.items.invariant.some (sym some ∙ e));
          }
    ]
