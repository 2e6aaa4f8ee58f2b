use Rattle.std.proofs.Common.{List, sym, subst}
use Rattle.std.specs.List.{All}
use Rattle.std.proofs.lemmas.List.Elements.{All-nil, All-push}
use Rattle.qv_words.specs.Tree.{Tree}
use Rattle.qv_solve_offer.specs.declared.base.Base.{Base}
use Rattle.qv_solve_offer.specs.declared.shared.Shared.{Shared}
use Rattle.qv_solve_offer.specs.Asking.{IsBase}
use Rattle.qv_solve_offer.specs.Sharing.{IsShared}
use Rattle.qv_solve_offer.proofs.shared.Shared.begin.Goals as goal
use Rattle.qv_solve_offer.proofs.shared.Shared.begin.Goals.{In_ok-push, then-is_outgrown, else-is_outgrown}

before : (c : In_ok-push) (trees : List Tree) → IsShared trees c.args.self.now → IsShared trees c.if-is_outgrown.self
before c trees h = elim c.if-is_outgrown.branch [
  | then-is_outgrown w ↦ subst (λ (s : Shared). IsShared trees s) (sym w.self-is) (subst (λ (bs : List Base). All (IsBase trees) bs) (sym w.clear.ensures.items) (All-nil (IsBase trees)))
  | else-is_outgrown w ↦ subst (λ (s : Shared). IsShared trees s) (sym w.self-is) h
]

pub returns-in_ok-push : goal.returns-in_ok-push
returns-in_ok-push c = record {
  shared = λ trees are h.
      subst (λ (bs : List Base). All (IsBase trees) bs) (sym c.in_ok-push.ensures.items)
      (All-push (IsBase trees) c.if-is_outgrown.self.bases.items c.in_ok-base.base (before c trees h) (c.in_ok-base.ensures trees are));
}
