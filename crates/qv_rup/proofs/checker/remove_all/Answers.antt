use Rattle.std.proofs.Common.{◌≡◌, ℕ, ◌+◌, ◌∷◌, ◌++◌, [], List, take, get_or, refl, sym, ap, ◌∙◌}
use Rattle.std.proofs.lemmas.List.{take_more}
use Rattle.qv_cnf.specs.Listing.{without}
use Rattle.qv_rup.specs.Shelving.{Shelved}
use Rattle.qv_rup.proofs.Removed.{without-nil, without-push}
use Rattle.qv_rup.proofs.checker.remove_all.Goals as goal

pub loop-id-init : goal.loop-id-init
loop-id-init c = record { live = sym (without-nil c.args.clauses.now.live); next = refl }

pub loop-id-preserved : goal.loop-id-preserved
loop-id-preserved c =
    let ids = c.args.ids.now in
    let i = c.loop-id.id-index in
    let id = get_or ids i 0 in
    let old = c.args.clauses.now.live in
    let more : take (i + 1) ids ≡ take i ids ++ id ∷ [] = take_more ids i 0 c.loop-id-test.true in
    record {
      live =
          ap (λ (l : Shelved). l.live) c.remove.ensures ∙ ap (without (id ∷ [])) c.loop-id.invariant.live
          ∙ sym (without-push (take i ids) id old) ∙ sym (ap (λ (gone : List ℕ). without gone old) more);
      next = ap (λ (l : Shelved). l.next) c.remove.ensures ∙ c.loop-id.invariant.next;
    }
