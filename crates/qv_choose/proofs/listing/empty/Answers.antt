use Rattle.std.proofs.Common.{◌≡◌, ◌<◌, [], ◌∷◌, ◌++◌, length, ap, sym, subst, ◌∙◌, arith, length-append}
use Rattle.std.specs.List.{AllByRecursion}
use Rattle.std.proofs.lemmas.List.{map-append}
use Rattle.qv_choose.specs.Listing.{numbers_in, AreLess}
use Rattle.qv_choose.proofs.Lists.{less-pushed}
use Rattle.qv_choose.proofs.listing.empty.Goals as goal

pub lists-preserved : goal.lists-preserved
lists-preserved c =
    let items = c.in_ok-push.ensures.items in
    let numbers : numbers_in c.push.new.self.items ≡ numbers_in c.lists.lists.items ++ c.new.result.items ∷ [] = ap numbers_in items ∙ map-append (λ v. v.items) c.lists.lists.items (c.new.result ∷ []) in
    record {
      many = omega (arith, ap length items, length-append c.lists.lists.items (c.new.result ∷ []), c.lists.invariant.many);
      none = subst (AreLess 0) (sym numbers)
          (less-pushed 0 (numbers_in c.lists.lists.items) c.new.result.items c.lists.invariant.none (subst (AllByRecursion (λ m. m < 0)) (sym c.new.ensures.items) tt));
    }
