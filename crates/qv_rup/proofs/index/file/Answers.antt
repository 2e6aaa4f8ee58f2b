use Rattle.std.proofs.Common.{◌≡◌, ◌<◌, ◌%◌, ℕ, List, length, sym, subst, ap, ◌∙◌, arith}
use Rattle.std.specs.Prelude.{Contains}
use Rattle.qv_cnf.specs.Literal.{index_of}
use Rattle.qv_rup.specs.Indexing.{ids_in, IsFiled, list_for}
use Rattle.qv_rup.proofs.Indexed.{length-ids, more-ids, put-stays, put-there, same-ids}
use Rattle.qv_rup.proofs.index.file.Goals as goal

pub returns-in_err-push-clause-stay : goal.returns-in_err-push-clause-stay
returns-in_err-push-clause-stay c = λ x filed.
    let lists = c.args.lists.now.items in
    subst (λ (ls : List (List ℕ)). IsFiled ls x) (sym (same-ids lists (c.index-place.result % c.len.result) c.index_mut.result.now c.push.new.self (omega arith) (sym c.index_mut.ensures.value) c.in_err-push.ensures.items)) filed

pub returns-clause-stay : goal.returns-clause-stay
returns-clause-stay c = λ x filed.
    let lists = c.args.lists.now.items in
    let at = c.index-place.result % c.len.result in
    let low : at < length (ids_in lists) = omega (arith, length-ids lists) in
    subst (λ (ls : List (List ℕ)). IsFiled ls x) (sym (more-ids lists at c.args.id c.index_mut.result.now c.push.new.self (omega arith) (sym c.index_mut.ensures.value) c.in_ok-push.ensures.items)) (put-stays (ids_in lists) at c.args.id low x filed)

pub returns-clause-there : goal.returns-clause-there
returns-clause-there c =
    let lists = c.args.lists.now.items in
    let at = c.index-place.result % c.len.result in
    let low : at < length (ids_in lists) = omega (arith, length-ids lists) in
    let long : c.len.result ≡ length (ids_in lists) = omega (arith, c.len.ensures, length-ids lists) in
    let is : at ≡ index_of c.args.lit % length (ids_in lists) = ap (λ (n : ℕ). n % c.len.result) c.index-place.ensures.value ∙ ap (λ (n : ℕ). index_of c.args.lit % n) long in
    subst (λ (ls : List (List ℕ)). Contains (list_for ls c.args.lit) c.args.id) (sym (more-ids lists at c.args.id c.index_mut.result.now c.push.new.self (omega arith) (sym c.index_mut.ensures.value) c.in_ok-push.ensures.items)) (put-there (ids_in lists) at c.args.id c.args.lit low is)
