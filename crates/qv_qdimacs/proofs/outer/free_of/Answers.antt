use Rattle.std.proofs.Common.{◌≡◌, ℕ, ◌∙◌, Bool, List, ap, subst, rules}
use Rattle.qv_qdimacs.specs.Outer.{is_in, variables_of, occurring, left_by, put_among}
use Rattle.qv_qdimacs.specs.Leaves.{ArePlaces}
use Rattle.qv_qdimacs.proofs.Placed.{tests-same}
use Rattle.qv_qdimacs.proofs.outer.free_of.Goals as goal

pub returns : goal.returns
returns c =
    let vs = variables_of c.args.prefix.now in
    let quantified = c.in_ok-quantified.quantified in
    let all : c.deref.result.now ≡ vs = search rules in
    let places : ArePlaces vs quantified = subst (λ (us : List ℕ). ArePlaces us quantified) all c.in_ok-quantified.ensures in
    c.in_ok-add_clauses.ensures
    ∙ ap (λ (test : ℕ → Bool). put_among c.new-free.result.keys (left_by test (occurring c.args.clauses.now))) (tests-same vs quantified places)
    ∙ ap (λ (keys : List ℕ). put_among keys (left_by (λ v. is_in v vs) (occurring c.args.clauses.now))) c.new-free.ensures.empty
