use Rattle.std.proofs.Common.{◌≡◌, ◌≢◌, ◌<◌, ◌≤◌, ◌++◌, ◌∷◌, ℕ, List, length, map, take, drop, get_or, refl, ap, subst, sym, ◌∙◌, arith}
use Rattle.std.proofs.lemmas.Bool.{cases_lt}
use Rattle.std.proofs.lemmas.List.{get_or-map, length-map, map-append, take-map, drop-map}
use Rattle.qv_words.specs.declared.sort.Sort.{Sort}
use Rattle.qv_words.specs.Problem.{with_constant}
use Rattle.qv_prenex.specs.declared.constants.Constant.{Constant}
use Rattle.qv_prenex.specs.Constants.{pair_of, AreInOrder}
use Rattle.qv_prenex.proofs.Leaves.{either, place-there, place-before, place-last}
use Rattle.qv_prenex.proofs.constants.put_constant.Goals as goal

abbrev Front : ℕ → Sort → ℕ → List Constant → Type 0
Front index s at cs =
    with_constant (index, s) (map pair_of cs) ≡ take at (map pair_of cs) ++ with_constant (index, s) (drop at (map pair_of cs))

pub place_for-at-requires : goal.place_for-at-requires
place_for-at-requires c = subst AreInOrder (sym c.deref.ensures.value) c.requires

pub returns-then-has_index : goal.returns-then-has_index
returns-then-has_index c =
    let cs = c.args.constants.now.items in
    let at = c.place_for-at.result in
    let d : Constant = record { index = c.args.index; sort = c.args.sort } in
    let yes : (at < length cs) × ((e : Constant) → (get_or cs at e).index ≡ c.args.index) =
    subst (λ (xs : List Constant). (at < length xs) × ((e : Constant) → (get_or xs at e).index ≡ c.args.index)) c.deref-2.ensures.value (c.if-has_index.ensures.yes refl) in
    let front : Front c.args.index c.args.sort at cs =
    subst (Front c.args.index c.args.sort at) c.deref.ensures.value (c.place_for-at.ensures.front c.args.sort) in
    let same : get_or (map pair_of cs) at (pair_of d) ≡ pair_of (get_or cs at d) = get_or-map pair_of cs at d (pair_of d) yes.0 in
    let within : at < length (map pair_of cs) = omega (arith, yes.0, length-map cs pair_of) in
    place-there (pair_of d) (map pair_of cs) at front within (ap (λ (p : ℕ × Sort). p.0) same ∙ yes.1 d)

pub returns : goal.returns
returns c =
    let cs = c.args.constants.now.items in
    let at = c.place_for-at.result in
    let d : Constant = record { index = c.args.index; sort = c.args.sort } in
    let front : Front c.args.index c.args.sort at cs =
    subst (Front c.args.index c.args.sort at) c.deref.ensures.value (c.place_for-at.ensures.front c.args.sort) in
    let least : at < length cs → c.args.index ≤ (get_or cs at d).index =
    subst (λ (xs : List Constant). at < length xs → c.args.index ≤ (get_or xs at d).index) c.deref.ensures.value (c.place_for-at.ensures.least d) in
    let differs : at < length cs → (get_or cs at d).index ≢ c.args.index =
    subst (λ (xs : List Constant). at < length xs → (get_or xs at d).index ≢ c.args.index) c.deref-2.ensures.value (c.if-has_index.ensures.no d) in
    let put : map pair_of c.insert.new.self.items ≡ take at (map pair_of cs) ++ pair_of d ∷ drop at (map pair_of cs) =
    ap (map pair_of) c.in_ok-insert.ensures.items ∙ map-append pair_of (take at cs) (d ∷ drop at cs)
    ∙ ap (λ (xs : List (ℕ × Sort)). xs ++ pair_of d ∷ map pair_of (drop at cs)) (sym (take-map pair_of at cs))
    ∙ ap (λ (xs : List (ℕ × Sort)). take at (map pair_of cs) ++ pair_of d ∷ xs) (sym (drop-map pair_of at cs)) in
    put ∙ either
    (λ (lt : at < length cs).
    let same : get_or (map pair_of cs) at (pair_of d) ≡ pair_of (get_or cs at d) = get_or-map pair_of cs at d (pair_of d) lt in
    let index : (get_or (map pair_of cs) at (pair_of d)).0 ≡ (get_or cs at d).index = ap (λ (p : ℕ × Sort). p.0) same in
    let low = least lt in
    let other = differs lt in
    let within : at < length (map pair_of cs) = omega (arith, lt, length-map cs pair_of) in
    place-before (pair_of d) (map pair_of cs) at front within (omega (arith, index, low, other)))
    (λ (le : length cs ≤ at). place-last (pair_of d) (map pair_of cs) at front (omega (arith, le, length-map cs pair_of)))
    (cases_lt at (length cs))
