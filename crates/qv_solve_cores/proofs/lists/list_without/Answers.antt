use Rattle.std.proofs.Common.{◌≡◌, ◌+◌, ◌++◌, ◌∷◌, [], ℕ, List, Bool, Option, Some, None, not, drop, length, false, true, get_or, slice_get, ap, ◌∙◌, refl, subst, sym}
use Rattle.std.proofs.lemmas.List.{length-set}
use Rattle.qv_core.specs.Without.{without, without_from}
use Rattle.qv_solve_cores.specs.Marks.{gone, kept_but}
use Rattle.qv_solve_cores.proofs.Marks.{IsNext, next-passes, next-meets, without-step, without-passes, listed-takes, listed-passes}
use Rattle.qv_solve_cores.proofs.lists.list_without.Goals as goal
use Rattle.qv_solve_cores.proofs.lists.list_without.Goals.{then-is_at, then-stays+in_ok-push, else-stays, else-is_at+in_ok-push-2}

but-length : (out : Option ℕ) (kept : List Bool) → length (kept_but out kept) ≡ length kept
but-length None kept = refl
but-length (Some item) kept = length-set kept item false

pub places-preserved : goal.places-preserved
places-preserved c =
    let named : List ℕ = c.args.named.now in
    let marks : List Bool = kept_but c.args.out c.args.search.now.kept in
    let out : List ℕ = gone named marks in
    let all : List ℕ = c.args.assertions.now in
    let n : ℕ = c.places.place in
    let next : List ℕ = without_from out n (drop n all) in
    let rest : List ℕ = without_from out (n + 1) (drop (n + 1) all) in
    elim c.if-is_at.branch [
      | then-is_at w ↦
          let at : slice_get c.args.named.now c.places.item ≡ Some c.places.place = c.is_at.ensures.0 w.if-is_at.true in
          let met = next-meets n named marks c.places.item c.places.invariant.next (but-length c.args.out c.args.search.now.kept ∙ c.requires.each) at in
          record {
            listed = elim w.if-stays.branch [
              | then-stays+in_ok-push v ↦
                  let mark : get_or (kept_but c.args.out c.args.search.now.kept) c.places.item false ≡ true = sym w.stays.ensures ∙ v.if-stays.true in
                  let pushed : c.if-is_at.list.items ≡ c.places.list.items ++ get_or c.args.assertions.now c.places.place v.index-assertions-place.result ∷ [] = rw (w.list-is, v.list-is) (v.in_ok-push.ensures.items ∙ ap (λ (x : ℕ). c.places.list.items ++ x ∷ []) v.index-assertions-place.is) in
                  listed-takes c.places.list.items c.if-is_at.list.items next rest (without out all) (get_or all n v.index-assertions-place.result) pushed
                  (without-step out all n v.index-assertions-place.result c.places-test.true (met.1 ∙ ap not mark)) c.places.invariant.listed
              | else-stays v ↦
                  let mark : get_or (kept_but c.args.out c.args.search.now.kept) c.places.item false ≡ false = sym w.stays.ensures ∙ v.if-stays.false in
                  let same : c.if-is_at.list.items ≡ c.places.list.items = rw (w.list-is, v.list-is) refl in
                  listed-passes c.places.list.items c.if-is_at.list.items next rest (without out all) same
                  (without-passes out all n 0 c.places-test.true (met.1 ∙ ap not mark)) c.places.invariant.listed
            ];
            next = subst (λ i. IsNext (n + 1) named marks i) (sym w.item-is) met.0;
          }
      | else-is_at+in_ok-push-2 w ↦
          let past = next-passes n named marks c.places.item c.places.invariant.next (λ e. let no : false ≡ true = sym w.if-is_at.false ∙ c.is_at.ensures.1 e in cc) in
          let pushed : c.if-is_at.list.items ≡ c.places.list.items ++ get_or c.args.assertions.now c.places.place w.index-assertions-place-else-is_at.result ∷ [] = rw w.list-is (w.in_ok-push-2.ensures.items ∙ ap (λ (x : ℕ). c.places.list.items ++ x ∷ []) w.index-assertions-place-else-is_at.is) in
          record {
            listed = listed-takes c.places.list.items c.if-is_at.list.items next rest (without out all) (get_or all n w.index-assertions-place-else-is_at.result) pushed
                (without-step out all n w.index-assertions-place-else-is_at.result c.places-test.true past.1) c.places.invariant.listed;
            next = subst (λ i. IsNext (n + 1) named marks i) (sym w.item-is) past.0;
          }
    ]
