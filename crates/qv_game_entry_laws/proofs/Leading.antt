-- A model of the clauses with the point's bits as assumed leads on from the point.
use Rattle.std.proofs.Common.{◌≡◌, ℕ, zero, suc, ◌+◌, ◌*◌, ◌/◌, ◌%◌, ◌^◌, ◌<◌, ◌==◌, Bool, true, cond, Option, Some, List, [], ◌∷◌, ◌++◌, length, map, drop, slice_get, sym, ap, ◌∙◌, subst, arith}
use Rattle.std.specs.List.{list_all}
use Rattle.std.specs.Prelude.{unwrap_or}
use Rattle.std.proofs.lemmas.Bool.{and_parts}
use Rattle.std.proofs.lemmas.List.Folds.{list_all-append}
use Rattle.qv_words.specs.Op.{truth}
use Rattle.qv_words.specs.Tree.{Tree, Variable}
use Rattle.qv_words.specs.Gate.{Lit, neg, lit_value}
use Rattle.qv_words.specs.Clauses.{Blasted, bits_of}
use Rattle.qv_circuits_laws.specs.CircuitLaws.{number_of}
use Rattle.qv_circuits_laws.specs.ClauseLaws.{blasted}
use Rattle.qv_circuits_laws.proofs.Adding.{double}
use Rattle.qv_game_entry_laws.proofs.Fixed.{low-bit}
use Rattle.qv_game_entry_laws.proofs.Models.{models-make_true}
use Rattle.qv_game_entry_laws.specs.Fixings.{bits_found, fixed, fixings}
use Rattle.qv_game_entry_laws.specs.PointLaws.{places_from, values_under, ModelsLeadOn}
use Rattle.qv_game_entry_laws.proofs.Places.{at-place, bit-count, Fit, typed-fit}

fixed-number : (v : ℕ → Bool) (bits : List Lit) (n : ℕ) → n < 2 ^ length bits → list_all (lit_value v) (fixed n bits) ≡ true → number_of v bits ≡ n
fixed-number v [] n h f = omega (arith, h)
fixed-number v (b ∷ bs) n h f =
    let parts = and_parts (lit_value v (cond (n % 2 == 1) b (neg b))) (list_all (lit_value v) (fixed (n / 2) bs)) f in
    let wide : n < 2 * 2 ^ length bs = subst (λ (k : ℕ). n < k) (double (length bs)) h in
    let half : n / 2 < 2 ^ length bs = omega (arith, wide) in
    let low : truth (lit_value v b) ≡ n % 2 = low-bit v b n parts.0 in
    let rest : number_of v bs ≡ n / 2 = fixed-number v bs (n / 2) half parts.1 in
    let whole : truth (lit_value v b) + 2 * number_of v bs ≡ n = omega (arith, low, rest) in
    whole

mapped-at : {A B : Type 0} (f : A → B) (xs : List A) (k : ℕ) (x : A) → slice_get xs k ≡ Some x → slice_get (map f xs) k ≡ Some (f x)
mapped-at f [] k x e = absurd (cc)
mapped-at f (y ∷ ys) zero x e = let same : y ≡ x = cc in ap (λ z. Some (f z)) same
mapped-at f (y ∷ ys) (suc k) x e = mapped-at f ys k x e

-- the value of each place that has bits is their number
place-value : (v : ℕ → Bool) (known : List Blasted) (ts : List Tree) (vs : List ℕ) (k : ℕ) (t : Tree) (x : List Lit) → Fit known ts vs → list_all (lit_value v) (fixings known ts vs) ≡ true → slice_get ts k ≡ Some t → bits_of known t ≡ Some x → slice_get (vs ++ values_under v known (drop (length vs) ts)) k ≡ Some (number_of v x)
place-value v known [] vs k t x fit all e has = absurd (cc)
place-value v known (u ∷ ts) [] k t x fit all e has =
    mapped-at (λ w. number_of v (bits_found known w)) (u ∷ ts) k t e ∙ ap (λ (o : Option (List Lit)). Some (number_of v (unwrap_or o []))) has
place-value v known (u ∷ ts) (n ∷ vs) zero t x fit all e has =
    let same : u ≡ t = cc in
    let mine : bits_of known u ≡ Some x = ap (bits_of known) same ∙ has in
    let found : bits_found known u ≡ x = ap (λ (o : Option (List Lit)). unwrap_or o []) mine in
    let parts = and_parts (list_all (lit_value v) (fixed n (bits_found known u))) (list_all (lit_value v) (fixings known ts vs))
    (sym (list_all-append (lit_value v) (fixed n (bits_found known u)) (fixings known ts vs)) ∙ all) in
    ap Some (sym (fixed-number v x n (fit.0 x mine) (subst (λ (bits : List Lit). list_all (lit_value v) (fixed n bits) ≡ true) found parts.0)))
place-value v known (u ∷ ts) (n ∷ vs) (suc k) t x fit all e has =
    let parts = and_parts (list_all (lit_value v) (fixed n (bits_found known u))) (list_all (lit_value v) (fixings known ts vs))
    (sym (list_all-append (lit_value v) (fixed n (bits_found known u)) (fixings known ts vs)) ∙ all) in
    place-value v known ts vs k t x fit.1 parts.1 e has

pub models-lead_on : ModelsLeadOn
models-lead_on formulas sorts point v terms over typed model assumed =
    let known = blasted formulas in
    let fit = typed-fit known (bit-count formulas terms) 0 sorts point typed in
    models-make_true formulas sorts v (point ++ values_under v known (drop (length point) (places_from 0 sorts))) terms over
    (λ place s bits e has.
    let here : 0 + place ≡ place = omega arith in
    let at : slice_get (places_from 0 sorts) place ≡ Some (Variable place s) = at-place 0 sorts place s e ∙ ap (λ (n : ℕ). Some (Variable n s)) here in
    place-value v known (places_from 0 sorts) point place (Variable place s) bits fit assumed at has)
    model
