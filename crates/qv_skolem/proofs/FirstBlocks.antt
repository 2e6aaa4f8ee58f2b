-- The first block of some places, and blocks by their numbers.
use Rattle.std.proofs.Common.{◌≡◌, ℕ, zero, suc, ◌+◌, ◌-◌, ◌<◌, ◌≤◌, Bool, true, false, cond, not, Some, List, [], ◌∷◌, length, map, drop, take, slice_get, get_or, refl, sym, ap, ◌∙◌, subst, arith}
use denote.Enum.Bare.{sameb}
use Rattle.qv_words.specs.Problem.{Place, Quantifier, Existential, Universal}
use Rattle.qv_words.specs.Linked.{Block, same_quantifier, with_place, blocks_of}
use Rattle.qv_game_laws.proofs.Each.{same-quantifier}
use Rattle.std.proofs.lemmas.List.{drop-map, length-drop, length-map, take-map, take_all}
use Rattle.std.proofs.lemmas.Option.{slice_get-get_or}
use Rattle.qv_words.proofs.Elements.{get-map, take-length as taken-length}
use Rattle.qv_store.specs.declared.problem.Quant.{Quant}
use Rattle.qv_store.specs.declared.problem.Quant.TheVariants.{Exists, Forall}
use Rattle.qv_store.specs.declared.problem.Place.{Place as Kept}
use Rattle.qv_store.specs.Problems.{place_of, quantifier_of}
use Rattle.qv_store.specs.contracts.problem.Quant.{the_type}
use Rattle.qv_skolem.specs.Blocks.{run_length, sorts_of}

-- the first block is the first run
pub first-block : (p : Place) (ps : List Place) → blocks_of (p ∷ ps) ≡ record { owner = p.quantifier; sorts = p.sort ∷ sorts_of (take (run_length p.quantifier ps) ps) } ∷ blocks_of (drop (run_length p.quantifier ps) ps)
first-block p [] = refl
first-block p (r ∷ rs) = ap (with_place p) (first-block r rs) ∙ go (first-block r rs) (same_quantifier p.quantifier r.quantifier) refl
  where
    behind : List Block
    behind = record { owner = r.quantifier; sorts = r.sort ∷ sorts_of (take (run_length r.quantifier rs) rs) } ∷ blocks_of (drop (run_length r.quantifier rs) rs)

    go : blocks_of (r ∷ rs) ≡ behind → (b : Bool) → same_quantifier p.quantifier r.quantifier ≡ b →
        cond b (record { owner = r.quantifier; sorts = p.sort ∷ r.sort ∷ sorts_of (take (run_length r.quantifier rs) rs) } ∷ blocks_of (drop (run_length r.quantifier rs) rs))
        (record { owner = p.quantifier; sorts = p.sort ∷ [] } ∷ record { owner = r.quantifier; sorts = r.sort ∷ sorts_of (take (run_length r.quantifier rs) rs) } ∷ blocks_of (drop (run_length r.quantifier rs) rs))
        ≡ record { owner = p.quantifier; sorts = p.sort ∷ sorts_of (take (cond b (suc (run_length p.quantifier rs)) 0) (r ∷ rs)) } ∷ blocks_of (drop (cond b (suc (run_length p.quantifier rs)) 0) (r ∷ rs))
    go next true is =
        let same : r.quantifier ≡ p.quantifier = sym (same-quantifier p.quantifier r.quantifier is) in
        ap (λ (q : Quantifier). record { owner = q; sorts = p.sort ∷ r.sort ∷ sorts_of (take (run_length q rs) rs) } ∷ blocks_of (drop (run_length q rs) rs)) same
    go next false is = sym (ap (λ (bs : List Block). record { owner = p.quantifier; sorts = p.sort ∷ [] } ∷ bs) next)

-- the test of two quantifiers
quants-same : (a b : Quant) → sameb the_type a b ≡ same_quantifier (quantifier_of b) (quantifier_of a)
quants-same Exists Exists = refl
quants-same Exists Forall = refl
quants-same Forall Exists = refl
quants-same Forall Forall = refl

not-true : (b : Bool) → true ≡ not b → b ≡ false
not-true true h = cc
not-true false h = refl

not-false : (b : Bool) → false ≡ not b → b ≡ true
not-false true h = refl
not-false false h = cc

-- where a run ends, and where it goes on
run-at : (q : Quantifier) (places : List Kept) (n : ℕ) (d : Kept) (b : Bool) → n < length places → same_quantifier q (quantifier_of (get_or places n d).quant) ≡ b →
    run_length q (drop n (map place_of places)) ≡ cond b (suc (run_length q (drop (suc n) (map place_of places)))) 0
run-at q [] n d b h e = absurd (omega (arith, h))
run-at q (p ∷ ps) zero d b h e = ap (λ (x : Bool). cond x (suc (run_length q (map place_of ps))) 0) e
run-at q (p ∷ ps) (suc n) d b h e = run-at q ps n d b (omega (arith, h)) e

pub run-ends : (quant : Quant) (places : List Kept) (n : ℕ) (d : Kept) → n < length places → true ≡ not (sameb the_type (get_or places n d).quant quant) →
    run_length (quantifier_of quant) (drop n (map place_of places)) ≡ 0
run-ends quant places n d h e =
    run-at (quantifier_of quant) places n d false h (sym (quants-same (get_or places n d).quant quant) ∙ not-true (sameb the_type (get_or places n d).quant quant) e)

pub run-goes_on : (quant : Quant) (places : List Kept) (n : ℕ) (d : Kept) → n < length places → false ≡ not (sameb the_type (get_or places n d).quant quant) →
    run_length (quantifier_of quant) (drop n (map place_of places)) ≡ suc (run_length (quantifier_of quant) (drop (n + 1) (map place_of places)))
run-goes_on quant places n d h e =
    let one : suc n ≡ n + 1 = omega arith in
    run-at (quantifier_of quant) places n d true h (sym (quants-same (get_or places n d).quant quant) ∙ not-false (sameb the_type (get_or places n d).quant quant) e)
    ∙ ap (λ (k : ℕ). suc (run_length (quantifier_of quant) (drop k (map place_of places)))) one

-- the first block of places, of which the first has this quantifier
pub record IsFirstRun (q : Quantifier) (ps : List Place) : Type 0 where
  pub blocks : blocks_of ps ≡ record { owner = q; sorts = sorts_of (take (run_length q ps) ps) } ∷ blocks_of (drop (run_length q ps) ps)
  pub some : 1 ≤ run_length q ps
  pub within : run_length q ps ≤ length ps

pub run-within : (q : Quantifier) (ps : List Place) → run_length q ps ≤ length ps
run-within q [] = omega arith
run-within q (p ∷ ps) = go (same_quantifier q p.quantifier) (run-within q ps)
  where
    go : (b : Bool) → run_length q ps ≤ length ps → cond b (suc (run_length q ps)) 0 ≤ suc (length ps)
    go true h = omega (arith, h)
    go false h = omega arith

itself : (q : Quantifier) → same_quantifier q q ≡ true
itself Existential = refl
itself Universal = refl

pub first-run : (q : Quantifier) (p : Place) (ps : List Place) → slice_get ps 0 ≡ Some p → p.quantifier ≡ q → IsFirstRun q ps
first-run q p [] at own = absurd cc
first-run q p (r ∷ ps) at own =
    let same : r ≡ p = cc in
    let quant : r.quantifier ≡ q = ap (λ (x : Place). x.quantifier) same ∙ own in
    let long : run_length q (r ∷ ps) ≡ suc (run_length q ps) = ap (λ (b : Bool). cond b (suc (run_length q ps)) 0) (ap (same_quantifier q) quant ∙ itself q) in
    let made : blocks_of (r ∷ ps) ≡ record { owner = q; sorts = r.sort ∷ sorts_of (take (run_length q ps) ps) } ∷ blocks_of (drop (run_length q ps) ps) =
    first-block r ps ∙ ap (λ (x : Quantifier). record { owner = x; sorts = r.sort ∷ sorts_of (take (run_length x ps) ps) } ∷ blocks_of (drop (run_length x ps) ps)) quant in
    record {
      blocks = made ∙ ap (λ (n : ℕ). record { owner = q; sorts = sorts_of (take n (r ∷ ps)) } ∷ blocks_of (drop n (r ∷ ps))) (sym long);
      some = omega (arith, long);
      within = run-within q (r ∷ ps);
    }

-- the first block of the places from a number on, as it is read
pub record IsBlockRead (items : List Kept) (first n : ℕ) (q : Quant) (block : List Kept) : Type 0 where
  pub run : IsFirstRun (quantifier_of q) (drop first (map place_of items))
  pub many : n ≡ run_length (quantifier_of q) (drop first (map place_of items))
  pub long : length block ≡ n
  pub places : map place_of block ≡ take (run_length (quantifier_of q) (drop first (map place_of items))) (drop first (map place_of items))

-- in plain lists
plain-read : (items : List Kept) (first n : ℕ) (d : Kept) (q : Quant) → first < length items → n ≡ run_length (quantifier_of (get_or (drop first items) 0 d).quant) (map place_of (drop first items)) → (get_or (drop first items) 0 d).quant ≡ q →
    IsBlockRead items first n q (take n (drop first items))
plain-read items first n d q low are is =
    let behind : drop first (map place_of items) ≡ map place_of (drop first items) = drop-map place_of first items in
    let some : 0 < length (drop first items) = omega (arith, low, length-drop first items) in
    let head : slice_get (map place_of (drop first items)) 0 ≡ Some (place_of (get_or (drop first items) 0 d)) =
    get-map place_of (drop first items) 0 (get_or (drop first items) 0 d) (slice_get-get_or (drop first items) 0 d some) in
    let run : IsFirstRun (quantifier_of q) (drop first (map place_of items)) =
    first-run (quantifier_of q) (place_of (get_or (drop first items) 0 d)) (drop first (map place_of items)) (ap (λ (ps : List Place). slice_get ps 0) behind ∙ head) (ap quantifier_of is) in
    let many : n ≡ run_length (quantifier_of q) (drop first (map place_of items)) = are ∙ ap (λ (r : Quant). run_length (quantifier_of r) (map place_of (drop first items))) is ∙ ap (run_length (quantifier_of q)) (sym behind) in
    let within = run.within in
    let size : length (map place_of (drop first items)) ≡ length (drop first items) = length-map (drop first items) place_of in
    let both : length (drop first (map place_of items)) ≡ length (drop first items) = ap length behind ∙ size in
    record {
      run = run;
      many = many;
      long = taken-length (drop first items) n (omega (arith, many, within, both));
      places = sym (take-map place_of n (drop first items)) ∙ ap (λ (ps : List Place). take n ps) (sym behind) ∙ ap (λ (k : ℕ). take k (drop first (map place_of items))) many;
    }

pub block-read : (items read : List Kept) (f first n : ℕ) (d : Kept) (q : Quant) → read ≡ items → f ≡ first → first < length items →
    n ≡ run_length (quantifier_of (get_or (take (length read - f) (drop f read)) 0 d).quant) (map place_of (take (length read - f) (drop f read))) → (get_or (take (length read - f) (drop f read)) 0 d).quant ≡ q →
    IsBlockRead items first n q (take n (take (length read - f) (drop f read)))
block-read items read f first n d q same at low are is =
    let left : length (drop first items) ≡ length items - first = length-drop first items in
    let behind : take (length read - f) (drop f read) ≡ drop first items =
    ap (λ (xs : List Kept). take (length xs - f) (drop f xs)) same ∙ ap (λ (k : ℕ). take (length items - k) (drop k items)) at ∙ take_all (length items - first) (drop first items) (omega (arith, left)) in
    subst (λ (xs : List Kept). IsBlockRead items first n q (take n xs)) (sym behind)
    (plain-read items first n d q low (are ∙ ap (λ (xs : List Kept). run_length (quantifier_of (get_or xs 0 d).quant) (map place_of xs)) behind) (ap (λ (xs : List Kept). (get_or xs 0 d).quant) (sym behind) ∙ is))
