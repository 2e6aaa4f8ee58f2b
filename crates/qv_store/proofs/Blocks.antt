-- The blocks of places, counted from the left.
use Rattle.std.proofs.Common.{◌≡◌, ℕ, zero, suc, ◌+◌, ◌-◌, ◌<◌, ◌≤◌, Bool, true, false, cond, List, [], ◌∷◌, length, map, take, drop, sum, subst, get_or, Option, Some, None, refl, ap, sym, ◌∙◌, arith}
use Rattle.std.specs.Prelude.{if◌then◌else◌}
use Rattle.std.proofs.lemmas.List.{drop_more, take-map, length-map}
use Rattle.std.proofs.lemmas.List.Sums.{sum_by-cons}
use Rattle.qv_words.specs.Problem.{Quantifier, Existential, Universal}
use Rattle.qv_words.specs.Problem.{Place as PlainPlace}
use Rattle.qv_words.specs.Linked.{Block, same_quantifier, with_place, blocks_of, places_below}
use Rattle.qv_store.specs.declared.problem.Quant.{Quant}
use Rattle.qv_store.specs.declared.problem.Place.{Place}
use Rattle.qv_store.specs.Problems.{quantifier_of, place_of, IsInBlock}

-- how many blocks places begin, behind one of this quantifier or behind none
abbrev pub begun : Option Quant → List Place → ℕ
begun before [] = 0
begun None (p ∷ ps) = suc (begun (Some p.quant) ps)
begun (Some q) (p ∷ ps) = (if same_quantifier (quantifier_of q) (quantifier_of p.quant) then 0 else 1) + begun (Some p.quant) ps

-- one place more in front
in-front : (p : PlainPlace) (b : Block) (bs : List Block) → length (with_place p (b ∷ bs)) ≡ (if same_quantifier p.quantifier b.owner then 0 else 1) + length (b ∷ bs)
in-front p b bs = by (same_quantifier p.quantifier b.owner)
  where
    by : (c : Bool) → length (cond c (record { owner = b.owner; sorts = p.sort ∷ b.sorts } ∷ bs) (record { owner = p.quantifier; sorts = p.sort ∷ [] } ∷ b ∷ bs)) ≡ cond c 0 1 + length (b ∷ bs)
    by true = omega arith
    by false = omega arith

-- the first block of places is of the first place's quantifier
record IsFirst (q : Quantifier) (blocks : List Block) : Type 0 where
  first : Block
  rest : List Block
  are : blocks ≡ first ∷ rest
  owner : first.owner ≡ q

same-owner : (q r : Quantifier) → same_quantifier q r ≡ true → r ≡ q
same-owner Existential Existential h = refl
same-owner Universal Universal h = refl
same-owner Existential Universal h = absurd (cc)
same-owner Universal Existential h = absurd (cc)

first-with : (p : PlainPlace) (blocks : List Block) → IsFirst p.quantifier (with_place p blocks)
first-with p [] = record { first = record { owner = p.quantifier; sorts = p.sort ∷ [] }; rest = []; are = refl; owner = refl }
first-with p (b ∷ bs) = by (same_quantifier p.quantifier b.owner) refl
  where
    by : (c : Bool) → same_quantifier p.quantifier b.owner ≡ c → IsFirst p.quantifier (cond c (record { owner = b.owner; sorts = p.sort ∷ b.sorts } ∷ bs) (record { owner = p.quantifier; sorts = p.sort ∷ [] } ∷ b ∷ bs))
    by true e = record { first = record { owner = b.owner; sorts = p.sort ∷ b.sorts }; rest = bs; are = refl; owner = same-owner p.quantifier b.owner e }
    by false e = record { first = record { owner = p.quantifier; sorts = p.sort ∷ [] }; rest = b ∷ bs; are = refl; owner = refl }

pub begun-blocks : (p : Place) (ps : List Place) → length (blocks_of (map place_of (p ∷ ps))) ≡ suc (begun (Some p.quant) ps)
begun-blocks p [] = refl
begun-blocks p (q ∷ ps) =
    let rest = begun-blocks q ps in
    let at = first-with (place_of q) (blocks_of (map place_of ps)) in
    let here = in-front (place_of p) at.first at.rest in
    let split : length (blocks_of (map place_of (p ∷ q ∷ ps))) ≡ (if same_quantifier (quantifier_of p.quant) (quantifier_of q.quant) then 0 else 1) + length (blocks_of (map place_of (q ∷ ps))) =
    ap (λ bs. length (with_place (place_of p) bs)) at.are ∙ here
    ∙ ap (λ o. (if same_quantifier (quantifier_of p.quant) o then 0 else 1) + length (at.first ∷ at.rest)) at.owner
    ∙ ap (λ bs. (if same_quantifier (quantifier_of p.quant) (quantifier_of q.quant) then 0 else 1) + length bs) (sym at.are) in
    omega (arith, split, rest)

pub begun-all : (ps : List Place) → begun None ps ≡ length (blocks_of (map place_of ps))
begun-all [] = refl
begun-all (p ∷ ps) = sym (begun-blocks p ps)

-- the next place
pub begun-next : (before : Option Quant) (ps : List Place) (i : ℕ) (p : Place) → i < length ps → p ≡ get_or ps i p → begun before (drop i ps) ≡ begun before (p ∷ drop (i + 1) ps)
begun-next before ps i p h at = ap (begun before) (drop_more ps i p h) ∙ ap (λ (q : Place). begun before (q ∷ drop (i + 1) ps)) (sym at)

-- how many places stand in the first blocks
abbrev places-first : ℕ → List Block → ℕ
places-first zero blocks = 0
places-first (suc k) [] = 0
places-first (suc k) (b ∷ bs) = length b.sorts + places-first k bs

first-is : (k : ℕ) (blocks : List Block) → sum (map (λ (b : Block). length b.sorts) (take k blocks)) ≡ places-first k blocks
first-is zero blocks = refl
first-is (suc k) [] = refl
first-is (suc k) (b ∷ bs) =
    sum_by-cons (λ n. n) (length b.sorts) (map (λ (c : Block). length c.sorts) (take k bs)) ∙ ap (λ n. length b.sorts + n) (first-is k bs)

below-is : (k : ℕ) (blocks : List Block) → places_below blocks (suc k) ≡ places-first k blocks
below-is k blocks =
    let less : suc k - 1 ≡ k = omega arith in
    ap (λ n. sum (map (λ (b : Block). length b.sorts) (take n blocks))) less ∙ first-is k blocks

-- a place stands in the block of number k + 1
record StandsIn (blocks : List Block) (place k : ℕ) : Type 0 where
  within : k < length blocks
  behind : places-first k blocks ≤ place
  before : place < places-first (suc k) blocks

-- one place in front: it begins a block, or lengthens the first
stands-next : (p : PlainPlace) (blocks fewer : List Block) (place k : ℕ) (b c : Block) (bs cs : List Block) → blocks ≡ b ∷ bs → fewer ≡ c ∷ cs → c.owner ≡ b.owner → length fewer ≡ suc k
    → StandsIn blocks place k → (n : ℕ) × (length (with_place p fewer) ≡ suc n) × StandsIn (with_place p blocks) (suc place) n
stands-next p blocks fewer place k b c bs cs e f same long at =
    by (same_quantifier p.quantifier b.owner) refl
  where
    lengthened : Block
    lengthened = record { owner = b.owner; sorts = p.sort ∷ b.sorts }

    at' : StandsIn (b ∷ bs) place k
    at' = subst (λ x. StandsIn x place k) e at

    short : same_quantifier p.quantifier b.owner ≡ true → length (with_place p fewer) ≡ suc k
    short h = ap (λ x. length (with_place p x)) f ∙ in-front p c cs ∙ ap (λ o. (if same_quantifier p.quantifier o then 0 else 1) + length (c ∷ cs)) same
        ∙ ap (λ t. (if t then 0 else 1) + length (c ∷ cs)) h ∙ (let sum-is : 0 + length (c ∷ cs) ≡ suc k = omega (arith, long, ap length f) in sum-is)

    longer : same_quantifier p.quantifier b.owner ≡ false → length (with_place p fewer) ≡ suc (suc k)
    longer h = ap (λ x. length (with_place p x)) f ∙ in-front p c cs ∙ ap (λ o. (if same_quantifier p.quantifier o then 0 else 1) + length (c ∷ cs)) same
        ∙ ap (λ t. (if t then 0 else 1) + length (c ∷ cs)) h ∙ (let sum-is : 1 + length (c ∷ cs) ≡ suc (suc k) = omega (arith, long, ap length f) in sum-is)

    front-longer : (m : ℕ) → StandsIn (b ∷ bs) place m → StandsIn (record { owner = b.owner; sorts = p.sort ∷ b.sorts } ∷ bs) (suc place) m
    front-longer zero h = record { within = omega (arith, h.within); behind = omega arith; before = omega (arith, h.before) }
    front-longer (suc m) h = record { within = omega (arith, h.within); behind = omega (arith, h.behind); before = omega (arith, h.before) }

    by : (t : Bool) → same_quantifier p.quantifier b.owner ≡ t → (n : ℕ) × (length (with_place p fewer) ≡ suc n) × StandsIn (with_place p blocks) (suc place) n
    by true h =
        let made : with_place p blocks ≡ record { owner = b.owner; sorts = p.sort ∷ b.sorts } ∷ bs =
        ap (with_place p) e ∙ ap (λ t. if t then record { owner = b.owner; sorts = p.sort ∷ b.sorts } ∷ bs else record { owner = p.quantifier; sorts = p.sort ∷ [] } ∷ b ∷ bs) h in
        (k, short h, subst (λ x. StandsIn x (suc place) k) (sym made) (front-longer k at'))
    by false h =
        let made : with_place p blocks ≡ record { owner = p.quantifier; sorts = p.sort ∷ [] } ∷ b ∷ bs =
        ap (with_place p) e ∙ ap (λ t. if t then record { owner = b.owner; sorts = p.sort ∷ b.sorts } ∷ bs else record { owner = p.quantifier; sorts = p.sort ∷ [] } ∷ b ∷ bs) h in
        (suc k, longer h, subst (λ x. StandsIn x (suc place) (suc k)) (sym made) (record { within = omega (arith, at'.within); behind = omega (arith, at'.behind); before = omega (arith, at'.before) }))

-- the block of a place is the last of those down to it
stands-in : (ps : List PlainPlace) (place : ℕ) → place < length ps → (k : ℕ) × (length (blocks_of (take (suc place) ps)) ≡ suc k) × StandsIn (blocks_of ps) place k
stands-in [] place h = absurd (omega (arith, h))
stands-in (p ∷ ps) zero h =
    let first = first-with p (blocks_of ps) in
    let some = with-some p (blocks_of ps) in (
      0,
      refl,
      record {
        within = omega (arith, ap length first.are);
        behind = omega arith;
        before = some;
      },
    )
  where
    with-some : (p : PlainPlace) (blocks : List Block) → 0 < places-first 1 (with_place p blocks)
    with-some p [] = omega arith
    with-some p (b ∷ bs) = by (same_quantifier p.quantifier b.owner)
      where
        by : (t : Bool) → 0 < places-first 1 (cond t (record { owner = b.owner; sorts = p.sort ∷ b.sorts } ∷ bs) (record { owner = p.quantifier; sorts = p.sort ∷ [] } ∷ b ∷ bs))
        by true = omega arith
        by false = omega arith
stands-in (p ∷ []) (suc place) h = absurd (omega (arith, h))
stands-in (p ∷ q ∷ ps) (suc place) h =
    let rest = stands-in (q ∷ ps) place (omega (arith, h)) in
    let all = first-with q (blocks_of ps) in
    let fewer = first-with q (blocks_of (take place ps)) in
    stands-next p (blocks_of (q ∷ ps)) (blocks_of (take (suc place) (q ∷ ps))) place rest.0 all.first fewer.first all.rest fewer.rest all.are fewer.are (fewer.owner ∙ sym all.owner) rest.1 rest.2

pub in-block : (ps : List PlainPlace) (place : ℕ) → place < length ps → IsInBlock ps place (length (blocks_of (take (place + 1) ps)))
in-block ps place h =
    let at = stands-in ps place h in
    let one : place + 1 ≡ suc place = omega arith in
    let number : length (blocks_of (take (place + 1) ps)) ≡ suc at.0 = ap (λ n. length (blocks_of (take n ps))) one ∙ at.1 in
    let more : suc at.0 + 1 ≡ suc (suc at.0) = omega arith in
    subst (IsInBlock ps place) (sym number) (record {
      from_one = omega arith;
      within = omega (arith, at.2.within);
      behind = omega (arith, below-is at.0 (blocks_of ps), at.2.behind);
      before = omega (arith, below-is (suc at.0) (blocks_of ps), ap (places_below (blocks_of ps)) more, at.2.before);
    })

-- the same of a problem's prefix
pub in-block-of : (ps qs : List Place) (place n : ℕ) → qs ≡ ps → place < length ps → n ≡ length (blocks_of (map place_of (take (place + 1) qs))) → IsInBlock (map place_of ps) place n
in-block-of ps qs place n read h e =
    let at = in-block (map place_of ps) place (omega (arith, h, length-map ps place_of)) in
    let same : n ≡ length (blocks_of (take (place + 1) (map place_of ps))) =
    e ∙ ap (λ xs. length (blocks_of (map place_of (take (place + 1) xs)))) read ∙ ap (λ xs. length (blocks_of xs)) (sym (take-map place_of (place + 1) ps)) in
    subst (IsInBlock (map place_of ps) place) (sym same) at
