-- Blocks and their places: told place by place, and found by number.
use Rattle.std.proofs.Common.{◌≡◌, ℕ, zero, suc, ◌+◌, ◌-◌, ◌≤◌, true, false, cond, Some, None, List, [], ◌∷◌, length, map, take, sum, slice_get, inl, inr, refl, sym, ap, ◌∙◌, arith}
use Rattle.std.proofs.lemmas.Bool.{cases_Bool}
use Rattle.std.proofs.lemmas.List.Sums.{sum_by-cons}
use Rattle.qv_words.specs.Problem.{Place, Quantifier, Existential, Universal}
use Rattle.qv_words.specs.Linked.{Block, blocks_of, same_quantifier, with_place, block_numbered}
use Rattle.qv_game_state.specs.Spans.{Span, spans_from, spans_with}
use Rattle.qv_game_laws.proofs.Each.{same-quantifier}

-- a block that goes on with the first of others where they have one owner
abbrev joined : Span → List Block → List Span
joined s [] = s ∷ []
joined s (b ∷ bs) =
    cond (same_quantifier s.owner b.owner)
    (record { owner = s.owner; first = s.first; end = s.end + length b.sorts } ∷ spans_from (s.end + length b.sorts) bs)
    (s ∷ spans_from s.end (b ∷ bs))

pub same-self : (q : Quantifier) → same_quantifier q q ≡ true
same-self Existential = refl
same-self Universal = refl

-- a block of one place, and the blocks behind it
alone : (q : Quantifier) (p : Place) (place : ℕ) (bs : List Block) → q ≡ p.quantifier → joined (record { owner = q; first = place; end = suc place }) bs ≡ spans_from place (with_place p bs)
alone q p place [] e =
    let up : place + 1 ≡ suc place = omega arith in
    ap (λ (n : ℕ). record { owner = q; first = place; end = n } ∷ []) (sym up) ∙ ap (λ (r : Quantifier). record { owner = r; first = place; end = place + 1 } ∷ []) e
alone q p place (b ∷ bs) e =
    let at : same_quantifier q b.owner ≡ same_quantifier p.quantifier b.owner = ap (λ (r : Quantifier). same_quantifier r b.owner) e in
    elim (cases_Bool (same_quantifier p.quantifier b.owner)) [
      | inl y ↦
          let here : same_quantifier q b.owner ≡ true = at ∙ y in
          let owner : q ≡ b.owner = same-quantifier q b.owner here in
          let up : suc place + length b.sorts ≡ place + suc (length b.sorts) = omega arith in
          rw (here, y) (ap (λ (n : ℕ). record { owner = q; first = place; end = n } ∷ spans_from n bs) up ∙ ap (λ (r : Quantifier). record { owner = r; first = place; end = place + suc (length b.sorts) } ∷ spans_from (place + suc (length b.sorts)) bs) owner)
      | inr n ↦
          let here : same_quantifier q b.owner ≡ false = at ∙ n in
          let up : suc place ≡ place + 1 = omega arith in
          rw (here, n) (ap (λ (k : ℕ). record { owner = q; first = place; end = k } ∷ spans_from k (b ∷ bs)) up ∙ ap (λ (r : Quantifier). record { owner = r; first = place; end = place + 1 } ∷ spans_from (place + 1) (b ∷ bs)) e)
    ]

-- a place begins the first block
first-block : (p : Place) (bs : List Block) → (b : Block) × (rest : List Block) × (with_place p bs ≡ b ∷ rest) × (b.owner ≡ p.quantifier)
first-block p [] = (record { owner = p.quantifier; sorts = p.sort ∷ [] }, [], refl, refl)
first-block p (b ∷ bs) = elim (cases_Bool (same_quantifier p.quantifier b.owner)) [
  | inl y ↦ (record { owner = b.owner; sorts = p.sort ∷ b.sorts }, bs, rw y refl, sym (same-quantifier p.quantifier b.owner y))
  | inr n ↦ (record { owner = p.quantifier; sorts = p.sort ∷ [] }, b ∷ bs, rw n refl, refl)
]

-- a place more of a block that has begun
goes-on : (s : Span) (p : Place) (bs : List Block) → same_quantifier s.owner p.quantifier ≡ true → joined (record { owner = s.owner; first = s.first; end = suc s.end }) bs ≡ joined s (with_place p bs)
goes-on s p [] y =
    let up : suc s.end ≡ s.end + 1 = omega arith in
    rw y (ap (λ (n : ℕ). record { owner = s.owner; first = s.first; end = n } ∷ []) up)
goes-on s p (b ∷ bs) y =
    let owner : s.owner ≡ p.quantifier = same-quantifier s.owner p.quantifier y in
    let at : same_quantifier s.owner b.owner ≡ same_quantifier p.quantifier b.owner = ap (λ (r : Quantifier). same_quantifier r b.owner) owner in
    elim (cases_Bool (same_quantifier p.quantifier b.owner)) [
      | inl z ↦
          let here : same_quantifier s.owner b.owner ≡ true = at ∙ z in
          let up : suc s.end + length b.sorts ≡ s.end + suc (length b.sorts) = omega arith in
          rw (z, here) (ap (λ (n : ℕ). record { owner = s.owner; first = s.first; end = n } ∷ spans_from n bs) up)
      | inr n ↦
          let here : same_quantifier s.owner b.owner ≡ false = at ∙ n in
          let up : suc s.end ≡ s.end + 1 = omega arith in
          rw (n, here, y) (ap (λ (k : ℕ). record { owner = s.owner; first = s.first; end = k } ∷ spans_from k (b ∷ bs)) up)
    ]

-- a place of another player
ends : (s : Span) (p : Place) (bs : List Block) → same_quantifier s.owner p.quantifier ≡ false → s ∷ spans_from s.end (with_place p bs) ≡ joined s (with_place p bs)
ends s p bs n =
    let f = first-block p bs in
    let other : same_quantifier s.owner f.0.owner ≡ false = ap (same_quantifier s.owner) f.3 ∙ n in
    let tested : joined s (f.0 ∷ f.1) ≡ s ∷ spans_from s.end (f.0 ∷ f.1) = rw other refl in
    ap (λ (cs : List Block). s ∷ spans_from s.end cs) f.2 ∙ sym tested ∙ ap (joined s) (sym f.2)

going : (place : ℕ) (s : Span) (ps : List Place) → s.end ≡ place → spans_with place (Some s) ps ≡ joined s (blocks_of ps)
going place s [] e = refl
going place s (p ∷ ps) e = elim (cases_Bool (same_quantifier s.owner p.quantifier)) [
  | inl y ↦ rw y (
      going (suc place) (record { owner = s.owner; first = s.first; end = suc place }) ps refl
      ∙ ap (λ (n : ℕ). joined (record { owner = s.owner; first = s.first; end = suc n }) (blocks_of ps)) (sym e)
      ∙ goes-on s p (blocks_of ps) y)
  | inr n ↦ rw n (
      ap (λ (ss : List Span). s ∷ ss) (going (suc place) (record { owner = p.quantifier; first = place; end = suc place }) ps refl ∙ alone p.quantifier p place (blocks_of ps) refl)
      ∙ ap (λ (k : ℕ). s ∷ spans_from k (with_place p (blocks_of ps))) (sym e)
      ∙ ends s p (blocks_of ps) n)
]

pub spans-are : (ps : List Place) → spans_with 0 None ps ≡ spans_from 0 (blocks_of ps)
spans-are [] = refl
spans-are (p ∷ ps) = going 1 (record { owner = p.quantifier; first = 0; end = 1 }) ps refl ∙ alone p.quantifier p 0 (blocks_of ps) refl

-- a block by its place among the others
pub record IsSpanOf (bs : List Block) (first k : ℕ) (s : Span) (b : Block) : Type 0 where
  pub at : slice_get bs k ≡ Some b
  pub owner : s.owner ≡ b.owner
  pub from : s.first ≡ first + sum (map (λ (c : Block). length c.sorts) (take k bs))
  pub to : s.end ≡ s.first + length b.sorts

pub span-at : (first : ℕ) (bs : List Block) (k : ℕ) (s : Span) → slice_get (spans_from first bs) k ≡ Some s → (b : Block) × IsSpanOf bs first k s b
span-at first [] k s e = absurd (cc)
span-at first (b ∷ bs) zero s e =
    let is : record { owner = b.owner; first = first; end = first + length b.sorts } ≡ s = cc in
    let from : first ≡ s.first = ap (λ (t : Span). t.first) is in
    let to : first + length b.sorts ≡ s.end = ap (λ (t : Span). t.end) is in
    (b, record { at = refl; owner = sym (ap (λ (t : Span). t.owner) is); from = omega (arith, from); to = omega (arith, from, to) })
span-at first (b ∷ bs) (suc k) s e =
    let more = span-at (first + length b.sorts) bs k s e in
    let from = more.1.from in
    let one : sum (map (λ (c : Block). length c.sorts) (take (suc k) (b ∷ bs))) ≡ length b.sorts + sum (map (λ (c : Block). length c.sorts) (take k bs)) = sum_by-cons (λ x. x) (length b.sorts) (map (λ (c : Block). length c.sorts) (take k bs)) in
    (more.0, record { at = more.1.at; owner = more.1.owner; from = omega (arith, from, one); to = more.1.to })

pub spans-count : (first : ℕ) (bs : List Block) → length (spans_from first bs) ≡ length bs
spans-count first [] = refl
spans-count first (b ∷ bs) = ap suc (spans-count (first + length b.sorts) bs)

-- a block by its number
pub numbered-block : (bs : List Block) (level : ℕ) → 1 ≤ level → block_numbered bs level ≡ slice_get bs (level - 1)
numbered-block bs zero h = absurd (omega (arith, h))
numbered-block bs (suc k) h = let back : suc k - 1 ≡ k = omega arith in ap (slice_get bs) (sym back)

-- places have a block
pub some-block : (ps : List Place) → (ps ≡ [] → ⊥) → 1 ≤ length (blocks_of ps)
some-block [] h = absurd (h refl)
some-block (p ∷ ps) h =
    let f = first-block p (blocks_of ps) in
    let count = ap length f.2 in
    omega (arith, count)
