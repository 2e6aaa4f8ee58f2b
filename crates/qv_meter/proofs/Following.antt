-- What may come behind a forced entry.
use Rattle.std.proofs.Common.{◌≡◌, ℕ, zero, suc, ◌+◌, ◌≤◌, false, Some, List, [], ◌∷◌, ◌++◌, length, slice_get, refl, sym, ap, ◌∙◌, subst, inl, inr, append_assoc, arith}
use Rattle.std.specs.Prelude.{IsSomeAnd}
use Rattle.std.specs.List.{AllByRecursion}
use Rattle.std.proofs.lemmas.Bool.{cases_Bool}
use Rattle.std.proofs.lemmas.Option.{none-some, same_Some}
use Rattle.std.proofs.lemmas.List.Elements.{recursion_from_All}
use Rattle.qv_words.specs.Problem.{Problem, Place, Quantifier, Existential, Universal}
use Rattle.qv_words.specs.Linked.{Block, Entry, IsLink, block_numbered, blocks_of, same_quantifier, with_place}
use Rattle.qv_words.proofs.Elements.{length-pushed, of-some, pushed-last, some-and, to-some}
use Rattle.qv_meter.specs.Played.{FollowsForced, IsPlayed, IsSettled, WasForced}
use Rattle.qv_meter.specs.UnitLaws.{ForcedIsFollowed}
use Rattle.qv_meter.proofs.Fresh.{last-entry}

-- neighbouring blocks have different owners
abbrev pub Alternate : List Block → Type 0
Alternate bs = (k : ℕ) (b c : Block) → slice_get bs k ≡ Some b → slice_get bs (suc k) ≡ Some c → same_quantifier b.owner c.owner ≡ false

longer : (x d : Block) (bs : List Block) → x.owner ≡ d.owner → Alternate (d ∷ bs) → Alternate (x ∷ bs)
longer x d bs same h zero b c at next =
    let owner : b.owner ≡ d.owner = ap (λ (y : Block). y.owner) (sym (same_Some x b at)) ∙ same in
    subst (λ (q : Quantifier). same_quantifier q c.owner ≡ false) (sym owner) (h 0 d c refl next)
longer x d bs same h (suc k) b c at next = h (suc k) b c at next

one-more : (x d : Block) (bs : List Block) → same_quantifier x.owner d.owner ≡ false → Alternate (d ∷ bs) → Alternate (x ∷ d ∷ bs)
one-more x d bs apart h zero b c at next =
    subst (λ (y : Block). same_quantifier y.owner c.owner ≡ false) (same_Some x b at)
    (subst (λ (y : Block). same_quantifier x.owner y.owner ≡ false) (same_Some d c next) apart)
one-more x d bs apart h (suc k) b c at next = h k b c at next

with-alternating : (q : Place) (bs : List Block) → Alternate bs → Alternate (with_place q bs)
with-alternating q [] h = λ k b c at next. absurd (none-some c next)
with-alternating q (d ∷ bs) h = elim (cases_Bool (same_quantifier q.quantifier d.owner)) [
  | inl y ↦ rw y (longer (record { owner = d.owner; sorts = q.sort ∷ d.sorts }) d bs refl h)
  | inr n ↦ rw n (one-more (record { owner = q.quantifier; sorts = q.sort ∷ [] }) d bs n h)
]

pub blocks-alternate : (ps : List Place) → Alternate (blocks_of ps)
blocks-alternate [] = λ k b c at next. absurd (none-some c next)
blocks-alternate (q ∷ ps) = with-alternating q (blocks_of ps) (blocks-alternate ps)

neither : (q r w : Quantifier) → same_quantifier q w ≡ false → same_quantifier r w ≡ false → q ≡ r
neither Existential Existential w h k = refl
neither Universal Universal w h k = refl
neither Existential Universal Existential h k = absurd (cc)
neither Existential Universal Universal h k = absurd (cc)
neither Universal Existential Existential h k = absurd (cc)
neither Universal Existential Universal h k = absurd (cc)

-- who doesn't own a block owns the one before
pub owned-before : (p : Problem) (level next : ℕ) (winner : Quantifier) → 1 ≤ level → next ≡ level + 1 → IsSomeAnd (block_numbered (blocks_of p.prefix) next) (λ c. same_quantifier winner c.owner ≡ false) → IsSomeAnd (block_numbered (blocks_of p.prefix) level) (λ b. b.owner ≡ winner)
owned-before p zero next winner low is h = absurd (omega (arith, low))
owned-before p (suc k) next winner low is h =
    let bs = blocks_of p.prefix in
    let there : next ≡ suc (suc k) = omega (arith, is) in
    let c = some-and (slice_get bs (suc k)) (λ c. same_quantifier winner c.owner ≡ false) (subst (λ (n : ℕ). IsSomeAnd (block_numbered bs n) (λ c. same_quantifier winner c.owner ≡ false)) there h) in
    let b = before bs k c.0 c.1 in
    to-some (slice_get bs k) (λ b. b.owner ≡ winner) b.0 b.1 (neither b.0.owner winner c.0.owner (blocks-alternate p.prefix k b.0 c.0 b.1 c.1) c.2)
  where
    before : (bs : List Block) (k : ℕ) (c : Block) → slice_get bs (suc k) ≡ Some c → (b : Block) × (slice_get bs k ≡ Some b)
    before [] k c at = absurd (none-some c at)
    before (b ∷ bs) zero c at = (b, refl)
    before (b ∷ bs) (suc k) c at = before bs k c at

newest : {X : Type 0} (xs : List X) (x y : X) (n : ℕ) → length (xs ++ x ∷ []) ≡ n + 1 → slice_get (xs ++ x ∷ []) n ≡ Some y → (n ≡ length xs) × (x ≡ y)
newest xs x y n count at =
    let one : length (xs ++ x ∷ []) ≡ suc (length xs) = length-pushed xs x in
    let is : n ≡ length xs = omega (arith, one, count) in
    (is, same_Some x y (sym (pushed-last xs x) ∙ ap (slice_get (xs ++ x ∷ [])) (sym is) ∙ at))

-- what follows an entry
pub follows-newest : (p : Problem) (entries : List Entry) (e : Entry) (links : List ℕ) → (WasForced p e → links ≡ length entries ∷ []) → FollowsForced p (entries ++ e ∷ []) links
follows-newest p entries e links h n f count at forced =
    let is = newest entries e f n count at in
    h (subst (WasForced p) (sym is.1) forced) ∙ ap (λ (k : ℕ). k ∷ []) (sym is.0)

-- nothing is the newest of no entries
pub follows-none : (p : Problem) (links : List ℕ) → FollowsForced p [] links
follows-none p links n f count at forced = absurd (none-some f at)

pub settled-none : (p : Problem) → IsSettled p []
settled-none p n f count at forced = none-some f at

-- an owner's entry leaves nothing to follow
pub settled-owned : (p : Problem) (entries : List Entry) (e : Entry) → (WasForced p e → ⊥) → IsSettled p (entries ++ e ∷ [])
settled-owned p entries e h n f count at forced = h (subst (WasForced p) (sym (newest entries e f n count at).1) forced)

same-self : (q : Quantifier) → same_quantifier q q ≡ false → ⊥
same-self Existential h = cc
same-self Universal h = cc

pub not-forced : (p : Problem) (e : Entry) (b : Block) → block_numbered (blocks_of p.prefix) e.level ≡ Some b → e.winner ≡ b.owner → WasForced p e → ⊥
not-forced p e b at owner h =
    let apart = of-some (block_numbered (blocks_of p.prefix) e.level) (λ c. same_quantifier e.winner c.owner ≡ false) b at h in
    same-self b.owner (subst (λ (q : Quantifier). same_quantifier q b.owner ≡ false) owner apart)

pub settled-follows : (p : Problem) (entries : List Entry) (links : List ℕ) → IsSettled p entries → FollowsForced p entries links
settled-follows p entries links h n f count at forced = absurd (h n f count at forced)

pub forced-is_followed : ForcedIsFollowed
forced-is_followed p entries f e h forced =
    let front = entries ++ f ∷ [] in
    let last = last-entry p [] front e (subst (IsPlayed p) (sym (append_assoc entries (f ∷ []) (e ∷ []))) h) in
    let there : slice_get front (length entries) ≡ Some f = pushed-last entries f in
    let count : length front ≡ suc (length entries) = length-pushed entries f in
    let links : e.links ≡ length entries ∷ [] = last.1.follows (length entries) f (omega (arith, count)) there forced in
    let each : AllByRecursion (IsLink front e) (length entries ∷ []) = subst (AllByRecursion (IsLink front e)) links (recursion_from_All (IsLink front e) e.links last.0.links.each) in
    let link = of-some (slice_get front (length entries)) (λ l. (l.winner ≡ e.winner) × (l.level ≡ e.level + 1)) f there each.0 in
    let below : IsSomeAnd (block_numbered (blocks_of p.prefix) e.level) (λ b. b.owner ≡ f.winner) = owned-before p e.level f.level f.winner last.0.links.low link.1 forced in
    record {
      links = links;
      winner = sym link.0;
      level = sym link.1;
      owned = subst (λ (q : Quantifier). IsSomeAnd (block_numbered (blocks_of p.prefix) e.level) (λ b. b.owner ≡ q)) link.0 below;
    }
