-- Entries one by one, and the blocks of a prefix.
use Rattle.std.proofs.Common.{◌≡◌, ℕ, zero, suc, Some, List, [], ◌∷◌, ◌++◌, map, Bool, true, false, cond, refl, sym, ap, ◌∙◌, subst, append_assoc, slice_get, take}
use Rattle.std.proofs.lemmas.List.{append-nil}
use Rattle.std.specs.List.{flat_map}
use Rattle.qv_words.specs.Problem.{Problem, Place, Quantifier, Existential, Universal}
use Rattle.qv_words.specs.Linked.{Entry, IsEntry, AreEntries, Block, with_place, blocks_of, same_quantifier}
use Rattle.qv_game_laws.specs.EntryLaws.{EachEntry}

-- each entry may come behind those before it
each-within : (p : Problem) (earlier entries : List Entry) (n : ℕ) (e : Entry) → AreEntries p earlier entries → slice_get entries n ≡ Some e → IsEntry p (earlier ++ take n entries) e
each-within p earlier [] n e h at = absurd cc
each-within p earlier (f ∷ entries) zero e h at =
    let same : f ≡ e = cc in
    subst (λ (es : List Entry). IsEntry p es e) (sym (append-nil earlier)) (subst (λ (g : Entry). IsEntry p earlier g) same h.0)
each-within p earlier (f ∷ entries) (suc n) e h at =
    subst (λ (es : List Entry). IsEntry p es e) (append_assoc earlier (f ∷ []) (take n entries)) (each-within p (earlier ++ f ∷ []) entries n e h.1 at)

pub each-entry : EachEntry
each-entry p entries n e h at = each-within p [] entries n e h at

-- the places of a block, and the prefix from its blocks
abbrev pub places_in : Block → List Place
places_in b = map (λ s. record { quantifier = b.owner; sort = s }) b.sorts

pub same-quantifier : (q r : Quantifier) → same_quantifier q r ≡ true → q ≡ r
same-quantifier Existential Existential h = refl
same-quantifier Universal Universal h = refl
same-quantifier Existential Universal h = absurd cc
same-quantifier Universal Existential h = absurd cc

with-flat : (q : Place) (bs : List Block) → flat_map places_in (with_place q bs) ≡ q ∷ flat_map places_in bs
with-flat q [] = refl
with-flat q (b ∷ bs) = pick (same_quantifier q.quantifier b.owner) refl
  where
    pick : (k : Bool) → same_quantifier q.quantifier b.owner ≡ k → flat_map places_in (with_place q (b ∷ bs)) ≡ q ∷ flat_map places_in (b ∷ bs)
    pick true h =
        let owner : q.quantifier ≡ b.owner = same-quantifier q.quantifier b.owner h in
        ap (λ k. flat_map places_in (cond k (record { owner = b.owner; sorts = q.sort ∷ b.sorts } ∷ bs) (record { owner = q.quantifier; sorts = q.sort ∷ [] } ∷ b ∷ bs))) h
        ∙ ap (λ o. record { quantifier = o; sort = q.sort } ∷ flat_map places_in (b ∷ bs)) (sym owner)
    pick false h = ap (λ k. flat_map places_in (cond k (record { owner = b.owner; sorts = q.sort ∷ b.sorts } ∷ bs) (record { owner = q.quantifier; sorts = q.sort ∷ [] } ∷ b ∷ bs))) h

pub flat-blocks : (ps : List Place) → flat_map places_in (blocks_of ps) ≡ ps
flat-blocks [] = refl
flat-blocks (q ∷ ps) = with-flat q (blocks_of ps) ∙ ap (λ rest. q ∷ rest) (flat-blocks ps)
