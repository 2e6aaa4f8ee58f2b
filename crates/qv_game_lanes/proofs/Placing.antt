-- The bits of places: how many there are, and those of a point place by place.
use Rattle.std.proofs.Common.{◌≡◌, ℕ, suc, ◌+◌, ◌≤◌, ◌<◌, Option, Some, None, List, [], ◌∷◌, ◌++◌, length, drop, get_or, slice_get, refl, sym, ap, ◌∙◌, arith, append_assoc, append-nil}
use Rattle.std.specs.Prelude.{unwrap_or, option_map}
use Rattle.std.proofs.lemmas.Option.{slice_get-map, slice_get-get_or}
use Rattle.qv_words.specs.declared.sort.Sort.{Sort}
use Rattle.qv_words.specs.Sort.{IsLawful, width_of}
use Rattle.qv_words.specs.Tree.{Tree, tree_sort}
use Rattle.qv_words.specs.Sorted.{no_levels}
use Rattle.qv_words.specs.Gate.{Lit}
use Rattle.qv_words.specs.Clauses.{Blasted, bits_of}
use Rattle.qv_words.proofs.Elements.{dropped-at, dropped-none}
use Rattle.qv_words.proofs.Existing.{lawful_sort}
use Rattle.qv_circuits_laws.specs.Standing.{Placed}
use Rattle.qv_circuits_laws.proofs.Standing.{bits-found}
use Rattle.qv_blast.specs.declared.blaster.Blaster.{Blaster}
use Rattle.qv_blast.specs.States.{blasting_at, IsBlaster}
use Rattle.qv_store.specs.Nodes.{tree_at}
use Rattle.qv_store.specs.Stores.{AreShared}
use Rattle.qv_store.specs.Walks.{named}
use Rattle.qv_game_entry_laws.specs.Fixings.{bits_found, fixed, fixings}
use Rattle.qv_game_lanes.specs.Lanes.{known_at}

-- a term has no more bits than its sort
pub found-few : (trees : List Tree) (b : Blaster) (t : Tree) (s : Sort) → IsBlaster trees b → tree_sort t ≡ Some s → length (bits_found (known_at trees b) t) ≤ width_of s
found-few trees b t s h sort = go (bits_of (known_at trees b) t) refl
  where
    go : (o : Option (List Lit)) → bits_of (known_at trees b) t ≡ o → length (unwrap_or o []) ≤ width_of s
    go None e = omega arith
    go (Some x) e =
        let k = bits-found (Placed (blasting_at trees b).next) (known_at trees b) t x h.ready.stands.known e in
        let same : k.sort ≡ s = let two : Some k.sort ≡ Some s = sym k.is ∙ sort in cc in
        let count : length x ≡ width_of s = k.word.bit_count ∙ ap width_of same in
        omega (arith, count)

-- and a sort in the store is lawful
pub lawful-at : (trees : List Tree) (n : ℕ) (s : Sort) → AreShared trees → n < length trees → tree_sort (tree_at trees n) ≡ Some s → IsLawful s
lawful-at trees n s h low sort = lawful_sort (tree_at trees n) no_levels s (h.sorted n low) sort

-- the element at an index
pub at-index : {X : Type 0} (xs : List X) (i : ℕ) (x : X) → i < length xs → x ≡ get_or xs i x → slice_get xs i ≡ Some x
at-index xs i x low e = slice_get-get_or xs i x low ∙ ap Some (sym e)

pub named-at : (trees : List Tree) (ids : List ℕ) (k n : ℕ) → slice_get ids k ≡ Some n → slice_get (named trees ids) k ≡ Some (tree_at trees n)
named-at trees ids k n e = slice_get-map (tree_at trees) ids k ∙ ap (option_map (tree_at trees)) e

-- one place more
pub one-fixed : (known : List Blasted) (ts : List Tree) (vs : List ℕ) (lits more total bits : List Lit) (k v : ℕ) (t : Tree) → slice_get ts k ≡ Some t → slice_get vs k ≡ Some v → bits ≡ bits_found known t → more ≡ lits ++ fixed v bits → lits ++ fixings known (drop k ts) (drop k vs) ≡ total → more ++ fixings known (drop (k + 1) ts) (drop (k + 1) vs) ≡ total
one-fixed known ts vs lits more total bits k v t term value found is before =
    let next : k + 1 ≡ suc k = omega arith in
    let step : fixings known (drop k ts) (drop k vs) ≡ fixed v bits ++ fixings known (drop (k + 1) ts) (drop (k + 1) vs) =
    ap (λ (us : List Tree). fixings known us (drop k vs)) (dropped-at ts k t term)
    ∙ ap (λ (ws : List ℕ). fixings known (t ∷ drop (suc k) ts) ws) (dropped-at vs k v value)
    ∙ ap (λ (b : List Lit). fixed v b ++ fixings known (drop (suc k) ts) (drop (suc k) vs)) (sym found)
    ∙ ap (λ (n : ℕ). fixed v bits ++ fixings known (drop n ts) (drop n vs)) (sym next) in
    ap (λ (ls : List Lit). ls ++ fixings known (drop (k + 1) ts) (drop (k + 1) vs)) is
    ∙ append_assoc lits (fixed v bits) (fixings known (drop (k + 1) ts) (drop (k + 1) vs))
    ∙ ap (λ (ls : List Lit). lits ++ ls) (sym step) ∙ before

fixings-none : (known : List Blasted) (ts : List Tree) → fixings known ts [] ≡ []
fixings-none known [] = refl
fixings-none known (t ∷ ts) = refl

pub all-fixed : (known : List Blasted) (ts : List Tree) (vs : List ℕ) (lits total : List Lit) (k : ℕ) → length vs ≤ k → lits ++ fixings known (drop k ts) (drop k vs) ≡ total → lits ≡ total
all-fixed known ts vs lits total k all before =
    sym (append-nil lits) ∙ ap (λ (ls : List Lit). lits ++ ls) (sym (ap (fixings known (drop k ts)) (dropped-none vs k all) ∙ fixings-none known (drop k ts))) ∙ before
