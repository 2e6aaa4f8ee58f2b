-- Terms by their places.
use Rattle.std.proofs.Common.{◌≡◌, ℕ, zero, suc, ◌+◌, ◌<◌, ◌==◌, true, false, cond, Option, Some, None, List, [], ◌∷◌, ◌++◌, length, map, take, get_or, slice_get, refl, sym, ap, ◌∙◌, arith}
use Rattle.std.specs.Prelude.{All, option_and_then, replicate}
use Rattle.std.proofs.lemmas.Bool.{eq-eqb, ne_eqb}
use Rattle.std.proofs.lemmas.List.{append-nil, map-append, take_more}
use Rattle.std.proofs.lemmas.List.Elements.{All-from_recursion, recursion_from_All}
use Rattle.std.proofs.lemmas.Option.{slice_get-get_or}
use Rattle.qv_words.specs.declared.sort.Sort.{Sort}
use Rattle.qv_words.specs.Tree.{Tree}
use Rattle.qv_words.specs.Replacement.{replaced}
use Rattle.qv_words.specs.Skolem.{SkolemTerm, term_of}
use Rattle.qv_words.specs.Linked.{Entry, chain_of, block_terms}
use Rattle.qv_store.specs.Nodes.{tree_at}
use Rattle.qv_store.specs.Stores.{Grows}
use Rattle.qv_store.specs.Replacing.{AreTermsOf, put_by_level, term_of_level}
use Rattle.qv_store.proofs.Replacement.{grown-tree}
use Rattle.qv_words.proofs.Elements.{take-length}
use Rattle.qv_words.proofs.Leaves.{both}
use Rattle.qv_skolem.specs.declared.skolem.Skolem.{Skolem}
use Rattle.qv_skolem.specs.Skolems.{skolem_in, skolems_in}
use Rattle.qv_skolem.specs.Slots.{slot_terms}
use Rattle.qv_skolem.specs.Chains.{AreChains}

-- the term of a place
none-before : (trees : List Tree) (n : ℕ) (slots : List (Option ℕ)) (l : ℕ) → l < n → term_of (slot_terms trees n slots) l ≡ None
none-before trees n [] l h = refl
none-before trees n (None ∷ slots) l h = none-before trees (suc n) slots l (omega (arith, h))
none-before trees n (Some id ∷ slots) l h =
    let other : (n == l) ≡ false = ne_eqb n l (λ e. omega (arith, e, h)) in
    ap (λ b. cond b (Some (tree_at trees id)) (term_of (slot_terms trees (suc n) slots) l)) other ∙ none-before trees (suc n) slots l (omega (arith, h))

slot-at : (trees : List Tree) (n : ℕ) (slots : List (Option ℕ)) (k l : ℕ) → l ≡ n + k → term_of (slot_terms trees n slots) l ≡ put_by_level trees slots k
slot-at trees n [] k l e = refl
slot-at trees n (None ∷ slots) zero l e = none-before trees (suc n) slots l (omega (arith, e))
slot-at trees n (None ∷ slots) (suc k) l e = slot-at trees (suc n) slots k l (omega (arith, e))
slot-at trees n (Some id ∷ slots) zero l e =
    let here : (n == l) ≡ true = eq-eqb n l (omega (arith, e)) in
    ap (λ b. cond b (Some (tree_at trees id)) (term_of (slot_terms trees (suc n) slots) l)) here
slot-at trees n (Some id ∷ slots) (suc k) l e =
    let other : (n == l) ≡ false = ne_eqb n l (λ f. omega (arith, e, f)) in
    ap (λ b. cond b (Some (tree_at trees id)) (term_of (slot_terms trees (suc n) slots) l)) other ∙ slot-at trees (suc n) slots k l (omega (arith, e))

pub slots-put : (trees : List Tree) (slots : List (Option ℕ)) → put_by_level trees slots ≡ term_of (slot_terms trees 0 slots)
slots-put trees slots = λ i l. sym (slot-at trees 0 slots l l (omega arith)) i

-- in a greater store
pub slots-grown : (old new : List Tree) → Grows old new → (n : ℕ) (slots : List (Option ℕ)) → AreTermsOf old slots → slot_terms new n slots ≡ slot_terms old n slots
slots-grown old new grows n [] there = refl
slots-grown old new grows n (None ∷ slots) there = slots-grown old new grows (suc n) slots (λ l. there (suc l))
slots-grown old new grows n (Some id ∷ slots) there =
    let tree : tree_at new id ≡ tree_at old id = grown-tree old new grows id (there 0 id refl) in
    ap (λ t. record { place = n; term = t } ∷ slot_terms new (suc n) slots) tree
    ∙ ap (λ ts. record { place = n; term = tree_at old id } ∷ ts) (slots-grown old new grows (suc n) slots (λ l. there (suc l)))

-- more places
pub slots-append : (trees : List Tree) (n m : ℕ) (slots more : List (Option ℕ)) → m ≡ n + length slots → slot_terms trees n (slots ++ more) ≡ slot_terms trees n slots ++ slot_terms trees m more
slots-append trees n m [] more e = let same : n ≡ m = omega (arith, e) in ap (λ k. slot_terms trees k more) same
slots-append trees n m (None ∷ slots) more e = slots-append trees (suc n) m slots more (omega (arith, e))
slots-append trees n m (Some id ∷ slots) more e =
    ap (λ ts. record { place = n; term = tree_at trees id } ∷ ts) (slots-append trees (suc n) m slots more (omega (arith, e)))

pub slots-none : (trees : List Tree) (n count : ℕ) → slot_terms trees n (replicate count None) ≡ []
slots-none trees n zero = refl
slots-none trees n (suc count) = slots-none trees (suc n) count

pub there-append : (trees : List Tree) (slots more : List (Option ℕ)) → AreTermsOf trees slots → AreTermsOf trees more → AreTermsOf trees (slots ++ more)
there-append trees [] more here there l n e = there l n e
there-append trees (o ∷ slots) more here there zero n e = here zero n e
there-append trees (o ∷ slots) more here there (suc l) n e = there-append trees slots more (λ k. here (suc k)) there l n e

pub there-none : (trees : List Tree) (count : ℕ) → AreTermsOf trees (replicate count None)
there-none trees zero l n e = absurd cc
there-none trees (suc count) zero n e = absurd cc
there-none trees (suc count) (suc l) n e = there-none trees count l n e

pub there-terms : (trees : List Tree) (terms : List ℕ) → ((i id : ℕ) → slice_get terms i ≡ Some id → id < length trees) → AreTermsOf trees (map Some terms)
there-terms trees [] low l n e = absurd cc
there-terms trees (id ∷ terms) low zero n e = let same : id ≡ n = cc in low zero n (ap Some same)
there-terms trees (id ∷ terms) low (suc l) n e = there-terms trees terms (λ i. low (suc i)) l n e

-- the terms of a block
block-from : (trees : List Tree) (put : ℕ → Option Tree) (entries : List Entry) (first i n : ℕ) (chains : List ℕ) (sorts : List Sort) → n ≡ first + i → length chains ≡ length sorts →
    ((k m id : ℕ) → m ≡ i + k → slice_get chains k ≡ Some id → tree_at trees id ≡ replaced put (chain_of m entries)) →
    slot_terms trees n (map Some chains) ≡ block_terms put entries first i sorts
block-from trees put entries first i n [] [] e many each = refl
block-from trees put entries first i n [] (s ∷ sorts) e many each = absurd (omega (arith, many))
block-from trees put entries first i n (id ∷ chains) [] e many each = absurd (omega (arith, many))
block-from trees put entries first i n (id ∷ chains) (s ∷ sorts) e many each =
    let tree : tree_at trees id ≡ replaced put (chain_of i entries) = each 0 i id (omega arith) refl in
    let rest = block-from trees put entries first (suc i) (suc n) chains sorts (omega (arith, e)) (omega (arith, many)) (λ k m j f at. each (suc k) m j (omega (arith, f)) at) in
    ap (λ (k : ℕ). record { place = k; term = tree_at trees id } ∷ slot_terms trees (suc n) (map Some chains)) e
    ∙ ap (λ (t : Tree). record { place = first + i; term = t } ∷ slot_terms trees (suc n) (map Some chains)) tree
    ∙ ap (λ (ts : List SkolemTerm). record { place = first + i; term = replaced put (chain_of i entries) } ∷ ts) rest

pub slots-block : (trees : List Tree) (put : ℕ → Option Tree) (entries : List Entry) (first : ℕ) (chains : List ℕ) (sorts : List Sort) → AreChains trees put entries (length sorts) chains →
    slot_terms trees first (map Some chains) ≡ block_terms put entries first 0 sorts
slots-block trees put entries first chains sorts h =
    block-from trees put entries first 0 first chains sorts (omega arith) h.many (λ k m id e at. let same : k ≡ m = omega (arith, e) in (h.each k id at).tree ∙ ap (λ (j : ℕ). replaced put (chain_of j entries)) same)

-- one place more
next-slot : (trees : List Tree) (slots : List (Option ℕ)) (k : ℕ) (o : Option ℕ) → k < length slots → o ≡ get_or slots k o → slot_terms trees 0 (take (k + 1) slots) ≡ slot_terms trees 0 (take k slots) ++ slot_terms trees k (o ∷ [])
next-slot trees slots k o low own =
    let longer : take (k + 1) slots ≡ take k slots ++ o ∷ [] = take_more slots k o low ∙ ap (λ (x : Option ℕ). take k slots ++ x ∷ []) (sym own) in
    let size : length (take k slots) ≡ k = take-length slots k (omega (arith, low)) in
    ap (slot_terms trees 0) longer ∙ slots-append trees 0 k (take k slots) (o ∷ []) (omega (arith, size))

pub next-some : (slots : List (Option ℕ)) (k id : ℕ) (o : Option ℕ) (drawn : List Skolem) → k < length slots → o ≡ get_or slots k o → o ≡ Some id →
    ((trees : List Tree) → skolems_in trees drawn ≡ slot_terms trees 0 (take k slots)) →
    (trees : List Tree) → skolems_in trees (drawn ++ record { place = k; term = id } ∷ []) ≡ slot_terms trees 0 (take (k + 1) slots)
next-some slots k id o drawn low own is so trees =
    map-append (skolem_in trees) drawn (record { place = k; term = id } ∷ []) ∙ ap (λ (ts : List SkolemTerm). ts ++ record { place = k; term = tree_at trees id } ∷ []) (so trees)
    ∙ ap (λ (x : Option ℕ). slot_terms trees 0 (take k slots) ++ slot_terms trees k (x ∷ [])) (sym is) ∙ sym (next-slot trees slots k o low own)

pub next-none : (slots : List (Option ℕ)) (k : ℕ) (o : Option ℕ) (drawn : List Skolem) → k < length slots → o ≡ get_or slots k o → o ≡ None →
    ((trees : List Tree) → skolems_in trees drawn ≡ slot_terms trees 0 (take k slots)) →
    (trees : List Tree) → skolems_in trees drawn ≡ slot_terms trees 0 (take (k + 1) slots)
next-none slots k o drawn low own is so trees =
    so trees ∙ sym (append-nil (slot_terms trees 0 (take k slots)))
    ∙ ap (λ (x : Option ℕ). slot_terms trees 0 (take k slots) ++ slot_terms trees k (x ∷ [])) (sym is) ∙ sym (next-slot trees slots k o low own)

pub held : (slots : List (Option ℕ)) (k id : ℕ) (o : Option ℕ) → k < length slots → o ≡ get_or slots k o → o ≡ Some id → term_of_level slots k ≡ Some id
held slots k id o low own is =
    let at : slice_get slots k ≡ Some o = slice_get-get_or slots k o low ∙ ap (λ (x : Option ℕ). Some x) (sym own) in
    ap (λ (x : Option (Option ℕ)). option_and_then (λ (y : Option ℕ). y) x) at ∙ is

pub all-pushed : (trees : List Tree) (drawn : List Skolem) (place id : ℕ) → All (λ (s : Skolem). s.term < length trees) drawn → id < length trees → All (λ (s : Skolem). s.term < length trees) (drawn ++ record { place = place; term = id } ∷ [])
all-pushed trees drawn place id all low =
    let P : Skolem → Type 0 = λ s. s.term < length trees in
    All-from_recursion P (drawn ++ record { place = place; term = id } ∷ []) (both P drawn (record { place = place; term = id } ∷ []) (recursion_from_All P drawn all) (low, tt))
