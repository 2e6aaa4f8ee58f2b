-- Block by block: the terms of the first blocks, and what is left of the chain.
use Rattle.std.proofs.Common.{◌≡◌, ℕ, zero, suc, ◌+◌, ◌-◌, ◌==◌, ◌≤◌, Bool, true, false, cond, Option, Some, None, List, [], ◌∷◌, ◌++◌, length, map, take, drop, replicate, slice_get, refl, sym, ap, ◌∙◌, subst, append_assoc, arith}
use Rattle.std.specs.Prelude.{All, IfSome, IsSomeAnd}
use Rattle.std.specs.List.{AllByRecursion}
use Rattle.std.proofs.lemmas.Bool.{eqb-true}
use Rattle.std.proofs.lemmas.List.{append-nil, length-append, length-drop, length-map, length-replicate}
use Rattle.std.proofs.lemmas.List.Elements.{All-from_recursion, recursion_from_All}
use Rattle.qv_words.specs.declared.sort.Sort.{Sort}
use Rattle.qv_words.specs.Tree.{Tree, tree_sort}
use Rattle.qv_words.specs.Sorted.{free_levels}
use Rattle.qv_words.specs.Problem.{Problem, Place, Quantifier, Existential, Universal}
use Rattle.qv_words.specs.Skolem.{SkolemTerm, IsSkolemTerm, IsTermOf, term_of}
use Rattle.qv_words.specs.Linked.{Block, Entry, IsLinked, IsPlaceBelow, blocks_of, block_numbered, block_terms, chain, chain_from, entries_of, places_below, same_quantifier}
use Rattle.qv_words.specs.GameLaws.{IsProblem, HasWon}
use Rattle.qv_words.proofs.Elements.{all-weaker, dropped-first, dropped-none, take-length as taken-length, zip-more}
use Rattle.qv_words.proofs.Leaves.{front}
use Rattle.qv_game_laws.proofs.ChainTerms.{IsNumbered, numbered}
use Rattle.qv_game_laws.proofs.ChainTheorem.{chain-theorem}
use Rattle.qv_game_laws.proofs.Each.{each-entry}
use Rattle.qv_game_laws.proofs.GameSteps.{owned-terms}
use Rattle.qv_store.specs.Stores.{Grows}
use Rattle.qv_store.specs.Replacing.{AreTermsOf, IsReplaceable, put_by_level}
use Rattle.qv_skolem.specs.Blocks.{run_length, sorts_of}
use Rattle.qv_skolem.specs.Chains.{AreChains, IsPuttable}
use Rattle.qv_skolem.specs.Slots.{slot_terms}
use Rattle.qv_skolem.proofs.FirstBlocks.{IsFirstRun}
use Rattle.qv_skolem.proofs.OneLed.{there-grown}
use Rattle.qv_skolem.proofs.Slots.{slots-append, slots-block, slots-grown, slots-none, slots-put, there-append, there-none, there-terms}

-- the terms of the places before a level's block have been drawn
pub record IsDrawnTo (p : Problem) (entries : List Entry) (trees : List Tree) (level : ℕ) (slots : List (Option ℕ)) : Type 0 where
  pub there : AreTermsOf trees slots
  pub first : 1 ≤ level
  pub few : level ≤ length slots + 1
  pub within : length slots ≤ length p.prefix
  pub here : blocks_of (drop (length slots) p.prefix) ≡ drop (level - 1) (blocks_of p.prefix)
  pub goes_on : chain_from entries level (length slots) (slot_terms trees 0 slots) (blocks_of (drop (length slots) p.prefix)) ≡ chain p entries

pub drawn-none : (p : Problem) (entries : List Entry) (trees : List Tree) → IsDrawnTo p entries trees 1 []
unfolding chain
drawn-none p entries trees = record {
  there = λ l n at. absurd cc;
  first = omega arith;
  few = omega arith;
  within = omega arith;
  here = refl;
  goes_on = refl;
}

-- all blocks
pub drawn-all : (p : Problem) (entries : List Entry) (trees : List Tree) (level : ℕ) (slots : List (Option ℕ)) → IsDrawnTo p entries trees level slots → length p.prefix ≤ length slots → slot_terms trees 0 slots ≡ chain p entries
drawn-all p entries trees level slots h all =
    let none : drop (length slots) p.prefix ≡ [] = dropped-none p.prefix (length slots) all in
    sym (ap (λ (ps : List Place). chain_from entries level (length slots) (slot_terms trees 0 slots) (blocks_of ps)) none) ∙ h.goes_on

-- terms that were drawn stay in front
chain-front : (entries : List Entry) (level first : ℕ) (done : List SkolemTerm) (blocks : List Block) → (more : List SkolemTerm) × (chain_from entries level first done blocks ≡ done ++ more)
chain-front entries level first done [] = ([], sym (append-nil done))
chain-front entries level first done (b ∷ bs) =
    go (same_quantifier b.owner Existential)
    (longer (chain-front entries (suc level) (first + length b.sorts) (done ++ block_terms (term_of done) (entries_of level Existential entries) first 0 b.sorts) bs))
    (chain-front entries (suc level) (first + length b.sorts) done bs)
  where
    new : List SkolemTerm
    new = block_terms (term_of done) (entries_of level Existential entries) first 0 b.sorts

    longer : (more : List SkolemTerm) × (chain_from entries (suc level) (first + length b.sorts) (done ++ new) bs ≡ (done ++ new) ++ more) → (more : List SkolemTerm) × (chain_from entries (suc level) (first + length b.sorts) (done ++ new) bs ≡ done ++ more)
    longer h = (new ++ h.0, h.1 ∙ append_assoc done new h.0)

    go : (k : Bool) → ((more : List SkolemTerm) × (chain_from entries (suc level) (first + length b.sorts) (done ++ new) bs ≡ done ++ more)) → ((more : List SkolemTerm) × (chain_from entries (suc level) (first + length b.sorts) done bs ≡ done ++ more)) →
        (more : List SkolemTerm) × (cond k (chain_from entries (suc level) (first + length b.sorts) (done ++ new) bs) (chain_from entries (suc level) (first + length b.sorts) done bs) ≡ done ++ more)
    go true here past = here
    go false here past = past

-- so they have their places' sorts
term-placed : (p : Problem) (ts : List SkolemTerm) (l : ℕ) (t : Tree) → AllByRecursion (IsSkolemTerm p) ts → term_of ts l ≡ Some t → IsSomeAnd (slice_get p.prefix l) (λ place. tree_sort t ≡ Some place.sort)
term-placed p [] l t h at = absurd cc
term-placed p (s ∷ ts) l t h at = go (s.place == l) refl at (λ e. term-placed p ts l t h.1 e)
  where
    sorted : (o : Option Place) → IsSomeAnd o (λ place. (place.quantifier ≡ Existential) × IsTermOf s.term place.sort) → IsSomeAnd o (λ place. tree_sort s.term ≡ Some place.sort)
    sorted None k = absurd k
    sorted (Some place) k = k.1.sort

    go : (k : Bool) → (s.place == l) ≡ k → cond k (Some s.term) (term_of ts l) ≡ Some t → (term_of ts l ≡ Some t → IsSomeAnd (slice_get p.prefix l) (λ place. tree_sort t ≡ Some place.sort)) → IsSomeAnd (slice_get p.prefix l) (λ place. tree_sort t ≡ Some place.sort)
    go true is e rest =
        let same : s.term ≡ t = cc in
        let place : s.place ≡ l = eqb-true s.place l is in
        subst (λ (u : Tree). IsSomeAnd (slice_get p.prefix l) (λ place. tree_sort u ≡ Some place.sort)) same
        (subst (λ (j : ℕ). IsSomeAnd (slice_get p.prefix j) (λ place. tree_sort s.term ≡ Some place.sort)) place (sorted (slice_get p.prefix s.place) h.0.0))
    go false is e rest = rest e

drawn-placed : (p : Problem) (entries : List Entry) (trees : List Tree) (level : ℕ) (slots : List (Option ℕ)) → IsProblem p → IsLinked p entries → HasWon p Existential entries → IsDrawnTo p entries trees level slots →
    AllByRecursion (IsSkolemTerm p) (slot_terms trees 0 slots)
drawn-placed p entries trees level slots hp linked won h =
    let ok = (chain-theorem p entries hp linked won).0 in
    let more = chain-front entries level (length slots) (slot_terms trees 0 slots) (blocks_of (drop (length slots) p.prefix)) in
    let all : AllByRecursion (IsSkolemTerm p) (slot_terms trees 0 slots ++ more.0) = subst (AllByRecursion (IsSkolemTerm p)) (sym h.goes_on ∙ more.1) (recursion_from_All (IsSkolemTerm p) (chain p entries) ok.each) in
    front (IsSkolemTerm p) (slot_terms trees 0 slots) more.0 all

-- and may be put into terms over earlier places
ready : (p : Problem) (n : ℕ) (done : List SkolemTerm) (t : Tree) (s : Sort) → AllByRecursion (IsSkolemTerm p) done → IsTermOf t s → All (IsPlaceBelow p n) (free_levels t) → IsReplaceable (term_of done) t
ready p n done t s placed term over = record {
  quantifier_free = term.quantifier_free;
  sorts = All-from_recursion (λ leaf. IfSome (term_of done leaf.0) (λ put. tree_sort put ≡ Some leaf.1)) (free_levels t)
      (all-weaker (IsPlaceBelow p n) (λ leaf. IfSome (term_of done leaf.0) (λ put. tree_sort put ≡ Some leaf.1)) (free_levels t) (λ leaf below. at leaf.0 leaf.1 below.1 (term_of done leaf.0) refl) (recursion_from_All (IsPlaceBelow p n) (free_levels t) over));
}
  where
    one : (o : Option Place) (t : Tree) (r : Sort) → IsSomeAnd o (λ place. place.sort ≡ r) → IsSomeAnd o (λ place. tree_sort t ≡ Some place.sort) → tree_sort t ≡ Some r
    one None t r h k = absurd h
    one (Some place) t r h k = k ∙ ap (λ (q : Sort). Some q) h

    at : (l : ℕ) (r : Sort) → IsSomeAnd (slice_get p.prefix l) (λ place. place.sort ≡ r) → (o : Option Tree) → term_of done l ≡ o → IfSome o (λ put. tree_sort put ≡ Some r)
    at l r place None e = tt
    at l r place (Some u) e = one (slice_get p.prefix l) u r place (term-placed p done l u placed e)

-- the entries of a block's level
module _ (p : Problem) (entries : List Entry) (trees : List Tree) (level : ℕ) (slots : List (Option ℕ)) (hp : IsProblem p) (linked : IsLinked p entries) (won : HasWon p Existential entries) (h : IsDrawnTo p entries trees level slots)
    (b : Block) (own : b.owner ≡ Existential) (numbered-so : block_numbered (blocks_of p.prefix) level ≡ Some b) where
  done : List SkolemTerm
  done = slot_terms trees 0 slots

  puttable-one : (f : Entry) → IsNumbered entries level Existential f → IsPuttable (term_of (slot_terms trees 0 slots)) b.sorts f
  puttable-one f k =
      let placed = drawn-placed p entries trees level slots hp linked won h in
      let region = (each-entry p entries k.number f linked k.here).region in
      let at-level : block_numbered (blocks_of p.prefix) f.level ≡ Some b = ap (block_numbered (blocks_of p.prefix)) k.level ∙ numbered-so in
      let terms = owned-terms p entries k.number f b (record { problem = hp; linked = linked; here = k.here; at_level = at-level }) (k.winner ∙ sym own) in
      let n = places_below (blocks_of p.prefix) f.level in
      record {
        region = ready p n (slot_terms trees 0 slots) f.region _ placed region.formula region.variables;
        bool = region.formula.sort;
        terms = zip-more (λ t s. IsTermOf t s × All (IsPlaceBelow p n) (free_levels t)) (λ t s. IsReplaceable (term_of (slot_terms trees 0 slots)) t × (tree_sort t ≡ Some s)) (λ t s x. (ready p n (slot_terms trees 0 slots) t s placed x.0 x.1, x.0.sort)) f.terms b.sorts terms;
      }

  pub puttable : All (IsPuttable (put_by_level trees slots) b.sorts) (entries_of level Existential entries)
  puttable =
      subst (λ (put : ℕ → Option Tree). All (IsPuttable put b.sorts) (entries_of level Existential entries)) (sym (slots-put trees slots))
      (All-from_recursion (IsPuttable (term_of (slot_terms trees 0 slots)) b.sorts) (entries_of level Existential entries)
      (all-weaker (IsNumbered entries level Existential) (IsPuttable (term_of (slot_terms trees 0 slots)) b.sorts) (entries_of level Existential entries) puttable-one (numbered entries level Existential)))

pub drop-drop : {X : Type 0} (m n : ℕ) (xs : List X) → drop n (drop m xs) ≡ drop (m + n) xs
drop-drop zero n xs = let same : n ≡ 0 + n = omega arith in ap (λ (k : ℕ). drop k xs) same
drop-drop (suc m) n [] = dropped-none [] n (omega arith) ∙ sym (dropped-none [] (suc m + n) (omega arith))
drop-drop (suc m) n (x ∷ xs) = let same : suc (m + n) ≡ suc m + n = omega arith in drop-drop m n xs ∙ ap (λ (k : ℕ). drop k (x ∷ xs)) same

-- the next block
module _ (p : Problem) (entries : List Entry) (trees : List Tree) (level : ℕ) (slots : List (Option ℕ)) (h : IsDrawnTo p entries trees level slots) (q : Quantifier) (run : IsFirstRun q (drop (length slots) p.prefix)) where
  behind : List Place
  behind = drop (length slots) p.prefix

  size : ℕ
  size = run_length q behind

  block : Block
  block = record { owner = q; sorts = sorts_of (take size behind) }

  long : length (sorts_of (take size behind)) ≡ size
  unfolding size behind
  long = length-map (take (run_length q (drop (length slots) p.prefix)) (drop (length slots) p.prefix)) (λ (x : Place). x.sort) ∙ taken-length (drop (length slots) p.prefix) (run_length q (drop (length slots) p.prefix)) run.within

  next : blocks_of (drop (length slots) p.prefix) ≡ block ∷ blocks_of (drop (length slots + size) p.prefix)
  unfolding size behind block
  next = run.blocks ∙ ap (λ (ps : List Place). block ∷ blocks_of ps) (drop-drop (length slots) size p.prefix)

  stands : (slice_get (blocks_of p.prefix) (level - 1) ≡ Some block) × (drop (suc (level - 1)) (blocks_of p.prefix) ≡ blocks_of (drop (length slots + size) p.prefix))
  stands = dropped-first (blocks_of p.prefix) (level - 1) block (blocks_of (drop (length slots + size) p.prefix)) (sym h.here ∙ next)

  one-more : suc (level - 1) ≡ level
  one-more = let low = h.first in omega (arith, low)

  pub block-here : block_numbered (blocks_of p.prefix) level ≡ Some (record { owner = q; sorts = sorts_of (take (run_length q (drop (length slots) p.prefix)) (drop (length slots) p.prefix)) })
  unfolding size behind block
  block-here = ap (block_numbered (blocks_of p.prefix)) (sym one-more) ∙ stands.0

  -- with the block's slots filled
  next-drawn : (new : List Tree) (more : List (Option ℕ)) → length more ≡ run_length q (drop (length slots) p.prefix) → AreTermsOf new (slots ++ more) →
      chain_from entries level (length slots) (slot_terms trees 0 slots) (block ∷ blocks_of (drop (length slots + size) p.prefix))
      ≡ chain_from entries (suc level) (length slots + length (sorts_of (take size behind))) (slot_terms new 0 (slots ++ more)) (blocks_of (drop (length slots + size) p.prefix)) →
      IsDrawnTo p entries new (level + 1) (slots ++ more)
  unfolding size behind block
  next-drawn new more many there step =
      let count : length (slots ++ more) ≡ length slots + size = length-append slots more ∙ ap (λ (k : ℕ). length slots + k) many in
      let some = run.some in
      let few = h.few in
      let inside = h.within in
      let left : length (drop (length slots) p.prefix) ≡ length p.prefix - length slots = length-drop (length slots) p.prefix in
      let within = run.within in
      let low = h.first in
      let after : suc level ≡ level + 1 = omega arith in
      record {
        there = there;
        first = omega arith;
        few = omega (arith, few, some, count);
        within = omega (arith, count, within, left, inside);
        here = ap (λ (k : ℕ). blocks_of (drop k p.prefix)) count ∙ sym stands.1 ∙ (let same : suc (level - 1) ≡ level + 1 - 1 = omega (arith, low) in ap (λ (k : ℕ). drop k (blocks_of p.prefix)) same);
        goes_on =
            ap (λ (k : ℕ). chain_from entries (level + 1) k (slot_terms new 0 (slots ++ more)) (blocks_of (drop k p.prefix))) count
            ∙ ap (λ (k : ℕ). chain_from entries k (length slots + size) (slot_terms new 0 (slots ++ more)) (blocks_of (drop (length slots + size) p.prefix))) (sym after)
            ∙ ap (λ (k : ℕ). chain_from entries (suc level) (length slots + k) (slot_terms new 0 (slots ++ more)) (blocks_of (drop (length slots + size) p.prefix))) (sym long)
            ∙ sym step
            ∙ sym (ap (λ (bs : List Block). chain_from entries level (length slots) (slot_terms trees 0 slots) bs) next)
            ∙ h.goes_on;
      }

  pub universal-drawn : q ≡ Universal → IsDrawnTo p entries trees (level + 1) (slots ++ replicate (run_length q (drop (length slots) p.prefix)) None)
  unfolding size behind block
  universal-drawn own =
      let none = replicate size None in
      let filled : slot_terms trees 0 (slots ++ none) ≡ slot_terms trees 0 slots = slots-append trees 0 (length slots) slots none (omega arith) ∙ ap (λ (ts : List SkolemTerm). slot_terms trees 0 slots ++ ts) (slots-none trees (length slots) size) ∙ append-nil (slot_terms trees 0 slots) in
      let other : same_quantifier q Existential ≡ false = ap (λ (x : Quantifier). same_quantifier x Existential) own in
      let rest : List Block = blocks_of (drop (length slots + size) p.prefix) in
      let at : ℕ = length slots + length (sorts_of (take size behind)) in
      let ds : List SkolemTerm = slot_terms trees 0 slots in
      next-drawn trees none (length-replicate size None) (there-append trees slots none h.there (there-none trees size))
      (ap (λ (k : Bool). cond k (chain_from entries (suc level) at (ds ++ block_terms (term_of ds) (entries_of level Existential entries) (length slots) 0 (sorts_of (take size behind))) rest) (chain_from entries (suc level) at ds rest)) other
      ∙ ap (λ (ts : List SkolemTerm). chain_from entries (suc level) at ts rest) (sym filled))

  pub existential-drawn : (new : List Tree) (chains : List ℕ) → q ≡ Existential → Grows trees new → AreChains new (put_by_level trees slots) (entries_of level Existential entries) (run_length q (drop (length slots) p.prefix)) chains →
      IsDrawnTo p entries new (level + 1) (slots ++ map Some chains)
  unfolding size behind block
  existential-drawn new chains own grows made =
      let sorts : List Sort = sorts_of (take size behind) in
      let ds : List SkolemTerm = slot_terms trees 0 slots in
      let es : List Entry = entries_of level Existential entries in
      let made-on : AreChains new (put_by_level trees slots) es (length sorts) chains = subst (λ (k : ℕ). AreChains new (put_by_level trees slots) es k chains) (sym long) made in
      let filled : slot_terms new 0 (slots ++ map Some chains) ≡ ds ++ block_terms (term_of ds) es (length slots) 0 sorts =
      slots-append new 0 (length slots) slots (map Some chains) (omega arith)
      ∙ ap (λ (ts : List SkolemTerm). ts ++ slot_terms new (length slots) (map Some chains)) (slots-grown trees new grows 0 slots h.there)
      ∙ ap (λ (ts : List SkolemTerm). ds ++ ts) (slots-block new (put_by_level trees slots) es (length slots) chains sorts made-on)
      ∙ ap (λ (put : ℕ → Option Tree). ds ++ block_terms put es (length slots) 0 sorts) (slots-put trees slots) in
      let this : same_quantifier q Existential ≡ true = ap (λ (x : Quantifier). same_quantifier x Existential) own in
      let rest : List Block = blocks_of (drop (length slots + size) p.prefix) in
      let at : ℕ = length slots + length (sorts_of (take size behind)) in
      next-drawn new (map Some chains) (length-map chains (λ (n : ℕ). Some n) ∙ made.many)
      (there-append new slots (map Some chains) (there-grown trees new slots grows h.there) (there-terms new chains (λ i id x. (made.each i id x).below)))
      (ap (λ (k : Bool). cond k (chain_from entries (suc level) at (ds ++ block_terms (term_of ds) es (length slots) 0 sorts) rest) (chain_from entries (suc level) at ds rest)) this
      ∙ ap (λ (ts : List SkolemTerm). chain_from entries (suc level) at ts rest) (sym filled))
