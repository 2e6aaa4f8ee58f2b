-- The step laws in the words of the definitions.
use Rattle.std.proofs.Common.{◌≡◌, ℕ, zero, suc, Bool, true, false, Some, Option, List, ◌++◌, refl, sym, ap, subst, slice_get, take}
use Rattle.std.specs.Prelude.{IsSomeAnd, MatchBool, All}
use Rattle.std.specs.List.{AllZip}
use Rattle.std.proofs.lemmas.List.Elements.{All-from_recursion}
use Rattle.qv_words.specs.Tree.{Tree}
use Rattle.qv_words.specs.Sorted.{free_levels}
use Rattle.qv_words.specs.Problem.{Problem, Quantifier, Existential, Universal}
use Rattle.qv_words.specs.Skolem.{IsTermOf}
use Rattle.qv_words.specs.Choice.{IsTrueAt}
use Rattle.qv_words.specs.Linked.{Block, Entry, IsOwned, IsForced, IsPlaceBelow, LinksToOne, MeetsBlock, blocks_of, block_numbered, linked_regions, same_quantifier}
use Rattle.qv_game_laws.specs.EntryLaws.{IsEntryAt, OwnedTerms, OwnedStep, ForcedStep}
use Rattle.qv_game_laws.proofs.Terms.{IsOf, over-leaves, term-from_over}
use Rattle.qv_game_laws.proofs.Each.{each-entry, same-quantifier}
use Rattle.qv_game_laws.proofs.Points.{below-is, IsPoint}
use Rattle.qv_game_laws.proofs.Steps.{before, Before, leads-to, later-of}
use Rattle.qv_game_laws.proofs.StepLaws.{OwnerSteps, owner-steps, one-link}
use Rattle.qv_words.proofs.Elements.{zip-more}

pub itself : (q r : Quantifier) → q ≡ r → same_quantifier q r ≡ true
itself q r e = subst (λ (x : Quantifier). same_quantifier q x ≡ true) e (alone q)
  where
    alone : (q : Quantifier) → same_quantifier q q ≡ true
    alone Existential = refl
    alone Universal = refl

-- how an entry meets the block of its level
meets : (p : Problem) (entries : List Entry) (n : ℕ) (e : Entry) (block : Block) → IsEntryAt p entries n e block → MeetsBlock p (take n entries) e block
meets p entries n e block h =
    subst (λ (o : Option Block). IsSomeAnd o (MeetsBlock p (take n entries) e)) h.at_level (each-entry p entries n e h.linked h.here).block

-- the number of a level that has a block
pub level-of : (blocks : List Block) (k : ℕ) (block : Block) → block_numbered blocks k ≡ Some block → (j : ℕ) × (k ≡ suc j) × (slice_get blocks j ≡ Some block)
level-of blocks zero block h = absurd cc
level-of blocks (suc j) block h = (j, refl, h)

-- the owner's steps, with the one region that the entry is linked to
owned : (p : Problem) (entries : List Entry) (n : ℕ) (e : Entry) (block : Block) (later : Tree) → IsEntryAt p entries n e block → slice_get (linked_regions p (take n entries) e) 0 ≡ Some later → IsOwned p e block later → (j : ℕ) × (e.level ≡ suc j) × (steps : OwnerSteps p entries e (before p j) block) × (steps.later ≡ later)
owned p entries n e block later h first o =
    let index = level-of (blocks_of p.prefix) e.level block h.at_level in
    let entry = each-entry p entries n e h.linked h.here in
    let leads = leads-to p entries n e 0 later entry.links first in
    let steps = owner-steps p entries e index.0 block later h.problem entry.region index.1 index.2 (later-of p entries e index.0 later h.problem h.linked index.1 leads) leads o in
    (index.0, index.1, steps.0, steps.1)

own-block : (p : Problem) (entries : List Entry) (n : ℕ) (e : Entry) (block : Block) → IsEntryAt p entries n e block → e.winner ≡ block.owner → LinksToOne (linked_regions p (take n entries) e) (IsOwned p e block)
own-block p entries n e block h owner =
    subst (λ (b : Bool). MatchBool b (LinksToOne (linked_regions p (take n entries) e) (IsOwned p e block)) (IsForced p (take n entries) e block (linked_regions p (take n entries) e))) (itself e.winner block.owner owner) (meets p entries n e block h)

pub owned-terms : OwnedTerms
owned-terms p entries n e block h owner =
    let one = one-link (linked_regions p (take n entries) e) (IsOwned p e block) (own-block p entries n e block h owner) in
    let steps = owned p entries n e block one.0 h one.1 one.2 in
    let first = below-is (blocks_of p.prefix) e.level steps.0 steps.1 in
    subst (λ (m : ℕ). AllZip (λ t s. IsTermOf t s × All (IsPlaceBelow p m) (free_levels t)) e.terms block.sorts) (sym first)
    (zip-more (λ t s. IsOf (Before p (before p steps.0)) s t) (λ t s. IsTermOf t s × All (IsPlaceBelow p (before p steps.0)) (free_levels t))
    (λ t s k. (term-from_over (Before p (before p steps.0)) s t k, All-from_recursion (IsPlaceBelow p (before p steps.0)) (free_levels t) (over-leaves (Before p (before p steps.0)) t k.0)))
    e.terms block.sorts steps.2.terms)

pub owned-step : OwnedStep
owned-step p entries n e block later point values h owner one typed holds means =
    let own = subst (λ (ts : List Tree). LinksToOne ts (IsOwned p e block)) one (own-block p entries n e block h owner) in
    let steps = owned p entries n e block later h (ap (λ ts. slice_get ts 0) one) own in
    let first = below-is (blocks_of p.prefix) e.level steps.0 steps.1 in
    subst (λ (t : Tree). IsTrueAt (point ++ values) t) steps.3 (steps.2.law point values (subst (λ (m : ℕ). IsPoint p.prefix m point) first typed) holds means)

pub forced-step : ForcedStep
forced-step p entries n e block point values h other typed each holds = go (same_quantifier e.winner block.owner) refl (meets p entries n e block h)
  where
    go : (b : Bool) → same_quantifier e.winner block.owner ≡ b → MatchBool b (LinksToOne (linked_regions p (take n entries) e) (IsOwned p e block)) (IsForced p (take n entries) e block (linked_regions p (take n entries) e)) → (k : ℕ) × IsSomeAnd (slice_get (linked_regions p (take n entries) e) k) (λ t. IsTrueAt (point ++ values) t)
    go true is k = absurd (other (same-quantifier e.winner block.owner is))
    go false is k = k.closed point values typed each holds
