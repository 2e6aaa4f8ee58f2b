-- Assumptions that fail with the clauses of formulas.
use Rattle.std.proofs.Common.{◌≡◌, ℕ, zero, suc, ◌+◌, ◌-◌, ◌*◌, ◌/◌, ◌%◌, ◌<◌, ◌≤◌, Bool, true, false, not, Some, List, [], ◌∷◌, ◌++◌, refl, sym, ap, ◌∙◌, subst, inl, inr, slice_get, length, arith}
use Rattle.std.specs.Prelude.{◌==◌, if◌then◌else◌, slice_index, Contains}
use Rattle.std.specs.Int.{bit_at}
use Rattle.std.specs.List.{All, AllZip, AllByRecursion, list_all}
use Rattle.std.proofs.lemmas.List.Elements.{All-from_recursion, recursion_from_All}
use Rattle.std.proofs.lemmas.Nat.Bits.{bit_at-suc}
use Rattle.std.proofs.lemmas.Option.{get_or_from_slice_get}
use Rattle.qv_words.specs.declared.sort.Sort.{Sort}
use Rattle.qv_words.specs.declared.sort.Sort.TheVariants.{Bool as BoolSort}
use Rattle.qv_words.specs.Op.{truth}
use Rattle.qv_words.specs.Tree.{Tree, Variable, tree_sort}
use Rattle.qv_words.specs.Sorted.{HasValues}
use Rattle.qv_words.specs.Prenex.{negation}
use Rattle.qv_words.specs.PassLaws.{IsPlain}
use Rattle.qv_words.specs.Problem.{Problem}
use Rattle.qv_words.specs.Gate.{Lit, neg, lit_value, clauses_value}
use Rattle.qv_words.specs.Clauses.{cnf}
use Rattle.qv_words.specs.Linked.{Block, Entry, Run, IsRun, blocks_of, linked_regions, places_below}
use Rattle.qv_words.proofs.MovedBits.{extract_bits}
use Rattle.qv_words.proofs.Elements.{all-weaker, get-before}
use Rattle.qv_circuits_laws.specs.CircuitLaws.{number_of}
use Rattle.qv_circuits_laws.specs.ClauseLaws.{HasItsBits, ClausesTheorem, blasted}
use Rattle.qv_circuits_laws.proofs.Gates.{neg-value}
use Rattle.qv_circuits_laws.proofs.Standing.{bits-found}
use Rattle.qv_game_laws.proofs.Terms.{OfVariable, IsOf, over-sort, over-sorted, over-free}
use Rattle.qv_game_laws.proofs.Points.{below-is, IsPoint}
use Rattle.qv_game_laws.proofs.Steps.{before, Before, point-values, longer, typed-length, has-values}
use Rattle.qv_game_entry_laws.specs.BuildingLaws.{AgreeIn, Deny, FailedLeaveNone, IsAssumed, LeaveNone, bits_in}
use Rattle.qv_game_entry_laws.proofs.Forced.{bool-below, regions-of}
use Rattle.qv_game_laws.proofs.GameSteps.{level-of}

-- a bit of the number of some bits
bit-of : (v : ℕ → Bool) (bits : List Lit) (i : ℕ) (b : Lit) → slice_get bits i ≡ Some b → bit_at (number_of v bits) i ≡ truth (lit_value v b)
bit-of v [] i b h = cc
bit-of v (l ∷ ls) zero b h =
    let same : l ≡ b = cc in
    let low : (truth (lit_value v l) + 2 * number_of v ls) / 1 % 2 ≡ truth (lit_value v l) = by-value (lit_value v l) (number_of v ls) in
    low ∙ ap (λ k. truth (lit_value v k)) same
  where
    by-value : (t : Bool) (n : ℕ) → (truth t + 2 * n) / 1 % 2 ≡ truth t
    by-value true n = omega arith
    by-value false n = omega arith
bit-of v (l ∷ ls) (suc i) b h =
    let half : (truth (lit_value v l) + 2 * number_of v ls) / 2 ≡ number_of v ls = by-value (lit_value v l) (number_of v ls) in
    bit_at-suc (truth (lit_value v l) + 2 * number_of v ls) i ∙ ap (λ n. bit_at n i) half ∙ bit-of v ls i b h
  where
    by-value : (t : Bool) (n : ℕ) → (truth t + 2 * n) / 2 ≡ n
    by-value true n = omega arith
    by-value false n = omega arith

-- a bit within a run
bit-within : (r : Run) (x i : ℕ) → r.low ≤ i → i ≤ r.high → bit_at (bits_in r x) (i - r.low) ≡ bit_at x i
bit-within r x i low high =
    let index : r.low + (i - r.low) ≡ i = omega (arith, low) in
    (extract_bits 0 r.high r.low x (i - r.low)).0 (omega (arith, low, high)) ∙ ap (bit_at x) index

same-bit : (r : Run) (x y i : ℕ) → bits_in r y ≡ bits_in r x → r.low ≤ i → i ≤ r.high → bit_at y i ≡ bit_at x i
same-bit r x y i same low high = sym (bit-within r y i low high) ∙ ap (λ n. bit_at n (i - r.low)) same ∙ bit-within r x i low high

-- a literal with the value that its bit has at the point is true
literal-true : (v : ℕ → Bool) (b : Lit) (bit : ℕ) → bit ≡ truth (lit_value v b) → lit_value v (if bit == 1 then b else neg b) ≡ true
literal-true v b bit is = by-value (lit_value v b) refl is
  where
    by-value : (t : Bool) → lit_value v b ≡ t → bit ≡ truth (lit_value v b) → lit_value v (if bit == 1 then b else neg b) ≡ true
    by-value true e is =
        let one : bit ≡ 1 = is ∙ ap truth e in
        subst (λ (n : ℕ). lit_value v (if n == 1 then b else neg b) ≡ true) (sym one) e
    by-value false e is =
        let none : bit ≡ 0 = is ∙ ap truth e in
        subst (λ (n : ℕ). lit_value v (if n == 1 then b else neg b) ≡ true) (sym none) (neg-value v b ∙ ap not e)

-- the formulas are formulas over the places of the regions that they deny
formula-of : (P : OfVariable) (f g : Tree) → Deny f g → IsOf P BoolSort g → IsOf P BoolSort f
formula-of P f g (inl is) h = subst (IsOf P BoolSort) (sym is) (((h.0, tt), rw h.1 refl), rw h.1 refl)
formula-of P f g (inr is) h =
    let whole : IsOf P BoolSort (negation f) = subst (IsOf P BoolSort) is h in
    let sort = over-sort P f whole.0.0.0 in
    (whole.0.0.0, subst (λ (s : Sort). tree_sort f ≡ Some s) (bool-below f sort.0 sort.1 whole.1) sort.1)

pub formulas-of : (P : OfVariable) (fs gs : List Tree) → AllZip Deny fs gs → AllByRecursion (IsOf P BoolSort) gs → AllByRecursion (IsOf P BoolSort) fs
formulas-of P [] gs h each = tt
formulas-of P (f ∷ fs) [] h each = absurd h
formulas-of P (f ∷ fs) (g ∷ gs) h each = (formula-of P f g h.0 each.0, formulas-of P fs gs h.1 each.1)

all-true : (v : ℕ → Bool) (core : List Lit) → AllByRecursion (λ l. lit_value v l ≡ true) core → list_all (lit_value v) core ≡ true
all-true v [] h = refl
all-true v (l ∷ ls) h = rw h.0 (all-true v ls h.1)

-- an assumption is true where the bits are those of a point that agrees
assumed-true : (formulas : List Tree) (mine theirs values : List ℕ) (runs : List Run) (l : Lit) (v : ℕ → Bool) → IsAssumed formulas mine runs l → AllByRecursion (HasItsBits v [] (slice_get (theirs ++ values))) (blasted formulas) → ((r : Run) → Contains runs r → (r.place < length theirs) × AgreeIn mine theirs r) → lit_value v l ≡ true
assumed-true formulas mine theirs values runs l v a bits each =
    let r = a.run in
    let run = each r a.among in
    let leaf = bits-found (HasItsBits v [] (slice_get (theirs ++ values))) (blasted formulas) a.word a.bits bits a.bits_are in
    let word : (HasItsBits v [] (slice_get (theirs ++ values))) (record { tree = Variable r.place a.variable.0; bits = a.bits }) = subst (λ (t : Tree). HasItsBits v [] (slice_get (theirs ++ values)) (record { tree = t; bits = a.bits })) a.variable.1 leaf in
    let value : slice_get (theirs ++ values) r.place ≡ Some (number_of v a.bits) = word tt in
    let there : slice_get theirs r.place ≡ Some (number_of v a.bits) = sym (get-before theirs values r.place run.0) ∙ value in
    let number : slice_index theirs r.place ≡ number_of v a.bits = get_or_from_slice_get theirs r.place (number_of v a.bits) 0 there in
    let bit : bit_at (slice_index mine r.place) a.index ≡ truth (lit_value v a.bit) =
    sym (same-bit r (slice_index mine r.place) (slice_index theirs r.place) a.index run.1 a.low a.high)
    ∙ ap (λ n. bit_at n a.index) number ∙ bit-of v a.bits a.index a.bit a.bit_is in
    ap (lit_value v) a.as_at_point ∙ literal-true v a.bit (bit_at (slice_index mine r.place) a.index) bit

-- values that make formulas over the places up to the block true at such a point would give a model
pub none-where-failed : ClausesTheorem → (p : Problem) (e : Entry) (block : Block) (regions : List Tree) (runs : List Run) (formulas : List Tree) (core : List Lit) (j : ℕ) → e.level ≡ suc j → slice_get (blocks_of p.prefix) j ≡ Some block → AllByRecursion (IsOf (Before p (before p (suc j))) BoolSort) formulas → All (IsRun p e regions) runs → All (IsAssumed formulas e.point runs) core → ((v : ℕ → Bool) → clauses_value v (cnf formulas) ≡ true → list_all (lit_value v) core ≡ true → ⊥) → LeaveNone p e block runs formulas
none-where-failed theorem p e block regions runs formulas core j level at of ordered assumed no_model point values typed each agree holds =
    let first : places_below (blocks_of p.prefix) e.level ≡ before p j = below-is (blocks_of p.prefix) e.level j level in
    let here : IsPoint p.prefix (before p j) point = subst (λ (n : ℕ). IsPoint p.prefix n point) first typed in
    let size : length point ≡ before p j = typed-length p j point here in
    let P = Before p (before p (suc j)) in
    let z = slice_get (point ++ values) in
    let values-at = point-values p (before p (suc j)) (point ++ values) (longer p j block point values at here each) in
    let plain = All-from_recursion IsPlain formulas (all-weaker (IsOf P BoolSort) IsPlain formulas (λ t h. record { sorted = over-sorted P t h.0; free = over-free P t h.0 }) of) in
    let bool = All-from_recursion (λ t. tree_sort t ≡ Some BoolSort) formulas (all-weaker (IsOf P BoolSort) (λ t. tree_sort t ≡ Some BoolSort) formulas (λ t h. h.1) of) in
    let valued = All-from_recursion (HasValues [] z) formulas (all-weaker (IsOf P BoolSort) (HasValues [] z) formulas (λ t h. has-values P t z h.0 values-at) of) in
    let model = (theorem formulas [] z plain bool valued).0 holds in
    let bits = recursion_from_All (HasItsBits model.0 [] z) (blasted formulas) model.1 in
    no_model model.0 model.2
    (all-true model.0 core (all-weaker (IsAssumed formulas e.point runs) (λ l. lit_value model.0 l ≡ true) core
    (λ l a. assumed-true formulas e.point point values runs l model.0 a bits (λ r among.
    let run : IsRun p e regions r = subst (IsRun p e regions) among.2 (ordered among.0 r among.1) in
    (subst (λ (n : ℕ). r.place < n) (sym size) (subst (λ (n : ℕ). r.place < n) first run.below), subst (AgreeIn e.point point) among.2 (agree among.0 r among.1))))
    (recursion_from_All (IsAssumed formulas e.point runs) core assumed)))

pub failed-leave-none : ClausesTheorem → FailedLeaveNone
failed-leave-none theorem p earlier e block runs formulas core hp linked at_level links denied ordered assumed no_model =
    let index = level-of (blocks_of p.prefix) e.level block at_level in
    let regions = linked_regions p earlier e in
    let of = formulas-of (Before p (before p (suc index.0))) formulas regions denied (regions-of p earlier e index.0 hp linked links index.1) in
    none-where-failed theorem p e block regions runs formulas core index.0 index.1 index.2 of ordered assumed no_model
