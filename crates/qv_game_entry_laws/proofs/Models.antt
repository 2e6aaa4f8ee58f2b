-- Values with the bits of an assignment make the formulas true.
use Rattle.std.proofs.Common.{◌≡◌, ℕ, Bool, Option, Some, None, List, slice_get, refl, sym, ap, ◌∙◌}
use Rattle.std.specs.Prelude.{unwrap_or, option_map}
use Rattle.std.specs.List.{All}
use Rattle.std.proofs.lemmas.List.Elements.{recursion_from_All}
use Rattle.qv_words.specs.declared.sort.Sort.{Sort}
use Rattle.qv_words.specs.declared.sort.Sort.TheVariants.{Bool as BoolSort}
use Rattle.qv_words.specs.Tree.{Tree, Variable, IsQuantifierFree}
use Rattle.qv_words.specs.Sorted.{free_levels}
use Rattle.qv_words.specs.Skolem.{IsTermOf}
use Rattle.qv_words.specs.Gate.{Lit}
use Rattle.qv_words.specs.Clauses.{bits_of}
use Rattle.qv_words.proofs.Elements.{all-at, all-weaker}
use Rattle.qv_circuits_laws.specs.CircuitLaws.{number_of}
use Rattle.qv_circuits_laws.specs.ClauseLaws.{blasted, HasLevelValues}
use Rattle.qv_circuits_laws.proofs.Modelling.{models-give_values}
use Rattle.qv_game_entry_laws.specs.QueryLaws.{AreOver, HavePlaceValues, ModelsMakeTrue}
use Rattle.qv_game_entry_laws.proofs.Occurring.{bits-found_in, leaf-of}

abbrev sort_at : List Sort → ℕ → Sort
sort_at sorts l = unwrap_or (slice_get sorts l) BoolSort

-- a place whose variable has bits is one of the list
placed : (formulas : List Tree) (sorts : List Sort) (l : ℕ) (s : Sort) (bits : List Lit) → All (λ t. IsTermOf t BoolSort) formulas → AreOver sorts formulas → bits_of (blasted formulas) (Variable l s) ≡ Some bits → slice_get sorts l ≡ Some s
placed formulas sorts l s bits terms over e =
    let P : ℕ × Sort → Type 0 = λ leaf. slice_get sorts leaf.0 ≡ Some leaf.1 in
    let each = recursion_from_All (λ t. IsTermOf t BoolSort) formulas terms in
    let free = all-weaker (λ t. IsTermOf t BoolSort) IsQuantifierFree formulas (λ t h. h.quantifier_free) each in
    let at = bits-found_in formulas (Variable l s) bits free e in
    let leaves = all-at (λ t. All P (free_levels t)) formulas at.index at.formula (recursion_from_All (λ t. All P (free_levels t)) formulas over) at.is in
    leaf-of P l s at.formula (all-at IsQuantifierFree formulas at.index at.formula free at.is) (recursion_from_All P (free_levels at.formula) leaves) at.within

gives : (formulas : List Tree) (sorts : List Sort) (v : ℕ → Bool) (values : List ℕ) → All (λ t. IsTermOf t BoolSort) formulas → AreOver sorts formulas → HavePlaceValues v sorts formulas values → HasLevelValues v (sort_at sorts) formulas (slice_get values)
gives formulas sorts v values terms over has l x e = go (bits_of (blasted formulas) (Variable l (sort_at sorts l))) refl e
  where
    go : (o : Option (List Lit)) → bits_of (blasted formulas) (Variable l (sort_at sorts l)) ≡ o → option_map (number_of v) o ≡ Some x → slice_get values l ≡ Some x
    go None is f = absurd (cc)
    go (Some bits) is f = has l (sort_at sorts l) bits (placed formulas sorts l (sort_at sorts l) bits terms over is) is ∙ f

pub models-make_true : ModelsMakeTrue
models-make_true formulas sorts v values terms over has h =
    (models-give_values formulas (sort_at sorts) v (slice_get values)
    (λ k d f. record { sorted = (terms k d f).sorted; free = (terms k d f).quantifier_free })
    (λ k d f. (terms k d f).sort)
    (λ k d f. record {
      constant_free = (terms k d f).constant_free;
      levels = λ j e g. sym (ap (λ (o : Option Sort). unwrap_or o BoolSort) (over k d f j e g));
    })
    (gives formulas sorts v values terms over has) h).2
