-- What the search for a core asks of what is held, and what it finds.
use Rattle.std.proofs.Common.{◌≡◌, ℕ, zero, suc, ◌+◌, ◌≤◌, ◌<◌, ◌^◌, List, [], ◌∷◌, ◌++◌, map, length, take, get_or, Vec, Global, refl, sym, ap, subst, ◌∙◌, Ok, Err, arith}
use Rattle.std.specs.Prelude.{All, IfOk, Result}
use Rattle.qv_words.specs.Tree.{Tree}
use Rattle.qv_words.specs.Truth.{AreTrue, IsAssertion, HaveOneSort}
use Rattle.qv_words.specs.Problem.{problem_of}
use Rattle.qv_store.specs.Nodes.{tree_at}
use Rattle.qv_cnf.specs.Listing.{Rises}
use Rattle.qv_meter.specs.Records.{Limits, Metering, Record, records_of}
use Rattle.qv_elab_defs.specs.Scopes.{Named}
use Rattle.qv_script_defs.specs.State.{places_of}
use Rattle.qv_script_stack.specs.declared.held.Named.{Named as NamedAssertion}
use Rattle.qv_script_defs.specs.Moves.{symbols_of}
use Rattle.qv_script_defs.specs.State.{placed}
use Rattle.qv_script_stack.specs.Held.{Held, named_of, terms_of}
use Rattle.qv_solve_cores.specs.Cores.{IsCore}
use Rattle.qv_shell_answer.specs.Checks.{CanCore, IsCoreFor, formulas_in, texts_of}
use Rattle.qv_shell_answer.specs.declared.cores.Among.{Among}
use Rattle.qv_shell_answer.specs.declared.cores.Among.TheVariants as kinds
use Rattle.qv_shell_answer.proofs.Answered.{same-formulas}

module _ (trees : List Tree) (held : Held) (ids places : List ℕ) (among : Among) (are : ids ≡ held.assertions ++ held.assumed) (at : places ≡ places_of (texts_of among held)) where
  pub core-ids : CanCore trees held among → All (λ id. id < length trees) ids
  core-ids h = subst (λ (ns : List ℕ). All (λ id. id < length trees) ns) (sym are) h.below

  pub core-assertions : CanCore trees held among → All IsAssertion (map (tree_at trees) ids)
  core-assertions h = subst (All IsAssertion) (sym (same-formulas trees held ids are)) h.refuted.assertions

  pub core-sorts : CanCore trees held among → HaveOneSort (map (tree_at trees) ids)
  core-sorts h = subst HaveOneSort (sym (same-formulas trees held ids are)) h.refuted.one_sort

  pub core-within : CanCore trees held among → length (problem_of (map (tree_at trees) ids)).prefix < 2 ^ 32
  core-within h = subst (λ (ts : List Tree). length (problem_of ts).prefix < 2 ^ 32) (sym (same-formulas trees held ids are)) h.refuted.few

  pub core-untrue : CanCore trees held among → AreTrue (map (tree_at trees) ids) → ⊥
  core-untrue h = subst (λ (ts : List Tree). AreTrue ts → ⊥) (sym (same-formulas trees held ids are)) h.refuted.untrue

  pub core-rises : CanCore trees held among → Rises 0 places
  core-rises h = subst (Rises 0) (sym at) h.rises

  pub core-below : CanCore trees held among → All (λ n. n < length ids) places
  core-below h = subst (λ (ns : List ℕ). All (λ n. n < length ids) ns) (sym at) (subst (λ (ns : List ℕ). All (λ n. n < length ns) (places_of (texts_of among held))) (sym are) h.places)

  pub core-found : (limits : Limits) (before after : Metering) (kept : List ℕ) →
      (records : List Record) × IsCore limits (map (tree_at trees) ids) places kept records × (records_of after ≡ records_of before ++ records) → IsCoreFor limits (formulas_in trees held) (texts_of among held) (records_of before) (records_of after) kept
  core-found limits before after kept h =
      let of_formulas = subst (λ (ts : List Tree). IsCore limits ts places kept h.0) (same-formulas trees held ids are) h.1 in
      let core = subst (λ (ns : List ℕ). IsCore limits (formulas_in trees held) ns kept h.0) at of_formulas in
      record { lawful = core.rest; records = h.0; metered = core; started = h.2 }

-- names as they are printed have the same places
pub symbols-places : (xs : Named ℕ) → places_of (symbols_of xs) ≡ places_of xs
symbols-places [] = refl
symbols-places (x ∷ xs) = ap (λ ns. x.1 ∷ ns) (symbols-places xs)

-- the places of what may be left out, of either kind
pub places-named : {E : Type 0} (r : Result (Vec ℕ Global) E) (among : Among) (held : Held) (xs : List NamedAssertion) → among ≡ kinds.Names → xs ≡ held.named → IfOk r (λ p. p.items ≡ places_of (named_of xs)) → IfOk r (λ p. p.items ≡ places_of (texts_of among held))
places-named (Ok p) among held xs is same h =
    h ∙ ap (λ (ys : List NamedAssertion). places_of (named_of ys)) same ∙ sym (symbols-places (named_of held.named)) ∙ ap (λ (a : Among). places_of (texts_of a held)) (sym is)
places-named (Err e) among held xs is same h = tt

pub places-assumed : {E : Type 0} (r : Result (Vec ℕ Global) E) (among : Among) (held : Held) → among ≡ kinds.Assumptions → IfOk r (λ p. p.items ≡ places_of (terms_of held)) → IfOk r (λ p. p.items ≡ places_of (texts_of among held))
places-assumed (Ok p) among held is h = h ∙ ap (λ (a : Among). places_of (texts_of a held)) (sym is)
places-assumed (Err e) among held is h = tt

-- the place of one term more
pub placed-more : (n : ℕ) (texts : List (List ℕ)) (i : ℕ) → i < length texts → places_of (placed n (take (i + 1) texts)) ≡ places_of (placed n (take i texts)) ++ (n + i) ∷ []
placed-more n [] i lt = absurd (omega arith)
placed-more n (text ∷ texts) zero lt = let same : n ≡ n + 0 = omega arith in ap (λ m. m ∷ []) same
placed-more n (text ∷ texts) (suc i) lt =
    let more : suc i + 1 ≡ suc (i + 1) = omega arith in
    let on : suc n + i ≡ n + suc i = omega arith in
    ap (λ k. places_of (placed n (take k (text ∷ texts)))) more
    ∙ ap (λ ns. n ∷ ns) (placed-more (suc n) texts i (omega (arith, lt)))
    ∙ ap (λ m. n ∷ (places_of (placed (suc n) (take i texts)) ++ m ∷ [])) on

-- the places of one name more
pub places-more : (xs : List NamedAssertion) (i : ℕ) (d : NamedAssertion) → i < length xs → places_of (named_of (take (i + 1) xs)) ≡ places_of (named_of (take i xs)) ++ (get_or xs i d).assertion ∷ []
places-more [] i d lt = absurd (omega arith)
places-more (x ∷ xs) zero d lt = refl
places-more (x ∷ xs) (suc i) d lt =
    let more : suc i + 1 ≡ suc (i + 1) = omega arith in
    ap (λ n. places_of (named_of (take n (x ∷ xs)))) more ∙ ap (λ (l : List ℕ). x.assertion ∷ l) (places-more xs i d (omega (arith, lt)))
