-- Elaborated trees are trees of their scope.
use Rattle.std.proofs.Common.{◌≡◌, ℕ, Option, Some, List, [], ◌∷◌, ◌++◌, map, length, refl, sym, ap, subst, ◌∙◌, Ok, Err, slice_get, append_assoc, arith}
use Rattle.std.specs.Prelude.{Result, IfOk, IsSome, zip}
use Rattle.std.specs.List.{AllByRecursion}
use Rattle.std.proofs.lemmas.List.{append-nil}
use Rattle.std.proofs.lemmas.List.Elements.{All-from_recursion}
use Rattle.qv_words.specs.declared.sort.Sort.{Sort}
use Rattle.qv_words.specs.Tree.{Tree}
use Rattle.qv_words.specs.Sorted.{no_levels, free_levels}
use Rattle.qv_words.specs.Sorted.{constants_of as leaves_of}
use Rattle.qv_elab_defs.specs.Scopes.{Named, Scope, constants_of, outermost}
use Rattle.qv_elab_defs.specs.Elaborating.{elab}
use Rattle.qv_elab_defs.specs.SortLaws.{ScopedSortsAreLawful}
use Rattle.qv_elab_defs.specs.TreeLaws.{IsScope, empty, declares, defines, abbreviates, IsTreeOf, ElaboratedAreTrees}
use Rattle.qv_elab_defs.proofs.Opened.{IsBound, IsThere, open-sort, open-sorted, open-levels, open-constants}
use Rattle.qv_elab_defs.proofs.OpenApplied.{IsGood}
use Rattle.qv_elab_defs.proofs.OpenElaborated.{IsGoodEntry, IsGoodContext, lawful-sort, ok-elab}

-- the sorts of the constants
abbrev pub sorts_of : Named Sort → List Sort
sorts_of xs = map (λ x. x.1) xs

pub sorts-append : (xs ys : Named Sort) → sorts_of (xs ++ ys) ≡ sorts_of xs ++ sorts_of ys
sorts-append [] ys = refl
sorts-append (x ∷ xs) ys = ap (λ zs. x.1 ∷ zs) (sorts-append xs ys)

at-end : (xs : Named Sort) (s : Sort) (rest : List Sort) → slice_get (sorts_of xs ++ s ∷ rest) (length xs) ≡ Some s
at-end [] s rest = refl
at-end (x ∷ xs) s rest = at-end xs s rest

pub zip-good : (P : Tree → Type 0) (names : List (List ℕ)) (ts : List Tree) → AllByRecursion P ts → AllByRecursion (λ x. P x.1) (zip names ts)
zip-good P [] ts h = tt
zip-good P (n ∷ ns) [] h = tt
zip-good P (n ∷ ns) (t ∷ ts) h = (h.0, zip-good P ns ts h.1)

-- the entries of a scope are good, for constants that begin as its own
pub good-scope : (scope : Scope) → IsScope scope → (K rest : List Sort) (low : ℕ) → K ≡ sorts_of (constants_of scope) ++ rest → AllByRecursion (λ x. IsGoodEntry K low x.1) scope
good-scope _ empty K rest low e = tt
good-scope _ (declares scope name s h l) K rest low e =
    let all : K ≡ sorts_of (constants_of scope) ++ (s ∷ rest) =
    e ∙ ap (λ zs. zs ++ rest) (sorts-append (constants_of scope) ((name, s) ∷ [])) ∙ append_assoc (sorts_of (constants_of scope)) (s ∷ []) rest in
    ((l, subst (λ zs. slice_get zs (length (constants_of scope)) ≡ Some s) (sym all) (at-end (constants_of scope) s rest)), good-scope scope h K (s ∷ rest) low all)
good-scope _ (defines scope name parameters s body t h p w e) K rest low same =
    let all : K ≡ sorts_of (constants_of scope) ++ rest = same ∙ ap (λ zs. sorts_of zs ++ rest) (append-nil (constants_of scope)) in
    let entries = good-scope scope h K rest low all in (
      (λ M b args ends le good. ok-elab K low body (record { scope = scope; bound = zip (map (λ x. x.0) parameters) args; binders = b }) M w
          (record { scope = entries; bound = zip-good (IsGood K low M) (map (λ x. x.0) parameters) args good; ends = ends; from = le })),
      entries,
    )
good-scope _ (abbreviates scope name s h l) K rest low same =
    let all : K ≡ sorts_of (constants_of scope) ++ rest = same ∙ ap (λ zs. sorts_of zs ++ rest) (append-nil (constants_of scope)) in
    (l, good-scope scope h K rest low all)

pub outermost-good : (scope : Scope) → IsScope scope → IsGoodContext (sorts_of (constants_of scope)) 0 no_levels (outermost scope)
outermost-good scope h = record {
  scope = good-scope scope h (sorts_of (constants_of scope)) [] 0 (sym (append-nil (sorts_of (constants_of scope))));
  bound = tt;
  ends = λ l le. refl;
  from = omega arith;
}

pub scoped-sorts-are-lawful : ScopedSortsAreLawful
scoped-sorts-are-lawful scope e h = lawful-sort (sorts_of (constants_of scope)) 0 scope (outermost-good scope h).scope e

none-bound : (xs : List (ℕ × Sort)) → AllByRecursion (IsBound no_levels) xs → xs ≡ []
none-bound [] h = refl
none-bound (x ∷ xs) h = absurd (let e = h.0 in cc)

pub tree-of : (scope : Scope) (t : Tree) → IsGood (sorts_of (constants_of scope)) 0 no_levels t → IsTreeOf scope t
tree-of scope t h =
    let K = sorts_of (constants_of scope) in
    record {
      sorted = open-sorted t K 0 no_levels h.0;
      sort = subst (λ (o : Option Sort). IsSome o) (sym (open-sort t K 0 no_levels h.0)) refl;
      closed = none-bound (free_levels t) (open-levels t K 0 no_levels h.0);
      shallow = h.1;
      constants = All-from_recursion (IsThere K) (leaves_of t) (open-constants t K 0 no_levels h.0);
    }

ok-weaker : {A F : Type 0} (r : Result A F) (P Q : A → Type 0) → ((a : A) → P a → Q a) → IfOk r P → IfOk r Q
ok-weaker (Ok a) P Q go h = go a h
ok-weaker (Err f) P Q go h = tt

pub elaborated-are_trees : ElaboratedAreTrees
elaborated-are_trees scope e h w =
    ok-weaker (elab e (outermost scope)) (IsGood (sorts_of (constants_of scope)) 0 no_levels) (IsTreeOf scope) (tree-of scope)
    (ok-elab (sorts_of (constants_of scope)) 0 e (outermost scope) no_levels w (outermost-good scope h))
