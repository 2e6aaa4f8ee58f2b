-- Uses of definitions that are kept.
use Rattle.std.proofs.Common.{◌≡◌, ◌≤◌, ◌<◌, ◌==◌, not, ℕ, Bool, true, false, cond, Option, Some, None, List, [], ◌∷◌, length, map, slice_get, refl, sym, ap, subst, ◌∙◌, Ok, Err, arith}
use Rattle.std.specs.Prelude.{Result, All, IfOk, IfSome, nat_le, option_and_then}
use Rattle.std.specs.List.{AllByRecursion}
use Rattle.std.proofs.lemmas.Bool.Decides.{nat_tests}
use Rattle.std.proofs.lemmas.List.{append-nil}
use Rattle.std.proofs.lemmas.List.Elements.{All-from_recursion}
use Rattle.qv_sexpr.specs.declared.items.Item.{Item}
use Rattle.qv_sexpr.specs.declared.items.Expr.{Expr as Items}
use Rattle.qv_words.specs.declared.sort.Sort.{Sort}
use Rattle.qv_words.specs.Tree.{Tree}
use Rattle.qv_words.specs.Sorted.{free_levels}
use Rattle.qv_store.specs.Walks.{named}
use Rattle.qv_elab_defs.specs.declared.faults.ElabFault.{ElabFault}
use Rattle.qv_elab_defs.specs.declared.faults.ElabKind.TheVariants.{Arity, Sorts, DepthLimit}
use Rattle.qv_elab_scope.specs.declared.heads.Head.TheVariants as told
use Rattle.qv_elab_macros.specs.declared.body.Body.{Body}
use Rattle.qv_elab_scope.specs.declared.scope.Kept.{Kept}
use Rattle.qv_elab_defs.specs.Faults.{Fault, refuse, ◌>>=◌, at, moved}
use Rattle.qv_elab_items.specs.Flat.{name_in}
use Rattle.qv_elab_defs.specs.Scopes.{Scope, Entry, Constant, Definition, Synonym, constants_of, found}
use Rattle.qv_elab_scope.specs.Force.{Force, stands_for}
use Rattle.qv_elab_defs.specs.Heads.{Head, Macro, Distinct}
use Rattle.qv_elab_defs.specs.Applying.{sort_of, depth_of, depth_limit, shallow, are_sorts_eq, apply}
use Rattle.qv_elab_defs.specs.Leaves.{entry_tree}
use Rattle.qv_elab_macros.specs.Readings.{IsUsed, used_at}
use Rattle.qv_elab_defs.specs.TreeLaws.{IsScope}
use Rattle.qv_elab_defs.specs.Answers.{Answers}
use Rattle.qv_elab_scope.specs.Kept.{IsKeptDefinition, IsKeptFor}
use Rattle.qv_elab_defs.specs.OpenTrees.{IsGood, IsGoodBody, IsGoodEntry, Ends}
use Rattle.qv_elab_scope.specs.Ids.{IsApplied, applied_at}
use Rattle.qv_elab_defs.proofs.Opened.{IsBound, open-levels}
use Rattle.qv_elab_defs.proofs.OpenElaborated.{found-all}
use Rattle.qv_elab_defs.proofs.ElaboratedTrees.{sorts_of, good-scope}
use Rattle.qv_elab_scope.proofs.Tokened.{kept-there}
use Rattle.qv_elab_scope.proofs.IdTrees.{at-trees}

-- what is kept for a definition
module _ (trees : List Tree) (scope : Scope) (is : IsScope scope) (sorts : List Sort) (body : Body) (entry : Entry) (k : IsKeptDefinition trees scope sorts body entry) where
  pub as-used : IsUsed trees scope k.parameters k.sort k.expr sorts body
  as-used = record {
    is_scope = is;
    are_parameters = k.are_parameters;
    tokens = k.tokens;
    sorts_are = k.sorts_are;
    reading = k.reading;
  }

abbrev as-head : Entry → Head
as-head (Constant i s) = Distinct
as-head (Definition sorts read) = Macro sorts read
as-head (Synonym s) = Distinct

pub used-kept : (trees : List Tree) (scope : Scope) (sorts : List Sort) (body : Body) (ss : List Sort) (read : ℕ → List Tree → Result Tree Fault) (k : IsKeptDefinition trees scope sorts body (Definition ss read)) (place binders : ℕ) (ts : List Tree) →
    used_at place binders scope k.parameters k.expr sorts ts ≡ apply place binders (Macro ss read) ts
used-kept trees scope sorts body ss read k place binders ts =
    ap (λ us. used_at place binders scope k.parameters k.expr us ts) k.sorts_are
    ∙ ap (λ (e : Entry). apply place binders (as-head e) ts) (sym k.entry_is)

-- a definition without parameters
abbrev sorts-in : Entry → List Sort
sorts-in (Constant i s) = []
sorts-in (Definition us r) = us
sorts-in (Synonym s) = []

pub no-parameters : (trees : List Tree) (scope : Scope) (sorts : List Sort) (body : Body) (ss : List Sort) (read : ℕ → List Tree → Result Tree Fault) (k : IsKeptDefinition trees scope sorts body (Definition ss read)) → ss ≡ sorts
no-parameters trees scope sorts body ss read k = ap sorts-in k.entry_is ∙ sym k.sorts_are

-- arguments below binders
bound-below : (M : ℕ → Option Sort) (b : ℕ) → Ends M b → (xs : List (ℕ × Sort)) → AllByRecursion (IsBound M) xs → AllByRecursion (λ leaf. leaf.0 < b) xs
bound-below M b ends [] h = tt
bound-below M b ends (x ∷ xs) h = (below (nat_le b x.0) refl, bound-below M b ends xs h.1)
  where
    below : (t : Bool) → nat_le b x.0 ≡ t → x.0 < b
    below true e =
        let le : b ≤ x.0 = grind (arith, nat_tests) in
        absurd (let f = sym h.0 ∙ ends x.0 le in cc)
    below false e = grind (arith, nat_tests)

pub good-levels : (K : List Sort) (M : ℕ → Option Sort) (b : ℕ) → Ends M b → (ts : List Tree) → AllByRecursion (IsGood K 0 M) ts → AllByRecursion (λ t. All (λ leaf. leaf.0 < b) (free_levels t)) ts
good-levels K M b ends [] h = tt
good-levels K M b ends (t ∷ ts) h = (All-from_recursion (λ leaf. leaf.0 < b) (free_levels t) (bound-below M b ends (free_levels t) (open-levels t K 0 M h.0.0)), good-levels K M b ends ts h.1)

pub good-depths : (K : List Sort) (M : ℕ → Option Sort) (ts : List Tree) → AllByRecursion (IsGood K 0 M) ts → AllByRecursion (λ t. depth_of t ≤ depth_limit) ts
good-depths K M [] h = tt
good-depths K M (t ∷ ts) h = (h.0.1, good-depths K M ts h.1)

-- what isn't too deep
shallow-same : (place : ℕ) (r : Result Tree Fault) → IfOk r (λ t. depth_of t ≤ depth_limit) → (r >>= λ t. shallow place t) ≡ r
shallow-same place (Err f) h = refl
shallow-same place (Ok t) h =
    let test : nat_le (depth_of t) depth_limit ≡ true = grind (arith, nat_tests) in
    ap (λ b. cond b (Ok t) (refuse place DepthLimit)) test

moved-depth : (place : ℕ) (r : Result Tree Fault) (K : List Sort) (M : ℕ → Option Sort) → IfOk r (IsGood K 0 M) → IfOk (moved place r) (λ t. depth_of t ≤ depth_limit)
moved-depth place (Ok t) K M h = h.1
moved-depth place (Err f) K M h = tt

apply-depth : (K : List Sort) (M : ℕ → Option Sort) (place binders : ℕ) (sorts : List Sort) (read : ℕ → List Tree → Result Tree Fault) (ts : List Tree) → IsGoodBody K 0 read → Ends M binders → AllByRecursion (IsGood K 0 M) ts → IfOk (apply place binders (Macro sorts read) ts) (λ t. depth_of t ≤ depth_limit)
apply-depth K M place binders sorts read ts body ends good = go (length ts == length sorts) (are_sorts_eq sorts (map (λ t. sort_of t) ts))
  where
    go : (b c : Bool) → IfOk (at place (cond (not b) (Err Arity) (cond c (Ok ts) (Err Sorts))) >>= λ args. moved place (read binders args)) (λ t. depth_of t ≤ depth_limit)
    go true true = moved-depth place (read binders ts) K M (body M binders ts ends (omega arith) good)
    go true false = tt
    go false c = tt

module _ (trees : List Tree) (force : Force) (items : Items) (binders head_at : ℕ) (ns : List ℕ) (defs : Scope) (meant : Head) (ts : List Tree) (h : IsApplied trees force items binders told.Macro head_at ns defs meant ts) where
  pub same-name : (x : Item) → Some x ≡ slice_get items.items.items head_at → (name : List ℕ) → Some name ≡ name_in items.text.items x → name ≡ h.is_head.0
  same-name x e name f =
      let both : Some name ≡ Some h.is_head.0 = f ∙ ap (option_and_then (name_in items.text.items)) e ∙ h.is_head.3 in
      cc

  some-entry : (a b : Entry) → ◌≡◌ {A = Option Entry} (Some a) (Some b) → a ≡ b
  some-entry a b e = ap (λ (o : Option Entry). from a o) e
    where
      from : Entry → Option Entry → Entry
      from d (Some x) = x
      from d None = d

  pub definition-there : (name : List ℕ) → name ≡ h.is_head.0 → (k : Kept) → Some k ≡ stands_for name force → (rest : Scope) × IsScope rest × IsKeptFor trees rest k (Definition h.is_head.1 h.is_head.2)
  definition-there name e k f =
      let t = kept-there trees force defs name k h.scope f in
      let same : t.0.entry ≡ Definition h.is_head.1 h.is_head.2 = some-entry t.0.entry (Definition h.is_head.1 h.is_head.2) (sym t.0.entry_is ∙ ap (λ (n : List ℕ). found n defs) e ∙ h.is_head.4) in
      (t.0.rest, t.0.rest_is, subst (λ (x : Entry). IsKeptFor trees t.0.rest k x) same (subst (λ (q : Kept). IsKeptFor trees t.0.rest q t.0.entry) (sym t.1) t.0.kept_for))

  pub args-levels : All (λ t. All (λ leaf. leaf.0 < binders) (free_levels t)) (named trees ns)
  args-levels =
      subst (λ (us : List Tree). All (λ t. All (λ leaf. leaf.0 < binders) (free_levels t)) us) (sym (at-trees trees ns ts h.are))
      (All-from_recursion (λ t. All (λ leaf. leaf.0 < binders) (free_levels t)) ts (good-levels (sorts_of (constants_of defs)) h.M binders h.ends ts h.good))

  pub args-depths : All (λ t. depth_of t ≤ depth_limit) (named trees ns)
  args-depths =
      subst (λ (us : List Tree). All (λ t. depth_of t ≤ depth_limit) us) (sym (at-trees trees ns ts h.are))
      (All-from_recursion (λ t. depth_of t ≤ depth_limit) ts (good-depths (sorts_of (constants_of defs)) h.M ts h.good))

  pub use-answers : (trees' : List Tree) (place : ℕ) (r : Result ℕ ElabFault) → Answers trees' (apply place binders (Macro h.is_head.1 h.is_head.2) (named trees ns)) r → Answers trees' (applied_at place binders meant ts) r
  use-answers trees' place r a =
      let entries = found-all (IsGoodEntry (sorts_of (constants_of defs)) 0) h.is_head.0 defs (good-scope defs h.scope.is_scope (sorts_of (constants_of defs)) [] 0 (sym (append-nil (sorts_of (constants_of defs))))) in
      let body = subst (λ (o : Option Entry). IfSome o (IsGoodEntry (sorts_of (constants_of defs)) 0)) h.is_head.4 entries in
      let depth = apply-depth (sorts_of (constants_of defs)) h.M place binders h.is_head.1 h.is_head.2 ts body h.ends h.good in
      let same = shallow-same place (apply place binders (Macro h.is_head.1 h.is_head.2) ts) depth in
      subst (λ (m : Head). Answers trees' (applied_at place binders m ts) r) (sym h.is_head.5)
      (subst (λ (q : Result Tree Fault). Answers trees' q r) (sym same)
      (subst (λ (us : List Tree). Answers trees' (apply place binders (Macro h.is_head.1 h.is_head.2) us) r) (at-trees trees ns ts h.are) a))

-- what a definition without parameters is by its name, and one with some
pub bare-same : (place binders : ℕ) (name : List ℕ) (ss : List Sort) (read : ℕ → List Tree → Result Tree Fault) → ss ≡ [] → apply place binders (Macro ss read) [] ≡ entry_tree place name binders (Some (Definition ss read))
bare-same place binders name [] read e = refl
bare-same place binders name (s ∷ ss) read e = absurd (cc)

pub bare-few : (place binders : ℕ) (name : List ℕ) (ss : List Sort) (read : ℕ → List Tree → Result Tree Fault) → (ss ≡ [] → ⊥) → entry_tree place name binders (Some (Definition ss read)) ≡ refuse place Arity
bare-few place binders name [] read ne = absurd (ne refl)
bare-few place binders name (s ∷ ss) read ne = refl
