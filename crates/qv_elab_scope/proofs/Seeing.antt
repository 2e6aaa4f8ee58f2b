-- What is answered together with what was looked at.
use Rattle.std.proofs.Common.{◌≡◌, ◌≤◌, ◌<◌, ◌==◌, inl, inr, not, ℕ, Bool, true, false, cond, Option, Some, None, List, [], ◌∷◌, ◌++◌, length, map, refl, sym, ap, subst, ◌∙◌, Ok, Err, arith}
use Rattle.std.specs.Prelude.{Result, All, IfOk, IsOk, nat_le, option_and_then, zip}
use Rattle.std.specs.List.{AllByRecursion}
use Rattle.std.proofs.lemmas.Bool.Decides.{nat_tests}
use Rattle.std.proofs.lemmas.List.{append-nil, length-map}
use Rattle.std.proofs.lemmas.List.Elements.{All-from_recursion}
use Rattle.qv_text.specs.declared.kinds.TokenKind.{TokenKind}
use Rattle.qv_text.specs.declared.kinds.TokenKind.TheVariants.{Symbol}
use Rattle.qv_sexpr.specs.declared.items.Expr.{Expr as Items}
use Rattle.qv_words.specs.declared.sort.Sort.{Sort}
use Rattle.qv_words.specs.Tree.{Tree, tree_sort}
use Rattle.qv_words.specs.Sorted.{IsSorted, free_levels}
use Rattle.qv_store.specs.Stores.{StandsAt, Grows}
use Rattle.qv_elab_defs.specs.declared.faults.ElabFault.{ElabFault}
use Rattle.qv_elab_defs.specs.declared.faults.ElabFault.TheVariants.{At, NoMemory}
use Rattle.qv_elab_defs.specs.declared.faults.ElabKind.TheVariants.{Arity, Sorts, DepthLimit, UnknownName}
use Rattle.qv_elab_scope.specs.declared.heads.Head.{Head as Told}
use Rattle.qv_elab_scope.specs.declared.heads.Head.TheVariants as told
use Rattle.qv_elab_macros.specs.declared.body.Body.{Body}
use Rattle.qv_elab_scope.specs.declared.scope.Kept.{Kept}
use Rattle.qv_elab_scope.specs.declared.scope.Kept.TheVariants as kept
use Rattle.qv_elab_macros.specs.declared.standing.Watched.{Watched}
use Rattle.qv_elab_defs.specs.Faults.{Fault, refuse, ◌>>=◌, at, moved}
use Rattle.qv_elab_defs.specs.Tokens.{unquoted}
use Rattle.qv_elab_defs.specs.Scopes.{Named, Scope, Entry, Constant, Definition, Synonym, constants_of, Context, found}
use Rattle.qv_elab_scope.specs.Force.{Force, stands_for}
use Rattle.qv_elab_defs.specs.Heads.{Head, Macro, Distinct, Operator}
use Rattle.qv_elab_scope.specs.Headed.{IsHead, name_at}
use Rattle.qv_elab_defs.specs.Applying.{sort_of, depth_of, depth_limit, shallow, are_sorts_eq, fitting, apply}
use Rattle.qv_elab_defs.specs.Leaves.{truth_named, entry_tree, named_tree, token_tree}
use Rattle.qv_elab_defs.specs.Answers.{Answers}
use Rattle.qv_elab_defs.specs.TreeLaws.{IsScope}
use Rattle.qv_elab_defs.specs.UseLaws.{AreArguments}
use Rattle.qv_elab_scope.specs.Kept.{IsKeptDefinition, IsKeptFor, IsScopeIn}
use Rattle.qv_elab_defs.specs.Looking.{Look, Seen, Deep, Used, Looking, still, ◌▷◌, shallow_looks, use_of_head, entry_looks, named_looks, token_looks}
use Rattle.qv_elab_scope.specs.WatchedArgs.{watched_args, watched_by, watched_at}
use Rattle.qv_elab_macros.specs.Checked.{AreArgChecks, IsUseChecked, IsCheckedBy, deep, used, Sees}
use Rattle.qv_elab_defs.specs.OpenTrees.{IsGood, Ends}
use Rattle.qv_elab_defs.specs.Looking.{applied_looks}
use Rattle.qv_elab_scope.specs.Ids.{AreAt, IsApplied, applied_at}
use Rattle.qv_elab_defs.proofs.Opened.{open-sorted}
use Rattle.qv_elab_defs.proofs.SortedBelow.{sorted-alone}
use Rattle.qv_elab_defs.proofs.ElaboratedTrees.{sorts_of}
use Rattle.qv_elab_defs.proofs.Looked.{Makes, applied-makes}
use Rattle.qv_elab_scope.proofs.Lookups.{IsLooked, looked-up}
use Rattle.qv_elab_macros.proofs.UsedInStore.{fits-length, fits-sorts, of-sorts}
use Rattle.qv_elab_scope.proofs.Usable.{good-levels, good-depths}
use Rattle.qv_elab_scope.proofs.Growing.{looked-grows}

pub ok-seen : (x : Looking Tree) (r : Result Tree Fault) (P : Tree → Type 0) (looks : List Look) → Makes x r → IfOk r P → IfOk (x looks) (λ y. P y.0)
ok-seen x r P looks m h = go (x looks) (m looks)
  where
    go : (y : Result Seen Fault) → (y >>= λ z. Ok z.0) ≡ r → IfOk y (λ z. P z.0)
    go (Ok z) e = let R : Result Tree Fault → Type 0 = λ q. IfOk q P in subst R (sym e) h
    go (Err f) e = tt

err-seen : (y : Result Seen Fault) (f : Fault) → ◌≡◌ {A = Result Tree Fault} (y >>= λ z. Ok z.0) (Err f) → y ≡ Err f
err-seen (Ok z) f e = absurd (cc)
err-seen (Err g) f e = let same : g ≡ f = cc in ap Err same

-- nothing is looked at
pub still-seen : (trees : List Tree) (watched : List Watched) (r : Result Tree Fault) (looks : List Look) → IsCheckedBy trees watched looks → (q : Result ℕ ElabFault) → Answers trees r q → Sees trees watched (still r looks) q
still-seen trees watched r looks h (Ok n) a = (a.0, looks, ap (λ (x : Result Tree Fault). still x looks) a.1, a.2, h)
still-seen trees watched r looks h (Err (At p kind)) a = ap (λ (x : Result Tree Fault). still x looks) a
still-seen trees watched r looks h (Err NoMemory) a = tt

-- the tree alone
pub answered-of : (trees : List Tree) (watched : List Watched) (x : Looking Tree) (r : Result Tree Fault) (looks : List Look) → Makes x r → (q : Result ℕ ElabFault) → Sees trees watched (x looks) q → Answers trees r q
answered-of trees watched x r looks m (Ok n) a = (a.0, sym (m looks) ∙ ap (λ (y : Result Seen Fault). y >>= λ z. Ok z.0) a.2, a.3)
answered-of trees watched x r looks m (Err (At p kind)) a = sym (m looks) ∙ ap (λ (y : Result Seen Fault). y >>= λ z. Ok z.0) a
answered-of trees watched x r looks m (Err NoMemory) a = tt

-- a definition of a scope, as it is kept
pub record IsDefinitionThere (trees : List Tree) (force : Force) (name : List ℕ) (ss : List Sort) (read : ℕ → List Tree → Result Tree Fault) : Type 0 where
  pub rest : Scope
  pub sorts : List Sort
  pub body : Body
  pub what : Kept
  pub what_is : stands_for name force ≡ Some what
  pub args_are : (ns : List ℕ) → watched_by told.Macro (Some what) ns ≡ watched_args ns body.depths.items
  pub is_scope : IsScope rest
  pub definition : IsKeptDefinition trees rest sorts body (Definition ss read)

some-entry : (a b : Entry) → ◌≡◌ {A = Option Entry} (Some a) (Some b) → a ≡ b
some-entry a b e = ap (λ (o : Option Entry). from a o) e
  where
    from : Entry → Option Entry → Entry
    from d (Some x) = x
    from d None = d

pub definition-kept : (trees : List Tree) (force : Force) (scope : Scope) (name : List ℕ) (ss : List Sort) (read : ℕ → List Tree → Result Tree Fault) → IsScopeIn trees force scope → found name scope ≡ Some (Definition ss read) → IsDefinitionThere trees force name ss read
definition-kept trees force scope name ss read h e = go (looked-up trees force scope name h)
  where
    of-kept : (k : Kept) (rest : Scope) → stands_for name force ≡ Some k → IsScope rest → IsKeptFor trees rest k (Definition ss read) → IsDefinitionThere trees force name ss read
    of-kept (kept.Constant i s) rest f is k = absurd (cc)
    of-kept (kept.Synonym s) rest f is k = absurd (cc)
    of-kept (kept.Definition sorts body) rest f is k = record {
      rest = rest;
      sorts = sorts.items;
      body = body;
      what = kept.Definition sorts body;
      what_is = f;
      args_are = λ ns. refl;
      is_scope = is;
      definition = k;
    }

    go : IsLooked trees scope name (stands_for name force) → IsDefinitionThere trees force name ss read
    go (inl n) = absurd (let f = sym e ∙ n.1 in cc)
    go (inr i) = of-kept i.kept i.rest i.kept_is i.rest_is (subst (λ (x : Entry). IsKeptFor trees i.rest i.kept x) (some-entry i.entry (Definition ss read) (sym i.entry_is ∙ e)) i.kept_for)

-- a use of it
abbrev read-in : Entry → ℕ → List Tree → Result Tree Fault
read-in (Constant i s) n us = refuse 0 Arity
read-in (Definition ss read) n us = read n us
read-in (Synonym s) n us = refuse 0 Arity

use-checked : (trees : List Tree) (rest : Scope) (sorts : List Sort) (body : Body) (ss : List Sort) (read : ℕ → List Tree → Result Tree Fault) (k : IsKeptDefinition trees rest sorts body (Definition ss read)) (binders : ℕ) (ts : List Tree) (watched : List Watched)
    → AreArguments k.parameters binders ts → IsOk (read binders ts) → AreArgChecks trees ts body.depths.items watched → IsUseChecked trees watched read binders ts
use-checked trees rest sorts body ss read k binders ts watched arguments ok args = record {
  scope = rest;
  parameters = k.parameters;
  expr = k.expr;
  depths = body.depths.items;
  definition = λ n us. ap (λ (x : Entry). read-in x n us) k.entry_is;
  limited = k.reading.limited;
  arguments = arguments;
  ok = ok;
  arg_checks = args;
}

abbrev sorts-in : Entry → List Sort
sorts-in (Constant i s) = []
sorts-in (Definition us r) = us
sorts-in (Synonym s) = []

own-sorts : (trees : List Tree) (rest : Scope) (sorts : List Sort) (body : Body) (ss : List Sort) (read : ℕ → List Tree → Result Tree Fault) (k : IsKeptDefinition trees rest sorts body (Definition ss read)) → ss ≡ map (λ x. x.1) k.parameters
own-sorts trees rest sorts body ss read k = ap sorts-in k.entry_is

-- its arguments are there, each at the depth of its parameter
args-watched : (trees : List Tree) (ns : List ℕ) (ts : List Tree) (ds : List ℕ) → AreAt trees ns ts → length ds ≡ length ts → AreArgChecks trees ts ds (watched_args ns ds)
args-watched trees [] [] [] h e = tt
args-watched trees (n ∷ ns) (t ∷ ts) (d ∷ ds) h e = (h.0, refl, args-watched trees ns ts ds h.1 (omega (arith, e)))
args-watched trees [] [] (d ∷ ds) h e = absurd (omega (arith, e))
args-watched trees (n ∷ ns) (t ∷ ts) [] h e = absurd (omega (arith, e))
args-watched trees [] (t ∷ ts) ds h e = absurd h
args-watched trees (n ∷ ns) [] ds h e = absurd h

each-sorted : (K : List Sort) (M : ℕ → Option Sort) (ts : List Tree) → AllByRecursion (IsGood K 0 M) ts → AllByRecursion IsSorted ts
each-sorted K M [] h = tt
each-sorted K M (t ∷ ts) h = (sorted-alone t M (open-sorted t K 0 M h.0.0), each-sorted K M ts h.1)

are-arguments : (K : List Sort) (M : ℕ → Option Sort) (parameters : Named Sort) (ss : List Sort) (binders : ℕ) (ts : List Tree) → ss ≡ map (λ x. x.1) parameters → Ends M binders → AllByRecursion (IsGood K 0 M) ts → fitting ss ts ≡ Ok ts → AreArguments parameters binders ts
are-arguments K M parameters ss binders ts e ends good fit =
    let sorted = each-sorted K M ts good in
    record {
      count = fits-length ss ts fit ∙ ap length e ∙ length-map parameters (λ x. x.1);
      sorted = All-from_recursion IsSorted ts sorted;
      sorts = All-from_recursion (λ x. tree_sort x.1 ≡ Some x.0.1) (zip parameters ts) (of-sorts parameters ts sorted (ap (λ us. are_sorts_eq us (map (λ t. sort_of t) ts)) (sym e) ∙ fits-sorts ss ts fit));
      below = All-from_recursion (λ t. All (λ leaf. leaf.0 < binders) (free_levels t)) ts (good-levels K M binders ends ts good);
      shallow = All-from_recursion (λ t. depth_of t ≤ depth_limit) ts (good-depths K M ts good);
    }

moved-ok : (place : ℕ) (r : Result Tree Fault) (t : Tree) → moved place r ≡ Ok t → IsOk r
moved-ok place (Ok u) t e = refl
moved-ok place (Err f) t e = absurd (cc)

macro-ok : (place binders : ℕ) (ss : List Sort) (read : ℕ → List Tree → Result Tree Fault) (ts : List Tree) (t : Tree) → apply place binders (Macro ss read) ts ≡ Ok t → (fitting ss ts ≡ Ok ts) × IsOk (read binders ts)
macro-ok place binders ss read ts t e = go (length ts == length ss) (are_sorts_eq ss (map (λ t. sort_of t) ts)) e
  where
    go : (b c : Bool) → (at place (cond (not b) (Err Arity) (cond c (Ok ts) (Err Sorts))) >>= λ args. moved place (read binders args)) ≡ Ok t → (cond (not b) (Err Arity) (cond c (Ok ts) (Err Sorts)) ≡ Ok ts) × IsOk (read binders ts)
    go true true k = (refl, moved-ok place (read binders ts) t k)
    go true false k = absurd (cc)
    go false c k = absurd (cc)

-- a definition without parameters
no-parameters : (parameters : Named Sort) → [] ≡ map (λ x. x.1) parameters → parameters ≡ []
no-parameters [] e = refl
no-parameters (p ∷ ps) e = absurd (cc)

no-depths : (ds : List ℕ) → length ds ≡ 0 → ds ≡ []
no-depths [] e = refl
no-depths (d ∷ ds) e = absurd (omega (arith, e))

bare-use : (trees : List Tree) (force : Force) (scope : Scope) (name : List ℕ) (read : ℕ → List Tree → Result Tree Fault) (binders : ℕ) → IsScopeIn trees force scope → found name scope ≡ Some (Definition [] read) → IsOk (read binders []) → IsUseChecked trees [] read binders []
bare-use trees force scope name read binders h e ok =
    let k = definition-kept trees force scope name [] read h e in
    let none = no-parameters k.definition.parameters (own-sorts trees k.rest k.sorts k.body [] read k.definition) in
    let count = k.definition.reading.count ∙ ap length none in
    use-checked trees k.rest k.sorts k.body [] read k.definition binders [] []
    (subst (λ (ps : Named Sort). AreArguments ps binders []) (sym none) no-arguments)
    ok
    (subst (λ (ds : List ℕ). AreArgChecks trees [] ds []) (sym (no-depths k.body.depths.items count)) tt)
  where
    no-arguments : AreArguments [] binders []
    no-arguments = record {
      count = refl;
      sorted = All-from_recursion IsSorted [] tt;
      sorts = All-from_recursion (λ (x : (List ℕ × Sort) × Tree). tree_sort x.1 ≡ Some x.0.1) [] tt;
      below = All-from_recursion (λ (t : Tree). All (λ leaf. leaf.0 < binders) (free_levels t)) [] tt;
      shallow = All-from_recursion (λ t. depth_of t ≤ depth_limit) [] tt;
    }

-- a token
module _ (trees : List Tree) (force : Force) (watched : List Watched) (place : ℕ) (name : List ℕ) (c : Context) (looks : List Look) (s : IsScopeIn trees force c.scope) (h : IsCheckedBy trees watched looks) where
  bare-seen : (read : ℕ → List Tree → Result Tree Fault) → found name c.scope ≡ Some (Definition [] read) → (q : Result ℕ ElabFault) → Answers trees (moved place (read c.binders [])) q → Sees trees watched (moved place (read c.binders []) >>= λ tree. Ok (tree, Used read c.binders [] ∷ looks)) q
  bare-seen read e (Ok n) a =
      let ok = moved-ok place (read c.binders []) a.0 a.1 in
      let more = used trees watched [] looks read c.binders [] h (bare-use trees force c.scope name read c.binders s e ok) in (
        a.0,
        Used read c.binders [] ∷ looks,
        ap (λ (r : Result Tree Fault). r >>= λ tree. Ok (tree, Used read c.binders [] ∷ looks)) a.1,
        a.2,
        subst (λ (ws : List Watched). IsCheckedBy trees ws (Used read c.binders [] ∷ looks)) (append-nil watched) more,
      )
  bare-seen read e (Err (At p kind)) a = ap (λ (r : Result Tree Fault). r >>= λ tree. Ok (tree, Used read c.binders [] ∷ looks)) a
  bare-seen read e (Err NoMemory) a = tt

  entry-seen : (o : Option Entry) → found name c.scope ≡ o → (q : Result ℕ ElabFault) → Answers trees (entry_tree place name c.binders o) q → Sees trees watched (entry_looks place name c.binders o looks) q
  entry-seen (Some (Constant i s)) e q a = still-seen trees watched (entry_tree place name c.binders (Some (Constant i s))) looks h q a
  entry-seen (Some (Definition [] read)) e q a = bare-seen read e q a
  entry-seen (Some (Definition (x ∷ xs) read)) e q a = still-seen trees watched (refuse place Arity) looks h q a
  entry-seen (Some (Synonym s)) e q a = still-seen trees watched (refuse place UnknownName) looks h q a
  entry-seen None e q a = still-seen trees watched (truth_named place name) looks h q a

  named-seen : (o : Option Tree) (q : Result ℕ ElabFault) → Answers trees (named_tree place name c o) q → Sees trees watched (named_looks place name c o looks) q
  named-seen (Some t) q a = still-seen trees watched (Ok t) looks h q a
  named-seen None q a = entry-seen (found name c.scope) refl q a

pub token-seen : (trees : List Tree) (force : Force) (watched : List Watched) (kind : TokenKind) (place : ℕ) (text : List ℕ) (c : Context) (looks : List Look) → IsScopeIn trees force c.scope → IsCheckedBy trees watched looks → (q : Result ℕ ElabFault) → Answers trees (token_tree kind place text c) q → Sees trees watched (token_looks kind place text c looks) q
token-seen trees force watched Symbol place text c looks s h q a = named-seen trees force watched place (unquoted text) c looks s h (found (unquoted text) c.bound) q a
token-seen trees force watched kind place text c looks s h q a = still-seen trees watched (token_tree kind place text c) looks h q a

-- an application
module _ (trees : List Tree) (force : Force) (items : Items) (binders : ℕ) (head : Told) (head_at : ℕ) (ns : List ℕ) (defs : Scope) (meant : Head) (ts : List Tree) (h : IsApplied trees force items binders head head_at ns defs meant ts) (place : ℕ) (watched : List Watched) (looks : List Look) (before : IsCheckedBy trees watched looks) where
  uses-looked : (t : Tree) → apply place binders meant ts ≡ Ok t → IsCheckedBy trees (watched ++ watched_at force items head head_at ns) (use_of_head binders meant ts ++ looks)
  uses-looked t e = go head h.is_head
    where
      no-use : (m : Head) → meant ≡ m → use_of_head binders m ts ≡ [] → IsCheckedBy trees (watched ++ []) (use_of_head binders meant ts ++ looks)
      no-use m f g =
          subst (λ (us : List Look). IsCheckedBy trees (watched ++ []) (us ++ looks)) (sym (ap (λ (x : Head). use_of_head binders x ts) f ∙ g))
          (subst (λ (ws : List Watched). IsCheckedBy trees ws looks) (sym (append-nil watched)) before)

      go : (q : Told) → IsHead defs (name_at items.text.items items.items.items head_at) q meant → IsCheckedBy trees (watched ++ watched_at force items q head_at ns) (use_of_head binders meant ts ++ looks)
      go told.Distinct k = no-use Distinct k refl
      go (told.Operator o) k = no-use (Operator o) k refl
      go told.Macro k =
          let d = definition-kept trees force defs k.0 k.1 k.2 h.scope k.4 in
          let fine = macro-ok place binders k.1 k.2 ts t (ap (λ (m : Head). apply place binders m ts) (sym k.5) ∙ e) in
          let arguments = are-arguments (sorts_of (constants_of defs)) h.M d.definition.parameters k.1 binders ts (own-sorts trees d.rest d.sorts d.body k.1 k.2 d.definition) h.ends h.good fine.0 in
          let args = args-watched trees ns ts d.body.depths.items h.are (d.definition.reading.count ∙ sym arguments.count) in
          let own = use-checked trees d.rest d.sorts d.body k.1 k.2 d.definition binders ts (watched_args ns d.body.depths.items) arguments fine.1 args in
          let all = used trees watched (watched_args ns d.body.depths.items) looks k.2 binders ts before own in
          let same : watched_at force items told.Macro head_at ns ≡ watched_args ns d.body.depths.items =
          ap (λ (o : Option (List ℕ)). watched_by told.Macro (option_and_then (λ n. stands_for n force) o) ns) k.3
          ∙ ap (λ (o : Option Kept). watched_by told.Macro o ns) d.what_is
          ∙ d.args_are ns in
          subst (λ (us : List Look). IsCheckedBy trees (watched ++ watched_at force items told.Macro head_at ns) (us ++ looks)) (sym (ap (λ (x : Head). use_of_head binders x ts) k.5))
          (subst (λ (ws : List Watched). IsCheckedBy trees (watched ++ ws) (Used k.2 binders ts ∷ looks)) (sym same) all)

  -- a tree with these uses in front, and a tree that is looked at itself
  abbrev with_uses : Result Tree Fault → List Look → Looking Tree
  with_uses a us ls = a >>= λ tree. Ok (tree, us ++ ls)

  abbrev with_own : Result Tree Fault → Looking Tree
  with_own a ls = a >>= λ tree. Ok (tree, Deep tree ∷ ls)

  pieces : (a : Result Tree Fault) (us : List Look) (t : Tree) → (a >>= λ tree. shallow place tree) ≡ Ok t →
      (a ≡ Ok t) × (depth_of t ≤ depth_limit) × ((with_uses a us ▷ λ tree. shallow_looks place tree) looks ≡ Ok (t, Deep t ∷ us ++ looks))
  pieces (Err f) us t e = absurd (cc)
  pieces (Ok u) us t e = go (nat_le (depth_of u) depth_limit) refl e
    where
      go : (b : Bool) → nat_le (depth_of u) depth_limit ≡ b → cond b (Ok u) (refuse place DepthLimit) ≡ Ok t →
          (◌≡◌ {A = Result Tree Fault} (Ok u) (Ok t)) × (depth_of t ≤ depth_limit) × (shallow_looks place u (us ++ looks) ≡ Ok (t, Deep t ∷ us ++ looks))
      go true f k =
          let low : depth_of u ≤ depth_limit = grind (arith, nat_tests) in
          let same : u ≡ t = cc in
          (k, subst (λ (v : Tree). depth_of v ≤ depth_limit) same low, ap (λ b. with_own (cond b (Ok u) (refuse place DepthLimit)) (us ++ looks)) f ∙ ap (λ (v : Tree). with_own (Ok v) (us ++ looks)) same)
      go false f k = absurd (cc)

  pub applied-seen : (trees' : List Tree) → Grows trees trees' → (n : ℕ) → Answers trees' (applied_at place binders meant ts) (Ok n) → (all : List Watched) → all ≡ (watched ++ watched_at force items head head_at ns) ++ record { id = n; depth = 0 } ∷ [] → Sees trees' all (applied_looks place binders meant ts looks) (Ok n)
  applied-seen trees' g n a all e =
      let p = pieces (apply place binders meant ts) (use_of_head binders meant ts) a.0 a.1 in
      let uses = looked-grows trees trees' g (watched ++ watched_at force items head head_at ns) (use_of_head binders meant ts ++ looks) (uses-looked a.0 p.0) in
      let own : Watched = record { id = n; depth = 0 } in
      let last = deep trees' (watched ++ watched_at force items head head_at ns) (use_of_head binders meant ts ++ looks) own a.0 uses a.2 refl p.1 in
      (a.0, Deep a.0 ∷ use_of_head binders meant ts ++ looks, p.2, a.2, subst (λ (ws : List Watched). IsCheckedBy trees' ws (Deep a.0 ∷ use_of_head binders meant ts ++ looks)) (sym e) last)

  pub applied-fails : (trees' : List Tree) (fault : ElabFault) → Answers trees' (applied_at place binders meant ts) (Err fault) → (all : List Watched) → Sees trees' all (applied_looks place binders meant ts looks) (Err fault)
  applied-fails trees' (At p kind) a all = err-seen (applied_looks place binders meant ts looks) (record { place = p; kind = kind }) (applied-makes place binders meant ts looks ∙ a)
  applied-fails trees' NoMemory a all = tt

  -- a fault goes out
  pub applied-out : (trees' : List Tree) (r : Result ℕ ElabFault) (fault left : ElabFault) (exit : Result ℕ ElabFault) → Answers trees' (applied_at place binders meant ts) r → r ≡ Err fault → exit ≡ Err left → left ≡ fault → (all : List Watched) → Sees trees' all (applied_looks place binders meant ts looks) exit
  applied-out trees' r fault left exit a e f g all =
      subst (λ (x : Result ℕ ElabFault). Sees trees' all (applied_looks place binders meant ts looks) x) (sym (f ∙ ap Err g))
      (applied-fails trees' fault (subst (λ (x : Result ℕ ElabFault). Answers trees' (applied_at place binders meant ts) x) e a) all)

-- a quantifier
pub closed-seen : (trees : List Tree) (watched : List Watched) (place : ℕ) (t : Tree) (looks : List Look) → IsCheckedBy trees watched looks → (n : ℕ) → Answers trees (shallow place t) (Ok n) → Sees trees (watched ++ record { id = n; depth = 0 } ∷ []) (shallow_looks place t looks) (Ok n)
closed-seen trees watched place t looks h n a = go (nat_le (depth_of t) depth_limit) refl a.1
  where
    go : (b : Bool) → nat_le (depth_of t) depth_limit ≡ b → cond b (Ok t) (refuse place DepthLimit) ≡ Ok a.0 → Sees trees (watched ++ record { id = n; depth = 0 } ∷ []) (shallow_looks place t looks) (Ok n)
    go true f k =
        let low : depth_of t ≤ depth_limit = grind (arith, nat_tests) in
        let same : a.0 ≡ t = cc in (
          t,
          Deep t ∷ looks,
          ap (λ b. cond b (Ok t) (refuse place DepthLimit) >>= λ tree. Ok (tree, Deep tree ∷ looks)) f,
          subst (λ (v : Tree). StandsAt trees n v) same a.2,
          deep trees watched looks (record { id = n; depth = 0 }) t h (subst (λ (v : Tree). StandsAt trees n v) same a.2) refl low,
        )
    go false f k = absurd (cc)

pub closed-fails : (trees : List Tree) (watched : List Watched) (place : ℕ) (t : Tree) (looks : List Look) (fault : ElabFault) → Answers trees (shallow place t) (Err fault) → Sees trees watched (shallow_looks place t looks) (Err fault)
closed-fails trees watched place t looks (At p kind) a = ap (λ (r : Result Tree Fault). r >>= λ tree. Ok (tree, Deep tree ∷ looks)) a
closed-fails trees watched place t looks NoMemory a = tt
