-- The own readings of definitions, as they are answered.
use Rattle.std.proofs.Common.{◌≡◌, ◌<◌, ◌+◌, ℕ, zero, suc, get_or, slice_get, false, cond, Option, Some, List, [], ◌∷◌, ◌++◌, length, take, refl, sym, ap, subst, ◌∙◌, Ok, Err, arith}
use Rattle.std.specs.Prelude.{Result, All, unwrap_or}
use Rattle.std.specs.List.{AllByRecursion}
use Rattle.std.proofs.lemmas.List.{take_more, map-append}
use Rattle.std.proofs.lemmas.List.Elements.{All-from_recursion}
use Rattle.qv_sexpr.specs.declared.items.Item.{Item}
use Rattle.qv_sexpr.specs.declared.items.Expr.{Expr as Items}
use Rattle.qv_sexpr.specs.Script.{atom, list, none, also}
use Rattle.qv_sexpr.specs.Script.{Tree as Expr, Trees as Exprs}
use Rattle.qv_sexpr.specs.Items.{Stands, StandAll}
use Rattle.qv_words.specs.declared.sort.Sort.{Sort}
use Rattle.qv_words.specs.declared.sort.Sort.TheVariants.{Bool as BoolSort}
use Rattle.qv_words.specs.Sort.{IsLawful}
use Rattle.qv_words.specs.Rank.{sort_eq}
use Rattle.qv_words.specs.Tree.{Tree, Variable, tree_sort}
use Rattle.qv_words.specs.Sorted.{no_levels}
use Rattle.qv_words.proofs.Equals.{sort_eq-refl}
use Rattle.qv_words.proofs.Leaves.{both}
use Rattle.qv_store.specs.Nodes.{tree_at}
use Rattle.qv_store.specs.Stores.{StandsAt, Grows}
use Rattle.qv_elab_defs.specs.declared.faults.ElabFault.{ElabFault}
use Rattle.qv_elab_defs.specs.declared.faults.ElabFault.TheVariants.{At, NoMemory}
use Rattle.qv_elab_defs.specs.declared.faults.ElabKind.TheVariants.{Sorts}
use Rattle.qv_elab_macros.specs.declared.body.Body.{Body}
use Rattle.qv_elab_macros.specs.declared.standing.Watched.{Watched}
use Rattle.qv_elab_defs.specs.Faults.{Fault, refuse, ◌>>=◌}
use Rattle.qv_elab_defs.specs.Tokens.{place_of}
use Rattle.qv_elab_defs.specs.Written.{HasTokens, HaveTokens}
use Rattle.qv_elab_defs.specs.Scopes.{Named, Scope, with_variables, below_binders, outermost}
use Rattle.qv_elab_scope.specs.Force.{Force}
use Rattle.qv_elab_defs.specs.Applying.{sort_of}
use Rattle.qv_elab_defs.specs.Elaborating.{elab, of_sort}
use Rattle.qv_elab_defs.specs.Defining.{elaborate_body}
use Rattle.qv_elab_defs.specs.Answers.{Answers}
use Rattle.qv_elab_defs.specs.Beginnings.{Begins, beginning}
use Rattle.qv_elab.proofs.Starting.{as-begun}
use Rattle.qv_elab.specs.declared.bodies.Parameter.{Parameter}
use Rattle.qv_elab.specs.ReadBodies.{parameters_of, Reads}
use Rattle.qv_elab_scope.specs.Kept.{IsScopeIn}
use Rattle.qv_elab_defs.specs.Looking.{Look, Seen, looks_of}
use Rattle.qv_elab_macros.specs.Checked.{IsCheckedBy, nothing, deep, used, AreArgChecks, Sees, IsRead}
use Rattle.qv_elab_defs.specs.OpenTrees.{with_levels, AreLawful}
use Rattle.qv_elab_scope.specs.Ids.{AreNamedAt, AreVariables}
use Rattle.qv_elab_frames.specs.Loop.{State, source, IsReading}
use Rattle.qv_elab.specs.Begun.{IsBegun}
use Rattle.qv_elab_defs.proofs.OpenElaborated.{good-below}
use Rattle.qv_elab_defs.proofs.ElaboratedTrees.{outermost-good, sorts_of}
use Rattle.qv_elab_defs.specs.Scopes.{constants_of}
use Rattle.qv_elab_defs.proofs.Uses.{lawful}
use Rattle.qv_elab_defs.proofs.Looked.{makes}
use Rattle.qv_elab_scope.proofs.Seeing.{answered-of}
use Rattle.qv_elab.proofs.Arriving.{whole-token}
use Rattle.qv_elab_scope.proofs.Growing.{named-grows}

-- an expression that stands somewhere is written as such
mutual
  pub written : (items : List Item) (text : List ℕ) (i : ℕ) (e : Expr) (to : ℕ) → Stands items text i e to → HasTokens e
  written items text i (atom l) to h = whole-token l.kind l.text h.0.token
  written items text i (list place inside close) to h = all-written items text (i + 1) inside h.0 h.2

  all-written : (items : List Item) (text : List ℕ) (i : ℕ) (es : Exprs) (to : ℕ) → StandAll items text i es to → HaveTokens es
  all-written items text i none to h = tt
  all-written items text i (also e es) to h = (written items text i e h.0 h.1, all-written items text h.0 es to h.2)

-- one variable more
with-snoc : (level : ℕ) (xs : Named Sort) (x : List ℕ × Sort) (bound : Named Tree) → with_variables level (xs ++ x ∷ []) bound ≡ (x.0, Variable (level + length xs) x.1) ∷ with_variables level xs bound
with-snoc level [] x bound = let n : level ≡ level + 0 = omega arith in ap (λ l. (x.0, Variable l x.1) ∷ bound) n
with-snoc level (y ∷ ys) x bound =
    let n : suc level + length ys ≡ level + suc (length ys) = omega arith in
    with-snoc (suc level) ys x ((y.0, Variable level y.1) ∷ bound)
    ∙ ap (λ l. (x.0, Variable l x.1) ∷ with_variables (suc level) ys ((y.0, Variable level y.1) ∷ bound)) n

pub named-more : (trees trees' : List Tree) (xs : Named Sort) (x : List ℕ × Sort) (names : Named ℕ) (id : ℕ) → Grows trees trees' → AreVariables trees 0 xs names → StandsAt trees' id (Variable (length xs) x.1) → AreVariables trees' 0 (xs ++ x ∷ []) ((x.0, id) ∷ names)
named-more trees trees' xs x names id g h at =
    let n : length xs ≡ 0 + length xs = omega arith in
    subst (λ (ys : Named Tree). AreNamedAt trees' ((x.0, id) ∷ names) ys) (sym (with-snoc 0 xs x []))
    (refl, subst (λ l. StandsAt trees' id (Variable l x.1)) n at, named-grows trees trees' g names (with_variables 0 xs []) h)

-- the parameters before an index
pub lawful-at : (ps : List Parameter) (i : ℕ) (p : Parameter) → AreLawful (parameters_of ps) → i < length ps → p ≡ get_or ps i p → IsLawful p.sort
lawful-at [] i p h lt e = absurd (omega arith)
lawful-at (q ∷ ps) zero p h lt e = subst (λ (r : Parameter). IsLawful r.sort) (sym e) h.0
lawful-at (q ∷ ps) (suc i) p h lt e = lawful-at ps i p h.1 (omega arith) e

taken-length : (ps : List Parameter) (i : ℕ) → i < length ps → length (parameters_of (take i ps)) ≡ i
taken-length [] i lt = absurd (omega arith)
taken-length (p ∷ ps) zero lt = refl
taken-length (p ∷ ps) (suc i) lt = ap suc (taken-length ps i (omega arith))

pub parameters-more : (trees trees' : List Tree) (ps : List Parameter) (i : ℕ) (p : Parameter) (names new : Named ℕ) (id : ℕ) (name : List ℕ) → i < length ps → p ≡ get_or ps i p → Grows trees trees' → AreVariables trees 0 (parameters_of (take i ps)) names → StandsAt trees' id (Variable i p.sort) → name ≡ p.name.items → new ≡ (name, id) ∷ names → AreVariables trees' 0 (parameters_of (take (i + 1) ps)) new
parameters-more trees trees' ps i p names new id name lt item g h at is news =
    let next : take (i + 1) ps ≡ take i ps ++ p ∷ [] = take_more ps i p lt ∙ ap (λ (q : Parameter). take i ps ++ q ∷ []) (sym item) in
    let all : parameters_of (take (i + 1) ps) ≡ parameters_of (take i ps) ++ (p.name.items, p.sort) ∷ [] = ap parameters_of next ∙ map-append (λ (q : Parameter). (q.name.items, q.sort)) (take i ps) (p ∷ []) in
    let here = subst (λ l. StandsAt trees' id (Variable l p.sort)) (sym (taken-length ps i lt)) at in
    let own = news ∙ ap (λ (n : List ℕ). (n, id) ∷ names) is in
    subst (λ (xs : Named Sort). AreVariables trees' 0 xs new) (sym all)
    (subst (λ (ns : Named ℕ). AreVariables trees' 0 (parameters_of (take i ps) ++ (p.name.items, p.sort) ∷ []) ns) (sym own)
    (named-more trees trees' (parameters_of (take i ps)) (p.name.items, p.sort) names id g h here))

-- how the loop begins
begun-below : (trees : List Tree) (items : Items) (force : Force) (defs : Scope) (xs : Named Sort) (s : State) (at to : ℕ) (e : Expr) → IsScopeIn trees force defs → IsBegun trees xs s → Stands items.items.items items.text.items at e to →
    (r : IsReading (source items to defs) trees s at (looks_of e (below_binders xs (outermost defs)) [])) × (r.expr ≡ e) × (r.c ≡ below_binders xs (outermost defs))
begun-below trees items force defs xs s at to e h b stands =
    subst (λ (st : State). (r : IsReading (source items to defs) trees st at (looks_of e (below_binders xs (outermost defs)) [])) × (r.expr ≡ e) × (r.c ≡ below_binders xs (outermost defs))) (sym b.state) (
      record {
        expr = e;
        behind = to;
        c = below_binders xs (outermost defs);
        M = with_levels 0 xs no_levels;
        frames = [];
        stands = stands;
        around = record {
          scope_is = refl;
          good = good-below (sorts_of (constants_of defs)) 0 no_levels (outermost defs) xs (outermost-good defs h.is_scope) (lawful xs b.are_parameters);
          bound_are = b.variables;
          binders_are = omega arith;
          holds = (refl, refl, refl, refl);
          looks = [];
          looked = nothing trees;
        };
        gives = refl;
      },
      refl,
      refl,
    )

pub begins-below : (trees : List Tree) (items : Items) (force : Force) (defs : Scope) (xs : Named Sort) (s : State) (at to : ℕ) (e : Expr) → IsScopeIn trees force defs → IsBegun trees xs s → Stands items.items.items items.text.items at e to → IsReading (source items to defs) trees s at (looks_of e (below_binders xs (outermost defs)) [])
begins-below trees items force defs xs s at to e h b stands = (begun-below trees items force defs xs s at to e h b stands).0

-- what is looked at first of a body
pub body-begins : (trees : List Tree) (items : Items) (force : Force) (defs : Scope) (xs : Named Sort) (s : State) (at to : ℕ) (e : Expr) (r : Result ℕ ElabFault) → IsScopeIn trees force defs → IsBegun trees xs s → Stands items.items.items items.text.items at e to →
    ((h : IsReading (source items to defs) trees s at (looks_of e (below_binders xs (outermost defs)) [])) → Begins (beginning h.expr h.c) r) → Begins (beginning e (below_binders xs (outermost defs))) r
body-begins trees items force defs xs s at to e r h b stands f =
    let k = begun-below trees items force defs xs s at to e h b stands in
    as-begun e k.0.expr (below_binders xs (outermost defs)) k.0.c r k.1 k.2 (f k.0)

-- each that is watched is one of the store
args-below : (trees : List Tree) (ts : List Tree) (ds : List ℕ) (ws : List Watched) → AreArgChecks trees ts ds ws → AllByRecursion (λ w. w.id < length trees) ws
args-below trees [] [] [] h = tt
args-below trees (t ∷ ts) (d ∷ ds) (w ∷ ws) h = (h.0.below, args-below trees ts ds ws h.2)
args-below trees [] [] (w ∷ ws) h = absurd h
args-below trees [] (d ∷ ds) ws h = absurd h
args-below trees (t ∷ ts) [] ws h = absurd h
args-below trees (t ∷ ts) (d ∷ ds) [] h = absurd h

looked-below : (trees : List Tree) (ws : List Watched) (looks : List Look) → IsCheckedBy trees ws looks → AllByRecursion (λ w. w.id < length trees) ws
looked-below _ _ _ (nothing trees) = tt
looked-below _ _ _ (deep trees ws looks w t h at zero-depth low) = both (λ w. w.id < length trees) ws (w ∷ []) (looked-below trees ws looks h) (at.below, tt)
looked-below _ _ _ (used trees ws more looks body b ts h x) = both (λ w. w.id < length trees) ws more (looked-below trees ws looks h) (args-below trees ts x.depths more x.arg_checks)

pub watched-below : (trees : List Tree) (ws : List Watched) (given : Result Seen Fault) (id : ℕ) → Sees trees ws given (Ok id) → All (λ w. w.id < length trees) ws
watched-below trees ws given id a = All-from_recursion (λ w. w.id < length trees) ws (looked-below trees ws a.1 a.4)

-- the place of an expression
pub place-is : (items : List Item) (text : List ℕ) (i : ℕ) (e : Expr) (to : ℕ) (x : Item) → Stands items text i e to → slice_get items i ≡ Some x → place_of e ≡ x.place
place-is items text i (atom l) to x h there = ap (λ (y : Item). y.place) (some-same _ x (sym h.0.item ∙ there))
  where
    some-same : (a b : Item) → ◌≡◌ {A = Option Item} (Some a) (Some b) → a ≡ b
    some-same a b e = cc
place-is items text i (list place inside close) to x h there = ap (λ (y : Item). y.place) (some-same _ x (sym h.1.1 ∙ there))
  where
    some-same : (a b : Item) → ◌≡◌ {A = Option Item} (Some a) (Some b) → a ≡ b
    some-same a b e = cc

module _ (trees : List Tree) (defs : Scope) (xs : Named Sort) (s : Sort) (e : Expr) (ws : List Watched) where
  alone : (r : Result ℕ ElabFault) → Sees trees ws (looks_of e (below_binders xs (outermost defs)) []) r → Answers trees (elab e (below_binders xs (outermost defs))) r
  alone r a = answered-of trees ws (looks_of e (below_binders xs (outermost defs))) (elab e (below_binders xs (outermost defs))) [] (makes e (below_binders xs (outermost defs))) r a

  -- it is of another sort
  pub other-sort : (id : ℕ) (u : Sort) → Sees trees ws (looks_of e (below_binders xs (outermost defs)) []) (Ok id) → tree_sort (tree_at trees id) ≡ Some u → sort_eq s u ≡ false → elaborate_body defs xs s e ≡ refuse (place_of e) Sorts
  other-sort id u a sort ne =
      let own = alone (Ok id) a in
      let same : sort_of own.0 ≡ u = ap (λ (o : Option Sort). unwrap_or o BoolSort) (ap tree_sort (sym own.2.tree) ∙ sort) in
      ap (λ (r : Result Tree Fault). r >>= of_sort s (place_of e)) own.1
      ∙ ap (λ (v : Sort). cond (sort_eq s v) (Ok own.0) (refuse (place_of e) Sorts)) same
      ∙ ap (λ b. cond b (Ok own.0) (refuse (place_of e) Sorts)) ne

  -- it is read
  pub is-read : (id : ℕ) (u : Sort) → Sees trees ws (looks_of e (below_binders xs (outermost defs)) []) (Ok id) → tree_sort (tree_at trees id) ≡ Some u → u ≡ s → IsRead trees defs xs s e id ws
  is-read id u a sort same =
      let own = alone (Ok id) a in
      let is : sort_of own.0 ≡ s = ap (λ (o : Option Sort). unwrap_or o BoolSort) (ap tree_sort (sym own.2.tree) ∙ sort) ∙ same in
      record {
        tree = own.0;
        reading = ap (λ (r : Result Tree Fault). r >>= of_sort s (place_of e)) own.1
            ∙ ap (λ (v : Sort). cond (sort_eq s v) (Ok own.0) (refuse (place_of e) Sorts)) is
            ∙ ap (λ b. cond b (Ok own.0) (refuse (place_of e) Sorts)) (sort_eq-refl s);
        stands = own.2;
        made = a.0;
        looks = a.1;
        looked = a.2;
        checked = a.4;
      }

  -- it has a fault
  pub not-read : (fault : ElabFault) → Sees trees ws (looks_of e (below_binders xs (outermost defs)) []) (Err fault) → Reads trees defs xs s e (Err fault)
  not-read (At p kind) a = ap (λ (r : Result Tree Fault). r >>= of_sort s (place_of e)) (alone (Err (At p kind)) a)
  not-read NoMemory a = tt

  pub read-out : (r : Result ℕ ElabFault) (fault left : ElabFault) (exit : Result Body ElabFault) → Sees trees ws (looks_of e (below_binders xs (outermost defs)) []) r → r ≡ Err fault → exit ≡ Err left → left ≡ fault → Reads trees defs xs s e exit
  read-out r fault left exit a f g h =
      subst (λ (x : Result Body ElabFault). Reads trees defs xs s e x) (sym (g ∙ ap Err h))
      (not-read fault (subst (λ (x : Result ℕ ElabFault). Sees trees ws (looks_of e (below_binders xs (outermost defs)) []) x) f a))
