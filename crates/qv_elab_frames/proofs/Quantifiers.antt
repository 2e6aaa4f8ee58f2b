-- Quantifiers are entered and left.
use Rattle.std.proofs.Common.{◌≡◌, ◌≢◌, ◌≤◌, ◌<◌, ◌+◌, ◌-◌, ℕ, Bool, false, cond, Option, Some, None, List, [], ◌∷◌, ◌++◌, length, take, drop, slice_get, get_or, refl, sym, ap, subst, ◌∙◌, arith, Ok, Err, length-append}
use Rattle.std.specs.Prelude.{Result, IfOk, unwrap_or}
use Rattle.std.proofs.lemmas.Option.{slice_get_within, slice_get-get_or}
use Rattle.qv_sexpr.specs.declared.items.Item.{Item}
use Rattle.qv_sexpr.specs.Script.{atom, list, none, also}
use Rattle.qv_sexpr.specs.Script.{Tree as Expr, Trees as Exprs}
use Rattle.qv_sexpr.specs.Items.{Stands}
use Rattle.qv_sexpr.proofs.Standing.{stands_lt, stand_all_le}
use Rattle.qv_words.specs.declared.sort.Sort.{Sort}
use Rattle.qv_words.specs.declared.sort.Sort.TheVariants.{Bits}
use Rattle.qv_words.specs.declared.sort.Sort.TheVariants.{Bool as BoolSort}
use Rattle.qv_words.specs.Rank.{sort_eq}
use Rattle.qv_words.specs.Tree.{Tree, tree_sort}
use Rattle.qv_store.specs.Nodes.{tree_at}
use Rattle.qv_store.specs.Stores.{Grows}
use Rattle.qv_elab_frames.specs.declared.elaborator.Open.TheVariants as opened
use Rattle.qv_elab_defs.specs.declared.faults.ElabFault.{ElabFault}
use Rattle.qv_elab_defs.specs.declared.faults.ElabFault.TheVariants.{At, NoMemory}
use Rattle.qv_elab_frames.specs.declared.elaborator.Next.{Next}
use Rattle.qv_elab_defs.specs.declared.faults.ElabKind.TheVariants.{Form, Sorts}
use Rattle.qv_elab_defs.specs.Faults.{Fault, refuse, formed}
use Rattle.qv_elab_defs.specs.Tokens.{place_of}
use Rattle.qv_elab_defs.specs.Shapes.{Quantifier, Quantified, Pair, pairs_of, some_pairs}
use Rattle.qv_elab_defs.specs.Scopes.{Named, Scope, Context, with_variables, below_binders}
use Rattle.qv_elab_defs.specs.Applying.{sort_of, shallow}
use Rattle.qv_elab_items.specs.Inside.{binding_of, IsBoundBy}
use Rattle.qv_elab_macros.specs.declared.standing.Watched.{Watched}
use Rattle.qv_elab_defs.specs.Elaborating.{of_sort, read_variables, closed}
use Rattle.qv_elab_defs.specs.Looking.{Look, Seen, Deep, still, ◌▷◌, shallow_looks, looks_of, looks_of_list}
use Rattle.qv_elab_macros.specs.Checked.{Sees}
use Rattle.qv_elab_defs.specs.Answers.{Answers}
use Rattle.qv_elab_frames.specs.Frames.{Frame, Closing, resume}
use Rattle.qv_elab_defs.specs.OpenTrees.{IsOpen, IsGood, with_levels, AreLawful}
use Rattle.qv_elab_scope.specs.Ids.{quantifier_of, AreNamedAt, AreVariables}
use Rattle.qv_elab_frames.specs.Loop.{Source, State, with_open, sorts_of, IsQuantifier, IsInList, IsReading, IsMade, IsNext}
use Rattle.qv_elab_scope.specs.Quantifying.{AreBound, Binds, IsClosing}
use Rattle.qv_elab_defs.proofs.OpenApplied.{ok-shallow}
use Rattle.qv_elab_defs.proofs.OpenElaborated.{ok-variables, good-below, open-closed}
use Rattle.qv_elab_items.proofs.Slices.{item_of}
use Rattle.qv_elab_scope.proofs.Growing.{named-grows, looked-grows}
use Rattle.qv_elab_frames.proofs.Holding.{holds-grows}
use Rattle.qv_elab_defs.proofs.Looked.{ma-added}
use Rattle.qv_elab_scope.proofs.Seeing.{ok-seen, closed-seen, closed-fails}
use Rattle.qv_elab_frames.proofs.Resuming.{resume-fault, into-quantifier}
use Rattle.qv_elab_scope.proofs.IdTrees.{named-length}
use Rattle.qv_elab_frames.proofs.Departing.{Outcome, named-left, ended}
use Rattle.qv_elab_scope.proofs.ClosedOver.{variables-length, variables-onto}
use Rattle.qv_elab_frames.proofs.Letting.{one-more}

-- a quantifier that has not its shape
pub quantifier-refused : (q : Quantifier) (place : ℕ) (first : Expr) (rest : Exprs) (c : Context) (looks : List Look) → binding_of rest ≡ None → looks_of_list (Quantified q) place first rest c looks ≡ refuse place Form
quantifier-refused q place first (also (list p pairs r) (also body none)) c looks e =
    ap (λ (o : Option (List Pair)). (still (formed place o) ▷ λ variables. still (read_variables c.scope variables) ▷ λ xs. looks_of body (below_binders xs c) ▷ λ t. still (of_sort BoolSort (place_of body) t) ▷ λ formula. shallow_looks place (closed q c.binders xs formula)) looks) e
quantifier-refused q place first none c looks e = refl
quantifier-refused q place first (also (atom l) es) c looks e = refl
quantifier-refused q place first (also (list p pairs r) none) c looks e = refl
quantifier-refused q place first (also (list p pairs r) (also body (also f fs))) c looks e = refl

some-all : (o : Option (List Pair)) (some : List Pair) → some_pairs o ≡ Some some → o ≡ Some some
some-all None some e = absurd (cc)
some-all (Some []) some e = absurd (cc)
some-all (Some (p ∷ ps)) some e = e

named-front : (trees : List Tree) (xs : Named ℕ) (own ys : Named Tree) → AreNamedAt trees xs (own ++ ys) → AreNamedAt trees (take (length own) xs) own
named-front trees xs [] ys h = tt
named-front trees [] (o ∷ own) ys h = absurd h
named-front trees (x ∷ xs) (o ∷ own) ys h = (h.0, h.1, named-front trees xs own ys h.2)

-- into a quantifier
module _ (w : Source) (trees : List Tree) (s : State) (at close place : ℕ) (u : Bool) (given : Result Seen Fault) (h : IsInList w trees s at close place (Quantified (quantifier_of u)) given) (end : ℕ) (b : IsBoundBy w.items.items.items w.items.text.items h.second h.rest close end) where
  pub pairs-are : pairs_of b.pairs ≡ Some b.some
  pairs-are = some-all (pairs_of b.pairs) b.some b.pairs_are

  pub quantifier-within : (h.second + 1 ≤ end) × (end < length w.items.items.items) × (end + 1 < close)
  quantifier-within = (
    stand_all_le w.items.items.items w.items.text.items (h.second + 1) b.pairs end b.stand,
    slice_get_within w.items.items.items end _ b.closed.1,
    stands_lt w.items.items.items w.items.text.items (end + 1) b.body close b.body_stands,
  )

  -- a sort of its variables has a fault
  pub variables-fail : (fault : Fault) → read_variables w.defs b.some ≡ Err fault → given ≡ Err fault
  variables-fail fault k =
      let e : read_variables h.c.scope b.some ≡ Err fault = ap (λ (d : Scope). read_variables d b.some) h.around.scope_is ∙ k in
      h.gives
      ∙ ap (λ (es : Exprs). resume h.frames (looks_of_list (Quantified (quantifier_of u)) place h.first es h.c h.around.looks)) b.rest_is
      ∙ ap (λ (o : Option (List Pair)). resume h.frames ((still (formed place o) ▷ λ variables. still (read_variables h.c.scope variables) ▷ λ xs. looks_of b.body (below_binders xs h.c) ▷ λ t. still (of_sort BoolSort (place_of b.body) t) ▷ λ formula. shallow_looks place (closed (quantifier_of u) h.c.binders xs formula)) h.around.looks)) b.pairs_are
      ∙ ap (λ (r : Result (Named Sort) Fault). resume h.frames ((still r ▷ λ xs. looks_of b.body (below_binders xs h.c) ▷ λ t. still (of_sort BoolSort (place_of b.body) t) ▷ λ formula. shallow_looks place (closed (quantifier_of u) h.c.binders xs formula)) h.around.looks)) e
      ∙ resume-fault h.frames fault

  pub variables-out : (trees' : List Tree) (s' : State) (level : ℕ) (old new : Named ℕ) (fault left : ElabFault) (exit : Result Next ElabFault) → Binds trees' w.defs level b.some old new (Err fault) → exit ≡ Err left → left ≡ fault → IsNext w trees' s' given exit
  variables-out trees' s' level old new fault left exit k f g = subst (λ (x : Result Next ElabFault). IsNext w trees' s' given x) (sym (f ∙ ap Err g)) (go fault k)
    where
      go : (fault : ElabFault) → Binds trees' w.defs level b.some old new (Err fault) → IsNext w trees' s' given (Err fault)
      go (At p kind) k = variables-fail (record { place = p; kind = kind }) k
      go NoMemory k = tt

  -- the place of its body
  pub body-place : (x : Item) → x ≡ get_or w.items.items.items (end + 1) x → place_of b.body ≡ x.place
  body-place x e = go b.body b.body_stands
    where
      same : (y : Item) → slice_get w.items.items.items (end + 1) ≡ Some y → y ≡ x
      same y k =
          let lt = slice_get_within w.items.items.items (end + 1) y k in
          let both : Some y ≡ Some x = sym k ∙ slice_get-get_or w.items.items.items (end + 1) x lt ∙ ap Some (sym e) in
          cc

      go : (t : Expr) → Stands w.items.items.items w.items.text.items (end + 1) t close → place_of t ≡ x.place
      go (atom l) k = ap (λ (y : Item). y.place) (same (item_of l k.0.start k.0.end) k.0.item)
      go (list p inside q) k = ap (λ (y : Item). y.place) (same _ k.1.1)

  -- its body
  module _ (trees' : List Tree) (grows : Grows trees trees') (bound : Named ℕ) (below : ℕ) (v : AreBound trees' w.defs s.binders b.some s.bound bound below) where
    read : read_variables h.c.scope b.some ≡ Ok v.xs
    read = ap (λ (d : Scope). read_variables d b.some) h.around.scope_is ∙ v.read

    lawful : AreLawful v.xs
    lawful = subst (λ (r : Result (Named Sort) Fault). IfOk r AreLawful) read (ok-variables (sorts_of w) 0 h.c.scope h.around.good.scope b.some)

    variables : AreVariables trees' h.c.binders v.xs v.names
    variables = subst (λ n. AreVariables trees' n v.xs v.names) h.around.binders_are v.variables

    all-named : AreNamedAt trees' bound (with_variables h.c.binders v.xs h.c.bound)
    all-named =
        subst (λ (ns : Named ℕ). AreNamedAt trees' ns (with_variables h.c.binders v.xs h.c.bound)) (sym v.names_are)
        (subst (λ (ys : Named Tree). AreNamedAt trees' (v.names ++ s.bound) ys) (sym (variables-onto h.c.binders v.xs h.c.bound))
        (one-more trees' v.names (with_variables h.c.binders v.xs []) s.bound h.c.bound variables (named-grows trees trees' grows s.bound h.c.bound h.around.bound_are)))

    pub into-body : (inner count : ℕ) → place_of b.body ≡ inner → count ≡ length s.bound → IsReading w trees' (record { stack = opened.Quantifier place inner u count ∷ s.stack; done = s.done; bound = bound; pending = s.pending; binders = below; watched = s.watched }) (end + 1) given
    into-body inner count e f = record {
      expr = b.body;
      behind = close;
      c = below_binders v.xs h.c;
      M = with_levels h.c.binders v.xs h.M;
      frames = Closing (quantifier_of u) place inner v.xs h.c ∷ h.frames;
      stands = b.body_stands;
      around = record {
        scope_is = h.around.scope_is;
        good = good-below (sorts_of w) 0 h.M h.c v.xs h.around.good lawful;
        bound_are = all-named;
        binders_are = v.below_is ∙ ap (λ n. n + length v.xs) h.around.binders_are;
        holds = (
          record {
            xs = v.xs;
            around = h.c;
            levels = h.M;
            outer = h.frames;
            frames_are = refl;
            close_place = h.close_place;
            closed = h.closed;
            c_is = refl;
            levels_are = refl;
            lawful = lawful;
            bound_is = f ∙ named-length trees s.bound h.c.bound h.around.bound_are;
            good = h.around.good;
          },
          holds-grows trees trees' grows w s.stack h.frames (close + 1) h.c h.M s.done s.pending h.around.holds,
        );
        looks = h.around.looks;
        looked = looked-grows trees trees' grows s.watched h.around.looks h.around.looked;
      };
      gives = h.gives
          ∙ ap (λ (es : Exprs). resume h.frames (looks_of_list (Quantified (quantifier_of u)) place h.first es h.c h.around.looks)) b.rest_is
          ∙ into-quantifier h.frames (quantifier_of u) place b.place b.close_place h.first b.body b.pairs h.c h.around.looks b.some v.xs b.pairs_are read
          ∙ ap (λ n. resume (Closing (quantifier_of u) place n v.xs h.c ∷ h.frames) (looks_of b.body (below_binders v.xs h.c) h.around.looks)) e;
    }

-- behind a quantifier
module _ (w : Source) (trees : List Tree) (s : State) (place inner : ℕ) (u : Bool) (bound id at : ℕ) (given : Result Seen Fault) (h : IsMade w trees (with_open (opened.Quantifier place inner u bound) s) id at given) where
  abbrev pub o : IsQuantifier w h.M place inner u bound h.frames at h.c
  o = h.around.holds.0

  abbrev pub variables-of : Named Sort
  variables-of = o.xs

  whole : given ≡ resume o.outer ((still (of_sort BoolSort inner h.tree) ▷ λ formula. shallow_looks place (closed (quantifier_of u) o.around.binders o.xs formula)) h.around.looks)
  whole = h.gives ∙ ap (λ (fs : List Frame). resume fs (Ok (h.tree, h.around.looks))) o.frames_are

  pub close-within : at < length w.items.items.items
  close-within = slice_get_within w.items.items.items at _ o.closed.1

  of-tree : (t : Sort) → tree_sort (tree_at trees id) ≡ Some t → sort_of h.tree ≡ t
  of-tree t e = ap (λ (x : Option Sort). unwrap_or x BoolSort) (ap (λ (x : Tree). tree_sort x) (sym h.stands.tree) ∙ e)

  -- its body is no formula
  pub no-formula : (t : Sort) → tree_sort (tree_at trees id) ≡ Some t → t ≢ BoolSort → given ≡ refuse inner Sorts
  no-formula t e ne =
      whole
      ∙ ap (λ x. resume o.outer ((still (cond (sort_eq BoolSort x) (Ok h.tree) (refuse inner Sorts)) ▷ λ formula. shallow_looks place (closed (quantifier_of u) o.around.binders o.xs formula)) h.around.looks)) (of-tree t e)
      ∙ ap (λ x. resume o.outer ((still (cond x (Ok h.tree) (refuse inner Sorts)) ▷ λ formula. shallow_looks place (closed (quantifier_of u) o.around.binders o.xs formula)) h.around.looks)) (other t ne)
      ∙ resume-fault o.outer (record { place = inner; kind = Sorts })
    where
      other : (t : Sort) → t ≢ BoolSort → sort_eq BoolSort t ≡ false
      other BoolSort ne = absurd (ne refl)
      other (Bits n) ne = refl

  names : AreNamedAt trees s.bound (with_variables o.around.binders o.xs [] ++ o.around.bound)
  names =
      subst (λ (ys : Named Tree). AreNamedAt trees s.bound ys) (variables-onto o.around.binders o.xs o.around.bound)
      (subst (λ (c : Context). AreNamedAt trees s.bound c.bound) o.c_is h.around.bound_are)

  -- how many they are
  pub counted : (length s.bound ≡ length o.xs + bound) × (s.binders ≡ o.around.binders + length o.xs)
  counted =
      let count = named-length trees s.bound (with_variables o.around.binders o.xs [] ++ o.around.bound) names in
      let own = variables-length o.around.binders o.xs [] in
      let all = length-append (with_variables o.around.binders o.xs []) o.around.bound in
      (omega (arith, count, own, all, o.bound_is), h.around.binders_are ∙ ap (λ (c : Context). c.binders) o.c_is)

  module _ (level : ℕ) (is : level ≡ s.binders - (length s.bound - bound)) where
    level-is : o.around.binders ≡ level
    level-is = omega (arith, is, counted.0, counted.1)

    pub closing : tree_sort (tree_at trees id) ≡ Some BoolSort → IsClosing trees level id (take (length s.bound - bound) s.bound) o.xs
    closing e = record {
      K = sorts_of w;
      M = o.levels;
      variables =
          subst (λ n. AreVariables trees n o.xs (take (length s.bound - bound) s.bound)) level-is
          (subst (λ n. AreVariables trees o.around.binders o.xs (take n s.bound)) count
          (named-front trees s.bound (with_variables o.around.binders o.xs []) o.around.bound names));
      lawful = o.lawful;
      formula =
          subst (λ (t : Tree). IsOpen (sorts_of w) 0 (with_levels level o.xs o.levels) t) (sym h.stands.tree)
          (subst (λ n. IsOpen (sorts_of w) 0 (with_levels n o.xs o.levels) h.tree) level-is
          (subst (λ (F : ℕ → Option Sort). IsOpen (sorts_of w) 0 F h.tree) o.levels_are h.good_tree.0));
      is_bool = e;
    }
      where
        count : length (with_variables o.around.binders o.xs []) ≡ length s.bound - bound
        count = let own = variables-length o.around.binders o.xs [] in omega (arith, own, counted.0)

    -- it is closed over
    module _ (e : tree_sort (tree_at trees id) ≡ Some BoolSort) where
      abbrev made : Tree
      made = closed (quantifier_of u) o.around.binders o.xs h.tree

      gives-part : given ≡ resume o.outer (shallow_looks place made h.around.looks)
      gives-part =
          whole
          ∙ ap (λ x. resume o.outer ((still (cond (sort_eq BoolSort x) (Ok h.tree) (refuse inner Sorts)) ▷ λ formula. shallow_looks place (closed (quantifier_of u) o.around.binders o.xs formula)) h.around.looks)) (of-tree BoolSort e)

      good-part : IfOk (shallow_looks place made h.around.looks) (λ x. IsGood (sorts_of w) 0 o.levels x.0)
      good-part =
          let formula = subst (λ (F : ℕ → Option Sort). IsOpen (sorts_of w) 0 F h.tree) o.levels_are h.good_tree.0 in
          let bool : tree_sort h.tree ≡ Some BoolSort = ap (λ (x : Tree). tree_sort x) (sym h.stands.tree) ∙ e in
          ok-seen (shallow_looks place made) (shallow place made) (IsGood (sorts_of w) 0 o.levels) h.around.looks (ma-added (shallow place made) (λ tree ls. Deep tree ∷ ls))
          (ok-shallow (sorts_of w) 0 o.levels place made
          (open-closed (sorts_of w) 0 (quantifier_of u) o.xs o.levels o.around.binders h.tree o.lawful (omega arith) formula bool).0)

      -- what is answered is watched behind the others
      sees : (trees' : List Tree) → Grows trees trees' → (all : List Watched) (r : Result ℕ ElabFault) → ((n : ℕ) → r ≡ Ok n → all ≡ s.watched ++ record { id = n; depth = 0 } ∷ []) → Answers trees' (shallow place made) r → Sees trees' all (shallow_looks place made h.around.looks) r
      sees trees' g all (Ok n) added a =
          subst (λ (ws : List Watched). Sees trees' ws (shallow_looks place made h.around.looks) (Ok n)) (sym (added n refl))
          (closed-seen trees' s.watched place made h.around.looks (looked-grows trees trees' g s.watched h.around.looks h.around.looked) n a)
      sees trees' g all (Err fault) added a = closed-fails trees' all place made h.around.looks fault a

      pub closed-over : (trees' : List Tree) → Grows trees trees' → (left : Named ℕ) → left ≡ drop (length s.bound - bound) s.bound → (all : List Watched) (r : Result ℕ ElabFault) → ((n : ℕ) → r ≡ Ok n → all ≡ s.watched ++ record { id = n; depth = 0 } ∷ []) → Answers trees' (shallow place (closed (quantifier_of u) level o.xs (tree_at trees id))) r → Outcome w trees' (record s { bound = left; binders = level; watched = all }) (at + 1) given r
      closed-over trees' g left f all r added a =
          ended w trees trees' (record s { bound = left; binders = level }) (at + 1) o.around o.levels o.outer given (shallow_looks place made h.around.looks)
          (record {
            scope_is = ap (λ (c : Context). c.scope) (sym o.c_is) ∙ h.around.scope_is;
            good = o.good;
            bound_are = subst (λ (xs : Named ℕ). AreNamedAt trees xs o.around.bound) (sym f)
                (named-left trees s.bound (with_variables o.around.binders o.xs [] ++ o.around.bound) (with_variables o.around.binders o.xs []) o.around.bound bound names refl o.bound_is);
            binders_are = sym level-is;
            holds = h.around.holds.1;
            looks = h.around.looks;
            looked = h.around.looked;
          })
          good-part gives-part g all r
          (sees trees' g all r added
          (subst (λ n. Answers trees' (shallow place (closed (quantifier_of u) n o.xs h.tree)) r) (sym level-is)
          (subst (λ (t : Tree). Answers trees' (shallow place (closed (quantifier_of u) level o.xs t)) r) h.stands.tree a)))

      pub closed-out : (trees' : List Tree) → Grows trees trees' → (left : Named ℕ) → left ≡ drop (length s.bound - bound) s.bound → (r : Result ℕ ElabFault) (fault : ElabFault) → r ≡ Err fault → Answers trees' (shallow place (closed (quantifier_of u) level o.xs (tree_at trees id))) r → Outcome w trees' (record s { bound = left; binders = level; watched = s.watched }) (at + 1) given r
      closed-out trees' g left f r fault k a = closed-over trees' g left f s.watched r (λ n l. absurd (let both = sym l ∙ k in cc)) a

      -- as what comes next
      pub closed-next : (trees' : List Tree) → Grows trees trees' → (left : Named ℕ) → left ≡ drop (length s.bound - bound) s.bound → (all : List Watched) (r : Result ℕ ElabFault) (n : ℕ) → r ≡ Ok n → all ≡ s.watched ++ record { id = n; depth = 0 } ∷ [] → Answers trees' (shallow place (closed (quantifier_of u) level o.xs (tree_at trees id))) r → IsMade w trees' (record s { bound = left; binders = level; watched = all }) n (at + 1) given
      closed-next trees' g left f all r n k added a =
          subst (λ (q : Result ℕ ElabFault). Outcome w trees' (record s { bound = left; binders = level; watched = all }) (at + 1) given q) k
          (closed-over trees' g left f all r (λ m l. added ∙ ap (λ i. s.watched ++ record { id = i; depth = 0 } ∷ []) (ok-same n m (sym k ∙ l))) a)
        where
          ok-same : (n m : ℕ) → ◌≡◌ {A = Result ℕ ElabFault} (Ok n) (Ok m) → n ≡ m
          ok-same n m h = cc
