-- A definition's body at a use: the body's own tree with the arguments put in, or a fault of depth.
use Rattle.std.proofs.Common.{◌≡◌, ◌≤◌, ◌<◌, ℕ, suc, ◌==◌, ◌&&◌, ◌⊎◌, inl, inr, not, Bool, true, false, cond, Option, Some, None, List, [], ◌∷◌, ◌++◌, map, length, refl, sym, ap, subst, ◌∙◌, Ok, Err, arith}
use Rattle.std.specs.Prelude.{Result, IfOk, IfSome, is_some, option_map, nat_le, nat_lt, codes, ◌*◌, ◌^◌, take, drop}
use Rattle.std.specs.List.{AllByRecursion}
use Rattle.std.specs.Str.{bytes_eq}
use Rattle.std.proofs.lemmas.Bool.Decides.{nat_tests}
use Rattle.qv_text.specs.declared.kinds.TokenKind.{TokenKind}
use Rattle.qv_text.specs.declared.kinds.TokenKind.TheVariants.{Symbol, Hex, Binary}
use Rattle.qv_sexpr.specs.Script.{atom, list, none, also}
use Rattle.qv_sexpr.specs.Script.{Tree as Expr, Trees as Exprs}
use Rattle.qv_words.specs.declared.sort.Sort.{Sort}
use Rattle.qv_words.specs.declared.sort.Sort.TheVariants.{Bits}
use Rattle.qv_words.specs.declared.sort.Sort.TheVariants.{Bool as BoolSort}
use Rattle.qv_words.specs.Rank.{sort_eq}
use Rattle.qv_words.specs.Tree.{Tree, Variable, Literal}
use Rattle.qv_words.specs.Sorted.{with_level}
use Rattle.qv_words.proofs.Leaves.{both}
use Rattle.qv_elab_defs.specs.declared.faults.ElabKind.{ElabKind}
use Rattle.qv_elab_defs.specs.declared.faults.ElabKind.TheVariants.{Form, Sorts, Width, RepeatedName, Arity, UnknownName, DepthLimit}
use Rattle.qv_elab_defs.specs.declared.faults.ElabKind.TheVariants.{Literal as TooLarge}
use Rattle.qv_elab_defs.specs.Faults.{Fault, refuse, ◌>>=◌, at, moved, formed}
use Rattle.qv_elab_defs.specs.Tokens.{place_of, unquoted, items, number_of, wanted}
use Rattle.qv_elab_defs.specs.Written.{HasTokens, HaveTokens}
use Rattle.qv_elab_defs.specs.Shapes.{Quantifier, Universal, Existential, Construct, Let, Quantified, Annotated, Indexed, Application, construct_of, IndexedName, indexed_name, pairs_of, some_pairs, are_attributes, Naming, Unnamed, Misnamed, naming}
use Rattle.qv_elab_defs.specs.Shapes.{Named as NamedBy}
use Rattle.qv_elab_defs.specs.Scopes.{Entry, Constant, Definition, Synonym, Named, found, Context, with_variables, below_binders}
use Rattle.qv_elab_defs.specs.Heads.{Head, Macro, Distinct, Operator, head_of}
use Rattle.qv_elab_defs.specs.Applying.{sort_of, depth_of, depth_limit, shallow, are_sorts_eq, distinct, application, apply}
use Rattle.qv_elab_defs.specs.Leaves.{truth, digits_literal, entry_tree, named_tree, token_tree, is_decimal, value_literal, indexed_literal}
use Rattle.qv_elab_defs.specs.Elaborating.{of_sort, read_variables, quantified, closed, new_name, unless_misnamed, elab, elab_list, elab_all, elab_pairs}
use Rattle.qv_elab_defs.specs.Putting.{moved_level}
use Rattle.qv_elab_defs.proofs.OpenApplied.{IsGood, ok-behind}
use Rattle.qv_elab_defs.proofs.OpenElaborated.{Ends, IfMacro, IfDefinition, IsGoodContext, with_levels, AreLawful, good-below, macro-head, ok-elab, ok-all, ok-pairs, ok-variables, with-bound, found-all}
use Rattle.qv_elab_defs.proofs.Alike.{Use, put, Begin, begin-level, Same, same-sort, Alike, same-sort_of, same-sorts_of, al-distinct, al-application}

-- names with the arguments put into their trees
abbrev pub put_named : (sorts : List Sort) → Use sorts → Named Tree → Named Tree
put_named sorts u xs = map (λ x. (x.0, put sorts u x.1)) xs

module _ (sorts : List Sort) where
  -- the trees with the arguments put in are not too deep, and one of them is
  abbrev pub Shallow : Use sorts → List Tree → Type 0
  Shallow u [] = Unit {0}
  Shallow u (w ∷ ws) = (depth_of (put sorts u w) ≤ depth_limit) × Shallow u ws

  abbrev pub Deep : Use sorts → List Tree → Type 0
  Deep u [] = ⊥
  Deep u (w ∷ ws) = (depth_limit < depth_of (put sorts u w)) ⊎ Deep u ws

  shallow-both : (u : Use sorts) (ws vs : List Tree) → Shallow u ws → Shallow u vs → Shallow u (ws ++ vs)
  shallow-both u [] vs h k = k
  shallow-both u (w ∷ ws) vs h k = (h.0, shallow-both u ws vs h.1 k)

  deep-left : (u : Use sorts) (ws vs : List Tree) → Deep u ws → Deep u (ws ++ vs)
  deep-left u [] vs h = absurd h
  deep-left u (w ∷ ws) vs (inl h) = inl h
  deep-left u (w ∷ ws) vs (inr h) = inr (deep-left u ws vs h)

  deep-right : (u : Use sorts) (ws vs : List Tree) → Deep u vs → Deep u (ws ++ vs)
  deep-right u [] vs h = h
  deep-right u (w ∷ ws) vs h = inr (deep-right u ws vs h)

  -- what a use gives: what the body gives, put in, where these trees are not too deep, and otherwise
  -- a fault of depth
  abbrev pub Outcome : {A : Type 0} → (Use sorts → A → A) → Use sorts → List Tree → A → Result A Fault → Type 0
  Outcome m u ws a (Ok v) = (v ≡ m u a) × Shallow u ws
  Outcome m u ws a (Err fault) = (fault.kind ≡ DepthLimit) × Deep u ws

  -- trees of the body by which each use goes
  abbrev pub Follows : {A : Type 0} → (Use sorts → A → A) → Result A Fault → (Use sorts → Result A Fault) → Type 0
  Follows m x y = IfOk x (λ a. (ws : List Tree) × AllByRecursion (λ w. depth_of w ≤ depth_limit) ws × ((u : Use sorts) → Outcome m u ws a (y u)))

  fo-along : {A : Type 0} (m : Use sorts → A → A) (x : Result A Fault) (y z : Use sorts → Result A Fault) → ((u : Use sorts) → y u ≡ z u) → Follows m x z → Follows m x y
  fo-along m (Ok a) y z e h = (h.0, h.1, λ u. subst (λ (r : Result _ Fault). Outcome m u h.0 a r) (sym (e u)) (h.2 u))
  fo-along m (Err f) y z e h = tt

  -- what is the same at each use
  fo-pure : {A B : Type 0} (n : Use sorts → B → B) (x : Result A Fault) (next : A → Result B Fault) (next' : Use sorts → A → Result B Fault) (P : A → Type 0) → IfOk x P → ((a : A) → P a → Follows n (next a) (λ u. next' u a)) → Follows n (x >>= next) (λ u. x >>= next' u)
  fo-pure n (Ok a) next next' P h k = k a h
  fo-pure n (Err f) next next' P h k = tt

  fo-ok : {A : Type 0} (m : Use sorts → A → A) (a : A) → Follows m (Ok a) (λ u. Ok (m u a))
  fo-ok m a = ([], tt, λ u. (refl, tt))

  outcome-bind : {A B : Type 0} (m : Use sorts → A → A) (n : Use sorts → B → B) (u : Use sorts) (ws vs : List Tree) (a : A) (b : B) (r : Result A Fault) (next' : A → Result B Fault) → Outcome m u ws a r → Outcome n u vs b (next' (m u a)) → Outcome n u (ws ++ vs) b (r >>= next')
  outcome-bind m n u ws vs a b (Err f) next' h k = (h.0, deep-left u ws vs h.1)
  outcome-bind m n u ws vs a b (Ok v) next' h k =
      subst (λ (x : _). Outcome n u (ws ++ vs) b (next' x)) (sym h.0) (go (next' (m u a)) k)
    where
      go : (s : Result _ Fault) → Outcome n u vs b s → Outcome n u (ws ++ vs) b s
      go (Ok w) l = (l.0, shallow-both u ws vs h.1 l.1)
      go (Err f) l = (l.0, deep-right u ws vs l.1)

  fo-bind : {A B : Type 0} (m : Use sorts → A → A) (n : Use sorts → B → B) (x : Result A Fault) (y : Use sorts → Result A Fault) (next : A → Result B Fault) (next' : Use sorts → A → Result B Fault) (P : A → Type 0) → IfOk x P → Follows m x y → ((a : A) → P a → Follows n (next a) (λ u. next' u (m u a))) → Follows n (x >>= next) (λ u. y u >>= next' u)
  fo-bind m n (Err f) y next next' P p h k = tt
  fo-bind m n (Ok a) y next next' P p h k = go (next a) (k a p)
    where
      go : (s : Result _ Fault) → Follows n s (λ u. next' u (m u a)) → Follows n s (λ u. y u >>= next' u)
      go (Err f) l = tt
      go (Ok b) l = (h.0 ++ l.0, both (λ w. depth_of w ≤ depth_limit) h.0 l.0 h.1 l.1, λ u. outcome-bind m n u h.0 l.0 a b (y u) (next' u) (h.2 u) (l.2 u))

  outcome-moved : {A : Type 0} (m : Use sorts → A → A) (u : Use sorts) (ws : List Tree) (a : A) (place : ℕ) (r : Result A Fault) → Outcome m u ws a r → Outcome m u ws a (moved place r)
  outcome-moved m u ws a place (Ok v) h = h
  outcome-moved m u ws a place (Err f) h = h

  fo-moved : {A : Type 0} (m : Use sorts → A → A) (place : ℕ) (x : Result A Fault) (y : Use sorts → Result A Fault) → Follows m x y → Follows m (moved place x) (λ u. moved place (y u))
  fo-moved m place (Ok a) y h = (h.0, h.1, λ u. outcome-moved m u h.0 a place (y u) (h.2 u))
  fo-moved m place (Err f) y h = tt

  -- ranks
  fo-alike : (place : ℕ) (x : Result Tree ElabKind) (y : Use sorts → Result Tree ElabKind) → ((u : Use sorts) → Alike sorts u x (y u)) → Follows (put sorts) (at place x) (λ u. at place (y u))
  fo-alike place (Ok t) y h = ([], tt, λ u. subst (λ (r : Result Tree ElabKind). Outcome (put sorts) u [] t (at place r)) (sym (h u).1) (refl, tt))
  fo-alike place (Err e) y h = tt

  -- depths
  outcome-shallow : (u : Use sorts) (place : ℕ) (t : Tree) → Outcome (put sorts) u (t ∷ []) t (shallow place (put sorts u t))
  outcome-shallow u place t = go (nat_le (depth_of (put sorts u t)) depth_limit) refl
    where
      go : (b : Bool) → nat_le (depth_of (put sorts u t)) depth_limit ≡ b → Outcome (put sorts) u (t ∷ []) t (cond b (Ok (put sorts u t)) (refuse place DepthLimit))
      go true e = let low : depth_of (put sorts u t) ≤ depth_limit = grind (arith, nat_tests) in (refl, (low, tt))
      go false e = let high : depth_limit < depth_of (put sorts u t) = grind (arith, nat_tests) in (refl, inl high)

  fo-shallow : (place : ℕ) (t : Tree) → Follows (put sorts) (shallow place t) (λ u. shallow place (put sorts u t))
  fo-shallow place t = go (nat_le (depth_of t) depth_limit) refl
    where
      go : (b : Bool) → nat_le (depth_of t) depth_limit ≡ b → Follows (put sorts) (cond b (Ok t) (refuse place DepthLimit)) (λ u. shallow place (put sorts u t))
      go true e = let low : depth_of t ≤ depth_limit = grind (arith, nat_tests) in (t ∷ [], (low, tt), λ u. outcome-shallow u place t)
      go false e = tt

  -- what names stand for
  pub found-put : (u : Use sorts) (name : List ℕ) (xs ys : Named Tree) (zs : Named Tree) → found name ys ≡ option_map (put sorts u) (found name zs) → found name (put_named sorts u xs ++ ys) ≡ option_map (put sorts u) (found name (xs ++ zs))
  found-put u name [] ys zs h = h
  found-put u name (x ∷ xs) ys zs h = go (bytes_eq x.0 name) (found name (put_named sorts u xs ++ ys)) (found name (xs ++ zs)) (found-put u name xs ys zs h)
    where
      go : (b : Bool) (o p : Option Tree) → o ≡ option_map (put sorts u) p → cond b (Some (put sorts u x.1)) o ≡ option_map (put sorts u) (cond b (Some x.1) p)
      go true o p e = refl
      go false o p e = e

  pub found-alone : (u : Use sorts) (name : List ℕ) (xs : Named Tree) → is_some (found name (put_named sorts u xs)) ≡ is_some (found name xs)
  found-alone u name [] = refl
  found-alone u name (x ∷ xs) = go (bytes_eq x.0 name) (found name (put_named sorts u xs)) (found name xs) (found-alone u name xs)
    where
      go : (b : Bool) (o p : Option Tree) → is_some o ≡ is_some p → is_some (cond b (Some (put sorts u x.1)) o) ≡ is_some (cond b (Some x.1) p)
      go true o p e = refl
      go false o p e = e

  put-inner : (u : Use sorts) (level : ℕ) (s : Sort) → length sorts ≤ level → put sorts u (Variable level s) ≡ Variable (moved_level (length sorts) u.binders level) s
  put-inner u level s le =
      let inner : nat_lt level (length sorts) ≡ false = grind (arith, nat_tests) in
      rw inner

  pub found-variables : (u : Use sorts) (name : List ℕ) (xs : Named Sort) (level level' : ℕ) (zs ys : Named Tree) → length sorts ≤ level → level' ≡ moved_level (length sorts) u.binders level → found name ys ≡ option_map (put sorts u) (found name zs) → found name (with_variables level' xs ys) ≡ option_map (put sorts u) (found name (with_variables level xs zs))
  found-variables u name [] level level' zs ys le e h = h
  found-variables u name (x ∷ xs) level level' zs ys le e h =
      let next : suc level' ≡ moved_level (length sorts) u.binders (suc level) = omega arith in
      let variable : Some (Variable level' x.1) ≡ option_map (put sorts u) (Some (Variable level x.1)) = ap (λ l. Some (Variable l x.1)) e ∙ ap Some (sym (put-inner u level x.1 le)) in
      found-variables u name xs (suc level) (suc level') ((x.0, Variable level x.1) ∷ zs) ((x.0, Variable level' x.1) ∷ ys) (omega arith) next
      (go (bytes_eq x.0 name) (Some (Variable level' x.1)) (Some (Variable level x.1)) (found name ys) (found name zs) variable h)
    where
      go : (b : Bool) (v w o p : Option Tree) → v ≡ option_map (put sorts u) w → o ≡ option_map (put sorts u) p → cond b v o ≡ option_map (put sorts u) (cond b w p)
      go true v w o p e f = e
      go false v w o p e f = f

  pub put-closed : (u : Use sorts) (q : Quantifier) (xs : Named Sort) (level level' : ℕ) (t : Tree) → length sorts ≤ level → level' ≡ moved_level (length sorts) u.binders level → closed q level' xs (put sorts u t) ≡ put sorts u (closed q level xs t)
  put-closed u q [] level level' t le e = refl
  put-closed u q (x ∷ xs) level level' t le e =
      let next : suc level' ≡ moved_level (length sorts) u.binders (suc level) = omega arith in
      ap (λ body. quantified q level' x.1 body) (put-closed u q xs (suc level) (suc level') t (omega arith) next)
      ∙ ap (λ l. quantified q l x.1 (put sorts u (closed q (suc level) xs t))) e
      ∙ one q
    where
      one : (q : Quantifier) → quantified q (moved_level (length sorts) u.binders level) x.1 (put sorts u (closed q (suc level) xs t)) ≡ put sorts u (quantified q level x.1 (closed q (suc level) xs t))
      one Universal = refl
      one Existential = refl

  pub levels-begin : (level : ℕ) (xs : Named Sort) (M : ℕ → Option Sort) → length sorts ≤ level → Begin sorts M → Begin sorts (with_levels level xs M)
  levels-begin level [] M le h = h
  levels-begin level (x ∷ xs) M le h = levels-begin (suc level) xs (with_level M level x.1) (omega arith) (begin-level sorts M level x.1 le h)

  module _ (K : List Sort) where
    -- the body of a definition, and its uses in a body
    abbrev pub FollowsBody : (ℕ → List Tree → Result Tree Fault) → Type 0
    FollowsBody body =
        (M : ℕ → Option Sort) (b : ℕ) (b' : Use sorts → ℕ) (ts : List Tree) → Ends M b → length sorts ≤ b → Begin sorts M →
        ((u : Use sorts) → b' u ≡ moved_level (length sorts) u.binders b) → AllByRecursion (IsGood K (length sorts) M) ts →
        Follows (put sorts) (body b ts) (λ u. body (b' u) (map (put sorts u) ts))

    -- an expression in the body, and where it stands at each use
    pub record Moves (M : ℕ → Option Sort) (c : Context) (d : Use sorts → Context) : Type 0 where
      pub good : IsGoodContext K (length sorts) M c
      pub begin : Begin sorts M
      pub entries : AllByRecursion (λ x. IfDefinition FollowsBody x.1) c.scope
      pub scope : (u : Use sorts) → (d u).scope ≡ c.scope
      pub binders : (u : Use sorts) → (d u).binders ≡ moved_level (length sorts) u.binders c.binders
      pub bound : (u : Use sorts) (name : List ℕ) → found name (d u).bound ≡ option_map (put sorts u) (found name c.bound)

    fo-entry : (M : ℕ → Option Sort) (place : ℕ) (name : List ℕ) (b : ℕ) (b' : Use sorts → ℕ) (o : Option Entry) → Ends M b → length sorts ≤ b → Begin sorts M → ((u : Use sorts) → b' u ≡ moved_level (length sorts) u.binders b) → IfSome o (IfDefinition FollowsBody) → Follows (put sorts) (entry_tree place name b o) (λ u. entry_tree place name (b' u) o)
    fo-entry M place name b b' (Some (Constant i s)) e le g m h = ([], tt, λ u. (refl, tt))
    fo-entry M place name b b' (Some (Definition [] body)) e le g m h = fo-moved (put sorts) place (body b []) (λ u. body (b' u) []) (h M b b' [] e le g m tt)
    fo-entry M place name b b' (Some (Definition (s ∷ ss) body)) e le g m h = tt
    fo-entry M place name b b' (Some (Synonym s)) e le g m h = tt
    fo-entry M place name b b' None e le g m h = go (bytes_eq name (codes "true")) (bytes_eq name (codes "false"))
      where
        go : (a d : Bool) → Follows (put sorts) (cond a (Ok (truth true)) (cond d (Ok (truth false)) (refuse place UnknownName))) (λ u. cond a (Ok (truth true)) (cond d (Ok (truth false)) (refuse place UnknownName)))
        go true d = ([], tt, λ u. (refl, tt))
        go false true = ([], tt, λ u. (refl, tt))
        go false false = tt

    fo-named : (M : ℕ → Option Sort) (c : Context) (d : Use sorts → Context) (place : ℕ) (name : List ℕ) (o : Option Tree) → Moves M c d → Follows (put sorts) (named_tree place name c o) (λ u. named_tree place name (d u) (option_map (put sorts u) o))
    fo-named M c d place name (Some t) h = fo-ok (put sorts) t
    fo-named M c d place name None h =
        fo-along (put sorts) (entry_tree place name c.binders (found name c.scope)) (λ u. entry_tree place name (d u).binders (found name (d u).scope)) (λ u. entry_tree place name (d u).binders (found name c.scope))
        (λ u. ap (λ s. entry_tree place name (d u).binders (found name s)) (h.scope u))
        (fo-entry M place name c.binders (λ u. (d u).binders) (found name c.scope) h.good.ends h.good.from h.begin h.binders (found-all (IfDefinition FollowsBody) name c.scope h.entries))

    fo-digits : (place bits : ℕ) (digits : List ℕ) → Follows (put sorts) (digits_literal place bits digits) (λ u. digits_literal place bits digits)
    fo-digits place bits digits = go (nat_le (bits * length digits) 128)
      where
        go : (b : Bool) → Follows (put sorts) (cond b (Ok (Literal (Bits (bits * length digits)) (number_of (2 ^ bits) digits))) (refuse place Width)) (λ u. cond b (Ok (Literal (Bits (bits * length digits)) (number_of (2 ^ bits) digits))) (refuse place Width))
        go true = ([], tt, λ u. (refl, tt))
        go false = tt

    fo-token : (M : ℕ → Option Sort) (c : Context) (d : Use sorts → Context) (kind : TokenKind) (place : ℕ) (text : List ℕ) → Moves M c d → Follows (put sorts) (token_tree kind place text c) (λ u. token_tree kind place text (d u))
    fo-token M c d Symbol place text h =
        fo-along (put sorts) (named_tree place (unquoted text) c (found (unquoted text) c.bound)) (λ u. named_tree place (unquoted text) (d u) (found (unquoted text) (d u).bound)) (λ u. named_tree place (unquoted text) (d u) (option_map (put sorts u) (found (unquoted text) c.bound)))
        (λ u. ap (λ o. named_tree place (unquoted text) (d u) o) (h.bound u (unquoted text)))
        (fo-named M c d place (unquoted text) (found (unquoted text) c.bound) h)
    fo-token M c d Hex place text h = fo-digits place 4 (drop 2 text)
    fo-token M c d Binary place text h = fo-digits place 1 (drop 2 text)
    fo-token M c d _ place text h = tt

    pub are-same : (M : ℕ → Option Sort) (ts : List Tree) → Begin sorts M → AllByRecursion (IsGood K (length sorts) M) ts → (u : Use sorts) → AllByRecursion (Same sorts u) ts
    are-same M [] g h u = tt
    are-same M (t ∷ ts) g h u = (same-sort sorts u t K M g h.0.0, are-same M ts g h.1 u)

    pub map-length : (u : Use sorts) (ts : List Tree) → length (map (put sorts u) ts) ≡ length ts
    map-length u [] = refl
    map-length u (t ∷ ts) = ap suc (map-length u ts)

    -- what (_ bvN w) is
    pub literal-only : (place : ℕ) (i : Option IndexedName) → IfOk (indexed_literal place i) (λ t. (s : Sort) × (n : ℕ) × (t ≡ Literal s n))
    literal-only place None = tt
    literal-only place (Some i) = go (bytes_eq (take 2 i.name) (codes "bv") && is_decimal (drop 2 i.name) && length i.others == 0)
      where
        value : (n w : ℕ) (p q : Bool) → IfOk (cond (not p) (refuse place Width) (cond q (Ok (Literal (Bits w) n)) (refuse place TooLarge))) (λ t. (s : Sort) × (n : ℕ) × (t ≡ Literal s n))
        value n w false q = tt
        value n w true true = (Bits w, n, refl)
        value n w true false = tt

        go : (b : Bool) → IfOk (cond b (wanted i.first >>= λ w. value_literal place (number_of 10 (drop 2 i.name)) w) (refuse place Form)) (λ t. (s : Sort) × (n : ℕ) × (t ≡ Literal s n))
        go false = tt
        go true = ok-behind (wanted i.first) (λ w. value_literal place (number_of 10 (drop 2 i.name)) w) (λ t. (s : Sort) × (n : ℕ) × (t ≡ Literal s n)) (λ w. value (number_of 10 (drop 2 i.name)) w (nat_le 1 w && nat_le w 128) (nat_lt (number_of 10 (drop 2 i.name)) (2 ^ w)))

    fo-indexed : (place : ℕ) (i : Option IndexedName) → Follows (put sorts) (indexed_literal place i) (λ u. indexed_literal place i)
    fo-indexed place i = go (indexed_literal place i) (literal-only place i)
      where
        go : (r : Result Tree Fault) → IfOk r (λ t. (s : Sort) × (n : ℕ) × (t ≡ Literal s n)) → Follows (put sorts) r (λ u. r)
        go (Ok t) l = subst (λ (v : Tree). Follows (put sorts) (Ok v) (λ u. Ok v)) (sym l.2) ([], tt, λ u. (refl, tt))
        go (Err f) l = tt

    -- a use of a definition whose arguments were tested
    abbrev tested : ℕ → ℕ → (ℕ → List Tree → Result Tree Fault) → List Tree → Bool → Bool → Result Tree Fault
    tested place b body ts p q = at place (cond (not p) (Err Arity) (cond q (Ok ts) (Err Sorts))) >>= λ args. moved place (body b args)

    fo-apply : (M : ℕ → Option Sort) (place b : ℕ) (b' : Use sorts → ℕ) (head : Head) (ts : List Tree) → IfMacro FollowsBody head → Ends M b → length sorts ≤ b → Begin sorts M → ((u : Use sorts) → b' u ≡ moved_level (length sorts) u.binders b) → AllByRecursion (IsGood K (length sorts) M) ts → Follows (put sorts) (apply place b head ts) (λ u. apply place (b' u) head (map (put sorts u) ts))
    fo-apply M place b b' (Macro ss body) ts h e le g m good =
        fo-along (put sorts) (apply place b (Macro ss body) ts) (λ u. apply place (b' u) (Macro ss body) (map (put sorts u) ts)) (λ u. tested place (b' u) body (map (put sorts u) ts) (length ts == length ss) (are_sorts_eq ss (map (λ t. sort_of t) ts)))
        (λ u. ap (λ n. tested place (b' u) body (map (put sorts u) ts) (n == length ss) (are_sorts_eq ss (map (λ t. sort_of t) (map (put sorts u) ts)))) (map-length u ts) ∙ ap (λ us. tested place (b' u) body (map (put sorts u) ts) (length ts == length ss) (are_sorts_eq ss us)) (same-sorts_of sorts u ts (are-same M ts g good u)))
        (go (length ts == length ss) (are_sorts_eq ss (map (λ t. sort_of t) ts)))
      where
        go : (p q : Bool) → Follows (put sorts) (tested place b body ts p q) (λ u. tested place (b' u) body (map (put sorts u) ts) p q)
        go false q = tt
        go true false = tt
        go true true = fo-moved (put sorts) place (body b ts) (λ u. body (b' u) (map (put sorts u) ts)) (h M b b' ts e le g m good)
    fo-apply M place b b' Distinct ts h e le g m good = fo-alike place (distinct ts) (λ u. distinct (map (put sorts u) ts)) (λ u. al-distinct sorts u ts (are-same M ts g good u))
    fo-apply M place b b' (Operator o) ts h e le g m good = fo-alike place (application o ts) (λ u. application o (map (put sorts u) ts)) (λ u. al-application sorts u o ts (are-same M ts g good u))

    -- quantifiers
    fo-of_sort : (s : Sort) (place : ℕ) (t : Tree) → ((u : Use sorts) → Same sorts u t) → Follows (put sorts) (of_sort s place t) (λ u. of_sort s place (put sorts u t))
    fo-of_sort s place t h =
        fo-along (put sorts) (of_sort s place t) (λ u. of_sort s place (put sorts u t)) (λ u. cond (sort_eq s (sort_of t)) (Ok (put sorts u t)) (refuse place Sorts))
        (λ u. ap (λ v. cond (sort_eq s v) (Ok (put sorts u t)) (refuse place Sorts)) (same-sort_of sorts u t (h u)))
        (go (sort_eq s (sort_of t)))
      where
        go : (b : Bool) → Follows (put sorts) (cond b (Ok t) (refuse place Sorts)) (λ u. cond b (Ok (put sorts u t)) (refuse place Sorts))
        go true = fo-ok (put sorts) t
        go false = tt

    fo-closed : (q : Quantifier) (place : ℕ) (xs : Named Sort) (b : ℕ) (b' : Use sorts → ℕ) (t : Tree) → length sorts ≤ b → ((u : Use sorts) → b' u ≡ moved_level (length sorts) u.binders b) → Follows (put sorts) (shallow place (closed q b xs t)) (λ u. shallow place (closed q (b' u) xs (put sorts u t)))
    fo-closed q place xs b b' t le m =
        fo-along (put sorts) (shallow place (closed q b xs t)) (λ u. shallow place (closed q (b' u) xs (put sorts u t))) (λ u. shallow place (put sorts u (closed q b xs t)))
        (λ u. ap (λ v. shallow place v) (put-closed u q xs b (b' u) t le (m u)))
        (fo-shallow place (closed q b xs t))

    pub moves-below : (M : ℕ → Option Sort) (c : Context) (d : Use sorts → Context) (xs : Named Sort) → Moves M c d → AreLawful xs → Moves (with_levels c.binders xs M) (below_binders xs c) (λ u. below_binders xs (d u))
    moves-below M c d xs h ls = record {
      good = good-below K (length sorts) M c xs h.good ls;
      begin = levels-begin c.binders xs M h.good.from h.begin;
      entries = h.entries;
      scope = h.scope;
      binders = λ u. let e = h.binders u in let le = h.good.from in omega arith;
      bound = λ u name. found-variables u name xs c.binders (d u).binders c.bound (d u).bound h.good.from (h.binders u) (h.bound u name);
    }

    pub moves-let : (M : ℕ → Option Sort) (c : Context) (d : Use sorts → Context) (names : Named Tree) → Moves M c d → AllByRecursion (λ x. IsGood K (length sorts) M x.1) names → Moves M (record c { bound = names ++ c.bound }) (λ u. record (d u) { bound = put_named sorts u names ++ (d u).bound })
    moves-let M c d names h good = record {
      good = with-bound K (length sorts) M c names h.good good;
      begin = h.begin;
      entries = h.entries;
      scope = h.scope;
      binders = h.binders;
      bound = λ u name. found-put u name names (d u).bound c.bound (h.bound u name);
    }

    fo-unless_misnamed : (place : ℕ) (n : Naming) (x : Result Tree Fault) (y : Use sorts → Result Tree Fault) → Follows (put sorts) x y → Follows (put sorts) (unless_misnamed place n x) (λ u. unless_misnamed place n (y u))
    fo-unless_misnamed place Unnamed x y h = h
    fo-unless_misnamed place (NamedBy name) x y h = h
    fo-unless_misnamed place Misnamed x y h = tt

    fo-attributes : (place : ℕ) (b : Bool) (x : Result Tree Fault) (y : Use sorts → Result Tree Fault) → Follows (put sorts) x y → Follows (put sorts) (cond b x (refuse place Form)) (λ u. cond b (y u) (refuse place Form))
    fo-attributes place true x y h = h
    fo-attributes place false x y h = tt

    pub unit : {A : Type 0} (r : Result A Fault) → IfOk r (λ _. Unit {0})
    unit (Ok a) = tt
    unit (Err f) = tt

    mutual
      pub fo-elab : (e : Expr) (c : Context) (d : Use sorts → Context) (M : ℕ → Option Sort) → HasTokens e → Moves M c d → Follows (put sorts) (elab e c) (λ u. elab e (d u))
      fo-elab (atom l) c d M w h = fo-token M c d l.kind l.place l.text h
      fo-elab (list place none close) c d M w h = tt
      fo-elab (list place (also first rest) close) c d M w h = fo-list (construct_of first) place first rest c d M w.1 h

      fo-list : (con : Construct) (place : ℕ) (first : Expr) (rest : Exprs) (c : Context) (d : Use sorts → Context) (M : ℕ → Option Sort) → HaveTokens rest → Moves M c d → Follows (put sorts) (elab_list con place first rest c) (λ u. elab_list con place first rest (d u))
      fo-list Let place first (also (list p pairs q) (also body none)) c d M w h =
          fo-pure (put sorts) (formed place (some_pairs (pairs_of pairs))) (λ _. elab_pairs pairs [] c >>= λ names. elab body (record c { bound = names ++ c.bound })) (λ u _. elab_pairs pairs [] (d u) >>= λ names. elab body (record (d u) { bound = names ++ (d u).bound })) (λ _. Unit {0}) (unit (formed place (some_pairs (pairs_of pairs))))
          (λ _ _. fo-bind (put_named sorts) (put sorts) (elab_pairs pairs [] c) (λ u. elab_pairs pairs [] (d u)) (λ names. elab body (record c { bound = names ++ c.bound })) (λ u names. elab body (record (d u) { bound = names ++ (d u).bound })) (AllByRecursion (λ x. IsGood K (length sorts) M x.1))
          (ok-pairs K (length sorts) pairs [] c M w.0 tt h.good)
          (fo-pairs pairs [] c d M w.0 tt h)
          (λ names good. fo-elab body (record c { bound = names ++ c.bound }) (λ u. record (d u) { bound = put_named sorts u names ++ (d u).bound }) M w.1.0 (moves-let M c d names h good)))
      fo-list (Quantified q) place first (also (list p pairs r) (also body none)) c d M w h =
          fo-along (put sorts) (elab_list (Quantified q) place first (also (list p pairs r) (also body none)) c) (λ u. elab_list (Quantified q) place first (also (list p pairs r) (also body none)) (d u)) (λ u. formed place (some_pairs (pairs_of pairs)) >>= λ variables. read_variables c.scope variables >>= λ xs. elab body (below_binders xs (d u)) >>= λ t. of_sort BoolSort (place_of body) t >>= λ formula. shallow place (closed q (d u).binders xs formula))
          (λ u. ap (λ s. formed place (some_pairs (pairs_of pairs)) >>= λ variables. read_variables s variables >>= λ xs. elab body (below_binders xs (d u)) >>= λ t. of_sort BoolSort (place_of body) t >>= λ formula. shallow place (closed q (d u).binders xs formula)) (h.scope u))
          (fo-pure (put sorts) (formed place (some_pairs (pairs_of pairs))) (λ variables. read_variables c.scope variables >>= λ xs. elab body (below_binders xs c) >>= λ t. of_sort BoolSort (place_of body) t >>= λ formula. shallow place (closed q c.binders xs formula)) (λ u variables. read_variables c.scope variables >>= λ xs. elab body (below_binders xs (d u)) >>= λ t. of_sort BoolSort (place_of body) t >>= λ formula. shallow place (closed q (d u).binders xs formula)) (λ _. Unit {0}) (unit (formed place (some_pairs (pairs_of pairs))))
          (λ variables _. fo-pure (put sorts) (read_variables c.scope variables) (λ xs. elab body (below_binders xs c) >>= λ t. of_sort BoolSort (place_of body) t >>= λ formula. shallow place (closed q c.binders xs formula)) (λ u xs. elab body (below_binders xs (d u)) >>= λ t. of_sort BoolSort (place_of body) t >>= λ formula. shallow place (closed q (d u).binders xs formula)) AreLawful (ok-variables K (length sorts) c.scope h.good.scope variables)
          (λ xs ls. fo-bind (put sorts) (put sorts) (elab body (below_binders xs c)) (λ u. elab body (below_binders xs (d u))) (λ t. of_sort BoolSort (place_of body) t >>= λ formula. shallow place (closed q c.binders xs formula)) (λ u t. of_sort BoolSort (place_of body) t >>= λ formula. shallow place (closed q (d u).binders xs formula)) (IsGood K (length sorts) (with_levels c.binders xs M))
          (ok-elab K (length sorts) body (below_binders xs c) (with_levels c.binders xs M) w.1.0 (good-below K (length sorts) M c xs h.good ls))
          (fo-elab body (below_binders xs c) (λ u. below_binders xs (d u)) (with_levels c.binders xs M) w.1.0 (moves-below M c d xs h ls))
          (λ t good. fo-bind (put sorts) (put sorts) (of_sort BoolSort (place_of body) t) (λ u. of_sort BoolSort (place_of body) (put sorts u t)) (λ formula. shallow place (closed q c.binders xs formula)) (λ u formula. shallow place (closed q (d u).binders xs formula)) (λ _. Unit {0})
          (unit (of_sort BoolSort (place_of body) t))
          (fo-of_sort BoolSort (place_of body) t (λ u. same-sort sorts u t K (with_levels c.binders xs M) (levels-begin c.binders xs M h.good.from h.begin) good.0))
          (λ formula _. fo-closed q place xs c.binders (λ u. (d u).binders) formula h.good.from h.binders)))))
      fo-list Annotated place first (also term attributes) c d M w h =
          fo-attributes place (are_attributes attributes) (unless_misnamed place (naming attributes) (elab term c)) (λ u. unless_misnamed place (naming attributes) (elab term (d u)))
          (fo-unless_misnamed place (naming attributes) (elab term c) (λ u. elab term (d u)) (fo-elab term c d M w.0 h))
      fo-list Indexed place first rest c d M w h = fo-indexed place (indexed_name (items rest))
      fo-list Application place first (also e es) c d M w h =
          fo-along (put sorts) (elab_list Application place first (also e es) c) (λ u. elab_list Application place first (also e es) (d u)) (λ u. head_of c.scope place first >>= λ head. elab e (d u) >>= λ t. elab_all es (d u) >>= λ ts. apply place (d u).binders head (t ∷ ts) >>= λ tree. shallow place tree)
          (λ u. ap (λ s. head_of s place first >>= λ head. elab e (d u) >>= λ t. elab_all es (d u) >>= λ ts. apply place (d u).binders head (t ∷ ts) >>= λ tree. shallow place tree) (h.scope u))
          (fo-pure (put sorts) (head_of c.scope place first) (λ head. elab e c >>= λ t. elab_all es c >>= λ ts. apply place c.binders head (t ∷ ts) >>= λ tree. shallow place tree) (λ u head. elab e (d u) >>= λ t. elab_all es (d u) >>= λ ts. apply place (d u).binders head (t ∷ ts) >>= λ tree. shallow place tree) (IfMacro FollowsBody)
          (macro-head FollowsBody c.scope place first h.entries)
          (λ head hh. fo-bind (put sorts) (put sorts) (elab e c) (λ u. elab e (d u)) (λ t. elab_all es c >>= λ ts. apply place c.binders head (t ∷ ts) >>= λ tree. shallow place tree) (λ u t. elab_all es (d u) >>= λ ts. apply place (d u).binders head (t ∷ ts) >>= λ tree. shallow place tree) (IsGood K (length sorts) M)
          (ok-elab K (length sorts) e c M w.0 h.good)
          (fo-elab e c d M w.0 h)
          (λ t ht. fo-bind (λ u ts. map (put sorts u) ts) (put sorts) (elab_all es c) (λ u. elab_all es (d u)) (λ ts. apply place c.binders head (t ∷ ts) >>= λ tree. shallow place tree) (λ u ts. apply place (d u).binders head (put sorts u t ∷ ts) >>= λ tree. shallow place tree) (AllByRecursion (IsGood K (length sorts) M))
          (ok-all K (length sorts) es c M w.1 h.good)
          (fo-all es c d M w.1 h)
          (λ ts hts. fo-bind (put sorts) (put sorts) (apply place c.binders head (t ∷ ts)) (λ u. apply place (d u).binders head (map (put sorts u) (t ∷ ts))) (λ tree. shallow place tree) (λ u tree. shallow place tree) (λ _. Unit {0})
          (unit (apply place c.binders head (t ∷ ts)))
          (fo-apply M place c.binders (λ u. (d u).binders) head (t ∷ ts) hh h.good.ends h.good.from h.begin h.binders (ht, hts))
          (λ tree _. fo-shallow place tree)))))
      fo-list _ place first rest c d M w h = tt

      fo-all : (es : Exprs) (c : Context) (d : Use sorts → Context) (M : ℕ → Option Sort) → HaveTokens es → Moves M c d → Follows (λ u ts. map (put sorts u) ts) (elab_all es c) (λ u. elab_all es (d u))
      fo-all none c d M w h = fo-ok (λ u ts. map (put sorts u) ts) []
      fo-all (also e es) c d M w h =
          fo-bind (put sorts) (λ u ts. map (put sorts u) ts) (elab e c) (λ u. elab e (d u)) (λ t. elab_all es c >>= λ ts. Ok (t ∷ ts)) (λ u t. elab_all es (d u) >>= λ ts. Ok (t ∷ ts)) (λ _. Unit {0}) (unit (elab e c)) (fo-elab e c d M w.0 h)
          (λ t _. fo-bind (λ u ts. map (put sorts u) ts) (λ u ts. map (put sorts u) ts) (elab_all es c) (λ u. elab_all es (d u)) (λ ts. Ok (t ∷ ts)) (λ u ts. Ok (put sorts u t ∷ ts)) (λ _. Unit {0}) (unit (elab_all es c)) (fo-all es c d M w.1 h)
          (λ ts _. fo-ok (λ u ts. map (put sorts u) ts) (t ∷ ts)))

      fo-pairs : (pairs : Exprs) (names : Named Tree) (c : Context) (d : Use sorts → Context) (M : ℕ → Option Sort) → HaveTokens pairs → Unit {0} → Moves M c d → Follows (put_named sorts) (elab_pairs pairs names c) (λ u. elab_pairs pairs (put_named sorts u names) (d u))
      fo-pairs (also (list p (also (atom l) (also e none)) q) pairs) names c d M w _ h =
          fo-along (put_named sorts) (elab_pairs (also (list p (also (atom l) (also e none)) q) pairs) names c) (λ u. elab_pairs (also (list p (also (atom l) (also e none)) q) pairs) (put_named sorts u names) (d u)) (λ u. new_name l.place (unquoted l.text) names >>= λ name. elab e (d u) >>= λ t. elab_pairs pairs ((name, t) ∷ put_named sorts u names) (d u))
          (λ u. ap (λ b. cond b (refuse l.place RepeatedName) (Ok (unquoted l.text)) >>= λ name. elab e (d u) >>= λ t. elab_pairs pairs ((name, t) ∷ put_named sorts u names) (d u)) (found-alone u (unquoted l.text) names))
          (fo-pure (put_named sorts) (new_name l.place (unquoted l.text) names) (λ name. elab e c >>= λ t. elab_pairs pairs ((name, t) ∷ names) c) (λ u name. elab e (d u) >>= λ t. elab_pairs pairs ((name, t) ∷ put_named sorts u names) (d u)) (λ _. Unit {0}) (unit (new_name l.place (unquoted l.text) names))
          (λ name _. fo-bind (put sorts) (put_named sorts) (elab e c) (λ u. elab e (d u)) (λ t. elab_pairs pairs ((name, t) ∷ names) c) (λ u t. elab_pairs pairs ((name, t) ∷ put_named sorts u names) (d u)) (λ _. Unit {0}) (unit (elab e c)) (fo-elab e c d M w.0.1.0 h)
          (λ t _. fo-pairs pairs ((name, t) ∷ names) c d M w.1 tt h)))
      fo-pairs _ names c d M w _ h = fo-ok (put_named sorts) names
