-- A use of a definition fails exactly by what is looked at in the definition's own reading.
use Rattle.std.proofs.Common.{◌≡◌, ◌≤◌, ◌<◌, ℕ, ◌==◌, ◌⊎◌, inl, inr, not, Bool, true, false, cond, Option, Some, None, List, [], ◌∷◌, ◌++◌, map, length, refl, sym, ap, subst, ◌∙◌, Ok, Err, arith, append_assoc}
use Rattle.std.specs.Prelude.{Result, IfOk, IfSome, IsOk, IsErr, option_map, nat_le, codes, ◌*◌, ◌^◌, drop}
use Rattle.std.specs.List.{AllByRecursion}
use Rattle.std.specs.Str.{bytes_eq}
use Rattle.std.proofs.lemmas.Bool.Decides.{nat_tests}
use Rattle.qv_text.specs.declared.kinds.TokenKind.{TokenKind}
use Rattle.qv_text.specs.declared.kinds.TokenKind.TheVariants.{Symbol, Hex, Binary}
use Rattle.qv_sexpr.specs.Script.{atom, list, none, also}
use Rattle.qv_sexpr.specs.Script.{Tree as Expr, Trees as Exprs}
use Rattle.qv_words.specs.declared.sort.Sort.{Sort}
use Rattle.qv_words.specs.declared.sort.Sort.TheVariants.{Bits}
use Rattle.qv_words.specs.declared.sort.Sort.TheVariants.{Bool as BoolSort}
use Rattle.qv_words.specs.Rank.{sort_eq}
use Rattle.qv_words.specs.Tree.{Tree, Literal}
use Rattle.qv_elab_defs.specs.declared.faults.ElabKind.{ElabKind}
use Rattle.qv_elab_defs.specs.declared.faults.ElabKind.TheVariants.{Form, Sorts, Width, RepeatedName, Arity, UnknownName, DepthLimit}
use Rattle.qv_elab_defs.specs.Faults.{Fault, refuse, ◌>>=◌, at, moved, formed}
use Rattle.qv_elab_defs.specs.Tokens.{place_of, unquoted, items, number_of}
use Rattle.qv_elab_defs.specs.Written.{HasTokens, HaveTokens}
use Rattle.qv_elab_defs.specs.Shapes.{Quantifier, Construct, Let, Quantified, Annotated, Indexed, Application, construct_of, IndexedName, indexed_name, pairs_of, some_pairs, are_attributes, Naming, Unnamed, Misnamed, naming}
use Rattle.qv_elab_defs.specs.Shapes.{Named as NamedBy}
use Rattle.qv_elab_defs.specs.Scopes.{Entry, Constant, Definition, Synonym, Named, found, Context, below_binders}
use Rattle.qv_elab_defs.specs.Heads.{Head, Macro, Distinct, Operator, head_of}
use Rattle.qv_elab_defs.specs.Applying.{sort_of, depth_of, depth_limit, shallow, are_sorts_eq, distinct, application, apply}
use Rattle.qv_elab_defs.specs.Leaves.{truth, digits_literal, entry_tree, named_tree, token_tree, indexed_literal}
use Rattle.qv_elab_defs.specs.Elaborating.{of_sort, read_variables, closed, new_name, unless_misnamed, elab, elab_list, elab_all, elab_pairs}
use Rattle.qv_elab_defs.specs.Putting.{moved_level}
use Rattle.qv_elab_defs.specs.Looking.{Look, Deep, Used, Looking, still, ◌▷◌, shallow_looks, apply_looks, use_of_head, entry_looks, named_looks, token_looks, unless_misnamed_looks, looks_of, looks_of_list, looks_of_all, looks_of_pairs}
use Rattle.qv_elab_defs.proofs.OpenApplied.{IsGood}
use Rattle.qv_elab_defs.proofs.OpenElaborated.{Ends, IfMacro, IfDefinition, with_levels, AreLawful, macro-head, ok-elab, ok-all, ok-pairs, ok-variables, found-all}
use Rattle.qv_elab_defs.proofs.Alike.{Use, put, Begin, Same, same-sort, Alike, same-sort_of, same-sorts_of, al-distinct, al-application}
use Rattle.qv_elab_defs.proofs.Following.{put_named, Outcome, Follows, FollowsBody, Moves, put-closed, levels-begin, are-same, map-length, literal-only, moves-below, moves-let, unit, found-alone}
use Rattle.qv_elab_defs.proofs.Looked.{Makes, ma-still, ma-added, makes, makes_all, makes_pairs}

module _ (sorts : List Sort) where
  -- what fails at a use, and what doesn't
  abbrev pub FailsAt : Use sorts → Look → Type 0
  FailsAt u (Deep w) = depth_limit < depth_of (put sorts u w)
  FailsAt u (Used body b ts) = IsErr (body (moved_level (length sorts) u.binders b) (map (put sorts u) ts))

  abbrev pub PassesAt : Use sorts → Look → Type 0
  PassesAt u (Deep w) = depth_of (put sorts u w) ≤ depth_limit
  PassesAt u (Used body b ts) = IsOk (body (moved_level (length sorts) u.binders b) (map (put sorts u) ts))

  abbrev pub AllPass : Use sorts → List Look → Type 0
  AllPass u [] = Unit {0}
  AllPass u (w ∷ ws) = PassesAt u w × AllPass u ws

  abbrev pub SomeFails : Use sorts → List Look → Type 0
  SomeFails u [] = ⊥
  SomeFails u (w ∷ ws) = FailsAt u w ⊎ SomeFails u ws

  pass-both : (u : Use sorts) (ws vs : List Look) → AllPass u ws → AllPass u vs → AllPass u (ws ++ vs)
  pass-both u [] vs h k = k
  pass-both u (w ∷ ws) vs h k = (h.0, pass-both u ws vs h.1 k)

  pub fails-left : (u : Use sorts) (ws vs : List Look) → SomeFails u ws → SomeFails u (ws ++ vs)
  fails-left u [] vs h = absurd h
  fails-left u (w ∷ ws) vs (inl h) = inl h
  fails-left u (w ∷ ws) vs (inr h) = inr (fails-left u ws vs h)

  pub fails-right : (u : Use sorts) (ws vs : List Look) → SomeFails u vs → SomeFails u (ws ++ vs)
  fails-right u [] vs h = h
  fails-right u (w ∷ ws) vs h = inr (fails-right u ws vs h)

  -- what a use gives: what the body gives, put in, where all of these pass, and otherwise a fault
  abbrev pub Gives : {A : Type 0} → (Use sorts → A → A) → Use sorts → List Look → A → Result A Fault → Type 0
  Gives m u ws a (Ok v) = (v ≡ m u a) × AllPass u ws
  Gives m u ws a (Err fault) = SomeFails u ws

  -- each use goes by what is looked at
  abbrev pub Watches : {A : Type 0} → (Use sorts → A → A) → Looking A → (Use sorts → Result A Fault) → Type 0
  Watches m x y = (looks : List Look) → IfOk (x looks) (λ r. (ws : List Look) × (r.1 ≡ ws ++ looks) × ((u : Use sorts) → Gives m u ws r.0 (y u)))

  wa-along : {A : Type 0} (m : Use sorts → A → A) (x : Looking A) (y z : Use sorts → Result A Fault) → ((u : Use sorts) → y u ≡ z u) → Watches m x z → Watches m x y
  wa-along {A} m x y z e h looks = go (x looks) (h looks)
    where
      go : (r : Result (A × List Look) Fault) → IfOk r (λ r. (ws : List Look) × (r.1 ≡ ws ++ looks) × ((u : Use sorts) → Gives m u ws r.0 (z u))) → IfOk r (λ r. (ws : List Look) × (r.1 ≡ ws ++ looks) × ((u : Use sorts) → Gives m u ws r.0 (y u)))
      go (Ok r) k = (k.0, k.1, λ u. subst (λ (q : Result A Fault). Gives m u k.0 r.0 q) (sym (e u)) (k.2 u))
      go (Err f) k = tt

  -- what is the same at each use
  wa-pure : {A B : Type 0} (n : Use sorts → B → B) (x : Result A Fault) (next : A → Looking B) (next' : Use sorts → A → Result B Fault) (P : A → Type 0) → IfOk x P → ((a : A) → P a → Watches n (next a) (λ u. next' u a)) → Watches n (still x ▷ next) (λ u. x >>= next' u)
  wa-pure n (Ok a) next next' P h k looks = k a h looks
  wa-pure n (Err f) next next' P h k looks = tt

  wa-ok : {A : Type 0} (m : Use sorts → A → A) (a : A) → Watches m (still (Ok a)) (λ u. Ok (m u a))
  wa-ok m a looks = ([], refl, λ u. (refl, tt))

  wa-none : {A : Type 0} (m : Use sorts → A → A) (f : Fault) (y : Use sorts → Result A Fault) → Watches m (still (Err f)) y
  wa-none m f y looks = tt

  gives-bind : {A B : Type 0} (m : Use sorts → A → A) (n : Use sorts → B → B) (u : Use sorts) (ws vs : List Look) (a : A) (b : B) (r : Result A Fault) (next' : A → Result B Fault) → Gives m u ws a r → Gives n u vs b (next' (m u a)) → Gives n u (vs ++ ws) b (r >>= next')
  gives-bind m n u ws vs a b (Err f) next' h k = fails-right u vs ws h
  gives-bind {A} {B} m n u ws vs a b (Ok v) next' h k =
      subst (λ (x : A). Gives n u (vs ++ ws) b (next' x)) (sym h.0) (go (next' (m u a)) k)
    where
      go : (s : Result B Fault) → Gives n u vs b s → Gives n u (vs ++ ws) b s
      go (Ok w) l = (l.0, pass-both u vs ws l.1 h.1)
      go (Err f) l = fails-left u vs ws l

  wa-bind : {A B : Type 0} (m : Use sorts → A → A) (n : Use sorts → B → B) (x : Looking A) (own : Result A Fault) (y : Use sorts → Result A Fault) (next : A → Looking B) (next' : Use sorts → A → Result B Fault) (P : A → Type 0) → Makes x own → IfOk own P → Watches m x y → ((a : A) → P a → Watches n (next a) (λ u. next' u (m u a))) → Watches n (x ▷ next) (λ u. y u >>= next' u)
  wa-bind {A} {B} m n x own y next next' P made p h k looks = go (x looks) (made looks) (h looks)
    where
      own-holds : (r : A × List Look) → Ok r.0 ≡ own → P r.0
      own-holds r e = let Q : Result A Fault → Type 0 = λ q. IfOk q P in subst Q (sym e) p

      go : (r : Result (A × List Look) Fault) → (r >>= λ z. Ok z.0) ≡ own → IfOk r (λ r. (ws : List Look) × (r.1 ≡ ws ++ looks) × ((u : Use sorts) → Gives m u ws r.0 (y u)))
          → IfOk (r >>= λ z. next z.0 z.1) (λ r. (ws : List Look) × (r.1 ≡ ws ++ looks) × ((u : Use sorts) → Gives n u ws r.0 (y u >>= next' u)))
      go (Err f) e l = tt
      go (Ok r) e l = then (next r.0 r.1) (k r.0 (own-holds r e) r.1)
        where
          then : (s : Result (B × List Look) Fault) → IfOk s (λ s. (ws : List Look) × (s.1 ≡ ws ++ r.1) × ((u : Use sorts) → Gives n u ws s.0 (next' u (m u r.0)))) → IfOk s (λ s. (ws : List Look) × (s.1 ≡ ws ++ looks) × ((u : Use sorts) → Gives n u ws s.0 (y u >>= next' u)))
          then (Err f) j = tt
          then (Ok s) j = (j.0 ++ l.0, j.1 ∙ ap (λ ls. j.0 ++ ls) l.1 ∙ sym (append_assoc j.0 l.0 looks), λ u. gives-bind m n u l.0 j.0 r.0 s.0 (y u) (next' u) (l.2 u) (j.2 u))

  -- a use of a definition
  gives-use : (u : Use sorts) (place b : ℕ) (ts : List Tree) (t : Tree) (ws : List Tree) (body : ℕ → List Tree → Result Tree Fault) (r : Result Tree Fault) → body (moved_level (length sorts) u.binders b) (map (put sorts u) ts) ≡ r → Outcome sorts (put sorts) u ws t r → Gives (put sorts) u (Used body b ts ∷ []) t (moved place r)
  gives-use u place b ts t ws body (Ok v) e h = (h.0, (let Q : Result Tree Fault → Type 0 = λ q. IsOk q in subst Q (sym e) refl, tt))
  gives-use u place b ts t ws body (Err f) e h = inl (let Q : Result Tree Fault → Type 0 = λ q. IsErr q in subst Q (sym e) refl)

  wa-use : (place b : ℕ) (b' : Use sorts → ℕ) (ts : List Tree) (body : ℕ → List Tree → Result Tree Fault) → ((u : Use sorts) → b' u ≡ moved_level (length sorts) u.binders b) → Follows sorts (put sorts) (body b ts) (λ u. body (b' u) (map (put sorts u) ts))
      → Watches (put sorts) (λ looks. moved place (body b ts) >>= λ tree. Ok (tree, Used body b ts ∷ looks)) (λ u. moved place (body (b' u) (map (put sorts u) ts)))
  wa-use place b b' ts body m h looks = go (body b ts) h
    where
      go : (r : Result Tree Fault) → Follows sorts (put sorts) r (λ u. body (b' u) (map (put sorts u) ts)) → IfOk {T = Tree × List Look} (moved place r >>= λ tree. Ok (tree, Used body b ts ∷ looks)) (λ r. (ws : List Look) × (r.1 ≡ ws ++ looks) × ((u : Use sorts) → Gives (put sorts) u ws r.0 (moved place (body (b' u) (map (put sorts u) ts)))))
      go (Ok t) k = (Used body b ts ∷ [], refl, λ u. gives-use u place b ts t k.0 body (body (b' u) (map (put sorts u) ts)) (sym (ap (λ n. body n (map (put sorts u) ts)) (m u))) (k.2 u))
      go (Err f) k = tt

  -- ranks
  wa-alike : (place : ℕ) (x : Result Tree ElabKind) (y : Use sorts → Result Tree ElabKind) → ((u : Use sorts) → Alike sorts u x (y u)) → Watches (put sorts) (λ looks. at place x >>= λ tree. Ok (tree, looks)) (λ u. at place (y u))
  wa-alike place (Ok t) y h looks = ([], refl, λ u. subst (λ (r : Result Tree ElabKind). Gives (put sorts) u [] t (at place r)) (sym (h u).1) (refl, tt))
  wa-alike place (Err e) y h looks = tt

  -- depths
  gives-shallow : (u : Use sorts) (place : ℕ) (t : Tree) → Gives (put sorts) u (Deep t ∷ []) t (shallow place (put sorts u t))
  gives-shallow u place t = go (nat_le (depth_of (put sorts u t)) depth_limit) refl
    where
      go : (b : Bool) → nat_le (depth_of (put sorts u t)) depth_limit ≡ b → Gives (put sorts) u (Deep t ∷ []) t (cond b (Ok (put sorts u t)) (refuse place DepthLimit))
      go true e = let low : depth_of (put sorts u t) ≤ depth_limit = grind (arith, nat_tests) in (refl, (low, tt))
      go false e = let high : depth_limit < depth_of (put sorts u t) = grind (arith, nat_tests) in inl high

  wa-shallow : (place : ℕ) (t : Tree) → Watches (put sorts) (shallow_looks place t) (λ u. shallow place (put sorts u t))
  wa-shallow place t looks = go (nat_le (depth_of t) depth_limit)
    where
      go : (b : Bool) → IfOk {T = Tree × List Look} (cond b (Ok t) (refuse place DepthLimit) >>= λ tree. Ok (tree, Deep tree ∷ looks)) (λ r. (ws : List Look) × (r.1 ≡ ws ++ looks) × ((u : Use sorts) → Gives (put sorts) u ws r.0 (shallow place (put sorts u t))))
      go true = (Deep t ∷ [], refl, λ u. gives-shallow u place t)
      go false = tt

  module _ (K : List Sort) where
    wa-entry : (M : ℕ → Option Sort) (place : ℕ) (name : List ℕ) (b : ℕ) (b' : Use sorts → ℕ) (o : Option Entry) → Ends M b → length sorts ≤ b → Begin sorts M → ((u : Use sorts) → b' u ≡ moved_level (length sorts) u.binders b) → IfSome o (IfDefinition (FollowsBody sorts K)) → Watches (put sorts) (entry_looks place name b o) (λ u. entry_tree place name (b' u) o)
    wa-entry M place name b b' (Some (Constant i s)) e le g m h = λ looks. ([], refl, λ u. (refl, tt))
    wa-entry M place name b b' (Some (Definition [] body)) e le g m h = wa-use place b b' [] body m (h M b b' [] e le g m tt)
    wa-entry M place name b b' (Some (Definition (s ∷ ss) body)) e le g m h = λ looks. tt
    wa-entry M place name b b' (Some (Synonym s)) e le g m h = λ looks. tt
    wa-entry M place name b b' None e le g m h = λ looks. go looks (bytes_eq name (codes "true")) (bytes_eq name (codes "false"))
      where
        go : (looks : List Look) (a d : Bool) → IfOk {T = Tree × List Look} (cond a (Ok (truth true)) (cond d (Ok (truth false)) (refuse place UnknownName)) >>= λ tree. Ok (tree, looks))
            (λ r. (ws : List Look) × (r.1 ≡ ws ++ looks) × ((u : Use sorts) → Gives (put sorts) u ws r.0 (cond a (Ok (truth true)) (cond d (Ok (truth false)) (refuse place UnknownName)))))
        go looks true d = ([], refl, λ u. (refl, tt))
        go looks false true = ([], refl, λ u. (refl, tt))
        go looks false false = tt

    wa-named : (M : ℕ → Option Sort) (c : Context) (d : Use sorts → Context) (place : ℕ) (name : List ℕ) (o : Option Tree) → Moves sorts K M c d → Watches (put sorts) (named_looks place name c o) (λ u. named_tree place name (d u) (option_map (put sorts u) o))
    wa-named M c d place name (Some t) h = wa-ok (put sorts) t
    wa-named M c d place name None h =
        wa-along (put sorts) (entry_looks place name c.binders (found name c.scope)) (λ u. entry_tree place name (d u).binders (found name (d u).scope)) (λ u. entry_tree place name (d u).binders (found name c.scope))
        (λ u. ap (λ s. entry_tree place name (d u).binders (found name s)) (h.scope u))
        (wa-entry M place name c.binders (λ u. (d u).binders) (found name c.scope) h.good.ends h.good.from h.begin h.binders (found-all (IfDefinition (FollowsBody sorts K)) name c.scope h.entries))

    wa-digits : (place bits : ℕ) (digits : List ℕ) → Watches (put sorts) (still (digits_literal place bits digits)) (λ u. digits_literal place bits digits)
    wa-digits place bits digits looks = go (nat_le (bits * length digits) 128)
      where
        go : (b : Bool) → IfOk {T = Tree × List Look} (cond b (Ok (Literal (Bits (bits * length digits)) (number_of (2 ^ bits) digits))) (refuse place Width) >>= λ tree. Ok (tree, looks))
            (λ r. (ws : List Look) × (r.1 ≡ ws ++ looks) × ((u : Use sorts) → Gives (put sorts) u ws r.0 (cond b (Ok (Literal (Bits (bits * length digits)) (number_of (2 ^ bits) digits))) (refuse place Width))))
        go true = ([], refl, λ u. (refl, tt))
        go false = tt

    wa-token : (M : ℕ → Option Sort) (c : Context) (d : Use sorts → Context) (kind : TokenKind) (place : ℕ) (text : List ℕ) → Moves sorts K M c d → Watches (put sorts) (token_looks kind place text c) (λ u. token_tree kind place text (d u))
    wa-token M c d Symbol place text h =
        wa-along (put sorts) (named_looks place (unquoted text) c (found (unquoted text) c.bound)) (λ u. named_tree place (unquoted text) (d u) (found (unquoted text) (d u).bound)) (λ u. named_tree place (unquoted text) (d u) (option_map (put sorts u) (found (unquoted text) c.bound)))
        (λ u. ap (λ o. named_tree place (unquoted text) (d u) o) (h.bound u (unquoted text)))
        (wa-named M c d place (unquoted text) (found (unquoted text) c.bound) h)
    wa-token M c d Hex place text h = wa-digits place 4 (drop 2 text)
    wa-token M c d Binary place text h = wa-digits place 1 (drop 2 text)
    wa-token M c d _ place text h = λ looks. tt

    wa-indexed : (place : ℕ) (i : Option IndexedName) → Watches (put sorts) (still (indexed_literal place i)) (λ u. indexed_literal place i)
    wa-indexed place i = go (indexed_literal place i) (literal-only sorts K place i)
      where
        go : (r : Result Tree Fault) → IfOk r (λ t. (s : Sort) × (n : ℕ) × (t ≡ Literal s n)) → Watches (put sorts) (still r) (λ u. r)
        go (Ok t) l = subst (λ (v : Tree). Watches (put sorts) (still (Ok v)) (λ u. Ok v)) (sym l.2) (λ looks. ([], refl, λ u. (refl, tt)))
        go (Err f) l = λ looks. tt

    -- a use of a definition whose arguments were tested
    abbrev tested : ℕ → ℕ → (ℕ → List Tree → Result Tree Fault) → List Tree → Bool → Bool → Result Tree Fault
    tested place b body ts p q = at place (cond (not p) (Err Arity) (cond q (Ok ts) (Err Sorts))) >>= λ args. moved place (body b args)

    wa-apply : (M : ℕ → Option Sort) (place b : ℕ) (b' : Use sorts → ℕ) (head : Head) (ts : List Tree) → IfMacro (FollowsBody sorts K) head → Ends M b → length sorts ≤ b → Begin sorts M → ((u : Use sorts) → b' u ≡ moved_level (length sorts) u.binders b) → AllByRecursion (IsGood K (length sorts) M) ts
        → Watches (put sorts) (apply_looks place b head ts) (λ u. apply place (b' u) head (map (put sorts u) ts))
    wa-apply M place b b' (Macro ss body) ts h e le g m good =
        wa-along (put sorts) (apply_looks place b (Macro ss body) ts) (λ u. apply place (b' u) (Macro ss body) (map (put sorts u) ts)) (λ u. tested place (b' u) body (map (put sorts u) ts) (length ts == length ss) (are_sorts_eq ss (map (λ t. sort_of t) ts)))
        (λ u. ap (λ n. tested place (b' u) body (map (put sorts u) ts) (n == length ss) (are_sorts_eq ss (map (λ t. sort_of t) (map (put sorts u) ts)))) (map-length sorts K u ts) ∙ ap (λ us. tested place (b' u) body (map (put sorts u) ts) (length ts == length ss) (are_sorts_eq ss us)) (same-sorts_of sorts u ts (are-same sorts K M ts g good u)))
        (go (length ts == length ss) (are_sorts_eq ss (map (λ t. sort_of t) ts)))
      where
        go : (p q : Bool) → Watches (put sorts) (λ looks. tested place b body ts p q >>= λ tree. Ok (tree, Used body b ts ∷ looks)) (λ u. tested place (b' u) body (map (put sorts u) ts) p q)
        go false q = λ looks. tt
        go true false = λ looks. tt
        go true true = wa-use place b b' ts body m (h M b b' ts e le g m good)
    wa-apply M place b b' Distinct ts h e le g m good = wa-alike place (distinct ts) (λ u. distinct (map (put sorts u) ts)) (λ u. al-distinct sorts u ts (are-same sorts K M ts g good u))
    wa-apply M place b b' (Operator o) ts h e le g m good = wa-alike place (application o ts) (λ u. application o (map (put sorts u) ts)) (λ u. al-application sorts u o ts (are-same sorts K M ts g good u))

    -- quantifiers
    wa-of_sort : (s : Sort) (place : ℕ) (t : Tree) → ((u : Use sorts) → Same sorts u t) → Watches (put sorts) (still (of_sort s place t)) (λ u. of_sort s place (put sorts u t))
    wa-of_sort s place t h =
        wa-along (put sorts) (still (of_sort s place t)) (λ u. of_sort s place (put sorts u t)) (λ u. cond (sort_eq s (sort_of t)) (Ok (put sorts u t)) (refuse place Sorts))
        (λ u. ap (λ v. cond (sort_eq s v) (Ok (put sorts u t)) (refuse place Sorts)) (same-sort_of sorts u t (h u)))
        (go (sort_eq s (sort_of t)))
      where
        go : (b : Bool) → Watches (put sorts) (still (cond b (Ok t) (refuse place Sorts))) (λ u. cond b (Ok (put sorts u t)) (refuse place Sorts))
        go true = wa-ok (put sorts) t
        go false = λ looks. tt

    wa-closed : (q : Quantifier) (place : ℕ) (xs : Named Sort) (b : ℕ) (b' : Use sorts → ℕ) (t : Tree) → length sorts ≤ b → ((u : Use sorts) → b' u ≡ moved_level (length sorts) u.binders b) → Watches (put sorts) (shallow_looks place (closed q b xs t)) (λ u. shallow place (closed q (b' u) xs (put sorts u t)))
    wa-closed q place xs b b' t le m =
        wa-along (put sorts) (shallow_looks place (closed q b xs t)) (λ u. shallow place (closed q (b' u) xs (put sorts u t))) (λ u. shallow place (put sorts u (closed q b xs t)))
        (λ u. ap (λ v. shallow place v) (put-closed sorts u q xs b (b' u) t le (m u)))
        (wa-shallow place (closed q b xs t))

    wa-unless : (place : ℕ) (n : Naming) (x : Looking Tree) (y : Use sorts → Result Tree Fault) → Watches (put sorts) x y → Watches (put sorts) (unless_misnamed_looks place n x) (λ u. unless_misnamed place n (y u))
    wa-unless place Unnamed x y h = h
    wa-unless place (NamedBy name) x y h = h
    wa-unless place Misnamed x y h = λ looks. tt

    wa-attributes : (place : ℕ) (b : Bool) (x : Looking Tree) (y : Use sorts → Result Tree Fault) → Watches (put sorts) x y → Watches (put sorts) (cond b x (still (refuse place Form))) (λ u. cond b (y u) (refuse place Form))
    wa-attributes place true x y h = h
    wa-attributes place false x y h = λ looks. tt

    mutual
      pub watches : (e : Expr) (c : Context) (d : Use sorts → Context) (M : ℕ → Option Sort) → HasTokens e → Moves sorts K M c d → Watches (put sorts) (looks_of e c) (λ u. elab e (d u))
      watches (atom l) c d M w h = wa-token M c d l.kind l.place l.text h
      watches (list place none close) c d M w h = λ looks. tt
      watches (list place (also first rest) close) c d M w h = watches_list (construct_of first) place first rest c d M w.1 h

      watches_list : (con : Construct) (place : ℕ) (first : Expr) (rest : Exprs) (c : Context) (d : Use sorts → Context) (M : ℕ → Option Sort) → HaveTokens rest → Moves sorts K M c d → Watches (put sorts) (looks_of_list con place first rest c) (λ u. elab_list con place first rest (d u))
      watches_list Let place first (also (list p pairs q) (also body none)) c d M w h =
          wa-pure (put sorts) (formed place (some_pairs (pairs_of pairs))) (λ _. looks_of_pairs pairs [] c ▷ λ names. looks_of body (record c { bound = names ++ c.bound })) (λ u _. elab_pairs pairs [] (d u) >>= λ names. elab body (record (d u) { bound = names ++ (d u).bound })) (λ _. Unit {0}) (unit sorts K (formed place (some_pairs (pairs_of pairs))))
          (λ _ _. wa-bind (put_named sorts) (put sorts) (looks_of_pairs pairs [] c) (elab_pairs pairs [] c) (λ u. elab_pairs pairs [] (d u)) (λ names. looks_of body (record c { bound = names ++ c.bound })) (λ u names. elab body (record (d u) { bound = names ++ (d u).bound })) (AllByRecursion (λ x. IsGood K (length sorts) M x.1))
          (makes_pairs pairs [] c)
          (ok-pairs K (length sorts) pairs [] c M w.0 tt h.good)
          (watches_pairs pairs [] c d M w.0 tt h)
          (λ names good. watches body (record c { bound = names ++ c.bound }) (λ u. record (d u) { bound = put_named sorts u names ++ (d u).bound }) M w.1.0 (moves-let sorts K M c d names h good)))
      watches_list (Quantified q) place first (also (list p pairs r) (also body none)) c d M w h =
          wa-along (put sorts) (looks_of_list (Quantified q) place first (also (list p pairs r) (also body none)) c) (λ u. elab_list (Quantified q) place first (also (list p pairs r) (also body none)) (d u)) (λ u. formed place (some_pairs (pairs_of pairs)) >>= λ variables. read_variables c.scope variables >>= λ xs. elab body (below_binders xs (d u)) >>= λ t. of_sort BoolSort (place_of body) t >>= λ formula. shallow place (closed q (d u).binders xs formula))
          (λ u. ap (λ s. formed place (some_pairs (pairs_of pairs)) >>= λ variables. read_variables s variables >>= λ xs. elab body (below_binders xs (d u)) >>= λ t. of_sort BoolSort (place_of body) t >>= λ formula. shallow place (closed q (d u).binders xs formula)) (h.scope u))
          (wa-pure (put sorts) (formed place (some_pairs (pairs_of pairs))) (λ variables. still (read_variables c.scope variables) ▷ λ xs. looks_of body (below_binders xs c) ▷ λ t. still (of_sort BoolSort (place_of body) t) ▷ λ formula. shallow_looks place (closed q c.binders xs formula))
          (λ u variables. read_variables c.scope variables >>= λ xs. elab body (below_binders xs (d u)) >>= λ t. of_sort BoolSort (place_of body) t >>= λ formula. shallow place (closed q (d u).binders xs formula)) (λ _. Unit {0}) (unit sorts K (formed place (some_pairs (pairs_of pairs))))
          (λ variables _. wa-pure (put sorts) (read_variables c.scope variables) (λ xs. looks_of body (below_binders xs c) ▷ λ t. still (of_sort BoolSort (place_of body) t) ▷ λ formula. shallow_looks place (closed q c.binders xs formula))
          (λ u xs. elab body (below_binders xs (d u)) >>= λ t. of_sort BoolSort (place_of body) t >>= λ formula. shallow place (closed q (d u).binders xs formula)) AreLawful (ok-variables K (length sorts) c.scope h.good.scope variables)
          (λ xs ls. wa-bind (put sorts) (put sorts) (looks_of body (below_binders xs c)) (elab body (below_binders xs c)) (λ u. elab body (below_binders xs (d u))) (λ t. still (of_sort BoolSort (place_of body) t) ▷ λ formula. shallow_looks place (closed q c.binders xs formula))
          (λ u t. of_sort BoolSort (place_of body) t >>= λ formula. shallow place (closed q (d u).binders xs formula)) (IsGood K (length sorts) (with_levels c.binders xs M))
          (makes body (below_binders xs c))
          (ok-elab K (length sorts) body (below_binders xs c) (with_levels c.binders xs M) w.1.0 (moves-below sorts K M c d xs h ls).good)
          (watches body (below_binders xs c) (λ u. below_binders xs (d u)) (with_levels c.binders xs M) w.1.0 (moves-below sorts K M c d xs h ls))
          (λ t good. wa-bind (put sorts) (put sorts) (still (of_sort BoolSort (place_of body) t)) (of_sort BoolSort (place_of body) t) (λ u. of_sort BoolSort (place_of body) (put sorts u t)) (λ formula. shallow_looks place (closed q c.binders xs formula)) (λ u formula. shallow place (closed q (d u).binders xs formula)) (λ _. Unit {0})
          (ma-still (of_sort BoolSort (place_of body) t))
          (unit sorts K (of_sort BoolSort (place_of body) t))
          (wa-of_sort BoolSort (place_of body) t (λ u. same-sort sorts u t K (with_levels c.binders xs M) (levels-begin sorts c.binders xs M h.good.from h.begin) good.0))
          (λ formula _. wa-closed q place xs c.binders (λ u. (d u).binders) formula h.good.from h.binders)))))
      watches_list Annotated place first (also term attributes) c d M w h =
          wa-attributes place (are_attributes attributes) (unless_misnamed_looks place (naming attributes) (looks_of term c)) (λ u. unless_misnamed place (naming attributes) (elab term (d u)))
          (wa-unless place (naming attributes) (looks_of term c) (λ u. elab term (d u)) (watches term c d M w.0 h))
      watches_list Indexed place first rest c d M w h = wa-indexed place (indexed_name (items rest))
      watches_list Application place first (also e es) c d M w h =
          wa-along (put sorts) (looks_of_list Application place first (also e es) c) (λ u. elab_list Application place first (also e es) (d u)) (λ u. head_of c.scope place first >>= λ head. elab e (d u) >>= λ t. elab_all es (d u) >>= λ ts. apply place (d u).binders head (t ∷ ts) >>= λ tree. shallow place tree)
          (λ u. ap (λ s. head_of s place first >>= λ head. elab e (d u) >>= λ t. elab_all es (d u) >>= λ ts. apply place (d u).binders head (t ∷ ts) >>= λ tree. shallow place tree) (h.scope u))
          (wa-pure (put sorts) (head_of c.scope place first) (λ head. looks_of e c ▷ λ t. looks_of_all es c ▷ λ ts. apply_looks place c.binders head (t ∷ ts) ▷ λ tree. shallow_looks place tree)
          (λ u head. elab e (d u) >>= λ t. elab_all es (d u) >>= λ ts. apply place (d u).binders head (t ∷ ts) >>= λ tree. shallow place tree) (IfMacro (FollowsBody sorts K))
          (macro-head (FollowsBody sorts K) c.scope place first h.entries)
          (λ head hh. wa-bind (put sorts) (put sorts) (looks_of e c) (elab e c) (λ u. elab e (d u)) (λ t. looks_of_all es c ▷ λ ts. apply_looks place c.binders head (t ∷ ts) ▷ λ tree. shallow_looks place tree)
          (λ u t. elab_all es (d u) >>= λ ts. apply place (d u).binders head (t ∷ ts) >>= λ tree. shallow place tree) (IsGood K (length sorts) M)
          (makes e c)
          (ok-elab K (length sorts) e c M w.0 h.good)
          (watches e c d M w.0 h)
          (λ t ht. wa-bind (λ u ts. map (put sorts u) ts) (put sorts) (looks_of_all es c) (elab_all es c) (λ u. elab_all es (d u)) (λ ts. apply_looks place c.binders head (t ∷ ts) ▷ λ tree. shallow_looks place tree)
          (λ u ts. apply place (d u).binders head (put sorts u t ∷ ts) >>= λ tree. shallow place tree) (AllByRecursion (IsGood K (length sorts) M))
          (makes_all es c)
          (ok-all K (length sorts) es c M w.1 h.good)
          (watches_all es c d M w.1 h)
          (λ ts hts. wa-bind (put sorts) (put sorts) (apply_looks place c.binders head (t ∷ ts)) (apply place c.binders head (t ∷ ts)) (λ u. apply place (d u).binders head (map (put sorts u) (t ∷ ts))) (λ tree. shallow_looks place tree) (λ u tree. shallow place tree) (λ _. Unit {0})
          (ma-added (apply place c.binders head (t ∷ ts)) (λ _ ls. use_of_head c.binders head (t ∷ ts) ++ ls))
          (unit sorts K (apply place c.binders head (t ∷ ts)))
          (wa-apply M place c.binders (λ u. (d u).binders) head (t ∷ ts) hh h.good.ends h.good.from h.begin h.binders (ht, hts))
          (λ tree _. wa-shallow place tree)))))
      watches_list _ place first rest c d M w h = λ looks. tt

      watches_all : (es : Exprs) (c : Context) (d : Use sorts → Context) (M : ℕ → Option Sort) → HaveTokens es → Moves sorts K M c d → Watches (λ u ts. map (put sorts u) ts) (looks_of_all es c) (λ u. elab_all es (d u))
      watches_all none c d M w h = wa-ok (λ u ts. map (put sorts u) ts) []
      watches_all (also e es) c d M w h =
          wa-bind (put sorts) (λ u ts. map (put sorts u) ts) (looks_of e c) (elab e c) (λ u. elab e (d u)) (λ t. looks_of_all es c ▷ λ ts. still (Ok (t ∷ ts))) (λ u t. elab_all es (d u) >>= λ ts. Ok (t ∷ ts)) (λ _. Unit {0})
          (makes e c) (unit sorts K (elab e c)) (watches e c d M w.0 h)
          (λ t _. wa-bind (λ u ts. map (put sorts u) ts) (λ u ts. map (put sorts u) ts) (looks_of_all es c) (elab_all es c) (λ u. elab_all es (d u)) (λ ts. still (Ok (t ∷ ts))) (λ u ts. Ok (put sorts u t ∷ ts)) (λ _. Unit {0})
          (makes_all es c) (unit sorts K (elab_all es c)) (watches_all es c d M w.1 h)
          (λ ts _. wa-ok (λ u ts. map (put sorts u) ts) (t ∷ ts)))

      watches_pairs : (pairs : Exprs) (names : Named Tree) (c : Context) (d : Use sorts → Context) (M : ℕ → Option Sort) → HaveTokens pairs → Unit {0} → Moves sorts K M c d → Watches (put_named sorts) (looks_of_pairs pairs names c) (λ u. elab_pairs pairs (put_named sorts u names) (d u))
      watches_pairs (also (list p (also (atom l) (also e none)) q) pairs) names c d M w _ h =
          wa-along (put_named sorts) (looks_of_pairs (also (list p (also (atom l) (also e none)) q) pairs) names c) (λ u. elab_pairs (also (list p (also (atom l) (also e none)) q) pairs) (put_named sorts u names) (d u)) (λ u. new_name l.place (unquoted l.text) names >>= λ name. elab e (d u) >>= λ t. elab_pairs pairs ((name, t) ∷ put_named sorts u names) (d u))
          (λ u. ap (λ b. cond b (refuse l.place RepeatedName) (Ok (unquoted l.text)) >>= λ name. elab e (d u) >>= λ t. elab_pairs pairs ((name, t) ∷ put_named sorts u names) (d u)) (found-alone sorts u (unquoted l.text) names))
          (wa-pure (put_named sorts) (new_name l.place (unquoted l.text) names) (λ name. looks_of e c ▷ λ t. looks_of_pairs pairs ((name, t) ∷ names) c) (λ u name. elab e (d u) >>= λ t. elab_pairs pairs ((name, t) ∷ put_named sorts u names) (d u)) (λ _. Unit {0}) (unit sorts K (new_name l.place (unquoted l.text) names))
          (λ name _. wa-bind (put sorts) (put_named sorts) (looks_of e c) (elab e c) (λ u. elab e (d u)) (λ t. looks_of_pairs pairs ((name, t) ∷ names) c) (λ u t. elab_pairs pairs ((name, t) ∷ put_named sorts u names) (d u)) (λ _. Unit {0})
          (makes e c) (unit sorts K (elab e c)) (watches e c d M w.0.1.0 h)
          (λ t _. watches_pairs pairs ((name, t) ∷ names) c d M w.1 tt h)))
      watches_pairs _ names c d M w _ h = wa-ok (put_named sorts) names
