-- The arguments of a use inside a definition's body are no deeper at a use of that body than the
-- limit, unless something that was looked at before fails there.
use Rattle.std.proofs.Common.{◌≡◌, ◌≤◌, ◌<◌, ℕ, suc, ◌⊎◌, inl, inr, Bool, true, false, cond, Option, Some, None, List, [], ◌∷◌, ◌++◌, length, slice_get, refl, sym, ap, subst, ◌∙◌, Ok, Err, arith, append_assoc}
use Rattle.std.specs.Prelude.{Result, IfOk, IfSome, IsErr, nat_le, nat_lt, codes, unwrap_or, ◌*◌, ◌^◌, drop}
use Rattle.std.specs.List.{AllByRecursion}
use Rattle.std.specs.Str.{bytes_eq}
use Rattle.std.proofs.lemmas.Bool.Decides.{nat_tests}
use Rattle.qv_text.specs.declared.kinds.TokenKind.{TokenKind}
use Rattle.qv_text.specs.declared.kinds.TokenKind.TheVariants.{Symbol, Hex, Binary}
use Rattle.qv_sexpr.specs.Script.{atom, list, none, also}
use Rattle.qv_sexpr.specs.Script.{Tree as Expr, Trees as Exprs}
use Rattle.qv_words.specs.declared.sort.Sort.{Sort}
use Rattle.qv_words.specs.declared.sort.Sort.TheVariants.{Bits}
use Rattle.qv_words.specs.declared.sort.Sort.TheVariants.{Bool as BoolSort}
use Rattle.qv_words.specs.Tree.{Tree, Variable, Literal}
use Rattle.qv_words.specs.Sorted.{no_levels}
use Rattle.qv_words.proofs.Leaves.{both}
use Rattle.qv_words.proofs.Elements.{all-at}
use Rattle.qv_elab_defs.specs.declared.faults.ElabKind.TheVariants.{Form, UnknownName, Width, DepthLimit}
use Rattle.qv_elab_defs.specs.Faults.{Fault, refuse, ◌>>=◌, moved, formed}
use Rattle.qv_elab_defs.specs.Tokens.{place_of, unquoted, items, number_of}
use Rattle.qv_elab_defs.specs.Written.{HasTokens, HaveTokens}
use Rattle.qv_elab_defs.specs.Shapes.{Construct, Let, Quantified, Annotated, Indexed, Application, construct_of, indexed_name, pairs_of, some_pairs, are_attributes, Naming, Unnamed, Misnamed, naming}
use Rattle.qv_elab_defs.specs.Shapes.{Named as NamedBy}
use Rattle.qv_elab_defs.specs.Scopes.{Entry, Constant, Definition, Synonym, Named, found, Context, with_variables, below_binders}
use Rattle.qv_elab_defs.specs.Heads.{Head, Macro, Distinct, Operator, head_of}
use Rattle.qv_elab_defs.specs.Applying.{depth_of, depth_limit, apply}
use Rattle.qv_elab_defs.specs.Leaves.{truth, indexed_literal}
use Rattle.qv_elab_defs.specs.Elaborating.{of_sort, read_variables, closed, new_name, elab, elab_all, elab_pairs}
use Rattle.qv_elab_defs.specs.Putting.{moved_level}
use Rattle.qv_elab_defs.specs.Looking.{Look, Deep, Used, Looking, still, ◌▷◌, shallow_looks, apply_looks, use_of_head, entry_looks, named_looks, token_looks, unless_misnamed_looks, looks_of, looks_of_list, looks_of_all, looks_of_pairs}
use Rattle.qv_elab_defs.proofs.OpenApplied.{IsGood}
use Rattle.qv_elab_defs.proofs.OpenElaborated.{Ends, IfDefinition, IsGoodEntry, with_levels, AreLawful, ok-elab, ok-all, ok-pairs, ok-variables, found-all}
use Rattle.qv_elab_defs.proofs.Alike.{Use, put, Begin}
use Rattle.qv_elab_defs.proofs.Following.{put_named, Outcome, Follows, FollowsBody, Moves, moves-below, moves-let, literal-only, unit}
use Rattle.qv_elab_defs.proofs.Looked.{Makes, ma-added, makes, makes_all, makes_pairs}
use Rattle.qv_elab_defs.proofs.Watching.{SomeFails, fails-right}

module _ (sorts : List Sort) (K : List Sort) where
  abbrev pub Small : Use sorts → Type 0
  Small u = AllByRecursion (λ a. depth_of a ≤ depth_limit) u.args

  -- a tree is no deeper than the limit at a use, unless one of these looks fails there
  abbrev pub Covered : List Look → Tree → Type 0
  Covered looks t = (u : Use sorts) → Small u → (depth_of (put sorts u t) ≤ depth_limit) ⊎ SomeFails sorts u looks

  -- trees at a place in the body, below so many binders
  pub record IsPlaced (b : ℕ) (ts : List Tree) : Type 0 where
    pub levels : ℕ → Option Sort
    pub ends : Ends levels b
    pub from : length sorts ≤ b
    pub begin : Begin sorts levels
    pub good : AllByRecursion (IsGood K (length sorts) levels) ts

  -- the arguments of the uses are covered by what is looked at before
  abbrev pub AreSound : List Look → Type 0
  AreSound [] = Unit {0}
  AreSound (Deep t ∷ looks) = AreSound looks
  AreSound (Used body b ts ∷ looks) = AllByRecursion (Covered looks) ts × IsPlaced b ts × AreSound looks

  pub record Extends (old new : List Look) : Type 0 where
    pub more : List Look
    pub behind : new ≡ more ++ old

  same-looks : (looks : List Look) → Extends looks looks
  same-looks looks = record { more = []; behind = refl }

  one-more : (w : Look) (looks : List Look) → Extends looks (w ∷ looks)
  one-more w looks = record { more = w ∷ []; behind = refl }

  both-more : (a b c : List Look) → Extends a b → Extends b c → Extends a c
  both-more a b c f s = record { more = s.more ++ f.more; behind = s.behind ∙ ap (λ ls. s.more ++ ls) f.behind ∙ sym (append_assoc s.more f.more a) }

  covered-more : (old new : List Look) → Extends old new → (t : Tree) → Covered old t → Covered new t
  covered-more old new x t h u small = go (h u small)
    where
      go : (depth_of (put sorts u t) ≤ depth_limit) ⊎ SomeFails sorts u old → (depth_of (put sorts u t) ≤ depth_limit) ⊎ SomeFails sorts u new
      go (inl le) = inl le
      go (inr f) = inr (subst (λ (ls : List Look). SomeFails sorts u ls) (sym x.behind) (fails-right sorts u x.more old f))

  covered-each : (old new : List Look) → Extends old new → (ts : List Tree) → AllByRecursion (Covered old) ts → AllByRecursion (Covered new) ts
  covered-each old new x [] h = tt
  covered-each old new x (t ∷ ts) h = (covered-more old new x t h.0, covered-each old new x ts h.1)

  covered-names : (old new : List Look) → Extends old new → (xs : Named Tree) → AllByRecursion (λ x. Covered old x.1) xs → AllByRecursion (λ x. Covered new x.1) xs
  covered-names old new x [] h = tt
  covered-names old new x (y ∷ ys) h = (covered-more old new x y.1 h.0, covered-names old new x ys h.1)

  -- what was made, behind these looks
  pub record IsSound {A : Type 0} (Q : List Look → A → Type 0) (looks : List Look) (r : A × List Look) : Type 0 where
    pub more : Extends looks r.1
    pub sound : AreSound r.1
    pub of : Q r.1 r.0

  so-pure : {A B : Type 0} (looks : List Look) (r : Result A Fault) (next : A → Looking B) (P : A → Type 0) (Q : List Look → B → Type 0) → IfOk r P → ((a : A) → P a → IfOk (next a looks) (IsSound Q looks)) → IfOk ((still r ▷ next) looks) (IsSound Q looks)
  so-pure looks (Ok a) next P Q h k = k a h
  so-pure looks (Err f) next P Q h k = tt

  so-bind : {A B : Type 0} (looks : List Look) (x : Looking A) (own : Result A Fault) (next : A → Looking B) (P : A → Type 0) (Q : List Look → A → Type 0) (Q' : List Look → B → Type 0) → Makes x own → IfOk own P → IfOk (x looks) (IsSound Q looks)
      → ((a : A) (ls : List Look) → P a → Extends looks ls → AreSound ls → Q ls a → IfOk (next a ls) (IsSound Q' ls)) → IfOk ((x ▷ next) looks) (IsSound Q' looks)
  so-bind {A} {B} looks x own next P Q Q' made p h k = go (x looks) (made looks) h
    where
      holds : (r : A × List Look) → Ok r.0 ≡ own → P r.0
      holds r e = let R : Result A Fault → Type 0 = λ q. IfOk q P in subst R (sym e) p

      go : (r : Result (A × List Look) Fault) → (r >>= λ z. Ok z.0) ≡ own → IfOk r (IsSound Q looks) → IfOk (r >>= λ z. next z.0 z.1) (IsSound Q' looks)
      go (Err f) e l = tt
      go (Ok r) e l = then (next r.0 r.1) (k r.0 r.1 (holds r e) l.more l.sound l.of)
        where
          then : (s : Result (B × List Look) Fault) → IfOk s (IsSound Q' r.1) → IfOk s (IsSound Q' looks)
          then (Err f) j = tt
          then (Ok s) j = record { more = both-more looks r.1 s.1 l.more j.more; sound = j.sound; of = j.of }

  so-shallow : (looks : List Look) (place : ℕ) (t : Tree) → AreSound looks → IfOk (shallow_looks place t looks) (IsSound Covered looks)
  so-shallow looks place t sound = go (nat_le (depth_of t) depth_limit)
    where
      covered : Covered (Deep t ∷ looks) t
      covered u small = by (nat_le (depth_of (put sorts u t)) depth_limit) refl
        where
          by : (b : Bool) → nat_le (depth_of (put sorts u t)) depth_limit ≡ b → (depth_of (put sorts u t) ≤ depth_limit) ⊎ SomeFails sorts u (Deep t ∷ looks)
          by true e = inl (grind (arith, nat_tests))
          by false e = let high : depth_limit < depth_of (put sorts u t) = grind (arith, nat_tests) in inr (inl high)

      go : (b : Bool) → IfOk {T = Tree × List Look} (cond b (Ok t) (refuse place DepthLimit) >>= λ tree. Ok (tree, Deep tree ∷ looks)) (IsSound Covered looks)
      go true = record { more = one-more (Deep t) looks; sound = sound; of = covered }
      go false = tt

  -- variables
  covered-variable : (looks : List Look) (l : ℕ) (s : Sort) → Covered looks (Variable l s)
  covered-variable looks l s u small = inl (go (nat_lt l (length sorts)))
    where
      at : (o : Option Tree) → slice_get u.args l ≡ o → depth_of (unwrap_or o (Variable l s)) ≤ depth_limit
      at None e = omega arith
      at (Some a) e = all-at (λ a. depth_of a ≤ depth_limit) u.args l a small e

      go : (b : Bool) → depth_of (cond b (unwrap_or (slice_get u.args l) (Variable l s)) (Variable (moved_level (length sorts) u.binders l) s)) ≤ depth_limit
      go true = at (slice_get u.args l) refl
      go false = omega arith

  pub covered-variables : (looks : List Look) (level : ℕ) (xs : Named Sort) (bound : Named Tree) → AllByRecursion (λ x. Covered looks x.1) bound → AllByRecursion (λ x. Covered looks x.1) (with_variables level xs bound)
  covered-variables looks level [] bound h = h
  covered-variables looks level (x ∷ xs) bound h = covered-variables looks (suc level) xs ((x.0, Variable level x.1) ∷ bound) (covered-variable looks level x.1, h)

  covered-truth : (looks : List Look) (b : Bool) → Covered looks (truth b)
  covered-truth looks b u small = inl (omega arith)

  -- tokens
  so-entry : (M : ℕ → Option Sort) (looks : List Look) (place : ℕ) (name : List ℕ) (b : ℕ) (o : Option Entry) → AreSound looks → Ends M b → length sorts ≤ b → Begin sorts M → IfSome o (IsGoodEntry K 0) → IfSome o (IfDefinition (FollowsBody sorts K)) → IfOk (entry_looks place name b o looks) (IsSound Covered looks)
  so-entry M looks place name b (Some (Constant i s)) sound e le g z h = record { more = same-looks looks; sound = sound; of = λ u small. inl (omega arith) }
  so-entry M looks place name b (Some (Definition [] body)) sound e le g z h = go (body b []) (h M b (λ u. moved_level (length sorts) u.binders b) [] e le g (λ u. refl) tt)
    where
      covered : (t : Tree) (ws : List Tree) → ((u : Use sorts) → Outcome sorts (put sorts) u ws t (body (moved_level (length sorts) u.binders b) [])) → Covered (Used body b [] ∷ looks) t
      covered t ws k u small = by (body (moved_level (length sorts) u.binders b) []) refl (k u) (z no_levels (moved_level (length sorts) u.binders b) [] (λ l le. refl) (omega arith) tt)
        where
          by : (r : Result Tree Fault) → body (moved_level (length sorts) u.binders b) [] ≡ r → Outcome sorts (put sorts) u ws t r → IfOk r (IsGood K 0 no_levels) → (depth_of (put sorts u t) ≤ depth_limit) ⊎ SomeFails sorts u (Used body b [] ∷ looks)
          by (Ok v) f o good = inl (subst (λ (w : Tree). depth_of w ≤ depth_limit) o.0 good.1)
          by (Err f) e o good = inr (inl (let R : Result Tree Fault → Type 0 = λ q. IsErr q in subst R (sym e) refl))

      go : (r : Result Tree Fault) → Follows sorts (put sorts) r (λ u. body (moved_level (length sorts) u.binders b) []) → IfOk {T = Tree × List Look} (moved place r >>= λ tree. Ok (tree, Used body b [] ∷ looks)) (IsSound Covered looks)
      go (Ok t) k = record { more = one-more (Used body b []) looks; sound = (tt, record { levels = M; ends = e; from = le; begin = g; good = tt }, sound); of = covered t k.0 k.2 }
      go (Err f) k = tt
  so-entry M looks place name b (Some (Definition (s ∷ ss) body)) sound e le g z h = tt
  so-entry M looks place name b (Some (Synonym s)) sound e le g z h = tt
  so-entry M looks place name b None sound e le g z h = go (bytes_eq name (codes "true")) (bytes_eq name (codes "false"))
    where
      go : (a d : Bool) → IfOk {T = Tree × List Look} (cond a (Ok (truth true)) (cond d (Ok (truth false)) (refuse place UnknownName)) >>= λ tree. Ok (tree, looks)) (IsSound Covered looks)
      go true d = record { more = same-looks looks; sound = sound; of = covered-truth looks true }
      go false true = record { more = same-looks looks; sound = sound; of = covered-truth looks false }
      go false false = tt

  so-token : (c : Context) (d : Use sorts → Context) (M : ℕ → Option Sort) (kind : TokenKind) (place : ℕ) (text : List ℕ) (looks : List Look) → Moves sorts K M c d → AllByRecursion (λ x. IsGoodEntry K 0 x.1) c.scope → AreSound looks → AllByRecursion (λ x. Covered looks x.1) c.bound
      → IfOk (token_looks kind place text c looks) (IsSound Covered looks)
  so-token c d M Symbol place text looks h z sound bound = go (found (unquoted text) c.bound) (found-all (Covered looks) (unquoted text) c.bound bound)
    where
      go : (o : Option Tree) → IfSome o (Covered looks) → IfOk (named_looks place (unquoted text) c o looks) (IsSound Covered looks)
      go (Some t) k = record { more = same-looks looks; sound = sound; of = k }
      go None k = so-entry M looks place (unquoted text) c.binders (found (unquoted text) c.scope) sound h.good.ends h.good.from h.begin (found-all (IsGoodEntry K 0) (unquoted text) c.scope z) (found-all (IfDefinition (FollowsBody sorts K)) (unquoted text) c.scope h.entries)
  so-token c d M Hex place text looks h z sound bound = digits (nat_le (4 * length (drop 2 text)) 128)
    where
      digits : (b : Bool) → IfOk {T = Tree × List Look} (cond b (Ok (Literal (Bits (4 * length (drop 2 text))) (number_of (2 ^ 4) (drop 2 text)))) (refuse place Width) >>= λ tree. Ok (tree, looks)) (IsSound Covered looks)
      digits true = record { more = same-looks looks; sound = sound; of = λ u small. inl (omega arith) }
      digits false = tt
  so-token c d M Binary place text looks h z sound bound = digits (nat_le (1 * length (drop 2 text)) 128)
    where
      digits : (b : Bool) → IfOk {T = Tree × List Look} (cond b (Ok (Literal (Bits (1 * length (drop 2 text))) (number_of (2 ^ 1) (drop 2 text)))) (refuse place Width) >>= λ tree. Ok (tree, looks)) (IsSound Covered looks)
      digits true = record { more = same-looks looks; sound = sound; of = λ u small. inl (omega arith) }
      digits false = tt
  so-token c d M _ place text looks h z sound bound = tt

  so-indexed : (place : ℕ) (looks : List Look) (r : Result Tree Fault) → IfOk r (λ t. (s : Sort) × (n : ℕ) × (t ≡ Literal s n)) → AreSound looks → IfOk (still r looks) (IsSound Covered looks)
  so-indexed place looks (Ok t) l sound = record { more = same-looks looks; sound = sound; of = subst (λ (v : Tree). Covered looks v) (sym l.2) (λ u small. inl (omega arith)) }
  so-indexed place looks (Err f) l sound = tt

  -- an application
  so-apply : (M : ℕ → Option Sort) (place b : ℕ) (head : Head) (ts : List Tree) (looks : List Look) → AreSound looks → AllByRecursion (Covered looks) ts → Ends M b → length sorts ≤ b → Begin sorts M → AllByRecursion (IsGood K (length sorts) M) ts
      → IfOk (apply_looks place b head ts looks) (IsSound (λ _ _. Unit {0}) looks)
  so-apply M place b head ts looks sound covered e le g good = go (apply place b head ts)
    where
      used : (head : Head) → AreSound (use_of_head b head ts ++ looks)
      used (Macro ps body) = (covered, record { levels = M; ends = e; from = le; begin = g; good = good }, sound)
      used Distinct = sound
      used (Operator o) = sound

      go : (r : Result Tree Fault) → IfOk {T = Tree × List Look} (r >>= λ tree. Ok (tree, use_of_head b head ts ++ looks)) (IsSound (λ _ _. Unit {0}) looks)
      go (Ok t) = record { more = record { more = use_of_head b head ts; behind = refl }; sound = used head; of = tt }
      go (Err f) = tt

  so-unless : (place : ℕ) (n : Naming) (x : Looking Tree) (looks : List Look) → IfOk (x looks) (IsSound Covered looks) → IfOk (unless_misnamed_looks place n x looks) (IsSound Covered looks)
  so-unless place Unnamed x looks h = h
  so-unless place (NamedBy name) x looks h = h
  so-unless place Misnamed x looks h = tt

  so-cond : (b : Bool) (place : ℕ) (x : Looking Tree) (looks : List Look) → IfOk (x looks) (IsSound Covered looks) → IfOk (cond b x (still (refuse place Form)) looks) (IsSound Covered looks)
  so-cond true place x looks h = h
  so-cond false place x looks h = tt

  mutual
    pub sounds : (e : Expr) (c : Context) (d : Use sorts → Context) (M : ℕ → Option Sort) (looks : List Look) → HasTokens e → Moves sorts K M c d → AllByRecursion (λ x. IsGoodEntry K 0 x.1) c.scope → AreSound looks → AllByRecursion (λ x. Covered looks x.1) c.bound
        → IfOk (looks_of e c looks) (IsSound Covered looks)
    sounds (atom l) c d M looks w h z sound bound = so-token c d M l.kind l.place l.text looks h z sound bound
    sounds (list place none close) c d M looks w h z sound bound = tt
    sounds (list place (also first rest) close) c d M looks w h z sound bound = sounds_list (construct_of first) place first rest c d M looks w.1 h z sound bound

    sounds_list : (con : Construct) (place : ℕ) (first : Expr) (rest : Exprs) (c : Context) (d : Use sorts → Context) (M : ℕ → Option Sort) (looks : List Look) → HaveTokens rest → Moves sorts K M c d → AllByRecursion (λ x. IsGoodEntry K 0 x.1) c.scope → AreSound looks → AllByRecursion (λ x. Covered looks x.1) c.bound
        → IfOk (looks_of_list con place first rest c looks) (IsSound Covered looks)
    sounds_list Let place first (also (list p pairs q) (also body none)) c d M looks w h z sound bound =
        so-pure looks (formed place (some_pairs (pairs_of pairs))) (λ _. looks_of_pairs pairs [] c ▷ λ names. looks_of body (record c { bound = names ++ c.bound })) (λ _. Unit {0}) Covered (unit sorts K (formed place (some_pairs (pairs_of pairs))))
        (λ _ _. so-bind looks (looks_of_pairs pairs [] c) (elab_pairs pairs [] c) (λ names. looks_of body (record c { bound = names ++ c.bound })) (AllByRecursion (λ x. IsGood K (length sorts) M x.1)) (λ ls. AllByRecursion (λ x. Covered ls x.1)) Covered
        (makes_pairs pairs [] c) (ok-pairs K (length sorts) pairs [] c M w.0 tt h.good) (sounds_pairs pairs [] c d M looks w.0 h z sound bound tt)
        (λ names ls good more sound' covered. sounds body (record c { bound = names ++ c.bound }) (λ u. record (d u) { bound = put_named sorts u names ++ (d u).bound }) M ls w.1.0 (moves-let sorts K M c d names h good) z sound'
        (both (λ x. Covered ls x.1) names c.bound covered (covered-names looks ls more c.bound bound))))
    sounds_list (Quantified q) place first (also (list p pairs r) (also body none)) c d M looks w h z sound bound =
        so-pure looks (formed place (some_pairs (pairs_of pairs))) (λ variables. still (read_variables c.scope variables) ▷ λ xs. looks_of body (below_binders xs c) ▷ λ t. still (of_sort BoolSort (place_of body) t) ▷ λ formula. shallow_looks place (closed q c.binders xs formula)) (λ _. Unit {0}) Covered (unit sorts K (formed place (some_pairs (pairs_of pairs))))
        (λ variables _. so-pure looks (read_variables c.scope variables) (λ xs. looks_of body (below_binders xs c) ▷ λ t. still (of_sort BoolSort (place_of body) t) ▷ λ formula. shallow_looks place (closed q c.binders xs formula)) AreLawful Covered (ok-variables K (length sorts) c.scope h.good.scope variables)
        (λ xs lawful. so-bind looks (looks_of body (below_binders xs c)) (elab body (below_binders xs c)) (λ t. still (of_sort BoolSort (place_of body) t) ▷ λ formula. shallow_looks place (closed q c.binders xs formula)) (λ _. Unit {0}) Covered Covered
        (makes body (below_binders xs c)) (unit sorts K (elab body (below_binders xs c)))
        (sounds body (below_binders xs c) (λ u. below_binders xs (d u)) (with_levels c.binders xs M) looks w.1.0 (moves-below sorts K M c d xs h lawful) z sound (covered-variables looks c.binders xs c.bound bound))
        (λ t ls _ more sound' covered. so-pure ls (of_sort BoolSort (place_of body) t) (λ formula. shallow_looks place (closed q c.binders xs formula)) (λ _. Unit {0}) Covered (unit sorts K (of_sort BoolSort (place_of body) t))
        (λ formula _. so-shallow ls place (closed q c.binders xs formula) sound'))))
    sounds_list Annotated place first (also term attributes) c d M looks w h z sound bound =
        so-cond (are_attributes attributes) place (unless_misnamed_looks place (naming attributes) (looks_of term c)) looks (so-unless place (naming attributes) (looks_of term c) looks (sounds term c d M looks w.0 h z sound bound))
    sounds_list Indexed place first rest c d M looks w h z sound bound = so-indexed place looks (indexed_literal place (indexed_name (items rest))) (literal-only sorts K place (indexed_name (items rest))) sound
    sounds_list Application place first (also e es) c d M looks w h z sound bound =
        so-pure looks (head_of c.scope place first) (λ head. looks_of e c ▷ λ t. looks_of_all es c ▷ λ ts. apply_looks place c.binders head (t ∷ ts) ▷ λ tree. shallow_looks place tree) (λ _. Unit {0}) Covered (unit sorts K (head_of c.scope place first))
        (λ head _. so-bind looks (looks_of e c) (elab e c) (λ t. looks_of_all es c ▷ λ ts. apply_looks place c.binders head (t ∷ ts) ▷ λ tree. shallow_looks place tree) (IsGood K (length sorts) M) Covered Covered
        (makes e c) (ok-elab K (length sorts) e c M w.0 h.good) (sounds e c d M looks w.0 h z sound bound)
        (λ t ls ht more sound' covered. so-bind ls (looks_of_all es c) (elab_all es c) (λ ts. apply_looks place c.binders head (t ∷ ts) ▷ λ tree. shallow_looks place tree) (AllByRecursion (IsGood K (length sorts) M)) (λ ls ts. AllByRecursion (Covered ls) ts) Covered
        (makes_all es c) (ok-all K (length sorts) es c M w.1 h.good) (sounds_all es c d M ls w.1 h z sound' (covered-names looks ls more c.bound bound))
        (λ ts ls2 hts more2 sound2 all. so-bind ls2 (apply_looks place c.binders head (t ∷ ts)) (apply place c.binders head (t ∷ ts)) (λ tree. shallow_looks place tree) (λ _. Unit {0}) (λ _ _. Unit {0}) Covered
        (ma-added (apply place c.binders head (t ∷ ts)) (λ _ ls. use_of_head c.binders head (t ∷ ts) ++ ls)) (unit sorts K (apply place c.binders head (t ∷ ts)))
        (so-apply M place c.binders head (t ∷ ts) ls2 sound2 (covered-more ls ls2 more2 t covered, all) h.good.ends h.good.from h.begin (ht, hts))
        (λ tree ls3 _ more3 sound3 _. so-shallow ls3 place tree sound3))))
    sounds_list _ place first rest c d M looks w h z sound bound = tt

    sounds_all : (es : Exprs) (c : Context) (d : Use sorts → Context) (M : ℕ → Option Sort) (looks : List Look) → HaveTokens es → Moves sorts K M c d → AllByRecursion (λ x. IsGoodEntry K 0 x.1) c.scope → AreSound looks → AllByRecursion (λ x. Covered looks x.1) c.bound
        → IfOk (looks_of_all es c looks) (IsSound (λ ls ts. AllByRecursion (Covered ls) ts) looks)
    sounds_all none c d M looks w h z sound bound = record { more = same-looks looks; sound = sound; of = tt }
    sounds_all (also e es) c d M looks w h z sound bound =
        so-bind looks (looks_of e c) (elab e c) (λ t. looks_of_all es c ▷ λ ts. still (Ok (t ∷ ts))) (λ _. Unit {0}) Covered (λ ls ts. AllByRecursion (Covered ls) ts)
        (makes e c) (unit sorts K (elab e c)) (sounds e c d M looks w.0 h z sound bound)
        (λ t ls _ more sound' covered. so-bind ls (looks_of_all es c) (elab_all es c) (λ ts. still (Ok (t ∷ ts))) (λ _. Unit {0}) (λ ls ts. AllByRecursion (Covered ls) ts) (λ ls ts. AllByRecursion (Covered ls) ts)
        (makes_all es c) (unit sorts K (elab_all es c)) (sounds_all es c d M ls w.1 h z sound' (covered-names looks ls more c.bound bound))
        (λ ts ls2 _ more2 sound2 all. record { more = same-looks ls2; sound = sound2; of = (covered-more ls ls2 more2 t covered, all) }))

    sounds_pairs : (pairs : Exprs) (names : Named Tree) (c : Context) (d : Use sorts → Context) (M : ℕ → Option Sort) (looks : List Look) → HaveTokens pairs → Moves sorts K M c d → AllByRecursion (λ x. IsGoodEntry K 0 x.1) c.scope → AreSound looks → AllByRecursion (λ x. Covered looks x.1) c.bound → AllByRecursion (λ x. Covered looks x.1) names
        → IfOk (looks_of_pairs pairs names c looks) (IsSound (λ ls. AllByRecursion (λ x. Covered ls x.1)) looks)
    sounds_pairs (also (list p (also (atom l) (also e none)) q) pairs) names c d M looks w h z sound bound before =
        so-pure looks (new_name l.place (unquoted l.text) names) (λ name. looks_of e c ▷ λ t. looks_of_pairs pairs ((name, t) ∷ names) c) (λ _. Unit {0}) (λ ls. AllByRecursion (λ x. Covered ls x.1)) (unit sorts K (new_name l.place (unquoted l.text) names))
        (λ name _. so-bind looks (looks_of e c) (elab e c) (λ t. looks_of_pairs pairs ((name, t) ∷ names) c) (λ _. Unit {0}) Covered (λ ls. AllByRecursion (λ x. Covered ls x.1))
        (makes e c) (unit sorts K (elab e c)) (sounds e c d M looks w.0.1.0 h z sound bound)
        (λ t ls _ more sound' covered. sounds_pairs pairs ((name, t) ∷ names) c d M ls w.1 h z sound' (covered-names looks ls more c.bound bound) (covered, covered-names looks ls more names before)))
    sounds_pairs _ names c d M looks w h z sound bound before = record { more = same-looks looks; sound = sound; of = before }
