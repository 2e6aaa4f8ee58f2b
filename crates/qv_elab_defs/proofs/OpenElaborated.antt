-- What expressions stand for is open where they stand.
use Rattle.std.proofs.Common.{◌≡◌, ◌≤◌, ◌<◌, ◌+◌, ℕ, suc, ◌==◌, ◌&&◌, not, Bool, true, false, cond, Option, Some, None, List, [], ◌∷◌, ◌++◌, map, length, take, drop, refl, sym, ap, subst, ◌∙◌, Ok, Err, arith}
use Rattle.std.specs.Prelude.{Result, IfOk, IfSome, option_and_then, nat_le, nat_lt, codes, ◌*◌, ◌^◌, ◌-◌, fold}
use Rattle.std.specs.List.{AllByRecursion}
use Rattle.std.specs.Str.{bytes_eq}
use Rattle.std.proofs.lemmas.Bool.Decides.{nat_tests}
use Rattle.std.proofs.lemmas.Nat.{pow-add}
use Rattle.std.proofs.Math.Nat.{mul-le-mul, mul-le-mul_right, suc-mul, mul-suc, mul-zero, add-zero, zero-add}
use Rattle.qv_text.specs.declared.kinds.TokenKind.{TokenKind}
use Rattle.qv_text.specs.declared.kinds.TokenKind.TheVariants.{Symbol, Hex, Binary}
use Rattle.qv_text.specs.Bytes.{is_digit, is_binary, is_hex}
use Rattle.qv_text.specs.Grammar.{Each, SomeOf, IsWhole}
use Rattle.qv_sexpr.specs.Script.{atom, list, none, also}
use Rattle.qv_sexpr.specs.Script.{Tree as Expr, Trees as Exprs}
use Rattle.qv_words.specs.declared.sort.Sort.{Sort}
use Rattle.qv_words.specs.declared.sort.Sort.TheVariants.{Bits}
use Rattle.qv_words.specs.declared.sort.Sort.TheVariants.{Bool as BoolSort}
use Rattle.qv_words.specs.declared.op.Op.{Op}
use Rattle.qv_words.specs.Sort.{IsLawful, IsValueOf}
use Rattle.qv_words.specs.Rank.{sort_eq}
use Rattle.qv_words.specs.Tree.{Tree, Variable, Literal, tree_sort}
use Rattle.qv_words.specs.Sorted.{with_level}
use Rattle.qv_words.proofs.Equals.{sort_eq-is, test-refl, eq-from_test}
use Rattle.qv_words.proofs.Elements.{all-weaker}
use Rattle.qv_words.proofs.Leaves.{at_level, past_level, both}
use Rattle.qv_sorts.specs.Search.{operator_named, with_indices}
use Rattle.qv_elab_defs.specs.declared.faults.ElabKind.TheVariants.{Form, Sorts, Width, Arity, UnknownName, Index}
use Rattle.qv_elab_defs.specs.declared.faults.ElabKind.TheVariants.{Literal as TooLarge}
use Rattle.qv_elab_defs.specs.Faults.{Fault, refuse, ◌>>=◌, at, moved, formed}
use Rattle.qv_elab_defs.specs.Tokens.{Number, place_of, unquoted, items, symbol_of, digit_value, number_of, wanted, all_wanted}
use Rattle.qv_elab_defs.specs.Written.{HasTokens, HaveTokens}
use Rattle.qv_elab_defs.specs.Shapes.{Quantifier, Universal, Existential, Construct, Let, Quantified, Annotated, Indexed, Application, construct_of, IndexedName, indexed_name, Pair, pairs_of, some_pairs, are_attributes, Naming, Unnamed, Misnamed, naming}
use Rattle.qv_elab_defs.specs.Shapes.{Named as NamedBy}
use Rattle.qv_elab_defs.specs.Scopes.{Entry, Constant, Definition, Synonym, Named, Scope, found, sort_key, Context, with_variables, below_binders}
use Rattle.qv_elab_defs.specs.Synonyms.{sort_found, sort_entry, scoped_sort}
use Rattle.qv_elab_defs.specs.Heads.{Head, Macro, Distinct, Operator, HeadName, bare, operator, head_operator, head_entry, head_named, head_symbol, head_indexed, head_listed, head_of}
use Rattle.qv_elab_defs.specs.Applying.{sort_of, shallow, are_sorts_eq, fitting, distinct, application, apply}
use Rattle.qv_elab_defs.specs.Leaves.{truth, digits_literal, truth_named, entry_tree, named_tree, token_tree, is_decimal, value_literal, indexed_literal}
use Rattle.qv_elab_defs.specs.Elaborating.{of_sort, read_variables, quantified, closed, new_name, unless_misnamed, elab, elab_list, elab_all, elab_pairs}
pub use Rattle.qv_elab_defs.specs.OpenTrees.{Ends, IsGoodBody, IsGoodEntry, IsGoodContext, with_levels, AreLawful}
use Rattle.qv_elab_defs.proofs.LawfulSorts.{sorts-are-lawful}
use Rattle.qv_elab_defs.proofs.Opened.{IsOpen, Within, wider, open-sort}
use Rattle.qv_elab_defs.proofs.OpenApplied.{IsGood, ok-bind, ok-behind, ok-at, ok-moved, ok-application, ok-distinct, ok-shallow}

-- of a head that is a definition
abbrev pub IfMacro : ((ℕ → List Tree → Result Tree Fault) → Type 0) → Head → Type 0
IfMacro Q (Macro ss body) = Q body
IfMacro Q Distinct = Unit {0}
IfMacro Q (Operator o) = Unit {0}

-- of a name that is a definition's
abbrev pub IfDefinition : ((ℕ → List Tree → Result Tree Fault) → Type 0) → Entry → Type 0
IfDefinition Q (Constant i s) = Unit {0}
IfDefinition Q (Definition ss body) = Q body
IfDefinition Q (Synonym s) = Unit {0}

-- what is found is one of them
pub found-all : {A : Type 0} (P : A → Type 0) (name : List ℕ) (xs : Named A) → AllByRecursion (λ x. P x.1) xs → IfSome (found name xs) P
found-all P name [] h = tt
found-all {A} P name (x ∷ xs) h = go (bytes_eq x.0 name) (found name xs) (found-all P name xs h.1)
  where
    go : (b : Bool) (o : Option A) → IfSome o P → IfSome (cond b (Some x.1) o) P
    go true o k = h.0
    go false o k = k

next-ends : (M : ℕ → Option Sort) (level : ℕ) (s : Sort) → Ends M level → Ends (with_level M level s) (suc level)
next-ends M level s h l le =
    let other : (l == level) ≡ false = grind (arith, nat_tests) in
    let below : level ≤ l = omega arith in
    past_level M level s l other ∙ h l below

next-within : (M : ℕ → Option Sort) (level : ℕ) (s : Sort) → Ends M level → Within M (with_level M level s)
next-within M level s h l u e = go (l == level) refl
  where
    go : (b : Bool) → (l == level) ≡ b → cond b (Some s) (M l) ≡ Some u
    go true t =
        let same : l ≡ level = eq-from_test l level t in
        let le : level ≤ l = omega arith in
        let nothing = h l le in
        absurd (cc)
    go false t = e

pub levels-end : (level : ℕ) (xs : Named Sort) (M : ℕ → Option Sort) → Ends M level → Ends (with_levels level xs M) (level + length xs)
levels-end level [] M h = λ l le. h l (omega arith)
levels-end level (x ∷ xs) M h = λ l le. levels-end (suc level) xs (with_level M level x.1) (next-ends M level x.1 h) l (omega arith)

-- a head that is a definition is one of the scope
module _ (Q : (ℕ → List Tree → Result Tree Fault) → Type 0) where
  macro-bare : (h : HeadName) (head : Head) (ns : List Number) → IfMacro Q head → IfOk (bare h head ns) (IfMacro Q)
  macro-bare h head [] g = g
  macro-bare h head (n ∷ ns) g = ok-behind (all_wanted (n ∷ ns)) (λ _. refuse h.head_place Index) (IfMacro Q) (λ _. tt)

  macro-indexed_operator : (h : HeadName) (o : Option Op) → IfOk (operator h o) (IfMacro Q)
  macro-indexed_operator h (Some o) = tt
  macro-indexed_operator h None = tt

  macro-operator : (h : HeadName) (o : Option Op) → IfOk (head_operator h o) (IfMacro Q)
  macro-operator h (Some o) = ok-behind (all_wanted h.indices) (λ ns. operator h (with_indices o ns)) (IfMacro Q) (λ ns. macro-indexed_operator h (with_indices o ns))
  macro-operator h None = go (bytes_eq h.name (codes "distinct"))
    where
      go : (b : Bool) → IfOk (cond b (bare h Distinct h.indices) (refuse h.place UnknownName)) (IfMacro Q)
      go true = macro-bare h Distinct h.indices tt
      go false = tt

  macro-entry : (h : HeadName) (o : Option Entry) → IfSome o (IfDefinition Q) → IfOk (head_entry h o) (IfMacro Q)
  macro-entry h (Some (Definition ss body)) g = macro-bare h (Macro ss body) h.indices g
  macro-entry h (Some (Constant i s)) g = macro-operator h (operator_named h.name)
  macro-entry h (Some (Synonym s)) g = macro-operator h (operator_named h.name)
  macro-entry h None g = macro-operator h (operator_named h.name)

  macro-named : (scope : Scope) (h : HeadName) → AllByRecursion (λ x. IfDefinition Q x.1) scope → IfOk (head_named scope h) (IfMacro Q)
  macro-named scope h g = macro-entry h (found h.name scope) (found-all (IfDefinition Q) h.name scope g)

  macro-symbol : (scope : Scope) (place p : ℕ) (o : Option (List ℕ)) → AllByRecursion (λ x. IfDefinition Q x.1) scope → IfOk (head_symbol scope place p o) (IfMacro Q)
  macro-symbol scope place p (Some name) g = macro-named scope (record { head_place = p; place = p; name = name; indices = [] }) g
  macro-symbol scope place p None g = tt

  macro-indexed : (scope : Scope) (p : ℕ) (o : Option IndexedName) → AllByRecursion (λ x. IfDefinition Q x.1) scope → IfOk (head_indexed scope p o) (IfMacro Q)
  macro-indexed scope p (Some i) g = macro-named scope (record { head_place = p; place = i.place; name = i.name; indices = i.first ∷ i.others }) g
  macro-indexed scope p None g = tt

  macro-listed : (con : Construct) (scope : Scope) (place p : ℕ) (others : List Expr) → AllByRecursion (λ x. IfDefinition Q x.1) scope → IfOk (head_listed con scope place p others) (IfMacro Q)
  macro-listed Indexed scope place p others g = macro-indexed scope p (indexed_name others) g
  macro-listed _ scope place p others g = tt

  pub macro-head : (scope : Scope) (place : ℕ) (e : Expr) → AllByRecursion (λ x. IfDefinition Q x.1) scope → IfOk (head_of scope place e) (IfMacro Q)
  macro-head scope place (atom l) g = macro-symbol scope place l.place (symbol_of (atom l)) g
  macro-head scope place (list p none q) g = tt
  macro-head scope place (list p (also first others) q) g = macro-listed (construct_of first) scope place p (items others) g

-- a good entry that is a definition
good-definition : (K : List Sort) (low : ℕ) (x : List ℕ × Entry) → IsGoodEntry K low x.1 → IfDefinition (IsGoodBody K low) x.1
good-definition K low x h = go x.1 h
  where
    go : (e : Entry) → IsGoodEntry K low e → IfDefinition (IsGoodBody K low) e
    go (Constant i s) g = tt
    go (Definition ss body) g = g
    go (Synonym s) g = tt

module _ (K : List Sort) (low : ℕ) where
  wider-good : (M N : ℕ → Option Sort) → Within M N → (t : Tree) → IsGood K low M t → IsGood K low N t
  wider-good M N w t h = (wider t K low M N w h.0, h.1)

  wider-bound : (M N : ℕ → Option Sort) → Within M N → (xs : Named Tree) → AllByRecursion (λ x. IsGood K low M x.1) xs → AllByRecursion (λ x. IsGood K low N x.1) xs
  wider-bound M N w [] h = tt
  wider-bound M N w (x ∷ xs) h = (wider-good M N w x.1 h.0, wider-bound M N w xs h.1)

  good-variable : (M : ℕ → Option Sort) (level : ℕ) (s : Sort) → IsLawful s → IsGood K low (with_level M level s) (Variable level s)
  good-variable M level s h = ((h, at_level M level s level (test-refl level)), omega arith)

  pub good-variables : (xs : Named Sort) (level : ℕ) (M : ℕ → Option Sort) (bound : Named Tree) → AreLawful xs → Ends M level → AllByRecursion (λ x. IsGood K low M x.1) bound → AllByRecursion (λ x. IsGood K low (with_levels level xs M) x.1) (with_variables level xs bound)
  good-variables [] level M bound l e h = h
  good-variables (x ∷ xs) level M bound l e h =
      good-variables xs (suc level) (with_level M level x.1) ((x.0, Variable level x.1) ∷ bound) l.1 (next-ends M level x.1 e)
      (good-variable M level x.1 l.0, wider-bound M (with_level M level x.1) (next-within M level x.1 e) bound h)

  pub good-below : (M : ℕ → Option Sort) (c : Context) (xs : Named Sort) → IsGoodContext K low M c → AreLawful xs → IsGoodContext K low (with_levels c.binders xs M) (below_binders xs c)
  good-below M c xs g l = record {
    scope = g.scope;
    bound = good-variables xs c.binders M c.bound l g.ends g.bound;
    ends = levels-end c.binders xs M g.ends;
    from = let h = g.from in omega arith;
  }

  open-quantified : (q : Quantifier) (M : ℕ → Option Sort) (level : ℕ) (s : Sort) (t : Tree) → IsLawful s → low ≤ level → IsOpen K low (with_level M level s) t → tree_sort t ≡ Some BoolSort → IsOpen K low M (quantified q level s t) × (tree_sort (quantified q level s t) ≡ Some BoolSort)
  open-quantified Universal M level s t l le h e = ((l, le, h, e), rw e)
  open-quantified Existential M level s t l le h e = ((l, le, h, e), rw e)

  pub open-closed : (q : Quantifier) (xs : Named Sort) (M : ℕ → Option Sort) (level : ℕ) (t : Tree) → AreLawful xs → low ≤ level → IsOpen K low (with_levels level xs M) t → tree_sort t ≡ Some BoolSort → IsOpen K low M (closed q level xs t) × (tree_sort (closed q level xs t) ≡ Some BoolSort)
  open-closed q [] M level t l le h e = (h, e)
  open-closed q (x ∷ xs) M level t l le h e =
      let inside = open-closed q xs (with_level M level x.1) (suc level) t l.1 (omega arith) h e in
      open-quantified q M level x.1 (closed q (suc level) xs t) l.0 le inside.0 inside.1

  pub ok-of_sort : (M : ℕ → Option Sort) (s : Sort) (place : ℕ) (t : Tree) → IsGood K low M t → IfOk (of_sort s place t) (λ u. IsGood K low M u × (tree_sort u ≡ Some s))
  ok-of_sort M s place t h = go (sort_eq s (sort_of t)) refl
    where
      go : (b : Bool) → sort_eq s (sort_of t) ≡ b → IfOk (cond b (Ok t) (refuse place Sorts)) (λ u. IsGood K low M u × (tree_sort u ≡ Some s))
      go true e = (h, open-sort t K low M h.0 ∙ ap Some (sym (sort_eq-is s (sort_of t) e)))
      go false e = tt

  -- literals
  good-literal : (M : ℕ → Option Sort) (s : Sort) (n : ℕ) → IsLawful s → IsValueOf n s → IsGood K low M (Literal s n)
  good-literal M s n l v = ((l, v), omega arith)

  good-truth : (M : ℕ → Option Sort) (b : Bool) → IsGood K low M (truth b)
  good-truth M true = good-literal M BoolSort 1 (omega arith, omega arith) (omega arith)
  good-truth M false = good-literal M BoolSort 0 (omega arith, omega arith) (omega arith)

  ok-value : (M : ℕ → Option Sort) (place n w : ℕ) → IfOk (value_literal place n w) (IsGood K low M)
  ok-value M place n w = go (nat_le 1 w && nat_le w 128) refl (nat_lt n (2 ^ w)) refl
    where
      go : (b : Bool) → (nat_le 1 w && nat_le w 128) ≡ b → (d : Bool) → nat_lt n (2 ^ w) ≡ d → IfOk (cond (not b) (refuse place Width) (cond d (Ok (Literal (Bits w) n)) (refuse place TooLarge))) (IsGood K low M)
      go false e d f = tt
      go true e false f = tt
      go true e true f =
          let low : 1 ≤ w = grind (arith, nat_tests) in
          let high : w ≤ 128 = grind (arith, nat_tests) in
          let small : n < 2 ^ w = grind (arith, nat_tests) in
          good-literal M (Bits w) n (low, high) small

  pub ok-indexed : (M : ℕ → Option Sort) (place : ℕ) (i : Option IndexedName) → IfOk (indexed_literal place i) (IsGood K low M)
  ok-indexed M place None = tt
  ok-indexed M place (Some i) = go (bytes_eq (take 2 i.name) (codes "bv") && is_decimal (drop 2 i.name) && length i.others == 0)
    where
      go : (b : Bool) → IfOk (cond b (wanted i.first >>= λ w. value_literal place (number_of 10 (drop 2 i.name)) w) (refuse place Form)) (IsGood K low M)
      go true = ok-behind (wanted i.first) (λ w. value_literal place (number_of 10 (drop 2 i.name)) w) (IsGood K low M) (λ w. ok-value M place (number_of 10 (drop 2 i.name)) w)
      go false = tt

  pub small-hex : (b : ℕ) → is_hex b ≡ true → digit_value b < 2 ^ 4
  unfolding is_hex is_digit
  small-hex b e = go (nat_le b 57) refl (nat_le b 70) refl
    where
      go : (c : Bool) → nat_le b 57 ≡ c → (d : Bool) → nat_le b 70 ≡ d → cond c (b - 48) (cond d (b - 55) (b - 87)) < 2 ^ 4
      go true f d g = let le : b ≤ 57 = grind (arith, nat_tests) in omega arith
      go false f true g = let le : b ≤ 70 = grind (arith, nat_tests) in omega arith
      go false f false g = let le : b ≤ 102 = grind (arith, nat_tests) in omega arith

  pub small-binary : (b : ℕ) → is_binary b ≡ true → digit_value b < 2 ^ 1
  unfolding is_binary
  small-binary b e =
      let le : b ≤ 49 = grind (arith, nat_tests) in
      go (nat_le b 57) refl le
    where
      go : (c : Bool) → nat_le b 57 ≡ c → b ≤ 49 → cond c (b - 48) (cond (nat_le b 70) (b - 55) (b - 87)) < 2 ^ 1
      go true f le = omega arith
      go false f le = absurd (grind (arith, nat_tests))

  -- what digits write
  below-more : (n d k bits : ℕ) → n < 2 ^ k → d < 2 ^ bits → n * 2 ^ bits + d < 2 ^ (k + bits)
  below-more n d k bits h g = rw (pow-add 2 k bits) (go n d (2 ^ k) (2 ^ bits) h g)
    where
      go : (n d A B : ℕ) → n < A → d < B → n * B + d < A * B
      go n d A B h g =
          let up : suc n * B ≤ A * B = mul-le-mul_right B h in
          let step : suc n * B ≡ n * B + B = suc-mul n B in
          omega arith

  below-width : (bits : ℕ) (small : ℕ → Bool) → ((b : ℕ) → small b ≡ true → digit_value b < 2 ^ bits) → (ds : List ℕ) (n k : ℕ) → Each small ds → n < 2 ^ k → fold (λ n b. n * 2 ^ bits + digit_value b) n ds < 2 ^ (k + bits * length ds)
  below-width bits small each [] n k e h = rw (mul-zero bits, add-zero k) h
  below-width bits small each (d ∷ ds) n k e h =
      let more = below-width bits small each ds (n * 2 ^ bits + digit_value d) (k + bits) e.1 (below-more n (digit_value d) k bits h (each d e.0)) in
      let same : k + bits + bits * length ds ≡ k + bits * length (d ∷ ds) = rw (mul-suc bits (length ds)) (omega arith) in
      subst (λ m. fold (λ n b. n * 2 ^ bits + digit_value b) (n * 2 ^ bits + digit_value d) ds < 2 ^ m) same more

  pub ok-digits : (M : ℕ → Option Sort) (place bits : ℕ) (small : ℕ → Bool) (digits : List ℕ) → 1 ≤ bits → ((b : ℕ) → small b ≡ true → digit_value b < 2 ^ bits) → SomeOf small digits → IfOk (digits_literal place bits digits) (IsGood K low M)
  ok-digits M place bits small digits one each some = go (nat_le (bits * length digits) 128) refl
    where
      go : (b : Bool) → nat_le (bits * length digits) 128 ≡ b → IfOk (cond b (Ok (Literal (Bits (bits * length digits)) (number_of (2 ^ bits) digits))) (refuse place Width)) (IsGood K low M)
      go false e = tt
      go true e =
          let high : bits * length digits ≤ 128 = grind (arith, nat_tests) in
          let low : 1 * 1 ≤ bits * length digits = mul-le-mul one some.0 in
          let low : 1 ≤ bits * length digits = omega arith in
          let none : 0 < 2 ^ 0 = omega arith in
          let below = below-width bits small each digits 0 0 some.1 none in
          good-literal M (Bits (bits * length digits)) (number_of (2 ^ bits) digits) (low, high) (subst (λ m. number_of (2 ^ bits) digits < 2 ^ m) (zero-add (bits * length digits)) below)

  -- names
  ok-truth : (M : ℕ → Option Sort) (place : ℕ) (name : List ℕ) → IfOk (truth_named place name) (IsGood K low M)
  ok-truth M place name = go (bytes_eq name (codes "true")) (bytes_eq name (codes "false"))
    where
      go : (a b : Bool) → IfOk (cond a (Ok (truth true)) (cond b (Ok (truth false)) (refuse place UnknownName))) (IsGood K low M)
      go true b = good-truth M true
      go false true = good-truth M false
      go false false = tt

  ok-entry : (M : ℕ → Option Sort) (place : ℕ) (name : List ℕ) (b : ℕ) (o : Option Entry) → Ends M b → low ≤ b → IfSome o (IsGoodEntry K low) → IfOk (entry_tree place name b o) (IsGood K low M)
  ok-entry M place name b (Some (Constant i s)) e le h = (h, omega arith)
  ok-entry M place name b (Some (Definition [] body)) e le h = ok-moved place (body b []) (IsGood K low M) (h M b [] e le tt)
  ok-entry M place name b (Some (Definition (s ∷ ss) body)) e le h = tt
  ok-entry M place name b (Some (Synonym s)) e le h = tt
  ok-entry M place name b None e le h = ok-truth M place name

  pub ok-named : (M : ℕ → Option Sort) (place : ℕ) (name : List ℕ) (c : Context) (o : Option Tree) → IsGoodContext K low M c → IfSome o (IsGood K low M) → IfOk (named_tree place name c o) (IsGood K low M)
  ok-named M place name c (Some t) g h = h
  ok-named M place name c None g h = ok-entry M place name c.binders (found name c.scope) g.ends g.from (found-all (IsGoodEntry K low) name c.scope g.scope)

  pub ok-token : (M : ℕ → Option Sort) (kind : TokenKind) (place : ℕ) (text : List ℕ) (c : Context) → IsGoodContext K low M c → IsWhole kind text → IfOk (token_tree kind place text c) (IsGood K low M)
  ok-token M Symbol place text c g w = ok-named M place (unquoted text) c (found (unquoted text) c.bound) g (found-all (IsGood K low M) (unquoted text) c.bound g.bound)
  ok-token M Hex place text c g w =
      subst (λ (t : List ℕ). IfOk (token_tree Hex place t c) (IsGood K low M)) (sym w.1) (ok-digits M place 4 is_hex w.0 (omega arith) small-hex w.2)
  ok-token M Binary place text c g w =
      subst (λ (t : List ℕ). IfOk (token_tree Binary place t c) (IsGood K low M)) (sym w.1) (ok-digits M place 1 is_binary w.0 (omega arith) small-binary w.2)
  ok-token M _ place text c g w = tt

  -- applications
  opens : (M : ℕ → Option Sort) (ts : List Tree) → AllByRecursion (IsGood K low M) ts → AllByRecursion (IsOpen K low M) ts
  opens M [] h = tt
  opens M (t ∷ ts) h = (h.0.0, opens M ts h.1)

  ok-fitting : (M : ℕ → Option Sort) (ss : List Sort) (ts : List Tree) → AllByRecursion (IsGood K low M) ts → IfOk (fitting ss ts) (AllByRecursion (IsGood K low M))
  ok-fitting M ss ts h = go (length ts == length ss) (are_sorts_eq ss (map (λ t. sort_of t) ts))
    where
      go : (a b : Bool) → IfOk (cond (not a) (Err Arity) (cond b (Ok ts) (Err Sorts))) (AllByRecursion (IsGood K low M))
      go false b = tt
      go true true = h
      go true false = tt

  pub ok-apply : (M : ℕ → Option Sort) (place b : ℕ) (head : Head) (ts : List Tree) → IfMacro (IsGoodBody K low) head → Ends M b → low ≤ b → AllByRecursion (IsGood K low M) ts → IfOk (apply place b head ts) (IsOpen K low M)
  ok-apply M place b (Macro ss body) ts g e le h =
      ok-bind (at place (fitting ss ts)) (λ args. moved place (body b args)) (AllByRecursion (IsGood K low M)) (IsOpen K low M)
      (ok-at place (fitting ss ts) (AllByRecursion (IsGood K low M)) (ok-fitting M ss ts h))
      (λ args k. ok-moved place (body b args) (IsOpen K low M) (weaker (body b args) (g M b args e le k)))
    where
      weaker : (r : Result Tree Fault) → IfOk r (IsGood K low M) → IfOk r (IsOpen K low M)
      weaker (Ok t) k = k.0
      weaker (Err f) k = tt
  ok-apply M place b Distinct ts g e le h = ok-at place (distinct ts) (IsOpen K low M) (ok-distinct K low M ts (opens M ts h))
  ok-apply M place b (Operator o) ts g e le h = ok-at place (application o ts) (IsOpen K low M) (ok-application K low M o ts (opens M ts h))

  -- sorts
  lawful-entry : (e : Expr) (o : Option Entry) → IfSome o (IsGoodEntry K low) → IfOk (sort_entry e o) IsLawful
  lawful-entry e (Some (Synonym s)) h = h
  lawful-entry e (Some (Constant i s)) h = sorts-are-lawful e
  lawful-entry e (Some (Definition ss body)) h = sorts-are-lawful e
  lawful-entry e None h = sorts-are-lawful e

  pub lawful-sort : (scope : Scope) → AllByRecursion (λ x. IsGoodEntry K low x.1) scope → (e : Expr) → IfOk (scoped_sort scope e) IsLawful
  lawful-sort scope g e = lawful-entry e (sort_found scope e) (good-name (symbol_of e))
    where
      good-name : (o : Option (List ℕ)) → IfSome (option_and_then (λ name. found (sort_key name) scope) o) (IsGoodEntry K low)
      good-name (Some name) = found-all (IsGoodEntry K low) (sort_key name) scope g
      good-name None = tt

  -- quantifiers
  pub ok-variables : (scope : Scope) → AllByRecursion (λ x. IsGoodEntry K low x.1) scope → (ps : List Pair) → IfOk (read_variables scope ps) AreLawful
  ok-variables scope g [] = tt
  ok-variables scope g (p ∷ ps) =
      ok-bind (scoped_sort scope p.beside) (λ s. read_variables scope ps >>= λ xs. Ok ((p.name, s) ∷ xs)) IsLawful AreLawful (lawful-sort scope g p.beside)
      (λ s l. ok-bind (read_variables scope ps) (λ xs. Ok ((p.name, s) ∷ xs)) AreLawful AreLawful (ok-variables scope g ps) (λ xs ls. (l, ls)))

  ok-unless_misnamed : (M : ℕ → Option Sort) (place : ℕ) (n : Naming) (r : Result Tree Fault) → IfOk r (IsGood K low M) → IfOk (unless_misnamed place n r) (IsGood K low M)
  ok-unless_misnamed M place Unnamed r h = h
  ok-unless_misnamed M place (NamedBy name) r h = h
  ok-unless_misnamed M place Misnamed r h = tt

  pub with-bound : (M : ℕ → Option Sort) (c : Context) (names : Named Tree) → IsGoodContext K low M c → AllByRecursion (λ x. IsGood K low M x.1) names → IsGoodContext K low M (record c { bound = names ++ c.bound })
  with-bound M c names g h = record {
    scope = g.scope;
    bound = both (λ x. IsGood K low M x.1) names c.bound h g.bound;
    ends = g.ends;
    from = g.from;
  }

  mutual
    pub ok-elab : (e : Expr) (c : Context) (M : ℕ → Option Sort) → HasTokens e → IsGoodContext K low M c → IfOk (elab e c) (IsGood K low M)
    ok-elab (atom l) c M w g = ok-token M l.kind l.place l.text c g w
    ok-elab (list place none close) c M w g = tt
    ok-elab (list place (also first rest) close) c M w g = ok-list (construct_of first) place first rest c M w.1 g

    ok-list : (con : Construct) (place : ℕ) (first : Expr) (rest : Exprs) (c : Context) (M : ℕ → Option Sort) → HaveTokens rest → IsGoodContext K low M c → IfOk (elab_list con place first rest c) (IsGood K low M)
    ok-list Let place first (also (list p pairs q) (also body none)) c M w g =
        ok-behind (formed place (some_pairs (pairs_of pairs))) (λ _. elab_pairs pairs [] c >>= λ names. elab body (record c { bound = names ++ c.bound })) (IsGood K low M)
        (λ _. ok-bind (elab_pairs pairs [] c) (λ names. elab body (record c { bound = names ++ c.bound })) (AllByRecursion (λ x. IsGood K low M x.1)) (IsGood K low M)
        (ok-pairs pairs [] c M w.0 tt g) (λ names h. ok-elab body (record c { bound = names ++ c.bound }) M w.1.0 (with-bound M c names g h)))
    ok-list (Quantified q) place first (also (list p pairs r) (also body none)) c M w g =
        ok-behind (formed place (some_pairs (pairs_of pairs))) (λ variables. read_variables c.scope variables >>= λ xs. elab body (below_binders xs c) >>= λ t. of_sort BoolSort (place_of body) t >>= λ formula. shallow place (closed q c.binders xs formula)) (IsGood K low M)
        (λ variables. ok-bind (read_variables c.scope variables) (λ xs. elab body (below_binders xs c) >>= λ t. of_sort BoolSort (place_of body) t >>= λ formula. shallow place (closed q c.binders xs formula)) AreLawful (IsGood K low M)
        (ok-variables c.scope g.scope variables)
        (λ xs ls. ok-bind (elab body (below_binders xs c)) (λ t. of_sort BoolSort (place_of body) t >>= λ formula. shallow place (closed q c.binders xs formula)) (IsGood K low (with_levels c.binders xs M)) (IsGood K low M)
        (ok-elab body (below_binders xs c) (with_levels c.binders xs M) w.1.0 (good-below M c xs g ls))
        (λ t h. ok-bind (of_sort BoolSort (place_of body) t) (λ formula. shallow place (closed q c.binders xs formula)) (λ u. IsGood K low (with_levels c.binders xs M) u × (tree_sort u ≡ Some BoolSort)) (IsGood K low M)
        (ok-of_sort (with_levels c.binders xs M) BoolSort (place_of body) t h)
        (λ formula k. ok-shallow K low M place (closed q c.binders xs formula) (open-closed q xs M c.binders formula ls g.from k.0.0 k.1).0))))
    ok-list Annotated place first (also term attributes) c M w g =
        either (are_attributes attributes) (ok-unless_misnamed M place (naming attributes) (elab term c) (ok-elab term c M w.0 g))
      where
        either : (b : Bool) → IfOk (unless_misnamed place (naming attributes) (elab term c)) (IsGood K low M) → IfOk (cond b (unless_misnamed place (naming attributes) (elab term c)) (refuse place Form)) (IsGood K low M)
        either true h = h
        either false h = tt
    ok-list Indexed place first rest c M w g = ok-indexed M place (indexed_name (items rest))
    ok-list Application place first (also e es) c M w g =
        ok-bind (head_of c.scope place first) (λ head. elab e c >>= λ t. elab_all es c >>= λ ts. apply place c.binders head (t ∷ ts) >>= λ tree. shallow place tree) (IfMacro (IsGoodBody K low)) (IsGood K low M)
        (macro-head (IsGoodBody K low) c.scope place first (all-weaker (λ x. IsGoodEntry K low x.1) (λ x. IfDefinition (IsGoodBody K low) x.1) c.scope (good-definition K low) g.scope))
        (λ head hg. ok-bind (elab e c) (λ t. elab_all es c >>= λ ts. apply place c.binders head (t ∷ ts) >>= λ tree. shallow place tree) (IsGood K low M) (IsGood K low M)
        (ok-elab e c M w.0 g)
        (λ t ht. ok-bind (elab_all es c) (λ ts. apply place c.binders head (t ∷ ts) >>= λ tree. shallow place tree) (AllByRecursion (IsGood K low M)) (IsGood K low M)
        (ok-all es c M w.1 g)
        (λ ts hts. ok-bind (apply place c.binders head (t ∷ ts)) (λ tree. shallow place tree) (IsOpen K low M) (IsGood K low M)
        (ok-apply M place c.binders head (t ∷ ts) hg g.ends g.from (ht, hts))
        (λ tree h. ok-shallow K low M place tree h))))
    ok-list _ place first rest c M w g = tt

    pub ok-all : (es : Exprs) (c : Context) (M : ℕ → Option Sort) → HaveTokens es → IsGoodContext K low M c → IfOk (elab_all es c) (AllByRecursion (IsGood K low M))
    ok-all none c M w g = tt
    ok-all (also e es) c M w g =
        ok-bind (elab e c) (λ t. elab_all es c >>= λ ts. Ok (t ∷ ts)) (IsGood K low M) (AllByRecursion (IsGood K low M)) (ok-elab e c M w.0 g)
        (λ t h. ok-bind (elab_all es c) (λ ts. Ok (t ∷ ts)) (AllByRecursion (IsGood K low M)) (AllByRecursion (IsGood K low M)) (ok-all es c M w.1 g) (λ ts hs. (h, hs)))

    pub ok-pairs : (pairs : Exprs) (names : Named Tree) (c : Context) (M : ℕ → Option Sort) → HaveTokens pairs → AllByRecursion (λ x. IsGood K low M x.1) names → IsGoodContext K low M c → IfOk (elab_pairs pairs names c) (AllByRecursion (λ x. IsGood K low M x.1))
    ok-pairs (also (list p (also (atom l) (also e none)) q) pairs) names c M w h g =
        ok-behind (new_name l.place (unquoted l.text) names) (λ name. elab e c >>= λ t. elab_pairs pairs ((name, t) ∷ names) c) (AllByRecursion (λ x. IsGood K low M x.1))
        (λ name. ok-bind (elab e c) (λ t. elab_pairs pairs ((name, t) ∷ names) c) (IsGood K low M) (AllByRecursion (λ x. IsGood K low M x.1)) (ok-elab e c M w.0.1.0 g)
        (λ t ht. ok-pairs pairs ((name, t) ∷ names) c M w.1 (ht, h) g))
    ok-pairs _ names c M w h g = h
