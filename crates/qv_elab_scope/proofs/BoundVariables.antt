-- The variables of quantifiers, as names.
use Rattle.std.proofs.Common.{◌≡◌, ◌≤◌, ◌<◌, ◌+◌, ℕ, Option, Some, None, List, [], ◌∷◌, ◌++◌, length, slice_get, get_or, refl, sym, ap, subst, ◌∙◌, append_assoc, arith, Ok, Err, length-append}
use denote.Bor.{Bor}
use Rattle.std.specs.Prelude.{Result, IfOk, IsSome, option_map}
use Rattle.std.proofs.lemmas.List.{append-nil}
use Rattle.std.proofs.lemmas.Option.{slice_get_within, slice_get-get_or}
use Rattle.qv_text.specs.declared.kinds.TokenKind.{TokenKind}
use Rattle.qv_text.specs.Reading.{Lexeme}
use Rattle.qv_sexpr.specs.declared.items.Item.{Item}
use Rattle.qv_sexpr.specs.declared.items.ItemKind.{ItemKind}
use Rattle.qv_sexpr.specs.declared.items.ItemKind.TheVariants.{Atom, Open, Close}
use Rattle.qv_sexpr.specs.declared.items.Expr.{Expr as Items}
use Rattle.qv_sexpr.specs.Script.{atom, list, none, also}
use Rattle.qv_sexpr.specs.Script.{Tree as Expr, Trees as Exprs}
use Rattle.qv_sexpr.specs.Items.{Stands, StandAll, Begins}
use Rattle.qv_sexpr.specs.Copying.{EndsBefore}
use Rattle.qv_sexpr.proofs.Copies.{stands_before, ends_once}
use Rattle.qv_sexpr.proofs.Standing.{stands_lt, stand_all_le}
use Rattle.qv_words.specs.declared.sort.Sort.{Sort}
use Rattle.qv_words.specs.Sort.{IsLawful}
use Rattle.qv_words.specs.Tree.{Tree, Variable}
use Rattle.qv_store.specs.Stores.{StandsAt, Grows}
use Rattle.qv_elab_defs.specs.declared.faults.ElabFault.{ElabFault}
use Rattle.qv_elab_defs.specs.declared.faults.ElabFault.TheVariants.{At, NoMemory}
use Rattle.qv_elab_defs.specs.Faults.{Fault, ◌>>=◌}
use Rattle.qv_elab_defs.specs.Tokens.{name_of_token}
use Rattle.qv_elab_items.specs.Flat.{name_in}
use Rattle.qv_elab_defs.specs.Shapes.{Pair, with_pair, pairs_of}
use Rattle.qv_elab_defs.specs.Scopes.{Named, Scope, with_variables}
use Rattle.qv_elab_defs.specs.Synonyms.{scoped_sort}
use Rattle.qv_elab_defs.specs.Answers.{ReadsSort}
use Rattle.qv_elab_defs.specs.TreeLaws.{IsScope}
use Rattle.qv_elab_defs.specs.Elaborating.{read_variables}
use Rattle.qv_elab_scope.specs.Variables.{AreNamedAt}
use Rattle.qv_elab_scope.specs.Quantifying.{IsPairAt, IsVariable, BindsOne, AreBound, Binds, AreBoundBefore}
use Rattle.qv_elab_defs.proofs.ElaboratedTrees.{scoped-sorts-are-lawful}
use Rattle.qv_elab_items.proofs.Slices.{item_of, paren_of, name-stands}
use Rattle.qv_elab_items.proofs.Pairing.{next-of}
use Rattle.qv_elab_scope.proofs.Standing.{named-grows}
use Rattle.qv_elab_scope.proofs.ClosedOver.{variables-snoc}

-- a pair in front of others
record IsPairOf (e : Expr) (es : Exprs) (ps : List Pair) : Type 0 where
  p : ℕ
  l : Lexeme
  inner : Expr
  q : ℕ
  name : List ℕ
  others : List Pair
  e_is : e ≡ list p (also (atom l) (also inner none)) q
  name_is : name_of_token l.kind l.text ≡ Some name
  rest_is : pairs_of es ≡ Some others
  ps_are : ps ≡ record { place = l.place; name = name; beside = inner } ∷ others

some-same : {A : Type 0} (a b : A) → Some a ≡ Some b → a ≡ b
some-same a b e = cc

pair-of : (e : Expr) (es : Exprs) (ps : List Pair) → pairs_of (also e es) ≡ Some ps → IsPairOf e es ps
pair-of (list p (also (atom l) (also e none)) q) es ps h = go (name_of_token l.kind l.text) refl (pairs_of es) refl h
  where
    go : (o : Option (List ℕ)) → name_of_token l.kind l.text ≡ o → (os : Option (List Pair)) → pairs_of es ≡ os → with_pair l.place o e os ≡ Some ps → IsPairOf (list p (also (atom l) (also e none)) q) es ps
    go (Some n) f (Some others) g k = record { p = p; l = l; inner = e; q = q; name = n; others = others; e_is = refl; name_is = f; rest_is = g; ps_are = sym (some-same (record { place = l.place; name = n; beside = e } ∷ others) ps k) }
    go (Some n) f None g k = absurd (cc)
    go None f os g k = absurd (cc)
pair-of (atom l) es ps h = absurd (cc)
pair-of (list p none q) es ps h = absurd (cc)
pair-of (list p (also (list r i s) rest) q) es ps h = absurd (cc)
pair-of (list p (also (atom l) none) q) es ps h = absurd (cc)
pair-of (list p (also (atom l) (also e (also f rest))) q) es ps h = absurd (cc)

-- one pair by its items
module _ (expr : Items) (at : ℕ) (p : Pair) (h : IsPairAt expr at p) where
  pub pair-within : (at + 1 < length expr.items.items) × (at + 2 < length expr.items.items)
  pair-within = (slice_get_within expr.items.items (at + 1) _ h.name_stands.item, begins p.beside h.beside_stands)
    where
      begins : (e : Expr) → Stands expr.items.items expr.text.items (at + 2) e h.behind → at + 2 < length expr.items.items
      begins (atom l) k = slice_get_within expr.items.items (at + 2) _ k.0.item
      begins (list r inside q) k = slice_get_within expr.items.items (at + 2) _ k.1.1

  pub sort-begins : Begins expr (at + 2)
  sort-begins = go p.beside h.beside_stands
    where
      go : (e : Expr) → Stands expr.items.items expr.text.items (at + 2) e h.behind → Begins expr (at + 2)
      go (atom l) k = (item_of l k.0.start k.0.end, k.0.item, atoms l.kind)
        where
          atoms : (q : TokenKind) → ◌≡◌ {A = ItemKind} (Atom q) Close → ⊥
          atoms q e = cc
      go (list r inside q) k = (paren_of (Open k.0) r k.1.0, k.1.1, opens k.0)
        where
          opens : (n : ℕ) → ◌≡◌ {A = ItemKind} (Open n) Close → ⊥
          opens n e = cc

  pub pair-named : (x : Item) → x ≡ get_or expr.items.items (at + 1) x → name_in expr.text.items x ≡ Some p.name
  pair-named x e =
      let there : slice_get expr.items.items (at + 1) ≡ Some x = slice_get-get_or expr.items.items (at + 1) x pair-within.0 ∙ ap Some (sym e) in
      let same : item_of h.lexeme h.name_stands.start h.name_stands.end ≡ x = some-same (item_of h.lexeme h.name_stands.start h.name_stands.end) x (sym h.name_stands.item ∙ there) in
      ap (name_in expr.text.items) (sym same) ∙ name-stands expr.items.items expr.text.items (at + 1) h.lexeme h.name_stands ∙ h.name_is

-- a sort that was read
pub read-lawful : (defs : Scope) (e : Expr) (s : Sort) → IsScope defs → scoped_sort defs e ≡ Ok s → IsLawful s
read-lawful defs e s is h = subst (λ (r : Result Sort Fault). IfOk r IsLawful) h (scoped-sorts-are-lawful defs e is)

-- its fault goes out
pub sort-out : (trees : List Tree) (defs : Scope) (level : ℕ) (p : Pair) (old new : Named ℕ) (r : Result Sort ElabFault) (fault left : ElabFault) (exit : Result ℕ ElabFault) → ReadsSort (scoped_sort defs p.beside) r → r ≡ Err fault → exit ≡ Err left → left ≡ fault → BindsOne trees defs level p old new exit
sort-out trees defs level p old new r fault left exit f g h k =
    subst (λ (x : Result ℕ ElabFault). BindsOne trees defs level p old new x) (sym (h ∙ ap Err k))
    (go fault (subst (λ (q : Result Sort ElabFault). ReadsSort (scoped_sort defs p.beside) q) g f))
  where
    go : (fault : ElabFault) → ReadsSort (scoped_sort defs p.beside) (Err fault) → BindsOne trees defs level p old new (Err fault)
    go (At place kind) l = l
    go NoMemory l = tt

-- nothing is bound yet
module _ (expr : Items) (defs : Scope) (level : ℕ) (ps : List Pair) (old : Named ℕ) where
  through : (r : Result (Named Sort) Fault) → r ≡ (r >>= λ ys. Ok ([] ++ ys))
  through (Ok ys) = refl
  through (Err f) = refl

  pub bound-here : (trees : List Tree) (pairs : Exprs) (from to : ℕ) → pairs_of pairs ≡ Some ps → StandAll expr.items.items expr.text.items from pairs to → AreBoundBefore expr trees defs level ps old old from to level
  bound-here trees pairs from to e h = record {
    rest = pairs;
    left = ps;
    xs = [];
    names = [];
    stand = h;
    left_are = e;
    read = through (read_variables defs ps);
    names_are = refl;
    variables = tt;
    below_is = omega arith;
  }

  module _ (trees : List Tree) (new : Named ℕ) (at to below : ℕ) (b : AreBoundBefore expr trees defs level ps old new at to below) where
    -- the pair in front of those that are left
    pub record IsLeft : Type 0 where
      pub p : Pair
      pub others : List Pair
      pub rest : Exprs
      pub behind : ℕ
      pub e : Expr
      pub pair : IsPairAt expr at p
      pub left_is : b.left ≡ p ∷ others
      pub rest_is : pairs_of rest ≡ Some others
      pub stands : Stands expr.items.items expr.text.items at e behind
      pub stand : StandAll expr.items.items expr.text.items behind rest to

    pub pair-left : at < to → IsLeft
    pair-left lt =
        let n = next-of expr.items.items expr.text.items at to b.rest b.stand lt in
        let i = pair-of n.0 n.1 b.left (ap pairs_of (sym n.3) ∙ b.left_are) in
        let k = subst (λ (t : Expr). Stands expr.items.items expr.text.items at t n.2) i.e_is n.4 in
        let two : at + 1 + 1 ≡ at + 2 = omega arith in
        let second : k.2.0 ≡ at + 2 = k.2.1.1 ∙ two in
        record {
          p = record { place = i.l.place; name = i.name; beside = i.inner };
          others = i.others;
          rest = n.1;
          behind = n.2;
          e = n.0;
          pair = record {
            lexeme = i.l;
            behind = k.2.2.0;
            name_stands = k.2.1.0;
            name_is = i.name_is;
            beside_stands = subst (λ m. Stands expr.items.items expr.text.items m i.inner k.2.2.0) second k.2.2.1;
          };
          left_is = i.ps_are;
          rest_is = i.rest_is;
          stands = n.4;
          stand = n.5;
        }

    module _ (l : IsLeft) where
      pub left-before : (l.behind ≤ length expr.items.items) × (at < l.behind) × (l.behind ≤ to) × EndsBefore expr.items.items at l.behind
      left-before =
          let s = stands_before expr.items.items expr.text.items at l.e l.behind l.stands in
          (s.0, stands_lt expr.items.items expr.text.items at l.e l.behind l.stands, stand_all_le expr.items.items expr.text.items l.behind l.rest to l.stand, s.1)

      pub left-is : (next : ℕ) → EndsBefore expr.items.items at next → l.behind ≡ next
      left-is next ends = ends_once expr.items.items at l.behind next left-before.3 ends

      -- its sort has a fault
      pub bound-fails : (fault : Fault) → scoped_sort defs l.p.beside ≡ Err fault → read_variables defs ps ≡ Err fault
      bound-fails fault e =
          b.read
          ∙ ap (λ (qs : List Pair). read_variables defs qs >>= λ ys. Ok (b.xs ++ ys)) l.left_is
          ∙ ap (λ (r : Result Sort Fault). (r >>= λ s. read_variables defs l.others >>= λ zs. Ok ((l.p.name, s) ∷ zs)) >>= λ ys. Ok (b.xs ++ ys)) e

      -- it is bound
      pub bound-next : (trees' : List Tree) (new' : Named ℕ) (next below' : ℕ) → Grows trees trees' → IsVariable trees' defs below l.p new new' below' → EndsBefore expr.items.items at next → AreBoundBefore expr trees' defs level ps old new' next to below'
      bound-next trees' new' next below' g v ends = record {
        rest = l.rest;
        left = l.others;
        xs = b.xs ++ x ∷ [];
        names = (l.p.name, v.id) ∷ b.names;
        stand = subst (λ n. StandAll expr.items.items expr.text.items n l.rest to) (left-is next ends) l.stand;
        left_are = l.rest_is;
        read = b.read
            ∙ ap (λ (qs : List Pair). read_variables defs qs >>= λ ys. Ok (b.xs ++ ys)) l.left_is
            ∙ ap (λ (r : Result Sort Fault). (r >>= λ s. read_variables defs l.others >>= λ zs. Ok ((l.p.name, s) ∷ zs)) >>= λ ys. Ok (b.xs ++ ys)) v.read
            ∙ regrouped (read_variables defs l.others);
        names_are = v.names_are ∙ ap (λ (ns : Named ℕ). (l.p.name, v.id) ∷ ns) b.names_are;
        variables = subst (λ (ys : Named Tree). AreNamedAt trees' ((l.p.name, v.id) ∷ b.names) ys) (sym (variables-snoc level b.xs x []))
            (refl, subst (λ n. StandsAt trees' v.id (Variable n v.s)) b.below_is v.stands, named-grows trees trees' g b.names (with_variables level b.xs []) b.variables);
        below_is = let e = v.below_is in let f = b.below_is in omega (arith, e, f, length-append b.xs (x ∷ []));
      }
        where
          x : List ℕ × Sort
          x = (l.p.name, v.s)

          regrouped : (r : Result (Named Sort) Fault) → ((r >>= λ zs. Ok (x ∷ zs)) >>= λ ys. Ok (b.xs ++ ys)) ≡ (r >>= λ ys. Ok ((b.xs ++ x ∷ []) ++ ys))
          regrouped (Ok zs) = ap Ok (sym (append_assoc b.xs (x ∷ []) zs))
          regrouped (Err f) = refl

      -- its fault goes out
      pub bound-out : (trees' : List Tree) (new' : Named ℕ) (fault left : ElabFault) (exit : Result ℕ ElabFault) → BindsOne trees' defs below l.p new new' (Err fault) → exit ≡ Err left → left ≡ fault → Binds trees' defs level ps old new' exit
      bound-out trees' new' fault left exit h f g = subst (λ (x : Result ℕ ElabFault). Binds trees' defs level ps old new' x) (sym (f ∙ ap Err g)) (go fault h)
        where
          go : (fault : ElabFault) → BindsOne trees' defs below l.p new new' (Err fault) → Binds trees' defs level ps old new' (Err fault)
          go (At place kind) k = bound-fails (record { place = place; kind = kind }) k
          go NoMemory k = tt

    -- none is left
    pub bound-ends : to ≤ at → AreBound trees defs level ps old new below
    bound-ends le = record {
      xs = b.xs;
      names = b.names;
      read = b.read ∙ go b.rest b.stand b.left b.left_are;
      names_are = b.names_are;
      variables = b.variables;
      below_is = b.below_is;
    }
      where
        go : (rest : Exprs) → StandAll expr.items.items expr.text.items at rest to → (left : List Pair) → pairs_of rest ≡ Some left → (read_variables defs left >>= λ ys. Ok (b.xs ++ ys)) ≡ Ok b.xs
        go none h left e =
            let nothing : [] ≡ left = some-same [] left e in
            ap (λ (qs : List Pair). read_variables defs qs >>= λ ys. Ok (b.xs ++ ys)) (sym nothing) ∙ ap Ok (append-nil b.xs)
        go (also f fs) h left e =
            let up = stands_lt expr.items.items expr.text.items at f h.0 h.1 in
            let more = stand_all_le expr.items.items expr.text.items h.0 fs to h.2 in
            absurd (omega (arith, up, more, le))

-- the name that was read
pub is-named : (o : Option (Bor (List ℕ))) (name : List ℕ) → option_map (λ (n : Bor (List ℕ)). n.now) o ≡ Some name → IsSome o
is-named None name e = absurd (cc)
is-named (Some n) name e = refl

pub name-given : (o : Option (Bor (List ℕ))) (n : Bor (List ℕ)) (name : List ℕ) → o ≡ Some n → option_map (λ (m : Bor (List ℕ)). m.now) o ≡ Some name → n.now ≡ name
name-given o n name e f = some-same n.now name (sym (ap (option_map (λ (m : Bor (List ℕ)). m.now)) e) ∙ f)

pub given-is : (o : Option (Bor (List ℕ))) (n : Bor (List ℕ)) (p : Option (List ℕ)) → o ≡ Some n → option_map (λ (m : Bor (List ℕ)). m.now) o ≡ p → Some n.now ≡ p
given-is o n p e f = sym (ap (option_map (λ (m : Bor (List ℕ)). m.now)) e) ∙ f
