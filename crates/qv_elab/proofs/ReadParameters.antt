-- Parameter lists are read pair by pair.
use Rattle.std.proofs.Common.{◌≡◌, ◌≤◌, ◌<◌, ◌+◌, ℕ, Bool, true, false, cond, Option, Some, None, List, [], ◌∷◌, ◌++◌, length, map, slice_get, get_or, refl, sym, ap, subst, ◌∙◌, append_assoc, arith, Ok, Err}
use Rattle.std.specs.Prelude.{Result, Vec, is_some}
use Rattle.std.specs.declared.alloc.Global.{Global}
use Rattle.std.specs.Str.{bytes_eq}
use Rattle.std.proofs.lemmas.List.{append-nil, map-append}
use Rattle.std.proofs.lemmas.Option.{slice_get_within, slice_get-get_or}
use Rattle.qv_text.specs.declared.kinds.TokenKind.{TokenKind}
use Rattle.qv_text.specs.Reading.{Lexeme}
use Rattle.qv_sexpr.specs.declared.items.Item.{Item}
use Rattle.qv_sexpr.specs.declared.items.ItemKind.{ItemKind}
use Rattle.qv_sexpr.specs.declared.items.ItemKind.TheVariants.{Atom, Open, Close}
use Rattle.qv_sexpr.specs.declared.items.Expr.{Expr as Items}
use Rattle.qv_sexpr.specs.Script.{atom, list, none, also}
use Rattle.qv_sexpr.specs.Script.{Tree as Expr, Trees as Exprs}
use Rattle.qv_sexpr.specs.Items.{Stands, StandAll, Begins}
use Rattle.qv_sexpr.specs.Copying.{EndsBefore}
use Rattle.qv_sexpr.proofs.Copies.{stands_before, ends_once}
use Rattle.qv_sexpr.proofs.Standing.{stands_lt, stand_all_le}
use Rattle.qv_words.specs.declared.sort.Sort.{Sort}
use Rattle.qv_elab.specs.declared.bodies.Parameter.{Parameter}
use Rattle.qv_elab_defs.specs.declared.faults.ElabKind.TheVariants.{RepeatedName}
use Rattle.qv_elab_defs.specs.Faults.{Fault, refuse, ◌>>=◌}
use Rattle.qv_elab_defs.specs.Tokens.{name_of_token}
use Rattle.qv_elab_items.specs.Flat.{name_in}
use Rattle.qv_elab_defs.specs.Shapes.{Pair, with_pair, pairs_of, some_pairs, listed_pairs}
use Rattle.qv_elab_defs.specs.Scopes.{Named, Scope, found}
use Rattle.qv_elab_defs.specs.Synonyms.{scoped_sort}
use Rattle.qv_elab_items.specs.Places.{place_in}
use Rattle.qv_elab_defs.specs.Elaborating.{new_name}
use Rattle.qv_elab_defs.specs.Defining.{read_parameters}
use Rattle.qv_elab.specs.ReadBodies.{parameters_of, BeginsWell, ReadsParameters}
use Rattle.qv_elab_defs.specs.Answers.{ReadsSort}
use Rattle.qv_elab_defs.specs.declared.faults.ElabFault.{ElabFault}
use Rattle.qv_elab_defs.specs.declared.faults.ElabFault.TheVariants.{At, NoMemory}
use Rattle.qv_elab_frames.specs.Loop.{source}
use Rattle.qv_elab.specs.ParameterLists.{IsPairIn, read_new, IsParameter, Adds, AreReadBefore}
use Rattle.qv_elab.proofs.Arriving.{IsList, at-list}
use Rattle.qv_elab_items.proofs.Slices.{item_of, paren_of, name-stands}
use Rattle.qv_elab_items.proofs.Pairing.{next-of}

some-same : {A : Type 0} (a b : A) → Some a ≡ Some b → a ≡ b
some-same a b e = cc

-- a pair in front of others
record IsPairOf (e : Expr) (es : Exprs) (ps : List Pair) : Type 0 where
  p : ℕ
  l : Lexeme
  inner : Expr
  q : ℕ
  name : List ℕ
  others : List Pair
  e_is : e ≡ list p (also (atom l) (also inner none)) q
  name_is : name_of_token l.kind l.text ≡ Some name
  rest_is : pairs_of es ≡ Some others
  ps_are : ps ≡ record { place = l.place; name = name; beside = inner } ∷ others

pair-of : (e : Expr) (es : Exprs) (ps : List Pair) → pairs_of (also e es) ≡ Some ps → IsPairOf e es ps
pair-of (list p (also (atom l) (also e none)) q) es ps h = go (name_of_token l.kind l.text) refl (pairs_of es) refl h
  where
    go : (o : Option (List ℕ)) → name_of_token l.kind l.text ≡ o → (os : Option (List Pair)) → pairs_of es ≡ os → with_pair l.place o e os ≡ Some ps → IsPairOf (list p (also (atom l) (also e none)) q) es ps
    go (Some n) f (Some others) g k = record { p = p; l = l; inner = e; q = q; name = n; others = others; e_is = refl; name_is = f; rest_is = g; ps_are = sym (some-same (record { place = l.place; name = n; beside = e } ∷ others) ps k) }
    go (Some n) f None g k = absurd (cc)
    go None f os g k = absurd (cc)
pair-of (atom l) es ps h = absurd (cc)
pair-of (list p none q) es ps h = absurd (cc)
pair-of (list p (also (list r i s) rest) q) es ps h = absurd (cc)
pair-of (list p (also (atom l) none) q) es ps h = absurd (cc)
pair-of (list p (also (atom l) (also e (also f rest))) q) es ps h = absurd (cc)

-- one pair by its items
module _ (expr : Items) (at : ℕ) (p : Pair) (h : IsPairIn expr at p) where
  pub pair-within : (at + 1 < length expr.items.items) × (at + 2 < length expr.items.items)
  pair-within = (slice_get_within expr.items.items (at + 1) _ h.name_stands.item, begins p.beside h.beside_stands)
    where
      begins : (e : Expr) → Stands expr.items.items expr.text.items (at + 2) e h.behind → at + 2 < length expr.items.items
      begins (atom l) k = slice_get_within expr.items.items (at + 2) _ k.0.item
      begins (list r inside q) k = slice_get_within expr.items.items (at + 2) _ k.1.1

  pub sort-begins : Begins expr (at + 2)
  sort-begins = go p.beside h.beside_stands
    where
      go : (e : Expr) → Stands expr.items.items expr.text.items (at + 2) e h.behind → Begins expr (at + 2)
      go (atom l) k = (item_of l k.0.start k.0.end, k.0.item, atoms l.kind)
        where
          atoms : (q : TokenKind) → ◌≡◌ {A = ItemKind} (Atom q) Close → ⊥
          atoms q e = cc
      go (list r inside q) k = (paren_of (Open k.0) r k.1.0, k.1.1, opens k.0)
        where
          opens : (n : ℕ) → ◌≡◌ {A = ItemKind} (Open n) Close → ⊥
          opens n e = cc

  module _ (x : Item) (e : x ≡ get_or expr.items.items (at + 1) x) where
    same : item_of h.lexeme h.name_stands.start h.name_stands.end ≡ x
    same =
        let there : slice_get expr.items.items (at + 1) ≡ Some x = slice_get-get_or expr.items.items (at + 1) x pair-within.0 ∙ ap Some (sym e) in
        some-same (item_of h.lexeme h.name_stands.start h.name_stands.end) x (sym h.name_stands.item ∙ there)

    pub pair-named : name_in expr.text.items x ≡ Some p.name
    pair-named = ap (name_in expr.text.items) (sym same) ∙ name-stands expr.items.items expr.text.items (at + 1) h.lexeme h.name_stands ∙ h.name_is

    pub pair-place : x.place ≡ p.place
    pair-place = sym (ap (λ (y : Item). y.place) same) ∙ sym h.place_is

  module _ (x : Item) (e : x ≡ get_or expr.items.items (at + 1) x) where
    pub name-same : (name : List ℕ) → Some name ≡ name_in expr.text.items x → name ≡ p.name
    name-same name k = some-same name p.name (k ∙ pair-named x e)

module _ (defs : Scope) (p : Pair) (names : List (List ℕ)) where
  pub repeated : true ≡ is_some (place_in p.name names) → read_new defs p names ≡ refuse p.place RepeatedName
  repeated e = ap (λ b. cond b (refuse p.place RepeatedName) (Ok p.name) >>= λ (n : List ℕ). scoped_sort defs p.beside) (sym e)

  pub new-read : is_some (place_in p.name names) ≡ false → (r : Result Sort ElabFault) (s : Sort) → ReadsSort (scoped_sort defs p.beside) r → r ≡ Ok s → read_new defs p names ≡ Ok s
  new-read e r s f g =
      ap (λ b. cond b (refuse p.place RepeatedName) (Ok p.name) >>= λ (n : List ℕ). scoped_sort defs p.beside) e
      ∙ subst (λ (q : Result Sort ElabFault). ReadsSort (scoped_sort defs p.beside) q) g f

  pub sort-out : is_some (place_in p.name names) ≡ false → (new : List (List ℕ)) (before behind : List Parameter) (r : Result Sort ElabFault) (fault left : ElabFault) (exit : Result (Unit {0}) ElabFault) → ReadsSort (scoped_sort defs p.beside) r → r ≡ Err fault → exit ≡ Err left → left ≡ fault → Adds defs p names new before behind exit
  sort-out e new before behind r fault left exit f g h k =
      subst (λ (x : Result (Unit {0}) ElabFault). Adds defs p names new before behind x) (sym (h ∙ ap Err k))
      (go fault (subst (λ (q : Result Sort ElabFault). ReadsSort (scoped_sort defs p.beside) q) g f))
    where
      go : (fault : ElabFault) → ReadsSort (scoped_sort defs p.beside) (Err fault) → Adds defs p names new before behind (Err fault)
      go (At place kind) l = ap (λ b. cond b (refuse p.place RepeatedName) (Ok p.name) >>= λ (n : List ℕ). scoped_sort defs p.beside) e ∙ l
      go NoMemory l = absurd l

  pub memory-out : (s : Sort) → read_new defs p names ≡ Ok s → (new : List (List ℕ)) (before behind : List Parameter) (left : ElabFault) (exit : Result (Unit {0}) ElabFault) → exit ≡ Err left → left ≡ NoMemory → Adds defs p names new before behind exit
  memory-out s e new before behind left exit h k =
      subst (λ (x : Result (Unit {0}) ElabFault). Adds defs p names new before behind x) (sym (h ∙ ap Err k)) (s, e)

-- a list by its items
module _ (expr : Items) (at close to : ℕ) (e : Expr) (x : Item) (stands : Stands expr.items.items expr.text.items at e to) (begins : Begins expr at) (read : x ≡ get_or expr.items.items at x) (kind : x.kind ≡ Open close) where
  pub list-there : IsList (source expr to []) at to close e x
  list-there = at-list (source expr to []) at to close e x stands (slice_get-get_or expr.items.items at x (slice_get_within expr.items.items at _ begins.1) ∙ ap Some (sym read)) kind

  pub list-within : (at + 1 ≤ close) × (close < length expr.items.items)
  list-within = (stand_all_le expr.items.items expr.text.items (at + 1) list-there.inside close list-there.stand, slice_get_within expr.items.items close _ list-there.closed.1)

  pub inside-of : (pairs : List Pair) → listed_pairs e ≡ Some pairs → pairs_of list-there.inside ≡ Some pairs
  inside-of pairs k = sym (ap listed_pairs list-there.expr_is) ∙ k

  pub empty-listed : at + 1 ≡ close → is_some (listed_pairs e) ≡ true
  empty-listed k = ap (λ (t : Expr). is_some (listed_pairs t)) list-there.expr_is ∙ go list-there.inside list-there.stand
    where
      go : (es : Exprs) → StandAll expr.items.items expr.text.items (at + 1) es close → is_some (pairs_of es) ≡ true
      go none h = refl
      go (also t ts) h =
          let lt = stands_lt expr.items.items expr.text.items (at + 1) t h.0 h.1 in
          let le = stand_all_le expr.items.items expr.text.items h.0 ts close h.2 in
          absurd (omega (arith, lt, le, k))

  pub some-listed : (at + 1 ≡ close → ⊥) → is_some (some_pairs (pairs_of list-there.inside)) ≡ is_some (listed_pairs e)
  some-listed ne = go list-there.inside list-there.stand ∙ sym (ap (λ (t : Expr). is_some (listed_pairs t)) list-there.expr_is)
    where
      with-one : (p : ℕ) (o : Option (List ℕ)) (t : Expr) (ps : Option (List Pair)) → is_some (some_pairs (with_pair p o t ps)) ≡ is_some (with_pair p o t ps)
      with-one p (Some n) t (Some ps) = refl
      with-one p (Some n) t None = refl
      with-one p None t ps = refl

      go : (es : Exprs) → StandAll expr.items.items expr.text.items (at + 1) es close → is_some (some_pairs (pairs_of es)) ≡ is_some (pairs_of es)
      go none h = absurd (ne (sym h))
      go (also (list p (also (atom l) (also t none)) q) ts) h = with-one l.place (name_of_token l.kind l.text) t (pairs_of ts)
      go (also (atom l) ts) h = refl
      go (also (list p none q) ts) h = refl
      go (also (list p (also (list r i s) us) q) ts) h = refl
      go (also (list p (also (atom l) none) q) ts) h = refl
      go (also (list p (also (atom l) (also t (also u us))) q) ts) h = refl

-- a name is among parameters exactly where it is among their names
same-names : (name : List ℕ) (before : Named Sort) → is_some (found name before) ≡ is_some (place_in name (map (λ x. x.0) before))
same-names name [] = refl
same-names name (x ∷ xs) = go (bytes_eq x.0 name) (same-names name xs)
  where
    go : (b : Bool) → is_some (found name xs) ≡ is_some (place_in name (map (λ x. x.0) xs)) → is_some (cond b (Some x.1) (found name xs)) ≡ is_some (cond b (Some (length (map (λ x. x.0) xs))) (place_in name (map (λ x. x.0) xs)))
    go true k = refl
    go false k = k

module _ (expr : Items) (defs : Scope) (pairs : List Pair) where
  -- nothing is read yet
  pub read-here : (inside : Exprs) (from to : ℕ) → pairs_of inside ≡ Some pairs → StandAll expr.items.items expr.text.items from inside to → AreReadBefore expr defs pairs [] [] from to
  read-here inside from to e h = record {
    rest = inside;
    left = pairs;
    before = [];
    stand = h;
    front = [];
    left_are = e;
    pairs_are = refl;
    read = λ others. through (read_parameters defs others []);
    names_are = refl;
  }
    where
      through : (r : Result (Named Sort) Fault) → r ≡ (r >>= λ ys. Ok ([] ++ ys))
      through (Ok ys) = refl
      through (Err f) = refl

  module _ (names : List (List ℕ)) (parameters : List Parameter) (at to : ℕ) (b : AreReadBefore expr defs pairs names parameters at to) where
    -- the pair in front of those that are left
    pub record IsLeft : Type 0 where
      pub p : Pair
      pub others : List Pair
      pub rest : Exprs
      pub behind : ℕ
      pub e : Expr
      pub pair : IsPairIn expr at p
      pub left_is : b.left ≡ p ∷ others
      pub rest_is : pairs_of rest ≡ Some others
      pub stands : Stands expr.items.items expr.text.items at e behind
      pub stand : StandAll expr.items.items expr.text.items behind rest to

    pub pair-left : at < to → IsLeft
    pair-left lt =
        let n = next-of expr.items.items expr.text.items at to b.rest b.stand lt in
        let i = pair-of n.0 n.1 b.left (ap pairs_of (sym n.3) ∙ b.left_are) in
        let k = subst (λ (t : Expr). Stands expr.items.items expr.text.items at t n.2) i.e_is n.4 in
        let two : at + 1 + 1 ≡ at + 2 = omega arith in
        let second : k.2.0 ≡ at + 2 = k.2.1.1 ∙ two in
        record {
          p = record { place = i.l.place; name = i.name; beside = i.inner };
          others = i.others;
          rest = n.1;
          behind = n.2;
          e = n.0;
          pair = record {
            lexeme = i.l;
            behind = k.2.2.0;
            name_stands = k.2.1.0;
            name_is = i.name_is;
            place_is = refl;
            beside_stands = subst (λ m. Stands expr.items.items expr.text.items m i.inner k.2.2.0) second k.2.2.1;
          };
          left_is = i.ps_are;
          rest_is = i.rest_is;
          stands = n.4;
          stand = n.5;
        }

    module _ (l : IsLeft) where
      pub left-before : (l.behind ≤ length expr.items.items) × (at < l.behind) × (l.behind ≤ to) × EndsBefore expr.items.items at l.behind
      left-before =
          let s = stands_before expr.items.items expr.text.items at l.e l.behind l.stands in
          (s.0, stands_lt expr.items.items expr.text.items at l.e l.behind l.stands, stand_all_le expr.items.items expr.text.items l.behind l.rest to l.stand, s.1)

      pub left-is : (next : ℕ) → EndsBefore expr.items.items at next → l.behind ≡ next
      left-is next ends = ends_once expr.items.items at l.behind next left-before.3 ends

      -- what the pairs give where others are behind the next one, by its name
      abbrev given-by : List Pair → Result (List ℕ) Fault → Result (Named Sort) Fault
      given-by others r = (r >>= λ name. scoped_sort defs l.p.beside >>= λ s. read_parameters defs others ((name, s) ∷ b.before) >>= λ zs. Ok ((name, s) ∷ zs)) >>= λ ys. Ok (parameters_of parameters ++ ys)

      tested : new_name l.p.place l.p.name b.before ≡ cond (is_some (place_in l.p.name names)) (refuse l.p.place RepeatedName) (Ok l.p.name)
      tested = ap (λ t. cond t (refuse l.p.place RepeatedName) (Ok l.p.name)) (same-names l.p.name b.before ∙ ap (λ (ns : List (List ℕ)). is_some (place_in l.p.name ns)) (sym b.names_are))

      given-with : (others : List Pair) → read_parameters defs (b.front ++ l.p ∷ others) [] ≡ given-by others (cond (is_some (place_in l.p.name names)) (refuse l.p.place RepeatedName) (Ok l.p.name))
      given-with others = b.read (l.p ∷ others) ∙ ap (given-by others) tested

      all-pairs : pairs ≡ b.front ++ l.p ∷ l.others
      all-pairs = b.pairs_are ∙ ap (λ (qs : List Pair). b.front ++ qs) l.left_is

      given : read_parameters defs pairs [] ≡ given-by l.others (cond (is_some (place_in l.p.name names)) (refuse l.p.place RepeatedName) (Ok l.p.name))
      given = ap (λ (qs : List Pair). read_parameters defs qs []) all-pairs ∙ given-with l.others

      -- it has a fault
      pub read-fails : (fault : Fault) → read_new defs l.p names ≡ Err fault → read_parameters defs pairs [] ≡ Err fault
      read-fails fault e = given ∙ go (is_some (place_in l.p.name names)) e
        where
          err-same : (f g : Fault) → ◌≡◌ {A = Result Sort Fault} (Err f) (Err g) → f ≡ g
          err-same f g h = cc

          go : (t : Bool) → (cond t (refuse l.p.place RepeatedName) (Ok l.p.name) >>= λ (name : List ℕ). scoped_sort defs l.p.beside) ≡ Err fault → given-by l.others (cond t (refuse l.p.place RepeatedName) (Ok l.p.name)) ≡ Err fault
          go true h = ap Err (err-same (record { place = l.p.place; kind = RepeatedName }) fault h)
          go false h = ap (λ (r : Result Sort Fault). (r >>= λ s. read_parameters defs l.others ((l.p.name, s) ∷ b.before) >>= λ zs. Ok ((l.p.name, s) ∷ zs)) >>= λ ys. Ok (parameters_of parameters ++ ys)) h

      -- the pairs up to it have no fault
      begins-well : (s : Sort) → read_new defs l.p names ≡ Ok s → BeginsWell defs pairs
      begins-well s e = record {
        front = b.front;
        p = l.p;
        behind = l.others;
        parameters = parameters_of parameters ++ (l.p.name, s) ∷ [];
        pairs_are = all-pairs;
        read = given-with [] ∙ go (is_some (place_in l.p.name names)) e;
      }
        where
          go : (t : Bool) → (cond t (refuse l.p.place RepeatedName) (Ok l.p.name) >>= λ (name : List ℕ). scoped_sort defs l.p.beside) ≡ Ok s → given-by [] (cond t (refuse l.p.place RepeatedName) (Ok l.p.name)) ≡ Ok (parameters_of parameters ++ (l.p.name, s) ∷ [])
          go true h = absurd (cc)
          go false h = ap (λ (r : Result Sort Fault). (r >>= λ s. read_parameters defs [] ((l.p.name, s) ∷ b.before) >>= λ zs. Ok ((l.p.name, s) ∷ zs)) >>= λ ys. Ok (parameters_of parameters ++ ys)) h

      pub parameters-out : (new : List (List ℕ)) (before behind : List Parameter) (r : Result (Unit {0}) ElabFault) (fault left : ElabFault) (exit : Result (Vec Parameter Global) ElabFault) → Adds defs l.p names new before behind r → r ≡ Err fault → exit ≡ Err left → left ≡ fault → ReadsParameters defs pairs exit
      parameters-out new before behind r fault left exit h e f g =
          subst (λ (x : Result (Vec Parameter Global) ElabFault). ReadsParameters defs pairs x) (sym (f ∙ ap Err g))
          (go fault (subst (λ (x : Result (Unit {0}) ElabFault). Adds defs l.p names new before behind x) e h))
        where
          go : (fault : ElabFault) → Adds defs l.p names new before behind (Err fault) → ReadsParameters defs pairs (Err fault)
          go (At p kind) k = read-fails (record { place = p; kind = kind }) k
          go NoMemory k = begins-well k.0 k.1

      -- it is read
      module _ (new : List (List ℕ)) (behind : List Parameter) (v : IsParameter defs l.p names new parameters behind) where
        stepped : (others : List Pair) → given-by others (cond (is_some (place_in l.p.name names)) (refuse l.p.place RepeatedName) (Ok l.p.name)) ≡ (read_parameters defs others ((l.p.name, v.parameter.sort) ∷ b.before) >>= λ ys. Ok ((parameters_of parameters ++ (l.p.name, v.parameter.sort) ∷ []) ++ ys))
        stepped others = go (is_some (place_in l.p.name names)) v.read ∙ regrouped (read_parameters defs others ((l.p.name, v.parameter.sort) ∷ b.before))
          where
            go : (t : Bool) → (cond t (refuse l.p.place RepeatedName) (Ok l.p.name) >>= λ (name : List ℕ). scoped_sort defs l.p.beside) ≡ Ok v.parameter.sort → given-by others (cond t (refuse l.p.place RepeatedName) (Ok l.p.name)) ≡ ((read_parameters defs others ((l.p.name, v.parameter.sort) ∷ b.before) >>= λ zs. Ok ((l.p.name, v.parameter.sort) ∷ zs)) >>= λ ys. Ok (parameters_of parameters ++ ys))
            go true h = absurd (cc)
            go false h = ap (λ (r : Result Sort Fault). (r >>= λ s. read_parameters defs others ((l.p.name, s) ∷ b.before) >>= λ zs. Ok ((l.p.name, s) ∷ zs)) >>= λ ys. Ok (parameters_of parameters ++ ys)) h

            regrouped : (r : Result (Named Sort) Fault) → ((r >>= λ zs. Ok ((l.p.name, v.parameter.sort) ∷ zs)) >>= λ ys. Ok (parameters_of parameters ++ ys)) ≡ (r >>= λ ys. Ok ((parameters_of parameters ++ (l.p.name, v.parameter.sort) ∷ []) ++ ys))
            regrouped (Ok zs) = ap Ok (sym (append_assoc (parameters_of parameters) ((l.p.name, v.parameter.sort) ∷ []) zs))
            regrouped (Err f) = refl

        behind-is : parameters_of parameters ++ (l.p.name, v.parameter.sort) ∷ [] ≡ parameters_of behind
        behind-is =
            ap (λ (n : List ℕ). parameters_of parameters ++ (n, v.parameter.sort) ∷ []) (sym v.name_is)
            ∙ sym (ap parameters_of v.behind_are ∙ map-append (λ (p : Parameter). (p.name.items, p.sort)) parameters (v.parameter ∷ []))

        pub read-next : (next : ℕ) → EndsBefore expr.items.items at next → AreReadBefore expr defs pairs new behind next to
        read-next next ends = record {
          rest = l.rest;
          left = l.others;
          before = (l.p.name, v.parameter.sort) ∷ b.before;
          front = b.front ++ l.p ∷ [];
          stand = subst (λ n. StandAll expr.items.items expr.text.items n l.rest to) (left-is next ends) l.stand;
          left_are = l.rest_is;
          pairs_are = all-pairs ∙ sym (append_assoc b.front (l.p ∷ []) l.others);
          read = λ others.
              ap (λ (qs : List Pair). read_parameters defs qs []) (append_assoc b.front (l.p ∷ []) others)
              ∙ given-with others
              ∙ stepped others
              ∙ ap (λ (qs : Named Sort). read_parameters defs others ((l.p.name, v.parameter.sort) ∷ b.before) >>= λ ys. Ok (qs ++ ys)) behind-is;
          names_are = v.names_are ∙ ap (λ (ns : List (List ℕ)). l.p.name ∷ ns) b.names_are;
        }

    -- none is left
    pub read-ends : to ≤ at → read_parameters defs pairs [] ≡ Ok (parameters_of parameters)
    read-ends le = ap (λ (qs : List Pair). read_parameters defs qs []) b.pairs_are ∙ b.read b.left ∙ go b.rest b.stand b.left b.left_are
      where
        go : (rest : Exprs) → StandAll expr.items.items expr.text.items at rest to → (left : List Pair) → pairs_of rest ≡ Some left → (read_parameters defs left b.before >>= λ ys. Ok (parameters_of parameters ++ ys)) ≡ Ok (parameters_of parameters)
        go none h left e =
            let nothing : [] ≡ left = some-same [] left e in
            ap (λ (qs : List Pair). read_parameters defs qs b.before >>= λ ys. Ok (parameters_of parameters ++ ys)) (sym nothing) ∙ ap Ok (append-nil (parameters_of parameters))
        go (also f fs) h left e =
            let up = stands_lt expr.items.items expr.text.items at f h.0 h.1 in
            let more = stand_all_le expr.items.items expr.text.items h.0 fs to h.2 in
            absurd (omega (arith, up, more, le))
