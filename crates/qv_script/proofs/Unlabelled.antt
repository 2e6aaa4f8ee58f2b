-- Where `:named` stands nowhere, no term has a name.
use Rattle.std.proofs.Common.{◌≡◌, ◌≤◌, ◌<◌, ◌+◌, ℕ, zero, suc, nat_lt, Bool, true, false, ◌||◌, ◌&&◌, not, Option, Some, None, List, [], ◌∷◌, length, slice_get, refl, sym, ap, subst, ◌∙◌, Ok, arith}
use Rattle.std.specs.Prelude.{Result, if◌then◌else◌, unwrap_or, codes}
use Rattle.std.specs.List.{list_any}
use Rattle.std.specs.Str.{bytes_eq}
use Rattle.std.proofs.lemmas.Bool.Decides.{nat_tests}
use Rattle.qv_sexpr.specs.declared.items.Item.{Item}
use Rattle.qv_sexpr.specs.declared.items.Expr.{Expr}
use Rattle.qv_sexpr.specs.declared.items.ItemKind.TheVariants.{Open, Close}
use Rattle.qv_sexpr.specs.Script.{atom, list, none, also}
use Rattle.qv_sexpr.specs.Script.{Tree as Written, Trees as Writtens}
use Rattle.qv_sexpr.specs.Items.{Stands, StandAll, IsExprOf}
use Rattle.qv_elab_defs.specs.Faults.{◌>>=◌}
use Rattle.qv_elab_defs.specs.Tokens.{items, keyword_of, name_of_token}
use Rattle.qv_elab_defs.specs.Shapes.{Construct, Let, Quantified, Annotated, Indexed, Qualified, Unsupported, Application, construct_of, Pair, pairs_of, some_pairs, are_attributes, behind_named, Naming, Unnamed, naming_of, naming, value_in_front}
use Rattle.qv_elab_items.specs.Inside.{is_named}
use Rattle.qv_elab_items.proofs.Slices.{item_of, paren_of}
use Rattle.qv_script_defs.specs.declared.faults.ScriptKind.TheVariants.{NotSupported}
use Rattle.qv_script_defs.specs.Faults.{Fault, refuse}
use Rattle.qv_script_defs.specs.Labels.{Label, Around, nothing, below, within, is_among, unless_outside, name_by, name_of, with_label, if_pairs, labels_in, labels_listed, labels_all}
use Rattle.qv_script_defs.specs.Parts.{Asserted, asserted_with, asserted_by, asserted_of, parameters_of}
use Rattle.qv_script_defs.specs.Commands.{Command, DefineFun, DefineConst, Assert, CheckSatAssuming, GetValue, listed, labels_of_body, labels_of}
use Rattle.qv_script_parts.specs.Parted.{IsPart, AreParts}
use Rattle.qv_script_parts.proofs.Parting.{part-keyword}
use Rattle.qv_script.specs.Beginnings.{mentions_named, mention_named}

or-false : (a b : Bool) → a ≡ false → b ≡ false → (a || b) ≡ false
or-false true b e f = absurd (cc)
or-false false b e f = f

pub left-false : (a b : Bool) → (a || b) ≡ false → a ≡ false
left-false true b e = absurd (cc)
left-false false b e = refl

pub right-false : (a b : Bool) → (a || b) ≡ false → b ≡ false
right-false true b e = absurd (cc)
right-false false b e = e

-- items of which none passes a test
none-passes : (p : Item → Bool) (xs : List Item) (i : ℕ) (x : Item) → list_any p xs ≡ false → slice_get xs i ≡ Some x → p x ≡ false
none-passes p [] i x e h = absurd (cc)
none-passes p (y ∷ xs) zero x e h =
    let same : y ≡ x = cc in
    subst (λ (z : Item). p z ≡ false) same (left-false (p y) (list_any p xs) e)
none-passes p (y ∷ xs) (suc i) x e h = none-passes p xs i x (right-false (p y) (list_any p xs) e) h

all-fail : (p : Item → Bool) (xs : List Item) → ((i : ℕ) (x : Item) → slice_get xs i ≡ Some x → p x ≡ false) → list_any p xs ≡ false
all-fail p [] h = refl
all-fail p (y ∷ xs) h = or-false (p y) (list_any p xs) (h 0 y refl) (all-fail p xs (λ i x e. h (suc i) x e))

pub by-place : {P : Type 0} (k m : ℕ) → (k < m → P) → (m ≤ k → P) → P
by-place {P} k m below beside = go (nat_lt k m) refl
  where
    go : (b : Bool) → nat_lt k m ≡ b → P
    go true e = below (grind (arith, nat_tests))
    go false e = beside (grind (arith, nat_tests))

some-item : (a b : Item) → ◌≡◌ {A = Option Item} (Some a) (Some b) → a ≡ b
some-item a b h = cc

module _ (its : List Item) (text : List ℕ) where
  abbrev IsQuiet : Type 0
  IsQuiet = (i : ℕ) (x : Item) → slice_get its i ≡ Some x → is_named text x ≡ false

  atom-named : (i : ℕ) (e : Written) (j : ℕ) (x : Item) → Stands its text i e j → slice_get its i ≡ Some x → is_named text x ≡ bytes_eq (unwrap_or (keyword_of e) []) (codes ":named")
  atom-named i e j x h there = ap (λ o. bytes_eq (unwrap_or o []) (codes ":named")) (part-keyword its text i e j x h there)

  mutual
    quiet : IsQuiet → (i : ℕ) (e : Written) (j : ℕ) → Stands its text i e j → mentions_named e ≡ false
    quiet q i (atom l) j h = sym (atom-named i (atom l) j (item_of l h.0.start h.0.end) h h.0.item) ∙ q i (item_of l h.0.start h.0.end) h.0.item
    quiet q i (list p inside c) j h = quiet-all q (i + 1) inside h.0 h.2

    quiet-all : IsQuiet → (i : ℕ) (es : Writtens) (j : ℕ) → StandAll its text i es j → mention_named es ≡ false
    quiet-all q i none j h = refl
    quiet-all q i (also e es) j h = or-false (mentions_named e) (mention_named es) (quiet q i e h.0 h.1) (quiet-all q h.0 es j h.2)

  -- by where an item stands in a list
  list-heard : (i p : ℕ) (inside : Writtens) (c j : ℕ) (h : Stands its text i (list p inside c) j) (k : ℕ) (x : Item) → i ≤ k → k < j → slice_get its k ≡ Some x → (i + 1 ≤ k → k < h.0 → is_named text x ≡ false) → is_named text x ≡ false
  list-heard i p inside c j h k x le lt there within =
      by-place i k
      (λ less. by-place k h.0
      (λ low. within (omega (arith, less)) low)
      (λ high.
      let same : h.0 ≡ k = omega (arith, high, lt, h.4) in
      let item = some-item (paren_of Close c h.3.0) x (sym h.3.1 ∙ subst (λ (n : ℕ). slice_get its n ≡ Some x) (sym same) there) in
      ap (is_named text) (sym item)))
      (λ low.
      let same : i ≡ k = omega (arith, low, le) in
      let item = some-item (paren_of (Open h.0) p h.1.0) x (sym h.1.1 ∙ subst (λ (n : ℕ). slice_get its n ≡ Some x) (sym same) there) in
      ap (is_named text) (sym item))

  mutual
    heard : (i : ℕ) (e : Written) (j : ℕ) → Stands its text i e j → mentions_named e ≡ false → (k : ℕ) (x : Item) → i ≤ k → k < j → slice_get its k ≡ Some x → is_named text x ≡ false
    heard i (atom l) j h m k x le lt there =
        let same : i ≡ k = omega (arith, le, lt, h.1) in
        atom-named i (atom l) j x h (subst (λ (n : ℕ). slice_get its n ≡ Some x) (sym same) there) ∙ m
    heard i (list p inside c) j h m k x le lt there = list-heard i p inside c j h k x le lt there (λ low high. heard-all (i + 1) inside h.0 h.2 m k x low high there)

    heard-all : (i : ℕ) (es : Writtens) (j : ℕ) → StandAll its text i es j → mention_named es ≡ false → (k : ℕ) (x : Item) → i ≤ k → k < j → slice_get its k ≡ Some x → is_named text x ≡ false
    heard-all i none j h m k x le lt there = absurd (omega (arith, h, le, lt))
    heard-all i (also e es) j h m k x le lt there =
        by-place k h.0
        (λ low. heard i e h.0 h.1 (left-false (mentions_named e) (mention_named es) m) k x le low there)
        (λ high. heard-all h.0 es j h.2 (right-false (mentions_named e) (mention_named es) m) k x high lt there)

-- what a look at the items of an expression finds
pub none-named : (expr : Expr) → list_any (is_named expr.text.items) expr.items.items ≡ false → (at : ℕ) (e : Written) → IsPart expr at e → mentions_named e ≡ false
none-named expr none_found at e p = quiet expr.items.items expr.text.items (λ i x h. none-passes (is_named expr.text.items) expr.items.items i x none_found h) at e p.0 p.1

slice-within : (xs : List Item) (i : ℕ) (x : Item) → slice_get xs i ≡ Some x → i < length xs
slice-within [] i x e = absurd (cc)
slice-within (y ∷ xs) zero x e = omega (arith)
slice-within (y ∷ xs) (suc i) x e = let lt = slice-within xs i x e in omega (arith, lt)

pub some-named : (expr : Expr) → list_any (is_named expr.text.items) expr.items.items ≡ true → (e : Written) → IsExprOf e expr → mentions_named e ≡ true
some-named expr found e h = go (mentions_named e) refl
  where
    go : (b : Bool) → mentions_named e ≡ b → mentions_named e ≡ true
    go true m = m
    go false m =
        let wrong = all-fail (is_named expr.text.items) expr.items.items (λ i x there. heard expr.items.items expr.text.items 0 e (length expr.items.items) h m i x (omega (arith)) (slice-within expr.items.items i x there) there) in
        absurd (cc)

-- attributes without it give no name
nothing-behind : (es : Writtens) → mention_named es ≡ false → behind_named (items es) ≡ []
nothing-behind none m = refl
nothing-behind (also (atom l) es) m =
    let rest = nothing-behind es (right-false (mentions_named (atom l)) (mention_named es) m) in
    ap (λ (b : Bool). if b then value_in_front (items es) ∷ behind_named (items es) else behind_named (items es)) (left-false (mentions_named (atom l)) (mention_named es) m) ∙ rest
nothing-behind (also (list p inside c) es) m = nothing-behind es (right-false (mention_named inside) (mention_named es) m)

unnamed : (es : Writtens) → mention_named es ≡ false → naming es ≡ Unnamed
unnamed es m = ap naming_of (nothing-behind es m)

no-name-by : (b : Bool) → name_by b Unnamed ≡ None
no-name-by true = refl
no-name-by false = refl

no-name-of : (es : Writtens) → mention_named es ≡ false → name_of es ≡ None
no-name-of es m = ap (λ (n : Naming). name_by (are_attributes es) n) (unnamed es m) ∙ no-name-by (are_attributes es)

-- outside of all terms with names
below-outer : (ps : List Pair) (a : Around) → a.outer ≡ [] → (below ps a).outer ≡ []
below-outer [] a e = e
below-outer (p ∷ ps) a e = below-outer ps (record a { inner = p.name ∷ a.inner }) e

and-false : (b : Bool) → (b && false) ≡ false
and-false true = refl
and-false false = refl

unless-none : (o : Option (List ℕ)) (a : Around) (ls : List Label) → a.outer ≡ [] → unless_outside o a ls ≡ Ok ls
unless-none None a ls e = refl
unless-none (Some name) a ls e =
    let test : (not (is_among name a.inner) && is_among name a.outer) ≡ false = ap (λ (os : List (List ℕ)). not (is_among name a.inner) && is_among name os) e ∙ and-false (not (is_among name a.inner)) in
    ap (λ (b : Bool). if b then refuse a.place NotSupported else Ok ls) test

no-pairs-in : (o : Option (List Pair)) (ls : List Label) (has : List Pair → Result (List Label) Fault) → ((ps : List Pair) → has ps ≡ Ok ls) → if_pairs o ls has ≡ Ok ls
no-pairs-in None ls has h = refl
no-pairs-in (Some ps) ls has h = h ps

mutual
  no-labels-in : (e : Written) (a : Around) (ls : List Label) → a.outer ≡ [] → mentions_named e ≡ false → labels_in e a ls ≡ Ok ls
  no-labels-in (atom l) a ls o m = unless-none (name_of_token l.kind l.text) a ls o
  no-labels-in (list place none close) a ls o m = refl
  no-labels-in (list place (also first rest) close) a ls o m = no-labels-listed (construct_of first) place rest a ls o (right-false (mentions_named first) (mention_named rest) m)

  no-labels-listed : (con : Construct) (place : ℕ) (rest : Writtens) (a : Around) (ls : List Label) → a.outer ≡ [] → mention_named rest ≡ false → labels_listed con place rest a ls ≡ Ok ls
  no-labels-listed Let place none a ls o m = refl
  no-labels-listed Let place (also (atom l) es) a ls o m = refl
  no-labels-listed Let place (also (list p pairs q) none) a ls o m = refl
  no-labels-listed Let place (also (list p pairs q) (also body none)) a ls o m =
      let inner = left-false (mentions_named body) false (right-false (mention_named pairs) (mentions_named body || false) m) in
      no-pairs-in (some_pairs (pairs_of pairs)) ls (λ ps. labels_all pairs a ls >>= labels_in body (below ps a)) (λ ps.
      ap (λ (r : Result (List Label) Fault). r >>= labels_in body (below ps a)) (no-labels-all pairs a ls o (left-false (mention_named pairs) (mentions_named body || false) m))
      ∙ no-labels-in body (below ps a) ls (below-outer ps a o) inner)
  no-labels-listed Let place (also (list p pairs q) (also body (also f fs))) a ls o m = refl
  no-labels-listed (Quantified u) place none a ls o m = refl
  no-labels-listed (Quantified u) place (also (atom l) es) a ls o m = refl
  no-labels-listed (Quantified u) place (also (list p pairs q) none) a ls o m = refl
  no-labels-listed (Quantified u) place (also (list p pairs q) (also body none)) a ls o m =
      let inner = left-false (mentions_named body) false (right-false (mention_named pairs) (mentions_named body || false) m) in
      no-pairs-in (some_pairs (pairs_of pairs)) ls (λ ps. labels_in body (below ps a) ls) (λ ps. no-labels-in body (below ps a) ls (below-outer ps a o) inner)
  no-labels-listed (Quantified u) place (also (list p pairs q) (also body (also f fs))) a ls o m = refl
  no-labels-listed Annotated place none a ls o m = refl
  no-labels-listed Annotated place (also term attributes) a ls o m =
      let no_name = no-name-of attributes (right-false (mentions_named term) (mention_named attributes) m) in
      ap (λ (n : Option (List ℕ)). labels_in term (within n place a) ls >>= λ own. Ok (with_label n term own)) no_name
      ∙ ap (λ (r : Result (List Label) Fault). r >>= λ own. Ok own) (no-labels-in term a ls o (left-false (mentions_named term) (mention_named attributes) m))
  no-labels-listed Application place none a ls o m = refl
  no-labels-listed Application place (also e es) a ls o m =
      ap (λ (r : Result (List Label) Fault). r >>= labels_all es a) (no-labels-in e a ls o (left-false (mentions_named e) (mention_named es) m))
      ∙ no-labels-all es a ls o (right-false (mentions_named e) (mention_named es) m)
  no-labels-listed Indexed place rest a ls o m = refl
  no-labels-listed Qualified place rest a ls o m = refl
  no-labels-listed Unsupported place rest a ls o m = refl

  no-labels-all : (es : Writtens) (a : Around) (ls : List Label) → a.outer ≡ [] → mention_named es ≡ false → labels_all es a ls ≡ Ok ls
  no-labels-all none a ls o m = refl
  no-labels-all (also e es) a ls o m =
      ap (λ (r : Result (List Label) Fault). r >>= labels_all es a) (no-labels-in e a ls o (left-false (mentions_named e) (mention_named es) m))
      ∙ no-labels-all es a ls o (right-false (mentions_named e) (mention_named es) m)

-- commands
asserted-by : (con : Construct) (whole : Written) (rest : Writtens) → mention_named rest ≡ false → asserted_by con whole rest ≡ record { term = whole; name = None }
asserted-by Annotated whole none m = refl
asserted-by Annotated whole (also t attributes) m =
    ap (λ (n : Naming). asserted_with whole t (are_attributes attributes) n) (unnamed attributes (right-false (mentions_named t) (mention_named attributes) m))
    ∙ go (are_attributes attributes)
  where
    go : (b : Bool) → asserted_with whole t b Unnamed ≡ record { term = whole; name = None }
    go true = refl
    go false = refl
asserted-by Let whole rest m = refl
asserted-by (Quantified u) whole rest m = refl
asserted-by Indexed whole rest m = refl
asserted-by Qualified whole rest m = refl
asserted-by Unsupported whole rest m = refl
asserted-by Application whole rest m = refl

asserted-alone : (t : Written) → mentions_named t ≡ false → asserted_of t ≡ record { term = t; name = None }
asserted-alone (atom l) m = refl
asserted-alone (list place none close) m = refl
asserted-alone (list place (also first rest) close) m = asserted-by (construct_of first) (list place (also first rest) close) rest (right-false (mentions_named first) (mention_named rest) m)

listed-none : (ts : Written) → mentions_named ts ≡ false → labels_all (listed ts) nothing [] ≡ Ok []
listed-none (atom l) m = refl
listed-none (list place inside close) m = no-labels-all inside nothing [] refl m

body-none : (ps : Option (List Pair)) (t : Written) → mentions_named t ≡ false → labels_of_body ps t ≡ Ok []
body-none None t m = refl
body-none (Some ps) t m = no-labels-in t (below ps nothing) [] (below-outer ps nothing refl) m

abbrev pub MentionNone : List Written → Type 0
MentionNone [] = Unit {0}
MentionNone (e ∷ es) = (mentions_named e ≡ false) × MentionNone es

pub parts-mention : (expr : Expr) → list_any (is_named expr.text.items) expr.items.items ≡ false → (ats : List ℕ) (es : List Written) → AreParts expr ats es → MentionNone es
parts-mention expr none_found [] [] h = tt
parts-mention expr none_found [] (e ∷ es) h = absurd h
parts-mention expr none_found (a ∷ ats) [] h = absurd h
parts-mention expr none_found (a ∷ ats) (e ∷ es) h = (none-named expr none_found a e h.0, parts-mention expr none_found ats es h.1)

pub unlabelled : (c : Command) (es : List Written) → MentionNone es → labels_of c es ≡ Ok []
unlabelled Assert [] m = refl
unlabelled Assert (t ∷ []) m = ap (λ (x : Asserted). labels_in x.term nothing []) (asserted-alone t m.0) ∙ no-labels-in t nothing [] refl m.0
unlabelled Assert (t ∷ u ∷ es) m = refl
unlabelled CheckSatAssuming [] m = refl
unlabelled CheckSatAssuming (ts ∷ []) m = listed-none ts m.0
unlabelled CheckSatAssuming (ts ∷ u ∷ es) m = refl
unlabelled GetValue [] m = refl
unlabelled GetValue (ts ∷ []) m = listed-none ts m.0
unlabelled GetValue (ts ∷ u ∷ es) m = refl
unlabelled DefineConst [] m = refl
unlabelled DefineConst (f ∷ []) m = refl
unlabelled DefineConst (f ∷ sort ∷ []) m = refl
unlabelled DefineConst (f ∷ sort ∷ t ∷ []) m = no-labels-in t nothing [] refl m.1.1.0
unlabelled DefineConst (f ∷ sort ∷ t ∷ u ∷ es) m = refl
unlabelled DefineFun [] m = refl
unlabelled DefineFun (f ∷ []) m = refl
unlabelled DefineFun (f ∷ ps ∷ []) m = refl
unlabelled DefineFun (f ∷ ps ∷ sort ∷ []) m = refl
unlabelled DefineFun (f ∷ ps ∷ sort ∷ t ∷ []) m = body-none (parameters_of ps) t m.1.1.1.0
unlabelled DefineFun (f ∷ ps ∷ sort ∷ t ∷ u ∷ es) m = refl
unlabelled _ es m = refl
