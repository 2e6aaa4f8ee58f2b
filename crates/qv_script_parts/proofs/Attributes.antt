-- The name that attributes give a term, by their items.
use Rattle.std.proofs.Common.{◌≡◌, ◌≤◌, ◌<◌, ◌+◌, ℕ, Bool, true, false, cond, Option, Some, None, List, [], ◌∷◌, refl, sym, ap, subst, ◌∙◌, arith}
use Rattle.std.specs.Prelude.{unwrap_or, codes}
use Rattle.std.specs.Str.{bytes_eq}
use Rattle.std.specs.Prelude.{is_some}
use Rattle.std.proofs.lemmas.Slice.Eq.{bytes_eq-Decides}
use Rattle.qv_text.specs.declared.kinds.TokenKind.{TokenKind}
use Rattle.qv_text.specs.declared.kinds.TokenKind.TheVariants.{Keyword}
use Rattle.qv_text.specs.Reading.{Lexeme}
use Rattle.qv_sexpr.specs.declared.items.Item.{Item}
use Rattle.qv_sexpr.specs.declared.items.ItemKind.{ItemKind}
use Rattle.qv_sexpr.specs.declared.items.ItemKind.TheVariants.{Atom, Open, Close}
use Rattle.qv_sexpr.specs.declared.items.Expr.{Expr}
use Rattle.qv_sexpr.specs.Script.{atom, list, none, also}
use Rattle.qv_sexpr.specs.Script.{Tree as Written, Trees as Writtens}
use Rattle.qv_sexpr.specs.Items.{Stands, StandAll, Begins}
use Rattle.qv_sexpr.specs.Copying.{EndsBefore}
use Rattle.qv_sexpr.proofs.Standing.{stands_lt, stand_all_le}
use Rattle.qv_elab_defs.specs.Tokens.{items, name_of_token, keyword_text, symbol_of, keyword_of, is_keyword}
use Rattle.qv_elab_items.specs.Flat.{name_in, construct_in}
use Rattle.qv_elab_defs.specs.Shapes.{Construct, Let, Quantified, Universal, Existential, Annotated, Indexed, Qualified, Unsupported, reserved_construct, construct_of, are_attributes, Naming, Unnamed, Named, Misnamed, value_in_front, behind_named, naming_by, naming_of, naming}
use Rattle.qv_elab_items.specs.Inside.{is_named}
use Rattle.qv_elab_items.proofs.Pairing.{some-item, begins-within, next-of}
use Rattle.qv_elab_items.proofs.Attributed.{next-at, keyword-stands, symbol-stands}
use Rattle.qv_elab_items.proofs.Slices.{item_of, paren_of, construct-stands}
use Rattle.qv_elab_items.proofs.Within.{read-at, here}
use Rattle.qv_script_defs.specs.Parts.{asserted_of, asserted_by, asserted_with}
use Rattle.qv_script_parts.specs.Parted.{is_annotated, is_annotation, symbol_in_front, name_given, IsAsserted}
use Rattle.qv_script_parts.proofs.Parting.{nothing-left}

-- the word `!`
other-word : (w v : List ℕ) → bytes_eq v (codes "!") ≡ false → bytes_eq w v ≡ true → bytes_eq w (codes "!") ≡ false
other-word w v n e = ap (λ x. bytes_eq x (codes "!")) ((bytes_eq-Decides w v).0 e) ∙ n

past-word : (b : Bool) (w : List ℕ) (c d : Construct) → is_annotated c ≡ false → (b ≡ true → bytes_eq w (codes "!") ≡ false) → is_annotated d ≡ bytes_eq w (codes "!") → is_annotated (cond b c d) ≡ bytes_eq w (codes "!")
past-word true w c d n f e = n ∙ sym (f refl)
past-word false w c d n f e = e

this-word : (b q r : Bool) → is_annotated (cond b Annotated (cond q Indexed (cond r Qualified Unsupported))) ≡ b
this-word true q r = refl
this-word false true r = refl
this-word false false true = refl
this-word false false false = refl

pub annotation-word : (w : List ℕ) → is_annotated (reserved_construct w) ≡ bytes_eq w (codes "!")
unfolding reserved_construct
annotation-word w =
    let rest : Construct = cond (bytes_eq w (codes "!")) Annotated (cond (bytes_eq w (codes "_")) Indexed (cond (bytes_eq w (codes "as")) Qualified Unsupported)) in
    let own : is_annotated rest ≡ bytes_eq w (codes "!") = this-word (bytes_eq w (codes "!")) (bytes_eq w (codes "_")) (bytes_eq w (codes "as")) in
    let third = past-word (bytes_eq w (codes "exists")) w (Quantified Existential) rest refl (other-word w (codes "exists") refl) own in
    let second = past-word (bytes_eq w (codes "forall")) w (Quantified Universal) (cond (bytes_eq w (codes "exists")) (Quantified Existential) rest) refl (other-word w (codes "forall") refl) third in
    past-word (bytes_eq w (codes "let")) w Let (cond (bytes_eq w (codes "forall")) (Quantified Universal) (cond (bytes_eq w (codes "exists")) (Quantified Existential) rest)) refl (other-word w (codes "let") refl) second

-- what a name so far and others behind it make
abbrev pub naming_more : Option (List ℕ) → List (Option Written) → Naming
naming_more None xs = naming_of xs
naming_more (Some name) [] = Named name
naming_more (Some name) (x ∷ xs) = Misnamed

one-more : (v : Option Written) (name : List ℕ) (xs : List (Option Written)) → symbol_in_front v ≡ Some name → naming_of (v ∷ xs) ≡ naming_more (Some name) xs
one-more None name xs e = absurd (cc)
one-more (Some e) name [] h = ap naming_by h
one-more (Some e) name (x ∷ xs) h = refl

one-wrong : (v : Option Written) (xs : List (Option Written)) → symbol_in_front v ≡ None → name_given (naming_of (v ∷ xs)) ≡ None
one-wrong None xs e = refl
one-wrong (Some e) [] h = ap (λ o. name_given (naming_by o)) h
one-wrong (Some e) (x ∷ xs) h = refl

-- a symbol is no keyword
kind-value : (k : TokenKind) (t : List ℕ) (e : Written) → symbol_of e ≡ name_of_token k t → symbol_in_front (cond (is_some (keyword_text k t)) None (Some e)) ≡ name_of_token k t
kind-value Keyword t e h = refl
kind-value _ t e h = h

symbol-is-value : (e : Written) → symbol_in_front (cond (is_keyword e) None (Some e)) ≡ symbol_of e
symbol-is-value (list p inside q) = refl
symbol-is-value (atom l) = kind-value l.kind l.text (atom l) refl

-- where a loop over attributes is
module _ (its : List Item) (text : List ℕ) where
  abbrev pub NameLeft : ℕ → ℕ → ℕ → Option (List ℕ) → Type 0
  NameLeft from at to o = (es : Writtens) → StandAll its text from es to → (rest : Writtens) × StandAll its text at rest to × (naming es ≡ naming_more o (behind_named (items rest)))

  pub name-here : (from to : ℕ) → NameLeft from from to None
  name-here from to es h = (es, h, refl)

  -- an attribute that isn't `:named`
  pub name-stays : (from at to : ℕ) (o : Option (List ℕ)) → NameLeft from at to o → at < to → (next : ℕ) → EndsBefore its at next → is_named text (read-at its at) ≡ false → NameLeft from next to o
  name-stays from at to o left lt next ends other es h =
      let l = left es h in
      let n = next-at its text at to l.0 l.1 lt next ends in
      let test : bytes_eq (unwrap_or (keyword_of n.0) []) (codes ":named") ≡ false = ap (λ k. bytes_eq (unwrap_or k []) (codes ":named")) (sym (keyword-stands its text at n.0 next n.3)) ∙ other in (
        n.1,
        n.4,
        l.2 ∙ ap (λ (q : Writtens). naming_more o (behind_named (items q))) n.2
            ∙ ap (λ b. naming_more o (cond b (value_in_front (items n.1) ∷ behind_named (items n.1)) (behind_named (items n.1)))) test,
      )

  -- the first `:named`, with a symbol behind it
  pub name-found : (from at to : ℕ) (name : List ℕ) → NameLeft from at to None → at < to → (next : ℕ) → EndsBefore its at next → is_named text (read-at its at) ≡ true →
      ((es : Writtens) → StandAll its text next es to → Some name ≡ symbol_in_front (value_in_front (items es))) → NameLeft from next to (Some name)
  name-found from at to name left lt next ends own front es h =
      let l = left es h in
      let n = next-at its text at to l.0 l.1 lt next ends in
      let test : bytes_eq (unwrap_or (keyword_of n.0) []) (codes ":named") ≡ true = ap (λ k. bytes_eq (unwrap_or k []) (codes ":named")) (sym (keyword-stands its text at n.0 next n.3)) ∙ own in (
        n.1,
        n.4,
        l.2 ∙ ap (λ (q : Writtens). naming_of (behind_named (items q))) n.2
            ∙ ap (λ b. naming_of (cond b (value_in_front (items n.1) ∷ behind_named (items n.1)) (behind_named (items n.1)))) test
            ∙ one-more (value_in_front (items n.1)) name (behind_named (items n.1)) (sym (front n.1 n.4)),
      )

  -- a second `:named`
  pub name-twice : (from at to : ℕ) (name : List ℕ) → NameLeft from at to (Some name) → at < to → (next : ℕ) → EndsBefore its at next → is_named text (read-at its at) ≡ true → (es : Writtens) → StandAll its text from es to → None ≡ name_given (naming es)
  name-twice from at to name left lt next ends own es h =
      let l = left es h in
      let n = next-at its text at to l.0 l.1 lt next ends in
      let test : bytes_eq (unwrap_or (keyword_of n.0) []) (codes ":named") ≡ true = ap (λ k. bytes_eq (unwrap_or k []) (codes ":named")) (sym (keyword-stands its text at n.0 next n.3)) ∙ own in
      sym (ap name_given (l.2 ∙ ap (λ (q : Writtens). naming_more (Some name) (behind_named (items q))) n.2
      ∙ ap (λ b. naming_more (Some name) (cond b (value_in_front (items n.1) ∷ behind_named (items n.1)) (behind_named (items n.1)))) test))

  -- a `:named` without a symbol behind it
  pub name-wrong : (from at to : ℕ) → NameLeft from at to None → at < to → (next : ℕ) → EndsBefore its at next → is_named text (read-at its at) ≡ true →
      ((es : Writtens) → StandAll its text next es to → None ≡ symbol_in_front (value_in_front (items es))) → (es : Writtens) → StandAll its text from es to → None ≡ name_given (naming es)
  name-wrong from at to left lt next ends own front es h =
      let l = left es h in
      let n = next-at its text at to l.0 l.1 lt next ends in
      let test : bytes_eq (unwrap_or (keyword_of n.0) []) (codes ":named") ≡ true = ap (λ k. bytes_eq (unwrap_or k []) (codes ":named")) (sym (keyword-stands its text at n.0 next n.3)) ∙ own in
      sym (ap name_given (l.2 ∙ ap (λ (q : Writtens). naming_of (behind_named (items q))) n.2
      ∙ ap (λ b. naming_of (cond b (value_in_front (items n.1) ∷ behind_named (items n.1)) (behind_named (items n.1)))) test)
      ∙ one-wrong (value_in_front (items n.1)) (behind_named (items n.1)) (sym (front n.1 n.4)))

  -- the symbol that stands in front
  pub front-none : (at to : ℕ) → to ≤ at → (es : Writtens) → StandAll its text at es to → None ≡ symbol_in_front (value_in_front (items es))
  front-none at to le es h = ap (λ (q : Writtens). symbol_in_front (value_in_front (items q))) (sym (nothing-left its text at to es h le))

  pub front-some : (at to : ℕ) → at < to → (o : Option (List ℕ)) → o ≡ name_in text (read-at its at) → (es : Writtens) → StandAll its text at es to → o ≡ symbol_in_front (value_in_front (items es))
  front-some at to lt o k es h =
      let n = next-of its text at to es h lt in
      k ∙ symbol-stands its text at n.0 n.2 n.4 ∙ sym (symbol-is-value n.0) ∙ ap (λ (q : Writtens). symbol_in_front (value_in_front (items q))) (sym n.3)

  pub name-end : (from at to : ℕ) (o : Option (List ℕ)) → NameLeft from at to o → to ≤ at → (es : Writtens) → StandAll its text from es to → o ≡ name_given (naming es)
  name-end from at to o left le es h =
      let l = left es h in
      go o ∙ sym (ap name_given (l.2 ∙ ap (λ (q : Writtens). naming_more o (behind_named (items q))) (nothing-left its text at to l.0 l.1 le)))
    where
      go : (p : Option (List ℕ)) → p ≡ name_given (naming_more p [])
      go None = refl
      go (Some n) = refl

-- an annotated term by its items
pub record IsAnnotatedAt (its : List Item) (text : List ℕ) (at close attributes : ℕ) (inside : Writtens) : Type 0 where
  pub word : Lexeme
  pub term : Written
  pub given : Writtens
  pub inside_is : inside ≡ also (atom word) (also term given)
  pub construct : construct_of (atom word) ≡ Annotated
  pub stands : Stands its text (at + 1) term attributes
  pub rest : StandAll its text attributes given close

annotated-is : (c : Construct) → is_annotated c ≡ true → c ≡ Annotated
annotated-is Annotated e = refl
annotated-is _ e = absurd (cc)

not-annotated : (c : Construct) (whole : Written) (rest : Writtens) → is_annotated c ≡ false → asserted_by c whole rest ≡ record { term = whole; name = None }
not-annotated Annotated whole rest e = absurd (cc)
not-annotated _ whole rest e = refl

alone : (c : Construct) (whole : Written) → asserted_by c whole none ≡ record { term = whole; name = None }
alone Annotated whole = refl
alone _ whole = refl

module _ (its : List Item) (text : List ℕ) (at close : ℕ) where
  -- the word in front
  in-front : (e : Written) (to : ℕ) → Stands its text at e to → is_annotation text (read-at its at) ≡ is_annotated (construct_of e)
  in-front (atom l) to h =
      let same : item_of l h.0.start h.0.end ≡ read-at its at = some-item (item_of l h.0.start h.0.end) (read-at its at) (sym h.0.item ∙ here its at (begins-within its text at (atom l) to h)) in
      ap (λ x. is_annotated (construct_in text x)) (sym same) ∙ ap is_annotated (construct-stands its text at l h.0)
  in-front (list p inside q) to h =
      let same : paren_of (Open h.0) p h.1.0 ≡ read-at its at = some-item (paren_of (Open h.0) p h.1.0) (read-at its at) (sym h.1.1 ∙ here its at (begins-within its text at (list p inside q) to h)) in
      ap (λ x. is_annotated (construct_in text x)) (sym same)

  pub word-in-front : (inside : Writtens) → StandAll its text at inside close → at < close → is_annotation text (read-at its at) ≡ true → (l : Lexeme) × (rest : Writtens) × (inside ≡ also (atom l) rest) × (construct_of (atom l) ≡ Annotated) × StandAll its text (at + 1) rest close
  word-in-front none h lt own = absurd (omega (arith, h))
  word-in-front (also (atom l) rest) h lt own =
      (l, rest, refl, annotated-is (construct_of (atom l)) (sym (in-front (atom l) h.0 h.1) ∙ own), subst (λ m. StandAll its text m rest close) h.1.1 h.2)
  word-in-front (also (list p i q) rest) h lt own = let e = sym (in-front (list p i q) h.0 h.1) ∙ own in absurd (cc)

  pub annotated-at : (inside : Writtens) → StandAll its text at inside close → at + 1 < close → is_annotation text (read-at its at) ≡ true → (attributes : ℕ) → EndsBefore its (at + 1) attributes → IsAnnotatedAt its text at close attributes inside
  annotated-at inside h lt own attributes ends =
      let w = word-in-front inside h (omega arith) own in
      let n = next-at its text (at + 1) close w.1 w.4 lt attributes ends in
      record {
        word = w.0;
        term = n.0;
        given = n.1;
        inside_is = w.2 ∙ ap (λ (q : Writtens). also (atom w.0) q) n.2;
        construct = w.3;
        stands = n.3;
        rest = n.4;
      }

  -- nothing behind the word, or another word
  pub nothing-annotated : (p q : ℕ) (inside : Writtens) → StandAll its text at inside close → close ≤ at + 1 → asserted_of (list p inside q) ≡ record { term = list p inside q; name = None }
  nothing-annotated p q none h le = refl
  nothing-annotated p q (also f none) h le = alone (construct_of f) (list p (also f none) q)
  nothing-annotated p q (also f (also g gs)) h le =
      let one = stands_lt its text at f h.0 h.1 in
      let two = stands_lt its text h.0 g h.2.0 h.2.1 in
      let up = stand_all_le its text h.2.0 gs close h.2.2 in
      absurd (omega (arith, one, two, up, le))

  pub other-annotated : (p q : ℕ) (inside : Writtens) → StandAll its text at inside close → is_annotation text (read-at its at) ≡ false → asserted_of (list p inside q) ≡ record { term = list p inside q; name = None }
  other-annotated p q none h own = refl
  other-annotated p q (also f rest) h own = not-annotated (construct_of f) (list p (also f rest) q) rest (sym (in-front f h.0 h.1) ∙ own)

  module _ (p q attributes : ℕ) (inside : Writtens) (a : IsAnnotatedAt its text at close attributes inside) where
    annotated-as : asserted_of (list p inside q) ≡ asserted_with (list p inside q) a.term (are_attributes a.given) (naming a.given)
    annotated-as =
        let whole : Written = list p (also (atom a.word) (also a.term a.given)) q in
        subst (λ (i : Writtens). asserted_of (list p i q) ≡ asserted_with (list p i q) a.term (are_attributes a.given) (naming a.given)) (sym a.inside_is)
        (ap (λ c. asserted_by c whole (also a.term a.given)) a.construct)

    pub no-attributes : false ≡ are_attributes a.given → asserted_of (list p inside q) ≡ record { term = list p inside q; name = None }
    no-attributes e = annotated-as ∙ ap (λ b. asserted_with (list p inside q) a.term b (naming a.given)) (sym e)

    unnamed : (n : Naming) → None ≡ name_given n → asserted_with (list p inside q) a.term true n ≡ record { term = list p inside q; name = None }
    unnamed Unnamed e = refl
    unnamed (Named x) e = absurd (cc)
    unnamed Misnamed e = refl

    pub no-name : true ≡ are_attributes a.given → None ≡ name_given (naming a.given) → asserted_of (list p inside q) ≡ record { term = list p inside q; name = None }
    no-name e f = annotated-as ∙ ap (λ b. asserted_with (list p inside q) a.term b (naming a.given)) (sym e) ∙ unnamed (naming a.given) f

    named-so : (n : Naming) (name : List ℕ) → Some name ≡ name_given n → asserted_with (list p inside q) a.term true n ≡ record { term = a.term; name = Some name }
    named-so Unnamed name e = absurd (cc)
    named-so (Named x) name e = let same : name ≡ x = cc in ap (λ y. record { term = a.term; name = Some y }) (sym same)
    named-so Misnamed name e = absurd (cc)

    pub with-name : (name : List ℕ) → true ≡ are_attributes a.given → Some name ≡ name_given (naming a.given) → asserted_of (list p inside q) ≡ record { term = a.term; name = Some name }
    with-name name e f = annotated-as ∙ ap (λ b. asserted_with (list p inside q) a.term b (naming a.given)) (sym e) ∙ named-so (naming a.given) name f

-- an expression begins where one stands
pub stands-begins : (expr : Expr) (at : ℕ) (e : Written) (to : ℕ) → Stands expr.items.items expr.text.items at e to → Begins expr at
stands-begins expr at (atom l) to h = (item_of l h.0.start h.0.end, h.0.item, atoms l.kind)
  where
    atoms : (k : TokenKind) → ◌≡◌ {A = ItemKind} (Atom k) Close → ⊥
    atoms k e = cc
stands-begins expr at (list p inside q) to h = (paren_of (Open h.0) p h.1.0, h.1.1, opens h.0)
  where
    opens : (n : ℕ) → ◌≡◌ {A = ItemKind} (Open n) Close → ⊥
    opens n e = cc

-- an option that is something, and one that isn't
pub some-of : {A : Type 0} (o : Option A) → is_some o ≡ true → (a : A) × (o ≡ Some a)
some-of (Some a) e = (a, refl)
some-of None e = absurd (cc)

pub none-of : {A : Type 0} (o : Option A) → is_some o ≡ false → o ≡ None
none-of (Some a) e = absurd (cc)
none-of None e = refl

-- what is told of a list, by the same items
pub told-list : (its its' : List Item) (text text' : List ℕ) (at close : ℕ) (o : Option (ℕ × List ℕ)) → its' ≡ its → text' ≡ text → ((p : ℕ) (inside : Writtens) (q : ℕ) → StandAll its' text' at inside close → IsAsserted its' text' (list p inside q) (asserted_of (list p inside q)) o) → (p : ℕ) (inside : Writtens) (q : ℕ) (e : Written) → e ≡ list p inside q → StandAll its text at inside close → IsAsserted its text e (asserted_of e) o
told-list its its' text text' at close o f g h p inside q e k stand =
    let one = subst (λ (i : List Item). (p : ℕ) (inside : Writtens) (q : ℕ) → StandAll i text' at inside close → IsAsserted i text' (list p inside q) (asserted_of (list p inside q)) o) f h in
    let two = subst (λ (t : List ℕ). (p : ℕ) (inside : Writtens) (q : ℕ) → StandAll its t at inside close → IsAsserted its t (list p inside q) (asserted_of (list p inside q)) o) g one in
    subst (λ (d : Written). IsAsserted its text d (asserted_of d) o) (sym k) (two p inside q stand)
