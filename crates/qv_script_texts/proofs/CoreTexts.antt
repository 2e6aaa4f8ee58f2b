-- The texts of a core, one more at a time.
use Rattle.std.proofs.Common.{◌≡◌, ◌<◌, ℕ, zero, suc, ◌+◌, Bool, true, false, cond, List, [], ◌∷◌, ◌++◌, map, take, length, get_or, refl, sym, ap, ◌∙◌, arith}
use Rattle.std.specs.Prelude.{filter}
use Rattle.std.proofs.lemmas.List.{append_assoc, append-nil, map-append}
use Rattle.qv_core.specs.Without.{is_among}
use Rattle.qv_elab_defs.specs.Scopes.{Named}
use Rattle.qv_script_defs.specs.State.{placed}
use Rattle.qv_script_defs.specs.Moves.{symbols_of}
use Rattle.qv_script_stack.specs.declared.held.Named.{Named as NamedAssertion}
use Rattle.qv_script_stack.specs.Held.{named_of}
use Rattle.qv_script_values.specs.SymbolText.{symbol_text}
use Rattle.qv_script_texts.specs.Printing.{with_spaces, texts_at, core_text}
use Rattle.qv_script_texts.proofs.Shown.{gap-of, spaced-more}

texts-append : (kept : List ℕ) (xs ys : Named ℕ) → texts_at kept (xs ++ ys) ≡ texts_at kept xs ++ texts_at kept ys
texts-append kept [] ys = refl
texts-append kept (x ∷ xs) ys = go (is_among kept x.1) (texts-append kept xs ys)
  where
    go : (b : Bool) → texts_at kept (xs ++ ys) ≡ texts_at kept xs ++ texts_at kept ys →
        map (λ (y : List ℕ × ℕ). y.0) (cond b (x ∷ filter (λ (y : List ℕ × ℕ). is_among kept y.1) (xs ++ ys)) (filter (λ (y : List ℕ × ℕ). is_among kept y.1) (xs ++ ys)))
        ≡ map (λ (y : List ℕ × ℕ). y.0) (cond b (x ∷ filter (λ (y : List ℕ × ℕ). is_among kept y.1) xs) (filter (λ (y : List ℕ × ℕ). is_among kept y.1) xs)) ++ texts_at kept ys
    go true more = ap (λ ns. x.0 ∷ ns) more
    go false more = more

-- the texts so far, and the space before the next one
pub record AreTold (kept : List ℕ) (texts : Named ℕ) (text gap : List ℕ) : Type 0 where
  pub text_is : text ≡ 40 ∷ with_spaces (texts_at kept texts)
  pub gap_is : gap ≡ gap-of (texts_at kept texts)

-- one that isn't kept
pub next-left : (kept : List ℕ) (texts : Named ℕ) (own : List ℕ × ℕ) (text gap : List ℕ) → is_among kept own.1 ≡ false → AreTold kept texts text gap → AreTold kept (texts ++ own ∷ []) text gap
next-left kept texts own text gap out h =
    let same : texts_at kept (texts ++ own ∷ []) ≡ texts_at kept texts =
    texts-append kept texts (own ∷ []) ∙ ap (λ b. texts_at kept texts ++ map (λ (y : List ℕ × ℕ). y.0) (cond b (own ∷ []) [])) out ∙ append-nil (texts_at kept texts) in
    record {
      text_is = h.text_is ∙ ap (λ ns. 40 ∷ with_spaces ns) (sym same);
      gap_is = h.gap_is ∙ ap gap-of (sym same);
    }

gap-behind : (ns : List (List ℕ)) (n : List ℕ) → 32 ∷ [] ≡ gap-of (ns ++ n ∷ [])
gap-behind [] n = refl
gap-behind (m ∷ ns) n = refl

-- and one that is
pub next-kept : (kept : List ℕ) (texts : Named ℕ) (own : List ℕ × ℕ) (text gap mid new : List ℕ) → is_among kept own.1 ≡ true → AreTold kept texts text gap →
    mid ≡ text ++ gap → new ≡ mid ++ own.0 → AreTold kept (texts ++ own ∷ []) new (32 ∷ [])
next-kept kept texts own text gap mid new in_core h mid-is new-is =
    let before = texts_at kept texts in
    let more : texts_at kept (texts ++ own ∷ []) ≡ before ++ own.0 ∷ [] =
    texts-append kept texts (own ∷ []) ∙ ap (λ b. before ++ map (λ (y : List ℕ × ℕ). y.0) (cond b (own ∷ []) [])) in_core in
    record {
      text_is =
          new-is ∙ ap (λ x. x ++ own.0) (mid-is ∙ ap (λ x. x ++ gap) h.text_is ∙ ap (λ g. (40 ∷ with_spaces before) ++ g) h.gap_is)
          ∙ spaced-more before own.0 ∙ ap (λ ns. 40 ∷ with_spaces ns) (sym more);
      gap_is = gap-behind before own.0 ∙ ap gap-of (sym more);
    }

pub none-told : (kept text gap : List ℕ) → text ≡ 40 ∷ [] → gap ≡ [] → AreTold kept [] text gap
none-told kept text gap text-is gap-is = record { text_is = text-is; gap_is = gap-is }

pub all-told : (kept : List ℕ) (texts : Named ℕ) (text gap new : List ℕ) → AreTold kept texts text gap → new ≡ text ++ 41 ∷ 10 ∷ [] → new ≡ core_text kept texts
all-told kept texts text gap new h is =
    is ∙ ap (λ t. t ++ 41 ∷ 10 ∷ []) h.text_is ∙ ap (λ t. 40 ∷ t) (sym (append_assoc (with_spaces (texts_at kept texts)) (41 ∷ []) (10 ∷ [])))

-- a name more
pub symbols-more : (named : List NamedAssertion) (own : NamedAssertion) → symbols_of (named_of (named ++ own ∷ [])) ≡ symbols_of (named_of named) ++ (symbol_text own.name.items, own.assertion) ∷ []
symbols-more named own =
    ap symbols_of (map-append (λ (x : NamedAssertion). (x.name.items, x.assertion)) named (own ∷ []))
    ∙ map-append (λ (x : List ℕ × ℕ). (symbol_text x.0, x.1)) (named_of named) ((own.name.items, own.assertion) ∷ [])

-- a term more
pub placed-more : (n : ℕ) (texts : List (List ℕ)) (i : ℕ) (d : List ℕ) → i < length texts → placed n (take (i + 1) texts) ≡ placed n (take i texts) ++ (get_or texts i d, n + i) ∷ []
placed-more n [] i d lt = absurd (omega arith)
placed-more n (text ∷ texts) zero d lt = let same : n ≡ n + 0 = omega arith in ap (λ m. (text, m) ∷ []) same
placed-more n (text ∷ texts) (suc i) d lt =
    let more : suc i + 1 ≡ suc (i + 1) = omega arith in
    let on : suc n + i ≡ n + suc i = omega arith in
    ap (λ k. placed n (take k (text ∷ texts))) more
    ∙ ap (λ xs. (text, n) ∷ xs) (placed-more (suc n) texts i d (omega (arith, lt)))
    ∙ ap (λ m. (text, n) ∷ (placed (suc n) (take i texts) ++ (get_or texts i d, m) ∷ [])) on
