-- No symbol is a name of the table of sorts.
use Rattle.std.proofs.Common.{◌≡◌, ◌≢◌, ◌-◌, ◌==◌, ◌++◌, ℕ, zero, suc, inl, inr, Bool, true, false, cond, Option, Some, None, List, [], ◌∷◌, length, take, refl, sym, ap, subst, ◌∙◌}
use Rattle.std.specs.Prelude.{IfSome}
use Rattle.qv_text.specs.declared.kinds.TokenKind.{TokenKind}
use Rattle.qv_text.specs.declared.kinds.TokenKind.TheVariants.{Symbol}
use Rattle.qv_text.specs.Bytes.{is_digit, is_letter, is_symbol, begins_symbol}
use Rattle.qv_text.specs.Grammar.{Each, IsWord, IsWhole, is_barred}
use Rattle.qv_words.proofs.Equals.{test-refl, eq-from_test}
use Rattle.qv_elab_defs.specs.Tokens.{unquoted, name_of_token}
use Rattle.qv_elab_defs.specs.Scopes.{sort_key}
use Rattle.qv_elab_defs.specs.SortLaws.{SymbolsAreNoSortKeys}

no-bar-begins : begins_symbol 124 ≡ false
unfolding begins_symbol is_symbol is_letter is_digit
no-bar-begins = refl

module _ (sort : List ℕ) where
  word-apart : (text : List ℕ) → IsWord text → unquoted text ≢ sort_key sort
  word-apart [] h e = absurd h
  word-apart (b ∷ bs) h e = go (b == 124) refl e
    where
      go : (t : Bool) → (b == 124) ≡ t → cond t (take (length bs - 1) bs) (b ∷ bs) ≡ sort_key sort → ⊥
      go true t f = absurd (let same : true ≡ false = sym h.0 ∙ ap begins_symbol (eq-from_test b 124 t) ∙ no-bar-begins in cc)
      go false t f =
          let front : b ≡ 124 = cc in
          absurd (let same : false ≡ true = sym t ∙ ap (λ (n : ℕ). n == 124) front ∙ test-refl 124 in cc)

  -- what stands between bars
  barred-apart : (inside : List ℕ) → Each is_barred inside → take (length (inside ++ 124 ∷ []) - 1) (inside ++ 124 ∷ []) ≢ sort_key sort
  barred-apart [] h e = absurd (cc)
  barred-apart (b ∷ bs) h e = go (length (b ∷ (bs ++ 124 ∷ [])) - 1) e
    where
      go : (n : ℕ) → take n (b ∷ (bs ++ 124 ∷ [])) ≡ sort_key sort → ⊥
      go zero f = absurd (cc)
      go (suc n) f =
          let front : b ≡ 124 = cc in
          absurd (let same : true ≡ false = sym h.0 ∙ ap is_barred front in cc)

  symbol-apart : (text : List ℕ) → IsWhole Symbol text → unquoted text ≢ sort_key sort
  symbol-apart text (inl word) e = word-apart text word.0 e
  symbol-apart text (inr barred) e = barred-apart barred.0 barred.2 (sym (ap unquoted barred.1) ∙ e)

pub symbols-are_no-sort_keys : SymbolsAreNoSortKeys
symbols-are_no-sort_keys Symbol text sort w = symbol-apart sort text w
symbols-are_no-sort_keys _ text sort w = tt
