-- What is a token and what isn't, at examples.
use Rattle.std.proofs.Common.{inl, inr, refl, lit<}
use Rattle.std.specs.Prelude.{codes}
use Rattle.qv_text.specs.declared.kinds.TokenKind.TheVariants.{Symbol, Reserved, Numeral, Decimal, Text}
use Rattle.qv_text.specs.Bytes.{is_digit, is_letter, is_symbol, begins_symbol}
use Rattle.qv_text.specs.Reading.{is_reserved}
use Rattle.qv_text.specs.Grammar.{empty, other, quotes, IsWhole}

a_word : IsWhole Symbol (codes "a9")
unfolding is_digit is_letter is_symbol begins_symbol is_reserved
a_word = inl ((refl, (refl, tt)), refl)

a_reserved_word : IsWhole Reserved (codes "let")
unfolding is_digit is_letter is_symbol begins_symbol is_reserved
a_reserved_word = ((refl, (refl, (refl, tt))), refl)

a_barred_word : IsWhole Symbol (codes "|let|")
a_barred_word = inr (codes "let", refl, (refl, (refl, (refl, tt))))

a_string : IsWhole Text (codes "\"a\"\"b\"")
a_string = (codes "a\"\"b", refl, other 97 (codes "\"\"b") (λ e. cc) (quotes (codes "b") (other 98 (codes "") (λ e. cc) empty)))

a_decimal : IsWhole Decimal (codes "0.070")
unfolding is_digit
a_decimal = (codes "0", codes "070", refl, inl (refl, refl), (lit< tt, (refl, (refl, (refl, tt)))))

no_numeral : IsWhole Numeral (codes "07") → ⊥
no_numeral (inl h) = let e = h.1 in cc
no_numeral (inr h) = h.0 refl
