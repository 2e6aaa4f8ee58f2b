-- Values and symbols as they are printed, computed.
use Rattle.std.proofs.Common.{◌≡◌, refl, ℕ, [], ◌∷◌, map, codes}
use Rattle.qv_text.specs.Bytes.{is_digit, is_letter, is_symbol, begins_symbol}
use Rattle.qv_text.specs.Reading.{is_reserved}
use Rattle.qv_words.specs.declared.sort.Sort.{Sort}
use Rattle.qv_words.specs.declared.sort.Sort.TheVariants.{Bool, Bits}
use Rattle.qv_script_values.specs.ValueText.{value_text}
use Rattle.qv_script_values.specs.SymbolText.{symbol_text}

-- four bits make a digit, where the width allows it
values : map {A = Sort × ℕ} (λ x. value_text x.0 x.1) ((Bool, 1) ∷ (Bool, 0) ∷ (Bits 1, 0) ∷ (Bits 3, 5) ∷ (Bits 4, 10) ∷ (Bits 12, 31) ∷ (Bits 9, 255) ∷ []) ≡
    codes "true" ∷ codes "false" ∷ codes "#b0" ∷ codes "#b101" ∷ codes "#xa" ∷ codes "#x01f" ∷ codes "#b011111111" ∷ []
values = refl

-- bars stand around what is no simple symbol, and around reserved words
symbols : map (λ name. symbol_text name) (codes "x.1" ∷ codes "?v_0" ∷ codes "letx" ∷ codes "let" ∷ codes "_" ∷ codes "" ∷ codes "1a" ∷ codes "a b" ∷ codes "a:" ∷ []) ≡
    codes "x.1" ∷ codes "?v_0" ∷ codes "letx" ∷ codes "|let|" ∷ codes "|_|" ∷ codes "||" ∷ codes "|1a|" ∷ codes "|a b|" ∷ codes "|a:|" ∷ []
unfolding is_digit is_letter is_symbol begins_symbol is_reserved
symbols = refl
