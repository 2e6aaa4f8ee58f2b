-- What the items of an expression are.
use Rattle.std.specs.Prelude.{ℕ, ◌^◌, is_some, Result, Bool, false, not, ◌&&◌, nat_le, nat_lt, length, Option, Some, None, option_map, option_and_then, List, [], ◌∷◌, if◌then◌else◌}
use Rattle.std.specs.List.{slice_range}
use Rattle.qv_text.specs.declared.kinds.TokenKind.{TokenKind}
use Rattle.qv_text.specs.declared.kinds.TokenKind.TheVariants.{Keyword, Numeral}
use Rattle.qv_sexpr.specs.declared.items.Item.{Item}
use Rattle.qv_sexpr.specs.declared.items.ItemKind.{ItemKind}
use Rattle.qv_sexpr.specs.declared.items.ItemKind.TheVariants.{Atom, Open, Close}
use Rattle.qv_elab_defs.specs.Tokens.{Number, name_of_token, number_of, all_wanted}
use Rattle.qv_words.specs.declared.sort.Sort.{Sort}
use Rattle.qv_elab_defs.specs.declared.faults.ElabKind.TheVariants.{Form, NotSupported, Index}
use Rattle.qv_elab_defs.specs.Faults.{Fault, refuse, ◌>>=◌}
use Rattle.qv_elab_defs.specs.Shapes.{Construct, Indexed, Qualified, Unsupported, Application, construct_of_token, IndexedName, indexed_with}
use Rattle.qv_elab_defs.specs.Sorts.{bits_of_indices, indexed_sort}

-- the bytes of an item
abbrev pub text_in : List ℕ → Item → Option (List ℕ)
text_in text item = if nat_le item.start item.end && nat_le item.end (length text) then Some (slice_range text item.start item.end) else None

abbrev pub name_by : List ℕ → Item → ItemKind → Option (List ℕ)
name_by text item (Atom kind) = option_and_then (name_of_token kind) (text_in text item)
name_by text item (Open close) = None
name_by text item Close = None

-- the name that an item is
abbrev pub name_in : List ℕ → Item → Option (List ℕ)
name_in text item = name_by text item item.kind

abbrev pub numeral_of_kind : TokenKind → Option (List ℕ) → Option (List ℕ)
numeral_of_kind Numeral bytes = bytes
numeral_of_kind _ bytes = None

abbrev pub numeral_by : List ℕ → Item → ItemKind → Option (List ℕ)
numeral_by text item (Atom kind) = numeral_of_kind kind (text_in text item)
numeral_by text item (Open close) = None
numeral_by text item Close = None

-- the digits of the numeral that an item is
abbrev pub numeral_in : List ℕ → Item → Option (List ℕ)
numeral_in text item = numeral_by text item item.kind

abbrev pub keyword_of_kind : TokenKind → Option (List ℕ) → Option (List ℕ)
keyword_of_kind Keyword bytes = bytes
keyword_of_kind _ bytes = None

abbrev pub keyword_by : List ℕ → Item → ItemKind → Option (List ℕ)
keyword_by text item (Atom kind) = keyword_of_kind kind (text_in text item)
keyword_by text item (Open close) = None
keyword_by text item Close = None

-- the text of the keyword that an item is
abbrev pub keyword_in : List ℕ → Item → Option (List ℕ)
keyword_in text item = keyword_by text item item.kind

-- the numerals that items are, if each is one
abbrev pub number_at : ℕ → List ℕ → Number
number_at place digits = record { place = place; value = number_of 10 digits }

abbrev pub numbers_in : List ℕ → List Item → Option (List Number)
numbers_in text [] = Some []
numbers_in text (x ∷ xs) = option_and_then (λ n. option_map (λ ns. n ∷ ns) (numbers_in text xs)) (option_map (number_at x.place) (numeral_in text x))

-- the name with indices that items are
abbrev pub indexed_in : List ℕ → List Item → Option IndexedName
indexed_in text [] = None
indexed_in text (x ∷ xs) = option_and_then (λ name. indexed_with x.place name (numbers_in text xs)) (name_in text x)

-- a numeral of 2^128 or more
abbrev pub is_large_number : Option (List ℕ) → Bool
is_large_number (Some digits) = not (nat_lt (number_of 10 digits) (2 ^ 128))
is_large_number None = false

abbrev pub is_large : List ℕ → Item → Bool
is_large text item = is_large_number (numeral_in text item)

-- what a list is that begins with this item
abbrev pub construct_for : TokenKind → Option (List ℕ) → Construct
construct_for kind (Some bytes) = construct_of_token kind bytes
construct_for kind None = Application

abbrev pub construct_by : List ℕ → Item → ItemKind → Construct
construct_by text item (Atom kind) = construct_for kind (text_in text item)
construct_by text item (Open close) = Application
construct_by text item Close = Application

abbrev pub construct_in : List ℕ → Item → Construct
construct_in text item = construct_by text item item.kind

-- the bit-vectors of these numerals, and a name that has no indices
abbrev pub bits_with : ℕ → List Number → Result Sort Fault
bits_with place ns = all_wanted ns >>= bits_of_indices place

abbrev pub no_indices : ℕ → List Number → Result Sort Fault
no_indices place ns = all_wanted ns >>= λ _. refuse place Index

-- the sort that a list at this place is, which begins so: whether others stand behind the first,
-- and whether that is a symbol
abbrev pub sort_by : Construct → ℕ → List ℕ → Bool → List Item → Result Sort Fault
sort_by Indexed place text symbol others = indexed_sort place (indexed_in text others)
sort_by Qualified place text symbol others = refuse place NotSupported
sort_by Unsupported place text symbol others = refuse place NotSupported
sort_by Application place text symbol (x ∷ xs) = refuse place (if symbol then NotSupported else Form)
sort_by _ place text symbol others = refuse place Form

abbrev pub sort_in : ℕ → List ℕ → List Item → Result Sort Fault
sort_in place text [] = refuse place Form
sort_in place text (first ∷ others) = sort_by (construct_in text first) place text (is_some (name_in text first)) others
