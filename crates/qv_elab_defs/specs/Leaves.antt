-- The trees of single tokens, and of `(_ bvN w)`.
use Rattle.std.specs.Prelude.{ℕ, ◌*◌, ◌^◌, ◌==◌, ◌&&◌, ◌||◌, not, nat_le, nat_lt, if◌then◌else◌, Option, Some, None, List, [], ◌∷◌, length, take, drop, Result, Ok, codes}
use Rattle.std.specs.Prelude.{Bool as Truth, true, false}
use Rattle.std.specs.Str.{bytes_eq}
use Rattle.std.specs.List.{list_all}
use Rattle.qv_text.specs.Bytes.{is_digit}
use Rattle.qv_text.specs.declared.kinds.TokenKind.{TokenKind}
use Rattle.qv_text.specs.declared.kinds.TokenKind.TheVariants.{Symbol, Hex, Binary}
use Rattle.qv_words.specs.declared.sort.Sort.TheVariants.{Bool, Bits}
use Rattle.qv_words.specs.Tree.{Tree, Literal}
use Rattle.qv_words.specs.Tree as tree
use Rattle.qv_elab_defs.specs.declared.faults.ElabKind.TheVariants.{Form, UnknownName, Arity, Width}
use Rattle.qv_elab_defs.specs.declared.faults.ElabKind.TheVariants.{Literal as TooLarge}
use Rattle.qv_elab_defs.specs.Faults.{Fault, refuse, ◌>>=◌, moved}
use Rattle.qv_elab_defs.specs.Tokens.{unquoted, number_of, wanted}
use Rattle.qv_elab_defs.specs.Shapes.{IndexedName}
use Rattle.qv_elab_defs.specs.Scopes.{Entry, Constant, Definition, Synonym, Context, found}

abbrev pub truth : Truth → Tree
truth b = Literal Bool (if b then 1 else 0)

-- a literal by its digits, of so many bits each
abbrev pub digits_literal : ℕ → ℕ → List ℕ → Result Tree Fault
digits_literal place bits digits =
    if nat_le (bits * length digits) 128 then Ok (Literal (Bits (bits * length digits)) (number_of (2 ^ bits) digits))
    else refuse place Width

-- the truth values, where the name is nothing else
abbrev pub truth_named : ℕ → List ℕ → Result Tree Fault
truth_named place name =
    if bytes_eq name (codes "true") then Ok (truth true)
    else (if bytes_eq name (codes "false") then Ok (truth false)
    else refuse place UnknownName)

-- what a name of the scope is without arguments
abbrev pub entry_tree : ℕ → List ℕ → ℕ → Option Entry → Result Tree Fault
entry_tree place name binders (Some (Constant i s)) = Ok (tree.Constant i s)
entry_tree place name binders (Some (Definition [] body)) = moved place (body binders [])
entry_tree place name binders (Some (Definition (s ∷ ss) body)) = refuse place Arity
entry_tree place name binders (Some (Synonym s)) = refuse place UnknownName
entry_tree place name binders None = truth_named place name

-- inner names come first
abbrev pub named_tree : ℕ → List ℕ → Context → Option Tree → Result Tree Fault
named_tree place name c (Some t) = Ok t
named_tree place name c None = entry_tree place name c.binders (found name c.scope)

abbrev pub token_tree : TokenKind → ℕ → List ℕ → Context → Result Tree Fault
token_tree Symbol place text c = named_tree place (unquoted text) c (found (unquoted text) c.bound)
token_tree Hex place text c = digits_literal place 4 (drop 2 text)
token_tree Binary place text c = digits_literal place 1 (drop 2 text)
token_tree _ place text c = refuse place Form

-- digits without a leading zero
abbrev pub is_decimal : List ℕ → Truth
is_decimal digits =
    nat_le 1 (length digits) && list_all is_digit digits && (length digits == 1 || not (bytes_eq (take 1 digits) (codes "0")))

-- the literal of a value and a width
abbrev pub value_literal : ℕ → ℕ → ℕ → Result Tree Fault
value_literal place n w =
    if not (nat_le 1 w && nat_le w 128) then refuse place Width
    else (if nat_lt n (2 ^ w) then Ok (Literal (Bits w) n) else refuse place TooLarge)

-- (_ bvN w)
abbrev pub indexed_literal : ℕ → Option IndexedName → Result Tree Fault
indexed_literal place None = refuse place Form
indexed_literal place (Some i) =
    if bytes_eq (take 2 i.name) (codes "bv") && is_decimal (drop 2 i.name) && length i.others == 0
    then (wanted i.first >>= λ w. value_literal place (number_of 10 (drop 2 i.name)) w)
    else refuse place Form
