-- Shapes of lists as the code tells them.
use Rattle.std.specs.Prelude.{ℕ, ◌≡◌, Option, Some, None, List, ◌∷◌}
use Rattle.qv_sexpr.specs.declared.items.Item.{Item}
use Rattle.qv_elab_items.specs.declared.shapes.Shape.{Shape}
use Rattle.qv_elab_items.specs.declared.shapes.Shape.TheVariants as code
use Rattle.qv_elab_defs.specs.Tokens.{Number}
use Rattle.qv_elab_defs.specs.Shapes.{Construct, Let, Quantified, Universal, Existential, Annotated, Indexed, Qualified, Unsupported, Application}
use Rattle.qv_elab_items.specs.Flat.{numbers_in, indexed_in}

abbrev pub meant : Shape → Construct
meant code.Let = Let
meant code.Universal = Quantified Universal
meant code.Existential = Quantified Existential
meant code.Annotated = Annotated
meant code.Indexed = Indexed
meant code.Qualified = Qualified
meant code.Unsupported = Unsupported
meant code.Application = Application

-- these items are a name at this place with these numerals, or no name with indices
abbrev pub IsIndexed : List ℕ → List Item → Option (ℕ × List ℕ × List Item) → Type 0
IsIndexed text items None = indexed_in text items ≡ None
IsIndexed text items (Some i) =
    (n : Number) × (ns : List Number)
    × (indexed_in text items ≡ Some (record { place = i.0; name = i.1; first = n; others = ns }))
    × (numbers_in text i.2 ≡ Some (n ∷ ns))
