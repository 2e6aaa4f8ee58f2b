use Rattle.std.proofs.lemmas.List.Elements.{recursion_from_All}
use Rattle.qv_words.specs.Sort.{IsLawful}
use Rattle.qv_words.proofs.InverseFits.{fits}
use Rattle.qv_words.proofs.InverseOver.{over}
use Rattle.qv_words.proofs.inverse_laws.rows_fit.Goals as goal

pub returns : goal.returns
returns _ o position sorts r value row lawful rank e =
    let each = recursion_from_All IsLawful sorts lawful in
    let fit = fits o position sorts value row each e in
    record { sorted = fit.0; sort = fit.1; leaves = over o position sorts value row each e r rank }
