use Rattle.std.proofs.Common.{ℕ, ◌+◌, ◌^◌, ◌<◌, sym, subst}
use Rattle.qv_words.proofs.Powers.{above_others, above_others_fit}
use Rattle.qv_words.proofs.parts.join.Goals as goal

pub returns-clause-value : goal.returns-clause-value
returns-clause-value c =
    above_others c.args.a c.args.b c.args.first_width c.args.second_width c.requires.first c.requires.second c.requires.fits

pub returns-clause-below : goal.returns-clause-below
returns-clause-below c =
    subst (λ (n : ℕ). n < 2 ^ (c.args.first_width + c.args.second_width))
    (sym (above_others c.args.a c.args.b c.args.first_width c.args.second_width c.requires.first c.requires.second c.requires.fits))
    (above_others_fit c.args.a c.args.b c.args.first_width c.args.second_width c.requires.first c.requires.second)
