use Rattle.std.proofs.Common.{◌≡◌, ◌==◌, ◌∷◌, length, refl, ap, ◌∙◌, inr, arith}
use Rattle.std.proofs.lemmas.Bool.{ne_eqb}
use Rattle.qv_sexpr.specs.Limits.{nesting_limit}
use Rattle.qv_sexpr.specs.Script.{none}
use Rattle.qv_sexpr.proofs.Levels.{resumes_open, resumes_limit}
use Rattle.qv_sexpr.proofs.Gathering.{taken_open, opened_lengths}
use Rattle.qv_sexpr.proofs.building.Builder.open_list.Goals as goal

pub returns-then-is_full : goal.returns-then-is_full
returns-then-is_full c = λ text lists builds.
    let old = c.args.self.now in
    let depth : length lists ≡ nesting_limit = omega (arith, opened_lengths old.items.items old.text.items old.unclosed.items lists (length old.items.items) builds, old.unclosed.ok.0) in
    inr ((refl, refl), λ ts. resumes_limit lists c.args.place text ts (ap (λ n. n == nesting_limit) depth))

pub returns : goal.returns
returns c = λ text lists builds.
    let old = c.args.self.now in
    let depth = opened_lengths old.items.items old.text.items old.unclosed.items lists (length old.items.items) builds in (
      (c.args.place, none) ∷ lists,
      taken_open old c.add_parenthesis.new.self c.args.place _ _ c.len-number.result lists builds (omega (arith, old.items.ok.0)) c.in_ok-add_parenthesis.ensures.ok c.add_parenthesis.ensures.text (c.add_parenthesis.ensures.unclosed ∙ c.in_ok-push.ensures.items),
      λ ts. resumes_open lists c.args.place text ts (ne_eqb (length lists) nesting_limit (λ e. absurd (omega (arith, e, depth, old.unclosed.ok.0, c.if-is_full.false)))),
    )
