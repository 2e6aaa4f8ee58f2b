use Rattle.std.proofs.Common.{◌≡◌, ◌↔◌, ℕ, None, Err, sym, ap, subst, ◌∙◌, ◌∷◌, []}
use Rattle.std.specs.Prelude.{Result, unwrap_or}
use Rattle.qv_words.specs.declared.op.Op.{Op}
use Rattle.qv_sorts.specs.declared.operators.NameFault.{NameFault}
use Rattle.qv_sorts.specs.declared.operators.NameFault.TheVariants.{Unknown}
use Rattle.qv_sorts.specs.Search.{operator_named}
use Rattle.qv_elab_scope.proofs.NamedHeads.{unknown-is, other-unknown, op-with, three-values, none-values, one-value, two-values}
use Rattle.qv_elab_scope.proofs.heads.op_with.Goals as goal

pairs : {a b c d : ℕ} → a ≡ b → c ≡ d → a ∷ c ∷ [] ≡ b ∷ d ∷ []
pairs e f = cc

pub returns-in-empty-clause-unknown : goal.returns-in-empty-clause-unknown
returns-in-empty-clause-unknown c = unknown-is c.args.name.now c.op_named.result c.op_named.ensures.unknown

pub returns-in-empty-clause-found : goal.returns-in-empty-clause-found
returns-in-empty-clause-found c = λ ns o e f g.
    op-with c.args.name.now [] c.op_named.result o _ c.op_named.ensures.named g (none-values c.args.text.now c.args.numerals.now ns e c.in-empty.len_below)

pub returns-in-len1-clause-unknown : goal.returns-in-len1-clause-unknown
returns-in-len1-clause-unknown c = unknown-is c.args.name.now c.op_named-in-len1.result c.op_named-in-len1.ensures.unknown

pub returns-in-len1-clause-found : goal.returns-in-len1-clause-found
returns-in-len1-clause-found c = λ ns o e f g.
    let value = c.unwrap_or.ensures ∙ ap (λ q. unwrap_or q 0) c.number_in.ensures in
    op-with c.args.name.now (c.unwrap_or.result ∷ []) c.op_named-in-len1.result o _ c.op_named-in-len1.ensures.named g
    (one-value c.args.text.now c.args.numerals.now ns _ e f c.in-len1.len_at_least c.in-len1.len_below ∙ ap (λ v. v ∷ []) (sym value))

pub returns-in-len2-clause-unknown : goal.returns-in-len2-clause-unknown
returns-in-len2-clause-unknown c = unknown-is c.args.name.now c.op_named-in-len2.result c.op_named-in-len2.ensures.unknown

pub returns-in-len2-clause-found : goal.returns-in-len2-clause-found
returns-in-len2-clause-found c = λ ns o e f g.
    let first = c.unwrap_or-first.ensures ∙ ap (λ q. unwrap_or q 0) c.number_in-in-len2.ensures in
    let second = c.unwrap_or-second.ensures ∙ ap (λ q. unwrap_or q 0) c.number_in-in-len2-2.ensures in
    op-with c.args.name.now (c.unwrap_or-first.result ∷ c.unwrap_or-second.result ∷ []) c.op_named-in-len2.result o _ c.op_named-in-len2.ensures.named g
    (two-values c.args.text.now c.args.numerals.now ns _ e f c.in-len2.len_at_least c.in-len2.len_below ∙ pairs (sym first) (sym second))

pub returns-in-Ok-clause-unknown : goal.returns-in-Ok-clause-unknown
returns-in-Ok-clause-unknown c = other-unknown c.args.name.now c.op_named-in-len3-up.result c.in-Ok.field-0 c.op_named-in-len3-up.ensures.unknown c.in-Ok.is

pub returns-in-Ok-clause-found : goal.returns-in-Ok-clause-found
returns-in-Ok-clause-found c = λ ns o e f g. three-values c.args.text.now c.args.numerals.now ns o e c.in-len3-up.len_at_least

pub returns-in-Err-clause-unknown : goal.returns-in-Err-clause-unknown
returns-in-Err-clause-unknown c =
    subst (λ (r : Result Op NameFault). (r ≡ Err Unknown) ↔ (operator_named c.args.name.now ≡ None)) c.in-Err.is
    (unknown-is c.args.name.now c.op_named-in-len3-up.result c.op_named-in-len3-up.ensures.unknown)

pub returns-in-Err-clause-found : goal.returns-in-Err-clause-found
returns-in-Err-clause-found c = λ ns o e f g. three-values c.args.text.now c.args.numerals.now ns o e c.in-len3-up.len_at_least
