use Rattle.std.proofs.Common.{refl}
use Rattle.std.proofs.lemmas.List.Elements.{recursion_from_All}
use Rattle.qv_words.specs.declared.op.Op.TheVariants.{BvNot, BvNeg, BvAnd, BvOr, BvXor, BvNand, BvNor, BvXnor, BvAdd, BvSub, BvMul, BvUdiv, BvUrem, BvShl, BvLshr, BvAshr, Concat, Extract, Repeat, ZeroExtend, SignExtend, RotateLeft, RotateRight}
use Rattle.qv_words.specs.Sort.{IsLawful}
use Rattle.qv_words.specs.Inverse.{Solves, inverse_modulo}
use Rattle.qv_words.proofs.InverseCases.{of_rows, of_pairs}
use Rattle.qv_words.proofs.InverseSolves.{not_solved, neg_solved, add_solved, sub_first, sub_second, and_solved, or_solved, xor_solved, nand_solved, nor_solved, xnor_solved, concat_solved, extract_solved, repeat_solved, zero_extend_solved, sign_extend_solved, left_solved, right_solved}
use Rattle.qv_words.proofs.InverseDivision.{udiv_solved, urem_first, urem_second}
use Rattle.qv_words.proofs.InverseShifts.{shl_solved, lshr_solved, ashr_solved}
use Rattle.qv_words.proofs.InverseProducts.{inverse_right, mul_solved}
use Rattle.qv_words.proofs.inverse_laws.rows_solve.Goals as goal

pub returns : goal.returns
unfolding inverse_modulo
returns _ BvNot position sorts value row lawful = not_solved position sorts value row (recursion_from_All IsLawful sorts lawful)
returns _ BvNeg position sorts value row lawful = neg_solved position sorts value row (recursion_from_All IsLawful sorts lawful)
returns _ BvAnd position sorts value row lawful = and_solved position sorts value row (recursion_from_All IsLawful sorts lawful)
returns _ BvOr position sorts value row lawful = or_solved position sorts value row (recursion_from_All IsLawful sorts lawful)
returns _ BvXor position sorts value row lawful = xor_solved position sorts value row (recursion_from_All IsLawful sorts lawful)
returns _ BvNand position sorts value row lawful = nand_solved position sorts value row (recursion_from_All IsLawful sorts lawful)
returns _ BvNor position sorts value row lawful = nor_solved position sorts value row (recursion_from_All IsLawful sorts lawful)
returns _ BvXnor position sorts value row lawful = xnor_solved position sorts value row (recursion_from_All IsLawful sorts lawful)
returns _ BvAdd position sorts value row lawful = add_solved position sorts value row (recursion_from_All IsLawful sorts lawful)
returns _ BvSub position sorts value row lawful = of_pairs (Solves BvSub) BvSub (λ w v. refl) (λ w r value l m e. tt) sub_first sub_second position sorts value row (recursion_from_All IsLawful sorts lawful)
returns _ BvMul position sorts value row lawful = mul_solved inverse_right position sorts value row (recursion_from_All IsLawful sorts lawful)
returns _ BvUdiv position sorts value row lawful = udiv_solved position sorts value row (recursion_from_All IsLawful sorts lawful)
returns _ BvUrem position sorts value row lawful = of_pairs (Solves BvUrem) BvUrem (λ w v. refl) (λ w r value l m e. tt) urem_first urem_second position sorts value row (recursion_from_All IsLawful sorts lawful)
returns _ BvShl position sorts value row lawful = shl_solved position sorts value row (recursion_from_All IsLawful sorts lawful)
returns _ BvLshr position sorts value row lawful = lshr_solved position sorts value row (recursion_from_All IsLawful sorts lawful)
returns _ BvAshr position sorts value row lawful = ashr_solved position sorts value row (recursion_from_All IsLawful sorts lawful)
returns _ Concat position sorts value row lawful = concat_solved position sorts value row (recursion_from_All IsLawful sorts lawful)
returns _ (Extract i j) position sorts value row lawful = extract_solved i j position sorts value row (recursion_from_All IsLawful sorts lawful)
returns _ (Repeat k) position sorts value row lawful = repeat_solved k position sorts value row (recursion_from_All IsLawful sorts lawful)
returns _ (ZeroExtend k) position sorts value row lawful = zero_extend_solved k position sorts value row (recursion_from_All IsLawful sorts lawful)
returns _ (SignExtend k) position sorts value row lawful = sign_extend_solved k position sorts value row (recursion_from_All IsLawful sorts lawful)
returns _ (RotateLeft k) position sorts value row lawful = left_solved k position sorts value row (recursion_from_All IsLawful sorts lawful)
returns _ (RotateRight k) position sorts value row lawful = right_solved k position sorts value row (recursion_from_All IsLawful sorts lawful)
returns _ o position sorts value row lawful = of_rows (Solves o) o (λ w r value l m e. tt) (λ w v r value lw lv lr e. tt) (λ w v r value lw lv lr e. tt) position sorts value row (recursion_from_All IsLawful sorts lawful)
