use Rattle.std.proofs.Common.{length, ap, arith, w16}
use Rattle.std.proofs.lemmas.Int.{to_z-of_z}
use Rattle.std.specs.Fmt.{signed_decimal}
use Rattle.clauses.proofs.Spelling.{length-spelled}
use Rattle.clauses.proofs.decimals.literal_length.Goals as goal

pub returns-clause-value : goal.returns-clause-value
returns-clause-value c = omega (arith, length-spelled c.args.literal, ap (λ z. length (signed_decimal z)) (to_z-of_z w16 c.args.literal c.ranges.literal))
