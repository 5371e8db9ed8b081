use Rattle.std.proofs.Common.{decimal, refl}
use Rattle.netlist.proofs.Parts.{no_byte}
use Rattle.netlist.proofs.reader.Reader.field.Goals as goal

pub returns-in_err-space : goal.returns-in_err-space
returns-in_err-space c = no_byte decimal (λ _. refl) c.from_residual.ensures c.in_err-space.ensures
