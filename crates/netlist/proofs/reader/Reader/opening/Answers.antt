use Rattle.std.proofs.Common.{refl}
use Rattle.netlist.specs.Lines as lines
use Rattle.netlist.proofs.Parts.{no_byte}
use Rattle.netlist.proofs.reader.Reader.opening.Goals as goal

pub returns-in_err-expect : goal.returns-in_err-expect
returns-in_err-expect c = no_byte lines.field (λ _. refl) c.from_residual.ensures c.in_err-expect.ensures
