use Rattle.std.proofs.Common.{rules}
use Rattle.image.proofs.Extents.{read_by}
use Rattle.image.proofs.interface.Image.check_read.Goals as goal

pub returns : goal.returns
returns g c = search (rules, read_by)
