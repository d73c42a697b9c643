use Rattle.image.proofs.Extents.{write_by}
use Rattle.image.proofs.interface.Image.check_write.Goals as goal

pub returns : goal.returns
returns g c =
    let i = c.args.self.now in
    write_by (g.Self.Image.meaning i) (g.Self.Image.sound i) _ _ _ c.extent.ensures _ c.state.ensures _ c.check_write.ensures
