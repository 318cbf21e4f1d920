use Rattle.am_instance.proofs.Noting.{notes_one}
use Rattle.am_instance.proofs.tenants.Tenants.note.Goals as goal

pub returns : goal.returns
returns c t = rw (← c.self.view_is) (notes_one _ _ _ c.in_ok-insert.ensures.updates t)
