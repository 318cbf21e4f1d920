use Rattle.std.proofs.Common.{length, refl}
use Rattle.std.proofs.lemmas.Option.{slice_get_read}
use Rattle.am_config.proofs.config.element.Goals as goal

pub returns : goal.returns
returns g c = slice_get_read c.args.items.now (length c.args.items.now) c.args.place _ refl c.requires c.index-items-place.is
