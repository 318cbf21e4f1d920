use Rattle.am_config.proofs.DefaultRead.{default_read}
use Rattle.am_config.proofs.laws.default_text_is_read.Goals as goal

pub returns : goal.returns
returns c = default_read
