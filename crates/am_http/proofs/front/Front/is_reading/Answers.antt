use Rattle.std.proofs.Common.{◌∙◌, ap, is_some}
use Rattle.am_http.specs.Connections.{bytes_of}
use Rattle.am_http.proofs.ConnectionLemmas.{found-bytes_of}
use Rattle.am_http.proofs.front.Front.is_reading.Goals as goal

pub returns : goal.returns
returns c = c.contains_key.ensures ∙ ap is_some (found-bytes_of c.args.connection c.self.inside.connections.entries ∙ ap (bytes_of c.args.connection) c.self.view_is)
