-- The configuration that holds where none is stored, or a stored text would be refused with one of C1 to C9: every alert
-- goes to a receiver that tells nobody.
use Rattle.std.specs.Prelude.{ℕ, List, [], ◌∷◌, codes, None, false}
use Rattle.am_text.specs.declared.tree.Node.{Node}
use Rattle.am_config.specs.declared.parts.Receiver.{Receiver}
use Rattle.am_config.specs.declared.parts.Route.{Route}
use Rattle.am_config.specs.Configuration.{Configuration}
use Rattle.am_config.specs.Inheriting.{defaults}
use Rattle.am_config.specs.Terms.{default_resolve_timeout}

-- the text that says it
abbrev pub default_text : List ℕ
default_text = codes "{\"route\":{\"receiver\":\"default\"},\"receivers\":[{\"name\":\"default\"}]}"

abbrev pub default_route : Node Route
default_route = record { item = record { settings = defaults; grouping = None; matchers = []; goes_on = false }; within = 0 }

abbrev pub default_receiver : Receiver
default_receiver = record { name = codes "default"; webhooks = [] }

abbrev pub default_configuration : Configuration
default_configuration = record {
  text = default_text;
  resolve_timeout = default_resolve_timeout;
  routes = default_route ∷ [];
  receivers = default_receiver ∷ [];
  rules = [];
}
