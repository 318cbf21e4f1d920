-- The tries that go out by notices.
use Rattle.std.specs.Prelude.{List, [], ◌∷◌}
use Rattle.std.specs.List.{flat_map}
use Rattle.am_event.specs.declared.output.Output.{Output}
use Rattle.am_event.specs.declared.output.Output.TheVariants.{Reply, Notice, Send}
use Rattle.am_report.specs.declared.report.Try.{Try}

-- the try that goes out by an output: a notice is one
abbrev pub try_of : Output → List Try
try_of (Reply c bytes) = []
try_of (Notice attempt tries url bytes) = record { attempt = attempt; tries = tries; request = bytes } ∷ []
try_of (Send message) = []

-- the tries that go out by outputs, in order
abbrev pub tries_in : List Output → List Try
tries_in outputs = flat_map try_of outputs
