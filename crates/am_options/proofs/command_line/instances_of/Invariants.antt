use Rattle.std.proofs.Common.{◌≡◌, ◌++◌, drop, map, option_map}
use Rattle.am_options.specs.CommandLine.{instances_of}
use Rattle.am_options.proofs.command_line.instances_of.Given as goal

-- the instances so far, in front of those that the rest of the texts name, are those that all texts name
abbrev pub invariant-loop-text : goal.invariant-loop-text
invariant-loop-text l =
    option_map (λ rest. l.instances.items ++ rest) (instances_of (map (λ t. t.now) (drop l.text-index l.texts)))
    ≡ instances_of (map (λ t. t.now) l.texts)
