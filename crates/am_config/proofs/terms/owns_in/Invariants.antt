use Rattle.std.proofs.Common.{◌≡◌, drop}
use Rattle.am_text.proofs.OutcomeLemmas.{with_front}
use Rattle.am_config.specs.Terms.{owns_in}
use Rattle.am_config.proofs.terms.owns_in.Given as goal

abbrev pub invariant-loop-node : goal.invariant-loop-node
invariant-loop-node l = with_front l.owns.items (owns_in l.receivers (drop l.node-index l.routes)) ≡ owns_in l.receivers l.routes
