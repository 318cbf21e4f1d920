use Rattle.std.proofs.Common.{◌≡◌, ◌∙◌, ap, sym, is_some, true, refl}
use Rattle.am_tenant.proofs.Tables.{lookup-by_name}
use Rattle.am_node.specs.Ticks.{has_muted, is_flush}
use Rattle.am_node.proofs.Muteds.{Muteds}
use Rattle.am_node.proofs.muted.Muted.is_needed.Goals as goal

pub returns-then-is_flush : goal.returns-then-is_flush
returns-then-is_flush c =
    let there : c.contains_key.result ≡ has_muted c.args.timer.now.name.tenant c.args.self.now =
    c.contains_key.ensures ∙ ap is_some (lookup-by_name c.args.timer.now.name.tenant c.self.inside.sets.entries)
    ∙ ap (λ (muted : Muteds). has_muted c.args.timer.now.name.tenant muted) c.self.view_is in
    let flush : is_flush c.args.timer.now.name.key ≡ true = sym c.is_flush.ensures ∙ c.if-is_flush.true in
    rw (there, flush) refl
