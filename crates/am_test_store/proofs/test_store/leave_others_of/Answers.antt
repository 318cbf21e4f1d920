use Rattle.std.proofs.Common.{rules, ℕ, List, not}
use Rattle.std.proofs.lemmas.Fn.{filter_same}
use Rattle.am_item.specs.declared.item.Item.{Item}
use Rattle.am_tenant.specs.Names.{same}
use Rattle.am_test_store.proofs.test_store.leave_others_of.Goals as goal

pub returns : goal.returns
returns c =
    filter_same _ (λ (p : List ℕ × Item). not (same p.0 c.args.tenant.now)) _ (λ x b f' k. search rules) _ _ c.retain.ensures.filtered
