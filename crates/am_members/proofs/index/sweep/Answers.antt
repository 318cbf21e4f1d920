use Rattle.std.proofs.Common.{not, rules}
use Rattle.std.proofs.lemmas.Map.Made.{filter_same_pairs}
use Rattle.am_members.specs.Grouped.{held_at}
use Rattle.am_members.specs.Members.{is_bare}
use Rattle.am_members.proofs.index.sweep.Goals as goal

pub returns : goal.returns
returns c = filter_same_pairs _ (λ e. not (is_bare (held_at e.0 c.args.groups.now.entries))) _ (λ k v b w f' t. search rules) _ _ c.retain.ensures.filtered
