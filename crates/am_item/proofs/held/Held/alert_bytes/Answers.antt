use Rattle.std.proofs.Common.{ap, sym, ◌∙◌, refl}
use Rattle.std.specs.List.{sum_by}
use Rattle.am_length.specs.Capped.{capped}
use Rattle.am_item.specs.Held.{alert_item}
use Rattle.am_item.specs.Kinds.{alerts_of}
use Rattle.am_item.specs.Lengths.{spelled_length}
use Rattle.am_item.proofs.Spelling.{sum_by_items}
use Rattle.am_item.proofs.Whole.{alerts_whole}
use Rattle.am_item.proofs.held.Held.alert_bytes.Goals as goal

pub returns : goal.returns
unfolding spelled_length
returns c =
    c.spelled_len.ensures
    ∙ ap capped (sum_by_items alert_item _ (λ k v. refl) c.self.inside.alerts)
    ∙ ap (λ xs. capped (sum_by spelled_length xs)) (sym (alerts_whole c.self.inside) ∙ ap alerts_of c.self.view_is)
