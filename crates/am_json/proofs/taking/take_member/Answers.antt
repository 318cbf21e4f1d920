use Rattle.std.proofs.Common.{◌∙◌, ap, option_map}
use Rattle.serde_json.proofs.Views.{view-lookup}
use Rattle.serde_json.specs.Find.{get_member}
use Rattle.serde_json.specs.View.{members_view, view}
use Rattle.am_json.proofs.Taken.{member_kept}
use Rattle.am_json.proofs.taking.take_member.Goals as goal

pub returns-clause-found : goal.returns-clause-found
returns-clause-found c = ap (option_map view) c.remove.ensures.value ∙ view-lookup c.args.key.now c.args.members.now.entries

pub returns-clause-others : goal.returns-clause-others
returns-clause-others c =
    λ other apart. ap (λ es. get_member other (members_view es)) c.remove.ensures.entries ∙ member_kept c.args.key.now other apart c.args.members.now.entries
