-- The text of the default configuration, read and judged.
use Rattle.std.proofs.Common.{◌≡◌, ℕ, List, [], ◌∷◌, Ok, refl, ap, ◌∙◌}
use Rattle.am_text.specs.declared.tree.Node.{Node}
use Rattle.am_draft.specs.Drafts.{draft_in}
use Rattle.am_draft.specs.Forests.{forest_of}
use Rattle.am_draft.proofs.Plain.{plain_draft, plain_read}
use Rattle.am_config.specs.declared.parts.Receiver.{Receiver}
use Rattle.am_config.specs.declared.parts.Route.{Route}
use Rattle.am_config.specs.declared.parts.Rule.{Rule}
use Rattle.am_config.specs.Checks.{counts_fit, is_repeated, is_root_bare, receivers_fit}
use Rattle.am_config.specs.Completing.{completed, receiver_of, receivers_of, routes_with, webhooks_of}
use Rattle.am_config.specs.Default.{default_configuration, default_receiver, default_route, default_text}
use Rattle.am_config.specs.Inheriting.{inherited, with_own}
use Rattle.am_config.specs.Judging.{before_matchers, configuration, judged_by, reading, IsRead}
use Rattle.am_config.specs.Matching.{matchers_in, reads_matchers}
use Rattle.am_config.specs.Terms.{own_in, owns_in, terms_in}
use Rattle.am_config.proofs.Judgements.{reading_meant}

default_judged : judged_by reads_matchers plain_draft ≡ Ok default_configuration
unfolding before_matchers counts_fit is_repeated is_root_bare receivers_fit completed receiver_of receivers_of routes_with webhooks_of inherited with_own forest_of own_in owns_in terms_in matchers_in
default_judged = refl

default_reads : reading (draft_in default_text) ≡ Ok default_configuration
default_reads = ap reading plain_read ∙ default_judged

pub default_read : configuration (draft_in default_text) ≡ Ok default_configuration
default_read = reading_meant (draft_in default_text) default_configuration default_reads

-- a configuration of these parts is what its text is read as
pub default_is_read : (text : List ℕ) (routes : List (Node Route)) (receivers : List Receiver) (rules : List Rule) → text ≡ default_text →
    routes ≡ default_route ∷ [] → receivers ≡ default_receiver ∷ [] → rules ≡ [] →
    IsRead (record { text = text; resolve_timeout = 300_000; routes = routes; receivers = receivers; rules = rules })
default_is_read text routes receivers rules said one named none = rw (said, one, named, none) default_reads
