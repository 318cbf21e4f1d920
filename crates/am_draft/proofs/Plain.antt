-- A text with one route and one receiver, and its draft.
use Rattle.std.proofs.Common.{◌≡◌, ℕ, List, [], ◌∷◌, false, None, Some, Ok, refl, ap, ◌∙◌}
use Rattle.std.specs.Prelude.{codes}
use Rattle.std.specs.Str.{is_utf8, chars}
use Rattle.serde_json.specs.Data.{Data, object, array, string, item, no_items, member, no_members}
use Rattle.serde_json.proofs.OnLiterals.{serde_json_on_literals}
use Rattle.am_text.specs.Outcome.{◌>>=◌, outcome_map}
use Rattle.am_json.specs.Reading.{json}
use Rattle.am_draft.specs.declared.draft.Draft.{Draft}
use Rattle.am_draft.specs.Drafts.{draft_in, draft_of, global_in, said_by_text}
use Rattle.am_draft.specs.Refusals.{refusal_of}
use Rattle.am_draft.specs.Keys.{key_leaves_out}
use Rattle.am_draft.specs.Receivers.{receiver_of, receivers_of}
use Rattle.am_draft.specs.Routes.{intervals_of, route_of}

abbrev pub plain_text : List ℕ
plain_text = codes "{\"route\":{\"receiver\":\"default\"},\"receivers\":[{\"name\":\"default\"}]}"

-- its JSON, the members in the order of their keys
abbrev plain_data : Data
plain_data =
    object (member (codes "receivers") (array (item (object (member (codes "name") (string (codes "default")) no_members)) no_items))
    (member (codes "route") (object (member (codes "receiver") (string (codes "default")) no_members)) no_members))

abbrev pub plain_draft : Draft
plain_draft = record {
  text = plain_text;
  global = record { resolve_timeout = None; left_out = false };
  routes = record {
    item = record {
      depth = 1;
      receiver = Some (codes "default");
      grouping = None;
      intervals = record { group_wait = None; group_interval = None; repeat_interval = None };
      matchers = [];
      goes_on = false;
      left_out = false;
    };
    within = 0;
  } ∷ [];
  receivers = record { name = codes "default"; webhooks = []; left_out = false } ∷ [];
  rules = [];
  left_out = false;
}

plain_json : json plain_text ≡ Ok plain_data
unfolding is_utf8 chars serde_json_on_literals
plain_json = refl

plain_said : draft_of plain_text plain_data ≡ Ok plain_draft
unfolding draft_of global_in key_leaves_out intervals_of route_of receiver_of receivers_of
plain_said = refl

pub plain_read : draft_in plain_text ≡ Ok plain_draft
unfolding draft_in said_by_text
plain_read = ap (λ read. outcome_map refusal_of (read >>= draft_of plain_text)) plain_json ∙ ap (outcome_map refusal_of) plain_said
