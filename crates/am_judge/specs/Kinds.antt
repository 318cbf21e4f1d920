-- What stands at each key and in each list of a configuration.
use Rattle.std.specs.Prelude.{ℕ, ◌==◌, ◌||◌, List, codes, Option, Some, None, if◌then◌else◌}
use Rattle.std.specs.List.{ends_with}
use Rattle.std.specs.Str.{bytes_eq}
use Rattle.serde_json.specs.Data.{Data}
use Rattle.serde_json.specs.Find.{get}
use Rattle.am_draft.specs.Keys.{has_text, left_out_keys}
use Rattle.am_draft.specs.Routes.{deeper}
use Rattle.am_judge.specs.declared.kind.Kind.{Kind}
use Rattle.am_judge.specs.declared.kind.Kind.TheVariants as kind
use Rattle.am_judge.specs.declared.kind.ListKind.{ListKind}
use Rattle.am_judge.specs.declared.kind.ListKind.TheVariants as list
use Rattle.am_judge.specs.declared.kind.LeftOutKind.{LeftOutKind}
use Rattle.am_judge.specs.declared.kind.LeftOutKind.TheVariants as left_out
use Rattle.am_judge.specs.declared.kind.ObjectKind.{ObjectKind}
use Rattle.am_judge.specs.declared.kind.ObjectKind.TheVariants as object
use Rattle.am_judge.specs.declared.kind.TextKind.TheVariants as text

-- the kind of a key that is left out in any object
abbrev pub left_out_kind : List ℕ → LeftOutKind
left_out_kind key =
    if bytes_eq key (codes "match") || bytes_eq key (codes "match_re") then left_out.Matching
    else if ends_with (λ a b. a == b) key (codes "time_intervals") then left_out.Intervals
    else left_out.Sending

-- what stands at a key of an object that has no such key of its own
abbrev pub other : ObjectKind → List ℕ → Kind
other o key =
    if bytes_eq key (codes "templates") then kind.List list.Templates
    else if bytes_eq key (codes "template_files") then kind.Files
    else if has_text left_out_keys key then kind.LeftOut (left_out_kind key)
    else kind.Unknown o

abbrev pub at_document : List ℕ → Kind
at_document key = if bytes_eq key (codes "alertmanager_config") then kind.Text text.Plain else other object.Document key

abbrev pub at_global : List ℕ → Kind
at_global key = if bytes_eq key (codes "resolve_timeout") then kind.Text text.Wait else other object.Global key

abbrev pub at_top : List ℕ → Kind
at_top key =
    if bytes_eq key (codes "global") then kind.Object object.Global
    else if bytes_eq key (codes "route") then kind.Object (object.Route 1)
    else if bytes_eq key (codes "receivers") then kind.List list.Receivers
    else if bytes_eq key (codes "inhibit_rules") then kind.List list.Rules
    else other object.Top key

abbrev pub at_route_text : ℕ → List ℕ → Kind
at_route_text depth key =
    if bytes_eq key (codes "receiver") then kind.Text text.Named
    else if bytes_eq key (codes "group_wait") then kind.Text text.Wait
    else if bytes_eq key (codes "group_interval") then kind.Text text.Interval
    else if bytes_eq key (codes "repeat_interval") then kind.Text text.Interval
    else other (object.Route depth) key

abbrev pub at_route : ℕ → List ℕ → Kind
at_route depth key =
    if bytes_eq key (codes "group_by") then kind.List list.Grouping
    else if bytes_eq key (codes "matchers") then kind.List (if depth == 1 then list.RootMatchers else list.Matchers)
    else if bytes_eq key (codes "continue") then kind.Flag
    else if bytes_eq key (codes "routes") then kind.List (list.Routes (deeper depth))
    else at_route_text depth key

abbrev pub at_receiver : ℕ → List ℕ → Kind
at_receiver before key =
    if bytes_eq key (codes "name") then kind.Text (text.Name before)
    else if bytes_eq key (codes "webhook_configs") then kind.List list.Webhooks
    else if ends_with (λ a b. a == b) key (codes "_configs") then kind.LeftOut left_out.Receivers
    else other (object.Receiver before) key

abbrev pub at_webhook : List ℕ → Kind
at_webhook key =
    if bytes_eq key (codes "url") then kind.Text text.Url
    else if bytes_eq key (codes "send_resolved") then kind.Flag
    else if bytes_eq key (codes "max_alerts") then kind.Count
    else other object.Webhook key

abbrev pub at_rule : List ℕ → Kind
at_rule key =
    if bytes_eq key (codes "source_matchers") then kind.List list.Matchers
    else if bytes_eq key (codes "target_matchers") then kind.List list.Matchers
    else if bytes_eq key (codes "equal") then kind.List list.Names
    else other object.Rule key

-- what stands at a key of an object
abbrev pub at_object : ObjectKind → List ℕ → Kind
at_object object.Document key = at_document key
at_object object.Top key = at_top key
at_object object.Global key = at_global key
at_object (object.Route depth) key = at_route depth key
at_object (object.Receiver before) key = at_receiver before key
at_object object.Webhook key = at_webhook key
at_object object.Rule key = at_rule key

abbrev pub member_of : Kind → List ℕ → Kind
member_of (kind.Object o) key = at_object o key
member_of _ key = kind.Any

-- what stands in a list of so many items: the one entry of a `group_by` may stand for all labels
abbrev pub item_of_list : ListKind → ℕ → Kind
item_of_list (list.Routes depth) count = kind.Object (object.Route depth)
item_of_list list.Receivers count = kind.Object (object.Receiver 0)
item_of_list list.Webhooks count = kind.Object object.Webhook
item_of_list list.Rules count = kind.Object object.Rule
item_of_list list.Grouping count = kind.Text (if count == 1 then text.LoneName else text.LabelName)
item_of_list list.Names count = kind.Text text.LabelName
item_of_list list.Matchers count = kind.Text text.Matcher
item_of_list list.RootMatchers count = kind.Text text.Matcher
item_of_list list.Templates count = kind.Any

abbrev pub item_of : Kind → ℕ → Kind
item_of (kind.List l) count = item_of_list l count
item_of _ count = kind.Any

-- the kind of the item of this number in a list of which the first is of this kind: a receiver's says how many stand
-- before it
abbrev pub numbered_object : ObjectKind → ℕ → ObjectKind
numbered_object (object.Receiver before) number = object.Receiver number
numbered_object o number = o

abbrev pub numbered : Kind → ℕ → Kind
numbered (kind.Object o) number = kind.Object (numbered_object o number)
numbered k number = k

-- the key, where there is nothing at it
abbrev pub absent_in : List ℕ → Option Data → Option (List ℕ)
absent_in key None = Some key
absent_in key (Some d) = None

abbrev pub lacks : Data → List ℕ → Option (List ℕ)
lacks d key = absent_in key (get key d)

abbrev pub first_absent : Option (List ℕ) → Option (List ℕ) → Option (List ℕ)
first_absent None later = later
first_absent (Some key) later = Some key

-- the first key that an object must have and hasn't; of the routes the root alone must have one
abbrev pub absent_of : ObjectKind → Data → Option (List ℕ)
absent_of object.Document d = lacks d (codes "alertmanager_config")
absent_of object.Top d = first_absent (lacks d (codes "route")) (lacks d (codes "receivers"))
absent_of object.Global d = None
absent_of (object.Route depth) d = if depth == 1 then lacks d (codes "receiver") else None
absent_of (object.Receiver before) d = lacks d (codes "name")
absent_of object.Webhook d = lacks d (codes "url")
absent_of object.Rule d = None

abbrev pub absent_key : Kind → Data → Option (List ℕ)
absent_key (kind.Object o) d = absent_of o d
absent_key _ d = None
