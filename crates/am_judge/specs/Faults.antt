-- What a value by itself is refused for, by what the crates below say of it.
use Rattle.std.specs.Prelude.{ℕ, ◌==◌, Bool, true, false, not, ◌&&◌, ◌||◌, nat_lt, List, codes, length, take}
use Rattle.std.specs.Prelude.{Option, Some, None, is_none, option_and_then, is_ok}
use Rattle.std.specs.Str.{bytes_eq}
use Rattle.serde_json.specs.Data.{Data}
use Rattle.serde_json.specs.Events.{items_len}
use Rattle.serde_json.specs.Find.{as_array, as_bool, as_number, as_object, as_str, as_u64}
use Rattle.am_labels.specs.Labels.{is_label_name}
use Rattle.am_url.specs.Urls.{url_of}
use Rattle.am_draft.specs.Keys.{has_members}
use Rattle.am_draft.specs.declared.receiver.ReceiverDraft.{ReceiverDraft}
use Rattle.am_config.specs.Checks.{deepest, is_listed, most_receivers, most_routes, most_webhooks}
use Rattle.am_config.specs.Matching.{reads_matchers}
use Rattle.am_config.specs.Terms.{duration_in, shortest_interval}
use Rattle.am_config.specs.declared.refusal.ConfigRefusal.{ConfigRefusal}
use Rattle.am_config.specs.declared.refusal.ConfigRefusal.TheVariants.{BadForm, BadReceiver, RootMatchers}
use Rattle.am_config.specs.declared.refusal.ConfigRefusal.TheVariants.{BadDuration, LeftOut, BadMatcher, TooMany}
use Rattle.am_config.specs.declared.refusal.ConfigRefusal.TheVariants.{BadUrl, BuildRefused}
use Rattle.am_judge.specs.declared.facts.Facts.{Facts}
use Rattle.am_judge.specs.declared.kind.Kind.{Kind}
use Rattle.am_judge.specs.declared.kind.Kind.TheVariants as kind
use Rattle.am_judge.specs.declared.kind.ListKind.{ListKind}
use Rattle.am_judge.specs.declared.kind.ListKind.TheVariants as list
use Rattle.am_judge.specs.declared.kind.ObjectKind.{ObjectKind}
use Rattle.am_judge.specs.declared.kind.ObjectKind.TheVariants as object
use Rattle.am_judge.specs.declared.kind.TextKind.{TextKind}
use Rattle.am_judge.specs.declared.kind.TextKind.TheVariants as text

-- which refusal is looked for
abbrev pub is_for_form : ConfigRefusal → Bool
is_for_form BadForm = true
is_for_form _ = false

abbrev pub is_for_left_out : ConfigRefusal → Bool
is_for_left_out LeftOut = true
is_for_left_out _ = false

-- ---- texts

-- the entry of a list of label names is none; a lone entry of `group_by` may be `...`
abbrev pub is_bad_name : TextKind → List ℕ → Bool
is_bad_name text.LabelName s = not (is_label_name s)
is_bad_name text.LoneName s = not (bytes_eq s (codes "...")) && not (is_label_name s)
is_bad_name _ s = false

-- the receiver that a route names isn't listed, or one of those before a receiver has its name
abbrev pub is_bad_receiver : List ReceiverDraft → TextKind → List ℕ → Bool
is_bad_receiver receivers text.Named s = not (is_listed receivers s)
is_bad_receiver receivers (text.Name before) s = is_listed (take before receivers) s
is_bad_receiver receivers _ s = false

-- a duration of at least so many milliseconds
abbrev pub is_span : ℕ → List ℕ → Bool
is_span least s = is_ok (duration_in least s)

abbrev pub is_bad_duration : TextKind → List ℕ → Bool
is_bad_duration text.Wait s = not (is_span 0 s)
is_bad_duration text.Interval s = not (is_span shortest_interval s)
is_bad_duration _ s = false

-- a text of matchers isn't read
abbrev pub is_bad_matcher : TextKind → List ℕ → Bool
is_bad_matcher text.Matcher s = not (reads_matchers s)
is_bad_matcher _ s = false

-- it is the text of matchers of which a pattern isn't built
abbrev pub is_that : Option (List ℕ) → List ℕ → Bool
is_that None s = false
is_that (Some unbuilt) s = bytes_eq unbuilt s

abbrev pub is_unbuilt : Option (List ℕ) → TextKind → List ℕ → Bool
is_unbuilt unbuilt text.Matcher s = is_that unbuilt s
is_unbuilt unbuilt _ s = false

-- the URL of a webhook isn't of its form
abbrev pub is_bad_url : TextKind → List ℕ → Bool
is_bad_url text.Url s = is_none (url_of s)
is_bad_url _ s = false

abbrev pub bad_text_for : ConfigRefusal → Facts → TextKind → List ℕ → Bool
bad_text_for BadForm facts role s = is_bad_name role s
bad_text_for BadReceiver facts role s = is_bad_receiver facts.receivers role s
bad_text_for BadDuration facts role s = is_bad_duration role s
bad_text_for BadMatcher facts role s = is_bad_matcher role s
bad_text_for BuildRefused facts role s = is_unbuilt facts.unbuilt role s
bad_text_for BadUrl facts role s = is_bad_url role s
bad_text_for _ facts role s = false

abbrev pub is_bad_text : Facts → TextKind → List ℕ → Bool
is_bad_text facts role s = bad_text_for facts.reason facts role s

-- ---- lists and objects

-- too many receivers, or webhooks of one
abbrev pub are_too_many : ListKind → ℕ → Bool
are_too_many list.Receivers count = nat_lt most_receivers count
are_too_many list.Webhooks count = nat_lt most_webhooks count
are_too_many _ count = false

abbrev pub are_of_root : ListKind → Bool
are_of_root list.RootMatchers = true
are_of_root _ = false

abbrev pub are_templates : ListKind → Bool
are_templates list.Templates = true
are_templates _ = false

abbrev pub is_bad_list : ConfigRefusal → ListKind → ℕ → Bool
is_bad_list RootMatchers l count = are_of_root l && not (count == 0)
is_bad_list LeftOut l count = are_templates l && not (count == 0)
is_bad_list TooMany l count = are_too_many l count
is_bad_list _ l count = false

-- a route that is too deep, or the root where there are too many routes
abbrev pub is_too_much : Facts → ObjectKind → Bool
is_too_much facts (object.Route depth) =
    nat_lt deepest depth || (depth == 1 && nat_lt most_routes (length facts.routes))
is_too_much facts _ = false

abbrev pub bad_object_for : ConfigRefusal → Facts → ObjectKind → Bool
bad_object_for TooMany facts o = is_too_much facts o
bad_object_for _ facts o = false

abbrev pub is_bad_object : Facts → ObjectKind → Bool
is_bad_object facts o = bad_object_for facts.reason facts o

-- ---- all values

-- by its value where it is of its form, else it is of the wrong one
abbrev pub unless_formed : {A : Type 0} → ConfigRefusal → (A → Bool) → Option A → Bool
unless_formed reason is_bad None = is_for_form reason
unless_formed reason is_bad (Some x) = is_bad x

-- templates' files: an object, which is left out where it holds one
abbrev pub are_bad_files : ConfigRefusal → Data → Bool
are_bad_files reason d = unless_formed reason (λ ms. is_for_left_out reason && has_members ms) (as_object d)

-- a value that is no text, list or object of its own
abbrev pub is_bad_form : ConfigRefusal → Kind → Data → Bool
is_bad_form reason kind.Files d = are_bad_files reason d
is_bad_form reason kind.Flag d = is_for_form reason && is_none (as_bool d)
is_bad_form reason kind.Count d = is_for_form reason && is_none (option_and_then as_u64 (as_number d))
is_bad_form reason (kind.LeftOut left_out) d = is_for_left_out reason
is_bad_form reason (kind.Unknown o) d = is_for_form reason
is_bad_form reason _ d = false

-- a value of this kind by itself has the refusal that is looked for
abbrev pub has_fault : Facts → Kind → Data → Bool
has_fault facts (kind.Text role) d = unless_formed facts.reason (is_bad_text facts role) (as_str d)
has_fault facts (kind.List l) d =
    unless_formed facts.reason (λ ds. is_bad_list facts.reason l (items_len ds)) (as_array d)
has_fault facts (kind.Object o) d = unless_formed facts.reason (λ ms. is_bad_object facts o) (as_object d)
has_fault facts k d = is_bad_form facts.reason k d
