use Rattle.std.specs.Prelude.{List, ℕ}
use Rattle.std.proofs.Common.{ap}
use Rattle.am_agenda.specs.Plan.{flush_due, timers_in}
use Rattle.am_alert.specs.Made.{last_of_each, items_from, made}
use Rattle.am_cluster.specs.Accepting.{accepted}
use Rattle.am_cluster.specs.Arriving.{arrive}
use Rattle.am_cluster.specs.Courses.{changed, refusal_of, handled_by, course_by}
use Rattle.am_cluster.specs.Operating.{start, finish, replicas_changed, answered, acked, carry_out}
use Rattle.am_transfer.specs.Pieces.{cut, reach_of}
use Rattle.am_cluster.specs.Plans.{grouped_of, plan_of}
use Rattle.am_cluster.specs.PrivateCluster.{here_at, react_all, react_one}
use Rattle.am_cluster.specs.Retiring.{retired}
use Rattle.am_cluster.specs.RingChanges.{opened as opened_with, just_opened, dropped, ring_learned, other_restarted}
use Rattle.am_cluster.specs.Rings.{is_always_replica}
use Rattle.am_cluster.specs.Roster.{three_at, has_stayed, ring_event_refusal, roster_after}
use Rattle.am_cluster.specs.Sending.{send_in}
use Rattle.am_cluster.specs.Sent.{posted}
use Rattle.am_cluster.specs.Ticking.{timers_of, handled, ticked}
use Rattle.am_cluster.specs.Transfers.{ask, asks_first, send_state, push, take_state, answer_ask, take_got, forced}
use Rattle.am_current.specs.Current.{configuration_in}
use Rattle.am_group.specs.Grouping.{groups_of}
use Rattle.am_http.specs.Replies.{phrase_of}
use Rattle.am_item.specs.Best.{best}
use Rattle.am_item.specs.Key.{key_cmp}
use Rattle.am_item.specs.Retirement.{retires_at}
use Rattle.am_item.specs.Stamp.{stamp_cmp}
use Rattle.am_labels.specs.Labels.{labels_cmp}
use Rattle.am_planning.specs.Planning.{paces_of, planned_alerts}
use Rattle.am_ring.specs.Changes.{with_instance, join_refusal, leave_refusal}
use Rattle.am_ring.specs.Instances.{in_order}
use Rattle.am_route.specs.Routes.{routes_among}
use Rattle.am_rows.specs.Rows.{stored_in}
use Rattle.am_timer.specs.Timer.{key_cmp as timer_key_cmp}
use Rattle.am_wire.specs.Fields.{number_bytes, text_bytes}
use Rattle.am_wire.specs.ItemFields.{stamp_bytes, alert_bytes, item_bytes}
use Rattle.am_wire.specs.LabelFields.{label_bytes, labels_bytes}
use Rattle.am_draft.specs.Forests.{forest_of}
use Rattle.am_cluster_tests.specs.Rows.{two_crash, played_by}
use Rattle.am_cluster_tests.specs.Scenario.{replies}
use Rattle.am_cluster_tests.proofs.Table.{table, table_is}
use Rattle.am_cluster_tests.proofs.rows.crashes.Goals as goal

pub returns : goal.returns
unfolding table flush_due timers_in last_of_each items_from made accepted arrive changed refusal_of handled_by course_by start finish replicas_changed answered acked carry_out cut reach_of grouped_of plan_of here_at react_one react_all retired opened_with just_opened dropped ring_learned other_restarted is_always_replica three_at has_stayed ring_event_refusal roster_after send_in posted timers_of handled ticked ask asks_first send_state push take_state answer_ask take_got forced configuration_in groups_of phrase_of best key_cmp retires_at stamp_cmp labels_cmp paces_of planned_alerts with_instance join_refusal leave_refusal in_order routes_among stored_in timer_key_cmp number_bytes text_bytes stamp_bytes alert_bytes item_bytes label_bytes labels_bytes forest_of
returns c = ap (λ (f : List ℕ → List ℕ). replies (played_by f two_crash)) table_is
