-- What an instance has planned of a tenant. Nothing of it is stored: it is computed from what is held, by the
-- configuration that is in use and by the position of the instance, whenever something is asked of it.
use Rattle.std.specs.Prelude.{ℕ, Option, Some, None, if◌then◌else◌}
use Rattle.std.specs.List.{filter_map}
use Rattle.am_node.specs.Notices.{Plan, paces_at, planned_alerts}
use Rattle.am_current.specs.Current.{configuration_in}
use Rattle.am_members.specs.Grouped.{Grouped}
use Rattle.am_node.specs.Local.{Local as ReplicaLocal, Reaction as ReplicaReaction, Said as ReplicaSaid}
use Rattle.am_node.specs.Local.{Records as ReplicaRecords, Replies as ReplicaReplies, Tells as ReplicaTells}
use Rattle.am_context.specs.declared.context.Context.{Context as NodeContext}
use Rattle.am_cluster.specs.Here.{Here, position_here, replica_here}
use Rattle.am_cluster.specs.Local.{Local, is_settled}
use Rattle.am_cluster.specs.Reactions.{Reaction, Replies, Said, Tells}

-- the position by which groups wait: that of a settled replica. No other instance flushes
abbrev pub position_of : Here → Local → Option ℕ
position_of here local = if is_settled here local then position_here here else None

-- the alerts in their groups, with the last flushes of these
unfoldable pub grouped_of : Local → Grouped
grouped_of local =
    record { alerts = planned_alerts (configuration_in local.held) local.sinces; flushes = local.flushes }

-- the plan of an instance
unfoldable pub plan_of : Here → Local → Plan
plan_of here local = record {
  paces = paces_at (configuration_in local.held) (position_of here local);
  grouped = grouped_of local;
  desk = local.desk;
}

-- ---- what an instance by itself does, of which this is a part

-- what it has of the tenant, with this plan
abbrev pub replica_local : Here → Local → ReplicaLocal
replica_local here local = record {
  held = local.held;
  plan = plan_of here local;
  noticed = local.noticed;
  position = position_of here local;
  ledger = record { stamps = local.ledger.stamps; drawn = local.ledger.drawn };
}

-- .. afterwards: of the plan only the last flushes and the attempts are kept
abbrev pub with_replica : ReplicaLocal → Local → Local
with_replica r local = record local {
  held = r.held;
  flushes = r.plan.grouped.flushes;
  noticed = r.noticed;
  desk = r.plan.desk;
  ledger = record (local.ledger) { stamps = r.ledger.stamps; drawn = r.ledger.drawn };
}

-- what it says by itself; what it records goes out in the messages that put it to the others
abbrev pub said_by : ReplicaSaid → Option Said
said_by (ReplicaReplies connection bytes) = Some (Replies connection bytes)
said_by (ReplicaTells sending) = Some (Tells sending)
said_by (ReplicaRecords item) = None

-- the instance does what it would do by itself
abbrev pub by_replica : (NodeContext → ReplicaLocal → ReplicaReaction) → Here → Local → Reaction
by_replica react here local =
    let r : ReplicaReaction = react (replica_here here) (replica_local here local) in
    record { local = with_replica r.local local; said = filter_map said_by r.said; fits = r.fits }
