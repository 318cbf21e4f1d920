-- What becomes of notices: the first try of an attempt, its outcome, the next try, and what records that a webhook
-- was told.
use Rattle.std.specs.Prelude.{ℕ, Bool, List, [], ◌∷◌, Option}
use Rattle.am_item.specs.declared.entry.EntryKey.{EntryKey}
use Rattle.am_item.specs.declared.item.Item.{Item}
use Rattle.am_labels.specs.declared.Label.{Label}
use Rattle.am_outlet.specs.Attempts.{after_outcome, attempt_at, awaits_outcome, outcome_of}
use Rattle.am_outlet.specs.declared.outcome.Outcome.{Outcome}
use Rattle.am_outlet.specs.declared.outcome.Outcome.TheVariants.{NotOpen, Delivered, Again, GivenUp}
use Rattle.am_node.specs.Delivery as replica
use Rattle.am_node.specs.Notices.{Keep, Notify, Telling}
use Rattle.am_cluster.specs.Here.{Here, others, replica_here}
use Rattle.am_cluster.specs.Local.{Local}
use Rattle.am_cluster.specs.Messages.{Put}
use Rattle.am_cluster.specs.Plans.{by_replica, replica_local}
use Rattle.am_cluster.specs.Reactions.{Reaction, stays, ◌>>◌}
use Rattle.am_cluster.specs.Sending.{send_all}

-- the entry that records that a webhook was told of alerts that fire and of resolved ones
abbrev pub entry_of : Here → EntryKey → (firing resolved : List (List Label)) → (span : ℕ) → Local → Item
entry_of here key firing resolved span local =
    replica.entry_of (replica_here here) key firing resolved span (replica_local here local)

-- the entry is made and accepted here, and put to the other two replicas, which send no Ack
unfoldable pub recorded : Here → EntryKey → (firing resolved : List (List Label)) → (span : ℕ) → Local → Reaction
recorded here key firing resolved span local =
    let entry : Item = entry_of here key firing resolved span local in
    (by_replica (λ h. replica.recorded h key firing resolved span) here
    >> send_all here.epoch here (others here) (Put 0 (entry ∷ []))) local

-- what is told to a webhook at a flush; or that there is nothing to tell is recorded at once
abbrev pub told : Here → Telling → Local → Reaction
told here (Notify notice) local = by_replica (λ h. replica.notified h notice) here local
told here (Keep key span) local = recorded here key [] [] span local

-- a notice that was delivered is recorded; else nothing is done but that the attempt goes on or is closed
abbrev pub concluded : Here → Outcome → Local → Reaction
concluded here NotOpen local = stays local
concluded here (Delivered notice) local = recorded here notice.key notice.firing notice.resolved notice.span local
concluded here (Again due) local = stays local
concluded here GivenUp local = stays local

-- the outcome of a try: a status, or none
unfoldable pub outcome : Here → (number tries : ℕ) → (status : Option ℕ) → Local → Reaction
outcome here number tries status local =
    concluded here (outcome_of number tries here.moment status local.desk.open_ones)
    (record local { desk = after_outcome number tries here.moment status local.desk })

-- the next try of an attempt, where it is due
abbrev pub retried : Here → (number : ℕ) → Local → Reaction
retried here number local = by_replica (λ h. replica.retried h number) here local

-- the outcome of this try is awaited
unfoldable pub is_awaited : (number tries : ℕ) → Local → Bool
is_awaited number tries local = awaits_outcome tries (attempt_at number local.desk.open_ones)
