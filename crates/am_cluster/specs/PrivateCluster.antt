-- The private cluster of one tenant: what all instances would have if no other tenant were there, and how they react.
-- There is no queue, table, index or cache in it.
use Rattle.std.specs.Prelude.{◌≡◌, ℕ, ◌<◌, Bool, true, Contains, List, [], ◌∷◌, ◌++◌, map, if◌then◌else◌}
use Rattle.std.specs.List.{flat_map, list_all}
use Rattle.am_item.specs.Key.{key_of}
use Rattle.am_item.specs.declared.item.Item.{Item}
use Rattle.am_ring.specs.Replicas.{replicas}
use Rattle.am_rows.specs.Rows.{stored_in}
use Rattle.am_ring.specs.Instances.{all_instances}
use Rattle.am_cluster.specs.Events.{Notice, Output, Reply, Send}
use Rattle.am_cluster.specs.Here.{Here}
use Rattle.am_cluster.specs.Local.{Local, blank}
use Rattle.am_limit.specs.declared.limits.Limits.{Limits}
use Rattle.am_setup.specs.Setup.{Origin}
use Rattle.am_cluster.specs.Reactions.{Reaction, Replies, Said, Sends, Tells, stays}
use Rattle.am_cluster.specs.RingChanges.{opened as opened_with}
use Rattle.am_cluster.specs.Roster.{Roster, has_stayed, opened_roster, put_at, three_at}
use Rattle.am_cluster.specs.Sent.{Sent, sent_at}

-- whose it is, the tenant's three replicas by ring, in order of position, and the service's key, which never change;
-- the moment of the last tick; the tenant's limits; the instances; by number what each has while it is up, and what
-- its store keeps while it isn't; and all messages that were sent
pub record PrivateCluster : Type 0 where
  pub tenant : List ℕ
  pub replicas_by : (ring : List ℕ) → List ℕ
  pub service_key : List ℕ
  pub clock : ℕ
  pub limits : Limits
  pub roster : Roster
  pub at : ℕ → Local
  pub rows : ℕ → List Item
  pub sent : List Sent

-- what comes of something that happens: the cluster afterwards, what it put out, in order, and whether no count
-- passed the greatest and no message was too long
pub record Course : Type 0 where
  pub cluster : PrivateCluster
  pub outputs : List Output
  pub fits : Bool

-- ---- one instance of it

-- what the instance goes by at a moment: the ring that it knows, whatever the newest one is
unfoldable pub here_at : PrivateCluster → (moment i : ℕ) → Here
here_at p moment i = record {
  tenant = p.tenant;
  instance = i;
  incarnation = p.roster.incarnation i;
  moment = moment;
  limits = p.limits;
  epoch = p.roster.known i;
  three = three_at p.replicas_by p.roster i;
  stayed = has_stayed p.replicas_by p.roster i;
  incarnations = map p.roster.incarnation all_instances;
}

-- what the instance says, as an output
abbrev pub output_of : (tenant : List ℕ) → (instance incarnation : ℕ) → Said → Output
output_of tenant i k (Replies connection bytes) = Reply connection bytes
output_of tenant i k (Sends m) = Send m
output_of tenant i k (Tells s) =
    Notice (record { tenant = tenant; instance = i; incarnation = k; number = s.number }) s.tries s.url s.bytes

abbrev pub put_out_at : PrivateCluster → (i : ℕ) → List Said → List Output
put_out_at p i said = map (output_of p.tenant i (p.roster.incarnation i)) said

abbrev pub unchanged : PrivateCluster → Course
unchanged p = record { cluster = p; outputs = []; fits = true }

-- an up instance reacts at a moment; what it sends is sent then
unfoldable pub react_one : (Here → Local → Reaction) → (moment i : ℕ) → PrivateCluster → Course
react_one reaction moment i p =
    let r : Reaction = reaction (here_at p moment i) (p.at i) in
    record {
      cluster = record p { at = put_at p.at i r.local; sent = p.sent ++ sent_at moment r.said };
      outputs = put_out_at p i r.said;
      fits = r.fits;
    }

-- one that is down or out of the ring does nothing
abbrev pub react : (Here → Local → Reaction) → (moment i : ℕ) → PrivateCluster → Course
react reaction moment i p = if p.roster.up i then react_one reaction moment i p else unchanged p

-- all up instances react at a moment, in order of number; none of them sees what another does
abbrev pub reaction_at : (ℕ → Here → Local → Reaction) → (moment : ℕ) → PrivateCluster → (i : ℕ) → Reaction
reaction_at reaction moment p i =
    if p.roster.up i then reaction i (here_at p moment i) (p.at i) else stays (p.at i)

unfoldable pub react_all : (ℕ → Here → Local → Reaction) → (moment : ℕ) → PrivateCluster → Course
react_all reaction moment p = record {
  cluster = record p {
    at = λ i. (reaction_at reaction moment p i).local;
    sent = p.sent ++ flat_map (λ i. sent_at moment (reaction_at reaction moment p i).said) all_instances;
  };
  outputs = flat_map (λ i. put_out_at p i (reaction_at reaction moment p i).said) all_instances;
  fits = list_all (λ i. (reaction_at reaction moment p i).fits) all_instances;
}

-- ---- stores

-- the tenant's rows in the store of an instance: of an up one those of what it holds, else those that are left
abbrev pub stored_at : PrivateCluster → (i : ℕ) → List Item
stored_at p i = if p.roster.up i then stored_in (p.at i).held else p.rows i

-- an instance goes down, and of what it had these rows are left
abbrev pub stopped : (i : ℕ) → (left : List Item) → PrivateCluster → PrivateCluster
stopped i left p = record p { at = put_at p.at i blank; rows = put_at p.rows i left }

-- an instance is opened, at the moment of the last tick, with the rows that are left
abbrev pub with_opened : (i : ℕ) → PrivateCluster → PrivateCluster
with_opened i p = record p {
  at = put_at p.at i (opened_with (here_at p p.clock i) (p.rows i));
  rows = put_at p.rows i [];
}

-- ---- its start

-- what stores may have of the tenant before the opening: each row was stamped in an incarnation before the first one,
-- and rows of one key and stamp are the same, whichever stores have them
pub record AreEarlier (first : ℕ) (rows : ℕ → List Item) : Type 0 where
  pub earlier : (i : ℕ) (item : Item) → Contains (rows i) item → item.stamp.incarnation < first
  pub same : (i j : ℕ) (x y : Item) → Contains (rows i) x → Contains (rows j) y → key_of x ≡ key_of y
      → x.stamp ≡ y.stamp
      → x ≡ y

-- before any instance is opened, where the tenant's replicas are so by ring, with these rows of the tenant in the
-- stores
abbrev pub unopened : (replicas_by : List ℕ → List ℕ) → Origin → (tenant : List ℕ) → (rows : ℕ → List Item)
    → PrivateCluster
unopened replicas_by origin tenant rows = record {
  tenant = tenant;
  replicas_by = replicas_by;
  service_key = origin.service_key;
  clock = 0;
  limits = origin.limits;
  roster = opened_roster origin;
  at = λ i. blank;
  rows = rows;
  sent = [];
}

abbrev pub with_all_opened : List ℕ → PrivateCluster → PrivateCluster
with_all_opened [] p = p
with_all_opened (i ∷ more) p = with_all_opened more (with_opened i p)

-- .. as it is opened: the instances of the ring open their stores
abbrev pub opened_by : (replicas_by : List ℕ → List ℕ) → Origin → (tenant : List ℕ) → (rows : ℕ → List Item)
    → PrivateCluster
opened_by replicas_by origin tenant rows =
    with_all_opened origin.ring (unopened replicas_by origin tenant rows)

-- the tenant's cluster as it is opened: its replicas are the three that are nearest to it
abbrev pub opened : Origin → (tenant : List ℕ) → (rows : ℕ → List Item) → PrivateCluster
opened origin tenant rows = opened_by (replicas tenant) origin tenant rows
