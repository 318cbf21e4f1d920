-- What an instance has of one tenant, and what it does where something happens to it.
use Rattle.std.specs.Prelude.{ℕ, Bool, true, ◌&&◌, List, [], ◌∷◌, ◌++◌, Option, Some}
use Rattle.am_item.specs.declared.item.Item.{Item}
use Rattle.am_limit.specs.Limits.{Count, fresh}
use Rattle.am_outlet.specs.declared.attempt.Sending.{Sending}
use Rattle.am_notifier.specs.Planned.{Plan, default_paces, dropped as dropped_plan, no_plan}
use Rattle.am_node.specs.declared.report.Report.{Report}
use Rattle.am_node.specs.declared.report.Report.TheVariants.{Try, Record}

-- what it keeps beside what it holds and plans: how many stamps it has counted, and the place of the next word
pub record Ledger : Type 0 where
  pub stamps : ℕ
  pub drawn : ℕ

-- the best of the items that it accepted; what it has planned for them; how many notices it gave in the last minute in
-- which it gave one; its position among the tenant's replicas, by which groups wait, where it flushes them; and the
-- ledger
pub record Local : Type 0 where
  pub held : List Item
  pub plan : Plan
  pub noticed : Count
  pub position : Option ℕ
  pub ledger : Ledger

abbrev pub no_ledger : Ledger
no_ledger = record { stamps = 0; drawn = 0 }

-- a tenant of whom it knows nothing
abbrev pub blank : Local
blank = record {
  held = [];
  plan = no_plan default_paces;
  noticed = fresh 0;
  position = Some 0;
  ledger = no_ledger;
}

-- all is dropped but what was counted, and the place of the next word
abbrev pub dropped : Local → Local
dropped local = record blank { plan = dropped_plan local.plan; ledger = local.ledger }

-- one thing that it says about the tenant
pub data Said : Type 0 where
  -- the reply of a connection
  Replies : (connection : ℕ) (bytes : List ℕ) → Said
  -- a try of one of its attempts at a notice
  Tells : (sending : Sending) → Said
  -- an item of its own that records that a webhook was told
  Records : (item : Item) → Said

-- .. as it is reported
abbrev pub said_in : Report → Said
said_in (Try sending) = Tells sending
said_in (Record item) = Records item

-- what it has afterwards, what it says, in order, and whether no count passes the greatest
pub record Reaction : Type 0 where
  pub local : Local
  pub said : List Said
  pub fits : Bool

-- nothing happens
abbrev pub stays : Local → Reaction
stays local = record { local = local; said = []; fits = true }

-- one thing after the other
abbrev pub in_turn : Reaction → (Local → Reaction) → Reaction
in_turn first next = record {
  local = (next first.local).local;
  said = first.said ++ (next first.local).said;
  fits = first.fits && (next first.local).fits;
}

-- for each of a list, in its order
abbrev pub each : {A : Type 0} → (A → Local → Reaction) → List A → Local → Reaction
each react [] local = stays local
each react (x ∷ xs) local = in_turn (react x local) (each react xs)
