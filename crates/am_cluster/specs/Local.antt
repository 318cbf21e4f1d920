-- What an instance has of one tenant.
use Rattle.std.specs.Prelude.{ℕ, Bool, ◌||◌, not, ◌==◌, length, List, []}
use Rattle.am_item.specs.declared.item.Item.{Item}
use Rattle.am_labels.specs.declared.Label.{Label}
use Rattle.am_limit.specs.Limits.{Count, fresh}
use Rattle.am_members.specs.declared.group.Group.{Group}
use Rattle.am_outlet.specs.Attempts.{Desk, no_attempts}
use Rattle.am_cluster.specs.Here.{Here}
use Rattle.am_cluster.specs.Operations.{Operation}
use Rattle.am_transfer.specs.Settling.{Settling, untouched}

-- what it has counted of the tenant, and how far the tenant's words are drawn. (The attempts are counted at their
-- desk.) All this stays where the instance stops being a replica, and begins anew with an incarnation
pub record Ledger : Type 0 where
  pub stamps : ℕ
  pub messages : ℕ
  pub operations : ℕ
  pub drawn : ℕ

-- the best of the items that it accepted; of each alert among them the moment since which it is held; the last flush
-- of each group; how many notices it gave in the last minute in which it gave one; the open attempts; the open
-- operations; how it settles; and the ledger
pub record Local : Type 0 where
  pub held : List Item
  pub sinces : List (List Label × ℕ)
  pub flushes : List (Group × ℕ)
  pub noticed : Count
  pub desk : Desk
  pub operations : List Operation
  pub settling : Settling
  pub ledger : Ledger

abbrev pub no_ledger : Ledger
no_ledger = record { stamps = 0; messages = 0; operations = 0; drawn = 0 }

-- a tenant of whom it knows nothing
abbrev pub blank : Local
blank = record {
  held = [];
  sinces = [];
  flushes = [];
  noticed = fresh 0;
  desk = no_attempts;
  operations = [];
  settling = untouched;
  ledger = no_ledger;
}

abbrev pub holds_any : Local → Bool
holds_any local = not (length local.held == 0)

-- the instance is settled for the tenant: it has stayed a replica from the opening of all on, or became settled in its
-- incarnation
abbrev pub is_settled : Here → Local → Bool
is_settled here local = here.stayed || local.settling.has_settled

abbrev pub with_settling : Settling → Local → Local
with_settling settling local = record local { settling = settling }

abbrev pub with_operations : List Operation → Local → Local
with_operations operations local = record local { operations = operations }
