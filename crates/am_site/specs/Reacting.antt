-- What an instance does where something happens to one tenant: of that tenant it has what a private cluster's instance
-- has then, and says of it what that says; and of every other tenant it has what it had.
use Rattle.std.specs.Prelude.{◌≡◌, ℕ, ◌++◌, true, false, List, [], ◌∷◌, map, Option, Some, None, if◌then◌else◌}
use Rattle.am_cluster.specs.Local.{Local}
use Rattle.am_cluster.specs.Reactions.{Reaction, Replies, Said, Sends, Tells}
use Rattle.am_cluster.specs.Retiring.{retired}
use Rattle.am_item.specs.declared.fault.Fault.{Fault}
use Rattle.am_item.specs.declared.fault.Fault.TheVariants.{OutOfMemory, CountsExhausted, PatternNotBuilt, StoreRefused}
use Rattle.am_node.specs.Held.{local_of as local_in_node}
use Rattle.am_quorum.specs.declared.operation.Ready.{Ready}
use Rattle.am_transfer.specs.Tenants.{progress_of}
use Rattle.am_transfer.specs.Timers.{AreTimed}
use Rattle.am_tenant.specs.Names.{same}
use Rattle.am_site.specs.Locals.{local_of}
use Rattle.am_site.specs.declared.said.Said.{Said as Spoken}
use Rattle.am_site.specs.declared.said.Said.TheVariants.{Reply, Message, Try}
use Rattle.am_site.specs.declared.site.Site.{Site}

-- one thing that it says
abbrev pub said_in : Spoken → Said
said_in (Reply connection bytes) = Replies connection bytes
said_in (Message message) = Sends message
said_in (Try sending) = Tells sending

-- the reply of an operation that is over, where one is
abbrev pub replied : Option Ready → List Said
replied None = []
replied (Some ready) = Replies ready.connection ready.reply ∷ []

-- one tenant has what this makes of it, and every other has what it had
abbrev pub Makes : List ℕ → (Local → Local) → Site → Site → Type 0
Makes tenant change old new =
    (t : List ℕ) → local_of t new ≡ (if same t tenant then change (local_of t old) else local_of t old)

-- the position by which a tenant's groups wait, and whom the instance asked for the tenant's State
abbrev pub position_in : List ℕ → Site → Option ℕ
position_in t site = (local_in_node t site.node).position

abbrev pub asked_in : List ℕ → Site → List ℕ
asked_in t site = (progress_of t site.settling.progress).asked

-- what a reaction for one tenant leaves: the incarnation of the instance, the positions of all tenants' groups, whom it
-- asked, and that what is sent again has its timers
pub record Keeps (old new : Site) : Type 0 where
  pub incarnation : new.operations.incarnation ≡ old.operations.incarnation
  pub positions : (t : List ℕ) → position_in t new ≡ position_in t old
  pub asked : (t : List ℕ) → asked_in t new ≡ asked_in t old
  pub timed : AreTimed old.settling → AreTimed new.settling

-- .. one that may move the tenant's groups, or ask others: the same of the other tenants
pub record KeepsOthers (tenant : List ℕ) (old new : Site) : Type 0 where
  pub incarnation : new.operations.incarnation ≡ old.operations.incarnation
  pub positions : (t : List ℕ) → same t tenant ≡ false → position_in t new ≡ position_in t old
  pub asked : (t : List ℕ) → same t tenant ≡ false → asked_in t new ≡ asked_in t old
  pub timed : AreTimed old.settling → AreTimed new.settling

-- what is said stands behind what had been said
pub record Reacts (tenant : List ℕ) (react : Local → Reaction) (old new : Site) (before after : List Spoken) :
    Type 0 where
  pub local : Makes tenant (λ l. (react l).local) old new
  pub said : map said_in after ≡ map said_in before ++ (react (local_of tenant old)).said
  pub fits : (react (local_of tenant old)).fits ≡ true
  pub keeps : Keeps old new

-- .. where the tenant's groups may wait by another position then, and others be asked
pub record Moves (tenant : List ℕ) (react : Local → Reaction) (old new : Site) (before after : List Spoken) :
    Type 0 where
  pub local : Makes tenant (λ l. (react l).local) old new
  pub said : map said_in after ≡ map said_in before ++ (react (local_of tenant old)).said
  pub fits : (react (local_of tenant old)).fits ≡ true
  pub keeps : KeepsOthers tenant old new

-- .. where nothing is said, whatever had been said
abbrev pub MovesInSilence : List ℕ → (Local → Reaction) → Site → Site → Type 0
MovesInSilence tenant react old new = (outbox : List Spoken) → Moves tenant react old new outbox outbox

-- .. where nothing is said, and no group moves and nobody is asked
pub record Does (tenant : List ℕ) (react : Local → Reaction) (old new : Site) : Type 0 where
  pub local : Makes tenant (λ l. (react l).local) old new
  pub said : (react (local_of tenant old)).said ≡ []
  pub fits : (react (local_of tenant old)).fits ≡ true
  pub keeps : Keeps old new

-- of all tenants what is retired at a moment goes
pub record Retires (moment : ℕ) (old new : Site) : Type 0 where
  pub local : (t : List ℕ) → local_of t new ≡ retired moment (local_of t old)
  pub keeps : Keeps old new

-- why it stops: a count would have passed the greatest, or a message the greatest length; or memory ran out
abbrev pub StopsReacting : List ℕ → (Local → Reaction) → Site → Fault → Type 0
StopsReacting tenant react site CountsExhausted = (react (local_of tenant site)).fits ≡ false
StopsReacting tenant react site OutOfMemory = Unit {0}
StopsReacting tenant react site PatternNotBuilt = ⊥
StopsReacting tenant react site StoreRefused = ⊥
