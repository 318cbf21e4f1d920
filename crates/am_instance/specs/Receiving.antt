-- What an instance does with a message that comes.
use Rattle.std.specs.Prelude.{◌≡◌, ◌⊎◌, ℕ, List, Option}
use Rattle.am_cluster.specs.Deciding.{Decision}
use Rattle.am_cluster.specs.Arriving.{arrive}
use Rattle.am_cluster.specs.Events.{Output}
use Rattle.am_cluster.specs.Messages.{Message}
use Rattle.am_item.specs.declared.fault.Fault.{Fault}
use Rattle.am_item.specs.declared.fault.Fault.TheVariants.{OutOfMemory}
use Rattle.am_muting.specs.Failing.{AddsAmong}
use Rattle.am_item.specs.declared.item.Item.{Item}
use Rattle.am_site.specs.Arriving.{IsMade, StopsArriving, brought_at, decided_by}
use Rattle.am_site.specs.Deciding.{asked_by}
use Rattle.am_site.specs.declared.here.Here.{Here as Given}
use Rattle.am_instance.specs.declared.instance.Instance.{Instance}
use Rattle.am_instance.specs.Here.{Circumstances, IsGiven, here_on}
use Rattle.am_instance.specs.Instance.{local_in, refused_in}
use Rattle.am_instance.specs.Reacting.{Reacts}

-- the reaction is that to this decision, which is one that may be made; and no pattern is refused a build but of those
-- that the decision asks
pub record Receives (around : Circumstances) (message : Message) (x x' : Instance) (before after : List Output) :
    Type 0 where
  pub given : Given
  pub is_given : IsGiven around x message.tenant given
  pub decision : Decision
  pub made : IsMade (refused_in x) (refused_in x') given message (local_in message.tenant x) decision
  pub reacts : Reacts around message.tenant (λ here. arrive (λ _ _ _ _. decision) here message) x x' before after
  pub adds : AddsAmong (asked_by given (decided_by given message (local_in message.tenant x)))
      (refused_in x) (refused_in x')

-- the items that a message brings to hold, where it is taken and has any
abbrev pub brought_on : Circumstances → Instance → Message → Option (List Item)
brought_on around x message = brought_at (here_on around x message.tenant) message (local_in message.tenant x)

-- what it does with one stops it, where builds of these patterns were refused before and afterwards
pub record StopsDoing (before after : List (List ℕ)) (around : Circumstances) (message : Message) (x : Instance)
    (fault : Fault) : Type 0 where
  pub given : Given
  pub is_given : IsGiven around x message.tenant given
  pub stops : StopsArriving before after given message x.site fault

-- why it stops at one: for that, or memory ran out where what was said is put out
abbrev pub StopsReceiving : (before after : List (List ℕ)) → Circumstances → Message → Instance → Fault → Type 0
StopsReceiving before after around message x fault =
    StopsDoing before after around message x fault ⊎ (fault ≡ OutOfMemory)
