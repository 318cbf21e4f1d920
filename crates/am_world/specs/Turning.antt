-- One instance does something: what it tells is posted and put out, or it fails.
use Rattle.std.specs.Prelude.{◌≡◌, ℕ, ◌==◌, ◌+◌, ◌-◌, ◌^◌, List, [], ◌++◌, Some, min, if◌then◌else◌}
use Rattle.am_cluster.specs.Events.{Output}
use Rattle.am_http.specs.Connections.{left_open}
use Rattle.am_http.specs.Verdict.{verdict}
use Rattle.am_item.specs.declared.fault.Fault.{Fault}
use Rattle.am_instance.specs.Bringing.{Brings}
use Rattle.am_instance.specs.Here.{Circumstances}
use Rattle.am_instance.specs.Instance.{IsDown, IsSameNode, bytes_in, refused_in}
use Rattle.am_instance.specs.declared.instance.Instance.{Instance}
use Rattle.am_world.specs.Places.{At, ChangesAt, Turns, cause_at}
use Rattle.am_world.specs.Posting.{IsSamePost, Posts}
use Rattle.am_world.specs.Simulation.{IsSameBeside, fault_count, put_out}
use Rattle.am_world.specs.declared.state.State.{State}

-- what it was and is are so related, by what it told at this moment
pub record Does (i moment : ℕ) (Are : List Output → Instance → Instance → Type 0) (w w' : State) : Type 0 where
  pub told : List Output
  pub turns : Turns i (Are told) w.instances w'.instances
  pub posts : Posts moment told w.messages w'.messages
  pub appended : put_out w' ≡ put_out w ++ told
  pub stays : Turns i IsSameNode w.instances w'.instances
  pub others : ChangesAt i w.instances w'.instances
  pub beside : IsSameBeside w w'
  pub faults : fault_count w' ≡ fault_count w

-- nothing is put out, and every message is as it was
pub record Fails (i : ℕ) (w w' : State) : Type 0 where
  pub posted : IsSamePost w.messages w'.messages
  pub silent : put_out w' ≡ put_out w
  pub stays : Turns i IsSameNode w.instances w'.instances
  pub others : ChangesAt i w.instances w'.instances
  pub beside : IsSameBeside w w'
  pub faults : fault_count w' ≡ fault_count w

-- ---- bytes

-- what bytes of a connection bring, and which bytes it reads then
pub record Feeds (around : Circumstances) (c : ℕ) (piece : List ℕ) (told : List Output) (x x' : Instance) : Type 0 where
  pub brings : (before : List ℕ) → bytes_in c x ≡ Some before →
      Brings (verdict (before ++ piece)) c around x x' [] told
  pub front : (before : List ℕ) → bytes_in c x ≡ Some before → (d : ℕ) → bytes_in d x'
      ≡ (if d == c then left_open (verdict (before ++ piece)) (before ++ piece) else bytes_in d x)

-- ---- a fault

-- an instance was stopped for a fault, as a crash does, and one fault more is counted
pub record IsStopped (i : ℕ) (fault : Fault) (w w' : State) : Type 0 where
  pub down : At i IsDown w'.instances
  pub cause : cause_at i w'.instances ≡ Some fault
  pub stays : Turns i (λ x x'. IsSameNode x x' × (refused_in x' ≡ refused_in x)) w.instances w'.instances
  pub others : ChangesAt i w.instances w'.instances
  pub messages : w'.messages ≡ w.messages
  pub outputs : put_out w' ≡ put_out w
  pub beside : IsSameBeside w w'
  pub counted : fault_count w' ≡ min (fault_count w + 1) (2 ^ 64 - 1)
