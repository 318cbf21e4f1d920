-- What is so between events is so at a later moment.
use Rattle.std.proofs.Common.{◌≡◌, ◌∙◌, ℕ, ◌≤◌, Bool, true, false, Option, None, Some, if◌then◌else◌}
use Rattle.std.proofs.Common.{max, refl, sym, arith}
use Rattle.std.specs.Prelude.{nat_le}
use Rattle.am_cluster.specs.Moments.{last_moment}
use Rattle.am_messages.specs.Posted.{lost_at, posted_at, unlost}
use Rattle.am_messages.specs.declared.messages.Posted.{Posted}
use Rattle.am_messages.specs.declared.name.MessageName.{MessageName}
use Rattle.am_world.specs.Consistent.{IsConsistent, around_at}
use Rattle.am_world.specs.Posting.{AreFiled, Post}
use Rattle.am_world.specs.declared.state.State.{State}
use Rattle.am_world.proofs.FreshKept.{past_unlost}
use Rattle.am_world.proofs.Turned.{whole_at}
use Rattle.am_world.proofs.Reached.{reached_fewer}

-- a message that is left was there
was_there : (m : ℕ) (o : Option Posted) (posted : Posted) → unlost m o ≡ Some posted → o ≡ Some posted
was_there m None posted is = is
was_there m (Some p) posted is = by (nat_le (lost_at p) m) is
  where
    by : (b : Bool) → (if b then None else Some p) ≡ Some posted → Some p ≡ Some posted
    by true clash = absurd (cc)
    by false same = same

filed_left : (m : ℕ) (old new : Post) → ((name : MessageName) → posted_at name new ≡ unlost m (posted_at name old))
    → AreFiled old → AreFiled new
filed_left m old new lost filed name posted is =
    filed name posted (was_there m (posted_at name old) posted (sym (lost name) ∙ is))

-- a world is consistent where the clock moves on and messages are lost
pub consistent_at : (w : State) (m : ℕ) (post : Post) → m ≤ last_moment
    → ((name : MessageName) → posted_at name post ≡ unlost m (posted_at name w.messages)) → IsConsistent w
    → IsConsistent (record w { clock = m; messages = post })
consistent_at w m post allowed lost was = record {
  clock = allowed;
  numbered = was.numbered;
  whole = λ i x at. whole_at (around_at w.clock w) (around_at m w) x refl refl (was.whole i x at);
  quiet = was.quiet;
  ring = was.ring;
  members = was.members;
  filed = filed_left m w.messages post lost was.filed;
  past = past_unlost m w.messages post w.instances lost was.past;
  fresh = reached_fewer w.messages post w.instances
      (λ name posted is. was_there m (posted_at name w.messages) posted (sym (lost name) ∙ is)) was.fresh;
}

-- the later of two moments
pub max_later : (m clock : ℕ) → clock ≤ m → max m clock ≡ m
max_later m clock h = omega arith
