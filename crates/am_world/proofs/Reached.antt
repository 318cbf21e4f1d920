-- The sender of each message that is there has reached the incarnation in which it was sent.
use Rattle.std.proofs.Common.{◌≡◌, ◌∙◌, ℕ, ◌≤◌, Bool, true, false, List, [], Option, None, Some, arith, sym}
use Rattle.std.proofs.Common.{if◌then◌else◌}
use Rattle.am_messages.specs.Names.{same_name}
use Rattle.am_messages.specs.Posted.{Loses, posted_at}
use Rattle.am_messages.specs.declared.messages.Posted.{Posted}
use Rattle.am_messages.specs.declared.name.MessageName.{MessageName}
use Rattle.am_instance.specs.declared.instance.Instance.{Instance}
use Rattle.am_world.specs.Places.{AreNumbered, ChangesAt, Turns}
use Rattle.am_world.specs.Posting.{AreReached, Post}
use Rattle.am_world.proofs.AlonePlaces.{exists_then}
use Rattle.am_world.proofs.RunPlaces.{turns_each}

-- no message is there at first
pub reached_none : (xs : List Instance) → AreReached [] xs
reached_none xs name posted is = absurd (cc)

-- each that is there was
pub reached_fewer : (old new : Post) (xs : List Instance)
    → ((name : MessageName) (posted : Posted) → posted_at name new ≡ Some posted → posted_at name old ≡ Some posted)
    → AreReached old xs → AreReached new xs
reached_fewer old new xs was reached name posted is = reached name posted (was name posted is)

-- one is lost
pub reached_lost : (lost : MessageName) (old new : Post) (xs : List Instance) → Loses lost old new → AreReached old xs
    → AreReached new xs
reached_lost lost old new xs loses reached =
    reached_fewer old new xs (λ name posted is. by_name (same_name lost name) (sym (loses name) ∙ is)) reached
  where
    by_name : (b : Bool) {o : Option Posted} {posted : Posted} → (if b then None else o) ≡ Some posted → o ≡ Some posted
    by_name true clash = absurd (cc)
    by_name false is = is

-- all are as they were
pub reached_alike : (old new : Post) (xs : List Instance)
    → ((name : MessageName) → posted_at name new ≡ posted_at name old) → AreReached old xs → AreReached new xs
reached_alike old new xs alike = reached_fewer old new xs (λ name posted is. sym (alike name) ∙ is)

-- an instance is in the incarnation in which it was, or in a later one
abbrev pub NotEarlier : Instance → Instance → Type 0
NotEarlier x x' = x.incarnation ≤ x'.incarnation

pub reached_later : (post : Post) (xs ys : List Instance) → AreNumbered xs → AreNumbered ys
    → ((j : ℕ) → Turns j NotEarlier xs ys) → AreReached post xs → AreReached post ys
reached_later post xs ys numbered numbered' later reached name posted is y at =
    let x = exists_then name.from ys xs y numbered' numbered at in
    let before : name.incarnation ≤ x.0.incarnation = reached name posted is x.0 x.1 in
    let after : x.0.incarnation ≤ y.incarnation = later name.from x.0 y x.1 at in
    omega (arith, before, after)

-- .. where one changed alone
pub reached_at : (i : ℕ) (post : Post) (xs ys : List Instance) → AreNumbered xs → ChangesAt i xs ys
    → Turns i NotEarlier xs ys → AreReached post xs → AreReached post ys
reached_at i post xs ys numbered change later =
    reached_later post xs ys numbered change.numbered
    (turns_each NotEarlier (λ x. omega arith) i xs ys change.others later)
