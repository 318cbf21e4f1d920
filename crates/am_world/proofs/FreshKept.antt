-- Where no message is new, the sender of each that is there has still counted it.
use Rattle.std.proofs.Common.{◌≡◌, ◌⊎◌, ◌∙◌, inl, inr, ℕ, ◌≤◌, Bool, true, false, List, [], Option, None, Some}
use Rattle.std.proofs.Common.{sym, ap, subst, if◌then◌else◌}
use Rattle.std.specs.Prelude.{nat_le, ◌==◌}
use Rattle.std.proofs.lemmas.Bool.{cases_eq, ne_eqb, true≢false}
use Rattle.am_cluster.specs.Local.{Local}
use Rattle.am_messages.specs.Names.{same_name}
use Rattle.am_messages.specs.Posted.{Loses, lost_at, posted_at, unlost}
use Rattle.am_messages.specs.declared.messages.Posted.{Posted}
use Rattle.am_messages.specs.declared.name.MessageName.{MessageName}
use Rattle.am_instance.specs.Instance.{IsDown, local_in}
use Rattle.am_instance.specs.declared.instance.Instance.{Instance}
use Rattle.am_instance.specs.Site.{local_of}
use Rattle.am_world.specs.Places.{AreNumbered, At, SameElsewhere, Turns, instance_at}
use Rattle.am_world.specs.Posting.{ArePast, ArePastBut, Post}
use Rattle.am_world.proofs.AlonePlaces.{exists_then}
use Rattle.am_world.proofs.KeptQuiet.{Rests}

-- ---- messages

-- no message is there at first
pub past_none : (xs : List Instance) → ArePast [] xs
past_none xs name posted is = absurd (cc)

-- each that is there was
pub past_fewer : (old new : Post) (xs : List Instance)
    → ((name : MessageName) (posted : Posted) → posted_at name new ≡ Some posted → posted_at name old ≡ Some posted)
    → ArePast old xs → ArePast new xs
past_fewer old new xs was past name posted is = past name posted (was name posted is)

-- all are as they were
pub past_alike : (old new : Post) (xs : List Instance)
    → ((name : MessageName) → posted_at name new ≡ posted_at name old) → ArePast old xs → ArePast new xs
past_alike old new xs alike past = past_fewer old new xs (λ name posted is. sym (alike name) ∙ is) past

-- one is lost
pub past_lost : (lost : MessageName) (old new : Post) (xs : List Instance) → Loses lost old new → ArePast old xs
    → ArePast new xs
past_lost lost old new xs loses past =
    past_fewer old new xs (λ name posted is. by_name (same_name lost name) (sym (loses name) ∙ is)) past
  where
    by_name : (b : Bool) {o : Option Posted} {posted : Posted} → (if b then None else o) ≡ Some posted → o ≡ Some posted
    by_name true clash = absurd (cc)
    by_name false is = is

-- those are whose time is over
pub past_unlost : (m : ℕ) (old new : Post) (xs : List Instance)
    → ((name : MessageName) → posted_at name new ≡ unlost m (posted_at name old)) → ArePast old xs → ArePast new xs
past_unlost m old new xs left past =
    past_fewer old new xs (λ name posted is. was (posted_at name old) posted (sym (left name) ∙ is)) past
  where
    was : (o : Option Posted) (posted : Posted) → unlost m o ≡ Some posted → o ≡ Some posted
    was None posted is = is
    was (Some p) posted is = by (nat_le (lost_at p) m) is
      where
        by : (b : Bool) → (if b then None else Some p) ≡ Some posted → Some p ≡ Some posted
        by true clash = absurd (cc)
        by false same = same

-- ---- one instance changes

-- it is left out
pub past_but : (i : ℕ) (old new : Post) (xs ys : List Instance) → SameElsewhere i xs ys
    → ((name : MessageName) → posted_at name new ≡ posted_at name old) → ArePast old xs → ArePastBut i new ys
past_but i old new xs ys others alike past name posted apart is y at =
    past name posted (sym (alike name) ∙ is) y (sym (others name.from (apart_test (cases_eq name.from i))) ∙ at)
  where
    apart_test : ((name.from ≡ i) ⊎ (name.from ≡ i → ⊥)) → (name.from == i) ≡ false
    apart_test (inl same) = absurd (apart same)
    apart_test (inr other) = ne_eqb name.from i other

-- .. of all
pub past_but_any : (i : ℕ) (post : Post) (xs : List Instance) → ArePast post xs → ArePastBut i post xs
past_but_any i post xs past name posted apart is = past name posted is

-- one that is down has nothing to have counted
pub past_stopped : (i : ℕ) (post : Post) (xs ys : List Instance) → ArePastBut i post xs → At i IsDown ys
    → SameElsewhere i xs ys → ArePast post ys
past_stopped i post xs ys past down others name posted is y at up incarnation = elim (cases_eq name.from i) [
  | inl own ↦
      let here : instance_at i ys ≡ Some y = ap (λ j. instance_at j ys) (sym own) ∙ at in
      absurd (true≢false (sym up ∙ (down y here).up))
  | inr apart ↦
      past name posted apart is y (sym (others name.from (ne_eqb name.from i apart)) ∙ at) up incarnation
]

-- ---- what the instances have of tenants stays

-- what an instance has counted
abbrev pub StaysCounted : (x x' : Instance) → Type 0
StaysCounted x x' = (x'.up ≡ x.up) × (x'.incarnation ≡ x.incarnation) × ((t : List ℕ) → local_in t x' ≡ local_in t x)

pub past_counted : (post : Post) (xs ys : List Instance) → AreNumbered xs → AreNumbered ys
    → ((j : ℕ) → Turns j StaysCounted xs ys) → ArePast post xs → ArePast post ys
past_counted post xs ys numbered numbered' stays past name posted is y at up incarnation =
    let before = exists_then name.from ys xs y numbered' numbered at in
    let same = stays name.from before.0 y before.1 at in
    subst (λ (l : Local). name.count ≤ l.ledger.messages) (sym (same.2 name.tenant))
    (past name posted is before.0 before.1 (sym same.0 ∙ up) (sym same.1 ∙ incarnation))

-- where each rests, connections are opened or closed alone
pub past_still : (post : Post) (xs ys : List Instance) → AreNumbered xs → AreNumbered ys
    → ((j : ℕ) → Turns j Rests xs ys) → ArePast post xs → ArePast post ys
unfolding local_in
past_still post xs ys numbered numbered' rests past =
    past_counted post xs ys numbered numbered' (λ j x x' from to. stays x x' (rests j x x' from to)) past
  where
    stays : (x x' : Instance) → Rests x x' → StaysCounted x x'
    stays x x' rest = (rest.0.up, rest.0.incarnation, λ t. ap (local_of t) rest.1)
