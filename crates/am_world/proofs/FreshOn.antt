-- An instance counts its messages on, whichever ring it knows then: what it tells takes the place of no message that
-- was there, and loses none.
use Rattle.std.proofs.Common.{◌≡◌, ◌⊎◌, ◌∙◌, inl, inr, ℕ, ◌≤◌, ◌<◌, Bool, true, false, List, Option, None, Some, refl}
use Rattle.std.proofs.Common.{length, sym, ap, subst, arith, if◌then◌else◌}
use Rattle.std.specs.Prelude.{◌==◌}
use Rattle.std.specs.List.{list_any}
use Rattle.std.proofs.lemmas.Bool.{cases_eq, eq-eqb, ne_eqb, true≢false}
use Rattle.am_cluster.specs.Events.{Output}
use Rattle.am_cluster.specs.Moments.{last_moment}
use Rattle.am_messages.specs.Posted.{posted_at}
use Rattle.am_messages.specs.declared.messages.Posted.{Posted}
use Rattle.am_messages.specs.declared.name.MessageName.{MessageName}
use Rattle.am_instance.specs.Whole.{IsWhole}
use Rattle.am_instance.specs.declared.instance.Instance.{Instance}
use Rattle.am_world.specs.Consistent.{IsConsistent, IsConsistentBut, IsMember, IsRingInOrder, around_at, newest_in}
use Rattle.am_world.specs.Places.{At, ChangesAt, EachIs, SameElsewhere, Turns, instance_at}
use Rattle.am_world.specs.Posting.{AreFiled, ArePast, AreReached, HasCounted, HasReached, IsSamePost, LosesAll, Post}
use Rattle.am_world.specs.Posting.{Posts, is_of_name}
use Rattle.am_world.specs.Shelves.{IsQuiet}
use Rattle.am_world.specs.Simulation.{IsSameBeside}
use Rattle.am_world.specs.declared.common.Common.{Common}
use Rattle.am_world.specs.declared.state.State.{State}
use Rattle.am_world.proofs.Fresh.{CountsOn, IsNext, counted_in}
use Rattle.am_world.proofs.FreshKept.{past_but}
use Rattle.am_world.proofs.FreshPast.{told_next, was_or_next}
use Rattle.am_world.proofs.InstancesLemmas.{number_of}
use Rattle.am_world.proofs.Placed.{each_but}
use Rattle.am_world.proofs.Reached.{NotEarlier, reached_alike, reached_at}
use Rattle.am_world.proofs.Turned.{whole_at}

module _ (i : ℕ) (x x' : Instance) (told : List Output) (xs ys : List Instance) (here : instance_at i xs ≡ Some x)
    (after : instance_at i ys ≡ Some x') (elsewhere : SameElsewhere i xs ys) (same_up : x'.up ≡ x.up)
    (same : x'.incarnation ≡ x.incarnation) (on : CountsOn x x' told) (old : Post) (past : ArePast old xs)
    (reached : AreReached old xs) where
  number : x.number ≡ i
  number = number_of i xs x here

  at_its : (name : MessageName) → name.from ≡ i → instance_at name.from xs ≡ Some x
  at_its name own = ap (λ j. instance_at j xs) own ∙ here

  found_own : (name : MessageName) (y : Instance) → name.from ≡ i → instance_at name.from ys ≡ Some y → x' ≡ y
  found_own name y own at =
      let found : Some x' ≡ Some y = sym after ∙ ap (λ j. instance_at j ys) (sym own) ∙ at in
      cc

  either : (moment : ℕ) (new : Post) → Posts moment told old new → (name : MessageName) (posted : Posted)
      → posted_at name new ≡ Some posted → (posted_at name old ≡ Some posted) ⊎ IsNext x x' name
  either moment new posts name posted is =
      was_or_next x x' moment told name (posted_at name old) posted on.next (sym (posts name) ∙ is)

  of_others : (name : MessageName) (posted : Posted) → (name.from == i) ≡ false
      → (posted_at name old ≡ Some posted) ⊎ IsNext x x' name → posted_at name old ≡ Some posted
  of_others name posted apart (inl was) = was
  of_others name posted apart (inr next) =
      absurd (true≢false (sym (eq-eqb name.from i (next.from ∙ number)) ∙ apart))

  own_counted : (name : MessageName) (posted : Posted) → name.from ≡ i
      → (posted_at name old ≡ Some posted) ⊎ IsNext x x' name → HasCounted name x'
  own_counted name posted own (inl was) up incarnation =
      let before : name.count ≤ counted_in name.tenant x =
      past name posted was x (at_its name own) (sym same_up ∙ up) (sym same ∙ incarnation) in
      let grows : counted_in name.tenant x ≤ counted_in name.tenant x' = on.grows name.tenant in
      omega (arith, before, grows)
  own_counted name posted own (inr next) up incarnation = next.counted

  own_reached : (name : MessageName) (posted : Posted) → name.from ≡ i
      → (posted_at name old ≡ Some posted) ⊎ IsNext x x' name → HasReached name x'
  own_reached name posted own (inl was) =
      let before : name.incarnation ≤ x.incarnation = reached name posted was x (at_its name own) in
      omega (arith, before, same)
  own_reached name posted own (inr next) =
      let its : name.incarnation ≡ x.incarnation = next.incarnation in
      omega (arith, its, same)

  pub past_on : (moment : ℕ) (new : Post) → Posts moment told old new → ArePast new ys
  past_on moment new posts name posted is y at = elim (cases_eq name.from i) [
    | inl own ↦
        subst (HasCounted name) (found_own name y own at)
        (own_counted name posted own (either moment new posts name posted is))
    | inr apart ↦
        let other : (name.from == i) ≡ false = ne_eqb name.from i apart in
        past name posted (of_others name posted other (either moment new posts name posted is)) y
        (sym (elsewhere name.from other) ∙ at)
  ]

  pub reached_on : (moment : ℕ) (new : Post) → Posts moment told old new → AreReached new ys
  reached_on moment new posts name posted is y at = elim (cases_eq name.from i) [
    | inl own ↦
        subst (HasReached name) (found_own name y own at)
        (own_reached name posted own (either moment new posts name posted is))
    | inr apart ↦
        let other : (name.from == i) ≡ false = ne_eqb name.from i apart in
        reached name posted (of_others name posted other (either moment new posts name posted is)) y
        (sym (elsewhere name.from other) ∙ at)
  ]

  never_next : x.up ≡ true → (name : MessageName) (posted : Posted) → posted_at name old ≡ Some posted
      → IsNext x x' name → ⊥
  never_next up name posted was next =
      let before : name.count ≤ counted_in name.tenant x =
      past name posted was x (at_its name (next.from ∙ number)) up (sym next.incarnation) in
      let above : counted_in name.tenant x < name.count = next.above in
      omega (arith, before, above)

  -- none is lost with them
  pub lost_none_on : x.up ≡ true → (new : Post) → LosesAll told old new → IsSamePost old new
  lost_none_on up new loses name = loses name ∙ by_old (posted_at name old) refl
    where
      gone_or : Bool → Option Posted → Option Posted
      gone_or b o = if b then None else o

      none_either : (b : Bool) → gone_or b None ≡ None
      none_either true = refl
      none_either false = refl

      by_old : (o : Option Posted) → posted_at name old ≡ o
          → gone_or (list_any (is_of_name name) told) (posted_at name old) ≡ posted_at name old
      by_old None none =
          ap (gone_or (list_any (is_of_name name) told)) none ∙ none_either (list_any (is_of_name name) told) ∙ sym none
      by_old (Some posted) was =
          ap (λ b. gone_or b (posted_at name old)) (told_next x x' told name on.next (never_next up name posted was))

-- ---- a world stays consistent but for one, which may know another ring

module _ (i : ℕ) (w w' : State) (was : IsConsistent w) (changes : ChangesAt i w.instances w'.instances)
    (beside : IsSameBeside w w') (filed : AreFiled w'.messages) where
  each_whole : EachIs (IsWhole (around_at w'.clock w')) w.instances
  each_whole j x found =
      whole_at (around_at w.clock w) (around_at w'.clock w') x (ap (λ (c : Common). c.rings.items) beside.common)
      (ap (λ (c : Common). c.first) beside.common) (was.whole j x found)

  each_member : EachIs (IsMember (newest_in w'.common)) w.instances
  each_member = subst (λ (c : Common). EachIs (IsMember (newest_in c)) w.instances) (sym beside.common) was.members

  pub consistent_knowing : At i (λ x. x.known < length w'.common.rings.items) w'.instances
      → Turns i NotEarlier w.instances w'.instances → IsSamePost w.messages w'.messages → IsConsistentBut i w'
  consistent_knowing known later alike = record {
    clock = subst (λ n. n ≤ last_moment) (sym beside.clock) was.clock;
    numbered = changes.numbered;
    whole = each_but (IsWhole (around_at w'.clock w')) i w.instances w'.instances changes.others each_whole;
    quiet = each_but IsQuiet i w.instances w'.instances changes.others was.quiet;
    known = known;
    ring = subst (λ (c : Common). IsRingInOrder (newest_in c)) (sym beside.common) was.ring;
    members = each_but (IsMember (newest_in w'.common)) i w.instances w'.instances changes.others each_member;
    filed = filed;
    past = past_but i w.messages w'.messages w.instances w'.instances changes.others alike was.past;
    fresh = reached_alike w.messages w'.messages w'.instances alike
        (reached_at i w.messages w.instances w'.instances was.numbered changes later was.fresh);
  }
